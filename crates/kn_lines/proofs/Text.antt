-- What is written piece by piece is the text of the line's words.
use Rattle.std.proofs.Common.{◌≡◌, ℕ, List, [], ◌∷◌, ◌++◌, map, codes, decimal, refl, sym, ap, ◌∙◌, append_assoc}
use Rattle.std.specs.List.{flat_map, join_with_byte}
use Rattle.std.proofs.lemmas.List.{append-nil}
use Rattle.std.proofs.lemmas.List.Concat.{flat_map-append}
use Rattle.std.proofs.lemmas.List.Folds.{flat_map-map}
use Rattle.kn_logic.specs.Literals.{Literal}
use Rattle.kn_text.specs.Lines.{line_text}
use Rattle.kn_text.specs.Numbers.{literal_word}
use Rattle.kn_lines.specs.declared.line.Arm.{Arm}
use Rattle.kn_lines.specs.declared.line.Line.{Line}
use Rattle.kn_lines.specs.declared.line.Line.TheVariants.{Header, Define, Lemma, Learned, Klause, Unfold, Delete}
use Rattle.kn_lines.specs.Lines.{ended_by_zero, arm_word, line_words}
use Rattle.kn_lines.specs.Writing.{spaced, literals_text, ids_text, definition_text, derived_text, pair_text, klause_text, delete_text, content_text}

joined : (words : List (List ℕ)) (word : List ℕ) → join_with_byte 32 (word ∷ words) ≡ word ++ flat_map spaced words
joined [] word = sym (append-nil word)
joined (next ∷ words) word = ap (λ t. word ++ 32 ∷ t) (joined words next)

ended_text : {A : Type 0} (word_of : A → List ℕ) (xs : List A) → flat_map spaced (ended_by_zero (map word_of xs)) ≡ flat_map (λ x. spaced (word_of x)) xs ++ codes " 0"
ended_text word_of xs = flat_map-append spaced (map word_of xs) (codes "0" ∷ []) ∙ ap (λ t. t ++ codes " 0") (flat_map-map spaced word_of xs)

definition_is : (x : Literal) (high low : Arm) → definition_text x high low ≡ join_with_byte 32 (codes "d" ∷ literal_word x ∷ arm_word high ∷ arm_word low ∷ [])
definition_is x high low = ap (λ t. codes "d " ++ t) (append_assoc (literal_word x) (spaced (arm_word high)) (spaced (arm_word low)))

derived_is : (first : List ℕ) (lits : List Literal) (hints : List ℕ) → derived_text first lits hints ≡ join_with_byte 32 (first ∷ (ended_by_zero (map literal_word lits) ++ ended_by_zero (map decimal hints)))
derived_is first lits hints =
    let front : List (List ℕ) = ended_by_zero (map literal_word lits) in
    let behind : List (List ℕ) = ended_by_zero (map decimal hints) in
    sym (joined (front ++ behind) first
    ∙ ap (λ t. first ++ t) (flat_map-append spaced front behind)
    ∙ ap (λ t. first ++ (t ++ flat_map spaced behind)) (ended_text literal_word lits)
    ∙ ap (λ t. first ++ (literals_text lits ++ t)) (ended_text decimal hints)
    ∙ sym (append_assoc first (literals_text lits) (ids_text hints)))

pair_is : (a b : ℕ) → flat_map spaced (decimal a ∷ decimal b ∷ []) ≡ pair_text a b
pair_is a b = ap (λ t. spaced (decimal a) ++ t) (append-nil (spaced (decimal b)))

klause_is : (bound : ℕ) (lits : List Literal) (root unit : ℕ) → klause_text bound lits root unit ≡ join_with_byte 32 (codes "k" ∷ decimal bound ∷ (ended_by_zero (map literal_word lits) ++ decimal root ∷ decimal unit ∷ []))
klause_is bound lits root unit =
    let front : List (List ℕ) = ended_by_zero (map literal_word lits) in
    let behind : List (List ℕ) = decimal root ∷ decimal unit ∷ [] in
    let first : List ℕ = codes "k " ++ decimal bound in
    sym (joined (decimal bound ∷ (front ++ behind)) (codes "k")
    ∙ ap (λ t. first ++ t) (flat_map-append spaced front behind)
    ∙ ap (λ t. first ++ (t ++ flat_map spaced behind)) (ended_text literal_word lits)
    ∙ ap (λ t. first ++ (literals_text lits ++ t)) (pair_is root unit)
    ∙ sym (append_assoc first (literals_text lits) (pair_text root unit)))

delete_is : (ids : List ℕ) → delete_text ids ≡ join_with_byte 32 (codes "x" ∷ ended_by_zero (map decimal ids))
delete_is ids = sym (joined (ended_by_zero (map decimal ids)) (codes "x") ∙ ap (λ t. codes "x" ++ t) (ended_text decimal ids))

content_is : (line : Line) → content_text line ≡ join_with_byte 32 (line_words line)
content_is (Header vars constraints) = refl
content_is (Define x high low) = definition_is x high low
content_is (Lemma c hints) = derived_is (codes "r") c.lits hints
content_is (Learned c hints) = derived_is (codes "l") c.lits hints
content_is (Klause c root unit) = klause_is c.bound c.lits root unit
content_is (Unfold id root) = refl
content_is (Delete ids) = delete_is ids

-- a line's text behind others
pub written_behind : (before : List ℕ) (line : Line) → (before ++ content_text line) ++ 10 ∷ [] ≡ before ++ line_text (line_words line)
written_behind before line = append_assoc before (content_text line) (10 ∷ []) ∙ ap (λ t. before ++ (t ++ 10 ∷ [])) (content_is line)
