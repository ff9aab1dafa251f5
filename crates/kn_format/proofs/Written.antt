-- Words as they are written one after another, each with a space behind it.
use Rattle.std.proofs.Common.{◌≡◌, ℕ, zero, suc, ◌-◌, ◌<◌, List, [], ◌∷◌, ◌++◌, map, Option, Some, None, refl, sym, ap, ◌∙◌, append_assoc, arith}
use Rattle.std.specs.Prelude.{codes, decimal}
use Rattle.std.specs.List.{flat_map, join_with_byte}
use Rattle.kn_logic.specs.Literals.{Literal}
use Rattle.kn_text.specs.Lines.{line_text}
use Rattle.kn_text.specs.Numbers.{literal_word}
use Rattle.kn_format.specs.Writing.{spaced, mark_text}
use Rattle.kn_format.specs.Texts.{list_words, mark_words, value_lines}

joined_before : (word : List ℕ) (words : List (List ℕ)) (last : List ℕ) → join_with_byte 32 (word ∷ (words ++ last ∷ [])) ≡ word ++ 32 ∷ join_with_byte 32 (words ++ last ∷ [])
joined_before word [] last = refl
joined_before word (next ∷ words) last = refl

joined_list : (lits : List Literal) → join_with_byte 32 (list_words lits) ≡ flat_map spaced lits ++ codes "0"
joined_list [] = refl
joined_list (l ∷ lits) =
    joined_before (literal_word l) (map literal_word lits) (codes "0")
    ∙ ap (λ t. literal_word l ++ 32 ∷ t) (joined_list lits)
    ∙ sym (append_assoc (literal_word l) (32 ∷ []) (flat_map spaced lits ++ codes "0"))
    ∙ sym (append_assoc (spaced l) (flat_map spaced lits) (codes "0"))

-- a list as a line
pub list_line : (lits : List Literal) → line_text (list_words lits) ≡ flat_map spaced lits ++ codes "0\n"
list_line lits = ap (λ t. t ++ 10 ∷ []) (joined_list lits) ∙ append_assoc (flat_map spaced lits) (codes "0") (10 ∷ [])

before_list : (word : List ℕ) (lits : List Literal) → line_text (word ∷ list_words lits) ≡ word ++ 32 ∷ line_text (list_words lits)
before_list word lits =
    ap (λ t. t ++ 10 ∷ []) (joined_before word (map literal_word lits) (codes "0"))
    ∙ append_assoc word (32 ∷ join_with_byte 32 (list_words lits)) (10 ∷ [])

-- a klause as a line
pub mark_line : (guard : Option Literal) (bound : ℕ) (lits : List Literal) → line_text (mark_words guard bound ++ list_words lits) ≡ mark_text guard bound ++ line_text (list_words lits)
mark_line None bound lits =
    ap (λ t. codes "k " ++ t) (before_list (decimal bound) lits ∙ sym (append_assoc (decimal bound) (32 ∷ []) (line_text (list_words lits))))
mark_line (Some guard) bound lits =
    ap (λ t. codes "q " ++ t) (append_assoc (literal_word guard) (32 ∷ join_with_byte 32 (decimal bound ∷ list_words lits)) (10 ∷ []))
    ∙ ap (λ t. codes "q " ++ (literal_word guard ++ 32 ∷ t)) (before_list (decimal bound) lits ∙ sym (append_assoc (decimal bound) (32 ∷ []) (line_text (list_words lits))))
    ∙ ap (λ t. codes "q " ++ t) (sym (append_assoc (literal_word guard) (32 ∷ (decimal bound ++ 32 ∷ [])) (line_text (list_words lits))))

pub room_before : (room : ℕ) (word : List ℕ) (words : List (List ℕ)) → 0 < room → value_lines room (word ∷ words) ≡ 32 ∷ (word ++ value_lines (room - 1) words)
room_before zero word words h = absurd (omega (arith, h))
room_before (suc room) word words h = let e : suc room - 1 ≡ room = omega arith in rw e refl

pub last_value : (room : ℕ) → value_lines room [] ≡ 10 ∷ []
last_value zero = refl
last_value (suc room) = refl

pub list_written : (out mid new : List ℕ) (lits : List Literal) → mid ≡ out ++ flat_map spaced lits → new ≡ mid ++ codes "0\n" → new ≡ out ++ line_text (list_words lits)
list_written out mid new lits first last =
    last ∙ ap (λ t. t ++ codes "0\n") first ∙ append_assoc out (flat_map spaced lits) (codes "0\n") ∙ ap (λ t. out ++ t) (sym (list_line lits))

pub klause_written : (out mid new : List ℕ) (guard g : Option Literal) (bound b : ℕ) (lits ls : List Literal) → g ≡ guard → b ≡ bound → ls ≡ lits
    → mid ≡ out ++ mark_text g b → new ≡ mid ++ line_text (list_words ls) → new ≡ out ++ line_text (mark_words guard bound ++ list_words lits)
klause_written out mid new guard g bound b lits ls guards bounds lists first last =
    last
    ∙ ap (λ t. t ++ line_text (list_words ls)) first
    ∙ append_assoc out (mark_text g b) (line_text (list_words ls))
    ∙ ap (λ t. out ++ t) (sym (mark_line g b ls))
    ∙ ap (λ h. out ++ line_text (mark_words h b ++ list_words ls)) guards
    ∙ ap (λ n. out ++ line_text (mark_words guard n ++ list_words ls)) bounds
    ∙ ap (λ xs. out ++ line_text (mark_words guard bound ++ list_words xs)) lists
