-- The comments of a text: how they are written, and that they are skipped when it is read.
use Rattle.std.proofs.Common.{◌≡◌, ℕ, ◌+◌, ◌≤◌, ◌<◌, ◌^◌, ◌==◌, Bool, true, false, cond, List, [], ◌∷◌, ◌++◌, length, map, refl, sym, ap, subst, ◌∙◌, arith, append_assoc, true≢false}
use Rattle.std.specs.Prelude.{codes, decimal}
use Rattle.std.proofs.lemmas.List.{append-nil}
use Rattle.std.specs.List.{flat_map, join_with_byte, AllByRecursion}
use Rattle.kn_logic.specs.Formulas.{Problem}
use Rattle.kn_text.specs.Lines.{Line, line_text, lines_of, words_of, is_skipped, content_from, content_of, unless_skipped, IsPlain, IsPlainLine}
use Rattle.kn_format.specs.declared.format.Format.{Format}
use Rattle.kn_format.specs.Grammar.{Spells, SpellsBy, SpellConstraints, IsTail, words_in}
use Rattle.kn_store.proofs.Public.{all-one}
use Rattle.kn_extract.specs.Extractions.{Found}
use Rattle.kn_extract.specs.Structure.{IsOver}
use Rattle.kn_extract.specs.Kept.{Took, found_of}
use Rattle.kn_extract.specs.Texts.{spaced, group_line}

-- words behind a word
join-behind : (word : List ℕ) (numbers : List ℕ) → join_with_byte 32 (word ∷ map decimal numbers) ≡ word ++ flat_map spaced numbers
join-behind word [] = sym (append-nil word)
join-behind word (n ∷ numbers) = ap (λ z. word ++ (32 ∷ z)) (join-behind (decimal n) numbers)

pub comment : (v : ℕ) (vs : List ℕ) → group_line (v ∷ vs) ≡ codes "c group" ++ (flat_map spaced (v ∷ vs) ++ 10 ∷ [])
comment v vs =
    ap (λ z. (codes "c " ++ z) ++ 10 ∷ []) (join-behind (codes "group") (v ∷ vs))
    ∙ append_assoc (codes "c group") (flat_map spaced (v ∷ vs)) (10 ∷ [])

pub comment-of : (aux : List ℕ) → false ≡ (length aux == 0) → group_line aux ≡ codes "c group" ++ (flat_map spaced aux ++ 10 ∷ [])
comment-of [] e = absurd (true≢false (sym e))
comment-of (v ∷ vs) e = comment v vs

-- what is written piece by piece
pub pieces : (out a b c new1 new2 new3 : List ℕ) → new1 ≡ out ++ a → new2 ≡ new1 ++ b → new3 ≡ new2 ++ c → new3 ≡ out ++ (a ++ (b ++ c))
pieces out a b c new1 new2 new3 e f g =
    g ∙ ap (λ z. z ++ c) (f ∙ ap (λ z. z ++ b) e) ∙ ap (λ z. z ++ c) (append_assoc out a b) ∙ append_assoc out (a ++ b) c ∙ ap (λ z. out ++ z) (append_assoc a b c)

-- ---- a comment before a text changes nothing of the formula that it spells

abbrev pub IsRead : Type 0
IsRead = (number : ℕ) (words : List (List ℕ)) (rest : List ℕ) → IsPlainLine words → content_from number (lines_of (line_text words ++ rest)) ≡ unless_skipped number words (content_from (number + 1) (lines_of rest))

abbrev pub ArePlain : Type 0
ArePlain = (n : ℕ) → n < 2 ^ 64 → IsPlain (decimal n)

abbrev later : Line → Line
later line = record { number = line.number + 1; words = line.words }

unless-later : (number : ℕ) (words : List (List ℕ)) (others : List Line) → unless_skipped (number + 1) words (map later others) ≡ map later (unless_skipped number words others)
unless-later number words others = at (is_skipped words)
  where
    at : (t : Bool) → cond t (map later others) (record { number = number + 1; words = words } ∷ map later others) ≡ map later (cond t others (record { number = number; words = words } ∷ others))
    at true = refl
    at false = refl

content-later : (number : ℕ) (lines : List (List ℕ)) → content_from (number + 1) lines ≡ map later (content_from number lines)
content-later number [] = refl
content-later number (line ∷ lines) =
    ap (unless_skipped (number + 1) (words_of line)) (content-later (number + 1) lines)
    ∙ unless-later number (words_of line) (content_from (number + 1) lines)

later-words : (lines : List Line) → words_in (map later lines) ≡ words_in lines
later-words [] = refl
later-words (line ∷ lines) = ap (λ z. line.words ++ z) (later-words lines)

later-tail : (lines : List Line) → IsTail lines → IsTail (map later lines)
later-tail [] h = h
later-tail (line ∷ lines) h = h

map-append : {X Y : Type 0} (f : X → Y) (xs ys : List X) → map f (xs ++ ys) ≡ map f xs ++ map f ys
map-append f [] ys = refl
map-append f (x ∷ xs) ys = ap (λ z. f x ∷ z) (map-append f xs ys)

spells-later : (f : Problem) (lines : List Line) (format : Format) (problem : Line) (body tail : List Line) → SpellsBy lines format problem body tail f → SpellsBy (map later lines) format (later problem) (map later body) (map later tail) f
spells-later f lines format problem body tail h = record {
  parts = ap (map later) h.parts ∙ ap (λ z. later problem ∷ z) (map-append later body tail);
  header = h.header;
  constraints = subst (λ z. SpellConstraints format z f.constraints) (sym (later-words body)) h.constraints;
  ending = later-tail tail h.ending;
  vars = h.vars;
  count = h.count;
  formula = h.formula;
}

numbers-plain : ArePlain → (numbers : List ℕ) → AllByRecursion (λ n. n < 2 ^ 64) numbers → IsPlainLine (map decimal numbers)
numbers-plain plain [] h = tt
numbers-plain plain (n ∷ numbers) h = (plain n h.0, numbers-plain plain numbers h.1)

letters-plain : IsPlain (codes "c") × IsPlain (codes "group")
letters-plain = (
  (omega arith, ((refl, refl), tt)),
  (omega arith, ((refl, refl), ((refl, refl), ((refl, refl), ((refl, refl), ((refl, refl), tt)))))),
)

spells-behind : IsRead → ArePlain → (aux rest : List ℕ) (f : Problem) → AllByRecursion (λ n. n < 2 ^ 64) aux → Spells rest f → Spells (group_line aux ++ rest) f
spells-behind read plain [] rest f h s = s
spells-behind read plain (v ∷ vs) rest f h (format, problem, body, tail, s) =
    let words = codes "c" ∷ codes "group" ∷ map decimal (v ∷ vs) in
    let lines : content_of (group_line (v ∷ vs) ++ rest) ≡ map later (content_of rest) =
    read 1 words rest (letters-plain.0, (letters-plain.1, numbers-plain plain (v ∷ vs) h)) ∙ content-later 1 (lines_of rest) in (
      format,
      later problem,
      map later body,
      map later tail,
      subst (λ z. SpellsBy z format (later problem) (map later body) (map later tail) f) (sym lines) (spells-later f (content_of rest) format problem body tail s),
    )

-- the comments of groups whose variables are numbers of 64 bits
pub spells-groups : IsRead → ArePlain → (vars : ℕ) (found : List Found) (rest : List ℕ) (f : Problem) → vars < 2 ^ 64 → AllByRecursion (λ x. IsOver vars x.group) found → Spells rest f
    → Spells (flat_map (λ x. group_line x.group.aux) found ++ rest) f
spells-groups read plain vars [] rest f low h s = s
spells-groups read plain vars (x ∷ found) rest f low h s =
    subst (λ z. Spells z f) (sym (append_assoc (group_line x.group.aux) (flat_map (λ x. group_line x.group.aux) found) rest))
    (spells-behind read plain x.group.aux (flat_map (λ x. group_line x.group.aux) found ++ rest) f
    (all-one (λ v. (1 ≤ v) × (v ≤ vars)) (λ v. v < 2 ^ 64) (λ v k. omega (arith, k.1, low)) x.group.aux h.0.aux)
    (spells-groups read plain vars found rest f low h.1 s))

pub groups-found : (taken : List Took) → flat_map (λ x. group_line x.group.aux) (map found_of taken) ≡ flat_map (λ t. group_line t.group.aux) taken
groups-found [] = refl
groups-found (t ∷ taken) = ap (λ z. group_line t.group.aux ++ z) (groups-found taken)
