-- A line is spelled by words exactly where it is read from them.
use Rattle.std.proofs.Common.{◌≡◌, ◌≤◌, ℕ, ◌==◌, Bool, true, false, if◌then◌else◌, List, [], ◌∷◌, ◌++◌, Option, Some, None, codes, refl, sym, ap, subst, ◌∙◌, append_assoc, arith}
use Rattle.std.specs.Option.{option_map, option_and_then, option_map_or}
use Rattle.std.specs.Str.{bytes_eq}
use Rattle.std.proofs.lemmas.List.{append-nil}
use Rattle.std.proofs.lemmas.Bool.{eqb-false, ne_eqb}
use Rattle.std.proofs.lemmas.Slice.Eq.{bytes_eq-Decides}
use Rattle.kn_logic.specs.Literals.{Literal}
use Rattle.kn_text.specs.Lines.{is_skipped}
use Rattle.kn_text.specs.Numbers.{number_of, literal_of, is_end, is_zero}
use Rattle.kn_text.proofs.Public.{literal_is_no_end}
use Rattle.kn_text.specs.Lists.{LiteralsThen}
use Rattle.kn_logic.specs.Constraints.{Bounded, klause}
use Rattle.kn_lines.specs.declared.line.Arm.{Arm}
use Rattle.kn_lines.specs.declared.line.Arm.TheVariants.{True, False, Lit}
use Rattle.kn_lines.specs.declared.line.Line.{Line}
use Rattle.kn_lines.specs.declared.line.Line.TheVariants.{Header, Define, Lemma, Learned, Klause, Unfold, Delete}
use Rattle.kn_lines.specs.Lines.{SpellIds, SpellsHeader, SpellsArm, SpellsDefinition, SpellPair, SpellsKlause, SpellsWords, AreIds, IsWellFormed}
use Rattle.kn_lines.specs.Reading.{if_ended, literals_behind, if_last, ids_behind, header_of, arm_of, definition_of, derived, derived_of, positive_of, pair_of, klause_of, unfolding_of, delete_of, line_of}

is_positive : (n : ℕ) → (n == 0) ≡ false → 1 ≤ n
is_positive n e = omega (arith, eqb-false n 0 e)

positive_is : (n : ℕ) → 1 ≤ n → (n == 0) ≡ false
positive_is n h = ne_eqb n 0 (λ e. omega arith)

-- ids

ids_end-at : (ids : List ℕ) (word : List ℕ) (o : Option ℕ) → number_of word ≡ o → is_zero o ≡ true → ids_behind ids (word ∷ []) ≡ Some ids
ids_end-at ids word None e h = absurd cc
ids_end-at ids word (Some n) e h = rw e (rw h refl)

ids_more : (ids : List ℕ) (words : List (List ℕ)) (word : List ℕ) (id : ℕ) → number_of word ≡ Some id → 1 ≤ id → ids_behind ids (word ∷ words) ≡ ids_behind (ids ++ id ∷ []) words
ids_more ids words word id n h = rw n (rw (positive_is id h) refl)

spelled_ids : (words : List (List ℕ)) (before ids : List ℕ) → SpellIds words ids → ids_behind before words ≡ Some (before ++ ids)
spelled_ids [] before ids h = absurd h
spelled_ids (word ∷ words) before [] h = rw h.1 (rw append-nil (ids_end-at before word (number_of word) refl h.0))
spelled_ids (word ∷ words) before (id ∷ ids) h = ids_more before words word id h.0 h.1 ∙ spelled_ids words (before ++ id ∷ []) ids h.2 ∙ ap (λ i. Some i) (append_assoc before (id ∷ []) ids)

abbrev ReadsIds : List (List ℕ) → List ℕ → List ℕ → Type 0
ReadsIds words before out = (ids : List ℕ) × (out ≡ before ++ ids) × SpellIds words ids

read_ids-last : (words : List (List ℕ)) (word : List ℕ) (before out : List ℕ) (n : ℕ) → number_of word ≡ Some n → (n == 0) ≡ true → if_last before words ≡ Some out → ReadsIds (word ∷ words) before out
read_ids-last [] word before out n e z h = let end : is_end word ≡ true = ap is_zero e ∙ z in let same : out ≡ before ++ [] = rw append-nil cc in ([], same, (end, refl))
read_ids-last (_ ∷ _) word before out n e z h = absurd cc

read_ids-more : (words : List (List ℕ)) (word : List ℕ) (before out : List ℕ) (n : ℕ) → number_of word ≡ Some n → 1 ≤ n → ReadsIds words (before ++ n ∷ []) out → ReadsIds (word ∷ words) before out
read_ids-more words word before out n e one more = (n ∷ more.0, more.1 ∙ append_assoc before (n ∷ []) more.0, (e, one, more.2))

read_ids-at : (words : List (List ℕ)) (word : List ℕ) (before out : List ℕ) (n : ℕ) (t : Bool) → number_of word ≡ Some n → (n == 0) ≡ t → ((b : List ℕ) → ids_behind b words ≡ Some out → ReadsIds words b out) → (if t then if_last before words else ids_behind (before ++ n ∷ []) words) ≡ Some out → ReadsIds (word ∷ words) before out
read_ids-at words word before out n true e z more h = read_ids-last words word before out n e z h
read_ids-at words word before out n false e z more h = read_ids-more words word before out n e (is_positive n z) (more (before ++ n ∷ []) h)

read_ids-number : (words : List (List ℕ)) (word : List ℕ) (before out : List ℕ) (o : Option ℕ) → number_of word ≡ o → ((b : List ℕ) → ids_behind b words ≡ Some out → ReadsIds words b out) → option_and_then (λ id. if id == 0 then if_last before words else ids_behind (before ++ id ∷ []) words) o ≡ Some out → ReadsIds (word ∷ words) before out
read_ids-number words word before out None e more h = absurd cc
read_ids-number words word before out (Some n) e more h = read_ids-at words word before out n (n == 0) e refl more h

read_ids : (words : List (List ℕ)) (before out : List ℕ) → ids_behind before words ≡ Some out → ReadsIds words before out
read_ids [] before out h = absurd cc
read_ids (word ∷ words) before out h = read_ids-number words word before out (number_of word) refl (λ b. read_ids words b out) h

spelled_are_ids : (words : List (List ℕ)) (ids : List ℕ) → SpellIds words ids → AreIds ids
spelled_are_ids [] ids h = absurd h
spelled_are_ids (word ∷ words) [] h = tt
spelled_are_ids (word ∷ words) (id ∷ ids) h = (h.1, spelled_are_ids words ids h.2)

-- literals

end_is_none-at : (word : List ℕ) (o : Option Literal) → literal_of word ≡ o → is_end word ≡ true → literal_of word ≡ None
end_is_none-at word None e h = e
end_is_none-at word (Some l) e h = let last : is_end word ≡ false = literal_is_no_end word l e in absurd cc

end_is_none : (word : List ℕ) → is_end word ≡ true → literal_of word ≡ None
end_is_none word h = end_is_none-at word (literal_of word) refl h

abbrev pub Behind : Type 1
Behind = List (List ℕ) → Type 0

abbrev SpelledLiterals : Behind → List (List ℕ) → List Literal → List Literal → Type 0
SpelledLiterals behind words before lits = (rest : List (List ℕ)) × (literals_behind before words ≡ Some (before ++ lits, rest)) × behind rest

spelled_literals-end : (words : List (List ℕ)) (word : List ℕ) (before : List Literal) → is_end word ≡ true → literals_behind before (word ∷ words) ≡ Some (before ++ [], words)
spelled_literals-end words word before h = rw (end_is_none word h) (rw h (rw append-nil refl))

spelled_literals-more : (behind : Behind) (words : List (List ℕ)) (word : List ℕ) (before lits : List Literal) (l : Literal) → literal_of word ≡ Some l → SpelledLiterals behind words (before ++ l ∷ []) lits → SpelledLiterals behind (word ∷ words) before (l ∷ lits)
spelled_literals-more behind words word before lits l e more =
    let step : literals_behind before (word ∷ words) ≡ literals_behind (before ++ l ∷ []) words = rw e refl in
    (more.0, step ∙ more.1 ∙ ap (λ ls. Some (ls, more.0)) (append_assoc before (l ∷ []) lits), more.2)

spelled_literals : (behind : Behind) (words : List (List ℕ)) (before lits : List Literal) → LiteralsThen behind words lits → SpelledLiterals behind words before lits
spelled_literals behind [] before lits h = absurd h
spelled_literals behind (word ∷ words) before [] h = (words, spelled_literals-end words word before h.0, h.1)
spelled_literals behind (word ∷ words) before (l ∷ lits) h = spelled_literals-more behind words word before lits l h.0 (spelled_literals behind words (before ++ l ∷ []) lits h.1)

abbrev ReadsLiterals : Behind → List (List ℕ) → List Literal → List Literal → Type 0
ReadsLiterals behind words before out = (lits : List Literal) × (out ≡ before ++ lits) × LiteralsThen behind words lits

abbrev Front : Type 0
Front = List Literal × List (List ℕ)

front_is : (a b : Front) → Some a ≡ Some b → a ≡ b
front_is a b e = cc

read_literals-end : (behind : Behind) (words rest : List (List ℕ)) (word : List ℕ) (before out : List Literal) (t : Bool) → is_end word ≡ t → behind rest → if_ended t before words ≡ Some (out, rest) → ReadsLiterals behind (word ∷ words) before out
read_literals-end behind words rest word before out true e s h =
    let front : Front = (out, rest) in
    let here : Front = (before, words) in
    let both : front ≡ here = front_is front here (sym h) in
    let same : out ≡ before = ap (λ (f : Front). f.0) both in
    let last : rest ≡ words = ap (λ (f : Front). f.1) both in
    ([], same ∙ sym (append-nil before), (e, subst behind last s))
read_literals-end behind words rest word before out false e s h = absurd cc

read_literals-at : (behind : Behind) (words rest : List (List ℕ)) (word : List ℕ) (before out : List Literal) (o : Option Literal) → literal_of word ≡ o → ((b : List Literal) → literals_behind b words ≡ Some (out, rest) → ReadsLiterals behind words b out) → behind rest → option_map_or (λ l. literals_behind (before ++ l ∷ []) words) o (if_ended (is_end word) before words) ≡ Some (out, rest) → ReadsLiterals behind (word ∷ words) before out
read_literals-at behind words rest word before out None e more s h = read_literals-end behind words rest word before out (is_end word) refl s h
read_literals-at behind words rest word before out (Some l) e more s h =
    let found : ReadsLiterals behind words (before ++ l ∷ []) out = more (before ++ l ∷ []) h in
    (l ∷ found.0, found.1 ∙ append_assoc before (l ∷ []) found.0, (e, found.2))

read_literals : (behind : Behind) (words rest : List (List ℕ)) (before out : List Literal) → behind rest → literals_behind before words ≡ Some (out, rest) → ReadsLiterals behind words before out
read_literals behind [] rest before out s h = absurd cc
read_literals behind (word ∷ words) rest before out s h = read_literals-at behind words rest word before out (literal_of word) refl (λ b. read_literals behind words rest b out s) s h

abbrev pub ThenIds : List (List ℕ) → List Literal → List ℕ → Type 0
ThenIds words lits hints = LiteralsThen (λ behind. SpellIds behind hints) words lits

then_are_ids : (words : List (List ℕ)) (lits : List Literal) (hints : List ℕ) → ThenIds words lits hints → AreIds hints
then_are_ids [] lits hints h = absurd h
then_are_ids (word ∷ words) [] hints h = spelled_are_ids words hints h.1
then_are_ids (word ∷ words) (l ∷ lits) hints h = then_are_ids words lits hints h.1

-- arms

spelled_literal-at : (word : List ℕ) (l : Literal) (t u : Bool) → bytes_eq word (codes "T") ≡ t → bytes_eq word (codes "F") ≡ u → literal_of word ≡ Some l → (if t then Some True else if u then Some False else option_map (λ k. Lit k) (literal_of word)) ≡ Some (Lit l)
spelled_literal-at word l true u e f h = let none : literal_of word ≡ None = ap literal_of ((bytes_eq-Decides word (codes "T")).0 e) in absurd cc
spelled_literal-at word l false true e f h = let none : literal_of word ≡ None = ap literal_of ((bytes_eq-Decides word (codes "F")).0 f) in absurd cc
spelled_literal-at word l false false e f h = rw h refl

spelled_arm : (word : List ℕ) (arm : Arm) → SpellsArm word arm → arm_of word ≡ Some arm
spelled_arm word True h = ap arm_of h
spelled_arm word False h = ap arm_of h
spelled_arm word (Lit l) h = spelled_literal-at word l (bytes_eq word (codes "T")) (bytes_eq word (codes "F")) refl refl h

read_arm-literal : (word : List ℕ) (arm : Arm) (o : Option Literal) → literal_of word ≡ o → option_map (λ l. Lit l) o ≡ Some arm → SpellsArm word arm
read_arm-literal word arm None e h = absurd cc
read_arm-literal word arm (Some l) e h = let same : Lit l ≡ arm = cc in subst (λ a. SpellsArm word a) same e

read_arm-F : (word : List ℕ) (arm : Arm) (t : Bool) → bytes_eq word (codes "F") ≡ t → (if t then Some False else option_map (λ l. Lit l) (literal_of word)) ≡ Some arm → SpellsArm word arm
read_arm-F word arm true e h = let same : False ≡ arm = cc in subst (λ a. SpellsArm word a) same ((bytes_eq-Decides word (codes "F")).0 e)
read_arm-F word arm false e h = read_arm-literal word arm (literal_of word) refl h

read_arm-T : (word : List ℕ) (arm : Arm) (t : Bool) → bytes_eq word (codes "T") ≡ t → (if t then Some True else if bytes_eq word (codes "F") then Some False else option_map (λ l. Lit l) (literal_of word)) ≡ Some arm → SpellsArm word arm
read_arm-T word arm true e h = let same : True ≡ arm = cc in subst (λ a. SpellsArm word a) same ((bytes_eq-Decides word (codes "T")).0 e)
read_arm-T word arm false e h = read_arm-F word arm (bytes_eq word (codes "F")) refl h

read_arm : (word : List ℕ) (arm : Arm) → arm_of word ≡ Some arm → SpellsArm word arm
read_arm word arm h = read_arm-T word arm (bytes_eq word (codes "T")) refl h

-- pairs

spelled_positive : (word : List ℕ) (n : ℕ) → number_of word ≡ Some n → 1 ≤ n → positive_of word ≡ Some n
spelled_positive word n e h = rw e (rw (positive_is n h) refl)

read_positive-at : (word : List ℕ) (m n : ℕ) (t : Bool) → number_of word ≡ Some m → (m == 0) ≡ t → (if t then None else Some m) ≡ Some n → (number_of word ≡ Some n) × (1 ≤ n)
read_positive-at word m n true e z h = absurd cc
read_positive-at word m n false e z h = let same : m ≡ n = cc in (e ∙ ap (λ k. Some k) same, subst (λ k. 1 ≤ k) same (is_positive m z))

read_positive-number : (word : List ℕ) (n : ℕ) (o : Option ℕ) → number_of word ≡ o → option_and_then (λ m. if m == 0 then None else Some m) o ≡ Some n → (number_of word ≡ Some n) × (1 ≤ n)
read_positive-number word n None e h = absurd cc
read_positive-number word n (Some m) e h = read_positive-at word m n (m == 0) e refl h

read_positive : (word : List ℕ) (n : ℕ) → positive_of word ≡ Some n → (number_of word ≡ Some n) × (1 ≤ n)
read_positive word n h = read_positive-number word n (number_of word) refl h

abbrev Pair : Type 0
Pair = ℕ × ℕ

abbrev pair_by : Option ℕ → Option ℕ → Option Pair
pair_by o p = option_and_then (λ m. option_map (λ n. (m, n)) p) o

pair_from : (a b : ℕ) (o p : Option ℕ) → o ≡ Some a → p ≡ Some b → pair_by o p ≡ Some (a, b)
pair_from a b o p e f = rw e (rw f refl)

spelled_pair : (words : List (List ℕ)) (a b : ℕ) → SpellPair words a b → pair_of words ≡ Some (a, b)
spelled_pair [] a b h = absurd h
spelled_pair (first ∷ []) a b h = absurd h
spelled_pair (first ∷ second ∷ []) a b h = pair_from a b (positive_of first) (positive_of second) (spelled_positive first a h.0 h.1) (spelled_positive second b h.2 h.3)
spelled_pair (first ∷ second ∷ _ ∷ _) a b h = absurd h

pair_is : (a b : Pair) → Some a ≡ Some b → a ≡ b
pair_is a b e = cc

read_pair-at : (first second : List ℕ) (p : Pair) (o q : Option ℕ) → positive_of first ≡ o → positive_of second ≡ q → pair_by o q ≡ Some p → SpellPair (first ∷ second ∷ []) p.0 p.1
read_pair-at first second p None q e f h = absurd cc
read_pair-at first second p (Some a) None e f h = absurd cc
read_pair-at first second p (Some a) (Some b) e f h =
    let both : Pair = (a, b) in
    let same : both ≡ p = pair_is both p h in
    let one : (number_of first ≡ Some a) × (1 ≤ a) = read_positive first a e in
    let two : (number_of second ≡ Some b) × (1 ≤ b) = read_positive second b f in
    subst (λ (x : Pair). SpellPair (first ∷ second ∷ []) x.0 x.1) same (one.0, one.1, two.0, two.1)

read_pair : (words : List (List ℕ)) (p : Pair) → pair_of words ≡ Some p → SpellPair words p.0 p.1
read_pair [] p h = absurd cc
read_pair (first ∷ []) p h = absurd cc
read_pair (first ∷ second ∷ []) p h = read_pair-at first second p (positive_of first) (positive_of second) refl refl h
read_pair (first ∷ second ∷ _ ∷ _) p h = absurd cc

pair_is_positive : (words : List (List ℕ)) (a b : ℕ) → SpellPair words a b → (1 ≤ a) × (1 ≤ b)
pair_is_positive [] a b h = absurd h
pair_is_positive (first ∷ []) a b h = absurd h
pair_is_positive (first ∷ second ∷ []) a b h = (h.1, h.3)
pair_is_positive (first ∷ second ∷ _ ∷ _) a b h = absurd h

then_is_pair : (words : List (List ℕ)) (lits : List Literal) (a b : ℕ) → LiteralsThen (λ behind. SpellPair behind a b) words lits → (1 ≤ a) × (1 ≤ b)
then_is_pair [] lits a b h = absurd h
then_is_pair (word ∷ words) [] a b h = pair_is_positive words a b h.1
then_is_pair (word ∷ words) (l ∷ lits) a b h = then_is_pair words lits a b h.1

-- each kind of line

spelled_header : (words : List (List ℕ)) (vars constraints : ℕ) → SpellsHeader words vars constraints → header_of words ≡ Some (Header vars constraints)
spelled_header [] vars constraints h = absurd h
spelled_header (format ∷ []) vars constraints h = absurd h
spelled_header (format ∷ first ∷ []) vars constraints h = absurd h
spelled_header (format ∷ first ∷ second ∷ []) vars constraints h = rw h.0 (rw h.1 (rw h.2 refl))
spelled_header (format ∷ first ∷ second ∷ _ ∷ _) vars constraints h = absurd h

definition_from : (x : Literal) (high low : Arm) (o : Option Literal) (a b : Option Arm) → o ≡ Some x → a ≡ Some high → b ≡ Some low → option_and_then (λ y. option_and_then (λ h. option_map (λ l. Define y h l) b) a) o ≡ Some (Define x high low)
definition_from x high low o a b e f g = rw e (rw f (rw g refl))

spelled_definition : (words : List (List ℕ)) (x : Literal) (high low : Arm) → SpellsDefinition words x high low → definition_of words ≡ Some (Define x high low)
spelled_definition [] x high low h = absurd h
spelled_definition (test ∷ []) x high low h = absurd h
spelled_definition (test ∷ first ∷ []) x high low h = absurd h
spelled_definition (test ∷ first ∷ second ∷ []) x high low h = definition_from x high low (literal_of test) (arm_of first) (arm_of second) h.0 (spelled_arm first high h.1) (spelled_arm second low h.2)
spelled_definition (test ∷ first ∷ second ∷ _ ∷ _) x high low h = absurd h

spelled_derived : (learned : Bool) (words : List (List ℕ)) (lits : List Literal) (hints : List ℕ) → ThenIds words lits hints → derived_of learned words ≡ Some (derived learned lits hints)
spelled_derived learned words lits hints h =
    let front : SpelledLiterals (λ behind. SpellIds behind hints) words [] lits = spelled_literals (λ behind. SpellIds behind hints) words [] lits h in
    let ids : ids_behind [] front.0 ≡ Some hints = spelled_ids front.0 [] hints front.2 in
    rw front.1 (rw ids refl)

spelled_klause : (words : List (List ℕ)) (bound : ℕ) (lits : List Literal) (root unit : ℕ) → SpellsKlause words bound lits root unit → klause_of words ≡ Some (Klause (klause bound lits) root unit)
spelled_klause [] bound lits root unit h = absurd h
spelled_klause (word ∷ words) bound lits root unit h =
    let front : SpelledLiterals (λ behind. SpellPair behind root unit) words [] lits = spelled_literals (λ behind. SpellPair behind root unit) words [] lits h.1 in
    let pair : pair_of front.0 ≡ Some (root, unit) = spelled_pair front.0 root unit front.2 in
    rw h.0 (rw front.1 (rw pair refl))

spelled_unfolding : (words : List (List ℕ)) (id root : ℕ) → SpellPair words id root → unfolding_of words ≡ Some (Unfold id root)
spelled_unfolding words id root h = ap (option_map (λ (p : Pair). Unfold p.0 p.1)) (spelled_pair words id root h)

spelled_delete : (words : List (List ℕ)) (ids : List ℕ) → SpellIds words ids → delete_of words ≡ Some (Delete ids)
spelled_delete words ids h = ap (option_map (λ i. Delete i)) (spelled_ids words [] ids h)

-- a line that is spelled is read
pub spelled_is_read : (words : List (List ℕ)) (line : Line) → SpellsWords words line → line_of words ≡ Some line
spelled_is_read [] line h = absurd h
spelled_is_read (word ∷ words) (Header vars constraints) h = ap (λ w. line_of (w ∷ words)) h.0 ∙ spelled_header words vars constraints h.1
spelled_is_read (word ∷ words) (Define x high low) h = ap (λ w. line_of (w ∷ words)) h.0 ∙ spelled_definition words x high low h.1
spelled_is_read (word ∷ words) (Lemma c hints) h = ap (λ w. line_of (w ∷ words)) h.0 ∙ spelled_derived false words c.lits hints h.2 ∙ ap (λ b. Some (Lemma b hints)) (sym h.1)
spelled_is_read (word ∷ words) (Learned c hints) h = ap (λ w. line_of (w ∷ words)) h.0 ∙ spelled_derived true words c.lits hints h.2 ∙ ap (λ b. Some (Learned b hints)) (sym h.1)
spelled_is_read (word ∷ words) (Klause c root unit) h = ap (λ w. line_of (w ∷ words)) h.0 ∙ spelled_klause words c.bound c.lits root unit h.2 ∙ ap (λ b. Some (Klause b root unit)) (sym h.1)
spelled_is_read (word ∷ words) (Unfold id root) h = ap (λ w. line_of (w ∷ words)) h.0 ∙ spelled_unfolding words id root h.1
spelled_is_read (word ∷ words) (Delete ids) h = ap (λ w. line_of (w ∷ words)) h.0 ∙ spelled_delete words ids h.1

read_header-at : (words : List (List ℕ)) (word format first second : List ℕ) (line : Line) (t : Bool) (v c : Option ℕ) → word ≡ codes "p" → bytes_eq format (codes "kpf") ≡ t → number_of first ≡ v → number_of second ≡ c → (if t then option_and_then (λ vars. option_map (λ constraints. Header vars constraints) c) v else None) ≡ Some line → SpellsWords (word ∷ format ∷ first ∷ second ∷ []) line
read_header-at words word format first second line false v c w e f s h = absurd cc
read_header-at words word format first second line true None c w e f s h = absurd cc
read_header-at words word format first second line true (Some vars) None w e f s h = absurd cc
read_header-at words word format first second line true (Some vars) (Some constraints) w e f s h =
    let same : Header vars constraints ≡ line = cc in
    subst (λ l. SpellsWords (word ∷ format ∷ first ∷ second ∷ []) l) same (w, ((bytes_eq-Decides format (codes "kpf")).0 e, f, s))

read_header : (words : List (List ℕ)) (word : List ℕ) (line : Line) → word ≡ codes "p" → header_of words ≡ Some line → SpellsWords (word ∷ words) line
read_header [] word line w h = absurd cc
read_header (format ∷ []) word line w h = absurd cc
read_header (format ∷ first ∷ []) word line w h = absurd cc
read_header (format ∷ first ∷ second ∷ []) word line w h = read_header-at [] word format first second line (bytes_eq format (codes "kpf")) (number_of first) (number_of second) w refl refl refl h
read_header (format ∷ first ∷ second ∷ _ ∷ _) word line w h = absurd cc

read_definition-at : (word test first second : List ℕ) (line : Line) (o : Option Literal) (a b : Option Arm) → word ≡ codes "d" → literal_of test ≡ o → arm_of first ≡ a → arm_of second ≡ b → option_and_then (λ x. option_and_then (λ high. option_map (λ low. Define x high low) b) a) o ≡ Some line → SpellsWords (word ∷ test ∷ first ∷ second ∷ []) line
read_definition-at word test first second line None a b w e f g h = absurd cc
read_definition-at word test first second line (Some x) None b w e f g h = absurd cc
read_definition-at word test first second line (Some x) (Some high) None w e f g h = absurd cc
read_definition-at word test first second line (Some x) (Some high) (Some low) w e f g h =
    let same : Define x high low ≡ line = cc in
    subst (λ l. SpellsWords (word ∷ test ∷ first ∷ second ∷ []) l) same (w, (e, read_arm first high f, read_arm second low g))

read_definition : (words : List (List ℕ)) (word : List ℕ) (line : Line) → word ≡ codes "d" → definition_of words ≡ Some line → SpellsWords (word ∷ words) line
read_definition [] word line w h = absurd cc
read_definition (test ∷ []) word line w h = absurd cc
read_definition (test ∷ first ∷ []) word line w h = absurd cc
read_definition (test ∷ first ∷ second ∷ []) word line w h = read_definition-at word test first second line (literal_of test) (arm_of first) (arm_of second) w refl refl refl h
read_definition (test ∷ first ∷ second ∷ _ ∷ _) word line w h = absurd cc

abbrev derived_word : Bool → List ℕ
derived_word learned = if learned then codes "l" else codes "r"

derived_is_spelled : (learned : Bool) (words : List (List ℕ)) (word : List ℕ) (lits : List Literal) (hints : List ℕ) → word ≡ derived_word learned → ThenIds words lits hints → SpellsWords (word ∷ words) (derived learned lits hints)
derived_is_spelled true words word lits hints w h = (w, refl, h)
derived_is_spelled false words word lits hints w h = (w, refl, h)

read_derived-ids : (learned : Bool) (words rest : List (List ℕ)) (word : List ℕ) (out : List Literal) (line : Line) (i : Option (List ℕ)) → word ≡ derived_word learned → literals_behind [] words ≡ Some (out, rest) → ids_behind [] rest ≡ i → option_map (λ hints. derived learned out hints) i ≡ Some line → SpellsWords (word ∷ words) line
read_derived-ids learned words rest word out line None w f e h = absurd cc
read_derived-ids learned words rest word out line (Some ids) w f e h =
    let same : derived learned out ids ≡ line = cc in
    let behind : ReadsIds rest [] ids = read_ids rest [] ids e in
    let front : ReadsLiterals (λ b. SpellIds b behind.0) words [] out = read_literals (λ b. SpellIds b behind.0) words rest [] out behind.2 f in
    let read : derived learned front.0 behind.0 ≡ line = ap (λ ls. derived learned ls behind.0) (sym front.1) ∙ ap (λ is. derived learned out is) (sym behind.1) ∙ same in
    subst (λ l. SpellsWords (word ∷ words) l) read (derived_is_spelled learned words word front.0 behind.0 w front.2)

read_derived-at : (learned : Bool) (words : List (List ℕ)) (word : List ℕ) (line : Line) (o : Option (List Literal × List (List ℕ))) → word ≡ derived_word learned → literals_behind [] words ≡ o → option_and_then (λ front. option_map (λ hints. derived learned front.0 hints) (ids_behind [] front.1)) o ≡ Some line → SpellsWords (word ∷ words) line
read_derived-at learned words word line None w e h = absurd cc
read_derived-at learned words word line (Some front) w e h = read_derived-ids learned words front.1 word front.0 line (ids_behind [] front.1) w e refl h

read_derived : (learned : Bool) (words : List (List ℕ)) (word : List ℕ) (line : Line) → word ≡ derived_word learned → derived_of learned words ≡ Some line → SpellsWords (word ∷ words) line
read_derived learned words word line w h = read_derived-at learned words word line (literals_behind [] words) w refl h

read_klause-pair : (words rest : List (List ℕ)) (word number : List ℕ) (bound : ℕ) (out : List Literal) (line : Line) (i : Option Pair) → word ≡ codes "k" → number_of number ≡ Some bound → literals_behind [] words ≡ Some (out, rest) → pair_of rest ≡ i → option_map (λ (p : Pair). Klause (klause bound out) p.0 p.1) i ≡ Some line → SpellsWords (word ∷ number ∷ words) line
read_klause-pair words rest word number bound out line None w n f e h = absurd cc
read_klause-pair words rest word number bound out line (Some p) w n f e h =
    let same : Klause (klause bound out) p.0 p.1 ≡ line = cc in
    let front : ReadsLiterals (λ b. SpellPair b p.0 p.1) words [] out = read_literals (λ b. SpellPair b p.0 p.1) words rest [] out (read_pair rest p e) f in
    let read : Klause (klause bound front.0) p.0 p.1 ≡ line = ap (λ ls. Klause (klause bound ls) p.0 p.1) (sym front.1) ∙ same in
    subst (λ l. SpellsWords (word ∷ number ∷ words) l) read (w, refl, (n, front.2))

read_klause-literals : (words : List (List ℕ)) (word number : List ℕ) (bound : ℕ) (line : Line) (o : Option Front) → word ≡ codes "k" → number_of number ≡ Some bound → literals_behind [] words ≡ o → option_and_then (λ (front : Front). option_map (λ (p : Pair). Klause (klause bound front.0) p.0 p.1) (pair_of front.1)) o ≡ Some line → SpellsWords (word ∷ number ∷ words) line
read_klause-literals words word number bound line None w n e h = absurd cc
read_klause-literals words word number bound line (Some front) w n e h = read_klause-pair words front.1 word number bound front.0 line (pair_of front.1) w n e refl h

read_klause-at : (words : List (List ℕ)) (word number : List ℕ) (line : Line) (o : Option ℕ) → word ≡ codes "k" → number_of number ≡ o → option_and_then (λ bound. option_and_then (λ (front : Front). option_map (λ (p : Pair). Klause (klause bound front.0) p.0 p.1) (pair_of front.1)) (literals_behind [] words)) o ≡ Some line → SpellsWords (word ∷ number ∷ words) line
read_klause-at words word number line None w e h = absurd cc
read_klause-at words word number line (Some bound) w e h = read_klause-literals words word number bound line (literals_behind [] words) w e refl h

read_klause : (words : List (List ℕ)) (word : List ℕ) (line : Line) → word ≡ codes "k" → klause_of words ≡ Some line → SpellsWords (word ∷ words) line
read_klause [] word line w h = absurd cc
read_klause (number ∷ words) word line w h = read_klause-at words word number line (number_of number) w refl h

read_unfolding-at : (words : List (List ℕ)) (word : List ℕ) (line : Line) (i : Option Pair) → word ≡ codes "g" → pair_of words ≡ i → option_map (λ (p : Pair). Unfold p.0 p.1) i ≡ Some line → SpellsWords (word ∷ words) line
read_unfolding-at words word line None w e h = absurd cc
read_unfolding-at words word line (Some p) w e h =
    let same : Unfold p.0 p.1 ≡ line = cc in
    subst (λ l. SpellsWords (word ∷ words) l) same (w, read_pair words p e)

read_unfolding : (words : List (List ℕ)) (word : List ℕ) (line : Line) → word ≡ codes "g" → unfolding_of words ≡ Some line → SpellsWords (word ∷ words) line
read_unfolding words word line w h = read_unfolding-at words word line (pair_of words) w refl h

read_delete-at : (words : List (List ℕ)) (word : List ℕ) (line : Line) (i : Option (List ℕ)) → word ≡ codes "x" → ids_behind [] words ≡ i → option_map (λ ids. Delete ids) i ≡ Some line → SpellsWords (word ∷ words) line
read_delete-at words word line None w e h = absurd cc
read_delete-at words word line (Some ids) w e h =
    let same : Delete ids ≡ line = cc in
    let behind : ReadsIds words [] ids = read_ids words [] ids e in
    let read : Delete behind.0 ≡ line = ap (λ is. Delete is) (sym behind.1) ∙ same in
    subst (λ l. SpellsWords (word ∷ words) l) read (w, behind.2)

read_delete : (words : List (List ℕ)) (word : List ℕ) (line : Line) → word ≡ codes "x" → delete_of words ≡ Some line → SpellsWords (word ∷ words) line
read_delete words word line w h = read_delete-at words word line (ids_behind [] words) w refl h

-- the kinds of lines by their first words, from the last that is looked for

abbrev from_x : List (List ℕ) → List ℕ → Option Line
from_x words word = if bytes_eq word (codes "x") then delete_of words else None

read_from_x : (words : List (List ℕ)) (word : List ℕ) (line : Line) (t : Bool) → bytes_eq word (codes "x") ≡ t → (if t then delete_of words else None) ≡ Some line → SpellsWords (word ∷ words) line
read_from_x words word line true e h = read_delete words word line ((bytes_eq-Decides word (codes "x")).0 e) h
read_from_x words word line false e h = absurd cc

abbrev from_g : List (List ℕ) → List ℕ → Option Line
from_g words word = if bytes_eq word (codes "g") then unfolding_of words else from_x words word

read_from_g : (words : List (List ℕ)) (word : List ℕ) (line : Line) (t : Bool) → bytes_eq word (codes "g") ≡ t → (if t then unfolding_of words else from_x words word) ≡ Some line → SpellsWords (word ∷ words) line
read_from_g words word line true e h = read_unfolding words word line ((bytes_eq-Decides word (codes "g")).0 e) h
read_from_g words word line false e h = read_from_x words word line (bytes_eq word (codes "x")) refl h

abbrev from_k : List (List ℕ) → List ℕ → Option Line
from_k words word = if bytes_eq word (codes "k") then klause_of words else from_g words word

read_from_k : (words : List (List ℕ)) (word : List ℕ) (line : Line) (t : Bool) → bytes_eq word (codes "k") ≡ t → (if t then klause_of words else from_g words word) ≡ Some line → SpellsWords (word ∷ words) line
read_from_k words word line true e h = read_klause words word line ((bytes_eq-Decides word (codes "k")).0 e) h
read_from_k words word line false e h = read_from_g words word line (bytes_eq word (codes "g")) refl h

abbrev from_l : List (List ℕ) → List ℕ → Option Line
from_l words word = if bytes_eq word (codes "l") then derived_of true words else from_k words word

read_from_l : (words : List (List ℕ)) (word : List ℕ) (line : Line) (t : Bool) → bytes_eq word (codes "l") ≡ t → (if t then derived_of true words else from_k words word) ≡ Some line → SpellsWords (word ∷ words) line
read_from_l words word line true e h = read_derived true words word line ((bytes_eq-Decides word (codes "l")).0 e) h
read_from_l words word line false e h = read_from_k words word line (bytes_eq word (codes "k")) refl h

abbrev from_r : List (List ℕ) → List ℕ → Option Line
from_r words word = if bytes_eq word (codes "r") then derived_of false words else from_l words word

read_from_r : (words : List (List ℕ)) (word : List ℕ) (line : Line) (t : Bool) → bytes_eq word (codes "r") ≡ t → (if t then derived_of false words else from_l words word) ≡ Some line → SpellsWords (word ∷ words) line
read_from_r words word line true e h = read_derived false words word line ((bytes_eq-Decides word (codes "r")).0 e) h
read_from_r words word line false e h = read_from_l words word line (bytes_eq word (codes "l")) refl h

abbrev from_d : List (List ℕ) → List ℕ → Option Line
from_d words word = if bytes_eq word (codes "d") then definition_of words else from_r words word

read_from_d : (words : List (List ℕ)) (word : List ℕ) (line : Line) (t : Bool) → bytes_eq word (codes "d") ≡ t → (if t then definition_of words else from_r words word) ≡ Some line → SpellsWords (word ∷ words) line
read_from_d words word line true e h = read_definition words word line ((bytes_eq-Decides word (codes "d")).0 e) h
read_from_d words word line false e h = read_from_r words word line (bytes_eq word (codes "r")) refl h

abbrev from_p : List (List ℕ) → List ℕ → Option Line
from_p words word = if bytes_eq word (codes "p") then header_of words else from_d words word

read_from_p : (words : List (List ℕ)) (word : List ℕ) (line : Line) (t : Bool) → bytes_eq word (codes "p") ≡ t → (if t then header_of words else from_d words word) ≡ Some line → SpellsWords (word ∷ words) line
read_from_p words word line true e h = read_header words word line ((bytes_eq-Decides word (codes "p")).0 e) h
read_from_p words word line false e h = read_from_d words word line (bytes_eq word (codes "d")) refl h

-- a line that is read is spelled
pub read_is_spelled : (words : List (List ℕ)) (line : Line) → line_of words ≡ Some line → SpellsWords words line
read_is_spelled [] line h = absurd cc
read_is_spelled (word ∷ words) line h = read_from_p words word line (bytes_eq word (codes "p")) refl h

-- what the words spell is one line
pub one_spelling : (words : List (List ℕ)) (a b : Line) → SpellsWords words a → SpellsWords words b → a ≡ b
one_spelling words a b s t = let both : Some a ≡ Some b = sym (spelled_is_read words a s) ∙ spelled_is_read words b t in cc

klause_is_formed : (words : List (List ℕ)) (c : Bounded) (root unit : ℕ) → c ≡ klause c.bound c.lits → SpellsKlause words c.bound c.lits root unit → IsWellFormed (Klause c root unit)
klause_is_formed [] c root unit e h = absurd h
klause_is_formed (word ∷ words) c root unit e h = let ones : (1 ≤ root) × (1 ≤ unit) = then_is_pair words c.lits root unit h.1 in (e, ones.0, ones.1)

pub spelled_is_formed : (words : List (List ℕ)) (line : Line) → SpellsWords words line → IsWellFormed line
spelled_is_formed [] line h = absurd h
spelled_is_formed (word ∷ words) (Header vars constraints) h = tt
spelled_is_formed (word ∷ words) (Define x high low) h = tt
spelled_is_formed (word ∷ words) (Lemma c hints) h = (h.1, then_are_ids words c.lits hints h.2)
spelled_is_formed (word ∷ words) (Learned c hints) h = (h.1, then_are_ids words c.lits hints h.2)
spelled_is_formed (word ∷ words) (Klause c root unit) h = klause_is_formed words c root unit h.1 h.2
spelled_is_formed (word ∷ words) (Unfold id root) h = pair_is_positive words id root h.1
spelled_is_formed (word ∷ words) (Delete ids) h = spelled_are_ids words ids h.1

-- a line that is spelled is neither blank nor a comment
pub spelled_is_not_skipped : (words : List (List ℕ)) (line : Line) → SpellsWords words line → is_skipped words ≡ false
spelled_is_not_skipped [] line h = absurd h
spelled_is_not_skipped (word ∷ words) (Header vars constraints) h = ap (λ w. is_skipped (w ∷ words)) h.0
spelled_is_not_skipped (word ∷ words) (Define x high low) h = ap (λ w. is_skipped (w ∷ words)) h.0
spelled_is_not_skipped (word ∷ words) (Lemma c hints) h = ap (λ w. is_skipped (w ∷ words)) h.0
spelled_is_not_skipped (word ∷ words) (Learned c hints) h = ap (λ w. is_skipped (w ∷ words)) h.0
spelled_is_not_skipped (word ∷ words) (Klause c root unit) h = ap (λ w. is_skipped (w ∷ words)) h.0
spelled_is_not_skipped (word ∷ words) (Unfold id root) h = ap (λ w. is_skipped (w ∷ words)) h.0
spelled_is_not_skipped (word ∷ words) (Delete ids) h = ap (λ w. is_skipped (w ∷ words)) h.0

-- where no line is read, none is spelled
pub unread_spells_none : (words : List (List ℕ)) → line_of words ≡ None → (line : Line) → SpellsWords words line → ⊥
unread_spells_none words e line h = let read : line_of words ≡ Some line = spelled_is_read words line h in absurd cc
