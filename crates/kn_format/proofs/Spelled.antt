-- A spelled formula is read.
use Rattle.std.proofs.Common.{◌≡◌, ℕ, ◌≤◌, ◌+◌, ◌==◌, false, List, [], ◌∷◌, ◌++◌, length, Option, Some, None, Ok, refl, sym, ap, subst, ◌∙◌, append_assoc, length-append, arith, inl, inr}
use Rattle.std.proofs.lemmas.List.{append-nil}
use Rattle.std.proofs.lemmas.Bool.Decides.{nat_tests}
use Rattle.std.specs.Prelude.{Result, IsSome, IfSome, option_to_list}
use Rattle.std.specs.List.{AllByRecursion}
use Rattle.std.proofs.lemmas.Bool.{or_from}
use Rattle.kn_logic.specs.Literals.{Literal, IsKnown, AreKnown, AreDifferent, names}
use Rattle.kn_logic.specs.Constraints.{Bounded, clause, klause, guarded_klause, named, Fits}
use Rattle.kn_text.specs.Lists.{LiteralsThen}
use Rattle.kn_format.specs.declared.format.Format.{Format}
use Rattle.kn_format.specs.declared.format.Format.TheVariants.{Cnf, Knf}
use Rattle.kn_format.specs.declared.place.Place.{Place}
use Rattle.kn_format.specs.declared.place.Place.TheVariants.{Between, Guard, Bound, Clause, Klause}
use Rattle.kn_format.specs.Grammar.{BoundThen, GuardThen, MarkedThen, ConstraintThen, SpellConstraints}
use Rattle.kn_format.specs.Faults.{Reading, nothing, with_literal, with_bound, after, after_words}
use Rattle.kn_format.proofs.Begun.{names_append, or_left, or_right}
use Rattle.kn_format.proofs.Steps.{reading, step, between_literal, between_end, between_k, between_q, guard_literal, bound_number, clause_literal, clause_end, klause_literal, klause_end}

abbrev pub Then : Format → List Bounded → List (List ℕ) → Type 0
Then format cs words = SpellConstraints format words cs

abbrev pub joined : Bounded → List Literal → Bounded
joined c lits = record c { lits = c.lits ++ lits }

-- the words go on with literals of the constraint that is begun
pub record InClause (format : Format) (begun : Bounded) (words : List (List ℕ)) (c : Bounded) (cs : List Bounded) : Type 0 where
  pub lits : List Literal
  pub whole : c ≡ joined begun lits
  pub spelled : LiteralsThen (Then format cs) words lits

pub record InKlause (format : Format) (begun : Bounded) (words : List (List ℕ)) (c : Bounded) (cs : List Bounded) : Type 0 where
  pub lits : List Literal
  pub whole : c ≡ joined begun lits
  pub spelled : LiteralsThen (Then format cs) words lits
  pub different : AreDifferent (named c)

pub record AtBound (format : Format) (begun : Bounded) (words : List (List ℕ)) (c : Bounded) (cs : List Bounded) : Type 0 where
  pub bound : ℕ
  pub lits : List Literal
  pub whole : c ≡ joined (with_bound begun bound) lits
  pub spelled : BoundThen (Then format cs) words (klause bound lits)
  pub different : AreDifferent (named c)

pub record AtGuard (format : Format) (words : List (List ℕ)) (c : Bounded) (cs : List Bounded) : Type 0 where
  pub spelled : GuardThen (Then format cs) words c
  pub different : AreDifferent (named c)

-- how the words go on from a place, where the constraints are the one that is begun and those behind it
abbrev pub Rest : Format → Place → Bounded → List (List ℕ) → List Bounded → Type 0
Rest format Between begun words cs = SpellConstraints format words cs
Rest format Guard begun words [] = ⊥
Rest format Guard begun words (c ∷ cs) = AtGuard format words c cs
Rest format Bound begun words [] = ⊥
Rest format Bound begun words (c ∷ cs) = AtBound format begun words c cs
Rest format Clause begun words [] = ⊥
Rest format Clause begun words (c ∷ cs) = InClause format begun words c cs
Rest format Klause begun words [] = ⊥
Rest format Klause begun words (c ∷ cs) = InKlause format begun words c cs

abbrev pub Reaches : Result Reading ℕ → Format → ℕ → ℕ → List Bounded → Type 0
Reaches result format count vars all = (begun : Bounded) × (result ≡ Ok (reading format count vars all Between begun))

abbrev pub IsRead : List (List ℕ) → Type 0
IsRead words = (format : Format) (count vars : ℕ) (done : List Bounded) (place : Place) (begun : Bounded) (cs : List Bounded)
    → Rest format place begun words cs → AllByRecursion (Fits vars) cs → length done + length cs ≤ count
    → Reaches (after_words (reading format count vars done place begun) words) format count vars (done ++ cs)

reaches : (format : Format) (count vars : ℕ) (all : List Bounded) (r next : Reading) (word : List ℕ) (words : List (List ℕ))
    → after r word ≡ Ok next → Reaches (after_words next words) format count vars all → Reaches (after_words r (word ∷ words)) format count vars all
reaches format count vars all r next word words e more = (more.0, step r next word words e ∙ more.1)

has_room : (done : List Bounded) (c : Bounded) (cs : List Bounded) (count : ℕ) → length done + length (c ∷ cs) ≤ count → (length done == count) ≡ false
has_room done c cs count e = grind (arith, nat_tests)

-- where the constraint that was begun is complete
completed : (format : Format) (count vars : ℕ) (done : List Bounded) (c begun : Bounded) (cs : List Bounded) (r : Reading) (word : List ℕ) (words : List (List ℕ))
    → after r word ≡ Ok (reading format count vars (done ++ c ∷ []) Between nothing) → c ≡ begun → Then format cs words
    → AllByRecursion (Fits vars) cs → length done + length (begun ∷ cs) ≤ count → IsRead words
    → Reaches (after_words r (word ∷ words)) format count vars (done ++ begun ∷ cs)
completed format count vars done c begun cs r word words e same rest fits n more =
    let len : length (done ++ c ∷ []) + length cs ≤ count = rw length-append (omega arith) in
    let all : (done ++ c ∷ []) ++ cs ≡ done ++ begun ∷ cs = append_assoc done (c ∷ []) cs ∙ ap (λ d. done ++ d ∷ cs) same in
    subst (λ (ds : List Bounded). Reaches (after_words r (word ∷ words)) format count vars ds) all
    (reaches format count vars ((done ++ c ∷ []) ++ cs) r _ word words e (more format count vars (done ++ c ∷ []) Between nothing cs rest fits len))

known_at : (vars : ℕ) (xs ys : List Literal) (l : Literal) → AreKnown vars (xs ++ l ∷ ys) → IsKnown vars l
known_at vars [] ys l known = known.0
known_at vars (x ∷ xs) ys l known = known_at vars xs ys l known.1

test_back : (l m : Literal) → (l.variable == m.variable) ≡ false → (m.variable == l.variable) ≡ false
test_back l m e = grind (arith, nat_tests)

-- what stands at a place of a list is none of what stands before it
apart_at : (xs ys : List Literal) (l : Literal) → AreDifferent (xs ++ l ∷ ys) → names xs l.variable ≡ false
apart_at [] ys l different = refl
apart_at (x ∷ xs) ys l different =
    let here : (l.variable == x.variable) ≡ false =
    or_left _ _ (or_right (names xs x.variable) _ (sym (names_append xs (l ∷ ys) x.variable) ∙ different.0)) in
    or_from (x.variable == l.variable) (names xs l.variable) (test_back l x here) (apart_at xs ys l different.1)

pub joined_literal : (begun : Bounded) (l : Literal) (lits : List Literal) (c : Bounded) → c ≡ joined begun (l ∷ lits) → c ≡ joined (with_literal begun l) lits
joined_literal begun l lits c e = e ∙ ap (λ ls. record begun { lits = ls }) (sym (append_assoc begun.lits (l ∷ []) lits))

joined_nothing : (begun : Bounded) (c : Bounded) → c ≡ joined begun [] → begun ≡ c
joined_nothing begun c e = sym (e ∙ ap (λ ls. record begun { lits = ls }) (append-nil begun.lits))

known_in : (vars : ℕ) (begun c : Bounded) (l : Literal) (lits : List Literal) → c ≡ joined begun (l ∷ lits) → Fits vars c → IsKnown vars l
known_in vars begun c l lits e fits = known_at vars begun.lits lits l (subst (λ (d : Bounded). AreKnown vars d.lits) e fits.within.lits)

apart_in : (begun c : Bounded) (l : Literal) (lits : List Literal) → c ≡ joined begun (l ∷ lits) → AreDifferent (named c) → names (named begun) l.variable ≡ false
apart_in begun c l lits e different =
    apart_at (named begun) lits l
    (subst (λ (ls : List Literal). AreDifferent ls) (ap named e ∙ sym (append_assoc (option_to_list begun.guard) begun.lits (l ∷ lits))) different)

in_clause : (word : List ℕ) (words : List (List ℕ)) (more : IsRead words) (format : Format) (count vars : ℕ) (done : List Bounded) (begun c : Bounded) (cs : List Bounded) (lits : List Literal)
    → c ≡ joined begun lits → LiteralsThen (Then format cs) (word ∷ words) lits → Fits vars c → AllByRecursion (Fits vars) cs → length done + length (c ∷ cs) ≤ count
    → Reaches (after_words (reading format count vars done Clause begun) (word ∷ words)) format count vars (done ++ c ∷ cs)
in_clause word words more format count vars done begun c cs [] whole spelled here fits n =
    completed format count vars done begun c cs (reading format count vars done Clause begun) word words
    (clause_end format count vars done begun word spelled.0) (joined_nothing begun c whole) spelled.1 fits n more
in_clause word words more format count vars done begun c cs (l ∷ lits) whole spelled here fits n =
    reaches format count vars (done ++ c ∷ cs) (reading format count vars done Clause begun) (reading format count vars done Clause (with_literal begun l)) word words
    (clause_literal format count vars done begun word l spelled.0 (known_in vars begun c l lits whole here).1)
    (more format count vars done Clause (with_literal begun l) (c ∷ cs)
    (record { lits = lits; whole = joined_literal begun l lits c whole; spelled = spelled.1 }) (here, fits) n)

in_klause : (word : List ℕ) (words : List (List ℕ)) (more : IsRead words) (format : Format) (count vars : ℕ) (done : List Bounded) (begun c : Bounded) (cs : List Bounded) (lits : List Literal)
    → c ≡ joined begun lits → LiteralsThen (Then format cs) (word ∷ words) lits → AreDifferent (named c) → Fits vars c → AllByRecursion (Fits vars) cs → length done + length (c ∷ cs) ≤ count
    → Reaches (after_words (reading format count vars done Klause begun) (word ∷ words)) format count vars (done ++ c ∷ cs)
in_klause word words more format count vars done begun c cs [] whole spelled different here fits n =
    completed format count vars done begun c cs (reading format count vars done Klause begun) word words
    (klause_end format count vars done begun word spelled.0) (joined_nothing begun c whole) spelled.1 fits n more
in_klause word words more format count vars done begun c cs (l ∷ lits) whole spelled different here fits n =
    reaches format count vars (done ++ c ∷ cs) (reading format count vars done Klause begun) (reading format count vars done Klause (with_literal begun l)) word words
    (klause_literal format count vars done begun word l spelled.0 (known_in vars begun c l lits whole here).1 (apart_in begun c l lits whole different))
    (more format count vars done Klause (with_literal begun l) (c ∷ cs)
    (record { lits = lits; whole = joined_literal begun l lits c whole; spelled = spelled.1; different = different }) (here, fits) n)

at_bound : (word : List ℕ) (words : List (List ℕ)) (more : IsRead words) (format : Format) (count vars : ℕ) (done : List Bounded) (begun c : Bounded) (cs : List Bounded)
    → AtBound format begun (word ∷ words) c cs → Fits vars c → AllByRecursion (Fits vars) cs → length done + length (c ∷ cs) ≤ count
    → Reaches (after_words (reading format count vars done Bound begun) (word ∷ words)) format count vars (done ++ c ∷ cs)
at_bound word words more format count vars done begun c cs rest here fits n =
    reaches format count vars (done ++ c ∷ cs) (reading format count vars done Bound begun) (reading format count vars done Klause (with_bound begun rest.bound)) word words
    (bound_number format count vars done begun word rest.bound rest.spelled.0 rest.spelled.1)
    (more format count vars done Klause (with_bound begun rest.bound) (c ∷ cs)
    (record { lits = rest.lits; whole = rest.whole; spelled = rest.spelled.2; different = rest.different }) (here, fits) n)

-- a bound and literals do not depend on the guard
bound_then : (format : Format) (cs : List Bounded) (words : List (List ℕ)) (c : Bounded) → BoundThen (Then format cs) words c → BoundThen (Then format cs) words (klause c.bound c.lits)
bound_then format cs [] c spelled = spelled
bound_then format cs (word ∷ words) c spelled = spelled

guarded : (guard : Option Literal) (l : Literal) (c : Bounded) → c.guard ≡ guard → guard ≡ Some l → c ≡ joined (with_bound (guarded_klause l 0 []) c.bound) c.lits
guarded guard l c same e = ap (λ g. record c { guard = g }) (same ∙ e)

is_not_none : (o : Option Literal) → IsSome o → o ≡ None → ⊥
is_not_none None some e = absurd cc
is_not_none (Some l) some e = cc

at_guard : (word : List ℕ) (words : List (List ℕ)) (more : IsRead words) (format : Format) (count vars : ℕ) (done : List Bounded) (begun c : Bounded) (cs : List Bounded) (guard : Option Literal)
    → c.guard ≡ guard → AtGuard format (word ∷ words) c cs → Fits vars c → AllByRecursion (Fits vars) cs → length done + length (c ∷ cs) ≤ count
    → Reaches (after_words (reading format count vars done Guard begun) (word ∷ words)) format count vars (done ++ c ∷ cs)
at_guard word words more format count vars done begun c cs None e rest here fits n = absurd (is_not_none c.guard rest.spelled.0 e)
at_guard word words more format count vars done begun c cs (Some l) e rest here fits n =
    let known : IsKnown vars l = subst (λ (g : Option Literal). IfSome g (IsKnown vars)) e here.within.guard in
    reaches format count vars (done ++ c ∷ cs) (reading format count vars done Guard begun) (reading format count vars done Bound (guarded_klause l 0 [])) word words
    (guard_literal format count vars done begun word l (rest.spelled.1 ∙ e) known.1)
    (more format count vars done Bound (guarded_klause l 0 []) (c ∷ cs)
    (record { bound = c.bound; lits = c.lits; whole = guarded (Some l) l c e refl; spelled = bound_then format cs words c rest.spelled.2; different = rest.different }) (here, fits) n)

-- where a constraint begins
begins_clause : (word : List ℕ) (words : List (List ℕ)) (more : IsRead words) (format : Format) (count vars : ℕ) (done : List Bounded) (begun c : Bounded) (cs : List Bounded) (lits : List Literal)
    → c ≡ clause lits → LiteralsThen (Then format cs) (word ∷ words) lits → Fits vars c → AllByRecursion (Fits vars) cs → length done + length (c ∷ cs) ≤ count
    → Reaches (after_words (reading format count vars done Between begun) (word ∷ words)) format count vars (done ++ c ∷ cs)
begins_clause word words more format count vars done begun c cs [] whole spelled here fits n =
    completed format count vars done (clause []) c cs (reading format count vars done Between begun) word words
    (between_end format count vars done begun word spelled.0 (has_room done c cs count n)) (sym whole) spelled.1 fits n more
begins_clause word words more format count vars done begun c cs (l ∷ lits) whole spelled here fits n =
    reaches format count vars (done ++ c ∷ cs) (reading format count vars done Between begun) (reading format count vars done Clause (clause (l ∷ []))) word words
    (between_literal format count vars done begun word l spelled.0 (known_in vars (clause []) c l lits whole here).1 (has_room done c cs count n))
    (more format count vars done Clause (clause (l ∷ [])) (c ∷ cs)
    (record { lits = lits; whole = whole; spelled = spelled.1 }) (here, fits) n)

begins_marked : (word : List ℕ) (words : List (List ℕ)) (more : IsRead words) (count vars : ℕ) (done : List Bounded) (begun c : Bounded) (cs : List Bounded)
    → MarkedThen (Then Knf cs) (word ∷ words) c → Fits vars c → AllByRecursion (Fits vars) cs → length done + length (c ∷ cs) ≤ count
    → Reaches (after_words (reading Knf count vars done Between begun) (word ∷ words)) Knf count vars (done ++ c ∷ cs)
begins_marked word words more count vars done begun c cs rest here fits n =
    let room : (length done == count) ≡ false = has_room done c cs count n in
    elim rest.0 [
      | inl k ↦
          reaches Knf count vars (done ++ c ∷ cs) (reading Knf count vars done Between begun) (reading Knf count vars done Bound nothing) word words
          (between_k count vars done begun word k.0 room)
          (more Knf count vars done Bound nothing (c ∷ cs)
          (record { bound = c.bound; lits = c.lits; whole = k.1.0; spelled = bound_then Knf cs words c k.1.1; different = rest.1 }) (here, fits) n)
      | inr q ↦
          reaches Knf count vars (done ++ c ∷ cs) (reading Knf count vars done Between begun) (reading Knf count vars done Guard nothing) word words
          (between_q count vars done begun word q.0 room)
          (more Knf count vars done Guard nothing (c ∷ cs) (record { spelled = q.1; different = rest.1 }) (here, fits) n)
    ]

begins : (word : List ℕ) (words : List (List ℕ)) (more : IsRead words) (format : Format) (count vars : ℕ) (done : List Bounded) (begun c : Bounded) (cs : List Bounded)
    → ConstraintThen format (Then format cs) (word ∷ words) c → Fits vars c → AllByRecursion (Fits vars) cs → length done + length (c ∷ cs) ≤ count
    → Reaches (after_words (reading format count vars done Between begun) (word ∷ words)) format count vars (done ++ c ∷ cs)
begins word words more Cnf count vars done begun c cs rest here fits n = begins_clause word words more Cnf count vars done begun c cs c.lits rest.0 rest.1 here fits n
begins word words more Knf count vars done begun c cs rest here fits n =
    elim rest [
      | inl clause ↦ begins_clause word words more Knf count vars done begun c cs c.lits clause.0 clause.1 here fits n
      | inr marked ↦ begins_marked word words more count vars done begun c cs marked here fits n
    ]

no_words : (format : Format) (c : Bounded) (cs : List Bounded) → SpellConstraints format [] (c ∷ cs) → ⊥
no_words Cnf c cs rest = rest.1
no_words Knf c cs rest = elim rest [ inl clause ↦ clause.1 | inr marked ↦ marked ]

-- the words that spell constraints are read, and give them
pub is_read : (words : List (List ℕ)) → IsRead words
is_read [] format count vars done Between begun [] rest fits n = (begun, ap (λ ds. Ok (reading format count vars ds Between begun)) (sym (append-nil done)))
is_read [] format count vars done Between begun (c ∷ cs) rest fits n = absurd (no_words format c cs rest)
is_read [] format count vars done Guard begun [] rest fits n = absurd rest
is_read [] format count vars done Guard begun (c ∷ cs) rest fits n = absurd rest.spelled
is_read [] format count vars done Bound begun [] rest fits n = absurd rest
is_read [] format count vars done Bound begun (c ∷ cs) rest fits n = absurd rest.spelled
is_read [] format count vars done Clause begun [] rest fits n = absurd rest
is_read [] format count vars done Clause begun (c ∷ cs) rest fits n = absurd rest.spelled
is_read [] format count vars done Klause begun [] rest fits n = absurd rest
is_read [] format count vars done Klause begun (c ∷ cs) rest fits n = absurd rest.spelled
is_read (word ∷ words) format count vars done Between begun [] rest fits n = absurd cc
is_read (word ∷ words) format count vars done Between begun (c ∷ cs) rest fits n = begins word words (is_read words) format count vars done begun c cs rest fits.0 fits.1 n
is_read (word ∷ words) format count vars done Guard begun [] rest fits n = absurd rest
is_read (word ∷ words) format count vars done Guard begun (c ∷ cs) rest fits n = at_guard word words (is_read words) format count vars done begun c cs c.guard refl rest fits.0 fits.1 n
is_read (word ∷ words) format count vars done Bound begun [] rest fits n = absurd rest
is_read (word ∷ words) format count vars done Bound begun (c ∷ cs) rest fits n = at_bound word words (is_read words) format count vars done begun c cs rest fits.0 fits.1 n
is_read (word ∷ words) format count vars done Clause begun [] rest fits n = absurd rest
is_read (word ∷ words) format count vars done Clause begun (c ∷ cs) rest fits n = in_clause word words (is_read words) format count vars done begun c cs rest.lits rest.whole rest.spelled fits.0 fits.1 n
is_read (word ∷ words) format count vars done Klause begun [] rest fits n = absurd rest
is_read (word ∷ words) format count vars done Klause begun (c ∷ cs) rest fits n = in_klause word words (is_read words) format count vars done begun c cs rest.lits rest.whole rest.spelled rest.different fits.0 fits.1 n
