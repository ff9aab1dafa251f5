-- For the tests: literals that few auxiliary variables cover are covered by more.
use Rattle.std.proofs.Common.{◌≡◌, ℕ, ◌==◌, ◌||◌, Bool, true, false, List, [], ◌∷◌, refl, sym, subst, rules}
use Rattle.std.specs.List.{AllByRecursion}
use Rattle.kn_logic.specs.Literals.{Literal, has}
use Rattle.kn_logic.specs.Constraints.{Bounded, is_clause}
use Rattle.kn_logic.specs.Groups.{Gathered, IsGroup, IsCovered, is_among}

abbrev pub group_by : List ℕ → List Literal → Gathered
group_by aux border = record { aux = aux; taken = []; border = border }

wider : (a b c m h : Bool) → ((a || (b || (c || false))) || h) ≡ true → ((a || (b || (c || m))) || h) ≡ true
wider true b c m h e = refl
wider false true c m h e = refl
wider false false true m h e = refl
wider false false false true h e = refl
wider false false false false h e = e

covered_more : (a b c : ℕ) (more : List ℕ) (border : List Literal) (lits : List Literal) → AllByRecursion (IsCovered (group_by (a ∷ b ∷ c ∷ []) border)) lits
    → AllByRecursion (IsCovered (group_by (a ∷ b ∷ c ∷ more) border)) lits
covered_more a b c more border [] h = tt
covered_more a b c more border (l ∷ lits) h = (
  wider (a == l.variable) (b == l.variable) (c == l.variable) (is_among more l.variable) (has border l) h.0,
  covered_more a b c more border lits h.1,
)

pub all_covered_more : (a b c : ℕ) (more : List ℕ) (border : List Literal) (cs : List Bounded) → AllByRecursion (λ x. AllByRecursion (IsCovered (group_by (a ∷ b ∷ c ∷ []) border)) x.lits) cs
    → AllByRecursion (λ x. AllByRecursion (IsCovered (group_by (a ∷ b ∷ c ∷ more) border)) x.lits) cs
all_covered_more a b c more border [] h = tt
all_covered_more a b c more border (x ∷ cs) h = (covered_more a b c more border x.lits h.0, all_covered_more a b c more border cs h.1)

abbrev pub drawn_border : List Literal
drawn_border = record { variable = 1; positive = false } ∷ record { variable = 2; positive = true } ∷ record { variable = 3; positive = false } ∷ []

abbrev pub many : List ℕ
many = 7 ∷ 8 ∷ 9 ∷ 10 ∷ 11 ∷ 12 ∷ 13 ∷ []

pub many-group : (aux : List ℕ) (taken : List Bounded) (border : List Literal) → aux ≡ 4 ∷ 5 ∷ 6 ∷ many → border ≡ drawn_border → AllByRecursion (λ c. is_clause c ≡ true) taken
    → AllByRecursion (λ x. AllByRecursion (IsCovered (group_by (4 ∷ 5 ∷ 6 ∷ []) drawn_border)) x.lits) taken → IsGroup (record { aux = aux; taken = taken; border = border })
many-group aux taken border e f clauses covered =
    subst (λ a. IsGroup (record { aux = a; taken = taken; border = border })) (sym e)
    (subst (λ b. IsGroup (record { aux = 4 ∷ 5 ∷ 6 ∷ many; taken = taken; border = b })) (sym f)
    (record {
      counted = search rules;
      aux = search rules;
      border = search rules;
      apart = search rules;
      clauses = clauses;
      covered = all_covered_more 4 5 6 many drawn_border taken covered;
    }))
