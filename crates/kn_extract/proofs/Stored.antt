-- From a formula to a store and back, constraint by constraint.
use Rattle.std.proofs.Common.{◌≡◌, ℕ, ◌+◌, ◌≤◌, ◌<◌, ◌==◌, Bool, true, false, cond, List, [], ◌∷◌, ◌++◌, length, filter, take, Some, None, refl, sym, ap, ap₂, subst, ◌∙◌, inl, inr, arith, length-append}
use Rattle.std.specs.Prelude.{◌⊎◌, nat_le, option_to_list, slice_index_or, IfSome}
use Rattle.std.specs.List.{AllByRecursion}
use Rattle.std.proofs.lemmas.Bool.{cases_order, cond-true, cond-false, eq-eqb, ne_eqb, le-leb, lt-leb}
use Rattle.std.proofs.lemmas.Option.{slice_get-get_or}
use Rattle.std.proofs.lemmas.Grind.{take_at_read}
use Rattle.kn_logic.specs.Constraints.{Bounded, Fits}
use Rattle.kn_logic.specs.Formulas.{Problem}
use Rattle.kn_logic.proofs.Public.{All-at}
use Rattle.kn_store.specs.Stores.{Numbered, Stored, constraints_of, ids_of, constraint_at}
use Rattle.kn_store.proofs.Public.{all-one, from-map, Rises}
use Rattle.kn_extract.specs.Extractions.{numbered, stored_of}
use Rattle.kn_extract.proofs.Lists.{filter-yes, filter-no}
use Rattle.kn_extract.proofs.Moments.{numbered-end}

abbrev pub problem : ℕ → List Bounded → Problem
problem vars cs = record { vars = vars; constraints = cs }

-- a store with one constraint more
abbrev pub with_one : Stored → Bounded → Stored
with_one s c = record { vars = s.vars; added = s.added + 1; live = s.live ++ record { id = s.added + 1; constraint = c } ∷ [] }

pub stored-one : (vars : ℕ) (cs : List Bounded) (c : Bounded) → with_one (stored_of (problem vars cs)) c ≡ stored_of (problem vars (cs ++ c ∷ []))
stored-one vars cs c =
    let long : length cs + 1 ≡ length (cs ++ c ∷ []) = sym (length-append cs (c ∷ [])) in
    ap (λ n. record { vars = vars; added = n; live = numbered 0 cs ++ record { id = length cs + 1; constraint = c } ∷ [] }) long
    ∙ ap (λ n. record { vars = vars; added = length (cs ++ c ∷ []); live = numbered 0 cs ++ record { id = n; constraint = c } ∷ [] }) {x = length cs + 1} {y = 0 + length cs + 1} (omega arith)
    ∙ ap (λ z. record { vars = vars; added = length (cs ++ c ∷ []); live = z }) (sym (numbered-end 0 cs c))

-- an element by its place
pub all-item : {X : Type 0} (P : X → Type 0) (xs : List X) (i : ℕ) (x : X) → AllByRecursion P xs → i < length xs → x ≡ slice_index_or xs i x → P x
all-item P xs i x h low e = subst P (sym e) (subst (λ o. IfSome o P) (slice_get-get_or xs i x low) (All-at P xs i h))

pub taken-next : {X : Type 0} (xs : List X) (i : ℕ) (x : X) → i < length xs → x ≡ slice_index_or xs i x → take (i + 1) xs ≡ take i xs ++ x ∷ []
taken-next xs i x low e = (take_at_read xs i x low).1 ∙ ap (λ z. take i xs ++ z ∷ []) (sym e)

-- ---- the constraints whose ids are no higher than a number

abbrev pub up_to : ℕ → List Numbered → List Bounded
up_to n live = constraints_of (filter (λ p. nat_le p.id n) live)

pub none-up : (n : ℕ) (live : List Numbered) → AllByRecursion (λ p. n < p.id) live → up_to n live ≡ []
none-up n [] h = refl
none-up n (p ∷ ps) h = ap constraints_of (filter-no (λ q. nat_le q.id n) p ps (lt-leb p.id n h.0)) ∙ none-up n ps h.1

pub all-up : (n : ℕ) (live : List Numbered) → AllByRecursion (λ p. p.id ≤ n) live → up_to n live ≡ constraints_of live
all-up n [] h = refl
all-up n (p ∷ ps) h = ap constraints_of (filter-yes (λ q. nat_le q.id n) p ps (le-leb p.id n h.0)) ∙ ap (λ z. p.constraint ∷ z) (all-up n ps h.1)

absent : (live : List Numbered) (id : ℕ) → AllByRecursion (λ p. id < p.id) live → constraint_at live id ≡ None
absent [] id h = refl
absent (p ∷ ps) id h = cond-false (p.id == id) (Some p.constraint) (constraint_at ps id) (ne_eqb p.id id (λ e. absurd (omega (arith, e, h.0)))) ∙ absent ps id h.1

pub up-next : (n : ℕ) (live : List Numbered) → Rises (ids_of live) → up_to (n + 1) live ≡ up_to n live ++ option_to_list (constraint_at live (n + 1))
up-next n [] r = refl
up-next n (p ∷ ps) r = at (cases_order p.id (n + 1)) (up-next n ps r.1)
  where
    above : AllByRecursion (λ q. p.id < q.id) ps
    above = from-map (λ q. q.id) (λ y. p.id < y) ps r.0

    later : n + 1 ≤ p.id → AllByRecursion (λ q. n + 1 < q.id) ps
    later low = all-one (λ q. p.id < q.id) (λ q. n + 1 < q.id) (λ q k. omega (arith, low, k)) ps above

    sooner : n + 1 ≤ p.id → AllByRecursion (λ q. n < q.id) (p ∷ ps)
    sooner low = (omega (arith, low), all-one (λ q. p.id < q.id) (λ q. n < q.id) (λ q k. omega (arith, low, k)) ps above)

    at : (p.id ≡ n + 1) ⊎ ((p.id < n + 1) ⊎ (n + 1 < p.id)) → up_to (n + 1) ps ≡ up_to n ps ++ option_to_list (constraint_at ps (n + 1)) → up_to (n + 1) (p ∷ ps) ≡ up_to n (p ∷ ps) ++ option_to_list (constraint_at (p ∷ ps) (n + 1))
    at (inl e) more =
        let low : n + 1 ≤ p.id = omega (arith, e) in
        ap constraints_of (filter-yes (λ q. nat_le q.id (n + 1)) p ps (le-leb p.id (n + 1) (omega (arith, e)))) ∙ ap (λ z. p.constraint ∷ z) (none-up (n + 1) ps (later low))
        ∙ ap₂ (λ a o. a ++ option_to_list o) (sym (none-up n (p ∷ ps) (sooner low))) (sym (cond-true (p.id == n + 1) (Some p.constraint) (constraint_at ps (n + 1)) (eq-eqb p.id (n + 1) e)))
    at (inr (inl low)) more =
        ap constraints_of (filter-yes (λ q. nat_le q.id (n + 1)) p ps (le-leb p.id (n + 1) (omega (arith, low)))) ∙ ap (λ z. p.constraint ∷ z) more
        ∙ ap₂ (λ a o. a ++ option_to_list o) (sym (ap constraints_of (filter-yes (λ q. nat_le q.id n) p ps (le-leb p.id n (omega (arith, low))))))
        (sym (cond-false (p.id == n + 1) (Some p.constraint) (constraint_at ps (n + 1)) (ne_eqb p.id (n + 1) (λ e. absurd (omega (arith, e, low))))))
    at (inr (inr high)) more =
        let low : n + 1 ≤ p.id = omega (arith, high) in
        none-up (n + 1) (p ∷ ps) (high, later low)
        ∙ ap₂ (λ a o. a ++ option_to_list o) (sym (none-up n (p ∷ ps) (sooner low)))
        (sym (absent (p ∷ ps) (n + 1) (high, later low)))

pub found-fits : (vars : ℕ) (live : List Numbered) (id : ℕ) → AllByRecursion (Fits vars) (constraints_of live) → IfSome (constraint_at live id) (Fits vars)
found-fits vars [] id h = tt
found-fits vars (p ∷ ps) id h = at (p.id == id) (found-fits vars ps id h.1)
  where
    at : (t : Bool) → IfSome (constraint_at ps id) (Fits vars) → IfSome (cond t (Some p.constraint) (constraint_at ps id)) (Fits vars)
    at true more = h.0
    at false more = more
