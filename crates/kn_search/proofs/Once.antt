-- Lists of numbers: which stand there, and whether each does once.
use Rattle.std.proofs.Common.{◌≡◌, ℕ, zero, suc, ◌<◌, ◌⊎◌, ◌++◌, true, false, eqb, List, [], ◌∷◌, length, take, get_or, refl, sym, subst, inl, inr, arith}
use Rattle.std.specs.List.{AllByRecursion}
use Rattle.std.proofs.lemmas.Bool.{or_cases, or_left, or_right, or_parts, cases_Bool, eqb-true, eq-eqb}
use Rattle.kn_search.specs.Searches.{contains, AreOnce}

pub contains-push : (ps : List ℕ) (p q : ℕ) → contains ps q ≡ true → contains (ps ++ p ∷ []) q ≡ true
contains-push [] p q h = absurd cc
contains-push (x ∷ ps) p q h =
    elim (or_cases (eqb x q) (contains ps q) h) [
      | inl s ↦ or_left (eqb x q) (contains (ps ++ p ∷ []) q) s
      | inr s ↦ or_right (eqb x q) (contains (ps ++ p ∷ []) q) (contains-push ps p q s)
    ]

pub contains-last : (ps : List ℕ) (p : ℕ) → contains (ps ++ p ∷ []) p ≡ true
contains-last [] p = or_left (eqb p p) false (eq-eqb p p refl)
contains-last (x ∷ ps) p = or_right (eqb x p) (contains (ps ++ p ∷ []) p) (contains-last ps p)

pub contains-either : (ps : List ℕ) (p q : ℕ) → contains (ps ++ p ∷ []) q ≡ true → (contains ps q ≡ true) ⊎ (p ≡ q)
contains-either [] p q h = elim (or_cases (eqb p q) false h) [ inl e ↦ inr (eqb-true p q e) | inr e ↦ absurd cc ]
contains-either (x ∷ ps) p q h =
    elim (or_cases (eqb x q) (contains (ps ++ p ∷ []) q) h) [
      | inl e ↦ inl (or_left (eqb x q) (contains ps q) e)
      | inr e ↦ elim (contains-either ps p q e) [ inl s ↦ inl (or_right (eqb x q) (contains ps q) s) | inr s ↦ inr s ]
    ]

-- what holds of each number
pub all-in : (P : ℕ → Type 0) (ps : List ℕ) (q : ℕ) → AllByRecursion P ps → contains ps q ≡ true → P q
all-in P [] q h k = absurd cc
all-in P (p ∷ ps) q h k = elim (or_cases (eqb p q) (contains ps q) k) [ inl s ↦ subst P (eqb-true p q s) h.0 | inr s ↦ all-in P ps q h.1 s ]

pub all-of : (P : ℕ → Type 0) (ps : List ℕ) → ((q : ℕ) → contains ps q ≡ true → P q) → AllByRecursion P ps
all-of P [] h = tt
all-of P (p ∷ ps) h = (h p (or_left (eqb p p) (contains ps p) (eq-eqb p p refl)), all-of P ps (λ q k. h q (or_right (eqb p q) (contains ps q) k)))

not_behind : (ps : List ℕ) (p q : ℕ) → contains ps q ≡ false → (p ≡ q → ⊥) → contains (ps ++ p ∷ []) q ≡ false
not_behind ps p q none d =
    elim (cases_Bool (contains (ps ++ p ∷ []) q)) [
      | inl s ↦ elim (contains-either ps p q s) [ inl t ↦ absurd cc | inr e ↦ absurd (d e) ]
      | inr s ↦ s
    ]

-- one number more, which is another
pub once-push : (ps : List ℕ) (p : ℕ) → AreOnce ps → contains ps p ≡ false → AreOnce (ps ++ p ∷ [])
once-push [] p h none = (refl, tt)
once-push (x ∷ ps) p h none =
    let parts = or_parts (eqb x p) (contains ps p) none in
    (not_behind ps p x h.0 (λ e. other x p parts.0 e), once-push ps p h.1 parts.1)
  where
    other : (x p : ℕ) → eqb x p ≡ false → p ≡ x → ⊥
    other x p h e = let t : eqb x p ≡ true = eq-eqb x p (sym e) in cc

stands_at : (ps : List ℕ) (k d : ℕ) → k < length ps → contains ps (get_or ps k d) ≡ true
stands_at [] k d less = absurd (omega (arith, less))
stands_at (p ∷ ps) zero d less = or_left (eqb p p) (contains ps p) (eq-eqb p p refl)
stands_at (p ∷ ps) (suc k) d less = or_right (eqb p (get_or ps k d)) (contains ps (get_or ps k d)) (stands_at ps k d (omega (arith, less)))

apart_from : (ps : List ℕ) (p q : ℕ) → contains ps p ≡ false → contains ps q ≡ true → eqb p q ≡ false
apart_from ps p q none there =
    elim (cases_Bool (eqb p q)) [
      | inl e ↦ (let t : contains ps p ≡ true = subst (λ (n : ℕ). contains ps n ≡ true) (sym (eqb-true p q e)) there in absurd cc)
      | inr e ↦ e
    ]

-- the number at a place does not stand before it
pub once-before : (ps : List ℕ) (k d : ℕ) → AreOnce ps → k < length ps → contains (take k ps) (get_or ps k d) ≡ false
once-before [] k d h less = absurd (omega (arith, less))
once-before (p ∷ ps) zero d h less = refl
once-before (p ∷ ps) (suc k) d h less =
    rw (apart_from ps p (get_or ps k d) h.0 (stands_at ps k d (omega (arith, less)))) (once-before ps k d h.1 (omega (arith, less)))
