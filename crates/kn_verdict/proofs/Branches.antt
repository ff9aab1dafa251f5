-- The numbers of "if a variable then the one function, else the other", and values at which they are met.
use Rattle.std.proofs.Common.{◌≡◌, ℕ, ◌+◌, ◌≤◌, ◌<◌, ◌⊎◌, inl, inr, min, Bool, true, false, not, if◌then◌else◌, List, length, sym, ap, ◌∙◌, arith}
use Rattle.std.proofs.lemmas.Bool.{cases_Bool, cases_lt, cond-true, cond-false}
use Rattle.kn_logic.specs.Literals.{Literal, has, AreDifferent}
use Rattle.kn_diagram.specs.Diagrams.{with_value}
use Rattle.kn_verdict.specs.Numbers.{IsFewest, adds}
use Rattle.kn_verdict.proofs.Counts.{count, count_le, others, count-split, count-set, own-value, adds-not, adds-either}

module _ (lits : List Literal) (l : Literal) (different : AreDifferent lits) (there : has lits l ≡ true) where
  -- one side, which ignores the variable: where the variable is this value
  side_others : (g : (ℕ → Bool) → Bool) (want : Bool) (m : ℕ) → ((v : ℕ → Bool) (b : Bool) → g (with_value v l.variable b) ≡ g v) → IsFewest lits g want m
      → (v : ℕ → Bool) → g v ≡ want → m ≤ count v (others l.variable lits)
  side_others g want m free h v e =
      let low = h.bound (with_value v l.variable (not l.positive)) (free v (not l.positive) ∙ e) in
      omega (arith, low, count-set v lits l (not l.positive) different there, adds-not l)

  pub side-bound : (g : (ℕ → Bool) → Bool) (want : Bool) (m : ℕ) (b : Bool) → ((v : ℕ → Bool) (c : Bool) → g (with_value v l.variable c) ≡ g v) → IsFewest lits g want m
      → (v : ℕ → Bool) → g v ≡ want → v l.variable ≡ b → adds l b + m ≤ count v lits
  side-bound g want m b free h v e own =
      omega (arith, side_others g want m free h v e, count-split v lits l different there, ap (adds l) own)

  -- values that meet the number of a side meet, with the variable, the number of the whole
  pub side-met : (g : (ℕ → Bool) → Bool) (want : Bool) (m : ℕ) (b : Bool) → ((v : ℕ → Bool) (c : Bool) → g (with_value v l.variable c) ≡ g v) → IsFewest lits g want m
      → (v : ℕ → Bool) → g v ≡ want → count v lits ≡ m → count (with_value v l.variable b) lits ≡ adds l b + m
  side-met g want m b free h v e c =
      omega (arith, side_others g want m free h v e, c, count-split v lits l different there, count-set v lits l b different there)

  module _ (f high low : (ℕ → Bool) → Bool) (split : (v : ℕ → Bool) → f v ≡ (if v l.variable then high v else low v))
      (high_free : (v : ℕ → Bool) (b : Bool) → high (with_value v l.variable b) ≡ high v)
      (low_free : (v : ℕ → Bool) (b : Bool) → low (with_value v l.variable b) ≡ low v)
      (want : Bool) (h k : ℕ) (is_high : IsFewest lits high want h) (is_low : IsFewest lits low want k) where
    at_high : (v : ℕ → Bool) → v l.variable ≡ true → f v ≡ high v
    at_high v e = split v ∙ cond-true (v l.variable) (high v) (low v) e

    at_low : (v : ℕ → Bool) → v l.variable ≡ false → f v ≡ low v
    at_low v e = split v ∙ cond-false (v l.variable) (high v) (low v) e

    abbrev number : ℕ
    number = min (adds l true + h) (adds l false + k)

    pub branch-bound : (v : ℕ → Bool) → f v ≡ want → number ≤ count v lits
    branch-bound v e = by (cases_Bool (v l.variable))
      where
        by : ((v l.variable ≡ true) ⊎ (v l.variable ≡ false)) → number ≤ count v lits
        by (inl t) = omega (arith, side-bound high want h true high_free is_high v (sym (at_high v t) ∙ e) t)
        by (inr t) = omega (arith, side-bound low want k false low_free is_low v (sym (at_low v t) ∙ e) t)

    -- the wanted values of the side that has the lower number
    pub high-wanted : (v : ℕ → Bool) → high v ≡ want → f (with_value v l.variable true) ≡ want
    high-wanted v e = at_high (with_value v l.variable true) (own-value v l.variable true) ∙ high_free v true ∙ e

    pub low-wanted : (v : ℕ → Bool) → low v ≡ want → f (with_value v l.variable false) ≡ want
    low-wanted v e = at_low (with_value v l.variable false) (own-value v l.variable false) ∙ low_free v false ∙ e

    met : ((adds l true + h < adds l false + k) ⊎ (adds l false + k ≤ adds l true + h)) → number ≤ length lits → (v : ℕ → Bool) × (f v ≡ want) × (count v lits ≡ number)
    met (inl less) t =
        let (v, e, c) = is_high.met (omega arith) in
        (with_value v l.variable true, high-wanted v e, side-met high want h true high_free is_high v e c ∙ omega arith)
    met (inr less) t =
        let (v, e, c) = is_low.met (omega arith) in
        (with_value v l.variable false, low-wanted v e, side-met low want k false low_free is_low v e c ∙ omega arith)

    pub branch-fewest : IsFewest lits f want number
    branch-fewest = record {
      within = omega (arith, is_high.within, is_low.within, adds-either l);
      bound = branch-bound;
      met = met (cases_lt (adds l true + h) (adds l false + k));
    }

    -- the side with the lower number has values at which it is the wanted one
    pub chosen-some : (g : (ℕ → Bool) → Bool) (m : ℕ) (b : Bool) → IsFewest lits g want m → adds l b + m ≤ number → (u : ℕ → Bool) → f u ≡ want
        → (v : ℕ → Bool) × (g v ≡ want) × (count v lits ≡ m)
    chosen-some g m b h low u e = h.met (omega (arith, low, branch-bound u e, count_le u lits))

    -- and the fewest of them, with the variable, are the fewest of the whole
    pub chosen-fewest : (g : (ℕ → Bool) → Bool) (m : ℕ) (b : Bool) → ((v : ℕ → Bool) (c : Bool) → g (with_value v l.variable c) ≡ g v) → IsFewest lits g want m
        → adds l b + m ≤ number → (all : ℕ → Bool) → g all ≡ want → ((u : ℕ → Bool) → g u ≡ want → count all lits ≤ count u lits)
        → (u : ℕ → Bool) → f u ≡ want → count (with_value all l.variable b) lits ≤ count u lits
    chosen-fewest g m b free h low all e least u t =
        let (v, is, c) = chosen-some g m b h low u t in
        let same : count all lits ≡ m = omega (arith, least v is, c, h.bound all e) in
        omega (arith, side-met g want m b free h all e same, low, branch-bound u t)
