-- Orders that are a range of numbers.
use Rattle.std.proofs.Common.{ℕ, zero, suc, ◌≡◌, ◌+◌, ◌<◌, ◌≤◌, ◌==◌, ◌⊎◌, inl, inr, false, List, length, nat_eq, sym, subst, arith}
use Rattle.std.specs.List.{AllByRecursion, IsDistinct, range_with_len}
use Rattle.std.proofs.lemmas.Bool.{eq-eqb, ne_eqb, cond-true, cond-false, cases_eq}
use Rattle.kn_diagram.specs.Diagrams.{depth_in}

depth_in-range : (n a variable : ℕ) → a ≤ variable → variable < a + n → depth_in (range_with_len a n) variable < n
depth_in-range zero a variable low high = absurd (omega arith)
depth_in-range (suc n) a variable low high = by (cases_eq variable a) (depth_in-range n (a + 1) variable)
  where
    rest : ℕ
    rest = depth_in (range_with_len (a + 1) n) variable

    by : ((variable ≡ a) ⊎ (variable ≡ a → ⊥)) → (a + 1 ≤ variable → variable < a + 1 + n → rest < n) → depth_in (range_with_len a (suc n)) variable < suc n
    by (inl e) below = omega (arith, cond-true (variable == a) 0 (1 + rest) (eq-eqb variable a e))
    by (inr x) below = omega (arith, cond-false (variable == a) 0 (1 + rest) (ne_eqb variable a x), below (omega arith) (omega arith))

-- each of the first seventeen variables is in their order
pub in_order : (order : List ℕ) (variable : ℕ) → order ≡ range_with_len 1 17 → 1 ≤ variable → variable < 18 → depth_in order variable < length order
in_order order variable e low high =
    subst (λ o. depth_in o variable < length o) (sym e) (depth_in-range 17 1 variable low (omega arith))

range-apart : (n a x : ℕ) → x < a → AllByRecursion (λ y. nat_eq x y ≡ false) (range_with_len a n)
range-apart zero a x l = tt
range-apart (suc n) a x l = (ne_eqb x a (λ e. omega arith), range-apart n (a + 1) x (omega arith))

pub range-distinct : (n a : ℕ) → IsDistinct nat_eq (range_with_len a n)
unfolding IsDistinct
range-distinct zero a = tt
range-distinct (suc n) a = (range-apart n (a + 1) a (omega arith), range-distinct n (a + 1))
