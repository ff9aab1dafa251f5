-- Values that are set in a list, and functions of diagrams under them.
use Rattle.std.proofs.Common.{ℕ, ◌≡◌, ◌-◌, ◌≤◌, ◌==◌, Bool, true, false, cond, List, length, set, refl, sym, ap, ◌∙◌, arith}
use Rattle.std.specs.Prelude.{slice_set, slice_index}
use Rattle.std.proofs.lemmas.Bool.{cond-true, cond-false, eqb-true, eqb-false}
use Rattle.std.proofs.lemmas.List.{get_or-set_other, length-set}
use Rattle.std.proofs.lemmas.Grind.{get_or-set_at}
use Rattle.kn_logic.specs.Assignments.{value_of}
use Rattle.kn_diagram.specs.Diagrams.{Table, IsNode, HasNodes, with_value, function_of}
use Rattle.kn_rebuild.specs.Rebuilding.{AreAlike, IsOrderWithin}

pub set-value : (m : List Bool) (y : ℕ) (b : Bool) (x : ℕ) → 1 ≤ y → y ≤ length m → 1 ≤ x → value_of (slice_set m (y - 1) b) x ≡ with_value (value_of m) y b x
set-value m y b x low high first = by (x == y) refl
  where
    by : (t : Bool) → (x == y) ≡ t → value_of (slice_set m (y - 1) b) x ≡ with_value (value_of m) y b x
    by true e = let same = eqb-true x y e in get_or-set_at m (y - 1) (x - 1) b false (omega (arith, same)) (omega (arith, low, high)) ∙ sym (cond-true (x == y) b (value_of m x) e)
    by false e =
        let other = eqb-false x y e in
        get_or-set_other m (y - 1) (x - 1) b false (λ k. other (omega (arith, k, low, first))) ∙ sym (cond-false (x == y) b (value_of m x) e)

-- a function of diagrams does not see what no variable has
pub alike-function : (d : Table) (f vars : ℕ) (v w : ℕ → Bool) → HasNodes d → IsNode d f → IsOrderWithin vars d → AreAlike v w → function_of d f v ≡ function_of d f w
alike-function d f vars v w nodes there order alike = nodes.below f v w there (λ k low inside. sym (alike (slice_index d.order k) (order k inside).0))

pub with-alike : (v w : ℕ → Bool) (y : ℕ) (b : Bool) → AreAlike v w → AreAlike (with_value v y b) (with_value w y b)
with-alike v w y b alike = λ x h. ap (λ q. cond (x == y) b q) (alike x h)

twice : (v : ℕ → Bool) (y x : ℕ) (b c : Bool) (t : Bool) → (x == y) ≡ t → with_value (with_value v y b) y c x ≡ with_value v y c x
twice v y x b c true e = cond-true (x == y) c (with_value v y b x) e ∙ sym (cond-true (x == y) c (v x) e)
twice v y x b c false e = ap (λ q. cond (x == y) c q) (cond-false (x == y) b (v x) e)

-- a variable that was set to "true", and then to what a function is
pub variable-alike : (d : Table) (f y : ℕ) (m m1 m2 : List Bool) (h : Bool) → HasNodes d → IsNode d f → IsOrderWithin (length m) d → 1 ≤ y → y ≤ length m
    → m1 ≡ slice_set m (y - 1) true → h ≡ function_of d f (value_of m1) → m2 ≡ slice_set m1 (y - 1) h
    → AreAlike (with_value (value_of m) y (function_of d f (with_value (value_of m) y true))) (value_of m2)
variable-alike d f y m m1 m2 h nodes there order low high e1 eh e2 x first =
    let long : length m1 ≡ length m = ap (λ k. length k) e1 ∙ length-set m (y - 1) true in
    let one : AreAlike (with_value (value_of m) y true) (value_of m1) = λ z k. ap (λ q. value_of q z) e1 ∙ set-value m y true z low high k in
    let c : h ≡ function_of d f (with_value (value_of m) y true) = eh ∙ sym (alike-function d f (length m) (with_value (value_of m) y true) (value_of m1) nodes there order one) in
    ap (λ q. value_of q x) e2 ∙ set-value m1 y h x low (omega (arith, long, high)) first
    ∙ ap (λ q. cond (x == y) h q) (one x first) ∙ twice (value_of m) y x true h (x == y) refl
    ∙ ap (λ b. with_value (value_of m) y b x) c

-- one bucket more
pub bucket-alike : (d : Table) (f y vars : ℕ) (u v w : ℕ → Bool) → HasNodes d → IsNode d f → IsOrderWithin vars d → AreAlike u v
    → AreAlike (with_value v y (function_of d f (with_value v y true))) w → AreAlike (with_value u y (function_of d f (with_value u y true))) w
bucket-alike d f y vars u v w nodes there order alike set x first =
    set x first ∙ ap (λ q. cond (x == y) (function_of d f (with_value v y true)) q) (alike x first)
    ∙ ap (λ b. with_value u y b x) (sym (alike-function d f vars (with_value u y true) (with_value v y true) nodes there order (with-alike u v y true alike)))
