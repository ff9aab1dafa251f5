-- Rows of nodes that stay nodes, and orders that are a range of numbers.
use Rattle.std.proofs.Common.{ℕ, zero, suc, ◌≡◌, ◌+◌, ◌<◌, ◌≤◌, ◌==◌, ◌⊎◌, inl, inr, List, [], ◌∷◌, ◌++◌, All, length, map, nat_eq, refl, sym, ap, subst, ◌∙◌, arith}
use Rattle.std.specs.List.{IsDistinct, range_with_len}
use Rattle.std.proofs.lemmas.Bool.{eq-eqb, ne_eqb, cond-true, cond-false, cases_eq}
use Rattle.std.proofs.lemmas.List.Elements.{All-weaker}
use Rattle.std.proofs.lemmas.List.FromFn.{length-range_with_len, map-range_with_len_more}
use Rattle.std.proofs.Common.{length-append}
use Rattle.kn_diagram.specs.Diagrams.{Table, IsNode, Keeps, depth_in}
use Rattle.kn_diagram.proofs.TestLemmas.{range-distinct}

pub nodes_kept : (a b : Table) (nodes : List ℕ) → Keeps a b → All (IsNode a) nodes → All (IsNode b) nodes
nodes_kept a b nodes k h = All-weaker (IsNode a) (IsNode b) (λ w is. (k.nodes w is).there) nodes h

depth_at : (n a variable : ℕ) → a ≤ variable → variable < a + n → depth_in (range_with_len a n) variable + a ≡ variable
depth_at zero a variable low high = absurd (omega arith)
depth_at (suc n) a variable low high = by (cases_eq variable a) (depth_at n (a + 1) variable)
  where
    rest : ℕ
    rest = depth_in (range_with_len (a + 1) n) variable

    by : ((variable ≡ a) ⊎ (variable ≡ a → ⊥)) → (a + 1 ≤ variable → variable < a + 1 + n → rest + (a + 1) ≡ variable) → depth_in (range_with_len a (suc n)) variable + a ≡ variable
    by (inl e) below = omega (arith, e, cond-true (variable == a) 0 (1 + rest) (eq-eqb variable a e))
    by (inr x) below = omega (arith, cond-false (variable == a) 0 (1 + rest) (ne_eqb variable a x), below (omega arith) (omega arith))

pub within_order : (order : List ℕ) (n variable : ℕ) → order ≡ range_with_len 1 n → 1 ≤ variable → variable ≤ n → depth_in order variable < length order
within_order order n variable e low high =
    subst (λ o. depth_in o variable < length o) (sym e) (omega (arith, depth_at n 1 variable low (omega arith), length-range_with_len 1 n))

map_same : (xs : List ℕ) → map (λ x. x) xs ≡ xs
map_same [] = refl
map_same (x ∷ xs) = ap (λ ys. x ∷ ys) (map_same xs)

counts_on : (n : ℕ) → range_with_len 1 (n + 1) ≡ range_with_len 1 n ++ (n + 1) ∷ []
counts_on n = sym (map_same (range_with_len 1 (n + 1))) ∙ map-range_with_len_more (λ x. x) 1 n (n + 1) (omega arith) ∙ ap (λ xs. xs ++ (n + 1) ∷ []) (map_same (range_with_len 1 n))

-- a range takes the next number
pub range_more : (old new : List ℕ) (x : ℕ) → old ≡ range_with_len 1 (length old) → x ≡ length old + 1 → new ≡ old ++ x ∷ [] → new ≡ range_with_len 1 (length new)
range_more old new x is next more =
    more ∙ ap (λ y. old ++ y ∷ []) next ∙ ap (λ xs. xs ++ (length old + 1) ∷ []) is ∙ sym (counts_on (length old)) ∙ ap (range_with_len 1) (sym (ap length more ∙ length-append old (x ∷ [])))

pub range_distinct : (order : List ℕ) (n : ℕ) → order ≡ range_with_len 1 n → IsDistinct nat_eq order
range_distinct order n e = subst (IsDistinct nat_eq) (sym e) (range-distinct n 1)
