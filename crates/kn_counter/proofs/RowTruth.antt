-- Under "s(i, j) is true where at least j of the first i literals are" the clauses of a counter for at most k
-- hold where at most k literals are true; and where the clauses hold, at most k literals are true.
use Rattle.std.proofs.Common.{◌≡◌, ℕ, ◌+◌, ◌-◌, ◌≤◌, Bool, true, false, cond, leb, List, [], ◌∷◌, ◌++◌, flat_map, sym, ap, subst, ◌∙◌, inl, inr, arith, leb-true, le-leb}
use Rattle.std.proofs.lemmas.Bool.{cases_Bool, cases_lt}
use Rattle.kn_logic.proofs.Public.{All-append}
use Rattle.kn_logic.specs.Literals.{Literal, negated}
use Rattle.kn_logic.specs.Assignments.{value_of, is_true, true_places}
use Rattle.kn_counter.specs.Counters.{counting}
use Rattle.kn_counter.specs.Rows.{row_literal, first_at, carried_at, overflow_at, middle_at, rows_at}
use Rattle.kn_counter.proofs.ClauseTruth.{SomeTrue, AllTrue, true-first, implies, implied, true-alone, all-parts, each-mapped, each-joined, joined-at}

-- one where the literal is true
abbrev pub one_if : List Bool → Literal → ℕ
one_if values x = cond (is_true values x) 1 0

one-true : (values : List Bool) (x : Literal) → is_true values x ≡ true → one_if values x ≡ 1
one-true values x e = ap (λ t. cond t 1 0) e

one-false : (values : List Bool) (x : Literal) → is_true values x ≡ false → one_if values x ≡ 0
one-false values x e = ap (λ t. cond t 1 0) e

one-le : (values : List Bool) (x : Literal) → one_if values x ≤ 1
one-le values x = elim (cases_Bool (is_true values x)) [ inl e ↦ omega (arith, one-true values x e) | inr e ↦ omega (arith, one-false values x e) ]

-- the j-th variable of the row is true just where j is at most the count
abbrev pub IsRow : List Bool → ℕ → ℕ → ℕ → Type 0
IsRow values start k count = (j : ℕ) → 1 ≤ j → j ≤ k → value_of values (start + j) ≡ leb j count

row-read : (values : List Bool) (start k count j : ℕ) → IsRow values start k count → 1 ≤ j → j ≤ k → value_of values (start + j) ≡ true → j ≤ count
row-read values start k count j row low high e = leb-true j count (sym (row j low high) ∙ e)

row-true : (values : List Bool) (start k count j : ℕ) → IsRow values start k count → 1 ≤ j → j ≤ k → j ≤ count → value_of values (start + j) ≡ true
row-true values start k count j row low high le = row j low high ∙ le-leb j count le

-- the rows of these literals, but the last, have the counts; `count` is that above them
abbrev pub AreRows : List Bool → ℕ → ℕ → ℕ → List Literal → Type 0
AreRows values start k count [] = Unit {0}
AreRows values start k count (x ∷ []) = Unit {0}
AreRows values start k count (x ∷ y ∷ xs) = IsRow values start k (one_if values x + count) × AreRows values (start + k) k (one_if values x + count) (y ∷ xs)

carried-true : (values : List Bool) (start k count j : ℕ) (x : Literal) → IsRow values start k count → IsRow values (start + k) k (one_if values x + count) → 2 ≤ j → j ≤ k → AllTrue values (carried_at start k x j)
carried-true values start k count j x above own low high = (
  implies values x (negated (row_literal start (j - 1)) ∷ row_literal (start + k) j ∷ [])
      (λ e. implies values (row_literal start (j - 1)) (row_literal (start + k) j ∷ [])
      (λ s. let le = row-read values start k count (j - 1) above (omega arith) (omega arith) s in
      true-first values (row_literal (start + k) j) [] (row-true values (start + k) k (one_if values x + count) j own (omega arith) high (omega (arith, one-true values x e))))),
  (
    implies values (row_literal start j) (row_literal (start + k) j ∷ [])
        (λ s. let le = row-read values start k count j above (omega arith) high s in
        true-first values (row_literal (start + k) j) [] (row-true values (start + k) k (one_if values x + count) j own (omega arith) high (omega arith))),
    tt,
  ),
)

overflow-true : (values : List Bool) (start k count : ℕ) (x : Literal) → 1 ≤ k → IsRow values start k count → one_if values x + count ≤ k → SomeTrue values (overflow_at start k x)
overflow-true values start k count x some above le =
    implies values x (negated (row_literal start k) ∷ [])
    (λ e. implies values (row_literal start k) []
    (λ s. let full = row-read values start k count k above some (omega arith) s in absurd (omega (arith, one-true values x e))))

middle-true : (values : List Bool) (start k count : ℕ) (x : Literal) → 1 ≤ k → IsRow values start k count → IsRow values (start + k) k (one_if values x + count) → one_if values x + count ≤ k → AllTrue values (middle_at start k x)
middle-true values start k count x some above own le = (
  implies values x (row_literal (start + k) 1 ∷ [])
      (λ e. true-first values (row_literal (start + k) 1) [] (row-true values (start + k) k (one_if values x + count) 1 own (omega arith) some (omega (arith, one-true values x e)))),
  (
    implies values (row_literal start 1) (row_literal (start + k) 1 ∷ [])
        (λ s. let one = row-read values start k count 1 above (omega arith) some s in
        true-first values (row_literal (start + k) 1) [] (row-true values (start + k) k (one_if values x + count) 1 own (omega arith) some (omega arith))),
    All-append (SomeTrue values) (flat_map (carried_at start k x) (counting 2 (k - 1))) (overflow_at start k x ∷ [])
        (each-joined values (carried_at start k x) 2 (k - 1) (λ j low high. carried-true values start k count j x above own low (omega arith)))
        (overflow-true values start k count x some above le, tt),
  ),
)

pub rows-true : (values : List Bool) (start k count : ℕ) (xs : List Literal) → 1 ≤ k → IsRow values start k count → AreRows values (start + k) k count xs → true_places values xs + count ≤ k → AllTrue values (rows_at start k xs)
rows-true values start k count [] some above rows le = tt
rows-true values start k count (x ∷ []) some above rows le = (overflow-true values start k count x some above (omega arith), tt)
rows-true values start k count (x ∷ y ∷ xs) some above rows le =
    All-append (SomeTrue values) (middle_at start k x) (rows_at (start + k) k (y ∷ xs))
    (middle-true values start k count x some above rows.0 (omega arith))
    (rows-true values (start + k) k (one_if values x + count) (y ∷ xs) some rows.0 rows.1 (omega arith))

first-true : (values : List Bool) (start k : ℕ) (x : Literal) → 1 ≤ k → IsRow values start k (one_if values x + 0) → AllTrue values (first_at start k x)
first-true values start k x some own = (
  implies values x (row_literal start 1 ∷ [])
      (λ e. true-first values (row_literal start 1) [] (row-true values start k (one_if values x + 0) 1 own (omega arith) some (omega (arith, one-true values x e)))),
  each-mapped values (λ j. negated (row_literal start j) ∷ []) 2 (k - 1)
      (λ j low high. implies values (row_literal start j) []
      (λ s. let le = row-read values start k (one_if values x + 0) j own (omega arith) (omega arith) s in absurd (omega (arith, one-le values x)))),
)

-- the clauses of the counter hold where at most k literals are true
pub counter-true : (values : List Bool) (start k : ℕ) (x y : Literal) (xs : List Literal) → 1 ≤ k → AreRows values start k 0 (x ∷ y ∷ xs) → true_places values (x ∷ y ∷ xs) ≤ k → AllTrue values (first_at start k x ++ rows_at start k (y ∷ xs))
counter-true values start k x y xs some rows le =
    All-append (SomeTrue values) (first_at start k x) (rows_at start k (y ∷ xs))
    (first-true values start k x some rows.0)
    (rows-true values start k (one_if values x + 0) (y ∷ xs) some rows.0 rows.1 (omega arith))

-- the j-th variable of the row is true where j is at most the count
abbrev pub HasRow : List Bool → ℕ → ℕ → ℕ → Type 0
HasRow values start k count = (j : ℕ) → 1 ≤ j → j ≤ k → j ≤ count → value_of values (start + j) ≡ true

overflow-counts : (values : List Bool) (start k count : ℕ) (x : Literal) → 1 ≤ k → HasRow values start k count → count ≤ k → SomeTrue values (overflow_at start k x) → one_if values x + count ≤ k
overflow-counts values start k count x some above le h =
    elim (cases_Bool (is_true values x)) [
      | inl e ↦ (let rest = implied values x (negated (row_literal start k) ∷ []) h e in
          elim (cases_lt count k) [
            | inl lt ↦ omega (arith, one-true values x e)
            | inr ge ↦ (let none = implied values (row_literal start k) [] rest (above k some (omega arith) ge) in absurd (omega (arith, none)))
          ])
      | inr e ↦ omega (arith, one-false values x e)
    ]

-- the next row
middle-carries : (values : List Bool) (start k count : ℕ) (x : Literal) → 1 ≤ k → HasRow values start k count → AllTrue values (middle_at start k x) → HasRow values (start + k) k (one_if values x + count)
middle-carries values start k count x some above h j low high le =
    let parts = all-parts (SomeTrue values) (flat_map (carried_at start k x) (counting 2 (k - 1))) (overflow_at start k x ∷ []) h.1.1 in
    let carried : 2 ≤ j → AllTrue values (carried_at start k x j) = λ two. joined-at values (carried_at start k x) 2 (k - 1) j two (omega arith) parts.0 in
    elim (cases_lt 1 j) [
      | inl two ↦ elim (cases_Bool (is_true values x)) [
        | inl e ↦ true-alone values (row_literal (start + k) j) (implied values (row_literal start (j - 1)) (row_literal (start + k) j ∷ [])
            (implied values x (negated (row_literal start (j - 1)) ∷ row_literal (start + k) j ∷ []) (carried two).0 e)
            (above (j - 1) (omega arith) (omega arith) (omega (arith, one-true values x e))))
        | inr e ↦ true-alone values (row_literal (start + k) j) (implied values (row_literal start j) (row_literal (start + k) j ∷ []) (carried two).1.0
            (above j low high (omega (arith, one-false values x e))))
      ]
      | inr one ↦ (let is : j ≡ 1 = omega arith in
          subst (λ n. value_of values (start + k + n) ≡ true) (sym is) (elim (cases_Bool (is_true values x)) [
            | inl e ↦ true-alone values (row_literal (start + k) 1) (implied values x (row_literal (start + k) 1 ∷ []) h.0 e)
            | inr e ↦ true-alone values (row_literal (start + k) 1) (implied values (row_literal start 1) (row_literal (start + k) 1 ∷ []) h.1.0
                (above 1 (omega arith) some (omega (arith, one-false values x e))))
          ]))
    ]

middle-counts : (values : List Bool) (start k count : ℕ) (x : Literal) → 1 ≤ k → HasRow values start k count → count ≤ k → AllTrue values (middle_at start k x) → one_if values x + count ≤ k
middle-counts values start k count x some above le h =
    let parts = all-parts (SomeTrue values) (flat_map (carried_at start k x) (counting 2 (k - 1))) (overflow_at start k x ∷ []) h.1.1 in
    overflow-counts values start k count x some above le parts.1.0

pub rows-count : (values : List Bool) (start k count : ℕ) (xs : List Literal) → 1 ≤ k → HasRow values start k count → count ≤ k → AllTrue values (rows_at start k xs) → true_places values xs + count ≤ k
rows-count values start k count [] some above le h = omega arith
rows-count values start k count (x ∷ []) some above le h = omega (arith, overflow-counts values start k count x some above le h.0)
rows-count values start k count (x ∷ y ∷ xs) some above le h =
    let parts = all-parts (SomeTrue values) (middle_at start k x) (rows_at (start + k) k (y ∷ xs)) h in
    let next = middle-counts values start k count x some above le parts.0 in
    omega (arith, rows-count values (start + k) k (one_if values x + count) (y ∷ xs) some (middle-carries values start k count x some above parts.0) next parts.1)

first-row : (values : List Bool) (start k : ℕ) (x : Literal) → AllTrue values (first_at start k x) → HasRow values start k (one_if values x)
first-row values start k x h j low high le =
    elim (cases_Bool (is_true values x)) [
      | inl e ↦ (let is : j ≡ 1 = omega (arith, one-le values x) in
          subst (λ n. value_of values (start + n) ≡ true) (sym is) (true-alone values (row_literal start 1) (implied values x (row_literal start 1 ∷ []) h.0 e)))
      | inr e ↦ absurd (omega (arith, one-false values x e))
    ]

-- where the clauses of the counter hold, at most k literals are true
pub counter-counts : (values : List Bool) (start k : ℕ) (x : Literal) (xs : List Literal) → 1 ≤ k → AllTrue values (first_at start k x ++ rows_at start k xs) → true_places values (x ∷ xs) ≤ k
counter-counts values start k x xs some h =
    let parts = all-parts (SomeTrue values) (first_at start k x) (rows_at start k xs) h in
    omega (arith, rows-count values start k (one_if values x) xs some (first-row values start k x parts.0) (omega (arith, one-le values x)) parts.1)
