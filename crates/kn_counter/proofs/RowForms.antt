-- A counter is written row by row.
use Rattle.std.proofs.Common.{◌≡◌, ℕ, suc, ◌+◌, ◌-◌, ◌*◌, ◌≤◌, List, [], ◌∷◌, ◌++◌, refl, sym, ap, ap₂, ◌∙◌, arith, suc-mul}
use Rattle.std.specs.List.{flat_map}
use Rattle.kn_logic.specs.Literals.{Literal, negated}
use Rattle.kn_logic.specs.Formulas.{Problem}
use Rattle.kn_counter.specs.Counters.{counting, middle_row, rows_from, counter}
use Rattle.kn_counter.specs.Rows.{row_literal, first_at, middle_at, overflow_at, rows_at, with_clauses}
use Rattle.kn_counter.proofs.Adding.{clauses_twice}

-- the clauses of a literal between two rows
abbrev between : ℕ → ℕ → ℕ → Literal → List (List Literal)
between above here k x =
    (negated x ∷ row_literal here 1 ∷ [])
    ∷ (negated (row_literal above 1) ∷ row_literal here 1 ∷ [])
    ∷ (flat_map (λ j. (negated x ∷ negated (row_literal above (j - 1)) ∷ row_literal here j ∷ []) ∷ (negated (row_literal above j) ∷ row_literal here j ∷ []) ∷ []) (counting 2 (k - 1)) ++ overflow_at above k x ∷ [])

next_row : (base k i : ℕ) → 2 ≤ i → base + (i - 1) * k ≡ base + (i - 1 - 1) * k + k
next_row base k i h =
    let e : i - 1 ≡ suc (i - 1 - 1) = omega arith in
    let product : (i - 1) * k ≡ (i - 1 - 1) * k + k = ap (λ n. n * k) e ∙ suc-mul (i - 1 - 1) k in
    omega (arith, product)

middle-form : (base k i above : ℕ) (x : Literal) → 2 ≤ i → base + (i - 1 - 1) * k ≡ above → middle_row base k i x ≡ middle_at above k x
middle-form base k i above x h e =
    ap₂ (λ a b. between a b k x) e (next_row base k i h ∙ ap (λ a. a + k) e)

rows-form : (base k i above : ℕ) (xs : List Literal) → 2 ≤ i → base + (i - 1 - 1) * k ≡ above → rows_from base k i xs ≡ rows_at above k xs
rows-form base k i above [] h e = refl
rows-form base k i above (x ∷ []) h e = ap (λ a. overflow_at a k x ∷ []) e
rows-form base k i above (x ∷ y ∷ xs) h e =
    let back : i + 1 - 1 - 1 ≡ i - 1 = omega arith in
    let next : base + (i + 1 - 1 - 1) * k ≡ above + k = ap (λ n. base + n * k) back ∙ next_row base k i h ∙ ap (λ a. a + k) e in
    ap₂ (λ a b. a ++ b) (middle-form base k i above x h e) (rows-form base k (i + 1) (above + k) (y ∷ xs) (omega arith) next)

pub counter-form : (base k : ℕ) (x : Literal) (xs : List Literal) → counter base k (x ∷ xs) ≡ first_at base k x ++ rows_at base k xs
counter-form base k x xs =
    let none : base + (1 - 1) * k ≡ base = omega arith in
    ap₂ (λ a b. a ++ b) (ap (λ a. first_at a k x) none) (rows-form base k 2 base xs (omega arith) none)

pub counter-added : (front : List Literal) (old mid now : Problem) (base k : ℕ) (lits : List Literal) (x : Literal) (xs : List Literal) → lits ≡ x ∷ xs → mid ≡ with_clauses front old (first_at base k x) → now ≡ with_clauses front mid (rows_at base k xs) → now ≡ with_clauses front old (counter base k lits)
counter-added front old mid now base k lits x xs split a b =
    let form : counter base k lits ≡ first_at base k x ++ rows_at base k xs = ap (counter base k) split ∙ counter-form base k x xs in
    b ∙ ap (λ f. with_clauses front f (rows_at base k xs)) a ∙ clauses_twice front old (first_at base k x) (rows_at base k xs) ∙ ap (with_clauses front old) (sym form)
