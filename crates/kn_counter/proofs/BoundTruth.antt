-- The clauses for "at least so many of these literals", in each of their forms.
use Rattle.std.proofs.Common.{◌≡◌, ℕ, zero, suc, ◌+◌, ◌-◌, ◌*◌, ◌≤◌, ◌<◌, Bool, true, false, not, cond, eqb, leb, ltb, List, [], ◌∷◌, ◌++◌, length, get_or, map, refl, sym, ap, subst, ◌∙◌, inl, inr, arith, suc-mul, length-append, append_assoc, ap₂}
use Rattle.std.specs.List.{AllByRecursion}
use Rattle.std.proofs.lemmas.Bool.{cases_Bool, cond_both, and_from, eqb-true, eqb-false, ltb-true, ltb-false, lt-ltb}
use Rattle.std.proofs.lemmas.List.{get_or-append-add}
use Rattle.kn_logic.proofs.Public.{true-negated}
use Rattle.kn_logic.specs.Literals.{Literal, negated}
use Rattle.kn_logic.specs.Assignments.{is_true, true_places}
use Rattle.kn_counter.specs.Counters.{counting, counter, is_counted, bound_clauses}
use Rattle.kn_counter.proofs.GridLemmas.{places-le-length}
use Rattle.kn_counter.proofs.RowForms.{counter-form}
use Rattle.kn_counter.proofs.ClauseTruth.{AllTrue, true-first, true-alone}
use Rattle.kn_counter.proofs.RowTruth.{one_if, IsRow, AreRows, counter-true, counter-counts}

-- negated literals
not-counts : (t : Bool) → cond (not t) 1 0 + cond t 1 0 ≡ 1
not-counts true = refl
not-counts false = refl

pub negations-count : (values : List Bool) (lits : List Literal) → true_places values (map negated lits) + true_places values lits ≡ length lits
negations-count values [] = refl
negations-count values (l ∷ lits) =
    let one : cond (is_true values (negated l)) 1 0 + cond (is_true values l) 1 0 ≡ 1 = ap {B = ℕ} (λ t. cond t 1 0 + cond (is_true values l) 1 0) (true-negated values l) ∙ not-counts (is_true values l) in
    omega (arith, one, negations-count values lits)

pub length-negations : (lits : List Literal) → length (map negated lits) ≡ length lits
length-negations [] = refl
length-negations (l ∷ lits) = ap suc (length-negations lits)

-- the values of a row, and of the rows of all literals but the last
abbrev pub row_values : ℕ → ℕ → List Bool
row_values count k = map (λ j. leb j count) (counting 1 k)

abbrev pub counter_values : List Bool → ℕ → ℕ → List Literal → List Bool
counter_values values k count [] = []
counter_values values k count (x ∷ []) = []
counter_values values k count (x ∷ y ∷ xs) = row_values (one_if values x + count) k ++ counter_values values k (one_if values x + count) (y ∷ xs)

length-counting : (test : ℕ → Bool) (first count : ℕ) → length (map test (counting first count)) ≡ count
length-counting test first zero = refl
length-counting test first (suc count) = ap suc (length-counting test (first + 1) count)

get-counting : (test : ℕ → Bool) (first count i : ℕ) (more : List Bool) → i < count → get_or (map test (counting first count) ++ more) i false ≡ test (first + i)
get-counting test first zero i more h = absurd (omega arith)
get-counting test first (suc count) zero more h = let e : first + 0 ≡ first = omega arith in sym (ap test e)
get-counting test first (suc count) (suc i) more h =
    let e : first + 1 + i ≡ first + suc i = omega arith in
    get-counting test (first + 1) count i more (omega arith) ∙ ap test e

pub length-counter : (values : List Bool) (k count : ℕ) (xs : List Literal) → length (counter_values values k count xs) ≡ (length xs - 1) * k
length-counter values k count [] = omega arith
length-counter values k count (x ∷ []) = omega arith
length-counter values k count (x ∷ y ∷ xs) =
    let row = length-append (row_values (one_if values x + count) k) (counter_values values k (one_if values x + count) (y ∷ xs)) in
    let rest = length-counter values k (one_if values x + count) (y ∷ xs) in
    let own = length-counting (λ j. leb j (one_if values x + count)) 1 k in
    let less : length (y ∷ xs) - 1 ≡ length xs = omega arith in
    let all : length (x ∷ y ∷ xs) - 1 ≡ suc (length xs) = omega arith in
    let product = suc-mul (length xs) k in
    let rest-product : length (counter_values values k (one_if values x + count) (y ∷ xs)) ≡ length xs * k = rest ∙ ap (λ n. n * k) less in
    let all-product : (length (x ∷ y ∷ xs) - 1) * k ≡ length xs * k + k = ap (λ n. n * k) all ∙ product in
    omega (arith, row, own, rest-product, all-product)

row-stands : (whole front back : List Bool) (start k count : ℕ) → whole ≡ front ++ (row_values count k ++ back) → length front ≡ start → IsRow whole start k count
row-stands whole front back start k count is long j low high =
    let place : start + j - 1 ≡ length front + (j - 1) = omega (arith, long) in
    let number : 1 + (j - 1) ≡ j = omega arith in
    ap (λ w. get_or w (start + j - 1) false) is
    ∙ ap (λ i. get_or (front ++ (row_values count k ++ back)) i false) place
    ∙ get_or-append-add front (row_values count k ++ back) (j - 1) false
    ∙ get-counting (λ n. leb n count) 1 k (j - 1) back (omega arith)
    ∙ ap (λ n. leb n count) number

-- both assignments give these literals the same values
abbrev pub AreSame : List Bool → List Bool → List Literal → Type 0
AreSame whole values lits = AllByRecursion (λ l. is_true whole l ≡ is_true values l) lits

pub rows-stand : (whole values front back : List Bool) (start k count : ℕ) (xs : List Literal) → whole ≡ front ++ (counter_values values k count xs ++ back) → length front ≡ start → AreSame whole values xs → AreRows whole start k count xs
rows-stand whole values front back start k count [] is long same = tt
rows-stand whole values front back start k count (x ∷ []) is long same = tt
rows-stand whole values front back start k count (x ∷ y ∷ xs) is long same =
    let next : ℕ = one_if values x + count in
    let counts : one_if whole x + count ≡ next = ap {B = ℕ} (λ t. cond t 1 0 + count) same.0 in
    let row = row_values next k in
    let rest = counter_values values k next (y ∷ xs) in
    let first : whole ≡ front ++ (row ++ (rest ++ back)) = is ∙ ap (λ w. front ++ w) (append_assoc row rest back) in
    let later : whole ≡ (front ++ row) ++ (rest ++ back) = first ∙ sym (append_assoc front row (rest ++ back)) in
    let grown : length (front ++ row) ≡ start + k = length-append front row ∙ ap₂ (λ a b. a + b) long (length-counting (λ j. leb j next) 1 k) in
    subst (λ n. IsRow whole start k n × AreRows whole (start + k) k n (y ∷ xs)) (sym counts)
    (row-stands whole front (rest ++ back) start k next first long, rows-stand whole values (front ++ row) back (start + k) k next (y ∷ xs) later grown same.1)

-- all of the literals
pub units-true : (values : List Bool) (lits : List Literal) → length lits ≤ true_places values lits → AllTrue values (map (λ l. l ∷ []) lits)
units-true values [] h = tt
units-true values (l ∷ lits) h =
    let few = places-le-length values lits in
    elim (cases_Bool (is_true values l)) [
      | inl e ↦ (let one = ap {B = ℕ} (λ t. cond t 1 0) e in (true-first values l [] e, units-true values lits (omega (arith, one, h))))
      | inr e ↦ (let none = ap {B = ℕ} (λ t. cond t 1 0) e in absurd (omega (arith, none, few, h)))
    ]

pub units-count : (values : List Bool) (lits : List Literal) → AllTrue values (map (λ l. l ∷ []) lits) → length lits ≤ true_places values lits
units-count values [] h = omega arith
units-count values (l ∷ lits) h =
    let one = ap {B = ℕ} (λ t. cond t 1 0) (true-alone values l h.0) in
    omega (arith, one, units-count values lits h.1)

-- some of the literals, but not all
many-true : (values : List Bool) (base bound : ℕ) (lits : List Literal) → 2 ≤ bound → bound < length lits → bound ≤ true_places values lits → AreRows values base (length lits - bound) 0 (map negated lits) → AllTrue values (counter base (length lits - bound) (map negated lits))
many-true values base bound [] two few h rows = absurd (omega arith)
many-true values base bound (a ∷ []) two few h rows = absurd (omega arith)
many-true values base bound (a ∷ b ∷ lits) two few h rows =
    let k : ℕ = length (a ∷ b ∷ lits) - bound in
    let others = map negated lits in
    subst (AllTrue values) (sym (counter-form base k (negated a) (negated b ∷ others)))
    (counter-true values base k (negated a) (negated b) others (omega arith) rows (omega (arith, negations-count values (a ∷ b ∷ lits))))

many-count : (values : List Bool) (base bound : ℕ) (lits : List Literal) → 2 ≤ bound → bound < length lits → AllTrue values (counter base (length lits - bound) (map negated lits)) → bound ≤ true_places values lits
many-count values base bound [] two few h = absurd (omega arith)
many-count values base bound (a ∷ lits) two few h =
    let k : ℕ = length (a ∷ lits) - bound in
    let others = map negated lits in
    let most = counter-counts values base k (negated a) others (omega arith) (subst (AllTrue values) (counter-form base k (negated a) others) h) in
    omega (arith, most, negations-count values (a ∷ lits))

-- the clauses of a constraint hold where it does, if its further variables have the counts
pub bound-true : (values : List Bool) (base bound : ℕ) (lits : List Literal) → bound ≤ true_places values lits → (is_counted bound (length lits) ≡ true → AreRows values base (length lits - bound) 0 (map negated lits)) → AllTrue values (bound_clauses base bound lits)
bound-true values base bound lits h rows =
    cond_both (eqb bound 1) (lits ∷ []) _ (AllTrue values)
    (λ e. (omega (arith, eqb-true _ _ e), tt))
    (λ n1. cond_both (eqb bound 0) [] _ (AllTrue values)
    (λ _. tt)
    (λ n0. cond_both (ltb (length lits) bound) ([] ∷ []) _ (AllTrue values)
    (λ e. absurd (omega (arith, ltb-true _ _ e, places-le-length values lits)))
    (λ nl. cond_both (eqb bound (length lits)) (map (λ l. l ∷ []) lits) _ (AllTrue values)
    (λ e. units-true values lits (omega (arith, eqb-true _ _ e)))
    (λ ne. let two : 2 ≤ bound = grind (arith, eqb-false bound 1 n1, eqb-false bound 0 n0) in
    let few : bound < length lits = grind (arith, ltb-false _ _ nl, eqb-false _ _ ne) in
    many-true values base bound lits two few h (rows (and_from _ _ (lt-ltb 1 bound two) (lt-ltb bound (length lits) few)))))))

-- where the clauses of a constraint hold, it does
pub bound-count : (values : List Bool) (base bound : ℕ) (lits : List Literal) → AllTrue values (bound_clauses base bound lits) → bound ≤ true_places values lits
bound-count values base bound lits =
    cond_both (eqb bound 1) (lits ∷ []) _ (λ rows. AllTrue values rows → bound ≤ true_places values lits)
    (λ e h. omega (arith, eqb-true _ _ e, h.0))
    (λ n1. cond_both (eqb bound 0) [] _ (λ rows. AllTrue values rows → bound ≤ true_places values lits)
    (λ e h. omega (arith, eqb-true _ _ e))
    (λ n0. cond_both (ltb (length lits) bound) ([] ∷ []) _ (λ rows. AllTrue values rows → bound ≤ true_places values lits)
    (λ e h. absurd (omega (arith, h.0)))
    (λ nl. cond_both (eqb bound (length lits)) (map (λ l. l ∷ []) lits) _ (λ rows. AllTrue values rows → bound ≤ true_places values lits)
    (λ e h. omega (arith, eqb-true _ _ e, units-count values lits h))
    (λ ne h. let two : 2 ≤ bound = grind (arith, eqb-false bound 1 n1, eqb-false bound 0 n0) in
    let few : bound < length lits = grind (arith, ltb-false _ _ nl, eqb-false _ _ ne) in
    many-count values base bound lits two few h))))
