-- How many nodes of a variable are reached, counted in lists.
use Rattle.std.proofs.Common.{ℕ, zero, suc, ◌≡◌, ◌+◌, ◌<◌, ◌≤◌, ◌==◌, ◌⊎◌, inl, inr, Bool, true, false, ◌&&◌, if◌then◌else◌, List, [], ◌∷◌, length, filter, nat_eq, refl, sym, ap, ◌∙◌, arith, true≢false}
use Rattle.std.specs.List.{AllByRecursion, IsDistinct, list_any}
use Rattle.std.specs.Set.{is_member}
use Rattle.std.proofs.lemmas.Cmp.{nat_eq_equiv}
use Rattle.std.proofs.lemmas.Map.Made.{length-from_same_keys, is_member-filter}
use Rattle.std.proofs.lemmas.Bool.{eqb-true, eq-eqb, ne_eqb, cond-true, cond-false, or_cases, or_left, or_right, cases_eq, cases_Bool, false_from_ne_true}
use Rattle.kn_diagram.specs.Diagrams.{Table, IsNode, depth_of, IsTable}
use Rattle.kn_diagram.specs.Widths.{reaches, reached_below, of_depth, width_at}
use Rattle.kn_diagram.proofs.WidthLemmas.{reaches-down}

-- the numbers below n that pass a test, the greatest first
abbrev pub listed : (ℕ → Bool) → ℕ → List ℕ
listed test zero = []
listed test (suc n) = if test n then n ∷ listed test n else listed test n

pub listed-only : (test : ℕ → Bool) (n q : ℕ) → list_any (nat_eq q) (listed test n) ≡ true → (q < n) × (test q ≡ true)
listed-only test zero q h = absurd (true≢false (sym h))
listed-only test (suc n) q h = by (test n) refl (listed-only test n q)
  where
    later : (q < n) × (test q ≡ true) → (q < suc n) × (test q ≡ true)
    later (a, b) = (omega arith, b)

    by : (b : Bool) → test n ≡ b → (list_any (nat_eq q) (listed test n) ≡ true → (q < n) × (test q ≡ true)) → (q < suc n) × (test q ≡ true)
    by true t rest = which (or_cases (nat_eq q n) (list_any (nat_eq q) (listed test n)) (sym (ap (list_any (nat_eq q)) (cond-true (test n) (n ∷ listed test n) (listed test n) t)) ∙ h))
      where
        which : (nat_eq q n ≡ true) ⊎ (list_any (nat_eq q) (listed test n) ≡ true) → (q < suc n) × (test q ≡ true)
        which (inl s) = let e = eqb-true q n s in (omega arith, ap test e ∙ t)
        which (inr s) = later (rest s)
    by false t rest = later (rest (sym (ap (list_any (nat_eq q)) (cond-false (test n) (n ∷ listed test n) (listed test n) t)) ∙ h))

pub listed-has : (test : ℕ → Bool) (n q : ℕ) → q < n → test q ≡ true → list_any (nat_eq q) (listed test n) ≡ true
listed-has test zero q l t = absurd (omega arith)
listed-has test (suc n) q l t = by (cases_eq q n) (test n) refl (listed-has test n q)
  where
    by : ((q ≡ n) ⊎ (q ≡ n → ⊥)) → (b : Bool) → test n ≡ b → (q < n → test q ≡ true → list_any (nat_eq q) (listed test n) ≡ true) → list_any (nat_eq q) (listed test (suc n)) ≡ true
    by (inl e) true s rest = ap (list_any (nat_eq q)) (cond-true (test n) (n ∷ listed test n) (listed test n) s) ∙ or_left (nat_eq q n) (list_any (nat_eq q) (listed test n)) (eq-eqb q n e)
    by (inl e) false s rest = absurd (true≢false (sym t ∙ ap test e ∙ s))
    by (inr x) true s rest = ap (list_any (nat_eq q)) (cond-true (test n) (n ∷ listed test n) (listed test n) s) ∙ or_right (nat_eq q n) (list_any (nat_eq q) (listed test n)) (rest (omega arith) t)
    by (inr x) false s rest = ap (list_any (nat_eq q)) (cond-false (test n) (n ∷ listed test n) (listed test n) s) ∙ rest (omega arith) t

-- whether a node is reached and is of the variable at this depth
abbrev pub is_counted : Table → ℕ → ℕ → ℕ → Bool
is_counted d from depth node = reaches d from node && (depth_of d node == depth)

pub length-listed : (d : Table) (from depth n : ℕ) → length (listed (is_counted d from depth) n) ≡ reached_below d from depth n
length-listed d from depth zero = refl
length-listed d from depth (suc n) = by (is_counted d from depth n) (length-listed d from depth n)
  where
    by : (b : Bool) → length (listed (is_counted d from depth) n) ≡ reached_below d from depth n
        → length (if b then n ∷ listed (is_counted d from depth) n else listed (is_counted d from depth) n) ≡ (if b then 1 else 0) + reached_below d from depth n
    by true e = omega (arith, e)
    by false e = omega (arith, e)

listed-above : (test : ℕ → Bool) (n m : ℕ) → n ≤ m → AllByRecursion (λ y. nat_eq m y ≡ false) (listed test n)
listed-above test zero m le = tt
listed-above test (suc n) m le = by (test n) (listed-above test n m (omega arith))
  where
    by : (b : Bool) → AllByRecursion (λ y. nat_eq m y ≡ false) (listed test n) → AllByRecursion (λ y. nat_eq m y ≡ false) (if b then n ∷ listed test n else listed test n)
    by true h = (ne_eqb m n (λ e. omega arith), h)
    by false h = h

listed-distinct : (test : ℕ → Bool) (n : ℕ) → IsDistinct nat_eq (listed test n)
unfolding IsDistinct
listed-distinct test zero = tt
listed-distinct test (suc n) = by (test n) (listed-distinct test n)
  where
    by : (b : Bool) → IsDistinct nat_eq (listed test n) → IsDistinct nat_eq (if b then n ∷ listed test n else listed test n)
    by true h = (listed-above test n n (omega arith), h)
    by false h = h

listed-member : (test : ℕ → Bool) (n q : ℕ) → (test q ≡ true → q < n) → is_member nat_eq (listed test n) q ≡ test q
listed-member test n q within = by (cases_Bool (test q))
  where
    by : ((test q ≡ true) ⊎ (test q ≡ false)) → is_member nat_eq (listed test n) q ≡ test q
    by (inl t) = listed-has test n q (within t) t ∙ sym t
    by (inr f) = false_from_ne_true (is_member nat_eq (listed test n) q) (λ m. true≢false (sym (listed-only test n q m).1 ∙ f)) ∙ sym f

filter-apart : (test : ℕ → Bool) (x : ℕ) (ns : List ℕ) → AllByRecursion (λ y. nat_eq x y ≡ false) ns → AllByRecursion (λ y. nat_eq x y ≡ false) (filter test ns)
filter-apart test x [] a = tt
filter-apart test x (n ∷ ns) a = by (test n) (filter-apart test x ns a.1)
  where
    by : (b : Bool) → AllByRecursion (λ y. nat_eq x y ≡ false) (filter test ns) → AllByRecursion (λ y. nat_eq x y ≡ false) (if b then n ∷ filter test ns else filter test ns)
    by true h = (a.0, h)
    by false h = h

filter-distinct : (test : ℕ → Bool) (ns : List ℕ) → IsDistinct nat_eq ns → IsDistinct nat_eq (filter test ns)
unfolding IsDistinct
filter-distinct test [] d = tt
filter-distinct test (n ∷ ns) d = by (test n) (filter-distinct test ns d.1)
  where
    by : (b : Bool) → IsDistinct nat_eq (filter test ns) → IsDistinct nat_eq (if b then n ∷ filter test ns else filter test ns)
    by true h = (filter-apart test n ns d.0, h)
    by false h = h

of_depth-filter : (d : Table) (depth : ℕ) (ns : List ℕ) → of_depth d depth ns ≡ length (filter (λ n. depth_of d n == depth) ns)
of_depth-filter d depth [] = refl
of_depth-filter d depth (n ∷ ns) = by (depth_of d n == depth) (of_depth-filter d depth ns)
  where
    by : (b : Bool) → of_depth d depth ns ≡ length (filter (λ m. depth_of d m == depth) ns)
        → (if b then 1 else 0) + of_depth d depth ns ≡ length (if b then n ∷ filter (λ m. depth_of d m == depth) ns else filter (λ m. depth_of d m == depth) ns)
    by true e = omega (arith, e)
    by false e = omega (arith, e)

pub of_depth-within : (d : Table) (depth : ℕ) (ns : List ℕ) → of_depth d depth ns ≤ length ns
of_depth-within d depth [] = omega arith
of_depth-within d depth (n ∷ ns) = by (depth_of d n == depth) (of_depth-within d depth ns)
  where
    by : (b : Bool) → of_depth d depth ns ≤ length ns → (if b then 1 else 0) + of_depth d depth ns ≤ length (n ∷ ns)
    by true h = omega (arith, h)
    by false h = omega (arith, h)

-- a list of what is reached has as many nodes of each variable as are reached
pub of_depth-width : (d : Table) (from depth : ℕ) (ns : List ℕ) → IsTable d → IsNode d from → IsDistinct nat_eq ns → ((q : ℕ) → is_member nat_eq ns q ≡ reaches d from q)
    → of_depth d depth ns ≡ width_at d from depth
unfolding width_at
of_depth-width d from depth ns ok h distinct same =
    let at : ℕ → Bool = λ n. depth_of d n == depth in
    let all = length d.rows + 2 in
    of_depth-filter d depth ns
    ∙ length-from_same_keys nat_eq_equiv (filter at ns) (listed (is_counted d from depth) all) (filter-distinct at ns distinct) (listed-distinct (is_counted d from depth) all)
    (λ q. is_member-filter nat_eq_equiv at q (λ x e. ap at (eqb-true q x e)) ns ∙ ap (λ b. b && at q) (same q)
    ∙ sym (listed-member (is_counted d from depth) all q (within q)))
    ∙ length-listed d from depth all
  where
    first : (a b : Bool) → (a && b) ≡ true → a ≡ true
    first true b e = refl
    first false b e = e

    within : (q : ℕ) → is_counted d from depth q ≡ true → q < length d.rows + 2
    within q c = let le = reaches-down d from q ok h (first (reaches d from q) (depth_of d q == depth) c) in omega arith
