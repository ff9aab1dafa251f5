-- Over at most 12 variables no function is wide: there are at most 256 ways down to a variable of the first
-- nine, and at most 256 functions of the last three.
use Rattle.std.proofs.Common.{ℕ, zero, suc, ◌≡◌, ◌+◌, ◌<◌, ◌≤◌, ◌==◌, ◌⊎◌, inl, inr, Bool, true, false, if◌then◌else◌, List, [], ◌∷◌, length, map, slice_index, slice_index_or, nat_lt, nat_eq, refl, sym, ap, ◌∙◌, arith, true≢false}
use Rattle.std.specs.List.{AllByRecursion, IsDistinct, list_any}
use Rattle.std.proofs.lemmas.Bool.{ne_eqb, eqb-true, eq-eqb, cond-true, cond-false, or_cases, cases_eq, cases_lt, lt-ltb, le-ltb}
use Rattle.std.proofs.lemmas.List.{length-map}
use Rattle.std.proofs.lemmas.Map.Steps.{length-le_from_distinct_below}
use Rattle.kn_diagram.specs.Diagrams.{depth_in}
use Rattle.kn_diagram.specs.Wide.{remaining, Differ, AllDiffer, HangsOn, IsWide}
use Rattle.kn_diagram.proofs.NodeLemmas.{slice_index-depth_in}

-- truth values as a number
number : List Bool → ℕ
number [] = 0
number (b ∷ bs) = (if b then 1 else 0) + (number bs + number bs)

power : ℕ → ℕ
power zero = 1
power (suc n) = power n + power n

number-below : (bs : List Bool) → number bs < power (length bs)
unfolding number power
number-below [] = omega arith
number-below (true ∷ bs) = omega (arith, number-below bs)
number-below (false ∷ bs) = omega (arith, number-below bs)

power-8 : power 8 ≡ 256
unfolding power
power-8 = refl

power-up : (n top : ℕ) → n ≤ top → power n ≤ power top
unfolding power
power-up zero zero h = omega arith
power-up zero (suc top) h = let up = power-up zero top (omega arith) in omega arith
power-up (suc n) zero h = absurd (omega arith)
power-up (suc n) (suc top) h = let up = power-up n top (omega arith) in omega arith

same-number : (cs bs : List Bool) → length cs ≡ length bs → number cs ≡ number bs → cs ≡ bs
unfolding number
same-number [] [] l e = refl
same-number [] (b ∷ bs) l e = absurd (omega arith)
same-number (c ∷ cs) [] l e = absurd (omega arith)
same-number (true ∷ cs) (true ∷ bs) l e = ap (λ xs. true ∷ xs) (same-number cs bs (omega arith) (omega arith))
same-number (false ∷ cs) (false ∷ bs) l e = ap (λ xs. false ∷ xs) (same-number cs bs (omega arith) (omega arith))
same-number (true ∷ cs) (false ∷ bs) l e = absurd (omega arith)
same-number (false ∷ cs) (true ∷ bs) l e = absurd (omega arith)

-- What a key of ways is worth: ways with one key leave one function, and there are at most 256 keys.
record IsKey (left : List Bool → (ℕ → Bool) → Bool) (Fits : List Bool → Type 0) (key : List Bool → ℕ) : Type 0 where
  pub one : (a b : List Bool) → Fits a → Fits b → key a ≡ key b → (v : ℕ → Bool) → left a v ≡ left b v
  pub few : (a : List Bool) → Fits a → key a < 256

keys-apart : (left : List Bool → (ℕ → Bool) → Bool) (Fits : List Bool → Type 0) (key : List Bool → ℕ) (way : List Bool) (ways : List (List Bool)) → IsKey left Fits key → Fits way
    → AllByRecursion Fits ways → AllByRecursion (Differ (left way)) (map left ways) → AllByRecursion (λ y. nat_eq (key way) y ≡ false) (map key ways)
keys-apart left Fits key way [] k p ps x = tt
keys-apart left Fits key way (other ∷ ways) k p ps x =
    (ne_eqb (key way) (key other) (λ e. x.0.1 (k.one way other p ps.0 e x.0.0)), keys-apart left Fits key way ways k p ps.1 x.1)

keys-distinct : (left : List Bool → (ℕ → Bool) → Bool) (Fits : List Bool → Type 0) (key : List Bool → ℕ) (ways : List (List Bool)) → IsKey left Fits key
    → AllByRecursion Fits ways → AllDiffer (map left ways) → IsDistinct nat_eq (map key ways)
unfolding IsDistinct
keys-distinct left Fits key [] k ps x = tt
keys-distinct left Fits key (way ∷ ways) k ps x = (keys-apart left Fits key way ways k ps.0 ps.1 x.0, keys-distinct left Fits key ways k ps.1 x.1)

keys-few : (left : List Bool → (ℕ → Bool) → Bool) (Fits : List Bool → Type 0) (key : List Bool → ℕ) (ways : List (List Bool)) (q : ℕ) → IsKey left Fits key
    → AllByRecursion Fits ways → list_any (nat_eq q) (map key ways) ≡ true → q < 256
keys-few left Fits key [] q k ps h = absurd (true≢false (sym h))
keys-few left Fits key (way ∷ ways) q k ps h = by (or_cases (nat_eq q (key way)) (list_any (nat_eq q) (map key ways)) h) (keys-few left Fits key ways q k ps.1)
  where
    by : (nat_eq q (key way) ≡ true) ⊎ (list_any (nat_eq q) (map key ways) ≡ true) → (list_any (nat_eq q) (map key ways) ≡ true → q < 256) → q < 256
    by (inl s) rest = let e = eqb-true q (key way) s in omega (arith, k.few way ps.0)
    by (inr s) rest = rest s

ways-few : (left : List Bool → (ℕ → Bool) → Bool) (Fits : List Bool → Type 0) (key : List Bool → ℕ) (ways : List (List Bool)) → IsKey left Fits key
    → AllByRecursion Fits ways → AllDiffer (map left ways) → length ways ≤ 256
ways-few left Fits key ways k ps x =
    let few = length-le_from_distinct_below (map key ways) 256 (keys-distinct left Fits key ways k ps x) (λ q h. keys-few left Fits key ways q k ps h) in
    omega (arith, few, length-map ways key)

-- a short way is its own key
short-key : (order : List ℕ) (f : (ℕ → Bool) → Bool) (size : ℕ) → size ≤ 8 → IsKey (remaining order f) (λ way. length way ≡ size) number
short-key order f size h = record {
  one = λ a b la lb e v. ap (λ way. remaining order f way v) (same-number a b (la ∙ sym lb) e);
  few = λ a l. let up = power-up (length a) 8 (omega arith) in omega (arith, number-below a, up, power-8);
}

-- the values of the last three variables, the first of them being at a depth
three : List ℕ → ℕ → Bool → Bool → Bool → ℕ → Bool
three order depth a b c x = if depth_in order x == depth then a else if depth_in order x == depth + 1 then b else c

three-like : (order : List ℕ) (depth x : ℕ) (v : ℕ → Bool) → length order ≤ depth + 3 → depth ≤ depth_in order x → depth_in order x < length order
    → v x ≡ three order depth (v (slice_index order depth)) (v (slice_index order (depth + 1))) (v (slice_index order (depth + 2))) x
unfolding three
three-like order depth x v short above within = first (cases_eq at depth)
  where
    at : ℕ
    at = depth_in order x

    own : (k : ℕ) → at ≡ k → v x ≡ v (slice_index order k)
    own k e = ap v (sym (slice_index-depth_in order x within) ∙ ap (slice_index order) e)

    Goal : Type 0
    Goal = v x ≡ (if at == depth then v (slice_index order depth) else if at == depth + 1 then v (slice_index order (depth + 1)) else v (slice_index order (depth + 2)))

    second : (at ≡ depth → ⊥) → ((at ≡ depth + 1) ⊎ (at ≡ depth + 1 → ⊥)) → Goal
    second n (inl e) =
        own (depth + 1) e
        ∙ sym (cond-true (at == depth + 1) (v (slice_index order (depth + 1))) (v (slice_index order (depth + 2))) (eq-eqb at (depth + 1) e))
        ∙ sym (cond-false (at == depth) (v (slice_index order depth)) (if at == depth + 1 then v (slice_index order (depth + 1)) else v (slice_index order (depth + 2))) (ne_eqb at depth n))
    second n (inr m) =
        own (depth + 2) (omega arith)
        ∙ sym (cond-false (at == depth + 1) (v (slice_index order (depth + 1))) (v (slice_index order (depth + 2))) (ne_eqb at (depth + 1) m))
        ∙ sym (cond-false (at == depth) (v (slice_index order depth)) (if at == depth + 1 then v (slice_index order (depth + 1)) else v (slice_index order (depth + 2))) (ne_eqb at depth n))

    first : ((at ≡ depth) ⊎ (at ≡ depth → ⊥)) → Goal
    first (inl e) =
        own depth e
        ∙ sym (cond-true (at == depth) (v (slice_index order depth)) (if at == depth + 1 then v (slice_index order (depth + 1)) else v (slice_index order (depth + 2))) (eq-eqb at depth e))
    first (inr n) = second n (cases_eq at (depth + 1))

-- the values of a function of the last three variables
table : List ℕ → ℕ → ((ℕ → Bool) → Bool) → List Bool
table order depth h =
    h (three order depth true true true) ∷ h (three order depth true true false) ∷ h (three order depth true false true) ∷ h (three order depth true false false)
    ∷ h (three order depth false true true) ∷ h (three order depth false true false) ∷ h (three order depth false false true) ∷ h (three order depth false false false) ∷ []

table-one : (order : List ℕ) (depth : ℕ) (g h : (ℕ → Bool) → Bool) (a b c : Bool) → table order depth g ≡ table order depth h → g (three order depth a b c) ≡ h (three order depth a b c)
unfolding table
table-one order depth g h true true true e = ap (λ xs. slice_index_or xs 0 false) e
table-one order depth g h true true false e = ap (λ xs. slice_index_or xs 1 false) e
table-one order depth g h true false true e = ap (λ xs. slice_index_or xs 2 false) e
table-one order depth g h true false false e = ap (λ xs. slice_index_or xs 3 false) e
table-one order depth g h false true true e = ap (λ xs. slice_index_or xs 4 false) e
table-one order depth g h false true false e = ap (λ xs. slice_index_or xs 5 false) e
table-one order depth g h false false true e = ap (λ xs. slice_index_or xs 6 false) e
table-one order depth g h false false false e = ap (λ xs. slice_index_or xs 7 false) e

-- what remains hangs on the last three variables
left-like : (order : List ℕ) (f : (ℕ → Bool) → Bool) (depth : ℕ) (way : List Bool) (v : ℕ → Bool) → length order ≤ depth + 3 → HangsOn order f → length way ≡ depth
    → remaining order f way v ≡ remaining order f way (three order depth (v (slice_index order depth)) (v (slice_index order (depth + 1))) (v (slice_index order (depth + 2))))
left-like order f depth way v short hangs len =
    hangs (λ x. if nat_lt (depth_in order x) (length way) then slice_index_or way (depth_in order x) false else v x)
    (λ x. if nat_lt (depth_in order x) (length way) then slice_index_or way (depth_in order x) false else last x) (λ x within. by x within (cases_lt (depth_in order x) (length way)))
  where
    last : ℕ → Bool
    last = three order depth (v (slice_index order depth)) (v (slice_index order (depth + 1))) (v (slice_index order (depth + 2)))

    by : (x : ℕ) → depth_in order x < length order → ((depth_in order x < length way) ⊎ (length way ≤ depth_in order x))
        → (if nat_lt (depth_in order x) (length way) then slice_index_or way (depth_in order x) false else v x)
        ≡ (if nat_lt (depth_in order x) (length way) then slice_index_or way (depth_in order x) false else last x)
    by x within (inl l) =
        let t = lt-ltb (depth_in order x) (length way) l in
        cond-true (nat_lt (depth_in order x) (length way)) (slice_index_or way (depth_in order x) false) (v x) t
        ∙ sym (cond-true (nat_lt (depth_in order x) (length way)) (slice_index_or way (depth_in order x) false) (last x) t)
    by x within (inr l) =
        let t = le-ltb (depth_in order x) (length way) l in
        cond-false (nat_lt (depth_in order x) (length way)) (slice_index_or way (depth_in order x) false) (v x) t
        ∙ three-like order depth x v short (omega arith) within
        ∙ sym (cond-false (nat_lt (depth_in order x) (length way)) (slice_index_or way (depth_in order x) false) (last x) t)

-- the values of what remains are the key of a long way
long-key : (order : List ℕ) (f : (ℕ → Bool) → Bool) (depth : ℕ) → length order ≤ depth + 3 → HangsOn order f
    → IsKey (remaining order f) (λ way. length way ≡ depth) (λ way. number (table order depth (remaining order f way)))
unfolding table
long-key order f depth short hangs = record {
  one = λ a b la lb e v.
      left-like order f depth a v short hangs la
      ∙ table-one order depth (remaining order f a) (remaining order f b) (v (slice_index order depth)) (v (slice_index order (depth + 1))) (v (slice_index order (depth + 2)))
      (same-number (table order depth (remaining order f a)) (table order depth (remaining order f b)) refl e)
      ∙ sym (left-like order f depth b v short hangs lb);
  few = λ a l. let n = number-below (table order depth (remaining order f a)) in omega (arith, n, power-8);
}

-- a function over few variables is wide nowhere
pub few-narrow : (order : List ℕ) (f : (ℕ → Bool) → Bool) → length order ≤ 12 → HangsOn order f → IsWide order f → ⊥
few-narrow order f few hangs (variable, w) = by (cases_lt (depth_in order variable) 9)
  where
    by : ((depth_in order variable < 9) ⊎ (9 ≤ depth_in order variable)) → ⊥
    by (inl l) =
        let n = ways-few (remaining order f) (λ way. length way ≡ depth_in order variable) number w.ways (short-key order f (depth_in order variable) (omega arith)) w.lengths w.different in
        omega (arith, n, w.count)
    by (inr l) =
        let n = ways-few (remaining order f) (λ way. length way ≡ depth_in order variable) (λ way. number (table order (depth_in order variable) (remaining order f way))) w.ways
        (long-key order f (depth_in order variable) (omega arith) hangs) w.lengths w.different in
        omega (arith, n, w.count)
