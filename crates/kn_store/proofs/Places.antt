-- An id that leaves a list of ids that rise.
use Rattle.std.proofs.Common.{◌≡◌, ℕ, suc, ◌+◌, ◌-◌, ◌<◌, ◌≤◌, ◌==◌, ◌||◌, true, false, not, List, [], ◌∷◌, ◌++◌, length, take, drop, get_or, Option, Some, None, Result, Ok, Err, slice_get, nat_eq, true≢false, refl, sym, ap, ap₂, subst, ◌∙◌, inl, inr, arith, append_assoc, length-drop}
use Rattle.std.specs.Prelude.{zero, MatchResult}
use Rattle.std.specs.List.{AllByRecursion, copy_within, remove}
use Rattle.std.specs.List.Sorted.{IsStrictlyIncreasing, IsBinarySearchResult}
use Rattle.std.specs.Ordering.{nat_cmp}
use Rattle.std.specs.Option.{option_eq}
use Rattle.std.proofs.lemmas.Bool.{cond-true, cond-false, eq-eqb, ne_eqb, or_left, or_right, cases_eq, cases_lt as order}
use Rattle.std.proofs.lemmas.List.{get_or_default, length-take-le, drop_at, drop-drop, drop-take, drop-append-le}
use Rattle.std.proofs.lemmas.List.Elements.{recursion_from_All}
use Rattle.std.proofs.lemmas.List.Sorted.{searched}
use Rattle.kn_store.specs.Kept.{with_id, without_id}
use Rattle.kn_logic.specs.Groups.{is_among}
use Rattle.kn_logic.proofs.Public.{All-push}
use Rattle.kn_store.proofs.Public.{all-one, Rises, rises, increasing, rises-filter, rises-order}

pub all-there : (id : ℕ) (xs : List ℕ) → AllByRecursion (λ i. (i == id) ≡ false) xs → without_id id xs ≡ xs
all-there id [] h = refl
all-there id (x ∷ xs) h = cond-true (not (x == id)) (x ∷ without_id id xs) (without_id id xs) (ap not h.0) ∙ ap (λ z. x ∷ z) (all-there id xs h.1)

-- the id at a place leaves
gone : (id : ℕ) (xs : List ℕ) (k : ℕ) → Rises xs → k < length xs → get_or xs k 0 ≡ id → without_id id xs ≡ take k xs ++ drop (suc k) xs
gone id [] k h i e = absurd (omega (arith, i))
gone id (x ∷ xs) zero h i e =
    cond-false (not (x == id)) (x ∷ without_id id xs) (without_id id xs) (ap not (eq-eqb x id e))
    ∙ all-there id xs (all-one (λ y. x < y) (λ y. (y == id) ≡ false) (λ y low. ne_eqb y id (λ s. absurd (omega (arith, s, low, e)))) xs h.0)
gone id (x ∷ xs) (suc k) h i e =
    let low = at x xs k h.0 (omega (arith, i)) in
    cond-true (not (x == id)) (x ∷ without_id id xs) (without_id id xs) (ap not (ne_eqb x id (λ s. absurd (omega (arith, s, low, e)))))
    ∙ ap (λ z. x ∷ z) (gone id xs k h.1 (omega (arith, i)) e)
  where
    at : (x : ℕ) (xs : List ℕ) (k : ℕ) → AllByRecursion (λ y. x < y) xs → k < length xs → x < get_or xs k 0
    at x [] k h i = absurd (omega (arith, i))
    at x (y ∷ xs) zero h i = h.0
    at x (y ∷ xs) (suc k) h i = at x xs k h.1 (omega (arith, i))

pub found : (id place : ℕ) (xs : List ℕ) (r : Result ℕ ℕ) → IsStrictlyIncreasing xs → IsBinarySearchResult (λ y. nat_cmp y id) xs r → r ≡ Ok place → without_id id xs ≡ take place xs ++ drop (suc place) xs
found id place xs r up position e =
    let there = subst (λ z. MatchResult z (λ i. (i < length xs) × (get_or xs i 0 ≡ id)) (λ i. (i ≤ length xs) × ((k : ℕ) → k < i → get_or xs k 0 < id) × ((k : ℕ) → i ≤ k → k < length xs → id < get_or xs k 0))) e
    (searched xs id r position (rises-order xs (rises xs up))) in
    gone id xs place (rises xs up) there.0 there.1

pub absent : (id place : ℕ) (xs : List ℕ) (r : Result ℕ ℕ) → IsStrictlyIncreasing xs → IsBinarySearchResult (λ y. nat_cmp y id) xs r → r ≡ Err place → xs ≡ without_id id xs
absent id place xs r up position e =
    let sides = subst (λ z. MatchResult z (λ i. (i < length xs) × (get_or xs i 0 ≡ id)) (λ i. (i ≤ length xs) × ((k : ℕ) → k < i → get_or xs k 0 < id) × ((k : ℕ) → i ≤ k → k < length xs → id < get_or xs k 0))) e
    (searched xs id r position (rises-order xs (rises xs up))) in
    sym (all-there id xs (recursion_from_All (λ i. (i == id) ≡ false) xs (λ k d i. other k d i sides)))
  where
    other : (k d : ℕ) → k < length xs → (place ≤ length xs) × ((k : ℕ) → k < place → get_or xs k 0 < id) × ((k : ℕ) → place ≤ k → k < length xs → id < get_or xs k 0) → (get_or xs k d == id) ≡ false
    other k d i sides = ne_eqb (get_or xs k d) id (λ s.
        let same = get_or_default xs k d 0 i in
        elim (order k place) [
          | inl low ↦ (let l = sides.1 k low in absurd (omega (arith, l, s, same)))
          | inr high ↦ (let l = sides.2 k high i in absurd (omega (arith, l, s, same)))
        ])

-- the two ways to close the gap
pub shifted : (xs : List ℕ) (from place : ℕ) → from + place < length xs → drop (from + 1) (copy_within xs from (from + place) (from + 1)) ≡ take place (drop from xs) ++ drop (suc place) (drop from xs)
shifted xs from place h =
    let n : ℕ = from + place - from in
    let same : n ≡ place = omega arith in
    let far : from + 1 + place ≡ from + suc place = omega arith in
    ap (drop (from + 1)) (append_assoc (take (from + 1) xs) (take n (drop from xs)) (drop (from + 1 + n) xs))
    ∙ drop_at (take (from + 1) xs) (take n (drop from xs) ++ drop (from + 1 + n) xs) (from + 1) (length-take-le (from + 1) xs (omega (arith, h)))
    ∙ ap (λ k. take k (drop from xs) ++ drop (from + 1 + k) xs) same
    ∙ ap (λ k. take place (drop from xs) ++ drop k xs) far
    ∙ ap (λ z. take place (drop from xs) ++ z) (sym (drop-drop (suc place) from xs))

pub removed : (xs : List ℕ) (from place : ℕ) → from + place < length xs → drop from (remove xs (from + place)) ≡ take place (drop from xs) ++ drop (suc place) (drop from xs)
removed xs from place h =
    let long = length-take-le (from + place) xs (omega (arith, h)) in
    let far : suc (from + place) ≡ from + suc place = omega arith in
    drop-append-le from (take (from + place) xs) (drop (suc (from + place)) xs) (omega (arith, long))
    ∙ ap (λ z. z ++ drop (suc (from + place)) xs) (drop-take from place xs)
    ∙ ap (λ k. take place (drop from xs) ++ drop k xs) far
    ∙ ap (λ z. take place (drop from xs) ++ z) (sym (drop-drop (suc place) from xs))

-- what is left of the ids behind the offset, which rise, is what is to be left of them
pub record IsLeft (from id : ℕ) (old new : List ℕ) : Type 0 where
  pub inside : from ≤ length new
  pub left : drop from new ≡ without_id id old
  pub ascending : IsStrictlyIncreasing (drop from new)

left-from : (id place from start : ℕ) (xs new old : List ℕ) (r : Result ℕ ℕ) → IsStrictlyIncreasing xs → IsBinarySearchResult (λ y. nat_cmp y id) xs r → r ≡ Ok place → xs ≡ old
    → from ≤ length new → drop from new ≡ take place old ++ drop (suc place) old → IsLeft from id old new
left-from id place from start xs new old r up position is same inside e =
    let left : drop from new ≡ without_id id old = e ∙ ap (λ z. take place z ++ drop (suc place) z) (sym same) ∙ sym (found id place xs r up position is) ∙ ap (without_id id) same in
    record {
      inside = inside;
      left = left;
      ascending = increasing (drop from new) (subst Rises (ap (without_id id) same ∙ sym left) (rises-filter (λ i. not (i == id)) xs (rises xs up)));
    }

pub left-front : (id place from : ℕ) (items xs new old : List ℕ) (r : Result ℕ ℕ) → IsStrictlyIncreasing xs → IsBinarySearchResult (λ y. nat_cmp y id) xs r → r ≡ Ok place → xs ≡ old → drop from items ≡ old
    → place < length xs → length new ≡ length items → new ≡ copy_within items from (from + place) (from + 1) → IsLeft (from + 1) id old new
left-front id place from items xs new old r up position is same view i long e =
    let l = ap length (same ∙ sym view) ∙ length-drop from items in
    left-from id place (from + 1) from xs new old r up position is same (omega (arith, l, i, long))
    (ap (drop (from + 1)) e ∙ shifted items from place (omega (arith, l, i)) ∙ ap (λ z. take place z ++ drop (suc place) z) view)

pub left-back : (id place from : ℕ) (items xs new old : List ℕ) (r : Result ℕ ℕ) → IsStrictlyIncreasing xs → IsBinarySearchResult (λ y. nat_cmp y id) xs r → r ≡ Ok place → xs ≡ old → drop from items ≡ old
    → place < length xs → length new + 1 ≡ length items → new ≡ remove items (from + place) → IsLeft from id old new
left-back id place from items xs new old r up position is same view i long e =
    let l = ap length (same ∙ sym view) ∙ length-drop from items in
    left-from id place from from xs new old r up position is same (omega (arith, l, i, long))
    (ap (drop from) e ∙ removed items from place (omega (arith, l, i)) ∙ ap (λ z. take place z ++ drop (suc place) z) view)

-- an id that none of the list is above, and that is not its last, is new to the list
last-new : (ids : List ℕ) (id : ℕ) → Rises ids → AllByRecursion (λ i. i ≤ id) ids → (slice_get ids (length ids - 1) ≡ Some id → ⊥) → AllByRecursion (λ i. i < id) ids
last-new [] id up low last = tt
last-new (x ∷ []) id up low last = (elim (cases_eq x id) [ inl e ↦ absurd (last (ap Some e)) | inr d ↦ omega (arith, low.0, d) ], tt)
last-new (x ∷ y ∷ ids) id up low last =
    let one : suc (length ids) - 1 ≡ length ids = omega arith in
    let two : suc (suc (length ids)) - 1 ≡ suc (length ids) = omega arith in
    let more = last-new (y ∷ ids) id up.1 low.1 (λ e. last (ap (slice_get (x ∷ y ∷ ids)) two ∙ sym (ap (slice_get (y ∷ ids)) one) ∙ e)) in
    (omega (arith, up.0.0, more.0), more)

pub not-there : (ids : List ℕ) (id : ℕ) → AllByRecursion (λ i. i < id) ids → is_among ids id ≡ false
not-there [] id low = refl
not-there (x ∷ ids) id low = ap₂ (λ a b. a || b) (ne_eqb x id (λ e. absurd (omega (arith, e, low.0)))) (not-there ids id low.1)

rises-push : (ids : List ℕ) (id : ℕ) → Rises ids → AllByRecursion (λ i. i < id) ids → Rises (ids ++ id ∷ [])
rises-push [] id up low = (tt, tt)
rises-push (x ∷ ids) id up low = (All-push (λ y. x < y) ids id up.0 low.0, rises-push ids id up.1 low.1)

-- what an id that is new makes of a list of ids that rise
pub record IsJoined (id : ℕ) (old new : List ℕ) : Type 0 where
  pub with : new ≡ with_id id old
  pub ascending : IsStrictlyIncreasing new

pub joined-last : (ids new : List ℕ) (id : ℕ) → IsStrictlyIncreasing ids → AllByRecursion (λ i. i ≤ id) ids → (slice_get ids (length ids - 1) ≡ Some id → ⊥) → new ≡ ids ++ id ∷ [] → IsJoined id ids new
joined-last ids new id up low last e =
    let less = last-new ids id (rises ids up) low last in
    record {
      with = e ∙ sym (cond-false (is_among ids id) ids (ids ++ id ∷ []) (not-there ids id less));
      ascending = increasing new (subst Rises (sym e) (rises-push ids id (rises ids up) less));
    }

abbrev value-or : ℕ → Option ℕ → ℕ
value-or d None = d
value-or d (Some x) = x

-- the last id of a list is in it
last-there : (ids : List ℕ) (id : ℕ) → slice_get ids (length ids - 1) ≡ Some id → is_among ids id ≡ true
last-there [] id e = absurd cc
last-there (x ∷ []) id e = or_left (x == id) false (eq-eqb x id (ap (value-or 0) e))
last-there (x ∷ y ∷ ids) id e =
    let one : suc (length ids) - 1 ≡ length ids = omega arith in
    let two : suc (suc (length ids)) - 1 ≡ suc (length ids) = omega arith in
    or_right (x == id) (is_among (y ∷ ids) id) (last-there (y ∷ ids) id (ap (slice_get (y ∷ ids)) one ∙ sym (ap (slice_get (x ∷ y ∷ ids)) two) ∙ e))

pub as-before : (ids : List ℕ) (id : ℕ) → slice_get ids (length ids - 1) ≡ Some id → ids ≡ with_id id ids
as-before ids id e = sym (cond-true (is_among ids id) ids (ids ++ id ∷ []) (last-there ids id e))

-- what the comparison of the last id says
pub differs : (o : Option ℕ) (id : ℕ) → option_eq nat_eq o (Some id) ≡ false → o ≡ Some id → ⊥
differs None id e s = absurd cc
differs (Some x) id e s = true≢false (sym (eq-eqb x id (ap (value-or x) s)) ∙ e)
