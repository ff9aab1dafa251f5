-- Marks on places: how many there are, and which come next.
use Rattle.std.proofs.Common.{◌≡◌, ◌≢◌, ℕ, zero, suc, ◌+◌, ◌≤◌, ◌<◌, Bool, true, false, cond, List, length, refl, sym, ap, ◌∙◌, subst, inl, inr, arith}
use Rattle.std.specs.Prelude.{slice_index_or, slice_set, replicate}
use Rattle.std.proofs.lemmas.Bool.{cases_Bool, cases_eq, cases_lt, cond-true, cond-false}
use Rattle.std.proofs.lemmas.List.{get_or-set_same, get_or-set_other, get_or-replicate, get_or_past, get_or_read, length-replicate}
use Rattle.std.proofs.Math.ListN.{length-set}
use Rattle.kn_logic.specs.Literals.{Literal}
use Rattle.kn_logic.specs.Constraints.{Bounded}
use Rattle.kn_logic.specs.Propagation.{is_open, open_places}
use Rattle.kn_watch.specs.Watches.{listed, lit_at, count_watched, HasWatches}
use Rattle.kn_watch.proofs.Public.{open_lt}
use Rattle.kn_kinds.specs.Latest.{rank, AreLatest}
use Rattle.kn_kinds.specs.Kinds.{marked_place, AreFalseUnmarked}

-- one changed place changes the count by its two values
count_same : (f g : ℕ → Bool) (from n : ℕ) → ((q : ℕ) → from ≤ q → g q ≡ f q) → count_watched g from n ≡ count_watched f from n
count_same f g from zero h = refl
count_same f g from (suc n) h = omega (arith, ap (λ (b : Bool). cond {A = ℕ} b 1 0) (h from (omega arith)), count_same f g (from + 1) n (λ q le. h q (omega (arith, le))))

count_set : (f g : ℕ → Bool) (p from n : ℕ) → ((q : ℕ) → q ≢ p → g q ≡ f q) → from ≤ p → p < from + n → count_watched g from n + cond (f p) 1 0 ≡ count_watched f from n + cond (g p) 1 0
count_set f g p from zero h le lt = absurd (omega (arith, le, lt))
count_set f g p from (suc n) h le lt = elim (cases_eq from p) [
  | inl e ↦ (
      let rest = count_same f g (from + 1) n (λ q ql. h q (λ (z : q ≡ p). omega (arith, z, ql, e))) in
      let fp = ap (λ (k : ℕ). cond {A = ℕ} (f k) 1 0) e in
      let gp = ap (λ (k : ℕ). cond {A = ℕ} (g k) 1 0) e in
      omega (arith, rest, fp, gp))
  | inr d ↦ omega (arith, ap (λ (b : Bool). cond {A = ℕ} b 1 0) (h from d), count_set f g p (from + 1) n h (omega (arith, le, d)) (omega (arith, lt)))
]

one_less : (f g : ℕ → Bool) (p n : ℕ) → ((q : ℕ) → q ≢ p → g q ≡ f q) → p < n → f p ≡ true → g p ≡ false → count_watched g 0 n + 1 ≡ count_watched f 0 n
one_less f g p n h lt a b = omega (arith, count_set f g p 0 n h (omega arith) (omega (arith, lt)), ap (λ (x : Bool). cond {A = ℕ} x 1 0) a, ap (λ (x : Bool). cond {A = ℕ} x 1 0) b)

pub set_here : (marks : List Bool) (place : ℕ) (b : Bool) → place < length marks → marked_place (slice_set marks place b) place ≡ b
set_here marks place b lt = get_or-set_same marks place b false lt

pub set_other : (marks : List Bool) (place q : ℕ) (b : Bool) → q ≢ place → marked_place (slice_set marks place b) q ≡ marked_place marks q
set_other marks place q b d = get_or-set_other marks place q b false d

-- one mark more
pub one_more : (marks : List Bool) (place n : ℕ) → length marks ≡ n → place < n → marked_place marks place ≡ false → count_watched (marked_place (slice_set marks place true)) 0 n ≡ count_watched (marked_place marks) 0 n + 1
one_more marks place n long lt u =
    sym (one_less (marked_place (slice_set marks place true)) (marked_place marks) place n (λ q d. sym (set_other marks place q true d)) lt (set_here marks place true (omega (arith, long, lt))) u)

-- a mark moves from one place to another
pub mark_moved : (marks : List Bool) (from to n : ℕ) → length marks ≡ n → from < n → to < n → marked_place marks from ≡ true → marked_place marks to ≡ false → count_watched (marked_place (slice_set (slice_set marks from false) to true)) 0 n ≡ count_watched (marked_place marks) 0 n
mark_moved marks from to n long fl tl fw tw =
    let once = slice_set marks from false in
    let d : to ≢ from = λ (q : to ≡ from). (let x = subst (λ (k : ℕ). marked_place marks k ≡ false) q tw in absurd cc) in
    let less = one_less (marked_place marks) (marked_place once) from n (λ q e. set_other marks from q false e) fl fw (set_here marks from false (omega (arith, fl, long))) in
    let more = one_more once to n (length-set marks from false ∙ long) tl (set_other marks from to false d ∙ tw) in
    omega (arith, less, more)

-- no mark at all
pub unmarked_all : (n place : ℕ) → marked_place (replicate n false) place ≡ false
unmarked_all n place = elim (cases_lt place n) [
  | inl lt ↦ get_or-replicate n place false false lt
  | inr le ↦ get_or_past (replicate n false) place false (omega (arith, le, length-replicate n false))
]

pub count_none : (f : ℕ → Bool) (from n : ℕ) → ((q : ℕ) → f q ≡ false) → count_watched f from n ≡ 0
count_none f from zero h = refl
count_none f from (suc n) h = omega (arith, cond-false {A = ℕ} (f from) 1 0 (h from), count_none f (from + 1) n h)

-- every place has a mark
count_all : (f : ℕ → Bool) (from n : ℕ) → ((q : ℕ) → from ≤ q → q < from + n → f q ≡ true) → count_watched f from n ≡ n
count_all f from zero h = refl
count_all f from (suc n) h = omega (arith, cond-true {A = ℕ} (f from) 1 0 (h from (omega arith) (omega arith)), count_all f (from + 1) n (λ q le lt. h q (omega (arith, le)) (omega (arith, lt))))

pub all_marked : (marks : List Bool) (n : ℕ) → length marks ≡ n → ((q : ℕ) → q < length marks → marked_place marks q ≡ true) → count_watched (marked_place marks) 0 n ≡ n
all_marked marks n long h = count_all (marked_place marks) 0 n (λ q le lt. h q (omega (arith, lt, long)))

-- the latest place without a mark gets one
pub latest_more : (trail lits : List Literal) (marks : List Bool) (place : ℕ) → length marks ≡ length lits → place < length lits → AreLatest trail lits (marked_place marks) → ((q : ℕ) → q < length lits → marked_place marks q ≡ false → rank trail (lit_at lits q) ≤ rank trail (lit_at lits place)) → AreLatest trail lits (marked_place (slice_set marks place true))
latest_more trail lits marks place long lt h top = λ p q pl ql wp wq.
    let d : q ≢ place = λ (e : q ≡ place). (let x = subst (λ (k : ℕ). marked_place (slice_set marks place true) k ≡ false) e wq in let y = set_here marks place true (omega (arith, lt, long)) in absurd cc) in
    let uq = sym (set_other marks place q true d) ∙ wq in
    elim (cases_eq p place) [
      | inl e ↦ subst (λ (k : ℕ). rank trail (lit_at lits q) ≤ rank trail (lit_at lits k)) (sym e) (top q ql uq)
      | inr n ↦ h p q pl ql (sym (set_other marks place p true n) ∙ wp) uq
    ]

-- the open places are the latest, whichever of them have marks
pub latest_open : (trail lits : List Literal) (watched : ℕ → Bool) → ((l : Literal) → rank trail l ≤ length trail) → ((l : Literal) → is_open trail l ≡ true → rank trail l ≡ length trail) → ((p : ℕ) → p < length lits → watched p ≡ true → is_open trail (lit_at lits p) ≡ true) → AreLatest trail lits watched
latest_open trail lits watched most top h = λ p q pl ql wp wq. omega (arith, most (lit_at lits q), top (lit_at lits p) (h p pl wp))

-- where each place without a mark is false, and a place with one too, no more are open than the bound
pub few_open : (trail : List Literal) (c : Bounded) (lits : List Literal) (marks : List Bool) (place : ℕ) → lits ≡ listed c → HasWatches c (marked_place marks) → AreFalseUnmarked trail lits marks → place < length (listed c) → marked_place marks place ≡ true → is_open trail (lit_at (listed c) place) ≡ false → open_places trail (listed c) ≤ c.bound
few_open trail c lits marks place e hw shut lt w o =
    let closed = subst (λ (x : List Literal). AreFalseUnmarked trail x marks) e shut in
    let all : (q : ℕ) → q < length (listed c) → is_open trail (lit_at (listed c) q) ≡ true → marked_place marks (zero + q) ≡ true = λ q ql x. subst (λ (n : ℕ). marked_place marks n ≡ true) (omega arith) (elim (cases_Bool (marked_place marks q)) [
      | inl m ↦ m
      | inr m ↦ (let f = closed q ql m in absurd cc)
    ]) in
    let few = open_lt trail (marked_place marks) (listed c) zero place all lt (subst (λ (n : ℕ). marked_place marks n ≡ true) (omega arith) w) o in
    omega (arith, few, hw)

-- a place gets a mark, or is passed by
pub mark_step : (trail lits : List Literal) (marks : List Bool) (count wanted place : ℕ) (l : Literal) → length marks ≡ length lits → count < wanted → count_watched (marked_place marks) 0 (length lits) ≡ count → ((q : ℕ) → q < length lits → marked_place marks q ≡ true → is_open trail (lit_at lits q) ≡ true) → ((q : ℕ) → place ≤ q → marked_place marks q ≡ false) → place < length lits → l ≡ slice_index_or lits place l → is_open trail l ≡ true → (length (slice_set marks place true) ≡ length lits) × (count_watched (marked_place (slice_set marks place true)) 0 (length lits) ≡ count + 1) × ((q : ℕ) → q < length lits → marked_place (slice_set marks place true) q ≡ true → is_open trail (lit_at lits q) ≡ true) × ((q : ℕ) → place + 1 ≤ q → marked_place (slice_set marks place true) q ≡ false)
mark_step trail lits marks count wanted place l long less counted h rest lt r o = (
  length-set marks place true ∙ long,
  omega (arith, one_more marks place (length lits) long lt (rest place (omega arith)), counted),
  λ q ql m. elim (cases_eq q place) [
    | inl e ↦ subst (λ (z : Literal). is_open trail z ≡ true) (get_or_read lits place l lt r (record { variable = 0; positive = true }) ∙ ap (lit_at lits) (sym e)) o
    | inr d ↦ h q ql (sym (set_other marks place q true d) ∙ m)
  ],
  λ q le. set_other marks place q true (λ (e : q ≡ place). omega (arith, e, le)) ∙ rest q (omega (arith, le)),
)
