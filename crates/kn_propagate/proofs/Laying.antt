-- Chains of entries in one list: a chain is determined by its head, an entry stands in it once, and writing
-- behind an entry changes no chain in which it does not stand.
use Rattle.std.proofs.Common.{◌≡◌, ℕ, zero, suc, ◌+◌, ◌-◌, ◌≤◌, ◌<◌, Bool, true, false, cond, eqb, List, [], ◌∷◌, length, refl, sym, ap, ◌∙◌, subst, inl, inr, arith}
use Rattle.std.specs.Prelude.{slice_index_or, slice_set}
use Rattle.std.specs.List.{list_any, AllByRecursion, IsDistinct}
use Rattle.std.proofs.lemmas.Bool.{or_parts, or_cases, or_left, or_right, eqb-true, eqb-false, eq-eqb, ne_eqb, cases_Bool, cond-true, cond-false}
use Rattle.std.proofs.lemmas.List.{get_or-set_other, get_or-set_same}
use Rattle.std.proofs.lemmas.Map.Steps.{length-le_from_distinct_below}
use Rattle.std.proofs.Math.ListN.{length-set}
use Rattle.kn_propagate.specs.Chains.{is_in, IsChain, AreChains, with_chain, with_home, count_from}

-- a head has one chain
pub chain_one : (nexts : List ℕ) (head : ℕ) (xs ys : List ℕ) → IsChain nexts head xs → IsChain nexts head ys → xs ≡ ys
chain_one nexts head [] [] a b = refl
chain_one nexts head [] (y ∷ ys) a b = absurd (omega (arith, a, b.0))
chain_one nexts head (x ∷ xs) [] a b = absurd (omega (arith, a.0, b))
chain_one nexts head (x ∷ xs) (y ∷ ys) a b =
    let e : y ≡ x = omega (arith, a.0, b.0) in
    let b2 = subst (λ (z : ℕ). IsChain nexts (slice_index_or nexts z 0) ys) e b.2 in
    ap (λ (z : ℕ). z ∷ xs) (sym e) ∙ ap (λ (zs : List ℕ). y ∷ zs) (chain_one nexts (slice_index_or nexts x 0) xs ys a.2 b2)

-- where an entry stands in a chain, the chain goes on behind it as from its own number
tail_at : (nexts : List ℕ) (head e : ℕ) (xs : List ℕ) → IsChain nexts head xs → is_in e xs ≡ true → (ys : List ℕ) × IsChain nexts (e + 1) ys × (length ys ≤ length xs)
tail_at nexts head e [] a h = absurd cc
tail_at nexts head e (x ∷ xs) a h =
    elim (or_cases (eqb x e) (is_in e xs) h) [
      | inl s ↦ (let q = eqb-true _ _ s in (x ∷ xs, subst (λ (z : ℕ). IsChain nexts z (x ∷ xs)) (omega (arith, a.0, q)) a, omega arith))
      | inr t ↦ (let r = tail_at nexts (slice_index_or nexts x 0) e xs a.2 t in (r.0, r.1, omega (arith, r.2)))
    ]

-- the first entry of a chain stands nowhere behind itself
pub first_once : (nexts : List ℕ) (head e : ℕ) (xs : List ℕ) → IsChain nexts head (e ∷ xs) → is_in e xs ≡ false
first_once nexts head e xs a =
    elim (cases_Bool (is_in e xs)) [
      | inl h ↦ (
          let r = tail_at nexts (slice_index_or nexts e 0) e xs a.2 h in
          let whole = subst (λ (z : ℕ). IsChain nexts z (e ∷ xs)) a.0 a in
          let q = ap (λ (zs : List ℕ). length zs) (chain_one nexts (e + 1) (e ∷ xs) r.0 whole r.1) in
          absurd (omega (arith, q, r.2)))
      | inr h ↦ h
    ]

set_other : (nexts : List ℕ) (e v x : ℕ) → eqb x e ≡ false → slice_index_or (slice_set nexts e v) x 0 ≡ slice_index_or nexts x 0
set_other nexts e v x d = get_or-set_other nexts e x v 0 (eqb-false x e d)

-- writing behind an entry that does not stand in a chain
pub chain_kept : (nexts : List ℕ) (head e v : ℕ) (xs : List ℕ) → IsChain nexts head xs → is_in e xs ≡ false → IsChain (slice_set nexts e v) head xs
chain_kept nexts head e v [] a h = a
chain_kept nexts head e v (x ∷ xs) a h =
    let p = or_parts (eqb x e) (is_in e xs) h in
    let n = set_other nexts e v x p.0 in
    (a.0, omega (arith, a.1, length-set nexts e v), subst (λ (z : ℕ). IsChain (slice_set nexts e v) z xs) (sym n) (chain_kept nexts (slice_index_or nexts x 0) e v xs a.2 p.1))

set_at : (heads : List ℕ) (k v j : ℕ) → k < length heads → eqb j k ≡ true → slice_index_or (slice_set heads k v) j 0 ≡ v
set_at heads k v j lt e = subst (λ (x : ℕ). slice_index_or (slice_set heads k v) x 0 ≡ v) (sym (eqb-true j k e)) (get_or-set_same heads k v 0 lt)

-- the parts of a table of chains, with one chain changed
lay_spelled : (nexts heads : List ℕ) (chain : ℕ → List ℕ) (home : ℕ → ℕ) (k e : ℕ) → AreChains nexts heads chain home → k < length heads → e < length nexts → ((j : ℕ) → j < length heads → is_in e (chain j) ≡ false) → (j : ℕ) → j < length heads → (t : Bool) → eqb j k ≡ t → IsChain (slice_set nexts e (slice_index_or heads k 0)) (slice_index_or (slice_set heads k (e + 1)) j 0) (cond t (e ∷ chain k) (chain j))
lay_spelled nexts heads chain home k e are lt en loose j lj true q =
    (set_at heads k (e + 1) j lt q, omega (arith, length-set nexts e (slice_index_or heads k 0)), subst (λ (x : ℕ). IsChain (slice_set nexts e (slice_index_or heads k 0)) x (chain k)) (sym (get_or-set_same nexts e (slice_index_or heads k 0) 0 en)) (chain_kept nexts (slice_index_or heads k 0) e (slice_index_or heads k 0) (chain k) (are.spelled k lt) (loose k lt)))
lay_spelled nexts heads chain home k e are lt en loose j lj false q =
    subst (λ (x : ℕ). IsChain (slice_set nexts e (slice_index_or heads k 0)) x (chain j)) (sym (get_or-set_other heads k j (e + 1) 0 (eqb-false j k q))) (chain_kept nexts (slice_index_or heads j 0) e (slice_index_or heads k 0) (chain j) (are.spelled j lj) (loose j lj))

in_home : (home : ℕ → ℕ) (e k j x : ℕ) (chain : List ℕ) → ((y : ℕ) → is_in y chain ≡ true → home y ≡ j) → is_in e chain ≡ false → is_in x chain ≡ true → (t : Bool) → eqb x e ≡ t → cond t k (home x) ≡ j
in_home home e k j x chain h n i true q = let s = subst (λ (y : ℕ). is_in y chain ≡ true) (eqb-true x e q) i in absurd cc
in_home home e k j x chain h n i false q = h x i

lay_homes : (nexts heads : List ℕ) (chain : ℕ → List ℕ) (home : ℕ → ℕ) (k e : ℕ) → AreChains nexts heads chain home → k < length heads → ((j : ℕ) → j < length heads → is_in e (chain j) ≡ false) → (j x : ℕ) → j < length heads → (t : Bool) → eqb j k ≡ t → is_in x (cond t (e ∷ chain k) (chain j)) ≡ true → with_home home e k x ≡ j
lay_homes nexts heads chain home k e are lt loose j x lj true q i =
    elim (or_cases (eqb e x) (is_in x (chain k)) i) [
      | inl s ↦ cond-true (eqb x e) k (home x) (eq-eqb x e (sym (eqb-true e x s))) ∙ sym (eqb-true j k q)
      | inr s ↦ in_home home e k k x (chain k) (λ y m. are.homes k y lt m) (loose k lt) s (eqb x e) refl ∙ sym (eqb-true j k q)
    ]
lay_homes nexts heads chain home k e are lt loose j x lj false q i =
    in_home home e k j x (chain j) (λ y m. are.homes j y lj m) (loose j lj) i (eqb x e) refl

-- an entry in no chain is put in front of one
pub lay : (nexts heads : List ℕ) (chain : ℕ → List ℕ) (home : ℕ → ℕ) (k e : ℕ) → AreChains nexts heads chain home → k < length heads → e < length nexts → ((j : ℕ) → j < length heads → is_in e (chain j) ≡ false) → AreChains (slice_set nexts e (slice_index_or heads k 0)) (slice_set heads k (e + 1)) (with_chain chain k (e ∷ chain k)) (with_home home e k)
lay nexts heads chain home k e are lt en loose = record {
  spelled = λ j lj. lay_spelled nexts heads chain home k e are lt en loose j (subst (λ n. j < n) (length-set heads k (e + 1)) lj) (eqb j k) refl;
  homes = λ j x lj i. lay_homes nexts heads chain home k e are lt loose j x (subst (λ n. j < n) (length-set heads k (e + 1)) lj) (eqb j k) refl i;
}

draw_spelled : (nexts heads : List ℕ) (chain : ℕ → List ℕ) (home : ℕ → ℕ) (k e : ℕ) (rest : List ℕ) → AreChains nexts heads chain home → k < length heads → chain k ≡ e ∷ rest → (j : ℕ) → j < length heads → (t : Bool) → eqb j k ≡ t → IsChain nexts (slice_index_or (slice_set heads k (slice_index_or nexts e 0)) j 0) (cond t rest (chain j))
draw_spelled nexts heads chain home k e rest are lt is j lj true q =
    let whole = subst (λ (xs : List ℕ). IsChain nexts (slice_index_or heads k 0) xs) is (are.spelled k lt) in
    subst (λ (x : ℕ). IsChain nexts x rest) (sym (set_at heads k (slice_index_or nexts e 0) j lt q)) whole.2
draw_spelled nexts heads chain home k e rest are lt is j lj false q =
    subst (λ (x : ℕ). IsChain nexts x (chain j)) (sym (get_or-set_other heads k j (slice_index_or nexts e 0) 0 (eqb-false j k q))) (are.spelled j lj)

draw_homes : (nexts heads : List ℕ) (chain : ℕ → List ℕ) (home : ℕ → ℕ) (k e : ℕ) (rest : List ℕ) → AreChains nexts heads chain home → k < length heads → chain k ≡ e ∷ rest → (j x : ℕ) → j < length heads → (t : Bool) → eqb j k ≡ t → is_in x (cond t rest (chain j)) ≡ true → home x ≡ j
draw_homes nexts heads chain home k e rest are lt is j x lj true q i =
    are.homes k x lt (subst (λ (xs : List ℕ). is_in x xs ≡ true) (sym is) (or_right (eqb e x) (is_in x rest) i)) ∙ sym (eqb-true j k q)
draw_homes nexts heads chain home k e rest are lt is j x lj false q i = are.homes j x lj i

draw_loose : (nexts heads : List ℕ) (chain : ℕ → List ℕ) (home : ℕ → ℕ) (k e : ℕ) (rest : List ℕ) → AreChains nexts heads chain home → k < length heads → chain k ≡ e ∷ rest → (j : ℕ) → j < length heads → (t : Bool) → eqb j k ≡ t → is_in e (cond t rest (chain j)) ≡ false
draw_loose nexts heads chain home k e rest are lt is j lj true q = first_once nexts (slice_index_or heads k 0) e rest (subst (λ (xs : List ℕ). IsChain nexts (slice_index_or heads k 0) xs) is (are.spelled k lt))
draw_loose nexts heads chain home k e rest are lt is j lj false q =
    elim (cases_Bool (is_in e (chain j))) [
      | inl i ↦ (
          let a = are.homes j e lj i in
          let b = are.homes k e lt (subst (λ (xs : List ℕ). is_in e xs ≡ true) (sym is) (or_left (eqb e e) (is_in e rest) (eq-eqb e e refl))) in
          absurd (eqb-false j k q (sym a ∙ b)))
      | inr i ↦ i
    ]

-- the first entry of a chain is taken out, and stands in no chain then
pub draw : (nexts heads : List ℕ) (chain : ℕ → List ℕ) (home : ℕ → ℕ) (k e : ℕ) (rest : List ℕ) → AreChains nexts heads chain home → k < length heads → chain k ≡ e ∷ rest → AreChains nexts (slice_set heads k (slice_index_or nexts e 0)) (with_chain chain k rest) home
draw nexts heads chain home k e rest are lt is = record {
  spelled = λ j lj. draw_spelled nexts heads chain home k e rest are lt is j (subst (λ n. j < n) (length-set heads k (slice_index_or nexts e 0)) lj) (eqb j k) refl;
  homes = λ j x lj i. draw_homes nexts heads chain home k e rest are lt is j x (subst (λ n. j < n) (length-set heads k (slice_index_or nexts e 0)) lj) (eqb j k) refl i;
}

pub drawn_loose : (nexts heads : List ℕ) (chain : ℕ → List ℕ) (home : ℕ → ℕ) (k e : ℕ) (rest : List ℕ) → AreChains nexts heads chain home → k < length heads → chain k ≡ e ∷ rest → (j : ℕ) → j < length heads → is_in e (with_chain chain k rest j) ≡ false
drawn_loose nexts heads chain home k e rest are lt is j lj = draw_loose nexts heads chain home k e rest are lt is j lj (eqb j k) refl

all_apart : (e : ℕ) (xs : List ℕ) → is_in e xs ≡ false → AllByRecursion (λ y. eqb e y ≡ false) xs
all_apart e [] h = tt
all_apart e (x ∷ xs) h = let p = or_parts (eqb x e) (is_in e xs) h in (ne_eqb e x (λ (q : e ≡ x). eqb-false x e p.0 (sym q)), all_apart e xs p.1)

chain_distinct : (nexts : List ℕ) (head : ℕ) (xs : List ℕ) → IsChain nexts head xs → IsDistinct eqb xs
unfolding IsDistinct
chain_distinct nexts head [] a = tt
chain_distinct nexts head (x ∷ xs) a = (all_apart x xs (first_once nexts head x xs a), chain_distinct nexts (slice_index_or nexts x 0) xs a.2)

chain_below : (nexts : List ℕ) (head q : ℕ) (xs : List ℕ) → IsChain nexts head xs → list_any (eqb q) xs ≡ true → q < length nexts
chain_below nexts head q [] a h = absurd cc
chain_below nexts head q (x ∷ xs) a h = elim (or_cases (eqb q x) (list_any (eqb q) xs) h) [
  | inl s ↦ omega (arith, eqb-true q x s, a.1)
  | inr t ↦ chain_below nexts (slice_index_or nexts x 0) q xs a.2 t
]

pub chain_short : (nexts : List ℕ) (head : ℕ) (xs : List ℕ) → IsChain nexts head xs → length xs ≤ length nexts
chain_short nexts head xs a = length-le_from_distinct_below xs (length nexts) (chain_distinct nexts head xs a) (λ q h. chain_below nexts head q xs a h)

pub count_is : (nexts : List ℕ) (fuel head : ℕ) (xs : List ℕ) → IsChain nexts head xs → length xs ≤ fuel → count_from nexts fuel head ≡ length xs
count_is nexts zero head [] a le = refl
count_is nexts zero head (x ∷ xs) a le = absurd (omega (arith, le))
count_is nexts (suc n) head [] a le = cond-true (eqb head 0) 0 (1 + count_from nexts n (slice_index_or nexts (head - 1) 0)) (eq-eqb head 0 a)
count_is nexts (suc n) head (x ∷ xs) a le =
    let ih = count_is nexts n (slice_index_or nexts x 0) xs a.2 (omega (arith, le)) in
    let q : head - 1 ≡ x = omega (arith, a.0) in
    cond-false (eqb head 0) 0 (1 + count_from nexts n (slice_index_or nexts (head - 1) 0)) (ne_eqb head 0 (λ (z : head ≡ 0). omega (arith, a.0, z)))
    ∙ ap (λ (z : ℕ). 1 + count_from nexts n (slice_index_or nexts z 0)) q ∙ omega (arith, ih)
