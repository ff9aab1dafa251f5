-- What a store keeps, when a constraint comes, when one is wanting memory, and when one leaves.
use Rattle.std.proofs.Common.{◌≡◌, Vec, ℕ, suc, ◌+◌, ◌-◌, ◌<◌, ◌≤◌, ◌==◌, Bool, true, false, not, cond, List, [], ◌∷◌, ◌++◌, length, map, take, filter, get_or, Option, Some, None, IfSome, refl, sym, ap, ap₂, subst, ◌∙◌, arith, true≢false}
use Rattle.std.specs.List.{AllByRecursion}
use Rattle.std.proofs.lemmas.Bool.{cond-true, cond-false, ne_eqb}
use Rattle.std.proofs.lemmas.List.{length-append, with_items_is}
use Rattle.std.specs.Vec.{with_items}
use Rattle.kn_logic.specs.Literals.{names, AreKnown}
use Rattle.kn_logic.specs.Constraints.{Bounded, Fits, IsWithin, named}
use Rattle.kn_logic.specs.Groups.{is_among}
use Rattle.kn_store.specs.Stores.{Numbered, Stored, constraints_of, ids_of, constraint_at, naming, IsStored}
use Rattle.kn_store.specs.Kept.{pairs_of, IsKept, with_id, without_id, changed}
use Rattle.kn_store.proofs.Public.{all-one, all-two, from-map, to-map, all-filter, all-pass, Rises, increasing, IsOwn, own}
use Rattle.kn_store.proofs.Places.{not-there, all-there}
use Rattle.kn_store.proofs.Changed.{length-changed, at-changed, with-twice, without-twice, undone, names-front, known-front, known-named}

-- ids of slots
pub between : (last : ℕ) (slots : List (Option Bounded)) → AllByRecursion (λ p. (last < p.id) × (p.id ≤ last + length slots)) (pairs_of last slots)
between last [] = tt
between last (None ∷ slots) = all-one (λ p. (last + 1 < p.id) × (p.id ≤ last + 1 + length slots)) (λ p. (last < p.id) × (p.id ≤ last + suc (length slots)))
    (λ p h. (omega (arith, h.0), omega (arith, h.1))) (pairs_of (last + 1) slots) (between (last + 1) slots)
between last (Some c ∷ slots) = (
  (omega arith, omega arith),
  all-one (λ p. (last + 1 < p.id) × (p.id ≤ last + 1 + length slots)) (λ p. (last < p.id) × (p.id ≤ last + suc (length slots)))
      (λ p h. (omega (arith, h.0), omega (arith, h.1))) (pairs_of (last + 1) slots) (between (last + 1) slots),
)

pub pairs-rise : (last : ℕ) (slots : List (Option Bounded)) → Rises (ids_of (pairs_of last slots))
pairs-rise last [] = tt
pairs-rise last (None ∷ slots) = pairs-rise (last + 1) slots
pairs-rise last (Some c ∷ slots) = (
  to-map (λ p. p.id) (λ y. last + 1 < y) (pairs_of (last + 1) slots)
      (all-one (λ p. (last + 1 < p.id) × (p.id ≤ last + 1 + length slots)) (λ p. last + 1 < p.id) (λ p h. h.0) (pairs_of (last + 1) slots) (between (last + 1) slots)),
  pairs-rise (last + 1) slots,
)

pub stored-from : (vars live : ℕ) (slots : List (Option Bounded)) (lists : List (List ℕ)) → IsKept vars live slots lists → IsStored (record { vars = vars; added = length slots; live = pairs_of 0 slots })
stored-from vars live slots lists kept = record {
  formula = kept.fits;
  ascending = increasing (ids_of (pairs_of 0 slots)) (pairs-rise 0 slots);
  counted = all-one (λ p. (0 < p.id) × (p.id ≤ 0 + length slots)) (λ p. (1 ≤ p.id) × (p.id ≤ length slots)) (λ p h. (omega (arith, h.0), omega (arith, h.1))) (pairs_of 0 slots) (between 0 slots);
}

-- ids of the constraints that name a variable
pub low-ids : (slots : List (Option Bounded)) (x id : ℕ) → length slots < id → AllByRecursion (λ i. i < id) (ids_of (naming x (pairs_of 0 slots)))
low-ids slots x id h = to-map (λ p. p.id) (λ i. i < id) (naming x (pairs_of 0 slots))
    (all-filter (λ p. p.id < id) (λ p. names (named p.constraint) x) (pairs_of 0 slots)
    (all-one (λ p. (0 < p.id) × (p.id ≤ 0 + length slots)) (λ p. p.id < id) (λ p q. omega (arith, q.1, h)) (pairs_of 0 slots) (between 0 slots)))

-- what `enter` asks of the lists
pub low-lists : (vars live id : ℕ) (slots : List (Option Bounded)) (lists : List (List ℕ)) → IsKept vars live slots lists → length slots < id → (k : ℕ) → AllByRecursion (λ i. i ≤ id) (get_or lists k [])
low-lists vars live id slots lists kept h k =
    let one : k + 1 - 1 ≡ k = omega arith in
    subst (λ z. AllByRecursion (λ i. i ≤ id) (get_or lists z [])) one
    (subst (AllByRecursion (λ i. i ≤ id)) (sym (kept.listed (k + 1) (omega arith)))
    (all-one (λ i. i < id) (λ i. i ≤ id) (λ i q. omega (arith, q)) (ids_of (naming (k + 1) (pairs_of 0 slots))) (low-ids slots (k + 1) id h)))

-- a constraint comes
pub pairs-push : (last : ℕ) (slots : List (Option Bounded)) (c : Bounded) (id : ℕ) → last + 1 + length slots ≡ id → pairs_of last (slots ++ Some c ∷ []) ≡ pairs_of last slots ++ record { id = id; constraint = c } ∷ []
pairs-push last [] c id e = ap (λ n. record { id = n; constraint = c } ∷ []) (let f : last + 1 ≡ id = omega (arith, e) in f)
pairs-push last (None ∷ slots) c id e = pairs-push (last + 1) slots c id (omega (arith, e))
pairs-push last (Some d ∷ slots) c id e = ap (λ z. record { id = last + 1; constraint = d } ∷ z) (pairs-push (last + 1) slots c id (omega (arith, e)))

map-all-push : {X Y : Type 0} (f : X → Y) (P : Y → Type 0) (xs : List X) (y : X) → AllByRecursion P (map f xs) → P (f y) → AllByRecursion P (map f (xs ++ y ∷ []))
map-all-push f P [] y h p = (p, tt)
map-all-push f P (x ∷ xs) y h p = (h.0, map-all-push f P xs y h.1 p)

chosen-push : {X Y : Type 0} (f : X → Y) (test : X → Bool) (xs : List X) (y : X) → map f (filter test (xs ++ y ∷ [])) ≡ cond (test y) (map f (filter test xs) ++ f y ∷ []) (map f (filter test xs))
chosen-push f test [] y = at (test y)
  where
    at : (t : Bool) → map f (cond t (y ∷ []) []) ≡ cond t (f y ∷ []) []
    at true = refl
    at false = refl
chosen-push {X} f test (x ∷ xs) y = at (test x) (test y) (chosen-push f test xs y)
  where
    rest : List X
    rest = filter test xs

    at : (s t : Bool) → map f (filter test (xs ++ y ∷ [])) ≡ cond t (map f rest ++ f y ∷ []) (map f rest)
        → map f (cond s (x ∷ filter test (xs ++ y ∷ [])) (filter test (xs ++ y ∷ []))) ≡ cond t (map f (cond s (x ∷ rest) rest) ++ f y ∷ []) (map f (cond s (x ∷ rest) rest))
    at true true e = ap (λ z. f x ∷ z) e
    at true false e = ap (λ z. f x ∷ z) e
    at false t e = e

pub kept-add : (vars live : ℕ) (slots : List (Option Bounded)) (lists : List (List ℕ)) (c : Bounded) (id : ℕ) → IsKept vars live slots lists → Fits vars c → length slots + 1 ≡ id
    → IsKept vars (live + 1) (slots ++ Some c ∷ []) (changed (with_id id) lists (named c))
kept-add vars live slots lists c id kept fits e =
    let push = pairs-push 0 slots c id (omega (arith, e)) in
    record {
      long = length-changed (with_id id) lists (named c) ∙ kept.long;
      count = let n = kept.count in let m = ap length push ∙ length-append (pairs_of 0 slots) (record { id = id; constraint = c } ∷ []) in omega (arith, n, m);
      fits = subst (λ z. AllByRecursion (Fits vars) (constraints_of z)) (sym push) (map-all-push (λ p. p.constraint) (Fits vars) (pairs_of 0 slots) (record { id = id; constraint = c }) kept.fits fits);
      listed = λ x low.
          at-changed (with_id id) (with-twice id) lists (named c) x (subst (λ n. AreKnown n (named c)) (sym kept.long) (known-named vars c fits.within)) low
          ∙ ap (λ z. cond (names (named c) x) (with_id id z) z) (kept.listed x low)
          ∙ ap (λ z. cond (names (named c) x) z (ids_of (naming x (pairs_of 0 slots))))
          (cond-false (is_among (ids_of (naming x (pairs_of 0 slots))) id) (ids_of (naming x (pairs_of 0 slots))) (ids_of (naming x (pairs_of 0 slots)) ++ id ∷ [])
          (not-there (ids_of (naming x (pairs_of 0 slots))) id (low-ids slots x id (omega (arith, e)))))
          ∙ sym (chosen-push (λ p. p.id) (λ p. names (named p.constraint) x) (pairs_of 0 slots) (record { id = id; constraint = c }))
          ∙ ap (λ z. ids_of (naming x z)) (sym push);
    }

-- memory is short, and the ids that came leave again
pub kept-undone : (vars live : ℕ) (slots : List (Option Bounded)) (lists came : List (List ℕ)) (c : Bounded) (id k : ℕ) → IsKept vars live slots lists → IsWithin vars c → length slots < id
    → came ≡ changed (with_id id) lists (take k (named c)) → IsKept vars live slots (changed (without_id id) came (named c))
kept-undone vars live slots lists came c id k kept within e is = record {
  long = length-changed (without_id id) came (named c) ∙ long-came ∙ kept.long;
  count = kept.count;
  fits = kept.fits;
  listed = λ x low.
      at-changed (without_id id) (without-twice id) came (named c) x (subst (λ n. AreKnown n (named c)) (sym (long-came ∙ kept.long)) (known-named vars c within)) low
      ∙ ap (λ z. cond (names (named c) x) (without_id id z) z)
      (ap (λ z. get_or z (x - 1) []) is
      ∙ at-changed (with_id id) (with-twice id) lists (take k (named c)) x (known-front (length lists) k (named c) (subst (λ n. AreKnown n (named c)) (sym kept.long) (known-named vars c within))) low
      ∙ ap (λ z. cond (names (take k (named c)) x) (with_id id z) z) (kept.listed x low))
      ∙ at x (ids_of (naming x (pairs_of 0 slots))) (low-ids slots x id e) (names (named c) x) (names (take k (named c)) x) refl refl;
}
  where
    long-came : length came ≡ length lists
    long-came = ap length is ∙ length-changed (with_id id) lists (take k (named c))

    at : (x : ℕ) (ids : List ℕ) → AllByRecursion (λ i. i < id) ids → (s t : Bool) → names (named c) x ≡ s → names (take k (named c)) x ≡ t → cond s (without_id id (cond t (with_id id ids) ids)) (cond t (with_id id ids) ids) ≡ ids
    at x ids low true true p q = undone id ids low
    at x ids low true false p q = all-there id ids (all-one (λ i. i < id) (λ i. (i == id) ≡ false) (λ i h. ne_eqb i id (λ s. absurd (omega (arith, s, h)))) ids low)
    at x ids low false true p q = absurd (true≢false (sym (names-front k (named c) x q) ∙ p))
    at x ids low false false p q = refl

-- a constraint leaves
filters-turn : {X : Type 0} (p q : X → Bool) (xs : List X) → filter p (filter q xs) ≡ filter q (filter p xs)
filters-turn p q [] = refl
filters-turn {X} p q (x ∷ xs) = at (p x) (q x) refl refl (filters-turn p q xs)
  where
    at : (s t : Bool) → p x ≡ s → q x ≡ t → filter p (filter q xs) ≡ filter q (filter p xs) → filter p (cond t (x ∷ filter q xs) (filter q xs)) ≡ filter q (cond s (x ∷ filter p xs) (filter p xs))
    at true true e f more = cond-true (p x) (x ∷ filter p (filter q xs)) (filter p (filter q xs)) e ∙ ap (λ z. x ∷ z) more ∙ sym (cond-true (q x) (x ∷ filter q (filter p xs)) (filter q (filter p xs)) f)
    at true false e f more = more ∙ sym (cond-false (q x) (x ∷ filter q (filter p xs)) (filter q (filter p xs)) f)
    at false true e f more = cond-false (p x) (x ∷ filter p (filter q xs)) (filter p (filter q xs)) e ∙ more
    at false false e f more = more

ids-without : (id : ℕ) (ps : List Numbered) → ids_of (filter (λ p. not (p.id == id)) ps) ≡ without_id id (ids_of ps)
ids-without id [] = refl
ids-without id (p ∷ ps) = at (not (p.id == id)) (ids-without id ps)
  where
    at : (t : Bool) → ids_of (filter (λ p. not (p.id == id)) ps) ≡ without_id id (ids_of ps) → ids_of (cond t (p ∷ filter (λ p. not (p.id == id)) ps) (filter (λ p. not (p.id == id)) ps)) ≡ cond t (p.id ∷ without_id id (ids_of ps)) (without_id id (ids_of ps))
    at true e = ap (λ z. p.id ∷ z) e
    at false e = e

pub none-left : (ps : List Numbered) (id : ℕ) → constraint_at ps id ≡ None → ps ≡ filter (λ p. not (p.id == id)) ps
none-left [] id e = refl
none-left (p ∷ ps) id e = at (p.id == id) refl e (none-left ps id)
  where
    at : (t : Bool) → (p.id == id) ≡ t → cond t (Some p.constraint) (constraint_at ps id) ≡ None → (constraint_at ps id ≡ None → ps ≡ filter (λ p. not (p.id == id)) ps)
        → p ∷ ps ≡ cond (not t) (p ∷ filter (λ p. not (p.id == id)) ps) (filter (λ p. not (p.id == id)) ps)
    at true s e more = absurd cc
    at false s e more = ap (λ z. p ∷ z) (more e)

-- the ids of constraints that do not name a variable are not in its list
unnamed-id : (slots : List (Option Bounded)) (c : Bounded) (id x : ℕ) → constraint_at (pairs_of 0 slots) id ≡ Some c → names (named c) x ≡ false → without_id id (ids_of (naming x (pairs_of 0 slots))) ≡ ids_of (naming x (pairs_of 0 slots))
unnamed-id slots c id x there none = all-there id (ids_of (naming x (pairs_of 0 slots))) (to-map (λ p. p.id) (λ i. (i == id) ≡ false) (naming x (pairs_of 0 slots))
    (all-two (IsOwn (pairs_of 0 slots)) (λ p. names (named p.constraint) x ≡ true) (λ p. (p.id == id) ≡ false)
    (λ p mine passes. ne_eqb p.id id (λ s. true≢false (sym passes ∙ ap (λ d. names (named d) x) (same p.constraint (sym mine ∙ ap (constraint_at (pairs_of 0 slots)) s ∙ there)) ∙ none)))
    (naming x (pairs_of 0 slots)) (all-filter (IsOwn (pairs_of 0 slots)) (λ p. names (named p.constraint) x) (pairs_of 0 slots) (own (pairs_of 0 slots) (pairs-rise 0 slots)))
    (all-pass (λ p. names (named p.constraint) x) (pairs_of 0 slots))))
  where
    same : (d : Bounded) → Some d ≡ Some c → d ≡ c
    same d e = ap (value c) e
      where
        value : Bounded → Option Bounded → Bounded
        value d None = d
        value d (Some e) = e

pub kept-remove : (vars live : ℕ) (slots less : List (Option Bounded)) (lists : List (List ℕ)) (c : Bounded) (id : ℕ) → IsKept vars live slots lists → constraint_at (pairs_of 0 slots) id ≡ Some c
    → pairs_of 0 less ≡ filter (λ p. not (p.id == id)) (pairs_of 0 slots) → length (pairs_of 0 less) + 1 ≡ length (pairs_of 0 slots) → IsWithin vars c
    → IsKept vars (live - 1) less (changed (without_id id) lists (named c))
kept-remove vars live slots less lists c id kept there is fewer within = record {
  long = length-changed (without_id id) lists (named c) ∙ kept.long;
  count = let n = kept.count in omega (arith, n, fewer);
  fits = subst (λ z. AllByRecursion (Fits vars) (constraints_of z)) (sym is)
      (to-map (λ p. p.constraint) (Fits vars) (filter (λ p. not (p.id == id)) (pairs_of 0 slots))
      (all-filter (λ p. Fits vars p.constraint) (λ p. not (p.id == id)) (pairs_of 0 slots) (from-map (λ p. p.constraint) (Fits vars) (pairs_of 0 slots) kept.fits)));
  listed = λ x low.
      at-changed (without_id id) (without-twice id) lists (named c) x (subst (λ n. AreKnown n (named c)) (sym kept.long) (known-named vars c within)) low
      ∙ ap (λ z. cond (names (named c) x) (without_id id z) z) (kept.listed x low)
      ∙ at x (names (named c) x) refl
      ∙ sym (ids-without id (naming x (pairs_of 0 slots)))
      ∙ ap ids_of (filters-turn (λ p. not (p.id == id)) (λ p. names (named p.constraint) x) (pairs_of 0 slots))
      ∙ ap (λ z. ids_of (naming x z)) (sym is);
}
  where
    at : (x : ℕ) (t : Bool) → names (named c) x ≡ t → cond t (without_id id (ids_of (naming x (pairs_of 0 slots)))) (ids_of (naming x (pairs_of 0 slots))) ≡ without_id id (ids_of (naming x (pairs_of 0 slots)))
    at x true e = refl
    at x false e = sym (unnamed-id slots c id x there e)

-- the constraint of an id fits
pub fits-at : (vars id : ℕ) (c : Bounded) (ps : List Numbered) → AllByRecursion (Fits vars) (constraints_of ps) → constraint_at ps id ≡ Some c → Fits vars c
fits-at vars id c ps fits e = subst (λ o. IfSome o (Fits vars)) e (at ps fits)
  where
    one : (t : Bool) (d : Bounded) (o : Option Bounded) → Fits vars d → IfSome o (Fits vars) → IfSome (cond t (Some d) o) (Fits vars)
    one true d o f g = f
    one false d o f g = g

    at : (ps : List Numbered) → AllByRecursion (Fits vars) (constraints_of ps) → IfSome (constraint_at ps id) (Fits vars)
    at [] f = tt
    at (p ∷ ps) f = one (p.id == id) p.constraint (constraint_at ps id) f.0 (at ps f.1)

-- the same of lists that are given by equations
pub added : (vars live id : ℕ) (slots more : List (Option Bounded)) (lists was now : List (List ℕ)) (c : Bounded) → IsKept vars live slots lists → Fits vars c → length slots + 1 ≡ id
    → more ≡ slots ++ Some c ∷ [] → was ≡ lists → now ≡ changed (with_id id) was (named c) → IsKept vars (live + 1) more now
added vars live id slots more lists was now c kept fits e is before after =
    subst (λ z. IsKept vars (live + 1) z now) (sym is) (subst (IsKept vars (live + 1) (slots ++ Some c ∷ [])) (sym (after ∙ ap (λ z. changed (with_id id) z (named c)) before)) (kept-add vars live slots lists c id kept fits e))

pub not-added : (vars live id k : ℕ) (slots same : List (Option Bounded)) (lists was came left now : List (List ℕ)) (c : Bounded) → IsKept vars live slots lists → IsWithin vars c → length slots < id
    → same ≡ slots → was ≡ lists → came ≡ changed (with_id id) was (take k (named c)) → left ≡ changed (without_id id) came (named c) → now ≡ left → IsKept vars live same now
not-added vars live id k slots same lists was came left now c kept within e is before middle after last =
    subst (λ z. IsKept vars live z now) (sym is) (subst (IsKept vars live slots) (sym (last ∙ after))
    (kept-undone vars live slots lists came c id k kept within e (middle ∙ ap (λ z. changed (with_id id) z (take k (named c))) before)))

pub removed : (vars live id : ℕ) (slots were less : List (Option Bounded)) (lists was now : List (List ℕ)) (c : Bounded) → IsKept vars live slots lists → were ≡ slots → Some c ≡ constraint_at (pairs_of 0 were) id
    → pairs_of 0 less ≡ filter (λ p. not (p.id == id)) (pairs_of 0 were) → length (pairs_of 0 less) + 1 ≡ length (pairs_of 0 were) → was ≡ lists → now ≡ changed (without_id id) was (named c)
    → IsKept vars (live - 1) less now
removed vars live id slots were less lists was now c kept e there is fewer before after =
    let found = ap (λ z. constraint_at (pairs_of 0 z) id) (sym e) ∙ sym there in
    subst (IsKept vars (live - 1) less) (sym (after ∙ ap (λ z. changed (without_id id) z (named c)) before))
    (kept-remove vars live slots less lists c id kept found (is ∙ ap (λ z. filter (λ p. not (p.id == id)) (pairs_of 0 z)) e) (fewer ∙ ap (λ z. length (pairs_of 0 z)) e)
    (fits-at vars id c (pairs_of 0 slots) kept.fits found).within)

pub live-low : (last : ℕ) (slots : List (Option Bounded)) → length (pairs_of last slots) ≤ length slots
live-low last [] = omega arith
live-low last (None ∷ slots) = let low = live-low (last + 1) slots in omega (arith, low)
live-low last (Some c ∷ slots) = let low = live-low (last + 1) slots in omega (arith, low)

pub with-all : {X Z : Type 0} (v : Vec X Z) (was new : List X) → was ≡ v.items → length new ≡ length was → (with_items v new).items ≡ new
with-all v was new e long = with_items_is v new (let n = ap length e in let m = v.ok.0 in omega (arith, n, m, long))

abbrev pub the-stored : ℕ → ℕ → List Numbered → Stored
the-stored vars added live = record { vars = vars; added = added; live = live }

-- the value of a store whose slots have one more
pub pushed : (vars : ℕ) (slots more : List (Option Bounded)) (c : Bounded) → more ≡ slots ++ Some c ∷ []
    → the-stored vars (length more) (pairs_of 0 more) ≡ the-stored vars (length slots + 1) (pairs_of 0 slots ++ record { id = length slots + 1; constraint = c } ∷ [])
pushed vars slots more c e =
    ap₂ (the-stored vars) (ap length e ∙ length-append slots (Some c ∷ [])) (ap (pairs_of 0) e ∙ pairs-push 0 slots c (length slots + 1) (omega arith))
