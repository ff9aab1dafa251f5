-- What the deletion of ids takes away, and what it leaves.
use Rattle.std.proofs.Common.{◌≡◌, ℕ, zero, suc, ◌-◌, ◌≤◌, ◌<◌, ◌==◌, ◌||◌, ◌++◌, Bool, true, false, cond, List, [], ◌∷◌, length, set, nat_eq, Option, None, Some, Result, Ok, Err, IsSome, refl, sym, ap, ◌∙◌, subst, inl, inr, arith}
use Rattle.std.specs.List.{AllByRecursion, IsDistinct, slice_get}
use Rattle.std.specs.Option.{is_none, option_and_then}
use Rattle.std.specs.Result.{IsOk}
use Rattle.std.proofs.lemmas.Bool.{cond-false, eqb-true, eqb-false, ne_eqb, or_cases, or_parts}
use Rattle.std.proofs.lemmas.Option.{slice_get_within}
use Rattle.kn_logic.specs.Constraints.{Bounded}
use Rattle.kn_logic.specs.Groups.{is_among}
use Rattle.kn_lines.specs.Lines.{AreIds}
use Rattle.kn_rules.specs.declared.given.Given.{Given}
use Rattle.kn_rules.specs.States.{given_at, live_at}
use Rattle.kn_rules.specs.Steps.{without, deleted}
use Rattle.kn_rules.proofs.Public.{live_at-grows}
use Rattle.kn_justify.specs.Closings.{AreLive}

get-set : {X : Type 0} (xs : List X) (k j : ℕ) (y : X) → (j ≡ k → ⊥) → slice_get (set xs k y) j ≡ slice_get xs j
get-set [] zero j y n = refl
get-set [] (suc k) j y n = refl
get-set (x ∷ xs) zero zero y n = absurd (n refl)
get-set (x ∷ xs) zero (suc j) y n = refl
get-set (x ∷ xs) (suc k) zero y n = refl
get-set (x ∷ xs) (suc k) (suc j) y n = get-set xs k j y (λ e. n (ap suc e))

get-own : {X : Type 0} (xs : List X) (k : ℕ) (x y : X) → slice_get xs k ≡ Some x → slice_get (set xs k y) k ≡ Some y
get-own [] k x y e = absurd cc
get-own (z ∷ xs) zero x y e = refl
get-own (z ∷ xs) (suc k) x y e = get-own xs k x y e

if-given : (b : Bool) (o : Option Given) (entry : Given) → cond b None o ≡ Some entry → (b ≡ false) × (o ≡ Some entry)
if-given true o entry e = absurd cc
if-given false o entry e = (refl, e)

given-id : (given : List Given) (id : ℕ) (entry : Given) → given_at given id ≡ Some entry → (id ≡ 0 → ⊥)
given-id given id entry e = eqb-false id 0 (if-given (id == 0) (slice_get given (id - 1)) entry e).0

place-of : (given : List Given) (id : ℕ) (entry : Given) → given_at given id ≡ Some entry → slice_get given (id - 1) ≡ Some entry
place-of given id entry e = (if-given (id == 0) (slice_get given (id - 1)) entry e).1

-- an id that is not the one that is deleted
apart_at : (given : List Given) (id k : ℕ) (o : Option Given) → given_at given id ≡ o → (id ≡ k → ⊥) → given_at (without given id o) k ≡ given_at given k
apart_at given id k None e n = refl
apart_at given id k (Some entry) e n = at (k == 0) refl
  where
    at : (b : Bool) → (k == 0) ≡ b → cond b None (slice_get (set given (id - 1) (record entry { live = None })) (k - 1)) ≡ cond b None (slice_get given (k - 1))
    at true t = refl
    at false t =
        let some = given-id given id entry e in
        let other = eqb-false k 0 t in
        get-set given (id - 1) (k - 1) (record entry { live = None }) (λ same. n (omega (arith, same, some, other)))

pub live-apart : (given : List Given) (id k : ℕ) → (id ≡ k → ⊥) → live_at (without given id (given_at given id)) k ≡ live_at given k
live-apart given id k n = ap (λ (o : Option Given). option_and_then (λ entry. entry.live) o) (apart_at given id k (given_at given id) refl n)

own_at : (given : List Given) (id : ℕ) (o : Option Given) → given_at given id ≡ o → option_and_then (λ entry. entry.live) (given_at (without given id o) id) ≡ None
own_at given id None e = ap (λ (o : Option Given). option_and_then (λ entry. entry.live) o) e
own_at given id (Some entry) e =
    ap (λ (o : Option Given). option_and_then (λ x. x.live) o)
    (cond-false (id == 0) None (slice_get (set given (id - 1) (record entry { live = None })) (id - 1)) (ne_eqb id 0 (given-id given id entry e))
    ∙ get-own given (id - 1) entry (record entry { live = None }) (place-of given id entry e))

live-own : (given : List Given) (id : ℕ) → live_at (without given id (given_at given id)) id ≡ None
live-own given id = own_at given id (given_at given id) refl

-- the first id is live, and is deleted before the others
unless-err : (b : Bool) (r : Result (List Given) ℕ) (gone : List Given) → cond b (Err 4) r ≡ Ok gone → r ≡ Ok gone
unless-err true r gone e = absurd cc
unless-err false r gone e = e

pub deleted-keeps : (ids : List ℕ) (given gone : List Given) (k : ℕ) → deleted given ids ≡ Ok gone → is_among ids k ≡ false → live_at gone k ≡ live_at given k
deleted-keeps [] given gone k e n = same given gone e
  where
    same : (a b : List Given) → ◌≡◌ {A = Result (List Given) ℕ} (Ok a) (Ok b) → live_at b k ≡ live_at a k
    same a b f = (let g : a ≡ b = cc in ap (λ (xs : List Given). live_at xs k) (sym g))
deleted-keeps (id ∷ ids) given gone k e n =
    let parts = or_parts (id == k) (is_among ids k) n in
    deleted-keeps ids (without given id (given_at given id)) gone k (unless-err (is_none (live_at given id)) _ gone e) parts.1
    ∙ live-apart given id k (eqb-false id k parts.0)

gone-first : (ids : List ℕ) (given gone : List Given) (id : ℕ) (b : Bool) → is_among ids id ≡ b → deleted (without given id (given_at given id)) ids ≡ Ok gone → ((k : ℕ) → is_among ids k ≡ true → live_at gone k ≡ None) → live_at gone id ≡ None
gone-first ids given gone id true t e rest = rest id t
gone-first ids given gone id false t e rest = deleted-keeps ids (without given id (given_at given id)) gone id e t ∙ live-own given id

pub deleted-gone : (ids : List ℕ) (given gone : List Given) (k : ℕ) → deleted given ids ≡ Ok gone → is_among ids k ≡ true → live_at gone k ≡ None
deleted-gone [] given gone k e h = absurd cc
deleted-gone (id ∷ ids) given gone k e h =
    let next = unless-err (is_none (live_at given id)) (deleted (without given id (given_at given id)) ids) gone e in
    let rest : (j : ℕ) → is_among ids j ≡ true → live_at gone j ≡ None = λ j t. deleted-gone ids (without given id (given_at given id)) gone j next t in
    elim (or_cases (id == k) (is_among ids k) h) [
      | inl s ↦ subst (λ (j : ℕ). live_at gone j ≡ None) (eqb-true id k s) (gone-first ids given gone id (is_among ids id) refl next rest)
      | inr t ↦ rest k t
    ]

-- ids that are live and different can be deleted
still-live : (o p : Option Bounded) → p ≡ o → IsSome o → IsSome p
still-live o p e h = subst (λ (x : Option Bounded). IsSome x) (sym e) h

live-behind : (given : List Given) (id : ℕ) (ids : List ℕ) → AllByRecursion (λ y. nat_eq id y ≡ false) ids → AreLive given ids → AreLive (without given id (given_at given id)) ids
live-behind given id [] n h = tt
live-behind given id (k ∷ ids) n h = (still-live (live_at given k) _ (live-apart given id k (eqb-false id k n.0)) h.0, live-behind given id ids n.1 h.1)

some-live : (o : Option Bounded) → IsSome o → is_none o ≡ false
some-live None h = absurd cc
some-live (Some c) h = refl

pub live-deletes : (ids : List ℕ) (given : List Given) → IsDistinct nat_eq ids → AreLive given ids → IsOk (deleted given ids)
unfolding IsDistinct
live-deletes [] given d h = refl
live-deletes (id ∷ ids) given d h =
    subst (λ r. IsOk r) (sym (cond-false (is_none (live_at given id)) (Err 4) _ (some-live (live_at given id) h.0)))
    (live-deletes ids (without given id (given_at given id)) d.1 (live-behind given id ids d.0 h.1))

-- more is given
more_at : (given more : List Given) (id : ℕ) (o : Option Bounded) → live_at given id ≡ o → IsSome o → IsSome (live_at (given ++ more) id)
more_at given more id None e h = absurd cc
more_at given more id (Some c) e h = subst (λ (x : Option Bounded). IsSome x) (sym (live_at-grows given more id c e)) refl

pub live-more : (given more : List Given) (ids : List ℕ) → AreLive given ids → AreLive (given ++ more) ids
live-more given more [] h = tt
live-more given more (id ∷ ids) h = (more_at given more id (live_at given id) refl h.0, live-more given more ids h.1)

-- an id that is live was given
within_at : (given : List Given) (id : ℕ) (o : Option Given) → given_at given id ≡ o → IsSome (option_and_then (λ entry. entry.live) o) → id ≤ length given
within_at given id None e h = absurd cc
within_at given id (Some entry) e h = (let w = slice_get_within given (id - 1) entry (place-of given id entry e) in omega (arith, w))

live-within : (given : List Given) (id : ℕ) → IsSome (live_at given id) → id ≤ length given
live-within given id h = within_at given id (given_at given id) refl h

pub not-among : (given : List Given) (ids : List ℕ) (k : ℕ) → AreLive given ids → length given < k → is_among ids k ≡ false
not-among given [] k h n = refl
not-among given (id ∷ ids) k h n =
    let w = live-within given id h.0 in
    ap (λ (b : Bool). b || is_among ids k) (ne_eqb id k (λ e. omega (arith, w, e, n))) ∙ not-among given ids k h.1 n

-- ids that are live count from 1
live-id : (given : List Given) (id : ℕ) (o : Option Given) → given_at given id ≡ o → IsSome (option_and_then (λ entry. entry.live) o) → 1 ≤ id
live-id given id None e h = absurd cc
live-id given id (Some entry) e h = (let n = given-id given id entry e in omega (arith, n))

pub live-ids : (given : List Given) (ids : List ℕ) → AreLive given ids → AreIds ids
live-ids given [] h = tt
live-ids given (id ∷ ids) h = (live-id given id (given_at given id) refl h.0, live-ids given ids h.1)
