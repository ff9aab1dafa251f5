-- Deleting, and putting back what was taken out.
use Rattle.std.proofs.Common.{◌≡◌, ℕ, zero, suc, ◌+◌, ◌-◌, ◌<◌, ◌++◌, Bool, true, false, cond, eqb, List, [], ◌∷◌, length, map, take, drop, get_or, set, Option, Some, None, IfSome, Result, Ok, Err, IfOk, IsOk, refl, sym, ap, ◌∙◌, subst, arith}
use Rattle.std.specs.List.{AllByRecursion, slice_get}
use Rattle.std.specs.Option.{is_none, option_and_then, option_map}
use Rattle.std.proofs.lemmas.Bool.{cond_both, cond-false}
use Rattle.std.proofs.lemmas.List.{take_at, at_drop_more, map-set}
use Rattle.std.proofs.lemmas.Option.{same_Some, slice_get-map}
use Rattle.kn_logic.proofs.Public.{All-set}
use Rattle.kn_logic.specs.Constraints.{Bounded}
use Rattle.kn_rules.specs.declared.given.Given.{Given}
use Rattle.kn_rules.specs.declared.slot.Slot.{Slot}
use Rattle.kn_rules.specs.declared.slot.Slot.TheVariants.{Kept, Derived, Deleted}
use Rattle.kn_rules.specs.States.{Defined, given_at, live_at}
use Rattle.kn_rules.specs.Causes.{not_live}
use Rattle.kn_rules.specs.Steps.{without, deleted}
use Rattle.kn_rules.specs.Entries.{origin_of, given_of, IsSlotOf}
use Rattle.kn_rules.specs.Restoring.{standing_slot, slot_at, without_slot, deleted_slots, put, restored}

-- what holds of each live constraint
abbrev pub AllLive : (Bounded → Type 0) → List Given → Type 0
AllLive P given = AllByRecursion (λ entry. IfSome entry.live P) given

without-keeps : (P : Bounded → Type 0) (given : List Given) (id : ℕ) (entry : Option Given) → AllLive P given → AllLive P (without given id entry)
without-keeps P given id None h = h
without-keeps P given id (Some entry) h = All-set (λ entry. IfSome entry.live P) given (id - 1) (record entry { live = None }) h tt

pub deleted-keep : (P : Bounded → Type 0) (ids : List ℕ) (given : List Given) → AllLive P given → IfOk (deleted given ids) (AllLive P)
deleted-keep P [] given h = h
deleted-keep P (id ∷ ids) given h =
    cond_both (is_none (live_at given id)) (Err not_live) (deleted (without given id (given_at given id)) ids) (λ r. IfOk r (AllLive P))
    (λ _. tt)
    (λ _. deleted-keep P ids (without given id (given_at given id)) (without-keeps P given id (given_at given id) h))

pub deleted-still : (P : Bounded → Type 0) (ids : List ℕ) (given new : List Given) → AllLive P given → deleted given ids ≡ Ok new → AllLive P new
deleted-still P ids given new h e = subst (λ r. IfOk r (AllLive P)) e (deleted-keep P ids given h)

-- putting the last one back first
pub restored-last : (slots : List Slot) (ids : List ℕ) (taken : List Slot) (slot : Slot) → length taken < length ids → restored slots ids (taken ++ slot ∷ []) ≡ restored (put slots (get_or ids (length taken) 0) slot) ids taken
restored-last slots [] taken slot h = absurd (omega arith)
restored-last slots (id ∷ ids) [] slot h = refl
restored-last slots (id ∷ ids) (other ∷ taken) slot h = ap (λ x. put x id other) (restored-last slots ids taken slot (omega arith))

-- one turn of the loop that puts back
pub back-more : (slots new end : List Slot) (ids : List ℕ) (k : ℕ) (all taken : List Slot) (slot : Slot) → k ≡ length taken → length taken < length ids → new ≡ put slots (get_or ids k 0) slot → all ≡ taken ++ slot ∷ [] → restored slots ids all ≡ end → restored new ids taken ≡ end
back-more slots new end ids k all taken slot place h e items rest =
    ap (λ (g : List Slot). restored g ids taken) (e ∙ ap (λ (i : ℕ). put slots (get_or ids i 0) slot) place)
    ∙ sym (restored-last slots ids taken slot h) ∙ ap (restored slots ids) (sym items) ∙ rest

-- a slot that is taken out and put back
found : (b : Bool) (o : Option Slot) (slot : Slot) → cond b None o ≡ Some slot → (b ≡ false) × (o ≡ Some slot)
found true o slot e = absurd cc
found false o slot e = (refl, e)

standing-found : (o : Option Slot) (slot : Slot) → option_and_then standing_slot o ≡ Some slot → o ≡ Some slot
standing-found None slot e = absurd cc
standing-found (Some (Kept o c)) slot e = e
standing-found (Some (Derived place number)) slot e = e
standing-found (Some (Deleted o)) slot e = absurd cc

set-back : (slots : List Slot) (k : ℕ) (slot new : Slot) → slice_get slots k ≡ Some slot → set (set slots k new) k slot ≡ slots
set-back [] k slot new e = refl
set-back (x ∷ slots) zero slot new e = ap (λ (y : Slot). y ∷ slots) (sym (same_Some x slot e))
set-back (x ∷ slots) (suc k) slot new e = ap (λ (ys : List Slot). x ∷ ys) (set-back slots k slot new e)

pub put-without : (slots : List Slot) (id : ℕ) (slot : Slot) → slot_at slots id ≡ Some slot → put (without_slot slots id (slot_at slots id)) id slot ≡ slots
put-without slots id slot e =
    let parts = found (eqb id 0) (option_and_then standing_slot (slice_get slots (id - 1))) slot e in
    let there = standing-found (slice_get slots (id - 1)) slot parts.1 in
    let deleted_there = set slots (id - 1) (Deleted (origin_of slot)) in
    subst (λ o. put (without_slot slots id o) id slot ≡ slots) (sym e)
    (cond-false (eqb id 0) deleted_there (set deleted_there (id - 1) slot) parts.0 ∙ set-back slots (id - 1) slot (Deleted (origin_of slot)) there)

-- one turn of the loop that takes out
pub taken-back : (slots new start : List Slot) (ids : List ℕ) (i id : ℕ) (taken : List Slot) (slot : Slot) → restored slots ids taken ≡ start → length taken ≡ i → i < length ids → id ≡ get_or ids i 0 → slot_at slots id ≡ Some slot → new ≡ without_slot slots id (slot_at slots id) → restored new ids (taken ++ slot ∷ []) ≡ start
taken-back slots new start ids i id taken slot back len h is live e =
    let within : length taken < length ids = omega arith in
    let same : get_or ids (length taken) 0 ≡ id = ap (λ (k : ℕ). get_or ids k 0) len ∙ sym is in
    let again : put new id slot ≡ slots = ap (λ (g : List Slot). put g id slot) e ∙ put-without slots id slot live in
    restored-last new ids taken slot within ∙ ap (λ (k : ℕ). restored (put new k slot) ids taken) same ∙ ap (λ (g : List Slot). restored g ids taken) again ∙ back

step-some : (slots : List Slot) (id : ℕ) (ids : List ℕ) (slot : Slot) → slot_at slots id ≡ Some slot → deleted_slots slots (id ∷ ids) ≡ deleted_slots (without_slot slots id (slot_at slots id)) ids
step-some slots id ids slot e = cond-false (is_none (slot_at slots id)) (Err not_live) _ (ap (λ (o : Option Slot). is_none o) e)

pub taken-rest : (slots new : List Slot) (ids : List ℕ) (i id : ℕ) (slot : Slot) (r : Result (List Slot) ℕ) → deleted_slots slots (drop i ids) ≡ r → i < length ids → id ≡ get_or ids i 0 → slot_at slots id ≡ Some slot → new ≡ without_slot slots id (slot_at slots id) → deleted_slots new (drop (i + 1) ids) ≡ r
taken-rest slots new ids i id slot r rest h is live e =
    ap (λ (g : List Slot). deleted_slots g (drop (i + 1) ids)) e ∙ sym (step-some slots id (drop (i + 1) ids) slot live) ∙ ap (λ (k : ℕ). deleted_slots slots (k ∷ drop (i + 1) ids)) is
    ∙ sym (at_drop_more (deleted_slots slots) ids i 0 h) ∙ rest

-- the table behind a write to all of it
pub written : (n : ℕ) (old new : List Slot) → length new ≡ n → take n (new ++ drop (length new) old) ≡ new
written n old new len = take_at new _ n len

-- what slots stand for, after a deletion among them
present : {X Y : Type 0} (f : X → Y) (xs : List X) (k : ℕ) → k < length xs → is_none (option_map f (slice_get xs k)) ≡ false
present f [] k h = absurd (omega arith)
present f (x ∷ xs) zero h = refl
present f (x ∷ xs) (suc k) h = present f xs k (omega arith)

standing-live : (d : Defined) (slot : Slot) → IsSlotOf (length d.list) slot → is_none (given_of d slot).live ≡ is_none (standing_slot slot)
standing-live d (Kept o c) h = refl
standing-live d (Derived place number) h = present _ d.list number h
standing-live d (Deleted o) h = refl

live-one : (b : Bool) (d : Defined) (slots : List Slot) (k : ℕ) → AllByRecursion (IsSlotOf (length d.list)) slots → is_none (option_and_then (λ (entry : Given). entry.live) (cond b None (slice_get (map (given_of d) slots) k))) ≡ is_none (cond b None (option_and_then standing_slot (slice_get slots k)))
live-one true d slots k h = refl
live-one false d [] k h = refl
live-one false d (slot ∷ slots) zero h = standing-live d slot h.0
live-one false d (slot ∷ slots) (suc k) h = live-one false d slots k h.1

without-one : (d : Defined) (slots : List Slot) (id : ℕ) (b : Bool) (o : Option Slot) → is_none (cond b None (option_and_then standing_slot o)) ≡ false → without (map (given_of d) slots) id (cond b None (option_map (given_of d) o)) ≡ map (given_of d) (without_slot slots id (cond b None (option_and_then standing_slot o)))
without-one d slots id true o e = absurd cc
without-one d slots id false None e = absurd cc
without-one d slots id false (Some (Kept o c)) e = sym (map-set (given_of d) slots (id - 1) (Deleted o))
without-one d slots id false (Some (Derived place number)) e = sym (map-set (given_of d) slots (id - 1) (Deleted (origin_of (Derived place number))))
without-one d slots id false (Some (Deleted o)) e = absurd cc

without-slots : (d : Defined) (slots : List Slot) (id : ℕ) → is_none (slot_at slots id) ≡ false → without (map (given_of d) slots) id (given_at (map (given_of d) slots) id) ≡ map (given_of d) (without_slot slots id (slot_at slots id))
without-slots d slots id e =
    subst (λ (o : Option Given). without (map (given_of d) slots) id (cond (eqb id 0) None o) ≡ map (given_of d) (without_slot slots id (slot_at slots id))) (sym (slice_get-map (given_of d) slots (id - 1)))
    (without-one d slots id (eqb id 0) (slice_get slots (id - 1)) e)

without-right : (count : ℕ) (slots : List Slot) (id : ℕ) (o : Option Slot) → AllByRecursion (IsSlotOf count) slots → AllByRecursion (IsSlotOf count) (without_slot slots id o)
without-right count slots id None h = h
without-right count slots id (Some slot) h = All-set (IsSlotOf count) slots (id - 1) (Deleted (origin_of slot)) h tt

deleted-right : (count : ℕ) (ids : List ℕ) (slots : List Slot) → AllByRecursion (IsSlotOf count) slots → IfOk (deleted_slots slots ids) (AllByRecursion (IsSlotOf count))
deleted-right count [] slots h = h
deleted-right count (id ∷ ids) slots h =
    cond_both (is_none (slot_at slots id)) (Err not_live) (deleted_slots (without_slot slots id (slot_at slots id)) ids) (λ r. IfOk r (AllByRecursion (IsSlotOf count)))
    (λ _. tt)
    (λ _. deleted-right count ids _ (without-right count slots id (slot_at slots id) h))

pub still-right : (count : ℕ) (ids : List ℕ) (slots new : List Slot) → AllByRecursion (IsSlotOf count) slots → deleted_slots slots ids ≡ Ok new → AllByRecursion (IsSlotOf count) new
still-right count ids slots new h e = subst (λ r. IfOk r (AllByRecursion (IsSlotOf count))) e (deleted-right count ids slots h)

abbrev pub after : Defined → Result (List Slot) ℕ → Result (List Given) ℕ
after d (Ok slots) = Ok (map (given_of d) slots)
after d (Err cause) = Err cause

branch : (b : Bool) (d : Defined) (x : Result (List Given) ℕ) (y : Result (List Slot) ℕ) → (b ≡ false → x ≡ after d y) → cond b (Err not_live) x ≡ after d (cond b (Err not_live) y)
branch true d x y h = refl
branch false d x y h = h refl

pub deleted-after : (d : Defined) (ids : List ℕ) (slots : List Slot) → AllByRecursion (IsSlotOf (length d.list)) slots → deleted (map (given_of d) slots) ids ≡ after d (deleted_slots slots ids)
deleted-after d [] slots h = refl
deleted-after d (id ∷ ids) slots h =
    let given = map (given_of d) slots in
    let less = without_slot slots id (slot_at slots id) in
    ap (λ (b : Bool). cond b (Err not_live) (deleted (without given id (given_at given id)) ids)) (live-one (eqb id 0) d slots (id - 1) h)
    ∙ branch (is_none (slot_at slots id)) d (deleted (without given id (given_at given id)) ids) (deleted_slots less ids)
    (λ e. ap (λ (g : List Given). deleted g ids) (without-slots d slots id e) ∙ deleted-after d ids less (without-right (length d.list) slots id (slot_at slots id) h))

after-ok : (d : Defined) (r : Result (List Slot) ℕ) → IsOk (after d r) → IsOk r
after-ok d (Ok slots) h = refl
after-ok d (Err cause) h = h

pub slots-ok : (d : Defined) (ids : List ℕ) (slots : List Slot) → AllByRecursion (IsSlotOf (length d.list)) slots → IsOk (deleted (map (given_of d) slots) ids) → IsOk (deleted_slots slots ids)
slots-ok d ids slots h ok = after-ok d (deleted_slots slots ids) (subst IsOk (deleted-after d ids slots h) ok)

pub given-after : (d : Defined) (ids : List ℕ) (slots : List Slot) (r : Result (List Slot) ℕ) → AllByRecursion (IsSlotOf (length d.list)) slots → deleted_slots slots ids ≡ r → deleted (map (given_of d) slots) ids ≡ after d r
given-after d ids slots r h e = deleted-after d ids slots h ∙ ap (after d) e
