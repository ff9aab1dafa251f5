-- Gathering a set from literals: what it keeps, and that it misses none.
use Rattle.std.proofs.Common.{◌≡◌, ℕ, ◌≤◌, ◌<◌, ◌==◌, Bool, true, false, cond, ◌||◌, List, [], ◌∷◌, ◌++◌, length, Option, Some, None, nat_lt, refl, sym, ap, ap₂, subst, ◌∙◌, arith, true≢false, append_assoc, length-append}
use Rattle.std.specs.Prelude.{nat_eq, IfSome}
use Rattle.std.specs.List.{list_any, AllByRecursion}
use Rattle.std.proofs.lemmas.Bool.{cond-true, cond-false, or_parts, eq-eqb, ne_eqb, lt-ltb, ltb-true}
use Rattle.std.proofs.lemmas.List.{append-nil}
use Rattle.indexmap.specs.IndexSet.{insert_key}
use Rattle.kn_logic.specs.Literals.{Literal}
use Rattle.kn_logic.specs.Constraints.{Bounded}
use Rattle.kn_logic.specs.Groups.{is_among}
use Rattle.kn_logic.proofs.Public.{All-push}
use Rattle.kn_store.specs.Stores.{Numbered, ids_of, constraint_at, naming}
use Rattle.kn_store.proofs.Public.{all-one, IsOwn}
use Rattle.kn_guess.specs.Refusals.{AreApart}
use Rattle.kn_guess.specs.Gathering.{with_number, with_lits, with_found, with_ids, with_members}
use Rattle.kn_guess.proofs.Elements.{among-front, among-last, any-among}

-- a full set stands still
abbrev pub IsFull : ℕ → List ℕ → Type 0
IsFull limit set = nat_lt limit (length set) ≡ true

full-number : (limit : ℕ) (set : List ℕ) (o : Option ℕ) → IsFull limit set → with_number limit set o ≡ set
full-number limit set None full = refl
full-number limit set (Some v) full = cond-true (nat_lt limit (length set)) set (insert_key nat_eq set v) full

pub full-lits : (limit : ℕ) (key : Literal → Option ℕ) (set : List ℕ) (ls : List Literal) → IsFull limit set → with_lits limit key set ls ≡ set
full-lits limit key set [] full = refl
full-lits limit key set (l ∷ ls) full = ap (λ z. with_lits limit key z ls) (full-number limit set (key l) full) ∙ full-lits limit key set ls full

full-found : (limit : ℕ) (key : Literal → Option ℕ) (set : List ℕ) (c : Option Bounded) → IsFull limit set → with_found limit key set c ≡ set
full-found limit key set None full = refl
full-found limit key set (Some c) full = full-lits limit key set c.lits full

pub full-ids : (limit : ℕ) (key : Literal → Option ℕ) (live : List Numbered) (set ids : List ℕ) → IsFull limit set → with_ids limit key live set ids ≡ set
full-ids limit key live set [] full = refl
full-ids limit key live set (id ∷ ids) full = ap (λ z. with_ids limit key live z ids) (full-found limit key set (constraint_at live id) full) ∙ full-ids limit key live set ids full

pub is-full : (limit : ℕ) (set : List ℕ) → limit < length set → IsFull limit set
is-full limit set h = lt-ltb limit (length set) h

-- a set that is not full takes a number
pub takes-number : (limit : ℕ) (set : List ℕ) (v : ℕ) → length set ≤ limit → insert_key nat_eq set v ≡ with_number limit set (Some v)
takes-number limit set v h = sym (cond-false (nat_lt limit (length set)) set (insert_key nat_eq set v) (at (nat_lt limit (length set)) refl))
  where
    at : (t : Bool) → nat_lt limit (length set) ≡ t → nat_lt limit (length set) ≡ false
    at true e = absurd (let low = ltb-true limit (length set) e in omega (arith, h, low))
    at false e = e

-- a number joins at the end, or nothing happens
joins-or : (Q : List ℕ → Type 0) (limit : ℕ) (set : List ℕ) (v : ℕ) → Q set → (is_among set v ≡ false → Q (set ++ v ∷ [])) → Q (with_number limit set (Some v))
joins-or Q limit set v same more = full (nat_lt limit (length set)) (there (list_any (nat_eq v) set) refl)
  where
    there : (t : Bool) → list_any (nat_eq v) set ≡ t → Q (cond t set (set ++ v ∷ []))
    there true e = same
    there false e = more (sym (any-among v set) ∙ e)

    full : (t : Bool) → Q (insert_key nat_eq set v) → Q (cond t set (insert_key nat_eq set v))
    full true h = same
    full false h = h

-- sets only grow
abbrev pub Extends : List ℕ → List ℕ → Type 0
Extends old new = (more : List ℕ) × (new ≡ old ++ more)

pub extends-self : (xs : List ℕ) → Extends xs xs
extends-self xs = ([], sym (append-nil xs))

pub extends-trans : (a b c : List ℕ) → Extends a b → Extends b c → Extends a c
extends-trans a b c p q = (p.0 ++ q.0, q.1 ∙ ap (λ z. z ++ q.0) p.1 ∙ append_assoc a p.0 q.0)

extends-number : (limit : ℕ) (set : List ℕ) (o : Option ℕ) → Extends set (with_number limit set o)
extends-number limit set None = extends-self set
extends-number limit set (Some v) = joins-or (Extends set) limit set v (extends-self set) (λ e. (v ∷ [], refl))

extends-lits : (limit : ℕ) (key : Literal → Option ℕ) (set : List ℕ) (ls : List Literal) → Extends set (with_lits limit key set ls)
extends-lits limit key set [] = extends-self set
extends-lits limit key set (l ∷ ls) = let next = with_number limit set (key l) in extends-trans set next (with_lits limit key next ls) (extends-number limit set (key l)) (extends-lits limit key next ls)

extends-found : (limit : ℕ) (key : Literal → Option ℕ) (set : List ℕ) (c : Option Bounded) → Extends set (with_found limit key set c)
extends-found limit key set None = extends-self set
extends-found limit key set (Some c) = extends-lits limit key set c.lits

pub extends-ids : (limit : ℕ) (key : Literal → Option ℕ) (live : List Numbered) (set ids : List ℕ) → Extends set (with_ids limit key live set ids)
extends-ids limit key live set [] = extends-self set
extends-ids limit key live set (id ∷ ids) = let next = with_found limit key set (constraint_at live id) in
    extends-trans set next (with_ids limit key live next ids) (extends-found limit key set (constraint_at live id)) (extends-ids limit key live next ids)

extends-members : (limit : ℕ) (key : Literal → Option ℕ) (live : List Numbered) (set xs : List ℕ) → Extends set (with_members limit key live set xs)
extends-members limit key live set [] = extends-self set
extends-members limit key live set (x ∷ xs) = let next = with_ids limit key live set (ids_of (naming x live)) in
    extends-trans set next (with_members limit key live next xs) (extends-ids limit key live set (ids_of (naming x live))) (extends-members limit key live next xs)

pub among-extends : (old new : List ℕ) (x : ℕ) → Extends old new → is_among old x ≡ true → is_among new x ≡ true
among-extends old new x e h = ap (λ z. is_among z x) e.1 ∙ among-front old e.0 x h

short-before : (limit : ℕ) (old new : List ℕ) → Extends old new → length new ≤ limit → length old ≤ limit
short-before limit old new e h = let l = ap length e.1 ∙ length-append old e.0 in omega (arith, l, h)

-- no number comes twice
pub apart-end : (xs : List ℕ) (v : ℕ) → AreApart xs → is_among xs v ≡ false → AreApart (xs ++ v ∷ [])
apart-end [] v a e = (refl, tt)
apart-end (x ∷ xs) v a e =
    let q = or_parts (x == v) (is_among xs v) e in
    (no-end xs x v a.0 (ne_eqb v x (λ s. true≢false (sym (eq-eqb x v (sym s)) ∙ q.0))), apart-end xs v a.1 q.1)
  where
    no-end : (ys : List ℕ) (y w : ℕ) → is_among ys y ≡ false → (w == y) ≡ false → is_among (ys ++ w ∷ []) y ≡ false
    no-end [] y w a b = ap (λ t. t || false) b
    no-end (z ∷ ys) y w a b = let q = or_parts (z == y) (is_among ys y) a in ap₂ (λ s t. s || t) q.0 (no-end ys y w q.1 b)

apart-number : (limit : ℕ) (set : List ℕ) (o : Option ℕ) → AreApart set → AreApart (with_number limit set o)
apart-number limit set None a = a
apart-number limit set (Some v) a = joins-or AreApart limit set v a (λ e. apart-end set v a e)

apart-lits : (limit : ℕ) (key : Literal → Option ℕ) (set : List ℕ) (ls : List Literal) → AreApart set → AreApart (with_lits limit key set ls)
apart-lits limit key set [] a = a
apart-lits limit key set (l ∷ ls) a = apart-lits limit key (with_number limit set (key l)) ls (apart-number limit set (key l) a)

apart-found : (limit : ℕ) (key : Literal → Option ℕ) (set : List ℕ) (c : Option Bounded) → AreApart set → AreApart (with_found limit key set c)
apart-found limit key set None a = a
apart-found limit key set (Some c) a = apart-lits limit key set c.lits a

pub apart-ids : (limit : ℕ) (key : Literal → Option ℕ) (live : List Numbered) (set ids : List ℕ) → AreApart set → AreApart (with_ids limit key live set ids)
apart-ids limit key live set [] a = a
apart-ids limit key live set (id ∷ ids) a = apart-ids limit key live (with_found limit key set (constraint_at live id)) ids (apart-found limit key set (constraint_at live id) a)

pub apart-members : (limit : ℕ) (key : Literal → Option ℕ) (live : List Numbered) (set xs : List ℕ) → AreApart set → AreApart (with_members limit key live set xs)
apart-members limit key live set [] a = a
apart-members limit key live set (x ∷ xs) a = apart-members limit key live (with_ids limit key live set (ids_of (naming x live))) xs (apart-ids limit key live set (ids_of (naming x live)) a)

-- what holds of all that is there and of all that may come holds of all in the end
all-number : (P : ℕ → Type 0) (limit : ℕ) (set : List ℕ) (o : Option ℕ) → AllByRecursion P set → IfSome o P → AllByRecursion P (with_number limit set o)
all-number P limit set None h p = h
all-number P limit set (Some v) h p = joins-or (AllByRecursion P) limit set v h (λ e. All-push P set v h p)

abbrev pub AllKeys : (ℕ → Type 0) → (Literal → Option ℕ) → List Literal → Type 0
AllKeys P key ls = AllByRecursion (λ l. IfSome (key l) P) ls

all-lits : (P : ℕ → Type 0) (limit : ℕ) (key : Literal → Option ℕ) (set : List ℕ) (ls : List Literal) → AllByRecursion P set → AllKeys P key ls → AllByRecursion P (with_lits limit key set ls)
all-lits P limit key set [] h k = h
all-lits P limit key set (l ∷ ls) h k = all-lits P limit key (with_number limit set (key l)) ls (all-number P limit set (key l) h k.0) k.1

-- a constraint that is found under its id, and whose keys have this
abbrev pub HasKeys : List Numbered → (ℕ → Type 0) → (Literal → Option ℕ) → Numbered → Type 0
HasKeys live P key p = IsOwn live p × AllKeys P key p.constraint.lits

pub all-ids : (P : ℕ → Type 0) (limit : ℕ) (key : Literal → Option ℕ) (live : List Numbered) (set : List ℕ) (ps : List Numbered) → AllByRecursion P set → AllByRecursion (HasKeys live P key) ps
    → AllByRecursion P (with_ids limit key live set (ids_of ps))
all-ids P limit key live set [] h k = h
all-ids P limit key live set (p ∷ ps) h k =
    all-ids P limit key live (with_found limit key set (constraint_at live p.id)) ps
    (subst (λ o. AllByRecursion P (with_found limit key set o)) (sym k.0.0) (all-lits P limit key set p.constraint.lits h k.0.1)) k.1

pub all-members : (P : ℕ → Type 0) (limit : ℕ) (key : Literal → Option ℕ) (live : List Numbered) (set xs : List ℕ) → AllByRecursion P set → AllByRecursion (λ x. AllByRecursion (HasKeys live P key) (naming x live)) xs
    → AllByRecursion P (with_members limit key live set xs)
all-members P limit key live set [] h k = h
all-members P limit key live set (x ∷ xs) h k = all-members P limit key live (with_ids limit key live set (ids_of (naming x live))) xs (all-ids P limit key live set (naming x live) h k.0) k.1

-- none is missed, where the set is not full in the end
abbrev pub IsIn : List ℕ → ℕ → Type 0
IsIn set v = is_among set v ≡ true

in-number : (limit : ℕ) (set : List ℕ) (o : Option ℕ) → length set ≤ limit → IfSome o (IsIn (with_number limit set o))
in-number limit set None h = tt
in-number limit set (Some v) h = subst (λ z. is_among z v ≡ true) (takes-number limit set v h) (at (list_any (nat_eq v) set) refl)
  where
    at : (t : Bool) → list_any (nat_eq v) set ≡ t → is_among (cond t set (set ++ v ∷ [])) v ≡ true
    at true e = sym (any-among v set) ∙ e
    at false e = among-last set v

if-more : (P R : ℕ → Type 0) → ((v : ℕ) → P v → R v) → (o : Option ℕ) → IfSome o P → IfSome o R
if-more P R f None h = tt
if-more P R f (Some v) h = f v h

missed-lits : (limit : ℕ) (key : Literal → Option ℕ) (set : List ℕ) (ls : List Literal) → length (with_lits limit key set ls) ≤ limit → AllKeys (IsIn (with_lits limit key set ls)) key ls
missed-lits limit key set [] h = tt
missed-lits limit key set (l ∷ ls) h =
    let next = with_number limit set (key l) in
    let end = with_lits limit key next ls in
    let later = extends-lits limit key next ls in (
      if-more (IsIn next) (IsIn end) (λ v e. among-extends next end v later e) (key l)
          (in-number limit set (key l) (short-before limit set next (extends-number limit set (key l)) (short-before limit next end later h))),
      missed-lits limit key next ls h,
    )

pub missed-ids : (limit : ℕ) (key : Literal → Option ℕ) (live : List Numbered) (set : List ℕ) (ps : List Numbered) → AllByRecursion (IsOwn live) ps → length (with_ids limit key live set (ids_of ps)) ≤ limit
    → AllByRecursion (λ p. AllKeys (IsIn (with_ids limit key live set (ids_of ps))) key p.constraint.lits) ps
missed-ids limit key live set [] own h = tt
missed-ids limit key live set (p ∷ ps) own h =
    let next = with_found limit key set (constraint_at live p.id) in
    let end = with_ids limit key live next (ids_of ps) in
    let later = extends-ids limit key live next (ids_of ps) in
    let is : next ≡ with_lits limit key set p.constraint.lits = ap (with_found limit key set) own.0 in
    let short = short-before limit next end later h in (
      all-one (λ l. IfSome (key l) (IsIn (with_lits limit key set p.constraint.lits))) (λ l. IfSome (key l) (IsIn end))
          (λ l m. if-more (IsIn (with_lits limit key set p.constraint.lits)) (IsIn end) (λ v e. among-extends next end v later (ap (λ z. is_among z v) is ∙ e)) (key l) m)
          p.constraint.lits (missed-lits limit key set p.constraint.lits (subst (λ z. length z ≤ limit) is short)),
      missed-ids limit key live next ps own.1 h,
    )

pub missed-members : (limit : ℕ) (key : Literal → Option ℕ) (live : List Numbered) (set xs : List ℕ) → AllByRecursion (λ x. AllByRecursion (IsOwn live) (naming x live)) xs → length (with_members limit key live set xs) ≤ limit
    → AllByRecursion (λ x. AllByRecursion (λ p. AllKeys (IsIn (with_members limit key live set xs)) key p.constraint.lits) (naming x live)) xs
missed-members limit key live set [] own h = tt
missed-members limit key live set (x ∷ xs) own h =
    let next = with_ids limit key live set (ids_of (naming x live)) in
    let end = with_members limit key live next xs in
    let later = extends-members limit key live next xs in (
      all-one (λ p. AllKeys (IsIn next) key p.constraint.lits) (λ p. AllKeys (IsIn end) key p.constraint.lits)
          (λ p m. all-one (λ l. IfSome (key l) (IsIn next)) (λ l. IfSome (key l) (IsIn end)) (λ l n. if-more (IsIn next) (IsIn end) (λ v e. among-extends next end v later e) (key l) n) p.constraint.lits m)
          (naming x live) (missed-ids limit key live set (naming x live) own.0 (short-before limit next end later h)),
      missed-members limit key live next xs own.1 h,
    )
