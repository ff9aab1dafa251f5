-- Growing the least set of a seed: the turn of one member, and what stands at the end.
use Rattle.std.proofs.Common.{◌≡◌, ℕ, ◌+◌, ◌-◌, ◌≤◌, ◌<◌, ◌==◌, Bool, true, false, not, ◌&&◌, ◌||◌, List, [], ◌∷◌, ◌++◌, length, take, drop, set, get_or, Some, None, nat_lt, refl, sym, ap, subst, ◌∙◌, inl, inr, arith, true≢false}
use Rattle.std.specs.Prelude.{◌⊎◌, slice_get}
use Rattle.std.specs.List.{list_any, AllByRecursion}
use Rattle.std.proofs.lemmas.Bool.{or_left, or_cases, and_parts, eqb-true, eqb-false, eq-eqb, cases_lt, lt-ltb, ltb-true, and_from, not-true}
use Rattle.std.proofs.lemmas.Option.{slice_get_within, get_or_from_slice_get, slice_get-get_or}
use Rattle.std.proofs.lemmas.List.{length-set, get_or-set_same, get_or-set_other, take-append-drop, take_all, take_more, take-append-le}
use Rattle.kn_logic.proofs.Public.{has-names}
use Rattle.kn_logic.specs.Literals.{has, names}
use Rattle.kn_logic.specs.Constraints.{Bounded, named}
use Rattle.kn_logic.specs.Groups.{is_among}
use Rattle.kn_store.specs.Stores.{Stored, IsStored, constraints_of}
use Rattle.kn_store.proofs.Public.{all-one}
use Rattle.kn_guess.specs.Guesses.{in_klause, in_binary, stands, is_seed, share, IsClosedFrom, IsLeastFrom}
use Rattle.kn_guess.specs.Refusals.{AreApart, IsTooMany}
use Rattle.kn_guess.specs.Seen.{IsSeen}
use Rattle.kn_guess.specs.Walks.{is_later, kept, is_near, AllThin, Grows, HasAll, IsWithin}
use Rattle.kn_guess.specs.Tables.{in_some, IsNear}
use Rattle.kn_guess.proofs.Elements.{any-with, each-any, all-among, own-among, among-last, among-end}
use Rattle.kn_guess.proofs.Gathers.{among-extends}
use Rattle.kn_guess.proofs.Bordered.{the-literal}
use Rattle.kn_guess.proofs.After.{seed-alone}
use Rattle.kn_guess.proofs.Walked.{set_of, near-more, near-less, near-stays}
use Rattle.kn_guess.proofs.Built.{share-known}

-- what is known of each member
pub record IsMember (s : Stored) (start v : ℕ) : Type 0 where
  pub known : (1 ≤ v) × (v ≤ s.vars)
  pub alone : in_klause (constraints_of s.live) v ≡ false
  pub stands : in_some (constraints_of s.live) v ≡ true
  pub forced : (other : List ℕ) → IsClosedFrom (constraints_of s.live) start other → is_among other v ≡ true

-- While it is grown: all neighbours of the members at the first places are there.
pub record IsGrown (s : Stored) (start at : ℕ) (set : List ℕ) : Type 0 where
  pub seed_in : is_among set start ≡ true
  pub members : AllByRecursion (IsMember s start) set
  pub apart : AreApart set
  pub done : (x z : ℕ) → is_among (take at set) x ≡ true → start < z → in_klause (constraints_of s.live) z ≡ false → share (constraints_of s.live) x z ≡ true → is_among set z ≡ true

-- the later variables that are near a member
abbrev pub nearby : ℕ → List Bool → List (List ℕ) → List (List ℕ) → ℕ → ℕ → Bool
nearby start free entries members x v = is_later start free v && is_near members (kept entries (x - 1)) v

-- a variable that is found near a member is one to come
near-member : (s : Stored) (free : List Bool) (entries members : List (List ℕ)) (start x v : ℕ) → IsStored s → IsSeen s free → IsNear s start entries members → IsMember s start x → nearby start free entries members x v ≡ true → IsMember s start v
near-member s free entries members start x v stored seen near member e =
    let q = and_parts (is_later start free v) (is_near members (kept entries (x - 1)) v) e in
    let later = and_parts (nat_lt start v) (get_or free (v - 1) false) q.0 in
    let shared = near.sound x v member.known.0 member.alone member.stands q.1 in
    let known = share-known s x v stored shared in
    let alone : in_klause (constraints_of s.live) v ≡ false = not-true (in_klause (constraints_of s.live) v) (sym (seen.says v known.1.0 known.1.1) ∙ later.1) in
    record {
      known = known.1;
      alone = alone;
      stands = known.3;
      forced = λ other closed. closed.neighbours x v (member.forced other closed) (ltb-true start v later.0) alone shared;
    }

-- and a neighbour is found
later-is : (s : Stored) (free : List Bool) (start v : ℕ) → IsSeen s free → (1 ≤ v) × (v ≤ s.vars) → start < v → in_klause (constraints_of s.live) v ≡ false → is_later start free v ≡ true
later-is s free start v seen known low none = and_from (nat_lt start v) (get_or free (v - 1) false) (lt-ltb start v low) (seen.says v known.0 known.1 ∙ ap not none)

near-is : (s : Stored) (free : List Bool) (entries members : List (List ℕ)) (start x z : ℕ) → IsStored s → IsSeen s free → IsNear s start entries members → IsMember s start x → start < z → in_klause (constraints_of s.live) z ≡ false → share (constraints_of s.live) x z ≡ true
    → nearby start free entries members x z ≡ true
near-is s free entries members start x z stored seen near member low none e =
    and_from (is_later start free z) (is_near members (kept entries (x - 1)) z) (later-is s free start z seen (share-known s x z stored e).1 low none) (near.complete x z member.known.0 member.alone low none e)

member-at : (set : List ℕ) (at x : ℕ) → take (at + 1) set ≡ take at set ++ x ∷ [] → is_among set x ≡ true
member-at set at x e = among-extends (take (at + 1) set) set x (drop (at + 1) set, sym (take-append-drop (at + 1) set)) (ap (λ w. is_among w x) e ∙ among-last (take at set) x)

front-at : (set : List ℕ) (at x : ℕ) → slice_get set at ≡ Some x → take (at + 1) set ≡ take at set ++ x ∷ []
front-at set at x e = take_more set at 0 (slice_get_within set at x e) ∙ ap (λ w. take at set ++ w ∷ []) (get_or_from_slice_get set at x 0 e)

pub member-is : (s : Stored) (start at x : ℕ) (set : List ℕ) → IsGrown s start at set → slice_get set at ≡ Some x → IsMember s start x
member-is s start at x set grown e = all-among (IsMember s start) set x grown.members (member-at set at x (front-at set at x e))

-- all that has come are members
new-members : (s : Stored) (free : List Bool) (entries members : List (List ℕ)) (start x : ℕ) (set new : List ℕ) → IsStored s → IsSeen s free → IsNear s start entries members → IsMember s start x → AllByRecursion (IsMember s start) set
    → Grows (nearby start free entries members x) set new → AllByRecursion (IsMember s start) new
new-members s free entries members start x set new stored seen near member old grows =
    all-one (λ v. (is_among set v || nearby start free entries members x v) ≡ true) (IsMember s start)
    (λ v e. at v (or_cases (is_among set v) (nearby start free entries members x v) e)) new grows.from
  where
    at : (v : ℕ) → (is_among set v ≡ true) ⊎ (nearby start free entries members x v ≡ true) → IsMember s start v
    at v (inl i) = all-among (IsMember s start) set v old i
    at v (inr i) = near-member s free entries members start x v stored seen near member i

-- the turn of one member
pub turn : (s : Stored) (free : List Bool) (entries members : List (List ℕ)) (start at x : ℕ) (set new : List ℕ) → IsStored s → IsSeen s free → IsNear s start entries members → IsGrown s start at set → slice_get set at ≡ Some x
    → Grows (nearby start free entries members x) set new → HasAll (nearby start free entries members x) new → length new ≤ 256 → IsGrown s start (at + 1) new
turn s free entries members start at x set new stored seen near grown e grows all few = record {
  seed_in = among-extends set new start grows.extends grown.seed_in;
  members = new-members s free entries members start x set new stored seen near member grown.members grows;
  apart = grows.apart grown.apart;
  done = λ y z i low none shared. done y z low none shared (among-end (take at set) x y (sym (ap (λ w. is_among w y) taken) ∙ i));
}
  where
    member : IsMember s start x
    member = member-is s start at x set grown e

    taken : take (at + 1) new ≡ take at set ++ x ∷ []
    taken = ap (take (at + 1)) grows.extends.1 ∙ take-append-le (at + 1) set grows.extends.0 (let in' = slice_get_within set at x e in omega (arith, in')) ∙ front-at set at x e

    done : (y z : ℕ) → start < z → in_klause (constraints_of s.live) z ≡ false → share (constraints_of s.live) y z ≡ true → (is_among (take at set) y ≡ true) ⊎ (y ≡ x) → is_among new z ≡ true
    done y z low none shared (inl j) = among-extends set new z grows.extends (grown.done y z j low none shared)
    done y z low none shared (inr same) = all few z (near-is s free entries members start x z stored seen near member low none (ap (λ w. share (constraints_of s.live) w z) (sym same) ∙ shared))

pub over : (s : Stored) (free : List Bool) (entries members : List (List ℕ)) (start at x : ℕ) (set new : List ℕ) → IsStored s → IsSeen s free → IsNear s start entries members → IsGrown s start at set → slice_get set at ≡ Some x
    → Grows (nearby start free entries members x) set new → 256 < length new → IsTooMany (constraints_of s.live) start
over s free entries members start at x set new stored seen near grown e grows many =
    let all = new-members s free entries members start x set new stored seen near (member-is s start at x set grown e) grown.members grows in
    (new, many, grows.apart grown.apart, λ other closed z i. (all-among (IsMember s start) new z all i).forced other closed)

-- the tables stay right
pub near-walked : (s : Stored) (free : List Bool) (entries members new : List (List ℕ)) (start x : ℕ) (ids : List ℕ) → IsStored s → IsSeen s free → IsNear s start entries members → (1 ≤ x) × (x ≤ s.vars)
    → IsWithin ids (kept entries (x - 1)) → AllThin (is_later start free) members new → ((v : ℕ) → is_later start free v ≡ true → is_near members (kept entries (x - 1)) v ≡ true → is_near new ids v ≡ true)
    → IsNear s start (set entries (x - 1) ids) new
near-walked s free entries members new start x ids stored seen near known less thin stays = record {
  long = length-set entries (x - 1) ids ∙ near.long;
  placed = λ y low. placed y low (x - 1 == y - 1) refl;
  sound = λ y z low alone some n. near.sound y z low alone some (back y z (x - 1 == y - 1) refl n);
  complete = λ y z low alone later none e. forth y z (later-is s free start z seen (share-known s y z stored e).1 later none) (x - 1 == y - 1) refl (near.complete y z low alone later none e);
}
  where
    inside : x - 1 < length entries
    inside = let long = near.long in omega (arith, long, known.0, known.1)

    here : (y : ℕ) → (x - 1 == y - 1) ≡ true → kept (set entries (x - 1) ids) (y - 1) ≡ ids
    here y e = ap (kept (set entries (x - 1) ids)) (sym (eqb-true (x - 1) (y - 1) e)) ∙ get_or-set_same entries (x - 1) ids [] inside

    there : (y : ℕ) → (x - 1 == y - 1) ≡ false → kept (set entries (x - 1) ids) (y - 1) ≡ kept entries (y - 1)
    there y e = get_or-set_other entries (x - 1) (y - 1) ids [] (λ s. eqb-false (x - 1) (y - 1) e (sym s))

    longer : (ks : List ℕ) → AllByRecursion (λ k. k < length members) ks → AllByRecursion (λ k. k < length new) ks
    longer ks h = all-one (λ k. k < length members) (λ k. k < length new) (λ k low. let long = thin.long in omega (arith, low, long)) ks h

    placed : (y : ℕ) → 1 ≤ y → (t : Bool) → (x - 1 == y - 1) ≡ t → AllByRecursion (λ k. k < length new) (kept (set entries (x - 1) ids) (y - 1))
    placed y low true e = subst (AllByRecursion (λ k. k < length new)) (sym (here y e))
        (all-one (λ k. is_among ids k ≡ true) (λ k. k < length new) (λ k i. all-among (λ j. j < length new) (kept entries (x - 1)) k (longer (kept entries (x - 1)) (near.placed x known.0)) (less k i)) ids (own-among ids))
    placed y low false e = subst (AllByRecursion (λ k. k < length new)) (sym (there y e)) (longer (kept entries (y - 1)) (near.placed y low))

    back : (y z : ℕ) (t : Bool) → (x - 1 == y - 1) ≡ t → is_near new (kept (set entries (x - 1) ids) (y - 1)) z ≡ true → is_near members (kept entries (y - 1)) z ≡ true
    back y z true e n = ap (λ k. is_near members (kept entries k) z) (sym (eqb-true (x - 1) (y - 1) e))
        ∙ near-more members ids (kept entries (x - 1)) z less (near-less (is_later start free) members new ids z thin (ap (λ ks. is_near new ks z) (sym (here y e)) ∙ n))
    back y z false e n = near-less (is_later start free) members new (kept entries (y - 1)) z thin (ap (λ ks. is_near new ks z) (sym (there y e)) ∙ n)

    forth : (y z : ℕ) → is_later start free z ≡ true → (t : Bool) → (x - 1 == y - 1) ≡ t → is_near members (kept entries (y - 1)) z ≡ true → is_near new (kept (set entries (x - 1) ids) (y - 1)) z ≡ true
    forth y z t true e n = ap (λ ks. is_near new ks z) (here y e) ∙ stays z t (ap (λ k. is_near members (kept entries k) z) (eqb-true (x - 1) (y - 1) e) ∙ n)
    forth y z t false e n = ap (λ ks. is_near new ks z) (there y e) ∙ near-stays (is_later start free) members new (kept entries (y - 1)) z thin t n

-- a later start asks for less
pub near-later : (s : Stored) (from next : ℕ) (entries members : List (List ℕ)) → from ≤ next → IsNear s from entries members → IsNear s next entries members
near-later s from next entries members low h = record {
  long = h.long;
  placed = h.placed;
  sound = h.sound;
  complete = λ x z first alone after none e. h.complete x z first alone (omega (arith, low, after)) none e;
}

pub finished : (s : Stored) (start at : ℕ) (set : List ℕ) → IsGrown s start at set → slice_get set at ≡ None → IsLeastFrom (constraints_of s.live) start set
finished s start at set grown e = (
  record {
    seed_in = grown.seed_in;
    neighbours = λ x z i low none near. grown.done x z (ap (λ w. is_among w x) (take_all at set past) ∙ i) low none near;
  },
  λ other closed x i. (all-among (IsMember s start) set x grown.members i).forced other closed,
)
  where
    past : length set ≤ at
    past = elim (cases_lt at (length set)) [ inl h ↦ absurd (differ (sym (slice_get-get_or set at 0 h) ∙ e)) | inr h ↦ h ]
      where
        differ : Some (get_or set at 0) ≡ None → ⊥
        differ e = cc e

-- the seed alone
seed-stands : (cs : List Bounded) (x : ℕ) → is_seed cs x ≡ true → in_some cs x ≡ true
seed-stands cs x e =
    let on = (and_parts (stands cs (the-literal x true)) (stands cs (the-literal x false)) (and_parts (in_binary cs x) (stands cs (the-literal x true) && stands cs (the-literal x false)) (and_parts (not (in_klause cs x)) (in_binary cs x && (stands cs (the-literal x true) && stands cs (the-literal x false))) e).1).1).0 in
    let q = any-with (λ c. (f : Bounded → Bool) → f c ≡ true → list_any f cs ≡ true) (λ c. has (named c) (the-literal x true)) cs (each-any cs) on in
    q.2 (λ c. names (named c) x) (has-names (named q.0) (the-literal x true) q.1)

pub started : (s : Stored) (start : ℕ) → 1 ≤ start → start ≤ s.vars → is_seed (constraints_of s.live) start ≡ true → IsGrown s start 0 (start ∷ [])
started s start low high seed = record {
  seed_in = or_left (start == start) false (eq-eqb start start refl);
  members = (record { known = (low, high); alone = seed-alone (constraints_of s.live) start seed; stands = seed-stands (constraints_of s.live) start seed; forced = λ other closed. closed.seed_in }, tt);
  apart = (refl, tt);
  done = λ x z i a b d. absurd (true≢false (sym i));
}

-- a walk of the ids of one variable, as the calls say it
abbrev pub Found : ℕ → List Bool → List (List ℕ) → List ℕ → ℕ → Bool
Found start free members read v = is_later start free v && is_near members read v

pub record IsWalk (start : ℕ) (free : List Bool) (members new : List (List ℕ)) (read ids : List ℕ) : Type 0 where
  pub ids_less : IsWithin ids read
  pub thin : AllThin (is_later start free) members new
  pub stays : (v : ℕ) → is_later start free v ≡ true → is_near members read v ≡ true → is_near new ids v ≡ true

pub near-then : (s : Stored) (free : List Bool) (entries members new : List (List ℕ)) (start at x : ℕ) (read ids set : List ℕ) → IsStored s → IsSeen s free → IsNear s start entries members → IsGrown s start at set → slice_get set at ≡ Some x
    → read ≡ kept entries (x - 1) → IsWalk start free members new read ids → IsNear s start (set_of entries (x - 1) ids) new
near-then s free entries members new start at x read ids set stored seen near grown e was walk =
    near-walked s free entries members new start x ids stored seen near (member-is s start at x set grown e).known
    (subst (IsWithin ids) was walk.ids_less) walk.thin (λ v t n. walk.stays v t (ap (λ z. is_near members z v) was ∙ n))

pub turn-then : (s : Stored) (free : List Bool) (entries members : List (List ℕ)) (start at x : ℕ) (read set new : List ℕ) → IsStored s → IsSeen s free → IsNear s start entries members → IsGrown s start at set → slice_get set at ≡ Some x → read ≡ kept entries (x - 1)
    → Grows (Found start free members read) set new → HasAll (Found start free members read) new → length new ≤ 256 → IsGrown s start (at + 1) new
turn-then s free entries members start at x read set new stored seen near grown e was grows all few =
    turn s free entries members start at x set new stored seen near grown e (subst (λ z. Grows (Found start free members z) set new) was grows) (subst (λ z. HasAll (Found start free members z) new) was all) few

pub over-then : (s : Stored) (free : List Bool) (entries members : List (List ℕ)) (start at x : ℕ) (read set new : List ℕ) → IsStored s → IsSeen s free → IsNear s start entries members → IsGrown s start at set → slice_get set at ≡ Some x → read ≡ kept entries (x - 1)
    → Grows (Found start free members read) set new → 256 < length new → IsTooMany (constraints_of s.live) start
over-then s free entries members start at x read set new stored seen near grown e was grows many =
    over s free entries members start at x set new stored seen near grown e (subst (λ z. Grows (Found start free members z) set new) was grows) many

-- the ids of a member are there
pub ids-there : (s : Stored) (entries members : List (List ℕ)) (start at x : ℕ) (set : List ℕ) → IsNear s start entries members → IsGrown s start at set → slice_get set at ≡ Some x → x - 1 < length entries
ids-there s entries members start at x set near grown e =
    let known = (member-is s start at x set grown e).known in let long = near.long in omega (arith, long, known.0, known.1)

pub placed-there : (s : Stored) (entries members : List (List ℕ)) (start at x : ℕ) (read set : List ℕ) → IsNear s start entries members → IsGrown s start at set → slice_get set at ≡ Some x → read ≡ kept entries (x - 1) → AllByRecursion (λ k. k < length members) read
placed-there s entries members start at x read set near grown e was = subst (AllByRecursion (λ k. k < length members)) (sym was) (near.placed x (member-is s start at x set grown e).known.0)
