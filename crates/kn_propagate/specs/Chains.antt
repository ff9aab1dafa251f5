-- The engine's own definitions: constraints as they are watched, the chains of their entries, and what keeps
-- each constraint quiet while literals are visited.
use Rattle.std.specs.Prelude.{ℕ, zero, suc, ◌≡◌, ◌≢◌, ◌≤◌, ◌<◌, ◌+◌, ◌*◌, ◌-◌, ◌⊎◌, ◌++◌, ◌∷◌, ◌==◌, ◌&&◌, nat_lt, Bool, true, false, if◌then◌else◌, List, [], length, map, take, slice_get, slice_index_or, slice_set, Option, Some, None}
use Rattle.std.specs.List.{list_any}
use Rattle.kn_logic.specs.Literals.{Literal, has}
use Rattle.kn_logic.specs.Constraints.{Bounded, IsWithin, klause}
use Rattle.kn_logic.specs.Propagation.{is_open, open_places, Forces}
use Rattle.kn_watch.specs.declared.trail.Made.{Made}
use Rattle.kn_propagate.specs.declared.chains.Spot.{Spot}
use Rattle.kn_propagate.specs.declared.chains.Found.{Found}
use Rattle.kn_propagate.specs.declared.slot.Slot.{Slot}
use Rattle.kn_propagate.specs.declared.slot.Held.{Held}
use Rattle.kn_propagate.specs.declared.slot.Held.TheVariants.{Clause, Klause, Free}
use Rattle.kn_watch.specs.declared.watched.Visit.{Visit}
use Rattle.kn_watch.specs.declared.watched.Visit.TheVariants as turned
use Rattle.kn_propagate.specs.declared.visiting.Effect.{Effect}
use Rattle.kn_propagate.specs.declared.visiting.Effect.TheVariants.{Stays, Moved, Conflict}
use Rattle.kn_watch.specs.Trails.{Trailed, literals, below, IsTrail, Grows}
use Rattle.kn_watch.specs.Watches.{listed, lit_at, NoneFalse, IsSettled, IsSatisfied, IsConflicting, IsForcing, HasWatches}

-- a constraint as it is watched, with its id; none in a slot that is free
pub record Watching : Type 0 where
  pub id : Option ℕ
  pub c : Bounded
  pub watches : ℕ → Bool

abbrev pub seen_as : {W : Type 0} → (W → Bounded) → (W → ℕ → Bool) → List (Slot W) → List Watching
seen_as bounded watches slots = map (λ s. record { id = s.id; c = bounded s.watch; watches = watches s.watch }) slots

-- what a free slot holds: at least none of no literals
abbrev pub nothing : Bounded
nothing = klause 0 []

-- no place is watched
abbrev pub unwatched : ℕ → Bool
unwatched place = false

-- what is held, as what the kinds say of it
abbrev pub held_bounded : {C K : Type 0} → (C → Bounded) → (K → Bounded) → Held C K → Bounded
held_bounded clauses klauses (Clause c) = clauses c
held_bounded clauses klauses (Klause k) = klauses k
held_bounded clauses klauses (Free next) = nothing

abbrev pub held_watches : {C K : Type 0} → (C → ℕ → Bool) → (K → ℕ → Bool) → Held C K → ℕ → Bool
held_watches clauses klauses (Clause c) = clauses c
held_watches clauses klauses (Klause k) = klauses k
held_watches clauses klauses (Free next) = unwatched

-- what a free slot is seen as
abbrev pub vacancy : Watching
vacancy = record { id = None; c = nothing; watches = unwatched }

abbrev pub at_slot : List Watching → ℕ → Watching
at_slot ws slot = slice_index_or ws slot vacancy

-- the literal at a place of a slot
abbrev pub lit_of_spot : List Watching → Spot → Literal
lit_of_spot ws s = lit_at (listed (at_slot ws s.owner).c) s.place

-- What keeps a constraint quiet: it is settled, or none of the literals that were visited is watched.
abbrev pub IsAtRest : List Made → List Literal → Watching → Type 0
IsAtRest made seen w = IsSettled made w.c w.watches ⊎ NoneFalse seen w.c w.watches

-- the tables of the chains
pub record Chained : Type 0 where
  pub spots : List Spot
  pub nexts : List ℕ
  pub heads : List ℕ
  pub spare : ℕ
  pub room : ℕ

-- the number of a literal's chain
abbrev pub code : Literal → ℕ
code l = 2 * l.variable + (if l.positive then 0 else 1)

abbrev pub is_in : ℕ → List ℕ → Bool
is_in e chain = list_any (λ x. x == e) chain

-- a chain from a head on: a head is the number of an entry plus 1, or 0 at the end
abbrev pub IsChain : List ℕ → ℕ → List ℕ → Type 0
IsChain nexts head [] = head ≡ 0
IsChain nexts head (e ∷ chain) = (head ≡ e + 1) × (e < length nexts) × IsChain nexts (slice_index_or nexts e 0) chain

-- The chains, each from its head, and of each entry the one chain in which it can stand.
pub record AreChains (nexts heads : List ℕ) (chain : ℕ → List ℕ) (home : ℕ → ℕ) : Type 0 where
  pub spelled : (k : ℕ) → k < length heads → IsChain nexts (slice_index_or heads k 0) (chain k)
  pub homes : (k e : ℕ) → k < length heads → is_in e (chain k) ≡ true → home e ≡ k

abbrev pub with_chain : (ℕ → List ℕ) → ℕ → List ℕ → ℕ → List ℕ
with_chain chain k xs = λ j. if j == k then xs else chain j

abbrev pub with_home : (ℕ → ℕ) → ℕ → ℕ → ℕ → ℕ
with_home home e k = λ x. if x == e then k else home x

abbrev pub spot_at : List Spot → ℕ → Spot
spot_at spots e = slice_index_or spots e (record { owner = 0; place = 0 })

-- Each entry of a chain is that of a watched place whose literal has this chain, each watched place has one
-- entry in the chain of its literal. While the chain `from` is walked, what is left of it stands in the chain `hand`.
pub record AreLinked (ws : List Watching) (spots : List Spot) (count hand from : ℕ) (chain : ℕ → List ℕ) : Type 0 where
  pub numbered : (k e : ℕ) → k < count → is_in e (chain k) ≡ true → e < length spots
  pub owned : (k e : ℕ) → k < count → is_in e (chain k) ≡ true → (spot_at spots e).owner < length ws
  pub placed : (k e : ℕ) → k < count → is_in e (chain k) ≡ true → (spot_at spots e).place < length (listed (at_slot ws (spot_at spots e).owner).c)
  pub watched : (k e : ℕ) → k < count → is_in e (chain k) ≡ true → (at_slot ws (spot_at spots e).owner).watches (spot_at spots e).place ≡ true
  pub coded : (k e : ℕ) → k < count → is_in e (chain k) ≡ true → code (lit_of_spot ws (spot_at spots e)) ≡ (if k == hand then from else k)
  pub apart : (j k d e : ℕ) → j < count → k < count → is_in d (chain j) ≡ true → is_in e (chain k) ≡ true → spot_at spots d ≡ spot_at spots e → d ≡ e
  pub all : (slot place : ℕ) → slot < length ws → place < length (listed (at_slot ws slot).c) → (at_slot ws slot).watches place ≡ true →
      (e : ℕ) × (spot_at spots e ≡ record { owner = slot; place = place })
      × ((is_in e (chain (code (lit_at (listed (at_slot ws slot).c) place))) ≡ true) ⊎ ((code (lit_at (listed (at_slot ws slot).c) place) ≡ from) × (is_in e (chain hand) ≡ true)))

-- While a chain is walked: a constraint is settled, or none of the literals that were visited before is watched
-- and those of this chain that it watches are still to be visited.
abbrev pub IsWalked : List Made → List Literal → List Spot → List ℕ → ℕ → List Watching → ℕ → Type 0
IsWalked made seen spots rest from ws slot =
    IsSettled made (at_slot ws slot).c (at_slot ws slot).watches
    ⊎ (NoneFalse seen (at_slot ws slot).c (at_slot ws slot).watches
    × ((place : ℕ) → place < length (listed (at_slot ws slot).c) → (at_slot ws slot).watches place ≡ true → code (lit_at (listed (at_slot ws slot).c) place) ≡ from →
    (e : ℕ) × (spot_at spots e ≡ record { owner = slot; place = place }) × (is_in e rest ≡ true)))

-- the first entry of a chain was taken out
abbrev pub IsDrawn : List ℕ → List ℕ → List ℕ → ℕ → Option ℕ → Type 0
IsDrawn nexts heads new chain None = (slice_index_or heads chain 0 ≡ 0) × (new ≡ heads)
IsDrawn nexts heads new chain (Some entry) = (slice_index_or heads chain 0 ≡ entry + 1) × (new ≡ slice_set heads chain (slice_index_or nexts entry 0))

-- over these variables, and with its watches; a free slot holds nothing
pub record IsKept (vars : ℕ) (w : Watching) : Type 0 where
  pub free : w.id ≡ None → w.c ≡ nothing
  pub within : IsWithin vars w.c
  pub has : HasWatches w.c w.watches

abbrev pub AreKept : ℕ → List Watching → Type 0
AreKept vars ws = (slot : ℕ) → slot < length ws → IsKept vars (at_slot ws slot)

-- the chain of the last number is the hand
abbrev pub hand_of : List ℕ → ℕ
hand_of heads = length heads - 1

-- the tables, and the chains that they spell
pub record IsWired (ws : List Watching) (spots : List Spot) (nexts heads : List ℕ) (from : ℕ) (chain : ℕ → List ℕ) (home : ℕ → ℕ) : Type 0 where
  pub chains : AreChains nexts heads chain home
  pub linked : AreLinked ws spots (length heads) (hand_of heads) from chain
  pub long : length nexts ≡ length spots
  pub some : 0 < length heads

-- A chain is walked: what is left of it stands in the hand.
pub record IsWalking (made : List Made) (seen : List Literal) (ws : List Watching) (spots : List Spot) (nexts heads : List ℕ) (from : ℕ) : Type 0 where
  pub chain : ℕ → List ℕ
  pub home : ℕ → ℕ
  pub wired : IsWired ws spots nexts heads from chain home
  pub walked : (slot : ℕ) → slot < length ws → IsWalked made seen spots (chain (hand_of heads)) from ws slot

-- The walk has stopped: the constraints are as quiet as before.
pub record IsStopped (made : List Made) (seen : List Literal) (ws : List Watching) (spots : List Spot) (nexts heads : List ℕ) (from : ℕ) : Type 0 where
  pub chain : ℕ → List ℕ
  pub home : ℕ → ℕ
  pub wired : IsWired ws spots nexts heads from chain home
  pub rest : (slot : ℕ) → slot < length ws → IsAtRest made seen (at_slot ws slot)

-- the same constraints
pub record AreSame (ws new : List Watching) : Type 0 where
  pub long : length new ≡ length ws
  pub same : (slot : ℕ) → (at_slot new slot).c ≡ (at_slot ws slot).c
  pub ids : (slot : ℕ) → (at_slot new slot).id ≡ (at_slot ws slot).id

-- the trail after literals were made true at its level
pub record IsGrown (t u : Trailed) : Type 0 where
  pub vars : u.vars ≡ t.vars
  pub level : u.level ≡ t.level
  pub grows : Grows t.level t.made u.made
  pub kept : IsTrail u

-- each literal that was added was forced by this constraint, at its place
abbrev pub AreForcedBy : ℕ → Bounded → List Made → List Made → Type 0
AreForcedBy id c made new = (place : ℕ) (m : Made) → length made ≤ place → slice_get new place ≡ Some m → (m.reason ≡ Some id) × Forces (take place (literals new)) c m.lit

-- the reason of a literal is the constraint of a slot, which forced it
abbrev pub HasReason : List Watching → List Literal → Made → Type 0
HasReason ws trail m = (slot : ℕ) × (id : ℕ) × (slot < length ws) × (m.reason ≡ Some id) × ((at_slot ws slot).id ≡ Some id) × Forces trail (at_slot ws slot).c m.lit

-- each literal that was added was forced by its reason, at its place
abbrev pub AreReasoned : List Watching → List Made → List Made → Type 0
AreReasoned ws made new = (place : ℕ) (m : Made) → length made ≤ place → slice_get new place ≡ Some m → HasReason ws (take place (literals new)) m

-- The entries whose owner is no slot stay as they were.
pub record AreSpared (count : ℕ) (old new : Chained) : Type 0 where
  pub long : length new.spots ≡ length old.spots
  pub head : new.spare ≡ old.spare
  pub rest : (e : ℕ) → count ≤ (spot_at old.spots e).owner → (spot_at new.spots e ≡ spot_at old.spots e) × (slice_index_or new.nexts e 0 ≡ slice_index_or old.nexts e 0)

-- All literals from this place on became true at the present level.
pub record IsFresh (t : Trailed) (visited : ℕ) : Type 0 where
  pub trail : IsTrail t
  pub fresh : (m : Literal) → has (literals (below t.level t.made)) m ≡ true → has (take visited (literals t.made)) m ≡ true

-- one watched place less, another more
pub record Goes (ws new : List Watching) (from to : Spot) : Type 0 where
  pub long : length new ≡ length ws
  pub owner : to.owner ≡ from.owner
  pub same : (slot : ℕ) → (at_slot new slot).c ≡ (at_slot ws slot).c
  pub ids : (slot : ℕ) → (at_slot new slot).id ≡ (at_slot ws slot).id
  pub others : (slot : ℕ) → slot ≢ from.owner → at_slot new slot ≡ at_slot ws slot
  pub within : to.place < length (listed (at_slot ws to.owner).c)
  pub released : (at_slot new from.owner).watches from.place ≡ false
  pub taken : (at_slot new from.owner).watches to.place ≡ true
  pub fresh : (at_slot ws from.owner).watches to.place ≡ false
  pub rest : (place : ℕ) → place ≢ from.place → place ≢ to.place → (at_slot new from.owner).watches place ≡ (at_slot ws from.owner).watches place

-- what the visit of an entry did
abbrev pub IsVisited : Trailed → Trailed → List Watching → List Watching → Spot → Effect → Type 0
IsVisited t u ws new spot Stays = (new ≡ ws) × IsSatisfied (literals u.made) (at_slot ws spot.owner).c
IsVisited t u ws new spot (Moved place) =
    (u ≡ t) × Goes ws new spot (record { owner = spot.owner; place = place }) × (is_open (literals t.made) (lit_of_spot ws (record { owner = spot.owner; place = place })) ≡ true)
IsVisited t u ws new spot Conflict = (new ≡ ws) × IsConflicting (literals u.made) (at_slot ws spot.owner).c

-- what turning to a place did
abbrev pub IsTurned : List Literal → List Watching → List Watching → Spot → Visit → Type 0
IsTurned trail ws new spot (turned.Moved place) =
    Goes ws new spot (record { owner = spot.owner; place = place }) × (is_open trail (lit_of_spot ws (record { owner = spot.owner; place = place })) ≡ true)
IsTurned trail ws new spot turned.Satisfied = (new ≡ ws) × IsSatisfied trail (at_slot ws spot.owner).c
IsTurned trail ws new spot turned.Forces = (new ≡ ws) × IsForcing trail (at_slot ws spot.owner).c
IsTurned trail ws new spot turned.Conflict = (new ≡ ws) × IsConflicting trail (at_slot ws spot.owner).c

-- how many entries stand in a chain, of which so many are counted at most
abbrev pub count_from : List ℕ → ℕ → ℕ → ℕ
count_from nexts zero head = 0
count_from nexts (suc n) head = if head == 0 then 0 else 1 + count_from nexts n (slice_index_or nexts (head - 1) 0)

-- The hand is empty, and each constraint is at rest.
pub record IsIdle (made : List Made) (seen : List Literal) (ws : List Watching) (spots : List Spot) (nexts heads : List ℕ) : Type 0 where
  pub from : ℕ
  pub stopped : IsStopped made seen ws spots nexts heads from
  pub empty : slice_index_or heads (hand_of heads) 0 ≡ 0

-- The hand is empty, and each watched place has its entry.
pub record IsStill (ws : List Watching) (chains : Chained) : Type 0 where
  pub from : ℕ
  pub chain : ℕ → List ℕ
  pub home : ℕ → ℕ
  pub wired : IsWired ws chains.spots chains.nexts chains.heads from chain home
  pub empty : slice_index_or chains.heads (hand_of chains.heads) 0 ≡ 0

-- the owner of an entry that is not used: no slot has this number
abbrev pub nobody : ℕ
nobody = 18446744073709551615

-- The entries that are not used stand in a chain of their own.
abbrev pub AreSpare : Chained → Type 0
AreSpare chains = (free : List ℕ) × IsChain chains.nexts chains.spare free × ((e : ℕ) → is_in e free ≡ true → (spot_at chains.spots e).owner ≡ nobody)

-- Each constraint of the list of which no more literals than its bound were not false is satisfied now.
abbrev pub AreSettled : List Literal → List Literal → List Watching → List ℕ → Type 0
AreSettled before now ws pending = (slot : ℕ) → is_in slot pending ≡ true → open_places before (listed (at_slot ws slot).c) ≤ (at_slot ws slot).c.bound → IsSatisfied now (at_slot ws slot).c

abbrev pub AreWithin : ℕ → List Watching → Type 0
AreWithin vars ws = (slot : ℕ) → slot < length ws → IsWithin vars (at_slot ws slot).c

-- This entry is not used, and is taken out of the chain of those, or comes new behind all others.
pub record IsUnused (old new : Chained) (e : ℕ) : Type 0 where
  pub inside : e < length new.spots
  pub long : length old.spots ≤ length new.spots
  pub more : length new.spots ≤ length old.spots + 1
  pub even : length new.nexts ≡ length new.spots
  pub free : (spot_at new.spots e).owner ≡ nobody
  pub spare : (free : List ℕ) × IsChain new.nexts new.spare free × ((x : ℕ) → is_in x free ≡ true → (spot_at new.spots x).owner ≡ nobody) × (is_in e free ≡ false)
  pub spots : (x : ℕ) → x < length old.spots → spot_at new.spots x ≡ spot_at old.spots x
  pub nexts : (x : ℕ) → x < length old.spots → slice_index_or new.nexts x 0 ≡ slice_index_or old.nexts x 0
  pub heads : new.heads ≡ old.heads
  pub room : old.room ≤ new.room

-- of a constraint only the watched places before this one
abbrev pub cut_of : Watching → ℕ → Watching
cut_of w k = record { id = w.id; c = w.c; watches = λ place. w.watches place && nat_lt place k }

abbrev pub cut : List Watching → ℕ → ℕ → List Watching
cut ws slot k = slice_set ws slot (cut_of (at_slot ws slot) k)

-- the entry of this spot stands in the chain
abbrev pub StandsIn : Chained → ℕ → Spot → Type 0
StandsIn chains k spot =
    (chain : List ℕ) × (e : ℕ) × IsChain chains.nexts (slice_index_or chains.heads k 0) chain × (is_in e chain ≡ true) × (spot_at chains.spots e ≡ spot)

-- the last of a list
abbrev pub EndsWith : List ℕ → Option ℕ → Type 0
EndsWith front None = front ≡ []
EndsWith front (Some e) = (rest : List ℕ) × (front ≡ rest ++ e ∷ [])

-- An entry of this spot, with what stands before and behind it in the chain.
pub record IsFound (chains : Chained) (k : ℕ) (spot : Spot) (found : Found) : Type 0 where
  pub front : List ℕ
  pub back : List ℕ
  pub chain : IsChain chains.nexts (slice_index_or chains.heads k 0) (front ++ found.entry ∷ back)
  pub last : EndsWith front found.before
  pub here : spot_at chains.spots found.entry ≡ spot

-- the tables with an entry left out of its chain, where it is the first, or stands behind another
abbrev pub heads_without : Chained → ℕ → Option ℕ → ℕ → List ℕ
heads_without chains k None e = slice_set chains.heads k (slice_index_or chains.nexts e 0)
heads_without chains k (Some before) e = chains.heads

abbrev pub nexts_without : Chained → Option ℕ → ℕ → List ℕ
nexts_without chains None e = chains.nexts
nexts_without chains (Some before) e = slice_set chains.nexts before (slice_index_or chains.nexts e 0)

-- The entry of the spot was taken out of the chain, and stands in front of those that are not used.
pub record IsReleased (old new : Chained) (k : ℕ) (spot : Spot) : Type 0 where
  pub found : Found
  pub is : IsFound old k spot found
  pub nexts : new.nexts ≡ slice_set (nexts_without old found.before found.entry) found.entry old.spare
  pub heads : new.heads ≡ heads_without old k found.before found.entry
  pub spots : new.spots ≡ slice_set old.spots found.entry (record { owner = nobody; place = 0 })
  pub spare : new.spare ≡ found.entry + 1
  pub room : new.room ≡ old.room
