-- The steps of the walk, as its loop makes them.
use Rattle.std.proofs.Common.{◌≡◌, ◌≢◌, ℕ, zero, suc, ◌+◌, ◌-◌, ◌*◌, ◌≤◌, ◌<◌, ◌++◌, Bool, true, false, cond, List, [], ◌∷◌, Option, Some, None, length, take, refl, sym, add-one, ap, ◌∙◌, subst, inl, inr, arith}
use Rattle.std.specs.Prelude.{slice_index_or, slice_set, IfSome}
use Rattle.std.specs.List.{AllByRecursion}
use Rattle.std.proofs.lemmas.Bool.{or_cases, or_left, or_right}
use Rattle.std.proofs.lemmas.List.{map-append, take-append-le, take_more}
use Rattle.std.proofs.Math.ListN.{length-set}
use Rattle.kn_logic.proofs.Public.{known-append}
use Rattle.kn_logic.specs.Constraints.{Bounded, IsWithin}
use Rattle.kn_logic.specs.Literals.{Literal, is_same, has, IsKnown, AreKnown}
use Rattle.kn_logic.specs.Propagation.{is_open}
use Rattle.kn_watch.specs.declared.trail.Made.{Made}
use Rattle.kn_propagate.specs.declared.chains.Spot.{Spot}
use Rattle.kn_watch.specs.Trails.{Trailed, literals, below, lit_of, IsRising, IsTrail}
use Rattle.kn_watch.specs.Watches.{listed, unguarded, lit_at, IsSatisfied}
use Rattle.kn_propagate.specs.Chains.{Watching, at_slot, lit_of_spot, code, Goes, IsDrawn, hand_of, IsWired, IsWalking, IsStopped, IsGrown, IsFresh, AreSame, with_home, count_from}
use Rattle.kn_watch.proofs.Public.{Within}
use Rattle.kn_propagate.proofs.Relinking.{a_spot, relaid}
use Rattle.kn_watch.proofs.Public.{IsTop, rising_top, below_grown, all_within_grown}
use Rattle.kn_propagate.proofs.Resting.{append_assoc_made, code_one}
use Rattle.kn_propagate.proofs.Steps.{IsEntry, step_stays, step_moves, step_stops, step_less, left, wired_stays}
use Rattle.kn_watch.proofs.Public.{at-most}

all_append : (level : ℕ) (a b : List Made) → AllByRecursion (λ m. m.level ≡ level) a → AllByRecursion (λ m. m.level ≡ level) b → AllByRecursion (λ m. m.level ≡ level) (a ++ b)
all_append level [] b s t = t
all_append level (m ∷ a) b s t = (s.0, all_append level a b s.1 t)

pub grown_trans : (t u v : Trailed) → IsGrown t u → IsGrown u v → IsGrown t v
grown_trans t u v g h = record {
  vars = h.vars ∙ g.vars;
  level = h.level ∙ g.level;
  grows = (
    g.grows.0 ++ h.grows.0,
    h.grows.1 ∙ ap (λ (x : List Made). x ++ h.grows.0) g.grows.1 ∙ append_assoc_made t.made g.grows.0 h.grows.0,
    all_append t.level g.grows.0 h.grows.0 g.grows.2 (subst (λ (n : ℕ). AllByRecursion (λ m. m.level ≡ n) h.grows.0) g.level h.grows.2),
  );
  kept = h.kept;
}

pub top_of : (u v : Trailed) → IsGrown u v → IsTop u.level v.made
top_of u v g = rising_top u.level v.made (subst (λ (n : ℕ). IsRising n v.made) g.level g.kept.rising)

pub fresh_on : (t u : Trailed) (visited : ℕ) → IsFresh t visited → IsGrown t u → Within (literals (below u.level u.made)) (take visited (literals t.made))
fresh_on t u visited f g =
    subst (λ (x : List Made). Within (literals x) (take visited (literals t.made))) (sym (ap (λ (n : ℕ). below n u.made) g.level ∙ below_grown t.level t.level t.made u.made g.grows (omega arith))) f.fresh

pub known_at : (vars : ℕ) (made : List Made) (place : ℕ) → AreKnown vars (literals made) → place < length made → IsKnown vars (lit_of made place)
known_at vars [] place k lt = absurd (omega (arith, lt))
known_at vars (m ∷ made) zero k lt = k.0
known_at vars (m ∷ made) (suc place) k lt = known_at vars made place k.1 (omega (arith, lt))

sign : (p : Bool) → cond p 0 1 ≤ 1
sign true = omega arith
sign false = omega arith

-- the chain of a known literal is before the hand
pub code_known : (vars : ℕ) (heads : List ℕ) (l : Literal) → IsKnown vars l → length heads ≡ 2 * vars + 3 → code l < hand_of heads
code_known vars heads l k long = omega (arith, k.1, long, sign l.positive)

pub walk_stays : (t u v : Trailed) (visited : ℕ) (ws new : List Watching) (spots : List Spot) (nexts heads nexts1 heads1 nexts2 heads2 : List ℕ) (from e : ℕ) (spot : Spot) → IsFresh t visited → IsGrown t u → IsGrown u v →
    (walking : IsWalking u.made (take visited (literals t.made)) ws spots nexts heads from) → IsDrawn nexts heads heads1 (hand_of heads) (Some e) → IsEntry ws spots nexts from e spot → new ≡ ws → IsSatisfied (literals v.made) (at_slot ws spot.owner).c → from < hand_of heads →
    nexts1 ≡ nexts → nexts2 ≡ slice_set nexts1 e (slice_index_or heads1 from 0) → heads2 ≡ slice_set heads1 from (e + 1) → IsWalking v.made (take visited (literals t.made)) new spots nexts2 heads2 from
walk_stays t u v visited ws new spots nexts heads nexts1 heads1 nexts2 heads2 from e spot f g h s d entry same sat fh a b c =
    let done = step_stays u.made v.made u.level (take visited (literals t.made)) ws spots nexts heads heads1 from e s d fh h.grows (top_of u v h) (fresh_on t u visited f g) (subst (λ (z : Spot). IsSatisfied (literals v.made) (at_slot ws z.owner).c) (sym entry.here) sat) in
    let n2 : nexts2 ≡ slice_set nexts e (slice_index_or heads1 from 0) = b ∙ ap (λ (xs : List ℕ). slice_set xs e (slice_index_or heads1 from 0)) a in
    subst (λ (x : List Watching). IsWalking v.made (take visited (literals t.made)) x spots nexts2 heads2 from) (sym same)
    (subst (λ (x : List ℕ). IsWalking v.made (take visited (literals t.made)) ws spots x heads2 from) (sym n2)
    (subst (λ (x : List ℕ). IsWalking v.made (take visited (literals t.made)) ws spots (slice_set nexts e (slice_index_or heads1 from 0)) x from) (sym c) done))

pub walk_stops : (t u v : Trailed) (visited : ℕ) (ws new : List Watching) (spots : List Spot) (nexts heads nexts1 heads1 nexts2 heads2 : List ℕ) (from e : ℕ) → IsGrown u v →
    (walking : IsWalking u.made (take visited (literals t.made)) ws spots nexts heads from) → IsDrawn nexts heads heads1 (hand_of heads) (Some e) → new ≡ ws → from < hand_of heads →
    nexts1 ≡ nexts → nexts2 ≡ slice_set nexts1 e (slice_index_or heads1 from 0) → heads2 ≡ slice_set heads1 from (e + 1) → IsStopped v.made (take visited (literals t.made)) new spots nexts2 heads2 from
walk_stops t u v visited ws new spots nexts heads nexts1 heads1 nexts2 heads2 from e h s d same fh a b c =
    let done = step_stops u.made v.made u.level (take visited (literals t.made)) ws spots nexts heads heads1 from e s d fh h.grows (top_of u v h) in
    let n2 : nexts2 ≡ slice_set nexts e (slice_index_or heads1 from 0) = b ∙ ap (λ (xs : List ℕ). slice_set xs e (slice_index_or heads1 from 0)) a in
    subst (λ (x : List Watching). IsStopped v.made (take visited (literals t.made)) x spots nexts2 heads2 from) (sym same)
    (subst (λ (x : List ℕ). IsStopped v.made (take visited (literals t.made)) ws spots x heads2 from) (sym n2)
    (subst (λ (x : List ℕ). IsStopped v.made (take visited (literals t.made)) ws spots (slice_set nexts e (slice_index_or heads1 from 0)) x from) (sym c) done))

pub has_take : (n : ℕ) (lits : List Literal) (l : Literal) → has (take n lits) l ≡ true → has lits l ≡ true
has_take zero [] l h = absurd cc
has_take zero (x ∷ lits) l h = absurd cc
has_take (suc n) [] l h = absurd cc
has_take (suc n) (x ∷ lits) l h = elim (or_cases (is_same l x) (has (take n lits) l) h) [
  | inl s ↦ or_left (is_same l x) (has lits l) s
  | inr t ↦ or_right (is_same l x) (has lits l) (has_take n lits l t)
]

-- a literal that is not false is not the false one
apart : (trail : List Literal) (ws : List Watching) (to spot : Spot) (from : ℕ) → is_open trail (lit_of_spot ws to) ≡ true → is_open trail (lit_of_spot ws spot) ≡ false → code (lit_of_spot ws spot) ≡ from → code (lit_of_spot ws to) ≢ from
apart trail ws to spot from o f q r =
    let same = code_one (lit_of_spot ws to) (lit_of_spot ws spot) (r ∙ sym q) in
    let o2 = subst (λ (z : Literal). is_open trail z ≡ true) same o in
    absurd cc

pub walk_moves : (t u v : Trailed) (visited : ℕ) (ws new : List Watching) (spots spots2 : List Spot) (nexts heads nexts1 heads1 nexts2 heads2 : List ℕ) (from k e place : ℕ) (spot : Spot) → IsGrown t u → v ≡ u →
    (walking : IsWalking u.made (take visited (literals t.made)) ws spots nexts heads from) → IsDrawn nexts heads heads1 (hand_of heads) (Some e) → IsEntry ws spots nexts from e spot →
    Goes ws new spot (a_spot spot.owner place) → is_open (literals u.made) (lit_of_spot ws (a_spot spot.owner place)) ≡ true → is_open (literals u.made) (lit_of_spot ws spot) ≡ false → k ≡ code (lit_of_spot ws (a_spot spot.owner place)) → k < hand_of heads →
    spots2 ≡ slice_set spots e (a_spot spot.owner place) → nexts1 ≡ nexts → nexts2 ≡ slice_set nexts1 e (slice_index_or heads1 k 0) → heads2 ≡ slice_set heads1 k (e + 1) → IsWalking v.made (take visited (literals t.made)) new spots2 nexts2 heads2 from
walk_moves t u v visited ws new spots spots2 nexts heads nexts1 heads1 nexts2 heads2 from k e place spot g same s d entry goes o f kq kh sp a b c =
    let to = a_spot spot.owner place in
    let seen = take visited (literals t.made) in
    let w : Within seen (literals u.made) = λ l h. all_within_grown t.level t.made u.made g.grows l (has_take visited (literals t.made) l h) in
    let goes2 = subst (λ (z : Spot). Goes ws new z to) (sym entry.here) goes in
    let kh2 = subst (λ (n : ℕ). n < hand_of heads) kq kh in
    let done = step_moves u.made seen ws new spots nexts heads heads1 from e to s d goes2 o kh2 (apart (literals u.made) ws to spot from o f entry.coded) w in
    let n2 : nexts2 ≡ slice_set nexts e (slice_index_or heads1 (code (lit_of_spot ws to)) 0) = b ∙ ap (λ (xs : List ℕ). slice_set xs e (slice_index_or heads1 k 0)) a ∙ ap (λ (n : ℕ). slice_set nexts e (slice_index_or heads1 n 0)) kq in
    let h2 : heads2 ≡ slice_set heads1 (code (lit_of_spot ws to)) (e + 1) = c ∙ ap (λ (n : ℕ). slice_set heads1 n (e + 1)) kq in
    subst (λ (x : Trailed). IsWalking x.made seen new spots2 nexts2 heads2 from) (sym same)
    (subst (λ (x : List Spot). IsWalking u.made seen new x nexts2 heads2 from) (sym sp)
    (subst (λ (x : List ℕ). IsWalking u.made seen new (slice_set spots e to) x heads2 from) (sym n2)
    (subst (λ (x : List ℕ). IsWalking u.made seen new (slice_set spots e to) (slice_set nexts e (slice_index_or heads1 (code (lit_of_spot ws to)) 0)) x from) (sym h2) done)))

-- the same spots
pub walking_at : (made : List Made) (seen : List Literal) (ws : List Watching) (spots spots2 : List Spot) (nexts heads : List ℕ) (from : ℕ) → spots2 ≡ spots → IsWalking made seen ws spots nexts heads from → IsWalking made seen ws spots2 nexts heads from
walking_at made seen ws spots spots2 nexts heads from e w = subst (λ (x : List Spot). IsWalking made seen ws x nexts heads from) (sym e) w

pub stopped_at : (made : List Made) (seen : List Literal) (ws : List Watching) (spots spots2 : List Spot) (nexts heads : List ℕ) (from : ℕ) → spots2 ≡ spots → IsStopped made seen ws spots nexts heads from → IsStopped made seen ws spots2 nexts heads from
stopped_at made seen ws spots spots2 nexts heads from e w = subst (λ (x : List Spot). IsStopped made seen ws x nexts heads from) (sym e) w

pub walk_less : (ws : List Watching) (spots : List Spot) (nexts heads nexts1 heads1 nexts2 heads2 : List ℕ) (from k : ℕ) (chain : ℕ → List ℕ) (home : ℕ → ℕ) (e : ℕ) → IsWired ws spots nexts heads from chain home → IsDrawn nexts heads heads1 (hand_of heads) (Some e) → k < hand_of heads →
    nexts1 ≡ nexts → nexts2 ≡ slice_set nexts1 e (slice_index_or heads1 k 0) → heads2 ≡ slice_set heads1 k (e + 1) →
    count_from nexts2 (length nexts2) (slice_index_or heads2 (hand_of heads2) 0) < count_from nexts (length nexts) (slice_index_or heads (hand_of heads) 0)
walk_less ws spots nexts heads nexts1 heads1 nexts2 heads2 from k chain home e w d kh a b c =
    let n2 : nexts2 ≡ slice_set nexts e (slice_index_or heads1 k 0) = b ∙ ap (λ (xs : List ℕ). slice_set xs e (slice_index_or heads1 k 0)) a in
    let long : length heads2 ≡ length heads = ap (λ (xs : List ℕ). length xs) c ∙ length-set heads1 k (e + 1) ∙ ap (λ (xs : List ℕ). length xs) d.1 ∙ length-set heads (hand_of heads) (slice_index_or nexts e 0) in
    let less = step_less ws spots nexts heads heads1 from k chain home e w d kh in
    subst (λ (n : ℕ). count_from nexts2 (length nexts2) (slice_index_or heads2 (n - 1) 0) < count_from nexts (length nexts) (slice_index_or heads (hand_of heads) 0)) (sym long)
    (subst (λ (x : List ℕ). count_from x (length x) (slice_index_or heads2 (hand_of heads) 0) < count_from nexts (length nexts) (slice_index_or heads (hand_of heads) 0)) (sym n2)
    (subst (λ (x : List ℕ). count_from (slice_set nexts e (slice_index_or heads1 k 0)) (length (slice_set nexts e (slice_index_or heads1 k 0))) (slice_index_or x (hand_of heads) 0) < count_from nexts (length nexts) (slice_index_or heads (hand_of heads) 0)) (sym c) less))

pub long_kept : (nexts heads heads1 heads2 : List ℕ) (k e n : ℕ) → length heads ≡ n → IsDrawn nexts heads heads1 (hand_of heads) (Some e) → heads2 ≡ slice_set heads1 k (e + 1) → length heads2 ≡ n
long_kept nexts heads heads1 heads2 k e n q d c = ap (λ (xs : List ℕ). length xs) c ∙ length-set heads1 k (e + 1) ∙ ap (λ (xs : List ℕ). length xs) d.1 ∙ length-set heads (hand_of heads) (slice_index_or nexts e 0) ∙ q

pub same_refl : (ws : List Watching) → AreSame ws ws
same_refl ws = record { long = refl; same = λ slot. refl; ids = λ slot. refl }

pub same_trans : (a b c : List Watching) → AreSame a b → AreSame b c → AreSame a c
same_trans a b c s t = record { long = t.long ∙ s.long; same = λ slot. t.same slot ∙ s.same slot; ids = λ slot. t.ids slot ∙ s.ids slot }

at_known : (vars : ℕ) (lits : List Literal) (place : ℕ) → AreKnown vars lits → place < length lits → IsKnown vars (lit_at lits place)
at_known vars [] place k lt = absurd (omega (arith, lt))
at_known vars (l ∷ lits) zero k lt = k.0
at_known vars (l ∷ lits) (suc place) k lt = at_known vars lits place k.1 (omega (arith, lt))

known_guard : (vars : ℕ) (guard : Option Literal) → IfSome guard (IsKnown vars) → AreKnown vars (unguarded guard)
known_guard vars None k = tt
known_guard vars (Some g) k = (k, tt)

pub listed_known : (vars : ℕ) (c : Bounded) (place : ℕ) → IsWithin vars c → place < length (listed c) → IsKnown vars (lit_at (listed c) place)
listed_known vars c place w lt = at_known vars (listed c) place (known-append vars c.lits (unguarded c.guard) w.lits (known_guard vars c.guard w.guard)) lt

pub long_drawn : (nexts heads heads1 : List ℕ) (e : ℕ) → IsDrawn nexts heads heads1 (hand_of heads) (Some e) → length heads1 ≡ length heads
long_drawn nexts heads heads1 e d = ap (λ (xs : List ℕ). length xs) d.1 ∙ length-set heads (hand_of heads) (slice_index_or nexts e 0)

take_front : (n : ℕ) (a b : List Literal) → n ≤ length a → take n (a ++ b) ≡ take n a
take_front n a b le = take-append-le n a b le

pub length-literals : (made : List Made) → length (literals made) ≡ length made
length-literals [] = refl
length-literals (x ∷ made) = omega (arith, length-literals made)

-- what was visited stays the same while the trail grows
pub take_grown : (t v : Trailed) (n : ℕ) → IsGrown t v → n < length t.made → take n (literals v.made) ≡ take n (literals t.made)
take_grown t v n g lt =
    ap (λ (x : List Made). take n (literals x)) g.grows.1 ∙ ap (take n) (map-append (λ (m : Made). m.lit) t.made g.grows.0)
    ∙ take_front n (literals t.made) (literals g.grows.0) (omega (arith, lt, length-literals t.made))

-- one literal more was visited
pub take_next : (t v : Trailed) (n : ℕ) → IsGrown t v → n < length t.made → take (n + 1) (literals v.made) ≡ take n (literals t.made) ++ lit_of t.made n ∷ []
take_next t v n g lt =
    ap (λ (x : List Made). take (n + 1) (literals x)) g.grows.1 ∙ ap (take (n + 1)) (map-append (λ (m : Made). m.lit) t.made g.grows.0)
    ∙ take_front (n + 1) (literals t.made) (literals g.grows.0) (omega (arith, lt, length-literals t.made))
    ∙ take_more (literals t.made) n (record { variable = 0; positive = true }) (omega (arith, lt, length-literals t.made))

-- one literal more
pub grown_push : (t u v : Trailed) (m : Made) → IsGrown t u → v ≡ (record u { made = u.made ++ m ∷ [] }) → m.level ≡ u.level → IsTrail v → IsGrown t v
grown_push t u v m g is e k = grown_trans t u v g (record {
  vars = ap (λ (x : Trailed). x.vars) is;
  level = ap (λ (x : Trailed). x.level) is;
  grows = (m ∷ [], ap (λ (x : Trailed). x.made) is, (e, tt));
  kept = k;
})

pub literals_push : (u v : Trailed) (m : Made) → v ≡ (record u { made = u.made ++ m ∷ [] }) → literals v.made ≡ literals u.made ++ m.lit ∷ []
literals_push u v m is = ap (λ (x : Trailed). literals x.made) is ∙ map-append (λ (x : Made). x.lit) u.made (m ∷ [])

-- An entry goes back from the hand.
pub restore_step : (made : List Made) (seen : List Literal) (ws : List Watching) (spots : List Spot) (nexts heads nexts1 heads1 nexts2 heads2 : List ℕ) (from e : ℕ) → (stopped : IsStopped made seen ws spots nexts heads from) → IsDrawn nexts heads heads1 (hand_of heads) (Some e) → from < hand_of heads →
    nexts1 ≡ nexts → nexts2 ≡ slice_set nexts1 e (slice_index_or heads1 from 0) → heads2 ≡ slice_set heads1 from (e + 1) → IsStopped made seen ws spots nexts2 heads2 from
restore_step made seen ws spots nexts heads nexts1 heads1 nexts2 heads2 from e s d fh a b c =
    let l = left ws spots nexts heads heads1 from s.chain s.home e s.wired d in
    let done : IsStopped made seen ws spots (slice_set nexts e (slice_index_or heads1 from 0)) (slice_set heads1 from (e + 1)) from = record {
      chain = relaid s.chain (hand_of heads) l.0 e from;
      home = with_home s.home e from;
      wired = wired_stays ws spots nexts heads heads1 from s.chain s.home e l.0 s.wired d fh l.1;
      rest = s.rest;
    } in
    let n2 : nexts2 ≡ slice_set nexts e (slice_index_or heads1 from 0) = b ∙ ap (λ (xs : List ℕ). slice_set xs e (slice_index_or heads1 from 0)) a in
    subst (λ (x : List ℕ). IsStopped made seen ws spots x heads2 from) (sym n2)
    (subst (λ (x : List ℕ). IsStopped made seen ws spots (slice_set nexts e (slice_index_or heads1 from 0)) x from) (sym c) done)

length_append : (a b : List Made) → length a ≤ length (a ++ b)
length_append [] b = omega arith
length_append (m ∷ a) b = omega (arith, length_append a b)

pub grown_long : (t u : Trailed) → IsGrown t u → length t.made ≤ length u.made
grown_long t u g = omega (arith, ap (λ (x : List Made). length x) g.grows.1, length_append t.made g.grows.0)

take_suc : (n : ℕ) (lits : List Literal) (l : Literal) → has (take n lits) l ≡ true → has (take (suc n) lits) l ≡ true
take_suc zero [] l h = absurd cc
take_suc zero (x ∷ lits) l h = absurd cc
take_suc (suc n) [] l h = absurd cc
take_suc (suc n) (x ∷ lits) l h = elim (or_cases (is_same l x) (has (take n lits) l) h) [
  | inl s ↦ or_left (is_same l x) _ s
  | inr t ↦ or_right (is_same l x) _ (take_suc n lits l t)
]

take_step : (n : ℕ) (lits : List Literal) (l : Literal) → has (take n lits) l ≡ true → has (take (n + 1) lits) l ≡ true
take_step n lits l h = subst (λ (k : ℕ). has (take k lits) l ≡ true) (sym (add-one n)) (take_suc n lits l h)

-- after one literal more was visited
pub fresh_next : (t u : Trailed) (n : ℕ) → IsFresh t n → IsGrown t u → n < length t.made → IsFresh u (n + 1)
fresh_next t u n f g lt = record {
  trail = g.kept;
  fresh = λ m h. take_step n (literals u.made) m (subst (λ (x : List Literal). has x m ≡ true) (sym (take_grown t u n g lt)) (fresh_on t u n f g m h));
}

-- after it stopped
pub fresh_same : (t u : Trailed) (n : ℕ) → IsFresh t n → IsGrown t u → n < length t.made → IsFresh u n
fresh_same t u n f g lt = record {
  trail = g.kept;
  fresh = λ m h. subst (λ (x : List Literal). has x m ≡ true) (sym (take_grown t u n g lt)) (fresh_on t u n f g m h);
}

pub made_few : (t : Trailed) → IsTrail t → length t.made ≤ t.vars
made_few t k = omega (arith, length-literals t.made, at-most t.vars (literals t.made) k.known k.different)
