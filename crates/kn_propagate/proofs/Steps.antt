-- The walk along a chain, step by step, over the tables.
use Rattle.std.proofs.Common.{◌≡◌, ◌≢◌, ℕ, zero, suc, ◌+◌, ◌-◌, ◌≤◌, ◌<◌, ◌++◌, true, false, not, eqb, List, [], ◌∷◌, Some, length, refl, sym, ap, ◌∙◌, subst, inl, inr, arith}
use Rattle.std.specs.Prelude.{slice_index_or, slice_set}
use Rattle.std.proofs.lemmas.Bool.{or_left, or_right, not_from_true, eq-eqb, ne_eqb, cases_eq, cond-true, cond-false}
use Rattle.std.proofs.Math.ListN.{length-set}
use Rattle.kn_logic.proofs.Public.{same-refl, negated_twice}
use Rattle.kn_logic.specs.Literals.{Literal, negated, has, is_same}
use Rattle.kn_logic.specs.Propagation.{is_open}
use Rattle.kn_watch.specs.declared.trail.Made.{Made}
use Rattle.kn_propagate.specs.declared.chains.Spot.{Spot}
use Rattle.kn_watch.specs.Trails.{literals, below, lit_of}
use Rattle.kn_watch.specs.Watches.{listed, IsSatisfied}
use Rattle.kn_watch.specs.Trails.{Grows}
use Rattle.kn_propagate.specs.Chains.{Watching, at_slot, lit_of_spot, is_in, code, spot_at, with_chain, with_home, IsChain, AreChains, AreLinked, IsWalked, IsAtRest, Goes, IsDrawn, hand_of, IsWired, IsWalking, IsStopped, count_from}
use Rattle.kn_watch.proofs.Public.{Within}
use Rattle.kn_propagate.proofs.Laying.{first_once, lay, draw, drawn_loose, count_is, chain_short}
use Rattle.kn_propagate.proofs.Relinking.{relaid, linked_stays, linked_moves}
use Rattle.kn_watch.proofs.Public.{IsTop, settled_grows}
use Rattle.kn_propagate.proofs.Resting.{code_one, walked_satisfied, walked_other, walked_moved, walked_moved_other, walked_all}

chain_first : (nexts : List ℕ) (head e : ℕ) (xs : List ℕ) → IsChain nexts head xs → head ≡ e + 1 → (rest : List ℕ) × (xs ≡ e ∷ rest)
chain_first nexts head e [] a q = absurd (omega (arith, a, q))
chain_first nexts head e (x ∷ xs) a q = let s : x ≡ e = omega (arith, a.0, q) in (xs, ap (λ (z : ℕ). z ∷ xs) s)

pub chain_none : (nexts : List ℕ) (head : ℕ) (xs : List ℕ) → IsChain nexts head xs → head ≡ 0 → xs ≡ []
chain_none nexts head [] a q = refl
chain_none nexts head (x ∷ xs) a q = absurd (omega (arith, a.0, q))

-- what is left in the hand
pub left : (ws : List Watching) (spots : List Spot) (nexts heads new : List ℕ) (from : ℕ) (chain : ℕ → List ℕ) (home : ℕ → ℕ) (e : ℕ) → IsWired ws spots nexts heads from chain home → IsDrawn nexts heads new (hand_of heads) (Some e) → (rest : List ℕ) × (chain (hand_of heads) ≡ e ∷ rest)
left ws spots nexts heads new from chain home e w d = chain_first nexts (slice_index_or heads (hand_of heads) 0) e (chain (hand_of heads)) (w.chains.spelled (hand_of heads) (omega (arith, w.some))) d.0

hand_left : (chain : ℕ → List ℕ) (hand : ℕ) (rest : List ℕ) (e k : ℕ) → k ≢ hand → relaid chain hand rest e k hand ≡ rest
hand_left chain hand rest e k d = cond-false (eqb hand k) (e ∷ with_chain chain hand rest k) (with_chain chain hand rest hand) (ne_eqb hand k (λ (q : hand ≡ k). d (sym q))) ∙ cond-true (eqb hand hand) rest (chain hand) (eq-eqb hand hand refl)

relaid_chains : (nexts heads new : List ℕ) (chain : ℕ → List ℕ) (home : ℕ → ℕ) (hand e k : ℕ) (rest : List ℕ) → AreChains nexts heads chain home → hand < length heads → k < length heads → e < length nexts → chain hand ≡ e ∷ rest → new ≡ slice_set heads hand (slice_index_or nexts e 0) → AreChains (slice_set nexts e (slice_index_or new k 0)) (slice_set new k (e + 1)) (relaid chain hand rest e k) (with_home home e k)
relaid_chains nexts heads new chain home hand e k rest a hl kl en is n =
    let long : length new ≡ length heads = ap (λ (xs : List ℕ). length xs) n ∙ length-set heads hand (slice_index_or nexts e 0) in
    let drawn = subst (λ (xs : List ℕ). AreChains nexts xs (with_chain chain hand rest) home) (sym n) (draw nexts heads chain home hand e rest a hl is) in
    lay nexts new (with_chain chain hand rest) home k e drawn (omega (arith, long, kl)) en (λ j lj. drawn_loose nexts heads chain home hand e rest a hl is j (omega (arith, lj, long)))

mine : (chain : ℕ → List ℕ) (hand e : ℕ) (rest : List ℕ) → chain hand ≡ e ∷ rest → is_in e (chain hand) ≡ true
mine chain hand e rest is = subst (λ (xs : List ℕ). is_in e xs ≡ true) (sym is) (or_left (eqb e e) (is_in e rest) (eq-eqb e e refl))

long_after : (nexts heads new : List ℕ) (hand e k : ℕ) → new ≡ slice_set heads hand (slice_index_or nexts e 0) → length (slice_set new k (e + 1)) ≡ length heads
long_after nexts heads new hand e k n = length-set new k (e + 1) ∙ ap (λ (xs : List ℕ). length xs) n ∙ length-set heads hand (slice_index_or nexts e 0)

relinked : (ws : List Watching) (spots : List Spot) (heads new : List ℕ) (from : ℕ) (chain : ℕ → List ℕ) → length new ≡ length heads → AreLinked ws spots (length heads) (hand_of heads) from chain → AreLinked ws spots (length new) (hand_of new) from chain
relinked ws spots heads new from chain e l = subst (λ (n : ℕ). AreLinked ws spots n (n - 1) from chain) (sym e) l

pub wired_stays : (ws : List Watching) (spots : List Spot) (nexts heads new : List ℕ) (from : ℕ) (chain : ℕ → List ℕ) (home : ℕ → ℕ) (e : ℕ) (rest : List ℕ) → IsWired ws spots nexts heads from chain home → IsDrawn nexts heads new (hand_of heads) (Some e) → from < hand_of heads → chain (hand_of heads) ≡ e ∷ rest →
    IsWired ws spots (slice_set nexts e (slice_index_or new from 0)) (slice_set new from (e + 1)) from (relaid chain (hand_of heads) rest e from) (with_home home e from)
wired_stays ws spots nexts heads new from chain home e rest w d fh is =
    let hand = hand_of heads in
    let hl : hand < length heads = omega (arith, w.some) in
    let en : e < length nexts = omega (arith, w.long, w.linked.numbered hand e hl (mine chain hand e rest is)) in
    let long = long_after nexts heads new hand e from d.1 in
    record {
      chains = relaid_chains nexts heads new chain home hand e from rest w.chains hl (omega (arith, fh)) en is d.1;
      linked = relinked ws spots heads (slice_set new from (e + 1)) from (relaid chain hand rest e from) long (linked_stays ws spots (length heads) hand from chain e rest w.linked hl (λ (q : from ≡ hand). omega (arith, q, fh)) is);
      long = length-set nexts e (slice_index_or new from 0) ∙ w.long;
      some = omega (arith, long, w.some);
    }

pub wired_moves : (ws to_ws : List Watching) (spots : List Spot) (nexts heads new : List ℕ) (from : ℕ) (chain : ℕ → List ℕ) (home : ℕ → ℕ) (e : ℕ) (rest : List ℕ) (to : Spot) → IsWired ws spots nexts heads from chain home → IsDrawn nexts heads new (hand_of heads) (Some e) → code (lit_of_spot ws to) < hand_of heads → chain (hand_of heads) ≡ e ∷ rest → Goes ws to_ws (spot_at spots e) to →
    IsWired to_ws (slice_set spots e to) (slice_set nexts e (slice_index_or new (code (lit_of_spot ws to)) 0)) (slice_set new (code (lit_of_spot ws to)) (e + 1)) from (relaid chain (hand_of heads) rest e (code (lit_of_spot ws to))) (with_home home e (code (lit_of_spot ws to)))
wired_moves ws to_ws spots nexts heads new from chain home e rest to w d kh is g =
    let hand = hand_of heads in
    let k = code (lit_of_spot ws to) in
    let hl : hand < length heads = omega (arith, w.some) in
    let en : e < length nexts = omega (arith, w.long, w.linked.numbered hand e hl (mine chain hand e rest is)) in
    let long = long_after nexts heads new hand e k d.1 in
    record {
      chains = relaid_chains nexts heads new chain home hand e k rest w.chains hl (omega (arith, kh)) en is d.1;
      linked = relinked to_ws (slice_set spots e to) heads (slice_set new k (e + 1)) from (relaid chain hand rest e k) long
          (linked_moves ws to_ws spots (length heads) hand from chain e rest to w.linked hl is (λ j lj. drawn_loose nexts heads chain home hand e rest w.chains hl is j lj) g (λ (q : k ≡ hand). omega (arith, q, kh)));
      long = length-set nexts e (slice_index_or new k 0) ∙ w.long ∙ sym (length-set spots e to);
      some = omega (arith, long, w.some);
    }

-- what the hand holds after the step
walked_on : (made : List Made) (seen : List Literal) (spots : List Spot) (heads new : List ℕ) (chain : ℕ → List ℕ) (rest : List ℕ) (e k from : ℕ) (ws : List Watching) → length new ≡ length heads → k ≢ hand_of heads → ((slot : ℕ) → slot < length ws → IsWalked made seen spots rest from ws slot) → (slot : ℕ) → slot < length ws → IsWalked made seen spots (relaid chain (hand_of heads) rest e k (hand_of new)) from ws slot
walked_on made seen spots heads new chain rest e k from ws long kh h slot lt =
    subst (λ (xs : List ℕ). IsWalked made seen spots xs from ws slot) (sym (ap (λ (n : ℕ). relaid chain (hand_of heads) rest e k (n - 1)) long ∙ hand_left chain (hand_of heads) rest e k kh)) (h slot lt)

-- The visited constraint is satisfied.
pub step_stays : (made more : List Made) (level : ℕ) (seen : List Literal) (ws : List Watching) (spots : List Spot) (nexts heads new : List ℕ) (from e : ℕ) → (walking : IsWalking made seen ws spots nexts heads from) → IsDrawn nexts heads new (hand_of heads) (Some e) → from < hand_of heads → Grows level made more → IsTop level more → Within (literals (below level made)) seen → IsSatisfied (literals more) (at_slot ws (spot_at spots e).owner).c →
    IsWalking more seen ws spots (slice_set nexts e (slice_index_or new from 0)) (slice_set new from (e + 1)) from
step_stays made more level seen ws spots nexts heads new from e s d fh g top fresh sat =
    let hand = hand_of heads in
    let l = left ws spots nexts heads new from s.chain s.home e s.wired d in
    let rest = l.0 in
    let walked = λ (slot : ℕ) (lt : slot < length ws). subst (λ (xs : List ℕ). IsWalked made seen spots xs from ws slot) l.1 (s.walked slot lt) in
    record {
      chain = relaid s.chain hand rest e from;
      home = with_home s.home e from;
      wired = wired_stays ws spots nexts heads new from s.chain s.home e rest s.wired d fh l.1;
      walked = walked_on more seen spots heads (slice_set new from (e + 1)) s.chain rest e from from ws (long_after nexts heads new hand e from d.1) (λ (q : from ≡ hand). omega (arith, q, fh)) (λ slot lt. elim (cases_eq slot (spot_at spots e).owner) [
        | inr o ↦ walked_other level made more seen spots e rest from ws slot g top o (walked slot lt)
        | inl o ↦ inl (walked_satisfied level made more seen spots (e ∷ rest) from ws slot g top fresh (subst (λ (z : ℕ). IsSatisfied (literals more) (at_slot ws z).c) (sym o) sat) (walked slot lt))
      ]);
    }

-- The entry moves into another chain.
pub step_moves : (made : List Made) (seen : List Literal) (ws to_ws : List Watching) (spots : List Spot) (nexts heads new : List ℕ) (from e : ℕ) (to : Spot) → (walking : IsWalking made seen ws spots nexts heads from) → IsDrawn nexts heads new (hand_of heads) (Some e) → Goes ws to_ws (spot_at spots e) to → is_open (literals made) (lit_of_spot ws to) ≡ true → code (lit_of_spot ws to) < hand_of heads → code (lit_of_spot ws to) ≢ from → Within seen (literals made) →
    IsWalking made seen to_ws (slice_set spots e to) (slice_set nexts e (slice_index_or new (code (lit_of_spot ws to)) 0)) (slice_set new (code (lit_of_spot ws to)) (e + 1)) from
step_moves made seen ws to_ws spots nexts heads new from e to s d g o kh kf w =
    let hand = hand_of heads in
    let k = code (lit_of_spot ws to) in
    let l = left ws spots nexts heads new from s.chain s.home e s.wired d in
    let rest = l.0 in
    let out = first_once nexts (slice_index_or heads hand 0) e rest (subst (λ (xs : List ℕ). IsChain nexts (slice_index_or heads hand 0) xs) l.1 (s.wired.chains.spelled hand (omega (arith, s.wired.some)))) in
    let walked = λ (slot : ℕ) (lt : slot < length ws). subst (λ (xs : List ℕ). IsWalked made seen spots xs from ws slot) l.1 (s.walked slot lt) in
    record {
      chain = relaid s.chain hand rest e k;
      home = with_home s.home e k;
      wired = wired_moves ws to_ws spots nexts heads new from s.chain s.home e rest to s.wired d kh l.1 g;
      walked = walked_on made seen (slice_set spots e to) heads (slice_set new k (e + 1)) s.chain rest e k from to_ws (long_after nexts heads new hand e k d.1) (λ (q : k ≡ hand). omega (arith, q, kh)) (λ slot lt. elim (cases_eq slot (spot_at spots e).owner) [
        | inr n ↦ walked_moved_other made seen spots e rest from ws to_ws slot to g out n (walked slot (omega (arith, lt, g.long)))
        | inl n ↦ subst (λ (z : ℕ). IsWalked made seen (slice_set spots e to) rest from to_ws z) (sym n) (walked_moved made seen spots e rest from ws to_ws to g out o w kf (subst (λ (z : ℕ). IsWalked made seen spots (e ∷ rest) from ws z) n (walked slot (omega (arith, lt, g.long)))))
      ]);
    }

at_rest : (level : ℕ) (made more : List Made) (seen : List Literal) (spots : List Spot) (rest : List ℕ) (from : ℕ) (ws : List Watching) (slot : ℕ) → Grows level made more → IsTop level more → IsWalked made seen spots rest from ws slot → IsAtRest more seen (at_slot ws slot)
at_rest level made more seen spots rest from ws slot g top walked = elim walked [
  | inl t ↦ inl (settled_grows level made more (at_slot ws slot).c (at_slot ws slot).watches g top t)
  | inr n ↦ inr (n.0)
]

-- The walk stops at a conflict.
pub step_stops : (made more : List Made) (level : ℕ) (seen : List Literal) (ws : List Watching) (spots : List Spot) (nexts heads new : List ℕ) (from e : ℕ) → (walking : IsWalking made seen ws spots nexts heads from) → IsDrawn nexts heads new (hand_of heads) (Some e) → from < hand_of heads → Grows level made more → IsTop level more →
    IsStopped more seen ws spots (slice_set nexts e (slice_index_or new from 0)) (slice_set new from (e + 1)) from
step_stops made more level seen ws spots nexts heads new from e s d fh g top =
    let hand = hand_of heads in
    let l = left ws spots nexts heads new from s.chain s.home e s.wired d in
    record {
      chain = relaid s.chain hand l.0 e from;
      home = with_home s.home e from;
      wired = wired_stays ws spots nexts heads new from s.chain s.home e l.0 s.wired d fh l.1;
      rest = λ slot lt. at_rest level made more seen spots (s.chain hand) from ws slot g top (s.walked slot lt);
    }

-- The walk is done.
pub step_done : (made : List Made) (seen : List Literal) (ws : List Watching) (spots : List Spot) (nexts heads : List ℕ) (l : Literal) → (walking : IsWalking made seen ws spots nexts heads (code (negated l))) → slice_index_or heads (hand_of heads) 0 ≡ 0 → IsStopped made (seen ++ l ∷ []) ws spots nexts heads (code (negated l))
step_done made seen ws spots nexts heads l s z =
    let none = chain_none nexts (slice_index_or heads (hand_of heads) 0) (s.chain (hand_of heads)) (s.wired.chains.spelled (hand_of heads) (omega (arith, s.wired.some))) z in
    record {
      chain = s.chain;
      home = s.home;
      wired = s.wired;
      rest = λ slot lt. walked_all made seen l spots ws slot (subst (λ (xs : List ℕ). IsWalked made seen spots xs (code (negated l)) ws slot) none (s.walked slot lt));
    }

-- The hand grows less.
pub step_less : (ws : List Watching) (spots : List Spot) (nexts heads new : List ℕ) (from k : ℕ) (chain : ℕ → List ℕ) (home : ℕ → ℕ) (e : ℕ) → IsWired ws spots nexts heads from chain home → IsDrawn nexts heads new (hand_of heads) (Some e) → k < hand_of heads →
    count_from (slice_set nexts e (slice_index_or new k 0)) (length (slice_set nexts e (slice_index_or new k 0))) (slice_index_or (slice_set new k (e + 1)) (hand_of heads) 0) < count_from nexts (length nexts) (slice_index_or heads (hand_of heads) 0)
step_less ws spots nexts heads new from k chain home e w d kh =
    let hand = hand_of heads in
    let l = left ws spots nexts heads new from chain home e w d in
    let hl : hand < length heads = omega (arith, w.some) in
    let en : e < length nexts = omega (arith, w.long, w.linked.numbered hand e hl (mine chain hand e l.0 l.1)) in
    let old = w.chains.spelled hand hl in
    let are = relaid_chains nexts heads new chain home hand e k l.0 w.chains hl (omega (arith, kh)) en l.1 d.1 in
    let now = subst (λ (xs : List ℕ). IsChain (slice_set nexts e (slice_index_or new k 0)) (slice_index_or (slice_set new k (e + 1)) hand 0) xs) (hand_left chain hand l.0 e k (λ (q : k ≡ hand). omega (arith, q, kh))) (are.spelled hand (omega (arith, hl, long_after nexts heads new hand e k d.1))) in
    let a = count_is nexts (length nexts) (slice_index_or heads hand 0) (chain hand) old (chain_short nexts (slice_index_or heads hand 0) (chain hand) old) in
    let b = count_is (slice_set nexts e (slice_index_or new k 0)) (length (slice_set nexts e (slice_index_or new k 0))) (slice_index_or (slice_set new k (e + 1)) hand 0) l.0 now (chain_short (slice_set nexts e (slice_index_or new k 0)) (slice_index_or (slice_set new k (e + 1)) hand 0) l.0 now) in
    let s : length (chain hand) ≡ length (e ∷ l.0) = ap (λ (xs : List ℕ). length xs) l.1 in
    omega (arith, a, b, s)

-- what is known of the entry that was drawn
pub record IsEntry (ws : List Watching) (spots : List Spot) (nexts : List ℕ) (from e : ℕ) (s : Spot) : Type 0 where
  pub here : spot_at spots e ≡ s
  pub inside : e < length nexts
  pub owned : s.owner < length ws
  pub placed : s.place < length (listed (at_slot ws s.owner).c)
  pub watched : (at_slot ws s.owner).watches s.place ≡ true
  pub coded : code (lit_of_spot ws s) ≡ from

pub numbered : (ws : List Watching) (spots : List Spot) (nexts heads new : List ℕ) (from : ℕ) (chain : ℕ → List ℕ) (home : ℕ → ℕ) (e : ℕ) → IsWired ws spots nexts heads from chain home → IsDrawn nexts heads new (hand_of heads) (Some e) → e < length spots
numbered ws spots nexts heads new from chain home e w d =
    let l = left ws spots nexts heads new from chain home e w d in
    w.linked.numbered (hand_of heads) e (omega (arith, w.some)) (mine chain (hand_of heads) e l.0 l.1)

pub owned_drawn : (ws : List Watching) (spots : List Spot) (nexts heads new : List ℕ) (from : ℕ) (chain : ℕ → List ℕ) (home : ℕ → ℕ) (e : ℕ) → IsWired ws spots nexts heads from chain home → IsDrawn nexts heads new (hand_of heads) (Some e) → (spot_at spots e).owner < length ws
owned_drawn ws spots nexts heads new from chain home e w d =
    let l = left ws spots nexts heads new from chain home e w d in
    w.linked.owned (hand_of heads) e (omega (arith, w.some)) (mine chain (hand_of heads) e l.0 l.1)

pub entry_is : (ws : List Watching) (spots : List Spot) (nexts heads new : List ℕ) (from : ℕ) (chain : ℕ → List ℕ) (home : ℕ → ℕ) (e : ℕ) (s : Spot) → IsWired ws spots nexts heads from chain home → IsDrawn nexts heads new (hand_of heads) (Some e) → s ≡ spot_at spots e → IsEntry ws spots nexts from e s
entry_is ws spots nexts heads new from chain home e s w d r =
    let hand = hand_of heads in
    let hl : hand < length heads = omega (arith, w.some) in
    let l = left ws spots nexts heads new from chain home e w d in
    let i = mine chain hand e l.0 l.1 in
    let lt = w.linked.numbered hand e hl i in
    let here : spot_at spots e ≡ s = sym r in
    record {
      here = here;
      inside = omega (arith, lt, w.long);
      owned = subst (λ (z : Spot). z.owner < length ws) here (w.linked.owned hand e hl i);
      placed = subst (λ (z : Spot). z.place < length (listed (at_slot ws z.owner).c)) here (w.linked.placed hand e hl i);
      watched = subst (λ (z : Spot). (at_slot ws z.owner).watches z.place ≡ true) here (w.linked.watched hand e hl i);
      coded = subst (λ (z : Spot). code (lit_of_spot ws z) ≡ from) here (w.linked.coded hand e hl i ∙ cond-true (eqb hand hand) from hand (eq-eqb hand hand refl));
    }

chain_head : (nexts : List ℕ) (head : ℕ) (xs : List ℕ) → IsChain nexts head xs → head ≤ length nexts
chain_head nexts head [] a = omega (arith, a)
chain_head nexts head (x ∷ xs) a = omega (arith, a.0, a.1)

-- a head is within the list of entries
pub head_within : (ws : List Watching) (spots : List Spot) (nexts heads : List ℕ) (from : ℕ) (chain : ℕ → List ℕ) (home : ℕ → ℕ) → IsWired ws spots nexts heads from chain home → slice_index_or heads (hand_of heads) 0 ≤ length nexts
head_within ws spots nexts heads from chain home w = chain_head nexts (slice_index_or heads (hand_of heads) 0) (chain (hand_of heads)) (w.chains.spelled (hand_of heads) (omega (arith, w.some)))

-- The literal of the chain is false: its negation was made true.
pub is_false : (trail : List Literal) (l x : Literal) → code x ≡ code (negated l) → has trail l ≡ true → is_open trail x ≡ false
is_false trail l x q h =
    let n = code_one x (negated l) q in
    subst (λ (z : Literal). is_open trail z ≡ false) (sym n) (subst (λ (z : Literal). not (has trail z) ≡ false) (sym (negated_twice l)) (not_from_true _ h))

pub has_at : (made : List Made) (place : ℕ) → place < length made → has (literals made) (lit_of made place) ≡ true
has_at [] place lt = absurd (omega (arith, lt))
has_at (m ∷ made) zero lt = or_left (is_same m.lit m.lit) (has (literals made) m.lit) (same-refl m.lit)
has_at (m ∷ made) (suc place) lt = or_right (is_same (lit_of made place) m.lit) (has (literals made) (lit_of made place)) (has_at made place (omega (arith, lt)))
