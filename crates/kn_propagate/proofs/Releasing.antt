-- One watched place less: its entry leaves the chain of its literal, and is not used then.
use Rattle.std.proofs.Common.{◌≡◌, ◌≢◌, ℕ, ◌+◌, ◌-◌, ◌≤◌, ◌<◌, ◌⊎◌, ◌++◌, true, false, eqb, Option, Some, None, List, [], ◌∷◌, length, refl, sym, ap, ◌∙◌, subst, append_assoc, inl, inr, arith}
use Rattle.std.specs.Prelude.{slice_index_or, slice_set, IfSome}
use Rattle.std.proofs.lemmas.Bool.{or_cases, or_left, or_right, or_from, eqb-true, eq-eqb, ne_eqb, cases_eq, cond-true, cond-false, false_from_ne_true}
use Rattle.std.proofs.lemmas.List.{get_or-set_same, get_or-set_other}
use Rattle.std.proofs.Math.ListN.{length-set}
use Rattle.kn_logic.specs.Constraints.{Bounded}
use Rattle.kn_propagate.specs.declared.chains.Spot.{Spot}
use Rattle.kn_propagate.specs.declared.chains.Found.{Found}
use Rattle.kn_watch.specs.Watches.{listed, lit_at}
use Rattle.kn_propagate.specs.Chains.{Watching, Chained, at_slot, lit_of_spot, is_in, code, with_chain, spot_at, hand_of, nobody, IsChain, AreChains, AreLinked, IsStill, AreSpare, StandsIn, EndsWith, IsFound, heads_without, nexts_without, IsReleased, count_from}
use Rattle.kn_propagate.proofs.Laying.{chain_one, chain_kept, chain_short, count_is, first_once}
use Rattle.kn_propagate.proofs.Steps.{chain_none}
use Rattle.kn_propagate.proofs.Relinking.{a_spot, spot_other, spot_here, not_in}
use Rattle.kn_propagate.proofs.Adding.{Gains, still_watched}

-- a list with one number left out
in_less : (x e : ℕ) (front back : List ℕ) → is_in x (front ++ back) ≡ true → is_in x (front ++ e ∷ back) ≡ true
in_less x e [] back i = or_right (eqb e x) (is_in x back) i
in_less x e (y ∷ front) back i = elim (or_cases (eqb y x) (is_in x (front ++ back)) i) [
  | inl s ↦ or_left (eqb y x) (is_in x (front ++ e ∷ back)) s
  | inr s ↦ or_right (eqb y x) (is_in x (front ++ e ∷ back)) (in_less x e front back s)
]

in_rest : (x e : ℕ) (front back : List ℕ) → x ≢ e → is_in x (front ++ e ∷ back) ≡ true → is_in x (front ++ back) ≡ true
in_rest x e [] back d i = elim (or_cases (eqb e x) (is_in x back) i) [
  | inl s ↦ absurd (d (sym (eqb-true e x s)))
  | inr s ↦ s
]
in_rest x e (y ∷ front) back d i = elim (or_cases (eqb y x) (is_in x (front ++ e ∷ back)) i) [
  | inl s ↦ or_left (eqb y x) (is_in x (front ++ back)) s
  | inr s ↦ or_right (eqb y x) (is_in x (front ++ back)) (in_rest x e front back d s)
]

in_middle : (e : ℕ) (front back : List ℕ) → is_in e (front ++ e ∷ back) ≡ true
in_middle e [] back = or_left (eqb e e) (is_in e back) (eq-eqb e e refl)
in_middle e (y ∷ front) back = or_right (eqb y e) (is_in e (front ++ e ∷ back)) (in_middle e front back)

-- an entry stands once in its chain
middle_once : (nexts : List ℕ) (head e : ℕ) (front back : List ℕ) → IsChain nexts head (front ++ e ∷ back) → is_in e (front ++ back) ≡ false
middle_once nexts head e [] back a = first_once nexts head e back a
middle_once nexts head e (y ∷ front) back a =
    let out = first_once nexts head y (front ++ e ∷ back) a in
    or_from (eqb y e) (is_in e (front ++ back)) (ne_eqb y e (λ q. not_in e y (front ++ e ∷ back) (in_middle e front back) out (sym q))) (middle_once nexts (slice_index_or nexts y 0) e front back a.2)

-- behind the entry before it stands the one behind it
spliced : (nexts : List ℕ) (head b e : ℕ) (front back : List ℕ) → IsChain nexts head (front ++ b ∷ e ∷ back) → IsChain (slice_set nexts b (slice_index_or nexts e 0)) head (front ++ b ∷ back)
spliced nexts head b e [] back a =
    let v = slice_index_or nexts e 0 in
    let rest : is_in b back ≡ false = false_from_ne_true _ (λ i. not_in b b (e ∷ back) (or_right (eqb e b) (is_in b back) i) (first_once nexts head b (e ∷ back) a) refl) in
    (a.0, omega (arith, a.1, length-set nexts b v), subst (λ (z : ℕ). IsChain (slice_set nexts b v) z back) (sym (get_or-set_same nexts b v 0 a.1)) (chain_kept nexts v b v back a.2.2 rest))
spliced nexts head b e (x ∷ front) back a =
    let v = slice_index_or nexts e 0 in
    let d : x ≢ b = λ q. not_in b x (front ++ b ∷ e ∷ back) (in_middle b front (e ∷ back)) (first_once nexts head x (front ++ b ∷ e ∷ back) a) (sym q) in
    (a.0, omega (arith, a.1, length-set nexts b v), subst (λ (z : ℕ). IsChain (slice_set nexts b v) z (front ++ b ∷ back)) (sym (get_or-set_other nexts b x v 0 d)) (spliced nexts (slice_index_or nexts x 0) b e front back a.2))

-- the chain from which the entry was taken
chain_without : (c : Chained) (k e : ℕ) (front back : List ℕ) (before : Option ℕ) → k < length c.heads → EndsWith front before → IsChain c.nexts (slice_index_or c.heads k 0) (front ++ e ∷ back) → IsChain (nexts_without c before e) (slice_index_or (heads_without c k before e) k 0) (front ++ back)
chain_without c k e front back None kl q a =
    let b = subst (λ (z : List ℕ). IsChain c.nexts (slice_index_or c.heads k 0) (z ++ e ∷ back)) q a in
    subst (λ (z : List ℕ). IsChain c.nexts (slice_index_or (heads_without c k None e) k 0) (z ++ back)) (sym q)
    (subst (λ (n : ℕ). IsChain c.nexts n back) (sym (get_or-set_same c.heads k (slice_index_or c.nexts e 0) 0 kl)) b.2)
chain_without c k e front back (Some b) kl q a =
    let f = q.0 in
    let p : front ++ e ∷ back ≡ f ++ b ∷ e ∷ back = ap (λ (z : List ℕ). z ++ e ∷ back) q.1 ∙ append_assoc f (b ∷ []) (e ∷ back) in
    let r : front ++ back ≡ f ++ b ∷ back = ap (λ (z : List ℕ). z ++ back) q.1 ∙ append_assoc f (b ∷ []) back in
    let n = nexts_without c (Some b) e in
    let h = slice_index_or c.heads k 0 in
    subst (λ (z : List ℕ). IsChain n h z) (sym r) (spliced c.nexts h b e f back (subst (λ (z : List ℕ). IsChain c.nexts h z) p a))

-- the entry before it stands in the chain
before_in : (front rest : List ℕ) (b : ℕ) → EndsWith front (Some b) → is_in b (front ++ rest) ≡ true
before_in front rest b q = subst (λ (z : List ℕ). is_in b (z ++ rest) ≡ true) (sym q.1) (subst (λ (z : List ℕ). is_in b z ≡ true) (sym (append_assoc q.0 (b ∷ []) rest)) (in_middle b q.0 rest))

-- a chain in which no entry of that one stands
other_without : (c : Chained) (e head : ℕ) (front back xs : List ℕ) (before : Option ℕ) → EndsWith front before → ((x : ℕ) → is_in x (front ++ e ∷ back) ≡ true → is_in x xs ≡ false) → IsChain c.nexts head xs → IsChain (nexts_without c before e) head xs
other_without c e head front back xs None q out a = a
other_without c e head front back xs (Some b) q out a = chain_kept c.nexts head b (slice_index_or c.nexts e 0) xs a (out b (before_in front (e ∷ back) b q))

other_head : (c : Chained) (k e j : ℕ) (before : Option ℕ) → j ≢ k → slice_index_or (heads_without c k before e) j 0 ≡ slice_index_or c.heads j 0
other_head c k e j None d = get_or-set_other c.heads k j (slice_index_or c.nexts e 0) 0 d
other_head c k e j (Some b) d = refl

long_heads : (c : Chained) (k e : ℕ) (before : Option ℕ) → length (heads_without c k before e) ≡ length c.heads
long_heads c k e None = length-set c.heads k (slice_index_or c.nexts e 0)
long_heads c k e (Some b) = refl

pub long_nexts : (c : Chained) (e : ℕ) (before : Option ℕ) → length (nexts_without c before e) ≡ length c.nexts
long_nexts c e None = refl
long_nexts c e (Some b) = length-set c.nexts b (slice_index_or c.nexts e 0)

-- an entry of a chain is in range
inside : (nexts : List ℕ) (head e : ℕ) (xs : List ℕ) → IsChain nexts head xs → is_in e xs ≡ true → e < length nexts
inside nexts head e [] a i = absurd cc
inside nexts head e (x ∷ xs) a i = elim (or_cases (eqb x e) (is_in e xs) i) [
  | inl s ↦ omega (arith, a.1, eqb-true x e s)
  | inr s ↦ inside nexts (slice_index_or nexts x 0) e xs a.2 s
]

pub found_inside : (c : Chained) (k : ℕ) (s : Spot) (f : Found) → IsFound c k s f → f.entry < length c.nexts
found_inside c k s f h = inside c.nexts (slice_index_or c.heads k 0) f.entry (h.front ++ f.entry ∷ h.back) h.chain (in_middle f.entry h.front h.back)

before_parts : (nexts : List ℕ) (head : ℕ) (front rest : List ℕ) (before : Option ℕ) → EndsWith front before → IsChain nexts head (front ++ rest) → IfSome before (λ b. b < length nexts)
before_parts nexts head front rest None q a = tt
before_parts nexts head front rest (Some b) q a = inside nexts head b (front ++ rest) a (before_in front rest b q)

pub before_inside : (c : Chained) (k : ℕ) (s : Spot) (f : Found) → IsFound c k s f → IfSome f.before (λ b. b < length c.nexts)
before_inside c k s f h = before_parts c.nexts (slice_index_or c.heads k 0) h.front (f.entry ∷ h.back) f.before h.last h.chain

-- the chains without the entry
module _ (c : Chained) (k e spare : ℕ) (chain : ℕ → List ℕ) (home : ℕ → ℕ) (front back : List ℕ) (before : Option ℕ) (are : AreChains c.nexts c.heads chain home) (kl : k < length c.heads) (is : chain k ≡ front ++ e ∷ back) (ends : EndsWith front before) where
  here_chain : IsChain c.nexts (slice_index_or c.heads k 0) (front ++ e ∷ back)
  here_chain = subst (λ (z : List ℕ). IsChain c.nexts (slice_index_or c.heads k 0) z) is (are.spelled k kl)

  -- what stands there stands in no other chain
  apart : (j x : ℕ) → j < length c.heads → j ≢ k → is_in x (front ++ e ∷ back) ≡ true → is_in x (chain j) ≡ false
  apart j x jl d i = false_from_ne_true _ (λ m. d (sym (are.homes j x jl m) ∙ are.homes k x kl (subst (λ (z : List ℕ). is_in x z ≡ true) (sym is) i)))

  -- where an entry stands then
  pub stands_less : (j x : ℕ) → j < length c.heads → is_in x (with_chain chain k (front ++ back) j) ≡ true → (is_in x (chain j) ≡ true) × (x ≢ e)
  stands_less j x jl i = elim (cases_eq j k) [
    | inl q ↦ (
        let i2 : is_in x (front ++ back) ≡ true = subst (λ (z : List ℕ). is_in x z ≡ true) (cond-true (eqb j k) (front ++ back) (chain j) (eq-eqb j k q)) i in (
          subst (λ (z : ℕ). is_in x (chain z) ≡ true) (sym q) (subst (λ (z : List ℕ). is_in x z ≡ true) (sym is) (in_less x e front back i2)),
          not_in x e (front ++ back) i2 (middle_once c.nexts (slice_index_or c.heads k 0) e front back here_chain),
        ))
    | inr d ↦ (
        let i2 : is_in x (chain j) ≡ true = subst (λ (z : List ℕ). is_in x z ≡ true) (cond-false (eqb j k) (front ++ back) (chain j) (ne_eqb j k d)) i in
        (i2, not_in x e (chain j) i2 (apart j e jl d (in_middle e front back))))
  ]

  pub stands_still : (j x : ℕ) → is_in x (chain j) ≡ true → x ≢ e → is_in x (with_chain chain k (front ++ back) j) ≡ true
  stands_still j x i n = elim (cases_eq j k) [
    | inl q ↦ subst (λ (z : List ℕ). is_in x z ≡ true) (sym (cond-true (eqb j k) (front ++ back) (chain j) (eq-eqb j k q)))
        (in_rest x e front back n (subst (λ (z : List ℕ). is_in x z ≡ true) is (subst (λ (z : ℕ). is_in x (chain z) ≡ true) q i)))
    | inr d ↦ subst (λ (z : List ℕ). is_in x z ≡ true) (sym (cond-false (eqb j k) (front ++ back) (chain j) (ne_eqb j k d))) i
  ]

  spelled_less : (j : ℕ) → j < length c.heads → IsChain (nexts_without c before e) (slice_index_or (heads_without c k before e) j 0) (with_chain chain k (front ++ back) j)
  spelled_less j jl = elim (cases_eq j k) [
    | inl q ↦ subst (λ (z : List ℕ). IsChain (nexts_without c before e) (slice_index_or (heads_without c k before e) j 0) z) (sym (cond-true (eqb j k) (front ++ back) (chain j) (eq-eqb j k q)))
        (subst (λ (z : ℕ). IsChain (nexts_without c before e) (slice_index_or (heads_without c k before e) z 0) (front ++ back)) (sym q) (chain_without c k e front back before kl ends here_chain))
    | inr d ↦ subst (λ (z : List ℕ). IsChain (nexts_without c before e) (slice_index_or (heads_without c k before e) j 0) z) (sym (cond-false (eqb j k) (front ++ back) (chain j) (ne_eqb j k d)))
        (subst (λ (n : ℕ). IsChain (nexts_without c before e) n (chain j)) (sym (other_head c k e j before d)) (other_without c e (slice_index_or c.heads j 0) front back (chain j) before ends (λ x i. apart j x jl d i) (are.spelled j jl)))
  ]

  pub chains_less : AreChains (slice_set (nexts_without c before e) e spare) (heads_without c k before e) (with_chain chain k (front ++ back)) home
  chains_less = record {
    spelled = λ j lj. (
        let jl : j < length c.heads = omega (arith, lj, long_heads c k e before) in
        chain_kept (nexts_without c before e) (slice_index_or (heads_without c k before e) j 0) e spare (with_chain chain k (front ++ back) j) (spelled_less j jl) (false_from_ne_true _ (λ i. (stands_less j e jl i).1 refl)));
    homes = λ j x lj i. (let jl : j < length c.heads = omega (arith, lj, long_heads c k e before) in are.homes j x jl (stands_less j x jl i).0);
  }

-- what is watched of another place
watched_less : (ws new : List Watching) (s x : Spot) → Gains ws new s → (at_slot new x.owner).watches x.place ≡ true → x ≢ s → (at_slot ws x.owner).watches x.place ≡ true
watched_less ws new s x g w d = elim (cases_eq x.owner s.owner) [
  | inr o ↦ subst (λ (z : Watching). z.watches x.place ≡ true) (g.others x.owner o) w
  | inl o ↦ (
      let w2 = subst (λ (z : ℕ). (at_slot new z).watches x.place ≡ true) o w in
      let p : x.place ≢ s.place = λ (q : x.place ≡ s.place). d (ap (λ (z : ℕ). a_spot z x.place) o ∙ ap (λ (z : ℕ). a_spot s.owner z) q) in
      subst (λ (z : ℕ). (at_slot ws z).watches x.place ≡ true) (sym o) (sym (g.rest x.place p) ∙ w2))
]

unwatched_now : (ws new : List Watching) (s x : Spot) → Gains ws new s → (at_slot ws x.owner).watches x.place ≡ true → x ≢ s
unwatched_now ws new s x g w q =
    let w2 = subst (λ (z : Spot). (at_slot ws z.owner).watches z.place ≡ true) q w in
    let f = g.fresh in
    absurd cc

HasStill : List Spot → ℕ → ℕ → (ℕ → List ℕ) → ℕ → ℕ → Bounded → Type 0
HasStill spots from hand chain slot place c =
    (e : ℕ) × (spot_at spots e ≡ a_spot slot place)
    × ((is_in e (chain (code (lit_at (listed c) place))) ≡ true) ⊎ ((code (lit_at (listed c) place) ≡ from) × (is_in e (chain hand) ≡ true)))

linked_loses : (ws new : List Watching) (spots : List Spot) (count hand from : ℕ) (chain less : ℕ → List ℕ) (e k : ℕ) (s gone : Spot) → AreLinked new spots count hand from chain → Gains ws new s → spot_at spots e ≡ s → k < count → is_in e (chain k) ≡ true
    → ((j x : ℕ) → j < count → is_in x (less j) ≡ true → (is_in x (chain j) ≡ true) × (x ≢ e)) → ((j x : ℕ) → is_in x (chain j) ≡ true → x ≢ e → is_in x (less j) ≡ true) → AreLinked ws (slice_set spots e gone) count hand from less
unfolding HasStill
linked_loses ws new spots count hand from chain less e k s gone l g is kc mine down up =
    let more = slice_set spots e gone in
    let other = λ (x : ℕ) (d : x ≢ e). spot_other spots e x gone d in
    record {
      numbered = λ j x jc i. omega (arith, length-set spots e gone, l.numbered j x jc (down j x jc i).0);
      owned = λ j x jc i. (let o = down j x jc i in subst (λ (z : Spot). z.owner < length ws) (sym (other x o.1)) (omega (arith, g.long, l.owned j x jc o.0)));
      placed = λ j x jc i. (let o = down j x jc i in subst (λ (z : Spot). z.place < length (listed (at_slot ws z.owner).c)) (sym (other x o.1)) (subst (λ (z : Bounded). (spot_at spots x).place < length (listed z)) (g.same (spot_at spots x).owner) (l.placed j x jc o.0)));
      watched = λ j x jc i. (
          let o = down j x jc i in
          let d : spot_at spots x ≢ s = λ q. o.1 (l.apart j k x e jc kc o.0 mine (q ∙ sym is)) in
          subst (λ (z : Spot). (at_slot ws z.owner).watches z.place ≡ true) (sym (other x o.1)) (watched_less ws new s (spot_at spots x) g (l.watched j x jc o.0) d));
      coded = λ j x jc i. (let o = down j x jc i in ap (λ (z : Spot). code (lit_of_spot ws z)) (other x o.1) ∙ ap (λ (z : Bounded). code (lit_at (listed z) (spot_at spots x).place)) (sym (g.same (spot_at spots x).owner)) ∙ l.coded j x jc o.0);
      apart = λ j h d x jc hc i m q. (let o = down j d jc i in let p = down h x hc m in l.apart j h d x jc hc o.0 p.0 (sym (other d o.1) ∙ q ∙ other x p.1));
      all = λ slot place sl pl wa. (
          let pl2 = subst (λ (c : Bounded). place < length (listed c)) (sym (g.same slot)) pl in
          let a = l.all slot place (omega (arith, sl, g.long)) pl2 (still_watched ws new s (a_spot slot place) g wa) in
          let d : a.0 ≢ e = λ q. unwatched_now ws new s (a_spot slot place) g wa (sym a.1 ∙ ap (spot_at spots) q ∙ is) in
          let found : HasStill more from hand less slot place (at_slot new slot).c = (
            a.0,
            other a.0 d ∙ a.1,
            elim (a.2) [
              | inl i ↦ inl (up (code (lit_at (listed (at_slot new slot).c) place)) a.0 i d)
              | inr i ↦ inr (i.0, up hand a.0 i.1 d)
            ],
          ) in
          subst (λ (c : Bounded). HasStill more from hand less slot place c) (g.same slot) found);
    }

-- The entry of a place that is no more watched was taken out of the chain of its literal.
pub still_releases : (ws new : List Watching) (c d : Chained) (k : ℕ) (s : Spot) → IsStill new c → Gains ws new s → k < hand_of c.heads → IsReleased c d k s → IsStill ws d
still_releases ws new c d k s w g kh r =
    let f = r.is in
    let e = r.found.entry in
    let before = r.found.before in
    let hand = hand_of c.heads in
    let kl : k < length c.heads = omega (arith, kh) in
    let is : w.chain k ≡ f.front ++ e ∷ f.back = chain_one c.nexts (slice_index_or c.heads k 0) (w.chain k) (f.front ++ e ∷ f.back) (w.wired.chains.spelled k kl) f.chain in
    let less = with_chain w.chain k (f.front ++ f.back) in
    let long : length d.heads ≡ length c.heads = ap (λ (x : List ℕ). length x) r.heads ∙ long_heads c k e before in
    let are = chains_less c k e c.spare w.chain w.home f.front f.back before w.wired.chains kl is f.last in
    let chains : AreChains d.nexts d.heads less w.home =
    subst (λ (x : List ℕ). AreChains x d.heads less w.home) (sym r.nexts) (subst (λ (x : List ℕ). AreChains (slice_set (nexts_without c before e) e c.spare) x less w.home) (sym r.heads) are) in
    let mine : is_in e (w.chain k) ≡ true = subst (λ (x : List ℕ). is_in e x ≡ true) (sym is) (in_middle e f.front f.back) in
    let linked = linked_loses ws new c.spots (length c.heads) hand w.from w.chain less e k s (a_spot nobody 0) w.wired.linked g f.here kl mine (λ j x jc i. stands_less c k e c.spare w.chain w.home f.front f.back before w.wired.chains kl is f.last j x jc i) (λ j x i n. stands_still c k e c.spare w.chain w.home f.front f.back before w.wired.chains kl is f.last j x i n) in
    record {
      from = w.from;
      chain = less;
      home = w.home;
      wired = record {
        chains = chains;
        linked = subst (λ (x : List Spot). AreLinked ws x (length d.heads) (hand_of d.heads) w.from less) (sym r.spots) (subst (λ (n : ℕ). AreLinked ws (slice_set c.spots e (a_spot nobody 0)) n (n - 1) w.from less) (sym long) linked);
        long = ap (λ (x : List ℕ). length x) r.nexts ∙ length-set (nexts_without c before e) e c.spare ∙ long_nexts c e before ∙ w.wired.long ∙ sym (length-set c.spots e (a_spot nobody 0)) ∙ ap (λ (x : List Spot). length x) (sym r.spots);
        some = omega (arith, long, w.wired.some);
      };
      empty = ap (λ (x : List ℕ). slice_index_or x (hand_of d.heads) 0) r.heads ∙ ap (λ (n : ℕ). slice_index_or (heads_without c k before e) (n - 1) 0) long ∙ other_head c k e hand before (λ q. omega (arith, q, kh)) ∙ w.empty;
    }

-- The entry stands in front of those that are not used.
pub spare_releases : (ws : List Watching) (c d : Chained) (k : ℕ) (s : Spot) → IsStill ws c → length ws ≤ nobody → k < length c.heads → AreSpare c → IsReleased c d k s → AreSpare d
spare_releases ws c d k s w few kl f r =
    let o = r.is in
    let e = r.found.entry in
    let before = r.found.before in
    let free = f.0 in
    let is : w.chain k ≡ o.front ++ e ∷ o.back = chain_one c.nexts (slice_index_or c.heads k 0) (w.chain k) (o.front ++ e ∷ o.back) (w.wired.chains.spelled k kl) o.chain in
    let out : (x : ℕ) → is_in x (o.front ++ e ∷ o.back) ≡ true → is_in x free ≡ false = λ x i. false_from_ne_true _ (λ m. (
    let lt = w.wired.linked.owned k x kl (subst (λ (z : List ℕ). is_in x z ≡ true) (sym is) i) in
    omega (arith, lt, f.2 x m, few))) in
    let gone : is_in e free ≡ false = out e (in_middle e o.front o.back) in
    let inside : e < length c.nexts = omega (arith, w.wired.long, w.wired.linked.numbered k e kl (subst (λ (z : List ℕ). is_in e z ≡ true) (sym is) (in_middle e o.front o.back))) in
    let n = nexts_without c before e in
    let en : e < length n = omega (arith, inside, long_nexts c e before) in
    let rest = chain_kept n c.spare e c.spare free (other_without c e c.spare o.front o.back free before o.last out f.1) gone in
    let whole : IsChain (slice_set n e c.spare) (e + 1) (e ∷ free) = (refl, omega (arith, en, length-set n e c.spare), subst (λ (z : ℕ). IsChain (slice_set n e c.spare) z free) (sym (get_or-set_same n e c.spare 0 en)) rest) in
    let es : e < length c.spots = omega (arith, inside, w.wired.long) in
    let spots = slice_set c.spots e (a_spot nobody 0) in
    let owner : (x : ℕ) → is_in x (e ∷ free) ≡ true → (spot_at spots x).owner ≡ nobody = λ x i. elim (or_cases (eqb e x) (is_in x free) i) [
      | inl q ↦ ap (λ (z : ℕ). (spot_at spots z).owner) (sym (eqb-true e x q)) ∙ ap (λ (z : Spot). z.owner) (spot_here c.spots e (a_spot nobody 0) es)
      | inr m ↦ ap (λ (z : Spot). z.owner) (spot_other c.spots e x (a_spot nobody 0) (not_in x e free m gone)) ∙ f.2 x m
    ] in (
      e ∷ free,
      subst (λ (z : ℕ). IsChain d.nexts z (e ∷ free)) (sym r.spare) (subst (λ (z : List ℕ). IsChain z (e + 1) (e ∷ free)) (sym r.nexts) whole),
      λ x i. ap (λ (z : List Spot). (spot_at z x).owner) r.spots ∙ owner x i,
    )

-- A watched place has an entry in the chain of its literal, where the hand is empty.
pub stands_in : (ws : List Watching) (c : Chained) (k slot place : ℕ) → IsStill ws c → slot < length ws → place < length (listed (at_slot ws slot).c) → (at_slot ws slot).watches place ≡ true → k ≡ code (lit_at (listed (at_slot ws slot).c) place) → k < length c.heads → StandsIn c k (a_spot slot place)
stands_in ws c k slot place w sl pl wa kq kl =
    let a = w.wired.linked.all slot place sl pl wa in
    let none = chain_none c.nexts (slice_index_or c.heads (hand_of c.heads) 0) (w.chain (hand_of c.heads)) (w.wired.chains.spelled (hand_of c.heads) (omega (arith, w.wired.some))) w.empty in
    let i : is_in a.0 (w.chain k) ≡ true = elim (a.2) [
      | inl i ↦ subst (λ (n : ℕ). is_in a.0 (w.chain n) ≡ true) (sym kq) i
      | inr i ↦ (let n = subst (λ (xs : List ℕ). is_in a.0 xs ≡ true) none i.1 in absurd cc)
    ] in
    (w.chain k, a.0, w.wired.chains.spelled k kl, i, a.1)

-- the entry is looked for
pub record IsSought (c : Chained) (k : ℕ) (s : Spot) (before : Option ℕ) (link : ℕ) : Type 0 where
  pub front : List ℕ
  pub rest : List ℕ
  pub chain : IsChain c.nexts (slice_index_or c.heads k 0) (front ++ rest)
  pub here : IsChain c.nexts link rest
  pub last : EndsWith front before
  pub entry : ℕ
  pub stands : is_in entry rest ≡ true
  pub at : spot_at c.spots entry ≡ s

-- the entry at which the search is
parts : (nexts : List ℕ) (link : ℕ) (rest : List ℕ) (e : ℕ) → IsChain nexts link rest → is_in e rest ≡ true → (x : ℕ) × (more : List ℕ) × (rest ≡ x ∷ more) × (link ≡ x + 1) × (x < length nexts) × IsChain nexts (slice_index_or nexts x 0) more
parts nexts link [] e a i = absurd cc
parts nexts link (x ∷ more) e a i = (x, more, refl, a.0, a.1, a.2)

-- the search does not come to an end of the chain
pub sought_some : (c : Chained) (k : ℕ) (s : Spot) (before : Option ℕ) (link : ℕ) → IsSought c k s before link → 1 ≤ link
sought_some c k s before link h = let p = parts c.nexts link h.rest h.entry h.here h.stands in omega (arith, p.3)

pub sought_inside : (c : Chained) (k : ℕ) (s : Spot) (before : Option ℕ) (link e : ℕ) → IsSought c k s before link → link ≡ e + 1 → e < length c.nexts
sought_inside c k s before link e h q = let p = parts c.nexts link h.rest h.entry h.here h.stands in omega (arith, p.3, p.4, q)

pub sought_found : (c : Chained) (k : ℕ) (s : Spot) (before : Option ℕ) (link e : ℕ) → IsSought c k s before link → link ≡ e + 1 → spot_at c.spots e ≡ s → IsFound c k s (record { before = before; entry = e })
sought_found c k s before link e h q is =
    let p = parts c.nexts link h.rest h.entry h.here h.stands in
    let same : p.0 ≡ e = omega (arith, p.3, q) in
    record {
      front = h.front;
      back = p.1;
      chain = subst (λ (z : List ℕ). IsChain c.nexts (slice_index_or c.heads k 0) (h.front ++ z)) (p.2 ∙ ap (λ (z : ℕ). z ∷ p.1) same) h.chain;
      last = h.last;
      here = is;
    }

pub sought_next : (c : Chained) (k : ℕ) (s : Spot) (before : Option ℕ) (link e next : ℕ) → IsSought c k s before link → link ≡ e + 1 → (spot_at c.spots e ≡ s → ⊥) → next ≡ slice_index_or c.nexts e 0 → IsSought c k s (Some e) next
sought_next c k s before link e next h q n is =
    let p = parts c.nexts link h.rest h.entry h.here h.stands in
    let same : p.0 ≡ e = omega (arith, p.3, q) in
    let rest : h.rest ≡ e ∷ p.1 = p.2 ∙ ap (λ (z : ℕ). z ∷ p.1) same in
    record {
      front = h.front ++ e ∷ [];
      rest = p.1;
      chain = subst (λ (z : List ℕ). IsChain c.nexts (slice_index_or c.heads k 0) z) (ap (λ (z : List ℕ). h.front ++ z) rest ∙ sym (append_assoc h.front (e ∷ []) p.1)) h.chain;
      here = subst (λ (z : ℕ). IsChain c.nexts z p.1) (ap (λ (z : ℕ). slice_index_or c.nexts z 0) same ∙ sym is) p.5;
      last = (h.front, refl);
      entry = h.entry;
      stands = elim (or_cases (eqb e h.entry) (is_in h.entry p.1) (subst (λ (z : List ℕ). is_in h.entry z ≡ true) rest h.stands)) [
        | inl i ↦ absurd (n (ap (spot_at c.spots) (eqb-true e h.entry i) ∙ h.at))
        | inr i ↦ i
      ];
      at = h.at;
    }

pub sought_less : (c : Chained) (k : ℕ) (s : Spot) (before : Option ℕ) (link e next : ℕ) → IsSought c k s before link → link ≡ e + 1 → next ≡ slice_index_or c.nexts e 0 → count_from c.nexts (length c.nexts) next < count_from c.nexts (length c.nexts) link
sought_less c k s before link e next h q is =
    let p = parts c.nexts link h.rest h.entry h.here h.stands in
    let same : p.0 ≡ e = omega (arith, p.3, q) in
    let more : IsChain c.nexts next p.1 = subst (λ (z : ℕ). IsChain c.nexts z p.1) (ap (λ (z : ℕ). slice_index_or c.nexts z 0) same ∙ sym is) p.5 in
    omega (arith, count_is c.nexts (length c.nexts) link h.rest h.here (chain_short c.nexts link h.rest h.here), count_is c.nexts (length c.nexts) next p.1 more (chain_short c.nexts next p.1 more), ap (λ (z : List ℕ). length z) p.2)
