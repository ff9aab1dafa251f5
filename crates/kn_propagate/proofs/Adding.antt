-- One watched place more, with an entry of its own in front of the chain of its literal.
use Rattle.std.proofs.Common.{◌≡◌, ◌≢◌, ℕ, ◌+◌, ◌-◌, ◌*◌, ◌≤◌, ◌<◌, ◌⊎◌, ◌++◌, Bool, true, false, ◌&&◌, cond, eqb, List, [], ◌∷◌, length, refl, sym, ap, ◌∙◌, subst, inl, inr, arith}
use Rattle.std.specs.Prelude.{slice_index_or, slice_set, nat_lt}
use Rattle.std.proofs.lemmas.Bool.{or_cases, or_left, or_right, eqb-true, eq-eqb, ne_eqb, cases_eq, cases_lt, cond-true, cond-false, false_from_ne_true, and_from, lt-ltb, le-ltb}
use Rattle.std.proofs.lemmas.List.{get_or-set_same, get_or-set_other, get_or_append_left, get_or_push}
use Rattle.std.proofs.Math.ListN.{length-set}
use Rattle.kn_logic.specs.Constraints.{Bounded, IsWithin}
use Rattle.kn_propagate.specs.declared.chains.Spot.{Spot}
use Rattle.kn_watch.specs.Watches.{listed, lit_at}
use Rattle.kn_propagate.specs.Chains.{Watching, Chained, at_slot, lit_of_spot, is_in, code, with_chain, with_home, spot_at, hand_of, nobody, IsChain, AreChains, AreLinked, IsStill, AreSpare, IsUnused, AreWithin, cut_of, cut, vacancy}
use Rattle.kn_propagate.proofs.Laying.{lay, chain_kept, first_once}
use Rattle.kn_propagate.proofs.Walks.{code_known, listed_known}
use Rattle.kn_propagate.proofs.Relinking.{a_spot, spot_other, spot_here, not_in}

-- the same constraints, of which one watches one place more
pub record Gains (ws new : List Watching) (s : Spot) : Type 0 where
  pub long : length new ≡ length ws
  pub owned : s.owner < length ws
  pub same : (slot : ℕ) → (at_slot new slot).c ≡ (at_slot ws slot).c
  pub others : (slot : ℕ) → slot ≢ s.owner → at_slot new slot ≡ at_slot ws slot
  pub within : s.place < length (listed (at_slot ws s.owner).c)
  pub taken : (at_slot new s.owner).watches s.place ≡ true
  pub fresh : (at_slot ws s.owner).watches s.place ≡ false
  pub rest : (place : ℕ) → place ≢ s.place → (at_slot new s.owner).watches place ≡ (at_slot ws s.owner).watches place

in_front : (chain : ℕ → List ℕ) (e k j x : ℕ) (t : Bool) → eqb j k ≡ t → is_in x (cond t (e ∷ chain k) (chain j)) ≡ true → ((x ≡ e) × (j ≡ k)) ⊎ (is_in x (chain j) ≡ true)
in_front chain e k j x true q i = elim (or_cases (eqb e x) (is_in x (chain k)) i) [
  | inl s ↦ inl (sym (eqb-true e x s), eqb-true j k q)
  | inr s ↦ inr (subst (λ (z : ℕ). is_in x (chain z) ≡ true) (sym (eqb-true j k q)) s)
]
in_front chain e k j x false q i = inr i

stays_in : (chain : ℕ → List ℕ) (e k j x : ℕ) (t : Bool) → eqb j k ≡ t → is_in x (chain j) ≡ true → is_in x (cond t (e ∷ chain k) (chain j)) ≡ true
stays_in chain e k j x true q i = or_right (eqb e x) _ (subst (λ (z : ℕ). is_in x (chain z) ≡ true) (eqb-true j k q) i)
stays_in chain e k j x false q i = i

put_in : (chain : ℕ → List ℕ) (e k : ℕ) → is_in e (with_chain chain k (e ∷ chain k) k) ≡ true
put_in chain e k = subst (λ (xs : List ℕ). is_in e xs ≡ true) (sym (cond-true (eqb k k) (e ∷ chain k) (chain k) (eq-eqb k k refl))) (or_left (eqb e e) _ (eq-eqb e e refl))

pub still_watched : (ws new : List Watching) (s x : Spot) → Gains ws new s → (at_slot ws x.owner).watches x.place ≡ true → (at_slot new x.owner).watches x.place ≡ true
still_watched ws new s x g w = elim (cases_eq x.owner s.owner) [
  | inr o ↦ subst (λ (z : Watching). z.watches x.place ≡ true) (sym (g.others x.owner o)) w
  | inl o ↦ (
      let w2 = subst (λ (z : ℕ). (at_slot ws z).watches x.place ≡ true) o w in
      let p : x.place ≢ s.place = λ (q : x.place ≡ s.place). (let f = subst (λ (z : ℕ). (at_slot ws s.owner).watches z ≡ false) (sym q) g.fresh in absurd cc) in
      subst (λ (z : ℕ). (at_slot new z).watches x.place ≡ true) (sym o) (g.rest x.place p ∙ w2))
]

not_twice : (ws new : List Watching) (s x : Spot) → Gains ws new s → (at_slot ws x.owner).watches x.place ≡ true → s ≡ x → ⊥
not_twice ws new s x g w q =
    let w2 = subst (λ (z : Spot). (at_slot ws z.owner).watches z.place ≡ true) (sym q) w in
    let f = g.fresh in
    absurd cc

HasOne : List Spot → ℕ → ℕ → (ℕ → List ℕ) → ℕ → ℕ → Bounded → Type 0
HasOne spots from hand chain slot place c =
    (e : ℕ) × (spot_at spots e ≡ a_spot slot place)
    × ((is_in e (chain (code (lit_at (listed c) place))) ≡ true) ⊎ ((code (lit_at (listed c) place) ≡ from) × (is_in e (chain hand) ≡ true)))

pub linked_gains : (ws new : List Watching) (spots : List Spot) (count hand from : ℕ) (chain : ℕ → List ℕ) (e : ℕ) (s : Spot) → AreLinked ws spots count hand from chain → Gains ws new s → e < length spots → ((j : ℕ) → j < count → is_in e (chain j) ≡ false) → code (lit_of_spot ws s) ≢ hand → hand < count → ((slot place : ℕ) → slot < length ws → place < length (listed (at_slot ws slot).c) → code (lit_at (listed (at_slot ws slot).c) place) < count) →
    AreLinked new (slice_set spots e s) count hand from (with_chain chain (code (lit_of_spot ws s)) (e ∷ chain (code (lit_of_spot ws s))))
unfolding HasOne
linked_gains ws new spots count hand from chain e s l g eh loose kh hc codes =
    let k = code (lit_of_spot ws s) in
    let more = slice_set spots e s in
    let came : (j x : ℕ) → j < count → is_in x (with_chain chain k (e ∷ chain k) j) ≡ true → ((x ≡ e) × (j ≡ k)) ⊎ ((x ≢ e) × (is_in x (chain j) ≡ true)) =
    λ j x jc i. elim (in_front chain e k j x (eqb j k) refl i) [
      | inl a ↦ inl a
      | inr a ↦ inr (not_in x e (chain j) a (loose j jc), a)
    ] in
    let at_e : (x : ℕ) → x ≡ e → spot_at more x ≡ s = λ x q. ap (spot_at more) q ∙ spot_here spots e s eh in
    record {
      numbered = λ j x jc i. elim (came j x jc i) [
        | inl a ↦ omega (arith, length-set spots e s, eh, a.0)
        | inr a ↦ omega (arith, length-set spots e s, l.numbered j x jc a.1)
      ];
      owned = λ j x jc i. elim (came j x jc i) [
        | inl a ↦ subst (λ (z : Spot). z.owner < length new) (sym (at_e x a.0)) (omega (arith, g.long, g.owned))
        | inr a ↦ subst (λ (z : Spot). z.owner < length new) (sym (spot_other spots e x s a.0)) (omega (arith, g.long, l.owned j x jc a.1))
      ];
      placed = λ j x jc i. elim (came j x jc i) [
        | inl a ↦ subst (λ (z : Spot). z.place < length (listed (at_slot new z.owner).c)) (sym (at_e x a.0)) (subst (λ (z : Bounded). s.place < length (listed z)) (sym (g.same s.owner)) g.within)
        | inr a ↦ subst (λ (z : Spot). z.place < length (listed (at_slot new z.owner).c)) (sym (spot_other spots e x s a.0)) (subst (λ (z : Bounded). (spot_at spots x).place < length (listed z)) (sym (g.same (spot_at spots x).owner)) (l.placed j x jc a.1))
      ];
      watched = λ j x jc i. elim (came j x jc i) [
        | inl a ↦ subst (λ (z : Spot). (at_slot new z.owner).watches z.place ≡ true) (sym (at_e x a.0)) g.taken
        | inr a ↦ subst (λ (z : Spot). (at_slot new z.owner).watches z.place ≡ true) (sym (spot_other spots e x s a.0)) (still_watched ws new s (spot_at spots x) g (l.watched j x jc a.1))
      ];
      coded = λ j x jc i. elim (came j x jc i) [
        | inl a ↦ ap (λ (z : Spot). code (lit_of_spot new z)) (at_e x a.0) ∙ ap (λ (z : Bounded). code (lit_at (listed z) s.place)) (g.same s.owner) ∙ sym a.1 ∙ sym (cond-false (eqb j hand) from j (ne_eqb j hand (λ (q : j ≡ hand). kh (sym a.1 ∙ q))))
        | inr a ↦ ap (λ (z : Spot). code (lit_of_spot new z)) (spot_other spots e x s a.0) ∙ ap (λ (z : Bounded). code (lit_at (listed z) (spot_at spots x).place)) (g.same (spot_at spots x).owner) ∙ l.coded j x jc a.1
      ];
      apart = λ j h d x jc hc i m q. elim (came j d jc i) [
        | inl a ↦ elim (came h x hc m) [
          | inl b ↦ a.0 ∙ sym b.0
          | inr b ↦ absurd (not_twice ws new s (spot_at spots x) g (l.watched h x hc b.1) (sym (at_e d a.0) ∙ q ∙ spot_other spots e x s b.0))
        ]
        | inr a ↦ elim (came h x hc m) [
          | inl b ↦ absurd (not_twice ws new s (spot_at spots d) g (l.watched j d jc a.1) (sym (at_e x b.0) ∙ sym q ∙ spot_other spots e d s a.0))
          | inr b ↦ l.apart j h d x jc hc a.1 b.1 (sym (spot_other spots e d s a.0) ∙ q ∙ spot_other spots e x s b.0)
        ]
      ];
      all = λ slot place sl pl wa. (
          let c_is = g.same slot in
          let pl2 = subst (λ (c : Bounded). place < length (listed c)) c_is pl in
          let kept : (at_slot ws slot).watches place ≡ true → HasOne more from hand (with_chain chain k (e ∷ chain k)) slot place (at_slot ws slot).c = λ w. (
          let sl2 : slot < length ws = omega (arith, sl, g.long) in
          let a = l.all slot place sl2 pl2 w in
          let here = code (lit_at (listed (at_slot ws slot).c) place) in
          elim (a.2) [
            | inl i ↦ (a.0, spot_other spots e a.0 s (not_in a.0 e (chain here) i (loose here (codes slot place sl2 pl2))) ∙ a.1, inl (stays_in chain e k here a.0 (eqb here k) refl i))
            | inr i ↦ (a.0, spot_other spots e a.0 s (not_in a.0 e (chain hand) i.1 (loose hand hc)) ∙ a.1, inr (i.0, stays_in chain e k hand a.0 (eqb hand k) refl i.1))
          ]) in
          subst (λ (c : Bounded). HasOne more from hand (with_chain chain k (e ∷ chain k)) slot place c) (sym c_is) (
          elim (cases_eq slot s.owner) [
            | inr o ↦ kept (subst (λ (z : Watching). z.watches place ≡ true) (g.others slot o) wa)
            | inl o ↦ elim (cases_eq place s.place) [
              | inr p ↦ kept (subst (λ (z : ℕ). (at_slot ws z).watches place ≡ true) (sym o) (sym (g.rest place p) ∙ subst (λ (z : ℕ). (at_slot new z).watches place ≡ true) o wa))
              | inl p ↦ (
                e,
                spot_here spots e s eh ∙ ap (λ (z : ℕ). a_spot z s.place) (sym o) ∙ ap (λ (z : ℕ). a_spot slot z) (sym p),
                inl (subst (λ (z : ℕ). is_in e (with_chain chain k (e ∷ chain k) z) ≡ true) (ap (λ (z : ℕ). code (lit_at (listed (at_slot ws z).c) s.place)) (sym o) ∙ ap (λ (z : ℕ). code (lit_at (listed (at_slot ws slot).c) z)) (sym p)) (put_in chain e k)),
              )
            ]
          ]));
    }

-- The entry that was not used before stands in front of the chain of the literal.
pub still_gains : (vars : ℕ) (ws new : List Watching) (c d : Chained) (e k : ℕ) (s : Spot) → IsStill ws c → Gains ws new s → length ws ≤ nobody → (spot_at c.spots e).owner ≡ nobody → e < length c.spots → length c.heads ≡ 2 * vars + 3 → AreWithin vars ws → k ≡ code (lit_of_spot ws s)
    → d.nexts ≡ slice_set c.nexts e (slice_index_or c.heads k 0) → d.heads ≡ slice_set c.heads k (e + 1) → d.spots ≡ slice_set c.spots e s → IsStill new d
still_gains vars ws new c d e k s w g few free eh sized within kq nq hq sq =
    let hand = hand_of c.heads in
    let kh : code (lit_of_spot ws s) < hand = code_known vars c.heads (lit_of_spot ws s) (listed_known vars (at_slot ws s.owner).c s.place (within s.owner g.owned) g.within) sized in
    let kh2 : k < hand = omega (arith, kh, kq) in
    let loose : (j : ℕ) → j < length c.heads → is_in e (w.chain j) ≡ false = λ j lj. false_from_ne_true _ (λ i. (let o = w.wired.linked.owned j e lj i in omega (arith, o, free, few))) in
    let codes : (slot place : ℕ) → slot < length ws → place < length (listed (at_slot ws slot).c) → code (lit_at (listed (at_slot ws slot).c) place) < length c.heads = λ slot place sl pl. (let x = code_known vars c.heads (lit_at (listed (at_slot ws slot).c) place) (listed_known vars (at_slot ws slot).c place (within slot sl) pl) sized in omega (arith, x)) in
    let en : e < length c.nexts = omega (arith, eh, w.wired.long) in
    let long : length d.heads ≡ length c.heads = ap (λ (x : List ℕ). length x) hq ∙ length-set c.heads k (e + 1) in
    let chain = with_chain w.chain k (e ∷ w.chain k) in
    let laid = lay c.nexts c.heads w.chain w.home k e w.wired.chains (omega (arith, kh2)) en loose in
    let chains : AreChains d.nexts d.heads chain (with_home w.home e k) =
    subst (λ (x : List ℕ). AreChains x d.heads chain (with_home w.home e k)) (sym nq) (subst (λ (x : List ℕ). AreChains (slice_set c.nexts e (slice_index_or c.heads k 0)) x chain (with_home w.home e k)) (sym hq) laid) in
    let joined = linked_gains ws new c.spots (length c.heads) hand w.from w.chain e s w.wired.linked g eh loose (λ q. omega (arith, q, kh)) (omega (arith, kh)) codes in
    let here : AreLinked new (slice_set c.spots e s) (length c.heads) hand w.from chain = subst (λ (n : ℕ). AreLinked new (slice_set c.spots e s) (length c.heads) hand w.from (with_chain w.chain n (e ∷ w.chain n))) (sym kq) joined in
    let there : AreLinked new d.spots (length d.heads) (hand_of d.heads) w.from chain =
    subst (λ (x : List Spot). AreLinked new x (length d.heads) (hand_of d.heads) w.from chain) (sym sq) (subst (λ (n : ℕ). AreLinked new (slice_set c.spots e s) n (n - 1) w.from chain) (sym long) here) in
    record {
      from = w.from;
      chain = chain;
      home = with_home w.home e k;
      wired = record {
        chains = chains;
        linked = there;
        long = ap (λ (x : List ℕ). length x) nq ∙ length-set c.nexts e (slice_index_or c.heads k 0) ∙ w.wired.long ∙ sym (length-set c.spots e s) ∙ ap (λ (x : List Spot). length x) (sym sq);
        some = omega (arith, long, w.wired.some);
      };
      empty = ap (λ (x : List ℕ). slice_index_or x (hand_of d.heads) 0) hq ∙ ap (λ (n : ℕ). slice_index_or (slice_set c.heads k (e + 1)) (n - 1) 0) long ∙ get_or-set_other c.heads k hand (e + 1) 0 (λ (q : hand ≡ k). omega (arith, q, kh2)) ∙ w.empty;
    }

chain_moves : (old new : List ℕ) (head : ℕ) (xs : List ℕ) → ((x : ℕ) → is_in x xs ≡ true → (x < length new) × (slice_index_or new x 0 ≡ slice_index_or old x 0)) → IsChain old head xs → IsChain new head xs
chain_moves old new head [] h c = c
chain_moves old new head (x ∷ xs) h c =
    let here = h x (or_left (eqb x x) (is_in x xs) (eq-eqb x x refl)) in
    (c.0, here.0, subst (λ (n : ℕ). IsChain new n xs) (sym here.1) (chain_moves old new (slice_index_or old x 0) xs (λ y i. h y (or_right (eqb x y) (is_in y xs) i)) c.2))

pub codes_of : (vars : ℕ) (ws : List Watching) (heads : List ℕ) → length heads ≡ 2 * vars + 3 → AreWithin vars ws → (slot place : ℕ) → slot < length ws → place < length (listed (at_slot ws slot).c) → code (lit_at (listed (at_slot ws slot).c) place) < length heads
codes_of vars ws heads sized within slot place sl pl = (let x = code_known vars heads (lit_at (listed (at_slot ws slot).c) place) (listed_known vars (at_slot ws slot).c place (within slot sl) pl) sized in omega (arith, x))

-- the same watched places, with the same literals
pub record Agrees (ws new : List Watching) : Type 0 where
  pub to : (slot place : ℕ) → slot < length ws → place < length (listed (at_slot ws slot).c) → (at_slot ws slot).watches place ≡ true →
      (slot < length new) × (place < length (listed (at_slot new slot).c)) × ((at_slot new slot).watches place ≡ true) × (lit_at (listed (at_slot new slot).c) place ≡ lit_at (listed (at_slot ws slot).c) place)
  pub back : (slot place : ℕ) → slot < length new → place < length (listed (at_slot new slot).c) → (at_slot new slot).watches place ≡ true →
      (slot < length ws) × (place < length (listed (at_slot ws slot).c)) × ((at_slot ws slot).watches place ≡ true)

pub agrees_back : (ws new : List Watching) → Agrees ws new → Agrees new ws
agrees_back ws new a = record {
  to = λ slot place sl pl w. (let b = a.back slot place sl pl w in (b.0, b.1, b.2, sym (a.to slot place b.0 b.1 b.2).3));
  back = λ slot place sl pl w. (let b = a.to slot place sl pl w in (b.0, b.1, b.2));
}

pub still_agrees : (ws new : List Watching) (c : Chained) → Agrees ws new → IsStill ws c → IsStill new c
still_agrees ws new c a w =
    let l = w.wired.linked in
    let at = λ (k e : ℕ) (kc : k < length c.heads) (i : is_in e (w.chain k) ≡ true). a.to (spot_at c.spots e).owner (spot_at c.spots e).place (l.owned k e kc i) (l.placed k e kc i) (l.watched k e kc i) in
    record {
      from = w.from;
      chain = w.chain;
      home = w.home;
      wired = record {
        chains = w.wired.chains;
        linked = record {
          numbered = l.numbered;
          owned = λ k e kc i. (at k e kc i).0;
          placed = λ k e kc i. (at k e kc i).1;
          watched = λ k e kc i. (at k e kc i).2;
          coded = λ k e kc i. ap code (at k e kc i).3 ∙ l.coded k e kc i;
          apart = l.apart;
          all = λ slot place sl pl wa. (
              let b = a.back slot place sl pl wa in
              let t = a.to slot place b.0 b.1 b.2 in
              let o = l.all slot place b.0 b.1 b.2 in (
                o.0,
                o.1,
                elim (o.2) [
                  | inl i ↦ inl (subst (λ (n : ℕ). is_in o.0 (w.chain n) ≡ true) (ap code (sym t.3)) i)
                  | inr i ↦ inr (ap code t.3 ∙ i.0, i.1)
                ],
              ));
        };
        long = w.wired.long;
        some = w.wired.some;
      };
      empty = w.empty;
    }

-- an entry that is not used goes out of its chain, or comes new behind all others
pub still_unused : (vars : ℕ) (ws : List Watching) (c d : Chained) (e : ℕ) → length c.heads ≡ 2 * vars + 3 → AreWithin vars ws → IsUnused c d e → IsStill ws c → IsStill ws d
still_unused vars ws c d e sized within u w =
    let l = w.wired.linked in
    let long : length d.heads ≡ length c.heads = ap (λ (x : List ℕ). length x) u.heads in
    let same : (k x : ℕ) → k < length c.heads → is_in x (w.chain k) ≡ true → spot_at d.spots x ≡ spot_at c.spots x = λ k x kc i. u.spots x (l.numbered k x kc i) in
    let spelled : (k : ℕ) → k < length c.heads → IsChain d.nexts (slice_index_or c.heads k 0) (w.chain k) = λ k kc.
    chain_moves c.nexts d.nexts (slice_index_or c.heads k 0) (w.chain k) (λ x i. (omega (arith, l.numbered k x kc i, u.long, u.even), u.nexts x (l.numbered k x kc i))) (w.wired.chains.spelled k kc) in
    let linked : AreLinked ws d.spots (length c.heads) (hand_of c.heads) w.from w.chain = record {
      numbered = λ k x kc i. omega (arith, l.numbered k x kc i, u.long);
      owned = λ k x kc i. subst (λ (z : Spot). z.owner < length ws) (sym (same k x kc i)) (l.owned k x kc i);
      placed = λ k x kc i. subst (λ (z : Spot). z.place < length (listed (at_slot ws z.owner).c)) (sym (same k x kc i)) (l.placed k x kc i);
      watched = λ k x kc i. subst (λ (z : Spot). (at_slot ws z.owner).watches z.place ≡ true) (sym (same k x kc i)) (l.watched k x kc i);
      coded = λ k x kc i. ap (λ (z : Spot). code (lit_of_spot ws z)) (same k x kc i) ∙ l.coded k x kc i;
      apart = λ j k x y jc kc i m q. l.apart j k x y jc kc i m (sym (same j x jc i) ∙ q ∙ same k y kc m);
      all = λ slot place sl pl wa. (
          let o = l.all slot place sl pl wa in
          let x : o.0 < length c.spots = elim (o.2) [
            | inl i ↦ l.numbered (code (lit_at (listed (at_slot ws slot).c) place)) o.0 (codes_of vars ws c.heads sized within slot place sl pl) i
            | inr i ↦ l.numbered (hand_of c.heads) o.0 (omega (arith, w.wired.some)) i.1
          ] in
          (o.0, u.spots o.0 x ∙ o.1, o.2));
    } in
    record {
      from = w.from;
      chain = w.chain;
      home = w.home;
      wired = record {
        chains = record {
          spelled = λ k kc. subst (λ (x : List ℕ). IsChain d.nexts (slice_index_or x k 0) (w.chain k)) (sym u.heads) (spelled k (omega (arith, kc, long)));
          homes = λ k x kc i. w.wired.chains.homes k x (omega (arith, kc, long)) i;
        };
        linked = subst (λ (n : ℕ). AreLinked ws d.spots n (n - 1) w.from w.chain) (sym long) linked;
        long = u.even;
        some = omega (arith, long, w.wired.some);
      };
      empty = ap (λ (x : List ℕ). slice_index_or x (hand_of x) 0) u.heads ∙ w.empty;
    }

-- the entry stands in front of its chain: the others that are not used stay so
pub spare_laid : (c d : Chained) (e k : ℕ) (s : Spot) → ((free : List ℕ) × IsChain c.nexts c.spare free × ((x : ℕ) → is_in x free ≡ true → (spot_at c.spots x).owner ≡ nobody) × (is_in e free ≡ false)) → d.nexts ≡ slice_set c.nexts e k → d.spots ≡ slice_set c.spots e s → d.spare ≡ c.spare → AreSpare d
spare_laid c d e k s f nq sq pq = (
  f.0,
  subst (λ (x : List ℕ). IsChain x d.spare f.0) (sym nq) (subst (λ (n : ℕ). IsChain (slice_set c.nexts e k) n f.0) (sym pq) (chain_kept c.nexts c.spare e k f.0 f.1 f.3)),
  λ x i. ap (λ (z : List Spot). (spot_at z x).owner) sq ∙ ap (λ (z : Spot). z.owner) (spot_other c.spots e x s (not_in x e f.0 i f.3)) ∙ f.2 x i,
)

drawn_parts : (c d : Chained) (e : ℕ) (free : List ℕ) → IsChain c.nexts c.spare free → ((x : ℕ) → is_in x free ≡ true → (spot_at c.spots x).owner ≡ nobody) → c.spare ≡ e + 1 → length c.nexts ≡ length c.spots → d.spots ≡ c.spots → d.nexts ≡ c.nexts → d.heads ≡ c.heads → d.room ≡ c.room → d.spare ≡ slice_index_or c.nexts e 0 → IsUnused c d e
drawn_parts c d e [] chain owners q even sq nq hq rq pq = absurd (omega (arith, chain, q))
drawn_parts c d e (x ∷ free) chain owners q even sq nq hq rq pq =
    let same : x ≡ e = omega (arith, chain.0, q) in
    let long : length d.spots ≡ length c.spots = ap (λ (z : List Spot). length z) sq in
    let out : is_in x free ≡ false = first_once c.nexts c.spare x free chain in
    let rest : IsChain d.nexts d.spare free = subst (λ (z : List ℕ). IsChain z d.spare free) (sym nq) (subst (λ (n : ℕ). IsChain c.nexts n free) (ap (λ (z : ℕ). slice_index_or c.nexts z 0) same ∙ sym pq) chain.2) in
    let owner = λ (y : ℕ). ap (λ (z : List Spot). (spot_at z y).owner) sq in
    record {
      inside = omega (arith, chain.1, even, long, same);
      long = omega (arith, long);
      more = omega (arith, long);
      even = ap (λ (z : List ℕ). length z) nq ∙ even ∙ sym long;
      free = owner e ∙ owners e (subst (λ (z : ℕ). is_in e (z ∷ free) ≡ true) (sym same) (or_left (eqb e e) (is_in e free) (eq-eqb e e refl)));
      spare = (free, rest, λ y i. owner y ∙ owners y (or_right (eqb x y) (is_in y free) i), subst (λ (z : ℕ). is_in z free ≡ false) same out);
      spots = λ y lt. ap (λ (z : List Spot). spot_at z y) sq;
      nexts = λ y lt. ap (λ (z : List ℕ). slice_index_or z y 0) nq;
      heads = hq;
      room = omega (arith, rq);
    }

pub unused_drawn : (c d : Chained) (e : ℕ) → AreSpare c → c.spare ≡ e + 1 → length c.nexts ≡ length c.spots → d.spots ≡ c.spots → d.nexts ≡ c.nexts → d.heads ≡ c.heads → d.room ≡ c.room → d.spare ≡ slice_index_or c.nexts e 0 → IsUnused c d e
unused_drawn c d e f q even sq nq hq rq pq = drawn_parts c d e f.0 f.1 f.2 q even sq nq hq rq pq

snoc_spot : (xs : List Spot) (s : Spot) → length (xs ++ s ∷ []) ≡ length xs + 1
snoc_spot [] s = refl
snoc_spot (x ∷ xs) s = omega (arith, snoc_spot xs s)

snoc_next : (xs : List ℕ) (n : ℕ) → length (xs ++ n ∷ []) ≡ length xs + 1
snoc_next [] n = refl
snoc_next (x ∷ xs) n = omega (arith, snoc_next xs n)

pub unused_pushed : (c d : Chained) (s : Spot) (n : ℕ) → s.owner ≡ nobody → c.spare ≡ 0 → length c.nexts ≡ length c.spots → d.spots ≡ c.spots ++ s ∷ [] → d.nexts ≡ c.nexts ++ n ∷ [] → d.heads ≡ c.heads → c.room ≤ d.room → d.spare ≡ c.spare → IsUnused c d (length c.spots)
unused_pushed c d s n owner zero even sq nq hq rq pq =
    let long : length d.spots ≡ length c.spots + 1 = ap (λ (z : List Spot). length z) sq ∙ snoc_spot c.spots s in
    record {
      inside = omega (arith, long);
      long = omega (arith, long);
      more = omega (arith, long);
      even = omega (arith, ap (λ (z : List ℕ). length z) nq, snoc_next c.nexts n, even, long);
      free = ap (λ (z : List Spot). (spot_at z (length c.spots)).owner) sq ∙ ap (λ (z : Spot). z.owner) (get_or_push c.spots s (record { owner = 0; place = 0 }) (length c.spots) refl) ∙ owner;
      spare = ([], pq ∙ zero, λ y i. absurd cc, refl);
      spots = λ y lt. ap (λ (z : List Spot). spot_at z y) sq ∙ get_or_append_left c.spots (s ∷ []) (record { owner = 0; place = 0 }) y lt;
      nexts = λ y lt. ap (λ (z : List ℕ). slice_index_or z y 0) nq ∙ get_or_append_left c.nexts (n ∷ []) 0 y (omega (arith, lt, even));
      heads = hq;
      room = omega (arith, rq);
    }

-- the list with one constraint cut
pub at_cut : (ws : List Watching) (slot k : ℕ) → slot < length ws → at_slot (cut ws slot k) slot ≡ cut_of (at_slot ws slot) k
at_cut ws slot k lt = get_or-set_same ws slot (cut_of (at_slot ws slot) k) vacancy lt

pub off_cut : (ws : List Watching) (slot k x : ℕ) → x ≢ slot → at_slot (cut ws slot k) x ≡ at_slot ws x
off_cut ws slot k x d = get_or-set_other ws slot x (cut_of (at_slot ws slot) k) vacancy d

pub length-cut : (ws : List Watching) (slot k : ℕ) → length (cut ws slot k) ≡ length ws
length-cut ws slot k = length-set ws slot (cut_of (at_slot ws slot) k)

pub c_cut : (ws : List Watching) (slot k x : ℕ) → slot < length ws → (at_slot (cut ws slot k) x).c ≡ (at_slot ws x).c
c_cut ws slot k x lt = elim (cases_eq x slot) [
  | inl e ↦ subst (λ (z : ℕ). (at_slot (cut ws slot k) z).c ≡ (at_slot ws z).c) (sym e) (ap (λ (w : Watching). w.c) (at_cut ws slot k lt))
  | inr d ↦ ap (λ (w : Watching). w.c) (off_cut ws slot k x d)
]

pub within_cut : (vars : ℕ) (ws : List Watching) (slot k : ℕ) → slot < length ws → AreWithin vars ws → AreWithin vars (cut ws slot k)
within_cut vars ws slot k lt w x xl = subst (IsWithin vars) (sym (c_cut ws slot k x lt)) (w x (omega (arith, xl, length-cut ws slot k)))

more_lt : (w : Bool) (p k : ℕ) → p ≢ k → (w && nat_lt p (k + 1)) ≡ (w && nat_lt p k)
more_lt w p k d = elim (cases_lt p k) [
  | inl lt ↦ ap (λ (b : Bool). w && b) (lt-ltb p (k + 1) (omega (arith, lt)) ∙ sym (lt-ltb p k lt))
  | inr ge ↦ ap (λ (b : Bool). w && b) (le-ltb p (k + 1) (omega (arith, ge, d)) ∙ sym (le-ltb p k ge))
]

and_no : (b : Bool) → (b && false) ≡ false
and_no true = refl
and_no false = refl

pub cut_taken : (ws : List Watching) (slot k : ℕ) → slot < length ws → (at_slot ws slot).watches k ≡ true → (at_slot (cut ws slot (k + 1)) slot).watches k ≡ true
cut_taken ws slot k lt w = ap (λ (x : Watching). x.watches k) (at_cut ws slot (k + 1) lt) ∙ and_from ((at_slot ws slot).watches k) _ w (lt-ltb k (k + 1) (omega arith))

pub cut_gains : (ws : List Watching) (slot k : ℕ) → slot < length ws → k < length (listed (at_slot ws slot).c) → (at_slot ws slot).watches k ≡ true → Gains (cut ws slot k) (cut ws slot (k + 1)) (a_spot slot k)
cut_gains ws slot k lt kl w =
    let a = at_cut ws slot k lt in
    let b = at_cut ws slot (k + 1) lt in
    record {
      long = length-cut ws slot (k + 1) ∙ sym (length-cut ws slot k);
      owned = omega (arith, lt, length-cut ws slot k);
      same = λ x. c_cut ws slot (k + 1) x lt ∙ sym (c_cut ws slot k x lt);
      others = λ x d. off_cut ws slot (k + 1) x d ∙ sym (off_cut ws slot k x d);
      within = subst (λ (c : Bounded). k < length (listed c)) (sym (c_cut ws slot k slot lt)) kl;
      taken = cut_taken ws slot k lt w;
      fresh = ap (λ (x : Watching). x.watches k) a ∙ ap (λ (t : Bool). (at_slot ws slot).watches k && t) (le-ltb k k (omega arith)) ∙ and_no _;
      rest = λ p d. ap (λ (x : Watching). x.watches p) b ∙ more_lt ((at_slot ws slot).watches p) p k d ∙ sym (ap (λ (x : Watching). x.watches p) a);
    }

-- two lists that differ at one slot agree where the watched places there agree
agrees_at : (ws new : List Watching) (slot : ℕ) → length new ≡ length ws → ((x : ℕ) → (at_slot new x).c ≡ (at_slot ws x).c) → ((x : ℕ) → x ≢ slot → at_slot new x ≡ at_slot ws x) → ((p : ℕ) → p < length (listed (at_slot ws slot).c) → (at_slot new slot).watches p ≡ (at_slot ws slot).watches p) → Agrees ws new
agrees_at ws new slot long same others at =
    let watches : (x p : ℕ) → p < length (listed (at_slot ws x).c) → (at_slot new x).watches p ≡ (at_slot ws x).watches p = λ x p pl. elim (cases_eq x slot) [
      | inl e ↦ subst (λ (z : ℕ). (at_slot new z).watches p ≡ (at_slot ws z).watches p) (sym e) (at p (subst (λ (z : ℕ). p < length (listed (at_slot ws z).c)) e pl))
      | inr d ↦ ap (λ (w : Watching). w.watches p) (others x d)
    ] in
    record {
      to = λ x p xl pl w. (omega (arith, xl, long), subst (λ (c : Bounded). p < length (listed c)) (sym (same x)) pl, watches x p pl ∙ w, ap (λ (c : Bounded). lit_at (listed c) p) (same x));
      back = λ x p xl pl w. (let pl2 = subst (λ (c : Bounded). p < length (listed c)) (same x) pl in (omega (arith, xl, long), pl2, sym (watches x p pl2) ∙ w));
    }

and_yes : (b : Bool) → (b && true) ≡ b
and_yes true = refl
and_yes false = refl

pub cut_whole : (ws : List Watching) (slot k : ℕ) → slot < length ws → k ≡ length (listed (at_slot ws slot).c) → Agrees (cut ws slot k) ws
cut_whole ws slot k lt e = agrees_at (cut ws slot k) ws slot (sym (length-cut ws slot k)) (λ x. sym (c_cut ws slot k x lt)) (λ x d. sym (off_cut ws slot k x d))
    (λ p pl. (
    let pl2 = subst (λ (c : Bounded). p < length (listed c)) (c_cut ws slot k slot lt) pl in
    sym (ap (λ (x : Watching). x.watches p) (at_cut ws slot k lt) ∙ ap (λ (t : Bool). (at_slot ws slot).watches p && t) (lt-ltb p k (omega (arith, pl2, e))) ∙ and_yes _)))

within_of : (c : Chained) (free : List ℕ) → IsChain c.nexts c.spare free → c.spare ≤ length c.nexts
within_of c [] a = omega (arith, a)
within_of c (x ∷ free) a = omega (arith, a.0, a.1)

pub spare_within : (c : Chained) → AreSpare c → c.spare ≤ length c.nexts
spare_within c f = within_of c f.0 f.1
