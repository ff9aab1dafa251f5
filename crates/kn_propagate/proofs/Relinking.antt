-- One step of the walk along a chain.
use Rattle.std.proofs.Common.{◌≡◌, ◌≢◌, ℕ, ◌<◌, ◌⊎◌, Bool, true, false, cond, eqb, List, ◌∷◌, length, refl, sym, ap, ◌∙◌, subst, inl, inr, arith}
use Rattle.std.specs.Prelude.{slice_set}
use Rattle.std.proofs.lemmas.Bool.{or_cases, or_left, or_right, eqb-true, eq-eqb, ne_eqb, cases_eq, cond-true, cond-false}
use Rattle.std.proofs.lemmas.List.{get_or-set_other, get_or-set_same}
use Rattle.std.proofs.Math.ListN.{length-set}
use Rattle.kn_logic.specs.Constraints.{Bounded}
use Rattle.kn_propagate.specs.declared.chains.Spot.{Spot}
use Rattle.kn_watch.specs.Watches.{listed, lit_at}
use Rattle.kn_propagate.specs.Chains.{Watching, at_slot, lit_of_spot, is_in, code, with_chain, spot_at, AreLinked, Goes}

-- the chains after an entry of the hand was put in front of another chain
abbrev pub relaid : (ℕ → List ℕ) → ℕ → List ℕ → ℕ → ℕ → ℕ → List ℕ
relaid chain hand rest e k = with_chain (with_chain chain hand rest) k (e ∷ with_chain chain hand rest k)

-- where an entry stands after that: it is the one that was put there, or it stood there before
in_hand : (chain : ℕ → List ℕ) (hand : ℕ) (rest : List ℕ) (e j x : ℕ) → chain hand ≡ e ∷ rest → (t : Bool) → eqb j hand ≡ t → is_in x (cond t rest (chain j)) ≡ true → is_in x (chain j) ≡ true
in_hand chain hand rest e j x is true q i =
    subst (λ (z : ℕ). is_in x (chain z) ≡ true) (sym (eqb-true j hand q)) (subst (λ (xs : List ℕ). is_in x xs ≡ true) (sym is) (or_right (eqb e x) (is_in x rest) i))
in_hand chain hand rest e j x is false q i = i

in_laid : (chain : ℕ → List ℕ) (hand : ℕ) (rest : List ℕ) (e k j x : ℕ) → chain hand ≡ e ∷ rest → (t : Bool) → eqb j k ≡ t → is_in x (cond t (e ∷ with_chain chain hand rest k) (with_chain chain hand rest j)) ≡ true → ((x ≡ e) × (j ≡ k)) ⊎ (is_in x (with_chain chain hand rest j) ≡ true)
in_laid chain hand rest e k j x is true q i = elim (or_cases (eqb e x) (is_in x (with_chain chain hand rest k)) i) [
  | inl s ↦ inl (sym (eqb-true e x s), eqb-true j k q)
  | inr s ↦ inr (subst (λ (z : ℕ). is_in x (with_chain chain hand rest z) ≡ true) (sym (eqb-true j k q)) s)
]
in_laid chain hand rest e k j x is false q i = inr i

pub where_laid : (chain : ℕ → List ℕ) (hand : ℕ) (rest : List ℕ) (e k j x : ℕ) → chain hand ≡ e ∷ rest → is_in x (relaid chain hand rest e k j) ≡ true → ((x ≡ e) × (j ≡ k)) ⊎ ((is_in x (with_chain chain hand rest j) ≡ true) × (is_in x (chain j) ≡ true))
where_laid chain hand rest e k j x is i = elim (in_laid chain hand rest e k j x is (eqb j k) refl i) [
  | inl s ↦ inl s
  | inr s ↦ inr (s, in_hand chain hand rest e j x is (eqb j hand) refl s)
]

-- what stood in a chain, and is not the entry that was put elsewhere, still does
hand_still : (chain : ℕ → List ℕ) (hand : ℕ) (rest : List ℕ) (e j x : ℕ) → chain hand ≡ e ∷ rest → x ≢ e → (t : Bool) → eqb j hand ≡ t → is_in x (chain j) ≡ true → is_in x (cond t rest (chain j)) ≡ true
hand_still chain hand rest e j x is d true q i =
    let h = subst (λ (xs : List ℕ). is_in x xs ≡ true) (ap chain (eqb-true j hand q) ∙ is) i in
    elim (or_cases (eqb e x) (is_in x rest) h) [
      | inl s ↦ absurd (d (sym (eqb-true e x s)))
      | inr s ↦ s
    ]
hand_still chain hand rest e j x is d false q i = i

laid_still : (chain : ℕ → List ℕ) (hand : ℕ) (rest : List ℕ) (e k j x : ℕ) → (t : Bool) → eqb j k ≡ t → is_in x (with_chain chain hand rest j) ≡ true → is_in x (cond t (e ∷ with_chain chain hand rest k) (with_chain chain hand rest j)) ≡ true
laid_still chain hand rest e k j x true q i = or_right (eqb e x) _ (subst (λ (z : ℕ). is_in x (with_chain chain hand rest z) ≡ true) (eqb-true j k q) i)
laid_still chain hand rest e k j x false q i = i

pub still : (chain : ℕ → List ℕ) (hand : ℕ) (rest : List ℕ) (e k j x : ℕ) → chain hand ≡ e ∷ rest → x ≢ e → is_in x (chain j) ≡ true → is_in x (relaid chain hand rest e k j) ≡ true
still chain hand rest e k j x is d i = laid_still chain hand rest e k j x (eqb j k) refl (hand_still chain hand rest e j x is d (eqb j hand) refl i)

pub laid_in : (chain : ℕ → List ℕ) (hand : ℕ) (rest : List ℕ) (e k : ℕ) → is_in e (relaid chain hand rest e k k) ≡ true
laid_in chain hand rest e k = subst (λ (xs : List ℕ). is_in e xs ≡ true) (sym (cond-true (eqb k k) (e ∷ with_chain chain hand rest k) (with_chain chain hand rest k) (eq-eqb k k refl))) (or_left (eqb e e) _ (eq-eqb e e refl))

first_in : (chain : ℕ → List ℕ) (hand : ℕ) (rest : List ℕ) (e : ℕ) → chain hand ≡ e ∷ rest → is_in e (chain hand) ≡ true
first_in chain hand rest e is = subst (λ (xs : List ℕ). is_in e xs ≡ true) (sym is) (or_left (eqb e e) _ (eq-eqb e e refl))

-- The entry goes back into the chain that it came from.
pub linked_stays : (ws : List Watching) (spots : List Spot) (count hand from : ℕ) (chain : ℕ → List ℕ) (e : ℕ) (rest : List ℕ) → AreLinked ws spots count hand from chain → hand < count → from ≢ hand → chain hand ≡ e ∷ rest → AreLinked ws spots count hand from (relaid chain hand rest e from)
linked_stays ws spots count hand from chain e rest l hc fh is =
    let came : (k x : ℕ) → k < count → is_in x (relaid chain hand rest e from k) ≡ true → (j : ℕ) × (j < count) × (is_in x (chain j) ≡ true) × (cond (eqb j hand) from j ≡ cond (eqb k hand) from k) =
    λ k x kc i. elim (where_laid chain hand rest e from k x is i) [
      | inl s ↦ (hand, hc, subst (λ (z : ℕ). is_in z (chain hand) ≡ true) (sym s.0) (first_in chain hand rest e is), cond-true (eqb hand hand) from hand (eq-eqb hand hand refl) ∙ sym (cond-false (eqb k hand) from k (ne_eqb k hand (λ (q : k ≡ hand). fh (sym s.1 ∙ q))) ∙ s.1))
      | inr s ↦ (k, kc, s.1, refl)
    ] in
    record {
      numbered = λ k x kc i. (let o = came k x kc i in l.numbered o.0 x o.1 o.2);
      owned = λ k x kc i. (let o = came k x kc i in l.owned o.0 x o.1 o.2);
      placed = λ k x kc i. (let o = came k x kc i in l.placed o.0 x o.1 o.2);
      watched = λ k x kc i. (let o = came k x kc i in l.watched o.0 x o.1 o.2);
      coded = λ k x kc i. (let o = came k x kc i in l.coded o.0 x o.1 o.2 ∙ o.3);
      apart = λ j k d x jc kc i m s. (let o = came j d jc i in let p = came k x kc m in l.apart o.0 p.0 d x o.1 p.1 o.2 p.2 s);
      all = λ slot place sl pl wa. (
          let a = l.all slot place sl pl wa in
          let here = code (lit_at (listed (at_slot ws slot).c) place) in
          elim (cases_eq a.0 e) [
            | inl q ↦ (
                let c : code (lit_of_spot ws (spot_at spots e)) ≡ from = l.coded hand e hc (first_in chain hand rest e is) ∙ cond-true (eqb hand hand) from hand (eq-eqb hand hand refl) in
                let f : here ≡ from = ap (λ (s : Spot). code (lit_of_spot ws s)) (sym a.1 ∙ ap (spot_at spots) q) ∙ c in
                (a.0, a.1, inl (subst (λ (z : ℕ). is_in a.0 (relaid chain hand rest e from z) ≡ true) (sym f) (subst (λ (z : ℕ). is_in z (relaid chain hand rest e from from) ≡ true) (sym q) (laid_in chain hand rest e from)))))
            | inr d ↦ elim (a.2) [
              | inl i ↦ (a.0, a.1, inl (still chain hand rest e from here a.0 is d i))
              | inr i ↦ (a.0, a.1, inr (i.0, still chain hand rest e from hand a.0 is d i.1))
            ]
          ]);
    }

pub spot_other : (spots : List Spot) (e x : ℕ) (to : Spot) → x ≢ e → spot_at (slice_set spots e to) x ≡ spot_at spots x
spot_other spots e x to d = get_or-set_other spots e x to (record { owner = 0; place = 0 }) d

pub spot_here : (spots : List Spot) (e : ℕ) (to : Spot) → e < length spots → spot_at (slice_set spots e to) e ≡ to
spot_here spots e to lt = get_or-set_same spots e to (record { owner = 0; place = 0 }) lt

pub not_in : (x e : ℕ) (xs : List ℕ) → is_in x xs ≡ true → is_in e xs ≡ false → x ≢ e
not_in x e xs i n q = let j = subst (λ (z : ℕ). is_in z xs ≡ true) q i in absurd cc

abbrev pub a_spot : ℕ → ℕ → Spot
a_spot owner place = record { owner = owner; place = place }

-- what is watched of a spot whose entry stays
stays_watched : (ws new : List Watching) (from to s : Spot) → Goes ws new from to → (at_slot ws s.owner).watches s.place ≡ true → (s ≡ from → ⊥) → (at_slot new s.owner).watches s.place ≡ true
stays_watched ws new from to s g w d =
    elim (cases_eq s.owner from.owner) [
      | inr o ↦ subst (λ (z : Watching). z.watches s.place ≡ true) (sym (g.others s.owner o)) w
      | inl o ↦ (
          let w2 : (at_slot ws from.owner).watches s.place ≡ true = subst (λ (z : ℕ). (at_slot ws z).watches s.place ≡ true) o w in
          let p : s.place ≢ from.place = λ (q : s.place ≡ from.place). d (ap (λ (z : ℕ). a_spot z s.place) o ∙ ap (λ (z : ℕ). a_spot from.owner z) q) in
          let t : s.place ≢ to.place = λ (q : s.place ≡ to.place). (let f = subst (λ (z : ℕ). (at_slot ws from.owner).watches z ≡ false) (sym q) g.fresh in absurd cc) in
          subst (λ (z : ℕ). (at_slot new z).watches s.place ≡ true) (sym o) (g.rest s.place p t ∙ w2))
    ]

-- a watched place has an entry in the chain of its literal
abbrev HasEntry : List Spot → ℕ → ℕ → (ℕ → List ℕ) → ℕ → ℕ → Bounded → Type 0
HasEntry spots from hand chain slot place c =
    (e : ℕ) × (spot_at spots e ≡ a_spot slot place)
    × ((is_in e (chain (code (lit_at (listed c) place))) ≡ true) ⊎ ((code (lit_at (listed c) place) ≡ from) × (is_in e (chain hand) ≡ true)))

taken_twice : (ws new : List Watching) (spots : List Spot) (e x : ℕ) (to : Spot) → Goes ws new (spot_at spots e) to → (at_slot ws (spot_at spots x).owner).watches (spot_at spots x).place ≡ true → to ≡ spot_at spots x → ⊥
taken_twice ws new spots e x to g w q =
    let w2 = subst (λ (z : Spot). (at_slot ws z.owner).watches z.place ≡ true) (sym q) w in
    let w3 = subst (λ (z : ℕ). (at_slot ws z).watches to.place ≡ true) g.owner w2 in
    let f = g.fresh in
    absurd cc

pub linked_moves : (ws new : List Watching) (spots : List Spot) (count hand from : ℕ) (chain : ℕ → List ℕ) (e : ℕ) (rest : List ℕ) (to : Spot) → AreLinked ws spots count hand from chain → hand < count → chain hand ≡ e ∷ rest → ((j : ℕ) → j < count → is_in e (with_chain chain hand rest j) ≡ false) → Goes ws new (spot_at spots e) to → code (lit_of_spot ws to) ≢ hand → AreLinked new (slice_set spots e to) count hand from (relaid chain hand rest e (code (lit_of_spot ws to)))
linked_moves ws new spots count hand from chain e rest to l hc is loose g kh =
    let k = code (lit_of_spot ws to) in
    let mine = first_in chain hand rest e is in
    let en = l.numbered hand e hc mine in
    let came : (j x : ℕ) → j < count → is_in x (relaid chain hand rest e k j) ≡ true → ((x ≡ e) × (j ≡ k)) ⊎ ((x ≢ e) × (is_in x (chain j) ≡ true)) =
    λ j x jc i. elim (where_laid chain hand rest e k j x is i) [
      | inl s ↦ inl s
      | inr s ↦ inr (not_in x e (with_chain chain hand rest j) s.0 (loose j jc), s.1)
    ] in
    let here = spot_here spots e to en in
    let at_e : (x : ℕ) → x ≡ e → spot_at (slice_set spots e to) x ≡ to = λ x q. ap (spot_at (slice_set spots e to)) q ∙ here in
    record {
      numbered = λ j x jc i. elim (came j x jc i) [
        | inl s ↦ omega (arith, length-set spots e to, s.0)
        | inr s ↦ omega (arith, length-set spots e to, l.numbered j x jc s.1)
      ];
      owned = λ j x jc i. elim (came j x jc i) [
        | inl s ↦ subst (λ (z : Spot). z.owner < length new) (sym (at_e x s.0)) (omega (arith, g.owner, g.long, l.owned hand e hc mine))
        | inr s ↦ subst (λ (z : Spot). z.owner < length new) (sym (spot_other spots e x to s.0)) (omega (arith, g.long, l.owned j x jc s.1))
      ];
      placed = λ j x jc i. elim (came j x jc i) [
        | inl s ↦ subst (λ (z : Spot). z.place < length (listed (at_slot new z.owner).c)) (sym (at_e x s.0)) (subst (λ (z : Bounded). to.place < length (listed z)) (sym (g.same to.owner)) g.within)
        | inr s ↦ subst (λ (z : Spot). z.place < length (listed (at_slot new z.owner).c)) (sym (spot_other spots e x to s.0)) (subst (λ (z : Bounded). (spot_at spots x).place < length (listed z)) (sym (g.same (spot_at spots x).owner)) (l.placed j x jc s.1))
      ];
      watched = λ j x jc i. elim (came j x jc i) [
        | inl s ↦ subst (λ (z : Spot). (at_slot new z.owner).watches z.place ≡ true) (sym (at_e x s.0)) (subst (λ (z : ℕ). (at_slot new z).watches to.place ≡ true) (sym g.owner) g.taken)
        | inr s ↦ subst (λ (z : Spot). (at_slot new z.owner).watches z.place ≡ true) (sym (spot_other spots e x to s.0))
            (stays_watched ws new (spot_at spots e) to (spot_at spots x) g (l.watched j x jc s.1) (λ q. s.0 (l.apart j hand x e jc hc s.1 mine q)))
      ];
      coded = λ j x jc i. elim (came j x jc i) [
        | inl s ↦ ap (λ (z : Spot). code (lit_of_spot new z)) (at_e x s.0) ∙ ap (λ (z : Bounded). code (lit_at (listed z) to.place)) (g.same to.owner) ∙ sym s.1 ∙ sym (cond-false (eqb j hand) from j (ne_eqb j hand (λ (q : j ≡ hand). kh (sym s.1 ∙ q))))
        | inr s ↦ ap (λ (z : Spot). code (lit_of_spot new z)) (spot_other spots e x to s.0) ∙ ap (λ (z : Bounded). code (lit_at (listed z) (spot_at spots x).place)) (g.same (spot_at spots x).owner) ∙ l.coded j x jc s.1
      ];
      apart = λ j h d x jc hc2 i m s. elim (came j d jc i) [
        | inl a ↦ elim (came h x hc2 m) [
          | inl b ↦ a.0 ∙ sym b.0
          | inr b ↦ absurd (taken_twice ws new spots e x to g (l.watched h x hc2 b.1) (sym (at_e d a.0) ∙ s ∙ spot_other spots e x to b.0))
        ]
        | inr a ↦ elim (came h x hc2 m) [
          | inl b ↦ absurd (taken_twice ws new spots e d to g (l.watched j d jc a.1) (sym (at_e x b.0) ∙ sym s ∙ spot_other spots e d to a.0))
          | inr b ↦ l.apart j h d x jc hc2 a.1 b.1 (sym (spot_other spots e d to a.0) ∙ s ∙ spot_other spots e x to b.0)
        ]
      ];
      all = λ slot place sl pl wa. (
          let c_is = g.same slot in
          let pl2 = subst (λ (c : Bounded). place < length (listed c)) c_is pl in
          let kept : (at_slot ws slot).watches place ≡ true → (slot ≢ (spot_at spots e).owner) ⊎ (place ≢ (spot_at spots e).place) → HasEntry (slice_set spots e to) from hand (relaid chain hand rest e k) slot place (at_slot ws slot).c = λ w d. (
          let a = l.all slot place (omega (arith, sl, g.long)) pl2 w in
          let xe : a.0 ≢ e = λ (q : a.0 ≡ e). (let s = sym (ap (spot_at spots) q) ∙ a.1 in elim d [ inl o ↦ o (sym (ap (λ (z : Spot). z.owner) s)) | inr p ↦ p (sym (ap (λ (z : Spot). z.place) s)) ]) in
          let s2 = spot_other spots e a.0 to xe ∙ a.1 in
          elim (a.2) [
            | inl i ↦ (a.0, s2, inl (still chain hand rest e k (code (lit_at (listed (at_slot ws slot).c) place)) a.0 is xe i))
            | inr i ↦ (a.0, s2, inr (i.0, still chain hand rest e k hand a.0 is xe i.1))
          ]) in
          subst (λ (c : Bounded). HasEntry (slice_set spots e to) from hand (relaid chain hand rest e k) slot place c) (sym c_is) (
          elim (cases_eq slot (spot_at spots e).owner) [
            | inr o ↦ kept (subst (λ (z : Watching). z.watches place ≡ true) (g.others slot o) wa) (inl o)
            | inl o ↦ (
                let wa2 = subst (λ (z : ℕ). (at_slot new z).watches place ≡ true) o wa in
                elim (cases_eq place to.place) [
                  | inl p ↦ (
                    e,
                    here ∙ ap (λ (z : ℕ). a_spot z to.place) (g.owner ∙ sym o) ∙ ap (λ (z : ℕ). a_spot slot z) (sym p),
                    inl (subst (λ (z : ℕ). is_in e (relaid chain hand rest e k z) ≡ true) (ap (λ (z : ℕ). code (lit_at (listed (at_slot ws z).c) to.place)) (g.owner ∙ sym o) ∙ ap (λ (z : ℕ). code (lit_at (listed (at_slot ws slot).c) z)) (sym p)) (laid_in chain hand rest e k)),
                  )
                  | inr p ↦ elim (cases_eq place (spot_at spots e).place) [
                    | inl q ↦ (let r = g.released in let r2 = subst (λ (z : ℕ). (at_slot new (spot_at spots e).owner).watches z ≡ true) q wa2 in absurd cc)
                    | inr q ↦ kept (subst (λ (z : ℕ). (at_slot ws z).watches place ≡ true) (sym o) (sym (g.rest place q p) ∙ wa2)) (inr q)
                  ]
                ])
          ]));
    }
