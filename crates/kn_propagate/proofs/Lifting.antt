-- A chain is put into the empty hand.
use Rattle.std.proofs.Common.{◌≡◌, ◌≢◌, ℕ, ◌-◌, ◌<◌, ◌⊎◌, Bool, true, false, cond, eqb, List, [], length, refl, sym, ap, ◌∙◌, subst, inl, inr, arith}
use Rattle.std.specs.Prelude.{slice_index_or, slice_set}
use Rattle.std.proofs.lemmas.Bool.{eq-eqb, ne_eqb, eqb-true, eqb-false, cases_eq, cond-true, cond-false}
use Rattle.std.proofs.lemmas.List.{get_or-set_same, get_or-set_other}
use Rattle.std.proofs.Math.ListN.{length-set}
use Rattle.kn_logic.specs.Literals.{Literal}
use Rattle.kn_watch.specs.declared.trail.Made.{Made}
use Rattle.kn_propagate.specs.declared.chains.Spot.{Spot}
use Rattle.kn_watch.specs.Watches.{listed, lit_at}
use Rattle.kn_propagate.specs.Chains.{Watching, at_slot, is_in, code, spot_at, with_chain, IsChain, AreChains, AreLinked, IsWalked, hand_of, IsWalking, IsIdle}
use Rattle.kn_propagate.proofs.Steps.{chain_none}

-- the chains, with one of them in the hand
abbrev lifted : (ℕ → List ℕ) → ℕ → ℕ → ℕ → List ℕ
lifted chain hand from = with_chain (with_chain chain hand (chain from)) from []

abbrev home_of : (ℕ → ℕ) → ℕ → ℕ → ℕ → ℕ
home_of home hand from e = cond (eqb (home e) from) hand (home e)

-- where an entry stands then
where_lifted : (chain : ℕ → List ℕ) (hand from j x : ℕ) (s t : Bool) → eqb j from ≡ s → eqb j hand ≡ t → is_in x (cond s [] (cond t (chain from) (chain j))) ≡ true → ((j ≡ hand) × (is_in x (chain from) ≡ true)) ⊎ ((j ≢ hand) × (j ≢ from) × (is_in x (chain j) ≡ true))
where_lifted chain hand from j x true t p q i = absurd cc
where_lifted chain hand from j x false true p q i = inl (eqb-true j hand q, i)
where_lifted chain hand from j x false false p q i = inr (eqb-false j hand q, eqb-false j from p, i)

at_hand : (chain : ℕ → List ℕ) (hand from : ℕ) → hand ≢ from → lifted chain hand from hand ≡ chain from
at_hand chain hand from d = cond-false (eqb hand from) [] (with_chain chain hand (chain from) hand) (ne_eqb hand from d) ∙ cond-true (eqb hand hand) (chain from) (chain hand) (eq-eqb hand hand refl)

at_other : (chain : ℕ → List ℕ) (hand from j : ℕ) → j ≢ hand → j ≢ from → lifted chain hand from j ≡ chain j
at_other chain hand from j a b = cond-false (eqb j from) [] (with_chain chain hand (chain from) j) (ne_eqb j from b) ∙ cond-false (eqb j hand) (chain from) (chain j) (ne_eqb j hand a)

at_from : (chain : ℕ → List ℕ) (hand from : ℕ) → lifted chain hand from from ≡ []
at_from chain hand from = cond-true (eqb from from) [] (with_chain chain hand (chain from) from) (eq-eqb from from refl)

module _ (nexts heads : List ℕ) (chain : ℕ → List ℕ) (home : ℕ → ℕ) (from : ℕ) (are : AreChains nexts heads chain home) (fh : from < hand_of heads) where
  lift_spelled : (j : ℕ) → j < length heads → IsChain nexts (slice_index_or (slice_set (slice_set heads (hand_of heads) (slice_index_or heads from 0)) from 0) j 0) (lifted chain (hand_of heads) from j)
  lift_spelled j lj =
      let hand = hand_of heads in
      let hl : hand < length heads = omega (arith, fh) in
      let long = length-set heads hand (slice_index_or heads from 0) in
      elim (cases_eq j from) [
        | inl e ↦ subst (λ (n : ℕ). IsChain nexts (slice_index_or (slice_set (slice_set heads hand (slice_index_or heads from 0)) from 0) n 0) (lifted chain hand from n)) (sym e)
            (subst (λ (xs : List ℕ). IsChain nexts (slice_index_or (slice_set (slice_set heads hand (slice_index_or heads from 0)) from 0) from 0) xs) (sym (at_from chain hand from))
            (get_or-set_same (slice_set heads hand (slice_index_or heads from 0)) from 0 0 (omega (arith, fh, long))))
        | inr d ↦ elim (cases_eq j hand) [
          | inl e ↦ subst (λ (n : ℕ). IsChain nexts (slice_index_or (slice_set (slice_set heads hand (slice_index_or heads from 0)) from 0) n 0) (lifted chain hand from n)) (sym e)
              (subst (λ (xs : List ℕ). IsChain nexts (slice_index_or (slice_set (slice_set heads hand (slice_index_or heads from 0)) from 0) hand 0) xs) (sym (at_hand chain hand from (λ (q : hand ≡ from). omega (arith, q, fh))))
              (subst (λ (n : ℕ). IsChain nexts n (chain from))
              (sym (get_or-set_other (slice_set heads hand (slice_index_or heads from 0)) from hand 0 0 (λ (q : hand ≡ from). omega (arith, q, fh)) ∙ get_or-set_same heads hand (slice_index_or heads from 0) 0 hl))
              (are.spelled from (omega (arith, fh)))))
          | inr g ↦ subst (λ (xs : List ℕ). IsChain nexts (slice_index_or (slice_set (slice_set heads hand (slice_index_or heads from 0)) from 0) j 0) xs) (sym (at_other chain hand from j g d))
              (subst (λ (n : ℕ). IsChain nexts n (chain j))
              (sym (get_or-set_other (slice_set heads hand (slice_index_or heads from 0)) from j 0 0 d ∙ get_or-set_other heads hand j (slice_index_or heads from 0) 0 g))
              (are.spelled j lj))
        ]
      ]

  lift_homes : (j x : ℕ) → j < length heads → is_in x (lifted chain (hand_of heads) from j) ≡ true → home_of home (hand_of heads) from x ≡ j
  lift_homes j x lj i =
      let hand = hand_of heads in
      elim (where_lifted chain hand from j x (eqb j from) (eqb j hand) refl refl i) [
        | inl s ↦ cond-true (eqb (home x) from) hand (home x) (eq-eqb (home x) from (are.homes from x (omega (arith, fh)) s.1)) ∙ sym s.0
        | inr s ↦ (let h = are.homes j x lj s.2 in cond-false (eqb (home x) from) hand (home x) (ne_eqb (home x) from (λ q. s.1 (sym h ∙ q))) ∙ h)
      ]

  pub lift_chains : AreChains nexts (slice_set (slice_set heads (hand_of heads) (slice_index_or heads from 0)) from 0) (lifted chain (hand_of heads) from) (home_of home (hand_of heads) from)
  lift_chains =
      let long = length-set (slice_set heads (hand_of heads) (slice_index_or heads from 0)) from 0 ∙ length-set heads (hand_of heads) (slice_index_or heads from 0) in
      record {
        spelled = λ j lj. lift_spelled j (omega (arith, lj, long));
        homes = λ j x lj i. lift_homes j x (omega (arith, lj, long)) i;
      }

module _ (ws : List Watching) (spots : List Spot) (heads : List ℕ) (old from : ℕ) (chain : ℕ → List ℕ) (l : AreLinked ws spots (length heads) (hand_of heads) old chain) (none : chain (hand_of heads) ≡ []) (fh : from < hand_of heads) where
  -- an entry stood in a chain of the same literals
  came : (k x : ℕ) → k < length heads → is_in x (lifted chain (hand_of heads) from k) ≡ true → (j : ℕ) × (j < length heads) × (is_in x (chain j) ≡ true) × (j ≢ hand_of heads) × (j ≡ cond (eqb k (hand_of heads)) from k)
  came k x kc i =
      let hand = hand_of heads in
      elim (where_lifted chain hand from k x (eqb k from) (eqb k hand) refl refl i) [
        | inl s ↦ (from, omega (arith, fh), s.1, (λ q. omega (arith, q, fh)), sym (cond-true (eqb k hand) from k (eq-eqb k hand s.0)))
        | inr s ↦ (k, kc, s.2, s.0, sym (cond-false (eqb k hand) from k (ne_eqb k hand s.0)))
      ]

  pub lift_linked : AreLinked ws spots (length heads) (hand_of heads) from (lifted chain (hand_of heads) from)
  lift_linked =
      let hand = hand_of heads in
      record {
        numbered = λ k x kc i. (let o = came k x kc i in l.numbered o.0 x o.1 o.2);
        owned = λ k x kc i. (let o = came k x kc i in l.owned o.0 x o.1 o.2);
        placed = λ k x kc i. (let o = came k x kc i in l.placed o.0 x o.1 o.2);
        watched = λ k x kc i. (let o = came k x kc i in l.watched o.0 x o.1 o.2);
        coded = λ k x kc i. (let o = came k x kc i in l.coded o.0 x o.1 o.2 ∙ cond-false (eqb o.0 hand) old o.0 (ne_eqb o.0 hand o.3) ∙ o.4);
        apart = λ j k d x jc kc i m s. (let o = came j d jc i in let p = came k x kc m in l.apart o.0 p.0 d x o.1 p.1 o.2 p.2 s);
        all = λ slot place sl pl wa. (
            let a = l.all slot place sl pl wa in
            let here = code (lit_at (listed (at_slot ws slot).c) place) in
            elim (a.2) [
              | inr i ↦ (let n = subst (λ (xs : List ℕ). is_in a.0 xs ≡ true) none i.1 in absurd cc)
              | inl i ↦ elim (cases_eq here from) [
                | inl e ↦ (a.0, a.1, inr (e, subst (λ (xs : List ℕ). is_in a.0 xs ≡ true) (sym (at_hand chain hand from (λ (q : hand ≡ from). omega (arith, q, fh)))) (subst (λ (n : ℕ). is_in a.0 (chain n) ≡ true) e i)))
                | inr d ↦ elim (cases_eq here hand) [
                  | inl q ↦ (let n = subst (λ (xs : List ℕ). is_in a.0 xs ≡ true) (ap chain q ∙ none) i in absurd cc)
                  | inr q ↦ (a.0, a.1, inl (subst (λ (xs : List ℕ). is_in a.0 xs ≡ true) (sym (at_other chain hand from here q d)) i))
                ]
              ]
            ]);
      }

  -- what is watched of the chain stands in the hand
  pub in_hand : (slot place : ℕ) → slot < length ws → place < length (listed (at_slot ws slot).c) → (at_slot ws slot).watches place ≡ true → code (lit_at (listed (at_slot ws slot).c) place) ≡ from → (e : ℕ) × (spot_at spots e ≡ record { owner = slot; place = place }) × (is_in e (lifted chain (hand_of heads) from (hand_of heads)) ≡ true)
  in_hand slot place sl pl wa q =
      let hand = hand_of heads in
      let a = l.all slot place sl pl wa in
      elim (a.2) [
        | inr i ↦ (let n = subst (λ (xs : List ℕ). is_in a.0 xs ≡ true) none i.1 in absurd cc)
        | inl i ↦ (a.0, a.1, subst (λ (xs : List ℕ). is_in a.0 xs ≡ true) (sym (at_hand chain hand from (λ (z : hand ≡ from). omega (arith, z, fh)))) (subst (λ (n : ℕ). is_in a.0 (chain n) ≡ true) q i))
      ]

-- The walk begins.
pub lift_walking : (made : List Made) (seen : List Literal) (ws : List Watching) (spots : List Spot) (nexts heads new : List ℕ) (from : ℕ) → (idle : IsIdle made seen ws spots nexts heads) → from < hand_of heads → new ≡ slice_set (slice_set heads (hand_of heads) (slice_index_or heads from 0)) from 0 → IsWalking made seen ws spots nexts new from
lift_walking made seen ws spots nexts heads new from idle fh is =
    let hand = hand_of heads in
    let s = idle.stopped in
    let w = s.wired in
    let none = chain_none nexts (slice_index_or heads hand 0) (s.chain hand) (w.chains.spelled hand (omega (arith, w.some))) idle.empty in
    let long : length new ≡ length heads = ap (λ (xs : List ℕ). length xs) is ∙ length-set (slice_set heads hand (slice_index_or heads from 0)) from 0 ∙ length-set heads hand (slice_index_or heads from 0) in
    record {
      chain = lifted s.chain hand from;
      home = home_of s.home hand from;
      wired = record {
        chains = subst (λ (xs : List ℕ). AreChains nexts xs (lifted s.chain hand from) (home_of s.home hand from)) (sym is) (lift_chains nexts heads s.chain s.home from w.chains fh);
        linked = subst (λ (n : ℕ). AreLinked ws spots n (n - 1) from (lifted s.chain hand from)) (sym long) (lift_linked ws spots heads idle.from from s.chain w.linked none fh);
        long = w.long;
        some = omega (arith, long, w.some);
      };
      walked = λ slot lt. subst (λ (n : ℕ). IsWalked made seen spots (lifted s.chain hand from (n - 1)) from ws slot) (sym long) (elim (s.rest slot lt) [
        | inl t ↦ inl t
        | inr n ↦ inr (n, λ place pl wa q. in_hand ws spots heads idle.from from s.chain w.linked none fh slot place lt pl wa q)
      ]);
    }
