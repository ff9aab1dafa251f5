-- Entries that no slot owns stay as they were while chains are walked.
use Rattle.std.proofs.Common.{◌≡◌, ◌≢◌, ℕ, ◌≤◌, ◌<◌, List, length, refl, ap, ◌∙◌, subst, arith}
use Rattle.std.specs.Prelude.{slice_index_or, slice_set}
use Rattle.std.proofs.lemmas.List.{get_or-set_other}
use Rattle.std.proofs.Math.ListN.{length-set}
use Rattle.kn_propagate.specs.declared.chains.Spot.{Spot}
use Rattle.kn_propagate.specs.Chains.{Watching, Chained, spot_at, AreSame, AreSpared}

pub spared_same : (count : ℕ) (t : Chained) → AreSpared count t t
spared_same count t = record { long = refl; head = refl; rest = λ e ge. (refl, refl) }

pub spared_trans : (count : ℕ) (t u v : Chained) → AreSpared count t u → AreSpared count u v → AreSpared count t v
spared_trans count t u v a b = record {
  long = b.long ∙ a.long;
  head = b.head ∙ a.head;
  rest = λ e ge. (
      let x = a.rest e ge in
      let y = b.rest e (omega (arith, ge, ap (λ (s : Spot). s.owner) x.0)) in
      (y.0 ∙ x.0, y.1 ∙ x.1));
}

other : (count : ℕ) (t u : Chained) (x e : ℕ) → AreSpared count t u → count ≤ (spot_at t.spots x).owner → (spot_at u.spots e).owner < count → x ≢ e
other count t u x e s ge lt q = omega (arith, ge, lt, ap (λ (i : ℕ). (spot_at u.spots i).owner) q, ap (λ (z : Spot). z.owner) (s.rest x ge).0)

-- an entry that a slot owns goes from the hand to another chain
pub spared_lay : (count : ℕ) (t u d v : Chained) (e n : ℕ) → AreSpared count t u → (spot_at u.spots e).owner < count → d.spots ≡ u.spots → d.nexts ≡ u.nexts → d.spare ≡ u.spare → v.spots ≡ d.spots → v.nexts ≡ slice_set d.nexts e n → v.spare ≡ d.spare → AreSpared count t v
spared_lay count t u d v e n s lt a b c x y z = record {
  long = ap (λ (i : List Spot). length i) (x ∙ a) ∙ s.long;
  head = z ∙ c ∙ s.head;
  rest = λ i ge. (
      let r = s.rest i ge in (
        ap (λ (j : List Spot). spot_at j i) (x ∙ a) ∙ r.0,
        ap (λ (j : List ℕ). slice_index_or j i 0) y ∙ get_or-set_other d.nexts e i n 0 (other count t u i e s ge lt) ∙ ap (λ (j : List ℕ). slice_index_or j i 0) b ∙ r.1,
      ));
}

-- and gets another spot
pub spared_place : (count : ℕ) (t u d v : Chained) (e n : ℕ) (to : Spot) → AreSpared count t u → (spot_at u.spots e).owner < count → d.spots ≡ u.spots → d.nexts ≡ u.nexts → d.spare ≡ u.spare → v.spots ≡ slice_set d.spots e to → v.nexts ≡ slice_set d.nexts e n → v.spare ≡ d.spare → AreSpared count t v
spared_place count t u d v e n to s lt a b c x y z = record {
  long = ap (λ (i : List Spot). length i) x ∙ length-set d.spots e to ∙ ap (λ (i : List Spot). length i) a ∙ s.long;
  head = z ∙ c ∙ s.head;
  rest = λ i ge. (
      let r = s.rest i ge in
      let o = other count t u i e s ge lt in (
        ap (λ (j : List Spot). spot_at j i) x ∙ get_or-set_other d.spots e i to (record { owner = 0; place = 0 }) o ∙ ap (λ (j : List Spot). spot_at j i) a ∙ r.0,
        ap (λ (j : List ℕ). slice_index_or j i 0) y ∙ get_or-set_other d.nexts e i n 0 o ∙ ap (λ (j : List ℕ). slice_index_or j i 0) b ∙ r.1,
      ));
}

-- a chain is put into the hand and walked
pub spared_walk : (ws new : List Watching) (t u d v : Chained) → AreSame ws new → AreSpared (length ws) t u → d.spots ≡ u.spots → d.nexts ≡ u.nexts → d.spare ≡ u.spare → AreSpared (length new) d v → AreSpared (length ws) t v
spared_walk ws new t u d v s h a b c k =
    let lifted : AreSpared (length ws) u d = record {
      long = ap (λ (x : List Spot). length x) a;
      head = c;
      rest = λ e ge. (ap (λ (x : List Spot). spot_at x e) a, ap (λ (x : List ℕ). slice_index_or x e 0) b);
    } in
    spared_trans (length ws) t u v h (spared_trans (length ws) u d v lifted (subst (λ (n : ℕ). AreSpared n d v) s.long k))
