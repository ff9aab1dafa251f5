-- One slot is another than before: a constraint came into it or left it, or it is new.
use Rattle.std.proofs.Common.{◌≡◌, ◌≢◌, ℕ, zero, suc, ◌+◌, ◌≤◌, ◌<◌, ◌++◌, true, None, List, [], ◌∷◌, length, refl, sym, ap, ◌∙◌, subst, inl, inr, arith}
use Rattle.std.specs.Prelude.{slice_set, nat_lt}
use Rattle.std.proofs.lemmas.Bool.{cases_eq, and_parts, ltb-true}
use Rattle.std.proofs.lemmas.List.{get_or-set_same, get_or-set_other, get_or_append_left, get_or_push}
use Rattle.std.proofs.Math.ListN.{length-set}
use Rattle.kn_logic.specs.Constraints.{Bounded}
use Rattle.kn_watch.specs.Watches.{listed, lit_at}
use Rattle.kn_propagate.specs.Chains.{Watching, at_slot, vacancy, cut_of, cut, IsKept}
use Rattle.kn_propagate.proofs.Adding.{Agrees, at_cut, off_cut, length-cut}

-- past the end there is no constraint
pub slot_past : (ws : List Watching) (slot : ℕ) → length ws ≤ slot → at_slot ws slot ≡ vacancy
slot_past [] slot le = refl
slot_past (w ∷ ws) zero le = absurd (omega (arith, le))
slot_past (w ∷ ws) (suc slot) le = slot_past ws slot (omega (arith, le))

pub record Changes (ws new : List Watching) (slot : ℕ) (w : Watching) : Type 0 where
  pub long : length ws ≤ length new
  pub inside : slot < length new
  pub here : at_slot new slot ≡ w
  pub others : (x : ℕ) → x < length new → x ≢ slot → (x < length ws) × (at_slot new x ≡ at_slot ws x)

pub changes_set : (ws : List Watching) (slot : ℕ) (w : Watching) → slot < length ws → Changes ws (slice_set ws slot w) slot w
changes_set ws slot w lt = record {
  long = omega (arith, length-set ws slot w);
  inside = omega (arith, lt, length-set ws slot w);
  here = get_or-set_same ws slot w vacancy lt;
  others = λ x xl d. (omega (arith, xl, length-set ws slot w), get_or-set_other ws slot x w vacancy d);
}

pub long_push : (ws : List Watching) (w : Watching) → length (ws ++ w ∷ []) ≡ length ws + 1
long_push [] w = refl
long_push (x ∷ ws) w = omega (arith, long_push ws w)

pub changes_push : (ws : List Watching) (w : Watching) → Changes ws (ws ++ w ∷ []) (length ws) w
changes_push ws w = record {
  long = omega (arith, long_push ws w);
  inside = omega (arith, long_push ws w);
  here = get_or_push ws w vacancy (length ws) refl;
  others = λ x xl d. (let lt : x < length ws = omega (arith, xl, long_push ws w, d) in (lt, get_or_append_left ws (w ∷ []) vacancy x lt));
}

-- what holds of each slot
pub each : (P : ℕ → Watching → Type 0) (ws new : List Watching) (slot : ℕ) (w : Watching) → Changes ws new slot w → ((x : ℕ) → x < length ws → x ≢ slot → P x (at_slot ws x)) → P slot w → (x : ℕ) → x < length new → P x (at_slot new x)
each P ws new slot w c h p x xl = elim (cases_eq x slot) [
  | inl e ↦ subst (λ (z : ℕ). P z (at_slot new z)) (sym e) (subst (P slot) (sym c.here) p)
  | inr d ↦ (let o = c.others x xl d in subst (P x) (sym o.1) (h x o.0 d))
]

-- no place is watched
abbrev pub IsBare : Watching → Type 0
IsBare w = (place : ℕ) → place < length (listed w.c) → w.watches place ≡ true → ⊥

-- a free slot watches nothing
pub bare_free : {vars : ℕ} (w : Watching) → IsKept vars w → w.id ≡ None → IsBare w
bare_free w k n place lt h = absurd (omega (arith, lt, ap (λ (c : Bounded). length (listed c)) (k.free n)))

pub bare_cut : (w : Watching) → IsBare (cut_of w 0)
bare_cut w place lt h = absurd (omega (arith, ltb-true place 0 (and_parts (w.watches place) (nat_lt place 0) h).1))

pub bare_vacancy : IsBare vacancy
bare_vacancy place lt h = absurd (omega (arith, lt))

pub agrees_changed : (ws new : List Watching) (slot : ℕ) (w : Watching) → Changes ws new slot w → (slot < length ws → IsBare (at_slot ws slot)) → IsBare w → Agrees ws new
agrees_changed ws new slot w c old bare = record {
  to = λ x place xl pl h. elim (cases_eq x slot) [
    | inl e ↦ absurd (subst (λ (z : ℕ). z < length ws → place < length (listed (at_slot ws z).c) → (at_slot ws z).watches place ≡ true → ⊥) (sym e) (λ sl. old sl place) xl pl h)
    | inr d ↦ (
        let xn : x < length new = omega (arith, xl, c.long) in
        let same = (c.others x xn d).1 in
        (xn, subst (λ (z : Watching). place < length (listed z.c)) (sym same) pl, ap (λ (z : Watching). z.watches place) same ∙ h, ap (λ (z : Watching). lit_at (listed z.c) place) same))
  ];
  back = λ x place xl pl h. elim (cases_eq x slot) [
    | inl e ↦ absurd (bare place (subst (λ (z : Watching). place < length (listed z.c)) (ap (at_slot new) e ∙ c.here) pl) (ap (λ (z : Watching). z.watches place) (sym (ap (at_slot new) e ∙ c.here)) ∙ h))
    | inr d ↦ (
        let o = c.others x xl d in
        (o.0, subst (λ (z : Watching). place < length (listed z.c)) o.1 pl, ap (λ (z : Watching). z.watches place) (sym o.1) ∙ h))
  ];
}

-- the changed slot watches nothing yet
pub changes_cut : (ws : List Watching) (slot : ℕ) (w : Watching) → slot < length ws → Changes ws (cut (slice_set ws slot w) slot 0) slot (cut_of w 0)
changes_cut ws slot w lt =
    let new = slice_set ws slot w in
    let c = changes_set ws slot w lt in
    let long : length (cut new slot 0) ≡ length ws = length-cut new slot 0 ∙ length-set ws slot w in
    record {
      long = omega (arith, long);
      inside = omega (arith, lt, long);
      here = at_cut new slot 0 c.inside ∙ ap (λ (z : Watching). cut_of z 0) c.here;
      others = λ x xl d. (let xn : x < length new = omega (arith, xl, length-cut new slot 0) in let o = c.others x xn d in (o.0, off_cut new slot 0 x d ∙ o.1));
    }

-- the changed slot watched nothing any more
pub changes_bare : (ws : List Watching) (slot : ℕ) (w : Watching) → slot < length ws → Changes (cut ws slot 0) (slice_set ws slot w) slot w
changes_bare ws slot w lt =
    let c = changes_set ws slot w lt in
    record {
      long = omega (arith, length-cut ws slot 0, length-set ws slot w);
      inside = c.inside;
      here = c.here;
      others = λ x xl d. (let o = c.others x xl d in (omega (arith, o.0, length-cut ws slot 0), o.1 ∙ sym (off_cut ws slot 0 x d)));
    }
