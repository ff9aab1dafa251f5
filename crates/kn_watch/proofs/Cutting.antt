-- Cutting a trail at a level.
use Rattle.std.proofs.Common.{◌≡◌, ℕ, zero, suc, ◌+◌, ◌≤◌, ◌<◌, ◌++◌, Bool, true, false, cond, eqb, ltb, List, [], ◌∷◌, length, take, drop, refl, sym, ap, ◌∙◌, subst, arith, take-append-drop}
use Rattle.std.specs.Prelude.{slice_index_or}
use Rattle.std.specs.List.{AllByRecursion}
use Rattle.std.proofs.lemmas.Bool.{or_parts, or_from, cond-true, cond-false, lt-ltb, le-ltb, ltb-true}
use Rattle.kn_logic.specs.Literals.{AreKnown, AreDifferent, names}
use Rattle.kn_watch.specs.declared.trail.Made.{Made}
use Rattle.kn_watch.specs.Trails.{Trailed, literals, below, IsRising, IsTrail, IsFront}
use Rattle.kn_watch.proofs.Growing.{IsTop, below_top}

none_up : (level k : ℕ) (made : List Made) → level < k → AllByRecursion (λ n. k ≤ n.level) made → below (level + 1) made ≡ []
none_up level k [] lt a = refl
none_up level k (m ∷ made) lt a = cond-false (ltb m.level (level + 1)) (m ∷ below (level + 1) made) (below (level + 1) made) (le-ltb _ _ (omega (arith, lt, a.0))) ∙ none_up level k made lt a.1

-- up to a place all are on the level or below, and there one is above
pub cut_at : (top level : ℕ) (made : List Made) (place : ℕ) (m : Made) → IsRising top made → IsTop level (take place made) → place < length made → m ≡ slice_index_or made place m → level < m.level → take place made ≡ below (level + 1) made
cut_at top level [] place m r t lt e up = absurd (omega (arith, lt))
cut_at top level (x ∷ made) zero m r t lt e up =
    let high : level < x.level = subst (λ (z : Made). level < z.level) e up in
    sym (cond-false (ltb x.level (level + 1)) (x ∷ below (level + 1) made) (below (level + 1) made) (le-ltb _ _ (omega (arith, high))) ∙ none_up level x.level made high r.1)
cut_at top level (x ∷ made) (suc place) m r t lt e up =
    ap (λ (z : List Made). x ∷ z) (cut_at top level made place m r.2 t.1 (omega (arith, lt)) e up)
    ∙ sym (cond-true (ltb x.level (level + 1)) (x ∷ below (level + 1) made) (below (level + 1) made) (lt-ltb _ _ (omega (arith, t.0))))

take_all : (made : List Made) → take (length made) made ≡ made
take_all [] = refl
take_all (m ∷ made) = ap (λ (z : List Made). m ∷ z) (take_all made)

pub cut_none : (level : ℕ) (made : List Made) → IsTop level (take (length made) made) → take (length made) made ≡ below (level + 1) made
cut_none level made t = let all = take_all made in all ∙ sym (below_top level made (subst (IsTop level) all t))

pub top_step : (level : ℕ) (made : List Made) (place : ℕ) (m : Made) → IsTop level (take place made) → place < length made → m ≡ slice_index_or made place m → m.level ≤ level → IsTop level (take (suc place) made)
top_step level [] place m t lt e le = absurd (omega (arith, lt))
top_step level (x ∷ made) zero m t lt e le = (subst (λ (z : Made). z.level ≤ level) e le, tt)
top_step level (x ∷ made) (suc place) m t lt e le = (t.0, top_step level made place m t.1 (omega (arith, lt)) e le)

front_known : (vars : ℕ) (made : List Made) (n : ℕ) → AreKnown vars (literals made) → AreKnown vars (literals (take n made))
front_known vars [] zero k = tt
front_known vars [] (suc n) k = tt
front_known vars (m ∷ made) zero k = tt
front_known vars (m ∷ made) (suc n) k = (k.0, front_known vars made n k.1)

front_unnamed : (made : List Made) (n v : ℕ) → names (literals made) v ≡ false → names (literals (take n made)) v ≡ false
front_unnamed [] zero v h = refl
front_unnamed [] (suc n) v h = refl
front_unnamed (m ∷ made) zero v h = refl
front_unnamed (m ∷ made) (suc n) v h = let p = or_parts (eqb m.lit.variable v) (names (literals made) v) h in or_from _ _ p.0 (front_unnamed made n v p.1)

pub front_different : (made : List Made) (n : ℕ) → AreDifferent (literals made) → AreDifferent (literals (take n made))
front_different [] zero d = tt
front_different [] (suc n) d = tt
front_different (m ∷ made) zero d = tt
front_different (m ∷ made) (suc n) d = (front_unnamed made n m.lit.variable d.0, front_different made n d.1)

front_after : (k : ℕ) (made : List Made) (n : ℕ) → AllByRecursion (λ x. k ≤ x.level) made → AllByRecursion (λ x. k ≤ x.level) (take n made)
front_after k [] zero a = tt
front_after k [] (suc n) a = tt
front_after k (m ∷ made) zero a = tt
front_after k (m ∷ made) (suc n) a = (a.0, front_after k made n a.1)

front_rising : (top level : ℕ) (made : List Made) (n : ℕ) → IsRising top made → IsTop level (take n made) → IsRising level (take n made)
front_rising top level [] zero r t = tt
front_rising top level [] (suc n) r t = tt
front_rising top level (m ∷ made) zero r t = tt
front_rising top level (m ∷ made) (suc n) r t = (t.0, front_after m.level made n r.1, front_rising top level made n r.2 t.1)

top_cond : (level : ℕ) (m : Made) (made : List Made) (t : Bool) → ltb m.level (level + 1) ≡ t → IsTop level made → IsTop level (cond t (m ∷ made) made)
top_cond level m made true e h = (omega (arith, ltb-true _ _ e), h)
top_cond level m made false e h = h

pub top_below : (level : ℕ) (made : List Made) → IsTop level (below (level + 1) made)
top_below level [] = tt
top_below level (m ∷ made) = top_cond level m (below (level + 1) made) (ltb m.level (level + 1)) refl (top_below level made)

pub cut_trail : (t : Trailed) (level n : ℕ) → IsTrail t → take n t.made ≡ below (level + 1) t.made → IsTrail (record t { level = level; made = take n t.made })
cut_trail t level n k e = record {
  known = front_known t.vars t.made n k.known;
  different = front_different t.made n k.different;
  rising = front_rising t.level level t.made n k.rising (subst (IsTop level) (sym e) (top_below level t.made));
}

pub cut_front : (made new : List Made) (n : ℕ) → new ≡ take n made → IsFront new made
cut_front made new n e = (drop n made, sym (take-append-drop n made) ∙ ap (λ (z : List Made). z ++ drop n made) (sym e))
