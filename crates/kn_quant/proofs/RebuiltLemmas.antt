-- The values that the buckets of a run give make its pieces true.
use Rattle.std.proofs.Common.{ℕ, ◌≡◌, ◌==◌, Bool, true, false, ◌||◌, List, [], ◌∷◌, ◌++◌, sym, ap, subst, ◌∙◌, true≢false, refl}
use Rattle.std.proofs.lemmas.Bool.{eq-eqb, ne_eqb, cond-false, or_parts}
use Rattle.kn_logic.specs.Groups.{is_among}
use Rattle.kn_diagram.specs.Diagrams.{with_value}
use Rattle.kn_quant.specs.Quantified.{some_value}
use Rattle.kn_quant.specs.Runs.{Function, Step, whole, Splits, Empties, Runs, AgreeBut}
use Rattle.kn_quant.specs.Rebuilt.{rebuilt}
use Rattle.kn_quant.proofs.MeaningLemmas.{AreTrue, whole-down, all-whole-down, are-true-parts, splits-join, rest-ignores, moved}

-- the value by the rule keeps a function true that some value makes true
chosen : (f : Function) (y : ℕ) (w : ℕ → Bool) → some_value y f w ≡ true → f (with_value w y (f (with_value w y true))) ≡ true
chosen f y w h = by (f (with_value w y true)) refl
  where
    by : (b : Bool) → f (with_value w y true) ≡ b → f (with_value w y (f (with_value w y true))) ≡ true
    by true e = ap (λ v. f (with_value w y v)) e ∙ e
    by false e = ap (λ v. f (with_value w y v)) e ∙ (ap (λ v. v || f (with_value w y false)) (sym e) ∙ h)

turn-back : (y : ℕ) (ps bucket rest next : List Function) (here : List Step) (own later : List (ℕ × Function)) (w : ℕ → Bool)
    → Splits y ps bucket rest → Empties y ps bucket rest next here own → AreTrue next (rebuilt later w) → AreTrue ps (rebuilt (own ++ later) w)
turn-back y ps [] rest next here own later w s e h =
    subst (λ o. AreTrue ps (rebuilt (o ++ later) w)) (sym e.2) (subst (λ z. AreTrue z (rebuilt later w)) e.0 h)
turn-back y ps (b ∷ bs) rest next here own later w s e h =
    let u = rebuilt later w in
    let f = whole b bs in
    let p = are-true-parts rest (some_value y f ∷ []) u (subst (λ z. AreTrue z u) e.0 h) in
    let v = f (with_value u y true) in
    let t = whole-down b bs (with_value u y v) (chosen f y u p.1.0) in
    let r = moved y rest u v (rest-ignores y ps (b ∷ bs) rest s) p.0 in
    subst (λ o. AreTrue ps (rebuilt (o ++ later) w)) (sym e.2) (splits-join y ps (b ∷ bs) rest (with_value u y v) s t r)

pub rebuilt-hold : (ys : List ℕ) (ps : List Function) (s : List Step) (b : List (ℕ × Function)) (f : Function) (w : ℕ → Bool) → Runs ys ps s b f → f w ≡ true → AreTrue ps (rebuilt b w)
rebuilt-hold [] ps s b f w r h =
    subst (λ z. AreTrue ps (rebuilt z w)) (sym r.1) (all-whole-down ps w (sym (λ i. r.2 i w) ∙ h))
rebuilt-hold (y ∷ ys) ps s b f w (n, here, m, o, l, t, e, g, r) h =
    subst (λ z. AreTrue ps (rebuilt z w)) (sym g)
    (turn-back y ps t.bucket t.rest n here o l w t.split t.emptied (rebuilt-hold ys n m l f w r h))

turn-kept : (y x : ℕ) (ps bucket rest next : List Function) (here : List Step) (own later : List (ℕ × Function)) (w : ℕ → Bool)
    → Empties y ps bucket rest next here own → (y == x) ≡ false → rebuilt (own ++ later) w x ≡ rebuilt later w x
turn-kept y x ps [] rest next here own later w e n = λ i. rebuilt (e.2 i ++ later) w x
turn-kept y x ps (b ∷ bs) rest next here own later w e n =
    (λ i. rebuilt (e.2 i ++ later) w x)
    ∙ cond-false (x == y) (whole b bs (with_value (rebuilt later w) y true)) (rebuilt later w x) (ne_eqb x y (λ s. true≢false (sym (eq-eqb y x (sym s)) ∙ n)))

-- they change the variables that the run took, and no others
pub rebuilt-kept : (ys : List ℕ) (ps : List Function) (s : List Step) (b : List (ℕ × Function)) (f : Function) (w : ℕ → Bool) → Runs ys ps s b f → AgreeBut ys w (rebuilt b w)
rebuilt-kept [] ps s b f w r x h = λ i. rebuilt (r.1 i) w x
rebuilt-kept (y ∷ ys) ps s b f w (n, here, m, o, l, t, e, g, r) x h =
    let q = or_parts (y == x) (is_among ys x) h in
    (λ i. rebuilt (g i) w x) ∙ turn-kept y x ps t.bucket t.rest n here o l w t.emptied q.0 ∙ rebuilt-kept ys n m l f w r x q.1
