-- What an operation on two nodes does, step by step.
use Rattle.std.proofs.Common.{ℕ, ◌≡◌, ◌+◌, ◌<◌, ◌≤◌, ◌==◌, ◌⊎◌, inl, inr, min, Bool, true, false, ◌&&◌, ◌||◌, if◌then◌else◌, List, [], ◌∷◌, ◌++◌, slice_index, Option, Some, None, refl, sym, ap, subst, ◌∙◌, arith, append_assoc, true≢false}
use Rattle.std.specs.Option.{is_some}
use Rattle.std.proofs.lemmas.List.{append-nil}
use Rattle.std.proofs.lemmas.Bool.{eqb-true, eq-eqb, eqb-false, cond-true, cond-false, and_parts, or_cases, or_parts, cases_eq}
use Rattle.kn_diagram.specs.declared.trace.Met.{Met}
use Rattle.kn_diagram.specs.declared.joint.Joint.{Joint}
use Rattle.kn_diagram.specs.declared.joint.Joint.TheVariants.{And, Or}
use Rattle.kn_diagram.specs.Diagrams.{Table, IsNode, function_of, depth_of, high_at, low_at, IsKept, Keeps, IsSplit, IsMade}
use Rattle.kn_diagram.specs.Traces.{found, has_pair, connective, absorbing, neutral, decided, IsRight, IsExplained, AreExplained, Gains, Explains}
use Rattle.kn_diagram.proofs.NodeLemmas.{Keeps-along, function_of-constant}

-- Entries stay right and explained while nodes come.
pub IsRight-kept : (join : Bool → Bool → Bool) (old new : Table) (m : Met) → Keeps old new → IsRight join old m → IsRight join new m
IsRight-kept join old new m k r =
    let u = k.nodes m.u r.u_there in
    let v = k.nodes m.v r.v_there in
    let w = k.nodes m.w r.w_there in
    record {
      u_there = u.there;
      v_there = v.there;
      w_there = w.there;
      depth_is = omega (arith, u.depth, v.depth, w.depth, r.depth_is);
      function = λ t. w.function t ∙ r.function t ∙ (λ i. join (sym (u.function t) i) (sym (v.function t) i));
    }

high_at-kept : (old new : Table) (depth node : ℕ) → Keeps old new → IsNode old node → high_at new depth node ≡ high_at old depth node
high_at-kept old new depth node k h = let p = k.nodes node h in λ i. if p.depth i == depth then p.high i else node

low_at-kept : (old new : Table) (depth node : ℕ) → Keeps old new → IsNode old node → low_at new depth node ≡ low_at old depth node
low_at-kept old new depth node k h = let p = k.nodes node h in λ i. if p.depth i == depth then p.low i else node

pub IsExplained-kept : (join : Bool → Bool → Bool) (old new : Table) (before : List Met) (m : Met) → Keeps old new → IsExplained join old before m → IsExplained join new before m
IsExplained-kept join old new before m k e =
    let u = k.nodes m.u e.right.u_there in
    let v = k.nodes m.v e.right.v_there in
    let depth : min (depth_of new m.u) (depth_of new m.v) ≡ min (depth_of old m.u) (depth_of old m.v) = λ i. min (u.depth i) (v.depth i) in
    record {
      right = IsRight-kept join old new m k e.right;
      highs = λ a b c. (λ i. has_pair before (high_at new (depth i) m.u) (high_at new (depth i) m.v))
          ∙ (λ i. has_pair before (high_at-kept old new (min (depth_of old m.u) (depth_of old m.v)) m.u k e.right.u_there i) (high_at-kept old new (min (depth_of old m.u) (depth_of old m.v)) m.v k e.right.v_there i))
          ∙ e.highs a b c;
      lows = λ a b c. (λ i. has_pair before (low_at new (depth i) m.u) (low_at new (depth i) m.v))
          ∙ (λ i. has_pair before (low_at-kept old new (min (depth_of old m.u) (depth_of old m.v)) m.u k e.right.u_there i) (low_at-kept old new (min (depth_of old m.u) (depth_of old m.v)) m.v k e.right.v_there i))
          ∙ e.lows a b c;
    }

pub AreExplained-kept : (join : Bool → Bool → Bool) (old new : Table) (before ms : List Met) → Keeps old new → AreExplained join old before ms → AreExplained join new before ms
AreExplained-kept join old new before [] k h = tt
AreExplained-kept join old new before (m ∷ ms) k h = (IsExplained-kept join old new before m k h.0, AreExplained-kept join old new (before ++ m ∷ []) ms k h.1)

pub AreExplained-more : (join : Bool → Bool → Bool) (d : Table) (before ms : List Met) (m : Met) → AreExplained join d before ms → IsExplained join d (before ++ ms) m
    → AreExplained join d before (ms ++ m ∷ [])
AreExplained-more join d before [] m h e = (subst (λ b. IsExplained join d b m) (append-nil before) e, tt)
AreExplained-more join d before (x ∷ ms) m h e =
    (h.0, AreExplained-more join d (before ++ x ∷ []) ms m h.1 (subst (λ b. IsExplained join d b m) (sym (append_assoc before (x ∷ []) ms)) e))

-- the entry that is found is right
pub found-right : (join : Bool → Bool → Bool) (d : Table) (before ms : List Met) (u v w : ℕ) → AreExplained join d before ms → found ms u v ≡ Some w
    → IsRight join d (record { u = u; v = v; w = w })
found-right join d before [] u v w h e = absurd (cc)
found-right join d before (m ∷ ms) u v w h e = by ((u == m.u) && (v == m.v)) refl (found-right join d (before ++ m ∷ []) ms u v w h.1)
  where
    by : (b : Bool) → ((u == m.u) && (v == m.v)) ≡ b → (found ms u v ≡ Some w → IsRight join d (record { u = u; v = v; w = w }))
        → IsRight join d (record { u = u; v = v; w = w })
    by true t rest =
        let p = and_parts (u == m.u) (v == m.v) t in
        let some : Some m.w ≡ Some w = sym (cond-true ((u == m.u) && (v == m.v)) (Some m.w) (found ms u v) t) ∙ e in
        let same : m.w ≡ w = cc in
        let whole : m ≡ record { u = u; v = v; w = w } = λ i. record { u = sym (eqb-true u m.u p.0) i; v = sym (eqb-true v m.v p.1) i; w = same i } in
        subst (IsRight join d) whole h.0.right
    by false t rest = rest (sym (cond-false ((u == m.u) && (v == m.v)) (Some m.w) (found ms u v) t) ∙ e)

pub found-more : (ms : List Met) (m : Met) (u v : ℕ) → found ms u v ≡ None → found (ms ++ m ∷ []) u v ≡ found (m ∷ []) u v
found-more [] m u v h = refl
found-more (x ∷ ms) m u v h = by ((u == x.u) && (v == x.v)) refl (found-more ms m u v)
  where
    by : (b : Bool) → ((u == x.u) && (v == x.v)) ≡ b → (found ms u v ≡ None → found (ms ++ m ∷ []) u v ≡ found (m ∷ []) u v)
        → found (x ∷ ms ++ m ∷ []) u v ≡ found (m ∷ []) u v
    by true t rest = let some : Some x.w ≡ None = sym (cond-true ((u == x.u) && (v == x.v)) (Some x.w) (found ms u v) t) ∙ h in absurd (cc)
    by false t rest =
        cond-false ((u == x.u) && (v == x.v)) (Some x.w) (found (ms ++ m ∷ []) u v) t
        ∙ rest (sym (cond-false ((u == x.u) && (v == x.v)) (Some x.w) (found ms u v) t) ∙ h)

pub has_pair-more : (ms : List Met) (m : Met) (u v : ℕ) → has_pair ms u v ≡ true → has_pair (ms ++ m ∷ []) u v ≡ true
has_pair-more [] m u v h = absurd (true≢false (sym h))
has_pair-more (x ∷ ms) m u v h = by ((u == x.u) && (v == x.v)) refl (has_pair-more ms m u v)
  where
    by : (b : Bool) → ((u == x.u) && (v == x.v)) ≡ b → (has_pair ms u v ≡ true → has_pair (ms ++ m ∷ []) u v ≡ true)
        → has_pair (x ∷ ms ++ m ∷ []) u v ≡ true
    by true t rest = ap is_some (cond-true ((u == x.u) && (v == x.v)) (Some x.w) (found (ms ++ m ∷ []) u v) t)
    by false t rest =
        ap is_some (cond-false ((u == x.u) && (v == x.v)) (Some x.w) (found (ms ++ m ∷ []) u v) t)
        ∙ rest (sym (ap is_some (cond-false ((u == x.u) && (v == x.v)) (Some x.w) (found ms u v) t)) ∙ h)

-- the result that is found is found among more entries
pub found-front : (ms more : List Met) (u v w : ℕ) → found ms u v ≡ Some w → found (ms ++ more) u v ≡ Some w
found-front [] more u v w h = let e : None ≡ Some w = h in absurd (cc)
found-front (x ∷ ms) more u v w h = by ((u == x.u) && (v == x.v)) refl (found-front ms more u v w)
  where
    by : (b : Bool) → ((u == x.u) && (v == x.v)) ≡ b → (found ms u v ≡ Some w → found (ms ++ more) u v ≡ Some w) → found (x ∷ ms ++ more) u v ≡ Some w
    by true t rest =
        cond-true ((u == x.u) && (v == x.v)) (Some x.w) (found (ms ++ more) u v) t
        ∙ sym (cond-true ((u == x.u) && (v == x.v)) (Some x.w) (found ms u v) t) ∙ h
    by false t rest =
        cond-false ((u == x.u) && (v == x.v)) (Some x.w) (found (ms ++ more) u v) t
        ∙ rest (sym (cond-false ((u == x.u) && (v == x.v)) (Some x.w) (found ms u v) t) ∙ h)

pub found-other : (f g w p q : ℕ) → f + g < p + q → found (record { u = f; v = g; w = w } ∷ []) p q ≡ None
found-other f g w p q h = by ((p == f) && (q == g)) refl
  where
    by : (b : Bool) → ((p == f) && (q == g)) ≡ b → found (record { u = f; v = g; w = w } ∷ []) p q ≡ None
    by true t =
        let s = and_parts (p == f) (q == g) t in
        let a = eqb-true p f s.0 in
        let b = eqb-true q g s.1 in
        absurd (omega (arith, a, b))
    by false t = cond-false ((p == f) && (q == g)) (Some w) None t

pub found-own : (f g w : ℕ) → found (record { u = f; v = g; w = w } ∷ []) f g ≡ Some w
found-own f g w = cond-true ((f == f) && (g == g)) (Some w) None (ap (λ b. b && (g == g)) (eq-eqb f f refl) ∙ eq-eqb g g refl)

-- a pair that was met before
pub Gains-known : (join : Bool → Bool → Bool) (d : Table) (ms : List Met) (f g w : ℕ) → AreExplained join d [] ms → found ms f g ≡ Some w → Gains join d ms ms f g w
Gains-known join d ms f g w h e = record {
  right = found-right join d [] ms f g w h e;
  explained = h;
  noted = e;
  kept = λ p q a. a;
  same = λ p q x a. a;
  absent = λ p q a b. b;
  last = λ n. let some : Some w ≡ None = sym e ∙ n in absurd (cc);
}

-- a pair whose result has just been noted
Gains-noted : (join : Bool → Bool → Bool) (d : Table) (before ms : List Met) (f g w : ℕ) → AreExplained join d [] ms
    → IsExplained join d ms (record { u = f; v = g; w = w }) → found ms f g ≡ None
    → ((p q : ℕ) → has_pair before p q ≡ true → has_pair ms p q ≡ true)
    → ((p q x : ℕ) → found before p q ≡ Some x → found ms p q ≡ Some x)
    → ((p q : ℕ) → f + g < p + q → found before p q ≡ None → found ms p q ≡ None)
    → Gains join d before (ms ++ record { u = f; v = g; w = w } ∷ []) f g w
Gains-noted join d before ms f g w h e n kept same absent = record {
  right = e.right;
  explained = AreExplained-more join d [] ms (record { u = f; v = g; w = w }) h e;
  noted = found-more ms (record { u = f; v = g; w = w }) f g n ∙ found-own f g w;
  kept = λ p q a. has_pair-more ms (record { u = f; v = g; w = w }) p q (kept p q a);
  same = λ p q x a. found-front ms (record { u = f; v = g; w = w } ∷ []) p q x (same p q x a);
  absent = λ p q a b. found-more ms (record { u = f; v = g; w = w }) p q (absent p q a b) ∙ found-other f g w p q a;
  last = λ z. (ms, refl);
}

if-join : (join : Bool → Bool → Bool) (b a c x y : Bool) → (if b then join a x else join c y) ≡ join (if b then a else c) (if b then x else y)
if-join join true a c x y = refl
if-join join false a c x y = refl

-- a pair that is open, once both pairs of halves have their results
pub Gains-open : (join : Bool → Bool → Bool) (d0 d1 d2 d3 : Table) (m0 m1 m2 : List Met) (f g depth fh fl gh gl h l w : ℕ)
    → depth ≡ min (depth_of d0 f) (depth_of d0 g) → IsNode d0 f → IsNode d0 g → IsSplit d0 f depth fh fl → IsSplit d0 g depth gh gl
    → Keeps d0 d1 → Gains join d1 m0 m1 fh gh h → Keeps d1 d2 → Gains join d2 m1 m2 fl gl l → Keeps d2 d3 → IsMade d2 d3 depth h l w
    → found m0 f g ≡ None → Gains join d3 m0 (m2 ++ record { u = f; v = g; w = w } ∷ []) f g w
Gains-open join d0 d1 d2 d3 m0 m1 m2 f g depth fh fl gh gl h l w at nf ng sf sg k1 g1 k2 g2 k3 made fresh =
    Gains-noted join d3 m0 m2 f g w (AreExplained-kept join d2 d3 [] m2 k3 g2.explained)
    (record {
      right = record {
        u_there = ff.there;
        v_there = gg.there;
        w_there = made.there;
        depth_is = omega (arith, ff.depth, gg.depth, at, made.depth_is);
        function = means;
      };
      highs = λ a b c. (λ i. has_pair m2 (high_at d3 (same i) f) (high_at d3 (same i) g))
          ∙ (λ i. has_pair m2 (high_at-kept d0 d3 depth f k03 nf i) (high_at-kept d0 d3 depth g k03 ng i))
          ∙ (λ i. has_pair m2 (sym sf.high_is i) (sym sg.high_is i)) ∙ g2.kept fh gh (ap is_some g1.noted);
      lows = λ a b c. (λ i. has_pair m2 (low_at d3 (same i) f) (low_at d3 (same i) g))
          ∙ (λ i. has_pair m2 (low_at-kept d0 d3 depth f k03 nf i) (low_at-kept d0 d3 depth g k03 ng i))
          ∙ (λ i. has_pair m2 (sym sf.low_is i) (sym sg.low_is i)) ∙ ap is_some g2.noted;
    })
    (g2.absent f g less_low (g1.absent f g less_high fresh))
    (λ p q a. g2.kept p q (g1.kept p q a))
    (λ p q x a. g2.same p q x (g1.same p q x a))
    (λ p q a b. g2.absent p q (omega (arith, less_low, a)) (g1.absent p q (omega (arith, less_high, a)) b))
  where
    k02 : Keeps d0 d2
    k02 = Keeps-along d0 d1 d2 k1 k2

    k03 : Keeps d0 d3
    k03 = Keeps-along d0 d2 d3 k02 k3

    ff : IsKept d0 d3 f
    ff = k03.nodes f nf

    gg : IsKept d0 d3 g
    gg = k03.nodes g ng

    same : min (depth_of d3 f) (depth_of d3 g) ≡ depth
    same = (λ i. min (ff.depth i) (gg.depth i)) ∙ sym at

    which : (depth_of d0 f ≡ depth) ⊎ (depth_of d0 g ≡ depth)
    which = cases (cases_eq (depth_of d0 f) depth)
      where
        cases : ((depth_of d0 f ≡ depth) ⊎ (depth_of d0 f ≡ depth → ⊥)) → (depth_of d0 f ≡ depth) ⊎ (depth_of d0 g ≡ depth)
        cases (inl e) = inl e
        cases (inr n) = inr (omega arith)

    less_high : fh + gh < f + g
    less_high = of which
      where
        of : ((depth_of d0 f ≡ depth) ⊎ (depth_of d0 g ≡ depth)) → fh + gh < f + g
        of (inl e) = omega (arith, (sf.older e).0, sg.high_older)
        of (inr e) = omega (arith, (sg.older e).0, sf.high_older)

    less_low : fl + gl < f + g
    less_low = of which
      where
        of : ((depth_of d0 f ≡ depth) ⊎ (depth_of d0 g ≡ depth)) → fl + gl < f + g
        of (inl e) = omega (arith, (sf.older e).1, sg.low_older)
        of (inr e) = omega (arith, (sg.older e).1, sf.low_older)

    means : (v : ℕ → Bool) → function_of d3 w v ≡ join (function_of d3 f v) (function_of d3 g v)
    means v =
        let x = slice_index d0.order depth in
        let high : function_of d2 h v ≡ join (function_of d0 fh v) (function_of d0 gh v) =
        (k2.nodes h g1.right.w_there).function v ∙ g1.right.function v
        ∙ (λ i. join ((k1.nodes fh sf.high_there).function v i) ((k1.nodes gh sg.high_there).function v i)) in
        let low : function_of d2 l v ≡ join (function_of d0 fl v) (function_of d0 gl v) =
        g2.right.function v
        ∙ (λ i. join ((k02.nodes fl sf.low_there).function v i) ((k02.nodes gl sg.low_there).function v i)) in
        made.function v
        ∙ (λ i. if v (slice_index (k02.order i) depth) then high i else low i)
        ∙ if-join join (v x) (function_of d0 fh v) (function_of d0 fl v) (function_of d0 gh v) (function_of d0 gl v)
        ∙ (λ i. join (sym (sf.function v) i) (sym (sg.function v) i))
        ∙ (λ i. join (sym (ff.function v) i) (sym (gg.function v) i))

some-if : (b : Bool) (x w : ℕ) (rest : Option ℕ) → (if b then Some x else rest) ≡ Some w → ((b ≡ true) × (x ≡ w)) ⊎ ((b ≡ false) × (rest ≡ Some w))
some-if true x w rest e = let h : Some x ≡ Some w = e in inl (refl, cc)
some-if false x w rest e = inr (refl, e)

none-if : (b : Bool) (x : ℕ) (rest : Option ℕ) → (if b then Some x else rest) ≡ None → (b ≡ false) × (rest ≡ None)
none-if true x rest e = let h : Some x ≡ None = e in absurd (cc)
none-if false x rest e = (refl, e)

-- a connective with a constant, or with one value twice
one-side : (joint : Joint) (a b : Bool) → (a ≡ b) ⊎ ((a ≡ (absorbing joint == 1)) ⊎ (b ≡ (neutral joint == 1))) → connective joint a b ≡ a
one-side And true b (inl e) = sym e
one-side And false b h = refl
one-side And true b (inr (inl e)) = absurd (true≢false e)
one-side And true b (inr (inr e)) = e
one-side Or true b h = refl
one-side Or false b (inl e) = sym e
one-side Or false b (inr (inl e)) = absurd (true≢false (sym e))
one-side Or false b (inr (inr e)) = e

other-side : (joint : Joint) (a b : Bool) → (a ≡ (neutral joint == 1)) ⊎ (b ≡ (absorbing joint == 1)) → connective joint a b ≡ b
other-side And true b h = refl
other-side And false b (inl e) = absurd (true≢false (sym e))
other-side And false b (inr e) = sym e
other-side Or false b h = refl
other-side Or true b (inl e) = absurd (true≢false e)
other-side Or true b (inr e) = sym e

constant : (joint : Joint) → (absorbing joint < 2) × (neutral joint < 2)
constant And = (omega arith, omega arith)
constant Or = (omega arith, omega arith)

-- what is decided is right, and not open
pub decided-explained : (joint : Joint) (d : Table) (before : List Met) (f g w : ℕ) → IsNode d f → IsNode d g → decided joint f g ≡ Some w
    → IsExplained (connective joint) d before (record { u = f; v = g; w = w })
decided-explained joint d before f g w nf ng e =
    by (some-if ((f == g) || (f == absorbing joint) || (g == neutral joint)) f w (if (f == neutral joint) || (g == absorbing joint) then Some g else None) e)
  where
    value : (node at : ℕ) (v : ℕ → Bool) → at < 2 → (node == at) ≡ true → function_of d node v ≡ (at == 1)
    value node at v low t = ap (λ n. function_of d n v) (eqb-true node at t) ∙ function_of-constant d at v low

    closed : (f ≡ g) ⊎ ((f < 2) ⊎ (g < 2)) → (w ≡ f) ⊎ (w ≡ g) → ((v : ℕ → Bool) → function_of d w v ≡ connective joint (function_of d f v) (function_of d g v))
        → IsExplained (connective joint) d before (record { u = f; v = g; w = w })
    closed why which means = record {
      right = record {
        u_there = nf;
        v_there = ng;
        w_there = there which;
        depth_is = deep which;
        function = means;
      };
      highs = λ a b c. absurd (never why a b c);
      lows = λ a b c. absurd (never why a b c);
    }
      where
        never : (f ≡ g) ⊎ ((f < 2) ⊎ (g < 2)) → (f ≡ g → ⊥) → 2 ≤ f → 2 ≤ g → ⊥
        never (inl x) a b c = a x
        never (inr (inl x)) a b c = omega arith
        never (inr (inr x)) a b c = omega arith

        there : (w ≡ f) ⊎ (w ≡ g) → IsNode d w
        there (inl x) = omega (arith, nf)
        there (inr x) = omega (arith, ng)

        deep : (w ≡ f) ⊎ (w ≡ g) → min (depth_of d f) (depth_of d g) ≤ depth_of d w
        deep (inl x) = let y = ap (depth_of d) x in omega arith
        deep (inr x) = let y = ap (depth_of d) x in omega arith

    by : ((((f == g) || (f == absorbing joint) || (g == neutral joint)) ≡ true) × (f ≡ w))
        ⊎ ((((f == g) || (f == absorbing joint) || (g == neutral joint)) ≡ false) × ((if (f == neutral joint) || (g == absorbing joint) then Some g else None) ≡ Some w))
        → IsExplained (connective joint) d before (record { u = f; v = g; w = w })
    by (inl (t, x)) = first (or_cases ((f == g) || (f == absorbing joint)) (g == neutral joint) t)
      where
        means : ((v : ℕ → Bool) → (function_of d f v ≡ function_of d g v) ⊎ ((function_of d f v ≡ (absorbing joint == 1)) ⊎ (function_of d g v ≡ (neutral joint == 1))))
            → (v : ℕ → Bool) → function_of d w v ≡ connective joint (function_of d f v) (function_of d g v)
        means h v = ap (λ n. function_of d n v) (sym x) ∙ sym (one-side joint (function_of d f v) (function_of d g v) (h v))

        second : ((f == g) ≡ true) ⊎ ((f == absorbing joint) ≡ true) → IsExplained (connective joint) d before (record { u = f; v = g; w = w })
        second (inl s) = closed (inl (eqb-true f g s)) (inl (sym x)) (means (λ v. inl (ap (λ n. function_of d n v) (eqb-true f g s))))
        second (inr s) = let q = eqb-true f (absorbing joint) s in
            closed (inr (inl (omega (arith, q, (constant joint).0)))) (inl (sym x)) (means (λ v. inr (inl (value f (absorbing joint) v (constant joint).0 s))))

        first : (((f == g) || (f == absorbing joint)) ≡ true) ⊎ ((g == neutral joint) ≡ true) → IsExplained (connective joint) d before (record { u = f; v = g; w = w })
        first (inl s) = second (or_cases (f == g) (f == absorbing joint) s)
        first (inr s) = let q = eqb-true g (neutral joint) s in
            closed (inr (inr (omega (arith, q, (constant joint).1)))) (inl (sym x)) (means (λ v. inr (inr (value g (neutral joint) v (constant joint).1 s))))
    by (inr (t, y)) = third (some-if ((f == neutral joint) || (g == absorbing joint)) g w None y)
      where
        means : g ≡ w → ((v : ℕ → Bool) → (function_of d f v ≡ (neutral joint == 1)) ⊎ (function_of d g v ≡ (absorbing joint == 1)))
            → (v : ℕ → Bool) → function_of d w v ≡ connective joint (function_of d f v) (function_of d g v)
        means x h v = ap (λ n. function_of d n v) (sym x) ∙ sym (other-side joint (function_of d f v) (function_of d g v) (h v))

        fourth : g ≡ w → ((f == neutral joint) ≡ true) ⊎ ((g == absorbing joint) ≡ true) → IsExplained (connective joint) d before (record { u = f; v = g; w = w })
        fourth x (inl s) = let q = eqb-true f (neutral joint) s in
            closed (inr (inl (omega (arith, q, (constant joint).1)))) (inr (sym x)) (means x (λ v. inl (value f (neutral joint) v (constant joint).1 s)))
        fourth x (inr s) = let q = eqb-true g (absorbing joint) s in
            closed (inr (inr (omega (arith, q, (constant joint).0)))) (inr (sym x)) (means x (λ v. inr (value g (absorbing joint) v (constant joint).0 s)))

        third : ((((f == neutral joint) || (g == absorbing joint)) ≡ true) × (g ≡ w)) ⊎ ((((f == neutral joint) || (g == absorbing joint)) ≡ false) × (None ≡ Some w))
            → IsExplained (connective joint) d before (record { u = f; v = g; w = w })
        third (inl (s, x)) = fourth x (or_cases (f == neutral joint) (g == absorbing joint) s)
        third (inr (s, x)) = absurd (cc)

-- what is not decided is open
pub decided-none : (joint : Joint) (f g : ℕ) → decided joint f g ≡ None → (2 ≤ f) × (2 ≤ g)
decided-none joint f g e =
    let a = none-if ((f == g) || (f == absorbing joint) || (g == neutral joint)) f (if (f == neutral joint) || (g == absorbing joint) then Some g else None) e in
    let b = none-if ((f == neutral joint) || (g == absorbing joint)) g None a.1 in
    let p = or_parts ((f == g) || (f == absorbing joint)) (g == neutral joint) a.0 in
    let q = or_parts (f == g) (f == absorbing joint) p.0 in
    let r = or_parts (f == neutral joint) (g == absorbing joint) b.0 in
    apart joint (eqb-false f (absorbing joint) q.1) (eqb-false f (neutral joint) r.0) (eqb-false g (absorbing joint) r.1) (eqb-false g (neutral joint) p.1)
  where
    apart : (j : Joint) → (f ≡ absorbing j → ⊥) → (f ≡ neutral j → ⊥) → (g ≡ absorbing j → ⊥) → (g ≡ neutral j → ⊥) → (2 ≤ f) × (2 ≤ g)
    apart And a b c k = (omega arith, omega arith)
    apart Or a b c k = (omega arith, omega arith)

pub Gains-decided : (joint : Joint) (d : Table) (ms : List Met) (f g w : ℕ) → IsNode d f → IsNode d g → AreExplained (connective joint) d [] ms → found ms f g ≡ None
    → decided joint f g ≡ Some w → Gains (connective joint) d ms (ms ++ record { u = f; v = g; w = w } ∷ []) f g w
Gains-decided joint d ms f g w nf ng h n e =
    Gains-noted (connective joint) d ms ms f g w h (decided-explained joint d ms f g w nf ng e) n (λ p q a. a) (λ p q x a. a) (λ p q a b. b)

-- the entries of a call that began with none explain their last
pub Explains-gained : (join : Bool → Bool → Bool) (d : Table) (after old new : List Met) (f g w : ℕ) → Gains join d [] after f g w → new ≡ old ++ after
    → Explains join d old new (record { u = f; v = g; w = w })
Explains-gained join d after old new f g w gain e =
    let last = gain.last refl in
    record {
      earlier = last.0;
      grown = e ∙ ap (λ x. old ++ x) last.1;
      explained = subst (AreExplained join d []) last.1 gain.explained;
    }
