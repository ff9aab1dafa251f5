-- The functions of a run hang on the variables of its pieces alone. So a group of few variables has no wide
-- stage.
use Rattle.std.proofs.Common.{ℕ, ◌≡◌, ◌+◌, ◌<◌, ◌≤◌, ◌==◌, inl, inr, Bool, true, false, not, ◌&&◌, ◌||◌, if◌then◌else◌, List, [], ◌∷◌, ◌++◌, length, map, refl, sym, subst, arith, length-append}
use Rattle.std.specs.List.{list_any, AllByRecursion}
use Rattle.std.proofs.lemmas.List.{length-map, length-reverse}
use Rattle.kn_logic.specs.Literals.{Literal}
use Rattle.kn_logic.specs.Constraints.{Bounded}
use Rattle.kn_logic.specs.Groups.{Gathered, IsGroup}
use Rattle.kn_diagram.specs.Diagrams.{with_value, depth_in, is_true_by}
use Rattle.kn_diagram.specs.Wide.{HangsOn}
use Rattle.kn_diagram.proofs.Public.{few-narrow}
use Rattle.kn_quant.specs.Quantified.{some_value}
use Rattle.kn_quant.specs.Runs.{Function, Step, Quantify, given, both, joins, whole, all_joins, Splits, Empties, IsTurn, Begins, order_of, clause_function, IsFirstWide}
use Rattle.kn_quant.specs.Eliminations.{AreInOrder}
use Rattle.kn_quant.proofs.OrderLemmas.{all-in-order}

abbrev pub AllHang : List ℕ → List Function → Type 0
AllHang order ps = AllByRecursion (HangsOn order) ps

abbrev pub StepsHang : List ℕ → List Step → Type 0
StepsHang order steps = AllByRecursion (λ s. HangsOn order (given s)) steps

-- two assignments of values agree at the variables of an order
abbrev pub Agree : List ℕ → (ℕ → Bool) → (ℕ → Bool) → Type 0
Agree order v w = (x : ℕ) → depth_in order x < length order → v x ≡ w x

clause-hangs : (order : List ℕ) (c : Bounded) → AreInOrder order c → HangsOn order (clause_function c)
clause-hangs order c within v w agree = lits c.lits within
  where
    lits : (ls : List Literal) → AllByRecursion (λ l. depth_in order l.variable < length order) ls → list_any (is_true_by v) ls ≡ list_any (is_true_by w) ls
    lits [] h = refl
    lits (l ∷ ls) h = λ i. (if l.positive then agree l.variable h.0 i else not (agree l.variable h.0 i)) || lits ls h.1 i

clauses-hang : (order : List ℕ) (cs : List Bounded) → AllByRecursion (AreInOrder order) cs → AllHang order (map clause_function cs)
clauses-hang order [] h = tt
clauses-hang order (c ∷ cs) h = (clause-hangs order c h.0, clauses-hang order cs h.1)

both-hangs : (order : List ℕ) (p q : Function) → HangsOn order p → HangsOn order q → HangsOn order (both p q)
both-hangs order p q h k v w agree = λ i. h v w agree i && k v w agree i

with-agree : (order : List ℕ) (y : ℕ) (b : Bool) (v w : ℕ → Bool) → Agree order v w → Agree order (with_value v y b) (with_value w y b)
with-agree order y b v w agree x h = λ i. if x == y then b else agree x h i

some-hangs : (order : List ℕ) (y : ℕ) (p : Function) → HangsOn order p → HangsOn order (some_value y p)
some-hangs order y p h v w agree =
    λ i. h (with_value v y true) (with_value w y true) (with-agree order y true v w agree) i
    || h (with_value v y false) (with_value w y false) (with-agree order y false v w agree) i

whole-hangs : (order : List ℕ) (p : Function) (ps : List Function) → HangsOn order p → AllHang order ps → HangsOn order (whole p ps)
whole-hangs order p [] h hs = h
whole-hangs order p (q ∷ qs) h hs = whole-hangs order (both p q) qs (both-hangs order p q h hs.0) hs.1

joins-hang : (order : List ℕ) (p : Function) (ps : List Function) → HangsOn order p → AllHang order ps → StepsHang order (joins p ps)
joins-hang order p [] h hs = tt
joins-hang order p (q ∷ qs) h hs =
    let k = both-hangs order p q h hs.0 in (k, joins-hang order (both p q) qs k hs.1)

all-joins-hang : (order : List ℕ) (ps : List Function) → AllHang order ps → StepsHang order (all_joins ps)
all-joins-hang order [] hs = tt
all-joins-hang order (p ∷ ps) hs = joins-hang order p ps hs.0 hs.1

hang-append : (order : List ℕ) (ps qs : List Function) → AllHang order ps → AllHang order qs → AllHang order (ps ++ qs)
hang-append order [] qs h k = k
hang-append order (p ∷ ps) qs h k = (h.0, hang-append order ps qs h.1 k)

steps-append : (order : List ℕ) (xs ys : List Step) → StepsHang order xs → StepsHang order ys → StepsHang order (xs ++ ys)
steps-append order [] ys h k = k
steps-append order (x ∷ xs) ys h k = (h.0, steps-append order xs ys h.1 k)

steps-front : (order : List ℕ) (xs ys : List Step) → StepsHang order (xs ++ ys) → StepsHang order xs
steps-front order [] ys h = tt
steps-front order (x ∷ xs) ys h = (h.0, steps-front order xs ys h.1)

splits-hang : (order : List ℕ) (y : ℕ) (ps bucket rest : List Function) → Splits y ps bucket rest → AllHang order ps → AllHang order bucket × AllHang order rest
splits-hang order y [] bucket rest s h = (subst (AllHang order) (sym s.0) tt, subst (AllHang order) (sym s.1) tt)
splits-hang order y (p ∷ ps) bucket rest (inl (more, e, own, s)) h =
    let q = splits-hang order y ps more rest s h.1 in (subst (AllHang order) (sym e) (h.0, q.0), q.1)
splits-hang order y (p ∷ ps) bucket rest (inr (more, e, own, s)) h =
    let q = splits-hang order y ps bucket more s h.1 in (q.0, subst (AllHang order) (sym e) (h.0, q.1))

emptied-hang : (order : List ℕ) (y : ℕ) (ps bucket rest next : List Function) (steps : List Step) (own : List (ℕ × Function)) → Empties y ps bucket rest next steps own
    → AllHang order ps → AllHang order bucket → AllHang order rest → AllHang order next × StepsHang order steps
emptied-hang order y ps [] rest next steps own e h b r = (subst (AllHang order) (sym e.0) h, subst (StepsHang order) (sym e.1) tt)
emptied-hang order y ps (b ∷ bs) rest next steps own e h k r =
    let f = whole b bs in
    let last = some-hangs order y f (whole-hangs order b bs k.0 k.1) in (
      subst (AllHang order) (sym e.0) (hang-append order rest (some_value y f ∷ []) r (last, tt)),
      subst (StepsHang order) (sym e.1) (steps-append order (joins b bs) (Quantify y f ∷ []) (joins-hang order b bs k.0 k.1) (last, tt)),
    )

turn-hangs : (order : List ℕ) (y : ℕ) (ps next : List Function) (steps : List Step) (own : List (ℕ × Function)) → IsTurn y ps next steps own → AllHang order ps
    → AllHang order next × StepsHang order steps
turn-hangs order y ps next steps own t h =
    let p = splits-hang order y ps t.bucket t.rest t.split h in
    emptied-hang order y ps t.bucket t.rest next steps own t.emptied h p.0 p.1

-- the stages of a run hang on what its pieces hang on
pub begins-hang : (order : List ℕ) (ys : List ℕ) (ps : List Function) (steps : List Step) → Begins ys ps steps → AllHang order ps → StepsHang order steps
begins-hang order [] ps steps (more, e) h = steps-front order steps more (subst (StepsHang order) e (all-joins-hang order ps h))
begins-hang order (y ∷ ys) ps steps (next, here, own, t, inl (more, e)) h =
    steps-front order steps more (subst (StepsHang order) e (turn-hangs order y ps next here own t h).1)
begins-hang order (y ∷ ys) ps steps (next, here, own, t, inr (later, e, b)) h =
    let k = turn-hangs order y ps next here own t h in
    subst (StepsHang order) (sym e) (steps-append order here later k.1 (begins-hang order ys next later b k.0))

last-hangs : (order : List ℕ) (xs : List Step) (x : Step) → StepsHang order (xs ++ x ∷ []) → HangsOn order (given x)
last-hangs order [] x h = h.0
last-hangs order (y ∷ xs) x h = last-hangs order xs x h.1

length-order : (g : Gathered) → length (order_of g) ≡ length g.aux + length g.border
length-order g =
    let names = map (λ l. l.variable) g.border in
    omega (arith, length-reverse (names ++ g.aux), length-append names g.aux, length-map g.border (λ (l : Literal). l.variable))

pub small-narrow : (g : Gathered) (stage level : ℕ) → IsGroup g → length g.aux + length g.border ≤ 12 → IsFirstWide g stage level → ⊥
small-narrow g stage level ok small w =
    let hangs = begins-hang (order_of g) g.aux (map clause_function g.taken) (w.earlier ++ w.last ∷ []) w.begins (clauses-hang (order_of g) g.taken (all-in-order g g.taken ok.covered)) in
    few-narrow (order_of g) (given w.last) (omega (arith, length-order g)) (last-hangs (order_of g) w.earlier w.last hangs) (level, w.wide)
