-- What a run gives is true exactly where some values of the variables that it takes make all pieces true.
use Rattle.std.proofs.Common.{ℕ, ◌≡◌, ◌==◌, ◌⊎◌, inl, inr, Bool, true, false, not, ◌||◌, if◌then◌else◌, List, [], ◌∷◌, ◌++◌, map, refl, sym, ap, subst, ◌∙◌, true≢false}
use Rattle.std.specs.List.{list_any, AllByRecursion}
use Rattle.std.proofs.lemmas.Bool.{eqb-true, eq-eqb, ne_eqb, cond-true, cond-false, and_parts, or_cases, or_left, or_right, or_parts, cases_eq, cases_Bool, and_from}
use Rattle.kn_logic.specs.Literals.{Literal, has, is_same}
use Rattle.kn_logic.specs.Constraints.{Bounded}
use Rattle.kn_logic.specs.Groups.{Gathered, IsGroup, IsCovered, is_among}
use Rattle.kn_diagram.specs.Diagrams.{with_value, is_true_by}
use Rattle.kn_diagram.specs.Wide.{Ignores}
use Rattle.kn_quant.specs.Quantified.{some_value}
use Rattle.kn_quant.specs.Runs.{Function, Step, both, whole, all_whole, Splits, Empties, Runs, clause_function, AgreeBut, CanHold, AgreeAtBorder}

-- all functions are true at some values
abbrev pub AreTrue : List Function → (ℕ → Bool) → Type 0
AreTrue ps w = AllByRecursion (λ p. p w ≡ true) ps

pub whole-down : (p : Function) (ps : List Function) (w : ℕ → Bool) → whole p ps w ≡ true → AreTrue (p ∷ ps) w
whole-down p [] w e = (e, tt)
whole-down p (q ∷ qs) w e = let d = whole-down (both p q) qs w e in let h = and_parts (p w) (q w) d.0 in (h.0, (h.1, d.1))

whole-up : (p : Function) (ps : List Function) (w : ℕ → Bool) → AreTrue (p ∷ ps) w → whole p ps w ≡ true
whole-up p [] w h = h.0
whole-up p (q ∷ qs) w h = whole-up (both p q) qs w (and_from (p w) (q w) h.0 h.1.0, h.1.1)

pub are-true-append : (xs ys : List Function) (w : ℕ → Bool) → AreTrue xs w → AreTrue ys w → AreTrue (xs ++ ys) w
are-true-append [] ys w a b = b
are-true-append (x ∷ xs) ys w a b = (a.0, are-true-append xs ys w a.1 b)

pub are-true-parts : (xs ys : List Function) (w : ℕ → Bool) → AreTrue (xs ++ ys) w → AreTrue xs w × AreTrue ys w
are-true-parts [] ys w h = (tt, h)
are-true-parts (x ∷ xs) ys w h = let p = are-true-parts xs ys w h.1 in ((h.0, p.0), p.1)

pub splits-join : (y : ℕ) (ps bucket rest : List Function) (w : ℕ → Bool) → Splits y ps bucket rest → AreTrue bucket w → AreTrue rest w → AreTrue ps w
splits-join y [] bucket rest w s a b = tt
splits-join y (p ∷ ps) bucket rest w (inl (more, e, own, s)) a b = let h = subst (λ z. AreTrue z w) e a in (h.0, splits-join y ps more rest w s h.1 b)
splits-join y (p ∷ ps) bucket rest w (inr (more, e, own, s)) a b = let h = subst (λ z. AreTrue z w) e b in (h.0, splits-join y ps bucket more w s a h.1)

splits-parts : (y : ℕ) (ps bucket rest : List Function) (w : ℕ → Bool) → Splits y ps bucket rest → AreTrue ps w → AreTrue bucket w × AreTrue rest w
splits-parts y [] bucket rest w s h = (subst (λ z. AreTrue z w) (sym s.0) tt, subst (λ z. AreTrue z w) (sym s.1) tt)
splits-parts y (p ∷ ps) bucket rest w (inl (more, e, own, s)) h =
    let q = splits-parts y ps more rest w s h.1 in (subst (λ z. AreTrue z w) (sym e) (h.0, q.0), q.1)
splits-parts y (p ∷ ps) bucket rest w (inr (more, e, own, s)) h =
    let q = splits-parts y ps bucket more w s h.1 in (q.0, subst (λ z. AreTrue z w) (sym e) (h.0, q.1))

pub rest-ignores : (y : ℕ) (ps bucket rest : List Function) → Splits y ps bucket rest → AllByRecursion (λ p. Ignores p y) rest
rest-ignores y [] bucket rest s = subst (AllByRecursion (λ p. Ignores p y)) (sym s.1) tt
rest-ignores y (p ∷ ps) bucket rest (inl (more, e, own, s)) = rest-ignores y ps more rest s
rest-ignores y (p ∷ ps) bucket rest (inr (more, e, own, s)) = subst (AllByRecursion (λ q. Ignores q y)) (sym e) (own, rest-ignores y ps bucket more s)

pub moved : (y : ℕ) (ps : List Function) (w : ℕ → Bool) (b : Bool) → AllByRecursion (λ p. Ignores p y) ps → AreTrue ps w → AreTrue ps (with_value w y b)
moved y [] w b i h = tt
moved y (p ∷ ps) w b i h = (i.0 w b ∙ h.0, moved y ps w b i.1 h.1)

-- values that make all pieces true, and differ from others at these variables alone
abbrev pub CanBeTrue : List ℕ → List Function → (ℕ → Bool) → Type 0
CanBeTrue ys ps v = (w : ℕ → Bool) × AgreeBut ys v w × AreTrue ps w

wider : (y : ℕ) (ys : List ℕ) (v w : ℕ → Bool) → AgreeBut ys v w → AgreeBut (y ∷ ys) v w
wider y ys v w a x e = a x (or_parts (y == x) (is_among ys x) e).1

-- after a turn the pieces can be true where they could before
turn-down : (y : ℕ) (ys : List ℕ) (pieces next bucket rest : List Function) (steps : List Step) (own : List (ℕ × Function)) (v : ℕ → Bool) → Splits y pieces bucket rest
    → Empties y pieces bucket rest next steps own → CanBeTrue ys next v → CanBeTrue (y ∷ ys) pieces v
turn-down y ys pieces next [] rest steps own v s e (w, a, h) = (w, wider y ys v w a, subst (λ z. AreTrue z w) e.0 h)
turn-down y ys pieces next (b ∷ bs) rest steps own v s e (w, a, h) =
    let p = are-true-parts rest (some_value y (whole b bs) ∷ []) w (subst (λ z. AreTrue z w) e.0 h) in
    by p.0 (or_cases (whole b bs (with_value w y true)) (whole b bs (with_value w y false)) p.1.0)
  where
    at : AreTrue rest w → (c : Bool) → whole b bs (with_value w y c) ≡ true → CanBeTrue (y ∷ ys) pieces v
    at r c t = (
      with_value w y c,
      (λ x n. let q = or_parts (y == x) (is_among ys x) n in
          cond-false (x == y) c (w x) (ne_eqb x y (λ s. true≢false (sym (eq-eqb y x (sym s)) ∙ q.0))) ∙ a x q.1),
      splits-join y pieces (b ∷ bs) rest (with_value w y c) s (whole-down b bs (with_value w y c) t) (moved y rest w c (rest-ignores y pieces (b ∷ bs) rest s) r),
    )

    by : AreTrue rest w → (whole b bs (with_value w y true) ≡ true) ⊎ (whole b bs (with_value w y false) ≡ true) → CanBeTrue (y ∷ ys) pieces v
    by r (inl t) = at r true t
    by r (inr t) = at r false t

turn-up : (y : ℕ) (ys : List ℕ) (pieces next bucket rest : List Function) (steps : List Step) (own : List (ℕ × Function)) (v : ℕ → Bool) → Splits y pieces bucket rest
    → Empties y pieces bucket rest next steps own → CanBeTrue (y ∷ ys) pieces v → CanBeTrue ys next v
turn-up y ys pieces next bucket rest steps own v s e (w, a, h) = (back, agree, by bucket s e)
  where
    back : ℕ → Bool
    back = with_value w y (v y)

    agree : AgreeBut ys v back
    agree x n = at (cases_eq x y)
      where
        at : ((x ≡ y) ⊎ (x ≡ y → ⊥)) → back x ≡ v x
        at (inl q) = cond-true (x == y) (v y) (w x) (eq-eqb x y q) ∙ ap v (sym q)
        at (inr q) = cond-false (x == y) (v y) (w x) (ne_eqb x y q) ∙ a x (neither (y == x) (is_among ys x) (ne_eqb y x (λ z. q (sym z))) n)
          where
            neither : (c d : Bool) → c ≡ false → d ≡ false → (c || d) ≡ false
            neither true d z k = absurd (true≢false z)
            neither false d z k = k

    again : (c : Bool) → w y ≡ c → with_value back y c ≡ w
    again c q = λ i x. at x (cases_eq x y) i
      where
        at : (x : ℕ) → ((x ≡ y) ⊎ (x ≡ y → ⊥)) → with_value back y c x ≡ w x
        at x (inl z) = cond-true (x == y) c (back x) (eq-eqb x y z) ∙ sym q ∙ ap w (sym z)
        at x (inr z) = cond-false (x == y) c (back x) (ne_eqb x y z) ∙ cond-false (x == y) (v y) (w x) (ne_eqb x y z)

    kept : (bs : List Function) → Splits y pieces bs rest → AreTrue rest back
    kept bs z = moved y rest w (v y) (rest-ignores y pieces bs rest z) (splits-parts y pieces bs rest w z h).1

    some : (b : Function) (bs : List Function) → AreTrue (b ∷ bs) w → some_value y (whole b bs) back ≡ true
    some b bs t = at (w y) refl
      where
        at : (c : Bool) → w y ≡ c → some_value y (whole b bs) back ≡ true
        at true q = or_left (whole b bs (with_value back y true)) (whole b bs (with_value back y false)) (ap (whole b bs) (again true q) ∙ whole-up b bs w t)
        at false q = or_right (whole b bs (with_value back y true)) (whole b bs (with_value back y false)) (ap (whole b bs) (again false q) ∙ whole-up b bs w t)

    by : (bs : List Function) → Splits y pieces bs rest → Empties y pieces bs rest next steps own → AreTrue next back
    by [] z k = subst (λ q. AreTrue q back) (sym k.0) (splits-join y pieces [] rest back z tt (kept [] z))
    by (b ∷ bs) z k =
        subst (λ q. AreTrue q back) (sym k.0)
        (are-true-append rest (some_value y (whole b bs) ∷ []) back (kept (b ∷ bs) z) (some b bs (splits-parts y pieces (b ∷ bs) rest w z h).0, tt))

pub all-whole-down : (ps : List Function) (w : ℕ → Bool) → all_whole ps w ≡ true → AreTrue ps w
all-whole-down [] w e = tt
all-whole-down (p ∷ ps) w e = whole-down p ps w e

all-whole-up : (ps : List Function) (w : ℕ → Bool) → AreTrue ps w → all_whole ps w ≡ true
all-whole-up [] w h = refl
all-whole-up (p ∷ ps) w h = whole-up p ps w h

runs-down : (ys : List ℕ) (pieces : List Function) (steps : List Step) (buckets : List (ℕ × Function)) (result' : Function) (v : ℕ → Bool) → Runs ys pieces steps buckets result'
    → result' v ≡ true → CanBeTrue ys pieces v
runs-down [] pieces steps buckets f v r e = (v, (λ x n. refl), all-whole-down pieces v (sym (λ i. r.2 i v) ∙ e))
runs-down (y ∷ ys) pieces steps buckets f v (next, here, more, own, later, turn, a, b, r) e =
    turn-down y ys pieces next turn.bucket turn.rest here own v turn.split turn.emptied (runs-down ys next more later f v r e)

runs-up : (ys : List ℕ) (pieces : List Function) (steps : List Step) (buckets : List (ℕ × Function)) (result' : Function) (v : ℕ → Bool) → Runs ys pieces steps buckets result'
    → CanBeTrue ys pieces v → result' v ≡ true
runs-up [] pieces steps buckets f v r (w, a, h) =
    (λ i. r.2 i v) ∙ all-whole-up pieces v (subst (AreTrue pieces) (λ i x. a x refl i) h)
runs-up (y ∷ ys) pieces steps buckets f v (next, here, more, own, later, turn, a, b, r) h =
    runs-up ys next more later f v r (turn-up y ys pieces next turn.bucket turn.rest here own v turn.split turn.emptied h)

clauses-true : (cs : List Bounded) (w : ℕ → Bool) → AreTrue (map clause_function cs) w → AllByRecursion (λ c. clause_function c w ≡ true) cs
clauses-true [] w h = tt
clauses-true (c ∷ cs) w h = (h.0, clauses-true cs w h.1)

true-clauses : (cs : List Bounded) (w : ℕ → Bool) → AllByRecursion (λ c. clause_function c w ≡ true) cs → AreTrue (map clause_function cs) w
true-clauses [] w h = tt
true-clauses (c ∷ cs) w h = (h.0, true-clauses cs w h.1)

-- what a run of a group gives is true exactly where the group can hold
pub run-holds : (g : Gathered) (steps : List Step) (buckets : List (ℕ × Function)) (f : Function) (v : ℕ → Bool) → Runs g.aux (map clause_function g.taken) steps buckets f
    → f v ≡ true → CanHold g v
run-holds g steps buckets f v r e =
    let p = runs-down g.aux (map clause_function g.taken) steps buckets f v r e in
    (p.0, p.1, clauses-true g.taken p.0 p.2)

pub holds-run : (g : Gathered) (steps : List Step) (buckets : List (ℕ × Function)) (f : Function) (v : ℕ → Bool) → Runs g.aux (map clause_function g.taken) steps buckets f
    → CanHold g v → f v ≡ true
holds-run g steps buckets f v r (w, a, h) = runs-up g.aux (map clause_function g.taken) steps buckets f v r (w, a, true-clauses g.taken w h)

border-agrees : (ls : List Literal) (l : Literal) (v w : ℕ → Bool) → has ls l ≡ true → AllByRecursion (λ k. v k.variable ≡ w k.variable) ls → v l.variable ≡ w l.variable
border-agrees [] l v w e a = absurd (true≢false (sym e))
border-agrees (k ∷ ls) l v w e a = by (or_cases (is_same l k) (has ls l) e) (λ z. border-agrees ls l v w z a.1)
  where
    by : (is_same l k ≡ true) ⊎ (has ls l ≡ true) → (has ls l ≡ true → v l.variable ≡ w l.variable) → v l.variable ≡ w l.variable
    by (inl s) rest =
        let same : l.variable ≡ k.variable = eqb-true l.variable k.variable (and_parts (l.variable == k.variable) (if l.positive then k.positive else not k.positive) s).0 in
        ap v same ∙ a.0 ∙ ap w (sym same)
    by (inr s) rest = rest s

-- a group that can hold at some values can at others that agree with them at the border
border-holds : (g : Gathered) (v w : ℕ → Bool) → IsGroup g → AgreeAtBorder g v w → CanHold g v → CanHold g w
border-holds g v w ok a (u, agree, h) = (u', (λ x n. cond-false (is_among g.aux x) (u x) (w x) n), clauses g.taken ok.covered h)
  where
    u' : ℕ → Bool
    u' = λ x. if is_among g.aux x then u x else w x

    same : (l : Literal) → IsCovered g l → u' l.variable ≡ u l.variable
    same l c = by (cases_Bool (is_among g.aux l.variable))
      where
        by : ((is_among g.aux l.variable ≡ true) ⊎ (is_among g.aux l.variable ≡ false)) → u' l.variable ≡ u l.variable
        by (inl t) = cond-true (is_among g.aux l.variable) (u l.variable) (w l.variable) t
        by (inr t) = cond-false (is_among g.aux l.variable) (u l.variable) (w l.variable) t ∙ sym (agree l.variable t ∙ border-agrees g.border l v w (in_border (or_cases (is_among g.aux l.variable) (has g.border l) c)) a)
          where
            in_border : (is_among g.aux l.variable ≡ true) ⊎ (has g.border l ≡ true) → has g.border l ≡ true
            in_border (inl s) = absurd (true≢false (sym s ∙ t))
            in_border (inr s) = s

    literals : (ls : List Literal) → AllByRecursion (IsCovered g) ls → list_any (is_true_by u') ls ≡ list_any (is_true_by u) ls
    literals [] c = refl
    literals (l ∷ ls) c = λ i. (if l.positive then same l c.0 i else not (same l c.0 i)) || literals ls c.1 i

    clauses : (cs : List Bounded) → AllByRecursion (λ c. AllByRecursion (IsCovered g) c.lits) cs → AllByRecursion (λ c. clause_function c u ≡ true) cs
        → AllByRecursion (λ c. clause_function c u' ≡ true) cs
    clauses [] c k = tt
    clauses (x ∷ cs) c k = (literals x.lits c.0 ∙ k.0, clauses cs c.1 k.1)

pub run-at-border : (g : Gathered) (steps : List Step) (buckets : List (ℕ × Function)) (f : Function) (v w : ℕ → Bool) → IsGroup g → Runs g.aux (map clause_function g.taken) steps buckets f
    → AgreeAtBorder g v w → f v ≡ f w
run-at-border g steps buckets f v w ok r a = by (cases_Bool (f v)) (cases_Bool (f w))
  where
    there : (p q : ℕ → Bool) → AgreeAtBorder g p q → f p ≡ true → f q ≡ true
    there p q z e = holds-run g steps buckets f q r (border-holds g p q ok z (run-holds g steps buckets f p r e))

    turned : (ls : List Literal) → AllByRecursion (λ l. v l.variable ≡ w l.variable) ls → AllByRecursion (λ l. w l.variable ≡ v l.variable) ls
    turned [] z = tt
    turned (l ∷ ls) z = (sym z.0, turned ls z.1)

    by : ((f v ≡ true) ⊎ (f v ≡ false)) → ((f w ≡ true) ⊎ (f w ≡ false)) → f v ≡ f w
    by (inl x) y = x ∙ sym (there v w a x)
    by (inr x) (inl y) = there w v (turned g.border a) y ∙ sym y
    by (inr x) (inr y) = x ∙ sym y
