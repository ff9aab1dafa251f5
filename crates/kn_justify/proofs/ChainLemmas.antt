-- The diagram of a clause is a chain: at each node one half is always true. So from "not the root" the definitions'
-- clauses give the negation of each literal in turn, and the clause is in conflict.
use Rattle.std.proofs.Common.{◌≡◌, ℕ, zero, suc, ◌+◌, ◌≤◌, ◌<◌, ◌==◌, ◌&&◌, ◌||◌, ◌⊎◌, ◌++◌, Bool, true, false, not, if◌then◌else◌, cond, ltb, eqb, map, List, [], ◌∷◌, filter, slice_index, Option, Some, None, append_assoc, refl, sym, ap, ◌∙◌, subst, inl, inr, arith}
use Rattle.std.specs.List.{list_any}
use Rattle.std.proofs.lemmas.Bool.{cases_Bool, or_cases, or_left, or_right, cond-true, cond-false, eq-eqb, eqb-true}
use Rattle.kn_logic.specs.Literals.{Literal, negated, is_same, has}
use Rattle.kn_logic.specs.Constraints.{Bounded, clause}
use Rattle.kn_logic.specs.Propagation.{is_open, open_places, hint_run}
use Rattle.std.specs.Option.{option_and_then}
use Rattle.kn_lines.specs.declared.line.Arm.{Arm}
use Rattle.kn_lines.specs.declared.line.Arm.TheVariants as arm
use Rattle.kn_rules.specs.declared.given.Given.{Given}
use Rattle.kn_rules.specs.States.{ProofState, live_at}
use Rattle.kn_rules.specs.Steps.{opposite}
use Rattle.kn_diagram.specs.Diagrams.{Table, IsTable, IsNode, IsBranch, function_of, depth_of, high_of, low_of, is_true_by, with_value}
use Rattle.kn_diagram.proofs.Public.{canonical, has_nodes, branch-is, depth_of-branch, high-function, low-function}
use Rattle.kn_justify.specs.Arms.{Has, IsSound, run_on, AllRefuted, Settles, Settled, Refuted, has_true, literals_of}
use Rattle.kn_logic.proofs.Public.{same_literal, same-refl}
use Rattle.kn_justify.proofs.ArmLemmas.{has_true_arm, twice, shut_places, run-keeps, run-append}
use Rattle.kn_justify.proofs.HintLemmas.{hinted-append}
use Rattle.kn_justify.proofs.DefinitionLemmas.{high-up, low-up}
use Rattle.kn_justify.specs.declared.name.Name.{Name}
use Rattle.kn_justify.specs.Names.{name_of, arm_at, test_of, IsRightName}
use Rattle.kn_justify.specs.Chains.{Chain}
use Rattle.kn_justify.proofs.NameLemmas.{arm_named}

-- one of a node's two nodes
abbrev pub half : Table → ℕ → Bool → ℕ
half d node b = if b then high_of d node else low_of d node

half-function : (d : Table) (node : ℕ) (b : Bool) (v : ℕ → Bool) → IsTable d → IsNode d node → 2 ≤ node → function_of d (half d node b) v ≡ function_of d node (with_value v (slice_index d.order (depth_of d node)) b)
half-function d node true v ok h two =
    ap (λ (x : ℕ). function_of d x v) (sym (cond-true _ (high_of d node) node (eq-eqb (depth_of d node) (depth_of d node) refl)))
    ∙ high-function d node (depth_of d node) v ok h (depth_of-branch d node ok h two) (omega arith)
half-function d node false v ok h two =
    ap (λ (x : ℕ). function_of d x v) (sym (cond-true _ (low_of d node) node (eq-eqb (depth_of d node) (depth_of d node) refl)))
    ∙ low-function d node (depth_of d node) v ok h (depth_of-branch d node ok h two) (omega arith)

branch : (d : Table) (node : ℕ) → IsTable d → IsNode d node → 2 ≤ node → IsBranch d node (slice_index d.order (depth_of d node)) (high_of d node) (low_of d node)
branch d node ok h two = branch-is d node _ _ _ ok h two refl refl refl

half-there : (d : Table) (node : ℕ) (b : Bool) → IsTable d → IsNode d node → 2 ≤ node → IsNode d (half d node b)
half-there d node true ok h two = (branch d node ok h two).high_there
half-there d node false ok h two = (branch d node ok h two).low_there

halves-differ : (d : Table) (node : ℕ) (b : Bool) → IsTable d → IsNode d node → 2 ≤ node → half d node b ≡ 1 → half d node (not b) ≡ 1 → ⊥
halves-differ d node true ok h two e f = (branch d node ok h two).different (e ∙ sym f)
halves-differ d node false ok h two e f = (branch d node ok h two).different (f ∙ sym e)

-- the function of a list of literals: one of them is true
abbrev pub some_true : (ℕ → Bool) → List Literal → Bool
some_true v lits = list_any (is_true_by v) lits

true_has : (v : ℕ → Bool) (lits : List Literal) (l : Literal) → has lits l ≡ true → is_true_by v l ≡ true → some_true v lits ≡ true
true_has v [] l e h = absurd cc
true_has v (x ∷ lits) l e h =
    elim (or_cases (is_same l x) (has lits l) e) [
      | inl s ↦ or_left (is_true_by v x) (some_true v lits) (subst (λ (y : Literal). is_true_by v y ≡ true) (same_literal l x s) h)
      | inr t ↦ or_right (is_true_by v x) (some_true v lits) (true_has v lits l t h)
    ]

own_true : (v : ℕ → Bool) (x : ℕ) (b : Bool) → is_true_by (with_value v x b) (record { variable = x; positive = b }) ≡ true
own_true v x true = cond-true (x == x) true (v x) (eq-eqb x x refl)
own_true v x false = ap not (cond-true (x == x) false (v x) (eq-eqb x x refl))

-- the literals of other variables
abbrev pub others : ℕ → List Literal → List Literal
others x lits = filter (λ l. not (l.variable == x)) lits

own_false : (v : ℕ → Bool) (l : Literal) (x : ℕ) (b : Bool) → l.variable ≡ x → l.positive ≡ not b → is_true_by (with_value v x b) l ≡ false
own_false v l x b e p = ap (λ (c : Bool). if l.positive then c else not c) (cond-true (l.variable == x) b (v l.variable) (eq-eqb l.variable x e)) ∙ ap (λ (c : Bool). if c then b else not b) p ∙ at b
  where
    at : (c : Bool) → (if not c then c else not c) ≡ false
    at true = refl
    at false = refl

others_at : (v : ℕ → Bool) (l : Literal) (lits rest : List Literal) (x : ℕ) (b c : Bool) → (l.variable == x) ≡ c → (l.variable ≡ x → l.positive ≡ not b) → some_true (with_value v x b) lits ≡ some_true v rest → (is_true_by (with_value v x b) l || some_true (with_value v x b) lits) ≡ some_true v (if not c then l ∷ rest else rest)
others_at v l lits rest x b true t p e = ap (λ (k : Bool). k || some_true (with_value v x b) lits) (own_false v l x b (eqb-true l.variable x t) (p (eqb-true l.variable x t))) ∙ e
others_at v l lits rest x b false t p e =
    ap (λ (k : Bool). k || some_true (with_value v x b) lits) (ap (λ (k : Bool). if l.positive then k else not k) (cond-false (l.variable == x) b (v l.variable) t)) ∙ ap (λ (k : Bool). is_true_by v l || k) e

some_others : (v : ℕ → Bool) (lits : List Literal) (x : ℕ) (b : Bool) → ((l : Literal) → has lits l ≡ true → l.variable ≡ x → l.positive ≡ not b) → some_true (with_value v x b) lits ≡ some_true v (others x lits)
some_others v [] x b h = refl
some_others v (l ∷ lits) x b h =
    others_at v l lits (others x lits) x b (l.variable == x) refl (h l (or_left (is_same l l) (has lits l) (same-refl l)))
    (some_others v lits x b (λ k e. h k (or_right (is_same k l) (has lits k) e)))

in_others_at : (k l : Literal) (lits rest : List Literal) (x : ℕ) (c : Bool) → (l.variable == x) ≡ c → has (l ∷ lits) k ≡ true → (k.variable ≡ x → ⊥) → (has lits k ≡ true → has rest k ≡ true) → has (if not c then l ∷ rest else rest) k ≡ true
in_others_at k l lits rest x true t e n ih =
    elim (or_cases (is_same k l) (has lits k) e) [
      | inl s ↦ absurd (n (ap (λ (y : Literal). y.variable) (same_literal k l s) ∙ eqb-true l.variable x t))
      | inr f ↦ ih f
    ]
in_others_at k l lits rest x false t e n ih =
    elim (or_cases (is_same k l) (has lits k) e) [
      | inl s ↦ or_left (is_same k l) (has rest k) s
      | inr f ↦ or_right (is_same k l) (has rest k) (ih f)
    ]

in_others : (k : Literal) (lits : List Literal) (x : ℕ) → has lits k ≡ true → (k.variable ≡ x → ⊥) → has (others x lits) k ≡ true
in_others k [] x e n = absurd cc
in_others k (l ∷ lits) x e n = in_others_at k l lits (others x lits) x (l.variable == x) refl e n (λ f. in_others k lits x f n)

none_sound : (run : Option (List Literal)) → IsSound run → IsSound (run_on run [])
none_sound None h = tt
none_sound (Some t) h = h

pub chain-start : (given : List Given) (d : Table) (names : List (ℕ × Name)) (lits : List Literal) (f : ℕ) → IsNode d f → ((v : ℕ → Bool) → function_of d f v ≡ list_any (is_true_by v) lits) → Chain given d names lits f f []
chain-start given d names lits f h e = record {
  cs = [];
  live = refl;
  rest = lits;
  there = h;
  function = e;
  sound = none_sound;
  next = λ run s k. run-keeps [] run _ k;
  refuted = λ run s k l m. inl m;
}

-- a literal that is left makes a half always true
half-true : (given : List Given) (d : Table) (names : List (ℕ × Name)) (lits : List Literal) (f node : ℕ) (hints : List ℕ) (b : Bool) → IsTable d → 2 ≤ node → (c : Chain given d names lits f node hints) → has c.rest (record { variable = slice_index d.order (depth_of d node); positive = b }) ≡ true → half d node b ≡ 1
half-true given d names lits f node hints b ok two c e =
    canonical d ok (half d node b) 1 (half-there d node b ok c.there two) (omega arith)
    (λ v. half-function d node b v ok c.there two ∙ c.function (with_value v (slice_index d.order (depth_of d node)) b)
    ∙ true_has (with_value v (slice_index d.order (depth_of d node)) b) c.rest _ e (own_true v (slice_index d.order (depth_of d node)) b)
    ∙ sym ((has_nodes d ok).yes v))

not_same : (p b : Bool) → (p ≡ b → ⊥) → p ≡ not b
not_same true true h = absurd (h refl)
not_same true false h = refl
not_same false true h = refl
not_same false false h = absurd (h refl)

with_parts : (l : Literal) (x : ℕ) (b : Bool) → l.variable ≡ x → l.positive ≡ b → l ≡ (record { variable = x; positive = b })
with_parts l x b e f = λ i. record { variable = e i; positive = f i }

-- where one half is always true, only the literal of that half is left of the variable
only_one : (given : List Given) (d : Table) (names : List (ℕ × Name)) (lits : List Literal) (f node : ℕ) (hints : List ℕ) (b : Bool) → IsTable d → 2 ≤ node → (c : Chain given d names lits f node hints) → half d node b ≡ 1 → (l : Literal) → has c.rest l ≡ true → l.variable ≡ slice_index d.order (depth_of d node) → l.positive ≡ not (not b)
only_one given d names lits f node hints b ok two c e l m x =
    not_same l.positive (not b) (λ p. halves-differ d node b ok c.there two e
    (half-true given d names lits f node hints (not b) ok two c (subst (λ (y : Literal). has c.rest y ≡ true) (with_parts l _ (not b) x p) m)))

-- the place of a definition's clause that goes up from a half
abbrev pub up : Bool → ℕ
up b = if b then 2 else 3

up-settled : (s : ProofState) (d : Table) (names : List (ℕ × Name)) (node : ℕ) (n : Name) (b : Bool) → IsRightName s d names node n → 2 ≤ node → name_of names node ≡ Some n
    → Settled s.given ((n.id + up b) ∷ []) (arm_at names node ∷ arm.Lit (record { variable = slice_index d.order (depth_of d node); positive = not b }) ∷ opposite (arm_at names (half d node b)) ∷ [])
up-settled s d names node n true r two is =
    subst (λ (a : Arm). Settled s.given ((n.id + 2) ∷ []) (a ∷ arm.Lit (negated (test_of d node)) ∷ opposite (arm_at names (high_of d node)) ∷ [])) (sym (arm_named names node n two is))
    (high-up s n (test_of d node) (arm_at names (high_of d node)) (arm_at names (low_of d node)) r.defined)
up-settled s d names node n false r two is =
    subst (λ (a : Arm). Settled s.given ((n.id + 3) ∷ []) (a ∷ arm.Lit (test_of d node) ∷ opposite (arm_at names (low_of d node)) ∷ [])) (sym (arm_named names node n two is))
    (low-up s n (test_of d node) (arm_at names (high_of d node)) (arm_at names (low_of d node)) r.defined)

thrice : (b : Bool) → not (not (not b)) ≡ not b
thrice true = refl
thrice false = refl

-- two hints behind a run: the variable is not what makes the half always true, and the other half is refuted
record Twice (a b : List Bounded) (run : Option (List Literal)) (x y : Arm) : Type 0 where
  sound : IsSound (run_on (run_on run a) b)
  first : Has (run_on (run_on run a) b) x
  second : Has (run_on (run_on run a) b) y

two_hints : (u t p q : Arm) (a b : List Bounded) (run : Option (List Literal)) → Settles a (u ∷ t ∷ opposite p ∷ []) → Settles b (u ∷ opposite t ∷ opposite q ∷ []) → p ≡ arm.True → IsSound run → Has run (opposite u) → Twice a b run t (opposite q)
two_hints u t p q a b run ha hb e s h =
    let s1 = ha.sound run s in
    let one : Has run (opposite (opposite p)) = subst (λ (k : Arm). Has run (opposite (opposite k))) (sym e) (has_true_arm run) in
    let t1 = ha.forces run t s (inr (h, inl (refl, (one, tt)))) in
    let h1 = run-keeps a run (opposite u) h in
    let q2 = hb.forces (run_on run a) (opposite q) s1 (inr (h1, inr (twice (run_on run a) t t1, inl (refl, tt)))) in
    record { sound = hb.sound (run_on run a) s1; first = run-keeps b (run_on run a) t t1; second = q2 }

other_test : (x : ℕ) (b : Bool) → ◌≡◌ {A = Arm} (arm.Lit (record { variable = x; positive = not (not b) })) (opposite (arm.Lit (record { variable = x; positive = not b })))
other_test x b = refl

joined : (a b c : List Bounded) (run : Option (List Literal)) → run_on run (a ++ (b ++ c)) ≡ run_on (run_on (run_on run a) b) c
joined a b c run = run-append a (b ++ c) run ∙ run-append b c (run_on run a)

refuted_at : (rest : List Literal) (x : ℕ) (b : Bool) (l : Literal) (a c : List Bounded) (run : Option (List Literal)) → Has (run_on (run_on run a) c) (arm.Lit (record { variable = x; positive = not b })) → (has rest l ≡ true → l.variable ≡ x → l.positive ≡ not (not b)) → (has rest l ≡ true) ⊎ Has run (arm.Lit (negated l)) → (((l.variable == x) ≡ true) ⊎ ((l.variable == x) ≡ false)) → (has (others x rest) l ≡ true) ⊎ Has (run_on (run_on run a) c) (arm.Lit (negated l))
refuted_at rest x b l a c run h only (inr k) t = inr (run-keeps c (run_on run a) (arm.Lit (negated l)) (run-keeps a run (arm.Lit (negated l)) k))
refuted_at rest x b l a c run h only (inl k) (inr t) = inl (in_others l rest x k (λ e. let f = eq-eqb l.variable x e in absurd cc))
refuted_at rest x b l a c run h only (inl k) (inl t) =
    let e = eqb-true l.variable x t in
    let p : not l.positive ≡ not b = ap not (only k e) ∙ thrice b in
    inr (subst (λ (y : Literal). Has (run_on (run_on run a) c) (arm.Lit y)) (sym (with_parts (negated l) x (not b) e p)) h)

-- where nothing is left, the clause is in conflict
nothing_left : (rest : List Literal) (l : Literal) → ((v : ℕ → Bool) → list_any (is_true_by v) rest ≡ false) → has rest l ≡ true → ⊥
nothing_left rest l h e =
    let v : ℕ → Bool = with_value (λ y. false) l.variable l.positive in
    let t = true_has v rest l e (own_true (λ y. false) l.variable l.positive) in
    let f = h v in
    absurd cc

is_refuted : (rest : List Literal) (l : Literal) (run : Option (List Literal)) → ((v : ℕ → Bool) → list_any (is_true_by v) rest ≡ false) → (has rest l ≡ true) ⊎ Has run (arm.Lit (negated l)) → Has run (arm.Lit (negated l))
is_refuted rest l run none (inl e) = absurd (nothing_left rest l none e)
is_refuted rest l run none (inr h) = h

pub chain-step : (s : ProofState) (d : Table) (names : List (ℕ × Name)) (lits : List Literal) (f node : ℕ) (hints : List ℕ) (n : Name) (b : Bool) → IsTable d → IsRightName s d names node n → 2 ≤ node → name_of names node ≡ Some n → Chain s.given d names lits f node hints → half d node b ≡ 1
    → Chain s.given d names lits f (half d node (not b)) (hints ++ ((n.id + up b) ∷ (n.id + up (not b)) ∷ []))
chain-step s d names lits f node hints n b ok r two is c e =
    let x : ℕ = slice_index d.order (depth_of d node) in
    let (as1, e1, h1) = up-settled s d names node n b r two is in
    let (as2, e2, h2) = up-settled s d names node n (not b) r two is in
    let arm_is : arm_at names (half d node b) ≡ arm.True = ap (λ (k : ℕ). arm_at names k) e in
    let goes : (run : Option (List Literal)) → IsSound run → Has run (opposite (arm_at names f)) → Twice as1 as2 (run_on run c.cs) (arm.Lit (record { variable = x; positive = not b })) (opposite (arm_at names (half d node (not b)))) =
    λ run k m. two_hints (arm_at names node) (arm.Lit (record { variable = x; positive = not b })) (arm_at names (half d node b)) (arm_at names (half d node (not b))) as1 as2 (run_on run c.cs) h1 h2 arm_is (c.sound run k) (c.next run k m) in
    record {
      cs = c.cs ++ (as1 ++ as2);
      live = hinted-append s.given hints ((n.id + up b) ∷ (n.id + up (not b)) ∷ []) c.cs (as1 ++ as2) c.live (hinted-append s.given ((n.id + up b) ∷ []) ((n.id + up (not b)) ∷ []) as1 as2 e1 e2);
      rest = others x c.rest;
      there = half-there d node (not b) ok c.there two;
      function = λ v. half-function d node (not b) v ok c.there two ∙ c.function (with_value v x (not b)) ∙ some_others v c.rest x (not b) (only_one s.given d names lits f node hints b ok two c e);
      sound = λ run k. subst (λ (o : Option (List Literal)). IsSound o) (sym (joined c.cs as1 as2 run)) (h2.sound (run_on (run_on run c.cs) as1) (h1.sound (run_on run c.cs) (c.sound run k)));
      next = λ run k m. subst (λ (o : Option (List Literal)). Has o (opposite (arm_at names (half d node (not b))))) (sym (joined c.cs as1 as2 run)) (goes run k m).second;
      refuted = λ run k m l g. subst (λ (o : Option (List Literal)). (has (others x c.rest) l ≡ true) ⊎ Has o (arm.Lit (negated l))) (sym (joined c.cs as1 as2 run))
          (refuted_at c.rest x b l as1 as2 (run_on run c.cs) (goes run k m).first (only_one s.given d names lits f node hints b ok two c e l) (c.refuted run k m l g) (cases_Bool (l.variable == x)));
    }

all_refuted : (run : Option (List Literal)) (lits : List Literal) → ((l : Literal) → has lits l ≡ true → Has run (arm.Lit (negated l))) → AllRefuted run (map (λ (l : Literal). arm.Lit l) lits)
all_refuted run [] h = tt
all_refuted run (l ∷ lits) h = (h l (or_left (is_same l l) (has lits l) (same-refl l)), all_refuted run lits (λ k e. h k (or_right (is_same k l) (has lits k) e)))

no_true : (lits : List Literal) → has_true (map (λ (l : Literal). arm.Lit l) lits) ≡ false
no_true [] = refl
no_true (l ∷ lits) = no_true lits

same_lits : (lits : List Literal) → literals_of (map (λ (l : Literal). arm.Lit l) lits) ≡ lits
same_lits [] = refl
same_lits (l ∷ lits) = ap (λ (xs : List Literal). l ∷ xs) (same_lits lits)

-- a clause that is live, all of whose literals are refuted
clause-conflict : (lits : List Literal) (run : Option (List Literal)) → AllRefuted run (map (λ (l : Literal). arm.Lit l) lits) → run_on run (clause lits ∷ []) ≡ None
clause-conflict lits None h = refl
clause-conflict lits (Some trail) h =
    let places : open_places trail lits ≡ 0 = ap (λ (xs : List Literal). open_places trail xs) (sym (same_lits lits)) ∙ shut_places trail (map (λ (l : Literal). arm.Lit l) lits) h in
    ap (λ (k : ℕ). option_and_then (λ next. hint_run next []) (cond (ltb k 1) None (cond (eqb k 1) (Some (trail ++ filter (is_open trail) lits)) (Some trail)))) places

pub chain-ends : (s : ProofState) (d : Table) (names : List (ℕ × Name)) (lits : List Literal) (f : ℕ) (hints : List ℕ) (id : ℕ) → IsTable d → live_at s.given id ≡ Some (clause lits) → Chain s.given d names lits f 0 hints → Refuted s.given (hints ++ id ∷ []) (arm_at names f ∷ [])
chain-ends s d names lits f hints id ok live c =
    let none : (v : ℕ → Bool) → list_any (is_true_by v) c.rest ≡ false = λ v. sym (c.function v) ∙ (has_nodes d ok).no v in (
      c.cs ++ clause lits ∷ [],
      hinted-append s.given hints (id ∷ []) c.cs (clause lits ∷ []) c.live (rw live refl),
      λ run k m. run-append c.cs (clause lits ∷ []) run ∙ clause-conflict lits (run_on run c.cs) (all_refuted (run_on run c.cs) lits (λ l g. is_refuted c.rest l (run_on run c.cs) none (c.refuted run k m.0 l g))),
    )

-- at the end: the node is a constant
pub chain-refutes : (s : ProofState) (d : Table) (names : List (ℕ × Name)) (lits : List Literal) (f node : ℕ) (hints all : List ℕ) (id : ℕ) (arms : List Arm) → IsTable d → live_at s.given id ≡ Some (clause lits) → Chain s.given d names lits f node hints → node < 2 → all ≡ hints ++ id ∷ [] → arms ≡ arm_at names f ∷ [] → Refuted s.given all arms
chain-refutes s d names lits f zero hints all id arms ok live c h e g =
    subst (λ (x : List ℕ). Refuted s.given x arms) (sym e) (subst (λ (x : List Arm). Refuted s.given (hints ++ id ∷ []) x) (sym g) (chain-ends s d names lits f hints id ok live c))
chain-refutes s d names lits f (suc zero) hints all id arms ok live c h e g =
    subst (λ (x : List ℕ). Refuted s.given x arms) (sym e) (subst (λ (x : List Arm). Refuted s.given (hints ++ id ∷ []) x) (sym g) (
      c.cs ++ clause lits ∷ [],
      hinted-append s.given hints (id ∷ []) c.cs (clause lits ∷ []) c.live (rw live refl),
      λ run k m. run-append c.cs (clause lits ∷ []) run ∙ ended (run_on run c.cs) (clause lits ∷ []) (c.next run k m.0),
    ))
  where
    ended : (o : Option (List Literal)) (cs : List Bounded) → Has o arm.False → run_on o cs ≡ None
    ended None cs h = refl
    ended (Some t) cs h = absurd h
chain-refutes s d names lits f (suc (suc n)) hints all id arms ok live c h e g = absurd (omega arith)

-- one of the halves is always true
unnamed : (v : ℕ → Bool) (lits : List Literal) (x : ℕ) → has lits (record { variable = x; positive = true }) ≡ false → has lits (record { variable = x; positive = false }) ≡ false → (l : Literal) → has lits l ≡ true → l.variable ≡ x → ⊥
unnamed v lits x p n l h e = at l.positive refl
  where
    at : (b : Bool) → l.positive ≡ b → ⊥
    at true f = (let g = subst (λ (y : Literal). has lits y ≡ true) (with_parts l x true e f) h in absurd cc)
    at false f = (let g = subst (λ (y : Literal). has lits y ≡ true) (with_parts l x false e f) h in absurd cc)

pub one-half : (given : List Given) (d : Table) (names : List (ℕ × Name)) (lits : List Literal) (f node : ℕ) (hints : List ℕ) → IsTable d → 2 ≤ node → Chain given d names lits f node hints → (high_of d node ≡ 1 → ⊥) → low_of d node ≡ 1
one-half given d names lits f node hints ok two c not_high = by (cases_Bool (has c.rest (record { variable = slice_index d.order (depth_of d node); positive = true }))) (cases_Bool (has c.rest (record { variable = slice_index d.order (depth_of d node); positive = false })))
  where
    x : ℕ
    x = slice_index d.order (depth_of d node)

    none : has c.rest (record { variable = x; positive = true }) ≡ false → has c.rest (record { variable = x; positive = false }) ≡ false → (v : ℕ → Bool) → function_of d (half d node true) v ≡ function_of d (half d node false) v
    none p n v =
        half-function d node true v ok c.there two ∙ c.function (with_value v x true) ∙ some_others v c.rest x true (λ l h e. absurd (unnamed v c.rest x p n l h e))
        ∙ sym (half-function d node false v ok c.there two ∙ c.function (with_value v x false) ∙ some_others v c.rest x false (λ l h e. absurd (unnamed v c.rest x p n l h e)))

    by : ((has c.rest (record { variable = x; positive = true }) ≡ true) ⊎ (has c.rest (record { variable = x; positive = true }) ≡ false)) → ((has c.rest (record { variable = x; positive = false }) ≡ true) ⊎ (has c.rest (record { variable = x; positive = false }) ≡ false)) → low_of d node ≡ 1
    by (inl p) n = absurd (not_high (half-true given d names lits f node hints true ok two c p))
    by (inr p) (inl n) = half-true given d names lits f node hints false ok two c n
    by (inr p) (inr n) = absurd ((branch d node ok c.there two).different (canonical d ok (high_of d node) (low_of d node) (half-there d node true ok c.there two) (half-there d node false ok c.there two) (none p n)))

-- a chain goes on, as the code does
pub chain-high : (s : ProofState) (d : Table) (names : List (ℕ × Name)) (lits : List Literal) (f node high low : ℕ) (hints : List ℕ) (n : Name) → IsTable d → IsRightName s d names node n → 2 ≤ node → name_of names node ≡ Some n → Chain s.given d names lits f node hints → high ≡ high_of d node → low ≡ low_of d node → high ≡ 1 → Chain s.given d names lits f low ((hints ++ (n.id + 2) ∷ []) ++ (n.id + 3) ∷ [])
chain-high s d names lits f node high low hints n ok r two is c eh el e =
    subst (λ (x : ℕ). Chain s.given d names lits f x ((hints ++ (n.id + 2) ∷ []) ++ (n.id + 3) ∷ [])) (sym el)
    (subst (λ (x : List ℕ). Chain s.given d names lits f (low_of d node) x) (sym (append_assoc hints ((n.id + 2) ∷ []) ((n.id + 3) ∷ []))) (chain-step s d names lits f node hints n true ok r two is c (sym eh ∙ e)))

pub chain-low : (s : ProofState) (d : Table) (names : List (ℕ × Name)) (lits : List Literal) (f node high low : ℕ) (hints : List ℕ) (n : Name) → IsTable d → IsRightName s d names node n → 2 ≤ node → name_of names node ≡ Some n → Chain s.given d names lits f node hints → high ≡ high_of d node → low ≡ low_of d node → (high ≡ 1 → ⊥) → Chain s.given d names lits f high ((hints ++ (n.id + 3) ∷ []) ++ (n.id + 2) ∷ [])
chain-low s d names lits f node high low hints n ok r two is c eh el no_high =
    subst (λ (x : ℕ). Chain s.given d names lits f x ((hints ++ (n.id + 3) ∷ []) ++ (n.id + 2) ∷ [])) (sym eh)
    (subst (λ (x : List ℕ). Chain s.given d names lits f (high_of d node) x) (sym (append_assoc hints ((n.id + 3) ∷ []) ((n.id + 2) ∷ []))) (chain-step s d names lits f node hints n false ok r two is c (one-half s.given d names lits f node hints ok two c (λ e. no_high (eh ∙ e)))))

-- a clause with a literal is true somewhere
pub clause-not-false : (d : Table) (lits : List Literal) (f : ℕ) → IsTable d → (lits ≡ [] → ⊥) → ((v : ℕ → Bool) → function_of d f v ≡ list_any (is_true_by v) lits) → f ≡ 0 → ⊥
clause-not-false d [] f ok some h e = some refl
clause-not-false d (l ∷ lits) f ok some h e =
    nothing_left (l ∷ lits) l (λ v. sym (h v) ∙ ap (λ (x : ℕ). function_of d x v) e ∙ (has_nodes d ok).no v) (or_left _ _ (same-refl l))
