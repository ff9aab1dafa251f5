-- The stages of an elimination can be made in turn: each node of them is true at values that satisfy the clauses, so
-- that none is "false", and begins with nodes whose units are made before.
use Rattle.std.proofs.Common.{◌≡◌, ℕ, zero, suc, ◌+◌, ◌≤◌, ◌<◌, ◌==◌, ◌&&◌, ◌||◌, ◌⊎◌, ◌++◌, inl, inr, Bool, true, false, List, [], ◌∷◌, length, map, reverse, take, slice_get, slice_index, Option, Some, None, refl, sym, ap, ◌∙◌, subst, arith, append_assoc}
use Rattle.std.specs.List.{AllByRecursion, list_any}
use Rattle.std.specs.Prelude.{IsSome}
use Rattle.std.specs.Option.{is_none}
use Rattle.std.proofs.lemmas.Bool.{and_parts, and_from, or_cases, or_left, or_right, cases_eq, cond-true, cond-false, eqb-true, eq-eqb, ne_eqb, true≢false}
use Rattle.std.specs.Result.{IsOk}
use Rattle.std.proofs.lemmas.List.{append-nil, reverse-append, length-reverse}
use Rattle.std.proofs.lemmas.Option.{same_Some}
use Rattle.kn_logic.specs.Literals.{Literal, AreKnown}
use Rattle.kn_logic.specs.Constraints.{Bounded, clause, is_clause}
use Rattle.kn_logic.specs.Groups.{Gathered, IsGroup}
use Rattle.kn_logic.proofs.Public.{All-push, All-append}
use Rattle.kn_rules.specs.declared.given.Given.{Given}
use Rattle.kn_rules.specs.States.{ProofState, live_at}
use Rattle.kn_rules.specs.Steps.{count}
use Rattle.kn_diagram.specs.Diagrams.{Table, IsTable, IsNode, with_value, function_of, is_true_by}
use Rattle.kn_diagram.proofs.Public.{has_nodes}
use Rattle.kn_quant.specs.declared.stage.Stage.{Stage}
use Rattle.kn_quant.specs.declared.stage.Stage.TheVariants.{Clause, And, Exists}
use Rattle.kn_quant.specs.Quantified.{some_value}
use Rattle.kn_quant.specs.Runs.{clause_function, order_of}
use Rattle.kn_quant.specs.Eliminations.{Eliminated, IsElimination, IsEliminationOf, node_of, has_node, IsStage, AreStages, IsClauseAt, IsNoClause, HasClauses}
use Rattle.kn_justify.specs.declared.name.Name.{Name}
use Rattle.kn_justify.specs.Names.{name_of, AreRight, IsUnit}
use Rattle.kn_justify.specs.Closings.{AreLive}
use Rattle.kn_justify.specs.Taken.{AreTaken, IsGroupWithin, IsOrderKnown, CountsBorder, unit_of, has_unit, AreUnits, AreMade, AreMadeInTurn, IsTakenAt, IsNext}
use Rattle.kn_justify.proofs.GridLemmas.{some_values}
use Rattle.kn_justify.proofs.CountLemmas.{border-different, is-count, count-branch, known-turned, klause-steps}
use Rattle.kn_justify.proofs.NameLemmas.{has-names}
use Rattle.kn_justify.proofs.DeletionLemmas.{live-ids}
use Rattle.kn_justify.proofs.MakingLemmas.{unit-found}

-- what holds of each node of stages holds of one that is among them
node-all : (P : ℕ → Type 0) (stages : List Stage) (n : ℕ) → AllByRecursion (λ s. P (node_of s)) stages → has_node stages n ≡ true → P n
node-all P [] n h e = absurd (true≢false (sym e))
node-all P (s ∷ ss) n h e = by (or_cases (node_of s == n) (has_node ss n) e) (node-all P ss n h.1)
  where
    by : ((node_of s == n) ≡ true) ⊎ (has_node ss n ≡ true) → (has_node ss n ≡ true → P n) → P n
    by (inl t) rest = subst P (eqb-true (node_of s) n t) h.0
    by (inr t) rest = rest t

-- The nodes of stages are true at some values.
abbrev pub AreTrueAt : Table → (ℕ → Bool) → List Stage → Type 0
AreTrueAt d w stages = AllByRecursion (λ s. function_of d (node_of s) w ≡ true) stages

node-true : (d : Table) (w : ℕ → Bool) (stages : List Stage) (n : ℕ) → AreTrueAt d w stages → has_node stages n ≡ true → function_of d n w ≡ true
node-true d w stages n h e = node-all (λ n. function_of d n w ≡ true) stages n h e

own-value : (w : ℕ → Bool) (y : ℕ) → with_value w y (w y) ≡ w
own-value w y = λ i x. at x (cases_eq x y) i
  where
    at : (x : ℕ) → ((x ≡ y) ⊎ (x ≡ y → ⊥)) → with_value w y (w y) x ≡ w x
    at x (inl z) = cond-true (x == y) (w y) (w x) (eq-eqb x y z) ∙ ap w (sym z)
    at x (inr z) = cond-false (x == y) (w y) (w x) (ne_eqb x y z)

some-true : (f : (ℕ → Bool) → Bool) (y : ℕ) (w : ℕ → Bool) → f w ≡ true → some_value y f w ≡ true
some-true f y w h = by (w y) refl
  where
    at : (b : Bool) → w y ≡ b → f (with_value w y b) ≡ true
    at b e = ap (λ (c : Bool). f (with_value w y c)) (sym e) ∙ ap f (own-value w y) ∙ h

    by : (b : Bool) → w y ≡ b → some_value y f w ≡ true
    by true e = or_left (f (with_value w y true)) (f (with_value w y false)) (at true e)
    by false e = or_right (f (with_value w y true)) (f (with_value w y false)) (at false e)

stage-true : (d : Table) (w : ℕ → Bool) (before : List Stage) (s : Stage) → IsNoClause s → IsStage d before s → AreTrueAt d w before → function_of d (node_of s) w ≡ true
stage-true d w before (Clause taken node) n h t = absurd n
stage-true d w before (And left right node met) n h t =
    h.function w ∙ and_from (function_of d left w) (function_of d right w) (node-true d w before left t h.left_has) (node-true d w before right t h.right_has)
stage-true d w before (Exists variable from node met halves) n h t = h.function w ∙ some-true (function_of d from) variable w (node-true d w before from t h.from_has)

clause-true : (d : Table) (w : ℕ → Bool) (place : ℕ) (c : Bounded) (s : Stage) → IsClauseAt d place c s → clause_function c w ≡ true → function_of d (node_of s) w ≡ true
clause-true d w place c (Clause taken node) h t = h.1 w ∙ t
clause-true d w place c (And left right node met) h t = absurd h
clause-true d w place c (Exists variable from node met halves) h t = absurd h

stages-true : (d : Table) (w : ℕ → Bool) (place : ℕ) (cs : List Bounded) (before ss : List Stage) → HasClauses d place cs ss → AllByRecursion (λ c. clause_function c w ≡ true) cs → AreStages d before ss → AreTrueAt d w before → AreTrueAt d w ss
stages-true d w place [] before [] k t h b = tt
stages-true d w place [] before (s ∷ ss) k t h b =
    let own = stage-true d w before s k.0 h.0 b in
    (own, stages-true d w place [] (before ++ s ∷ []) ss k.1 t h.1 (All-push (λ x. function_of d (node_of x) w ≡ true) before s b own))
stages-true d w place (c ∷ cs) before [] k t h b = absurd k
stages-true d w place (c ∷ cs) before (s ∷ ss) k t h b =
    let own = clause-true d w place c s k.0 t.0 in
    (own, stages-true d w (place + 1) cs (before ++ s ∷ []) ss k.1 t.1 h.1 (All-push (λ x. function_of d (node_of x) w ≡ true) before s b own))

-- the stage at a place
All-get : {X : Type 0} (P : X → Type 0) (xs : List X) (k : ℕ) (x : X) → AllByRecursion P xs → slice_get xs k ≡ Some x → P x
All-get P [] k x h e = absurd cc
All-get {X} P (y ∷ ys) zero x h e = subst P (same_Some y x e) h.0
All-get P (y ∷ ys) (suc k) x h e = All-get P ys k x h.1 e

stage-at : (d : Table) (before ss : List Stage) (i : ℕ) (s : Stage) → AreStages d before ss → slice_get ss i ≡ Some s → IsStage d (before ++ take i ss) s
stage-at d before [] i s h e = absurd cc
stage-at d before (x ∷ ss) zero s h e = subst (λ (xs : List Stage). IsStage d xs s) (sym (append-nil before)) (subst (λ (y : Stage). IsStage d before y) (same_Some x s e) h.0)
stage-at d before (x ∷ ss) (suc i) s h e = subst (λ (xs : List Stage). IsStage d xs s) (append_assoc before (x ∷ []) (take i ss)) (stage-at d (before ++ x ∷ []) ss i s h.1 e)

-- the clause of an entry
first-clause : (d : Table) (place : ℕ) (c : Bounded) (s : Stage) (taken node : ℕ) → IsClauseAt d place c s → ◌≡◌ {A = Option Stage} (Some s) (Some (Clause taken node)) → IsClauseAt d place c (Clause taken node)
first-clause d place c s taken node h e = subst (λ (x : Stage). IsClauseAt d place c x) (same_Some s (Clause taken node) e) h

clause-at : (d : Table) (place : ℕ) (cs : List Bounded) (ss : List Stage) (k taken node : ℕ) → HasClauses d place cs ss → slice_get ss k ≡ Some (Clause taken node)
    → (c : Bounded) × (slice_get cs k ≡ Some c) × (taken ≡ place + k) × ((v : ℕ → Bool) → function_of d node v ≡ clause_function c v)
clause-at d place [] ss k taken node h e = absurd (All-get IsNoClause ss k (Clause taken node) h e)
clause-at d place (c ∷ cs) [] k taken node h e = absurd h
clause-at d place (c ∷ cs) (s ∷ ss) zero taken node h e = (let own = first-clause d place c s taken node h.0 e in (c, refl, omega (arith, own.0), own.1))
clause-at d place (c ∷ cs) (s ∷ ss) (suc k) taken node h e = (let (x, is, at, f) = clause-at d (place + 1) cs ss k taken node h.1 e in (x, is, omega (arith, at), f))

taken-at : (given : List Given) (ids : List ℕ) (cs : List Bounded) (k : ℕ) (c : Bounded) → AreTaken given ids cs → slice_get cs k ≡ Some c → (id : ℕ) × (slice_get ids k ≡ Some id) × (live_at given id ≡ Some c)
taken-at given [] [] k c h e = absurd cc
taken-at given (id ∷ ids) [] k c h e = absurd h
taken-at given [] (x ∷ cs) k c h e = absurd h
taken-at given (id ∷ ids) (x ∷ cs) zero c h e = (id, refl, h.0 ∙ e)
taken-at given (id ∷ ids) (x ∷ cs) (suc k) c h e = taken-at given ids cs k c h.1 e

none-is : {X : Type 0} (o : Option X) → is_none o ≡ true → o ≡ None
none-is None e = refl
none-is (Some x) e = absurd (true≢false (sym e))

clause-formed : (c : Bounded) → is_clause c ≡ true → c ≡ clause c.lits
clause-formed c e =
    let parts = and_parts (is_none c.guard) (c.bound == 1) e in
    let guard = none-is c.guard parts.0 in
    let bound : c.bound ≡ 1 = eqb-true c.bound 1 parts.1 in
    λ i. record { guard = guard i; bound = bound i; lits = c.lits }

-- what the next unit is made of
not-false : (d : Table) (node : ℕ) (w : ℕ → Bool) → IsTable d → function_of d node w ≡ true → node ≡ 0 → ⊥
not-false d node w ok t e = true≢false (sym t ∙ ap (λ (x : ℕ). function_of d x w) e ∙ (has_nodes d ok).no w)

made-unit : (units : List (ℕ × Option ℕ)) (stages : List Stage) (n : ℕ) → AreMade units stages → has_node stages n ≡ true → has_unit units n ≡ true
made-unit units stages n h e = node-all (λ n. has_unit units n ≡ true) stages n h e

next-of : (given : List Given) (d : Table) (cs : List Bounded) (ids : List ℕ) (units : List (ℕ × Option ℕ)) (before : List Stage) (s : Stage) (w : ℕ → Bool) → IsTable d → IsStage d before s → AreMade units before → function_of d (node_of s) w ≡ true
    → ((taken node : ℕ) → s ≡ Clause taken node → IsTakenAt given d cs ids taken node) → IsNext given d cs ids units s
next-of given d cs ids units before (Clause taken node) w ok h m t c = c taken node refl
next-of given d cs ids units before (And left right node met) w ok h m t c = ((h.traced, not-false d node w ok t), made-unit units before left m h.left_has, made-unit units before right m h.right_has)
next-of given d cs ids units before (Exists variable from node met halves) w ok h m t c = ((h.traced, not-false d node w ok t), made-unit units before from m h.from_has)

taken-clause : (g : Gathered) (e : Eliminated) (given : List Given) (ids : List ℕ) (w : ℕ → Bool) (place taken node : ℕ) → IsGroup g → IsElimination e → IsEliminationOf g e → AreTaken given ids g.taken → AllByRecursion (λ c. clause_function c w ≡ true) g.taken
    → slice_get e.stages place ≡ Some (Clause taken node) → IsTakenAt given e.table g.taken ids taken node
taken-clause g e given ids w place taken node group h of all t at =
    let (c, is, place_is, function) = clause-at e.table 0 g.taken e.stages place taken node of.clauses at in
    let (id, id_is, live) = taken-at given ids g.taken place c all is in
    let same : place ≡ taken = omega (arith, place_is) in
    let true_here : list_any (is_true_by w) c.lits ≡ true = All-get (λ x. clause_function x w ≡ true) g.taken place c t is in
    record {
      c = c;
      id = id;
      clause_is = subst (λ (k : ℕ). slice_get g.taken k ≡ Some c) same is;
      id_is = subst (λ (k : ℕ). slice_get ids k ≡ Some id) same id_is;
      live = live;
      formed = clause-formed c (All-get (λ x. is_clause x ≡ true) g.taken place c group.clauses is);
      filled = λ none. true≢false (sym true_here ∙ ap (λ (ls : List Literal). list_any (is_true_by w) ls) none);
      there = stage-at e.table [] e.stages place (Clause taken node) h.stages at;
      function = function;
    }

pub made-in-turn : (g : Gathered) (e : Eliminated) (given : List Given) (ids : List ℕ) (w : ℕ → Bool) → IsTable e.table → IsGroup g → IsElimination e → IsEliminationOf g e → AreTaken given ids g.taken → AllByRecursion (λ c. clause_function c w ≡ true) g.taken
    → AreMadeInTurn given e.table g.taken ids e.stages
made-in-turn g e given ids w ok group h of all t place s units at made =
    next-of given e.table g.taken ids units (take place e.stages) s w ok (stage-at e.table [] e.stages place s h.stages at) made
    (All-get (λ x. function_of e.table (node_of x) w ≡ true) e.stages place s (stages-true e.table w 0 g.taken [] e.stages of.clauses t h.stages tt) at)
    (λ taken node is. taken-clause g e given ids w place taken node group h of all t (at ∙ ap Some is))

-- Some values satisfy the clauses of a group that counts its border.
pub holds-somewhere : (g : Gathered) (bound : ℕ) → IsGroup g → CountsBorder g bound → bound ≤ length g.border → (w : ℕ → Bool) × AllByRecursion (λ c. clause_function c w ≡ true) g.taken
holds-somewhere g bound group counts top =
    let (v, all) = some_values g.border (length g.border) (border-different g group) (omega arith) in
    let (w, agree, t) = (counts v).1 (omega (arith, all, top)) in
    (w, t)

-- the variables of the order
border_variables : (vars : ℕ) (lits : List Literal) → AreKnown vars lits → AllByRecursion (λ y. (1 ≤ y) × (y ≤ vars)) (map (λ l. l.variable) lits)
border_variables vars [] h = tt
border_variables vars (l ∷ lits) h = (h.0, border_variables vars lits h.1)

All-turned : {X : Type 0} (P : X → Type 0) (xs : List X) → AllByRecursion P xs → AllByRecursion P (reverse xs)
All-turned P [] h = tt
All-turned {X} P (x ∷ xs) h = subst (λ (ys : List X). AllByRecursion P ys) (sym (reverse-append (x ∷ []) xs)) (All-push P (reverse xs) x (All-turned P xs h.1) h.0)

All-index : (P : ℕ → Type 0) (xs : List ℕ) (i : ℕ) → AllByRecursion P xs → i < length xs → P (slice_index xs i)
All-index P [] i h low = absurd (omega (arith, low))
All-index P (x ∷ xs) zero h low = h.0
All-index P (x ∷ xs) (suc i) h low = All-index P xs i h.1 (omega (arith, low))

pub group-known : (vars : ℕ) (g : Gathered) (d : Table) → IsGroupWithin vars g → d.order ≡ order_of g → IsOrderKnown vars d
group-known vars g d h order depth low =
    All-index (λ y. (1 ≤ y) × (y ≤ vars)) d.order depth
    (subst (λ (xs : List ℕ). AllByRecursion (λ y. (1 ≤ y) × (y ≤ vars)) xs) (sym order)
    (All-turned (λ y. (1 ≤ y) × (y ≤ vars)) (map (λ l. l.variable) g.border ++ g.aux) (All-append (λ y. (1 ≤ y) × (y ≤ vars)) (map (λ l. l.variable) g.border) g.aux (border_variables vars g.border h.border) h.aux))) low

pub taken-live : (given : List Given) (ids : List ℕ) (cs : List Bounded) → AreTaken given ids cs → AreLive given ids
taken-live given [] cs h = tt
taken-live given (id ∷ ids) [] h = absurd h
taken-live given (id ∷ ids) (c ∷ cs) h = (subst (λ (o : Option Bounded). IsSome o) (sym h.0) refl, taken-live given ids cs h.1)

-- the unit of the result
pub result-unit : (e : Eliminated) (units : List (ℕ × Option ℕ)) → IsElimination e → 2 ≤ e.result → AreMade units e.stages → has_unit units e.result ≡ true
result-unit e units h two made = by h.result
  where
    by : ((e.stages ≡ []) × (e.result ≡ 1)) ⊎ (has_node e.stages e.result ≡ true) → has_unit units e.result ≡ true
    by (inl (none, one)) = absurd (omega (arith, one, two))
    by (inr there) = made-unit units e.stages e.result made there

unit-some : (given : List Given) (names : List (ℕ × Name)) (node : ℕ) (id : Option ℕ) → 2 ≤ node → IsUnit given names node id → id ≡ None → ⊥
unit-some given names node None two h e = omega (arith, h, two)
unit-some given names node (Some id) two h e = absurd cc

pub root-two : (g : Gathered) (e : Eliminated) (bound : ℕ) → IsTable e.table → IsGroup g → IsEliminationOf g e → IsNode e.table e.result → CountsBorder g bound → (1 ≤ bound) × (bound ≤ length g.border) → 2 ≤ e.result
root-two g e bound ok group of there counts h =
    count-branch e.table (reverse g.aux) (reverse g.border) bound e.result ok (is-count g e bound group of ok there counts) h.0 (omega (arith, h.1, length-reverse g.border))

pub root-not-none : (given : List Given) (names : List (ℕ × Name)) (units : List (ℕ × Option ℕ)) (node : ℕ) (o : Option (Option ℕ)) (id : Option ℕ) → 2 ≤ node → AreUnits given names units → o ≡ unit_of units node → o ≡ Some id → id ≡ None → ⊥
root-not-none given names units node o id two h e f = unit-some given names node id two (unit-found given names units node o id h e f).0

pub root-named : (given : List Given) (names : List (ℕ × Name)) (units : List (ℕ × Option ℕ)) (node : ℕ) (o : Option (Option ℕ)) (id : Option ℕ) (name : Option Name) → 2 ≤ node → AreUnits given names units → o ≡ unit_of units node → o ≡ Some id → name ≡ name_of names node → name ≡ None → ⊥
root-named given names units node o id name two h e f is none = (let (n, there) = (unit-found given names units node o id h e f).1 two in let clash : ◌≡◌ {A = Option Name} (Some n) None = sym there ∙ sym is ∙ none in absurd cc)

-- The line of the klause steps.
pub closing-steps : (s : ProofState) (g : Gathered) (e : Eliminated) (names : List (ℕ × Name)) (units : List (ℕ × Option ℕ)) (bound unit : ℕ) (n : Name) → IsTable e.table → IsGroup g → IsEliminationOf g e → IsNode e.table e.result → CountsBorder g bound → (1 ≤ bound) × (bound ≤ length g.border)
    → AreKnown s.vars g.border → AreRight s e.table names → AreUnits s.given names units → unit_of units e.result ≡ Some (Some unit) → name_of names e.result ≡ Some n → IsOk (count s bound (reverse g.border) n.lit.variable unit)
closing-steps s g e names units bound unit n ok group of there counts h known right are is named =
    let found = unit-found s.given names units e.result (unit_of units e.result) (Some unit) are refl is in
    klause-steps s e.table names (reverse g.aux) (reverse g.border) bound e.result unit n ok (is-count g e bound group of ok there counts) (has-names s e.table names e.result ok there right found.1) h.0 (omega (arith, h.1, length-reverse g.border))
    (known-turned s.vars g.border known) named found.0

pub unit-counted : (given : List Given) (names : List (ℕ × Name)) (units : List (ℕ × Option ℕ)) (node unit : ℕ) → AreUnits given names units → unit_of units node ≡ Some (Some unit) → 1 ≤ unit
unit-counted given names units node unit are is =
    (let found = unit-found given names units node (unit_of units node) (Some unit) are refl is in (live-ids given (unit ∷ []) (subst (λ (o : Option Bounded). IsSome o) (sym found.0.1) refl, tt)).0)
