-- What is made of an elimination stays right while more is made.
use Rattle.std.proofs.Common.{ℕ, ◌≡◌, ◌+◌, ◌-◌, ◌==◌, ◌⊎◌, inl, inr, Bool, true, false, ◌&&◌, ◌||◌, List, [], ◌∷◌, ◌++◌, length, refl, sym, ap, subst, ◌∙◌, arith, append_assoc, length-append, true≢false}
use Rattle.std.specs.List.{AllByRecursion}
use Rattle.std.proofs.lemmas.List.{append-nil}
use Rattle.std.proofs.lemmas.List.Folds.{list_any-append}
use Rattle.std.proofs.lemmas.Bool.{eqb-true, eq-eqb, or_cases, or_left, or_right}
use Rattle.kn_logic.specs.Constraints.{Bounded}
use Rattle.kn_diagram.specs.declared.trace.Met.{Met}
use Rattle.kn_diagram.specs.declared.error.DiagramError.{DiagramError}
use Rattle.kn_diagram.specs.declared.error.DiagramError.TheVariants as Diagram
use Rattle.kn_diagram.specs.Diagrams.{Table, IsNode, function_of, Keeps}
use Rattle.kn_diagram.specs.Traces.{IsRight, AreExplained, Explains}
use Rattle.kn_diagram.specs.Wide.{IsWide, IsWideAt, IfWide}
use Rattle.kn_diagram.proofs.Public.{AreExplained-kept, IsRight-kept, Keeps-self, Keeps-along}
use Rattle.kn_quant.specs.declared.stage.Stage.{Stage}
use Rattle.kn_quant.specs.declared.stage.Stage.TheVariants.{Clause, And, Exists}
use Rattle.kn_quant.specs.declared.stage.Bucket.{Bucket}
use Rattle.kn_quant.specs.declared.error.QuantError.{QuantError}
use Rattle.kn_quant.specs.declared.error.QuantError.TheVariants.{Wide, Memory}
use Rattle.kn_quant.specs.Quantified.{some_value, entry_of, IsQuantified, AreAccounted, Quantifies}
use Rattle.kn_quant.specs.Runs.{Function, Step, Join, Quantify, given, AreNarrow, clause_function}
use Rattle.kn_quant.specs.Eliminations.{Eliminated, IsElimination, IsThere, Progress, node_of, has_node, IsConjunction, IsQuantification, IsStage, AreStages, AreBuckets, step_of, steps_of, buckets_of, IsClauseAt, IsNoClause, HasClauses, IsProgress, Makes, IsGiven, StopsIn, IfWideStage, error_after, Takes, IsPiece, ArePieces, functions_of}
use Rattle.kn_quant.proofs.SettleLemmas.{IsQuantified-kept, AreAccounted-kept}

explained-last : (join : Bool → Bool → Bool) (d : Table) (before ms : List Met) (m : Met) → AreExplained join d before (ms ++ m ∷ []) → IsRight join d m
explained-last join d before [] m h = h.0.right
explained-last join d before (x ∷ ms) m h = explained-last join d (before ++ x ∷ []) ms m h.1

accounted-last : (d : Table) (variable : ℕ) (halves before ms : List Met) (m : Met) → AreAccounted d variable halves before (ms ++ m ∷ []) → IsQuantified d variable m.u m.w
accounted-last d variable halves before [] m h = h.0.right
accounted-last d variable halves before (x ∷ ms) m h = accounted-last d variable halves (before ++ x ∷ []) ms m h.1

pub conjunction-right : (d : Table) (before : List Stage) (left right node : ℕ) (met : List Met) → IsConjunction d before left right node met
    → IsRight (λ a b. a && b) d (record { u = left; v = right; w = node })
conjunction-right d before left right node met c =
    explained-last (λ a b. a && b) d [] c.traced.earlier (record { u = left; v = right; w = node }) c.traced.explained

pub quantification-right : (d : Table) (before : List Stage) (variable from node : ℕ) (met halves : List Met) → IsQuantification d before variable from node met halves
    → IsQuantified d variable from node
quantification-right d before variable from node met halves q =
    accounted-last d variable q.traced.halves [] q.traced.earlier (entry_of from node) q.traced.accounted

stage-node : (d : Table) (before : List Stage) (s : Stage) → IsStage d before s → IsNode d (node_of s)
stage-node d before (Clause taken node) h = h
stage-node d before (And left right node met) h = h.there
stage-node d before (Exists variable from node met halves) h = h.there

-- the node of an entry is there
pub node-there : (d : Table) (before ss : List Stage) (n : ℕ) → AreStages d before ss → has_node ss n ≡ true → IsNode d n
node-there d before [] n h e = absurd (true≢false (sym e))
node-there d before (s ∷ ss) n h e = by (or_cases (node_of s == n) (has_node ss n) e) (node-there d (before ++ s ∷ []) ss n h.1)
  where
    by : ((node_of s == n) ≡ true) ⊎ (has_node ss n ≡ true) → (has_node ss n ≡ true → IsNode d n) → IsNode d n
    by (inl t) rest = subst (IsNode d) (eqb-true (node_of s) n t) (stage-node d before s h.0)
    by (inr t) rest = rest t

-- the nodes of the buckets are there
pub buckets-there : (d : Table) (ss : List Stage) (bs : List Bucket) → AreStages d [] ss → AreBuckets ss bs → AllByRecursion (λ b. IsNode d b.function) bs
buckets-there d ss [] h a = tt
buckets-there d ss (b ∷ bs) h a = (node-there d [] ss b.function h a.0, buckets-there d ss bs h a.1)

stage-there : (d : Table) (before : List Stage) (s : Stage) → IsStage d before s → IsThere d s
stage-there d before (Clause taken node) h = h
stage-there d before (And left right node met) h =
    let r = conjunction-right d before left right node met h in (r.u_there, r.v_there, r.w_there)
stage-there d before (Exists variable from node met halves) h =
    let r = quantification-right d before variable from node met halves h in (r.u_there, r.w_there)

-- the nodes of the entries are there
pub stages-there : (d : Table) (before ss : List Stage) → AreStages d before ss → AllByRecursion (IsThere d) ss
stages-there d before [] h = tt
stages-there d before (s ∷ ss) h = (stage-there d before s h.0, stages-there d (before ++ s ∷ []) ss h.1)

-- the result's node is there
pub result-there : (e : Eliminated) → IsElimination e → IsNode e.table e.result
result-there e h = by h.result
  where
    by : ((e.stages ≡ []) × (e.result ≡ 1)) ⊎ (has_node e.stages e.result ≡ true) → IsNode e.table e.result
    by (inl (a, one)) = omega arith
    by (inr has) = node-there e.table [] e.stages e.result h.stages has

stage-kept : (old new : Table) (before : List Stage) (s : Stage) → Keeps old new → IsStage old before s → IsStage new before s
stage-kept old new before (Clause taken node) k h = (k.nodes node h).there
stage-kept old new before (And left right node met) k h =
    let r = IsRight-kept (λ a b. a && b) old new (record { u = left; v = right; w = node }) k (conjunction-right old before left right node met h) in
    record {
      left_has = h.left_has;
      right_has = h.right_has;
      there = r.w_there;
      function = r.function;
      traced = record {
        earlier = h.traced.earlier;
        grown = h.traced.grown;
        explained = AreExplained-kept (λ a b. a && b) old new [] (h.traced.earlier ++ record { u = left; v = right; w = node } ∷ []) k h.traced.explained;
      };
    }
stage-kept old new before (Exists variable from node met halves) k h =
    let r = IsQuantified-kept old new variable from node k (quantification-right old before variable from node met halves h) in
    record {
      from_has = h.from_has;
      there = r.w_there;
      function = r.function;
      traced = record {
        earlier = h.traced.earlier;
        halves = h.traced.halves;
        grown = h.traced.grown;
        halves_grown = h.traced.halves_grown;
        explained = AreExplained-kept (λ a b. a || b) old new [] h.traced.halves k h.traced.explained;
        accounted = AreAccounted-kept old new variable h.traced.halves [] (h.traced.earlier ++ entry_of from node ∷ []) k h.traced.accounted;
      };
    }

stages-kept : (old new : Table) (before ss : List Stage) → Keeps old new → AreStages old before ss → AreStages new before ss
stages-kept old new before [] k h = tt
stages-kept old new before (s ∷ ss) k h = (stage-kept old new before s k h.0, stages-kept old new (before ++ s ∷ []) ss k h.1)

pub function-kept : (old new : Table) (n : ℕ) → Keeps old new → IsNode old n → function_of new n ≡ function_of old n
function-kept old new n k h = λ i v. (k.nodes n h).function v i

step-kept : (old new : Table) (before : List Stage) (s : Stage) → Keeps old new → IsStage old before s → step_of new s ≡ step_of old s
step-kept old new before (Clause taken node) k h = refl
step-kept old new before (And left right node met) k h =
    let r = conjunction-right old before left right node met h in
    λ i. Join (function-kept old new left k r.u_there i) (function-kept old new right k r.v_there i) ∷ []
step-kept old new before (Exists variable from node met halves) k h =
    let r = quantification-right old before variable from node met halves h in
    λ i. Quantify variable (function-kept old new from k r.u_there i) ∷ []

pub steps-kept : (old new : Table) (before ss : List Stage) → Keeps old new → AreStages old before ss → steps_of new ss ≡ steps_of old ss
steps-kept old new before [] k h = refl
steps-kept old new before (s ∷ ss) k h = λ i. step-kept old new before s k h.0 i ++ steps-kept old new (before ++ s ∷ []) ss k h.1 i

steps-append : (d : Table) (xs ys : List Stage) → steps_of d (xs ++ ys) ≡ steps_of d xs ++ steps_of d ys
steps-append d [] ys = refl
steps-append d (x ∷ xs) ys = ap (λ z. step_of d x ++ z) (steps-append d xs ys) ∙ sym (append_assoc (step_of d x) (steps_of d xs) (steps_of d ys))

stages-more : (d : Table) (before ss : List Stage) (s : Stage) → AreStages d before ss → IsStage d (before ++ ss) s → AreStages d before (ss ++ s ∷ [])
stages-more d before [] s h e = (subst (λ b. IsStage d b s) (append-nil before) e, tt)
stages-more d before (x ∷ ss) s h e =
    (h.0, stages-more d (before ++ x ∷ []) ss s h.1 (subst (λ b. IsStage d b s) (sym (append_assoc before (x ∷ []) ss)) e))

pub has_node-more : (ss more : List Stage) (n : ℕ) → has_node ss n ≡ true → has_node (ss ++ more) n ≡ true
has_node-more ss more n h = list_any-append (λ s. node_of s == n) ss more ∙ or_left (has_node ss n) (has_node more n) h

pub has_node-last : (ss : List Stage) (s : Stage) → has_node (ss ++ s ∷ []) (node_of s) ≡ true
has_node-last ss s =
    list_any-append (λ x. node_of x == node_of s) ss (s ∷ [])
    ∙ or_right (has_node ss (node_of s)) (has_node (s ∷ []) (node_of s)) (or_left (node_of s == node_of s) false (eq-eqb (node_of s) (node_of s) refl))

pub buckets-kept : (old new : Table) (ss : List Stage) (bs : List Bucket) → Keeps old new → AreStages old [] ss → AreBuckets ss bs → buckets_of new bs ≡ buckets_of old bs
buckets-kept old new ss [] k h a = refl
buckets-kept old new ss (b ∷ bs) k h a =
    λ i. (b.var, function-kept old new b.function k (node-there old [] ss b.function h a.0) i) ∷ buckets-kept old new ss bs k h a.1 i

are-buckets-more : (ss more : List Stage) (bs : List Bucket) → AreBuckets ss bs → AreBuckets (ss ++ more) bs
are-buckets-more ss more [] a = tt
are-buckets-more ss more (b ∷ bs) a = (has_node-more ss more b.function a.0, are-buckets-more ss more bs a.1)

clause-kept : (old new : Table) (before : List Stage) (place : ℕ) (c : Bounded) (s : Stage) → Keeps old new → IsStage old before s → IsClauseAt old place c s → IsClauseAt new place c s
clause-kept old new before place c (Clause taken node) k h e = (e.0, λ v. (k.nodes node h).function v ∙ e.1 v)
clause-kept old new before place c (And left right node met) k h e = e
clause-kept old new before place c (Exists variable from node met halves) k h e = e

no-clauses-more : (ss : List Stage) (s : Stage) → AllByRecursion IsNoClause ss → IsNoClause s → AllByRecursion IsNoClause (ss ++ s ∷ [])
no-clauses-more [] s h e = (e, tt)
no-clauses-more (x ∷ ss) s h e = (h.0, no-clauses-more ss s h.1 e)

clauses-kept : (old new : Table) (before : List Stage) (place : ℕ) (cs : List Bounded) (ss : List Stage) → Keeps old new → AreStages old before ss
    → HasClauses old place cs ss → HasClauses new place cs ss
clauses-kept old new before place [] ss k h e = e
clauses-kept old new before place (c ∷ cs) [] k h e = e
clauses-kept old new before place (c ∷ cs) (s ∷ ss) k h e =
    (clause-kept old new before place c s k h.0 e.0, clauses-kept old new (before ++ s ∷ []) (place + 1) cs ss k h.1 e.1)

clauses-more : (d : Table) (place : ℕ) (cs : List Bounded) (ss : List Stage) (s : Stage) → IsNoClause s → HasClauses d place cs ss → HasClauses d place cs (ss ++ s ∷ [])
clauses-more d place [] ss s n e = no-clauses-more ss s e n
clauses-more d place (c ∷ cs) [] s n e = absurd e
clauses-more d place (c ∷ cs) (x ∷ ss) s n e = (e.0, clauses-more d (place + 1) cs ss s n e.1)

pub narrow-append : (order : List ℕ) (xs ys : List Step) → AreNarrow order xs → AreNarrow order ys → AreNarrow order (xs ++ ys)
narrow-append order [] ys a b = b
narrow-append order (x ∷ xs) ys a b = (a.0, narrow-append order xs ys a.1 b)

-- A stage comes next: what is needed of it.
pub record Adds (p : Progress) (d : Table) (s : Stage) (step : Step) : Type 0 where
  pub kept : Keeps p.table d
  pub stage : IsStage d p.stages s
  pub no_clause : IsNoClause s
  pub step_is : step_of d s ≡ step ∷ []
  pub function : function_of d (node_of s) ≡ given step
  pub narrow : IsWide d.order (given step) → ⊥

abbrev pub progress : Table → List Stage → List Bucket → ℕ → Progress
progress d stages buckets taken = record { table = d; stages = stages; buckets = buckets; taken = taken }

abbrev pub with_table : Progress → Table → Progress
with_table p d = record { table = d; stages = p.stages; buckets = p.buckets; taken = p.taken }

abbrev pub with_stage : Progress → Table → Stage → Progress
with_stage p d s = record { table = d; stages = p.stages ++ s ∷ []; buckets = p.buckets; taken = p.taken }

pub progress-kept : (p : Progress) (d : Table) → Keeps p.table d → IsProgress p → IsProgress (with_table p d)
progress-kept p d k h =
    let same = steps-kept p.table d [] p.stages k h.stages in
    record {
      stages = stages-kept p.table d [] p.stages k h.stages;
      buckets = h.buckets;
      narrow = subst (λ o. AreNarrow o (steps_of d p.stages)) (sym k.order) (subst (AreNarrow p.table.order) (sym same) h.narrow);
      count = omega (arith, h.count, ap length same);
    }

steps-added : (p : Progress) (d : Table) (s : Stage) (step : Step) → IsProgress p → Adds p d s step → steps_of d (p.stages ++ s ∷ []) ≡ steps_of p.table p.stages ++ step ∷ []
steps-added p d s step h a =
    steps-append d p.stages (s ∷ []) ∙ (λ i. steps-kept p.table d [] p.stages a.kept h.stages i ++ (append-nil (step_of d s) ∙ a.step_is) i)

pub progress-added : (p : Progress) (d : Table) (s : Stage) (step : Step) → IsProgress p → Adds p d s step → IsProgress (with_stage p d s)
progress-added p d s step h a =
    let all = steps-added p d s step h a in
    record {
      stages = stages-more d [] p.stages s (stages-kept p.table d [] p.stages a.kept h.stages) a.stage;
      buckets = are-buckets-more p.stages (s ∷ []) p.buckets h.buckets;
      narrow = subst (AreNarrow d.order) (sym all) (narrow-append d.order (steps_of p.table p.stages) (step ∷ [])
          (subst (λ o. AreNarrow o (steps_of p.table p.stages)) (sym a.kept.order) h.narrow) (a.narrow, tt));
      count = omega (arith, h.count, ap length all, length-append p.stages (s ∷ []), length-append (steps_of p.table p.stages) (step ∷ []));
    }

pub makes-added : (p : Progress) (d : Table) (s : Stage) (step : Step) → IsProgress p → Adds p d s step → Makes p (with_stage p d s) (step ∷ []) []
makes-added p d s step h a = record {
  kept = a.kept;
  steps_are = steps-added p d s step h a;
  buckets_are = buckets-kept p.table d p.stages p.buckets a.kept h.stages h.buckets ∙ sym (append-nil (buckets_of p.table p.buckets));
  nodes = λ n e. has_node-more p.stages (s ∷ []) n e;
  clauses = λ cs e. clauses-more d 0 cs p.stages s a.no_clause (clauses-kept p.table d [] 0 cs p.stages a.kept h.stages e);
}

pub given-added : (p : Progress) (d : Table) (s : Stage) (step : Step) → Adds p d s step → IsGiven (with_stage p d s) (given step) (node_of s)
given-added p d s step a = record { has = has_node-last p.stages s; there = stage-node d p.stages s a.stage; function = a.function }

pub adds-and : (p : Progress) (d : Table) (left right node : ℕ) (met : List Met) → IsProgress p → has_node p.stages left ≡ true → has_node p.stages right ≡ true
    → Keeps p.table d → IsNode d node → ((v : ℕ → Bool) → function_of d node v ≡ (function_of p.table left v && function_of p.table right v))
    → Explains (λ a b. a && b) d [] met (record { u = left; v = right; w = node }) → (IsWide d.order (function_of d node) → ⊥)
    → Adds p d (And left right node met) (Join (function_of p.table left) (function_of p.table right))
adds-and p d left right node met h has_left has_right k there means traced narrow =
    let l = function-kept p.table d left k (node-there p.table [] p.stages left h.stages has_left) in
    let r = function-kept p.table d right k (node-there p.table [] p.stages right h.stages has_right) in
    record {
      kept = k;
      stage = record {
        left_has = has_left;
        right_has = has_right;
        there = there;
        function = λ v. means v ∙ (λ i. sym l i v && sym r i v);
        traced = traced;
      };
      no_clause = tt;
      step_is = λ i. Join (l i) (r i) ∷ [];
      function = λ i v. means v i;
      narrow = λ w. narrow (subst (IsWide d.order) (λ i v. sym (means v) i) w);
    }

pub adds-exists : (p : Progress) (d : Table) (variable from node : ℕ) (met halves : List Met) → IsProgress p → has_node p.stages from ≡ true
    → Keeps p.table d → IsNode d node → ((v : ℕ → Bool) → function_of d node v ≡ some_value variable (function_of p.table from) v)
    → Quantifies d variable [] met [] halves from node → (IsWide d.order (function_of d node) → ⊥)
    → Adds p d (Exists variable from node met halves) (Quantify variable (function_of p.table from))
adds-exists p d variable from node met halves h has k there means traced narrow =
    let f = function-kept p.table d from k (node-there p.table [] p.stages from h.stages has) in
    record {
      kept = k;
      stage = record {
        from_has = has;
        there = there;
        function = λ v. means v ∙ (λ i. some_value variable (sym f i) v);
        traced = traced;
      };
      no_clause = tt;
      step_is = λ i. Quantify variable (f i) ∷ [];
      function = λ i v. means v i;
      narrow = λ w. narrow (subst (IsWide d.order) (λ i v. sym (means v) i) w);
    }

-- the stage behind what was made is wide
pub stops-next : (p : Progress) (step : Step) (made : ℕ) (e : DiagramError) (error : QuantError) → IsProgress p → made ≡ length p.stages - p.taken → error ≡ error_after made e
    → IfWide e (λ level. IsWideAt p.table.order (given step) level) → IfWideStage error (StopsIn p (step ∷ []))
stops-next p step made Diagram.Memory error h n is w = subst (λ x. IfWideStage x (StopsIn p (step ∷ []))) (sym is) tt
stops-next p step made (Diagram.Wide level) error h n is w =
    let nil = append-nil (steps_of p.table p.stages) in
    subst (λ x. IfWideStage x (StopsIn p (step ∷ []))) (sym is) (record {
      front = [];
      last = step;
      more = [];
      among = refl;
      count = omega (arith, n, h.count, ap length nil);
      narrow = subst (AreNarrow p.table.order) (sym nil) h.narrow;
      wide = w;
    })

-- a clause that is taken
abbrev pub with_clause : Progress → Table → ℕ → Progress
with_clause p d node = record { table = d; stages = p.stages ++ Clause p.taken node ∷ []; buckets = p.buckets; taken = p.taken + 1 }

steps-taken : (p : Progress) (d : Table) (node : ℕ) → IsProgress p → Keeps p.table d → steps_of d (p.stages ++ Clause p.taken node ∷ []) ≡ steps_of p.table p.stages
steps-taken p d node h k =
    steps-append d p.stages (Clause p.taken node ∷ []) ∙ append-nil (steps_of d p.stages) ∙ steps-kept p.table d [] p.stages k h.stages

pub progress-taken : (p : Progress) (d : Table) (node : ℕ) → IsProgress p → Keeps p.table d → IsNode d node → IsProgress (with_clause p d node)
progress-taken p d node h k there =
    let all = steps-taken p d node h k in
    record {
      stages = stages-more d [] p.stages (Clause p.taken node) (stages-kept p.table d [] p.stages k h.stages) there;
      buckets = are-buckets-more p.stages (Clause p.taken node ∷ []) p.buckets h.buckets;
      narrow = subst (AreNarrow d.order) (sym all) (subst (λ o. AreNarrow o (steps_of p.table p.stages)) (sym k.order) h.narrow);
      count = omega (arith, h.count, ap length all, length-append p.stages (Clause p.taken node ∷ []));
    }

-- Where nothing but clauses is there, the next clause comes behind them.
clauses-next : (d : Table) (place next node : ℕ) (cs : List Bounded) (c : Bounded) (ss : List Stage) → next ≡ place + length cs → steps_of d ss ≡ []
    → ((v : ℕ → Bool) → function_of d node v ≡ clause_function c v) → HasClauses d place cs ss → HasClauses d place (cs ++ c ∷ []) (ss ++ Clause next node ∷ [])
clauses-next d place next node [] c [] n none means h = ((omega arith, means), tt)
clauses-next d place next node [] c (Clause taken other ∷ ss) n none means h = absurd h.0
clauses-next d place next node [] c (And left right other met ∷ ss) n none means h = absurd (cc)
clauses-next d place next node [] c (Exists variable from other met halves ∷ ss) n none means h = absurd (cc)
clauses-next d place next node (x ∷ cs) c [] n none means h = absurd h
clauses-next d place next node (x ∷ cs) c (Clause taken other ∷ ss) n none means h =
    (h.0, clauses-next d (place + 1) next node cs c ss (omega arith) none means h.1)
clauses-next d place next node (x ∷ cs) c (And left right other met ∷ ss) n none means h = absurd h.0
clauses-next d place next node (x ∷ cs) c (Exists variable from other met halves ∷ ss) n none means h = absurd h.0

pub takes-clause : (p : Progress) (d : Table) (c : Bounded) (node : ℕ) → IsProgress p → Keeps p.table d → IsNode d node
    → ((v : ℕ → Bool) → function_of d node v ≡ clause_function c v) → Takes p (with_clause p d node) c node
takes-clause p d c node h k there means = record {
  kept = k;
  steps_are = steps-taken p d node h k;
  buckets_are = refl;
  taken_is = refl;
  nodes = λ n e. has_node-more p.stages (Clause p.taken node ∷ []) n e;
  clauses = λ cs n none e. clauses-next d 0 p.taken node cs c p.stages (omega arith) (steps-kept p.table d [] p.stages k h.stages ∙ none) means
      (clauses-kept p.table d [] 0 cs p.stages k h.stages e);
  is_given = record { has = has_node-last p.stages (Clause p.taken node); there = there; function = λ i v. means v i };
}

-- nothing is made, and one after another
pub makes-self : (p : Progress) → Makes p p [] []
makes-self p = record {
  kept = Keeps-self p.table;
  steps_are = sym (append-nil (steps_of p.table p.stages));
  buckets_are = sym (append-nil (buckets_of p.table p.buckets));
  nodes = λ n e. e;
  clauses = λ cs e. e;
}

pub makes-along : (a b c : Progress) (xs ys : List Step) (us vs : List (ℕ × Function)) → Makes a b xs us → Makes b c ys vs → Makes a c (xs ++ ys) (us ++ vs)
makes-along a b c xs ys us vs m n = record {
  kept = Keeps-along a.table b.table c.table m.kept n.kept;
  steps_are = n.steps_are ∙ ap (λ z. z ++ ys) m.steps_are ∙ append_assoc (steps_of a.table a.stages) xs ys;
  buckets_are = n.buckets_are ∙ ap (λ z. z ++ vs) m.buckets_are ∙ append_assoc (buckets_of a.table a.buckets) us vs;
  nodes = λ k e. n.nodes k (m.nodes k e);
  clauses = λ cs e. n.clauses cs (m.clauses cs e);
}

pub stops-later : (old now : Progress) (xs ys : List Step) (own : List (ℕ × Function)) (stage level : ℕ) → Makes old now xs own → StopsIn now ys stage level → StopsIn old (xs ++ ys) stage level
stops-later old now xs ys own stage level m s =
    let all : steps_of now.table now.stages ++ s.front ≡ steps_of old.table old.stages ++ (xs ++ s.front) =
    ap (λ z. z ++ s.front) m.steps_are ∙ append_assoc (steps_of old.table old.stages) xs s.front in
    record {
      front = xs ++ s.front;
      last = s.last;
      more = s.more;
      among = ap (λ z. xs ++ z) s.among ∙ sym (append_assoc xs s.front (s.last ∷ s.more));
      count = s.count ∙ ap (λ z. length z + 1) all;
      narrow = subst (λ o. AreNarrow o (steps_of old.table old.stages ++ (xs ++ s.front))) m.kept.order (subst (AreNarrow now.table.order) all s.narrow);
      wide = subst (λ o. IsWideAt o (given s.last) level) m.kept.order s.wide;
    }

pub stops-more : (p : Progress) (xs ys : List Step) (stage level : ℕ) → StopsIn p xs stage level → StopsIn p (xs ++ ys) stage level
stops-more p xs ys stage level s = record {
  front = s.front;
  last = s.last;
  more = s.more ++ ys;
  among = ap (λ z. z ++ ys) s.among ∙ append_assoc s.front (s.last ∷ s.more) ys;
  count = s.count;
  narrow = s.narrow;
  wide = s.wide;
}

-- what holds of the stage that an error names implies what else
pub if-wide-stage : (e : QuantError) (P Q : ℕ → ℕ → Type 0) → ((stage level : ℕ) → P stage level → Q stage level) → IfWideStage e P → IfWideStage e Q
if-wide-stage Memory P Q f p = tt
if-wide-stage (Wide stage level) P Q f p = f stage level p

pub piece-kept : (a b : Progress) (steps : List Step) (own : List (ℕ × Function)) (n : ℕ) → Makes a b steps own → IsPiece a n → IsPiece b n
piece-kept a b steps own n m h = (m.nodes n h.0, (m.kept.nodes n h.1).there)

pub pieces-kept : (a b : Progress) (steps : List Step) (own : List (ℕ × Function)) (ns : List ℕ) → Makes a b steps own → ArePieces a ns → ArePieces b ns
pieces-kept a b steps own [] m h = tt
pieces-kept a b steps own (n ∷ ns) m h = (piece-kept a b steps own n m h.0, pieces-kept a b steps own ns m h.1)

pub functions-kept : (p : Progress) (d : Table) (ns : List ℕ) → Keeps p.table d → ArePieces p ns → functions_of d ns ≡ functions_of p.table ns
functions-kept p d [] k h = refl
functions-kept p d (n ∷ ns) k h = λ i. function-kept p.table d n k h.0.1 i ∷ functions-kept p d ns k h.1 i

pub functions-append : (d : Table) (xs ys : List ℕ) → functions_of d (xs ++ ys) ≡ functions_of d xs ++ functions_of d ys
functions-append d [] ys = refl
functions-append d (x ∷ xs) ys = ap (λ z. function_of d x ∷ z) (functions-append d xs ys)

pub pieces-append : (p : Progress) (xs ys : List ℕ) → ArePieces p xs → ArePieces p ys → ArePieces p (xs ++ ys)
pieces-append p [] ys a b = b
pieces-append p (x ∷ xs) ys a b = (a.0, pieces-append p xs ys a.1 b)
