-- Units that are made in turn.
use Rattle.std.proofs.Common.{◌≡◌, ℕ, ◌+◌, ◌≤◌, ◌<◌, ◌==◌, ◌&&◌, ◌⊎◌, ◌++◌, true, false, List, [], ◌∷◌, length, take, get_or, nat_eq, Option, Some, None, refl, sym, ap, ◌∙◌, subst, inl, inr}
use Rattle.std.specs.Option.{is_some}
use Rattle.std.proofs.lemmas.Bool.{eqb-true, eq-eqb}
use Rattle.std.proofs.lemmas.List.{take_more}
use Rattle.std.proofs.lemmas.Option.{slice_get_read}
use Rattle.kn_logic.specs.Constraints.{Bounded, clause}
use Rattle.kn_logic.proofs.Public.{All-push}
use Rattle.kn_lines.specs.declared.line.Arm.{Arm}
use Rattle.kn_rules.specs.declared.given.Given.{Given}
use Rattle.kn_rules.specs.States.{ProofState}
use Rattle.kn_diagram.specs.declared.trace.Met.{Met}
use Rattle.kn_diagram.specs.Diagrams.{Table}
use Rattle.kn_diagram.specs.Traces.{Explains}
use Rattle.kn_quant.specs.declared.stage.Stage.{Stage}
use Rattle.kn_quant.specs.declared.stage.Stage.TheVariants.{Clause, And, Exists}
use Rattle.kn_quant.specs.Quantified.{Quantifies, entry_of}
use Rattle.kn_quant.specs.Eliminations.{node_of}
use Rattle.kn_justify.specs.declared.name.Name.{Name}
use Rattle.kn_justify.specs.Arms.{literals_of}
use Rattle.kn_justify.specs.Growth.{Grown}
use Rattle.kn_justify.specs.Names.{IsNamed, AreKept, IsUnit}
use Rattle.kn_justify.specs.Taken.{AreAllNamed, unit_of, has_unit, AreUnits, AreMade, AreMadeInTurn, IsNext, IsNoted}
use Rattle.kn_justify.proofs.GrowthLemmas.{grown-live}
use Rattle.kn_justify.proofs.KeptLemmas.{arm-stays, named-stays}
use Rattle.kn_justify.proofs.KnownLemmas.{ThreeNamed}
use Rattle.kn_justify.proofs.LookupLemmas.{lookup-kept, lookup-last, lookup-holds}
use Rattle.kn_justify.proofs.TraceLemmas.{All-weaker}
use Rattle.kn_justify.proofs.StageLemmas.{All-last}

-- a unit stays one while lines and names come
pub unit-moves : (old new : ProofState) (names more : List (ℕ × Name)) (node : ℕ) (id : Option ℕ) → Grown old new → AreKept names more → IsNamed names node → IsUnit old.given names node id → IsUnit new.given more node id
unit-moves old new names more node None g k h e = e
unit-moves old new names more node (Some id) g k h (two, live) =
    (two, grown-live old new id _ g live ∙ ap (λ (a : Arm). Some (clause (literals_of (a ∷ [])))) (sym (arm-stays names more node k h)))

pub units-move : (old new : ProofState) (names more : List (ℕ × Name)) (units : List (ℕ × Option ℕ)) → Grown old new → AreKept names more → AreUnits old.given names units → AreUnits new.given more units
units-move old new names more units g k h =
    All-weaker (λ e. IsUnit old.given names e.0 e.1 × IsNamed names e.0) (λ e. IsUnit new.given more e.0 e.1 × IsNamed more e.0) units
    (λ e u. (unit-moves old new names more e.0 e.1 g k u.1 u.0, named-stays names more e.0 k u.1)) h

-- the unit that is found
pub unit-found : (given : List Given) (names : List (ℕ × Name)) (units : List (ℕ × Option ℕ)) (node : ℕ) (o : Option (Option ℕ)) (id : Option ℕ) → AreUnits given names units → o ≡ unit_of units node → o ≡ Some id → IsUnit given names node id × IsNamed names node
unit-found given names units node o id h e f =
    let (k, t, u) = lookup-holds (λ x. IsUnit given names x.0 x.1 × IsNamed names x.0) (nat_eq node) units id h (sym e ∙ f) in
    subst (λ (x : ℕ). IsUnit given names x id × IsNamed names x) (sym (eqb-true node k t)) u

pub unit-there : (units : List (ℕ × Option ℕ)) (node : ℕ) (o : Option (Option ℕ)) → has_unit units node ≡ true → o ≡ unit_of units node → o ≡ None → ⊥
unit-there units node o h e f = (let none : has_unit units node ≡ false = ap is_some (sym e ∙ f) in absurd cc)

-- a unit that is noted
some_kept : (o p : Option (Option ℕ)) → ((x : Option ℕ) → o ≡ Some x → p ≡ Some x) → is_some o ≡ true → is_some p ≡ true
some_kept None p h e = absurd cc
some_kept (Some x) p h e = ap is_some (h x refl)

noted-kept : (node : ℕ) (id : Option ℕ) (old new : List (ℕ × Option ℕ)) (x : ℕ) → IsNoted node id old new → has_unit old x ≡ true → has_unit new x ≡ true
noted-kept node id old new x (inl (there, same)) h = subst (λ (u : List (ℕ × Option ℕ)). has_unit u x ≡ true) (sym same) h
noted-kept node id old new x (inr (none, same)) h =
    subst (λ (u : List (ℕ × Option ℕ)). has_unit u x ≡ true) (sym same) (some_kept (unit_of old x) (unit_of (old ++ (node, id) ∷ []) x) (λ y e. lookup-kept (nat_eq x) old ((node, id) ∷ []) y e) h)

noted-there : (node : ℕ) (id : Option ℕ) (old new : List (ℕ × Option ℕ)) → IsNoted node id old new → has_unit new node ≡ true
noted-there node id old new (inl (there, same)) = subst (λ (u : List (ℕ × Option ℕ)). has_unit u node ≡ true) (sym same) there
noted-there node id old new (inr (none, same)) =
    subst (λ (u : List (ℕ × Option ℕ)). has_unit u node ≡ true) (sym same) (ap is_some (lookup-last (nat_eq node) old node id none (eq-eqb node node refl)))

pub noted-units : (given : List Given) (names : List (ℕ × Name)) (node : ℕ) (id : Option ℕ) (old new : List (ℕ × Option ℕ)) → IsNoted node id old new → AreUnits given names old → IsUnit given names node id → IsNamed names node → AreUnits given names new
noted-units given names node id old new (inl (there, same)) h u k = subst (λ (x : List (ℕ × Option ℕ)). AreUnits given names x) (sym same) h
noted-units given names node id old new (inr (none, same)) h u k =
    subst (λ (x : List (ℕ × Option ℕ)). AreUnits given names x) (sym same) (All-push (λ e. IsUnit given names e.0 e.1 × IsNamed names e.0) old (node, id) h (u, k))

pub made-more : (node : ℕ) (id : Option ℕ) (old new : List (ℕ × Option ℕ)) (stages : List Stage) (i : ℕ) (s : Stage) → IsNoted node id old new → node ≡ node_of s → AreMade old (take i stages) → i < length stages → s ≡ get_or stages i s → AreMade new (take (i + 1) stages)
made-more node id old new stages i s noted is h b e =
    subst (λ (x : List Stage). AreMade new x) (sym (take_more stages i s b ∙ ap (λ (y : Stage). take i stages ++ y ∷ []) (sym e)))
    (All-push (λ x. has_unit new (node_of x) ≡ true) (take i stages) s
    (All-weaker (λ x. has_unit old (node_of x) ≡ true) (λ x. has_unit new (node_of x) ≡ true) (take i stages) (λ x k. noted-kept node id old new (node_of x) noted k) h)
    (subst (λ (x : ℕ). has_unit new x ≡ true) is (noted-there node id old new noted)))

-- what the next unit is made of
next-grows : (old new : ProofState) (d : Table) (cs : List Bounded) (ids : List ℕ) (units : List (ℕ × Option ℕ)) (s : Stage) → Grown old new → IsNext old.given d cs ids units s → IsNext new.given d cs ids units s
next-grows old new d cs ids units (Clause taken node) g h = record {
  c = h.c;
  id = h.id;
  clause_is = h.clause_is;
  id_is = h.id_is;
  live = grown-live old new h.id h.c g h.live;
  formed = h.formed;
  filled = h.filled;
  there = h.there;
  function = h.function;
}
next-grows old new d cs ids units (And left right node met) g h = h
next-grows old new d cs ids units (Exists variable from node met halves) g h = h

pub next-at : (old new : ProofState) (d : Table) (cs : List Bounded) (ids : List ℕ) (stages : List Stage) (units : List (ℕ × Option ℕ)) (i : ℕ) (s : Stage) → Grown old new → AreMadeInTurn old.given d cs ids stages → AreMade units (take i stages) → i < length stages → s ≡ get_or stages i s → IsNext new.given d cs ids units s
next-at old new d cs ids stages units i s g h m b e = next-grows old new d cs ids units s g (h i s units (slice_get_read stages (length stages) i s refl b e) m)

-- the last entries of traces are named
pub and-last : (d : Table) (names : List (ℕ × Name)) (met : List Met) (m : Met) → Explains (λ a b. a && b) d [] met m → AreAllNamed names met → ThreeNamed names m
and-last d names met m h k = All-last (ThreeNamed names) h.earlier m (subst (λ (x : List Met). AreAllNamed names x) h.grown k)

pub exists-last : (d : Table) (names : List (ℕ × Name)) (variable from node : ℕ) (met halves : List Met) → Quantifies d variable [] met [] halves from node → AreAllNamed names met → ThreeNamed names (entry_of from node)
exists-last d names variable from node met halves h k = All-last (ThreeNamed names) h.earlier (entry_of from node) (subst (λ (x : List Met). AreAllNamed names x) h.grown k)
