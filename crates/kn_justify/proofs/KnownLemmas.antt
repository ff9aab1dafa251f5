-- The variables of an order that are known, and entries whose nodes have names.
use Rattle.std.proofs.Common.{◌≡◌, ℕ, ◌+◌, ◌≤◌, ◌<◌, ◌++◌, Bool, List, [], ◌∷◌, length, take, get_or, Result, Ok, Err, OnOk, sym, ap, ◌∙◌, subst, arith}
use Rattle.std.proofs.lemmas.List.{take_more}
use Rattle.kn_logic.proofs.Public.{All-push}
use Rattle.kn_rules.specs.States.{ProofState}
use Rattle.kn_diagram.specs.declared.trace.Met.{Met}
use Rattle.kn_diagram.specs.Diagrams.{Table, IsTable, IsNode, depth_of}
use Rattle.kn_diagram.specs.Traces.{AreExplained}
use Rattle.kn_diagram.proofs.Public.{depth_of-branch}
use Rattle.kn_quant.specs.Quantified.{AreAccounted}
use Rattle.kn_justify.specs.declared.name.Name.{Name}
use Rattle.kn_justify.specs.Names.{IsNamed, AreRight, AreKept, AreReachedKnown}
use Rattle.kn_justify.specs.Lemmas.{AreNamed}
use Rattle.kn_justify.specs.Taken.{IsOrderKnown, AreThere, AreAllNamed}
use Rattle.kn_justify.proofs.NameLemmas.{has-name}
use Rattle.kn_justify.proofs.KeptLemmas.{reaches-le, named-stays}
use Rattle.kn_justify.proofs.TraceLemmas.{All-weaker}

-- where all variables of the order are known, those of what is reached are
pub order-reached : (vars more : ℕ) (d : Table) (f : ℕ) → IsTable d → IsNode d f → IsOrderKnown vars d → vars ≤ more → AreReachedKnown more d f
order-reached vars more d f ok there known le x e two =
    let below = reaches-le d f x ok there e in
    let k = known (depth_of d x) (depth_of-branch d x ok (omega (arith, below, there)) two) in
    (k.0, omega (arith, k.1, le))

pub order-grows : (vars more : ℕ) (d : Table) → IsOrderKnown vars d → vars ≤ more → IsOrderKnown more d
order-grows vars more d known le depth within = (let k = known depth within in (k.0, omega (arith, k.1, le)))

-- entries that are named
abbrev pub ThreeNamed : List (ℕ × Name) → Met → Type 0
ThreeNamed names m = IsNamed names m.u × IsNamed names m.v × IsNamed names m.w

pub three-stay : (old new : List (ℕ × Name)) (m : Met) → AreKept old new → ThreeNamed old m → ThreeNamed new m
three-stay old new m k (hu, hv, hw) = (named-stays old new m.u k hu, named-stays old new m.v k hv, named-stays old new m.w k hw)

pub all-stay : (old new : List (ℕ × Name)) (ms : List Met) → AreKept old new → AreAllNamed old ms → AreAllNamed new ms
all-stay old new ms k h = All-weaker (ThreeNamed old) (ThreeNamed new) ms (λ m. three-stay old new m k) h

pub all-more : (old new : List (ℕ × Name)) (ms : List Met) (i : ℕ) (m : Met) → AreKept old new → AreAllNamed old (take i ms) → i < length ms → m ≡ get_or ms i m → ThreeNamed new m → AreAllNamed new (take (i + 1) ms)
all-more old new ms i m k h b e named =
    subst (λ (x : List Met). AreAllNamed new x) (sym (take_more ms i m b ∙ ap (λ (y : Met). take i ms ++ y ∷ []) (sym e)))
    (All-push (ThreeNamed new) (take i ms) m (all-stay old new (take i ms) k h) named)

pub named-entries : (s : ProofState) (d : Table) (names : List (ℕ × Name)) (ms : List Met) → AreRight s d names → AreThere d ms → AreAllNamed names ms → AreNamed s d names ms
named-entries s d names [] r t h = tt
named-entries s d names (m ∷ ms) r (there, t) ((hu, hv, hw), h) = (
  record {
    u_there = there.0;
    v_there = there.1;
    w_there = there.2;
    u_named = has-name s d names m.u r hu;
    v_named = has-name s d names m.v r hv;
    w_named = has-name s d names m.w r hw;
  },
  named-entries s d names ms r t h,
)

-- the nodes of traces are nodes of the diagram
pub explained-there : (join : Bool → Bool → Bool) (d : Table) (before ms : List Met) → AreExplained join d before ms → AreThere d ms
explained-there join d before [] h = tt
explained-there join d before (m ∷ ms) h = ((h.0.right.u_there, h.0.right.v_there, h.0.right.w_there), explained-there join d (before ++ m ∷ []) ms h.1)

pub accounted-there : (d : Table) (variable : ℕ) (halves before ms : List Met) → AreAccounted d variable halves before ms → AreThere d ms
accounted-there d variable halves before [] h = tt
accounted-there d variable halves before (m ∷ ms) h =
    ((h.0.right.u_there, subst (λ (x : ℕ). IsNode d x) (sym h.0.one) h.0.right.u_there, h.0.right.w_there), accounted-there d variable halves (before ++ m ∷ []) ms h.1)

pub on-ok : {T E : Type 0} (r : Result T E) (P Q : Type 0) → OnOk r P → (P → Q) → OnOk r Q
on-ok (Ok x) P Q h f = f h
on-ok (Err e) P Q h f = tt

pub always-ok : {T E : Type 0} (r : Result T E) (P : Type 0) → P → OnOk r P
always-ok (Ok x) P h = h
always-ok (Err e) P h = tt
