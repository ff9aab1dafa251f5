-- The traces of stages: what the last entry of each says.
use Rattle.std.proofs.Common.{◌≡◌, ℕ, ◌≤◌, ◌==◌, ◌&&◌, ◌||◌, ◌++◌, Bool, true, List, [], ◌∷◌, Option, Some, sym, ◌∙◌, subst, append_assoc}
use Rattle.std.specs.Prelude.{option_to_list}
use Rattle.std.specs.List.{AllByRecursion}
use Rattle.std.proofs.lemmas.List.{append-nil}
use Rattle.kn_rules.specs.declared.given.Given.{Given}
use Rattle.kn_rules.specs.States.{ProofState}
use Rattle.kn_diagram.specs.declared.trace.Met.{Met}
use Rattle.kn_diagram.specs.Diagrams.{Table, IsTable}
use Rattle.kn_diagram.specs.Traces.{IsRight, AreExplained, Explains}
use Rattle.kn_diagram.proofs.Public.{canonical}
use Rattle.kn_quant.specs.Quantified.{IsQuantified, IsAccounted, AreAccounted, Quantifies, entry_of}
use Rattle.kn_justify.specs.declared.name.Name.{Name}
use Rattle.kn_justify.specs.declared.side.Side.TheVariants.{Both}
use Rattle.kn_justify.specs.Arms.{Settled}
use Rattle.kn_justify.specs.Names.{pair_arms, IsNamedMet}
use Rattle.kn_justify.specs.Lemmas.{lemma_of, has_lemma, alone, joined, AreJoined, AreReduced, AreCovered, AreNamed}
use Rattle.kn_justify.proofs.EntryLemmas.{found-joined}
use Rattle.kn_justify.proofs.ReducedLemmas.{found-reduced}

pub All-last : {X : Type 0} (P : X → Type 0) (xs : List X) (x : X) → AllByRecursion P (xs ++ x ∷ []) → P x
All-last P [] x h = h.0
All-last P (y ∷ xs) x h = All-last P xs x h.1

pub All-parts : {X : Type 0} (P : X → Type 0) (xs ys : List X) → AllByRecursion P (xs ++ ys) → AllByRecursion P xs × AllByRecursion P ys
All-parts P [] ys h = (tt, h)
All-parts P (x ∷ xs) ys h = (let (a, b) = All-parts P xs ys h.1 in ((h.0, a), b))

last-right : (join : Bool → Bool → Bool) (d : Table) (before ms : List Met) (m : Met) → AreExplained join d before (ms ++ m ∷ []) → IsRight join d m
last-right join d before [] m h = h.0.right
last-right join d before (y ∷ ms) m h = last-right join d (before ++ y ∷ []) ms m h.1

last-accounted : (d : Table) (variable : ℕ) (halves before ms : List Met) (m : Met) → AreAccounted d variable halves before (ms ++ m ∷ []) → IsAccounted d variable halves (before ++ ms) m
last-accounted d variable halves before [] m h = subst (λ (xs : List Met). IsAccounted d variable halves xs m) (sym (append-nil before)) h.0
last-accounted d variable halves before (y ∷ ms) m h = subst (λ (xs : List Met). IsAccounted d variable halves xs m) (append_assoc before (y ∷ []) ms) (last-accounted d variable halves (before ++ y ∷ []) ms m h.1)

-- a conjunction
pub and-explained : (d : Table) (met : List Met) (m : Met) → Explains (λ a b. a && b) d [] met m → AreExplained (joined Both) d [] met
and-explained d met m h = subst (λ (x : List Met). AreExplained (joined Both) d [] x) (sym h.grown) h.explained

pub and-named : (s : ProofState) (d : Table) (names : List (ℕ × Name)) (met : List Met) (m : Met) → Explains (λ a b. a && b) d [] met m → AreNamed s d names met → IsNamedMet s d names m
and-named s d names met m h k = All-last (IsNamedMet s d names) h.earlier m (subst (λ (x : List Met). AreNamed s d names x) h.grown k)

pub and-there : (d : Table) (met : List Met) (m : Met) (lemmas : List ((ℕ × ℕ) × Option ℕ)) → Explains (λ a b. a && b) d [] met m → AreCovered lemmas met → has_lemma lemmas m.u m.v ≡ true
and-there d met m lemmas h k = All-last (λ x. has_lemma lemmas x.u x.v ≡ true) h.earlier m (subst (λ (x : List Met). AreCovered lemmas x) h.grown k)

pub and-lemma : (given : List Given) (d : Table) (names : List (ℕ × Name)) (met : List Met) (m : Met) (lemmas : List ((ℕ × ℕ) × Option ℕ)) (found : Option (Option ℕ)) (id : Option ℕ) → IsTable d → Explains (λ a b. a && b) d [] met m
    → AreJoined given d names Both lemmas → found ≡ lemma_of lemmas m.u m.v → found ≡ Some id → Settled given (option_to_list id) (pair_arms names m)
and-lemma given d names met m lemmas found id ok h j e f =
    let k = found-joined given d names Both lemmas m.u m.v id j (sym e ∙ f) in
    let r = last-right (λ a b. a && b) d [] h.earlier m h.explained in
    let same : k.w ≡ m.w = canonical d ok k.w m.w k.right.w_there r.w_there (λ v. k.right.function v ∙ sym (r.function v)) in
    subst (λ (x : ℕ). Settled given (option_to_list id) (pair_arms names (record { u = m.u; v = m.v; w = x }))) same k.settled

-- a quantification
pub exists-halves : (d : Table) (variable from node : ℕ) (met halves : List Met) → Quantifies d variable [] met [] halves from node → AreExplained (λ a b. a || b) d [] halves
exists-halves d variable from node met halves h = subst (λ (x : List Met). AreExplained (λ a b. a || b) d [] x) (sym h.halves_grown) h.explained

pub exists-accounted : (d : Table) (variable from node : ℕ) (met halves : List Met) → Quantifies d variable [] met [] halves from node → AreAccounted d variable halves [] met
exists-accounted d variable from node met halves h =
    subst (λ (x : List Met). AreAccounted d variable x [] met) (sym h.halves_grown) (subst (λ (x : List Met). AreAccounted d variable h.halves [] x) (sym h.grown) h.accounted)

pub exists-named : (s : ProofState) (d : Table) (names : List (ℕ × Name)) (variable from node : ℕ) (met halves : List Met) → Quantifies d variable [] met [] halves from node → AreNamed s d names met → IsNamedMet s d names (entry_of from node)
exists-named s d names variable from node met halves h k = All-last (IsNamedMet s d names) h.earlier (entry_of from node) (subst (λ (x : List Met). AreNamed s d names x) h.grown k)

pub exists-there : (d : Table) (variable from node : ℕ) (met halves : List Met) (lemmas : List ((ℕ × ℕ) × Option ℕ)) → Quantifies d variable [] met [] halves from node → AreCovered lemmas met → has_lemma lemmas from from ≡ true
exists-there d variable from node met halves lemmas h k = All-last (λ x. has_lemma lemmas x.u x.v ≡ true) h.earlier (entry_of from node) (subst (λ (x : List Met). AreCovered lemmas x) h.grown k)

pub exists-right : (d : Table) (variable from node : ℕ) (met halves : List Met) → Quantifies d variable [] met [] halves from node → IsQuantified d variable from node
exists-right d variable from node met halves h = (last-accounted d variable h.halves [] h.earlier (entry_of from node) h.accounted).right

pub exists-lemma : (given : List Given) (d : Table) (names : List (ℕ × Name)) (variable from node : ℕ) (met halves : List Met) (lemmas : List ((ℕ × ℕ) × Option ℕ)) (found : Option (Option ℕ)) (id : Option ℕ) → IsTable d → Quantifies d variable [] met [] halves from node
    → AreReduced given d names variable lemmas → found ≡ lemma_of lemmas from from → found ≡ Some id → Settled given (option_to_list id) (pair_arms names (alone from node))
exists-lemma given d names variable from node met halves lemmas found id ok h j e f =
    let k = found-reduced given d names variable lemmas from from id j (sym e ∙ f) in
    let r = exists-right d variable from node met halves h in
    let same : k.w ≡ node = canonical d ok k.w node k.right.w_there r.w_there (λ v. k.right.function v ∙ sym (r.function v)) in
    subst (λ (x : ℕ). Settled given (option_to_list id) (pair_arms names (alone from x))) same k.settled
