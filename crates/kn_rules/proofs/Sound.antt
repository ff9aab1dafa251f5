-- An accepted proof leaves its formula without a model. Each line keeps this: every model of the file,
-- with values for the variables that are defined behind those of the file, meets what is live.
use Rattle.std.proofs.Common.{◌≡◌, ℕ, ◌+◌, ◌-◌, ◌≤◌, ◌⊎◌, ◌++◌, ◌&&◌, Bool, true, false, not, eqb, ltb, leb, List, [], ◌∷◌, length, length-append, map, append_assoc, Option, None, Some, IfSome, Result, Ok, Err, IfOk, refl, sym, ap, ◌∙◌, subst, inl, inr, arith}
use Rattle.std.specs.List.{AllByRecursion, slice_get}
use Rattle.std.specs.Option.{is_none, option_and_then, option_map}
use Rattle.std.proofs.lemmas.Bool.{cond_both, or_from, and_parts, ltb-true, leb-true, not-false, le-leb}
use Rattle.std.proofs.lemmas.Result.{IfOk-weaker}
use Rattle.std.proofs.lemmas.List.{append-nil}
use Rattle.kn_logic.proofs.Public.{All-at, All-push, All-append, at-push, true-negated}
use Rattle.kn_logic.specs.Literals.{Literal, negated, AreKnown}
use Rattle.kn_logic.specs.Assignments.{value_of, is_true, true_places}
use Rattle.kn_logic.specs.Constraints.{Bounded, clause, klause, Holds, IsWithin}
use Rattle.kn_logic.specs.Formulas.{Problem, IsFormula, Satisfies, IsUnsatisfiable}
use Rattle.kn_text.specs.Lines.{Line as TextLine, content_of}
use Rattle.kn_lines.specs.declared.line.Arm.{Arm}
use Rattle.kn_lines.specs.declared.line.Arm.TheVariants as arm
use Rattle.kn_lines.specs.declared.line.Line.{Line}
use Rattle.kn_lines.specs.declared.line.Line.TheVariants.{Header, Define, Lemma, Learned, Klause, Unfold, Delete}
use Rattle.kn_rules.specs.declared.definition.Definition.{Definition}
use Rattle.kn_rules.specs.declared.given.Given.{Given}
use Rattle.kn_rules.specs.declared.given.Origin.{Origin}
use Rattle.kn_rules.specs.declared.given.Origin.TheVariants as origin
use Rattle.kn_rules.specs.States.{ProofState, start, from_file, definition_of, given_at, live_at, IsLiveWithin, AreLiveWithin}
use Rattle.kn_rules.specs.Causes.{unknown_variable, no_conflict}
use Rattle.kn_rules.specs.Steps.{are_known, hinted, is_conflict, is_empty, with_clause, if_conflict, follow, deleted, with_given, with_one, is_known_variable, is_known_arm, next_variable, definition_clauses, with_definition, define, are_different, is_unit, unit_of, if_unit, count, if_klause, unfold_klause, step}
use Rattle.kn_rules.specs.Grids.{is_root}
use Rattle.kn_rules.specs.Proofs.{Runs, StepsThrough, IsProof}
use Rattle.kn_rules.proofs.Deleting.{deleted-keep}
use Rattle.kn_rules.proofs.Ready.{known-test, file-within}
use Rattle.kn_rules.proofs.Nodes.{defined_value, KeepsTo, stands-count}
use Rattle.kn_rules.specs.States.{IsDefinedWithin}
use Rattle.kn_rules.proofs.Extending.{live-more, defined-more, value-more, holds-more, defined_value-more}
use Rattle.kn_rules.proofs.Defining.{by_definition-all, definition-holds, definition-within}
use Rattle.kn_rules.proofs.Units.{known-variable, defined-known, last-value, unit-true, unit-holds, enough}
use Rattle.kn_rules.proofs.Truth.{AreTrue, GoesOn, run-goes_on}

-- what an id stands for holds, unless it is deleted
abbrev pub LiveHolds : List Bool → Given → Type 0
LiveHolds values entry = IfSome entry.live (Holds values)

-- a variable is known, and has the value that its definition gives, which is over known variables
pub record IsMet (values : List Bool) (variable : ℕ) (d : Definition) : Type 0 where
  pub known : (1 ≤ variable) × (variable ≤ length values)
  pub within : IsDefinedWithin (length values) d
  pub value : value_of values variable ≡ defined_value values d

-- the number of variables that no line of a proof defines
abbrev pub base_of : ProofState → ℕ
base_of s = s.vars - length s.definitions

-- an assignment of the variables of a state under which all that is live holds, and each defined variable
-- has the value that its definition gives; nothing refutes it
pub record Agrees (values : List Bool) (s : ProofState) : Type 0 where
  pub vars : length values ≡ s.vars
  pub live : AllByRecursion (LiveHolds values) s.given
  pub unrefuted : s.refuted ≡ false
  pub within : AreLiveWithin s.vars s.given
  pub count : length s.definitions ≤ s.vars
  pub defined : (k : ℕ) → IfSome (slice_get s.definitions k) (IsMet values (base_of s + k + 1))

-- with values for further variables, the assignment agrees
abbrev pub Extends : List Bool → ProofState → Type 0
Extends values s = (more : List Bool) × Agrees (values ++ more) s

agrees-extends : (values : List Bool) (s : ProofState) → Agrees values s → Extends values s
agrees-extends values s h = ([], subst (λ v. Agrees v s) (sym (append-nil values)) h)

-- hints
live_of-holds : (values : List Bool) (o : Option Given) → IfSome o (LiveHolds values) → IfSome (option_and_then (λ entry. entry.live) o) (Holds values)
live_of-holds values None h = tt
live_of-holds values (Some entry) h = h

live_at-holds : (values : List Bool) (given : List Given) (id : ℕ) → AllByRecursion (LiveHolds values) given → IfSome (live_at given id) (Holds values)
live_at-holds values given id h =
    live_of-holds values (given_at given id)
    (cond_both (eqb id 0) None (slice_get given (id - 1)) (λ o. IfSome o (LiveHolds values)) (λ _. tt) (λ _. All-at (LiveHolds values) given (id - 1) h))

hint-holds : (values : List Bool) (o : Option Bounded) (r : Option (List Bounded)) → IfSome o (Holds values) → IfSome r (AllByRecursion (Holds values)) → IfSome (option_and_then (λ c. option_map (λ cs. c ∷ cs) r) o) (AllByRecursion (Holds values))
hint-holds values None r h k = tt
hint-holds values (Some c) None h k = tt
hint-holds values (Some c) (Some cs) h k = (h, k)

hinted-hold : (values : List Bool) (given : List Given) (ids : List ℕ) → AllByRecursion (LiveHolds values) given → IfSome (hinted given ids) (AllByRecursion (Holds values))
hinted-hold values given [] h = tt
hinted-hold values given (id ∷ ids) h =
    hint-holds values (live_at given id) (hinted given ids) (live_at-holds values given id h) (hinted-hold values given ids h)

-- clauses
all_false_or_one_true : (values : List Bool) (lits : List Literal) → AreTrue values (map negated lits) ⊎ (1 ≤ true_places values lits)
all_false_or_one_true values [] = inl tt
all_false_or_one_true values (l ∷ lits) =
    let split : (t : Bool) → is_true values l ≡ t → AreTrue values (map negated (l ∷ lits)) ⊎ (1 ≤ true_places values (l ∷ lits)) =
    λ t. elim t as (λ b. is_true values l ≡ b → AreTrue values (map negated (l ∷ lits)) ⊎ (1 ≤ true_places values (l ∷ lits))) [
      | true ↦ (λ e. inr (rw e (omega arith)))
      | false ↦ (λ e. elim (all_false_or_one_true values lits) [
        | inl h ↦ inl (true-negated values l ∙ ap not e, h)
        | inr h ↦ inr (omega arith)
      ])
    ] in
    split (is_true values l) refl

none-goes_on : (values : List Bool) (o : Option (List Literal)) → GoesOn values o → is_none o ≡ true → ⊥
none-goes_on values None h e = h
none-goes_on values (Some trail) h e = cc

not_empty : (values : List Bool) (lits : List Literal) → 1 ≤ true_places values lits → is_empty lits ≡ false
not_empty values [] h = absurd (omega arith)
not_empty values (l ∷ lits) h = refl

one-agrees : (values : List Bool) (s : ProofState) (o : Origin) (c : Bounded) → Agrees values s → Holds values c → IsWithin s.vars c → Agrees values (with_one s o c)
one-agrees values s o c h k w = record {
  vars = h.vars;
  live = All-push (LiveHolds values) s.given (record { origin = o; live = Some c }) h.live k;
  unrefuted = h.unrefuted;
  within = All-push (IsLiveWithin s.vars) s.given (record { origin = o; live = Some c }) h.within w;
  count = h.count;
  defined = h.defined;
}

clause-agrees : (values : List Bool) (s : ProofState) (o : Origin) (lits : List Literal) → Agrees values s → 1 ≤ true_places values lits → AreKnown s.vars lits → Agrees values (with_clause s o lits)
clause-agrees values s o lits h k w =
    let one = one-agrees values s o (clause lits) h (inl k) (record { guard = tt; lits = w }) in
    record {
      vars = one.vars;
      live = one.live;
      unrefuted = or_from _ _ h.unrefuted (not_empty values lits k);
      within = one.within;
      count = one.count;
      defined = one.defined;
    }

conflict-agrees : (values : List Bool) (s : ProofState) (o : Origin) (lits : List Literal) (hints : Option (List Bounded)) → Agrees values s → AreKnown s.vars lits → IfSome hints (AllByRecursion (Holds values)) → IfOk (if_conflict s o lits hints) (Agrees values)
conflict-agrees values s o lits None h w k = tt
conflict-agrees values s o lits (Some hints) h w k =
    cond_both (is_conflict lits hints) (Ok (with_clause s o lits)) (Err no_conflict) (λ r. IfOk r (Agrees values))
    (λ e. elim (all_false_or_one_true values lits) [
      | inl all ↦ absurd (none-goes_on values _ (run-goes_on values hints (map negated lits) all k) e)
      | inr one ↦ clause-agrees values s o lits h one w
    ])
    (λ _. tt)

follow-agrees : (values : List Bool) (s : ProofState) (o : Origin) (lits : List Literal) (hints : List ℕ) → Agrees values s → IfOk (follow s o lits hints) (Agrees values)
follow-agrees values s o lits hints h =
    cond_both (are_known s.vars lits) (if_conflict s o lits (hinted s.given hints)) (Err unknown_variable) (λ r. IfOk r (Agrees values))
    (λ e. conflict-agrees values s o lits (hinted s.given hints) h (known-test s.vars lits e) (hinted-hold values s.given hints h.live))
    (λ _. tt)

-- deletions
given-agrees : (values : List Bool) (s : ProofState) (r : Result (List Given) ℕ) → Agrees values s → IfOk r (AllByRecursion (LiveHolds values)) → IfOk r (AreLiveWithin s.vars) → IfOk (with_given s r) (Agrees values)
given-agrees values s (Ok given) h k w = record { vars = h.vars; live = k; unrefuted = h.unrefuted; within = w; count = h.count; defined = h.defined }
given-agrees values s (Err cause) h k w = tt

-- klauses and their grids
looked-up : (values : List Bool) (s : ProofState) → Agrees values s → KeepsTo values (definition_of s)
looked-up values s h variable =
    cond_both (ltb (base_of s) variable) (slice_get s.definitions (variable - base_of s - 1)) None (λ o. IfSome o (λ d. value_of values variable ≡ defined_value values d))
    (λ e.
    let place : base_of s + (variable - base_of s - 1) + 1 ≡ variable = omega (arith, ltb-true _ _ e) in
    met-value values variable _ (subst (λ n. IfSome (slice_get s.definitions (variable - base_of s - 1)) (IsMet values n)) place (h.defined (variable - base_of s - 1))))
    (λ _. tt)
  where
    met-value : (values : List Bool) (variable : ℕ) (o : Option Definition) → IfSome o (IsMet values variable) → IfSome o (λ d. value_of values variable ≡ defined_value values d)
    met-value values variable None m = tt
    met-value values variable (Some d) m = m.value

root-counts : (values : List Bool) (s : ProofState) (bound : ℕ) (lits : List Literal) (root : ℕ) → Agrees values s → is_root (definition_of s) lits bound root ≡ true → value_of values root ≡ leb bound (true_places values lits)
root-counts values s bound lits root h e = stands-count values (definition_of s) (looked-up values s h) lits bound (arm.Lit (record { variable = root; positive = true })) e

unit-agrees : (values : List Bool) (s : ProofState) (bound : ℕ) (lits : List Literal) (root : ℕ) (o : Option Bounded) → Agrees values s → AreKnown s.vars lits → IfSome o (Holds values) → IfOk (if_unit s bound lits root o) (Agrees values)
unit-agrees values s bound lits root None h w k = tt
unit-agrees values s bound lits root (Some unit) h w k =
    cond_both (not (are_different lits)) _ _ (λ r. IfOk r (Agrees values)) (λ _. tt)
    (λ _. cond_both (not (is_root (definition_of s) lits bound root)) _ _ (λ r. IfOk r (Agrees values)) (λ _. tt)
    (λ e. cond_both (not (is_unit unit root)) _ _ (λ r. IfOk r (Agrees values)) (λ _. tt)
    (λ f.
    let value : value_of values root ≡ true = unit-true values unit root (not-false _ f) k in
    let counts = root-counts values s bound lits root h (not-false _ e) in
    one-agrees values s origin.Klause (klause bound lits) h (inl (leb-true _ _ (sym counts ∙ value))) (record { guard = tt; lits = w }))))

count-agrees : (values : List Bool) (s : ProofState) (bound : ℕ) (lits : List Literal) (root unit : ℕ) → Agrees values s → IfOk (count s bound lits root unit) (Agrees values)
count-agrees values s bound lits root unit h =
    cond_both (are_known s.vars lits && is_known_variable s.vars root) _ (Err unknown_variable) (λ r. IfOk r (Agrees values))
    (λ e.
    let parts = and_parts (are_known s.vars lits) (is_known_variable s.vars root) e in
    unit-agrees values s bound lits root (live_at s.given unit) h (known-test s.vars lits parts.0) (live_at-holds values s.given unit h.live))
    (λ _. tt)

klause-agrees : (values : List Bool) (s : ProofState) (root : ℕ) (o : Option Bounded) → Agrees values s → (1 ≤ root) × (root ≤ s.vars) → IfSome o (Holds values) → IfOk (if_klause s root o) (Agrees values)
klause-agrees values s root None h w k = tt
klause-agrees values s root (Some c) h w k =
    cond_both (not (is_none c.guard && are_different c.lits)) _ _ (λ r. IfOk r (Agrees values)) (λ _. tt)
    (λ d. cond_both (not (is_root (definition_of s) c.lits c.bound root)) _ _ (λ r. IfOk r (Agrees values)) (λ _. tt)
    (λ e.
    let free = and_parts (is_none c.guard) (are_different c.lits) (not-false _ d) in
    let counts = root-counts values s c.bound c.lits root h (not-false _ e) in
    let value : value_of values root ≡ true = counts ∙ le-leb _ _ (enough values c.guard c.bound c.lits free.0 k) in
    one-agrees values s origin.Unfolding (unit_of root) h (unit-holds values root value) (record { guard = tt; lits = (w, tt) })))

unfold-agrees : (values : List Bool) (s : ProofState) (id root : ℕ) → Agrees values s → IfOk (unfold_klause s id root) (Agrees values)
unfold-agrees values s id root h =
    cond_both (is_known_variable s.vars root) _ (Err unknown_variable) (λ r. IfOk r (Agrees values))
    (λ e. klause-agrees values s root (live_at s.given id) h (known-variable s.vars root e) (live_at-holds values s.given id h.live))
    (λ _. tt)

-- definitions
live-extend : (values more : List Bool) (given : List Given) → AreLiveWithin (length values) given → AllByRecursion (LiveHolds values) given → AllByRecursion (LiveHolds (values ++ more)) given
live-extend values more [] w h = tt
live-extend values more (entry ∷ given) w h = (one-extend entry.live w.0 h.0, live-extend values more given w.1 h.1)
  where
    one-extend : (o : Option Bounded) → IfSome o (IsWithin (length values)) → IfSome o (Holds values) → IfSome o (Holds (values ++ more))
    one-extend None w h = tt
    one-extend (Some c) w h = holds-more values more c w h

met-extend : (values more : List Bool) (variable : ℕ) (o : Option Definition) → IfSome o (IsMet values variable) → IfSome o (IsMet (values ++ more) variable)
met-extend values more variable None m = tt
met-extend values more variable (Some d) m =
    let longer : length values ≤ length (values ++ more) = omega (arith, length-append values more) in
    record {
      known = (m.known.0, omega (arith, m.known.1, longer));
      within = defined-more (length values) (length (values ++ more)) d longer m.within;
      value = value-more values more variable m.known.0 m.known.1 ∙ m.value ∙ sym (defined_value-more values more d m.within);
    }

definition-agrees : (values : List Bool) (s : ProofState) (x : Literal) (high low : Arm) → Agrees values s → IsDefinedWithin s.vars (record { test = x; high = high; low = low }) → Agrees (values ++ defined_value values (record { test = x; high = high; low = low }) ∷ []) (with_definition s x high low)
definition-agrees values s x high low h w =
    let d : Definition = record { test = x; high = high; low = low } in
    let more : List Bool = defined_value values d ∷ [] in
    let len : length (values ++ more) ≡ s.vars + 1 = length-append values more ∙ ap (λ n. n + 1) h.vars in
    let here : IsDefinedWithin (length values) d = subst (λ n. IsDefinedWithin n d) (sym h.vars) w in
    let old : AreLiveWithin (length values) s.given = subst (λ n. AreLiveWithin n s.given) (sym h.vars) h.within in
    let wider : IsDefinedWithin (s.vars + 1) d = defined-more s.vars (s.vars + 1) d (omega arith) w in
    let value : value_of (values ++ more) (s.vars + 1) ≡ defined_value values d = last-value values (defined_value values d) s.vars h.vars in
    let same : defined_value (values ++ more) d ≡ defined_value values d = defined_value-more values more d here in
    let count' : length (s.definitions ++ d ∷ []) ≡ length s.definitions + 1 = length-append s.definitions (d ∷ []) in
    let base : s.vars + 1 - length (s.definitions ++ d ∷ []) ≡ base_of s = omega (arith, count', h.count) in
    let met : IsMet (values ++ more) (base_of s + length s.definitions + 1) d = record {
      known = (omega arith, omega (arith, len, h.count));
      within = subst (λ n. IsDefinedWithin n d) (sym len) wider;
      value = ap (value_of (values ++ more)) (omega (arith, h.count)) ∙ value ∙ sym same;
    } in
    record {
      vars = len;
      live = All-append (LiveHolds (values ++ more)) s.given _ (live-extend values more s.given old h.live) (by_definition-all (Holds (values ++ more)) (definition_clauses (next_variable s) x high low) (definition-holds (values ++ more) (next_variable s) x high low (value ∙ sym same)));
      unrefuted = h.unrefuted;
      within = All-append (IsLiveWithin (s.vars + 1)) s.given _ (live-more s.vars (s.vars + 1) s.given (omega arith) h.within) (by_definition-all (IsWithin (s.vars + 1)) (definition_clauses (next_variable s) x high low) (definition-within (s.vars + 1) (next_variable s) x high low (omega arith, omega arith) wider.test wider.high wider.low));
      count = omega (arith, count', h.count);
      defined = λ k. subst (λ b. IfSome (slice_get (s.definitions ++ d ∷ []) k) (IsMet (values ++ more) (b + k + 1))) (sym base) (at-push (λ n. IsMet (values ++ more) (base_of s + n + 1)) s.definitions d (λ n. met-extend values more (base_of s + n + 1) (slice_get s.definitions n) (h.defined n)) met k);
    }

define-extends : (values : List Bool) (s : ProofState) (x : Literal) (high low : Arm) → Agrees values s → IfOk (define s x high low) (Extends values)
define-extends values s x high low h =
    cond_both (is_known_variable s.vars x.variable && (is_known_arm s.vars high && is_known_arm s.vars low)) (Ok (with_definition s x high low)) (Err unknown_variable) (λ r. IfOk r (Extends values))
    (λ e. (defined_value values (record { test = x; high = high; low = low }) ∷ [], definition-agrees values s x high low h (defined-known s.vars x high low e)))
    (λ _. tt)

-- lines
still : (values : List Bool) (r : Result ProofState ℕ) → IfOk r (Agrees values) → IfOk r (Extends values)
still values r h = IfOk-weaker r (Agrees values) (Extends values) (λ t a. agrees-extends values t a) h

line-extends : (values : List Bool) (s : ProofState) (line : Line) → Agrees values s → IfOk (step s line) (Extends values)
line-extends values s (Header vars constraints) h = tt
line-extends values s (Define x high low) h = define-extends values s x high low h
line-extends values s (Lemma c hints) h = still values _ (follow-agrees values s origin.Lemma c.lits hints h)
line-extends values s (Learned c hints) h = still values _ (follow-agrees values s origin.Learned c.lits hints h)
line-extends values s (Klause c root unit) h = still values _ (count-agrees values s c.bound c.lits root unit h)
line-extends values s (Unfold id root) h = still values _ (unfold-agrees values s id root h)
line-extends values s (Delete ids) h = still values _ (given-agrees values s (deleted s.given ids) h (deleted-keep (Holds values) ids s.given h.live) (deleted-keep (IsWithin s.vars) ids s.given h.within))

step-extends : (values : List Bool) (s t : ProofState) (line : Line) → Extends values s → step s line ≡ Ok t → Extends values t
step-extends values s t line h e =
    let next : Extends (values ++ h.0) t = subst (λ r. IfOk r (Extends (values ++ h.0))) e (line-extends (values ++ h.0) s line h.1) in
    (h.0 ++ next.0, subst (λ v. Agrees v t) (append_assoc values h.0 next.0) next.1)

runs-extend : (values : List Bool) (texts : List TextLine) (s t : ProofState) → Extends values s → Runs s texts t → Extends values t
runs-extend values [] s t h r = subst (Extends values) r h
runs-extend values (text ∷ texts) s t h r =
    runs-extend values texts r.0 t (step-extends values s r.0 r.1.0 h r.1.2) r.2

-- whole proofs
file-hold : (values : List Bool) (cs : List Bounded) → AllByRecursion (Holds values) cs → AllByRecursion (LiveHolds values) (map from_file cs)
file-hold values [] h = tt
file-hold values (c ∷ cs) h = (h.0, file-hold values cs h.1)

start-agrees : (values : List Bool) (f : Problem) → IsFormula f → Satisfies values f → Agrees values (start f)
start-agrees values f w h = record {
  vars = h.vars;
  live = file-hold values f.constraints h.hold;
  unrefuted = refl;
  within = file-within f.vars f.constraints w;
  count = omega arith;
  defined = λ k. tt;
}

steps-extend : (values : List Bool) (f : Problem) (texts : List TextLine) (last : ProofState) → IsFormula f → Satisfies values f → StepsThrough f texts last → Extends values last
steps-extend values f [] last w h s = absurd s
steps-extend values f (text ∷ texts) last w h s =
    runs-extend values texts (start f) last (agrees-extends values (start f) (start-agrees values f w h)) s.1

pub proof-refutes : (f : Problem) (bytes : List ℕ) → IsFormula f → IsProof f bytes → IsUnsatisfiable f
proof-refutes f bytes w p values h =
    let e = steps-extend values f (content_of bytes) p.0 w h p.1 in
    let refuted = p.2 in
    let unrefuted = e.1.unrefuted in
    absurd cc
