-- States that grow by definitions and lemmas.
use Rattle.std.proofs.Common.{◌≡◌, ℕ, zero, suc, ◌+◌, ◌-◌, ◌++◌, ◌||◌, Bool, true, false, cond, ltb, List, [], ◌∷◌, length, Option, None, Some, Result, Ok, Err, refl, sym, ap, ◌∙◌, subst, arith, length-append, append_assoc}
use Rattle.std.specs.List.{slice_get}
use Rattle.std.proofs.Math.Bool.{or-false}
use Rattle.std.proofs.lemmas.List.{append-nil}
use Rattle.kn_logic.specs.Literals.{Literal}
use Rattle.kn_logic.specs.Constraints.{Bounded}
use Rattle.kn_logic.proofs.Public.{All-append}
use Rattle.kn_lines.specs.declared.line.Arm.{Arm}
use Rattle.kn_lines.specs.declared.line.Line.{Line}
use Rattle.kn_lines.specs.declared.line.Line.TheVariants.{Header, Define, Lemma, Learned, Klause, Unfold, Delete}
use Rattle.kn_rules.specs.declared.definition.Definition.{Definition}
use Rattle.kn_rules.specs.declared.given.Given.{Given}
use Rattle.kn_rules.specs.declared.given.Origin.TheVariants as origin
use Rattle.kn_rules.specs.States.{ProofState, live_at, defined_among}
use Rattle.kn_rules.specs.Steps.{is_empty, with_clause, with_definition, step}
use Rattle.kn_rules.specs.Stepping.{StepsBy}
use Rattle.kn_rules.proofs.Public.{follow-gives, define-gives, live_at-grows}
use Rattle.kn_log.specs.Logs.{Logged}
use Rattle.kn_log.specs.Written.{AddsSuch, LogsSuchNot, LogsSuch}
use Rattle.kn_log.specs.declared.error.LogError.{LogError}
use Rattle.kn_log.specs.declared.error.LogError.TheVariants.{Fault, Memory}
use Rattle.kn_log.proofs.Public.{Adds-join, such-behind, such-not-behind}
use Rattle.kn_justify.specs.Growth.{IsPlain, ArePlain, Grown}

pub Grown-none : (s : ProofState) → Grown s s
Grown-none s = record { vars = omega arith; definition = λ v d e. e; help = []; are_help = tt; given = sym (append-nil s.given); refuted = refl }

pub Grown-join : (old mid new : ProofState) → Grown old mid → Grown mid new → Grown old new
Grown-join old mid new a b = record {
  vars = omega (arith, a.vars, b.vars);
  definition = λ v d e. b.definition v d (a.definition v d e);
  help = a.help ++ b.help;
  are_help = All-append _ a.help b.help a.are_help b.are_help;
  given = b.given ∙ ap (λ (xs : List Given). xs ++ b.help) a.given ∙ append_assoc old.given a.help b.help;
  refuted = b.refuted ∙ a.refuted;
}

-- a live id stays live
pub grown-live : (old new : ProofState) (id : ℕ) (c : Bounded) → Grown old new → live_at old.given id ≡ Some c → live_at new.given id ≡ Some c
grown-live old new id c g e = subst (λ (xs : List Given). live_at xs id ≡ Some c) (sym g.given) (live_at-grows old.given g.help id c e)

filled : (lits : List Literal) → (lits ≡ [] → ⊥) → is_empty lits ≡ false
filled [] h = absurd (h refl)
filled (l ∷ lits) h = refl

Grown-lemma : (s : ProofState) (lits : List Literal) → (lits ≡ [] → ⊥) → Grown s (with_clause s origin.Lemma lits)
Grown-lemma s lits h = record {
  vars = omega arith;
  definition = λ v d e. e;
  help = _ ∷ [];
  are_help = (tt, tt);
  given = refl;
  refuted = ap (λ (b : Bool). s.refuted || b) (filled lits h) ∙ or-false s.refuted;
}

get-grows : {X : Type 0} (xs more : List X) (k : ℕ) (x : X) → slice_get xs k ≡ Some x → slice_get (xs ++ more) k ≡ Some x
get-grows [] more k x e = absurd cc
get-grows (y ∷ xs) more zero x e = e
get-grows (y ∷ xs) more (suc k) x e = get-grows xs more k x e

defined-grows : (definitions : List Definition) (d x : Definition) (base variable : ℕ) (b : Bool) → cond b (slice_get definitions (variable - base - 1)) None ≡ Some x → cond b (slice_get (definitions ++ d ∷ []) (variable - base - 1)) None ≡ Some x
defined-grows definitions d x base variable true e = get-grows definitions (d ∷ []) (variable - base - 1) x e
defined-grows definitions d x base variable false e = absurd cc

same_base : (vars n m : ℕ) → m ≡ n + 1 → (vars + 1) - m ≡ vars - n
same_base vars n m e = omega (arith, e)

Grown-definition : (s : ProofState) (x : Literal) (high low : Arm) → Grown s (with_definition s x high low)
Grown-definition s x high low = record {
  vars = omega arith;
  definition = λ v d e.
      subst (λ (base : ℕ). defined_among (s.definitions ++ (record { test = x; high = high; low = low }) ∷ []) base v ≡ Some d)
      (sym (same_base s.vars (length s.definitions) _ (length-append s.definitions _)))
      (defined-grows s.definitions _ d (s.vars - length s.definitions) v (ltb (s.vars - length s.definitions) v) e);
  help = _ ∷ _ ∷ _ ∷ _ ∷ [];
  are_help = (tt, (tt, (tt, (tt, tt))));
  given = refl;
  refuted = refl;
}

step-grows : (old new : ProofState) (line : Line) → IsPlain line → step old line ≡ Ok new → Grown old new
step-grows old new (Header vars constraints) p e = absurd p
step-grows old new (Define x high low) p e = subst (Grown old) (sym (define-gives old new x high low e)) (Grown-definition old x high low)
step-grows old new (Lemma c hints) p e = subst (Grown old) (sym (follow-gives old new origin.Lemma c.lits hints e)) (Grown-lemma old c.lits p)
step-grows old new (Learned c hints) p e = absurd p
step-grows old new (Klause c root unit) p e = absurd p
step-grows old new (Unfold id root) p e = absurd p
step-grows old new (Delete ids) p e = absurd p

-- a state grows by plain lines that step
pub plain-grows : (lines : List Line) (old new : ProofState) → ArePlain lines → StepsBy old lines new → Grown old new
plain-grows [] old new p h = subst (Grown old) h (Grown-none old)
plain-grows (line ∷ lines) old new p (next, e, h) = Grown-join old next new (step-grows old next line p.0 e) (plain-grows lines next new p.1 h)

pub such-grows-not : (old new : Logged) (w w' : Option (List ℕ)) (e : LogError) → LogsSuchNot ArePlain old new w w' e → Grown old.state new.state
such-grows-not old new w w' Fault (lines, last, p, h) = plain-grows (lines ++ last ∷ []) old.state new.state p h.steps
such-grows-not old new w w' Memory (lines, p, h) = plain-grows lines old.state new.state p h.steps

-- a call that logs plain lines makes the state grow, whatever it answers
pub such-grows : {T : Type 0} (old new : Logged) (w w' : Option (List ℕ)) (r : Result T LogError) → LogsSuch ArePlain old new w w' r → Grown old.state new.state
such-grows old new w w' (Ok x) (lines, p, h) = plain-grows lines old.state new.state p h.steps
such-grows old new w w' (Err e) h = such-grows-not old new w w' e h

-- plain lines behind plain ones
pub plain-behind : {T : Type 0} (old mid new : Logged) (w v u : Option (List ℕ)) (r : Result T LogError) → AddsSuch ArePlain old mid w v → LogsSuch ArePlain mid new v u r → LogsSuch ArePlain old new w u r
plain-behind old mid new w v u r (front, p, h) last = such-behind ArePlain ArePlain front old mid new w v u r (λ back q. All-append _ front back p q) h last

pub plain-behind-not : (old mid new : Logged) (w v u : Option (List ℕ)) (e : LogError) → AddsSuch ArePlain old mid w v → LogsSuchNot ArePlain mid new v u e → LogsSuchNot ArePlain old new w u e
plain-behind-not old mid new w v u e (front, p, h) last = such-not-behind ArePlain ArePlain front old mid new w v u e (λ back q. All-append _ front back p q) h last

pub plain-join : (old mid new : Logged) (w v u : Option (List ℕ)) → AddsSuch ArePlain old mid w v → AddsSuch ArePlain mid new v u → AddsSuch ArePlain old new w u
plain-join old mid new w v u (a, p, h) (b, q, k) = (a ++ b, All-append _ a b p q, Adds-join a b old mid new w v u h k)

pub adds-grow : (old new : Logged) (w w' : Option (List ℕ)) → AddsSuch ArePlain old new w w' → Grown old.state new.state
adds-grow old new w w' (lines, p, h) = plain-grows lines old.state new.state p h.steps
