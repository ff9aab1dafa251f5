-- What the line of a lemma about arms has done.
use Rattle.std.proofs.Common.{◌≡◌, ℕ, ◌+◌, ◌-◌, ◌++◌, ◌||◌, Bool, true, false, List, [], ◌∷◌, length, Option, Some, Result, Ok, Err, refl, sym, ap, ◌∙◌, subst, arith}
use Rattle.std.specs.List.{slice_get}
use Rattle.std.specs.Result.{IsErrAnd, IsOk}
use Rattle.std.proofs.lemmas.Bool.{ne_eqb}
use Rattle.kn_logic.specs.Literals.{Literal}
use Rattle.kn_logic.specs.Constraints.{Bounded, clause}
use Rattle.kn_lines.specs.Lines.{AreIds}
use Rattle.kn_lines.specs.declared.line.Arm.{Arm}
use Rattle.kn_lines.specs.declared.line.Line.{Line}
use Rattle.kn_lines.specs.declared.line.Line.TheVariants.{Lemma}
use Rattle.kn_rules.specs.declared.given.Given.{Given}
use Rattle.kn_rules.specs.declared.given.Origin.TheVariants as origin
use Rattle.kn_rules.specs.States.{ProofState, live_at}
use Rattle.kn_rules.specs.Steps.{with_clause, follow, step}
use Rattle.kn_rules.proofs.Public.{follow-gives}
use Rattle.kn_bytes.specs.Outside.{Got}
use Rattle.kn_log.specs.Logs.{Logged, line_bytes, IsSpelled}
use Rattle.kn_log.specs.Written.{AddsSuch, LogsSuchNot, LogsSuch}
use Rattle.kn_log.specs.declared.error.LogError.{LogError}
use Rattle.kn_log.proofs.Public.{Adds-none, Adds-one}
use Rattle.kn_justify.specs.Arms.{literals_of, has_true, has_both, is_trivial, Settled, Refuted, AreKnownArms}
use Rattle.kn_justify.specs.Growth.{ArePlain}
use Rattle.kn_justify.proofs.HintLemmas.{clause-settled, refuted-steps, refuted-ids, known-literals}

last_of : {X : Type 0} (xs : List X) (x : X) → slice_get (xs ++ x ∷ []) (length xs) ≡ Some x
last_of [] x = refl
last_of (y ∷ xs) x = last_of xs x

-- the id behind those that were given
pub live_at-last : (given : List Given) (entry : Given) (c : Bounded) → entry.live ≡ Some c → live_at (given ++ entry ∷ []) (length given + 1) ≡ Some c
live_at-last given entry c e =
    let place : (length given + 1) - 1 ≡ length given = omega arith in
    rw (ne_eqb (length given + 1) 0 (λ z. omega (arith, z)), place, last_of given entry) e

-- what the code tests
pub trivial-is : (arms : List Arm) (lits at : List Literal) (a b t : Bool) → lits ≡ literals_of arms → at ≡ lits → a ≡ has_true arms → b ≡ has_both at → (a || b) ≡ t → is_trivial arms ≡ t
trivial-is arms lits at a b t e f g h k =
    let both : b ≡ has_both (literals_of arms) = h ∙ ap has_both (f ∙ e) in
    (λ i. sym g i || sym both i) ∙ k

-- the lemma of arms that needs a line has a literal
pub has-literal : (arms : List Arm) (c : Bounded) (lits : List Literal) → (literals_of arms ≡ [] → is_trivial arms ≡ true) → is_trivial arms ≡ false → c ≡ clause lits → lits ≡ literals_of arms → c.lits ≡ [] → ⊥
has-literal arms c lits h e is same none =
    let lits_are : c.lits ≡ literals_of arms = ap (λ (x : Bounded). x.lits) is ∙ same in
    let t = h (sym lits_are ∙ none) in
    absurd cc

pub lemma-formed : (arms : List Arm) (c : Bounded) (lits : List Literal) (given : List Given) (hints ids : List ℕ) → c ≡ clause lits → ids ≡ hints → Refuted given hints arms → (c ≡ clause c.lits) × AreIds ids
lemma-formed arms c lits given hints ids e f h =
    let same : c.lits ≡ lits = ap (λ (x : Bounded). x.lits) e in
    (e ∙ ap (λ (xs : List Literal). clause xs) (sym same), subst AreIds (sym f) (refuted-ids given hints arms h))

pub lemma-steps : (s : ProofState) (arms : List Arm) (c : Bounded) (lits : List Literal) (hints ids : List ℕ) → c ≡ clause lits → lits ≡ literals_of arms → ids ≡ hints → is_trivial arms ≡ false → AreKnownArms s.vars arms → Refuted s.given hints arms → IsOk (follow s origin.Lemma c.lits ids)
lemma-steps s arms c lits hints ids e f g t k h =
    let same : c.lits ≡ literals_of arms = ap (λ (x : Bounded). x.lits) e ∙ f in
    subst (λ (xs : List Literal). IsOk (follow s origin.Lemma xs ids)) (sym same)
    (subst (λ (xs : List ℕ). IsOk (follow s origin.Lemma (literals_of arms) xs)) (sym g) (refuted-steps s origin.Lemma arms hints (known-literals s.vars arms k) t h))

-- the clause of the arms is live under the id of its lemma
pub lemma-lives : (old new : ProofState) (arms : List Arm) (c : Bounded) (lits : List Literal) (ids : List ℕ) (id : ℕ) → c ≡ clause lits → lits ≡ literals_of arms → id ≡ length old.given + 1 → step old (Lemma c ids) ≡ Ok new → live_at new.given id ≡ Some (clause (literals_of arms))
lemma-lives old new arms c lits ids id is same at e =
    let lits_are : c.lits ≡ literals_of arms = ap (λ (x : Bounded). x.lits) is ∙ same in
    subst (λ (s : ProofState). live_at s.given id ≡ Some (clause (literals_of arms))) (sym (follow-gives old new origin.Lemma c.lits ids e))
    (subst (λ (n : ℕ). live_at (with_clause old origin.Lemma c.lits).given n ≡ Some (clause (literals_of arms))) (sym at)
    (live_at-last old.given _ (clause (literals_of arms)) (ap (λ (xs : List Literal). Some (clause xs)) lits_are)))

pub lemma-settles : (old new : ProofState) (arms : List Arm) (c : Bounded) (lits : List Literal) (ids : List ℕ) (id : ℕ) → c ≡ clause lits → lits ≡ literals_of arms → is_trivial arms ≡ false → id ≡ length old.given + 1 → step old (Lemma c ids) ≡ Ok new → Settled new.given (id ∷ []) arms
lemma-settles old new arms c lits ids id is same t at e = clause-settled new.given id arms (lemma-lives old new arms c lits ids id is same at e) t

-- a call ends as the call did that it made last
pub error-ends : {T : Type 0} (P : List Line → Type 0) (old new : Logged) (w w' : Option (List ℕ)) (r : Result T LogError) (e : LogError) → IsErrAnd r (λ x. x ≡ e) → LogsSuchNot P old new w w' e → LogsSuch P old new w w' r
error-ends P old new w w' (Ok x) e h k = absurd h
error-ends P old new w w' (Err x) e h k = subst (λ (y : LogError). LogsSuchNot P old new w w' y) (sym h) k

-- no line was logged
pub plain-none : (log : Logged) (w : Option (List ℕ)) → log.failed ≡ false → AddsSuch ArePlain log log w w
plain-none log w whole = ([], tt, Adds-none log w whole)

-- one line was logged
pub adds-one : (P : List Line → Type 0) (line : Line) (old new : Logged) (w w' : Option (List ℕ)) → P (line ∷ []) → (step old.state line ≡ Ok new.state) × (new.failed ≡ false) × Got w w' (line_bytes line) → IsSpelled line → AddsSuch P old new w w'
adds-one P line old new w w' p (steps, whole, got) spelled = (line ∷ [], p, Adds-one line old new w w' steps whole spelled got)
