-- What a checker keeps between two lines.
use Rattle.std.proofs.Common.{◌≡◌, ℕ, ◌+◌, ◌-◌, ◌++◌, ◌&&◌, Bool, true, false, cond, leb, List, [], ◌∷◌, length, length-append, map, Some, Result, Ok, Err, IsOk, IfOk, refl, sym, ap, ◌∙◌, subst, arith}
use Rattle.std.specs.List.{AllByRecursion}
use Rattle.std.proofs.lemmas.Bool.{and_parts, leb-true}
use Rattle.kn_logic.proofs.Public.{All-push, All-append}
use Rattle.kn_logic.specs.Literals.{Literal, AreKnown}
use Rattle.kn_logic.specs.Constraints.{Bounded, clause, klause, Fits, IsWithin}
use Rattle.kn_lines.specs.declared.line.Arm.{Arm}
use Rattle.kn_rules.specs.declared.given.Given.{Given}
use Rattle.kn_rules.specs.declared.given.Origin.{Origin}
use Rattle.kn_rules.specs.States.{ProofState, defined_among, looked_up, definition_of, from_file, IsLiveWithin, AreLiveWithin, Defined, IsReady}
use Rattle.kn_rules.specs.States.{IsDefinedWithin}
use Rattle.kn_rules.specs.Grids.{is_root}
use Rattle.kn_rules.specs.Marks.{AssumedLiterals}
use Rattle.kn_rules.specs.Causes.{unknown_variable}
use Rattle.kn_rules.specs.Steps.{are_known, follow, is_known_variable, is_known_arm, by_definition, definition_clauses, define, count, deleted}
use Rattle.kn_rules.specs.Entries.{Entered}
use Rattle.kn_rules.proofs.Deleting.{deleted-still}
use Rattle.kn_rules.proofs.Extending.{live-more, defined-more}
use Rattle.kn_rules.proofs.Defining.{by_definition-all, definition-within}
use Rattle.kn_rules.proofs.Units.{defined-known}

pub known-test : (vars : ℕ) (lits : List Literal) → are_known vars lits ≡ true → AreKnown vars lits
known-test vars [] e = tt
known-test vars (l ∷ lits) e =
    let parts = and_parts _ (are_known vars lits) e in
    let here = and_parts (leb 1 l.variable) (leb l.variable vars) parts.0 in
    ((leb-true _ _ here.0, leb-true _ _ here.1), known-test vars lits parts.1)

pub file-within : (vars : ℕ) (cs : List Bounded) → AllByRecursion (Fits vars) cs → AreLiveWithin vars (map from_file cs)
file-within vars [] h = tt
file-within vars (c ∷ cs) h = (h.0.within, file-within vars cs h.1)

known-if : (b : Bool) (r : Result ProofState ℕ) → IsOk (cond b r (Err unknown_variable)) → b ≡ true
known-if true r ok = refl
known-if false r ok = ok

-- a clause that follows is over known variables
pub kept-within : (s : ProofState) (o : Origin) (c : Bounded) (hints : List ℕ) → AreLiveWithin s.vars s.given → c ≡ clause c.lits → IsOk (follow s o c.lits hints) → AreLiveWithin s.vars (s.given ++ (record { origin = o; live = Some c }) ∷ [])
kept-within s o c hints h formed ok =
    let known : AreKnown s.vars c.lits = known-test s.vars c.lits (known-if (are_known s.vars c.lits) _ ok) in
    let within : IsWithin s.vars c = subst (IsWithin s.vars) (sym formed) (record { guard = tt; lits = known }) in
    All-push (IsLiveWithin s.vars) s.given (record { origin = o; live = Some c }) h within

-- a klause whose literals are known
pub known-within : (vars : ℕ) (c d : Bounded) → c ≡ klause c.bound c.lits → d ≡ c → are_known vars c.lits ≡ true → IsWithin vars d
known-within vars c d formed same e =
    subst (IsWithin vars) (sym formed ∙ sym same) (record { guard = tt; lits = known-test vars c.lits e })

pub counted-within : (s : ProofState) (c : Bounded) (root unit : ℕ) → c ≡ klause c.bound c.lits → IsOk (count s c.bound c.lits root unit) → IsWithin s.vars c
counted-within s c root unit formed ok =
    let known = known-if (are_known s.vars c.lits && is_known_variable s.vars root) _ ok in
    known-within s.vars c c formed refl (and_parts (are_known s.vars c.lits) (is_known_variable s.vars root) known).0

-- one definition more
pub defined-push : (s : ProofState) (x : Literal) (high low : Arm) (n : ℕ) → IsOk (define s x high low) → n ≡ s.vars → IsDefinedWithin n (record { test = x; high = high; low = low })
defined-push s x high low n ok e =
    subst (λ k. IsDefinedWithin k (record { test = x; high = high; low = low })) (sym e)
    (defined-known s.vars x high low (known-if (is_known_variable s.vars x.variable && (is_known_arm s.vars high && is_known_arm s.vars low)) _ ok))

pub defined-ready : (s : ProofState) (x : Literal) (high low : Arm) (before after : Defined) (old new : AssumedLiterals) (given : List Given) (variable : ℕ) → IsReady s.vars before s.given old → IsOk (define s x high low) → variable ≡ s.vars + 1 → after ≡ record before { list = before.list ++ (record { test = x; high = high; low = low }) ∷ [] } → given ≡ s.given ++ map by_definition (definition_clauses (record { variable = variable; positive = true }) x high low) → new ≡ record old { vars = old.vars + 1 } → IsReady variable after given new
defined-ready s x high low before after old new given variable h ok v d g t =
    let w = defined-more s.vars variable _ (omega (arith, v)) (defined-push s x high low s.vars ok refl) in
    let added = definition-within variable (record { variable = variable; positive = true }) x high low (omega (arith, v), omega arith) w.test w.high w.low in
    let base : after.base ≡ before.base = ap (λ (a : Defined). a.base) d in
    let longer : length after.list ≡ length before.list + 1 = ap (λ (a : Defined). length a.list) d ∙ length-append before.list _ in
    let vars : new.vars ≡ old.vars + 1 = ap (λ (a : AssumedLiterals). a.vars) t in
    record {
      empty = ap (λ (a : AssumedLiterals). a.lits) t ∙ h.empty;
      room = omega (arith, vars, v, h.room);
      within = subst (AreLiveWithin variable) (sym g) (All-append (IsLiveWithin variable) s.given _ (live-more s.vars variable s.given (omega (arith, v)) h.within) (by_definition-all (IsWithin variable) (definition_clauses (record { variable = variable; positive = true }) x high low) added));
      count = omega (arith, base, longer, v, h.count);
    }

-- the definitions are looked up behind as many variables as have none
pub root-looked-up : {E : Type 0} (s : ProofState) (before : Defined) (lits : List Literal) (bound root : ℕ) (r : Result Bool E) → before.base + length before.list ≡ s.vars → IfOk r (λ found. found ≡ is_root (looked_up before) lits bound root) → IfOk r (λ found. found ≡ is_root (definition_of (record s { definitions = before.list })) lits bound root)
root-looked-up s before lits bound root r e h =
    let base : before.base ≡ s.vars - length before.list = omega (arith, e) in
    subst (λ (b : ℕ). IfOk r (λ found. found ≡ is_root (defined_among before.list b) lits bound root)) base h

-- entries of which some were deleted
pub deleted-ready : (vars : ℕ) (ids : List ℕ) (old new : Entered) (assumed : AssumedLiterals) → IsReady vars old.defined old.given assumed → deleted old.given ids ≡ Ok new.given → new.defined ≡ old.defined → IsReady vars new.defined new.given assumed
deleted-ready vars ids old new assumed h e same =
    subst (λ (d : Defined). IsReady vars d new.given assumed) (sym same)
    (record { empty = h.empty; room = h.room; within = deleted-still (IsWithin vars) ids old.given new.given h.within e; count = h.count })
