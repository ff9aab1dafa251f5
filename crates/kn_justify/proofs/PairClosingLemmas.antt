-- The klause of a pair group: its line steps once "all but one at most" is held of the border.
use Rattle.std.proofs.Common.{◌≡◌, ℕ, ◌-◌, ◌&&◌, Bool, true, not, List, [], ◌∷◌, length, Option, None, Some, Result, Ok, Err, refl, sym, ap, ◌∙◌, subst}
use Rattle.std.specs.List.{AllByRecursion}
use Rattle.std.specs.Result.{IsOk, IfOk, OnOk}
use Rattle.std.proofs.lemmas.Bool.{and_from, le-leb}
use Rattle.kn_logic.specs.Literals.{Literal, AreKnown, AreDifferent}
use Rattle.kn_logic.specs.Constraints.{Bounded, clause, klause}
use Rattle.kn_logic.specs.Groups.{Gathered, IsPairGroup}
use Rattle.kn_logic.proofs.Public.{same-refl, are_known-more}
use Rattle.kn_lines.specs.declared.line.Arm.TheVariants as arm
use Rattle.kn_rules.specs.States.{ProofState, definition_of, live_at}
use Rattle.kn_rules.specs.Grids.{stands_for, is_root}
use Rattle.kn_rules.specs.Steps.{are_known, is_known_variable, are_different, is_unit, count}
use Rattle.kn_log.specs.Logs.{Logged}
use Rattle.kn_log.specs.Written.{AddsSuch, LogsSuch}
use Rattle.kn_log.specs.declared.error.LogError.{LogError}
use Rattle.kn_justify.specs.declared.counts.Held.{Held}
use Rattle.kn_justify.specs.Growth.{ArePlain, Grown}
use Rattle.kn_justify.specs.Closings.{AreLive, AreClosing, AreJustifying, Replaces}
use Rattle.kn_justify.specs.Taken.{AreTaken}
use Rattle.kn_justify.specs.PairGroups.{pair_klause, IsAllButOne}
use Rattle.kn_justify.proofs.ClosingLemmas.{replaces-behind, replaces-klause, replaces-gone, closing-behind}
use Rattle.kn_justify.proofs.DeletionLemmas.{live-more}
use Rattle.kn_justify.proofs.PairBorderLemmas.{taken-live, border-different}

all-known : (vars : ℕ) (lits : List Literal) → AreKnown vars lits → are_known vars lits ≡ true
all-known vars [] h = refl
all-known vars (l ∷ lits) h = and_from _ _ (and_from _ _ (le-leb 1 l.variable h.0.0) (le-leb l.variable vars h.0.1)) (all-known vars lits h.1)

all-different : (lits : List Literal) → AreDifferent lits → are_different lits ≡ true
all-different [] h = refl
all-different (l ∷ lits) h = and_from _ _ (ap not h.0) (all-different lits h.1)

positive-is : (l : Literal) → l.positive ≡ true → l ≡ record { variable = l.variable; positive = true }
positive-is l e = with-sign l.variable l.positive true e
  where
    with-sign : (v : ℕ) (p q : Bool) → p ≡ q → ◌≡◌ {A = Literal} (record { variable = v; positive = p }) (record { variable = v; positive = q })
    with-sign v p q e = cc

steps-at : (s : ProofState) (lits : List Literal) (bound root unit : ℕ) (c : Bounded) → are_known s.vars lits ≡ true → is_known_variable s.vars root ≡ true → live_at s.given unit ≡ Some c
    → are_different lits ≡ true → is_root (definition_of s) lits bound root ≡ true → is_unit c root ≡ true → IsOk (count s bound lits root unit)
steps-at s lits bound root unit c known known-root live apart rooted alone =
    let both : (are_known s.vars lits && is_known_variable s.vars root) ≡ true = and_from _ _ known known-root in
    rw (both, live, apart, rooted, alone) refl

pub klause-steps : (s : ProofState) (lits : List Literal) (held : Held) (bound : ℕ) (root : ℕ) → AreKnown s.vars lits → AreDifferent lits → IsAllButOne s lits (Some held) → bound ≡ length lits - 1 → root ≡ held.lit.variable → IsOk (count s bound lits root held.unit)
klause-steps s lits held bound root known d h eb er =
    let lit : held.lit ≡ record { variable = root; positive = true } = positive-is held.lit h.is_held.positive ∙ ap (λ (v : ℕ). record { variable = v; positive = true }) (sym er) in
    let rooted : is_root (definition_of s) lits bound root ≡ true =
    subst (λ (j : ℕ). is_root (definition_of s) lits j root ≡ true) (sym eb) (subst (λ (l : Literal). stands_for (definition_of s) lits (length lits - 1) (arm.Lit l) ≡ true) lit h.stands) in
    let alone : is_unit (clause (held.lit ∷ [])) root ≡ true = subst (λ (l : Literal). is_unit (clause (l ∷ [])) root ≡ true) (sym lit) (same-refl (record { variable = root; positive = true })) in
    let root-known : is_known_variable s.vars root ≡ true =
    subst (λ (v : ℕ). is_known_variable s.vars v ≡ true) (sym er) (and_from _ _ (le-leb 1 held.lit.variable h.is_held.known.0) (le-leb held.lit.variable s.vars h.is_held.known.1)) in
    steps-at s lits bound root held.unit (clause (held.lit ∷ [])) (all-known s.vars lits known) root-known h.is_held.unit (all-different lits d) rooted alone

-- what the closing line is of
pub klause-is : (g : Gathered) (c : Bounded) (lits border : List Literal) (bound : ℕ) → c ≡ klause bound lits → bound ≡ length border - 1 → lits ≡ border → border ≡ g.border → c ≡ pair_klause g
klause-is g c lits border bound is eb el e = rw (is, eb, el, e) refl

pub group-steps : (old s : ProofState) (g : Gathered) (c : Bounded) (held : Held) (lits : List Literal) (root : ℕ) → IsPairGroup g → Grown old s → AreKnown old.vars lits → lits ≡ g.border → IsAllButOne s lits (Some held) → c ≡ pair_klause g → root ≡ held.lit.variable → IsOk (count s c.bound c.lits root held.unit)
group-steps old s g c held lits root p grown known is h ec er =
    subst (λ (x : Bounded). IsOk (count s x.bound x.lits root held.unit)) (sym ec)
    (klause-steps s g.border held (length g.border - 1) root (are_known-more old.vars s.vars g.border grown.vars (subst (AreKnown old.vars) is known)) (border-different g p)
    (subst (λ (xs : List Literal). IsAllButOne s xs (Some held)) is h) refl er)

pub live-grown : (old new : ProofState) (cs : List Bounded) (ids : List ℕ) → Grown old new → AreTaken old.given ids cs → AreLive new.given ids
live-grown old new cs ids g h = subst (λ given. AreLive given ids) (sym g.given) (live-more old.given g.help ids (taken-live old.given cs ids h))

-- behind the lines of the grid
pub replaced-behind : (old mid new : ProofState) (ids : List ℕ) (c k : Bounded) (r : Result ℕ LogError) → Grown old mid → c ≡ k → IfOk r (Replaces mid new ids c) → IfOk r (Replaces old new ids k)
replaced-behind old mid new ids c k (Ok id) g e h = subst (λ (x : Bounded). Replaces old new ids x id) e (replaces-behind old mid new ids c id g h)
replaced-behind old mid new ids c k (Err x) g e h = h

pub klause-behind : (mid new : ProofState) (ids : List ℕ) (c k : Bounded) (r : Result ℕ LogError) → AreLive mid.given ids → c ≡ k → IfOk r (Replaces mid new ids c) → IfOk r (λ id. live_at new.given id ≡ Some k)
klause-behind mid new ids c k (Ok id) live e h = subst (λ (x : Bounded). live_at new.given id ≡ Some x) e (replaces-klause mid new ids c id live h)
klause-behind mid new ids c k (Err x) live e h = h

pub gone-behind : (mid new : ProofState) (ids : List ℕ) (c : Bounded) (r : Result ℕ LogError) → IfOk r (Replaces mid new ids c) → OnOk r (AllByRecursion (λ id. live_at new.given id ≡ None) ids)
gone-behind mid new ids c (Ok id) h = replaces-gone mid new ids c id h
gone-behind mid new ids c (Err x) h = h

pub lines-behind : (c k : Bounded) (ids : List ℕ) (old mid new : Logged) (w v u : Option (List ℕ)) (r : Result ℕ LogError) → c ≡ k → AddsSuch ArePlain old mid w v → LogsSuch (AreClosing c ids) mid new v u r → LogsSuch (AreJustifying k ids) old new w u r
lines-behind c k ids old mid new w v u r e front h = subst (λ (x : Bounded). LogsSuch (AreJustifying x ids) old new w u r) e (closing-behind c ids old mid new w v u r front h)
