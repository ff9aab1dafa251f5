-- One literal more is counted: by a definition for "all of them", and by a definition and a line for "all but one at most".
use Rattle.std.proofs.Common.{◌≡◌, ℕ, ◌≤◌, ◌<◌, ◌+◌, ◌-◌, ◌++◌, leb, true, List, [], ◌∷◌, length, Option, None, Some, refl, sym, subst, inl, inr, arith}
use Rattle.std.specs.List.{AllByRecursion}
use Rattle.std.proofs.lemmas.Bool.{and_from, and_parts, le-leb, leb-true}
use Rattle.kn_logic.specs.Literals.{Literal, IsKnown}
use Rattle.kn_logic.specs.Constraints.{clause}
use Rattle.kn_lines.specs.declared.line.Arm.{Arm}
use Rattle.kn_lines.specs.declared.line.Arm.TheVariants as arm
use Rattle.kn_rules.specs.States.{ProofState, definition_of, live_at}
use Rattle.kn_rules.specs.Grids.{stands_for}
use Rattle.kn_rules.specs.Steps.{is_known_arm}
use Rattle.kn_justify.specs.declared.name.Name.{Name}
use Rattle.kn_justify.specs.declared.counts.All.{All}
use Rattle.kn_justify.specs.declared.counts.Held.{Held}
use Rattle.kn_justify.specs.Arms.{Refuted}
use Rattle.kn_justify.specs.Growth.{Grown}
use Rattle.kn_justify.specs.Definitions.{IsDefined}
use Rattle.kn_justify.specs.PairGroups.{IsPaired, Lifted, IsAll, held_arm, IsHeldIf, IsAllButOne, unit_hints}
use Rattle.kn_justify.proofs.GrowthLemmas.{Grown-join, grown-live}
use Rattle.kn_justify.proofs.DefinitionLemmas.{defined-grows, high-up}
use Rattle.kn_justify.proofs.PairLineLemmas.{lifted-none, lifted-more, lifted-stays, unit-refuted-by}
use Rattle.kn_justify.proofs.PairGridLemmas.{false-stands, node-stands, stands-stays}

pub known-arm : (vars : ℕ) (l : Literal) → IsKnown vars l → is_known_arm vars (arm.Lit l) ≡ true
known-arm vars l h = and_from _ _ (le-leb _ _ h.0) (le-leb _ _ h.1)

-- what was counted stays so while the state grows
pub held-grows : (old new : ProofState) (held : Option Held) → Grown old new → IsHeldIf old held → IsHeldIf new held
held-grows old new None g h = tt
held-grows old new (Some held) g h = record { positive = h.positive; known = (h.known.0, omega (arith, h.known.1, g.vars)); unit = grown-live old new held.unit _ g h.unit }

paired_at : (old new : ProofState) (pairs : List ((ℕ × ℕ) × ℕ)) (l k : Literal) → Grown old new → IsPaired old.given pairs l k → IsPaired new.given pairs l k
paired_at old new pairs l k g (id, e, inl live) = (id, e, inl (grown-live old new id _ g live))
paired_at old new pairs l k g (id, e, inr live) = (id, e, inr (grown-live old new id _ g live))

pub paired-grows : (old new : ProofState) (pairs : List ((ℕ × ℕ) × ℕ)) (l : Literal) (lits : List Literal) → Grown old new → AllByRecursion (IsPaired old.given pairs l) lits → AllByRecursion (IsPaired new.given pairs l) lits
paired-grows old new pairs l [] g h = tt
paired-grows old new pairs l (k ∷ lits) g h = (paired_at old new pairs l k g h.0, paired-grows old new pairs l lits g h.1)

known-grows : (old new : ProofState) (a : Arm) → Grown old new → is_known_arm old.vars a ≡ true → is_known_arm new.vars a ≡ true
known-grows old new arm.True g e = refl
known-grows old new arm.False g e = refl
known-grows old new (arm.Lit l) g e =
    let (low, high) = and_parts (leb 1 l.variable) (leb l.variable old.vars) e in
    let known : l.variable ≤ old.vars = leb-true l.variable old.vars high in
    and_from _ _ low (le-leb l.variable new.vars (omega (arith, known, g.vars)))

pub all-grows : (old new : ProofState) (lits : List Literal) (all : All) → Grown old new → IsAll old lits all → IsAll new lits all
all-grows old new lits all g h = record {
  stands = stands-stays (definition_of old) (definition_of new) lits (length lits) all.arm g.definition h.stands;
  known = known-grows old new all.arm g h.known;
  lifted = lifted-stays old.given new.given all.lifts.items lits all.arm (λ id c e. grown-live old new id c g e) h.lifted;
}

pub but-one-grows : (old new : ProofState) (lits : List Literal) (held : Option Held) → Grown old new → IsAllButOne old lits held → IsAllButOne new lits held
but-one-grows old new lits held g h = record {
  stands = stands-stays (definition_of old) (definition_of new) lits (length lits - 1) (held_arm held) g.definition h.stands;
  is_held = held-grows old new held g h.is_held;
}

-- no literal
pub none-all : (s : ProofState) (all : All) → all.arm ≡ arm.True → all.lifts.items ≡ [] → IsAll s [] all
none-all s all ea el = record {
  stands = subst (λ (a : Arm). stands_for (definition_of s) [] 0 a ≡ true) (sym ea) refl;
  known = subst (λ (a : Arm). is_known_arm s.vars a ≡ true) (sym ea) refl;
  lifted = subst (λ (a : Arm). Lifted s.given all.lifts.items [] a) (sym ea) (subst (λ (ids : List ℕ). Lifted s.given ids [] arm.True) (sym el) (lifted-none s.given));
}

-- one literal
pub one-but-one : (s : ProofState) (l : Literal) → IsAllButOne s (l ∷ []) None
one-but-one s l = record { stands = refl; is_held = tt }

-- one literal more
pub all-counted : (old new : ProofState) (l : Literal) (lits : List Literal) (all next : All) (n : Name) → Grown old new → IsDefined new n l all.arm arm.False
    → next.arm ≡ arm.Lit n.lit → next.lifts.items ≡ all.lifts.items ++ (n.id + 2) ∷ [] → IsAll old lits all → IsAll new (l ∷ lits) next
all-counted old new l lits all next n g d ea el h =
    let less : length (l ∷ lits) - 1 ≡ length lits = omega arith in
    let high : stands_for (definition_of new) lits (length (l ∷ lits) - 1) all.arm ≡ true =
    subst (λ (j : ℕ). stands_for (definition_of new) lits j all.arm ≡ true) (sym less) (stands-stays (definition_of old) (definition_of new) lits (length lits) all.arm g.definition h.stands) in
    record {
      stands = subst (λ (a : Arm). stands_for (definition_of new) (l ∷ lits) (length (l ∷ lits)) a ≡ true) (sym ea)
          (node-stands (definition_of new) l lits (length (l ∷ lits)) n.lit all.arm arm.False (omega arith) (omega arith) d.positive d.definition high (false-stands (definition_of new) lits (length (l ∷ lits)) (omega arith)));
      known = subst (λ (a : Arm). is_known_arm new.vars a ≡ true) (sym ea) (known-arm new.vars n.lit d.known);
      lifted = subst (λ (a : Arm). Lifted new.given next.lifts.items (l ∷ lits) a) (sym ea)
          (subst (λ (ids : List ℕ). Lifted new.given ids (l ∷ lits) (arm.Lit n.lit)) (sym el)
          (lifted-more new.given l n.lit lits all.arm all.lifts.items ((n.id + 2) ∷ [])
          (lifted-stays old.given new.given all.lifts.items lits all.arm (λ id c e. grown-live old new id c g e) h.lifted) (high-up new n l all.arm arm.False d)));
    }

-- the line of "all but one at most"
pub unit-ready : (old mid : ProofState) (pairs : List ((ℕ × ℕ) × ℕ)) (held : Option Held) (n : Name) (l : Literal) (lits : List Literal) (all : All) (ids : List ℕ) → Grown old mid → IsDefined mid n l (held_arm held) all.arm
    → IsAllButOne old lits held → AllByRecursion (IsPaired old.given pairs l) lits → IsAll old lits all → ids ≡ unit_hints pairs held n l lits all.lifts.items → Refuted mid.given ids (arm.Lit n.lit ∷ [])
unit-ready old mid pairs held n l lits all ids g d b p a e =
    subst (λ (xs : List ℕ). Refuted mid.given xs (arm.Lit n.lit ∷ [])) (sym e)
    (unit-refuted-by mid pairs held n l lits all.arm all.lifts.items d (held-grows old mid held g b.is_held) (paired-grows old mid pairs l lits g p)
    (lifted-stays old.given mid.given all.lifts.items lits all.arm (λ id c f. grown-live old mid id c g f) a.lifted))

pub but-one-counted : (old mid new : ProofState) (l : Literal) (lits : List Literal) (held : Option Held) (n : Name) (all : All) (h : Held) → 0 < length lits → Grown old mid → Grown mid new → IsDefined mid n l (held_arm held) all.arm
    → IsAllButOne old lits held → IsAll old lits all → h.lit ≡ n.lit → live_at new.given h.unit ≡ Some (clause (n.lit ∷ [])) → IsAllButOne new (l ∷ lits) (Some h)
but-one-counted old mid new l lits held n all h filled g g' d b a same live =
    let less : length (l ∷ lits) - 1 ≡ length lits = omega arith in
    let grown = Grown-join old mid new g g' in
    let e = defined-grows mid new n l (held_arm held) all.arm g' d in
    let high = stands-stays (definition_of old) (definition_of new) lits (length lits - 1) (held_arm held) grown.definition b.stands in
    let low = stands-stays (definition_of old) (definition_of new) lits (length lits) all.arm grown.definition a.stands in
    record {
      stands = subst (λ (j : ℕ). stands_for (definition_of new) (l ∷ lits) j (arm.Lit h.lit) ≡ true) (sym less)
          (subst (λ (x : Literal). stands_for (definition_of new) (l ∷ lits) (length lits) (arm.Lit x) ≡ true) (sym same)
          (node-stands (definition_of new) l lits (length lits) n.lit (held_arm held) all.arm (omega (arith, filled)) (omega arith) e.positive e.definition high low));
      is_held = record {
        positive = subst (λ (x : Literal). x.positive ≡ true) (sym same) e.positive;
        known = subst (λ (x : Literal). IsKnown new.vars x) (sym same) e.known;
        unit = subst (λ (x : Literal). live_at new.given h.unit ≡ Some (clause (x ∷ []))) (sym same) live;
      };
    }

pub held-known : (s : ProofState) (held : Option Held) → IsHeldIf s held → is_known_arm s.vars (held_arm held) ≡ true
held-known s None h = refl
held-known s (Some held) h = known-arm s.vars held.lit h.known
