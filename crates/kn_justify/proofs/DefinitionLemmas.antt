-- What the line of a definition gives.
use Rattle.std.proofs.Common.{◌≡◌, ℕ, suc, ◌+◌, ◌-◌, ◌≤◌, ◌++◌, true, List, [], ◌∷◌, length, map, Some, Ok, refl, sym, ap, ◌∙◌, subst, arith}
use Rattle.std.specs.List.{slice_get}
use Rattle.std.proofs.lemmas.Bool.{ne_eqb}
use Rattle.kn_logic.specs.Literals.{Literal, negated}
use Rattle.kn_logic.specs.Constraints.{Bounded}
use Rattle.kn_lines.specs.declared.line.Arm.{Arm}
use Rattle.kn_lines.specs.declared.line.Arm.TheVariants as arm
use Rattle.kn_lines.specs.declared.line.Line.TheVariants.{Define}
use Rattle.kn_rules.specs.declared.given.Given.{Given}
use Rattle.kn_rules.specs.States.{ProofState, live_at, definition_of}
use Rattle.kn_rules.specs.Steps.{opposite, with_arm, definition_clauses, by_definition, next_variable, with_definition, step}
use Rattle.kn_rules.proofs.Public.{define-gives, define-defines}
use Rattle.kn_justify.specs.declared.name.Name.{Name}
use Rattle.kn_justify.specs.Arms.{Settled}
use Rattle.kn_justify.specs.Growth.{Grown}
use Rattle.kn_justify.specs.Definitions.{IsDefined}
use Rattle.kn_justify.proofs.GrowthLemmas.{grown-live}
use Rattle.kn_justify.proofs.HintLemmas.{definition-settled}

get_behind : {X : Type 0} (xs ys : List X) (k : ℕ) (x : X) → slice_get ys k ≡ Some x → slice_get (xs ++ ys) (length xs + k) ≡ Some x
get_behind [] ys k x e = (let z : 0 + k ≡ k = omega arith in rw z e)
get_behind (y ∷ xs) ys k x e = (let z : suc (length xs) + k ≡ suc (length xs + k) = omega arith in rw z (get_behind xs ys k x e))

live_behind : (given more : List Given) (k : ℕ) (c : Bounded) (entry : Given) → slice_get more k ≡ Some entry → entry.live ≡ Some c → live_at (given ++ more) (length given + 1 + k) ≡ Some c
live_behind given more k c entry e f =
    let place : (length given + 1 + k) - 1 ≡ length given + k = omega arith in
    rw (ne_eqb (length given + 1 + k) 0 (λ z. omega (arith, z)), place, get_behind given more k entry e) f

-- the four clauses, by the place of each
pub definition-defines : (s t : ProofState) (x : Literal) (high low : Arm) (var id : ℕ) (lit : Literal) → length s.definitions ≤ s.vars → step s (Define x high low) ≡ Ok t
    → var ≡ s.vars + 1 → id ≡ length s.given + 1 → lit ≡ record { variable = var; positive = true } → IsDefined t (record { lit = lit; id = id }) x high low
definition-defines s t x high low var id lit room e ev ei el = record {
  positive = ap (λ (l : Literal). l.positive) el;
  known = (omega (arith, number, ev), omega (arith, number, ev, vars));
  definition = subst (λ (v : ℕ). definition_of t v ≡ Some (record { test = x; high = high; low = low })) (sym (number ∙ ev)) (define-defines s t x high low room e);
  high_down = at 0 (λ v. with_arm (negated v ∷ negated x ∷ []) high) refl;
  low_down = at 1 (λ v. with_arm (negated v ∷ x ∷ []) low) refl;
  high_up = at 2 (λ v. with_arm (v ∷ negated x ∷ []) (opposite high)) refl;
  low_up = at 3 (λ v. with_arm (v ∷ x ∷ []) (opposite low)) refl;
}
  where
    number : lit.variable ≡ var
    number = ap (λ (l : Literal). l.variable) el

    gives : t ≡ with_definition s x high low
    gives = define-gives s t x high low e

    vars : t.vars ≡ s.vars + 1
    vars = ap (λ (u : ProofState). u.vars) gives

    own : next_variable s ≡ lit
    own = ap (λ (v : ℕ). record { variable = v; positive = true }) (sym ev) ∙ sym el

    more : List Given
    more = map by_definition (definition_clauses (next_variable s) x high low)

    at : (k : ℕ) (c : Literal → Bounded) → slice_get more k ≡ Some (by_definition (c (next_variable s))) → live_at t.given (id + k) ≡ Some (c lit)
    at k c f =
        ap (λ (u : ProofState). live_at u.given (id + k)) gives
        ∙ ap (λ (i : ℕ). live_at (s.given ++ more) (i + k)) ei
        ∙ live_behind s.given more k (c (next_variable s)) (by_definition (c (next_variable s))) f refl
        ∙ ap (λ (v : Literal). Some (c v)) own

-- a definition stays while the state grows
pub defined-grows : (old new : ProofState) (n : Name) (x : Literal) (high low : Arm) → Grown old new → IsDefined old n x high low → IsDefined new n x high low
defined-grows old new n x high low g r = record {
  positive = r.positive;
  known = (r.known.0, omega (arith, r.known.1, g.vars));
  definition = g.definition _ _ r.definition;
  high_down = grown-live old new _ _ g r.high_down;
  low_down = grown-live old new _ _ g r.low_down;
  high_up = grown-live old new _ _ g r.high_up;
  low_up = grown-live old new _ _ g r.low_up;
}

-- its four clauses, as hints
pub high-down : (s : ProofState) (n : Name) (x : Literal) (high low : Arm) → IsDefined s n x high low → Settled s.given ((n.id + 0) ∷ []) (arm.Lit (negated n.lit) ∷ arm.Lit (negated x) ∷ high ∷ [])
high-down s n x high low r = definition-settled s.given (n.id + 0) (negated n.lit) (negated x) high r.high_down

pub low-down : (s : ProofState) (n : Name) (x : Literal) (high low : Arm) → IsDefined s n x high low → Settled s.given ((n.id + 1) ∷ []) (arm.Lit (negated n.lit) ∷ arm.Lit x ∷ low ∷ [])
low-down s n x high low r = definition-settled s.given (n.id + 1) (negated n.lit) x low r.low_down

pub high-up : (s : ProofState) (n : Name) (x : Literal) (high low : Arm) → IsDefined s n x high low → Settled s.given ((n.id + 2) ∷ []) (arm.Lit n.lit ∷ arm.Lit (negated x) ∷ opposite high ∷ [])
high-up s n x high low r = definition-settled s.given (n.id + 2) n.lit (negated x) (opposite high) r.high_up

pub low-up : (s : ProofState) (n : Name) (x : Literal) (high low : Arm) → IsDefined s n x high low → Settled s.given ((n.id + 3) ∷ []) (arm.Lit n.lit ∷ arm.Lit x ∷ opposite low ∷ [])
low-up s n x high low r = definition-settled s.given (n.id + 3) n.lit x (opposite low) r.low_up
