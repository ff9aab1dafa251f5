-- The run of a line whose literals are arms: where hints refute the arms, it ends in conflict.
use Rattle.std.proofs.Common.{◌≡◌, Bool, true, false, List, [], ◌∷◌, Some, refl, sym, ap, ◌∙◌, subst, inl, inr}
use Rattle.std.specs.Prelude.{map}
use Rattle.std.specs.Option.{is_none}
use Rattle.std.proofs.lemmas.Bool.{or_cases, or_parts, or_left, or_right, not_from_false}
use Rattle.kn_logic.specs.Literals.{Literal, negated, is_same, has}
use Rattle.kn_logic.specs.Constraints.{Bounded}
use Rattle.kn_logic.specs.Propagation.{IsConsistent}
use Rattle.kn_logic.proofs.Public.{same_literal, same-refl, has-first, All-from, negated_twice}
use Rattle.kn_lines.specs.declared.line.Arm.{Arm}
use Rattle.kn_lines.specs.declared.line.Arm.TheVariants as arm
use Rattle.kn_rules.specs.Steps.{is_conflict}
use Rattle.kn_justify.specs.Arms.{AllRefuted, Refutes, has_true, literals_of, has_both, is_trivial}
use Rattle.kn_justify.proofs.ArmLemmas.{not_itself}

pub has_negated : (lits : List Literal) (l : Literal) → has lits l ≡ true → has (map negated lits) (negated l) ≡ true
has_negated [] l e = absurd cc
has_negated (x ∷ lits) l e =
    elim (or_cases (is_same l x) (has lits l) e) [
      | inl s ↦ or_left (is_same (negated l) (negated x)) (has (map negated lits) (negated l)) (subst (λ (y : Literal). is_same (negated l) (negated y) ≡ true) (same_literal l x s) (same-refl (negated l)))
      | inr t ↦ or_right (is_same (negated l) (negated x)) (has (map negated lits) (negated l)) (has_negated lits l t)
    ]

from_negated : (lits : List Literal) (k : Literal) → has (map negated lits) k ≡ true → (l : Literal) × (has lits l ≡ true) × (k ≡ negated l)
from_negated [] k e = absurd cc
from_negated (x ∷ lits) k e =
    elim (or_cases (is_same k (negated x)) (has (map negated lits) k) e) [
      | inl s ↦ (x, has-first x lits, same_literal k (negated x) s)
      | inr t ↦ (let f = from_negated lits k t in (f.0, or_right (is_same f.0 x) (has lits f.0) f.1, f.2))
    ]

pub both_from : (lits : List Literal) (l : Literal) → has lits l ≡ true → has lits (negated l) ≡ true → has_both lits ≡ true
both_from [] l e f = absurd cc
both_from (x ∷ lits) l e f =
    elim (or_cases (is_same l x) (has lits l) e) [
      | inl s ↦ elim (or_cases (is_same (negated l) x) (has lits (negated l)) f) [
        | inl t ↦ absurd (not_itself l.positive (ap (λ (y : Literal). y.positive) (same_literal l x s ∙ sym (same_literal (negated l) x t))))
        | inr t ↦ or_left (has lits (negated x)) (has_both lits) (subst (λ (y : Literal). has lits (negated y) ≡ true) (same_literal l x s) t)
      ]
      | inr s ↦ elim (or_cases (is_same (negated l) x) (has lits (negated l)) f) [
        | inl t ↦ or_left (has lits (negated x)) (has_both lits) (subst (λ (y : Literal). has lits y ≡ true) (sym (negated_twice l) ∙ ap (λ (y : Literal). negated y) (same_literal (negated l) x t)) s)
        | inr t ↦ or_right (has lits (negated x)) (has_both lits) (both_from lits l s t)
      ]
    ]

start_refuted : (trail : List Literal) (arms : List Arm) → has_true arms ≡ false → ((l : Literal) → has (literals_of arms) l ≡ true → has trail (negated l) ≡ true) → AllRefuted (Some trail) arms
start_refuted trail [] e h = tt
start_refuted trail (arm.True ∷ arms) e h = absurd cc
start_refuted trail (arm.False ∷ arms) e h = (tt, start_refuted trail arms e h)
start_refuted trail (arm.Lit l ∷ arms) e h = (h l (has-first l (literals_of arms)), start_refuted trail arms e (λ k m. h k (or_right (is_same k l) (has (literals_of arms) k) m)))

both_ways : (lits : List Literal) (k : Literal) → has_both lits ≡ false → (l : Literal) × (has lits l ≡ true) × (k ≡ negated l) → (m : Literal) × (has lits m ≡ true) × (negated k ≡ negated m) → ⊥
both_ways lits k e (l, h, is) (m, g, eq) =
    let same : negated m ≡ l = sym eq ∙ ap (λ (x : Literal). negated x) is ∙ negated_twice l in
    let f = both_from lits m g (subst (λ (x : Literal). has lits x ≡ true) (sym same) h) in
    absurd cc

unopposed : (lits : List Literal) (k : Literal) (b : Bool) → has_both lits ≡ false → has (map negated lits) k ≡ true → has (map negated lits) (negated k) ≡ b → has (map negated lits) (negated k) ≡ false
unopposed lits k true e h g = absurd (both_ways lits k e (from_negated lits k h) (from_negated lits (negated k) g))
unopposed lits k false e h g = g

start_sound : (lits : List Literal) → has_both lits ≡ false → IsConsistent (map negated lits)
start_sound lits e = All-from _ (map negated lits) (λ k h. not_from_false (has (map negated lits) (negated k)) (unopposed lits k (has (map negated lits) (negated k)) e h refl))

pub line-conflict : (arms : List Arm) (cs : List Bounded) → is_trivial arms ≡ false → Refutes cs arms → is_conflict (literals_of arms) cs ≡ true
line-conflict arms cs e h =
    let parts = or_parts (has_true arms) (has_both (literals_of arms)) e in
    ap is_none (h (Some (map negated (literals_of arms))) (start_sound (literals_of arms) parts.1) (start_refuted (map negated (literals_of arms)) arms parts.0 (λ l m. has_negated (literals_of arms) l m)))
