-- Examples, computed from the definitions alone: what texts spell, which proof is accepted, and where one
-- that is not is wrong first.
use Rattle.std.proofs.Common.{◌≡◌, ℕ, ◌≤◌, true, false, List, [], ◌∷◌, refl, codes, lit≤, inr, Ok, Err}
use Rattle.kn_logic.specs.Literals.{Literal}
use Rattle.kn_logic.specs.Constraints.{clause, klause, Fits}
use Rattle.kn_logic.specs.Formulas.{Problem}
use Rattle.kn_text.specs.Lines.{Line as TextLine}
use Rattle.kn_format.specs.declared.format.Format.TheVariants.{Cnf}
use Rattle.kn_format.specs.Grammar.{Spells}
use Rattle.kn_lines.specs.declared.line.Line.TheVariants.{Lemma, Delete}
use Rattle.kn_rules.specs.declared.given.Origin.TheVariants as origin
use Rattle.kn_rules.specs.States.{ProofState, start}
use Rattle.kn_rules.specs.Steps.{step, with_clause}
use Rattle.kn_rules.specs.Proofs.{IsProof, IsFirstWrong, fault}

-- the literal of a variable, and its negation
abbrev on : ℕ → Literal
on variable = record { variable = variable; positive = true }

abbrev off : ℕ → Literal
off variable = record { variable = variable; positive = false }

-- a unit clause and its negation
abbrev units : Problem
units = record { vars = 1; constraints = clause (on 1 ∷ []) ∷ clause (off 1 ∷ []) ∷ [] }

abbrev text_line : ℕ → List (List ℕ) → TextLine
text_line number words = record { number = number; words = words }

unit_fits : (l : Literal) → 1 ≤ l.variable → l.variable ≤ 1 → Fits 1 (clause (l ∷ []))
unit_fits l low high = record { within = record { guard = tt; lits = ((low, high), tt) }; different = λ _. (refl, tt) }

units_spelled : Spells (codes "p cnf 1 2\n1 0\n-1 0\n") units
units_spelled = (
  Cnf,
  text_line 1 (codes "p" ∷ codes "cnf" ∷ codes "1" ∷ codes "2" ∷ []),
  text_line 2 (codes "1" ∷ codes "0" ∷ []) ∷ text_line 3 (codes "-1" ∷ codes "0" ∷ []) ∷ [],
  [],
  record {
    parts = refl;
    header = (refl, refl, refl, refl);
    constraints = (refl, (refl, (refl, (refl, (refl, (refl, refl))))));
    ending = tt;
    vars = lit≤ tt;
    count = lit≤ tt;
    formula = (unit_fits (on 1) (lit≤ tt) (lit≤ tt), (unit_fits (off 1) (lit≤ tt) (lit≤ tt), tt));
  },
)

units_refuted : IsProof units (codes "p kpf 1 2\nr 0 1 2 0\n")
units_refuted = (
  with_clause (start units) origin.Lemma [],
  ((refl, (refl, refl, refl)), (with_clause (start units) origin.Lemma [], (Lemma (clause []) (1 ∷ 2 ∷ []), (refl, refl, (refl, (refl, lit≤ tt, (refl, lit≤ tt, (refl, refl))))), refl), refl)),
  refl,
)

-- at least two of three, and at least two of their negations
abbrev twice : Problem
twice = record { vars = 3; constraints = klause 2 (on 1 ∷ on 2 ∷ on 3 ∷ []) ∷ klause 2 (off 1 ∷ off 2 ∷ off 3 ∷ []) ∷ [] }

-- both lemmas follow from the klauses, and then the clause without literals
abbrev first : ProofState
first = with_clause (start twice) origin.Lemma (on 1 ∷ [])

abbrev second : ProofState
second = with_clause first origin.Lemma (on 2 ∷ [])

first_follows : step (start twice) (Lemma (clause (on 1 ∷ [])) (1 ∷ 2 ∷ [])) ≡ Ok first
first_follows = refl

second_follows : step first (Lemma (clause (on 2 ∷ [])) (1 ∷ 2 ∷ [])) ≡ Ok second
second_follows = refl

last_follows : step second (Lemma (clause []) (3 ∷ 4 ∷ 2 ∷ [])) ≡ Ok (with_clause second origin.Lemma [])
last_follows = refl

-- an id that is deleted is no hint, and cannot be deleted again
deleted_twice : step second (Delete (1 ∷ 1 ∷ [])) ≡ Err 4
deleted_twice = refl

no_conflict : step (start twice) (Lemma (clause (on 1 ∷ [])) (1 ∷ [])) ≡ Err 5
no_conflict = refl

unknown_variable : step (start twice) (Lemma (clause (on 4 ∷ [])) (9 ∷ [])) ≡ Err 3
unknown_variable = refl

-- an empty proof is wrong at line 0, and one of the header alone at its end
empty_is_wrong : IsFirstWrong units [] (fault 0 9)
empty_is_wrong = refl

header_is_wrong : IsFirstWrong units (codes "p kpf 1 2\n") (fault 1 9)
header_is_wrong = inr ((refl, (refl, refl, refl)), (refl, refl))
