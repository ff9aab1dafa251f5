-- A formula that a text spells is within the limits, and what is made of its extraction has a row.
use Rattle.std.proofs.Common.{◌≡◌, ℕ, ◌≤◌, Bool, List, [], ◌∷◌, map, Some, ap, inl, inr, arith}
use Rattle.std.specs.List.{AllByRecursion}
use Rattle.kn_logic.specs.Literals.{Literal}
use Rattle.kn_logic.specs.Constraints.{Bounded}
use Rattle.kn_logic.specs.Formulas.{Problem, IsFormula, Satisfies}
use Rattle.kn_text.specs.Lists.{LiteralsThen}
use Rattle.kn_format.specs.declared.format.Format.{Format}
use Rattle.kn_format.specs.declared.format.Format.TheVariants.{Cnf, Knf}
use Rattle.kn_format.specs.Grammar.{highest_bound, ClauseThen, BoundThen, GuardThen, MarkedThen, ConstraintThen, SpellConstraints, Spells, words_in}
use Rattle.kn_format.specs.Texts.{IsWithinLimits}
use Rattle.kn_extract.specs.Extractions.{Found, IsExtraction, AgreeOff, listed}
use Rattle.kn_extract.specs.Kept.{Extracted, IsExtracted, found_of}
use Rattle.kn_extract.specs.Texts.{extraction_text}
use Rattle.kn_tool.specs.declared.answer.Answer.TheVariants as answer
use Rattle.kn_tool.specs.declared.reply.Reply.{Reply}
use Rattle.kn_tool.specs.Extracts as extracts
use Rattle.kn_tool.specs.Extracts.{ExtractedRow}
use Rattle.kn_tool.specs.Replies.{IsReply, IsShortMemory}
use Rattle.kn_tool.proofs.Replies.{short_reply}
use Rattle.kn_tool.specs.Changes.{Change, Source}
use Rattle.kn_tool.specs.Files.{Accepts}

-- what stands behind literals is as asked
behind-literals : (behind : List (List ℕ) → Type 0) (words : List (List ℕ)) (lits : List Literal) → LiteralsThen behind words lits → (rest : List (List ℕ)) × behind rest
behind-literals behind [] lits h = absurd h
behind-literals behind (word ∷ words) [] h = (words, h.1)
behind-literals behind (word ∷ words) (l ∷ lits) h = behind-literals behind words lits h.1

-- a constraint has a bound within the limit, and so have those behind it
abbrev Bounds : (List (List ℕ) → Type 0) → Bounded → Type 0
Bounds behind c = (c.bound ≤ highest_bound) × ((rest : List (List ℕ)) × behind rest)

of-clause : (behind : List (List ℕ) → Type 0) (words : List (List ℕ)) (c : Bounded) → ClauseThen behind words c → Bounds behind c
of-clause behind words c h = (let one = ap (λ d. d.bound) h.0 in omega (arith, one), behind-literals behind words c.lits h.1)

of-bound : (behind : List (List ℕ) → Type 0) (words : List (List ℕ)) (c : Bounded) → BoundThen behind words c → Bounds behind c
of-bound behind [] c h = absurd h
of-bound behind (word ∷ words) c h = (h.1, behind-literals behind words c.lits h.2)

of-guard : (behind : List (List ℕ) → Type 0) (words : List (List ℕ)) (c : Bounded) → GuardThen behind words c → Bounds behind c
of-guard behind [] c h = absurd h
of-guard behind (word ∷ words) c h = of-bound behind words c h.2

of-marked : (behind : List (List ℕ) → Type 0) (words : List (List ℕ)) (c : Bounded) → MarkedThen behind words c → Bounds behind c
of-marked behind [] c h = absurd h
of-marked behind (word ∷ words) c h = elim h.0 [
  | inl k ↦ of-bound behind words c k.1.1
  | inr q ↦ of-guard behind words c q.1
]

of-constraint : (format : Format) (behind : List (List ℕ) → Type 0) (words : List (List ℕ)) (c : Bounded) → ConstraintThen format behind words c → Bounds behind c
of-constraint Cnf behind words c h = of-clause behind words c h
of-constraint Knf behind words c h = elim h [
  | inl plain ↦ of-clause behind words c plain
  | inr marked ↦ of-marked behind words c marked
]

bounds-within : (format : Format) (words : List (List ℕ)) (cs : List Bounded) → SpellConstraints format words cs → AllByRecursion (λ c. c.bound ≤ highest_bound) cs
bounds-within format words [] h = tt
bounds-within format words (c ∷ cs) h =
    let one = of-constraint format (λ behind. SpellConstraints format behind cs) words c h in
    (one.0, bounds-within format one.1.0 cs one.1.1)

pub accepted-limits : (s : Change Source) (f : Problem) → Accepts s f → IsWithinLimits f
accepted-limits s f accepts = at accepts.spells
  where
    at : Spells accepts.text f → IsWithinLimits f
    at (format, problem, body, tail, h) = record { vars = h.vars; count = h.count; bounds = bounds-within format (words_in body) f.constraints h.constraints }

-- the text of an extraction
pub extracted_row : (e : Extracted) (text : List ℕ) → IsExtracted e → text ≡ extraction_text (map found_of e.taken) e.formula → Spells text e.formula
    → ((f last : Problem) (found : List Found) (values : List Bool) → IsFormula f → IsExtraction f found last → Satisfies values f → Satisfies values last)
    → ((f last : Problem) (found : List Found) (values : List Bool) → IsFormula f → IsExtraction f found last → Satisfies values last → (other : List Bool) × Satisfies other f × AgreeOff (listed found) values other)
    → ExtractedRow e.original answer.Done (Some text)
extracted_row e text is text_is spells onward back = extracts.done text (record {
  found = map found_of e.taken;
  last = e.formula;
  extraction = is.extraction;
  text_is = text_is;
  spells = spells;
  keeps = record {
    onward = λ values h. onward e.original e.formula (map found_of e.taken) values is.original is.extraction h;
    back = λ values h. back e.original e.formula (map found_of e.taken) values is.original is.extraction h;
  };
})

pub unextracted_reply : (f : Problem) (r : Reply) → IsShortMemory r → IsReply (ExtractedRow f) r
unextracted_reply f r is = short_reply (ExtractedRow f) r extracts.no_memory is
