-- A text is a proof or has one first fault, and not both: a line of a text spells one line of a proof,
-- and that steps to one state, or has one cause.
use Rattle.std.proofs.Common.{◌≡◌, ℕ, ◌+◌, true, List, [], ◌∷◌, length, Result, Ok, Err, IfOk, sym, ap, ◌∙◌, subst, inl, inr}
use Rattle.kn_logic.specs.Formulas.{Problem, IsFormula, IsUnsatisfiable}
use Rattle.kn_text.specs.Lines.{Line as TextLine, content_from, content_of, lines_of, words_of}
use Rattle.kn_lines.specs.Lines.{SpellsWords}
use Rattle.kn_lines.specs.declared.line.Line.{Line}
use Rattle.kn_lines.proofs.Public.{one_spelling}
use Rattle.kn_rules.specs.States.{ProofState, start}
use Rattle.kn_rules.specs.Steps.{step}
use Rattle.kn_rules.specs.declared.whole.Checked.{Checked}
use Rattle.kn_rules.specs.declared.whole.Checked.TheVariants.{Verified, NotVerified}
use Rattle.kn_rules.specs.Checking.{EndsRefuted, LeadsTo, IfVerified, IfFault}
use Rattle.kn_rules.proofs.Sound.{proof-refutes}
use Rattle.kn_rules.specs.Proofs.{Makes, Runs, StepsThrough, IsProof, Fault, fault, WrongFrom, WrongIn, IsFirstWrong}

-- one line of a text
same_step : (s : ProofState) (words : List (List ℕ)) (a b : Line) → SpellsWords words a → SpellsWords words b → step s a ≡ step s b
same_step s words a b h k = ap (step s) (one_spelling words a b h k)

same_err : (a b : ℕ) → ◌≡◌ {A = Result ProofState ℕ} (Err a) (Err b) → a ≡ b
same_err a b e = cc

same_state : (s : ProofState) (text : TextLine) (t u : ProofState) → Makes s text t → Makes s text u → t ≡ u
same_state s text t u m n =
    let e : Ok t ≡ Ok u = sym m.2 ∙ same_step s text.words m.0 n.0 m.1 n.1 ∙ n.2 in
    cc

not_wrong : (s : ProofState) (text : TextLine) (t : ProofState) (line : Line) (why : ℕ) → Makes s text t → SpellsWords text.words line → step s line ≡ Err why → ⊥
not_wrong s text t line why m h e =
    let f : Ok t ≡ Err why = sym m.2 ∙ same_step s text.words m.0 line m.1 h ∙ e in
    cc

joined : (k l c d : ℕ) → k ≡ l → c ≡ d → fault k c ≡ fault l d
joined k l c d e f = cc

same_fault : (a b : Fault) → a.line ≡ b.line → a.cause ≡ b.cause → a ≡ b
same_fault a b e f = joined a.line b.line a.cause b.cause e f

-- the lines behind the header
never_both_from : (texts : List TextLine) (s last : ProofState) (count : ℕ) (found : Fault) → Runs s texts last → last.refuted ≡ true → WrongFrom s texts count found → ⊥
never_both_from [] s last count found r e w =
    let f : s.refuted ≡ true = ap (λ (x : ProofState). x.refuted) r ∙ e in
    let g = w.0 in
    cc
never_both_from (text ∷ texts) s last count found r e w =
    elim w [
      | inl none ↦ none.0 r.1.0 r.1.1
      | inr spelled ↦ elim spelled [
        | inl refused ↦ not_wrong s text r.0 refused.0 found.cause r.1 refused.1 refused.2
        | inr further ↦ never_both_from texts r.0 last count found r.2 e (subst (λ t. WrongFrom t texts count found) (same_state s text further.0 r.0 further.1 r.1) further.2)
      ]
    ]

one_fault_from : (texts : List TextLine) (s : ProofState) (count : ℕ) (a b : Fault) → WrongFrom s texts count a → WrongFrom s texts count b → a ≡ b
one_fault_from [] s count a b v w = v.1 ∙ sym w.1
one_fault_from (text ∷ texts) s count a b v w =
    elim v [
      | inl none ↦ elim w [
        | inl also ↦ none.1 ∙ sym also.1
        | inr spelled ↦ elim spelled [
          | inl refused ↦ absurd (none.0 refused.0 refused.1)
          | inr further ↦ absurd (none.0 further.1.0 further.1.1)
        ]
      ]
      | inr spelled ↦ elim spelled [
        | inl refused ↦ elim w [
          | inl none ↦ absurd (none.0 refused.0 refused.1)
          | inr spelled' ↦ elim spelled' [
            | inl also ↦ same_fault a b (refused.3 ∙ sym also.3) (same_err _ _ (sym refused.2 ∙ same_step s text.words refused.0 also.0 refused.1 also.1 ∙ also.2))
            | inr further ↦ absurd (not_wrong s text further.0 refused.0 a.cause further.1 refused.1 refused.2)
          ]
        ]
        | inr further ↦ elim w [
          | inl none ↦ absurd (none.0 further.1.0 further.1.1)
          | inr spelled' ↦ elim spelled' [
            | inl refused ↦ absurd (not_wrong s text further.0 refused.0 b.cause further.1 refused.1 refused.2)
            | inr also ↦ one_fault_from texts further.0 count a b further.2 (subst (λ t. WrongFrom t texts count b) (same_state s text also.0 further.0 also.1 further.1) also.2)
          ]
        ]
      ]
    ]

-- whole texts
never_both_in : (f : Problem) (texts : List TextLine) (last : ProofState) (count : ℕ) (found : Fault) → StepsThrough f texts last → last.refuted ≡ true → WrongIn f texts count found → ⊥
never_both_in f [] last count found s e w = s
never_both_in f (text ∷ texts) last count found s e w =
    elim w [ inl other ↦ other.0 s.0 | inr header ↦ never_both_from texts (start f) last count found s.1 e header.1 ]

pub never_both : (f : Problem) (bytes : List ℕ) (found : Fault) → IsProof f bytes → IsFirstWrong f bytes found → ⊥
never_both f bytes found p w = never_both_in f (content_of bytes) p.0 (length (lines_of bytes)) found p.1 p.2 w

one_fault_in : (f : Problem) (texts : List TextLine) (count : ℕ) (a b : Fault) → WrongIn f texts count a → WrongIn f texts count b → a ≡ b
one_fault_in f [] count a b v w = v ∙ sym w
one_fault_in f (text ∷ texts) count a b v w =
    elim v [
      | inl other ↦ elim w [ inl also ↦ other.1 ∙ sym also.1 | inr header ↦ absurd (other.0 header.0) ]
      | inr header ↦ elim w [
        | inl other ↦ absurd (other.0 header.0)
        | inr also ↦ one_fault_from texts (start f) count a b header.1 also.1
      ]
    ]

pub one_fault : (f : Problem) (bytes : List ℕ) (a b : Fault) → IsFirstWrong f bytes a → IsFirstWrong f bytes b → a ≡ b
one_fault f bytes a b v w = one_fault_in f (content_of bytes) (length (lines_of bytes)) a b v w

-- one line of a text, whatever its state leads to
pub turn-proof : (number : ℕ) (line : List ℕ) (lines all : List (List ℕ)) (old new first : ProofState) (texts : List TextLine) → LeadsTo (words_of line) old new → all ≡ line ∷ lines → (EndsRefuted old (content_from number all) → EndsRefuted first texts) → EndsRefuted new (content_from (number + 1) lines) → EndsRefuted first texts
turn-proof number line lines all old new first texts h e k r =
    k (subst (λ ls. EndsRefuted old (content_from number ls)) (sym e) (h.proof number (content_from (number + 1) lines) r))

pub turn-wrong : (number : ℕ) (line : List ℕ) (lines all : List (List ℕ)) (old new first : ProofState) (texts : List TextLine) (count : ℕ) (found : Fault) → LeadsTo (words_of line) old new → all ≡ line ∷ lines → (WrongFrom old (content_from number all) count found → WrongFrom first texts count found) → WrongFrom new (content_from (number + 1) lines) count found → WrongFrom first texts count found
turn-wrong number line lines all old new first texts count found h e k w =
    k (subst (λ ls. WrongFrom old (content_from number ls) count found) (sym e) (h.wrong number (content_from (number + 1) lines) count found w))

-- what the answer claims of a text
sound-answer : (f : Problem) (bytes : List ℕ) (checked : Checked) → IfVerified checked (IsFormula f) → IfVerified checked (IsProof f bytes) → IfVerified checked (IsUnsatisfiable f)
sound-answer f bytes Verified w h = proof-refutes f bytes w h
sound-answer f bytes (NotVerified line why) w h = tt

pub sound-result : {E : Type 0} (f : Problem) (bytes : List ℕ) (result : Result Checked E) → IfOk result (λ checked. IfVerified checked (IsFormula f)) → IfOk result (λ checked. IfVerified checked (IsProof f bytes)) → IfOk result (λ checked. IfVerified checked (IsUnsatisfiable f))
sound-result f bytes (Ok checked) w h = sound-answer f bytes checked w h
sound-result f bytes (Err e) w h = tt

if_verified : (claim : Type 0) (checked : Checked) → claim → IfVerified checked claim
if_verified claim Verified h = h
if_verified claim (NotVerified line why) h = tt

pub ok-if_verified : {E : Type 0} (claim : Type 0) (result : Result Checked E) → claim → IfOk result (λ checked. IfVerified checked claim)
ok-if_verified claim (Ok checked) h = if_verified claim checked h
ok-if_verified claim (Err e) h = tt

pub refused-answer : (f : Problem) (bytes : List ℕ) (checked : Checked) → IfFault checked (IsFirstWrong f bytes) → IfFault checked (λ _. IsProof f bytes → ⊥)
refused-answer f bytes Verified h = tt
refused-answer f bytes (NotVerified line why) h = λ p. never_both f bytes (fault line why) p h
