-- What was read, checked and converted has a row.
use Rattle.std.proofs.Common.{◌≡◌, ◌≤◌, ◌<◌, ◌-◌, ◌^◌, ◌++◌, min, Bool, List, ℕ, take, Some, Err, ap, sym, ◌∙◌, refl, subst}
use Rattle.kn_bytes.specs.Outside.{Rose}
use Rattle.kn_bytes.specs.ReadAll.{Took}
use Rattle.kn_bytes.specs.declared.read.ReadAll.{ReadAll}
use Rattle.kn_bytes.specs.declared.read.ReadAll.TheVariants as reading
use Rattle.kn_bytes.specs.declared.source.Source as source
use Rattle.kn_logic.specs.Formulas.{Problem, Satisfies, IsUnsatisfiable}
use Rattle.kn_format.specs.declared.error.ReadError.{ReadError}
use Rattle.kn_format.specs.declared.error.ReadError.TheVariants as faults
use Rattle.kn_format.specs.Grammar.{SpellsNone}
use Rattle.kn_format.specs.Faults.{IsFirstFault}
use Rattle.kn_format.specs.Reading.{IfRefused}
use Rattle.kn_format.specs.Texts.{cnf_text}
use Rattle.kn_rules.specs.Proofs.{IsProof, IsFirstWrong, fault}
use Rattle.kn_rules.specs.Checking.{IfVerified, IfFault}
use Rattle.kn_rules.specs.declared.whole.Checked.{Checked}
use Rattle.kn_rules.specs.declared.whole.Checked.TheVariants as checked
use Rattle.kn_counter.specs.Counters.{counted, most_counted}
use Rattle.kn_counter.specs.Sizes.{IfTooLarge}
use Rattle.kn_counter.specs.declared.error.CountError.{CountError}
use Rattle.kn_counter.specs.declared.error.CountError.TheVariants.{TooLarge}
use Rattle.kn_trim.specs.declared.trimming.Trimmed.{Trimmed}
use Rattle.kn_trim.specs.declared.trimming.Trimmed.TheVariants as cut
use Rattle.kn_trim.specs.Needed.{IsTrimmed}
use Rattle.kn_trim.specs.Trimming as trimming
use Rattle.kn_tool.specs.declared.answer.Which.{Which}
use Rattle.kn_tool.specs.declared.answer.Which.TheVariants.{Formula, Proof}
use Rattle.kn_tool.specs.declared.answer.Answer.{Answer}
use Rattle.kn_tool.specs.declared.answer.Answer.TheVariants as answer
use Rattle.kn_tool.specs.declared.reply.Reply.{Reply}
use Rattle.kn_tool.specs.declared.reply.Reply.TheVariants as reply
use Rattle.kn_tool.specs.Changes.{Change, Source, GivesAll, most_bytes, source_change}
use Rattle.kn_tool.specs.Files as files
use Rattle.kn_tool.specs.Files.{UnreadRow, NoFormulaRow}
use Rattle.kn_tool.specs.Checks as checks
use Rattle.kn_tool.specs.Checks.{CheckedRow}
use Rattle.kn_tool.specs.Conversions as conversions
use Rattle.kn_tool.specs.Conversions.{ConvertedRow}
use Rattle.kn_tool.specs.Trims as trims
use Rattle.kn_tool.specs.Trims.{TrimmedRow}
use Rattle.kn_tool.specs.Replies.{IsReply, IsPlain, IsShortMemory, IsRefusal, IsUnread, IsTrimReply, verdict_of}
use Rattle.kn_tool.proofs.Replies.{plain_reply, short_reply, wider_reply}

-- a source that was not read whole
pub unread_reply : {S : Type 0} (shown : source.Ghosts S) (old new : S) (which : Which) (error : ReadAll) (r : Reply) → Took shown.left shown.given old new most_bytes (Err error)
    → (error ≡ reading.Fault → Rose (shown.faults old) (shown.faults new)) → IsUnread which error r → IsReply (UnreadRow which (source_change shown old new)) r
unread_reply shown old new which reading.Fault r took rose is =
    plain_reply (UnreadRow which (source_change shown old new)) _ r (files.fails (record { rose = rose refl; bytes = took.bytes; gives = record { gave = took.gave; count = took.count }; within = took.answer })) files.no_memory is
unread_reply shown old new which reading.TooLong r took rose is =
    plain_reply (UnreadRow which (source_change shown old new)) _ r (files.too_long (took.bytes, record { gives = record { gave = took.gave; count = took.count }; beyond = took.answer })) files.no_memory is
unread_reply shown old new which reading.Memory r took rose is = short_reply (UnreadRow which (source_change shown old new)) r files.no_memory is

-- a text that is no formula
pub refusal_reply : (T : Type 0) (s : Change Source) (text read : List ℕ) (error : ReadError) (r : Reply) → GivesAll s text → read ≡ text → IfRefused {T = T} (Err error) (IsFirstFault read) → IfRefused {T = T} (Err error) (λ _. SpellsNone read) → IsRefusal error r → IsReply (NoFormulaRow s) r
refusal_reply T s text read (faults.Refused found) r whole_text same first none is =
    plain_reply (NoFormulaRow s) _ r
    (files.refused (record { text = text; whole = whole_text; first = subst (λ t. IsFirstFault t found) same first; none = subst SpellsNone same none }))
    (files.unread files.no_memory) is
refusal_reply T s text read faults.Memory r whole_text same first none is = short_reply (NoFormulaRow s) r (files.unread files.no_memory) is

pub unread_formula : (s : Change Source) (r : Reply) → IsReply (UnreadRow Formula s) r → IsReply (NoFormulaRow s) r
unread_formula s r is = wider_reply (UnreadRow Formula s) (NoFormulaRow s) r (λ answer told row. files.unread row) is

-- a proof that was checked, or was not
pub unread_proof : (proof : Change Source) (f : Problem) (r : Reply) → IsReply (UnreadRow Proof proof) r → IsReply (CheckedRow proof f) r
unread_proof proof f r is = wider_reply (UnreadRow Proof proof) (CheckedRow proof f) r (λ answer told row. checks.unread row) is

pub unchecked_reply : (proof : Change Source) (f : Problem) (r : Reply) → IsShortMemory r → IsReply (CheckedRow proof f) r
unchecked_reply proof f r is = short_reply (CheckedRow proof f) r checks.no_memory is

row_of_verdict : (proof : Change Source) (f : Problem) (text read : List ℕ) (found : Checked) (r : Reply) → GivesAll proof text → read ≡ text
    → IfVerified found (IsProof f read) → IfVerified found (IsUnsatisfiable f) → IfFault found (IsFirstWrong f read) → IfFault found (λ _. IsProof f read → ⊥)
    → IsPlain (verdict_of found) r → IsReply (CheckedRow proof f) r
row_of_verdict proof f text read checked.Verified r whole same accepted refuted wrong none is =
    plain_reply (CheckedRow proof f) _ r (checks.verified (record { text = text; whole = whole; accepted = subst (IsProof f) same accepted; refuted = refuted })) checks.no_memory is
row_of_verdict proof f text read (checked.NotVerified line why) r whole same accepted refuted wrong none is =
    plain_reply (CheckedRow proof f) _ r
    (checks.not_verified {line = line} {why = why} (record { text = text; whole = whole; wrong = subst (λ t. IsFirstWrong f t (fault line why)) same wrong; none = subst (λ t. IsProof f t → ⊥) same none }))
    checks.no_memory is

pub checked_reply : (proof : Change Source) (f : Problem) (text read : List ℕ) (found : Checked) (answer : Answer) (r : Reply) → GivesAll proof text → read ≡ text
    → IfVerified found (IsProof f read) → IfVerified found (IsUnsatisfiable f) → IfFault found (IsFirstWrong f read) → IfFault found (λ _. IsProof f read → ⊥)
    → answer ≡ verdict_of found → IsPlain answer r → IsReply (CheckedRow proof f) r
checked_reply proof f text read found answer r whole same accepted refuted wrong none is plain =
    row_of_verdict proof f text read found r whole same accepted refuted wrong none (subst (λ a. IsPlain a r) is plain)

-- a formula in clauses
pub done_row : (f g : Problem) (text : List ℕ) → g ≡ counted f → g.vars ≤ most_counted
    → ((values : List Bool) → Satisfies values f → (more : List Bool) × Satisfies (values ++ more) g) → ((values : List Bool) → Satisfies values g → Satisfies (take f.vars values) f)
    → text ≡ cnf_text g → ConvertedRow f answer.Done (Some text)
done_row f g text is within extended cut told =
    subst (λ t. ConvertedRow f answer.Done (Some t)) (sym (told ∙ ap cnf_text is))
    (conversions.done (subst (λ (h : Problem). h.vars ≤ most_counted) is within)
    (record {
      extended = subst (λ h. (values : List Bool) → Satisfies values f → (more : List Bool) × Satisfies (values ++ more) h) is extended;
      cut = subst (λ h. (values : List Bool) → Satisfies values h → Satisfies (take f.vars values) f) is cut;
    }))

pub large_reply : (f : Problem) (error : CountError) (n : ℕ) (r : Reply) → error ≡ TooLarge n
    → IfTooLarge error (λ vars. (most_counted < (counted f).vars) × (vars ≡ min (counted f).vars (2 ^ 64 - 1))) → IsPlain (answer.Refused 0 12) r → IsReply (ConvertedRow f) r
large_reply f error n r is large told =
    let known = rw is at large in
    plain_reply (ConvertedRow f) _ r (conversions.too_large known.0) conversions.no_memory told

pub unconverted_reply : (f : Problem) (r : Reply) → IsShortMemory r → IsReply (ConvertedRow f) r
unconverted_reply f r is = short_reply (ConvertedRow f) r conversions.no_memory is

-- a proof that was trimmed, or was not
pub untrimmed_proof : (proof : Change Source) (f : Problem) (r : Reply) → IsReply (UnreadRow Proof proof) r → IsReply (TrimmedRow proof f) r
untrimmed_proof proof f r is = wider_reply (UnreadRow Proof proof) (TrimmedRow proof f) r (λ answer told row. trims.unread row) is

pub untrimmed_reply : (proof : Change Source) (f : Problem) (r : Reply) → IsShortMemory r → IsReply (TrimmedRow proof f) r
untrimmed_reply proof f r is = short_reply (TrimmedRow proof f) r trims.no_memory is

pub trimmed_reply : (proof : Change Source) (f : Problem) (text read : List ℕ) (found : Trimmed) (r : Reply) → GivesAll proof text → read ≡ text
    → trimming.IfText found (IsTrimmed f read) → trimming.IfText found (λ _. IsProof f read) → trimming.IfText found (IsProof f)
    → trimming.IfFault found (IsFirstWrong f read) → trimming.IfFault found (λ _. IsProof f read → ⊥) → IsTrimReply found r → IsReply (TrimmedRow proof f) r
trimmed_reply proof f text read (cut.Text bytes) (reply.Text given told) whole same cuts accepted again wrong none is =
    subst (λ a. TrimmedRow proof f a (Some told.items)) (sym is.0)
    (subst (λ t. TrimmedRow proof f answer.Done (Some t)) (sym is.1)
    (trims.done bytes (record { text = text; whole = whole; accepted = subst (IsProof f) same accepted; trims = subst (λ t. IsTrimmed f t bytes) same cuts; again = again })))
trimmed_reply proof f text read (cut.Text bytes) reply.Usage whole same cuts accepted again wrong none is = absurd is
trimmed_reply proof f text read (cut.Text bytes) (reply.Silent given) whole same cuts accepted again wrong none is = absurd is
trimmed_reply proof f text read (cut.NotVerified line why) r whole same cuts accepted again wrong none is =
    plain_reply (TrimmedRow proof f) _ r
    (trims.not_verified {line = line} {why = why} (record { text = text; whole = whole; wrong = subst (λ t. IsFirstWrong f t (fault line why)) same wrong; none = subst (λ t. IsProof f t → ⊥) same none }))
    trims.no_memory is
