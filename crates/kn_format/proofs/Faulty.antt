-- The first fault is the first word with which no formula begins so, or the end of the text.
use Rattle.std.proofs.Common.{◌≡◌, ℕ, ◌≤◌, ◌<◌, ◌+◌, ◌==◌, Bool, true, false, if◌then◌else◌, List, [], ◌∷◌, ◌++◌, length, Ok, Err, refl, sym, ap, subst, ◌∙◌, append_assoc, arith, inl, inr, ◌⊎◌}
use Rattle.std.proofs.lemmas.List.{append-nil}
use Rattle.std.proofs.lemmas.Bool.{eqb-true, eq-eqb, and_from}
use Rattle.std.proofs.lemmas.Bool.Decides.{nat_tests}
use Rattle.std.specs.Prelude.{Result}
use Rattle.kn_logic.specs.Constraints.{Bounded}
use Rattle.kn_logic.specs.Formulas.{Problem}
use Rattle.kn_text.specs.Lines.{Line, lines_of, content_of}
use Rattle.kn_format.specs.declared.error.Refusal.{Refusal}
use Rattle.kn_format.specs.declared.header.Header.{Header}
use Rattle.kn_format.specs.declared.place.Place.{Place}
use Rattle.kn_format.specs.declared.place.Place.TheVariants.{Between, Guard, Bound, Clause, Klause}
use Rattle.kn_format.specs.Grammar.{BeginsTail, words_in}
use Rattle.kn_format.specs.Faults.{Reading, nothing, start, is_full, after, after_words, ◌>>=◌, is_between, is_percent, is_done, ends, at_end, refusal, header_of, no_header, too_many_constraints, bad_token, extra_constraint, unended, missing_constraint, IsBadWord, IsBadEnd, IsFaultIn, IsFirstFault}
use Rattle.kn_format.specs.FirstFaults.{HasHeader, AreConstraints, CanGoOn, HasGuards, IsFirstWrong, EndWithin, AreTooFew}
use Rattle.kn_format.proofs.Steps.{reading}
use Rattle.kn_format.proofs.Spelled.{is_read}
use Rattle.kn_format.proofs.Back.{is_ok, first_step, constraints_are_spelled}
use Rattle.kn_format.proofs.Whole.{after_both, header_is_read, header_was_spelled, tail_is_percent, at_between, both_hold, percent_is_tail}
use Rattle.kn_format.proofs.First.{bad_word_stays}
use Rattle.kn_format.proofs.Causes.{IsOfWord, word_cause, header_cause}
use Rattle.kn_format.proofs.Completed.{HasRoom, Reached, words_reach, Completes, can_be_completed}

-- words that spell constraints, as they are read
record Ends (h : Header) (words : List (List ℕ)) (number : ℕ) : Type 0 where
  last : Reading
  read : after_words (start h) words ≡ Ok last
  place : last.place ≡ Between
  count : last.count ≡ h.count
  all : length last.formula.constraints ≡ number

are_read : (h : Header) (words : List (List ℕ)) (number : ℕ) → number ≤ h.count → AreConstraints h number words → Ends h words number
are_read h words number few all =
    let n : length all.constraints ≡ number = all.number in
    let read = is_read words h.format h.count h.vars [] Between nothing all.constraints all.spelled all.formula (omega arith) in
    record { last = reading h.format h.count h.vars all.constraints Between read.0; read = read.1; place = refl; count = refl; all = all.number }

-- what is read from the start
from_start : (h : Header) (words : List (List ℕ)) (s : Reading) → after_words (start h) words ≡ Ok s → Reached h.format h.count h.vars s
from_start h words s e =
    words_reach h.format h.count h.vars words (start h) s
    (record { done = []; place = Between; begun = nothing; same = refl; room = omega arith; kind = λ k. absurd cc }) e

are_constraints : (h : Header) (words : List (List ℕ)) (s : Reading) → after_words (start h) words ≡ Ok s → s.place ≡ Between → AreConstraints h (length s.formula.constraints) words
are_constraints h words s e place =
    let c = constraints_are_spelled h.format h.count h.vars words s e place in
    record { constraints = c.0; spelled = c.3; formula = c.4; number = ap (λ (f : Problem). length f.constraints) (sym c.2) }

count_kept : (h : Header) (s : Reading) → Reached h.format h.count h.vars s → s.count ≡ h.count
count_kept h s kept = ap (λ (r : Reading). r.count) kept.same

can_go_on : (h : Header) (words : List (List ℕ)) (s : Reading) → after_words (start h) words ≡ Ok s → HasGuards h → CanGoOn h words
can_go_on h words s e known =
    let c : Completes s = can_be_completed h.format h.count h.vars s known (from_start h words s e) in
    let all : after_words (start h) (words ++ c.behind) ≡ Ok c.last = after_both words c.behind (start h) ∙ ap (λ x. x >>= λ n. after_words n c.behind) e ∙ c.read in
    let number : length c.last.formula.constraints ≡ h.count =
    eqb-true (length c.last.formula.constraints) c.last.count c.full ∙ count_kept h c.last (from_start h (words ++ c.behind) c.last all) in (
      c.behind,
      subst (λ n. AreConstraints h n (words ++ c.behind)) number (are_constraints h (words ++ c.behind) c.last all c.place),
    )

-- nothing follows a word that has a cause
cannot_go_on : (h : Header) (front : List (List ℕ)) (word : List ℕ) (here : Reading) (cause : ℕ) → after_words (start h) front ≡ Ok here → after here word ≡ Err cause
    → CanGoOn h (front ++ word ∷ []) → ⊥
cannot_go_on h front word here cause read bad (behind, all) =
    let w : Ends h ((front ++ word ∷ []) ++ behind) h.count = are_read h ((front ++ word ∷ []) ++ behind) h.count (omega arith) all in
    let ok : after_words (start h) (front ++ word ∷ behind) ≡ Ok w.last = ap (after_words (start h)) (sym (append_assoc front (word ∷ []) behind)) ∙ w.read in
    let no : after_words (start h) (front ++ word ∷ behind) ≡ Err cause = bad_word_stays front behind word (start h) here cause read bad in
    cc

-- a line that begins with `%` is at fault where constraints are missing
ends_here : (h : Header) (words line : List (List ℕ)) (here : Reading) → after_words (start h) words ≡ Ok here → BeginsTail line → AreConstraints h h.count words → ends here line ≡ true
ends_here h words line here read tail all =
    let w : Ends h words h.count = are_read h words h.count (omega arith) all in
    let same : w.last ≡ here = is_ok w.last here (sym w.read ∙ read) in
    let place : is_between w.last.place ≡ true = ap is_between w.place in
    let full : is_full w.last ≡ true = eq-eqb (length w.last.formula.constraints) w.last.count (w.all ∙ sym w.count) in
    ap (λ (r : Reading). ends r line) (sym same) ∙ and_from (is_done w.last) (is_percent line) (and_from (is_between w.last.place) (is_full w.last) place full) (tail_is_percent line tail)

no_tail : (h : Header) (before : List (List ℕ)) (front : List (List ℕ)) (line : List (List ℕ)) (here : Reading) → after_words (start h) (before ++ front) ≡ Ok here
    → (front ≡ [] → ends here line ≡ false) → front ≡ [] → BeginsTail line → AreConstraints h h.count before → ⊥
no_tail h before front line here read body none tail all =
    let all_read : after_words (start h) before ≡ Ok here = ap (after_words (start h)) (sym (append-nil before) ∙ ap (λ ws. before ++ ws) (sym none)) ∙ read in
    let yes : ends here line ≡ true = ends_here h before line here all_read tail all in
    let no : ends here line ≡ false = body none in
    cc

first_wrong : (h : Header) (lines : List Line) (fault : Refusal) → IsBadWord (start h) lines fault → IsFirstWrong h lines fault.line
first_wrong h lines fault w = record {
  before = w.before;
  line = w.line;
  behind = w.behind;
  front = w.front;
  word = w.word;
  back = w.back;
  parts = w.parts;
  words = w.words;
  place = sym w.number;
  begins = can_go_on h (words_in w.before ++ w.front) w.here w.read;
  wrong = cannot_go_on h (words_in w.before ++ w.front) w.word w.here fault.why w.read w.cause;
  body = no_tail h (words_in w.before) w.front w.line.words w.here w.read w.body;
}

-- the causes of words and of ends
apart : (cause other : ℕ) → cause ≤ extra_constraint → cause ≡ other → extra_constraint < other → ⊥
apart cause other c e high = omega arith

early : (cause : ℕ) → cause ≤ too_many_constraints → bad_token ≤ cause → ⊥
early cause low high = omega arith

below : (cause : ℕ) → cause ≤ extra_constraint → cause ≤ missing_constraint
below cause c = omega arith

at_the_end : (cause : ℕ) → (cause ≡ unended) ⊎ (cause ≡ missing_constraint) → (bad_token ≤ cause) × (cause ≤ missing_constraint)
at_the_end cause (inl e) = (omega arith, omega arith)
at_the_end cause (inr e) = (omega arith, omega arith)

distinct : missing_constraint ≡ unended → ⊥
distinct e = omega arith

-- the ends
abbrev IsEnd : ℕ → Bool → Bool → Refusal → Type 0
IsEnd last between full fault =
    ((between ≡ true) × (full ≡ false) × (refusal last missing_constraint ≡ fault)) ⊎ ((between ≡ false) × (refusal last unended ≡ fault))

end_at : (last : ℕ) (b t : Bool) (f : Problem) (fault : Refusal)
    → (if b then (if t then Ok f else Err (refusal last missing_constraint)) else Err (refusal last unended)) ≡ Err fault → IsEnd last b t fault
end_at last true true f fault e = absurd cc
end_at last true false f fault e = inl (refl, refl, cc)
end_at last false t f fault e = inr (refl, cc)

end_within : (h : Header) (words : List (List ℕ)) (here : Reading) → after_words (start h) words ≡ Ok here → is_between here.place ≡ false → EndWithin h words
end_within h words here read begun = record {
  begins = can_go_on h words here read;
  within = λ number few all.
      let w : Ends h words number = are_read h words number few all in
      let same : w.last ≡ here = is_ok w.last here (sym w.read ∙ read) in
      let yes : is_between here.place ≡ true = ap (λ (r : Reading). is_between r.place) (sym same) ∙ ap is_between w.place in
      cc;
}

not_exceeded : (place : Place) (done : List Bounded) (count : ℕ) → HasRoom place done count → length done ≤ count
not_exceeded Between done count room = room
not_exceeded Guard done count room = omega arith
not_exceeded Bound done count room = omega arith
not_exceeded Clause done count room = omega arith
not_exceeded Klause done count room = omega arith

fewer : (n count : ℕ) → n ≤ count → (n == count) ≡ false → n < count
fewer n count few e = grind (arith, nat_tests)

few_enough : (h : Header) (words : List (List ℕ)) (here : Reading) → after_words (start h) words ≡ Ok here → length here.formula.constraints ≤ h.count
few_enough h words here read =
    let kept : Reached h.format h.count h.vars here = from_start h words here read in
    subst (λ (r : Reading). length r.formula.constraints ≤ h.count) (sym kept.same) (not_exceeded kept.place kept.done h.count kept.room)

too_few : (h : Header) (words : List (List ℕ)) (here : Reading) → after_words (start h) words ≡ Ok here → is_between here.place ≡ true → is_full here ≡ false → AreTooFew h words
too_few h words here read between full =
    let kept : Reached h.format h.count h.vars here = from_start h words here read in
    let n : length here.formula.constraints ≤ h.count = few_enough h words here read in
    let other : (length here.formula.constraints == h.count) ≡ false = ap (λ c. length here.formula.constraints == c) (sym (count_kept h here kept)) ∙ full in (
      length here.formula.constraints,
      fewer (length here.formula.constraints) h.count n other,
      are_constraints h words here read (at_between here.place between),
    )

-- the fault of a text, where its problem line is well formed
record IsFault (h : Header) (lines : List Line) (last : ℕ) (fault : Refusal) : Type 0 where
  causes : (bad_token ≤ fault.why) × (fault.why ≤ missing_constraint)
  wrong : fault.why ≤ extra_constraint → IsFirstWrong h lines fault.line
  within : fault.why ≡ unended → (fault.line ≡ last) × EndWithin h (words_in lines)
  few : fault.why ≡ missing_constraint → (fault.line ≡ last) × AreTooFew h (words_in lines)

word_fault : (h : Header) (lines : List Line) (last : ℕ) (fault : Refusal) → IsBadWord (start h) lines fault → IsFault h lines last fault
word_fault h lines last fault w =
    let cause : IsOfWord fault.why = word_cause w.here.place w.here w.word fault.why w.cause in
    record {
      causes = (cause.0, below fault.why cause.1);
      wrong = λ _. first_wrong h lines fault w;
      within = λ e. absurd (apart fault.why unended cause.1 e (omega arith));
      few = λ e. absurd (apart fault.why missing_constraint cause.1 e (omega arith));
    }

end_fault : (h : Header) (lines : List Line) (last : ℕ) (fault : Refusal) (here : Reading) → after_words (start h) (words_in lines) ≡ Ok here
    → IsEnd last (is_between here.place) (is_full here) fault → IsFault h lines last fault
end_fault h lines last fault here read (inl (between, full, e)) =
    let why : fault.why ≡ missing_constraint = ap (λ (f : Refusal). f.why) (sym e) in
    record {
      causes = at_the_end fault.why (inr why);
      wrong = λ cause. absurd (apart fault.why missing_constraint cause why (omega arith));
      within = λ other. absurd (distinct (sym why ∙ other));
      few = λ _. (ap (λ (f : Refusal). f.line) (sym e), too_few h (words_in lines) here read between full);
    }
end_fault h lines last fault here read (inr (begun, e)) =
    let why : fault.why ≡ unended = ap (λ (f : Refusal). f.why) (sym e) in
    record {
      causes = at_the_end fault.why (inl why);
      wrong = λ cause. absurd (apart fault.why unended cause why (omega arith));
      within = λ _. (ap (λ (f : Refusal). f.line) (sym e), end_within h (words_in lines) here read begun);
      few = λ other. absurd (distinct (sym other ∙ why));
    }

is_fault : (h : Header) (lines : List Line) (last : ℕ) (fault : Refusal) → IsBadWord (start h) lines fault ⊎ IsBadEnd last (start h) lines fault → IsFault h lines last fault
is_fault h lines last fault (inl w) = word_fault h lines last fault w
is_fault h lines last fault (inr w) = end_fault h lines last fault w.here w.read (end_at last (is_between w.here.place) (is_full w.here) w.here.formula fault w.cause)

fault_behind : (h : Header) (problem : Line) (lines : List Line) (last : ℕ) (fault : Refusal) → header_of problem.words ≡ Ok h → IsFaultIn last (problem ∷ lines) fault → IsFault h lines last fault
fault_behind h problem lines last fault header (inl other) = let no : header_of problem.words ≡ Err fault.why = other.0 in absurd cc
fault_behind h problem lines last fault header (inr (g, e, faulty)) =
    let same : g ≡ h = is_ok g h (sym e ∙ header) in
    is_fault h lines last fault (subst (λ (k : Header). IsBadWord (start k) lines fault ⊎ IsBadEnd last (start k) lines fault) same faulty)

fault_of : (bytes : List ℕ) (h : Header) (lines : List Line) (fault : Refusal) → HasHeader bytes h lines → IsFirstFault bytes fault → IsFault h lines (length (lines_of bytes)) fault
fault_of bytes h lines fault has faulty =
    fault_behind h has.problem lines (length (lines_of bytes)) fault (header_is_read has.problem.words h has.header has.vars has.count)
    (subst (λ (ls : List Line). IsFaultIn (length (lines_of bytes)) ls fault) has.content faulty)

pub causes_behind : (bytes : List ℕ) (h : Header) (lines : List Line) (fault : Refusal) → HasHeader bytes h lines → IsFirstFault bytes fault
    → (bad_token ≤ fault.why) × (fault.why ≤ missing_constraint)
causes_behind bytes h lines fault has faulty = (fault_of bytes h lines fault has faulty).causes

pub wrong_word : (bytes : List ℕ) (h : Header) (lines : List Line) (fault : Refusal) → HasHeader bytes h lines → IsFirstFault bytes fault → fault.why ≤ extra_constraint
    → IsFirstWrong h lines fault.line
wrong_word bytes h lines fault has faulty = (fault_of bytes h lines fault has faulty).wrong

pub unended_text : (bytes : List ℕ) (h : Header) (lines : List Line) (fault : Refusal) → HasHeader bytes h lines → IsFirstFault bytes fault → fault.why ≡ unended
    → (fault.line ≡ length (lines_of bytes)) × EndWithin h (words_in lines)
unended_text bytes h lines fault has faulty = (fault_of bytes h lines fault has faulty).within

pub short_text : (bytes : List ℕ) (h : Header) (lines : List Line) (fault : Refusal) → HasHeader bytes h lines → IsFirstFault bytes fault → fault.why ≡ missing_constraint
    → (fault.line ≡ length (lines_of bytes)) × AreTooFew h (words_in lines)
short_text bytes h lines fault has faulty = (fault_of bytes h lines fault has faulty).few

-- and where it is not, the cause is one of the problem line
header_in : (bytes : List ℕ) (last : ℕ) (content : List Line) (fault : Refusal) → content_of bytes ≡ content → IsFaultIn last content fault → bad_token ≤ fault.why
    → (h : Header) × (lines : List Line) × HasHeader bytes h lines
header_in bytes last [] fault same faulty late = let why : fault.why ≡ no_header = ap (λ (f : Refusal). f.why) faulty in absurd (early fault.why (omega arith) late)
header_in bytes last (problem ∷ lines) fault same (inl other) late = absurd (early fault.why (header_cause problem.words fault.why other.0) late)
header_in bytes last (problem ∷ lines) fault same (inr (h, e, faulty)) late =
    let is = header_was_spelled problem.words h e in
    (h, lines, record { problem = problem; content = same; header = is.spelled; vars = is.vars; count = is.count })

pub header_of_text : (bytes : List ℕ) (fault : Refusal) → IsFirstFault bytes fault → bad_token ≤ fault.why → (h : Header) × (lines : List Line) × HasHeader bytes h lines
header_of_text bytes fault faulty late = header_in bytes (length (lines_of bytes)) (content_of bytes) fault refl faulty late

-- Conversely: words that can go on are read,
record IsReadTo (h : Header) (words : List (List ℕ)) : Type 0 where
  here : Reading
  read : after_words (start h) words ≡ Ok here

goes_on_read : (h : Header) (words : List (List ℕ)) → CanGoOn h words → IsReadTo h words
goes_on_read h words (behind, all) =
    let w : Ends h (words ++ behind) h.count = are_read h (words ++ behind) h.count (omega arith) all in
    let f = first_step (after_words (start h) words) (λ n. after_words n behind) w.last (sym (after_both words behind (start h)) ∙ w.read) in
    record { here = f.0; read = f.1 }

-- and one with which they cannot has a cause.
record HasCause (r : Reading) (word : List ℕ) : Type 0 where
  cause : ℕ
  bad : after r word ≡ Err cause

has_cause : (h : Header) (words : List (List ℕ)) (word : List ℕ) (here : Reading) (x : Result Reading ℕ) → HasGuards h → after_words (start h) words ≡ Ok here
    → (CanGoOn h (words ++ word ∷ []) → ⊥) → after here word ≡ x → HasCause here word
has_cause h words word here (Err cause) guards read wrong e = record { cause = cause; bad = e }
has_cause h words word here (Ok next) guards read wrong e =
    let all : after_words (start h) (words ++ word ∷ []) ≡ Ok next =
    after_both words (word ∷ []) (start h) ∙ ap (λ x. x >>= λ n. after_words n (word ∷ [])) read ∙ ap (λ x. x >>= λ n. after_words n []) e in
    absurd (wrong (can_go_on h (words ++ word ∷ []) next all guards))

are_all : (h : Header) (words : List (List ℕ)) (here : Reading) → after_words (start h) words ≡ Ok here → is_done here ≡ true → AreConstraints h h.count words
are_all h words here read done =
    let d = both_hold (is_between here.place) (is_full here) done in
    let number : length here.formula.constraints ≡ h.count =
    eqb-true (length here.formula.constraints) here.count d.1 ∙ count_kept h here (from_start h words here read) in
    subst (λ n. AreConstraints h n words) number (are_constraints h words here read (at_between here.place d.0))

no_end-at : (h : Header) (before front line : List (List ℕ)) (here : Reading) (t : Bool) → after_words (start h) (before ++ front) ≡ Ok here
    → (front ≡ [] → BeginsTail line → AreConstraints h h.count before → ⊥) → front ≡ [] → ends here line ≡ t → ends here line ≡ false
no_end-at h before front line here false read body none e = e
no_end-at h before front line here true read body none e =
    let d = both_hold (is_done here) (is_percent line) e in
    let all_read : after_words (start h) before ≡ Ok here = ap (after_words (start h)) (sym (append-nil before) ∙ ap (λ ws. before ++ ws) (sym none)) ∙ read in
    absurd (body none (percent_is_tail line d.1) (are_all h before here all_read d.0))

-- the fault of a text whose problem line is well formed
fault_in : (bytes : List ℕ) (h : Header) (lines : List Line) (fault : Refusal) → HasHeader bytes h lines
    → IsBadWord (start h) lines fault ⊎ IsBadEnd (length (lines_of bytes)) (start h) lines fault → IsFirstFault bytes fault
fault_in bytes h lines fault has faulty =
    subst (λ (ls : List Line). IsFaultIn (length (lines_of bytes)) ls fault) (sym has.content)
    (inr (h, header_is_read has.problem.words h has.header has.vars has.count, faulty))

pub wrong_is_fault : (bytes : List ℕ) (h : Header) (lines : List Line) (number : ℕ) → HasHeader bytes h lines → HasGuards h → IsFirstWrong h lines number
    → (why : ℕ) × (why ≤ extra_constraint) × IsFirstFault bytes (refusal number why)
wrong_is_fault bytes h lines number has guards w =
    let r : IsReadTo h (words_in w.before ++ w.front) = goes_on_read h (words_in w.before ++ w.front) (w.begins guards) in
    let c : HasCause r.here w.word = has_cause h (words_in w.before ++ w.front) w.word r.here (after r.here w.word) guards r.read w.wrong refl in
    let cause : IsOfWord c.cause = word_cause r.here.place r.here w.word c.cause c.bad in (
      c.cause,
      cause.1,
      fault_in bytes h lines (refusal number c.cause) has (inl (record {
        before = w.before;
        line = w.line;
        behind = w.behind;
        front = w.front;
        word = w.word;
        back = w.back;
        here = r.here;
        parts = w.parts;
        words = w.words;
        read = r.read;
        body = λ none. no_end-at h (words_in w.before) w.front w.line.words r.here (ends r.here w.line.words) r.read w.body none refl;
        cause = c.bad;
        number = sym w.place;
      })),
    )

not_between-at : (h : Header) (words : List (List ℕ)) (here : Reading) (t : Bool) → after_words (start h) words ≡ Ok here
    → ((count : ℕ) → count ≤ h.count → AreConstraints h count words → ⊥) → is_between here.place ≡ t → is_between here.place ≡ false
not_between-at h words here false read within e = e
not_between-at h words here true read within e =
    absurd (within (length here.formula.constraints) (few_enough h words here read) (are_constraints h words here read (at_between here.place e)))

pub within_is_fault : (bytes : List ℕ) (h : Header) (lines : List Line) → HasHeader bytes h lines → HasGuards h → EndWithin h (words_in lines)
    → IsFirstFault bytes (refusal (length (lines_of bytes)) unended)
within_is_fault bytes h lines has guards w =
    let r : IsReadTo h (words_in lines) = goes_on_read h (words_in lines) (w.begins guards) in
    let begun : is_between r.here.place ≡ false = not_between-at h (words_in lines) r.here (is_between r.here.place) r.read w.within refl in
    let cause : at_end (length (lines_of bytes)) r.here ≡ Err (refusal (length (lines_of bytes)) unended) = rw begun refl in
    fault_in bytes h lines (refusal (length (lines_of bytes)) unended) has (inr (record { here = r.here; read = r.read; cause = cause }))

not_all : (n m count : ℕ) → n ≡ m → m < count → (n == count) ≡ false
not_all n m count e few = grind (arith, nat_tests)

pub few_is_fault : (bytes : List ℕ) (h : Header) (lines : List Line) → HasHeader bytes h lines → AreTooFew h (words_in lines)
    → IsFirstFault bytes (refusal (length (lines_of bytes)) missing_constraint)
few_is_fault bytes h lines has (number, few, all) =
    let w : Ends h (words_in lines) number = are_read h (words_in lines) number (omega arith) all in
    let between : is_between w.last.place ≡ true = ap is_between w.place in
    let short : is_full w.last ≡ false = ap (λ c. length w.last.formula.constraints == c) w.count ∙ not_all (length w.last.formula.constraints) number h.count w.all few in
    let cause : at_end (length (lines_of bytes)) w.last ≡ Err (refusal (length (lines_of bytes)) missing_constraint) = rw (between, short) refl in
    fault_in bytes h lines (refusal (length (lines_of bytes)) missing_constraint) has (inr (record { here = w.last; read = w.read; cause = cause }))
