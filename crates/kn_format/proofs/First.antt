-- What is refused has its first fault there.
use Rattle.std.proofs.Common.{◌≡◌, ℕ, Bool, true, false, if◌then◌else◌, List, [], ◌∷◌, ◌++◌, length, Ok, Err, refl, sym, ap, ◌∙◌, append_assoc, inl, inr, ◌⊎◌}
use Rattle.std.specs.Prelude.{Result}
use Rattle.kn_logic.specs.Formulas.{Problem}
use Rattle.kn_text.specs.Lines.{Line, lines_of, content_of}
use Rattle.kn_format.specs.declared.error.Refusal.{Refusal}
use Rattle.kn_format.specs.declared.error.ReadError.{ReadError}
use Rattle.kn_format.specs.declared.error.ReadError.TheVariants.{Refused, Memory}
use Rattle.kn_format.specs.declared.header.Header.{Header}
use Rattle.kn_format.specs.Grammar.{words_in, Spells}
use Rattle.kn_format.specs.Faults.{Reading, start, after, after_words, ◌>>=◌, ends, at_end, refusal, header_of, IsBadWord, IsBadEnd, IsFaultIn, IsFirstFault}
use Rattle.kn_format.specs.Reading.{go_on, after_lines, behind_header, read_lines, read_of, Gives, IfRefused, RefusesAs}
use Rattle.kn_format.proofs.Back.{is_ok, first_step}
use Rattle.kn_format.proofs.Whole.{after_both, is_no_tail, ends_has_cause, spelled_is_read}

-- the first word that has a cause
record BadAt (r : Reading) (words : List (List ℕ)) (cause : ℕ) : Type 0 where
  front : List (List ℕ)
  word : List ℕ
  back : List (List ℕ)
  here : Reading
  parts : words ≡ front ++ word ∷ back
  read : after_words r front ≡ Ok here
  bad : after here word ≡ Err cause

bad_words-at : (r : Reading) (word : List ℕ) (words : List (List ℕ)) (cause : ℕ) (x : Result Reading ℕ) → after r word ≡ x → (x >>= λ n. after_words n words) ≡ Err cause
    → ((n : Reading) → after_words n words ≡ Err cause → BadAt n words cause) → BadAt r (word ∷ words) cause
bad_words-at r word words cause (Ok n) e bad more =
    let b : BadAt n words cause = more n bad in
    record { front = word ∷ b.front; word = b.word; back = b.back; here = b.here; parts = ap (λ ws. word ∷ ws) b.parts; read = ap (λ x. x >>= λ m. after_words m b.front) e ∙ b.read; bad = b.bad }
bad_words-at r word words cause (Err other) e bad more = record { front = []; word = word; back = words; here = r; parts = refl; read = refl; bad = e ∙ bad }

bad_words : (words : List (List ℕ)) (r : Reading) (cause : ℕ) → after_words r words ≡ Err cause → BadAt r words cause
bad_words [] r cause e = absurd cc
bad_words (word ∷ words) r cause e = bad_words-at r word words cause (after r word) refl e (λ n. bad_words words n cause)

first_of_line : (front : List (List ℕ)) (r here : Reading) (words : List (List ℕ)) → after_words r front ≡ Ok here → ends r words ≡ false → front ≡ [] → ends here words ≡ false
first_of_line [] r here words read body e = let same : r ≡ here = is_ok r here read in ap (λ n. ends n words) (sym same) ∙ body
first_of_line (word ∷ front) r here words read body e = absurd cc

abbrev IsBad : ℕ → Reading → List Line → Refusal → Type 0
IsBad last r lines fault = IsBadWord r lines fault ⊎ IsBadEnd last r lines fault

more_words : (line : Line) (before : List Line) (front : List (List ℕ)) (r next here : Reading) → after_words r line.words ≡ Ok next → after_words next (words_in before ++ front) ≡ Ok here
    → after_words r (words_in (line ∷ before) ++ front) ≡ Ok here
more_words line before front r next here e read =
    ap (after_words r) (append_assoc line.words (words_in before) front)
    ∙ after_both line.words (words_in before ++ front) r
    ∙ ap (λ x. x >>= λ n. after_words n (words_in before ++ front)) e
    ∙ read

bad_behind : (last : ℕ) (r next : Reading) (line : Line) (lines : List Line) (fault : Refusal) → after_words r line.words ≡ Ok next → IsBad last next lines fault → IsBad last r (line ∷ lines) fault
bad_behind last r next line lines fault e (inl w) = inl (record {
  before = line ∷ w.before;
  line = w.line;
  behind = w.behind;
  front = w.front;
  word = w.word;
  back = w.back;
  here = w.here;
  parts = ap (λ ls. line ∷ ls) w.parts;
  words = w.words;
  read = more_words line w.before w.front r next w.here e w.read;
  body = w.body;
  cause = w.cause;
  number = w.number;
})
bad_behind last r next line lines fault e (inr w) = inr (record {
  here = w.here;
  read = after_both line.words (words_in lines) r ∙ ap (λ x. x >>= λ n. after_words n (words_in lines)) e ∙ w.read;
  cause = w.cause;
})

bad_line : (last : ℕ) (r : Reading) (line : Line) (lines : List Line) (fault : Refusal) (x : Result Reading ℕ) → after_words r line.words ≡ x → ends r line.words ≡ false
    → go_on line.number x (λ next. after_lines last next lines) ≡ Err fault → ((n : Reading) → after_lines last n lines ≡ Err fault → IsBad last n lines fault) → IsBad last r (line ∷ lines) fault
bad_line last r line lines fault (Ok n) e body bad more = bad_behind last r n line lines fault e (more n bad)
bad_line last r line lines fault (Err cause) e body bad more =
    let b : BadAt r line.words cause = bad_words line.words r cause e in
    let is : refusal line.number cause ≡ fault = cc in
    inl (record {
      before = [];
      line = line;
      behind = lines;
      front = b.front;
      word = b.word;
      back = b.back;
      here = b.here;
      parts = refl;
      words = b.parts;
      read = b.read;
      body = first_of_line b.front r b.here line.words b.read body;
      cause = b.bad ∙ ap (λ (f : Refusal). Err f.why) is;
      number = sym (ap (λ (f : Refusal). f.line) is);
    })

bad_lines-at : (last : ℕ) (r : Reading) (line : Line) (lines : List Line) (fault : Refusal) (t : Bool) → ends r line.words ≡ t
    → (if t then Ok r.formula else go_on line.number (after_words r line.words) (λ next. after_lines last next lines)) ≡ Err fault
    → ((n : Reading) → after_lines last n lines ≡ Err fault → IsBad last n lines fault) → IsBad last r (line ∷ lines) fault
bad_lines-at last r line lines fault true e bad more = absurd cc
bad_lines-at last r line lines fault false e bad more = bad_line last r line lines fault (after_words r line.words) refl e bad more

bad_lines : (last : ℕ) (lines : List Line) (r : Reading) (fault : Refusal) → after_lines last r lines ≡ Err fault → IsBad last r lines fault
bad_lines last [] r fault e = inr (record { here = r; read = refl; cause = e })
bad_lines last (line ∷ lines) r fault e = bad_lines-at last r line lines fault (ends r line.words) refl e (λ n. bad_lines last lines n fault)

bad_header : (last : ℕ) (problem : Line) (lines : List Line) (fault : Refusal) (x : Result Header ℕ) → header_of problem.words ≡ x → behind_header last problem.number x lines ≡ Err fault
    → IsFaultIn last (problem ∷ lines) fault
bad_header last problem lines fault (Ok h) e bad = inr (h, e, bad_lines last lines (start h) fault bad)
bad_header last problem lines fault (Err cause) e bad =
    let is : refusal problem.number cause ≡ fault = cc in
    inl (e ∙ ap (λ (f : Refusal). Err f.why) is, sym (ap (λ (f : Refusal). f.line) is))

pub fault_is_first : (last : ℕ) (content : List Line) (fault : Refusal) → read_lines last content ≡ Err fault → IsFaultIn last content fault
fault_is_first last [] fault e = cc
fault_is_first last (problem ∷ lines) fault e = bad_header last problem lines fault (header_of problem.words) refl e

pub refused_first : (bytes : List ℕ) (result : Result Problem ReadError) → Gives (read_of bytes) result → IfRefused result (IsFirstFault bytes)
refused_first bytes (Ok f) gives = tt
refused_first bytes (Err Memory) gives = tt
refused_first bytes (Err (Refused r)) gives = fault_is_first (length (lines_of bytes)) (content_of bytes) r gives

-- and nothing else is a first fault
pub bad_word_stays : (front back : List (List ℕ)) (word : List ℕ) (r here : Reading) (cause : ℕ) → after_words r front ≡ Ok here → after here word ≡ Err cause → after_words r (front ++ word ∷ back) ≡ Err cause
bad_word_stays front back word r here cause read bad =
    after_both front (word ∷ back) r ∙ ap (λ x. x >>= λ n. after_words n (word ∷ back)) read ∙ ap (λ x. x >>= λ n. after_words n back) bad

ends_first : (word : List ℕ) (front back : List (List ℕ)) (r : Reading) → ends r (word ∷ (front ++ back)) ≡ ends r (word ∷ front)
ends_first [] front back r = refl
ends_first (b ∷ word) front back r = refl

goes_on-at : (front back : List (List ℕ)) (word : List ℕ) (r here : Reading) (t : Bool) → after_words r front ≡ Ok here → (front ≡ [] → ends here (front ++ word ∷ back) ≡ false) → ends r (front ++ word ∷ back) ≡ t
    → ends r (front ++ word ∷ back) ≡ false
goes_on-at front back word r here false read body e = e
goes_on-at [] back word r here true read body e = let same : r ≡ here = is_ok r here read in ap (λ n. ends n (word ∷ back)) same ∙ body refl
goes_on-at (first ∷ front) back word r here true read body e =
    absurd (ends_has_cause r here (first ∷ front) (sym (ends_first first front (word ∷ back) r) ∙ e) read)

word_refused : (last : ℕ) (before behind : List Line) (line : Line) (front back : List (List ℕ)) (word : List ℕ) (r here : Reading) (fault : Refusal)
    → line.words ≡ front ++ word ∷ back → after_words r (words_in before ++ front) ≡ Ok here → (front ≡ [] → ends here line.words ≡ false) → after here word ≡ Err fault.why → fault.line ≡ line.number
    → after_lines last r (before ++ line ∷ behind) ≡ Err fault
word_refused last [] behind line front back word r here fault words read body bad number =
    let tail : ends r line.words ≡ false =
    ap (ends r) words ∙ goes_on-at front back word r here (ends r (front ++ word ∷ back)) read (λ e. ap (ends here) (sym words) ∙ body e) refl in
    let cause : after_words r line.words ≡ Err fault.why = ap (after_words r) words ∙ bad_word_stays front back word r here fault.why read bad in
    rw (tail, cause) (ap (λ n. Err (refusal n fault.why)) (sym number))
word_refused last (first ∷ before) behind line front back word r here fault words read body bad number =
    let f = first_step (after_words r first.words) (λ n. after_words n (words_in before ++ front)) here
    (sym (after_both first.words (words_in before ++ front) r) ∙ ap (after_words r) (sym (append_assoc first.words (words_in before) front)) ∙ read) in
    let ok : after_words r first.words ≡ Ok f.0 = f.1 in
    let tail : ends r first.words ≡ false = is_no_tail r f.0 first.words (ends r first.words) refl ok in
    rw (tail, ok) (word_refused last before behind line front back word f.0 here fault words f.2 body bad number)

end_refused : (last : ℕ) (lines : List Line) (r here : Reading) (fault : Refusal) → after_words r (words_in lines) ≡ Ok here → at_end last here ≡ Err fault → after_lines last r lines ≡ Err fault
end_refused last [] r here fault read bad = let same : r ≡ here = is_ok r here read in ap (at_end last) same ∙ bad
end_refused last (first ∷ lines) r here fault read bad =
    let f = first_step (after_words r first.words) (λ n. after_words n (words_in lines)) here (sym (after_both first.words (words_in lines) r) ∙ read) in
    let ok : after_words r first.words ≡ Ok f.0 = f.1 in
    let tail : ends r first.words ≡ false = is_no_tail r f.0 first.words (ends r first.words) refl ok in
    rw (tail, ok) (end_refused last lines f.0 here fault f.2 bad)

bad_is_refused : (last : ℕ) (lines : List Line) (r : Reading) (fault : Refusal) → IsBad last r lines fault → after_lines last r lines ≡ Err fault
bad_is_refused last lines r fault (inl w) =
    ap (after_lines last r) w.parts ∙ word_refused last w.before w.behind w.line w.front w.back w.word r w.here fault w.words w.read w.body w.cause w.number
bad_is_refused last lines r fault (inr w) = end_refused last lines r w.here fault w.read w.cause

fault_is_refused : (last : ℕ) (content : List Line) (fault : Refusal) → IsFaultIn last content fault → read_lines last content ≡ Err fault
fault_is_refused last [] fault e = ap (λ f. Err f) (sym e)
fault_is_refused last (problem ∷ lines) fault (inl bad) =
    ap (λ x. behind_header last problem.number x lines) bad.0 ∙ ap (λ n. Err (refusal n fault.why)) (sym bad.1)
fault_is_refused last (problem ∷ lines) fault (inr (h, e, bad)) = ap (λ x. behind_header last problem.number x lines) e ∙ bad_is_refused last lines (start h) fault bad

pub first_fault_is_read : (bytes : List ℕ) (fault : Refusal) → IsFirstFault bytes fault → read_of bytes ≡ Err fault
first_fault_is_read bytes fault bad = fault_is_refused (length (lines_of bytes)) (content_of bytes) fault bad

-- a text has one first fault
pub one_first_fault : (bytes : List ℕ) (a b : Refusal) → IsFirstFault bytes a → IsFirstFault bytes b → a ≡ b
one_first_fault bytes a b x y =
    let e : read_of bytes ≡ Err a = first_fault_is_read bytes a x in
    let f : read_of bytes ≡ Err b = first_fault_is_read bytes b y in
    cc

pub one_formula : (bytes : List ℕ) (f g : Problem) → Spells bytes f → Spells bytes g → f ≡ g
one_formula bytes f g x y =
    let e : read_of bytes ≡ Ok f = spelled_is_read bytes f x in
    let d : read_of bytes ≡ Ok g = spelled_is_read bytes g y in
    cc

pub spelled_or_faulty : (bytes : List ℕ) (f : Problem) (fault : Refusal) → Spells bytes f → IsFirstFault bytes fault → ⊥
spelled_or_faulty bytes f fault x y =
    let e : read_of bytes ≡ Ok f = spelled_is_read bytes f x in
    let d : read_of bytes ≡ Err fault = first_fault_is_read bytes fault y in
    cc

pub first_refused : (bytes : List ℕ) (result : Result Problem ReadError) → Gives (read_of bytes) result → (fault : Refusal) → IsFirstFault bytes fault → RefusesAs fault result
first_refused bytes (Ok f) gives fault bad = let e : read_of bytes ≡ Err fault = first_fault_is_read bytes fault bad in cc
first_refused bytes (Err Memory) gives fault bad = tt
first_refused bytes (Err (Refused r)) gives fault bad = let e : read_of bytes ≡ Err fault = first_fault_is_read bytes fault bad in cc
