-- A text is read as a formula exactly where it spells it.
use Rattle.std.proofs.Common.{◌≡◌, ℕ, ◌≤◌, ◌==◌, nat_lt, Bool, true, false, ◌&&◌, if◌then◌else◌, List, [], ◌∷◌, ◌++◌, length, Option, Some, None, Ok, Err, refl, sym, ap, subst, ◌∙◌, arith}
use Rattle.std.proofs.lemmas.Bool.{ltb-false, le-ltb, eqb-true, eq-eqb, and_from}
use Rattle.std.proofs.lemmas.Slice.Eq.{bytes_eq-Decides}
use Rattle.std.specs.Prelude.{Result, codes, IfOk}
use Rattle.std.specs.Str.{bytes_eq}
use Rattle.kn_logic.specs.Constraints.{Bounded}
use Rattle.kn_logic.specs.Formulas.{Problem}
use Rattle.kn_text.specs.Lines.{Line, lines_of, content_of}
use Rattle.kn_text.specs.Numbers.{number_of}
use Rattle.kn_format.specs.declared.error.ReadError.{ReadError}
use Rattle.kn_format.specs.declared.error.ReadError.TheVariants.{Refused, Memory}
use Rattle.kn_format.specs.declared.format.Format.{Format}
use Rattle.kn_format.specs.declared.format.Format.TheVariants.{Cnf, Knf}
use Rattle.kn_format.specs.declared.header.Header.{Header}
use Rattle.kn_format.specs.declared.place.Place.{Place}
use Rattle.kn_format.specs.declared.place.Place.TheVariants.{Between, Guard, Bound, Clause, Klause}
use Rattle.kn_format.specs.Grammar.{most_variables, most_constraints, format_word, SpellsProblem, BeginsTail, IsTail, words_in, SpellsBy, Spells, SpellsNone}
use Rattle.kn_format.specs.Faults.{Reading, nothing, start, is_full, after, after_words, ◌>>=◌, is_percent, is_between, is_done, ends, at_end, refusal, bad_token, no_header, too_many_variables, too_many_constraints, missing_constraint, unended, within_limits, format_of, header_from, header_behind, header_of}
use Rattle.kn_format.specs.Reading.{go_on, after_lines, behind_header, read_lines, read_of, Gives, ReadsAs, IfRefused}
use Rattle.kn_format.proofs.Steps.{reading, mark_is}
use Rattle.kn_format.proofs.Spelled.{is_read}
use Rattle.kn_format.proofs.Back.{unless, when, is_ok, first_step, constraints_are_spelled}

-- the problem line
format_is_named : (name : List ℕ) (format : Format) → name ≡ format_word format → format_of name ≡ Some format
format_is_named name Cnf e = ap format_of e
format_is_named name Knf e = ap format_of e

is_within_limits : (h : Header) → h.vars ≤ most_variables → h.count ≤ most_constraints → within_limits h ≡ Ok h
is_within_limits h vars count =
    let v : nat_lt most_variables h.vars ≡ false = le-ltb most_variables h.vars vars in
    let c : nat_lt most_constraints h.count ≡ false = le-ltb most_constraints h.count count in
    rw (v, c) refl

pub header_is_read : (words : List (List ℕ)) (h : Header) → SpellsProblem words h.format h.vars h.count → h.vars ≤ most_variables → h.count ≤ most_constraints → header_of words ≡ Ok h
header_is_read [] h spelled vars count = absurd spelled
header_is_read (p ∷ []) h spelled vars count = absurd spelled
header_is_read (p ∷ name ∷ []) h spelled vars count = absurd spelled
header_is_read (p ∷ name ∷ first ∷ []) h spelled vars count = absurd spelled
header_is_read (p ∷ name ∷ first ∷ second ∷ []) h spelled vars count =
    let begins : bytes_eq p (codes "p") ≡ true = mark_is p (codes "p") spelled.0 in
    let format : format_of name ≡ Some h.format = format_is_named name h.format spelled.1 in
    let v : number_of first ≡ Some h.vars = spelled.2 in
    let c : number_of second ≡ Some h.count = spelled.3 in
    rw (begins, format, v, c) (is_within_limits h vars count)
header_is_read (p ∷ name ∷ first ∷ second ∷ word ∷ words) h spelled vars count = absurd spelled

format_was_named-knf : (name : List ℕ) (format : Format) (t : Bool) → bytes_eq name (codes "knf") ≡ t → (if t then Some Knf else None) ≡ Some format → name ≡ format_word format
format_was_named-knf name format true t e = let same : Knf ≡ format = cc in (bytes_eq-Decides name (codes "knf")).0 t ∙ ap format_word same
format_was_named-knf name format false t e = absurd cc

format_was_named-at : (name : List ℕ) (format : Format) (t : Bool) → bytes_eq name (codes "cnf") ≡ t → (if t then Some Cnf else (if bytes_eq name (codes "knf") then Some Knf else None)) ≡ Some format → name ≡ format_word format
format_was_named-at name format true t e = let same : Cnf ≡ format = cc in (bytes_eq-Decides name (codes "cnf")).0 t ∙ ap format_word same
format_was_named-at name format false t e = format_was_named-knf name format (bytes_eq name (codes "knf")) refl e

format_was_named : (name : List ℕ) (format : Format) → format_of name ≡ Some format → name ≡ format_word format
format_was_named name format e = format_was_named-at name format (bytes_eq name (codes "cnf")) refl e

pub record IsHeader (words : List (List ℕ)) (h : Header) : Type 0 where
  pub spelled : SpellsProblem words h.format h.vars h.count
  pub vars : h.vars ≤ most_variables
  pub count : h.count ≤ most_constraints

limits_kept : (g h : Header) → within_limits g ≡ Ok h → (g ≡ h) × (g.vars ≤ most_variables) × (g.count ≤ most_constraints)
limits_kept g h e =
    let v = unless (nat_lt most_variables g.vars) too_many_variables (if nat_lt most_constraints g.count then Err too_many_constraints else Ok g) h e in
    let c = unless (nat_lt most_constraints g.count) too_many_constraints (Ok g) h v.1 in
    (is_ok g h c.1, ltb-false most_variables g.vars v.0, ltb-false most_constraints g.count c.0)

numbers_were_spelled : (p name first second : List ℕ) (h : Header) (format : Option Format) (vars count : Option ℕ) → p ≡ codes "p"
    → format_of name ≡ format → number_of first ≡ vars → number_of second ≡ count → header_from format vars count ≡ Ok h
    → IsHeader (p ∷ name ∷ first ∷ second ∷ []) h
numbers_were_spelled p name first second h (Some format) (Some vars) (Some count) begins f v c e =
    let kept = limits_kept (record { format = format; vars = vars; count = count }) h e in
    subst (λ (g : Header). IsHeader (p ∷ name ∷ first ∷ second ∷ []) g) kept.0
    (record { spelled = (begins, format_was_named name format f, v, c); vars = kept.1; count = kept.2 })
numbers_were_spelled p name first second h None vars count begins f v c e = absurd cc
numbers_were_spelled p name first second h (Some format) None count begins f v c e = absurd cc
numbers_were_spelled p name first second h (Some format) (Some vars) None begins f v c e = absurd cc

rest_was_spelled : (p : List ℕ) (words : List (List ℕ)) (h : Header) → p ≡ codes "p" → header_behind words ≡ Ok h → IsHeader (p ∷ words) h
rest_was_spelled p [] h begins e = absurd cc
rest_was_spelled p (name ∷ []) h begins e = absurd cc
rest_was_spelled p (name ∷ first ∷ []) h begins e = absurd cc
rest_was_spelled p (name ∷ first ∷ second ∷ []) h begins e = numbers_were_spelled p name first second h (format_of name) (number_of first) (number_of second) begins refl refl refl e
rest_was_spelled p (name ∷ first ∷ second ∷ word ∷ words) h begins e = absurd cc

pub header_was_spelled : (words : List (List ℕ)) (h : Header) → header_of words ≡ Ok h → IsHeader words h
header_was_spelled [] h e = absurd cc
header_was_spelled (p ∷ words) h e =
    let w = when (bytes_eq p (codes "p")) no_header (header_behind words) h e in
    rest_was_spelled p words h ((bytes_eq-Decides p (codes "p")).0 w.0) w.1

-- the lines behind it
one_by_one : (x : Result Reading ℕ) (f g h : Reading → Result Reading ℕ) → ((n : Reading) → f n ≡ (g n >>= h)) → (x >>= f) ≡ ((x >>= g) >>= h)
one_by_one (Ok n) f g h same = same n
one_by_one (Err cause) f g h same = refl

pub after_both : (front behind : List (List ℕ)) (r : Reading) → after_words r (front ++ behind) ≡ (after_words r front >>= λ n. after_words n behind)
after_both [] behind r = refl
after_both (word ∷ front) behind r =
    one_by_one (after r word) (λ n. after_words n (front ++ behind)) (λ n. after_words n front) (λ n. after_words n behind) (after_both front behind)

percent_has_cause-at : (format : Format) (count vars : ℕ) (done : List Bounded) (begun : Bounded) (b : ℕ) (word : List ℕ) → b ≡ 37
    → after (reading format count vars done Between begun) (b ∷ word) ≡ Err bad_token
percent_has_cause-at Cnf count vars done begun b word e = ap (λ (c : ℕ). after (reading Cnf count vars done Between begun) (c ∷ word)) e
percent_has_cause-at Knf count vars done begun b word e = ap (λ (c : ℕ). after (reading Knf count vars done Between begun) (c ∷ word)) e

pub both_hold : (a b : Bool) → (a && b) ≡ true → (a ≡ true) × (b ≡ true)
both_hold true true e = (refl, refl)
both_hold true false e = absurd cc
both_hold false b e = absurd cc

pub ends_has_cause-at : (place : Place) (format : Format) (count vars : ℕ) (done : List Bounded) (begun : Bounded) (words : List (List ℕ)) (s : Reading)
    → is_between place ≡ true → is_percent words ≡ true → after_words (reading format count vars done place begun) words ≡ Ok s → ⊥
ends_has_cause-at Between format count vars done begun ((b ∷ word) ∷ words) s at percent e =
    cc (ap (λ x. x >>= λ n. after_words n words) (percent_has_cause-at format count vars done begun b word (eqb-true b 37 percent)))
ends_has_cause-at Between format count vars done begun [] s at percent e = cc
ends_has_cause-at Between format count vars done begun ([] ∷ words) s at percent e = cc
ends_has_cause-at Guard format count vars done begun words s at percent e = cc
ends_has_cause-at Bound format count vars done begun words s at percent e = cc
ends_has_cause-at Clause format count vars done begun words s at percent e = cc
ends_has_cause-at Klause format count vars done begun words s at percent e = cc

-- a line that ends the constraints is not read as one of them
pub ends_has_cause : (r s : Reading) (words : List (List ℕ)) → ends r words ≡ true → after_words r words ≡ Ok s → ⊥
ends_has_cause r s words tail e =
    let t = both_hold (is_done r) (is_percent words) tail in
    let d = both_hold (is_between r.place) (is_full r) t.0 in
    ends_has_cause-at r.place r.format r.count r.formula.vars r.formula.constraints r.begun words s d.0 t.1 e

pub is_no_tail : (r s : Reading) (words : List (List ℕ)) (t : Bool) → ends r words ≡ t → after_words r words ≡ Ok s → ends r words ≡ false
is_no_tail r s words true tail e = absurd (ends_has_cause r s words tail e)
is_no_tail r s words false tail e = tail

pub tail_is_percent : (words : List (List ℕ)) → BeginsTail words → is_percent words ≡ true
tail_is_percent [] tail = absurd tail
tail_is_percent ([] ∷ words) tail = absurd tail
tail_is_percent ((b ∷ word) ∷ words) tail = eq-eqb b 37 tail

pub percent_is_tail : (words : List (List ℕ)) → is_percent words ≡ true → BeginsTail words
percent_is_tail [] percent = absurd cc
percent_is_tail ([] ∷ words) percent = absurd cc
percent_is_tail ((b ∷ word) ∷ words) percent = eqb-true b 37 percent

at_end_done : (last : ℕ) (s : Reading) → is_done s ≡ true → at_end last s ≡ Ok s.formula
at_end_done last s done =
    let d = both_hold (is_between s.place) (is_full s) done in
    let between : is_between s.place ≡ true = d.0 in
    let full : is_full s ≡ true = d.1 in
    rw (between, full) refl

lines_are_read : (last : ℕ) (body tail : List Line) (r s : Reading) → after_words r (words_in body) ≡ Ok s → is_done s ≡ true → IsTail tail → after_lines last r (body ++ tail) ≡ Ok s.formula
lines_are_read last [] [] r s e done tail = ap (at_end last) (is_ok r s e) ∙ at_end_done last s done
lines_are_read last [] (line ∷ lines) r s e done tail =
    let same : r ≡ s = is_ok r s e in
    let percent : is_percent line.words ≡ true = tail_is_percent line.words tail in
    ap (λ (n : Reading). after_lines last n (line ∷ lines)) same ∙ rw (done, percent) refl
lines_are_read last (line ∷ body) tail r s e done ending =
    let f = first_step (after_words r line.words) (λ n. after_words n (words_in body)) s (sym (after_both line.words (words_in body) r) ∙ e) in
    let here : after_words r line.words ≡ Ok f.0 = f.1 in
    let no_tail : ends r line.words ≡ false = is_no_tail r f.0 line.words (ends r line.words) refl here in
    rw (no_tail, here) (lines_are_read last body tail f.0 s f.2 done ending)

-- the lines that were read
record WasRead (r : Reading) (lines : List Line) (f : Problem) : Type 0 where
  body : List Line
  tail : List Line
  last : Reading
  parts : lines ≡ body ++ tail
  words : after_words r (words_in body) ≡ Ok last
  done : is_done last ≡ true
  formula : last.formula ≡ f
  ending : IsTail tail

pub at_between : (place : Place) → is_between place ≡ true → place ≡ Between
at_between Between e = refl
at_between Guard e = absurd cc
at_between Bound e = absurd cc
at_between Clause e = absurd cc
at_between Klause e = absurd cc

end_was_read : (last : ℕ) (r : Reading) (f : Problem) → at_end last r ≡ Ok f → WasRead r [] f
end_was_read last r f e =
    let b = when (is_between r.place) (refusal last unended) (if is_full r then Ok r.formula else Err (refusal last missing_constraint)) f e in
    let d = when (is_full r) (refusal last missing_constraint) (Ok r.formula) f b.1 in
    record { body = []; tail = []; last = r; parts = refl; words = refl; done = and_from (is_between r.place) (is_full r) b.0 d.0; formula = cc; ending = tt }

line_was_read : (last number : ℕ) (r : Reading) (line : Line) (lines : List Line) (f : Problem) (x : Result Reading ℕ) → after_words r line.words ≡ x
    → go_on number x (λ next. after_lines last next lines) ≡ Ok f → ((next : Reading) → after_lines last next lines ≡ Ok f → WasRead next lines f) → WasRead r (line ∷ lines) f
line_was_read last number r line lines f (Ok next) here e more =
    let w : WasRead next lines f = more next e in
    record {
      body = line ∷ w.body;
      tail = w.tail;
      last = w.last;
      parts = ap (λ ls. line ∷ ls) w.parts;
      words = after_both line.words (words_in w.body) r ∙ ap (λ y. y >>= λ n. after_words n (words_in w.body)) here ∙ w.words;
      done = w.done;
      formula = w.formula;
      ending = w.ending;
    }
line_was_read last number r line lines f (Err cause) here e more = absurd cc

lines_were_read-at : (last : ℕ) (r : Reading) (line : Line) (lines : List Line) (f : Problem) (t : Bool) → ends r line.words ≡ t
    → (if t then Ok r.formula else go_on line.number (after_words r line.words) (λ next. after_lines last next lines)) ≡ Ok f
    → ((next : Reading) → after_lines last next lines ≡ Ok f → WasRead next lines f) → WasRead r (line ∷ lines) f
lines_were_read-at last r line lines f true tail e more =
    let t = both_hold (is_done r) (is_percent line.words) tail in
    record { body = []; tail = line ∷ lines; last = r; parts = refl; words = refl; done = t.0; formula = cc; ending = percent_is_tail line.words t.1 }
lines_were_read-at last r line lines f false tail e more = line_was_read last line.number r line lines f (after_words r line.words) refl e more

lines_were_read : (last : ℕ) (lines : List Line) (r : Reading) (f : Problem) → after_lines last r lines ≡ Ok f → WasRead r lines f
lines_were_read last [] r f e = end_was_read last r f e
lines_were_read last (line ∷ lines) r f e = lines_were_read-at last r line lines f (ends r line.words) refl e (λ next. lines_were_read last lines next f)

-- the whole text
pub spelled_is_read : (bytes : List ℕ) (f : Problem) → Spells bytes f → read_of bytes ≡ Ok f
spelled_is_read bytes f (format, problem, body, tail, by) =
    let last : ℕ = length (lines_of bytes) in
    let h : Header = record { format = format; vars = f.vars; count = length f.constraints } in
    let header : header_of problem.words ≡ Ok h = header_is_read problem.words h by.header by.vars by.count in
    let read = is_read (words_in body) format (length f.constraints) f.vars [] Between nothing f.constraints by.constraints by.formula (omega arith) in
    let done : (length f.constraints == length f.constraints) ≡ true = eq-eqb _ _ refl in
    ap (read_lines last) by.parts
    ∙ ap (λ x. behind_header last problem.number x (body ++ tail)) header
    ∙ lines_are_read last body tail (start h) (reading format (length f.constraints) f.vars f.constraints Between read.0) read.1 done by.ending

spelled_by : (f : Problem) (h : Header) (problem : Line) (lines : List Line) → IsHeader problem.words h → WasRead (start h) lines f
    → (body : List Line) × (tail : List Line) × SpellsBy (problem ∷ lines) h.format problem body tail f
spelled_by f h problem lines header w =
    let d = both_hold (is_between w.last.place) (is_full w.last) w.done in
    let c = constraints_are_spelled h.format h.count h.vars (words_in w.body) w.last w.words (at_between w.last.place d.0) in
    let whole : f ≡ record { vars = h.vars; constraints = c.0 } = sym w.formula ∙ c.2 in
    let count : length c.0 ≡ h.count = ap (λ (g : Problem). length g.constraints) (sym c.2) ∙ eqb-true _ _ d.1 ∙ c.1 in (
      w.body,
      w.tail,
      subst (λ (g : Problem). SpellsBy (problem ∷ lines) h.format problem w.body w.tail g) (sym whole) (record {
        parts = ap (λ ls. problem ∷ ls) w.parts;
        header = subst (λ (n : ℕ). SpellsProblem problem.words h.format h.vars n) (sym count) header.spelled;
        constraints = c.3;
        ending = w.ending;
        vars = header.vars;
        count = subst (λ (n : ℕ). n ≤ most_constraints) (sym count) header.count;
        formula = c.4;
      }),
    )

header_was_read : (last number : ℕ) (f : Problem) (problem : Line) (lines : List Line) (x : Result Header ℕ) → header_of problem.words ≡ x → behind_header last number x lines ≡ Ok f
    → (format : Format) × (body : List Line) × (tail : List Line) × SpellsBy (problem ∷ lines) format problem body tail f
header_was_read last number f problem lines (Ok h) e read =
    let by = spelled_by f h problem lines (header_was_spelled problem.words h e) (lines_were_read last lines (start h) f read) in
    (h.format, by.0, by.1, by.2)
header_was_read last number f problem lines (Err cause) e read = absurd cc

read_was_spelled-at : (bytes : List ℕ) (f : Problem) (last : ℕ) (content : List Line) → content_of bytes ≡ content → read_lines last content ≡ Ok f → Spells bytes f
read_was_spelled-at bytes f last [] e read = absurd cc
read_was_spelled-at bytes f last (problem ∷ lines) e read =
    let by = header_was_read last problem.number f problem lines (header_of problem.words) refl read in
    (by.0, problem, by.1, by.2, subst (λ (ls : List Line). SpellsBy ls by.0 problem by.1 by.2 f) (sym e) by.3)

pub read_was_spelled : (bytes : List ℕ) (f : Problem) → read_of bytes ≡ Ok f → Spells bytes f
read_was_spelled bytes f read = read_was_spelled-at bytes f (length (lines_of bytes)) (content_of bytes) refl read

-- what the reader answers
pub found_spelled : (bytes : List ℕ) (result : Result Problem ReadError) → Gives (read_of bytes) result → IfOk result (λ f. Spells bytes f)
found_spelled bytes (Ok f) gives = read_was_spelled bytes f gives
found_spelled bytes (Err e) gives = tt

pub spelled_found : (bytes : List ℕ) (result : Result Problem ReadError) → Gives (read_of bytes) result → (f : Problem) → Spells bytes f → ReadsAs f result
spelled_found bytes (Ok g) gives f spells = let e : read_of bytes ≡ Ok f = spelled_is_read bytes f spells in cc
spelled_found bytes (Err Memory) gives f spells = tt
spelled_found bytes (Err (Refused r)) gives f spells = let e : read_of bytes ≡ Ok f = spelled_is_read bytes f spells in cc

pub refused_none : (bytes : List ℕ) (result : Result Problem ReadError) → Gives (read_of bytes) result → IfRefused result (λ _. SpellsNone bytes)
refused_none bytes (Ok f) gives = tt
refused_none bytes (Err Memory) gives = tt
refused_none bytes (Err (Refused r)) gives = λ f spells. let e : read_of bytes ≡ Ok f = spelled_is_read bytes f spells in cc
