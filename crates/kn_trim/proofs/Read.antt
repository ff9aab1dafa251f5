-- Reading a proof line by line, of which each steps.
use Rattle.std.proofs.Common.{◌≡◌, ℕ, ◌+◌, ◌++◌, true, false, List, [], ◌∷◌, length, Result, Ok, Err, refl, sym, ap, ◌∙◌, subst, append_assoc, arith}
use Rattle.std.specs.List.{AllByRecursion}
use Rattle.std.specs.Result.{IsOk}
use Rattle.std.proofs.lemmas.List.{append-nil, length-map, length-replicate}
use Rattle.kn_logic.specs.Literals.{Literal}
use Rattle.kn_logic.specs.Formulas.{Problem}
use Rattle.kn_text.specs.Lines.{Line as TextLine, content_from, content_of, is_skipped, lines_of, words_of}
use Rattle.kn_lines.specs.declared.line.Line.{Line}
use Rattle.kn_lines.specs.Lines.{SpellsWords, SpellsNone, IsWellFormed}
use Rattle.kn_lines.proofs.Public.{one_spelling}
use Rattle.kn_rules.specs.Marks.{AssumedLiterals}
use Rattle.kn_rules.specs.States.{ProofState, start, from_file}
use Rattle.kn_rules.specs.Steps.{step}
use Rattle.kn_rules.specs.Proofs.{Runs, StepsThrough, IsProof}
use Rattle.kn_trim.specs.Used.{lean, lines_from, lean_lines}
use Rattle.kn_trim.specs.Needed.{AreSpelled, AreBehindHeader, ids_given, variables_given}
use Rattle.kn_trim.specs.Marking.{Place, behind, place_at, place_of, none_of}
use Rattle.kn_trim.specs.Reading.{Read, IsIdle, Takes, IsBehindFirst, IsLean}
use Rattle.kn_trim.proofs.Stepping.{made-is}
use Rattle.kn_trim.proofs.Lines.{Grows, step-grows}
use Rattle.kn_trim.proofs.Whole.{Leans, lean-gives}
use Rattle.kn_trim.proofs.Sound.{IsGood, steps-lean}
use Rattle.kn_trim.proofs.Named.{AreReady, leans-ready}

-- What was read up to here: some lines, which led to the state; and the rest of the text steps from it.
pub record IsReadUpTo (f : Problem) (bytes : List ℕ) (r : Read) (rest : List ℕ) : Type 0 where
  pub number : ℕ
  pub last : ProofState
  pub run : Runs r.state (content_from number (lines_of rest)) last
  pub refuted : last.refuted ≡ true
  pub done : List Line
  pub spelled : (more : List Line) → AreSpelled (content_from number (lines_of rest)) more → AreBehindHeader (content_of bytes) (done ++ more)
  pub leans : Leans (start f) done r.lines r.state
  pub idle : IsIdle r.state r.assumed

-- a line that is skipped, and one that is not
skipped-content : (number : ℕ) (text : List ℕ) (lines all : List (List ℕ)) → all ≡ text ∷ lines → is_skipped (words_of text) ≡ true → content_from number all ≡ content_from (number + 1) lines
skipped-content number text lines all e s = ap (content_from number) e ∙ rw s refl

abbrev text_line : ℕ → List (List ℕ) → TextLine
text_line number words = record { number = number; words = words }

kept-content : (number : ℕ) (text : List ℕ) (lines all : List (List ℕ)) → all ≡ text ∷ lines → is_skipped (words_of text) ≡ false → content_from number all ≡ text_line number (words_of text) ∷ content_from (number + 1) lines
kept-content number text lines all e s = ap (content_from number) e ∙ rw s refl

-- the header
behind-first : (f : Problem) (texts : List TextLine) (rest : List ℕ) (last : ProofState) → StepsThrough f texts last → IsBehindFirst texts rest → (number : ℕ) × Runs (start f) (content_from number (lines_of rest)) last × ((more : List Line) → AreSpelled (content_from number (lines_of rest)) more → AreBehindHeader texts more)
behind-first f [] rest last s b = absurd s
behind-first f (first ∷ texts) rest last s b = (
  b.0,
  subst (λ (ts : List TextLine). Runs (start f) ts last) (sym b.1) s.1,
  λ more k. subst (λ (ts : List TextLine). AreSpelled ts more) b.1 k,
)

pub read-start : (f : Problem) (bytes rest : List ℕ) (r : Read) → IsProof f bytes → IsBehindFirst (content_of bytes) rest → r.state ≡ start f → r.lines ≡ [] → IsIdle r.state r.assumed → IsReadUpTo f bytes r rest
read-start f bytes rest r p b s l i =
    let first = behind-first f (content_of bytes) rest p.0 p.1 b in
    record {
      number = first.0;
      last = p.0;
      run = subst (λ (t : ProofState). Runs t (content_from first.0 (lines_of rest)) p.0) (sym s) first.1;
      refuted = p.2;
      done = [];
      spelled = first.2;
      leans = subst (λ (ls : List Line). Leans (start f) [] ls r.state) (sym l) (sym s);
      idle = i;
    }

pub read-skipped : (f : Problem) (bytes rest text behind : List ℕ) (r : Read) → lines_of rest ≡ text ∷ lines_of behind → is_skipped (words_of text) ≡ true → IsReadUpTo f bytes r rest → IsReadUpTo f bytes r behind
read-skipped f bytes rest text behind r e s h =
    let same = skipped-content h.number text (lines_of behind) (lines_of rest) e s in
    record {
      number = h.number + 1;
      last = h.last;
      run = subst (λ (ts : List TextLine). Runs r.state ts h.last) same h.run;
      refuted = h.refuted;
      done = h.done;
      spelled = λ more k. h.spelled more (subst (λ (ts : List TextLine). AreSpelled ts more) (sym same) k);
      leans = h.leans;
      idle = h.idle;
    }

-- the line that comes next
next-run : (f : Problem) (bytes rest text behind : List ℕ) (r : Read) → lines_of rest ≡ text ∷ lines_of behind → is_skipped (words_of text) ≡ false → (h : IsReadUpTo f bytes r rest) → Runs r.state (text_line h.number (words_of text) ∷ content_from (h.number + 1) (lines_of behind)) h.last
next-run f bytes rest text behind r e s h = subst (λ (ts : List TextLine). Runs r.state ts h.last) (kept-content h.number text (lines_of behind) (lines_of rest) e s) h.run

pub read-spelled : (f : Problem) (bytes rest text behind : List ℕ) (r : Read) → lines_of rest ≡ text ∷ lines_of behind → IsReadUpTo f bytes r rest → SpellsNone text → ⊥
read-spelled f bytes rest text behind r e h none =
    let run = next-run f bytes rest text behind r e none.0 h in
    none.1 run.1.0 run.1.1

next-step : (f : Problem) (bytes rest text behind : List ℕ) (r : Read) (line : Line) → lines_of rest ≡ text ∷ lines_of behind → is_skipped (words_of text) ≡ false → SpellsWords (words_of text) line → (h : IsReadUpTo f bytes r rest) → (next : ProofState) × (step r.state line ≡ Ok next) × Runs next (content_from (h.number + 1) (lines_of behind)) h.last
next-step f bytes rest text behind r line e s k h =
    let run = next-run f bytes rest text behind r e s h in
    let same : run.1.0 ≡ line = one_spelling (words_of text) run.1.0 line run.1.1 k in
    (run.0, subst (λ (l : Line). step r.state l ≡ Ok run.0) same run.1.2, run.2)

ok-of : (o : Result ProofState ℕ) (s : ProofState) → o ≡ Ok s → IsOk o
ok-of (Ok x) s e = refl
ok-of (Err why) s e = absurd cc

pub read-steps : (f : Problem) (bytes rest text behind : List ℕ) (r : Read) (line : Line) → lines_of rest ≡ text ∷ lines_of behind → is_skipped (words_of text) ≡ false → SpellsWords (words_of text) line → IsReadUpTo f bytes r rest → IsOk (step r.state line)
read-steps f bytes rest text behind r line e s k h =
    let next = next-step f bytes rest text behind r line e s k h in
    ok-of (step r.state line) next.0 next.1

-- one line more
leans-push : (lines leans : List Line) (s mid next : ProofState) (line : Line) → Leans s lines leans mid → step mid line ≡ Ok next → Leans s (lines ++ line ∷ []) (leans ++ lean mid line ∷ []) next
leans-push [] [] s mid next line d e = (next, subst (λ (t : ProofState). step t line ≡ Ok next) (sym d) e, subst (λ (t : ProofState). lean mid line ≡ lean t line) (sym d) refl, refl)
leans-push [] (l ∷ leans) s mid next line d e = absurd d
leans-push (x ∷ lines) [] s mid next line d e = absurd d
leans-push (x ∷ lines) (l ∷ leans) s mid next line d e = (d.0, d.1, d.2, leans-push lines leans d.0 mid next line d.3 e)

pub read-line : (f : Problem) (bytes rest text behind : List ℕ) (r r' : Read) (line : Line) → lines_of rest ≡ text ∷ lines_of behind → is_skipped (words_of text) ≡ false → SpellsWords (words_of text) line → Takes line r r' → IsReadUpTo f bytes r rest → IsReadUpTo f bytes r' behind
read-line f bytes rest text behind r r' line e s k t h =
    let next = next-step f bytes rest text behind r line e s k h in
    let same : next.0 ≡ r'.state = sym (made-is next.0 r'.state (sym next.1 ∙ t.steps)) in
    let content = kept-content h.number text (lines_of behind) (lines_of rest) e s in
    record {
      number = h.number + 1;
      last = h.last;
      run = subst (λ (x : ProofState). Runs x (content_from (h.number + 1) (lines_of behind)) h.last) same next.2;
      refuted = h.refuted;
      done = h.done ++ line ∷ [];
      spelled = λ more m. subst (λ (ls : List Line). AreBehindHeader (content_of bytes) ls) (sym (append_assoc h.done (line ∷ []) more))
          (h.spelled (line ∷ more) (subst (λ (ts : List TextLine). AreSpelled ts (line ∷ more)) (sym content) (k, m)));
      leans = subst (λ (ls : List Line). Leans (start f) (h.done ++ line ∷ []) ls r'.state) (sym t.lines) (leans-push h.done r.lines (start f) r.state r'.state line h.leans t.steps);
      idle = t.idle;
    }

-- all lines
leans-are : (lines leans : List Line) (s last : ProofState) → Leans s lines leans last → leans ≡ lean_lines s lines
leans-are [] [] s last d = refl
leans-are [] (l ∷ leans) s last d = absurd d
leans-are (line ∷ lines) [] s last d = absurd d
leans-are (line ∷ lines) (l ∷ leans) s last d =
    ap (λ (x : Line). x ∷ leans) d.2 ∙ ap (λ (ls : List Line). lean s line ∷ ls) (leans-are lines leans d.0 last d.3)
    ∙ ap (λ (o : Result ProofState ℕ). lean s line ∷ lines_from (λ next. lean_lines next lines) o) (sym d.1)

leans-totals : (lines leans : List Line) (s last : ProofState) (p : Place) → Leans s lines leans last → p.variables ≡ s.vars → p.ids ≡ length s.given → ((place_at p leans (length leans)).variables ≡ last.vars) × ((place_at p leans (length leans)).ids ≡ length last.given)
leans-totals [] [] s last p d v i = (v ∙ ap (λ (t : ProofState). t.vars) d, i ∙ ap (λ (t : ProofState). length t.given) d)
leans-totals [] (l ∷ leans) s last p d v i = absurd d
leans-totals (line ∷ lines) [] s last p d v i = absurd d
leans-totals (line ∷ lines) (l ∷ leans) s last p d v i =
    let grows : Grows s d.0 line = step-grows s d.0 line d.1 in
    let same = lean-gives s line in
    leans-totals lines leans d.0 last (behind p l) d.3
    (omega (arith, v, grows.variables, ap variables_given d.2, same.1))
    (omega (arith, i, grows.ids, ap ids_given d.2, same.0))

good-formed : (lines : List Line) → AllByRecursion IsGood lines → AllByRecursion IsWellFormed lines
good-formed [] h = tt
good-formed (line ∷ lines) h = (h.0.formed, good-formed lines h.1)

pub read-all : (f : Problem) (bytes : List ℕ) (r : Read) (leans : List Line) (variables ids : ℕ) → IsProof f bytes → IsReadUpTo f bytes r [] → leans ≡ r.lines → variables ≡ r.state.vars → ids ≡ length r.state.given → IsLean f bytes leans variables ids
read-all f bytes r leans variables ids p h l v i =
    let spelled : AreBehindHeader (content_of bytes) h.done = subst (λ (ls : List Line). AreBehindHeader (content_of bytes) ls) (append-nil h.done) (h.spelled [] tt) in
    let run : Leans (start f) h.done leans r.state = subst (λ (ls : List Line). Leans (start f) h.done ls r.state) (sym l) h.leans in
    let lean : leans ≡ lean_lines (start f) h.done = leans-are h.done leans (start f) r.state run in
    let parts = steps-lean f (content_of bytes) h.done p.0 spelled p.1 in
    let totals = leans-totals h.done leans (start f) r.state (place_of f) run refl (sym (length-map f.constraints from_file)) in
    let lv = length-replicate r.state.vars false in
    let li = length-replicate (length r.state.given) false in
    let ready : AreReady (none_of r.state.vars (length r.state.given)) (place_of f) leans (start f) r.state = leans-ready (none_of r.state.vars (length r.state.given)) h.done leans (start f) r.state (place_of f) run refl (sym (length-map f.constraints from_file)) (omega (arith, lv)) (omega (arith, li)) in
    record {
      lines = h.done;
      spelled = spelled;
      lean = lean;
      variables = totals.0 ∙ sym v;
      ids = totals.1 ∙ sym i;
      named = ready.named;
      formed = good-formed leans (subst (λ (ls : List Line). AllByRecursion IsGood ls) (sym lean) parts.1);
      ends = sym ready.refuted ∙ ap (λ (t : ProofState). t.refuted) h.run ∙ h.refuted;
    }

-- what one line more makes of the variables
abbrev assumed-of : ℕ → List Literal → AssumedLiterals
assumed-of vars lits = record { vars = vars; lits = lits }

pub idle-behind : (s s' : ProofState) (line : Line) (assumed assumed' : AssumedLiterals) → step s line ≡ Ok s' → IsIdle s assumed → assumed'.vars ≡ assumed.vars + variables_given line → assumed'.lits ≡ assumed.lits → IsIdle s' assumed'
idle-behind s s' line assumed assumed' e i v l =
    let grows : Grows s s' line = step-grows s s' line e in
    ap (λ n. assumed-of n assumed'.lits) (v ∙ ap (λ (a : AssumedLiterals). a.vars + variables_given line) i ∙ sym grows.variables)
    ∙ ap (assumed-of s'.vars) (l ∙ ap (λ (a : AssumedLiterals). a.lits) i)
