-- A text that was written of a formula spells it.
use Rattle.std.proofs.Common.{◌≡◌, ℕ, ◌+◌, ◌≤◌, ◌==◌, Bool, true, false, ◌&&◌, List, [], ◌∷◌, ◌++◌, length, map, Option, Some, None, refl, sym, ap, subst, ◌∙◌, append_assoc, arith, inl, inr}
use Rattle.std.proofs.lemmas.Bool.{eqb-true}
use Rattle.std.proofs.lemmas.List.{append-nil}
use Rattle.std.specs.Prelude.{Result, Ok, Err, IfOk, codes, decimal, IfSome, IsSome}
use Rattle.std.specs.Option.{is_none}
use Rattle.std.specs.List.{AllByRecursion, flat_map}
use Rattle.kn_logic.specs.Literals.{Literal, IsKnown, AreKnown, AreDifferent}
use Rattle.kn_logic.specs.Constraints.{Bounded, clause, klause, is_clause, named, Fits}
use Rattle.kn_logic.specs.Formulas.{Problem, IsFormula}
use Rattle.kn_text.specs.Lines.{Line, is_blank, content_of, numbered, line_text, IsPlain, IsPlainLine, IsContent}
use Rattle.kn_text.specs.Lists.{LiteralsThen}
use Rattle.kn_text.proofs.Public.{number_of_decimal, decimal_is_plain, literal_word_is_plain, literal_of_word, literal_not_skipped, content_of_lines}
use Rattle.kn_format.specs.declared.format.Format.{Format}
use Rattle.kn_format.specs.declared.format.Format.TheVariants.{Cnf, Knf}
use Rattle.kn_format.specs.Grammar.{most_variables, most_constraints, highest_bound, format_word, ClauseThen, MarkedThen, ConstraintThen, SpellConstraints, words_in, Spells}
use Rattle.kn_format.specs.Texts.{list_words, mark_words, constraint_words, constraint_line, problem_words, formula_text, IsWithinLimits, Suits}

-- literals
list_spelled : (behind : List (List ℕ) → Type 0) (vars : ℕ) (lits : List Literal) (rest : List (List ℕ)) → vars ≤ most_variables → AreKnown vars lits → behind rest → LiteralsThen behind (list_words lits ++ rest) lits
list_spelled behind vars [] rest small known more = (refl, more)
list_spelled behind vars (l ∷ lits) rest small known more =
    (literal_of_word l (known.0.0, omega (arith, known.0.1)), list_spelled behind vars lits rest small known.1 more)

-- clauses
clause_is : (c : Bounded) (guard : Option Literal) → c.guard ≡ guard → is_none guard ≡ true → (c.bound == 1) ≡ true → c ≡ clause c.lits
clause_is c None e none one =
    ap (λ g. record c { guard = g }) e ∙ ap (λ n. klause n c.lits) (eqb-true c.bound 1 one)
clause_is c (Some l) e none one = absurd cc

both_are : (a b : Bool) → (a && b) ≡ true → (a ≡ true) × (b ≡ true)
both_are true true e = (refl, refl)
both_are true false e = absurd cc
both_are false b e = absurd cc

is_clause_of : (c : Bounded) → is_clause c ≡ true → c ≡ clause c.lits
is_clause_of c e = let b = both_are (is_none c.guard) (c.bound == 1) e in clause_is c c.guard refl b.0 b.1

clause_spelled : (format : Format) (behind : List (List ℕ) → Type 0) (words : List (List ℕ)) (c : Bounded) → ClauseThen behind words c → ConstraintThen format behind words c
clause_spelled Cnf behind words c spelled = spelled
clause_spelled Knf behind words c spelled = inl spelled

clause_words : (c : Bounded) → is_clause c ≡ true → constraint_words c ≡ list_words c.lits
clause_words c e = rw e refl

-- klauses
klause_words : (c : Bounded) → is_clause c ≡ false → constraint_words c ≡ mark_words c.guard c.bound ++ list_words c.lits
klause_words c e = rw e refl

some_is : (o : Option Literal) (l : Literal) → o ≡ Some l → IsSome o
some_is None l e = absurd cc
some_is (Some m) l e = refl

marked_spelled : (behind : List (List ℕ) → Type 0) (vars : ℕ) (c : Bounded) (guard : Option Literal) (rest : List (List ℕ)) → c.guard ≡ guard → vars ≤ most_variables → c.bound ≤ highest_bound
    → Fits vars c → AreDifferent (named c) → behind rest → MarkedThen behind (mark_words guard c.bound ++ (list_words c.lits ++ rest)) c
marked_spelled behind vars c None rest e small bound fits different more = (
  inl (
    refl,
    (
      ap (λ g. record c { guard = g }) e,
      (number_of_decimal c.bound (omega arith), bound, list_spelled behind vars c.lits rest small fits.within.lits more),
    ),
  ),
  different,
)
marked_spelled behind vars c (Some l) rest e small bound fits different more =
    let known : IsKnown vars l = subst (λ (g : Option Literal). IfSome g (IsKnown vars)) e fits.within.guard in (
      inr (
        refl,
        (
          some_is c.guard l e,
          literal_of_word l (known.0, omega (arith, known.1)) ∙ sym e,
          (number_of_decimal c.bound (omega arith), bound, list_spelled behind vars c.lits rest small fits.within.lits more),
        ),
      ),
      different,
    )

abbrev MayStand : Format → Bounded → Type 0
MayStand format c = (c.bound ≤ highest_bound) × (format ≡ Cnf → is_clause c ≡ true)

constraint_spelled-at : (format : Format) (behind : List (List ℕ) → Type 0) (vars : ℕ) (c : Bounded) (rest : List (List ℕ)) (t : Bool) → is_clause c ≡ t → vars ≤ most_variables → MayStand format c
    → Fits vars c → behind rest → ConstraintThen format behind (constraint_words c ++ rest) c
constraint_spelled-at format behind vars c rest true e small may fits more =
    subst (λ (ws : List (List ℕ)). ConstraintThen format behind (ws ++ rest) c) (sym (clause_words c e))
    (clause_spelled format behind (list_words c.lits ++ rest) c (is_clause_of c e, list_spelled behind vars c.lits rest small fits.within.lits more))
constraint_spelled-at Cnf behind vars c rest false e small may fits more = let yes : is_clause c ≡ true = may.1 refl in absurd cc
constraint_spelled-at Knf behind vars c rest false e small may fits more =
    subst (λ (ws : List (List ℕ)). ConstraintThen Knf behind ws c)
    (sym (append_assoc (mark_words c.guard c.bound) (list_words c.lits) rest) ∙ ap (λ ws. ws ++ rest) (sym (klause_words c e)))
    (inr (marked_spelled behind vars c c.guard rest refl small may.0 fits (fits.different e) more))

constraints_spelled : (format : Format) (vars number : ℕ) (cs : List Bounded) → vars ≤ most_variables → AllByRecursion (MayStand format) cs → AllByRecursion (Fits vars) cs
    → SpellConstraints format (words_in (numbered number (map constraint_words cs))) cs
constraints_spelled format vars number [] small may fits = refl
constraints_spelled format vars number (c ∷ cs) small may fits =
    constraint_spelled-at format (λ behind. SpellConstraints format behind cs) vars c (words_in (numbered (number + 1) (map constraint_words cs))) (is_clause c) refl small may.0 fits.0
    (constraints_spelled format vars (number + 1) cs small may.1 fits.1)

-- the lines
byte_is_plain : (b : ℕ) → is_blank b ≡ false → (b == 10) ≡ false → IsPlain (b ∷ [])
byte_is_plain b blank feed = (omega arith, ((blank, feed), tt))

zero_is_plain : IsPlain (codes "0")
zero_is_plain = byte_is_plain 48 refl refl

k_is_plain : IsPlain (codes "k")
k_is_plain = byte_is_plain 107 refl refl

q_is_plain : IsPlain (codes "q")
q_is_plain = byte_is_plain 113 refl refl

list_is_plain : (vars : ℕ) (lits : List Literal) → vars ≤ most_variables → AreKnown vars lits → IsPlainLine (list_words lits)
list_is_plain vars [] small known = (zero_is_plain, tt)
list_is_plain vars (l ∷ lits) small known = (literal_word_is_plain l (omega (arith, known.0.1)), list_is_plain vars lits small known.1)

mark_is_plain : (vars bound : ℕ) (guard : Option Literal) (words : List (List ℕ)) → vars ≤ most_variables → bound ≤ highest_bound → IfSome guard (IsKnown vars) → IsPlainLine words
    → IsPlainLine (mark_words guard bound ++ words)
mark_is_plain vars bound None words small low known plain = (k_is_plain, (decimal_is_plain bound (omega arith), plain))
mark_is_plain vars bound (Some l) words small low known plain = (q_is_plain, (literal_word_is_plain l (omega (arith, known.1)), (decimal_is_plain bound (omega arith), plain)))

list_is_content : (vars : ℕ) (lits : List Literal) → vars ≤ most_variables → AreKnown vars lits → IsContent (list_words lits)
list_is_content vars [] small known = refl
list_is_content vars (l ∷ lits) small known = literal_not_skipped l (list_words lits) (omega (arith, known.0.1))

mark_is_content : (guard : Option Literal) (bound : ℕ) (words : List (List ℕ)) → IsContent (mark_words guard bound ++ words)
mark_is_content None bound words = refl
mark_is_content (Some l) bound words = refl

record IsLine (words : List (List ℕ)) : Type 0 where
  plain : IsPlainLine words
  content : IsContent words

constraint_is_line : (vars : ℕ) (c : Bounded) (t : Bool) → is_clause c ≡ t → vars ≤ most_variables → c.bound ≤ highest_bound → Fits vars c → IsLine (constraint_words c)
constraint_is_line vars c true e small low fits =
    subst (λ (ws : List (List ℕ)). IsLine ws) (sym (clause_words c e))
    (record { plain = list_is_plain vars c.lits small fits.within.lits; content = list_is_content vars c.lits small fits.within.lits })
constraint_is_line vars c false e small low fits =
    subst (λ (ws : List (List ℕ)). IsLine ws) (sym (klause_words c e))
    (record {
      plain = mark_is_plain vars c.bound c.guard (list_words c.lits) small low fits.within.guard (list_is_plain vars c.lits small fits.within.lits);
      content = mark_is_content c.guard c.bound (list_words c.lits);
    })

plain_lines : (format : Format) (vars : ℕ) (cs : List Bounded) → vars ≤ most_variables → AllByRecursion (MayStand format) cs → AllByRecursion (Fits vars) cs → AllByRecursion IsPlainLine (map constraint_words cs)
plain_lines format vars [] small may fits = tt
plain_lines format vars (c ∷ cs) small may fits =
    let line : IsLine (constraint_words c) = constraint_is_line vars c (is_clause c) refl small may.0.0 fits.0 in
    (line.plain, plain_lines format vars cs small may.1 fits.1)

content_lines : (format : Format) (vars : ℕ) (cs : List Bounded) → vars ≤ most_variables → AllByRecursion (MayStand format) cs → AllByRecursion (Fits vars) cs → AllByRecursion IsContent (map constraint_words cs)
content_lines format vars [] small may fits = tt
content_lines format vars (c ∷ cs) small may fits =
    let line : IsLine (constraint_words c) = constraint_is_line vars c (is_clause c) refl small may.0.0 fits.0 in
    (line.content, content_lines format vars cs small may.1 fits.1)

lines_written : (cs : List Bounded) → flat_map line_text (map constraint_words cs) ≡ flat_map constraint_line cs
lines_written [] = refl
lines_written (c ∷ cs) = ap (λ t. constraint_line c ++ t) (lines_written cs)

format_is_plain : (format : Format) → IsPlain (format_word format)
format_is_plain Cnf = (omega arith, ((refl, refl), ((refl, refl), ((refl, refl), tt))))
format_is_plain Knf = (omega arith, ((refl, refl), ((refl, refl), ((refl, refl), tt))))

problem_is_plain : (format : Format) (vars count : ℕ) → vars ≤ most_variables → count ≤ most_constraints → IsPlainLine (codes "p" ∷ format_word format ∷ decimal vars ∷ decimal count ∷ [])
problem_is_plain format vars count small few =
    (byte_is_plain 112 refl refl, (format_is_plain format, (decimal_is_plain vars (omega arith), (decimal_is_plain count (omega arith), tt))))

may_stand : (format : Format) (cs : List Bounded) → AllByRecursion (λ c. c.bound ≤ highest_bound) cs → (format ≡ Cnf → AllByRecursion (λ c. is_clause c ≡ true) cs) → AllByRecursion (MayStand format) cs
may_stand format [] bounds clauses = tt
may_stand format (c ∷ cs) bounds clauses = ((bounds.0, λ e. (clauses e).0), may_stand format cs bounds.1 (λ e. (clauses e).1))

content_written : (format : Format) (f : Problem) → IsFormula f → Suits format f → IsWithinLimits f
    → content_of (formula_text format f) ≡ record { number = 1; words = problem_words format f } ∷ numbered 2 (map constraint_words f.constraints)
content_written format f formula suits limits =
    let may : AllByRecursion (MayStand format) f.constraints = may_stand format f.constraints limits.bounds suits in
    ap (λ t. content_of (line_text (problem_words format f) ++ t)) (sym (lines_written f.constraints))
    ∙ content_of_lines (problem_words format f ∷ map constraint_words f.constraints)
    (problem_is_plain format f.vars (length f.constraints) limits.vars limits.count, plain_lines format f.vars f.constraints limits.vars may formula)
    (refl, content_lines format f.vars f.constraints limits.vars may formula)

-- the text that is written of a formula spells it
written_is_spelled : (format : Format) (f : Problem) (text : List ℕ) → text ≡ formula_text format f → IsFormula f → Suits format f → IsWithinLimits f → Spells text f
written_is_spelled format f text e formula suits limits =
    let may : AllByRecursion (MayStand format) f.constraints = may_stand format f.constraints limits.bounds suits in
    let problem : Line = record { number = 1; words = problem_words format f } in
    let body : List Line = numbered 2 (map constraint_words f.constraints) in (
      format,
      problem,
      body,
      [],
      record {
        parts = ap content_of e ∙ content_written format f formula suits limits ∙ ap (λ ls. problem ∷ ls) (sym (append-nil body));
        header = (refl, refl, number_of_decimal f.vars (omega (arith, limits.vars)), number_of_decimal (length f.constraints) (omega (arith, limits.count)));
        constraints = constraints_spelled format f.vars 2 f.constraints limits.vars may formula;
        ending = tt;
        vars = limits.vars;
        count = limits.count;
        formula = formula;
      },
    )

pub spelled_again : {T E : Type 0} (items : T → List ℕ) (format : Format) (f : Problem) (result : Result T E) → IfOk result (λ t. items t ≡ formula_text format f) → IsFormula f → Suits format f
    → IfOk result (λ t. IsWithinLimits f → Spells (items t) f)
spelled_again items format f (Ok t) text formula suits = λ limits. written_is_spelled format f (items t) text formula suits limits
spelled_again items format f (Err e) text formula suits = tt
