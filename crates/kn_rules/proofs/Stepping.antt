-- What a step gives and what it keeps.
use Rattle.std.proofs.Common.{◌≡◌, ℕ, zero, suc, ◌+◌, ◌-◌, ◌≤◌, ◌++◌, ◌&&◌, Bool, true, false, not, cond, eqb, ltb, List, [], ◌∷◌, length, length-append, Option, None, Some, Result, Ok, Err, refl, sym, ap, ◌∙◌, subst, arith}
use Rattle.std.specs.List.{slice_get}
use Rattle.std.specs.Option.{is_none, option_and_then}
use Rattle.std.proofs.lemmas.Bool.{cond-true, ltb-true, lt-ltb}
use Rattle.kn_logic.specs.Literals.{Literal}
use Rattle.kn_logic.specs.Constraints.{Bounded, klause}
use Rattle.kn_lines.specs.declared.line.Arm.{Arm}
use Rattle.kn_lines.specs.declared.line.Line.{Line}
use Rattle.kn_lines.specs.declared.line.Line.TheVariants.{Header, Define, Lemma, Learned, Klause, Unfold, Delete}
use Rattle.kn_rules.specs.declared.definition.Definition.{Definition}
use Rattle.kn_rules.specs.declared.given.Given.{Given}
use Rattle.kn_rules.specs.declared.given.Origin.{Origin}
use Rattle.kn_rules.specs.declared.given.Origin.TheVariants as origin
use Rattle.kn_rules.specs.Grids.{is_root}
use Rattle.kn_rules.specs.States.{ProofState, defined_among, definition_of, given_at, live_at}
use Rattle.kn_rules.specs.Causes.{wrong_unit, wrong_root}
use Rattle.kn_rules.specs.Steps.{hinted, with_clause, if_conflict, follow, with_given, with_one, is_known_variable, is_known_arm, with_definition, define, are_known, are_different, is_unit, unit_of, if_unit, count, if_klause, unfold_klause, deleted, step}
use Rattle.kn_rules.specs.Stepping.{StepsBy, is_definition, is_lemma, is_deletion, learned_in, deletions_in}
use Rattle.kn_rules.specs.Searching.{Allows, SearchesBy, HasNoLemma}

-- what a test leaves of a result
pub same_ok : (s t : ProofState) → ◌≡◌ {A = Result ProofState ℕ} (Ok s) (Ok t) → s ≡ t
same_ok s t e = cc

pub if-ok : (b : Bool) (r : Result ProofState ℕ) (cause : ℕ) (t : ProofState) → cond b r (Err cause) ≡ Ok t → r ≡ Ok t
if-ok true r cause t e = e
if-ok false r cause t e = absurd cc

unless-ok : (b : Bool) (r : Result ProofState ℕ) (cause : ℕ) (t : ProofState) → cond b (Err cause) r ≡ Ok t → r ≡ Ok t
unless-ok true r cause t e = absurd cc
unless-ok false r cause t e = e

-- a clause that follows is the last one given
conflict-gives : (s t : ProofState) (o : Origin) (lits : List Literal) (hints : Option (List Bounded)) → if_conflict s o lits hints ≡ Ok t → t ≡ with_clause s o lits
conflict-gives s t o lits None e = absurd cc
conflict-gives s t o lits (Some hints) e = sym (same_ok (with_clause s o lits) t (if-ok _ (Ok (with_clause s o lits)) 5 t e))

pub follow-gives : (s t : ProofState) (o : Origin) (lits : List Literal) (hints : List ℕ) → follow s o lits hints ≡ Ok t → t ≡ with_clause s o lits
follow-gives s t o lits hints e = conflict-gives s t o lits (hinted s.given hints) (if-ok _ (if_conflict s o lits (hinted s.given hints)) 3 t e)

pub define-gives : (s t : ProofState) (x : Literal) (high low : Arm) → define s x high low ≡ Ok t → t ≡ with_definition s x high low
define-gives s t x high low e = sym (same_ok (with_definition s x high low) t (if-ok (is_known_variable s.vars x.variable && (is_known_arm s.vars high && is_known_arm s.vars low)) (Ok (with_definition s x high low)) 3 t e))

unit-gives : (s t : ProofState) (bound : ℕ) (lits : List Literal) (root : ℕ) (unit : Option Bounded) → if_unit s bound lits root unit ≡ Ok t → t ≡ with_one s origin.Klause (klause bound lits)
unit-gives s t bound lits root None e = absurd cc
unit-gives s t bound lits root (Some unit) e =
    let last : Result ProofState ℕ = Ok (with_one s origin.Klause (klause bound lits)) in
    let third : Result ProofState ℕ = cond (not (is_unit unit root)) (Err wrong_unit) last in
    let second : Result ProofState ℕ = cond (not (is_root (definition_of s) lits bound root)) (Err wrong_root) third in
    sym (same_ok _ t (unless-ok (not (is_unit unit root)) last 6 t (unless-ok (not (is_root (definition_of s) lits bound root)) third 7 t (unless-ok (not (are_different lits)) second 8 t e))))

pub count-gives : (s t : ProofState) (bound : ℕ) (lits : List Literal) (root unit : ℕ) → count s bound lits root unit ≡ Ok t → t ≡ with_one s origin.Klause (klause bound lits)
count-gives s t bound lits root unit e = unit-gives s t bound lits root (live_at s.given unit) (if-ok (are_known s.vars lits && is_known_variable s.vars root) _ 3 t e)

klause-gives : (s t : ProofState) (root : ℕ) (c : Option Bounded) → if_klause s root c ≡ Ok t → t ≡ with_one s origin.Unfolding (unit_of root)
klause-gives s t root None e = absurd cc
klause-gives s t root (Some c) e =
    let last : Result ProofState ℕ = Ok (with_one s origin.Unfolding (unit_of root)) in
    let second : Result ProofState ℕ = cond (not (is_root (definition_of s) c.lits c.bound root)) (Err wrong_root) last in
    sym (same_ok _ t (unless-ok (not (is_root (definition_of s) c.lits c.bound root)) last 7 t (unless-ok (not (is_none c.guard && are_different c.lits)) second 8 t e)))

pub unfold-gives : (s t : ProofState) (id root : ℕ) → unfold_klause s id root ≡ Ok t → t ≡ with_one s origin.Unfolding (unit_of root)
unfold-gives s t id root e = klause-gives s t root (live_at s.given id) (if-ok (is_known_variable s.vars root) _ 3 t e)

pub with_given-ok : (s t : ProofState) (r : Result (List Given) ℕ) → with_given s r ≡ Ok t → r ≡ Ok t.given
with_given-ok s t (Err cause) e = absurd cc
with_given-ok s t (Ok given) e = ap (λ (x : ProofState). Ok x.given) (same_ok (record s { given = given }) t e)

given-gives : (s t : ProofState) (r : Result (List Given) ℕ) → with_given s r ≡ Ok t → t ≡ record s { given = t.given }
given-gives s t (Err cause) e = absurd cc
given-gives s t (Ok given) e =
    let is : record s { given = given } ≡ t = same_ok (record s { given = given }) t e in
    sym is ∙ ap (λ (x : ProofState). record s { given = x.given }) is

-- the variables and definitions are as they were
abbrev Keeps : ProofState → ProofState → Type 0
Keeps s t = (t.vars ≡ s.vars) × (t.definitions ≡ s.definitions)

keeps : (s t u : ProofState) → t ≡ u → Keeps s u → Keeps s t
keeps s t u e h = subst (Keeps s) (sym e) h

pub step-keeps : (s t : ProofState) (line : Line) → is_definition line ≡ false → step s line ≡ Ok t → (t.vars ≡ s.vars) × (t.definitions ≡ s.definitions)
step-keeps s t (Header vars constraints) other e = absurd cc
step-keeps s t (Define x high low) other e = absurd cc
step-keeps s t (Lemma c hints) other e = keeps s t _ (follow-gives s t origin.Lemma c.lits hints e) (refl, refl)
step-keeps s t (Learned c hints) other e = keeps s t _ (follow-gives s t origin.Learned c.lits hints e) (refl, refl)
step-keeps s t (Klause c root unit) other e = keeps s t _ (count-gives s t c.bound c.lits root unit e) (refl, refl)
step-keeps s t (Unfold id root) other e = keeps s t _ (unfold-gives s t id root e) (refl, refl)
step-keeps s t (Delete ids) other e = keeps s t _ (given-gives s t (deleted s.given ids) e) (refl, refl)

-- an element more
get-last : {X : Type 0} (xs : List X) (y : X) → slice_get (xs ++ y ∷ []) (length xs) ≡ Some y
get-last [] y = refl
get-last (x ∷ xs) y = get-last xs y

get-other : {X : Type 0} (xs : List X) (y : X) (k : ℕ) → (k ≡ length xs → ⊥) → slice_get (xs ++ y ∷ []) k ≡ slice_get xs k
get-other [] y zero h = absurd (h refl)
get-other [] y (suc k) h = refl
get-other (x ∷ xs) y zero h = refl
get-other (x ∷ xs) y (suc k) h = get-other xs y k (λ e. h (ap suc e))

among-last : (list : List Definition) (d : Definition) (base : ℕ) → defined_among (list ++ d ∷ []) base (base + length list + 1) ≡ Some d
among-last list d base =
    let place : (base + length list + 1) - base - 1 ≡ length list = omega arith in
    cond-true (ltb base (base + length list + 1)) _ None (lt-ltb base (base + length list + 1) (omega arith))
    ∙ ap (λ k. slice_get (list ++ d ∷ []) k) place
    ∙ get-last list d

among-at : (list : List Definition) (d : Definition) (base variable : ℕ) (b : Bool) → ltb base variable ≡ b → (variable ≡ base + length list + 1 → ⊥) → cond b (slice_get (list ++ d ∷ []) (variable - base - 1)) None ≡ cond b (slice_get list (variable - base - 1)) None
among-at list d base variable true e other =
    let above = ltb-true base variable e in
    get-other list d (variable - base - 1) (λ same. other (omega (arith, above, same)))
among-at list d base variable false e other = refl

-- behind a definition
base-keeps : (s : ProofState) (d : Definition) → length s.definitions ≤ s.vars → s.vars + 1 - length (s.definitions ++ d ∷ []) ≡ s.vars - length s.definitions
base-keeps s d h = let longer = length-append s.definitions (d ∷ []) in omega (arith, longer, h)

new-defined : (s : ProofState) (x : Literal) (high low : Arm) → length s.definitions ≤ s.vars → definition_of (with_definition s x high low) (s.vars + 1) ≡ Some (record { test = x; high = high; low = low })
new-defined s x high low h =
    let d : Definition = record { test = x; high = high; low = low } in
    let at : s.vars + 1 ≡ (s.vars - length s.definitions) + length s.definitions + 1 = omega (arith, h) in
    ap (λ base. defined_among (s.definitions ++ d ∷ []) base (s.vars + 1)) (base-keeps s d h)
    ∙ ap (λ variable. defined_among (s.definitions ++ d ∷ []) (s.vars - length s.definitions) variable) at
    ∙ among-last s.definitions d (s.vars - length s.definitions)

other-defined : (s : ProofState) (x : Literal) (high low : Arm) (variable : ℕ) → length s.definitions ≤ s.vars → (variable ≡ s.vars + 1 → ⊥) → definition_of (with_definition s x high low) variable ≡ definition_of s variable
other-defined s x high low variable h other =
    let d : Definition = record { test = x; high = high; low = low } in
    let base : ℕ = s.vars - length s.definitions in
    ap (λ base. defined_among (s.definitions ++ d ∷ []) base variable) (base-keeps s d h)
    ∙ among-at s.definitions d base variable (ltb base variable) refl (λ same. other (omega (arith, same, h)))

pub define-defines : (s t : ProofState) (x : Literal) (high low : Arm) → length s.definitions ≤ s.vars → step s (Define x high low) ≡ Ok t → definition_of t (s.vars + 1) ≡ Some (record { test = x; high = high; low = low })
define-defines s t x high low h e =
    subst (λ (u : ProofState). definition_of u (s.vars + 1) ≡ Some (record { test = x; high = high; low = low })) (sym (define-gives s t x high low e)) (new-defined s x high low h)

pub define-keeps : (s t : ProofState) (x : Literal) (high low : Arm) (variable : ℕ) → length s.definitions ≤ s.vars → step s (Define x high low) ≡ Ok t → (variable ≡ s.vars + 1 → ⊥) → definition_of t variable ≡ definition_of s variable
define-keeps s t x high low variable h e other =
    subst (λ (u : ProofState). definition_of u variable ≡ definition_of s variable) (sym (define-gives s t x high low e)) (other-defined s x high low variable h other)

still-within : (s t : ProofState) → Keeps s t → length s.definitions ≤ s.vars → length t.definitions ≤ t.vars
still-within s t (vars, list) h = let same = ap (λ (ds : List Definition). length ds) list in omega (arith, vars, same, h)

defined-within : (s t : ProofState) (x : Literal) (high low : Arm) → t ≡ with_definition s x high low → length s.definitions ≤ s.vars → length t.definitions ≤ t.vars
defined-within s t x high low is h =
    let longer = length-append s.definitions ((record { test = x; high = high; low = low }) ∷ []) in
    let vars : t.vars ≡ s.vars + 1 = ap (λ (u : ProofState). u.vars) is in
    let list : length t.definitions ≡ length (s.definitions ++ (record { test = x; high = high; low = low }) ∷ []) = ap (λ (u : ProofState). length u.definitions) is in
    omega (arith, vars, list, longer, h)

-- there are never more definitions than variables
pub step-within : (s t : ProofState) (line : Line) → length s.definitions ≤ s.vars → step s line ≡ Ok t → length t.definitions ≤ t.vars
step-within s t (Define x high low) h e = defined-within s t x high low (define-gives s t x high low e) h
step-within s t (Header vars constraints) h e = absurd cc
step-within s t (Lemma c hints) h e = still-within s t (step-keeps s t (Lemma c hints) refl e) h
step-within s t (Learned c hints) h e = still-within s t (step-keeps s t (Learned c hints) refl e) h
step-within s t (Klause c root unit) h e = still-within s t (step-keeps s t (Klause c root unit) refl e) h
step-within s t (Unfold id root) h e = still-within s t (step-keeps s t (Unfold id root) refl e) h
step-within s t (Delete ids) h e = still-within s t (step-keeps s t (Delete ids) refl e) h

-- lines behind lines
pub StepsBy-append : (a b : List Line) (old mid new : ProofState) → StepsBy old a mid → StepsBy mid b new → StepsBy old (a ++ b) new
StepsBy-append [] b old mid new first next = subst (λ (s : ProofState). StepsBy s b new) (sym first) next
StepsBy-append (line ∷ a) b old mid new first next = (first.0, first.1, StepsBy-append a b first.0 mid new first.2 next)

pub learned_in-append : (a b : List Line) → learned_in (a ++ b) ≡ learned_in a + learned_in b
learned_in-append [] b = omega arith
learned_in-append (line ∷ a) b = omega (arith, learned_in-append a b)

pub searches-step : (vars forget deletions : ℕ) (old new : ProofState) (lines : List Line) → SearchesBy vars forget deletions old lines new → StepsBy old lines new
searches-step vars forget deletions old new [] h = h
searches-step vars forget deletions old new (line ∷ lines) (next, steps, allows, last, more) = (next, steps, searches-step vars forget (deletions + cond (is_deletion line) 1 0) next new lines more)

pub searches-append : (vars forget deletions : ℕ) (old mid new : ProofState) (a b : List Line) → HasNoLemma a → SearchesBy vars forget deletions old a mid → SearchesBy vars forget (deletions + deletions_in a) mid b new → SearchesBy vars forget deletions old (a ++ b) new
searches-append vars forget deletions old mid new [] b none first next =
    subst (λ (s : ProofState). SearchesBy vars forget deletions s b new) (sym first)
    (subst (λ (n : ℕ). SearchesBy vars forget n mid b new) (omega arith) next)
searches-append vars forget deletions old mid new (line ∷ a) b none (s, steps, allows, last, more) next = (
  s,
  steps,
  allows,
  λ lemma. absurd (not_both (is_lemma line) lemma none.0),
  searches-append vars forget (deletions + cond (is_deletion line) 1 0) s mid new a b none.1 more
      (subst (λ (n : ℕ). SearchesBy vars forget n mid b new) (omega arith) next),
)
  where
    not_both : (b : Bool) → b ≡ true → b ≡ false → ⊥
    not_both true e f = cc
    not_both false e f = cc

pub searches-push : (vars forget deletions : ℕ) (old mid new : ProofState) (lines : List Line) (line : Line) → HasNoLemma lines → SearchesBy vars forget deletions old lines mid → step mid line ≡ Ok new → Allows vars forget (deletions + deletions_in lines) mid line → SearchesBy vars forget deletions old (lines ++ line ∷ []) new
searches-push vars forget deletions old mid new lines line none h steps allows =
    searches-append vars forget deletions old mid new lines (line ∷ []) none h (new, steps, allows, (λ _. refl), refl)

-- more is given
get-grows : (given more : List Given) (k : ℕ) (entry : Given) → slice_get given k ≡ Some entry → slice_get (given ++ more) k ≡ Some entry
get-grows [] more k entry e = absurd cc
get-grows (x ∷ given) more zero entry e = e
get-grows (x ∷ given) more (suc k) entry e = get-grows given more k entry e

at-grows : (b : Bool) (o p : Option Given) (entry : Given) → ((x : Given) → o ≡ Some x → p ≡ Some x) → cond b None o ≡ Some entry → cond b None p ≡ Some entry
at-grows true o p entry h e = absurd cc
at-grows false o p entry h e = h entry e

-- an id that was given stays so
pub given_at-grows : (given more : List Given) (id : ℕ) (entry : Given) → given_at given id ≡ Some entry → given_at (given ++ more) id ≡ Some entry
given_at-grows given more id entry e =
    at-grows (eqb id 0) (slice_get given (id - 1)) (slice_get (given ++ more) (id - 1)) entry (get-grows given more (id - 1)) e

live-in : (o p : Option Given) (c : Bounded) → ((entry : Given) → o ≡ Some entry → p ≡ Some entry) → option_and_then (λ entry. entry.live) o ≡ Some c → option_and_then (λ entry. entry.live) p ≡ Some c
live-in None p c h e = absurd cc
live-in (Some entry) p c h e = subst (λ (q : Option Given). option_and_then (λ entry. entry.live) q ≡ Some c) (sym (h entry refl)) e

-- a live id stays live
pub live_at-grows : (given more : List Given) (id : ℕ) (c : Bounded) → live_at given id ≡ Some c → live_at (given ++ more) id ≡ Some c
live_at-grows given more id c e = live-in (given_at given id) (given_at (given ++ more) id) c (given_at-grows given more id) e
