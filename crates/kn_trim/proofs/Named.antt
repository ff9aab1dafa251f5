-- A line that steps names only what was given before it.
use Rattle.std.proofs.Common.{◌≡◌, ℕ, zero, suc, ◌+◌, ◌≤◌, ◌||◌, Bool, true, false, cond, leb, List, [], ◌∷◌, replicate, length, Option, None, Some, Result, Ok, Err, refl, sym, ap, ◌∙◌, subst, arith}
use Rattle.std.specs.List.{list_any, slice_get}
use Rattle.std.specs.Option.{is_none}
use Rattle.std.proofs.lemmas.Option.{slice_get_within}
use Rattle.std.proofs.lemmas.Bool.{and_parts, leb-true}
use Rattle.std.proofs.lemmas.List.{length-map, length-replicate}
use Rattle.std.proofs.Math.Bool.{or_assoc}
use Rattle.kn_logic.specs.Literals.{Literal}
use Rattle.kn_logic.specs.Constraints.{Bounded}
use Rattle.kn_logic.specs.Formulas.{Problem}
use Rattle.kn_logic.proofs.Public.{All-append}
use Rattle.kn_text.specs.Lines.{Line as TextLine, content_of}
use Rattle.kn_lines.specs.declared.line.Arm.{Arm}
use Rattle.kn_lines.specs.declared.line.Arm.TheVariants as arm
use Rattle.kn_lines.specs.declared.line.Line.{Line}
use Rattle.kn_lines.specs.declared.line.Line.TheVariants.{Header, Define, Lemma, Learned, Klause, Unfold, Delete}
use Rattle.kn_lines.proofs.Public.{one_spelling}
use Rattle.kn_rules.specs.declared.given.Given.{Given}
use Rattle.kn_rules.specs.declared.given.Origin.TheVariants as origin
use Rattle.kn_rules.specs.States.{ProofState, start, from_file, given_at, live_at}
use Rattle.kn_rules.specs.Steps.{are_known, is_known_variable, is_known_arm, hinted, deleted, without, with_given, step}
use Rattle.kn_rules.specs.Proofs.{IsProof, StepsThrough, Runs}
use Rattle.kn_trim.specs.Numbers.{mark_at}
use Rattle.kn_trim.specs.Used.{lean, lean_lines}
use Rattle.kn_trim.specs.Needed.{Kept, kept_by, variables_of, arm_variables, named_variables, named_ids, ids_given, variables_given, is_end, AreWithin, AreNeeded, AreSpelled, AreBehindHeader, IsTrimmed, kept_lines, proof_text}
use Rattle.kn_trim.specs.Marking.{Place, behind, marked, AreBefore, NameBefore, HasRoom}
use Rattle.kn_trim.proofs.Follows.{live_in, given-at, hinted-parts}
use Rattle.kn_trim.proofs.Growing.{deleted-length}
use Rattle.kn_trim.proofs.Stepping.{follow-parts, count-parts}
use Rattle.kn_trim.proofs.Defining.{unfold-parts, define-parts}
use Rattle.kn_trim.proofs.Lines.{Grows, step-grows, or-false}
use Rattle.kn_trim.proofs.Whole.{Leans, lean-gives}
use Rattle.kn_trim.proofs.Least.{marked-needed}
use Rattle.kn_trim.proofs.Sound.{used-all, steps-lean}

-- variables
known-before : (vars v : ℕ) → is_known_variable vars v ≡ true → (1 ≤ v) × (v ≤ vars)
known-before vars v e = let parts = and_parts (leb 1 v) (leb v vars) e in (leb-true _ _ parts.0, leb-true _ _ parts.1)

lits-before : (vars : ℕ) (lits : List Literal) → are_known vars lits ≡ true → AreBefore vars (variables_of lits)
lits-before vars [] e = tt
lits-before vars (l ∷ lits) e = let parts = and_parts (is_known_variable vars l.variable) (are_known vars lits) e in (known-before vars l.variable parts.0, lits-before vars lits parts.1)

arm-before : (vars : ℕ) (a : Arm) → is_known_arm vars a ≡ true → AreBefore vars (arm_variables a)
arm-before vars arm.True e = tt
arm-before vars arm.False e = tt
arm-before vars (arm.Lit l) e = (known-before vars l.variable e, tt)

-- ids
live-before : (given : List Given) (id : ℕ) (c : Bounded) → live_at given id ≡ Some c → (1 ≤ id) × (id ≤ length given)
live-before given zero c e = absurd cc
live-before given (suc place) c e = split (slice_get given place) refl (ap live_in (sym (given-at given place)) ∙ e)
  where
    split : (o : Option Given) → slice_get given place ≡ o → live_in o ≡ Some c → (1 ≤ suc place) × (suc place ≤ length given)
    split None at f = absurd cc
    split (Some g) at f = let within = slice_get_within given place g at in (omega arith, omega (arith, within))

hints-before : (given : List Given) (ids : List ℕ) (cs : List Bounded) → hinted given ids ≡ Some cs → AreBefore (length given) ids
hints-before given [] cs e = tt
hints-before given (id ∷ ids) cs e =
    let parts = hinted-parts given id ids cs e in
    (live-before given id parts.0 parts.2, hints-before given ids parts.1 parts.3)

without-length : (given : List Given) (id : ℕ) → is_none (live_at given id) ≡ false → deleted given (id ∷ []) ≡ Ok (without given id (given_at given id))
without-length given id e = rw e refl

deleted-before : (ids : List ℕ) (given after : List Given) → deleted given ids ≡ Ok after → AreBefore (length given) ids
deleted-before [] given after e = tt
deleted-before (id ∷ ids) given after e = split (live_at given id) refl e (λ f. deleted-before ids (without given id (given_at given id)) after f)
  where
    split : (o : Option Bounded) → live_at given id ≡ o → cond (is_none o) (Err 4) (deleted (without given id (given_at given id)) ids) ≡ Ok after → (deleted (without given id (given_at given id)) ids ≡ Ok after → AreBefore (length (without given id (given_at given id))) ids) → AreBefore (length given) (id ∷ ids)
    split None at f rest = absurd cc
    split (Some c) at f rest =
        let len : length (without given id (given_at given id)) ≡ length given = deleted-length (id ∷ []) given _ (without-length given id (ap is_none at)) in
        (live-before given id c at, subst (λ n. AreBefore n ids) len (rest f))

-- lines
line-before : (s s' : ProofState) (line : Line) → step s line ≡ Ok s' → AreBefore s.vars (named_variables (lean s line)) × AreBefore (length s.given) (named_ids (lean s line))
line-before s s' (Header vars constraints) e = absurd cc
line-before s s' (Define x high low) e =
    let parts = define-parts s s' x high low e in
    ((known-before s.vars x.variable parts.0, All-append (λ n. (1 ≤ n) × (n ≤ s.vars)) (arm_variables high) (arm_variables low) (arm-before s.vars high parts.1) (arm-before s.vars low parts.2)), tt)
line-before s s' (Lemma c hints) e =
    let parts = follow-parts s s' origin.Lemma c.lits hints e in
    (lits-before s.vars c.lits parts.1, used-all (λ n. (1 ≤ n) × (n ≤ length s.given)) c.lits hints (hinted s.given hints) (hints-before s.given hints parts.0 parts.2))
line-before s s' (Learned c hints) e =
    let parts = follow-parts s s' origin.Learned c.lits hints e in
    (lits-before s.vars c.lits parts.1, used-all (λ n. (1 ≤ n) × (n ≤ length s.given)) c.lits hints (hinted s.given hints) (hints-before s.given hints parts.0 parts.2))
line-before s s' (Klause c root unit) e =
    let parts = count-parts s s' c.bound c.lits root unit e in
    ((known-before s.vars root parts.2, lits-before s.vars c.lits parts.1), (live-before s.given unit parts.0 parts.3, tt))
line-before s s' (Unfold id root) e =
    let parts = unfold-parts s s' id root e in
    ((known-before s.vars root parts.1, tt), (live-before s.given id parts.0 parts.2, tt))
line-before s s' (Delete ids) e = split (deleted s.given ids) refl e
  where
    split : (o : Result (List Given) ℕ) → deleted s.given ids ≡ o → with_given s o ≡ Ok s' → Unit {0} × AreBefore (length s.given) ids
    split (Err cause) at f = absurd cc
    split (Ok after) at f = (tt, deleted-before ids s.given after at)

-- what the lines of a run are, for the walk backwards
pub record AreReady (none : Kept) (p : Place) (leans : List Line) (s last : ProofState) : Type 0 where
  pub named : NameBefore p leans
  pub room : HasRoom none p leans
  pub refuted : last.refuted ≡ (s.refuted || list_any is_end leans)
  pub variables : s.vars ≤ last.vars
  pub ids : length s.given ≤ length last.given

pub leans-ready : (none : Kept) (lines leans : List Line) (s last : ProofState) (p : Place) → Leans s lines leans last → p.variables ≡ s.vars → p.ids ≡ length s.given → last.vars ≤ length none.variables → length last.given ≤ length none.ids → AreReady none p leans s last
leans-ready none [] [] s last p d v i a b = subst (AreReady none p [] s) d (record { named = tt; room = tt; refuted = or-false s.refuted; variables = omega arith; ids = omega arith })
leans-ready none [] (l ∷ leans) s last p d v i a b = absurd d
leans-ready none (line ∷ lines) [] s last p d v i a b = absurd d
leans-ready none (line ∷ lines) (l ∷ leans) s last p d v i a b =
    let grows : Grows s d.0 line = step-grows s d.0 line d.1 in
    let same = lean-gives s line in
    let ids : ids_given l ≡ ids_given line = ap ids_given d.2 ∙ same.0 in
    let variables : variables_given l ≡ variables_given line = ap variables_given d.2 ∙ same.1 in
    let ends : is_end l ≡ is_end line = ap is_end d.2 ∙ same.2 in
    let gv : d.0.vars ≡ s.vars + variables_given line = grows.variables in
    let gi : length d.0.given ≡ length s.given + ids_given line = grows.ids in
    let rest : AreReady none (behind p l) leans d.0 last = leans-ready none lines leans d.0 last (behind p l) d.3 (omega (arith, v, variables, gv)) (omega (arith, i, ids, gi)) a b in
    let before = line-before s d.0 line d.1 in
    let rv : d.0.vars ≤ last.vars = rest.variables in
    let ri : length d.0.given ≤ length last.given = rest.ids in
    record {
      named = (
        (
          subst (λ n. AreBefore n (named_variables l)) (sym v) (subst (λ (x : Line). AreBefore s.vars (named_variables x)) (sym d.2) before.0),
          subst (λ n. AreBefore n (named_ids l)) (sym i) (subst (λ (x : Line). AreBefore (length s.given) (named_ids x)) (sym d.2) before.1),
        ),
        rest.named,
      );
      room = ((omega (arith, v, gv, rv, a), omega (arith, i, gi, ri, b)), rest.room);
      refuted = rest.refuted ∙ ap (λ t. t || list_any is_end leans) grows.refuted ∙ or_assoc s.refuted (is_end line) (list_any is_end leans) ∙ ap (λ t. s.refuted || (t || list_any is_end leans)) (sym ends);
      variables = omega (arith, gv, rv);
      ids = omega (arith, gi, ri);
    }

-- Each proof has one trimmed text.
pub none-marked : (count at : ℕ) → mark_at (replicate count false) at ≡ true → ⊥
none-marked zero at e = cc
none-marked (suc count) zero e = cc
none-marked (suc count) (suc at) e = none-marked count at e

lines-of : (texts : List TextLine) (s last : ProofState) → Runs s texts last → (lines : List Line) × AreSpelled texts lines
lines-of [] s last r = ([], tt)
lines-of (text ∷ texts) s last r = let rest = lines-of texts r.0 last r.2 in (r.1.0 ∷ rest.0, (r.1.1, rest.1))

lines-behind : (f : Problem) (texts : List TextLine) (last : ProofState) → StepsThrough f texts last → (lines : List Line) × AreBehindHeader texts lines
lines-behind f [] last s = absurd s
lines-behind f (header ∷ texts) last s = lines-of texts (start f) last s.1

pub has-trimmed : (f : Problem) (bytes : List ℕ) → IsProof f bytes → (text : List ℕ) × IsTrimmed f bytes text
has-trimmed f bytes p =
    let last : ProofState = p.0 in
    let found = lines-behind f (content_of bytes) last p.1 in
    let lines : List Line = found.0 in
    let leans : List Line = lean_lines (start f) lines in
    let parts = steps-lean f (content_of bytes) lines last found.1 p.1 in
    let none : Kept = record { variables = replicate last.vars false; ids = replicate (length last.given) false } in
    let place : Place = record { variables = f.vars; ids = length f.constraints; refuted = false } in
    let lv : length (replicate last.vars false) ≡ last.vars = length-replicate last.vars false in
    let li : length (replicate (length last.given) false) ≡ length last.given = length-replicate (length last.given) false in
    let ready : AreReady none place leans (start f) last = leans-ready none lines leans (start f) last place parts.0 refl (sym (length-map f.constraints from_file)) (omega (arith, lv)) (omega (arith, li)) in (
      proof_text f (kept_lines (kept_by f leans (marked none place leans).own) leans (marked none place leans).own),
      record {
        lines = lines;
        marks = (marked none place leans).own;
        spelled = found.1;
        needed = marked-needed f none leans (none-marked last.vars) (none-marked (length last.given)) ready.named ready.room (sym ready.refuted ∙ p.2);
        written = refl;
      },
    )

same-lines : (texts : List TextLine) (a b : List Line) → AreSpelled texts a → AreSpelled texts b → a ≡ b
same-lines [] [] [] h k = refl
same-lines [] [] (y ∷ b) h k = absurd k
same-lines [] (x ∷ a) b h k = absurd h
same-lines (text ∷ texts) [] b h k = absurd h
same-lines (text ∷ texts) (x ∷ a) [] h k = absurd k
same-lines (text ∷ texts) (x ∷ a) (y ∷ b) h k =
    ap (λ (l : Line). l ∷ a) (one_spelling text.words x y h.0 k.0) ∙ ap (λ (ls : List Line). y ∷ ls) (same-lines texts a b h.1 k.1)

same-behind : (texts : List TextLine) (a b : List Line) → AreBehindHeader texts a → AreBehindHeader texts b → a ≡ b
same-behind [] a b h k = absurd h
same-behind (header ∷ texts) a b h k = same-lines texts a b h k

same-marks : (a b : List Bool) → length a ≡ length b → AreWithin a b → AreWithin b a → a ≡ b
same-marks [] [] l h k = refl
same-marks [] (y ∷ b) l h k = absurd (omega (arith, l))
same-marks (x ∷ a) [] l h k = absurd (omega (arith, l))
same-marks (x ∷ a) (y ∷ b) l h k =
    let rest : length a ≡ length b = omega (arith, l) in
    ap (λ m. m ∷ a) (both x y h.0 k.0) ∙ ap (λ (ms : List Bool). y ∷ ms) (same-marks a b rest h.1 k.1)
  where
    both : (s t : Bool) → (s ≡ true → t ≡ true) → (t ≡ true → s ≡ true) → s ≡ t
    both true t f g = sym (f refl)
    both false true f g = g refl
    both false false f g = refl

pub one-trimmed : (f : Problem) (bytes a b : List ℕ) → IsTrimmed f bytes a → IsTrimmed f bytes b → a ≡ b
one-trimmed f bytes a b h k =
    let lines : h.lines ≡ k.lines = same-behind (content_of bytes) h.lines k.lines h.spelled k.spelled in
    let needed : AreNeeded f (lean_lines (start f) k.lines) h.marks = subst (λ (ls : List Line). AreNeeded f (lean_lines (start f) ls) h.marks) lines h.needed in
    let marks : h.marks ≡ k.marks = same-marks h.marks k.marks (needed.closed.length ∙ sym k.needed.closed.length) (needed.least k.marks k.needed.closed) (k.needed.least h.marks needed.closed) in
    h.written
    ∙ ap (λ (ls : List Line). proof_text f (kept_lines (kept_by f (lean_lines (start f) ls) h.marks) (lean_lines (start f) ls) h.marks)) lines
    ∙ ap (λ (ms : List Bool). proof_text f (kept_lines (kept_by f (lean_lines (start f) k.lines) ms) (lean_lines (start f) k.lines) ms)) marks
    ∙ sym k.written
