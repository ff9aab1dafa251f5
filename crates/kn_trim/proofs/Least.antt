-- The marked lines are a closed set, and the least one.
use Rattle.std.proofs.Common.{◌≡◌, ℕ, zero, suc, ◌+◌, ◌-◌, ◌≤◌, inl, inr, ◌&&◌, ◌||◌, Bool, true, false, not, List, [], ◌∷◌, ◌++◌, replicate, length, refl, sym, ap, ◌∙◌, subst, arith}
use Rattle.std.specs.List.{AllByRecursion, list_any}
use Rattle.std.proofs.lemmas.Bool.{cases_lt, or_from, or_parts}
use Rattle.kn_logic.specs.Formulas.{Problem}
use Rattle.kn_lines.specs.declared.line.Line.{Line}
use Rattle.kn_lines.specs.declared.line.Line.TheVariants.{Header, Define, Lemma, Learned, Klause, Unfold, Delete}
use Rattle.kn_rules.specs.Stepping.{is_deletion}
use Rattle.kn_trim.specs.Numbers.{mark_at, is_marked}
use Rattle.kn_trim.specs.Needed.{Kept, kept_by, marks_given, AreMarked, AreMet, HasEnd, AreWithin, AreNeeded, ids_given, variables_given, named_ids, named_variables, is_end}
use Rattle.kn_trim.specs.Marking.{is_any, Marked, Place, behind, is_needed, with_mark, marked, AreBefore, NameBefore, HasRoom}
use Rattle.kn_trim.proofs.NumberLemmas.{first-marked}
use Rattle.kn_trim.proofs.Growing.{HaveMark}
use Rattle.kn_trim.proofs.Whole.{IsAt, here, further, start-at}
use Rattle.kn_trim.proofs.MarkLemmas.{IsIn, with-keeps, with-length, with-marks, with-in, any-in, replicate-behind, or-any, or-first, variables-given, ids-given}

pub record AreIn (need kept : Kept) : Type 0 where
  pub variables : IsIn need.variables kept.variables
  pub ids : IsIn need.ids kept.ids

marked-in : (marks others : List Bool) → IsIn marks others → (numbers : List ℕ) → AreMarked marks numbers → AreMarked others numbers
marked-in marks others h [] k = tt
marked-in marks others h (n ∷ numbers) k = (one n k.0, marked-in marks others h numbers k.1)
  where
    one : (n : ℕ) → is_marked marks n ≡ true → is_marked others n ≡ true
    one zero e = absurd cc
    one (suc n) e = h n e

-- closed
pub with-need : (none : Kept) (p : Place) (lines : List Line) → (length (marked none p lines).need.variables ≡ length none.variables) × (length (marked none p lines).need.ids ≡ length none.ids)
with-need none p [] = (refl, refl)
with-need none p (line ∷ lines) = turn (is_needed p line (marked none (behind p line) lines).need) (with-need none (behind p line) lines)
  where
    turn : (m : Bool) → (length (marked none (behind p line) lines).need.variables ≡ length none.variables) × (length (marked none (behind p line) lines).need.ids ≡ length none.ids) → (length (with_mark m line (marked none (behind p line) lines)).need.variables ≡ length none.variables) × (length (with_mark m line (marked none (behind p line) lines)).need.ids ≡ length none.ids)
    turn true h = (with-length (named_variables line) (marked none (behind p line) lines).need.variables ∙ h.0, with-length (named_ids line) (marked none (behind p line) lines).need.ids ∙ h.1)
    turn false h = h

no-deletion : (p : Place) (line : Line) (need : Kept) → is_needed p line need ≡ true → is_deletion line ≡ false
no-deletion p (Header vars constraints) need e = refl
no-deletion p (Define x high low) need e = refl
no-deletion p (Lemma c hints) need e = refl
no-deletion p (Learned c hints) need e = refl
no-deletion p (Klause c root unit) need e = refl
no-deletion p (Unfold id root) need e = refl
no-deletion p (Delete ids) need e = absurd (never p.refuted e)
  where
    never : (b : Bool) → ((not b && false) || (false || false)) ≡ true → ⊥
    never true e = cc
    never false e = cc

pub met-all : (none final : Kept) (p : Place) (lines : List Line) → NameBefore p lines → HasRoom none p lines → AreIn (marked none p lines).need final → AreMet final lines (marked none p lines).own
met-all none final p [] k r h = tt
met-all none final p (line ∷ lines) k r h =
    turn (is_needed p line (marked none (behind p line) lines).need) refl h (λ inner. met-all none final (behind p line) lines k.1 r.1 inner)
  where
    rest : Marked
    rest = marked none (behind p line) lines

    len : (length (marked none (behind p line) lines).need.variables ≡ length none.variables) × (length (marked none (behind p line) lines).need.ids ≡ length none.ids)
    len = with-need none (behind p line) lines

    turn : (m : Bool) → is_needed p line (marked none (behind p line) lines).need ≡ m → AreIn (with_mark m line (marked none (behind p line) lines)).need final → (AreIn (marked none (behind p line) lines).need final → AreMet final lines (marked none (behind p line) lines).own) → AreMet final (line ∷ lines) (with_mark m line (marked none (behind p line) lines)).own
    turn true e inner go =
        let rest : Kept = (marked none (behind p line) lines).need in (
          (λ _. record {
            variables = marked-in _ final.variables inner.variables (named_variables line) (with-marks (named_variables line) rest.variables p.variables (omega (arith, len.0, r.0.0)) k.0.0);
            ids = marked-in _ final.ids inner.ids (named_ids line) (with-marks (named_ids line) rest.ids p.ids (omega (arith, len.1, r.0.1)) k.0.1);
            gives = no-deletion p line rest e;
          }),
          go (record {
            variables = λ place f. inner.variables place (with-keeps (named_variables line) rest.variables place f);
            ids = λ place f. inner.ids place (with-keeps (named_ids line) rest.ids place f);
          }),
        )
    turn false e inner go = ((λ f. absurd cc), go inner)

pub own-length : (none : Kept) (p : Place) (lines : List Line) → length (marked none p lines).own ≡ length lines
own-length none p [] = refl
own-length none p (line ∷ lines) = ap suc (own-length none (behind p line) lines)

end-first : (p : Place) (line : Line) (need : Kept) → p.refuted ≡ false → is_end line ≡ true → is_needed p line need ≡ true
end-first p line need e f = or-first (not p.refuted && is_end line) (is_any need.variables p.variables (variables_given line)) (is_any need.ids p.ids (ids_given line)) (rw (e, f) refl)

pub has-end : (none : Kept) (p : Place) (lines : List Line) → p.refuted ≡ false → list_any is_end lines ≡ true → HasEnd lines (marked none p lines).own
has-end none p [] e f = absurd cc
has-end none p (line ∷ lines) e f = (
  end-first p line (marked none (behind p line) lines).need e,
  λ g. has-end none (behind p line) lines (or_from p.refuted (is_end line) e g) (drop-first (is_end line) (list_any is_end lines) g f),
)
  where
    drop-first : (a b : Bool) → a ≡ false → (a || b) ≡ true → b ≡ true
    drop-first true b e f = absurd cc
    drop-first false b e f = f

-- least
positive : (count : ℕ) (numbers : List ℕ) → AreBefore count numbers → AllByRecursion (λ n. 1 ≤ n) numbers
positive count [] k = tt
positive count (n ∷ numbers) k = (k.0.0, positive count numbers k.1)

pub record IsLeastMade (kept : Kept) (made : Marked) (others : List Bool) : Type 0 where
  pub own : AreWithin made.own others
  pub need : AreIn made.need kept

abbrev pub IsLeastHere : Kept → Kept → Place → List Line → List Bool → Type 0
IsLeastHere none kept p lines others = IsLeastMade kept (marked none p lines) others

on-both : (a b : Bool) → (not a && b) ≡ true → (a ≡ false) × (b ≡ true)
on-both true b e = absurd cc
on-both false b e = (refl, e)

pub least-here : (none kept : Kept) (p : Place) (lines : List Line) (others : List Bool) → NameBefore p lines → AreIn none kept → length others ≡ length lines → AreMet kept lines others → (p.refuted ≡ false → HasEnd lines others) → IsAt kept.variables variables_given lines others p.variables → IsAt kept.ids ids_given lines others p.ids → IsLeastHere none kept p lines others
least-here none kept p [] others k h l met end v i = record { own = tt; need = h }
least-here none kept p (line ∷ lines) [] k h l met end v i = absurd (never (length lines) l)
  where
    never : (n : ℕ) → 0 ≡ suc n → ⊥
    never n e = omega (arith, e)
least-here none kept p (line ∷ lines) (o ∷ others) k h l met end v i =
    let v' : IsAt kept.variables variables_given lines others (p.variables + variables_given line) = further kept.variables variables_given line lines o others p.variables _ refl v in
    let i' : IsAt kept.ids ids_given lines others (p.ids + ids_given line) = further kept.ids ids_given line lines o others p.ids _ refl i in
    let len : length others ≡ length lines = omega (arith, l) in
    turn (is_needed p line (marked none (behind p line) lines).need) refl
    (here kept.variables variables_given line lines o others p.variables v) (here kept.ids ids_given line lines o others p.ids i)
    (least-here none kept (behind p line) lines others k.1 h len met.1 (λ e. let both = or_parts p.refuted (is_end line) e in (end both.0).1 both.1) v' i')
  where
    must : HaveMark kept.variables p.variables (variables_given line) o → HaveMark kept.ids p.ids (ids_given line) o → IsLeastHere none kept (behind p line) lines others → is_needed p line (marked none (behind p line) lines).need ≡ true → o ≡ true
    must hv hi rest e = elim (or-any _ _ _ e) [
      | inl a ↦ let both = on-both p.refuted (is_end line) a in (end both.0).0 both.1
      | inr b ↦ elim b [
        | inl c ↦ any-in _ kept.variables o p.variables (variables_given line) rest.need.variables hv c
        | inr c ↦ any-in _ kept.ids o p.ids (ids_given line) rest.need.ids hi c
      ]
    ]

    turn : (m : Bool) → is_needed p line (marked none (behind p line) lines).need ≡ m → HaveMark kept.variables p.variables (variables_given line) o → HaveMark kept.ids p.ids (ids_given line) o → IsLeastHere none kept (behind p line) lines others →
        IsLeastMade kept (with_mark m line (marked none (behind p line) lines)) (o ∷ others)
    turn true e hv hi rest =
        let on : o ≡ true = must hv hi rest e in
        let line-met = met.0 on in
        record {
          own = ((λ _. on), rest.own);
          need = record {
            variables = with-in (named_variables line) _ kept.variables (positive p.variables (named_variables line) k.0.0) line-met.variables rest.need.variables;
            ids = with-in (named_ids line) _ kept.ids (positive p.ids (named_ids line) k.0.1) line-met.ids rest.need.ids;
          };
        }
    turn false e hv hi rest = record { own = ((λ f. absurd cc), rest.own); need = rest.need }

-- The marked lines are the needed ones.
pub marked-needed : (f : Problem) (none : Kept) (lines : List Line) →
    ((at : ℕ) → mark_at none.variables at ≡ true → ⊥) → ((at : ℕ) → mark_at none.ids at ≡ true → ⊥) →
    NameBefore (record { variables = f.vars; ids = length f.constraints; refuted = false }) lines →
    HasRoom none (record { variables = f.vars; ids = length f.constraints; refuted = false }) lines →
    list_any is_end lines ≡ true →
    AreNeeded f lines (marked none (record { variables = f.vars; ids = length f.constraints; refuted = false }) lines).own
marked-needed f none lines ev ei k r e =
    let p : Place = record { variables = f.vars; ids = length f.constraints; refuted = false } in
    let own : List Bool = (marked none p lines).own in
    let inside : AreIn (marked none p lines).need (kept_by f lines own) = record {
      variables = first-in f.vars (marks_given variables_given lines own) (marked none p lines).need.variables (λ at g. variables-given none p lines k ev at g);
      ids = first-in (length f.constraints) (marks_given ids_given lines own) (marked none p lines).need.ids (λ at g. ids-given none p lines k ei at g);
    } in
    record {
      closed = record {
        length = own-length none p lines;
        met = met-all none (kept_by f lines own) p lines k r inside;
        end = has-end none p lines refl e;
      };
      least = λ others c. (least-here none (kept_by f lines others) p lines others k
          (record { variables = λ at g. absurd (ev at g); ids = λ at g. absurd (ei at g) })
          c.length c.met (λ _. c.end) (start-at f.vars variables_given lines others) (start-at (length f.constraints) ids_given lines others)).own;
    }
  where
    first-in : (count : ℕ) (given need : List Bool) → ((at : ℕ) → mark_at need (count + at) ≡ true → mark_at given at ≡ true) → IsIn need (replicate count true ++ given)
    first-in count given need h place e = elim (cases_lt place count) [
      | inl less ↦ first-marked count given place less
      | inr more ↦
          let split : count + (place - count) ≡ place = omega (arith, more) in
          subst (λ i. mark_at (replicate count true ++ given) i ≡ true) split (replicate-behind count true given (place - count) ∙ h (place - count) (subst (λ i. mark_at need i ≡ true) (sym split) e))
    ]
