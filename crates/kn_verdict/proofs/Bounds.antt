-- The bound of a count, and the verdicts that exclude one another.
use Rattle.std.proofs.Common.{◌≡◌, ℕ, ◌≤◌, ◌<◌, ◌⊎◌, inl, inr, Bool, List, length, arith}
use Rattle.std.proofs.lemmas.Bool.{cases_order}
use Rattle.kn_logic.specs.Groups.{Gathered, IsGroup}
use Rattle.kn_logic.specs.Literals.{places}
use Rattle.kn_diagram.specs.Diagrams.{is_true_by}
use Rattle.kn_quant.specs.Runs.{CanHold, IsFirstWide}
use Rattle.kn_verdict.specs.declared.answer.Verdict.{Verdict}
use Rattle.kn_verdict.specs.declared.answer.Verdict.TheVariants.{Klause, OutOfRange, NotCardinal, Wide}
use Rattle.kn_verdict.specs.Cardinals.{IsCardinal, CanStart, IsOnlyBound, DiffersAt, IsNarrow}
use Rattle.kn_verdict.specs.Verdicts.{IsInRange, IsVerdict, IsKlause, IsOutOfRange, IsNotCardinal, IsWideAnswer}
use Rattle.kn_verdict.proofs.Values.{first-exist, count-first}
use Rattle.kn_verdict.proofs.Borders.{border-different}

pub cardinal-only : (g : Gathered) (bound : ℕ) → IsGroup g → IsCardinal g bound → IsOnlyBound g bound
cardinal-only g bound group h = record { within = h.within; met = met; least = least }
  where
    met : bound ≤ length g.border → CanStart g bound
    met low =
        let (v, e) = first-exist g.border bound (border-different g group) low in
        (v, e, (h.counts v).1 (omega (arith, count-first v g.border bound e)))

    least : (first : ℕ) → first < bound → CanStart g first → ⊥
    least first less (v, e, can) = omega (arith, less, count-first v g.border first e, (h.counts v).0 can)

pub one-bound : (g : Gathered) (a b : ℕ) → IsOnlyBound g a → IsOnlyBound g b → a ≡ b
one-bound g a b h k = by (cases_order a b)
  where
    by : ((a ≡ b) ⊎ ((a < b) ⊎ (b < a))) → a ≡ b
    by (inl e) = e
    by (inr (inl less)) = absurd (k.least a less (h.met (omega (arith, less, k.within))))
    by (inr (inr less)) = absurd (h.least b less (k.met (omega (arith, less, h.within))))

one-cardinal : (g : Gathered) (a b : ℕ) → IsGroup g → IsCardinal g a → IsCardinal g b → a ≡ b
one-cardinal g a b group h k = one-bound g a b (cardinal-only g a group h) (cardinal-only g b group k)

-- where the only bound possible fails at some values, the group is cardinal with none
never-cardinal : (g : Gathered) (c bound : ℕ) (values : List Bool) → IsGroup g → IsOnlyBound g c → DiffersAt g c values → IsCardinal g bound → ⊥
never-cardinal g c bound values group only at h = by at.differs
  where
    same : bound ≡ c
    same = one-bound g bound c (cardinal-only g bound group h) only

    by : ((CanHold g at.all × (places (is_true_by at.all) g.border < c)) ⊎ ((CanHold g at.all → ⊥) × (c ≤ places (is_true_by at.all) g.border))) → ⊥
    by (inl (can, less)) = omega (arith, same, less, (h.counts at.all).0 can)
    by (inr (cannot, most)) = cannot ((h.counts at.all).1 (omega (arith, same, most)))

pub exact-wide : (g : Gathered) (answer : Verdict) (stage level : ℕ) → IsVerdict g answer → IsFirstWide g stage level → IsWideAnswer answer
exact-wide g (Klause bound e) stage level h w = h.0 stage level w
exact-wide g (OutOfRange bound) stage level h w = h.0 stage level w
exact-wide g (NotCardinal bound values) stage level h w = h.0 stage level w
exact-wide g (Wide s l) stage level h w = tt

pub exact-klause : (g : Gathered) (answer : Verdict) (bound : ℕ) → IsGroup g → IsVerdict g answer → IsNarrow g → IsCardinal g bound → IsInRange g bound → IsKlause bound answer
exact-klause g (Klause b e) bound group h narrow cardinal within = one-cardinal g b bound group h.1 cardinal
exact-klause g (OutOfRange b) bound group h narrow cardinal within = out h.2
  where
    same : b ≡ bound
    same = one-cardinal g b bound group h.1 cardinal

    out : ((b ≤ 1) ⊎ (length g.border ≤ b)) → ⊥
    out (inl low) = omega (arith, same, low, within)
    out (inr high) = omega (arith, same, high, within)
exact-klause g (NotCardinal c values) bound group h narrow cardinal within = never-cardinal g c bound values group h.1 h.2 cardinal
exact-klause g (Wide stage level) bound group h narrow cardinal within = narrow stage level h

pub exact-out : (g : Gathered) (answer : Verdict) (bound : ℕ) → IsGroup g → IsVerdict g answer → IsNarrow g → IsCardinal g bound → (bound ≤ 1) ⊎ (length g.border ≤ bound) → IsOutOfRange bound answer
exact-out g (Klause b e) bound group h narrow cardinal out = by out
  where
    same : b ≡ bound
    same = one-cardinal g b bound group h.1 cardinal

    by : ((bound ≤ 1) ⊎ (length g.border ≤ bound)) → ⊥
    by (inl low) = omega (arith, same, low, h.2)
    by (inr high) = omega (arith, same, high, h.2)
exact-out g (OutOfRange b) bound group h narrow cardinal out = one-cardinal g b bound group h.1 cardinal
exact-out g (NotCardinal c values) bound group h narrow cardinal out = never-cardinal g c bound values group h.1 h.2 cardinal
exact-out g (Wide stage level) bound group h narrow cardinal out = narrow stage level h

pub exact-not : (g : Gathered) (answer : Verdict) → IsVerdict g answer → IsNarrow g → ((bound : ℕ) → IsCardinal g bound → ⊥) → IsNotCardinal answer
exact-not g (Klause b e) h narrow none = none b h.1
exact-not g (OutOfRange b) h narrow none = none b h.1
exact-not g (NotCardinal c values) h narrow none = tt
exact-not g (Wide stage level) h narrow none = narrow stage level h

pub exact-unlike : (g : Gathered) (answer : Verdict) (bound : ℕ) → IsGroup g → IsVerdict g answer → IsNotCardinal answer → IsCardinal g bound → ⊥
exact-unlike g (Klause b e) bound group h answer cardinal = answer
exact-unlike g (OutOfRange b) bound group h answer cardinal = answer
exact-unlike g (NotCardinal c values) bound group h answer cardinal = never-cardinal g c bound values group h.1 h.2 cardinal
exact-unlike g (Wide stage level) bound group h answer cardinal = answer
