-- A verdict that is no klause.
use Rattle.std.proofs.Common.{◌≡◌, ℕ, refl}
use Rattle.kn_quant.specs.Eliminations.{Eliminated}
use Rattle.kn_verdict.specs.declared.answer.Verdict.{Verdict}
use Rattle.kn_verdict.specs.declared.answer.Verdict.TheVariants.{Klause, OutOfRange, NotCardinal, Wide}
use Rattle.kn_verdict.specs.Verdicts.{IsKlause}

pub no-klause : (bound : ℕ) (answer : Verdict) → ((b : ℕ) (e : Eliminated) → answer ≡ Klause b e → ⊥) → IsKlause bound answer → ⊥
no-klause bound (Klause b e) not h = not b e refl
no-klause bound (OutOfRange b) not h = h
no-klause bound (NotCardinal b values) not h = h
no-klause bound (Wide stage level) not h = h
