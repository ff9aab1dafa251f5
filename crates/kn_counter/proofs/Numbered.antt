-- Lists of literals of the variables from 1 to a number, which the tests make.
use Rattle.std.proofs.Common.{◌≡◌, ℕ, ◌+◌, ◌<◌, false, List, [], ◌∷◌, ◌++◌, refl, arith}
use Rattle.std.proofs.lemmas.Bool.{or_from, or_parts, ne_eqb}
use Rattle.kn_logic.specs.Literals.{Literal, IsKnown, AreKnown, names, AreDifferent}
use Rattle.kn_logic.specs.Constraints.{guarded_klause, Fits}
use Rattle.kn_counter.proofs.Adding.{known_weaker}

pub known-push : (n : ℕ) (lits : List Literal) (x : Literal) → AreKnown n lits → IsKnown (n + 1) x → AreKnown (n + 1) (lits ++ x ∷ [])
known-push n [] x h k = (k, tt)
known-push n (l ∷ lits) x h k = ((h.0.0, omega (arith, h.0.1)), known-push n lits x h.1 k)

-- a later variable
pub unnamed : (n : ℕ) (lits : List Literal) (variable : ℕ) → AreKnown n lits → n < variable → names lits variable ≡ false
unnamed n [] variable h lt = refl
unnamed n (l ∷ lits) variable h lt = or_from _ _ (ne_eqb l.variable variable (λ e. omega (arith, h.0.1, e))) (unnamed n lits variable h.1 lt)

names-push : (lits : List Literal) (x : Literal) (variable : ℕ) → names lits variable ≡ false → variable < x.variable → names (lits ++ x ∷ []) variable ≡ false
names-push [] x variable e lt = or_from _ _ (ne_eqb x.variable variable (λ s. omega (arith, s))) refl
names-push (l ∷ lits) x variable e lt = let parts = or_parts _ _ e in or_from _ _ parts.0 (names-push lits x variable parts.1 lt)

pub different-push : (n : ℕ) (lits : List Literal) (x : Literal) → AreKnown n lits → AreDifferent lits → n < x.variable → AreDifferent (lits ++ x ∷ [])
different-push n [] x h d lt = (refl, tt)
different-push n (l ∷ lits) x h d lt = (names-push lits x l.variable d.0 (omega (arith, h.0.1)), different-push n lits x h.1 d.1 lt)

-- a count of such literals under the variable behind them
pub guarded-fits : (n bound : ℕ) (lits : List Literal) (guard : Literal) → guard.variable ≡ n + 1 → AreKnown n lits → AreDifferent lits → Fits (n + 1) (guarded_klause guard bound lits)
guarded-fits n bound lits guard e h d = record {
  within = record { guard = (omega (arith, e), omega (arith, e)); lits = known_weaker n (n + 1) (omega arith) lits h };
  different = λ _. (unnamed n lits guard.variable h (omega (arith, e)), d);
}
