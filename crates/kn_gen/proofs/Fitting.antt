-- The blocks are a formula: each klause names no variable twice, and all variables are in range.
use Rattle.std.proofs.Common.{◌≡◌, ℕ, zero, suc, ◌+◌, ◌-◌, ◌*◌, ◌≤◌, ◌<◌, false, eqb, map, refl, arith}
use Rattle.std.specs.List.{AllByRecursion}
use Rattle.kn_logic.proofs.Public.{All-append}
use Rattle.kn_logic.specs.Literals.{negated, names, AreDifferent, AreKnown}
use Rattle.kn_logic.specs.Constraints.{Fits}
use Rattle.kn_logic.specs.Formulas.{IsFormula}
use Rattle.kn_gen.specs.Blocks.{literals_from, block_klauses, blocks, link, links, block_formula}

names-below : (first count v : ℕ) → v < first → (names (literals_from first count) v ≡ false) × (names (map negated (literals_from first count)) v ≡ false)
names-below first zero v h = (refl, refl)
names-below first (suc count) v h =
    let rest = names-below (first + 1) count v (omega (arith, h)) in
    let other : eqb first v ≡ false = grind (arith, h) in
    (rw (other, rest.0) refl, rw (other, rest.1) refl)

different-from : (first count : ℕ) → AreDifferent (literals_from first count) × AreDifferent (map negated (literals_from first count))
different-from first zero = (tt, tt)
different-from first (suc count) =
    let rest = different-from (first + 1) count in
    let below = names-below (first + 1) count first (omega arith) in
    ((below.0, rest.0), (below.1, rest.1))

known-from : (vars first count : ℕ) → 1 ≤ first → first + count ≤ vars + 1 → AreKnown vars (literals_from first count) × AreKnown vars (map negated (literals_from first count))
known-from vars first zero a b = (tt, tt)
known-from vars first (suc count) a b =
    let rest = known-from vars (first + 1) count (omega arith) (omega (arith, b)) in
    (((a, omega (arith, b)), rest.0), ((a, omega (arith, b)), rest.1))

pub klauses-fit : (n t : ℕ) → 1 ≤ t → t ≤ n → AllByRecursion (Fits (8 * n)) (block_klauses n t)
klauses-fit n t a b =
    let known = known-from (8 * n) (8 * t - 7) 8 (omega (arith, a)) (omega (arith, a, b)) in
    let different = different-from (8 * t - 7) 8 in (
      record { within = record { guard = tt; lits = known.1 }; different = λ _. different.1 },
      (record { within = record { guard = tt; lits = known.0 }; different = λ _. different.0 }, tt),
    )

blocks-fit : (n t : ℕ) → t ≤ n → AllByRecursion (Fits (8 * n)) (blocks n t)
blocks-fit n zero h = tt
blocks-fit n (suc t) h = All-append (Fits (8 * n)) (blocks n t) (block_klauses n (suc t)) (blocks-fit n t (omega (arith, h))) (klauses-fit n (suc t) (omega arith) h)

pub link-fits : (n t : ℕ) → 1 ≤ t → t < n → Fits (8 * n) (link t)
link-fits n t a b = record { within = record { guard = tt; lits = ((omega (arith, a), omega (arith, a, b)), ((omega arith, omega (arith, b)), tt)) }; different = λ e. absurd cc }

links-fit : (n t : ℕ) → t < n → AllByRecursion (Fits (8 * n)) (links t)
links-fit n zero h = tt
links-fit n (suc t) h = All-append (Fits (8 * n)) (links t) _ (links-fit n t (omega (arith, h)))
    (link-fits n (suc t) (omega arith) (omega (arith, h)), tt)

pub blocks-are-formula : (n : ℕ) → 1 ≤ n → IsFormula (block_formula n)
blocks-are-formula n h = All-append (Fits (8 * n)) (blocks n n) (links (n - 1)) (blocks-fit n n (omega arith)) (links-fit n (n - 1) (omega (arith, h)))
