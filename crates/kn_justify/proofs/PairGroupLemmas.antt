-- The border of a pair group, from its last literal to its first.
use Rattle.std.proofs.Common.{◌≡◌, ℕ, zero, suc, ◌≤◌, ◌<◌, ◌+◌, ◌-◌, List, [], ◌∷◌, length, drop, get_or, None, Some, refl, sym, ap, ◌∙◌, subst, arith}
use Rattle.std.specs.List.{AllByRecursion, slice_get}
use Rattle.std.proofs.lemmas.Option.{slice_get_read}
use Rattle.kn_logic.specs.Literals.{Literal, IsKnown, AreKnown}
use Rattle.kn_lines.specs.declared.line.Arm.TheVariants as arm
use Rattle.kn_rules.specs.declared.given.Given.{Given}
use Rattle.kn_rules.specs.States.{ProofState}
use Rattle.kn_justify.specs.declared.counts.All.{All}
use Rattle.kn_justify.specs.Growth.{Grown}
use Rattle.kn_justify.specs.PairGroups.{IsPaired, ArePaired, IsAll, IsAllButOne}
use Rattle.kn_justify.proofs.PairCountLemmas.{paired-grows, none-all, one-but-one}

-- a literal at a place of the border
pub at-place : (lits : List Literal) (k : ℕ) (l : Literal) → k < length lits → l ≡ get_or lits k l → slice_get lits k ≡ Some l
at-place lits k l h e = slice_get_read lits (length lits) k l refl h e

pub before-it : (lits : List Literal) (k : ℕ) (l : Literal) → k < length lits → l ≡ get_or lits (k - 1) l → slice_get lits (k - 1) ≡ Some l
before-it lits k l h e = at-place lits (k - 1) l (omega (arith, h)) e

known-at : (vars : ℕ) (lits : List Literal) (k : ℕ) (l : Literal) → AreKnown vars lits → slice_get lits k ≡ Some l → IsKnown vars l
known-at vars [] k l h e = absurd cc
known-at vars (x ∷ lits) zero l h e = (let is : x ≡ l = cc in subst (IsKnown vars) is h.0)
known-at vars (x ∷ lits) (suc k) l h e = known-at vars lits k l h.1 e

pub known-grown : (old new : ProofState) (lits : List Literal) (k : ℕ) (l : Literal) → Grown old new → AreKnown old.vars lits → slice_get lits k ≡ Some l → IsKnown new.vars l
known-grown old new lits k l g h e = (let known = known-at old.vars lits k l h e in (known.0, omega (arith, known.1, g.vars)))

paired-at : (given : List Given) (pairs : List ((ℕ × ℕ) × ℕ)) (lits : List Literal) (k : ℕ) (l : Literal) → ArePaired given pairs lits → slice_get lits k ≡ Some l → AllByRecursion (IsPaired given pairs l) (drop (suc k) lits)
paired-at given pairs [] k l h e = absurd cc
paired-at given pairs (x ∷ lits) zero l h e = (let is : x ≡ l = cc in subst (λ (y : Literal). AllByRecursion (IsPaired given pairs y) lits) is h.0)
paired-at given pairs (x ∷ lits) (suc k) l h e = paired-at given pairs lits k l h.1 e

pub paired-grown : (old new : ProofState) (pairs : List ((ℕ × ℕ) × ℕ)) (lits behind : List Literal) (place : ℕ) (l : Literal) → Grown old new → 0 < place → ArePaired old.given pairs lits → slice_get lits (place - 1) ≡ Some l → behind ≡ drop place lits → AllByRecursion (IsPaired new.given pairs l) behind
paired-grown old new pairs lits behind place l g some h e is =
    let next : suc (place - 1) ≡ place = omega (arith, some) in
    subst (AllByRecursion (IsPaired new.given pairs l)) (sym is)
    (paired-grows old new pairs l (drop place lits) g (subst (λ (k : ℕ). AllByRecursion (IsPaired old.given pairs l) (drop k lits)) next (paired-at old.given pairs lits (place - 1) l h e)))

drop-at : (lits : List Literal) (k : ℕ) (l : Literal) → slice_get lits k ≡ Some l → drop k lits ≡ l ∷ drop (suc k) lits
drop-at [] k l e = absurd cc
drop-at (x ∷ lits) zero l e = (let is : x ≡ l = cc in ap (λ (y : Literal). y ∷ lits) is)
drop-at (x ∷ lits) (suc k) l e = drop-at lits k l e

-- the literals from a place on, and those behind it
pub from-place : (lits : List Literal) (k : ℕ) (l : Literal) → slice_get lits k ≡ Some l → drop k lits ≡ l ∷ drop (k + 1) lits
from-place lits k l e = (let next : k + 1 ≡ suc k = omega arith in drop-at lits k l e ∙ ap (λ (n : ℕ). l ∷ drop n lits) (sym next))

pub before-place : (lits behind : List Literal) (place : ℕ) (l : Literal) → 0 < place → slice_get lits (place - 1) ≡ Some l → behind ≡ drop place lits → drop (place - 1) lits ≡ l ∷ behind
before-place lits behind place l some e is =
    let next : suc (place - 1) ≡ place = omega (arith, some) in
    drop-at lits (place - 1) l e ∙ ap (λ (n : ℕ). l ∷ drop n lits) next ∙ ap (λ (xs : List Literal). l ∷ xs) (sym is)

-- before the first turn: no literal is behind the last one
drop-all : (lits : List Literal) → drop (length lits) lits ≡ []
drop-all [] = refl
drop-all (l ∷ lits) = drop-all lits

drop-last : (lits : List Literal) → 1 ≤ length lits → (l : Literal) × (drop (length lits - 1) lits ≡ l ∷ [])
drop-last [] h = absurd (omega (arith, h))
drop-last (l ∷ []) h = (l, refl)
drop-last (l ∷ k ∷ lits) h =
    let rest = drop-last (k ∷ lits) (omega arith) in
    let step : length (l ∷ k ∷ lits) - 1 ≡ suc (length (k ∷ lits) - 1) = omega arith in
    (rest.0, ap (λ (n : ℕ). drop n (l ∷ k ∷ lits)) step ∙ rest.1)

pub starts-all : (s : ProofState) (lits : List Literal) (all : All) → 2 ≤ length lits → all.arm ≡ arm.True → all.lifts.items ≡ [] → IsAll s (drop (length lits - 1 + 1) lits) all
starts-all s lits all two ea el =
    let whole : length lits - 1 + 1 ≡ length lits = omega (arith, two) in
    subst (λ (xs : List Literal). IsAll s xs all) (sym (ap (λ (n : ℕ). drop n lits) whole ∙ drop-all lits)) (none-all s all ea el)

pub starts-but-one : (s : ProofState) (lits : List Literal) → 2 ≤ length lits → IsAllButOne s (drop (length lits - 1) lits) None
starts-but-one s lits two =
    let last = drop-last lits (omega (arith, two)) in
    subst (λ (xs : List Literal). IsAllButOne s xs None) (sym last.1) (one-but-one s last.0)
