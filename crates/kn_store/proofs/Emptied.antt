-- Slots, read by id.
use Rattle.std.proofs.Common.{◌≡◌, ℕ, suc, ◌+◌, ◌-◌, ◌≤◌, ◌<◌, ◌==◌, not, List, [], ◌∷◌, length, filter, Option, Some, None, refl, sym, ap, ◌∙◌, arith}
use Rattle.std.specs.Prelude.{zero, slice_index_or, slice_set, IfSome}
use Rattle.std.proofs.lemmas.List.{get_or_past}
use Rattle.std.proofs.lemmas.Bool.{cond-true, cond-false, eq-eqb, ne_eqb}
use Rattle.kn_logic.specs.Constraints.{Bounded}
use Rattle.kn_store.specs.Stores.{constraint_at}
use Rattle.kn_store.specs.Kept.{pairs_of}

pub low-none : (last : ℕ) (slots : List (Option Bounded)) (id : ℕ) → id ≤ last → constraint_at (pairs_of last slots) id ≡ None
low-none last [] id h = refl
low-none last (None ∷ slots) id h = low-none (last + 1) slots id (omega (arith, h))
low-none last (Some c ∷ slots) id h = cond-false ((last + 1) == id) (Some c) (constraint_at (pairs_of (last + 1) slots) id) (ne_eqb (last + 1) id (λ e. absurd (omega (arith, e, h)))) ∙ low-none (last + 1) slots id (omega (arith, h))

pub at-slot : (last : ℕ) (slots : List (Option Bounded)) (k id : ℕ) → last + 1 + k ≡ id → constraint_at (pairs_of last slots) id ≡ slice_index_or slots k None
at-slot last [] k id e = refl
at-slot last (None ∷ slots) zero id e = low-none (last + 1) slots id (omega (arith, e))
at-slot last (None ∷ slots) (suc k) id e = at-slot (last + 1) slots k id (omega (arith, e))
at-slot last (Some c ∷ slots) zero id e = cond-true ((last + 1) == id) (Some c) (constraint_at (pairs_of (last + 1) slots) id) (eq-eqb (last + 1) id (omega (arith, e)))
at-slot last (Some c ∷ slots) (suc k) id e =
    cond-false ((last + 1) == id) (Some c) (constraint_at (pairs_of (last + 1) slots) id) (ne_eqb (last + 1) id (λ s. absurd (omega (arith, e, s)))) ∙ at-slot (last + 1) slots k id (omega (arith, e))

-- a slot that is emptied is the pair of its id that goes
pub emptied : (last : ℕ) (slots : List (Option Bounded)) (id : ℕ) → id ≤ last → filter (λ p. not (p.id == id)) (pairs_of last slots) ≡ pairs_of last slots
emptied last [] id h = refl
emptied last (None ∷ slots) id h = emptied (last + 1) slots id (omega (arith, h))
emptied last (Some c ∷ slots) id h =
    cond-true (not ((last + 1) == id)) (record { id = last + 1; constraint = c } ∷ filter (λ p. not (p.id == id)) (pairs_of (last + 1) slots)) (filter (λ p. not (p.id == id)) (pairs_of (last + 1) slots)) (ap not (ne_eqb (last + 1) id (λ e. absurd (omega (arith, e, h)))))
    ∙ ap (λ z. record { id = last + 1; constraint = c } ∷ z) (emptied (last + 1) slots id (omega (arith, h)))

pub set-emptied : (last : ℕ) (slots : List (Option Bounded)) (k id : ℕ) → last + 1 + k ≡ id → pairs_of last (slice_set slots k None) ≡ filter (λ p. not (p.id == id)) (pairs_of last slots)
set-emptied last [] k id e = refl
set-emptied last (None ∷ slots) zero id e = sym (emptied (last + 1) slots id (omega (arith, e)))
set-emptied last (None ∷ slots) (suc k) id e = set-emptied (last + 1) slots k id (omega (arith, e))
set-emptied last (Some c ∷ slots) zero id e =
    sym (emptied (last + 1) slots id (omega (arith, e)))
    ∙ sym (cond-false (not ((last + 1) == id)) (record { id = last + 1; constraint = c } ∷ filter (λ p. not (p.id == id)) (pairs_of (last + 1) slots)) (filter (λ p. not (p.id == id)) (pairs_of (last + 1) slots)) (ap not (eq-eqb (last + 1) id (omega (arith, e)))))
set-emptied last (Some c ∷ slots) (suc k) id e =
    ap (λ z. record { id = last + 1; constraint = c } ∷ z) (set-emptied (last + 1) slots k id (omega (arith, e)))
    ∙ sym (cond-true (not ((last + 1) == id)) (record { id = last + 1; constraint = c } ∷ filter (λ p. not (p.id == id)) (pairs_of (last + 1) slots)) (filter (λ p. not (p.id == id)) (pairs_of (last + 1) slots)) (ap not (ne_eqb (last + 1) id (λ s. absurd (omega (arith, s, e))))))

-- and one pair less is left
pub fewer : (last : ℕ) (slots : List (Option Bounded)) (k : ℕ) → IfSome (slice_index_or slots k None) (λ c. length (pairs_of last (slice_set slots k None)) + 1 ≡ length (pairs_of last slots))
fewer last [] k = tt
fewer last (None ∷ slots) zero = tt
fewer last (None ∷ slots) (suc k) = fewer (last + 1) slots k
fewer last (Some c ∷ slots) zero = omega arith
fewer last (Some c ∷ slots) (suc k) = IfSome-weaker (slice_index_or slots k None) (fewer (last + 1) slots k)
  where
    IfSome-weaker : (o : Option Bounded) → IfSome o (λ c. length (pairs_of (last + 1) (slice_set slots k None)) + 1 ≡ length (pairs_of (last + 1) slots))
        → IfSome o (λ d. suc (length (pairs_of (last + 1) (slice_set slots k None))) + 1 ≡ suc (length (pairs_of (last + 1) slots)))
    IfSome-weaker None h = tt
    IfSome-weaker (Some d) h = omega (arith, h)

pub high-none : (slots : List (Option Bounded)) (id : ℕ) → length slots < id → constraint_at (pairs_of 0 slots) id ≡ None
high-none slots id h = at-slot 0 slots (id - 1) id (omega (arith, h)) ∙ get_or_past slots (id - 1) None (omega (arith, h))
