-- A klause with marks, with or without a guard: its first watches, and a visit.
use Rattle.std.proofs.Common.{◌≡◌, ℕ, ◌+◌, ◌<◌, ◌++◌, min, Bool, true, false, List, [], ◌∷◌, Option, None, length, take, drop, refl, sym, ap, ◌∙◌, subst, arith}
use Rattle.std.specs.Prelude.{slice_set}
use Rattle.std.proofs.lemmas.List.{take-append-le}
use Rattle.kn_logic.specs.Literals.{Literal}
use Rattle.kn_logic.specs.Constraints.{Bounded}
use Rattle.kn_logic.specs.Propagation.{is_open}
use Rattle.kn_watch.specs.declared.watched.Visit.{Visit}
use Rattle.kn_watch.specs.Trails.{Trailed, literals, IsTrail}
use Rattle.kn_watch.specs.Watches.{listed, unguarded, lit_at, count_watched, HasWatches, IsStart, IsTurn}
use Rattle.kn_kinds.specs.Latest.{AreLatest}
use Rattle.kn_kinds.specs.Kinds.{marked_place, AreFalseUnmarked, IsSurveyed}
use Rattle.kn_kinds.proofs.Marking.{mark_moved, few_open}
use Rattle.kn_kinds.proofs.Surveys.{start_means, turn_means}

take_all : (xs : List Bool) → take (length xs) xs ≡ xs
take_all [] = refl
take_all (x ∷ xs) = ap (λ (z : List Bool). x ∷ z) (take_all xs)

-- marks that were lent as a slice
written_back : (n : ℕ) (new old : List Bool) → n ≡ length new → take n (new ++ drop (length new) old) ≡ new
written_back n new old e = take-append-le n new (drop (length new) old) (omega (arith, e)) ∙ ap (λ (k : ℕ). take k new) e ∙ take_all new

append_none : (lits : List Literal) → lits ++ [] ≡ lits
append_none [] = refl
append_none (l ∷ lits) = ap (λ (x : List Literal). l ∷ x) (append_none lits)

pub listed_plain : (c : Bounded) → c.guard ≡ None → c.lits ≡ listed c
listed_plain c e = sym (ap (λ (g : Option Literal). c.lits ++ unguarded g) e ∙ append_none c.lits)

pub klause_starts : (t : Trailed) (c : Bounded) (lits : List Literal) (old new : List Bool) (n wanted bound : ℕ) (v : Visit) → IsTrail t → lits ≡ listed c → n ≡ length new → bound ≡ c.bound → wanted ≡ min (bound + 1) (length lits) → count_watched (marked_place new) 0 (length lits) ≡ wanted → AreLatest (literals t.made) lits (marked_place new) → IsSurveyed (literals t.made) c v → IsStart t.made c (marked_place (take n (new ++ drop (length new) old))) v
klause_starts t c lits old new n wanted bound v k e long b w counted latest s =
    let count = subst (λ (x : List Literal). count_watched (marked_place new) 0 (length x) ≡ min (bound + 1) (length x)) e (counted ∙ w) in
    let watches : HasWatches c (marked_place new) = omega (arith, count, b) in
    subst (λ (x : List Bool). IsStart t.made c (marked_place x) v) (sym (written_back n new old long))
    (start_means t c (marked_place new) v k watches (subst (λ (x : List Literal). AreLatest (literals t.made) x (marked_place new)) e latest) s)

pub klause_moves : (c : Bounded) (lits : List Literal) (marks : List Bool) (from to : ℕ) → lits ≡ listed c → length marks ≡ length lits → HasWatches c (marked_place marks) → from < length (listed c) → marked_place marks from ≡ true → to < length lits → marked_place marks to ≡ false → HasWatches c (marked_place (slice_set (slice_set marks from false) to true))
klause_moves c lits marks from to e long watches fl fw tl tw =
    let same = ap (λ (x : List Literal). length x) e in
    mark_moved marks from to (length (listed c)) (long ∙ same) fl (omega (arith, tl, same)) fw tw ∙ watches

pub klause_stays : (trail : List Literal) (c : Bounded) (lits : List Literal) (marks : List Bool) (place : ℕ) (v : Visit) → lits ≡ listed c → HasWatches c (marked_place marks) → AreFalseUnmarked trail lits marks → place < length (listed c) → marked_place marks place ≡ true → is_open trail (lit_at (listed c) place) ≡ false → IsSurveyed trail c v → IsTurn trail c (marked_place marks) (marked_place marks) place v
klause_stays trail c lits marks place v e watches shut lt w o s =
    turn_means trail c (marked_place marks) place v (few_open trail c lits marks place e watches shut lt w o) s
