-- Two watched places of a clause.
use Rattle.std.proofs.Common.{◌≡◌, ◌≢◌, ℕ, zero, suc, ◌+◌, ◌≤◌, ◌<◌, ◌⊎◌, ◌++◌, max, min, Bool, true, false, ◌&&◌, ◌||◌, cond, eqb, List, [], ◌∷◌, Option, Some, None, length, refl, sym, ap, ◌∙◌, subst, inl, inr, arith}
use Rattle.std.specs.Prelude.{slice_get}
use Rattle.std.specs.Option.{is_none}
use Rattle.std.proofs.lemmas.Bool.{not_from_true, not_from_false, cases_eq, cases_lt, eq-eqb, ne_eqb, or_parts, or_cases, or_from, or_right, and_parts, and_from, eqb-false, eqb-true, cond-true, cond-false}
use Rattle.kn_logic.specs.Constraints.{Bounded, is_clause}
use Rattle.kn_logic.specs.Literals.{Literal, negated, has}
use Rattle.kn_logic.specs.Propagation.{is_open, open_places}
use Rattle.kn_watch.specs.declared.watched.Visit.TheVariants.{Satisfied}
use Rattle.kn_watch.specs.Trails.{value_in}
use Rattle.kn_watch.specs.Watches.{listed, unguarded, lit_at, count_watched, true_in, is_unset, HasWatches, IsBinding, IsSatisfied, IsForcing, IsConflicting, IsMoved, IsTurn}
use Rattle.kn_watch.proofs.Public.{long_none, lit_own, long_least}
use Rattle.kn_kinds.specs.Latest.{rank, AreLatest}
use Rattle.kn_kinds.specs.Kinds.{either_place, OnlyOpen, value_of, last_visit, ArePlaces}

one_here : (a b p : ℕ) (s t : Bool) → eqb p a ≡ s → eqb p b ≡ t → a ≢ b → cond (s || t) 1 0 ≡ cond s 1 0 + cond t 1 0
one_here a b p true true s t d = absurd (d (sym (eqb-true p a s) ∙ eqb-true p b t))
one_here a b p true false s t d = refl
one_here a b p false true s t d = refl
one_here a b p false false s t d = refl

split : (a b from n : ℕ) → a ≢ b → count_watched (either_place a b) from n ≡ count_watched (λ p. eqb p a) from n + count_watched (λ p. eqb p b) from n
split a b from zero d = refl
split a b from (suc n) d = omega (arith, one_here a b from (eqb from a) (eqb from b) refl refl d, split a b (from + 1) n d)

past : (x from n : ℕ) → x < from → count_watched (λ p. eqb p x) from n ≡ 0
past x from zero lt = refl
past x from (suc n) lt = let e = ne_eqb from x (λ (q : from ≡ x). omega (arith, q, lt)) in let z = cond-false {A = ℕ} (eqb from x) 1 0 e in omega (arith, z, past x (from + 1) n (omega (arith, lt)))

inside : (x from n : ℕ) → from ≤ x → x < from + n → count_watched (λ p. eqb p x) from n ≡ 1
inside x from zero le lt = absurd (omega (arith, le, lt))
inside x from (suc n) le lt = elim (cases_eq from x) [
  | inl e ↦ (let z = cond-true {A = ℕ} (eqb from x) 1 0 (eq-eqb from x e) in omega (arith, z, past x (from + 1) n (omega (arith, e))))
  | inr d ↦ (let z = cond-false {A = ℕ} (eqb from x) 1 0 (ne_eqb from x d) in omega (arith, z, inside x (from + 1) n (omega (arith, le, d)) (omega (arith, lt))))
]

outside : (x from n : ℕ) → from + n ≤ x → count_watched (λ p. eqb p x) from n ≡ 0
outside x from zero le = refl
outside x from (suc n) le = let z = cond-false {A = ℕ} (eqb from x) 1 0 (ne_eqb from x (λ (q : from ≡ x). omega (arith, q, le))) in omega (arith, z, outside x (from + 1) n (omega (arith, le)))

pub two_watched : (a b n : ℕ) → a ≢ b → a < max n 2 → b < max n 2 → count_watched (either_place a b) 0 n ≡ min 2 n
two_watched a b n d la lb = elim (cases_lt a n) [
  | inl p ↦ elim (cases_lt b n) [
    | inl q ↦ omega (arith, split a b 0 n d, inside a 0 n (omega arith) (omega (arith, p)), inside b 0 n (omega arith) (omega (arith, q)), d, p, q)
    | inr q ↦ omega (arith, split a b 0 n d, inside a 0 n (omega arith) (omega (arith, p)), outside b 0 n (omega (arith, q)), d, p, q, la, lb)
  ]
  | inr p ↦ elim (cases_lt b n) [
    | inl q ↦ omega (arith, split a b 0 n d, outside a 0 n (omega (arith, p)), inside b 0 n (omega arith) (omega (arith, q)), d, p, q, la, lb)
    | inr q ↦ omega (arith, split a b 0 n d, outside a 0 n (omega (arith, p)), outside b 0 n (omega (arith, q)), d, p, q, la, lb)
  ]
]

-- the number of literals that are not false
pub true_one : (trail lits : List Literal) (place : ℕ) → place < length lits → has trail (lit_at lits place) ≡ true → 1 ≤ true_in trail lits
true_one trail [] place lt h = absurd (omega (arith, lt))
true_one trail (l ∷ lits) zero lt h = let z = cond-true {A = ℕ} (has trail l) 1 0 h in omega (arith, z)
true_one trail (l ∷ lits) (suc place) lt h = omega (arith, true_one trail lits place (omega (arith, lt)) h)

pub open_none : (trail lits : List Literal) → ((place : ℕ) → place < length lits → is_open trail (lit_at lits place) ≡ false) → open_places trail lits ≡ 0
open_none trail [] h = refl
open_none trail (l ∷ lits) h = let z = cond-false {A = ℕ} (is_open trail l) 1 0 (h zero (omega arith)) in omega (arith, z, open_none trail lits (λ place lt. h (suc place) (omega (arith, lt))))

pub open_one : (trail lits : List Literal) (other : ℕ) → OnlyOpen trail lits other → other < length lits → is_open trail (lit_at lits other) ≡ true → open_places trail lits ≡ 1
open_one trail [] other h lt o = absurd (omega (arith, lt))
open_one trail (l ∷ lits) zero h lt o = let z = cond-true {A = ℕ} (is_open trail l) 1 0 o in omega (arith, z, open_none trail lits (λ place p. h (suc place) (omega (arith, p)) (λ q. omega (arith, q))))
open_one trail (l ∷ lits) (suc other) h lt o =
    let z = cond-false {A = ℕ} (is_open trail l) 1 0 (h zero (omega arith) (λ q. omega (arith, q))) in
    omega (arith, z, open_one trail lits other (λ place p d. h (suc place) (omega (arith, p)) (λ q. d (omega (arith, q)))) (omega (arith, lt)) o)

-- what a value says
value_step : (s t : Bool) (v : Bool) → cond s (Some true) (cond t (Some false) None) ≡ Some v → ((v ≡ true) × (s ≡ true)) ⊎ ((v ≡ false) × (s ≡ false) × (t ≡ true))
value_step true t true e = inl (refl, refl)
value_step true t false e = absurd cc
value_step false true true e = absurd cc
value_step false true false e = inr (refl, refl, refl)
value_step false false v e = absurd cc

none_step : (s t : Bool) → cond s (Some true) (cond t (Some false) None) ≡ None → (s ≡ false) × (t ≡ false)
none_step true t e = absurd cc
none_step false true e = absurd cc
none_step false false e = (refl, refl)

pub value_true : (trail : List Literal) (l : Literal) → value_in trail l ≡ Some true → has trail l ≡ true
value_true trail l e = elim (value_step (has trail l) (has trail (negated l)) true e) [ inl h ↦ h.1 | inr h ↦ (let x = h.0 in absurd cc) ]

pub value_false : (trail : List Literal) (l : Literal) → value_in trail l ≡ Some false → is_open trail l ≡ false
value_false trail l e = elim (value_step (has trail l) (has trail (negated l)) false e) [ inl h ↦ (let x = h.0 in absurd cc) | inr h ↦ not_from_true _ h.2 ]

pub value_none : (trail : List Literal) (l : Literal) → value_in trail l ≡ None → (is_unset trail l ≡ true) × (is_open trail l ≡ true)
value_none trail l e = let h = none_step (has trail l) (has trail (negated l)) e in (and_from _ _ (not_from_false _ h.1) (not_from_false _ h.0), not_from_false _ h.1)

clause_parts : (guard : Option Literal) (bound : ℕ) (lits : List Literal) (a b : ℕ) → (is_none guard && eqb bound 1) ≡ true → ArePlaces a b lits → count_watched (either_place a b) 0 (length (lits ++ unguarded guard)) ≡ min (bound + 1) (length (lits ++ unguarded guard))
clause_parts None bound lits a b c p =
    let one : bound ≡ 1 = eqb-true bound 1 c in
    let n = long_none lits in
    two_watched a b (length (lits ++ [])) p.0 (omega (arith, p.1, n)) (omega (arith, p.2, n)) ∙ omega (arith, one)
clause_parts (Some g) bound lits a b c p = absurd cc

-- A clause that watches two places has its watches.
pub clause_watches : (c : Bounded) (a b : ℕ) → is_clause c ≡ true → ArePlaces a b c.lits → HasWatches c (either_place a b)
clause_watches c a b is p = clause_parts c.guard c.bound c.lits a b is p

-- the literal at a place
read_at : (lits : List Literal) (place : ℕ) (l : Literal) → slice_get lits place ≡ Some l → (place < length lits) × (lit_at lits place ≡ l)
read_at [] place l e = absurd cc
read_at (x ∷ lits) zero l e = let same : x ≡ l = cc in (omega arith, same)
read_at (x ∷ lits) (suc place) l e = let r = read_at lits place l e in (omega (arith, r.0), r.1)

read_past : (lits : List Literal) (place : ℕ) → slice_get lits place ≡ None → length lits ≤ place
read_past [] place e = omega arith
read_past (x ∷ lits) zero e = absurd cc
read_past (x ∷ lits) (suc place) e = omega (arith, read_past lits place e)

one_of : (c : Bounded) → is_clause c ≡ true → c.bound ≡ 1
one_of c is = eqb-true c.bound 1 (and_parts (is_none c.guard) (eqb c.bound 1) is).1

no_guard : (trail : List Literal) (guard : Option Literal) → is_none guard ≡ true → IsBinding trail guard
no_guard trail None e = tt
no_guard trail (Some g) e = absurd cc

free : (trail : List Literal) (c : Bounded) → is_clause c ≡ true → IsBinding trail c.guard
free trail c is = no_guard trail c.guard (and_parts (is_none c.guard) (eqb c.bound 1) is).0

-- What the other watched literal of a clause tells, where each literal but that one is false.
pub clause_satisfied : (trail : List Literal) (c : Bounded) (other : ℕ) (lit : Option Literal) → is_clause c ≡ true → lit ≡ slice_get c.lits other → value_of trail lit ≡ Some true → IsSatisfied trail c
clause_satisfied trail c other None is e v = absurd cc
clause_satisfied trail c other (Some l) is e v =
    let r = read_at c.lits other l (sym e) in
    inl (omega (arith, one_of c is, true_one trail c.lits other r.0 (subst (λ (z : Literal). has trail z ≡ true) (sym r.1) (value_true trail l v))))

pub clause_forces : (trail : List Literal) (c : Bounded) (other : ℕ) (lit : Option Literal) → is_clause c ≡ true → OnlyOpen trail c.lits other → lit ≡ slice_get c.lits other → value_of trail lit ≡ None → IsForcing trail c
clause_forces trail c other None is h e v = absurd cc
clause_forces trail c other (Some l) is h e v =
    let r = read_at c.lits other l (sym e) in
    let u = value_none trail l v in
    let o = open_one trail c.lits other h r.0 (subst (λ (z : Literal). is_open trail z ≡ true) (sym r.1) u.1) in (
      other,
      omega (arith, r.0, long_least c.lits c.guard),
      (subst (λ (z : Literal). is_unset trail z ≡ true) (sym (lit_own c.lits (unguarded c.guard) other r.0 ∙ r.1)) u.0, inl (r.0, o ∙ sym (one_of c is), free trail c is)),
    )

pub clause_conflict : (trail : List Literal) (c : Bounded) (other : ℕ) (lit : Option Literal) → is_clause c ≡ true → OnlyOpen trail c.lits other → lit ≡ slice_get c.lits other → value_of trail lit ≡ Some false → IsConflicting trail c
clause_conflict trail c other None is h e v =
    let past = read_past c.lits other (sym e) in
    let o = open_none trail c.lits (λ place lt. h place lt (λ (q : place ≡ other). omega (arith, q, lt, past))) in
    (omega (arith, o, one_of c is), free trail c is)
clause_conflict trail c other (Some l) is h e v =
    let r = read_at c.lits other l (sym e) in
    let shut = value_false trail l v in
    let o = open_none trail c.lits (λ place lt. elim (cases_eq place other) [
      | inl q ↦ subst (λ (z : Literal). is_open trail z ≡ false) (sym (ap (lit_at c.lits) q ∙ r.1)) shut
      | inr d ↦ h place lt d
    ]) in
    (omega (arith, o, one_of c is), free trail c is)

satisfied_only : (value : Option Bool) → last_visit value ≡ Satisfied → value ≡ Some true
satisfied_only (Some true) e = refl
satisfied_only (Some false) e = absurd cc
satisfied_only None e = absurd cc

pub visit_satisfied : (trail : List Literal) (c : Bounded) (other : ℕ) (lit : Option Literal) → is_clause c ≡ true → lit ≡ slice_get c.lits other → last_visit (value_of trail lit) ≡ Satisfied → IsSatisfied trail c
visit_satisfied trail c other lit is e v = clause_satisfied trail c other lit is e (satisfied_only (value_of trail lit) v)

visit_by : (trail : List Literal) (c : Bounded) (watched : ℕ → Bool) (place other : ℕ) (lit : Option Literal) (value : Option Bool) → value_of trail lit ≡ value → is_clause c ≡ true → OnlyOpen trail c.lits other → lit ≡ slice_get c.lits other → IsTurn trail c watched watched place (last_visit value)
visit_by trail c watched place other lit (Some true) v is h e = (refl, clause_satisfied trail c other lit is e v)
visit_by trail c watched place other lit (Some false) v is h e = (refl, clause_conflict trail c other lit is h e v)
visit_by trail c watched place other lit None v is h e = (refl, clause_forces trail c other lit is h e v)

pub visit_last : (trail : List Literal) (c : Bounded) (watched : ℕ → Bool) (place other : ℕ) (lit : Option Literal) → is_clause c ≡ true → OnlyOpen trail c.lits other → lit ≡ slice_get c.lits other → IsTurn trail c watched watched place (last_visit (value_of trail lit))
visit_last trail c watched place other lit is h e = visit_by trail c watched place other lit (value_of trail lit) refl is h e

-- the watch at one place moved to another
pub clause_moved : (trail : List Literal) (c : Bounded) (first second place other to : ℕ) → is_clause c ≡ true → ((at : ℕ) → either_place first second at ≡ either_place place other at) → place ≢ other → to < length c.lits → to ≢ place → to ≢ other → is_open trail (lit_at c.lits to) ≡ true → IsMoved trail c (either_place first second) (either_place other to) place to
clause_moved trail c first second place other to is both d lt n m o = record {
  within = omega (arith, lt, long_least c.lits c.guard);
  released = or_from (eqb place other) (eqb place to) (ne_eqb place other d) (ne_eqb place to (λ e. n (sym e)));
  taken = or_right (eqb to other) (eqb to to) (eq-eqb to to refl);
  fresh = both to ∙ or_from (eqb to place) (eqb to other) (ne_eqb to place n) (ne_eqb to other m);
  open_ = subst (λ (z : Literal). is_open trail z ≡ true) (sym (lit_own c.lits (unguarded c.guard) to lt)) o;
  others = λ at p q. ap (λ (b : Bool). eqb at other || b) (ne_eqb at to q) ∙ swap (eqb at other) (eqb at place) (ne_eqb at place p) ∙ sym (both at);
}
  where
    swap : (a b : Bool) → b ≡ false → (a || false) ≡ (b || a)
    swap true b e = rw e refl
    swap false b e = rw e refl

pub moved_places : (place other to : ℕ) (lits : List Literal) → ArePlaces place other lits → to ≢ other → to < length lits → ArePlaces other to lits
moved_places place other to lits p n lt = (λ e. n (sym e), p.2, omega (arith, lt))

-- only the other literal may be open, where no third one is
pub only_open : (trail : List Literal) (c : Bounded) (place other : ℕ) → is_open trail (lit_at (listed c) place) ≡ false → place < length c.lits → ((at : ℕ) → at < length c.lits → at ≢ place → at ≢ other → is_open trail (lit_at c.lits at) ≡ false) → OnlyOpen trail c.lits other
only_open trail c place other o lt h = λ at al d. elim (cases_eq at place) [
  | inl e ↦ subst (λ (z : Literal). is_open trail z ≡ false) (lit_own c.lits (unguarded c.guard) place lt ∙ ap (lit_at c.lits) (sym e)) o
  | inr n ↦ h at al n d
]

-- a clause has no place but its own
pub own_place : (c : Bounded) (place : ℕ) → is_clause c ≡ true → place < length (listed c) → place < length c.lits
own_place c place is lt = own_parts c.lits c.guard place (and_parts (is_none c.guard) (eqb c.bound 1) is).0 lt
  where
    own_parts : (lits : List Literal) (guard : Option Literal) (place : ℕ) → is_none guard ≡ true → place < length (lits ++ unguarded guard) → place < length lits
    own_parts lits None place e lt = omega (arith, lt, long_none lits)
    own_parts lits (Some g) place e lt = absurd cc

pub listed_own : (c : Bounded) → is_clause c ≡ true → listed c ≡ c.lits
listed_own c is = listed_parts c.lits c.guard (and_parts (is_none c.guard) (eqb c.bound 1) is).0
  where
    append_nothing : (lits : List Literal) → lits ++ [] ≡ lits
    append_nothing [] = refl
    append_nothing (l ∷ lits) = ap (λ (x : List Literal). l ∷ x) (append_nothing lits)

    listed_parts : (lits : List Literal) (guard : Option Literal) → is_none guard ≡ true → lits ++ unguarded guard ≡ lits
    listed_parts lits None e = append_nothing lits
    listed_parts lits (Some g) e = absurd cc

-- the two latest places
pub two_are_latest : (trail lits : List Literal) (first second : ℕ) → ((q : ℕ) → q < length lits → q ≢ length lits → rank trail (lit_at lits q) ≤ rank trail (lit_at lits first)) → ((q : ℕ) → q < length lits → q ≢ first → rank trail (lit_at lits q) ≤ rank trail (lit_at lits second)) → AreLatest trail lits (either_place first second)
two_are_latest trail lits first second a b = λ p q pl ql wp wq.
    let n = or_parts (eqb q first) (eqb q second) wq in
    elim (or_cases (eqb p first) (eqb p second) wp) [
      | inl e ↦ subst (λ (k : ℕ). rank trail (lit_at lits q) ≤ rank trail (lit_at lits k)) (sym (eqb-true p first e)) (a q ql (λ (z : q ≡ length lits). omega (arith, z, ql)))
      | inr e ↦ subst (λ (k : ℕ). rank trail (lit_at lits q) ≤ rank trail (lit_at lits k)) (sym (eqb-true p second e)) (b q ql (eqb-false q first n.0))
    ]

-- a list of less than two places has no others than these
pub all_are_latest : (trail lits : List Literal) → length lits < 2 → AreLatest trail lits (either_place 0 1)
all_are_latest trail lits short = λ p q pl ql wp wq.
    let n = or_parts (eqb q 0) (eqb q 1) wq in
    absurd (eqb-false q 0 n.0 (omega (arith, short, ql)))
