-- How a table of pairs is made: what each row has after the clauses of one literal, and in the end.
use Rattle.std.proofs.Common.{◌≡◌, ℕ, suc, ◌+◌, ◌*◌, ◌-◌, ◌≤◌, ◌<◌, ◌==◌, Bool, true, false, not, cond, ◌&&◌, ◌||◌, List, [], ◌∷◌, ◌++◌, length, map, filter, take, drop, set, replicate, Option, Some, None, refl, sym, ap, ap₂, subst, ◌∙◌, inl, inr, arith, true≢false, append_assoc}
use Rattle.std.specs.Prelude.{◌⊎◌, zero, slice_get, IfSome}
use Rattle.std.specs.Option.{is_some}
use Rattle.std.specs.List.{list_any, AllByRecursion}
use Rattle.std.proofs.lemmas.Bool.{or_left, or_right, or_cases, and_parts, eqb-false, eq-eqb, ne_eqb, cond-true, cond-false, and_from, not-true}
use Rattle.std.proofs.Math.Bool.{beq}
use Rattle.std.proofs.lemmas.List.{length-set, get_or-set_same, get_or-set_other, get_or-replicate, length-replicate, append-nil, drop_all, take_all}
use Rattle.kn_logic.specs.Literals.{Literal, is_same, has, names, IsKnown, AreKnown}
use Rattle.kn_logic.specs.Constraints.{Bounded, is_clause, named, Fits}
use Rattle.kn_logic.specs.Groups.{is_pair, is_binary, is_pair_of, has_pair}
use Rattle.kn_logic.proofs.Public.{same_literal, same-refl, has-push, All-push, All-has, has-filtered, has-names}
use Rattle.kn_store.specs.Stores.{Numbered, Stored, IsStored, constraints_of, ids_of, naming, constraint_at}
use Rattle.kn_store.proofs.Public.{all-one, all-two, all-filter, from-map, to-map, IsOwn, Rises, increasing}
use Rattle.kn_guess.specs.Tables.{Paired, PairTable, rank, row, lits_of, ranks, is_partner, is_left, IsPaired, IsPairTable}
use Rattle.kn_guess.specs.Pairing.{ends, with_entry, other, other_of, entered, found_entered, all_entered}
use Rattle.kn_guess.proofs.Elements.{bool-same, any-map, any-filter, any-alike}
use Rattle.kn_guess.proofs.Lives.{IsLive, all-live, clause-named}
use Rattle.kn_guess.proofs.Joined.{filter-all, cands, of-variable, cands-more, cands-known, rank-within}

-- the last entry
pub ends-at : (l : Literal) (ps : List Paired) (p : Paired) → slice_get ps (length ps - 1) ≡ Some p → ends l ps ≡ is_same p.lit l
ends-at l [] p e = absurd cc
ends-at l (q ∷ []) p e = ap (λ z. is_same z.lit l) (some-one e)
  where
    some-one : Some q ≡ Some p → q ≡ p
    some-one e = cc e
ends-at l (q ∷ r ∷ ps) p e = ends-at l (r ∷ ps) p (sym (ap (slice_get (q ∷ r ∷ ps)) (let n : length (q ∷ r ∷ ps) - 1 ≡ suc (length (r ∷ ps) - 1) = omega arith in n)) ∙ e)

-- the two tests of one literal are one
pub same-eq : (a b : Literal) → ((a.variable == b.variable) && beq a.positive b.positive) ≡ is_same a b
same-eq a b = ap (λ t. (a.variable == b.variable) && t) (at a.positive b.positive)
  where
    at : (p q : Bool) → beq p q ≡ cond p q (not q)
    at true true = refl
    at true false = refl
    at false true = refl
    at false false = refl

-- ranks tell literals apart
pub rank-one : (a b : Literal) → rank a ≡ rank b → a ≡ b
rank-one a b e = at a.variable b.variable a.positive b.positive e
  where
    at : (v w : ℕ) (p q : Bool) → 2 * v + cond p 0 1 ≡ 2 * w + cond q 0 1 → of-variable v p ≡ of-variable w q
    at v w true true e = ap (λ z. of-variable z true) (let s : v ≡ w = omega (arith, e) in s)
    at v w true false e = absurd (omega (arith, e))
    at v w false true e = absurd (omega (arith, e))
    at v w false false e = ap (λ z. of-variable z false) (let s : v ≡ w = omega (arith, e) in s)

-- the other literal of a binary clause
pub either : (a b l : Literal) → has (a ∷ b ∷ []) l ≡ true → (l ≡ a) ⊎ (l ≡ b)
either a b l e = at (or_cases (is_same l a) (has (b ∷ []) l) e)
  where
    last : (is_same l b ≡ true) ⊎ (false ≡ true) → l ≡ b
    last (inl s) = same_literal l b s
    last (inr s) = absurd (true≢false (sym s))

    at : (is_same l a ≡ true) ⊎ (has (b ∷ []) l ≡ true) → (l ≡ a) ⊎ (l ≡ b)
    at (inl s) = inl (same_literal l a s)
    at (inr s) = inr (last (or_cases (is_same l b) false s))

differ-same : (a b : Literal) → (a.variable == b.variable) ≡ false → is_same a b ≡ false
differ-same a b e = ap (λ t. t && cond a.positive b.positive (not b.positive)) e

other-first : (a b l : Literal) → is_same a l ≡ true → other l (a ∷ b ∷ []) ≡ Some b
other-first a b l e = cond-true (is_same a l) (Some b) (cond (is_same b l) (Some a) None) e

other-second : (a b l : Literal) → is_same a l ≡ false → is_same b l ≡ true → other l (a ∷ b ∷ []) ≡ Some a
other-second a b l e f = cond-false (is_same a l) (Some b) (cond (is_same b l) (Some a) None) e ∙ cond-true (is_same b l) (Some a) None f

pub no-self : (l m : Literal) → l ≡ m → (l.variable == m.variable) ≡ false → ⊥
no-self l m e d = true≢false (sym (eq-eqb l.variable m.variable (ap (λ z. z.variable) e)) ∙ d)

other-lits : (lits : List Literal) (l m : Literal) → is_pair lits ≡ true → has lits l ≡ true → has lits m ≡ true → (l.variable == m.variable) ≡ false → other l lits ≡ Some m
other-lits [] l m p i j d = absurd (true≢false (sym p))
other-lits (a ∷ []) l m p i j d = absurd (true≢false (sym p))
other-lits (a ∷ b ∷ []) l m p i j d = at (either a b l i) (either a b m j)
  where
    at : (l ≡ a) ⊎ (l ≡ b) → (m ≡ a) ⊎ (m ≡ b) → other l (a ∷ b ∷ []) ≡ Some m
    at (inl e) (inl f) = absurd (no-self l m (e ∙ sym f) d)
    at (inl e) (inr f) = other-first a b l (ap (is_same a) e ∙ same-refl a) ∙ ap (λ z. Some z) (sym f)
    at (inr e) (inl f) =
        other-second a b l (ap (is_same a) e ∙ differ-same a b (not-true (a.variable == b.variable) p)) (ap (is_same b) e ∙ same-refl b) ∙ ap (λ z. Some z) (sym f)
    at (inr e) (inr f) = absurd (no-self l m (e ∙ sym f) d)
other-lits (a ∷ b ∷ k ∷ more) l m p i j d = absurd (true≢false (sym p))

abbrev some-or : Literal → Option Literal → Literal
some-or d None = d
some-or d (Some x) = x

lits-other : (lits : List Literal) (l m : Literal) → is_pair lits ≡ true → other l lits ≡ Some m → (has lits l ≡ true) × (has lits m ≡ true) × ((l.variable == m.variable) ≡ false)
lits-other [] l m p e = absurd (true≢false (sym p))
lits-other (a ∷ []) l m p e = absurd (true≢false (sym p))
lits-other (a ∷ b ∷ []) l m p e = at (is_same a l) refl (is_same b l) refl e
  where
    apart : (a.variable == b.variable) ≡ false
    apart = not-true (a.variable == b.variable) p

    turned : (b.variable == a.variable) ≡ false
    turned = ne_eqb b.variable a.variable (λ s. eqb-false a.variable b.variable apart (sym s))

    has-a : has (a ∷ b ∷ []) a ≡ true
    has-a = or_left (is_same a a) (has (b ∷ []) a) (same-refl a)

    has-b : has (a ∷ b ∷ []) b ≡ true
    has-b = or_right (is_same b a) (has (b ∷ []) b) (or_left (is_same b b) false (same-refl b))

    at : (s : Bool) → is_same a l ≡ s → (t : Bool) → is_same b l ≡ t → cond s (Some b) (cond t (Some a) None) ≡ Some m → (has (a ∷ b ∷ []) l ≡ true) × (has (a ∷ b ∷ []) m ≡ true) × ((l.variable == m.variable) ≡ false)
    at true f t g e =
        let same = same_literal a l f in
        let there : b ≡ m = ap (some-or b) e in
        (ap (has (a ∷ b ∷ [])) (sym same) ∙ has-a, ap (has (a ∷ b ∷ [])) (sym there) ∙ has-b, ap₂ (λ u v. u == v) (ap (λ z. z.variable) (sym same)) (ap (λ z. z.variable) (sym there)) ∙ apart)
    at false f true g e =
        let same = same_literal b l g in
        let there : a ≡ m = ap (some-or a) e in
        (ap (has (a ∷ b ∷ [])) (sym same) ∙ has-b, ap (has (a ∷ b ∷ [])) (sym there) ∙ has-a, ap₂ (λ u v. u == v) (ap (λ z. z.variable) (sym same)) (ap (λ z. z.variable) (sym there)) ∙ turned)
    at false f false g e = absurd cc
lits-other (a ∷ b ∷ k ∷ more) l m p e = absurd (true≢false (sym p))

pub other-from : (c : Bounded) (l m : Literal) → is_pair_of l m c ≡ true → (l.variable == m.variable) ≡ false → other_of l c ≡ Some m
other-from c l m e d =
    let p = and_parts (is_binary c) (has c.lits l && has c.lits m) e in
    let q = and_parts (has c.lits l) (has c.lits m) p.1 in
    cond-true (is_binary c) (other l c.lits) None p.0 ∙ other-lits c.lits l m (and_parts (is_clause c) (is_pair c.lits) p.0).1 q.0 q.1 d

pub from-other : (c : Bounded) (l m : Literal) → other_of l c ≡ Some m → (is_pair_of l m c ≡ true) × ((l.variable == m.variable) ≡ false)
from-other c l m e = at (is_binary c) refl e
  where
    at : (t : Bool) → is_binary c ≡ t → cond t (other l c.lits) None ≡ Some m → (is_pair_of l m c ≡ true) × ((l.variable == m.variable) ≡ false)
    at true b e =
        let q = lits-other c.lits l m (and_parts (is_clause c) (is_pair c.lits) b).1 e in
        (and_from (is_binary c) (has c.lits l && has c.lits m) b (and_from (has c.lits l) (has c.lits m) q.0 q.1), q.2)
    at false b e = absurd cc

-- what it has is known
pub other-known : (s : Stored) (c : Bounded) (l : Literal) → AreKnown s.vars c.lits → IfSome (other_of l c) (IsKnown s.vars)
other-known s c l known = at (other_of l c) refl
  where
    at : (o : Option Literal) → other_of l c ≡ o → IfSome o (IsKnown s.vars)
    at None e = tt
    at (Some m) e =
        let p = and_parts (is_binary c) (has c.lits l && has c.lits m) (from-other c l m e).0 in
        All-has (IsKnown s.vars) c.lits m known (and_parts (has c.lits l) (has c.lits m) p.1).1

-- one row after one clause
row-other : (table : PairTable) (new : List Paired) (o m : Literal) → (o ≡ m → ⊥) → row (set table (rank o) new) m ≡ row table m
row-other table new o m differ = get_or-set_other table (rank o) (rank m) new [] (λ e. differ (rank-one o m (sym e)))

row-same : (table : PairTable) (new : List Paired) (m : Literal) → rank m < length table → row (set table (rank m) new) m ≡ new
row-same table new m low = get_or-set_same table (rank m) new [] low

step-row : (table : PairTable) (l m : Literal) (id : ℕ) (c : Bounded) → rank m < length table → (l.variable == m.variable) ≡ false
    → row (entered l id table (other_of l c)) m ≡ cond (is_pair_of l m c) (with_entry l id (row table m)) (row table m)
step-row table l m id c low d = at (is_pair_of l m c) refl
  where
    unlike : (o : Option Literal) → other_of l c ≡ o → is_pair_of l m c ≡ false → row (entered l id table o) m ≡ row table m
    unlike None e f = refl
    unlike (Some o) e f = row-other table (with_entry l id (row table o)) o m (λ s. true≢false (sym (from-other c l m (e ∙ ap (λ z. Some z) s)).0 ∙ f))

    at : (t : Bool) → is_pair_of l m c ≡ t → row (entered l id table (other_of l c)) m ≡ cond t (with_entry l id (row table m)) (row table m)
    at true f = ap (λ o. row (entered l id table o) m) (other-from c l m f d) ∙ row-same table (with_entry l id (row table m)) m low
    at false f = unlike (other_of l c) refl f

step-own : (table : PairTable) (l m : Literal) (id : ℕ) (c : Bounded) → (l.variable == m.variable) ≡ true → row (entered l id table (other_of l c)) m ≡ row table m
step-own table l m id c d = at (other_of l c) refl
  where
    at : (o : Option Literal) → other_of l c ≡ o → row (entered l id table o) m ≡ row table m
    at None e = refl
    at (Some o) e = row-other table (with_entry l id (row table o)) o m (λ s. true≢false (sym d ∙ ap (λ z. l.variable == z.variable) (sym s) ∙ (from-other c l o e).1))

pub entered-long : (table : PairTable) (l : Literal) (id : ℕ) (o : Option Literal) → length (entered l id table o) ≡ length table
entered-long table l id None = refl
entered-long table l id (Some m) = length-set table (rank m) (with_entry l id (row table m))

pub found-long : (table : PairTable) (l : Literal) (id : ℕ) (c : Option Bounded) → length (found_entered l id table c) ≡ length table
found-long table l id None = refl
found-long table l id (Some c) = entered-long table l id (other_of l c)

pub all-long : (live : List Numbered) (l : Literal) (ids : List ℕ) (table : PairTable) → length (all_entered live l table ids) ≡ length table
all-long live l [] table = refl
all-long live l (id ∷ ids) table = all-long live l ids (found_entered l id table (constraint_at live id)) ∙ found-long table l id (constraint_at live id)

-- and after all of one literal
one-more : (live : List Numbered) (l : Literal) (p : Numbered) (ps : List Numbered) (table : PairTable) → IsOwn live p
    → all_entered live l table (ids_of (p ∷ ps)) ≡ all_entered live l (entered l p.id table (other_of l p.constraint)) (ids_of ps)
one-more live l p ps table own = ap (λ o. all_entered live l (found_entered l p.id table o) (ids_of ps)) own

own-rows : (live : List Numbered) (l m : Literal) (ps : List Numbered) (table : PairTable) → AllByRecursion (IsOwn live) ps → (l.variable == m.variable) ≡ true → row (all_entered live l table (ids_of ps)) m ≡ row table m
own-rows live l m [] table own d = refl
own-rows live l m (p ∷ ps) table own d =
    ap (λ z. row z m) (one-more live l p ps table own.0) ∙ own-rows live l m ps (entered l p.id table (other_of l p.constraint)) own.1 d ∙ step-own table l m p.id p.constraint d

ends-entry : (l : Literal) (id : ℕ) (ps : List Paired) → ends l (ps ++ record { lit = l; id = id } ∷ []) ≡ true
ends-entry l id [] = same-refl l
ends-entry l id (p ∷ []) = same-refl l
ends-entry l id (p ∷ q ∷ ps) = ends-entry l id (q ∷ ps)

with-ended : (l : Literal) (id : ℕ) (ps : List Paired) → ends l ps ≡ true → with_entry l id ps ≡ ps
with-ended l id ps e = cond-true (ends l ps) ps (ps ++ record { lit = l; id = id } ∷ []) e

with-new : (l : Literal) (id : ℕ) (ps : List Paired) → ends l ps ≡ false → with_entry l id ps ≡ ps ++ record { lit = l; id = id } ∷ []
with-new l id ps e = cond-false (ends l ps) ps (ps ++ record { lit = l; id = id } ∷ []) e

ended-rows : (live : List Numbered) (l m : Literal) (ps : List Numbered) (table : PairTable) → AllByRecursion (IsOwn live) ps → rank m < length table → (l.variable == m.variable) ≡ false → ends l (row table m) ≡ true
    → row (all_entered live l table (ids_of ps)) m ≡ row table m
ended-rows live l m [] table own low d e = refl
ended-rows live l m (p ∷ ps) table own low d e =
    let next = entered l p.id table (other_of l p.constraint) in
    let same : row next m ≡ row table m = step-row table l m p.id p.constraint low d ∙ at (is_pair_of l m p.constraint) in
    ap (λ z. row z m) (one-more live l p ps table own.0)
    ∙ ended-rows live l m ps next own.1 (subst (λ n. rank m < n) (sym (entered-long table l p.id (other_of l p.constraint))) low) d (ap (ends l) same ∙ e) ∙ same
  where
    at : (t : Bool) → cond t (with_entry l p.id (row table m)) (row table m) ≡ row table m
    at true = with-ended l p.id (row table m) e
    at false = refl

-- either no clause pairs the two, or one entry has come
abbrev pub some_pair : Literal → Literal → List Numbered → Bool
some_pair l m ps = list_any (λ p. is_pair_of l m p.constraint) ps

abbrev pub Came : (Numbered → Type 0) → Literal → Literal → List Numbered → List Paired → List Paired → Type 0
Came P l m ps old new = ((some_pair l m ps ≡ false) × (new ≡ old))
    ⊎ ((p : Numbered) × P p × (is_pair_of l m p.constraint ≡ true) × (some_pair l m ps ≡ true) × (new ≡ old ++ record { lit = l; id = p.id } ∷ []))

new-rows : (P : Numbered → Type 0) (live : List Numbered) (l m : Literal) (ps : List Numbered) (table : PairTable) → AllByRecursion (IsOwn live) ps → AllByRecursion P ps → rank m < length table → (l.variable == m.variable) ≡ false → ends l (row table m) ≡ false
    → Came P l m ps (row table m) (row (all_entered live l table (ids_of ps)) m)
new-rows P live l m [] table own h low d e = inl (refl, refl)
new-rows P live l m (p ∷ ps) table own h low d e =
    at (is_pair_of l m p.constraint) refl (step-row table l m p.id p.constraint low d) (λ same. new-rows P live l m ps next own.1 h.1 long d (ap (ends l) same ∙ e))
  where
    next : PairTable
    next = entered l p.id table (other_of l p.constraint)

    long : rank m < length next
    long = subst (λ n. rank m < n) (sym (entered-long table l p.id (other_of l p.constraint))) low

    whole : row (all_entered live l table (ids_of (p ∷ ps))) m ≡ row (all_entered live l next (ids_of ps)) m
    whole = ap (λ z. row z m) (one-more live l p ps table own.0)

    later : is_pair_of l m p.constraint ≡ false → row next m ≡ row table m → Came P l m ps (row next m) (row (all_entered live l next (ids_of ps)) m) → Came P l m (p ∷ ps) (row table m) (row (all_entered live l table (ids_of (p ∷ ps))) m)
    later f same (inl q) = inl (ap₂ (λ a b. a || b) f q.0, whole ∙ q.1 ∙ same)
    later f same (inr q) = inr (q.0, q.1, q.2, ap₂ (λ a b. a || b) f q.3, whole ∙ q.4 ∙ ap (λ z. z ++ record { lit = l; id = q.0.id } ∷ []) same)

    at : (t : Bool) → is_pair_of l m p.constraint ≡ t → row next m ≡ cond t (with_entry l p.id (row table m)) (row table m)
        → (row next m ≡ row table m → Came P l m ps (row next m) (row (all_entered live l next (ids_of ps)) m)) → Came P l m (p ∷ ps) (row table m) (row (all_entered live l table (ids_of (p ∷ ps))) m)
    at true f is more =
        let new : row next m ≡ row table m ++ record { lit = l; id = p.id } ∷ [] = is ∙ with-new l p.id (row table m) e in
        inr (
          p,
          h.0,
          f,
          or_left (is_pair_of l m p.constraint) (some_pair l m ps) f,
          whole ∙ ended-rows live l m ps next own.1 long d (ap (ends l) new ∙ ends-entry l p.id (row table m)) ∙ new,
        )
    at false f is more = later f is (more is)

-- a table of the clauses of some literals
pub record IsMade (s : Stored) (ls : List Literal) (table : PairTable) : Type 0 where
  pub long : length table ≡ 2 * s.vars + 2
  pub entries : (m : Literal) → IsKnown s.vars m → AllByRecursion (λ p. IsPaired s m p × (is_left s.live p ≡ true)) (row table m)
  pub lits : (m : Literal) → IsKnown s.vars m → lits_of (row table m) ≡ filter (is_partner (constraints_of s.live) m) ls

ends-has : (l : Literal) (ps : List Paired) → ends l ps ≡ true → has (lits_of ps) l ≡ true
ends-has l [] e = absurd (true≢false (sym e))
ends-has l (p ∷ []) e = or_left (is_same l p.lit) false (ap (is_same l) (same_literal p.lit l e) ∙ same-refl l)
ends-has l (p ∷ q ∷ ps) e = or_right (is_same l p.lit) (has (lits_of (q ∷ ps)) l) (ends-has l (q ∷ ps) e)

no-end : (s : Stored) (ls : List Literal) (table : PairTable) (l m : Literal) → IsMade s ls table → IsKnown s.vars m → has ls l ≡ false → ends l (row table m) ≡ false
no-end s ls table l m made known out = at (ends l (row table m)) refl
  where
    at : (t : Bool) → ends l (row table m) ≡ t → ends l (row table m) ≡ false
    at true e = absurd (true≢false (sym (has-filtered (is_partner (constraints_of s.live) m) ls l (ap (λ z. has z l) (sym (made.lits m known)) ∙ ends-has l (row table m) e)) ∙ out))
    at false e = e

pair-named : (s : Stored) (l m : Literal) → some_pair l m (naming l.variable s.live) ≡ has_pair (constraints_of s.live) l m
pair-named s l m =
    any-filter (λ p. is_pair_of l m p.constraint) (λ p. names (named p.constraint) l.variable) s.live
    ∙ any-alike (λ p. is_pair_of l m p.constraint && names (named p.constraint) l.variable) (λ p. is_pair_of l m p.constraint) (λ p. same p.constraint) s.live
    ∙ sym (any-map (λ p. p.constraint) (is_pair_of l m) s.live)
  where
    same : (c : Bounded) → (is_pair_of l m c && names (named c) l.variable) ≡ is_pair_of l m c
    same c = bool-same (is_pair_of l m c && names (named c) l.variable) (is_pair_of l m c) (λ e. (and_parts (is_pair_of l m c) (names (named c) l.variable) e).0)
        (λ e.
        let p = and_parts (is_binary c) (has c.lits l && has c.lits m) e in
        let clause = and_parts (is_clause c) (is_pair c.lits) p.0 in
        and_from (is_pair_of l m c) (names (named c) l.variable) e (ap (λ z. names z l.variable) (clause-named c clause.0) ∙ has-names c.lits l (and_parts (has c.lits l) (has c.lits m) p.1).0))

filter-end : (P : Literal → Bool) (ls : List Literal) (l : Literal) → filter P (ls ++ l ∷ []) ≡ filter P ls ++ cond (P l) (l ∷ []) []
filter-end P [] l = refl
filter-end P (m ∷ ls) l = at (P m) (filter-end P ls l)
  where
    at : (t : Bool) → filter P (ls ++ l ∷ []) ≡ filter P ls ++ cond (P l) (l ∷ []) [] → cond t (m ∷ filter P (ls ++ l ∷ [])) (filter P (ls ++ l ∷ [])) ≡ cond t (m ∷ filter P ls) (filter P ls) ++ cond (P l) (l ∷ []) []
    at true e = ap (λ z. m ∷ z) e
    at false e = e

lits-end : (ps : List Paired) (p : Paired) → lits_of (ps ++ p ∷ []) ≡ lits_of ps ++ p.lit ∷ []
lits-end [] p = refl
lits-end (q ∷ ps) p = ap (λ z. q.lit ∷ z) (lits-end ps p)

-- what a table is to have in the row of one literal
abbrev IsRow : Stored → List Literal → Literal → List Paired → Type 0
IsRow s ls m ps = AllByRecursion (λ p. IsPaired s m p × (is_left s.live p ≡ true)) ps × (lits_of ps ≡ filter (is_partner (constraints_of s.live) m) ls)

abbrev IsOwned : Stored → Numbered → Type 0
IsOwned s p = IsLive s p × (p.id ≤ s.added)

row-same-lits : (s : Stored) (ls : List Literal) (l m : Literal) (old new : List Paired) → IsRow s ls m old → is_partner (constraints_of s.live) m l ≡ false → new ≡ old → IsRow s (ls ++ l ∷ []) m new
row-same-lits s ls l m old new h off is =
    let cs = constraints_of s.live in (
      subst (AllByRecursion (λ p. IsPaired s m p × (is_left s.live p ≡ true))) (sym is) h.0,
      ap lits_of is ∙ h.1 ∙ sym (append-nil (filter (is_partner cs m) ls)) ∙ ap (λ t. filter (is_partner cs m) ls ++ cond t (l ∷ []) []) (sym off) ∙ sym (filter-end (is_partner cs m) ls l),
    )

row-more-lits : (s : Stored) (ls : List Literal) (l m : Literal) (p : Numbered) (old new : List Paired) → IsRow s ls m old → IsOwned s p → is_pair_of l m p.constraint ≡ true → (l.variable == m.variable) ≡ false → has_pair (constraints_of s.live) l m ≡ true
    → new ≡ old ++ record { lit = l; id = p.id } ∷ [] → IsRow s (ls ++ l ∷ []) m new
row-more-lits s ls l m p old new h owned pair d there is =
    let cs = constraints_of s.live in
    let entry : Paired = record { lit = l; id = p.id } in
    let on : is_partner cs m l ≡ true = and_from (not (l.variable == m.variable)) (has_pair cs l m) (ap not d) there in
    let paired : IsPaired s m entry = record {
      old = owned.1;
      other = d;
      pair = subst (λ o. IfSome o (λ c. is_pair_of l m c ≡ true)) (sym owned.0.own) pair;
    } in (
      subst (AllByRecursion (λ p. IsPaired s m p × (is_left s.live p ≡ true))) (sym is) (All-push (λ p. IsPaired s m p × (is_left s.live p ≡ true)) old entry h.0 (paired, ap is_some owned.0.own)),
      ap lits_of is ∙ lits-end old entry ∙ ap (λ z. z ++ l ∷ []) h.1 ∙ ap (λ t. filter (is_partner cs m) ls ++ cond t (l ∷ []) []) (sym on) ∙ sym (filter-end (is_partner cs m) ls l),
    )

pub made-next : (s : Stored) (ls : List Literal) (table : PairTable) (l : Literal) → IsStored s → IsMade s ls table → IsKnown s.vars l → has ls l ≡ false
    → IsMade s (ls ++ l ∷ []) (all_entered s.live l table (ids_of (naming l.variable s.live)))
made-next s ls table l stored made in' out = record {
  long = all-long s.live l (ids_of (naming l.variable s.live)) table ∙ made.long;
  entries = λ m known. (at m known (l.variable == m.variable) refl).0;
  lits = λ m known. (at m known (l.variable == m.variable) refl).1;
}
  where
    new : PairTable
    new = all_entered s.live l table (ids_of (naming l.variable s.live))

    owned : AllByRecursion (IsOwned s) (naming l.variable s.live)
    owned = all-filter (IsOwned s) (λ p. names (named p.constraint) l.variable) s.live
        (all-two (IsLive s) (λ p. (1 ≤ p.id) × (p.id ≤ s.added)) (IsOwned s) (λ p a b. (a, b.1)) s.live (all-live s stored) stored.counted)

    own-all : AllByRecursion (IsOwn s.live) (naming l.variable s.live)
    own-all = all-one (IsOwned s) (IsOwn s.live) (λ p h. h.0.own) (naming l.variable s.live) owned

    came : (m : Literal) → IsKnown s.vars m → (l.variable == m.variable) ≡ false → Came (IsOwned s) l m (naming l.variable s.live) (row table m) (row new m) → IsRow s (ls ++ l ∷ []) m (row new m)
    came m known d (inl q) = row-same-lits s ls l m (row table m) (row new m) (made.entries m known, made.lits m known)
        (ap (λ t. not (l.variable == m.variable) && t) (sym (pair-named s l m) ∙ q.0) ∙ no-more (not (l.variable == m.variable))) q.1
      where
        no-more : (b : Bool) → (b && false) ≡ false
        no-more true = refl
        no-more false = refl
    came m known d (inr q) = row-more-lits s ls l m q.0 (row table m) (row new m) (made.entries m known, made.lits m known) q.1 q.2 d (sym (pair-named s l m) ∙ q.3) q.4

    at : (m : Literal) → IsKnown s.vars m → (t : Bool) → (l.variable == m.variable) ≡ t → IsRow s (ls ++ l ∷ []) m (row new m)
    at m known true d = row-same-lits s ls l m (row table m) (row new m) (made.entries m known, made.lits m known) (ap (λ t. not t && has_pair (constraints_of s.live) l m) d)
        (own-rows s.live l m (naming l.variable s.live) table own-all d)
    at m known false d = came m known d (new-rows (IsOwned s) s.live l m (naming l.variable s.live) table own-all owned (subst (λ n. rank m < n) (sym made.long) (rank-within s.vars m known)) d (no-end s ls table l m made known out))

-- both literals of the next variable
out-next : (k : ℕ) (b : Bool) → has (cands 1 k) (of-variable (k + 1) b) ≡ false
out-next k b = at (has (cands 1 k) (of-variable (k + 1) b)) refl
  where
    at : (t : Bool) → has (cands 1 k) (of-variable (k + 1) b) ≡ t → has (cands 1 k) (of-variable (k + 1) b) ≡ false
    at true e = absurd (let known = All-has (IsKnown k) (cands 1 k) (of-variable (k + 1) b) (cands-known k 1 k (omega arith) (omega arith)) e in let high = known.1 in omega (arith, high))
    at false e = e

pub made-variable : (s : Stored) (k : ℕ) (table on off : PairTable) → IsStored s → IsMade s (cands 1 k) table → k < s.vars
    → on ≡ all_entered s.live (of-variable (k + 1) true) table (ids_of (naming (k + 1) s.live)) → off ≡ all_entered s.live (of-variable (k + 1) false) on (ids_of (naming (k + 1) s.live)) → IsMade s (cands 1 (k + 1)) off
made-variable s k table on off stored made low is-on is-off =
    let known : (1 ≤ k + 1) × (k + 1 ≤ s.vars) = (omega arith, omega (arith, low)) in
    let first = subst (IsMade s (cands 1 k ++ of-variable (k + 1) true ∷ [])) (sym is-on) (made-next s (cands 1 k) table (of-variable (k + 1) true) stored made known (out-next k true)) in
    let second = subst (IsMade s ((cands 1 k ++ of-variable (k + 1) true ∷ []) ++ of-variable (k + 1) false ∷ [])) (sym is-off)
    (made-next s (cands 1 k ++ of-variable (k + 1) true ∷ []) on (of-variable (k + 1) false) stored first known
    (has-push (cands 1 k) (of-variable (k + 1) true) (of-variable (k + 1) false) ∙ ap (λ t. t || is_same (of-variable (k + 1) false) (of-variable (k + 1) true)) (out-next k false) ∙ unlike (k + 1))) in
    subst (λ z. IsMade s z off) (append_assoc (cands 1 k) (of-variable (k + 1) true ∷ []) (of-variable (k + 1) false ∷ [])
    ∙ ap (λ v. cands 1 k ++ of-variable v true ∷ of-variable v false ∷ []) (let e : k + 1 ≡ 1 + k = omega arith in e)
    ∙ sym (cands-more 1 k) ∙ ap (cands 1) (let e : suc k ≡ k + 1 = omega arith in e)) second
  where
    unlike : (v : ℕ) → is_same (of-variable v false) (of-variable v true) ≡ false
    unlike v = ap (λ t. t && false) (eq-eqb v v refl)

-- at the start no row has an entry
pub made-first : (s : Stored) (table : PairTable) → table ≡ replicate (2 * s.vars + 2) [] → IsMade s (cands 1 0) table
made-first s table e = record {
  long = ap length e ∙ length-replicate (2 * s.vars + 2) [];
  entries = λ m known. subst (AllByRecursion (λ p. IsPaired s m p × (is_left s.live p ≡ true))) (sym (none m known)) tt;
  lits = λ m known. ap lits_of (none m known);
}
  where
    none : (m : Literal) → IsKnown s.vars m → row table m ≡ []
    none m known = ap (λ z. row z m) e ∙ get_or-replicate (2 * s.vars + 2) (rank m) [] [] (rank-within s.vars m known)

-- and in the end each row has all partners, in order
cands-high : (low from n : ℕ) → low < 2 * from → AllByRecursion (λ r. low < r) (map rank (cands from n))
cands-high low from zero h = tt
cands-high low from (suc n) h = (omega (arith, h), (omega (arith, h), cands-high low (from + 1) n (omega (arith, h))))

cands-rise : (from n : ℕ) → Rises (map rank (cands from n))
cands-rise from zero = tt
cands-rise from (suc n) = ((omega arith, cands-high (2 * from + 0) (from + 1) n (omega arith)), (cands-high (2 * from + 1) (from + 1) n (omega arith), cands-rise (from + 1) n))

rises-literals : (P : Literal → Bool) (ls : List Literal) → Rises (map rank ls) → Rises (map rank (filter P ls))
rises-literals P [] h = tt
rises-literals P (l ∷ ls) h = at (P l) (rises-literals P ls h.1)
  where
    at : (t : Bool) → Rises (map rank (filter P ls)) → Rises (map rank (cond t (l ∷ filter P ls) (filter P ls)))
    at true more = (to-map rank (λ r. rank l < r) (filter P ls) (all-filter (λ m. rank l < rank m) P ls (from-map rank (λ r. rank l < r) ls h.0)), more)
    at false more = more

ranks-lits : (ps : List Paired) → map rank (lits_of ps) ≡ ranks ps
ranks-lits [] = refl
ranks-lits (p ∷ ps) = ap (λ z. rank p.lit ∷ z) (ranks-lits ps)

pub made-last : (s : Stored) (table : PairTable) → IsMade s (cands 1 s.vars) table → IsPairTable s table
made-last s table made = record {
  long = made.long;
  entries = λ m known. all-one (λ p. IsPaired s m p × (is_left s.live p ≡ true)) (IsPaired s m) (λ p h. h.0) (row table m) (made.entries m known);
  ascend = λ m known. increasing (ranks (row table m))
      (subst Rises (ap (map rank) (sym (made.lits m known)) ∙ ranks-lits (row table m)) (rises-literals (is_partner (constraints_of s.live) m) (cands 1 s.vars) (cands-rise 1 s.vars)));
  partners = λ m known.
      ap lits_of (filter-all (is_left s.live) (row table m) (all-one (λ p. IsPaired s m p × (is_left s.live p ≡ true)) (λ p. is_left s.live p ≡ true) (λ p h. h.1) (row table m) (made.entries m known)))
      ∙ made.lits m known;
}

-- the constraint of an id, and the clauses of one literal in turn
pub found-all : (P : Bounded → Type 0) (ps : List Numbered) (id : ℕ) (c : Bounded) → constraint_at ps id ≡ Some c → AllByRecursion P (constraints_of ps) → P c
found-all P [] id c e h = absurd (none e)
  where
    none : None ≡ Some c → ⊥
    none e = cc e
found-all P (q ∷ ps) id c e h = at (q.id == id) e (λ e. found-all P ps id c e h.1)
  where
    at : (t : Bool) → cond t (Some q.constraint) (constraint_at ps id) ≡ Some c → (constraint_at ps id ≡ Some c → P c) → P c
    at true e more = subst P (the-one e) h.0
      where
        the-one : Some q.constraint ≡ Some c → q.constraint ≡ c
        the-one e = cc e
    at false e more = more e

pub enter-known : (s : Stored) (id : ℕ) (c : Bounded) (l : Literal) (n : ℕ) → IsStored s → constraint_at s.live id ≡ Some c → n ≡ 2 * s.vars + 2 → IfSome (other_of l c) (λ m. rank m < n)
enter-known s id c l n stored e long =
    at (other_of l c) (other-known s c l (found-all (Fits s.vars) s.live id c e stored.formula).within.lits)
  where
    at : (o : Option Literal) → IfSome o (IsKnown s.vars) → IfSome o (λ m. rank m < n)
    at None h = tt
    at (Some m) h = subst (λ k. rank m < k) (sym long) (rank-within s.vars m h)

-- what a vector is after its slice was written
pub whole : (n : ℕ) (new old : PairTable) → length new ≡ n → length old ≡ n → take n (new ++ drop (length new) old) ≡ new
whole n new old a b =
    ap (λ z. take n (new ++ z)) (drop_all (length new) old (omega (arith, a, b))) ∙ ap (take n) (append-nil new) ∙ take_all n new (omega (arith, a))
