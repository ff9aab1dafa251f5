-- A table of pairs after a group was taken out and a klause has come: its rows tell what is left.
use Rattle.std.proofs.Common.{◌≡◌, ℕ, ◌+◌, ◌≤◌, ◌<◌, ◌==◌, Bool, true, false, not, cond, ◌&&◌, ◌||◌, List, [], ◌∷◌, ◌++◌, filter, Option, Some, None, refl, sym, ap, subst, ◌∙◌, arith}
use Rattle.std.specs.Prelude.{IfSome}
use Rattle.std.specs.Option.{is_some}
use Rattle.std.specs.List.{list_any, AllByRecursion}
use Rattle.std.proofs.lemmas.Bool.{eqb-true, ne_eqb, cond-true, cond-false}
use Rattle.std.proofs.lemmas.List.Folds.{list_any-append}
use Rattle.kn_logic.specs.Literals.{Literal, has}
use Rattle.kn_logic.specs.Constraints.{Bounded, klause}
use Rattle.kn_logic.specs.Groups.{is_pair, is_binary, is_pair_of, has_pair, is_covered}
use Rattle.kn_store.specs.Stores.{Numbered, Stored, IsStored, constraints_of, ids_of, constraint_at}
use Rattle.kn_store.proofs.Public.{all-one, from-map, Rises, rises}
use Rattle.kn_guess.specs.Guesses.{candidates}
use Rattle.kn_guess.specs.Tables.{Paired, PairTable, row, lits_of, is_partner, is_left, replaced, IsPaired, IsPairTable}
use Rattle.kn_guess.proofs.Elements.{any-map, any-filter, any-alike}
use Rattle.kn_guess.proofs.Joined.{filter-yes, filter-no, filter-same, all-of}
use Rattle.kn_guess.proofs.Clique.{Differ, covered-is}

-- a constraint that is left, by its id
abbrev pub left_or : (Bounded → Bool) → Option Bounded → Option Bounded
left_or test None = None
left_or test (Some c) = cond (test c) None (Some c)

at-none : (id : ℕ) (ps : List Numbered) → AllByRecursion (λ p. id < p.id) ps → constraint_at ps id ≡ None
at-none id [] h = refl
at-none id (p ∷ ps) h = cond-false (p.id == id) (Some p.constraint) (constraint_at ps id) (ne_eqb p.id id (λ e. absurd (let low = h.0 in omega (arith, e, low)))) ∙ at-none id ps h.1

abbrev without : (Bounded → Bool) → List Numbered → List Numbered
without test ps = filter (λ p. not (test p.constraint)) ps

pub at-replaced : (test : Bounded → Bool) (ps : List Numbered) (new : Numbered) (id : ℕ) → Rises (ids_of ps) → (new.id ≡ id → ⊥) → constraint_at (without test ps ++ new ∷ []) id ≡ left_or test (constraint_at ps id)
at-replaced test [] new id up other = cond-false (new.id == id) (Some new.constraint) None (ne_eqb new.id id other)
at-replaced test (p ∷ ps) new id up other = at (p.id == id) refl (test p.constraint) refl (at-replaced test ps new id up.1 other)
  where
    rest : List Numbered
    rest = without test ps ++ new ∷ []

    gone : test p.constraint ≡ true → constraint_at (without test (p ∷ ps) ++ new ∷ []) id ≡ constraint_at rest id
    gone e = ap (λ z. constraint_at (z ++ new ∷ []) id) (filter-no (λ q. not (test q.constraint)) p ps (ap not e))

    kept : test p.constraint ≡ false → constraint_at (without test (p ∷ ps) ++ new ∷ []) id ≡ cond (p.id == id) (Some p.constraint) (constraint_at rest id)
    kept e = ap (λ z. constraint_at (z ++ new ∷ []) id) (filter-yes (λ q. not (test q.constraint)) p ps (ap not e))

    at : (s : Bool) → (p.id == id) ≡ s → (t : Bool) → test p.constraint ≡ t → constraint_at rest id ≡ left_or test (constraint_at ps id)
        → constraint_at (without test (p ∷ ps) ++ new ∷ []) id ≡ left_or test (cond (p.id == id) (Some p.constraint) (constraint_at ps id))
    at true s true t more =
        let none = at-none id ps (subst (λ v. AllByRecursion (λ q. v < q.id) ps) (eqb-true p.id id s) (from-map (λ q. q.id) (λ v. p.id < v) ps up.0)) in
        gone t ∙ more ∙ ap (left_or test) none ∙ sym (cond-true (test p.constraint) None (Some p.constraint) t)
        ∙ sym (ap (left_or test) (cond-true (p.id == id) (Some p.constraint) (constraint_at ps id) s))
    at true s false t more = kept t ∙ cond-true (p.id == id) (Some p.constraint) (constraint_at rest id) s ∙ sym (cond-false (test p.constraint) None (Some p.constraint) t)
        ∙ sym (ap (left_or test) (cond-true (p.id == id) (Some p.constraint) (constraint_at ps id) s))
    at false s true t more = gone t ∙ more ∙ sym (ap (left_or test) (cond-false (p.id == id) (Some p.constraint) (constraint_at ps id) s))
    at false s false t more = kept t ∙ cond-false (p.id == id) (Some p.constraint) (constraint_at rest id) s ∙ more ∙ sym (ap (left_or test) (cond-false (p.id == id) (Some p.constraint) (constraint_at ps id) s))

-- filters
filter-and : {X : Type 0} (f g : X → Bool) (xs : List X) → filter (λ x. f x && g x) xs ≡ filter g (filter f xs)
filter-and f g [] = refl
filter-and f g (x ∷ xs) = at (f x) (filter-and f g xs)
  where
    at : (t : Bool) → filter (λ x. f x && g x) xs ≡ filter g (filter f xs) → cond (t && g x) (x ∷ filter (λ x. f x && g x) xs) (filter (λ x. f x && g x) xs) ≡ filter g (cond t (x ∷ filter f xs) (filter f xs))
    at true e = ap (λ z. cond (g x) (x ∷ z) z) e
    at false e = e

lits-filter : (f : Literal → Bool) (ps : List Paired) → lits_of (filter (λ p. f p.lit) ps) ≡ filter f (lits_of ps)
lits-filter f [] = refl
lits-filter f (p ∷ ps) = at (f p.lit) (lits-filter f ps)
  where
    at : (t : Bool) → lits_of (filter (λ p. f p.lit) ps) ≡ filter f (lits_of ps) → lits_of (cond t (p ∷ filter (λ p. f p.lit) ps) (filter (λ p. f p.lit) ps)) ≡ cond t (p.lit ∷ filter f (lits_of ps)) (filter f (lits_of ps))
    at true e = ap (λ z. p.lit ∷ z) e
    at false e = e

-- of the pairs with a literal those that do not stand in the border are left
abbrev stays_with : List Literal → Literal → Literal → Bool
stays_with border m l = not (has border l && has border m)

left-after : (s : Stored) (border : List Literal) (new : Numbered) (m : Literal) (p : Paired) → Rises (ids_of s.live) → (new.id ≡ p.id → ⊥) → IsPaired s m p
    → is_left (without (is_covered border) s.live ++ new ∷ []) p ≡ (is_left s.live p && stays_with border m p.lit)
left-after s border new m p up other paired = ap is_some (at-replaced (is_covered border) s.live new p.id up other) ∙ at (constraint_at s.live p.id) paired.pair
  where
    at : (o : Option Bounded) → IfSome o (λ c. is_pair_of p.lit m c ≡ true) → is_some (left_or (is_covered border) o) ≡ (is_some o && stays_with border m p.lit)
    at None h = refl
    at (Some c) h = turn (is_covered border c) ∙ ap not (covered-is border c p.lit m paired.other h)
      where
        turn : (t : Bool) → is_some (cond t None (Some c)) ≡ not t
        turn true = refl
        turn false = refl

paired-after : (s : Stored) (border : List Literal) (c : Bounded) (m : Literal) (p : Paired) → Rises (ids_of s.live) → IsPaired s m p → IsPaired (replaced s (is_covered border) c) m p
paired-after s border c m p up paired = record {
  old = let old = paired.old in omega (arith, old);
  other = paired.other;
  pair = subst (λ o. IfSome o (λ d. is_pair_of p.lit m d ≡ true)) (sym (at-replaced (is_covered border) s.live (record { id = s.added + 1; constraint = c }) p.id up (λ e. let old = paired.old in omega (arith, e, old))))
      (at (constraint_at s.live p.id) paired.pair);
}
  where
    at : (o : Option Bounded) → IfSome o (λ d. is_pair_of p.lit m d ≡ true) → IfSome (left_or (is_covered border) o) (λ d. is_pair_of p.lit m d ≡ true)
    at None h = tt
    at (Some d) h = turn (is_covered border d)
      where
        turn : (t : Bool) → IfSome (cond t None (Some d)) (λ d. is_pair_of p.lit m d ≡ true)
        turn true = tt
        turn false = h

pair-after : (s : Stored) (border : List Literal) (c : Bounded) (l m : Literal) → is_binary c ≡ false → Differ l m → has_pair (constraints_of (replaced s (is_covered border) c).live) l m ≡ (has_pair (constraints_of s.live) l m && stays_with border m l)
pair-after s border c l m long d =
    any-map (λ p. p.constraint) (is_pair_of l m) (without (is_covered border) s.live ++ record { id = s.added + 1; constraint = c } ∷ [])
    ∙ list_any-append (λ p. is_pair_of l m p.constraint) (without (is_covered border) s.live) (record { id = s.added + 1; constraint = c } ∷ [])
    ∙ ap (λ b. list_any (λ p. is_pair_of l m p.constraint) (without (is_covered border) s.live) || (b || false)) (ap (λ b. b && (has c.lits l && has c.lits m)) long)
    ∙ none (list_any (λ p. is_pair_of l m p.constraint) (without (is_covered border) s.live))
    ∙ any-filter (λ p. is_pair_of l m p.constraint) (λ p. not (is_covered border p.constraint)) s.live
    ∙ any-alike (λ p. is_pair_of l m p.constraint && not (is_covered border p.constraint)) (λ p. is_pair_of l m p.constraint && stays_with border m l) (λ p. same p.constraint (is_pair_of l m p.constraint) refl) s.live
    ∙ any-and (stays_with border m l) s.live
    ∙ sym (ap (λ b. b && stays_with border m l) (any-map (λ p. p.constraint) (is_pair_of l m) s.live))
  where
    none : (b : Bool) → (b || (false || false)) ≡ b
    none true = refl
    none false = refl

    same : (e : Bounded) (t : Bool) → is_pair_of l m e ≡ t → (is_pair_of l m e && not (is_covered border e)) ≡ (is_pair_of l m e && stays_with border m l)
    same e true h = ap (λ b. is_pair_of l m e && not b) (covered-is border e l m d h)
    same e false h = ap (λ t. t && not (is_covered border e)) h ∙ sym (ap (λ t. t && stays_with border m l) h)

    any-and : (b : Bool) (ps : List Numbered) → list_any (λ p. is_pair_of l m p.constraint && b) ps ≡ (list_any (λ p. is_pair_of l m p.constraint) ps && b)
    any-and b [] = refl
    any-and b (p ∷ ps) = ap (λ t. (is_pair_of l m p.constraint && b) || t) (any-and b ps) ∙ spread (is_pair_of l m p.constraint) (list_any (λ p. is_pair_of l m p.constraint) ps) b
      where
        spread : (x y b : Bool) → ((x && b) || (y && b)) ≡ ((x || y) && b)
        spread true y true = refl
        spread true true false = refl
        spread true false false = refl
        spread false y b = refl

partner-after : (s : Stored) (border : List Literal) (c : Bounded) (l m : Literal) → is_binary c ≡ false → is_partner (constraints_of (replaced s (is_covered border) c).live) m l ≡ (is_partner (constraints_of s.live) m l && stays_with border m l)
partner-after s border c l m long = at (l.variable == m.variable) refl
  where
    at : (t : Bool) → (l.variable == m.variable) ≡ t → (not t && has_pair (constraints_of (replaced s (is_covered border) c).live) l m) ≡ ((not t && has_pair (constraints_of s.live) l m) && stays_with border m l)
    at true d = refl
    at false d = pair-after s border c l m long d

pub table-after : (s : Stored) (border : List Literal) (bound : ℕ) (table : PairTable) → IsStored s → IsPairTable s table → 2 ≤ bound → IsPairTable (replaced s (is_covered border) (klause bound border)) table
table-after s border bound table stored h low =
    let up = rises (ids_of s.live) stored.ascending in
    let c = klause bound border in
    let t = replaced s (is_covered border) c in
    let long : is_binary c ≡ false = ap (λ b. b && is_pair border) (ne_eqb bound 1 (λ e. absurd (omega (arith, e, low)))) in
    record {
      long = h.long;
      entries = λ m known. all-one (IsPaired s m) (IsPaired t m) (λ p q. paired-after s border c m p up q) (row table m) (h.entries m known);
      ascend = h.ascend;
      partners = λ m known.
          ap lits_of (filter-same (is_left t.live) (λ p. is_left s.live p && stays_with border m p.lit) (row table m)
          (all-one (IsPaired s m) (λ p. is_left t.live p ≡ (is_left s.live p && stays_with border m p.lit)) (λ p q. left-after s border (record { id = s.added + 1; constraint = c }) m p up (λ e. let old = q.old in omega (arith, e, old)) q) (row table m) (h.entries m known))
          ∙ filter-and (is_left s.live) (λ p. stays_with border m p.lit) (row table m))
          ∙ lits-filter (stays_with border m) (filter (is_left s.live) (row table m))
          ∙ ap (filter (stays_with border m)) (h.partners m known)
          ∙ sym (filter-and (is_partner (constraints_of s.live) m) (stays_with border m) (candidates s.vars))
          ∙ filter-same (λ l. is_partner (constraints_of s.live) m l && stays_with border m l) (is_partner (constraints_of t.live) m) (candidates s.vars)
          (all-of (λ l. (is_partner (constraints_of s.live) m l && stays_with border m l) ≡ is_partner (constraints_of t.live) m l) (λ l. sym (partner-after s border c l m long)) (candidates s.vars));
    }
