-- A store after the guess of a seed was taken out and a klause has come: what stands where, and which variables
-- are seeds.
use Rattle.std.proofs.Common.{◌≡◌, ℕ, ◌+◌, ◌-◌, ◌≤◌, ◌==◌, Bool, true, false, not, ◌&&◌, ◌||◌, List, [], ◌∷◌, ◌++◌, length, map, filter, set, get_or, Option, Some, None, refl, sym, ap, ap₂, subst, ◌∙◌, inl, inr, arith, true≢false}
use Rattle.std.specs.Prelude.{◌⊎◌, option_to_list, IfSome}
use Rattle.std.specs.List.{list_any, AllByRecursion}
use Rattle.std.proofs.lemmas.Bool.{or_left, or_right, or_cases, or_parts, and_parts, eqb-true, eqb-false, ne_eqb, cases_lt, and_from, not-true}
use Rattle.std.proofs.lemmas.List.{length-set, get_or-set_same, get_or-set_other, get_or_past}
use Rattle.std.proofs.lemmas.List.Folds.{list_any-append}
use Rattle.kn_logic.proofs.Public.{All-has, has-names}
use Rattle.kn_logic.specs.Literals.{Literal, has, names, IsKnown, AreKnown}
use Rattle.kn_logic.specs.Constraints.{Bounded, is_clause, klause, named, Fits}
use Rattle.kn_logic.specs.Groups.{Gathered, is_among, is_binary, is_pair}
use Rattle.kn_store.specs.Stores.{Numbered, Stored, IsStored, constraints_of}
use Rattle.kn_store.proofs.Public.{all-one, from-map, to-map}
use Rattle.kn_guess.specs.Guesses.{in_klause, in_binary, share, stands, is_seed, IsClosedFrom, IsLeastFrom, touches, IsSeedGuess}
use Rattle.kn_guess.specs.Flags.{lowered, cleared}
use Rattle.kn_guess.specs.Tables.{SeedTable, in_some, IsNear, IsSeedTable, replaced}
use Rattle.kn_guess.proofs.Elements.{any-with, each-any, any-map, any-filter}
use Rattle.kn_guess.proofs.Lives.{clause-named}
use Rattle.kn_guess.proofs.Bordered.{the-literal, touches-from, touched}
use Rattle.kn_guess.proofs.Taken.{taken-same}
use Rattle.kn_guess.proofs.Joined.{own-literal}
use Rattle.kn_guess.proofs.Apart.{names-among}

-- tests that agree on all elements
any-same : {X : Type 0} (f g : X → Bool) (xs : List X) → AllByRecursion (λ x. f x ≡ g x) xs → list_any f xs ≡ list_any g xs
any-same f g [] h = refl
any-same f g (x ∷ xs) h = ap₂ (λ a b. a || b) h.0 (any-same f g xs h.1)

-- some constraint, in a store where some were replaced
any-replaced : (s : Stored) (test : Bounded → Bool) (c : Bounded) (P : Bounded → Bool) → list_any P (constraints_of (replaced s test c).live) ≡ (list_any (λ p. P p.constraint && not (test p.constraint)) s.live || P c)
any-replaced s test c P =
    any-map (λ p. p.constraint) P (filter (λ p. not (test p.constraint)) s.live ++ record { id = s.added + 1; constraint = c } ∷ [])
    ∙ list_any-append (λ p. P p.constraint) (filter (λ p. not (test p.constraint)) s.live) (record { id = s.added + 1; constraint = c } ∷ [])
    ∙ ap₂ (λ a b. a || b) (any-filter (λ p. P p.constraint) (λ p. not (test p.constraint)) s.live) (last (P c))
  where
    last : (b : Bool) → (b || false) ≡ b
    last true = refl
    last false = refl

-- members stand in no klause, since those that stand in none are closed too
among-but : (test : ℕ → Bool) (xs : List ℕ) (x : ℕ) → is_among (filter test xs) x ≡ (is_among xs x && test x)
among-but test xs x = any-filter (λ v. v == x) test xs ∙ at xs
  where
    at : (xs : List ℕ) → list_any (λ v. (v == x) && test v) xs ≡ (is_among xs x && test x)
    at [] = refl
    at (v ∷ xs) = ap₂ (λ a b. a || b) (one (v == x) refl) (at xs) ∙ spread (v == x) (is_among xs x) (test x)
      where
        one : (t : Bool) → (v == x) ≡ t → ((v == x) && test v) ≡ ((v == x) && test x)
        one true e = ap (λ z. (v == x) && test z) (eqb-true v x e)
        one false e = ap (λ t. t && test v) e ∙ sym (ap (λ t. t && test x) e)

        spread : (a b c : Bool) → ((a && c) || (b && c)) ≡ ((a || b) && c)
        spread true b true = refl
        spread true true false = refl
        spread true false false = refl
        spread false b c = refl

pub members-alone : (cs : List Bounded) (seed : ℕ) (set : List ℕ) → IsLeastFrom cs seed set → in_klause cs seed ≡ false → (x : ℕ) → is_among set x ≡ true → in_klause cs x ≡ false
members-alone cs seed set least alone x i =
    let rest = filter (λ v. not (in_klause cs v)) set in
    let closed : IsClosedFrom cs seed rest = record {
      seed_in = among-but (λ v. not (in_klause cs v)) set seed ∙ and_from (is_among set seed) (not (in_klause cs seed)) least.0.seed_in (ap not alone);
      neighbours = λ y z j low none near.
          among-but (λ v. not (in_klause cs v)) set z
          ∙ and_from (is_among set z) (not (in_klause cs z)) (least.0.neighbours y z (and_parts (is_among set y) (not (in_klause cs y)) (sym (among-but (λ v. not (in_klause cs v)) set y) ∙ j)).0 low none near) (ap not none);
    } in
    not-true (in_klause cs x) (and_parts (is_among set x) (not (in_klause cs x)) (sym (among-but (λ v. not (in_klause cs v)) set x) ∙ least.1 rest closed x i)).1

pub seed-alone : (cs : List Bounded) (x : ℕ) → is_seed cs x ≡ true → in_klause cs x ≡ false
seed-alone cs x e = not-true (in_klause cs x) (and_parts (not (in_klause cs x)) (in_binary cs x && (stands cs (the-literal x true) && stands cs (the-literal x false))) e).0

-- what is known of the guess
pub record IsTaking (s : Stored) (g : Gathered) : Type 0 where
  pub clauses : AllByRecursion (λ p. touches g.aux p.constraint ≡ true → is_clause p.constraint ≡ true) s.live
  pub outside : (x : ℕ) → is_among g.aux x ≡ false → names g.border x ≡ false → AllByRecursion (λ p. touches g.aux p.constraint ≡ true → names (named p.constraint) x ≡ false) s.live
  pub apart : (x : ℕ) → is_among g.aux x ≡ true → names g.border x ≡ false

live-any : (s : Stored) → AllByRecursion (λ p. (f : Bounded → Bool) → f p.constraint ≡ true → list_any f (constraints_of s.live) ≡ true) s.live
live-any s = from-map (λ p. p.constraint) (λ c. (f : Bounded → Bool) → f c ≡ true → list_any f (constraints_of s.live) ≡ true) s.live (each-any (constraints_of s.live))

literal-of : (lits : List Literal) (x : ℕ) → names lits x ≡ true → (l : Literal) × (l.variable ≡ x) × (has lits l ≡ true)
literal-of lits x e = let q = any-with (λ l. has lits l ≡ true) (λ l. l.variable == x) lits (own-literal lits) e in (q.0, eqb-true q.0.variable x q.1, q.2)

pub taking-is : (s : Stored) (seed : ℕ) (g : Gathered) (ids : List ℕ) → IsSeedGuess s seed g ids → IsTaking s g
taking-is s seed g ids h = record {
  clauses = all-one (λ p. (f : Bounded → Bool) → f p.constraint ≡ true → list_any f cs ≡ true) (λ p. touches g.aux p.constraint ≡ true → is_clause p.constraint ≡ true)
      (λ p some t. clause-at p.constraint some t (is_clause p.constraint) refl) s.live (live-any s);
  outside = λ x off none. all-one (λ p. (f : Bounded → Bool) → f p.constraint ≡ true → list_any f cs ≡ true) (λ p. touches g.aux p.constraint ≡ true → names (named p.constraint) x ≡ false)
      (λ p some t. outside-at x off none p.constraint some t (names (named p.constraint) x) refl) s.live (live-any s);
  apart = λ x i. apart-at x i (names g.border x) refl;
}
  where
    cs : List Bounded
    cs = constraints_of s.live

    clause-at : (c : Bounded) → ((f : Bounded → Bool) → f c ≡ true → list_any f cs ≡ true) → touches g.aux c ≡ true → (t : Bool) → is_clause c ≡ t → is_clause c ≡ true
    clause-at c some t true e = e
    clause-at c some t false e =
        let q = touched g.aux c t in
        let alone = members-alone cs seed g.aux h.least (seed-alone cs seed h.starts) q.0 q.1 in
        absurd (true≢false (sym (some (λ d. not (is_clause d) && names (named d) q.0) (and_from (not (is_clause c)) (names (named c) q.0) (ap not e) q.2)) ∙ alone))

    outside-at : (x : ℕ) → is_among g.aux x ≡ false → names g.border x ≡ false → (c : Bounded) → ((f : Bounded → Bool) → f c ≡ true → list_any f cs ≡ true) → touches g.aux c ≡ true → (t : Bool) → names (named c) x ≡ t → names (named c) x ≡ false
    outside-at x off none c some t false e = e
    outside-at x off none c some t true e =
        let q = literal-of (named c) x e in
        let there : stands g.taken q.0 ≡ true =
        ap (λ z. stands z q.0) (h.taken ∙ taken-same (touches g.aux) s.live) ∙ any-filter (λ d. has (named d) q.0) (touches g.aux) cs
        ∙ some (λ d. has (named d) q.0 && touches g.aux d) (and_from (has (named c) q.0) (touches g.aux c) q.2 t) in
        let in-border = h.border.1 q.0 ∙ and_from (stands g.taken q.0) (not (is_among g.aux q.0.variable)) there (ap not (ap (is_among g.aux) q.1 ∙ off)) in
        absurd (true≢false (sym (has-names g.border q.0 in-border) ∙ ap (names g.border) q.1 ∙ none))

    apart-at : (x : ℕ) → is_among g.aux x ≡ true → (t : Bool) → names g.border x ≡ t → names g.border x ≡ false
    apart-at x i false e = e
    apart-at x i true e =
        let q = literal-of g.border x e in
        let off = not-true (is_among g.aux q.0.variable) (and_parts (stands g.taken q.0) (not (is_among g.aux q.0.variable)) (sym (h.border.1 q.0) ∙ q.2)).1 in
        absurd (true≢false (sym (ap (is_among g.aux) q.1 ∙ i) ∙ off))

abbrev pub after : Stored → Gathered → ℕ → Stored
after s g bound = replaced s (touches g.aux) (klause bound g.border)

long-klause : (bound : ℕ) (lits : List Literal) → 2 ≤ bound → is_clause (klause bound lits) ≡ false
long-klause bound lits low = ne_eqb bound 1 (λ e. absurd (omega (arith, e, low)))

-- a test that only constraints pass that name a variable outside
pub any-after : (s : Stored) (g : Gathered) (bound : ℕ) (x : ℕ) (P : Bounded → Bool) → IsTaking s g → is_among g.aux x ≡ false → names g.border x ≡ false → ((c : Bounded) → P c ≡ true → names (named c) x ≡ true)
    → list_any P (constraints_of (after s g bound).live) ≡ list_any P (constraints_of s.live)
any-after s g bound x P taking off none only =
    any-replaced s (touches g.aux) (klause bound g.border) P
    ∙ ap₂ (λ a b. a || b)
    (any-same (λ p. P p.constraint && not (touches g.aux p.constraint)) (λ p. P p.constraint) s.live
    (all-one (λ p. touches g.aux p.constraint ≡ true → names (named p.constraint) x ≡ false) (λ p. (P p.constraint && not (touches g.aux p.constraint)) ≡ P p.constraint)
    (λ p h. same p.constraint h (P p.constraint) refl (touches g.aux p.constraint) refl) s.live (taking.outside x off none)))
    (no-klause (P (klause bound g.border)) refl)
    ∙ last (list_any (λ p. P p.constraint) s.live) ∙ sym (any-map (λ p. p.constraint) P s.live)
  where
    last : (b : Bool) → (b || false) ≡ b
    last true = refl
    last false = refl

    same : (c : Bounded) → (touches g.aux c ≡ true → names (named c) x ≡ false) → (t : Bool) → P c ≡ t → (u : Bool) → touches g.aux c ≡ u → (P c && not (touches g.aux c)) ≡ P c
    same c h true e true f = absurd (true≢false (sym (only c e) ∙ h f))
    same c h true e false f = ap (λ t. P c && not t) f ∙ keep (P c)
      where
        keep : (b : Bool) → (b && true) ≡ b
        keep true = refl
        keep false = refl
    same c h false e u f = ap (λ t. t && not (touches g.aux c)) e ∙ sym e

    no-klause : (t : Bool) → P (klause bound g.border) ≡ t → P (klause bound g.border) ≡ false
    no-klause false e = e
    no-klause true e = absurd (true≢false (sym (only (klause bound g.border) e) ∙ none))

-- and one that names an auxiliary variable
pub none-after : (s : Stored) (g : Gathered) (bound : ℕ) (x : ℕ) (P : Bounded → Bool) → IsTaking s g → is_among g.aux x ≡ true → ((c : Bounded) → P c ≡ true → names (named c) x ≡ true) → list_any P (constraints_of (after s g bound).live) ≡ false
none-after s g bound x P taking in' only =
    any-replaced s (touches g.aux) (klause bound g.border) P
    ∙ ap₂ (λ a b. a || b) (none s.live) (no-klause (P (klause bound g.border)) refl)
  where
    gone : (c : Bounded) (t : Bool) → P c ≡ t → (P c && not (touches g.aux c)) ≡ false
    gone c false e = ap (λ t. t && not (touches g.aux c)) e
    gone c true e = ap (λ t. P c && not t) (touches-from g.aux c x in' (only c e)) ∙ off (P c)
      where
        off : (b : Bool) → (b && false) ≡ false
        off true = refl
        off false = refl

    none : (ps : List Numbered) → list_any (λ p. P p.constraint && not (touches g.aux p.constraint)) ps ≡ false
    none [] = refl
    none (p ∷ ps) = ap₂ (λ a b. a || b) (gone p.constraint (P p.constraint) refl) (none ps)

    no-klause : (t : Bool) → P (klause bound g.border) ≡ t → P (klause bound g.border) ≡ false
    no-klause false e = e
    no-klause true e = absurd (true≢false (sym (only (klause bound g.border) e) ∙ taking.apart x in'))

-- klauses stay, and one more has come
pub klause-after : (s : Stored) (g : Gathered) (bound : ℕ) (x : ℕ) → IsTaking s g → 2 ≤ bound → in_klause (constraints_of (after s g bound).live) x ≡ (in_klause (constraints_of s.live) x || names g.border x)
klause-after s g bound x taking low =
    any-replaced s (touches g.aux) (klause bound g.border) (λ c. not (is_clause c) && names (named c) x)
    ∙ ap₂ (λ a b. a || b)
    (any-same (λ p. (not (is_clause p.constraint) && names (named p.constraint) x) && not (touches g.aux p.constraint)) (λ p. not (is_clause p.constraint) && names (named p.constraint) x) s.live
    (all-one (λ p. touches g.aux p.constraint ≡ true → is_clause p.constraint ≡ true) (λ p. ((not (is_clause p.constraint) && names (named p.constraint) x) && not (touches g.aux p.constraint)) ≡ (not (is_clause p.constraint) && names (named p.constraint) x))
    (λ p h. same p.constraint h (touches g.aux p.constraint) refl) s.live taking.clauses)
    ∙ sym (any-map (λ p. p.constraint) (λ c. not (is_clause c) && names (named c) x) s.live))
    (ap (λ t. not t && names g.border x) (long-klause bound g.border low))
  where
    same : (c : Bounded) → (touches g.aux c ≡ true → is_clause c ≡ true) → (u : Bool) → touches g.aux c ≡ u → ((not (is_clause c) && names (named c) x) && not (touches g.aux c)) ≡ (not (is_clause c) && names (named c) x)
    same c h true f = ap (λ t. (not t && names (named c) x) && not (touches g.aux c)) (h f) ∙ sym (ap (λ t. not t && names (named c) x) (h f))
    same c h false f = ap (λ t. (not (is_clause c) && names (named c) x) && not t) f ∙ keep (not (is_clause c) && names (named c) x)
      where
        keep : (b : Bool) → (b && true) ≡ b
        keep true = refl
        keep false = refl

-- what a test says of the variables that a constraint names
binary-named : (c : Bounded) (x : ℕ) → (is_binary c && names c.lits x) ≡ true → names (named c) x ≡ true
binary-named c x e =
    let p = and_parts (is_binary c) (names c.lits x) e in
    ap (λ z. names z x) (clause-named c (and_parts (is_clause c) (is_pair c.lits) p.0).0) ∙ p.1

-- the seeds that are left
pub seed-after : (s : Stored) (g : Gathered) (bound : ℕ) (x : ℕ) → IsTaking s g → 2 ≤ bound → is_seed (constraints_of (after s g bound).live) x ≡ ((is_seed (constraints_of s.live) x && not (names g.border x)) && not (is_among g.aux x))
seed-after s g bound x taking low = at (is_among g.aux x) refl (names g.border x) refl
  where
    cs : List Bounded
    cs = constraints_of s.live

    ds : List Bounded
    ds = constraints_of (after s g bound).live

    on : Literal
    on = the-literal x true

    off : Literal
    off = the-literal x false

    last-false : (a b c : Bool) → (a && (b && (false && c))) ≡ false
    last-false true true c = refl
    last-false true false c = refl
    last-false false b c = refl

    and-false : (b : Bool) → (b && false) ≡ false
    and-false true = refl
    and-false false = refl

    and-true : (b : Bool) → (b && true) ≡ b
    and-true true = refl
    and-true false = refl

    or-true : (b : Bool) → (b || true) ≡ true
    or-true true = refl
    or-true false = refl

    or-false : (b : Bool) → (b || false) ≡ b
    or-false true = refl
    or-false false = refl

    at : (t : Bool) → is_among g.aux x ≡ t → (u : Bool) → names g.border x ≡ u → is_seed ds x ≡ ((is_seed cs x && not u) && not t)
    at true i u b = ap (λ t. not (in_klause ds x) && (in_binary ds x && (t && stands ds off))) (none-after s g bound x (λ c. has (named c) on) taking i (λ c e. has-names (named c) on e))
        ∙ last-false (not (in_klause ds x)) (in_binary ds x) (stands ds off) ∙ sym (and-false (is_seed cs x && not u))
    at false i true b = ap (λ t. not t && (in_binary ds x && (stands ds on && stands ds off))) (klause-after s g bound x taking low ∙ ap (λ t. in_klause cs x || t) b ∙ or-true (in_klause cs x))
        ∙ sym (and-true (is_seed cs x && false) ∙ and-false (is_seed cs x))
    at false i false b =
        ap₂ (λ k r. not k && r) (klause-after s g bound x taking low ∙ ap (λ t. in_klause cs x || t) b ∙ or-false (in_klause cs x))
        (ap₂ (λ d r. d && r) (any-after s g bound x (λ c. is_binary c && names c.lits x) taking i b (λ c e. binary-named c x e))
        (ap₂ (λ p n. p && n) (any-after s g bound x (λ c. has (named c) on) taking i b (λ c e. has-names (named c) on e)) (any-after s g bound x (λ c. has (named c) off) taking i b (λ c e. has-names (named c) off e))))
        ∙ sym (and-true (is_seed cs x && true) ∙ and-true (is_seed cs x))

-- flags that were taken down
pub lowered-long : (flags : List Bool) (vs : List ℕ) → length (lowered flags vs) ≡ length flags
lowered-long flags [] = refl
lowered-long flags (v ∷ vs) = lowered-long (set flags (v - 1) false) vs ∙ length-set flags (v - 1) false

lower-one : (flags : List Bool) (v x : ℕ) → 1 ≤ v → 1 ≤ x → get_or (set flags (v - 1) false) (x - 1) false ≡ (get_or flags (x - 1) false && not (v == x))
lower-one flags v x low high = at (v == x) refl
  where
    and-true : (b : Bool) → (b && true) ≡ b
    and-true true = refl
    and-true false = refl

    and-false : (b : Bool) → (b && false) ≡ false
    and-false true = refl
    and-false false = refl

    at : (t : Bool) → (v == x) ≡ t → get_or (set flags (v - 1) false) (x - 1) false ≡ (get_or flags (x - 1) false && not t)
    at true e = ap (λ z. get_or (set flags (z - 1) false) (x - 1) false) (eqb-true v x e) ∙ elim (cases_lt (x - 1) (length flags)) [
      | inl in' ↦ get_or-set_same flags (x - 1) false false in'
      | inr out ↦ get_or_past (set flags (x - 1) false) (x - 1) false (let n = length-set flags (x - 1) false in omega (arith, n, out))
    ] ∙ sym (and-false (get_or flags (x - 1) false))
    at false e = get_or-set_other flags (v - 1) (x - 1) false false (λ s. eqb-false v x e (omega (arith, s, low, high))) ∙ sym (and-true (get_or flags (x - 1) false))

pub lowered-is : (flags : List Bool) (vs : List ℕ) (x : ℕ) → AllByRecursion (λ v. 1 ≤ v) vs → 1 ≤ x → get_or (lowered flags vs) (x - 1) false ≡ (get_or flags (x - 1) false && not (is_among vs x))
lowered-is flags [] x h low = sym (and-true (get_or flags (x - 1) false))
  where
    and-true : (b : Bool) → (b && true) ≡ b
    and-true true = refl
    and-true false = refl
lowered-is flags (v ∷ vs) x h low = lowered-is (set flags (v - 1) false) vs x h.1 low ∙ ap (λ b. b && not (is_among vs x)) (lower-one flags v x h.0 low) ∙ both (get_or flags (x - 1) false) (v == x) (is_among vs x)
  where
    both : (a b c : Bool) → ((a && not b) && not c) ≡ (a && not (b || c))
    both true true c = refl
    both true false c = refl
    both false b c = refl

pub known-named : (vars : ℕ) (guard : Option Literal) (lits : List Literal) → IfSome guard (IsKnown vars) → AreKnown vars lits → AreKnown vars (option_to_list guard ++ lits)
known-named vars None lits g k = k
known-named vars (Some l) lits g k = (g, k)

-- a literal of the border is one of the formula
border-counted : (s : Stored) (seed : ℕ) (g : Gathered) (ids : List ℕ) → IsStored s → IsSeedGuess s seed g ids → AllByRecursion (λ v. 1 ≤ v) (map (λ l. l.variable) g.border)
border-counted s seed g ids stored h = to-map (λ l. l.variable) (λ v. 1 ≤ v) g.border (all-one (λ l. has g.border l ≡ true) (λ l. 1 ≤ l.variable) (λ l i. at l i) g.border (own-literal g.border))
  where
    at : (l : Literal) → has g.border l ≡ true → 1 ≤ l.variable
    at l i =
        let there = (and_parts (stands g.taken l) (not (is_among g.aux l.variable)) (sym (h.border.1 l) ∙ i)).0 in
        let q = any-with (Fits s.vars) (λ c. has (named c) l && touches g.aux c) (constraints_of s.live) stored.formula
        (sym (ap (λ z. stands z l) (h.taken ∙ taken-same (touches g.aux) s.live) ∙ any-filter (λ d. has (named d) l) (touches g.aux) (constraints_of s.live)) ∙ there) in
        let both = and_parts (has (named q.0) l) (touches g.aux q.0) q.1 in
        (All-has (IsKnown s.vars) (named q.0) l (known-named s.vars q.0.guard q.0.lits q.2.within.guard q.2.within.lits) both.0).0

-- neighbours of what is left are as before
pub near-after : (s : Stored) (g : Gathered) (bound from : ℕ) (entries members : List (List ℕ)) → IsTaking s g → 2 ≤ bound → IsNear s from entries members → IsNear (after s g bound) from entries members
near-after s g bound from entries members taking low h = record {
  long = h.long;
  placed = h.placed;
  sound = λ x z first alone some n.
      let out = left x alone some in
      let before : in_some cs x ≡ true = sym (any-after s g bound x (λ c. names (named c) x) taking out.0 out.1 (λ c e. e)) ∙ some in
      sharing x z out.0 out.1 ∙ h.sound x z first (free x alone) before n;
  complete = λ x z first alone later none e.
      let some = any-first ds x z e in
      let out = left x alone some in
      h.complete x z first (free x alone) later (free z none) (sym (sharing x z out.0 out.1) ∙ e);
}
  where
    cs : List Bounded
    cs = constraints_of s.live

    ds : List Bounded
    ds = constraints_of (after s g bound).live

    free : (x : ℕ) → in_klause ds x ≡ false → in_klause cs x ≡ false
    free x e = (or_parts (in_klause cs x) (names g.border x) (sym (klause-after s g bound x taking low) ∙ e)).0

    left : (x : ℕ) → in_klause ds x ≡ false → in_some ds x ≡ true → (is_among g.aux x ≡ false) × (names g.border x ≡ false)
    left x e some = (at (is_among g.aux x) refl, (or_parts (in_klause cs x) (names g.border x) (sym (klause-after s g bound x taking low) ∙ e)).1)
      where
        at : (t : Bool) → is_among g.aux x ≡ t → is_among g.aux x ≡ false
        at false i = i
        at true i = absurd (true≢false (sym some ∙ none-after s g bound x (λ c. names (named c) x) taking i (λ c e. e)))

    sharing : (x z : ℕ) → is_among g.aux x ≡ false → names g.border x ≡ false → share ds x z ≡ share cs x z
    sharing x z off none = any-after s g bound x (λ c. names (named c) x && names (named c) z) taking off none (λ c e. (and_parts (names (named c) x) (names (named c) z) e).0)

    any-first : (es : List Bounded) (x z : ℕ) → share es x z ≡ true → in_some es x ≡ true
    any-first [] x z e = e
    any-first (c ∷ es) x z e = one (or_cases (names (named c) x && names (named c) z) (share es x z) e) (λ h. any-first es x z h)
      where
        one : ((names (named c) x && names (named c) z) ≡ true) ⊎ (share es x z ≡ true) → (share es x z ≡ true → in_some es x ≡ true) → (names (named c) x || in_some es x) ≡ true
        one (inl h) more = or_left (names (named c) x) (in_some es x) (and_parts (names (named c) x) (names (named c) z) h).0
        one (inr h) more = or_right (names (named c) x) (in_some es x) (more h)

pub table-taken : (s : Stored) (seed bound : ℕ) (g : Gathered) (ids : List ℕ) (t u : SeedTable) → IsStored s → IsSeedTable s t → IsSeedGuess s seed g ids → 2 ≤ bound → AllByRecursion (λ v. 1 ≤ v) g.aux
    → u.from ≡ t.from → u.entries ≡ t.entries → u.members ≡ t.members → u.free ≡ lowered t.free (map (λ l. l.variable) g.border) → u.seeds ≡ lowered (lowered t.seeds (map (λ l. l.variable) g.border)) g.aux → u.deep ≡ [] → IsSeedTable (after s g bound) u
table-taken s seed bound g ids t u stored h guess low counted from-is entries-is members-is free-is seeds-is deep-is = record {
  seen = record {
    long = ap length free-is ∙ lowered-long t.free vs ∙ h.seen.long;
    says = λ x from to.
        ap (λ z. get_or z (x - 1) false) free-is ∙ lowered-is t.free vs x border from
        ∙ ap₂ (λ a b. a && not b) (h.seen.says x from to) (names-among g.border x)
        ∙ sym (ap not (klause-after s g bound x taking low) ∙ not-or (in_klause (constraints_of s.live) x) (names g.border x));
  };
  long = ap length seeds-is ∙ lowered-long (lowered t.seeds vs) g.aux ∙ lowered-long t.seeds vs ∙ h.long;
  tested = λ x from to.
      ap (λ z. get_or z (x - 1) false) seeds-is ∙ lowered-is (lowered t.seeds vs) g.aux x counted from
      ∙ ap (λ a. a && not (is_among g.aux x)) (lowered-is t.seeds vs x border from ∙ ap₂ (λ a b. a && not b) (h.tested x from to) (names-among g.border x))
      ∙ sym (seed-after s g bound x taking low);
  deep = λ x low up. absurd (true≢false (sym up ∙ ap (λ z. get_or z (x - 1) false) deep-is));
  near = subst (λ n. IsNear (after s g bound) n u.entries u.members) (sym from-is)
      (subst (λ z. IsNear (after s g bound) t.from z u.members) (sym entries-is) (subst (IsNear (after s g bound) t.from t.entries) (sym members-is) (near-after s g bound t.from t.entries t.members taking low h.near)));
}
  where
    vs : List ℕ
    vs = map (λ l. l.variable) g.border

    taking : IsTaking s g
    taking = taking-is s seed g ids guess

    border : AllByRecursion (λ v. 1 ≤ v) (map (λ l. l.variable) g.border)
    border = border-counted s seed g ids stored guess

    not-or : (a b : Bool) → not (a || b) ≡ (not a && not b)
    not-or true b = refl
    not-or false b = refl

-- and by place
clear-one : (flags : List Bool) (v k : ℕ) → get_or (set flags v false) k false ≡ (get_or flags k false && not (v == k))
clear-one flags v k = at (v == k) refl
  where
    and-true : (b : Bool) → (b && true) ≡ b
    and-true true = refl
    and-true false = refl

    and-false : (b : Bool) → (b && false) ≡ false
    and-false true = refl
    and-false false = refl

    at : (t : Bool) → (v == k) ≡ t → get_or (set flags v false) k false ≡ (get_or flags k false && not t)
    at true e = ap (λ z. get_or (set flags z false) k false) (eqb-true v k e) ∙ elim (cases_lt k (length flags)) [
      | inl in' ↦ get_or-set_same flags k false false in'
      | inr out ↦ get_or_past (set flags k false) k false (let n = length-set flags k false in omega (arith, n, out))
    ] ∙ sym (and-false (get_or flags k false))
    at false e = get_or-set_other flags v k false false (λ s. eqb-false v k e (sym s)) ∙ sym (and-true (get_or flags k false))

cleared-is : (flags : List Bool) (vs : List ℕ) (k : ℕ) → get_or (cleared flags vs) k false ≡ (get_or flags k false && not (is_among vs k))
cleared-is flags [] k = sym (and-true (get_or flags k false))
  where
    and-true : (b : Bool) → (b && true) ≡ b
    and-true true = refl
    and-true false = refl
cleared-is flags (v ∷ vs) k = cleared-is (set flags v false) vs k ∙ ap (λ b. b && not (is_among vs k)) (clear-one flags v k) ∙ both (get_or flags k false) (v == k) (is_among vs k)
  where
    both : (a b c : Bool) → ((a && not b) && not c) ≡ (a && not (b || c))
    both true true c = refl
    both true false c = refl
    both false b c = refl

-- the flags of the variables that are there, and no others, are up: so none is left
pub all-cleared : (flags new : List Bool) (vars asked : List ℕ) → ((v : ℕ) → get_or flags v false ≡ is_among vars v) → asked ≡ vars → new ≡ cleared flags asked → (v : ℕ) → get_or new v false ≡ false
all-cleared flags new vars asked up was is v =
    ap (λ z. get_or z v false) (is ∙ ap (cleared flags) was) ∙ cleared-is flags vars v ∙ ap (λ b. b && not (is_among vars v)) (up v) ∙ neither (is_among vars v)
  where
    neither : (b : Bool) → (b && not b) ≡ false
    neither true = refl
    neither false = refl
