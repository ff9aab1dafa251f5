-- The group of a seed is a step.
use Rattle.std.proofs.Common.{◌≡◌, ℕ, ◌≤◌, Bool, true, false, not, cond, ◌&&◌, List, [], ◌∷◌, length, map, filter, refl, sym, ap, subst, ◌∙◌, inl, inr, arith, true≢false}
use Rattle.std.specs.Prelude.{◌⊎◌}
use Rattle.std.specs.List.{list_any, AllByRecursion}
use Rattle.std.proofs.lemmas.Bool.{and_parts, or_cases, or_left, or_right, and_from, not-true}
use Rattle.kn_logic.specs.Literals.{Literal, has, names, AreKnown, IsKnown}
use Rattle.kn_logic.specs.Constraints.{Bounded, is_clause, named, Fits}
use Rattle.kn_logic.specs.Formulas.{IsFormula}
use Rattle.kn_logic.specs.Groups.{Gathered, is_among}
use Rattle.kn_logic.proofs.Public.{All-has, has-names}
use Rattle.kn_store.specs.Stores.{Numbered, Stored, constraints_of, chosen, problem_of}
use Rattle.kn_store.proofs.Public.{all-one, all-two, rises}
use Rattle.kn_guess.specs.Guesses.{in_klause, in_binary, stands, is_seed, IsClosedFrom, IsLeastFrom, touches, IsBorder, IsSeedGuess}
use Rattle.kn_extract.specs.Extractions.{Found, IsSeedTaken}
use Rattle.kn_extract.proofs.Steps.{IsStep, named_in, keep, go, known-named}
use Rattle.kn_extract.proofs.Lists.{any-none, each-none, passes, own-has, among-filter, rises-different}

-- no member of the least set stands in a klause
free-closed : (cs : List Bounded) (seed : ℕ) (set : List ℕ) → in_klause cs seed ≡ false → IsClosedFrom cs seed set → IsClosedFrom cs seed (filter (λ v. not (in_klause cs v)) set)
free-closed cs seed set free closed = record {
  seed_in = among-filter (λ v. not (in_klause cs v)) seed set ∙ and_from (not (in_klause cs seed)) (is_among set seed) (ap not free) closed.seed_in;
  neighbours = λ x z i low none near.
      let q = and_parts (not (in_klause cs x)) (is_among set x) (sym (among-filter (λ v. not (in_klause cs v)) x set) ∙ i) in
      among-filter (λ v. not (in_klause cs v)) z set ∙ and_from (not (in_klause cs z)) (is_among set z) (ap not none) (closed.neighbours x z q.1 low none near);
}

pub least-free : (cs : List Bounded) (seed : ℕ) (set : List ℕ) → in_klause cs seed ≡ false → IsLeastFrom cs seed set → (x : ℕ) → is_among set x ≡ true → in_klause cs x ≡ false
least-free cs seed set free least x i =
    let e = least.1 (filter (λ v. not (in_klause cs v)) set) (free-closed cs seed set free least.0) x i in
    not-true (in_klause cs x) (and_parts (not (in_klause cs x)) (is_among set x) (sym (among-filter (λ v. not (in_klause cs v)) x set) ∙ e)).0

-- a constraint that names a member is a clause
clause-cases : (c : Bounded) (x : ℕ) → names (named c) x ≡ true → (not (is_clause c) && names (named c) x) ≡ false → (t : Bool) → is_clause c ≡ t → is_clause c ≡ true
clause-cases c x i e true is = is
clause-cases c x i e false is = absurd (true≢false (sym (and_from (not (is_clause c)) (names (named c) x) (ap not is) i) ∙ e))

touched-clause : (set : List ℕ) (cs : List Bounded) (c : Bounded) → ((x : ℕ) → is_among set x ≡ true → in_klause cs x ≡ false)
    → touches set c ≡ true → ((x : ℕ) → in_klause cs x ≡ false → (not (is_clause c) && names (named c) x) ≡ false) → is_clause c ≡ true
touched-clause set cs c free e each =
    let p = passes (λ l. is_among set l.variable) (named c) e in
    let x = p.0.variable in
    clause-cases c x p.2 (each x (free x p.1)) (is_clause c) refl

seed-clauses : (s : Stored) (seed : ℕ) (set : List ℕ) → in_klause (constraints_of s.live) seed ≡ false → IsLeastFrom (constraints_of s.live) seed set
    → AllByRecursion (λ c. is_clause c ≡ true) (constraints_of (chosen (touches set) s.live))
seed-clauses s seed set free least =
    let cs = constraints_of s.live in
    all-two (λ c. touches set c ≡ true) (λ c. (x : ℕ) → in_klause cs x ≡ false → (not (is_clause c) && names (named c) x) ≡ false) (λ c. is_clause c ≡ true)
    (λ c e each. touched-clause set cs c (least-free cs seed set free least) e each)
    (constraints_of (chosen (touches set) s.live)) (go (touches set) s.live)
    (keep (λ c. (x : ℕ) → in_klause cs x ≡ false → (not (is_clause c) && names (named c) x) ≡ false) (λ p. touches set p.constraint) s.live
    (each-none (λ x c. not (is_clause c) && names (named c) x) cs))

-- the border is known, and different
stands-known : (vars : ℕ) (cs : List Bounded) (l : Literal) → AllByRecursion (Fits vars) cs → stands cs l ≡ true → IsKnown vars l
stands-known vars [] l fits e = absurd (true≢false (sym e))
stands-known vars (c ∷ cs) l fits e = at (λ h. stands-known vars cs l fits.1 h) (or_cases (has (named c) l) (stands cs l) e)
  where
    at : (stands cs l ≡ true → IsKnown vars l) → (has (named c) l ≡ true) ⊎ (stands cs l ≡ true) → IsKnown vars l
    at more (inl h) = All-has (IsKnown vars) (named c) l (known-named vars c fits.0) h
    at more (inr h) = more h

border-known : (vars : ℕ) (set : List ℕ) (taken : List Bounded) (border : List Literal) → AllByRecursion (Fits vars) taken → IsBorder taken set border → AreKnown vars border
border-known vars set taken border fits is =
    all-one (λ l. has border l ≡ true) (IsKnown vars) (λ l h. stands-known vars taken l fits (and_parts (stands taken l) (not (is_among set l.variable)) (sym (is.1 l) ∙ h)).0) border (own-has border)

-- ---- a seed, and the members of its least set, stand in constraints

pub named-from : (cs : List Bounded) (f : Bounded → Bool) (x : ℕ) → ((c : Bounded) → f c ≡ true → names (named c) x ≡ true) → list_any f cs ≡ true → named_in cs x ≡ true
named-from [] f x h e = e
named-from (c ∷ cs) f x h e = at (or_cases (f c) (list_any f cs) e) (λ k. named-from cs f x h k)
  where
    at : (f c ≡ true) ⊎ (list_any f cs ≡ true) → (list_any f cs ≡ true → named_in cs x ≡ true) → named_in (c ∷ cs) x ≡ true
    at (inl k) more = or_left (names (named c) x) (named_in cs x) (h c k)
    at (inr k) more = or_right (names (named c) x) (named_in cs x) (more k)

pub stands-named : (cs : List Bounded) (l : Literal) → stands cs l ≡ true → named_in cs l.variable ≡ true
stands-named cs l e = named-from cs (λ c. has (named c) l) l.variable (λ c k. has-names (named c) l k) e

seed-named : (cs : List Bounded) (seed : ℕ) → is_seed cs seed ≡ true → named_in cs seed ≡ true
seed-named cs seed e =
    let on : Literal = record { variable = seed; positive = true } in
    let off : Literal = record { variable = seed; positive = false } in
    let a = and_parts (not (in_klause cs seed)) (in_binary cs seed && (stands cs on && stands cs off)) e in
    let b = and_parts (in_binary cs seed) (stands cs on && stands cs off) a.1 in
    stands-named cs on (and_parts (stands cs on) (stands cs off) b.1).0

seed-free : (cs : List Bounded) (seed : ℕ) → is_seed cs seed ≡ true → in_klause cs seed ≡ false
seed-free cs seed e =
    let on : Literal = record { variable = seed; positive = true } in
    let off : Literal = record { variable = seed; positive = false } in
    not-true (in_klause cs seed) (and_parts (not (in_klause cs seed)) (in_binary cs seed && (stands cs on && stands cs off)) e).0

named-closed : (cs : List Bounded) (seed : ℕ) (set : List ℕ) → named_in cs seed ≡ true → IsClosedFrom cs seed set → IsClosedFrom cs seed (filter (named_in cs) set)
named-closed cs seed set there closed = record {
  seed_in = among-filter (named_in cs) seed set ∙ and_from (named_in cs seed) (is_among set seed) there closed.seed_in;
  neighbours = λ x z i low none near.
      let q = and_parts (named_in cs x) (is_among set x) (sym (among-filter (named_in cs) x set) ∙ i) in
      let other = named-from cs (λ c. names (named c) x && names (named c) z) z (λ c k. (and_parts (names (named c) x) (names (named c) z) k).1) near in
      among-filter (named_in cs) z set ∙ and_from (named_in cs z) (is_among set z) other (closed.neighbours x z q.1 low none near);
}

least-named : (cs : List Bounded) (seed : ℕ) (set : List ℕ) → named_in cs seed ≡ true → IsLeastFrom cs seed set → (x : ℕ) → is_among set x ≡ true → named_in cs x ≡ true
least-named cs seed set there least x i =
    let e = least.1 (filter (named_in cs) set) (named-closed cs seed set there least.0) x i in
    (and_parts (named_in cs x) (is_among set x) (sym (among-filter (named_in cs) x set) ∙ e)).0

-- what stands in those that were chosen stands in all
pub any-kept : (f : Bounded → Bool) (test : Bounded → Bool) (ps : List Numbered) → list_any f (constraints_of (chosen test ps)) ≡ true → list_any f (constraints_of ps) ≡ true
any-kept f test [] e = e
any-kept f test (p ∷ ps) e = at (test p.constraint) e (λ k. any-kept f test ps k)
  where
    here : (f p.constraint ≡ true) ⊎ (list_any f (constraints_of (chosen test ps)) ≡ true) → (list_any f (constraints_of (chosen test ps)) ≡ true → list_any f (constraints_of ps) ≡ true)
        → list_any f (constraints_of (p ∷ ps)) ≡ true
    here (inl k) more = or_left (f p.constraint) (list_any f (constraints_of ps)) k
    here (inr k) more = or_right (f p.constraint) (list_any f (constraints_of ps)) (more k)

    at : (t : Bool) → list_any f (constraints_of (cond t (p ∷ chosen test ps) (chosen test ps))) ≡ true → (list_any f (constraints_of (chosen test ps)) ≡ true → list_any f (constraints_of ps) ≡ true)
        → list_any f (constraints_of (p ∷ ps)) ≡ true
    at true e more = here (or_cases (f p.constraint) (list_any f (constraints_of (chosen test ps))) e) more
    at false e more = or_right (f p.constraint) (list_any f (constraints_of ps)) (more e)

-- a border has clauses in which it stands
pub any-some : {X : Type 0} (f : X → Bool) (xs : List X) → list_any f xs ≡ true → 1 ≤ length xs
any-some f [] e = absurd (true≢false (sym e))
any-some f (x ∷ xs) e = omega arith

border-some : (taken : List Bounded) (set : List ℕ) (border : List Literal) → IsBorder taken set border → 3 ≤ length border → 1 ≤ length taken
border-some taken set [] is low = absurd (omega (arith, low))
border-some taken set (l ∷ border) is low =
    any-some (λ c. has (named c) l) taken (and_parts (stands taken l) (not (is_among set l.variable)) (sym (is.1 l) ∙ (own-has (l ∷ border)).0)).0

pub seed-known : (s : Stored) (seed : ℕ) (g : Gathered) (ids : List ℕ) → IsFormula (problem_of s) → IsSeedGuess s seed g ids → AreKnown s.vars g.border
seed-known s seed g ids fits h = border-known s.vars g.aux g.taken g.border
    (subst (AllByRecursion (Fits s.vars)) (sym h.taken) (keep (Fits s.vars) (λ p. touches g.aux p.constraint) s.live fits)) h.border

pub seed-step : (s : Stored) (seed : ℕ) (x : Found) (t : Stored) → IsFormula (problem_of s) → IsSeedTaken s seed x t → IsStep s x t
seed-step s seed x t fits h =
    let g = x.group in
    let cs = constraints_of s.live in
    let free = seed-free cs seed h.guess.starts in
    record {
      test = touches g.aux;
      cardinal = h.cardinal;
      taken = h.guess.taken;
      clauses = seed-clauses s seed g.aux free h.guess.least;
      apart = λ c e. any-none (λ l. is_among g.aux l.variable) (named c) e;
      known = seed-known s seed g x.ids fits h.guess;
      ascends = h.guess.border.0;
      different = rises-different g.border (rises (map (λ l. l.variable) g.border) h.guess.border.0);
      next = h.next;
      ids = h.guess.ids_are;
      some = border-some g.taken g.aux g.border h.guess.border h.guess.low;
      low = h.range.0;
      high = h.range.1;
      aux_free = least-free cs seed g.aux free h.guess.least;
      aux_named = least-named cs seed g.aux (seed-named cs seed h.guess.starts) h.guess.least;
      border_named = all-one (λ l. has g.border l ≡ true) (λ l. named_in cs l.variable ≡ true)
          (λ l e. stands-named cs l (any-kept (λ c. has (named c) l) (touches g.aux) s.live (ap (λ z. stands z l) (sym h.guess.taken)
          ∙ (and_parts (stands g.taken l) (not (is_among g.aux l.variable)) (sym (h.guess.border.1 l) ∙ e)).0)))
          g.border (own-has g.border);
      border_apart = all-one (λ l. has g.border l ≡ true) (λ l. is_among g.aux l.variable ≡ false)
          (λ l e. not-true (is_among g.aux l.variable) (and_parts (stands g.taken l) (not (is_among g.aux l.variable)) (sym (h.guess.border.1 l) ∙ e)).1) g.border (own-has g.border);
    }
