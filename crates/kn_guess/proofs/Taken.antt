-- What a group takes: its ids, its clauses, and that they make a group.
use Rattle.std.proofs.Common.{◌≡◌, ℕ, ◌≤◌, ◌==◌, Bool, true, false, not, cond, ◌&&◌, ◌||◌, List, [], ◌∷◌, ◌++◌, filter, refl, sym, ap, ap₂, subst, ◌∙◌}
use Rattle.std.specs.Prelude.{option_to_list}
use Rattle.std.specs.List.{list_any, flat_map, AllByRecursion}
use Rattle.std.specs.List.Sorted.{IsStrictlyIncreasing}
use Rattle.std.proofs.lemmas.Bool.{or_left, or_right, and_parts, eqb-true, and_from, not-true, not_from_false}
use Rattle.std.proofs.lemmas.List.Folds.{list_any-append}
use Rattle.kn_logic.specs.Literals.{Literal, names, has}
use Rattle.kn_logic.specs.Constraints.{Bounded, named, is_clause}
use Rattle.kn_logic.specs.Groups.{is_among, IsGroup}
use Rattle.kn_store.specs.Stores.{Numbered, Stored, IsStored, constraints_of, ids_of, naming, chosen}
use Rattle.kn_store.proofs.Public.{all-one, all-two, to-map, all-filter, all-pass, IsOwn, own, rises}
use Rattle.kn_guess.specs.Guesses.{in_klause, touches, stands, is_border, IsBorder}
use Rattle.kn_guess.specs.Seen.{found, ids_with}
use Rattle.kn_guess.proofs.Elements.{bool-same, any-with, each-any, any-map, any-filter, all-among, own-among}
use Rattle.kn_guess.proofs.Rising.{numbers-one, rises-ids}
use Rattle.kn_guess.proofs.Lives.{IsLive, all-live, clause-named, is-plain}
use Rattle.kn_guess.proofs.Bordered.{touches-from, touched, own-has}

any-flat : {X : Type 0} (f : ℕ → Bool) (g : X → List ℕ) (xs : List X) → list_any f (flat_map g xs) ≡ list_any (λ x. list_any f (g x)) xs
any-flat f g [] = refl
any-flat f g (x ∷ xs) = list_any-append f (g x) (flat_map g xs) ∙ ap (λ b. list_any f (g x) || b) (any-flat f g xs)

-- an element with some property makes some element have it
any-from : (f : ℕ → Bool) (xs : List ℕ) (x : ℕ) → is_among xs x ≡ true → f x ≡ true → list_any f xs ≡ true
any-from f xs x i e = let q = any-with (λ v. (g : ℕ → Bool) → g v ≡ true → list_any g xs ≡ true) (λ v. v == x) xs (each-any xs) i in q.2 f (ap f (eqb-true q.0 x q.1) ∙ e)

among-named : (s : Stored) (x id : ℕ) → is_among (ids_of (naming x s.live)) id ≡ list_any (λ p. (p.id == id) && names (named p.constraint) x) s.live
among-named s x id = any-map (λ p. p.id) (λ v. v == id) (naming x s.live) ∙ any-filter (λ p. p.id == id) (λ p. names (named p.constraint) x) s.live

pub among-chosen : (s : Stored) (test : Bounded → Bool) (id : ℕ) → is_among (ids_of (chosen test s.live)) id ≡ list_any (λ p. (p.id == id) && test p.constraint) s.live
among-chosen s test id = any-map (λ p. p.id) (λ v. v == id) (chosen test s.live) ∙ any-filter (λ p. p.id == id) (λ p. test p.constraint) s.live

ids-same : (s : Stored) (aux : List ℕ) (id : ℕ) → is_among (ids_with s.live aux) id ≡ is_among (ids_of (chosen (touches aux) s.live)) id
ids-same s aux id = any-flat (λ v. v == id) (λ x. ids_of (naming x s.live)) aux ∙ bool-same (list_any (λ x. is_among (ids_of (naming x s.live)) id) aux) (is_among (ids_of (chosen (touches aux) s.live)) id) forth back
  where
    forth : list_any (λ x. is_among (ids_of (naming x s.live)) id) aux ≡ true → is_among (ids_of (chosen (touches aux) s.live)) id ≡ true
    forth e =
        let x = any-with (λ x. is_among aux x ≡ true) (λ x. is_among (ids_of (naming x s.live)) id) aux (own-among aux) e in
        let p = any-with (λ p. (f : Numbered → Bool) → f p ≡ true → list_any f s.live ≡ true) (λ p. (p.id == id) && names (named p.constraint) x.0) s.live (each-any s.live) (sym (among-named s x.0 id) ∙ x.1) in
        let both = and_parts (p.0.id == id) (names (named p.0.constraint) x.0) p.1 in
        among-chosen s (touches aux) id ∙ p.2 (λ q. (q.id == id) && touches aux q.constraint) (and_from (p.0.id == id) (touches aux p.0.constraint) both.0 (touches-from aux p.0.constraint x.0 x.2 both.1))

    back : is_among (ids_of (chosen (touches aux) s.live)) id ≡ true → list_any (λ x. is_among (ids_of (naming x s.live)) id) aux ≡ true
    back e =
        let p = any-with (λ p. (f : Numbered → Bool) → f p ≡ true → list_any f s.live ≡ true) (λ p. (p.id == id) && touches aux p.constraint) s.live (each-any s.live) (sym (among-chosen s (touches aux) id) ∙ e) in
        let both = and_parts (p.0.id == id) (touches aux p.0.constraint) p.1 in
        let t = touched aux p.0.constraint both.1 in
        any-from (λ x. is_among (ids_of (naming x s.live)) id) aux t.0 t.1
        (among-named s t.0 id ∙ p.2 (λ q. (q.id == id) && names (named q.constraint) t.0) (and_from (p.0.id == id) (names (named p.0.constraint) t.0) both.0 t.2))

pub ids-are : (s : Stored) (aux ids : List ℕ) → IsStored s → IsStrictlyIncreasing ids → ((x : ℕ) → is_among ids x ≡ is_among (ids_with s.live aux) x) → ids ≡ ids_of (chosen (touches aux) s.live)
ids-are s aux ids stored up same =
    numbers-one ids (ids_of (chosen (touches aux) s.live)) (rises ids up) (rises-ids (λ p. touches aux p.constraint) s.live (rises (ids_of s.live) stored.ascending)) (λ x. same x ∙ ids-same s aux x)

found-own : (live ps : List Numbered) → AllByRecursion (IsOwn live) ps → found live (ids_of ps) ≡ constraints_of ps
found-own live [] h = refl
found-own live (p ∷ ps) h = ap₂ (λ o cs. option_to_list o ++ cs) h.0 (found-own live ps h.1)

pub found-are : (s : Stored) (test : Bounded → Bool) → IsStored s → found s.live (ids_of (chosen test s.live)) ≡ constraints_of (chosen test s.live)
found-are s test stored = found-own s.live (chosen test s.live) (all-filter (IsOwn s.live) (λ p. test p.constraint) s.live (own s.live (rises (ids_of s.live) stored.ascending)))

pub taken-same : (test : Bounded → Bool) (ps : List Numbered) → constraints_of (chosen test ps) ≡ filter test (constraints_of ps)
taken-same test [] = refl
taken-same test (p ∷ ps) = at (test p.constraint) (taken-same test ps)
  where
    at : (t : Bool) → constraints_of (chosen test ps) ≡ filter test (constraints_of ps) → constraints_of (cond t (p ∷ chosen test ps) (chosen test ps)) ≡ cond t (p.constraint ∷ filter test (constraints_of ps)) (filter test (constraints_of ps))
    at true e = ap (λ z. p.constraint ∷ z) e
    at false e = e

-- the clauses that name one of the variables
taken-clauses : (s : Stored) (aux : List ℕ) → IsStored s → AllByRecursion (λ x. in_klause (constraints_of s.live) x ≡ false) aux → AllByRecursion (λ c. is_clause c ≡ true) (constraints_of (chosen (touches aux) s.live))
taken-clauses s aux stored alone = to-map (λ p. p.constraint) (λ c. is_clause c ≡ true) (chosen (touches aux) s.live)
    (all-two (IsLive s) (λ p. touches aux p.constraint ≡ true) (λ p. is_clause p.constraint ≡ true)
    (λ p live t. let q = touched aux p.constraint t in is-plain s q.0 p live (all-among (λ x. in_klause (constraints_of s.live) x ≡ false) aux q.0 alone q.1) q.2)
    (chosen (touches aux) s.live) (all-filter (IsLive s) (λ p. touches aux p.constraint) s.live (all-live s stored)) (all-pass (λ p. touches aux p.constraint) s.live))

covers : (aux : List ℕ) (taken : List Bounded) (border : List Literal) (c : Bounded) (l : Literal) → ((l : Literal) → has border l ≡ is_border taken aux l) → ((f : Bounded → Bool) → f c ≡ true → list_any f taken ≡ true) → is_clause c ≡ true → has c.lits l ≡ true
    → (is_among aux l.variable || has border l) ≡ true
covers aux taken border c l is some clause stand = at (is_among aux l.variable) refl
  where
    at : (t : Bool) → is_among aux l.variable ≡ t → (is_among aux l.variable || has border l) ≡ true
    at true e = or_left (is_among aux l.variable) (has border l) e
    at false e = or_right (is_among aux l.variable) (has border l)
        (is l ∙ and_from (stands taken l) (not (is_among aux l.variable)) (some (λ d. has (named d) l) (ap (λ z. has z l) (clause-named c clause) ∙ stand)) (not_from_false (is_among aux l.variable) e))

pub group-is : (s : Stored) (aux : List ℕ) (taken : List Bounded) (border : List Literal) → IsStored s → AllByRecursion (λ x. (1 ≤ x) × (x ≤ s.vars)) aux → AllByRecursion (λ x. in_klause (constraints_of s.live) x ≡ false) aux
    → IsStrictlyIncreasing aux → taken ≡ constraints_of (chosen (touches aux) s.live) → IsBorder taken aux border → IsGroup (record { aux = aux; taken = taken; border = border })
group-is s aux taken border stored known alone up is edge =
    let clauses = subst (AllByRecursion (λ c. is_clause c ≡ true)) (sym is) (taken-clauses s aux stored alone) in
    record {
      counted = all-one (λ x. (1 ≤ x) × (x ≤ s.vars)) (λ x. 1 ≤ x) (λ x h. h.0) aux known;
      aux = up;
      border = edge.0;
      apart = all-one (λ l. has border l ≡ true) (λ l. is_among aux l.variable ≡ false)
          (λ l h. not-true (is_among aux l.variable) (and_parts (stands taken l) (not (is_among aux l.variable)) (sym (edge.1 l) ∙ h)).1) border (own-has border);
      clauses = clauses;
      covered = all-two (λ c. (f : Bounded → Bool) → f c ≡ true → list_any f taken ≡ true) (λ c. is_clause c ≡ true) (λ c. AllByRecursion (λ l. (is_among aux l.variable || has border l) ≡ true) c.lits)
          (λ c some clause. all-one (λ l. has c.lits l ≡ true) (λ l. (is_among aux l.variable || has border l) ≡ true) (λ l stand. covers aux taken border c l edge.1 some clause stand) c.lits (own-has c.lits)) taken (each-any taken) clauses;
    }
