-- The tables as they are at first: the ids of the constraints that name a variable, and the variables of an id.
use Rattle.std.proofs.Common.{◌≡◌, ℕ, ◌+◌, ◌-◌, ◌≤◌, ◌<◌, ◌==◌, Bool, true, false, ◌&&◌, ◌||◌, List, [], ◌∷◌, ◌++◌, length, take, set, get_or, Option, Some, refl, sym, ap, ap₂, subst, ◌∙◌, inl, inr, arith, true≢false}
use Rattle.std.specs.Prelude.{◌⊎◌}
use Rattle.std.specs.List.{list_any, AllByRecursion}
use Rattle.std.proofs.lemmas.Bool.{or_cases, and_parts, eqb-true, eqb-false, eq-eqb, cases_lt, and_from}
use Rattle.std.proofs.lemmas.List.{length-set, get_or-set_same, get_or-set_other, get_or_past, get_or_default, take_more}
use Rattle.kn_logic.specs.Literals.{names}
use Rattle.kn_logic.specs.Constraints.{Bounded, named, Fits}
use Rattle.kn_logic.specs.Groups.{is_among}
use Rattle.kn_store.specs.Stores.{Numbered, Stored, IsStored, constraints_of, ids_of, naming, constraint_at}
use Rattle.kn_store.proofs.Public.{all-one}
use Rattle.kn_guess.specs.Guesses.{share}
use Rattle.kn_guess.specs.Walks.{kept, is_near}
use Rattle.kn_guess.specs.Tables.{in_some, IsNear}
use Rattle.kn_guess.proofs.Elements.{any-with, each-any, any-map, among-append}
use Rattle.kn_guess.proofs.Lives.{IsLive, all-live, names-known}
use Rattle.kn_guess.proofs.Taken.{among-chosen}
use Rattle.kn_guess.proofs.After.{known-named}
use Rattle.kn_guess.proofs.Walked.{near-of, near-list}

-- one id more
one-mixed : (a b c : Bool) → ((a || (b && c)) || (c || false)) ≡ (a || ((b || (true || false)) && c))
one-mixed true b c = refl
one-mixed false true true = refl
one-mixed false true false = refl
one-mixed false false true = refl
one-mixed false false false = refl

none-mixed : (a b c : Bool) → (a || (b && c)) ≡ (a || ((b || (false || false)) && c))
none-mixed true b c = refl
none-mixed false true c = refl
none-mixed false false c = refl

pub enter-among : (start before mid : List (List ℕ)) (ids : List ℕ) (i id var : ℕ) (read pushed : List ℕ) → i < length ids → id ≡ get_or ids i 0
    → ((k x : ℕ) → is_among (kept before k) x ≡ (is_among (kept start k) x || (is_among (take i ids) k && (var == x)))) → ((k : ℕ) → kept mid k ≡ kept before k) → id < length mid → read ≡ get_or mid id read → pushed ≡ read ++ var ∷ []
    → (k x : ℕ) → is_among (kept (set mid id pushed) k) x ≡ (is_among (kept start k) x || (is_among (take (i + 1) ids) k && (var == x)))
enter-among start before mid ids i id var read pushed low is old same placed at-read made k x = at (id == k) refl
  where
    more : is_among (take (i + 1) ids) k ≡ (is_among (take i ids) k || ((id == k) || false))
    more = ap (λ z. is_among z k) (take_more ids i 0 low ∙ ap (λ z. take i ids ++ z ∷ []) (sym is)) ∙ among-append (take i ids) (id ∷ []) k

    at : (t : Bool) → (id == k) ≡ t → is_among (kept (set mid id pushed) k) x ≡ (is_among (kept start k) x || (is_among (take (i + 1) ids) k && (var == x)))
    at true e =
        let there = eqb-true id k e in
        ap (λ j. is_among (kept (set mid id pushed) j) x) (sym there) ∙ ap (λ z. is_among z x) (get_or-set_same mid id pushed [] placed ∙ made ∙ ap (λ z. z ++ var ∷ []) (at-read ∙ get_or_default mid id read [] placed ∙ same id))
        ∙ among-append (kept before id) (var ∷ []) x ∙ ap (λ b. b || ((var == x) || false)) (ap (λ j. is_among (kept before j) x) there ∙ old k x)
        ∙ one-mixed (is_among (kept start k) x) (is_among (take i ids) k) (var == x) ∙ sym (ap (λ b. is_among (kept start k) x || (b && (var == x))) (more ∙ ap (λ b. is_among (take i ids) k || (b || false)) e))
    at false e =
        ap (λ z. is_among z x) (get_or-set_other mid id k pushed [] (λ s. eqb-false id k e (sym s)) ∙ same k) ∙ old k x
        ∙ none-mixed (is_among (kept start k) x) (is_among (take i ids) k) (var == x) ∙ sym (ap (λ b. is_among (kept start k) x || (b && (var == x))) (more ∙ ap (λ b. is_among (take i ids) k || (b || false)) e))

pub enter-placed : (before mid : List (List ℕ)) (ids : List ℕ) (i id : ℕ) (pushed : List ℕ) → i < length ids → id ≡ get_or ids i 0 → AllByRecursion (λ k. k < length before) (take i ids) → length before ≤ length mid → id < length mid
    → AllByRecursion (λ k. k < length (set mid id pushed)) (take (i + 1) ids)
enter-placed before mid ids i id pushed low is old more placed =
    subst (AllByRecursion (λ k. k < length (set mid id pushed))) (sym (take_more ids i 0 low ∙ ap (λ z. take i ids ++ z ∷ []) (sym is)))
    (ends (take i ids) (all-one (λ k. k < length before) (λ k. k < length (set mid id pushed)) (λ k h. let long = length-set mid id pushed in omega (arith, h, more, long)) (take i ids) old))
  where
    ends : (xs : List ℕ) → AllByRecursion (λ k. k < length (set mid id pushed)) xs → AllByRecursion (λ k. k < length (set mid id pushed)) (xs ++ id ∷ [])
    ends [] h = (let long = length-set mid id pushed in omega (arith, placed, long), tt)
    ends (x ∷ xs) h = (h.0, ends xs h.1)

-- one variable more
pub named-more : (s : Stored) (n : ℕ) (before after : List (List ℕ)) (ids : List ℕ) → ids ≡ ids_of (naming (n + 1) s.live) → ((k x : ℕ) → is_among (kept after k) x ≡ (is_among (kept before k) x || (is_among ids k && ((n + 1) == x))))
    → ((k x : ℕ) → 1 ≤ x → x ≤ n → is_among (kept before k) x ≡ is_among (ids_of (naming x s.live)) k) → ((k x : ℕ) → is_among (kept before k) x ≡ true → (1 ≤ x) × (x ≤ n))
    → ((k x : ℕ) → 1 ≤ x → x ≤ n + 1 → is_among (kept after k) x ≡ is_among (ids_of (naming x s.live)) k) × ((k x : ℕ) → is_among (kept after k) x ≡ true → (1 ≤ x) × (x ≤ n + 1))
named-more s n before after ids is among named known = (
  λ k x low high. named-at k x low high (n + 1 == x) refl,
  λ k x i. known-at k x (or_cases (is_among (kept before k) x) (is_among ids k && (n + 1 == x)) (sym (among k x) ∙ i)),
)
  where
    or-end : (a b : Bool) → (a || (b && false)) ≡ a
    or-end true b = refl
    or-end false true = refl
    or-end false false = refl

    out : (k x : ℕ) → n < x → is_among (kept before k) x ≡ false
    out k x low = at (is_among (kept before k) x) refl
      where
        at : (t : Bool) → is_among (kept before k) x ≡ t → is_among (kept before k) x ≡ false
        at false e = e
        at true e = absurd (let h = (known k x e).1 in omega (arith, h, low))

    named-at : (k x : ℕ) → 1 ≤ x → x ≤ n + 1 → (t : Bool) → (n + 1 == x) ≡ t → is_among (kept after k) x ≡ is_among (ids_of (naming x s.live)) k
    named-at k x low high true e =
        let here = eqb-true (n + 1) x e in
        among k x ∙ ap₂ (λ a b. a || (is_among ids k && b)) (out k x (omega (arith, here))) e ∙ and-one (is_among ids k) ∙ ap (λ z. is_among z k) is ∙ ap (λ v. is_among (ids_of (naming v s.live)) k) here
      where
        and-one : (b : Bool) → (false || (b && true)) ≡ b
        and-one true = refl
        and-one false = refl
    named-at k x low high false e =
        among k x ∙ ap (λ b. is_among (kept before k) x || (is_among ids k && b)) e ∙ or-end (is_among (kept before k) x) (is_among ids k) ∙ named k x low (let d = eqb-false (n + 1) x e in omega (arith, high, d))

    known-at : (k x : ℕ) → (is_among (kept before k) x ≡ true) ⊎ ((is_among ids k && (n + 1 == x)) ≡ true) → (1 ≤ x) × (x ≤ n + 1)
    known-at k x (inl s) = let q = known k x s in (q.0, let h = q.1 in omega (arith, h))
    known-at k x (inr s) = let e = eqb-true (n + 1) x (and_parts (is_among ids k) (n + 1 == x) s).1 in (omega (arith, e), omega (arith, e))

-- two variables that share a constraint
pub share-known : (s : Stored) (x z : ℕ) → IsStored s → share (constraints_of s.live) x z ≡ true → ((1 ≤ x) × (x ≤ s.vars)) × ((1 ≤ z) × (z ≤ s.vars)) × (in_some (constraints_of s.live) x ≡ true) × (in_some (constraints_of s.live) z ≡ true)
share-known s x z stored e =
    let q = any-with (λ c. Fits s.vars c × ((f : Bounded → Bool) → f c ≡ true → list_any f (constraints_of s.live) ≡ true)) (λ c. names (named c) x && names (named c) z) (constraints_of s.live) (both (Fits s.vars) (λ c. (f : Bounded → Bool) → f c ≡ true → list_any f (constraints_of s.live) ≡ true) (constraints_of s.live) stored.formula (each-any (constraints_of s.live))) e in
    let parts = and_parts (names (named q.0) x) (names (named q.0) z) q.1 in
    let known = known-named s.vars q.0.guard q.0.lits q.2.0.within.guard q.2.0.within.lits in
    (names-known s.vars (named q.0) x known parts.0, names-known s.vars (named q.0) z known parts.1, q.2.1 (λ c. names (named c) x) parts.0, q.2.1 (λ c. names (named c) z) parts.1)
  where
    both : (P Q : Bounded → Type 0) (cs : List Bounded) → AllByRecursion P cs → AllByRecursion Q cs → AllByRecursion (λ c. P c × Q c) cs
    both P Q [] a b = tt
    both P Q (c ∷ cs) a b = ((a.0, b.0), both P Q cs a.1 b.1)

-- the id of a constraint that names a variable
pub id-of : (s : Stored) (x id : ℕ) → IsStored s → is_among (ids_of (naming x s.live)) id ≡ true → (p : Numbered) × (p.id ≡ id) × (names (named p.constraint) x ≡ true) × IsLive s p
id-of s x id stored i =
    let q = any-with (IsLive s) (λ p. (p.id == id) && names (named p.constraint) x) s.live (all-live s stored) (sym (among-chosen s (λ c. names (named c) x) id) ∙ i) in
    let both = and_parts (q.0.id == id) (names (named q.0.constraint) x) q.1 in
    (q.0, eqb-true q.0.id id both.0, both.1, q.2)

pub same-some : (a b : Bounded) (o : Option Bounded) → o ≡ Some a → o ≡ Some b → a ≡ b
same-some a b o e f = one (sym e ∙ f)
  where
    one : Some a ≡ Some b → a ≡ b
    one e = cc e

pub near-first : (s : Stored) (from : ℕ) (entries members : List (List ℕ)) → IsStored s → length entries ≡ s.vars → ((x : ℕ) → 1 ≤ x → x ≤ s.vars → kept entries (x - 1) ≡ ids_of (naming x s.live))
    → ((x : ℕ) → 1 ≤ x → x ≤ s.vars → AllByRecursion (λ k. k < length members) (ids_of (naming x s.live))) → ((k x : ℕ) → 1 ≤ x → x ≤ s.vars → is_among (kept members k) x ≡ is_among (ids_of (naming x s.live)) k)
    → ((k x : ℕ) → is_among (kept members k) x ≡ true → (1 ≤ x) × (x ≤ s.vars)) → IsNear s from entries members
near-first s from entries members stored long ids placed names-are known = record {
  long = long;
  placed = λ x low. elim (cases_lt s.vars x) [
    | inl out ↦ subst (AllByRecursion (λ k. k < length members)) (sym (get_or_past entries (x - 1) [] (omega (arith, long, out)))) tt
    | inr in' ↦ subst (AllByRecursion (λ k. k < length members)) (sym (ids x low in')) (placed x low in')
  ];
  sound = λ x z low alone some n. elim (cases_lt s.vars x) [
    | inl out ↦ absurd (true≢false (sym n ∙ ap (λ ks. is_near members ks z) (get_or_past entries (x - 1) [] (omega (arith, long, out)))))
    | inr in' ↦ sound x z low in' n
  ];
  complete = λ x z low alone after none e. complete x z e;
}
  where
    sound : (x z : ℕ) → 1 ≤ x → x ≤ s.vars → is_near members (kept entries (x - 1)) z ≡ true → share (constraints_of s.live) x z ≡ true
    sound x z low high n =
        let q = near-list members (ids_of (naming x s.live)) z (ap (λ ks. is_near members ks z) (sym (ids x low high)) ∙ n) in
        let k = known q.0 z q.1 in
        let p = id-of s x q.0 stored q.2 in
        let r = id-of s z q.0 stored (sym (names-are q.0 z k.0 k.1) ∙ q.1) in
        let same = same-some p.0.constraint r.0.constraint (constraint_at s.live q.0) (ap (constraint_at s.live) (sym p.1) ∙ p.3.own) (ap (constraint_at s.live) (sym r.1) ∙ r.3.own) in
        p.3.some (λ c. names (named c) x && names (named c) z) (and_from (names (named p.0.constraint) x) (names (named p.0.constraint) z) p.2 (ap (λ c. names (named c) z) same ∙ r.2))

    complete : (x z : ℕ) → share (constraints_of s.live) x z ≡ true → is_near members (kept entries (x - 1)) z ≡ true
    complete x z e =
        let kn = share-known s x z stored e in
        let q = any-with (λ p. (f : Numbered → Bool) → f p ≡ true → list_any f s.live ≡ true) (λ p. names (named p.constraint) x && names (named p.constraint) z) s.live (each-any s.live)
        (sym (any-map (λ p. p.constraint) (λ c. names (named c) x && names (named c) z) s.live) ∙ e) in
        let both = and_parts (names (named q.0.constraint) x) (names (named q.0.constraint) z) q.1 in
        let id = q.0.id in
        let there : (y : ℕ) → names (named q.0.constraint) y ≡ true → is_among (ids_of (naming y s.live)) q.0.id ≡ true = λ y h. among-chosen s (λ c. names (named c) y) id ∙ q.2 (λ p. (p.id == id) && names (named p.constraint) y) (and_from (id == id) (names (named q.0.constraint) y) (eq-eqb id id refl) h) in
        ap (λ ks. is_near members ks z) (ids x kn.0.0 kn.0.1) ∙ near-of members (ids_of (naming x s.live)) id z (there x both.0) (names-are id z kn.1.0 kn.1.1 ∙ there z both.1)
