-- A group of literals, ascending, and the clauses of two of them.
use Rattle.std.proofs.Common.{◌≡◌, ℕ, ◌≤◌, ◌==◌, Bool, true, false, not, cond, ◌&&◌, ◌||◌, List, [], ◌∷◌, ◌++◌, length, map, filter, drop, refl, sym, ap, ap₂, subst, ◌∙◌, inl, inr, arith, true≢false}
use Rattle.std.specs.Prelude.{nat_eq}
use Rattle.std.specs.List.{list_any, list_all, AllByRecursion}
use Rattle.std.specs.List.Sorted.{IsStrictlyIncreasing}
use Rattle.std.proofs.lemmas.Bool.{or_left, or_right, or_cases, and_parts, eqb-true, eq-eqb, ne_eqb, and_from}
use Rattle.std.proofs.lemmas.List.{length-map, append-nil, drop_all}
use Rattle.indexmap.specs.IndexSet.{insert_key}
use Rattle.kn_logic.specs.Literals.{Literal, is_same, has, names, AreDifferent}
use Rattle.kn_logic.specs.Constraints.{is_clause, named}
use Rattle.kn_logic.specs.Groups.{is_among, is_pair, is_binary, is_covered}
use Rattle.kn_logic.proofs.Public.{same_literal, same-refl, All-has, has-names}
use Rattle.kn_store.specs.Stores.{Numbered, Stored, IsStored, ids_of, naming, chosen}
use Rattle.kn_store.proofs.Public.{all-one, all-filter, IsOwn, own, rises}
use Rattle.kn_guess.specs.Seen.{passes}
use Rattle.kn_guess.specs.Sides.{sided}
use Rattle.kn_guess.specs.Pairing.{positives, covered_among, covered_ids}
use Rattle.kn_guess.proofs.Elements.{bool-same, any-with, each-any, any-map, any-filter, any-alike, all-among, own-among, any-among, among-append}
use Rattle.kn_guess.proofs.Rising.{numbers-one, rises-ids}
use Rattle.kn_guess.proofs.Lives.{clause-named}
use Rattle.kn_guess.proofs.Bordered.{the-literal, map-sided}
use Rattle.kn_guess.proofs.Taken.{among-chosen}
use Rattle.kn_guess.proofs.Joined.{own-literal}
use Rattle.kn_guess.proofs.Clique.{Differ, pair-lits, one-literal}
use Rattle.kn_guess.proofs.Apart.{apart-few, names-among, variables-apart}

-- the positive literals
insert-among : (set : List ℕ) (w v : ℕ) → is_among (insert_key nat_eq set w) v ≡ (is_among set v || (w == v))
insert-among set w v = at (list_any (nat_eq w) set) refl
  where
    at : (t : Bool) → list_any (nat_eq w) set ≡ t → is_among (cond t set (set ++ w ∷ [])) v ≡ (is_among set v || (w == v))
    at true e = sym (bool-same (is_among set v || (w == v)) (is_among set v)
        (λ o. elim (or_cases (is_among set v) (w == v) o) [ inl s ↦ s | inr s ↦ ap (is_among set) (sym (eqb-true w v s)) ∙ sym (any-among w set) ∙ e ])
        (λ o. or_left (is_among set v) (w == v) o))
    at false e = among-append set (w ∷ []) v ∙ ap (λ t. is_among set v || t) (last (w == v))
      where
        last : (b : Bool) → (b || false) ≡ b
        last true = refl
        last false = refl

positives-is : (set : List ℕ) (ls : List Literal) (v : ℕ) → is_among (positives set ls) v ≡ (is_among set v || has ls (the-literal v true))
positives-is set [] v = sym (none (is_among set v))
  where
    none : (b : Bool) → (b || false) ≡ b
    none true = refl
    none false = refl
positives-is set (l ∷ ls) v = at l.positive refl (positives-is (insert_key nat_eq set l.variable) ls v) (positives-is set ls v)
  where
    turned : (a b : ℕ) → (a == b) ≡ (b == a)
    turned a b = bool-same (a == b) (b == a) (λ e. eq-eqb b a (sym (eqb-true a b e))) (λ e. eq-eqb a b (sym (eqb-true b a e)))

    and-true : (b : Bool) → (b && true) ≡ b
    and-true true = refl
    and-true false = refl

    and-false : (b : Bool) → (b && false) ≡ false
    and-false true = refl
    and-false false = refl

    three : (a b c : Bool) → ((a || b) || c) ≡ (a || (b || c))
    three true b c = refl
    three false b c = refl

    at : (t : Bool) → l.positive ≡ t → is_among (positives (insert_key nat_eq set l.variable) ls) v ≡ (is_among (insert_key nat_eq set l.variable) v || has ls (the-literal v true))
        → is_among (positives set ls) v ≡ (is_among set v || has ls (the-literal v true))
        → is_among (positives (cond t (insert_key nat_eq set l.variable) set) ls) v ≡ (is_among set v || (is_same (the-literal v true) l || has ls (the-literal v true)))
    at true e on off = on ∙ ap (λ b. b || has ls (the-literal v true)) (insert-among set l.variable v) ∙ three (is_among set v) (l.variable == v) (has ls (the-literal v true))
        ∙ ap (λ b. is_among set v || (b || has ls (the-literal v true))) (turned l.variable v ∙ sym (ap (λ b. (v == l.variable) && b) e ∙ and-true (v == l.variable)))
    at false e on off = off ∙ ap (λ b. is_among set v || (b || has ls (the-literal v true))) (sym (ap (λ b. (v == l.variable) && b) e ∙ and-false (v == l.variable)))

-- the same literals, ascending
pub lits-ascend : (on vs : List ℕ) (lits : List Literal) → IsStrictlyIncreasing vs → lits ≡ map (sided on) vs → IsStrictlyIncreasing (map (λ l. l.variable) lits)
lits-ascend on vs lits up is = subst IsStrictlyIncreasing (sym (ap (map (λ l. l.variable)) is ∙ map-sided on vs)) up

pub lits-long : (group : List Literal) (on vs : List ℕ) (lits : List Literal) → AreDifferent group → ((v : ℕ) → is_among vs v ≡ is_among (map (λ l. l.variable) group) v) → lits ≡ map (sided on) vs → length group ≤ length lits
lits-long group on vs lits d same is =
    let few = apart-few (map (λ l. l.variable) group) vs (variables-apart group d)
    (all-one (λ v. is_among (map (λ l. l.variable) group) v ≡ true) (λ v. is_among vs v ≡ true) (λ v i. same v ∙ i) (map (λ l. l.variable) group) (own-among (map (λ l. l.variable) group))) in
    let a = length-map group (λ l. l.variable) in
    let b = ap length is ∙ length-map vs (sided on) in
    omega (arith, few, a, b)

pub lits-same : (group : List Literal) (on vs : List ℕ) (lits : List Literal) → AreDifferent group → ((v : ℕ) → is_among vs v ≡ is_among (map (λ l. l.variable) group) v) → on ≡ positives [] group → lits ≡ map (sided on) vs
    → (l : Literal) → has lits l ≡ has group l
lits-same group on vs lits d same is-on is l = ap (λ z. has z l) is ∙ bool-same (has (map (sided on) vs) l) (has group l) forth back
  where
    test : (v : ℕ) → list_any (nat_eq v) on ≡ has group (the-literal v true)
    test v = any-among v on ∙ ap (λ z. is_among z v) is-on ∙ positives-is [] group v

    of-name : (v : ℕ) → names group v ≡ true → (m : Literal) × (m.variable ≡ v) × (has group m ≡ true)
    of-name v e = let q = any-with (λ m. has group m ≡ true) (λ m. m.variable == v) group (own-literal group) e in (q.0, eqb-true q.0.variable v q.1, q.2)

    stands : (v : ℕ) → names group v ≡ true → (t : Bool) → has group (the-literal v true) ≡ t → has group (the-literal v t) ≡ true
    stands v e true f = f
    stands v e false f = let q = of-name v e in at q.0 q.1 q.2 q.0.positive refl
      where
        at : (m : Literal) → m.variable ≡ v → has group m ≡ true → (t : Bool) → m.positive ≡ t → has group (the-literal v false) ≡ true
        at m g i true k = absurd (true≢false (sym i ∙ ap (has group) (ap₂ the-literal g k) ∙ f))
        at m g i false k = sym (ap (has group) (ap₂ the-literal g k)) ∙ i

    forth : has (map (sided on) vs) l ≡ true → has group l ≡ true
    forth e =
        let q = any-with (λ v. is_among vs v ≡ true) (λ v. is_same l (sided on v)) vs (own-among vs) (sym (any-map (sided on) (is_same l) vs) ∙ e) in
        let v = q.0 in
        ap (has group) (same_literal l (sided on v) q.1) ∙ stands v (sym (names-among group v) ∙ sym (same v) ∙ q.2) (list_any (nat_eq v) on) (sym (test v))

    back : has group l ≡ true → has (map (sided on) vs) l ≡ true
    back e =
        let i = same l.variable ∙ names-among group l.variable ∙ has-names group l e in
        let q = any-with (λ v. (f : ℕ → Bool) → f v ≡ true → list_any f vs ≡ true) (λ v. v == l.variable) vs (each-any vs) i in
        any-map (sided on) (is_same l) vs ∙ q.2 (λ v. is_same l (sided on v)) (ap (λ v. is_same l (sided on v)) (eqb-true q.0 l.variable q.1) ∙ ap (λ b. is_same l (the-literal l.variable b)) (sign l.positive refl) ∙ same-refl l)
      where
        sign : (t : Bool) → l.positive ≡ t → list_any (nat_eq l.variable) on ≡ l.positive
        sign true f = test l.variable ∙ ap (λ b. has group (the-literal l.variable b)) (sym f) ∙ e ∙ sym f
        sign false f = test l.variable ∙ at (has group (the-literal l.variable true)) refl ∙ sym f
          where
            at : (t : Bool) → has group (the-literal l.variable true) ≡ t → t ≡ false
            at false g = refl
            at true g = absurd (true≢false (sym (ap (λ z. z.positive) (one-literal group l (the-literal l.variable true) d e g refl)) ∙ f))

-- ids with a clause of two of the border
covered-own : (live ps : List Numbered) (border : List Literal) → AllByRecursion (IsOwn live) ps → covered_among live border (ids_of ps) ≡ ids_of (filter (λ p. is_covered border p.constraint) ps)
covered-own live [] border h = refl
covered-own live (p ∷ ps) border h =
    ap (λ o. cond (passes (is_covered border) o) (p.id ∷ covered_among live border (ids_of ps)) (covered_among live border (ids_of ps))) h.0
    ∙ at (is_covered border p.constraint) (covered-own live ps border h.1)
  where
    at : (t : Bool) → covered_among live border (ids_of ps) ≡ ids_of (filter (λ p. is_covered border p.constraint) ps)
        → cond t (p.id ∷ covered_among live border (ids_of ps)) (covered_among live border (ids_of ps)) ≡ ids_of (cond t (p ∷ filter (λ p. is_covered border p.constraint) ps) (filter (λ p. is_covered border p.constraint) ps))
    at true e = ap (λ z. p.id ∷ z) e
    at false e = e

abbrev named-covered : Stored → List Literal → ℕ → ℕ → Bool
named-covered s border id x = list_any (λ p. (p.id == id) && (is_covered border p.constraint && names (named p.constraint) x)) s.live

among-named : (s : Stored) (border : List Literal) (x id : ℕ) → IsStored s → is_among (covered_among s.live border (ids_of (naming x s.live))) id ≡ named-covered s border id x
among-named s border x id stored =
    ap (λ z. is_among z id) (covered-own s.live (naming x s.live) border (all-filter (IsOwn s.live) (λ p. names (named p.constraint) x) s.live (own s.live (rises (ids_of s.live) stored.ascending))))
    ∙ any-map (λ p. p.id) (λ v. v == id) (filter (λ p. is_covered border p.constraint) (naming x s.live))
    ∙ any-filter (λ p. p.id == id) (λ p. is_covered border p.constraint) (naming x s.live)
    ∙ any-filter (λ p. (p.id == id) && is_covered border p.constraint) (λ p. names (named p.constraint) x) s.live
    ∙ any-alike (λ p. ((p.id == id) && is_covered border p.constraint) && names (named p.constraint) x) (λ p. (p.id == id) && (is_covered border p.constraint && names (named p.constraint) x))
    (λ p. three (p.id == id) (is_covered border p.constraint) (names (named p.constraint) x)) s.live
  where
    three : (a b c : Bool) → ((a && b) && c) ≡ (a && (b && c))
    three true b c = refl
    three false b c = refl

among-covered : (s : Stored) (border : List Literal) (skipped : ℕ) (lits : List Literal) (id : ℕ) → IsStored s
    → is_among (covered_ids s.live border skipped lits) id ≡ list_any (λ l. not (l.variable == skipped) && named-covered s border id l.variable) lits
among-covered s border skipped [] id stored = refl
among-covered s border skipped (l ∷ lits) id stored =
    among-append (cond (l.variable == skipped) [] (covered_among s.live border (ids_of (naming l.variable s.live)))) (covered_ids s.live border skipped lits) id
    ∙ ap₂ (λ a b. a || b) (at (l.variable == skipped)) (among-covered s border skipped lits id stored)
  where
    at : (t : Bool) → is_among (cond t [] (covered_among s.live border (ids_of (naming l.variable s.live)))) id ≡ (not t && named-covered s border id l.variable)
    at true = refl
    at false = among-named s border l.variable id stored

ids-covered : (s : Stored) (border : List Literal) (skipped id : ℕ) → IsStored s → is_among (covered_ids s.live border skipped border) id ≡ is_among (ids_of (chosen (is_covered border) s.live)) id
ids-covered s border skipped id stored = among-covered s border skipped border id stored ∙ bool-same (list_any (λ l. not (l.variable == skipped) && named-covered s border id l.variable) border) (is_among (ids_of (chosen (is_covered border) s.live)) id) forth back
  where
    forth : list_any (λ l. not (l.variable == skipped) && named-covered s border id l.variable) border ≡ true → is_among (ids_of (chosen (is_covered border) s.live)) id ≡ true
    forth e =
        let q = any-with (λ l. has border l ≡ true) (λ l. not (l.variable == skipped) && named-covered s border id l.variable) border (own-literal border) e in
        let there = (and_parts (not (q.0.variable == skipped)) (named-covered s border id q.0.variable) q.1).1 in
        let p = any-with (λ p. (f : Numbered → Bool) → f p ≡ true → list_any f s.live ≡ true) (λ p. (p.id == id) && (is_covered border p.constraint && names (named p.constraint) q.0.variable)) s.live (each-any s.live) there in
        let a = and_parts (p.0.id == id) (is_covered border p.0.constraint && names (named p.0.constraint) q.0.variable) p.1 in
        let b = and_parts (is_covered border p.0.constraint) (names (named p.0.constraint) q.0.variable) a.1 in
        among-chosen s (is_covered border) id ∙ p.2 (λ r. (r.id == id) && is_covered border r.constraint) (and_from (p.0.id == id) (is_covered border p.0.constraint) a.0 b.0)

    found : (p : Numbered) → ((f : Numbered → Bool) → f p ≡ true → list_any f s.live ≡ true) → (p.id == id) ≡ true → is_covered border p.constraint ≡ true → (l : Literal) → has border l ≡ true → has p.constraint.lits l ≡ true → (l.variable == skipped) ≡ false
        → list_any (λ l. not (l.variable == skipped) && named-covered s border id l.variable) border ≡ true
    found p some same cover l i j d =
        let binary = and_parts (is_binary p.constraint) (list_all (has border) p.constraint.lits) cover in
        let clause = and_parts (is_clause p.constraint) (is_pair p.constraint.lits) binary.0 in
        let name : names (named p.constraint) l.variable ≡ true = ap (λ z. names z l.variable) (clause-named p.constraint clause.0) ∙ has-names p.constraint.lits l j in
        let there = some (λ r. (r.id == id) && (is_covered border r.constraint && names (named r.constraint) l.variable))
        (and_from (p.id == id) (is_covered border p.constraint && names (named p.constraint) l.variable) same (and_from (is_covered border p.constraint) (names (named p.constraint) l.variable) cover name)) in
        let q = any-with (λ m. (f : Literal → Bool) → f m ≡ true → list_any f border ≡ true) (is_same l) border (each-any border) i in
        let is = same_literal l q.0 q.1 in
        q.2 (λ l. not (l.variable == skipped) && named-covered s border id l.variable)
        (subst (λ m. (not (m.variable == skipped) && named-covered s border id m.variable) ≡ true) is (and_from (not (l.variable == skipped)) (named-covered s border id l.variable) (ap not d) there))

    back : is_among (ids_of (chosen (is_covered border) s.live)) id ≡ true → list_any (λ l. not (l.variable == skipped) && named-covered s border id l.variable) border ≡ true
    back e =
        let p = any-with (λ p. (f : Numbered → Bool) → f p ≡ true → list_any f s.live ≡ true) (λ p. (p.id == id) && is_covered border p.constraint) s.live (each-any s.live) (sym (among-chosen s (is_covered border) id) ∙ e) in
        let both = and_parts (p.0.id == id) (is_covered border p.0.constraint) p.1 in
        let binary = and_parts (is_binary p.0.constraint) (list_all (has border) p.0.constraint.lits) both.1 in
        let clause = and_parts (is_clause p.0.constraint) (is_pair p.0.constraint.lits) binary.0 in
        let lits = pair-lits p.0.constraint.lits clause.1 in
        let all = subst (λ z. list_all (has border) z ≡ true) lits.2 binary.1 in
        let first = and_parts (has border lits.0) (has border lits.1 && true) all in
        let second = and_parts (has border lits.1) true first.1 in
        either p.0 p.2 both.0 both.1 lits.0 lits.1 lits.2 lits.3 first.0 second.0 (lits.0.variable == skipped) refl
      where
        either : (p : Numbered) → ((f : Numbered → Bool) → f p ≡ true → list_any f s.live ≡ true) → (p.id == id) ≡ true → is_covered border p.constraint ≡ true
            → (a b : Literal) → p.constraint.lits ≡ a ∷ b ∷ [] → Differ a b → has border a ≡ true → has border b ≡ true → (t : Bool) → (a.variable == skipped) ≡ t
            → list_any (λ l. not (l.variable == skipped) && named-covered s border id l.variable) border ≡ true
        either p some same cover a b is d i j false e = found p some same cover a i (ap (λ z. has z a) is ∙ or_left (is_same a a) (has (b ∷ []) a) (same-refl a)) e
        either p some same cover a b is d i j true e = found p some same cover b j (ap (λ z. has z b) is ∙ or_right (is_same b a) (has (b ∷ []) b) (or_left (is_same b b) false (same-refl b)))
            (ne_eqb b.variable skipped (λ f. true≢false (sym (eq-eqb a.variable b.variable (eqb-true a.variable skipped e ∙ sym f)) ∙ d)))

pub ids-of-cover : (s : Stored) (border : List Literal) (skipped : ℕ) (all ids : List ℕ) → IsStored s → all ≡ covered_ids s.live border skipped border → IsStrictlyIncreasing ids → ((x : ℕ) → is_among ids x ≡ is_among all x) → ids ≡ ids_of (chosen (is_covered border) s.live)
ids-of-cover s border skipped all ids stored is up same =
    numbers-one ids (ids_of (chosen (is_covered border) s.live)) (rises ids up) (rises-ids (λ p. is_covered border p.constraint) s.live (rises (ids_of s.live) stored.ascending))
    (λ x. same x ∙ ap (λ z. is_among z x) is ∙ ids-covered s border skipped x stored)

-- what holds of all the literals of a group holds of these
pub all-members : (P : Literal → Type 0) (group lits : List Literal) → ((l : Literal) → has lits l ≡ has group l) → AllByRecursion P group → AllByRecursion P lits
all-members P group lits same h = all-one (λ l. has lits l ≡ true) P (λ l i. All-has P group l h (sym (same l) ∙ i)) lits (own-literal lits)

-- a loop over a list at its end
pub end-variables : (all : List ℕ) (group : List Literal) (k : ℕ) → all ++ map (λ l. l.variable) (drop k group) ≡ map (λ l. l.variable) group → length group ≤ k → all ≡ map (λ l. l.variable) group
end-variables all group k e h = sym (append-nil all) ∙ ap (λ z. all ++ map (λ l. l.variable) z) (sym (drop_all k group h)) ∙ e

pub end-positives : (set : List ℕ) (group : List Literal) (k : ℕ) → positives set (drop k group) ≡ positives [] group → length group ≤ k → set ≡ positives [] group
end-positives set group k e h = ap (positives set) (sym (drop_all k group h)) ∙ e

pub counted-variables : (group : List Literal) → AllByRecursion (λ l. 1 ≤ l.variable) group → AllByRecursion (λ v. 1 ≤ v) (map (λ l. l.variable) group)
counted-variables [] h = tt
counted-variables (l ∷ group) h = (h.0, counted-variables group h.1)

pub counted-same : (group : List Literal) (all vs : List ℕ) → AllByRecursion (λ l. 1 ≤ l.variable) group → all ≡ map (λ l. l.variable) group → ((v : ℕ) → is_among vs v ≡ is_among all v) → AllByRecursion (λ v. 1 ≤ v) vs
counted-same group all vs h is same = all-one (λ v. is_among vs v ≡ true) (λ v. 1 ≤ v)
    (λ v i. all-among (λ v. 1 ≤ v) (map (λ l. l.variable) group) v (counted-variables group h) (ap (λ z. is_among z v) (sym is) ∙ sym (same v) ∙ i)) vs (own-among vs)
