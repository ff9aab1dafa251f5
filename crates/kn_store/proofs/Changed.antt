-- The lists of the variables of some literals are changed: what each list is then.
use Rattle.std.proofs.Common.{◌≡◌, ℕ, ◌+◌, ◌-◌, ◌<◌, ◌≤◌, ◌==◌, Bool, true, false, not, ◌||◌, cond, List, [], ◌∷◌, ◌++◌, length, set, take, get_or, suc, Option, Some, None, IfSome, Result, Ok, Err, OnErr, refl, sym, ap, subst, ◌∙◌, arith}
use Rattle.std.specs.Prelude.{zero, min, option_to_list}
use Rattle.std.specs.List.{AllByRecursion}
use Rattle.std.proofs.lemmas.Bool.{cond-true, cond-false, or_left, or_right, eqb-true, eqb-false, eq-eqb, ne_eqb}
use Rattle.std.proofs.lemmas.List.{length-set, get_or-set_same, get_or-set_other, get_or_default, take_more, take_min, take-append-le}
use Rattle.kn_logic.proofs.Public.{All-push, known_at}
use Rattle.kn_logic.specs.Literals.{Literal, names, IsKnown, AreKnown}
use Rattle.kn_logic.specs.Constraints.{Bounded, IsWithin, named}
use Rattle.kn_logic.specs.Groups.{is_among}
use Rattle.kn_store.specs.Kept.{with_id, without_id, changed}
use Rattle.kn_store.proofs.Places.{not-there}

pub length-changed : (change : List ℕ → List ℕ) (lists : List (List ℕ)) (lits : List Literal) → length (changed change lists lits) ≡ length lists
length-changed change lists [] = refl
length-changed change lists (l ∷ lits) =
    length-changed change (set lists (l.variable - 1) (change (get_or lists (l.variable - 1) []))) lits ∙ length-set lists (l.variable - 1) (change (get_or lists (l.variable - 1) []))

pub changed-append : (change : List ℕ → List ℕ) (lists : List (List ℕ)) (a b : List Literal) → changed change (changed change lists a) b ≡ changed change lists (a ++ b)
changed-append change lists [] b = refl
changed-append change lists (l ∷ a) b = changed-append change (set lists (l.variable - 1) (change (get_or lists (l.variable - 1) []))) a b

-- the list of a variable, where to change twice is to change once
pub at-changed : (change : List ℕ → List ℕ) → ((ids : List ℕ) → change (change ids) ≡ change ids) → (lists : List (List ℕ)) (lits : List Literal) (x : ℕ) → AreKnown (length lists) lits → 1 ≤ x
    → get_or (changed change lists lits) (x - 1) [] ≡ cond (names lits x) (change (get_or lists (x - 1) [])) (get_or lists (x - 1) [])
at-changed change twice lists [] x known low = refl
at-changed change twice lists (l ∷ lits) x known low =
    at (l.variable == x) refl (at-changed change twice next lits x (subst (λ n. AreKnown n lits) (sym (length-set lists (l.variable - 1) (change (get_or lists (l.variable - 1) [])))) known.1) low)
  where
    next : List (List ℕ)
    next = set lists (l.variable - 1) (change (get_or lists (l.variable - 1) []))

    old : List ℕ
    old = get_or lists (x - 1) []

    once : (t : Bool) → cond t (change (change old)) (change old) ≡ change old
    once true = twice old
    once false = refl

    at : (t : Bool) → (l.variable == x) ≡ t → get_or (changed change next lits) (x - 1) [] ≡ cond (names lits x) (change (get_or next (x - 1) [])) (get_or next (x - 1) [])
        → get_or (changed change next lits) (x - 1) [] ≡ cond (l.variable == x || names lits x) (change old) old
    at true e more =
        let same = eqb-true l.variable x e in
        let here : get_or next (x - 1) [] ≡ change old =
        ap (λ v. get_or (set lists (v - 1) (change (get_or lists (v - 1) []))) (x - 1) []) same
        ∙ get_or-set_same lists (x - 1) (change old) [] (let k = known.0 in omega (arith, k, same, low)) in
        more ∙ ap (λ z. cond (names lits x) (change z) z) here ∙ once (names lits x) ∙ sym (cond-true (l.variable == x || names lits x) (change old) old (or_left (l.variable == x) (names lits x) e))
    at false e more =
        let here : get_or next (x - 1) [] ≡ old =
        get_or-set_other lists (l.variable - 1) (x - 1) (change (get_or lists (l.variable - 1) [])) [] (λ s. eqb-false l.variable x e (let k = known.0 in omega (arith, s, k, low))) in
        more ∙ ap (λ z. cond (names lits x) (change z) z) here ∙ ap (λ t. cond (t || names lits x) (change old) old) (sym e)

-- an id comes and leaves once
among-end : (ids : List ℕ) (id : ℕ) → is_among (ids ++ id ∷ []) id ≡ true
among-end [] id = or_left (id == id) false (eq-eqb id id refl)
among-end (x ∷ ids) id = or_right (x == id) (is_among (ids ++ id ∷ []) id) (among-end ids id)

pub with-twice : (id : ℕ) (ids : List ℕ) → with_id id (with_id id ids) ≡ with_id id ids
with-twice id ids = at (is_among ids id) refl
  where
    at : (t : Bool) → is_among ids id ≡ t → with_id id (cond t ids (ids ++ id ∷ [])) ≡ cond t ids (ids ++ id ∷ [])
    at true e = cond-true (is_among ids id) ids (ids ++ id ∷ []) e
    at false e = cond-true (is_among (ids ++ id ∷ []) id) (ids ++ id ∷ []) ((ids ++ id ∷ []) ++ id ∷ []) (among-end ids id)

pub without-twice : (id : ℕ) (ids : List ℕ) → without_id id (without_id id ids) ≡ without_id id ids
without-twice id [] = refl
without-twice id (x ∷ ids) = at (not (x == id)) refl (without-twice id ids)
  where
    at : (t : Bool) → not (x == id) ≡ t → without_id id (without_id id ids) ≡ without_id id ids → without_id id (cond t (x ∷ without_id id ids) (without_id id ids)) ≡ cond t (x ∷ without_id id ids) (without_id id ids)
    at true e more = cond-true (not (x == id)) (x ∷ without_id id (without_id id ids)) (without_id id (without_id id ids)) e ∙ ap (λ z. x ∷ z) more
    at false e more = more

-- an id that comes and leaves
pub undone : (id : ℕ) (ids : List ℕ) → AllByRecursion (λ i. i < id) ids → without_id id (with_id id ids) ≡ ids
undone id ids low = ap (without_id id) (cond-false (is_among ids id) ids (ids ++ id ∷ []) (not-there ids id low)) ∙ end ids low
  where
    end : (ids : List ℕ) → AllByRecursion (λ i. i < id) ids → without_id id (ids ++ id ∷ []) ≡ ids
    end [] low = cond-false (not (id == id)) (id ∷ []) [] (ap not (eq-eqb id id refl))
    end (x ∷ ids) low =
        cond-true (not (x == id)) (x ∷ without_id id (ids ++ id ∷ [])) (without_id id (ids ++ id ∷ [])) (ap not (ne_eqb x id (λ e. absurd (omega (arith, e, low.0)))))
        ∙ ap (λ z. x ∷ z) (end ids low.1)

-- literals of a front
pub names-front : (k : ℕ) (lits : List Literal) (x : ℕ) → names (take k lits) x ≡ true → names lits x ≡ true
names-front zero lits x e = absurd cc
names-front (suc k) [] x e = e
names-front (suc k) (l ∷ lits) x e = at (l.variable == x) refl e (names-front k lits x)
  where
    at : (t : Bool) → (l.variable == x) ≡ t → (t || names (take k lits) x) ≡ true → (names (take k lits) x ≡ true → names lits x ≡ true) → (l.variable == x || names lits x) ≡ true
    at true s e more = or_left (l.variable == x) (names lits x) s
    at false s e more = or_right (l.variable == x) (names lits x) (more e)

pub known-front : (vars k : ℕ) (lits : List Literal) → AreKnown vars lits → AreKnown vars (take k lits)
known-front vars zero lits known = tt
known-front vars (suc k) [] known = tt
known-front vars (suc k) (l ∷ lits) known = (known.0, known-front vars k lits known.1)

pub known-named : (vars : ℕ) (c : Bounded) → IsWithin vars c → AreKnown vars (named c)
known-named vars c within = at c.guard within.guard within.lits
  where
    at : (guard : Option Literal) → IfSome guard (IsKnown vars) → AreKnown vars c.lits → AreKnown vars (option_to_list guard ++ c.lits)
    at None g k = k
    at (Some guard) g k = (g, k)

-- one literal more
pub changed-more : (change : List ℕ → List ℕ) (start now : List (List ℕ)) (lits : List Literal) (i v : ℕ) (l : Literal) (read new : List ℕ) → now ≡ changed change start (take i lits) → i < length lits → l ≡ get_or lits i l → v ≡ l.variable
    → read ≡ get_or now (v - 1) read → v - 1 < length now → new ≡ change read → set now (v - 1) new ≡ changed change start (take (i + 1) lits)
changed-more change start now lits i v l read new is low one var at in' turned =
    let there : new ≡ change (get_or now (v - 1) []) = turned ∙ ap change (at ∙ get_or_default now (v - 1) read [] in') in
    ap (set now (v - 1)) there
    ∙ ap (λ w. set now (w - 1) (change (get_or now (w - 1) []))) var
    ∙ ap (λ z. changed change z (l ∷ [])) is
    ∙ changed-append change start (take i lits) (l ∷ [])
    ∙ ap (changed change start) (ap (λ z. take i lits ++ z ∷ []) one ∙ sym (take_more lits i l low))

pub low-with : (id : ℕ) (ids : List ℕ) → AllByRecursion (λ i. i ≤ id) ids → AllByRecursion (λ i. i ≤ id) (with_id id ids)
low-with id ids low = at (is_among ids id)
  where
    at : (t : Bool) → AllByRecursion (λ i. i ≤ id) (cond t ids (ids ++ id ∷ []))
    at true = low
    at false = All-push (λ i. i ≤ id) ids id low (omega arith)

pub low-set : (P : List ℕ → Type 0) (lists : List (List ℕ)) (j : ℕ) (new : List ℕ) → ((k : ℕ) → P (get_or lists k [])) → P new → (k : ℕ) → P (get_or (set lists j new) k [])
low-set P [] j new h p k = h k
low-set P (x ∷ lists) zero new h p zero = p
low-set P (x ∷ lists) zero new h p (suc k) = h (suc k)
low-set P (x ∷ lists) (suc j) new h p zero = h zero
low-set P (x ∷ lists) (suc j) new h p (suc k) = low-set P lists j new (λ n. h (suc n)) p k

-- the list that was read
pub low-read : (P : List ℕ → Type 0) (lists : List (List ℕ)) (k : ℕ) (read : List ℕ) → ((j : ℕ) → P (get_or lists j [])) → k < length lists → read ≡ get_or lists k read → P read
low-read P lists k read h in' at = subst P (sym (at ∙ get_or_default lists k read [] in')) (h k)

pub on-err : {T E P : Type 0} (r : Result T E) → P → OnErr r P
on-err (Ok x) p = tt
on-err (Err e) p = p

-- the literal at a place
pub known-read : (vars : ℕ) (lits : List Literal) (k : ℕ) (l : Literal) → AreKnown vars lits → k < length lits → l ≡ get_or lits k l → IsKnown vars l
known-read vars lits k l known in' at = subst (IsKnown vars) (sym at) (known_at vars lits k l known in')

-- fronts of two lists that follow each other
pub front-first : (k : ℕ) (a b : List Literal) → take k a ≡ take (min k (length a)) (a ++ b)
front-first k a b = sym (take_min k a) ∙ sym (take-append-le (min k (length a)) a b (omega arith))

pub front-both : (k : ℕ) (a b : List Literal) → a ++ take k b ≡ take (length a + k) (a ++ b)
front-both k [] b = ap (λ n. take n b) (let e : k ≡ 0 + k = omega arith in e)
front-both k (x ∷ a) b = ap (λ z. x ∷ z) (front-both k a b) ∙ ap (λ n. take n (x ∷ (a ++ b))) (let e : suc (length a + k) ≡ suc (length a) + k = omega arith in e)

pub err-weaker : {T E P Q : Type 0} (r : Result T E) → (P → Q) → OnErr r P → OnErr r Q
err-weaker (Ok x) f h = tt
err-weaker (Err e) f h = f h
