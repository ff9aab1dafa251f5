-- Flags of the variables that constraints mark.
use Rattle.std.proofs.Common.{◌≡◌, ℕ, suc, ◌+◌, ◌-◌, ◌≤◌, ◌<◌, ◌==◌, Bool, true, false, not, cond, ◌&&◌, ◌||◌, List, [], ◌∷◌, ◌++◌, length, map, set, get_or, replicate, Option, Some, None, refl, sym, ap, ap₂, ◌∙◌, inl, inr, arith, true≢false}
use Rattle.std.specs.Prelude.{zero}
use Rattle.std.specs.List.{list_any, range_with_len, AllByRecursion}
use Rattle.std.proofs.lemmas.Bool.{or_left, or_right, and_parts, eqb-true, eqb-false, eq-eqb, cases_lt, and_from}
use Rattle.std.proofs.lemmas.List.{length-set, get_or-set_same, get_or-set_other, get_or-replicate, length-replicate, length-map, get_or-map, get_or_append_left, get_or_push}
use Rattle.kn_logic.specs.Literals.{Literal, names, has, is_same, AreKnown}
use Rattle.kn_logic.specs.Constraints.{Bounded, is_clause, named, Fits}
use Rattle.kn_logic.specs.Groups.{is_among, is_binary, is_pair}
use Rattle.kn_store.specs.Stores.{Numbered, Stored, IsStored, constraints_of, ids_of, naming, constraint_at}
use Rattle.kn_store.proofs.Public.{all-two}
use Rattle.kn_guess.specs.declared.marks.Mark.{Mark}
use Rattle.kn_guess.specs.declared.marks.Mark.TheVariants.{Klause, Binary, Positive, Negative}
use Rattle.kn_guess.specs.Guesses.{in_klause, in_binary, stands, is_seed}
use Rattle.kn_guess.specs.Seen.{IsSeen, passes}
use Rattle.kn_guess.specs.Flags.{marks, marked_in, raised, AreMarked}
use Rattle.kn_guess.proofs.Elements.{bool-same, any-with, each-any, any-map, any-alike, all-among}
use Rattle.kn_guess.proofs.Lives.{IsLive, all-live, clause-named}
use Rattle.kn_guess.proofs.Taken.{among-chosen}
use Rattle.kn_guess.proofs.Bordered.{the-literal}
use Rattle.kn_guess.proofs.Entered.{found-all}
use Rattle.kn_guess.proofs.After.{known-named}
use Rattle.kn_guess.proofs.Walked.{any-in}

-- one constraint
raised-long : (mark : Mark) (c : Bounded) (flags : List Bool) (ls : List Literal) → length (raised mark c flags ls) ≡ length flags
raised-long mark c flags [] = refl
raised-long mark c flags (l ∷ ls) = raised-long mark c (cond (marks mark c l) (set flags (l.variable - 1) true) flags) ls ∙ at (marks mark c l)
  where
    at : (t : Bool) → length (cond t (set flags (l.variable - 1) true) flags) ≡ length flags
    at true = length-set flags (l.variable - 1) true
    at false = refl

abbrev marked_by : Mark → Bounded → ℕ → List Literal → Bool
marked_by mark c x ls = list_any (λ l. (l.variable == x) && marks mark c l) ls

raised-is : (mark : Mark) (c : Bounded) (vars x : ℕ) (flags : List Bool) (ls : List Literal) → AreKnown vars ls → 1 ≤ x → x - 1 < length flags → get_or (raised mark c flags ls) (x - 1) false ≡ (get_or flags (x - 1) false || marked_by mark c x ls)
raised-is mark c vars x flags [] known low in' = sym (none (get_or flags (x - 1) false))
  where
    none : (b : Bool) → (b || false) ≡ b
    none true = refl
    none false = refl
raised-is mark c vars x flags (l ∷ ls) known low in' =
    raised-is mark c vars x next ls known.1 low (let long = same (marks mark c l) in omega (arith, in', long))
    ∙ ap (λ b. b || marked_by mark c x ls) (one (marks mark c l) (l.variable == x) refl)
    ∙ three (get_or flags (x - 1) false) ((l.variable == x) && marks mark c l) (marked_by mark c x ls)
  where
    next : List Bool
    next = cond (marks mark c l) (set flags (l.variable - 1) true) flags

    same : (t : Bool) → length (cond t (set flags (l.variable - 1) true) flags) ≡ length flags
    same true = length-set flags (l.variable - 1) true
    same false = refl

    three : (a b c : Bool) → ((a || b) || c) ≡ (a || (b || c))
    three true b c = refl
    three false b c = refl

    or-true : (b : Bool) → true ≡ (b || true)
    or-true true = refl
    or-true false = refl

    or-false : (b : Bool) → b ≡ (b || false)
    or-false true = refl
    or-false false = refl

    one : (t u : Bool) → (l.variable == x) ≡ u → get_or (cond t (set flags (l.variable - 1) true) flags) (x - 1) false ≡ (get_or flags (x - 1) false || (u && t))
    one true true e = ap (λ v. get_or (set flags (v - 1) true) (x - 1) false) (eqb-true l.variable x e) ∙ get_or-set_same flags (x - 1) true false in' ∙ or-true (get_or flags (x - 1) false)
    one true false e = get_or-set_other flags (l.variable - 1) (x - 1) true false (λ s. eqb-false l.variable x e (let k = known.0.0 in omega (arith, s, k, low))) ∙ or-false (get_or flags (x - 1) false)
    one false true e = or-false (get_or flags (x - 1) false)
    one false false e = or-false (get_or flags (x - 1) false)

-- the constraints of the ids so far
abbrev pub passed : Mark → List Numbered → ℕ → ℕ → Bool
passed mark live x n = list_any (λ id. passes (marked_in mark x) (constraint_at live id)) (range_with_len 0 n)

pub record ArePassed (mark : Mark) (s : Stored) (n : ℕ) (flags : List Bool) : Type 0 where
  pub long : length flags ≡ s.vars
  pub says : (x : ℕ) → 1 ≤ x → x ≤ s.vars → get_or flags (x - 1) false ≡ passed mark s.live x n

pub passed-first : (mark : Mark) (s : Stored) (flags : List Bool) → flags ≡ replicate s.vars false → ArePassed mark s 0 flags
passed-first mark s flags e = record {
  long = ap length e ∙ length-replicate s.vars false;
  says = λ x low high. ap (λ z. get_or z (x - 1) false) e ∙ get_or-replicate s.vars (x - 1) false false (omega (arith, low, high));
}

range-any : (f : ℕ → Bool) (from n : ℕ) → list_any f (range_with_len from (n + 1)) ≡ (list_any f (range_with_len from n) || f (from + n))
range-any f from n = ap (λ m. list_any f (range_with_len from m)) (let e : n + 1 ≡ suc n = omega arith in e) ∙ at from n
  where
    three : (a b c : Bool) → (a || (b || c)) ≡ ((a || b) || c)
    three true b c = refl
    three false b c = refl

    last : (b : Bool) → (b || false) ≡ b
    last true = refl
    last false = refl

    at : (from n : ℕ) → list_any f (range_with_len from (suc n)) ≡ (list_any f (range_with_len from n) || f (from + n))
    at from zero = last (f from) ∙ ap f (let e : from ≡ from + 0 = omega arith in e)
    at from (suc n) = ap (λ b. f from || b) (at (from + 1) n) ∙ three (f from) (list_any f (range_with_len (from + 1) n)) (f (from + 1 + n))
        ∙ ap (λ v. (f from || list_any f (range_with_len (from + 1) n)) || f v) (let e : from + 1 + n ≡ from + suc n = omega arith in e)

passed-more : (mark : Mark) (s : Stored) (x n : ℕ) → passed mark s.live x (n + 1) ≡ (passed mark s.live x n || passes (marked_in mark x) (constraint_at s.live n))
passed-more mark s x n = range-any (λ id. passes (marked_in mark x) (constraint_at s.live id)) 0 n
    ∙ ap (λ v. passed mark s.live x n || passes (marked_in mark x) (constraint_at s.live v)) (let e : 0 + n ≡ n = omega arith in e)

known-lits : (s : Stored) (id : ℕ) (c : Bounded) → IsStored s → constraint_at s.live id ≡ Some c → AreKnown s.vars (named c)
known-lits s id c stored e = let f = found-all (Fits s.vars) s.live id c e stored.formula in known-named s.vars c.guard c.lits f.within.guard f.within.lits

pub passed-some : (mark : Mark) (s : Stored) (n : ℕ) (flags new : List Bool) (c : Bounded) → IsStored s → ArePassed mark s n flags → constraint_at s.live n ≡ Some c → new ≡ raised mark c flags (named c) → ArePassed mark s (n + 1) new
passed-some mark s n flags new c stored h e is = record {
  long = ap length is ∙ raised-long mark c flags (named c) ∙ h.long;
  says = λ x low high.
      ap (λ z. get_or z (x - 1) false) is ∙ raised-is mark c s.vars x flags (named c) (known-lits s n c stored e) low (let long = h.long in omega (arith, long, low, high))
      ∙ ap (λ b. b || marked_in mark x c) (h.says x low high) ∙ sym (passed-more mark s x n ∙ ap (λ o. passed mark s.live x n || passes (marked_in mark x) o) e);
}

pub passed-none : (mark : Mark) (s : Stored) (n : ℕ) (flags : List Bool) → ArePassed mark s n flags → constraint_at s.live n ≡ None → ArePassed mark s (n + 1) flags
passed-none mark s n flags h e = record {
  long = h.long;
  says = λ x low high. h.says x low high ∙ sym (passed-more mark s x n ∙ ap (λ o. passed mark s.live x n || passes (marked_in mark x) o) e ∙ none (passed mark s.live x n));
}
  where
    none : (b : Bool) → (b || false) ≡ b
    none true = refl
    none false = refl

-- in the end all that name the variable were passed
in-range : (from n v : ℕ) → from ≤ v → v < from + n → is_among (range_with_len from n) v ≡ true
in-range from zero v low high = absurd (omega (arith, low, high))
in-range from (suc n) v low high = at (from == v) refl (λ d. in-range (from + 1) n v (omega (arith, low, d)) (omega (arith, high)))
  where
    at : (t : Bool) → (from == v) ≡ t → ((from ≡ v → ⊥) → is_among (range_with_len (from + 1) n) v ≡ true) → ((from == v) || is_among (range_with_len (from + 1) n) v) ≡ true
    at true e more = or_left (from == v) (is_among (range_with_len (from + 1) n) v) e
    at false e more = or_right (from == v) (is_among (range_with_len (from + 1) n) v) (more (eqb-false from v e))

marked-names : (mark : Mark) (x : ℕ) (c : Bounded) → marked_in mark x c ≡ true → names (named c) x ≡ true
marked-names mark x c e =
    let q = any-with (λ l. (f : Literal → Bool) → f l ≡ true → list_any f (named c) ≡ true) (λ l. (l.variable == x) && marks mark c l) (named c) (each-any (named c)) e in
    q.2 (λ l. l.variable == x) (and_parts (q.0.variable == x) (marks mark c q.0) q.1).0

pub passed-all : (mark : Mark) (s : Stored) (end : ℕ) (flags : List Bool) → IsStored s → ArePassed mark s end flags → ((x : ℕ) → 1 ≤ x → x ≤ s.vars → AllByRecursion (λ k. k < end) (ids_of (naming x s.live))) → AreMarked mark s.vars (constraints_of s.live) flags
passed-all mark s end flags stored h low = record {
  long = h.long;
  says = λ x first last. h.says x first last ∙ bool-same (passed mark s.live x end) (list_any (marked_in mark x) (constraints_of s.live)) (forth x) (back x first last);
}
  where
    forth : (x : ℕ) → passed mark s.live x end ≡ true → list_any (marked_in mark x) (constraints_of s.live) ≡ true
    forth x e =
        let q = any-with (λ id. Unit {0}) (λ id. passes (marked_in mark x) (constraint_at s.live id)) (range_with_len 0 end) (all-units (range_with_len 0 end)) e in
        at q.0 (constraint_at s.live q.0) refl q.1
      where
        all-units : (xs : List ℕ) → AllByRecursion (λ id. Unit {0}) xs
        all-units [] = tt
        all-units (x ∷ xs) = (tt, all-units xs)

        at : (id : ℕ) (o : Option Bounded) → constraint_at s.live id ≡ o → passes (marked_in mark x) o ≡ true → list_any (marked_in mark x) (constraints_of s.live) ≡ true
        at id None e p = absurd (true≢false (sym p))
        at id (Some c) e p = found-all (λ c. (f : Bounded → Bool) → f c ≡ true → list_any f (constraints_of s.live) ≡ true) s.live id c e (each-any (constraints_of s.live)) (marked_in mark x) p

    back : (x : ℕ) → 1 ≤ x → x ≤ s.vars → list_any (marked_in mark x) (constraints_of s.live) ≡ true → passed mark s.live x end ≡ true
    back x first last e =
        let q = any-with (λ p. IsLive s p × ((f : Numbered → Bool) → f p ≡ true → list_any f s.live ≡ true)) (λ p. marked_in mark x p.constraint) s.live
        (all-two (IsLive s) (λ p. (f : Numbered → Bool) → f p ≡ true → list_any f s.live ≡ true) (λ p. IsLive s p × ((f : Numbered → Bool) → f p ≡ true → list_any f s.live ≡ true)) (λ p a b. (a, b)) s.live (all-live s stored) (each-any s.live))
        (sym (any-map (λ p. p.constraint) (marked_in mark x) s.live) ∙ e) in
        let p = q.0 in
        let there = among-chosen s (λ c. names (named c) x) p.id
        ∙ q.2.1 (λ r. (r.id == p.id) && names (named r.constraint) x) (and_from (p.id == p.id) (names (named p.constraint) x) (eq-eqb p.id p.id refl) (marked-names mark x p.constraint q.1)) in
        let before = all-among (λ k. k < end) (ids_of (naming x s.live)) p.id (low x first last) there in
        any-in (λ id. passes (marked_in mark x) (constraint_at s.live id)) (range_with_len 0 end) p.id (in-range 0 end p.id (omega arith) (omega (arith, before))) (ap (passes (marked_in mark x)) q.2.0.own ∙ q.1)

-- what the marks say
any-keep : (f : Literal → Bool) (b : Bool) (ls : List Literal) → list_any (λ l. f l && b) ls ≡ (b && list_any f ls)
any-keep f b [] = none b
  where
    none : (b : Bool) → false ≡ (b && false)
    none true = refl
    none false = refl
any-keep f b (l ∷ ls) = ap (λ t. (f l && b) || t) (any-keep f b ls) ∙ spread (f l) (list_any f ls) b
  where
    spread : (x y b : Bool) → ((x && b) || (b && y)) ≡ (b && (x || y))
    spread true y true = refl
    spread true y false = refl
    spread false y true = refl
    spread false y false = refl

klause-marks : (x : ℕ) (cs : List Bounded) → list_any (marked_in Klause x) cs ≡ in_klause cs x
klause-marks x cs = any-alike (marked_in Klause x) (λ c. not (is_clause c) && names (named c) x) (λ c. any-keep (λ l. l.variable == x) (not (is_clause c)) (named c)) cs

binary-marks : (x : ℕ) (cs : List Bounded) → list_any (marked_in Binary x) cs ≡ in_binary cs x
binary-marks x cs = any-alike (marked_in Binary x) (λ c. is_binary c && names c.lits x) (λ c. any-keep (λ l. l.variable == x) (is_binary c) (named c) ∙ at c (is_binary c) refl) cs
  where
    at : (c : Bounded) (t : Bool) → is_binary c ≡ t → (is_binary c && names (named c) x) ≡ (is_binary c && names c.lits x)
    at c true e = ap (λ z. is_binary c && names z x) (clause-named c (and_parts (is_clause c) (is_pair c.lits) e).0)
    at c false e = ap (λ t. t && names (named c) x) e ∙ sym (ap (λ t. t && names c.lits x) e)

turned : (a b : ℕ) → (a == b) ≡ (b == a)
turned a b = bool-same (a == b) (b == a) (λ e. eq-eqb b a (sym (eqb-true a b e))) (λ e. eq-eqb a b (sym (eqb-true b a e)))

positive-marks : (x : ℕ) (cs : List Bounded) → list_any (marked_in Positive x) cs ≡ stands cs (the-literal x true)
positive-marks x cs = any-alike (marked_in Positive x) (λ c. has (named c) (the-literal x true))
    (λ c. any-alike (λ l. (l.variable == x) && l.positive) (is_same (the-literal x true)) (λ l. ap (λ t. t && l.positive) (turned l.variable x)) (named c)) cs

negative-marks : (x : ℕ) (cs : List Bounded) → list_any (marked_in Negative x) cs ≡ stands cs (the-literal x false)
negative-marks x cs = any-alike (marked_in Negative x) (λ c. has (named c) (the-literal x false))
    (λ c. any-alike (λ l. (l.variable == x) && not l.positive) (is_same (the-literal x false)) (λ l. ap (λ t. t && not l.positive) (turned l.variable x)) (named c)) cs

-- the tables
pub free-seen : (s : Stored) (klause free : List Bool) → AreMarked Klause s.vars (constraints_of s.live) klause → free ≡ map not klause → IsSeen s free
free-seen s klause free h is = record {
  long = ap length is ∙ length-map klause not ∙ h.long;
  says = λ x low high.
      let in' : x - 1 < length klause = let long = h.long in omega (arith, long, low, high) in
      ap (λ z. get_or z (x - 1) false) is ∙ get_or-map not klause (x - 1) false false in' ∙ ap not (h.says x low high ∙ klause-marks x (constraints_of s.live));
}

pub seed-tested : (s : Stored) (free binary positive negative : List Bool) (x : ℕ) → IsSeen s free → AreMarked Binary s.vars (constraints_of s.live) binary → AreMarked Positive s.vars (constraints_of s.live) positive → AreMarked Negative s.vars (constraints_of s.live) negative → 1 ≤ x → x ≤ s.vars
    → (get_or free (x - 1) false && (get_or binary (x - 1) false && (get_or positive (x - 1) false && get_or negative (x - 1) false))) ≡ is_seed (constraints_of s.live) x
seed-tested s free binary positive negative x f b p n low high =
    ap₂ (λ k r. k && r) (f.says x low high) (ap₂ (λ k r. k && r) (b.says x low high ∙ binary-marks x (constraints_of s.live))
    (ap₂ (λ k r. k && r) (p.says x low high ∙ positive-marks x (constraints_of s.live)) (n.says x low high ∙ negative-marks x (constraints_of s.live))))

-- a table with one entry more
pub table-push : (Q : ℕ → Bool) (flags : List Bool) (n : ℕ) (b : Bool) → length flags ≡ n → ((x : ℕ) → 1 ≤ x → x ≤ n → get_or flags (x - 1) false ≡ Q x) → b ≡ Q (n + 1)
    → (x : ℕ) → 1 ≤ x → x ≤ n + 1 → get_or (flags ++ b ∷ []) (x - 1) false ≡ Q x
table-push Q flags n b long says new x low high =
    elim (cases_lt (x - 1) n) [
      | inl in' ↦ get_or_append_left flags (b ∷ []) false (x - 1) (omega (arith, in', long)) ∙ says x low (omega (arith, in', low))
      | inr out ↦
          let e : x ≡ n + 1 = omega (arith, out, high, low) in
          get_or_push flags b false (x - 1) (omega (arith, long, e)) ∙ new ∙ ap Q (sym e)
    ]
