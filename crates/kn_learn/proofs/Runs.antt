-- A constraint forces the same where the list has only those literals that it rests on.
use Rattle.std.proofs.Common.{◌≡◌, ℕ, ◌++◌, Bool, true, false, not, cond, eqb, ltb, List, [], ◌∷◌, Option, None, Some, refl, sym, ap, subst, inl, inr}
use Rattle.std.specs.List.{AllByRecursion, filter}
use Rattle.std.proofs.lemmas.Option.{same_Some}
use Rattle.kn_logic.specs.Literals.{Literal, negated, has}
use Rattle.kn_logic.specs.Constraints.{Bounded}
use Rattle.kn_logic.specs.Propagation.{is_open, open_places, after_bound, after_parts, after_hint, Forces}
use Rattle.kn_logic.proofs.Public.{has-left, has-right, has-either, has-first, has-filter, has-filtered, Covers, Grows, hint-grows, hint-conflict-grows, All-from, negated_twice}
use Rattle.kn_watch.specs.Watches.{unguarded}
use Rattle.kn_learn.specs.Reasons.{Gives, rests_on}

abbrev pub Makes : Option (List Literal) → Literal → Type 0
Makes o l = (next : List Literal) × (o ≡ Some next) × (has next l ≡ true)

both : (a b : Bool) → (a ≡ true → b ≡ true) → (b ≡ true → a ≡ true) → a ≡ b
both true true h k = refl
both true false h k = let e = h refl in absurd cc
both false true h k = let e = k refl in absurd cc
both false false h k = refl

filter-has : (test : Literal → Bool) (lits : List Literal) (l : Literal) → test l ≡ true → has (filter test lits) l ≡ has lits l
filter-has test lits l e = both (has (filter test lits) l) (has lits l) (has-filtered test lits l) (λ h. has-filter test lits l h e)

same-count : (a b lits : List Literal) → AllByRecursion (λ x. is_open a x ≡ is_open b x) lits → open_places a lits ≡ open_places b lits
same-count a b [] h = refl
same-count a b (x ∷ lits) h = rw (h.0, same-count a b lits h.1) refl

same-filter : (a b lits : List Literal) → AllByRecursion (λ x. is_open a x ≡ is_open b x) lits → filter (is_open a) lits ≡ filter (is_open b) lits
same-filter a b [] h = refl
same-filter a b (x ∷ lits) h = rw (h.0, same-filter a b lits h.1) refl

pub not-there : (b : List Literal) (l : Literal) → has b l ≡ false → has b l ≡ true → ⊥
not-there b l h k = cc

bound-made : (s t : Bool) (f a b : List Literal) (l : Literal) → has b l ≡ false → Makes (cond s None (cond t (Some (b ++ f)) (Some b))) l → Makes (cond s None (cond t (Some (a ++ f)) (Some a))) l
bound-made true t f a b l h (next, e, k) = absurd cc
bound-made false true f a b l h (next, e, k) =
    elim (has-either b f l (subst (λ (xs : List Literal). has xs l ≡ true) (sym (same_Some (b ++ f) next e)) k)) [
      | inl s ↦ absurd (not-there b l h s)
      | inr s ↦ (a ++ f, refl, has-right a f l s)
    ]
bound-made false false f a b l h (next, e, k) = absurd (not-there b l h (subst (λ (xs : List Literal). has xs l ≡ true) (sym (same_Some b next e)) k))

bound-agrees : (a b : List Literal) (bound : ℕ) (lits : List Literal) (l : Literal) → AllByRecursion (λ x. is_open a x ≡ is_open b x) lits → has b l ≡ false → Makes (after_bound b bound lits) l → Makes (after_bound a bound lits) l
bound-agrees a b bound lits l same h m =
    rw (same-count a b lits same, same-filter a b lits same)
    (bound-made (ltb (open_places b lits) bound) (eqb (open_places b lits) bound) (filter (is_open b) lits) a b l h m)

guard-made : (s ta tb u : Bool) (xa xb : Option (List Literal)) (a b : List Literal) (n l : Literal) → (ta ≡ true → tb ≡ true) → has b l ≡ false → (Makes xb l → Makes xa l) → Makes (cond s xb (cond tb (Some b) (cond u (Some (b ++ n ∷ [])) (Some b)))) l → Makes (cond s xa (cond ta (Some a) (cond u (Some (a ++ n ∷ [])) (Some a)))) l
guard-made true ta tb u xa xb a b n l t h x m = x m
guard-made false ta true u xa xb a b n l t h x (next, e, k) = absurd (not-there b l h (subst (λ (xs : List Literal). has xs l ≡ true) (sym (same_Some b next e)) k))
guard-made false true false u xa xb a b n l t h x m = let e = t refl in absurd cc
guard-made false false false true xa xb a b n l t h x (next, e, k) =
    elim (has-either b (n ∷ []) l (subst (λ (xs : List Literal). has xs l ≡ true) (sym (same_Some (b ++ n ∷ []) next e)) k)) [
      | inl s ↦ absurd (not-there b l h s)
      | inr s ↦ (a ++ n ∷ [], refl, has-right a (n ∷ []) l s)
    ]
guard-made false false false false xa xb a b n l t h x (next, e, k) = absurd (not-there b l h (subst (λ (xs : List Literal). has xs l ≡ true) (sym (same_Some b next e)) k))

abbrev GuardAgrees : List Literal → List Literal → Option Literal → Type 0
GuardAgrees a b None = Unit {0}
GuardAgrees a b (Some guard) = has a guard ≡ has b guard

parts-agree : (a b : List Literal) (guard : Option Literal) (bound : ℕ) (lits : List Literal) (l : Literal) → Covers a b → AllByRecursion (λ x. is_open a x ≡ is_open b x) lits → GuardAgrees a b guard → has b l ≡ false → Makes (after_parts b guard bound lits) l → Makes (after_parts a guard bound lits) l
parts-agree a b None bound lits l within same g h m = bound-agrees a b bound lits l same h m
parts-agree a b (Some guard) bound lits l within same g h m =
    let made = guard-made (has b guard) (has a (negated guard)) (has b (negated guard)) (ltb (open_places b lits) bound) (after_bound a bound lits) (after_bound b bound lits) a b (negated guard) l (within (negated guard)) h (bound-agrees a b bound lits l same h) m in
    subst (λ (s : Bool). Makes (cond s (after_bound a bound lits) (cond (has a (negated guard)) (Some a) (cond (ltb (open_places a lits) bound) (Some (a ++ negated guard ∷ [])) (Some a)))) l) (sym g)
    (subst (λ (n : ℕ). Makes (cond (has b guard) (after_bound a bound lits) (cond (has a (negated guard)) (Some a) (cond (ltb n bound) (Some (a ++ negated guard ∷ [])) (Some a)))) l) (sym (same-count a b lits same)) made)

-- and where the list is in conflict with the constraint
bound-fails : (s t : Bool) (x y : List Literal) (u v : List Literal) → cond s None (cond t (Some x) (Some y)) ≡ None → ◌≡◌ {A = Option (List Literal)} (cond s None (cond t (Some u) (Some v))) None
bound-fails true t x y u v e = refl
bound-fails false true x y u v e = absurd cc
bound-fails false false x y u v e = absurd cc

bound-conflict : (a b : List Literal) (bound : ℕ) (lits : List Literal) → AllByRecursion (λ x. is_open a x ≡ is_open b x) lits → after_bound b bound lits ≡ None → after_bound a bound lits ≡ None
bound-conflict a b bound lits same e =
    rw (same-count a b lits same) (bound-fails (ltb (open_places b lits) bound) (eqb (open_places b lits) bound) (b ++ filter (is_open b) lits) b (a ++ filter (is_open a) lits) a e)

guard-fails : (s ta tb ua ub : Bool) (xa xb : Option (List Literal)) (a b c d : List Literal) → (xb ≡ None → xa ≡ None) → cond s xb (cond tb (Some b) (cond ub (Some d) (Some b))) ≡ None → cond s xa (cond ta (Some a) (cond ua (Some c) (Some a))) ≡ None
guard-fails true ta tb ua ub xa xb a b c d h e = h e
guard-fails false ta true ua ub xa xb a b c d h e = absurd cc
guard-fails false ta false ua true xa xb a b c d h e = absurd cc
guard-fails false ta false ua false xa xb a b c d h e = absurd cc

parts-conflict : (a b : List Literal) (guard : Option Literal) (bound : ℕ) (lits : List Literal) → AllByRecursion (λ x. is_open a x ≡ is_open b x) lits → GuardAgrees a b guard → after_parts b guard bound lits ≡ None → after_parts a guard bound lits ≡ None
parts-conflict a b None bound lits same g e = bound-conflict a b bound lits same e
parts-conflict a b (Some guard) bound lits same g e =
    subst (λ (s : Bool). cond s (after_bound a bound lits) (cond (has a (negated guard)) (Some a) (cond (ltb (open_places a lits) bound) (Some (a ++ negated guard ∷ [])) (Some a))) ≡ None) (sym g)
    (guard-fails (has b guard) (has a (negated guard)) (has b (negated guard)) (ltb (open_places a lits) bound) (ltb (open_places b lits) bound) (after_bound a bound lits) (after_bound b bound lits) a b (a ++ negated guard ∷ []) (b ++ negated guard ∷ []) (bound-conflict a b bound lits same) e)

-- the literals of a list that a constraint rests on
abbrev pub rested : Bounded → List Literal → List Literal
rested c before = filter (rests_on c) before

rests-negated : (c : Bounded) (x : Literal) → has c.lits x ≡ true → rests_on c (negated x) ≡ true
rests-negated c x h = has-left c.lits (unguarded c.guard) (negated (negated x)) (subst (λ (y : Literal). has c.lits y ≡ true) (sym (negated_twice x)) h)

pub rests-guard : (c : Bounded) (guard : Literal) → c.guard ≡ Some guard → rests_on c guard ≡ true
rests-guard c guard e =
    has-right c.lits (unguarded c.guard) (negated guard) (subst (λ (o : Option Literal). has (unguarded o) (negated guard) ≡ true) (sym e) (has-first (negated guard) []))

-- what is said of each literal of a list is said by going through it
open-agrees : (c : Bounded) (before : List Literal) → AllByRecursion (λ x. is_open (rested c before) x ≡ is_open before x) c.lits
open-agrees c before = All-from (λ x. is_open (rested c before) x ≡ is_open before x) c.lits
    (λ x h. ap not (filter-has (rests_on c) before (negated x) (rests-negated c x h)))

guard-agrees : (c : Bounded) (before : List Literal) (guard : Option Literal) → c.guard ≡ guard → GuardAgrees (rested c before) before guard
guard-agrees c before None e = tt
guard-agrees c before (Some guard) e = filter-has (rests_on c) before guard (rests-guard c guard e)

-- A literal that is forced behind a list is given where the list has what the constraint rests on, and more.
gives-covered : (small big : List Literal) (c : Bounded) (l : Literal) → Covers small big → Forces small c l → Gives big c l
gives-covered small big c l h (next, e, k) = λ more f.
    let grows : Grows (Some next) (Some more) = subst (λ (o : Option (List Literal)). Grows (Some next) o) f (subst (λ (o : Option (List Literal)). Grows o (after_hint big c)) e (hint-grows small big c h)) in
    grows l k

pub gives-rested : (before big : List Literal) (c : Bounded) (l : Literal) → Forces before c l → has before l ≡ false → Covers (rested c before) big → Gives big c l
gives-rested before big c l forces new h =
    gives-covered (rested c before) big c l h
    (parts-agree (rested c before) before c.guard c.bound c.lits l (λ x k. has-filtered (rests_on c) before x k) (open-agrees c before) (guard-agrees c before c.guard refl) new forces)

pub conflict-rested : (before big : List Literal) (c : Bounded) → after_hint before c ≡ None → Covers (rested c before) big → after_hint big c ≡ None
conflict-rested before big c e h =
    hint-conflict-grows (rested c before) big c h
    (parts-conflict (rested c before) before c.guard c.bound c.lits (open-agrees c before) (guard-agrees c before c.guard refl) e)
