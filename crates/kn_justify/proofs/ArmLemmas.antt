-- Runs of hints over arms: what is had stays, an arm with its opposite is a conflict, and clauses of arms settle them.
use Rattle.std.proofs.Common.{◌≡◌, ℕ, ◌+◌, ◌⊎◌, ◌++◌, Bool, true, false, not, cond, eqb, ltb, List, [], ◌∷◌, Option, None, Some, refl, sym, ap, ◌∙◌, subst, inl, inr, arith}
use Rattle.std.specs.List.{filter}
use Rattle.std.proofs.lemmas.Bool.{or_cases, cond_both, eqb-true, not_from_false, not_from_true}
use Rattle.std.proofs.lemmas.List.{append-nil}
use Rattle.kn_logic.specs.Literals.{Literal, negated, is_same, has, places}
use Rattle.kn_logic.specs.Constraints.{Bounded, clause, klause}
use Rattle.kn_logic.specs.Propagation.{is_open, open_places, after_bound, after_guard, after_parts, after_hint, IsConsistent}
use Rattle.kn_logic.proofs.Public.{same_literal, has-left, has-right, has-either, has-first, has-one, All-has, All-from, negated_twice}
use Rattle.kn_lines.specs.declared.line.Arm.{Arm}
use Rattle.kn_lines.specs.declared.line.Arm.TheVariants as arm
use Rattle.kn_rules.specs.Steps.{opposite, with_arm}
use Rattle.kn_justify.specs.Arms.{HasArm, Has, IsSound, run_on, AllRefuted, IsLeft, Settles, has_true, literals_of, has_both, is_trivial}

-- literals
pub not_itself : (p : Bool) → p ≡ not p → ⊥
not_itself true e = absurd cc
not_itself false e = absurd cc

-- arms
pub opposite_twice : (a : Arm) → opposite (opposite a) ≡ a
opposite_twice arm.True = refl
opposite_twice arm.False = refl
opposite_twice (arm.Lit l) = ap (λ (k : Literal). arm.Lit k) (negated_twice l)

pub twice : (run : Option (List Literal)) (a : Arm) → Has run a → Has run (opposite (opposite a))
twice run a h = subst (λ (b : Arm). Has run b) (sym (opposite_twice a)) h

shut : (trail : List Literal) (l : Literal) → is_open trail l ≡ true → has trail (negated l) ≡ true → ⊥
shut trail l e h = (let f : not (has trail (negated l)) ≡ true = e in absurd cc)

never_both : (trail : List Literal) → IsConsistent trail → (l : Literal) → has trail l ≡ true → has trail (negated l) ≡ true → ⊥
never_both trail h l e f = shut trail l (All-has (λ k. is_open trail k ≡ true) trail l h e) f

-- an arm and its opposite are a conflict
pub conflict : (run : Option (List Literal)) → IsSound run → (a : Arm) → Has run a → Has run (opposite a) → run ≡ None
conflict None s a h k = refl
conflict (Some trail) s arm.True h k = absurd k
conflict (Some trail) s arm.False h k = absurd h
conflict (Some trail) s (arm.Lit l) h k = absurd (never_both trail s l h k)

-- what is had stays
has_more : (trail more : List Literal) (a : Arm) → HasArm trail a → HasArm (trail ++ more) a
has_more trail more arm.True h = tt
has_more trail more arm.False h = absurd h
has_more trail more (arm.Lit l) h = has-left trail more l h

bound-keeps : (trail : List Literal) (bound : ℕ) (lits : List Literal) (a : Arm) → HasArm trail a → Has (after_bound trail bound lits) a
bound-keeps trail bound lits a h =
    cond_both (ltb (open_places trail lits) bound) None _ (λ o. Has o a) (λ _. tt)
    (λ _. cond_both (eqb (open_places trail lits) bound) (Some (trail ++ filter (is_open trail) lits)) (Some trail) (λ o. Has o a) (λ _. has_more trail _ a h) (λ _. h))

guard-keeps : (trail : List Literal) (guard : Literal) (bound : ℕ) (lits : List Literal) (a : Arm) → HasArm trail a → Has (after_guard trail guard bound lits) a
guard-keeps trail guard bound lits a h =
    cond_both (has trail guard) (after_bound trail bound lits) _ (λ o. Has o a) (λ _. bound-keeps trail bound lits a h)
    (λ _. cond_both (has trail (negated guard)) (Some trail) _ (λ o. Has o a) (λ _. h)
    (λ _. cond_both (ltb (open_places trail lits) bound) (Some (trail ++ negated guard ∷ [])) (Some trail) (λ o. Has o a) (λ _. has_more trail _ a h) (λ _. h)))

parts-keep : (trail : List Literal) (guard : Option Literal) (bound : ℕ) (lits : List Literal) (a : Arm) → HasArm trail a → Has (after_parts trail guard bound lits) a
parts-keep trail None bound lits a h = bound-keeps trail bound lits a h
parts-keep trail (Some guard) bound lits a h = guard-keeps trail guard bound lits a h

pub run-keeps : (cs : List Bounded) (run : Option (List Literal)) (a : Arm) → Has run a → Has (run_on run cs) a
run-keeps [] None a h = tt
run-keeps [] (Some trail) a h = h
run-keeps (c ∷ cs) None a h = tt
run-keeps (c ∷ cs) (Some trail) a h = run-keeps cs (after_hint trail c) a (parts-keep trail c.guard c.bound c.lits a h)

pub run-append : (cs ds : List Bounded) (run : Option (List Literal)) → run_on run (cs ++ ds) ≡ run_on (run_on run cs) ds
run-append [] ds None = refl
run-append [] ds (Some trail) = refl
run-append (c ∷ cs) ds None = refl
run-append (c ∷ cs) ds (Some trail) = run-append cs ds (after_hint trail c)

-- a consistent list stays so
consistent-push : (trail : List Literal) (l : Literal) → IsConsistent trail → is_open trail l ≡ true → IsConsistent (trail ++ l ∷ [])
consistent-push trail l h free = All-from _ (trail ++ l ∷ []) (λ k e. not_from_false (has (trail ++ l ∷ []) (negated k)) (apart k e (has (trail ++ l ∷ []) (negated k)) refl))
  where
    pair : (k : Literal) → (has trail k ≡ true) ⊎ (k ≡ l) → (has trail (negated k) ≡ true) ⊎ (negated k ≡ l) → ⊥
    pair k (inl e) (inl f) = never_both trail h k e f
    pair k (inl e) (inr f) = shut trail l free (subst (λ (x : Literal). has trail x ≡ true) (sym (negated_twice k) ∙ ap (λ (x : Literal). negated x) f) e)
    pair k (inr e) (inl f) = shut trail l free (subst (λ (x : Literal). has trail (negated x) ≡ true) e f)
    pair k (inr e) (inr f) = not_itself k.positive (ap (λ (x : Literal). x.positive) (e ∙ sym f))

    split : (k : Literal) → (has trail k ≡ true) ⊎ (has (l ∷ []) k ≡ true) → (has trail k ≡ true) ⊎ (k ≡ l)
    split k (inl e) = inl e
    split k (inr e) = inr (has-one l k e)

    apart : (k : Literal) → has (trail ++ l ∷ []) k ≡ true → (b : Bool) → has (trail ++ l ∷ []) (negated k) ≡ b → has (trail ++ l ∷ []) (negated k) ≡ false
    apart k e true f = absurd (pair k (split k (has-either trail (l ∷ []) k e)) (split (negated k) (has-either trail (l ∷ []) (negated k) f)))
    apart k e false f = f

none_kept_at : (x : Literal) (rest : List Literal) (n : ℕ) (b : Bool) → cond b 1 0 + n ≡ 0 → (n ≡ 0 → rest ≡ []) → cond b (x ∷ rest) rest ≡ []
none_kept_at x rest n true e h = absurd (omega (arith, e))
none_kept_at x rest n false e h = h (omega (arith, e))

none_kept : (test : Literal → Bool) (lits : List Literal) → places test lits ≡ 0 → filter test lits ≡ []
none_kept test [] h = refl
none_kept test (x ∷ lits) h = none_kept_at x (filter test lits) (places test lits) (test x) h (none_kept test lits)

abbrev OneKept : (Literal → Bool) → List Literal → Type 0
OneKept test kept = (l : Literal) × (kept ≡ l ∷ []) × (test l ≡ true)

one_kept_at : (test : Literal → Bool) (x : Literal) (rest : List Literal) (n : ℕ) (b : Bool) → test x ≡ b → cond b 1 0 + n ≡ 1 → (n ≡ 0 → rest ≡ []) → (n ≡ 1 → OneKept test rest) → OneKept test (cond b (x ∷ rest) rest)
one_kept_at test x rest n true t e h k = (x, ap (λ (xs : List Literal). x ∷ xs) (h (omega (arith, e))), t)
one_kept_at test x rest n false t e h k = k (omega (arith, e))

one_kept : (test : Literal → Bool) (lits : List Literal) → places test lits ≡ 1 → OneKept test (filter test lits)
one_kept test [] h = absurd (omega (arith, h))
one_kept test (x ∷ lits) h = one_kept_at test x (filter test lits) (places test lits) (test x) refl h (none_kept test lits) (one_kept test lits)

consistent_one : (trail kept : List Literal) → IsConsistent trail → OneKept (is_open trail) kept → IsConsistent (trail ++ kept)
consistent_one trail kept h (l, e, free) = subst (λ (xs : List Literal). IsConsistent (trail ++ xs)) (sym e) (consistent-push trail l h free)

pub clause-sound : (trail lits : List Literal) → IsConsistent trail → IsSound (after_bound trail 1 lits)
clause-sound trail lits h =
    cond_both (ltb (open_places trail lits) 1) None _ (λ o. IsSound o) (λ _. tt)
    (λ _. cond_both (eqb (open_places trail lits) 1) (Some (trail ++ filter (is_open trail) lits)) (Some trail) (λ o. IsSound o)
    (λ e. consistent_one trail (filter (is_open trail) lits) h (one_kept (is_open trail) lits (eqb-true _ _ e))) (λ _. h))

-- a clause of arms that is live
pub shut_places : (trail : List Literal) (arms : List Arm) → AllRefuted (Some trail) arms → open_places trail (literals_of arms) ≡ 0
shut_places trail [] h = refl
shut_places trail (arm.True ∷ arms) h = absurd h.0
shut_places trail (arm.False ∷ arms) h = shut_places trail arms h.1
shut_places trail (arm.Lit l ∷ arms) h = rw (h.0, shut_places trail arms h.1) refl

-- what so many open places, and these open literals, make of an arm
abbrev LeftBy : ℕ → List Literal → Arm → Type 0
LeftBy n kept arm.True = Unit {0}
LeftBy n kept arm.False = n ≡ 0
LeftBy n kept (arm.Lit l) = (n ≡ 0) ⊎ ((n ≡ 1) × (has kept l ≡ true))

left_open : (l : Literal) (kept : List Literal) (n : ℕ) (b : Bool) → n ≡ 0 → LeftBy (cond b 1 0 + n) (cond b (l ∷ kept) kept) (arm.Lit l)
left_open l kept n true e = inr (omega (arith, e), has-first l kept)
left_open l kept n false e = inl (omega (arith, e))

left_same : (trail : List Literal) (b : Arm) (bs : List Arm) → open_places trail (literals_of bs) ≡ 0 → LeftBy (open_places trail (literals_of (b ∷ bs))) (filter (is_open trail) (literals_of (b ∷ bs))) b
left_same trail arm.True bs e = tt
left_same trail arm.False bs e = e
left_same trail (arm.Lit l) bs e = left_open l (filter (is_open trail) (literals_of bs)) (open_places trail (literals_of bs)) (is_open trail l) e

left_skips : (l : Literal) (kept : List Literal) (n : ℕ) (a : Arm) (b : Bool) → b ≡ false → LeftBy n kept a → LeftBy (cond b 1 0 + n) (cond b (l ∷ kept) kept) a
left_skips l kept n a true e h = absurd cc
left_skips l kept n a false e h = (let m : n ≡ 0 + n = omega arith in subst (λ (x : ℕ). LeftBy x kept a) m h)

left_behind : (trail : List Literal) (b : Arm) (bs : List Arm) (a : Arm) → Has (Some trail) (opposite b) → LeftBy (open_places trail (literals_of bs)) (filter (is_open trail) (literals_of bs)) a → LeftBy (open_places trail (literals_of (b ∷ bs))) (filter (is_open trail) (literals_of (b ∷ bs))) a
left_behind trail arm.True bs a h k = absurd h
left_behind trail arm.False bs a h k = k
left_behind trail (arm.Lit l) bs a h k = left_skips l (filter (is_open trail) (literals_of bs)) (open_places trail (literals_of bs)) a (is_open trail l) (not_from_true _ h) k

left_of : (trail : List Literal) (arms : List Arm) (a : Arm) → IsLeft (Some trail) arms a → LeftBy (open_places trail (literals_of arms)) (filter (is_open trail) (literals_of arms)) a
left_of trail [] a h = absurd h
left_of trail (b ∷ bs) a (inl h) = subst (λ (x : Arm). LeftBy (open_places trail (literals_of (b ∷ bs))) (filter (is_open trail) (literals_of (b ∷ bs))) x) h.0 (left_same trail b bs (shut_places trail bs h.1))
left_of trail (b ∷ bs) a (inr h) = left_behind trail b bs a h.0 (left_of trail bs a h.1)

pub has_true_arm : (run : Option (List Literal)) → Has run arm.True
has_true_arm None = tt
has_true_arm (Some trail) = tt

after_left : (trail kept : List Literal) (n : ℕ) (a : Arm) → LeftBy n kept a → Has (cond (ltb n 1) None (cond (eqb n 1) (Some (trail ++ kept)) (Some trail))) a
after_left trail kept n arm.True h = has_true_arm _
after_left trail kept n arm.False h = subst (λ (m : ℕ). Has (cond (ltb m 1) None (cond (eqb m 1) (Some (trail ++ kept)) (Some trail))) arm.False) (sym h) tt
after_left trail kept n (arm.Lit l) (inl h) = subst (λ (m : ℕ). Has (cond (ltb m 1) None (cond (eqb m 1) (Some (trail ++ kept)) (Some trail))) (arm.Lit l)) (sym h) tt
after_left trail kept n (arm.Lit l) (inr h) = subst (λ (m : ℕ). Has (cond (ltb m 1) None (cond (eqb m 1) (Some (trail ++ kept)) (Some trail))) (arm.Lit l)) (sym h.0) (has-right trail kept l h.1)

one_sound : (run : Option (List Literal)) (lits : List Literal) → IsSound run → IsSound (run_on run (clause lits ∷ []))
one_sound None lits h = tt
one_sound (Some trail) lits h = ended (after_bound trail 1 lits) (clause-sound trail lits h)
  where
    ended : (o : Option (List Literal)) → IsSound o → IsSound (run_on o [])
    ended None h = tt
    ended (Some t) h = h

ended_has : (o : Option (List Literal)) (a : Arm) → Has o a → Has (run_on o []) a
ended_has None a h = tt
ended_has (Some t) a h = h

one_forces : (arms : List Arm) (run : Option (List Literal)) (a : Arm) → IsSound run → IsLeft run arms a → Has (run_on run (clause (literals_of arms) ∷ [])) a
one_forces arms None a s h = tt
one_forces arms (Some trail) a s h = ended_has (after_bound trail 1 (literals_of arms)) a (after_left trail (filter (is_open trail) (literals_of arms)) (open_places trail (literals_of arms)) a (left_of trail arms a h))

pub live-settles : (arms : List Arm) → has_true arms ≡ false → Settles (clause (literals_of arms) ∷ []) arms
live-settles arms _ = record { sound = λ run h. one_sound run (literals_of arms) h; forces = one_forces arms }

-- a clause of arms one of which is true
true_refuted : (trail : List Literal) (arms : List Arm) → has_true arms ≡ true → AllRefuted (Some trail) arms → ⊥
true_refuted trail [] e h = absurd cc
true_refuted trail (arm.True ∷ arms) e h = h.0
true_refuted trail (arm.False ∷ arms) e h = true_refuted trail arms e h.1
true_refuted trail (arm.Lit l ∷ arms) e h = true_refuted trail arms e h.1

true_here : (trail : List Literal) (b : Arm) (bs : List Arm) (a : Arm) → has_true (b ∷ bs) ≡ true → b ≡ a → AllRefuted (Some trail) bs → HasArm trail a
true_here trail arm.True bs a e s h = subst (λ (x : Arm). HasArm trail x) s tt
true_here trail arm.False bs a e s h = absurd (true_refuted trail bs e h)
true_here trail (arm.Lit l) bs a e s h = absurd (true_refuted trail bs e h)

true_left : (trail : List Literal) (arms : List Arm) (a : Arm) → has_true arms ≡ true → IsLeft (Some trail) arms a → HasArm trail a
true_left trail [] a e h = absurd h
true_left trail (b ∷ bs) a e (inl h) = true_here trail b bs a e h.0 h.1
true_left trail (arm.True ∷ bs) a e (inr h) = absurd h.0
true_left trail (arm.False ∷ bs) a e (inr h) = true_left trail bs a e h.1
true_left trail (arm.Lit l ∷ bs) a e (inr h) = true_left trail bs a e h.1

-- a clause of arms with a literal and its negation
refuted_has : (trail : List Literal) (arms : List Arm) (k : Literal) → AllRefuted (Some trail) arms → has (literals_of arms) k ≡ true → has trail (negated k) ≡ true
refuted_has trail [] k h e = absurd cc
refuted_has trail (arm.True ∷ arms) k h e = absurd h.0
refuted_has trail (arm.False ∷ arms) k h e = refuted_has trail arms k h.1 e
refuted_has trail (arm.Lit l ∷ arms) k h e =
    elim (or_cases (is_same k l) (has (literals_of arms) k) e) [
      | inl s ↦ subst (λ (x : Literal). has trail (negated x) ≡ true) (sym (same_literal k l s)) h.0
      | inr t ↦ refuted_has trail arms k h.1 t
    ]

both_refuted : (trail : List Literal) (arms : List Arm) → IsConsistent trail → has_both (literals_of arms) ≡ true → AllRefuted (Some trail) arms → ⊥
both_refuted trail [] s e h = absurd cc
both_refuted trail (arm.True ∷ arms) s e h = h.0
both_refuted trail (arm.False ∷ arms) s e h = both_refuted trail arms s e h.1
both_refuted trail (arm.Lit l ∷ arms) s e h =
    elim (or_cases (has (literals_of arms) (negated l)) (has_both (literals_of arms)) e) [
      | inl k ↦ never_both trail s (negated l) h.0 (refuted_has trail arms (negated l) h.1 k)
      | inr k ↦ both_refuted trail arms s k h.1
    ]

left_or : (trail : List Literal) (arms : List Arm) (a : Arm) (k : Literal) → IsLeft (Some trail) arms a → has (literals_of arms) k ≡ true → (arm.Lit k ≡ a) ⊎ (has trail (negated k) ≡ true)
left_or trail [] a k h e = absurd h
left_or trail (arm.True ∷ bs) a k (inl h) e = inr (refuted_has trail bs k h.1 e)
left_or trail (arm.True ∷ bs) a k (inr h) e = absurd h.0
left_or trail (arm.False ∷ bs) a k (inl h) e = inr (refuted_has trail bs k h.1 e)
left_or trail (arm.False ∷ bs) a k (inr h) e = left_or trail bs a k h.1 e
left_or trail (arm.Lit l ∷ bs) a k (inl h) e =
    elim (or_cases (is_same k l) (has (literals_of bs) k) e) [
      | inl s ↦ inl (ap (λ (x : Literal). arm.Lit x) (same_literal k l s) ∙ h.0)
      | inr t ↦ inr (refuted_has trail bs k h.1 t)
    ]
left_or trail (arm.Lit l ∷ bs) a k (inr h) e =
    elim (or_cases (is_same k l) (has (literals_of bs) k) e) [
      | inl s ↦ inr (subst (λ (x : Literal). has trail (negated x) ≡ true) (sym (same_literal k l s)) h.0)
      | inr t ↦ left_or trail bs a k h.1 t
    ]

left_pair : (trail : List Literal) (l : Literal) (a : Arm) → IsConsistent trail → has trail (negated l) ≡ true → (arm.Lit (negated l) ≡ a) ⊎ (has trail (negated (negated l)) ≡ true) → HasArm trail a
left_pair trail l a s h (inl e) = subst (λ (x : Arm). HasArm trail x) e h
left_pair trail l a s h (inr e) = absurd (never_both trail s (negated l) h e)

both_left : (trail : List Literal) (arms : List Arm) (a : Arm) → IsConsistent trail → has_both (literals_of arms) ≡ true → IsLeft (Some trail) arms a → HasArm trail a
both_left trail [] a s e h = absurd h
both_left trail (arm.True ∷ bs) a s e (inl h) = subst (λ (x : Arm). HasArm trail x) h.0 tt
both_left trail (arm.True ∷ bs) a s e (inr h) = absurd h.0
both_left trail (arm.False ∷ bs) a s e (inl h) = absurd (both_refuted trail bs s e h.1)
both_left trail (arm.False ∷ bs) a s e (inr h) = both_left trail bs a s e h.1
both_left trail (arm.Lit l ∷ bs) a s e (inl h) =
    elim (or_cases (has (literals_of bs) (negated l)) (has_both (literals_of bs)) e) [
      | inl k ↦ subst (λ (x : Arm). HasArm trail x) h.0 (subst (λ (x : Literal). has trail x ≡ true) (negated_twice l) (refuted_has trail bs (negated l) h.1 k))
      | inr k ↦ absurd (both_refuted trail bs s k h.1)
    ]
both_left trail (arm.Lit l ∷ bs) a s e (inr h) =
    elim (or_cases (has (literals_of bs) (negated l)) (has_both (literals_of bs)) e) [
      | inl k ↦ left_pair trail l a s h.0 (left_or trail bs a (negated l) h.1 k)
      | inr k ↦ both_left trail bs a s k h.1
    ]

trivial_left : (arms : List Arm) (run : Option (List Literal)) (a : Arm) → is_trivial arms ≡ true → IsSound run → IsLeft run arms a → Has run a
trivial_left arms None a e s h = tt
trivial_left arms (Some trail) a e s h =
    elim (or_cases (has_true arms) (has_both (literals_of arms)) e) [
      | inl t ↦ true_left trail arms a t h
      | inr t ↦ both_left trail arms a s t h
    ]

none_sound : (run : Option (List Literal)) → IsSound run → IsSound (run_on run [])
none_sound None h = tt
none_sound (Some t) h = h

pub trivial-settles : (arms : List Arm) → is_trivial arms ≡ true → Settles [] arms
trivial-settles arms e = record { sound = none_sound; forces = λ run a s h. run-keeps [] run a (trivial_left arms run a e s h) }

-- the clauses of definitions
nothing-sound : (run : Option (List Literal)) → IsSound run → IsSound (run_on run (klause 0 [] ∷ []))
nothing-sound None h = tt
nothing-sound (Some trail) h = subst (λ (xs : List Literal). IsConsistent xs) (sym (append-nil trail)) h

pub definition-settles : (a b : Literal) (last : Arm) → Settles (with_arm (a ∷ b ∷ []) last ∷ []) (arm.Lit a ∷ arm.Lit b ∷ last ∷ [])
definition-settles a b arm.True = record {
  sound = nothing-sound;
  forces = λ run x s h. run-keeps (klause 0 [] ∷ []) run x (trivial_left (arm.Lit a ∷ arm.Lit b ∷ arm.True ∷ []) run x refl s h);
}
definition-settles a b arm.False = live-settles (arm.Lit a ∷ arm.Lit b ∷ arm.False ∷ []) refl
definition-settles a b (arm.Lit l) = live-settles (arm.Lit a ∷ arm.Lit b ∷ arm.Lit l ∷ []) refl
