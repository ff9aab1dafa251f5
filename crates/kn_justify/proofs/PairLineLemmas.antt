-- Hints that make one literal's clauses with others of use, and the line that follows from them.
use Rattle.std.proofs.Common.{◌≡◌, ℕ, ◌⊎◌, ◌+◌, ◌++◌, List, [], ◌∷◌, Option, None, Some, refl, sym, ap, ◌∙◌, subst, inl, inr, option_to_list}
use Rattle.std.specs.List.{AllByRecursion}
use Rattle.kn_logic.specs.Literals.{Literal, negated}
use Rattle.kn_logic.specs.Constraints.{Bounded, clause}
use Rattle.kn_lines.specs.declared.line.Arm.{Arm}
use Rattle.kn_lines.specs.declared.line.Arm.TheVariants as arm
use Rattle.kn_rules.specs.declared.given.Given.{Given}
use Rattle.kn_rules.specs.States.{ProofState, live_at}
use Rattle.kn_rules.specs.Steps.{opposite, hinted}
use Rattle.kn_justify.specs.declared.name.Name.{Name}
use Rattle.kn_justify.specs.declared.counts.Held.{Held}
use Rattle.kn_justify.specs.Arms.{Has, IsSound, run_on, Settles, Refutes, Settled, Refuted}
use Rattle.kn_justify.specs.Definitions.{IsDefined}
use Rattle.kn_justify.specs.PairIds.{id_of}
use Rattle.kn_justify.specs.PairGroups.{IsPaired, ids_with, AreHad, Spreads, Lifts, Spread, Lifted, held_arm, held_ids, IsHeldIf, unit_hints}
use Rattle.kn_justify.proofs.ArmLemmas.{twice, conflict, run-keeps, run-append, has_true_arm, live-settles, trivial-settles}
use Rattle.kn_justify.proofs.HintLemmas.{hinted-append, hinted-stays}
use Rattle.kn_justify.proofs.DefinitionLemmas.{high-up, low-up}

-- what is had stays
pub had-stays : (cs : List Bounded) (run : Option (List Literal)) (lits : List Literal) → AreHad run lits → AreHad (run_on run cs) lits
had-stays cs run [] h = tt
had-stays cs run (l ∷ lits) h = (run-keeps cs run (arm.Lit l) h.0, had-stays cs run lits h.1)

-- no hints
none_sound : (run : Option (List Literal)) → IsSound run → IsSound (run_on run [])
none_sound None h = tt
none_sound (Some t) h = h

spreads-none : (a : Arm) → Spreads [] a []
spreads-none a = record { sound = none_sound; forces = λ run s h. tt }

lifts-none : Lifts [] [] arm.True
lifts-none = record { sound = none_sound; forces = λ run s h. has_true_arm (run_on run []) }

-- one literal more
spreads-more : (l k : Literal) (lits : List Literal) (c cs : List Bounded) → ((run : Option (List Literal)) → IsSound run → IsSound (run_on run c))
    → ((run : Option (List Literal)) → IsSound run → Has run (arm.Lit (negated l)) → Has (run_on run c) (arm.Lit k)) → Spreads cs (arm.Lit l) lits → Spreads (c ++ cs) (arm.Lit l) (k ∷ lits)
spreads-more l k lits c cs sound forces h = record {
  sound = λ run s. subst (λ (r : Option (List Literal)). IsSound r) (sym (run-append c cs run)) (h.sound (run_on run c) (sound run s));
  forces = λ run s n.
      subst (λ (r : Option (List Literal)). AreHad r (k ∷ lits)) (sym (run-append c cs run))
      (run-keeps cs (run_on run c) (arm.Lit k) (forces run s n), h.forces (run_on run c) (sound run s) (run-keeps c run (arm.Lit (negated l)) n));
}

lifts-more : (k n : Literal) (lits : List Literal) (a : Arm) (cs c : List Bounded) → Lifts cs lits a → Settles c (arm.Lit n ∷ arm.Lit (negated k) ∷ opposite a ∷ []) → Lifts (cs ++ c) (k ∷ lits) (arm.Lit n)
lifts-more k n lits a cs c h u = record {
  sound = λ run s. subst (λ (r : Option (List Literal)). IsSound r) (sym (run-append cs c run)) (u.sound (run_on run cs) (h.sound run s));
  forces = λ run s had.
      let a1 = h.forces run s had.1 in
      let k1 = run-keeps cs run (arm.Lit k) had.0 in
      subst (λ (r : Option (List Literal)). Has r (arm.Lit n)) (sym (run-append cs c run))
      (u.forces (run_on run cs) (arm.Lit n) (h.sound run s) (inl (refl, (twice (run_on run cs) (arm.Lit k) k1, (twice (run_on run cs) a a1, tt)))));
}

-- the line of "all but one at most"
ends_in_five : (a b c d e : List Bounded) (run : Option (List Literal)) → run_on (run_on (run_on (run_on (run_on run a) b) c) d) e ≡ None → run_on run (a ++ (b ++ (c ++ (d ++ e)))) ≡ None
ends_in_five a b c d e run is =
    run-append a (b ++ (c ++ (d ++ e))) run ∙ run-append b (c ++ (d ++ e)) (run_on run a) ∙ run-append c (d ++ e) (run_on (run_on run a) b) ∙ run-append d e (run_on (run_on (run_on run a) b) c) ∙ is

unit-line : (n l : Literal) (lits : List Literal) (b a : Arm) (us hs ps ups ls : List Bounded)
    → Settles us (b ∷ []) → Settles hs (arm.Lit n ∷ arm.Lit (negated l) ∷ opposite b ∷ []) → Spreads ps (arm.Lit l) lits → Lifts ups lits a
    → Settles ls (arm.Lit n ∷ arm.Lit l ∷ opposite a ∷ []) → Refutes (us ++ (hs ++ (ps ++ (ups ++ ls)))) (arm.Lit n ∷ [])
unit-line n l lits b a us hs ps ups ls hu hh hp hl hd run s (nl, _) =
    let r1 = run_on run us in
    let r2 = run_on r1 hs in
    let r3 = run_on r2 ps in
    let r4 = run_on r3 ups in
    let s1 : IsSound r1 = hu.sound run s in
    let s2 : IsSound r2 = hh.sound r1 s1 in
    let s3 : IsSound r3 = hp.sound r2 s2 in
    let s4 : IsSound r4 = hl.sound r3 s3 in
    let b1 : Has r1 b = hu.forces run b s (inl (refl, tt)) in
    let n1 : Has r1 (opposite (arm.Lit n)) = run-keeps us run (opposite (arm.Lit n)) nl in
    let l2 : Has r2 (arm.Lit (negated l)) = hh.forces r1 (arm.Lit (negated l)) s1 (inr (n1, inl (refl, (twice r1 b b1, tt)))) in
    let had : AreHad r3 lits = hp.forces r2 s2 l2 in
    let a4 : Has r4 a = hl.forces r3 s3 had in
    let l4 : Has r4 (opposite (arm.Lit l)) = run-keeps ups r3 (arm.Lit (negated l)) (run-keeps ps r2 (arm.Lit (negated l)) l2) in
    let n2 : Has r2 (opposite (arm.Lit n)) = run-keeps hs r1 (opposite (arm.Lit n)) n1 in
    let n3 : Has r3 (opposite (arm.Lit n)) = run-keeps ps r2 (opposite (arm.Lit n)) n2 in
    let n4 : Has r4 (opposite (arm.Lit n)) = run-keeps ups r3 (opposite (arm.Lit n)) n3 in
    let n5 : Has (run_on r4 ls) (arm.Lit n) = hd.forces r4 (arm.Lit n) s4 (inl (refl, (l4, (twice r4 a a4, tt)))) in
    ends_in_five us hs ps ups ls run (conflict (run_on r4 ls) (hd.sound r4 s4) (arm.Lit n) n5 (run-keeps ls r4 (opposite (arm.Lit n)) n4))

-- the same by ids
pub lifted-none : (given : List Given) → Lifted given [] [] arm.True
lifted-none given = ([], refl, lifts-none)

pub lifted-more : (given : List Given) (k n : Literal) (lits : List Literal) (a : Arm) (ids more : List ℕ) → Lifted given ids lits a → Settled given more (arm.Lit n ∷ arm.Lit (negated k) ∷ opposite a ∷ []) → Lifted given (ids ++ more) (k ∷ lits) (arm.Lit n)
lifted-more given k n lits a ids more (cs, e, h) (c, f, u) = (cs ++ c, hinted-append given ids more cs c e f, lifts-more k n lits a cs c h u)

pub lifted-stays : (old new : List Given) (ids : List ℕ) (lits : List Literal) (a : Arm) → ((id : ℕ) (c : Bounded) → live_at old id ≡ Some c → live_at new id ≡ Some c) → Lifted old ids lits a → Lifted new ids lits a
lifted-stays old new ids lits a h (cs, e, f) = (cs, hinted-stays old new ids cs h e, f)

-- the clause of two literals
pair-forces : (l k : Literal) (given : List Given) (id : ℕ) → (live_at given id ≡ Some (clause (l ∷ k ∷ []))) ⊎ (live_at given id ≡ Some (clause (k ∷ l ∷ [])))
    → (c : List Bounded) × (hinted given (id ∷ []) ≡ Some c) × ((run : Option (List Literal)) → IsSound run → IsSound (run_on run c))
    × ((run : Option (List Literal)) → IsSound run → Has run (arm.Lit (negated l)) → Has (run_on run c) (arm.Lit k))
pair-forces l k given id (inl e) =
    let h = live-settles (arm.Lit l ∷ arm.Lit k ∷ []) refl in
    (clause (l ∷ k ∷ []) ∷ [], rw e refl, h.sound, λ run s n. h.forces run (arm.Lit k) s (inr (n, inl (refl, tt))))
pair-forces l k given id (inr e) =
    let h = live-settles (arm.Lit k ∷ arm.Lit l ∷ []) refl in
    (clause (k ∷ l ∷ []) ∷ [], rw e refl, h.sound, λ run s n. h.forces run (arm.Lit k) s (inl (refl, (n, tt))))

pub pairs-spread : (given : List Given) (pairs : List ((ℕ × ℕ) × ℕ)) (l : Literal) (lits : List Literal) → AllByRecursion (IsPaired given pairs l) lits → Spread given (ids_with pairs l lits) (arm.Lit l) lits
pairs-spread given pairs l [] h = ([], refl, spreads-none (arm.Lit l))
pairs-spread given pairs l (k ∷ lits) ((id, e, live), more) =
    let (c, f, sound, forces) = pair-forces l k given id live in
    let (cs, g, rest) = pairs-spread given pairs l lits more in
    let ids : option_to_list (id_of pairs l.variable k.variable) ≡ id ∷ [] = ap option_to_list e in (
      c ++ cs,
      subst (λ (xs : List ℕ). hinted given (xs ++ ids_with pairs l lits) ≡ Some (c ++ cs)) (sym ids) (hinted-append given (id ∷ []) (ids_with pairs l lits) c cs f g),
      spreads-more l k lits c cs sound forces rest,
    )

-- what is held
pub held-settled : (s : ProofState) (held : Option Held) → IsHeldIf s held → Settled s.given (held_ids held) (held_arm held ∷ [])
held-settled s None h = ([], refl, trivial-settles (arm.True ∷ []) refl)
held-settled s (Some h) r = (clause (h.lit ∷ []) ∷ [], rw r.unit refl, live-settles (arm.Lit h.lit ∷ []) refl)

-- the hints of the line
five-hinted : (given : List Given) (a b c d e : List ℕ) (us bs cs ds es : List Bounded) → hinted given a ≡ Some us → hinted given b ≡ Some bs → hinted given c ≡ Some cs → hinted given d ≡ Some ds → hinted given e ≡ Some es
    → hinted given (a ++ (b ++ (c ++ (d ++ e)))) ≡ Some (us ++ (bs ++ (cs ++ (ds ++ es))))
five-hinted given a b c d e us bs cs ds es ha hb hc hd he =
    hinted-append given a (b ++ (c ++ (d ++ e))) us (bs ++ (cs ++ (ds ++ es))) ha
    (hinted-append given b (c ++ (d ++ e)) bs (cs ++ (ds ++ es)) hb (hinted-append given c (d ++ e) cs (ds ++ es) hc (hinted-append given d e ds es hd he)))

pub unit-refuted-by : (s : ProofState) (pairs : List ((ℕ × ℕ) × ℕ)) (held : Option Held) (n : Name) (l : Literal) (lits : List Literal) (a : Arm) (lifts : List ℕ)
    → IsDefined s n l (held_arm held) a → IsHeldIf s held → AllByRecursion (IsPaired s.given pairs l) lits → Lifted s.given lifts lits a → Refuted s.given (unit_hints pairs held n l lits lifts) (arm.Lit n.lit ∷ [])
unit-refuted-by s pairs held n l lits a lifts d h p (ds, hd, lf) =
    let (us, ha, su) = held-settled s held h in
    let (bs, hb, sh) = high-up s n l (held_arm held) a d in
    let (cs, hc, sp) = pairs-spread s.given pairs l lits p in
    let (es, he, sl) = low-up s n l (held_arm held) a d in (
      us ++ (bs ++ (cs ++ (ds ++ es))),
      five-hinted s.given (held_ids held) ((n.id + 2) ∷ []) (ids_with pairs l lits) lifts ((n.id + 3) ∷ []) us bs cs ds es ha hb hc hd he,
      unit-line n.lit l lits (held_arm held) a us bs cs ds es su sh sp lf sl,
    )
