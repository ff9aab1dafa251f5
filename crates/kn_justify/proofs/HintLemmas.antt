-- Hints by their ids: what is live, and the lines of a justification by ids.
use Rattle.std.proofs.Common.{◌≡◌, ℕ, zero, suc, ◌≤◌, ◌++◌, true, false, List, [], ◌∷◌, Option, None, Some, Ok, Err, refl, sym, ap, subst, arith}
use Rattle.std.specs.Option.{option_and_then, option_map}
use Rattle.std.specs.Result.{IsOk}
use Rattle.std.proofs.lemmas.Bool.{cond-true, and_from, or_parts}
use Rattle.std.proofs.lemmas.Option.{same_Some}
use Rattle.kn_logic.specs.Literals.{Literal, negated}
use Rattle.kn_logic.specs.Constraints.{Bounded, clause}
use Rattle.kn_lines.specs.Lines.{AreIds}
use Rattle.kn_lines.specs.declared.line.Arm.{Arm}
use Rattle.kn_lines.specs.declared.line.Arm.TheVariants as arm
use Rattle.kn_rules.specs.declared.given.Given.{Given}
use Rattle.kn_rules.specs.declared.given.Origin.{Origin}
use Rattle.kn_rules.specs.States.{ProofState, live_at}
use Rattle.kn_rules.specs.Steps.{opposite, with_arm, are_known, hinted, is_conflict, with_clause, if_conflict, follow}
use Rattle.kn_justify.specs.Arms.{Settled, Refuted, literals_of, is_trivial, AreKnownArms}
use Rattle.kn_justify.specs.Growth.{Grown}
use Rattle.kn_justify.proofs.ArmLemmas.{live-settles, trivial-settles, definition-settles}
use Rattle.kn_justify.proofs.GrowthLemmas.{grown-live}
use Rattle.kn_justify.proofs.StartLemmas.{line-conflict}
use Rattle.kn_justify.proofs.SideLemmas.{side-refutes, second-refutes, halves-refute, unit-refutes}

-- what is live
abbrev pub StaysLive : List Given → List Given → Type 0
StaysLive old new = (id : ℕ) (c : Bounded) → live_at old id ≡ Some c → live_at new id ≡ Some c

one_more : (o p : Option (List Bounded)) (q : Option Bounded) (r : Option Bounded) (cs : List Bounded) → ((c : Bounded) → q ≡ Some c → r ≡ Some c) → ((ds : List Bounded) → o ≡ Some ds → p ≡ Some ds) → option_and_then (λ c. option_map (λ xs. c ∷ xs) o) q ≡ Some cs → option_and_then (λ c. option_map (λ xs. c ∷ xs) p) r ≡ Some cs
one_more o p None r cs h k e = absurd cc
one_more None p (Some c) r cs h k e = absurd cc
one_more (Some ds) p (Some c) r cs h k e = rw (h c refl, k ds refl) e

pub hinted-stays : (old new : List Given) (ids : List ℕ) (cs : List Bounded) → StaysLive old new → hinted old ids ≡ Some cs → hinted new ids ≡ Some cs
hinted-stays old new [] cs h e = e
hinted-stays old new (id ∷ ids) cs h e =
    one_more (hinted old ids) (hinted new ids) (live_at old id) (live_at new id) cs (h id) (λ ds. hinted-stays old new ids ds h) e

-- what is settled stays so while the state grows
pub settled-grows : (old new : ProofState) (ids : List ℕ) (arms : List Arm) → Grown old new → Settled old.given ids arms → Settled new.given ids arms
settled-grows old new ids arms g (cs, e, s) = (cs, hinted-stays old.given new.given ids cs (λ id c. grown-live old new id c g) e, s)

at_front : (o p q : Option (List Bounded)) (l : Option Bounded) (cs ds : List Bounded) → ((xs : List Bounded) → o ≡ Some xs → q ≡ Some (xs ++ ds)) → option_and_then (λ c. option_map (λ xs. c ∷ xs) o) l ≡ Some cs → option_and_then (λ c. option_map (λ xs. c ∷ xs) q) l ≡ Some (cs ++ ds)
at_front o p q None cs ds h e = absurd cc
at_front None p q (Some c) cs ds h e = absurd cc
at_front (Some xs) p q (Some c) cs ds h e =
    let same : c ∷ xs ≡ cs = same_Some (c ∷ xs) cs e in
    rw (h xs refl) (ap (λ (ys : List Bounded). Some (ys ++ ds)) same)

pub hinted-append : (given : List Given) (a b : List ℕ) (cs ds : List Bounded) → hinted given a ≡ Some cs → hinted given b ≡ Some ds → hinted given (a ++ b) ≡ Some (cs ++ ds)
hinted-append given [] b cs ds e f =
    let none : [] ≡ cs = same_Some [] cs e in subst (λ (xs : List Bounded). hinted given b ≡ Some (xs ++ ds)) none f
hinted-append given (id ∷ a) b cs ds e f =
    at_front (hinted given a) (hinted given b) (hinted given (a ++ b)) (live_at given id) cs ds (λ xs g. hinted-append given a b xs ds g f) e

-- the lines of a justification
pub side-refuted : (given : List Given) (y u v w uh vh wh : Arm) (du dv ch dw : List ℕ)
    → Settled given du (opposite u ∷ y ∷ uh ∷ []) → Settled given dv (opposite v ∷ y ∷ vh ∷ [])
    → Settled given ch (opposite uh ∷ opposite vh ∷ wh ∷ []) → Settled given dw (w ∷ y ∷ opposite wh ∷ [])
    → Refuted given (du ++ (dv ++ (ch ++ dw))) (y ∷ opposite u ∷ opposite v ∷ w ∷ [])
side-refuted given y u v w uh vh wh du dv ch dw (a, ea, ha) (b, eb, hb) (c, ec, hc) (d, ed, hd) = (
  a ++ (b ++ (c ++ d)),
  hinted-append given du (dv ++ (ch ++ dw)) a (b ++ (c ++ d)) ea (hinted-append given dv (ch ++ dw) b (c ++ d) eb (hinted-append given ch dw c d ec ed)),
  side-refutes y u v w uh vh wh a b c d ha hb hc hd,
)

pub second-refuted : (given : List Given) (x : Literal) (arms : List Arm) (first rest : List ℕ)
    → Settled given first (arm.Lit (negated x) ∷ arms) → Refuted given rest (arm.Lit x ∷ arms) → Refuted given (first ++ rest) arms
second-refuted given x arms first rest (a, ea, ha) (b, eb, hb) = (a ++ b, hinted-append given first rest a b ea eb, second-refutes x arms a b ha hb)

pub halves-refuted : (given : List Given) (x : Literal) (u w uh ul : Arm) (hh hl dh dl : List ℕ)
    → Settled given hh (opposite uh ∷ arm.False ∷ w ∷ []) → Settled given hl (opposite ul ∷ arm.False ∷ w ∷ [])
    → Settled given dh (opposite u ∷ arm.Lit (negated x) ∷ uh ∷ []) → Settled given dl (opposite u ∷ arm.Lit x ∷ ul ∷ [])
    → Refuted given (hh ++ (hl ++ (dh ++ dl))) (opposite u ∷ arm.False ∷ w ∷ [])
halves-refuted given x u w uh ul hh hl dh dl (a, ea, ha) (b, eb, hb) (c, ec, hc) (d, ed, hd) = (
  a ++ (b ++ (c ++ d)),
  hinted-append given hh (hl ++ (dh ++ dl)) a (b ++ (c ++ d)) ea (hinted-append given hl (dh ++ dl) b (c ++ d) eb (hinted-append given dh dl c d ec ed)),
  halves-refute x u w uh ul a b c d ha hb hc hd,
)

pub unit-refuted : (given : List Given) (u v w : Arm) (left right ch : List ℕ)
    → Settled given left (u ∷ []) → Settled given right (v ∷ []) → Settled given ch (opposite u ∷ opposite v ∷ w ∷ [])
    → Refuted given (left ++ (right ++ ch)) (w ∷ [])
unit-refuted given u v w left right ch (a, ea, ha) (b, eb, hb) (c, ec, hc) =
    (a ++ (b ++ c), hinted-append given left (right ++ ch) a (b ++ c) ea (hinted-append given right ch b c eb ec), unit-refutes u v w a b c ha hb hc)

-- a line that steps
pub refuted-steps : (s : ProofState) (o : Origin) (arms : List Arm) (ids : List ℕ) → are_known s.vars (literals_of arms) ≡ true → is_trivial arms ≡ false → Refuted s.given ids arms → IsOk (follow s o (literals_of arms) ids)
refuted-steps s o arms ids known e (cs, live, h) =
    let run : is_conflict (literals_of arms) cs ≡ true = line-conflict arms cs e h in
    subst (λ r. IsOk r) (sym (cond-true _ (if_conflict s o (literals_of arms) (hinted s.given ids)) (Err 3) known))
    (subst (λ r. IsOk (if_conflict s o (literals_of arms) r)) (sym live)
    (subst (λ r. IsOk r) (sym (cond-true _ (Ok (with_clause s o (literals_of arms))) (Err 5) run)) refl))

live-id : (given : List Given) (id : ℕ) (c : Bounded) → live_at given id ≡ Some c → 1 ≤ id
live-id given zero c e = absurd cc
live-id given (suc id) c e = omega arith

ids_at : (given : List Given) (id : ℕ) (ids : List ℕ) (o : Option Bounded) (p : Option (List Bounded)) (cs : List Bounded) → live_at given id ≡ o → hinted given ids ≡ p → option_and_then (λ c. option_map (λ xs. c ∷ xs) p) o ≡ Some cs → ((ds : List Bounded) → hinted given ids ≡ Some ds → AreIds ids) → AreIds (id ∷ ids)
ids_at given id ids None p cs e f g h = absurd cc
ids_at given id ids (Some c) None cs e f g h = absurd cc
ids_at given id ids (Some c) (Some ds) cs e f g h = (live-id given id c e, h ds f)

hinted-ids : (given : List Given) (ids : List ℕ) (cs : List Bounded) → hinted given ids ≡ Some cs → AreIds ids
hinted-ids given [] cs e = tt
hinted-ids given (id ∷ ids) cs e = ids_at given id ids (live_at given id) (hinted given ids) cs refl refl e (λ ds f. hinted-ids given ids ds f)

pub refuted-ids : (given : List Given) (ids : List ℕ) (arms : List Arm) → Refuted given ids arms → AreIds ids
refuted-ids given ids arms (cs, e, h) = hinted-ids given ids cs e

pub known-literals : (vars : ℕ) (arms : List Arm) → AreKnownArms vars arms → are_known vars (literals_of arms) ≡ true
known-literals vars [] h = refl
known-literals vars (arm.True ∷ arms) h = known-literals vars arms h.1
known-literals vars (arm.False ∷ arms) h = known-literals vars arms h.1
known-literals vars (arm.Lit l ∷ arms) h = and_from _ _ h.0 (known-literals vars arms h.1)

-- what a lemma's clause has settled
pub clause-settled : (given : List Given) (id : ℕ) (arms : List Arm) → live_at given id ≡ Some (clause (literals_of arms)) → is_trivial arms ≡ false → Settled given (id ∷ []) arms
clause-settled given id arms e f =
    (clause (literals_of arms) ∷ [], rw e refl, live-settles arms (or_parts _ _ f).0)

pub trivial-settled : (given : List Given) (arms : List Arm) → is_trivial arms ≡ true → Settled given [] arms
trivial-settled given arms e = ([], refl, trivial-settles arms e)

-- the clause of a definition
pub definition-settled : (given : List Given) (id : ℕ) (a b : Literal) (last : Arm) → live_at given id ≡ Some (with_arm (a ∷ b ∷ []) last) → Settled given (id ∷ []) (arm.Lit a ∷ arm.Lit b ∷ last ∷ [])
definition-settled given id a b last e = (with_arm (a ∷ b ∷ []) last ∷ [], rw e refl, definition-settles a b last)
