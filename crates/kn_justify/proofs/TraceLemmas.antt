-- A trace as it is walked: each entry finds the lemmas of its children among those of the entries before it.
use Rattle.std.proofs.Common.{◌≡◌, ℕ, zero, suc, ◌+◌, ◌≤◌, ◌<◌, ◌==◌, ◌&&◌, ◌++◌, Bool, true, false, if◌then◌else◌, List, [], ◌∷◌, length, take, get_or, nat_eq, Option, Some, None, refl, sym, ap, ◌∙◌, subst, arith, append_assoc}
use Rattle.std.specs.Prelude.{option_to_list}
use Rattle.std.specs.List.{AllByRecursion}
use Rattle.std.specs.Option.{is_some}
use Rattle.std.proofs.lemmas.List.{append-nil, take_more}
use Rattle.std.proofs.lemmas.Bool.{and_parts, eqb-true, eq-eqb, and_from}
use Rattle.kn_logic.proofs.Public.{All-push}
use Rattle.kn_rules.specs.States.{ProofState}
use Rattle.kn_diagram.specs.declared.trace.Met.{Met}
use Rattle.kn_diagram.specs.Diagrams.{Table}
use Rattle.kn_diagram.specs.Traces.{found, has_pair, IsRight, IsExplained, AreExplained}
use Rattle.kn_justify.specs.declared.name.Name.{Name}
use Rattle.kn_justify.specs.declared.side.Side.{Side}
use Rattle.kn_justify.specs.Arms.{Settled}
use Rattle.kn_justify.specs.Growth.{Grown}
use Rattle.kn_justify.specs.Names.{pair_arms, IsNamedMet}
use Rattle.kn_justify.specs.Lemmas.{lemma_of, has_lemma, seen, joined, entry_with, IsJoined, AreJoined, AreCovered, AreNamed, HasChildren}
use Rattle.kn_justify.proofs.HintLemmas.{settled-grows}
use Rattle.kn_justify.proofs.NameLemmas.{met-grows}
use Rattle.kn_justify.proofs.LookupLemmas.{lookup-kept, lookup-last}

-- the entry at a place is explained by those before it
pub explained-at : (join : Bool → Bool → Bool) (d : Table) (before ms : List Met) (i : ℕ) (x : Met) → AreExplained join d before ms → i < length ms → x ≡ get_or ms i x → IsExplained join d (before ++ take i ms) x
explained-at join d before [] i x h b e = absurd (omega arith)
explained-at join d before (m ∷ ms) zero x h b e = subst (λ (y : Met). IsExplained join d (before ++ []) y) (sym e) (subst (λ (bs : List Met). IsExplained join d bs m) (sym (append-nil before)) h.0)
explained-at join d before (m ∷ ms) (suc i) x h b e =
    subst (λ (bs : List Met). IsExplained join d bs x) (append_assoc before (m ∷ []) (take i ms))
    (explained-at join d (before ++ m ∷ []) ms i x h.1 (omega arith) e)

-- what holds of each entry holds of the one at a place
pub All-place : {X : Type 0} (P : X → Type 0) (xs : List X) (i : ℕ) (x : X) → AllByRecursion P xs → i < length xs → x ≡ get_or xs i x → P x
All-place P [] i x h b e = absurd (omega arith)
All-place P (y ∷ xs) zero x h b e = subst P (sym e) h.0
All-place P (y ∷ xs) (suc i) x h b e = All-place P xs i x h.1 (omega arith) e

pub All-weaker : {X : Type 0} (P Q : X → Type 0) (xs : List X) → ((x : X) → P x → Q x) → AllByRecursion P xs → AllByRecursion Q xs
All-weaker P Q [] f h = tt
All-weaker P Q (x ∷ xs) f h = (f x h.0, All-weaker P Q xs f h.1)

-- entries that are covered
pair_at : (lemmas : List ((ℕ × ℕ) × Option ℕ)) (m : Met) (p q : ℕ) (o : Option ℕ) (b : Bool) → ((p == m.u) && (q == m.v)) ≡ b → has_lemma lemmas m.u m.v ≡ true → is_some (if b then Some m.w else o) ≡ true
    → (is_some o ≡ true → has_lemma lemmas p q ≡ true) → has_lemma lemmas p q ≡ true
pair_at lemmas m p q o true t h e ih =
    let parts = and_parts (p == m.u) (q == m.v) t in
    subst (λ (x : ℕ). has_lemma lemmas x q ≡ true) (sym (eqb-true p m.u parts.0)) (subst (λ (x : ℕ). has_lemma lemmas m.u x ≡ true) (sym (eqb-true q m.v parts.1)) h)
pair_at lemmas m p q o false t h e ih = ih e

pub covered-pair : (lemmas : List ((ℕ × ℕ) × Option ℕ)) (ms : List Met) (p q : ℕ) → AreCovered lemmas ms → has_pair ms p q ≡ true → has_lemma lemmas p q ≡ true
covered-pair lemmas [] p q h e = absurd cc
covered-pair lemmas (m ∷ ms) p q h e = pair_at lemmas m p q (found ms p q) ((p == m.u) && (q == m.v)) refl h.0 e (covered-pair lemmas ms p q h.1)

pub has-children : (d : Table) (side : Side) (ms : List Met) (lemmas : List ((ℕ × ℕ) × Option ℕ)) (i : ℕ) (m : Met) → AreExplained (joined side) d [] ms → AreCovered lemmas (take i ms) → i < length ms → m ≡ get_or ms i m → HasChildren d side lemmas m
has-children d side ms lemmas i m x h b e =
    let at = explained-at (joined side) d [] ms i m x b e in
    record {
      right = at.right;
      highs = λ o. covered-pair lemmas (take i ms) _ _ h (at.highs o.0 o.1 o.2);
      lows = λ o. covered-pair lemmas (take i ms) _ _ h (at.lows o.0 o.1 o.2);
    }

some_kept : (o p : Option (Option ℕ)) → ((x : Option ℕ) → o ≡ Some x → p ≡ Some x) → is_some o ≡ true → is_some p ≡ true
some_kept None p h e = absurd cc
some_kept (Some x) p h e = ap is_some (h x refl)

pub lemma-kept : (lemmas more : List ((ℕ × ℕ) × Option ℕ)) (p q : ℕ) → has_lemma lemmas p q ≡ true → has_lemma (lemmas ++ more) p q ≡ true
lemma-kept lemmas more p q h = some_kept (lemma_of lemmas p q) (lemma_of (lemmas ++ more) p q) (λ x e. lookup-kept (λ k. nat_eq p k.0 && nat_eq q k.1) lemmas more x e) h

pub lemma-last : (lemmas : List ((ℕ × ℕ) × Option ℕ)) (p q : ℕ) (id : Option ℕ) → lemma_of lemmas p q ≡ None → has_lemma (lemmas ++ ((p, q), id) ∷ []) p q ≡ true
lemma-last lemmas p q id e = ap is_some (lookup-last (λ k. nat_eq p k.0 && nat_eq q k.1) lemmas (p, q) id e (and_from _ _ (eq-eqb p p refl) (eq-eqb q q refl)))

-- the next entry has its lemma already
pub covered-next : (lemmas : List ((ℕ × ℕ) × Option ℕ)) (ms : List Met) (i : ℕ) (m : Met) → AreCovered lemmas (take i ms) → i < length ms → m ≡ get_or ms i m → has_lemma lemmas m.u m.v ≡ true → AreCovered lemmas (take (i + 1) ms)
covered-next lemmas ms i m h b e k =
    subst (λ (x : List Met). AreCovered lemmas x) (sym (take_more ms i m b ∙ ap (λ (y : Met). take i ms ++ y ∷ []) (sym e)))
    (All-push (λ x. has_lemma lemmas x.u x.v ≡ true) (take i ms) m h k)

-- the next entry gets its lemma
pub covered-more : (lemmas next : List ((ℕ × ℕ) × Option ℕ)) (ms : List Met) (i : ℕ) (m : Met) (id : Option ℕ) → AreCovered lemmas (take i ms) → i < length ms → m ≡ get_or ms i m → lemma_of lemmas m.u m.v ≡ None
    → next ≡ lemmas ++ ((m.u, m.v), id) ∷ [] → AreCovered next (take (i + 1) ms)
covered-more lemmas next ms i m id h b e none is =
    subst (λ (x : List ((ℕ × ℕ) × Option ℕ)). AreCovered x (take (i + 1) ms)) (sym is)
    (covered-next (lemmas ++ ((m.u, m.v), id) ∷ []) ms i m
    (All-weaker (λ x. has_lemma lemmas x.u x.v ≡ true) (λ x. has_lemma (lemmas ++ ((m.u, m.v), id) ∷ []) x.u x.v ≡ true) (take i ms) (λ x k. lemma-kept lemmas (((m.u, m.v), id) ∷ []) x.u x.v k) h)
    b e (lemma-last lemmas m.u m.v id none))

-- lemmas stay right while the state grows, and one more comes
pub joined-grow : (old new : ProofState) (d : Table) (names : List (ℕ × Name)) (side : Side) (lemmas : List ((ℕ × ℕ) × Option ℕ)) → Grown old new → AreJoined old.given d names side lemmas → AreJoined new.given d names side lemmas
joined-grow old new d names side lemmas g h =
    All-weaker (IsJoined old.given d names side) (IsJoined new.given d names side) lemmas
    (λ x j. record { w = j.w; right = j.right; settled = settled-grows old new (option_to_list x.1) (pair_arms names (seen side (entry_with x.0 j.w))) g j.settled }) h

pub joined-more : (old new : ProofState) (d : Table) (names : List (ℕ × Name)) (side : Side) (lemmas next : List ((ℕ × ℕ) × Option ℕ)) (m : Met) (id : Option ℕ) → Grown old new → AreJoined old.given d names side lemmas → IsRight (joined side) d m
    → Settled new.given (option_to_list id) (pair_arms names (seen side m)) → next ≡ lemmas ++ ((m.u, m.v), id) ∷ [] → AreJoined new.given d names side next
joined-more old new d names side lemmas next m id g h right settled is =
    subst (λ (x : List ((ℕ × ℕ) × Option ℕ)). AreJoined new.given d names side x) (sym is)
    (All-push (IsJoined new.given d names side) lemmas ((m.u, m.v), id) (joined-grow old new d names side lemmas g h) (record { w = m.w; right = right; settled = settled }))

pub named-grow : (old new : ProofState) (d : Table) (names : List (ℕ × Name)) (ms : List Met) → Grown old new → AreNamed old d names ms → AreNamed new d names ms
named-grow old new d names ms g h = All-weaker (IsNamedMet old d names) (IsNamedMet new d names) ms (λ m k. met-grows old new d names m g k) h
