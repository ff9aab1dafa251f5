-- Ids that are found by two variables.
use Rattle.std.proofs.Common.{◌≡◌, ℕ, suc, ◌+◌, ◌<◌, ◌⊎◌, ◌==◌, ◌&&◌, ◌++◌, Bool, true, false, List, [], ◌∷◌, length, take, get_or, Option, Some, None, IfSome, refl, sym, ap, ◌∙◌, subst, inl, inr, nat_eq, arith}
use Rattle.std.specs.List.{AllByRecursion}
use Rattle.std.specs.Option.{is_some}
use Rattle.std.proofs.lemmas.Bool.{and_parts, eqb-true, eq-eqb, or_left, or_right}
use Rattle.std.proofs.lemmas.List.Folds.{list_any-append}
use Rattle.std.proofs.Math.Seq.{take-suc}
use Rattle.indexmap.specs.IndexMap.{insert_entry}
use Rattle.kn_logic.specs.Literals.{Literal}
use Rattle.kn_logic.specs.Constraints.{Bounded, IsWithin}
use Rattle.kn_logic.specs.Groups.{is_among}
use Rattle.kn_logic.proofs.Public.{All-append}
use Rattle.kn_rules.specs.States.{ProofState, live_at}
use Rattle.kn_justify.specs.PairIds.{id_of, smaller, larger, IsOver, IsNoted, IsIdOver, IsNotedFor, AreNoted}
use Rattle.kn_justify.proofs.LookupLemmas.{insert-last, lookup-kept, lookup-either}

-- an id was noted behind the others
none_of : (o p : Option ℕ) (b : Bool) → o ≡ p → b ≡ is_some o → b ≡ false → p ≡ None
none_of o None b e s f = refl
none_of o (Some x) b e s f = (let g : is_some o ≡ true = ap is_some e in absurd cc)

last-noted : (old es new : List ((ℕ × ℕ) × ℕ)) (u v id : ℕ) (o : Option ℕ) (b : Bool) → es ≡ old → o ≡ id_of old u v → b ≡ is_some o → b ≡ false
    → new ≡ insert_entry (λ k x. nat_eq k.0 x.0 && nat_eq k.1 x.1) es (u, v) id → new ≡ old ++ ((u, v), id) ∷ []
last-noted old es new u v id o b same e s f is =
    is
    ∙ insert-last (λ k x. nat_eq k.0 x.0 && nat_eq k.1 x.1) (u, v) id es (ap (λ (xs : List ((ℕ × ℕ) × ℕ)). id_of xs u v) same ∙ none_of o (id_of old u v) b e s f)
    ∙ ap (λ (xs : List ((ℕ × ℕ) × ℕ)). xs ++ ((u, v), id) ∷ []) same

right-last : (es : List ((ℕ × ℕ) × ℕ)) (u v id x y other : ℕ) → id_of (es ++ ((u, v), id) ∷ []) x y ≡ Some other → (id_of es x y ≡ Some other) ⊎ ((x ≡ u) × (y ≡ v) × (other ≡ id))
right-last es u v id x y other e =
    elim (lookup-either (λ k. nat_eq x k.0 && nat_eq y k.1) es (u, v) id other e) [
      | inl f ↦ inl f
      | inr f ↦ (let parts = and_parts (nat_eq x u) (nat_eq y v) f.0 in inr (eqb-true x u parts.0, eqb-true y v parts.1, f.1))
    ]

pub insert-right : (old es new : List ((ℕ × ℕ) × ℕ)) (u v id : ℕ) (o : Option ℕ) (b : Bool) → es ≡ old → o ≡ id_of old u v → b ≡ is_some o → b ≡ false
    → new ≡ insert_entry (λ k x. nat_eq k.0 x.0 && nat_eq k.1 x.1) es (u, v) id
    → (x y other : ℕ) → id_of new x y ≡ Some other → (id_of old x y ≡ Some other) ⊎ ((x ≡ u) × (y ≡ v) × (other ≡ id))
insert-right old es new u v id o b same e s f is x y other h =
    right-last old u v id x y other (subst (λ (xs : List ((ℕ × ℕ) × ℕ)). id_of xs x y ≡ Some other) (last-noted old es new u v id o b same e s f is) h)

pub insert-kept : (old es new : List ((ℕ × ℕ) × ℕ)) (u v id : ℕ) (o : Option ℕ) (b : Bool) → es ≡ old → o ≡ id_of old u v → b ≡ is_some o → b ≡ false
    → new ≡ insert_entry (λ k x. nat_eq k.0 x.0 && nat_eq k.1 x.1) es (u, v) id
    → (x y other : ℕ) → id_of old x y ≡ Some other → id_of new x y ≡ Some other
insert-kept old es new u v id o b same e s f is x y other h =
    subst (λ (xs : List ((ℕ × ℕ) × ℕ)). id_of xs x y ≡ Some other) (sym (last-noted old es new u v id o b same e s f is))
    (lookup-kept (λ k. nat_eq x k.0 && nat_eq y k.1) old (((u, v), id) ∷ []) other h)

-- one more of the ids was noted
stays_noted_at : (old new : List ((ℕ × ℕ) × ℕ)) (u v : ℕ) (o : Option ℕ) → id_of old u v ≡ o → ((x y other : ℕ) → id_of old x y ≡ Some other → id_of new x y ≡ Some other) → is_some o ≡ true → is_some (id_of new u v) ≡ true
stays_noted_at old new u v None e kept h = absurd cc
stays_noted_at old new u v (Some other) e kept h = ap is_some (kept u v other e)

stays_noted : (old new : List ((ℕ × ℕ) × ℕ)) (lits : List Literal) → ((x y other : ℕ) → id_of old x y ≡ Some other → id_of new x y ≡ Some other) → IsNoted old lits → IsNoted new lits
stays_noted old new [] kept h = tt
stays_noted old new (a ∷ []) kept h = tt
stays_noted old new (a ∷ b ∷ []) kept h =
    stays_noted_at old new (smaller a.variable b.variable) (larger a.variable b.variable) (id_of old (smaller a.variable b.variable) (larger a.variable b.variable)) refl kept h
stays_noted old new (a ∷ b ∷ c ∷ more) kept h = tt

if_noted : (s : ProofState) (old new : List ((ℕ × ℕ) × ℕ)) (o : Option Bounded) → ((x y other : ℕ) → id_of old x y ≡ Some other → id_of new x y ≡ Some other) → IfSome o (IsNotedFor s old) → IfSome o (IsNotedFor s new)
if_noted s old new None kept h = tt
if_noted s old new (Some c) kept h = record { within = h.within; noted = stays_noted old new c.lits kept h.noted }

all_noted : (s : ProofState) (old new : List ((ℕ × ℕ) × ℕ)) (ids : List ℕ) → ((x y other : ℕ) → id_of old x y ≡ Some other → id_of new x y ≡ Some other) → AllByRecursion (λ id. IfSome (live_at s.given id) (IsNotedFor s old)) ids → AllByRecursion (λ id. IfSome (live_at s.given id) (IsNotedFor s new)) ids
all_noted s old new [] kept h = tt
all_noted s old new (id ∷ ids) kept h = (if_noted s old new (live_at s.given id) kept h.0, all_noted s old new ids kept h.1)

pub none-noted : (s : ProofState) → AreNoted s [] []
none-noted s = record { right = λ u v id e. absurd cc; each = tt }

among-more : (ids more : List ℕ) (id k : ℕ) → more ≡ ids ++ id ∷ [] → is_among ids k ≡ true → is_among more k ≡ true
among-more ids more id k is h = subst (λ (xs : List ℕ). is_among xs k ≡ true) (sym is) (list_any-append (λ v. v == k) ids (id ∷ []) ∙ or_left (is_among ids k) (is_among (id ∷ []) k) h)

among-last : (ids more : List ℕ) (id : ℕ) → more ≡ ids ++ id ∷ [] → is_among more id ≡ true
among-last ids more id is =
    subst (λ (xs : List ℕ). is_among xs id ≡ true) (sym is)
    (list_any-append (λ v. v == id) ids (id ∷ []) ∙ or_right (is_among ids id) (is_among (id ∷ []) id) (or_left (id == id) false (eq-eqb id id refl)))

more-over : (s : ProofState) (ids more : List ℕ) (id u v k : ℕ) → more ≡ ids ++ id ∷ [] → IsIdOver s ids u v k → IsIdOver s more u v k
more-over s ids more id u v k is h = record { among = among-more ids more id k is h.among; c = h.c; live = h.live; over = h.over }

pub skips-noted : (s : ProofState) (ids more : List ℕ) (id : ℕ) (pairs : List ((ℕ × ℕ) × ℕ)) → more ≡ ids ++ id ∷ [] → live_at s.given id ≡ None → AreNoted s ids pairs → AreNoted s more pairs
skips-noted s ids more id pairs is e h = record {
  right = λ u v k f. more-over s ids more id u v k is (h.right u v k f);
  each = subst (AllByRecursion (λ id. IfSome (live_at s.given id) (IsNotedFor s pairs))) (sym is)
      (All-append _ ids (id ∷ []) h.each (subst (λ (o : Option Bounded). IfSome o (IsNotedFor s pairs)) (sym e) tt, tt));
}

next_right : (s : ProofState) (ids more : List ℕ) (old : List ((ℕ × ℕ) × ℕ)) (id u v other : ℕ) (c : Bounded) → more ≡ ids ++ id ∷ [] → live_at s.given id ≡ Some c → ((u v id : ℕ) → id_of old u v ≡ Some id → IsIdOver s ids u v id) → (id_of old u v ≡ Some other) ⊎ (IsOver c.lits u v × (other ≡ id)) → IsIdOver s more u v other
next_right s ids more old id u v other c is e h (inl f) = more-over s ids more id u v other is (h u v other f)
next_right s ids more old id u v other c is e h (inr f) =
    subst (λ (k : ℕ). IsIdOver s more u v k) (sym f.1) (record { among = among-last ids more id is; c = c; live = e; over = f.0 })

pub next-noted : (s : ProofState) (ids more : List ℕ) (id : ℕ) (c : Bounded) (old new : List ((ℕ × ℕ) × ℕ)) → more ≡ ids ++ id ∷ [] → live_at s.given id ≡ Some c → IsWithin s.vars c
    → ((u v other : ℕ) → id_of new u v ≡ Some other → (id_of old u v ≡ Some other) ⊎ (IsOver c.lits u v × (other ≡ id)))
    → ((u v other : ℕ) → id_of old u v ≡ Some other → id_of new u v ≡ Some other) → IsNoted new c.lits → AreNoted s ids old → AreNoted s more new
next-noted s ids more id c old new is e w right kept noted h = record {
  right = λ u v other f. next_right s ids more old id u v other c is e h.right (right u v other f);
  each = subst (AllByRecursion (λ id. IfSome (live_at s.given id) (IsNotedFor s new))) (sym is)
      (All-append _ ids (id ∷ []) (all_noted s old new ids kept h.each) (subst (λ (o : Option Bounded). IfSome o (IsNotedFor s new)) (sym e) (record { within = w; noted = noted }), tt));
}

pub take-next : (xs : List ℕ) (k : ℕ) → k < length xs → take (k + 1) xs ≡ take k xs ++ get_or xs k 0 ∷ []
take-next xs k h = (let next : k + 1 ≡ suc k = omega arith in ap (λ (n : ℕ). take n xs) next ∙ take-suc xs k 0 h)
