-- The ids of the clauses that a search has learned and not forgotten.
use Rattle.std.proofs.Common.{◌≡◌, ℕ, ◌+◌, ◌++◌, Bool, true, false, List, [], ◌∷◌, length, Option, None, Some, Ok, refl, sym, ap, ◌∙◌, subst, inl, inr, arith}
use Rattle.std.specs.List.{AllByRecursion}
use Rattle.std.proofs.lemmas.Bool.{ne_eqb, cases_eq}
use Rattle.kn_logic.specs.Constraints.{Bounded, clause}
use Rattle.kn_logic.proofs.Public.{All-push}
use Rattle.kn_lines.specs.declared.line.Line.TheVariants.{Learned}
use Rattle.kn_rules.specs.declared.given.Given.{Given}
use Rattle.kn_rules.specs.declared.given.Origin.TheVariants as origin
use Rattle.kn_rules.specs.States.{ProofState}
use Rattle.kn_rules.specs.Steps.{step}
use Rattle.kn_rules.specs.Searching.{is_learned, live_before, learned_live}
use Rattle.kn_rules.proofs.Public.{follow-gives, given_at-grows}
use Rattle.kn_propagate.specs.Engines.{Live, live_in, IsAdded}
use Rattle.kn_search.specs.Searches.{contains, IsLiveLearned, AreHeld, AreKept}
use Rattle.kn_search.proofs.Ids.{id-within, given-last}
use Rattle.kn_search.proofs.Mirroring.{added-other}
use Rattle.kn_search.proofs.Once.{once-push}

pub length-push : (ps : List ℕ) (p : ℕ) → length (ps ++ p ∷ []) ≡ length ps + 1
length-push [] p = refl
length-push (x ∷ ps) p = omega (arith, length-push ps p)

-- as many before the one list as before the other
pub as-many-before : (wanted : Bool) (live : Option Bounded) (cs ds : List Bounded) → length (live_before wanted live cs) + length ds ≡ length (live_before wanted live ds) + length cs
as-many-before true (Some c) cs ds = omega arith
as-many-before true None cs ds = omega arith
as-many-before false live cs ds = omega arith

learned_more : (given : List Given) (entry : Given) (c : Bounded) → is_learned entry.origin ≡ true → entry.live ≡ Some c → length (learned_live (given ++ entry ∷ [])) ≡ length (learned_live given) + 1
learned_more [] entry c is live = rw (is, live) refl
learned_more (x ∷ given) entry c is live =
    omega (arith, learned_more given entry c is live, as-many-before (is_learned x.origin) x.live (learned_live (given ++ entry ∷ [])) (learned_live given))

front_learned : (given : List Given) (entry : Given) (ids : List ℕ) → AllByRecursion (IsLiveLearned given) ids → AllByRecursion (IsLiveLearned (given ++ entry ∷ [])) ids
front_learned given entry [] h = tt
front_learned given entry (id ∷ ids) h =
    let (e, c, at, learned, is) = h.0 in
    ((e, c, given_at-grows given (entry ∷ []) id e at, learned, is), front_learned given entry ids h.1)

new_id : (given : List Given) (ids : List ℕ) (id : ℕ) → id ≡ length given + 1 → AllByRecursion (IsLiveLearned given) ids → contains ids id ≡ false
new_id given [] id same h = refl
new_id given (p ∷ ids) id same h =
    let (e, c, at, learned, is) = h.0 in
    rw (ne_eqb p id (λ f. omega (arith, f, same, id-within given p e at))) (new_id given ids id same h.1)

pub held-none : (given : List Given) → AreHeld given []
held-none given = record { learned = tt; once = tt; count = omega arith }

held_push : (given : List Given) (entry : Given) (ids : List ℕ) (id : ℕ) (c : Bounded) → id ≡ length given + 1 → is_learned entry.origin ≡ true → entry.live ≡ Some c → AreHeld given ids → AreHeld (given ++ entry ∷ []) (ids ++ id ∷ [])
held_push given entry ids id c same is live h = record {
  learned = All-push (IsLiveLearned (given ++ entry ∷ [])) ids id (front_learned given entry ids h.learned) (entry, c, given-last given entry id same, is, live);
  once = once-push ids id h.once (new_id given ids id same h.learned);
  count = omega (arith, h.count, length-push ids id, learned_more given entry c is live);
}

-- a learned clause was logged
pub held-learned : (s t : ProofState) (c : Bounded) (hints ids : List ℕ) (id : ℕ) → step s (Learned c hints) ≡ Ok t → id ≡ length s.given + 1 → AreHeld s.given ids → AreHeld t.given (ids ++ id ∷ [])
held-learned s t c hints ids id e same h =
    subst (λ (given : List Given). AreHeld given (ids ++ id ∷ [])) (sym (ap (λ (x : ProofState). x.given) (follow-gives s t origin.Learned c.lits hints e)))
    (held_push s.given (record { origin = origin.Learned; live = Some (clause c.lits) }) ids id (clause c.lits) same refl refl h)

-- what was live at first

pub kept-first : (live : List Live) → AreKept live live []
kept-first live = record { live_ = λ id c h. h; others = tt }

was_none : (first live : List Live) (ids : List ℕ) (id : ℕ) → AreKept first live ids → live_in live id ≡ None → (o : Option Bounded) → live_in first id ≡ o → live_in first id ≡ None
was_none first live ids id k none None at = at
was_none first live ids id k none (Some c) at = let there = k.live_ id c at in absurd cc

pub kept-added : (first live new : List Live) (ids : List ℕ) (id : ℕ) (c : Bounded) → live_in live id ≡ None → IsAdded live id c new → AreKept first live ids → AreKept first new (ids ++ id ∷ [])
kept-added first live new ids id c none added k = record {
  live_ = λ j d at. (let there = k.live_ j d at in elim (cases_eq id j) [
    | inl s ↦ (let f : live_in live j ≡ None = subst (λ (n : ℕ). live_in live n ≡ None) s none in absurd cc)
    | inr d ↦ added-other live new id j c added d ∙ there
  ]);
  others = All-push (λ j. live_in first j ≡ None) ids id k.others (was_none first live ids id k none (live_in first id) refl);
}
