-- Ids that are deleted in the log and removed from the engine.
use Rattle.std.proofs.Common.{◌≡◌, ℕ, zero, suc, ◌+◌, ◌-◌, ◌≤◌, ◌<◌, ◌++◌, Bool, true, false, not, cond, eqb, List, [], ◌∷◌, length, take, get_or, Option, None, Some, Result, Ok, Err, IsOk, slice_set, refl, sym, ap, ◌∙◌, subst, inl, inr, arith}
use Rattle.std.specs.List.{AllByRecursion, slice_get}
use Rattle.std.specs.Option.{is_none, option_and_then}
use Rattle.std.proofs.lemmas.Bool.{cond-false, eqb-true, eq-eqb, ne_eqb, cases_eq, or_parts}
use Rattle.std.proofs.lemmas.Option.{same_Some}
use Rattle.std.proofs.lemmas.List.{take_more}
use Rattle.kn_logic.specs.Constraints.{Bounded}
use Rattle.kn_lines.specs.declared.line.Line.TheVariants.{Delete}
use Rattle.kn_rules.specs.declared.given.Given.{Given}
use Rattle.kn_rules.specs.States.{ProofState, given_at, live_at}
use Rattle.kn_rules.specs.Steps.{without, deleted, with_given, step}
use Rattle.kn_rules.specs.Searching.{is_learned, live_before, learned_live, IsGivenBy}
use Rattle.kn_rules.proofs.Public.{with_given-ok}
use Rattle.kn_propagate.specs.Engines.{Live, live_in, removed}
use Rattle.kn_search.specs.Mirrors.{Mirrors}
use Rattle.kn_search.specs.Searches.{contains, AreOnce, removed_all, IsLiveLearned, AreKept}
use Rattle.kn_search.proofs.Ids.{given-parts, given-from}
use Rattle.kn_search.proofs.Held.{as-many-before}

-- the engine's side
removed_here : (x : Live) (rest : List Live) (id : ℕ) (b : Bool) → eqb x.id id ≡ b → live_in rest id ≡ None → live_in (cond (not b) (x ∷ rest) rest) id ≡ None
removed_here x rest id true e h = h
removed_here x rest id false e h = cond-false (eqb x.id id) (Some x.constraint) (live_in rest id) e ∙ h

removed_none : (id : ℕ) (live : List Live) → live_in (removed id live) id ≡ None
removed_none id [] = refl
removed_none id (x ∷ live) = removed_here x (removed id live) id (eqb x.id id) refl (removed_none id live)

removed_there : (x : Live) (rest live : List Live) (id j : ℕ) (b : Bool) → eqb x.id id ≡ b → (id ≡ j → ⊥) → live_in rest j ≡ live_in live j → live_in (cond (not b) (x ∷ rest) rest) j ≡ cond (eqb x.id j) (Some x.constraint) (live_in live j)
removed_there x rest live id j true e d h = h ∙ sym (cond-false (eqb x.id j) (Some x.constraint) (live_in live j) (ne_eqb x.id j (λ f. d (sym (eqb-true x.id id e) ∙ f))))
removed_there x rest live id j false e d h = ap (λ (o : Option Bounded). cond (eqb x.id j) (Some x.constraint) o) h

removed_other : (id j : ℕ) (live : List Live) → (id ≡ j → ⊥) → live_in (removed id live) j ≡ live_in live j
removed_other id j [] d = refl
removed_other id j (x ∷ live) d = removed_there x (removed id live) live id j (eqb x.id id) refl d (removed_other id j live d)

pub removed_push : (ids : List ℕ) (id : ℕ) (live : List Live) → removed id (removed_all ids live) ≡ removed_all (ids ++ id ∷ []) live
removed_push [] id live = refl
removed_push (x ∷ ids) id live = removed_push ids id (removed x live)

-- one id more was removed
pub removed-next : (old mid new : List Live) (ids : List ℕ) (k id : ℕ) → k < length ids → id ≡ get_or ids k 0 → mid ≡ removed_all (take k ids) old → new ≡ removed id mid → new ≡ removed_all (take (k + 1) ids) old
removed-next old mid new ids k id less is h e =
    e ∙ ap (λ (live : List Live). removed id live) h ∙ removed_push (take k ids) id old
    ∙ ap (λ (n : ℕ). removed_all (take k ids ++ n ∷ []) old) is ∙ ap (λ (xs : List ℕ). removed_all xs old) (sym (take_more ids k 0 less))

-- the log's side
set_same : (given : List Given) (k : ℕ) (d e : Given) → slice_get (slice_set given k d) k ≡ Some e → e ≡ d
set_same [] k d e h = absurd cc
set_same (x ∷ given) zero d e h = sym (same_Some d e h)
set_same (x ∷ given) (suc k) d e h = set_same given k d e h

set_other : (given : List Given) (k j : ℕ) (d : Given) → (k ≡ j → ⊥) → slice_get (slice_set given k d) j ≡ slice_get given j
set_other [] k j d n = refl
set_other (x ∷ given) zero zero d n = absurd (n refl)
set_other (x ∷ given) zero (suc j) d n = refl
set_other (x ∷ given) (suc k) zero d n = refl
set_other (x ∷ given) (suc k) (suc j) d n = set_other given k j d (λ e. n (ap suc e))

without_live : (given : List Given) (id : ℕ) (o : Option Given) (e : Given) (c : Bounded) → given_at given id ≡ o → given_at (without given id o) id ≡ Some e → e.live ≡ Some c → ⊥
without_live given id None e c at h is = (let f : None ≡ Some e = sym at ∙ h in absurd cc)
without_live given id (Some x) e c at h is =
    let (some, get) = given-parts (slice_set given (id - 1) (record x { live = None })) id e h in
    let same = set_same given (id - 1) (record x { live = None }) e get in
    let none : None ≡ Some c = ap (λ (y : Given). y.live) (sym same) ∙ is in
    absurd cc

without_other : (given : List Given) (id j : ℕ) (o : Option Given) (e : Given) → given_at given id ≡ o → (id ≡ j → ⊥) → given_at (without given id o) j ≡ Some e → given_at given j ≡ Some e
without_other given id j None e at d h = h
without_other given id j (Some x) e at d h =
    let (some, get) = given-parts (slice_set given (id - 1) (record x { live = None })) j e h in
    let (first, there) = given-parts given id x at in
    given-from given j e some (sym (set_other given (id - 1) (j - 1) (record x { live = None }) (λ f. d (omega (arith, f, some, first)))) ∙ get)

other_without : (given : List Given) (id j : ℕ) (o : Option Given) (e : Given) → given_at given id ≡ o → (id ≡ j → ⊥) → given_at given j ≡ Some e → given_at (without given id o) j ≡ Some e
other_without given id j None e at d h = h
other_without given id j (Some x) e at d h =
    let (some, get) = given-parts given j e h in
    let (first, there) = given-parts given id x at in
    given-from (slice_set given (id - 1) (record x { live = None })) j e some (set_other given (id - 1) (j - 1) (record x { live = None }) (λ f. d (omega (arith, f, some, first))) ∙ get)

not_both : (o : Option Bounded) (c : Bounded) → o ≡ None → o ≡ Some c → ⊥
not_both o c e f = cc

mirrors_removed : (live : List Live) (given : List Given) (id : ℕ) → Mirrors live given → Mirrors (removed id live) (without given id (given_at given id))
mirrors_removed live given id m = record {
  in_engine = λ j e c at kind is. elim (cases_eq id j) [
    | inl s ↦ absurd (without_live given id (given_at given id) e c refl (subst (λ (n : ℕ). given_at (without given id (given_at given id)) n ≡ Some e) (sym s) at) is)
    | inr d ↦ removed_other id j live d ∙ m.in_engine j e c (without_other given id j (given_at given id) e refl d at) kind is
  ];
  in_log = λ j c at. elim (cases_eq id j) [
    | inl s ↦ absurd (not_both (live_in (removed id live) id) c (removed_none id live) (subst (λ (n : ℕ). live_in (removed id live) n ≡ Some c) (sym s) at))
    | inr d ↦ (let (e, there, kind, is) = m.in_log j c (sym (removed_other id j live d) ∙ at) in
        (e, other_without given id j (given_at given id) e refl d there, kind, is))
  ];
}

unless_none : (b : Bool) (r : Result (List Given) ℕ) (cause : ℕ) (given : List Given) → cond b (Err cause) r ≡ Ok given → r ≡ Ok given
unless_none true r cause given e = absurd cc
unless_none false r cause given e = e

same_given : (a b : List Given) → ◌≡◌ {A = Result (List Given) ℕ} (Ok a) (Ok b) → a ≡ b
same_given a b e = cc

mirrors_deleted : (live : List Live) (given last : List Given) (ids : List ℕ) → Mirrors live given → deleted given ids ≡ Ok last → Mirrors (removed_all ids live) last
mirrors_deleted live given last [] m e = subst (Mirrors live) (same_given given last e) m
mirrors_deleted live given last (id ∷ ids) m e =
    mirrors_deleted (removed id live) (without given id (given_at given id)) last ids (mirrors_removed live given id m)
    (unless_none (is_none (live_at given id)) (deleted (without given id (given_at given id)) ids) 4 last e)

-- the engine and the log without the ids
pub mirrors-forgotten : (live new : List Live) (s t : ProofState) (ids : List ℕ) → Mirrors live s.given → step s (Delete ids) ≡ Ok t → new ≡ removed_all ids live → Mirrors new t.given
mirrors-forgotten live new s t ids m e is =
    subst (λ (xs : List Live). Mirrors xs t.given) (sym is) (mirrors_deleted live s.given t.given ids m (with_given-ok s t (deleted s.given ids) e))

-- the line steps
still_learned : (given : List Given) (id : ℕ) (ids : List ℕ) → contains ids id ≡ false → AllByRecursion (IsLiveLearned given) ids → AllByRecursion (IsLiveLearned (without given id (given_at given id))) ids
still_learned given id [] none h = tt
still_learned given id (j ∷ ids) none h =
    let parts = or_parts (eqb j id) (contains ids id) none in
    let (e, c, at, learned, is) = h.0 in
    ((e, c, other_without given id j (given_at given id) e refl (λ f. apart j id parts.0 f) at, learned, is), still_learned given id ids parts.1 h.1)
  where
    apart : (j id : ℕ) → eqb j id ≡ false → id ≡ j → ⊥
    apart j id h f = let t : eqb j id ≡ true = eq-eqb j id (sym f) in cc

live_some : (given : List Given) (id : ℕ) (e : Given) (c : Bounded) → given_at given id ≡ Some e → e.live ≡ Some c → is_none (live_at given id) ≡ false
live_some given id e c at is = ap (λ (o : Option Bounded). is_none o) (ap (λ (o : Option Given). option_and_then (λ (x : Given). x.live) o) at ∙ is)

deleted_ok : (given : List Given) (ids : List ℕ) → AllByRecursion (IsLiveLearned given) ids → AreOnce ids → (last : List Given) × (deleted given ids ≡ Ok last)
deleted_ok given [] h once = (given, refl)
deleted_ok given (id ∷ ids) h once =
    let (e, c, at, learned, is) = h.0 in
    let (last, more) = deleted_ok (without given id (given_at given id)) ids (still_learned given id ids once.0 h.1) once.1 in
    (last, cond-false (is_none (live_at given id)) (Err 4) (deleted (without given id (given_at given id)) ids) (live_some given id e c at is) ∙ more)

pub deletion-steps : (s : ProofState) (ids same : List ℕ) → same ≡ ids → AllByRecursion (IsLiveLearned s.given) ids → AreOnce ids → IsOk (step s (Delete same))
deletion-steps s ids same is h once =
    let (last, e) = deleted_ok s.given ids h once in
    subst (λ (xs : List ℕ). IsOk (with_given s (deleted s.given xs))) (sym is) (subst (λ r. IsOk (with_given s r)) (sym e) refl)

pub are-learned : (given : List Given) (ids : List ℕ) → AllByRecursion (IsLiveLearned given) ids → AllByRecursion (IsGivenBy is_learned given) ids
are-learned given [] h = tt
are-learned given (id ∷ ids) h = let (e, c, at, learned, is) = h.0 in ((e, at, learned), are-learned given ids h.1)

pub are-ids : (given : List Given) (ids same : List ℕ) → same ≡ ids → AllByRecursion (IsLiveLearned given) ids → AllByRecursion (λ id. 1 ≤ id) same
are-ids given ids same is h = subst (AllByRecursion (λ id. 1 ≤ id)) (sym is) (positive given ids h)
  where
    positive : (given : List Given) (ids : List ℕ) → AllByRecursion (IsLiveLearned given) ids → AllByRecursion (λ id. 1 ≤ id) ids
    positive given [] h = tt
    positive given (id ∷ ids) h = let (e, c, at, learned, is) = h.0 in ((given-parts given id e at).0, positive given ids h.1)

-- how many learned clauses are left
at_most_before : (wanted : Bool) (live : Option Bounded) (cs : List Bounded) → length (live_before wanted live cs) ≤ length cs + 1
at_most_before true (Some c) cs = omega arith
at_most_before true None cs = omega arith
at_most_before false live cs = omega arith

none_before : (wanted : Bool) (live : Option Bounded) (cs : List Bounded) → live ≡ None → live_before wanted live cs ≡ cs
none_before true None cs e = refl
none_before true (Some c) cs e = absurd cc
none_before false live cs e = refl

dropped : (given : List Given) (k : ℕ) (d : Given) → d.live ≡ None → length (learned_live given) ≤ length (learned_live (slice_set given k d)) + 1
dropped [] k d e = omega arith
dropped (x ∷ given) zero d e = omega (arith, at_most_before (is_learned x.origin) x.live (learned_live given), ap (λ (cs : List Bounded). length cs) (none_before (is_learned d.origin) d.live (learned_live given) e))
dropped (x ∷ given) (suc k) d e =
    omega (arith, dropped given k d e, as-many-before (is_learned x.origin) x.live (learned_live given) (learned_live (slice_set given k d)))

dropped_at : (given : List Given) (id : ℕ) (o : Option Given) → length (learned_live given) ≤ length (learned_live (without given id o)) + 1
dropped_at given id None = omega arith
dropped_at given id (Some e) = dropped given (id - 1) (record e { live = None }) refl

deleted_length : (given last : List Given) (ids : List ℕ) → deleted given ids ≡ Ok last → length (learned_live given) ≤ length (learned_live last) + length ids
deleted_length given last [] e = (let same : length (learned_live given) ≡ length (learned_live last) = ap (λ (xs : List Given). length (learned_live xs)) (same_given given last e) in omega (arith, same))
deleted_length given last (id ∷ ids) e =
    let more = deleted_length (without given id (given_at given id)) last ids (unless_none (is_none (live_at given id)) (deleted (without given id (given_at given id)) ids) 4 last e) in
    omega (arith, more, dropped_at given id (given_at given id))

pub left-learned : (s t : ProofState) (ids : List ℕ) → step s (Delete ids) ≡ Ok t → length (learned_live s.given) ≤ length (learned_live t.given) + length ids
left-learned s t ids e = deleted_length s.given t.given ids (with_given-ok s t (deleted s.given ids) e)

-- an id that is not deleted
deleted_still : (given last : List Given) (ids : List ℕ) (j : ℕ) → contains ids j ≡ false → deleted given ids ≡ Ok last → IsLiveLearned given j → IsLiveLearned last j
deleted_still given last [] j none e h = subst (λ (xs : List Given). IsLiveLearned xs j) (same_given given last e) h
deleted_still given last (id ∷ ids) j none e (entry, c, at, learned, is) =
    let parts = or_parts (eqb id j) (contains ids j) none in
    deleted_still (without given id (given_at given id)) last ids j parts.1
    (unless_none (is_none (live_at given id)) (deleted (without given id (given_at given id)) ids) 4 last e)
    (entry, c, other_without given id j (given_at given id) entry refl (λ f. (let t : eqb id j ≡ true = eq-eqb id j f in let u : eqb id j ≡ false = parts.0 in cc)) at, learned, is)

pub still-held : (s t : ProofState) (ids : List ℕ) (j : ℕ) → contains ids j ≡ false → step s (Delete ids) ≡ Ok t → IsLiveLearned s.given j → IsLiveLearned t.given j
still-held s t ids j none e h = deleted_still s.given t.given ids j none (with_given-ok s t (deleted s.given ids) e) h

-- what was live at first, and has none of the ids
stays : (first live : List Live) (id j : ℕ) (c : Bounded) → live_in first id ≡ None → live_in first j ≡ Some c → live_in live j ≡ Some c → live_in (removed id live) j ≡ Some c
stays first live id j c none at there =
    elim (cases_eq id j) [
      | inl s ↦ absurd (not_both (live_in first id) c none (subst (λ (n : ℕ). live_in first n ≡ Some c) (sym s) at))
      | inr d ↦ removed_other id j live d ∙ there
    ]

stays_all : (first live : List Live) (ids : List ℕ) (j : ℕ) (c : Bounded) → AllByRecursion (λ id. live_in first id ≡ None) ids → live_in first j ≡ Some c → live_in live j ≡ Some c → live_in (removed_all ids live) j ≡ Some c
stays_all first live [] j c none at there = there
stays_all first live (id ∷ ids) j c none at there = stays_all first (removed id live) ids j c none.1 at (stays first live id j c none.0 at there)

pub kept-forgotten : (first live new : List Live) (held out rest : List ℕ) → AllByRecursion (λ id. live_in first id ≡ None) out → AllByRecursion (λ id. live_in first id ≡ None) rest → new ≡ removed_all out live → AreKept first live held → AreKept first new rest
kept-forgotten first live new held out rest none others is k = record {
  live_ = λ id c at. ap (λ (xs : List Live). live_in xs id) is ∙ stays_all first live out id c none at (k.live_ id c at);
  others = others;
}
