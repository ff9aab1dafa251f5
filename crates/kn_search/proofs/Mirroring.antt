-- The engine and the log as they go on together.
use Rattle.std.proofs.Common.{◌≡◌, ℕ, suc, ◌+◌, ◌++◌, Bool, true, false, cond, eqb, List, [], ◌∷◌, length, Option, None, Some, Result, Ok, Err, OnOk, refl, sym, ap, ◌∙◌, subst, inl, inr, arith}
use Rattle.std.specs.List.{AllByRecursion, slice_get}
use Rattle.std.proofs.lemmas.Bool.{cond-true, cond-false, eq-eqb, ne_eqb, cases_eq}
use Rattle.std.proofs.lemmas.Option.{same_Some}
use Rattle.kn_logic.specs.Literals.{Literal}
use Rattle.kn_logic.specs.Constraints.{Bounded, clause}
use Rattle.kn_logic.specs.Propagation.{IsShort, IsClosed}
use Rattle.kn_logic.specs.Newness.{IsNew}
use Rattle.kn_lines.specs.declared.line.Line.TheVariants.{Learned, Lemma}
use Rattle.kn_rules.specs.declared.given.Given.{Given}
use Rattle.kn_rules.specs.declared.given.Origin.TheVariants as origin
use Rattle.kn_rules.specs.States.{ProofState}
use Rattle.kn_rules.specs.Steps.{step}
use Rattle.kn_rules.specs.Searching.{is_searched, live_before, searched}
use Rattle.kn_rules.proofs.Public.{follow-gives, given_at-grows}
use Rattle.kn_log.specs.Logs.{Logged, Logs}
use Rattle.kn_log.specs.declared.error.LogError.{LogError}
use Rattle.kn_propagate.specs.Engines.{Live, live_in, constraints, IsAdded}
use Rattle.kn_search.specs.Mirrors.{Mirrors}
use Rattle.kn_search.proofs.Ids.{given-place, id-within, given-last, given-either}

-- what holds of the constraints of a list holds of one that is found there
pub live-all : (P : Bounded → Type 0) (live : List Live) (id : ℕ) (c : Bounded) → AllByRecursion P (constraints live) → live_in live id ≡ Some c → P c
live-all P [] id c h e = absurd cc
live-all P (x ∷ live) id c h e = at P x live id c h (eqb x.id id) e (live-all P live id c h.1)
  where
    at : (P : Bounded → Type 0) (x : Live) (live : List Live) (id : ℕ) (c : Bounded) → AllByRecursion P (constraints (x ∷ live)) → (b : Bool) → cond b (Some x.constraint) (live_in live id) ≡ Some c → (live_in live id ≡ Some c → P c) → P c
    at P x live id c h true e ih = subst P (same_Some x.constraint c e) h.0
    at P x live id c h false e ih = ih e

all_before : (P : Bounded → Type 0) (wanted : Bool) (live : Option Bounded) (cs : List Bounded) → ((c : Bounded) → wanted ≡ true → live ≡ Some c → P c) → AllByRecursion P cs → AllByRecursion P (live_before wanted live cs)
all_before P true (Some c) cs h all = (h c refl refl, all)
all_before P true None cs h all = all
all_before P false live cs h all = all

all_searched : (P : Bounded → Type 0) (given : List Given) → ((k : ℕ) (e : Given) (c : Bounded) → slice_get given k ≡ Some e → is_searched e.origin ≡ true → e.live ≡ Some c → P c) → AllByRecursion P (searched given)
all_searched P [] h = tt
all_searched P (e ∷ given) h =
    all_before P (is_searched e.origin) e.live (searched given) (λ c o l. h 0 e c refl o l) (all_searched P given (λ k x c at o l. h (suc k) x c at o l))

closed_for_log : (live : List Live) (given : List Given) (t : List Literal) → Mirrors live given → IsClosed t (constraints live) → IsClosed t (searched given)
closed_for_log live given t m h = record {
  consistent = h.consistent;
  quiet = all_searched (λ c. IsShort t c → ⊥) given (λ k e c at o l. live-all (λ d. IsShort t d → ⊥) live (k + 1) c h.quiet (m.in_engine (k + 1) e c (given-place given k e at) o l));
}

-- what is new for the engine's constraints is new for those of the log
pub new-for-log : (live : List Live) (given : List Given) (lits : List Literal) → Mirrors live given → IsNew (constraints live) lits → IsNew (searched given) lits
new-for-log live given lits m (different, (last, t, n)) = (
  different,
  (
    last,
    t,
    record {
      stands = n.stands;
      closed = closed_for_log live given t m n.closed;
      others = n.others;
      unset = n.unset;
      unrefuted = n.unrefuted;
    },
  ),
)

-- an id that was not given yet
pub unused-id : (live : List Live) (given : List Given) (id : ℕ) → Mirrors live given → id ≡ length given + 1 → live_in live id ≡ None
unused-id live given id m e = none (live_in live id) refl
  where
    none : (o : Option Bounded) → live_in live id ≡ o → o ≡ None
    none None at = refl
    none (Some c) at =
        let (entry, there, kind, lives) = m.in_log id c at in
        absurd (omega (arith, e, id-within given id entry there))

-- a constraint added somewhere
added_here : (front back : List Live) (id : ℕ) (c : Bounded) → live_in (front ++ back) id ≡ None → live_in (front ++ record { id = id; constraint = c } ∷ back) id ≡ Some c
added_here [] back id c h = cond-true (eqb id id) (Some c) (live_in back id) (eq-eqb id id refl)
added_here (x ∷ front) back id c h = behind (eqb x.id id) h (added_here front back id c)
  where
    behind : (b : Bool) → cond b (Some x.constraint) (live_in (front ++ back) id) ≡ None → (live_in (front ++ back) id ≡ None → live_in (front ++ record { id = id; constraint = c } ∷ back) id ≡ Some c) → cond b (Some x.constraint) (live_in (front ++ record { id = id; constraint = c } ∷ back) id) ≡ Some c
    behind true h ih = absurd cc
    behind false h ih = ih h

added_there : (front back : List Live) (id j : ℕ) (c : Bounded) → (id ≡ j → ⊥) → live_in (front ++ record { id = id; constraint = c } ∷ back) j ≡ live_in (front ++ back) j
added_there [] back id j c d = cond-false (eqb id j) (Some c) (live_in back j) (ne_eqb id j d)
added_there (x ∷ front) back id j c d = ap (λ (o : Option Bounded). cond (eqb x.id j) (Some x.constraint) o) (added_there front back id j c d)

pub added-found : (live new : List Live) (id : ℕ) (c : Bounded) → live_in live id ≡ None → IsAdded live id c new → live_in new id ≡ Some c
added-found live new id c none (front, back, is, made) =
    subst (λ (xs : List Live). live_in xs id ≡ Some c) (sym made) (added_here front back id c (subst (λ (xs : List Live). live_in xs id ≡ None) is none))

pub added-other : (live new : List Live) (id j : ℕ) (c : Bounded) → IsAdded live id c new → (id ≡ j → ⊥) → live_in new j ≡ live_in live j
added-other live new id j c (front, back, is, made) d =
    ap (λ (xs : List Live). live_in xs j) made ∙ added_there front back id j c d ∙ ap (λ (xs : List Live). live_in xs j) (sym is)

-- one constraint more in both, under one id
pub mirrors-added : (live new : List Live) (given : List Given) (entry : Given) (id : ℕ) (c : Bounded) → Mirrors live given → id ≡ length given + 1 → IsAdded live id c new
    → is_searched entry.origin ≡ true → entry.live ≡ Some c → Mirrors new (given ++ entry ∷ [])
mirrors-added live new given entry id c m named added kept is = record {
  in_engine = λ j e d at o l. elim (given-either given entry e j at) [
    | inl s ↦ (let same : d ≡ c = same_Some d c (sym l ∙ ap (λ (x : Given). x.live) (sym s.1) ∙ is) in
        let here : id ≡ j = omega (arith, named, s.0) in
        subst (λ (n : ℕ). live_in new n ≡ Some d) here (added-found live new id c (unused-id live given id m named) added ∙ ap (λ (x : Bounded). Some x) (sym same)))
    | inr s ↦ added-other live new id j c added (λ f. omega (arith, f, named, id-within given j e s)) ∙ m.in_engine j e d s o l
  ];
  in_log = λ j d at. elim (cases_eq id j) [
    | inl s ↦ (let found = added-found live new id c (unused-id live given id m named) added in
        let same : c ≡ d = same_Some c d (sym found ∙ subst (λ (n : ℕ). live_in new n ≡ Some d) (sym s) at) in
        (entry, given-last given entry j (sym s ∙ named), kept, is ∙ ap (λ (x : Bounded). Some x) same))
    | inr s ↦ (let (e, there, kind, lives) = m.in_log j d (sym (added-other live new id j c added s) ∙ at) in
        (e, given_at-grows given (entry ∷ []) j e there, kind, lives))
  ];
}

-- one more in the log alone, on which no search rests
mirrors_besides : (live : List Live) (given : List Given) (entry : Given) → Mirrors live given → is_searched entry.origin ≡ false → Mirrors live (given ++ entry ∷ [])
mirrors_besides live given entry m other = record {
  in_engine = λ j e d at o l. elim (given-either given entry e j at) [
    | inl s ↦ (let no : is_searched e.origin ≡ false = subst (λ (x : Given). is_searched x.origin ≡ false) s.1 other in absurd cc)
    | inr s ↦ m.in_engine j e d s o l
  ];
  in_log = λ j d at. (let (e, there, kind, lives) = m.in_log j d at in (e, given_at-grows given (entry ∷ []) j e there, kind, lives));
}

mirrors_lemma : (live : List Live) (s t : ProofState) (c : Bounded) (hints : List ℕ) → Mirrors live s.given → step s (Lemma c hints) ≡ Ok t → Mirrors live t.given
mirrors_lemma live s t c hints m e =
    subst (Mirrors live) (sym (ap (λ (x : ProofState). x.given) (follow-gives s t origin.Lemma c.lits hints e)))
    (mirrors_besides live s.given (record { origin = origin.Lemma; live = Some (clause c.lits) }) m refl)

-- a lemma was logged
pub lemma-mirrors : {T : Type 0} (live : List Live) (old new : Logged) (w w' : Option (List ℕ)) (c : Bounded) (hints : List ℕ) (r : Result T LogError) → Mirrors live old.state.given → Logs (Lemma c hints) old new w w' r → OnOk r (Mirrors live new.state.given)
lemma-mirrors live old new w w' c hints (Ok x) m (e, good, got) = mirrors_lemma live old.state new.state c hints m e
lemma-mirrors live old new w w' c hints (Err e) m logs = tt

pub mirrors-learned : (live new : List Live) (s t : ProofState) (c d : Bounded) (hints : List ℕ) (id : ℕ) → Mirrors live s.given → id ≡ length s.given + 1 → IsAdded live id d new → d ≡ clause c.lits
    → step s (Learned c hints) ≡ Ok t → Mirrors new t.given
mirrors-learned live new s t c d hints id m named added is e =
    subst (Mirrors new) (sym (ap (λ (x : ProofState). x.given) (follow-gives s t origin.Learned c.lits hints e)))
    (mirrors-added live new s.given (record { origin = origin.Learned; live = Some (clause c.lits) }) id d m named added refl (ap (λ (x : Bounded). Some x) (sym is)))
