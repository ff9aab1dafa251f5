-- What lines give, kept or not.
use Rattle.std.proofs.Common.{◌≡◌, ℕ, zero, suc, ◌+◌, ◌-◌, Bool, true, false, cond, List, [], ◌∷◌, ◌++◌, map, length, length-append, append_assoc, set, Option, None, Some, IfSome, Result, Ok, Err, refl, sym, ap, ◌∙◌, subst, arith}
use Rattle.std.specs.List.{AllByRecursion, slice_get}
use Rattle.std.specs.Option.{is_none}
use Rattle.std.proofs.lemmas.List.{append-nil, length-set}
use Rattle.kn_logic.specs.Constraints.{Bounded}
use Rattle.kn_logic.proofs.Public.{at-push}
use Rattle.kn_rules.specs.declared.definition.Definition.{Definition}
use Rattle.kn_rules.specs.declared.given.Given.{Given}
use Rattle.kn_rules.specs.declared.given.Origin.{Origin}
use Rattle.kn_rules.specs.States.{ProofState, given_at, live_at}
use Rattle.kn_rules.specs.Steps.{by_definition, deleted, without}
use Rattle.kn_trim.specs.Numbers.{mark_at, new_number}
use Rattle.kn_trim.specs.Needed.{Kept, renumbered_constraint}
use Rattle.kn_trim.proofs.NumberLemmas.{number-at}
use Rattle.kn_trim.proofs.Renaming.{IsOver}
use Rattle.kn_trim.proofs.Grids.{IsDefinedOver, renumbered_definition}
use Rattle.kn_trim.proofs.Follows.{IsKept, live_in, IsLiveAlike, IsEntryAlike, IsDefinitionAlike, Follows}

-- so many places from this one on have this mark
abbrev pub HaveMark : List Bool → ℕ → ℕ → Bool → Type 0
HaveMark marks place zero m = Unit {0}
HaveMark marks place (suc count) m = (mark_at marks place ≡ m) × HaveMark marks (place + 1) count m

-- elements and their places
at-set : {X : Type 0} (P : ℕ → X → Type 0) (xs : List X) (i : ℕ) (y : X) → ((k : ℕ) → IfSome (slice_get xs k) (P k)) → ((k : ℕ) → P k y) → (k : ℕ) → IfSome (slice_get (set xs i y) k) (P k)
at-set P [] i y h p k = tt
at-set P (x ∷ xs) zero y h p zero = p zero
at-set P (x ∷ xs) zero y h p (suc k) = h (suc k)
at-set P (x ∷ xs) (suc i) y h p zero = h zero
at-set P (x ∷ xs) (suc i) y h p (suc k) = at-set (λ n. P (suc n)) xs i y (λ n. h (suc n)) (λ n. p (suc n)) k

last-at : {X : Type 0} (xs : List X) (y : X) → slice_get (xs ++ y ∷ []) (length xs) ≡ Some y
last-at [] y = refl
last-at (x ∷ xs) y = last-at xs y

get-more : {X : Type 0} (xs ys : List X) (n : ℕ) (x : X) → slice_get xs n ≡ Some x → slice_get (xs ++ ys) n ≡ Some x
get-more [] ys n x e = absurd cc
get-more (y ∷ xs) ys zero x e = e
get-more (y ∷ xs) ys (suc n) x e = get-more xs ys n x e

live-more : (xs ys : List Given) (n : ℕ) (c : Bounded) → live_in (slice_get xs n) ≡ Some c → live_in (slice_get (xs ++ ys) n) ≡ Some c
live-more [] ys n c e = absurd cc
live-more (y ∷ xs) ys zero c e = e
live-more (y ∷ xs) ys (suc n) c e = live-more xs ys n c e

entry-more : (kept : Kept) (given more : List Given) (place : ℕ) (o : Option Given) → IfSome o (IsEntryAlike kept given place) → IfSome o (IsEntryAlike kept (given ++ more) place)
entry-more kept given more place None h = tt
entry-more kept given more place (Some entry) h = λ m. inner entry.live (h m)
  where
    inner : (o : Option Bounded) → IfSome o (IsLiveAlike kept given place) → IfSome o (IsLiveAlike kept (given ++ more) place)
    inner None k = tt
    inner (Some c) k = record { same = live-more given more _ _ k.same; over = k.over }

abbrev pub entry_of : Origin → Bounded → Given
entry_of o c = record { origin = o; live = Some c }

one-length : (given : List Given) (entry : Given) → length (given ++ entry ∷ []) ≡ length given + 1
one-length given entry = length-append given (entry ∷ [])

-- an id that both give
pub one-kept : (base : ℕ) (kept : Kept) (s t : ProofState) → Follows base kept s t → (o : Origin) (c : Bounded) → IsOver (IsKept kept.variables) c → mark_at kept.ids (length s.given) ≡ true → (b b' : Bool) →
    Follows base kept (record s { given = s.given ++ entry_of o c ∷ []; refuted = b }) (record t { given = t.given ++ entry_of o (renumbered_constraint (new_number kept.variables) c) ∷ []; refuted = b' })
one-kept base kept s t h o c over m b b' = record {
  vars = h.vars;
  ids = let number : new_number kept.ids (length s.given + 1) ≡ new_number kept.ids (length s.given) + 1 = number-at kept.ids (length s.given) true m in
      one-length t.given _ ∙ ap (λ n. n + 1) h.ids ∙ sym number ∙ ap (new_number kept.ids) (sym (one-length s.given (entry_of o c)));
  count = h.count;
  count' = h.count';
  first = h.first;
  live = at-push (IsEntryAlike kept (t.given ++ entry_of o (renumbered_constraint (new_number kept.variables) c) ∷ [])) s.given (entry_of o c)
      (λ place. entry-more kept t.given _ place (slice_get s.given place) (h.live place))
      (λ _. record {
        same = ap (λ n. live_in (slice_get (t.given ++ entry_of o (renumbered_constraint (new_number kept.variables) c) ∷ []) n)) (sym h.ids)
            ∙ ap live_in (last-at t.given (entry_of o (renumbered_constraint (new_number kept.variables) c)));
        over = over;
      });
  defined = h.defined;
}

-- an id that the whole proof alone gives
pub one-dropped : (base : ℕ) (kept : Kept) (s t : ProofState) → Follows base kept s t → (entry : Given) → mark_at kept.ids (length s.given) ≡ false → (b : Bool) →
    Follows base kept (record s { given = s.given ++ entry ∷ []; refuted = b }) t
one-dropped base kept s t h entry m b = record {
  vars = h.vars;
  ids = let number : new_number kept.ids (length s.given + 1) ≡ new_number kept.ids (length s.given) + 0 = number-at kept.ids (length s.given) false m in
      let same : new_number kept.ids (length s.given) ≡ new_number kept.ids (length s.given + 1) = omega (arith, number) in
      h.ids ∙ same ∙ ap (new_number kept.ids) (sym (one-length s.given entry));
  count = h.count;
  count' = h.count';
  first = h.first;
  live = at-push (IsEntryAlike kept t.given) s.given entry h.live (λ e. absurd (off m e));
  defined = h.defined;
}
  where
    off : {b : Bool} → b ≡ false → b ≡ true → ⊥
    off e f = cc

-- a variable that both give
definition-more : (base : ℕ) (kept : Kept) (ds more : List Definition) (place : ℕ) (o : Option Definition) → IfSome o (λ d. mark_at kept.variables (base + place) ≡ true → IsDefinitionAlike kept base ds place d) → IfSome o (λ d. mark_at kept.variables (base + place) ≡ true → IsDefinitionAlike kept base (ds ++ more) place d)
definition-more base kept ds more place None h = tt
definition-more base kept ds more place (Some d) h = λ m. let k : IsDefinitionAlike kept base ds place d = h m in record { same = get-more ds more _ _ k.same; over = k.over }

pub variable-kept : (base : ℕ) (kept : Kept) (s t : ProofState) → Follows base kept s t → (d : Definition) → IsDefinedOver (IsKept kept.variables) d → mark_at kept.variables s.vars ≡ true →
    Follows base kept (record s { vars = s.vars + 1; definitions = s.definitions ++ d ∷ [] }) (record t { vars = t.vars + 1; definitions = t.definitions ++ renumbered_definition (new_number kept.variables) d ∷ [] })
variable-kept base kept s t h d over m =
    let number : new_number kept.variables (s.vars + 1) ≡ new_number kept.variables s.vars + 1 = number-at kept.variables s.vars true m in
    let one : length (s.definitions ++ d ∷ []) ≡ length s.definitions + 1 = length-append s.definitions (d ∷ []) in
    let one' : length (t.definitions ++ renumbered_definition (new_number kept.variables) d ∷ []) ≡ length t.definitions + 1 = length-append t.definitions (renumbered_definition (new_number kept.variables) d ∷ []) in
    let place : new_number kept.variables (base + length s.definitions) - base ≡ length t.definitions =
    let same : new_number kept.variables (base + length s.definitions) ≡ t.vars = ap (new_number kept.variables) (sym h.count) ∙ sym h.vars in
    omega (arith, same, h.count') in
    record {
      vars = ap (λ n. n + 1) h.vars ∙ sym number;
      ids = h.ids;
      count = omega (arith, h.count, one);
      count' = omega (arith, h.count', one');
      first = h.first;
      live = h.live;
      defined = at-push (λ k e. mark_at kept.variables (base + k) ≡ true → IsDefinitionAlike kept base (t.definitions ++ renumbered_definition (new_number kept.variables) d ∷ []) k e) s.definitions d
          (λ k. definition-more base kept t.definitions _ k (slice_get s.definitions k) (h.defined k))
          (λ _. record {
            same = ap (slice_get (t.definitions ++ renumbered_definition (new_number kept.variables) d ∷ [])) place ∙ last-at t.definitions (renumbered_definition (new_number kept.variables) d);
            over = over;
          });
    }

-- a variable that the whole proof alone gives
pub variable-dropped : (base : ℕ) (kept : Kept) (s t : ProofState) → Follows base kept s t → (d : Definition) → mark_at kept.variables s.vars ≡ false →
    Follows base kept (record s { vars = s.vars + 1; definitions = s.definitions ++ d ∷ [] }) t
variable-dropped base kept s t h d m =
    let number : new_number kept.variables (s.vars + 1) ≡ new_number kept.variables s.vars + 0 = number-at kept.variables s.vars false m in
    let one : length (s.definitions ++ d ∷ []) ≡ length s.definitions + 1 = length-append s.definitions (d ∷ []) in
    record {
      vars = omega (arith, h.vars, number);
      ids = h.ids;
      count = omega (arith, h.count, one);
      count' = h.count';
      first = h.first;
      live = h.live;
      defined = at-push (λ k e. mark_at kept.variables (base + k) ≡ true → IsDefinitionAlike kept base t.definitions k e) s.definitions d h.defined
          (λ e. absurd (off (subst (λ n. mark_at kept.variables n ≡ false) h.count m) e));
    }
  where
    off : {b : Bool} → b ≡ false → b ≡ true → ⊥
    off e f = cc

-- the constraints of a definition
with_more : ProofState → List Bounded → ProofState
with_more s cs = record s { given = s.given ++ map by_definition cs }

pub many-kept : (base : ℕ) (kept : Kept) (cs : List Bounded) (s t : ProofState) → Follows base kept s t → AllByRecursion (IsOver (IsKept kept.variables)) cs → HaveMark kept.ids (length s.given) (length cs) true →
    Follows base kept (record s { given = s.given ++ map by_definition cs }) (record t { given = t.given ++ map by_definition (map (renumbered_constraint (new_number kept.variables)) cs) })
many-kept base kept [] s t h over m =
    subst (λ (g : List Given). Follows base kept (record s { given = g }) (record t { given = t.given ++ [] })) (sym (append-nil s.given))
    (subst (λ (g : List Given). Follows base kept s (record t { given = g })) (sym (append-nil t.given)) h)
many-kept base kept (c ∷ cs) s t h over m =
    let r : ℕ → ℕ = new_number kept.variables in
    let rest : HaveMark kept.ids (length (s.given ++ by_definition c ∷ [])) (length cs) true = subst (λ n. HaveMark kept.ids n (length cs) true) (sym (one-length s.given (by_definition c))) m.1 in
    subst (λ (g : List Given). Follows base kept (record s { given = g }) (record t { given = t.given ++ map by_definition (map (renumbered_constraint r) (c ∷ cs)) })) (append_assoc s.given (by_definition c ∷ []) (map by_definition cs))
    (subst (λ (g : List Given). Follows base kept (record s { given = (s.given ++ by_definition c ∷ []) ++ map by_definition cs }) (record t { given = g })) (append_assoc t.given (by_definition (renumbered_constraint r c) ∷ []) (map by_definition (map (renumbered_constraint r) cs)))
    (many-kept base kept cs (record s { given = s.given ++ by_definition c ∷ [] }) (record t { given = t.given ++ by_definition (renumbered_constraint r c) ∷ [] })
    (one-kept base kept s t h _ c over.0 m.0 s.refuted t.refuted) over.1 rest))

pub many-dropped : (base : ℕ) (kept : Kept) (cs : List Bounded) (s t : ProofState) → Follows base kept s t → HaveMark kept.ids (length s.given) (length cs) false →
    Follows base kept (record s { given = s.given ++ map by_definition cs }) t
many-dropped base kept [] s t h m = subst (λ (g : List Given). Follows base kept (record s { given = g }) t) (sym (append-nil s.given)) h
many-dropped base kept (c ∷ cs) s t h m =
    let rest : HaveMark kept.ids (length (s.given ++ by_definition c ∷ [])) (length cs) false = subst (λ n. HaveMark kept.ids n (length cs) false) (sym (one-length s.given (by_definition c))) m.1 in
    subst (λ (g : List Given). Follows base kept (record s { given = g }) t) (append_assoc s.given (by_definition c ∷ []) (map by_definition cs))
    (many-dropped base kept cs (record s { given = s.given ++ by_definition c ∷ [] }) t (one-dropped base kept s t h (by_definition c) m.0 s.refuted) rest)

-- deletions, of which there are none in the trimmed proof
without-alike : (kept : Kept) (given' given : List Given) (id : ℕ) (o : Option Given) → ((place : ℕ) → IfSome (slice_get given place) (IsEntryAlike kept given' place)) → ((place : ℕ) → IfSome (slice_get (without given id o) place) (IsEntryAlike kept given' place)) × (length (without given id o) ≡ length given)
without-alike kept given' given id None h = (h, refl)
without-alike kept given' given id (Some entry) h = (at-set (IsEntryAlike kept given') given (id - 1) (record entry { live = None }) h (λ k m. tt), length-set given (id - 1) (record entry { live = None }))

after-is : (a b : List Given) → ◌≡◌ {A = Result (List Given) ℕ} (Ok a) (Ok b) → a ≡ b
after-is a b e = cc

pub deleted-alike : (kept : Kept) (given' : List Given) (ids : List ℕ) (given after : List Given) → deleted given ids ≡ Ok after → ((place : ℕ) → IfSome (slice_get given place) (IsEntryAlike kept given' place)) → ((place : ℕ) → IfSome (slice_get after place) (IsEntryAlike kept given' place)) × (length after ≡ length given)
deleted-alike kept given' [] given after e h = (subst (λ (g : List Given). (place : ℕ) → IfSome (slice_get g place) (IsEntryAlike kept given' place)) (after-is given after e) h, ap length (sym (after-is given after e)))
deleted-alike kept given' (id ∷ ids) given after e h =
    let next = without-alike kept given' given id (given_at given id) h in
    split (is_none (live_at given id)) e (λ f. deleted-alike kept given' ids (without given id (given_at given id)) after f next.0) next.1
  where
    split : (t : Bool) → cond t (Err 4) (deleted (without given id (given_at given id)) ids) ≡ Ok after → (deleted (without given id (given_at given id)) ids ≡ Ok after → ((place : ℕ) → IfSome (slice_get after place) (IsEntryAlike kept given' place)) × (length after ≡ length (without given id (given_at given id)))) → length (without given id (given_at given id)) ≡ length given → ((place : ℕ) → IfSome (slice_get after place) (IsEntryAlike kept given' place)) × (length after ≡ length given)
    split true e rest l = absurd cc
    split false e rest l = ((rest e).0, (rest e).1 ∙ l)

without-length : (given : List Given) (id : ℕ) (o : Option Given) → length (without given id o) ≡ length given
without-length given id None = refl
without-length given id (Some entry) = length-set given (id - 1) (record entry { live = None })

pub deleted-length : (ids : List ℕ) (given after : List Given) → deleted given ids ≡ Ok after → length after ≡ length given
deleted-length [] given after e = ap length (sym (after-is given after e))
deleted-length (id ∷ ids) given after e = split (is_none (live_at given id)) e (λ f. deleted-length ids (without given id (given_at given id)) after f)
  where
    split : (t : Bool) → cond t (Err 4) (deleted (without given id (given_at given id)) ids) ≡ Ok after → (deleted (without given id (given_at given id)) ids ≡ Ok after → length after ≡ length (without given id (given_at given id))) → length after ≡ length given
    split true e rest = absurd cc
    split false e rest = rest e ∙ without-length given id (given_at given id)
