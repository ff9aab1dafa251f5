-- Unfoldings, definitions and deletions, and the same in the trimmed proof.
use Rattle.std.proofs.Common.{◌≡◌, ℕ, suc, ◌+◌, ◌&&◌, Bool, true, false, not, cond, List, [], ◌∷◌, ◌++◌, map, length, Option, None, Some, Result, Ok, Err, refl, sym, ap, ◌∙◌, subst, arith}
use Rattle.std.specs.List.{AllByRecursion}
use Rattle.std.specs.Option.{option_map, is_none}
use Rattle.std.proofs.lemmas.Bool.{and_from}
use Rattle.kn_logic.specs.Literals.{Literal, negated}
use Rattle.kn_logic.specs.Constraints.{Bounded}
use Rattle.kn_lines.specs.declared.line.Arm.{Arm}
use Rattle.kn_lines.specs.declared.line.Arm.TheVariants as arm
use Rattle.kn_rules.specs.declared.definition.Definition.{Definition}
use Rattle.kn_rules.specs.declared.given.Given.{Given}
use Rattle.kn_rules.specs.declared.given.Origin.TheVariants as origin
use Rattle.kn_rules.specs.States.{ProofState, definition_of, live_at}
use Rattle.kn_rules.specs.Grids.{is_root}
use Rattle.kn_rules.specs.Steps.{by_definition, deleted, with_given, with_one, is_known_variable, is_known_arm, opposite, with_arm, definition_clauses, next_variable, with_definition, define, are_different, unit_of, if_klause, unfold_klause}
use Rattle.kn_trim.specs.Numbers.{mark_at, is_marked, new_number}
use Rattle.kn_trim.specs.Needed.{Kept, AreMarked, arm_variables, renumbered_literal, renumbered_arm, renumbered_constraint}
use Rattle.kn_trim.proofs.NumberLemmas.{number-at}
use Rattle.kn_trim.proofs.Renaming.{IsOver}
use Rattle.kn_trim.proofs.Grids.{IsArmOver, root-alike, different-kept}
use Rattle.kn_trim.proofs.Follows.{IsKept, injective, Follows, live-alike, defined-alike}
use Rattle.kn_trim.proofs.Growing.{HaveMark, one-kept, one-dropped, variable-kept, variable-dropped, many-kept, many-dropped, deleted-alike}
use Rattle.kn_trim.proofs.Stepping.{made-is, variable-known}

-- unfoldings
abbrev pub Unfolds : ProofState → ProofState → ℕ → ℕ → Type 0
Unfolds s s' id root = (c : Bounded) × (is_known_variable s.vars root ≡ true) × (live_at s.given id ≡ Some c) × (is_none c.guard ≡ true) × (are_different c.lits ≡ true) × (is_root (definition_of s) c.lits c.bound root ≡ true) × (s' ≡ with_one s origin.Unfolding (unit_of root))

pub unfold-parts : (s s' : ProofState) (id root : ℕ) → unfold_klause s id root ≡ Ok s' → Unfolds s s' id root
unfold-parts s s' id root e = split (is_known_variable s.vars root) (live_at s.given id) refl refl e
  where
    last : (c : Bounded) (n d g : Bool) → is_none c.guard ≡ n → are_different c.lits ≡ d → is_root (definition_of s) c.lits c.bound root ≡ g → is_known_variable s.vars root ≡ true → live_at s.given id ≡ Some c → cond {A = Result ProofState ℕ} (not (n && d)) (Err 8) (cond {A = Result ProofState ℕ} (not g) (Err 7) (Ok (with_one s origin.Unfolding (unit_of root)))) ≡ Ok s' → Unfolds s s' id root
    last c false d g i j k a b e = absurd cc
    last c true false g i j k a b e = absurd cc
    last c true true false i j k a b e = absurd cc
    last c true true true i j k a b e = (c, a, b, i, j, k, made-is _ s' e)

    split : (v : Bool) (o : Option Bounded) → is_known_variable s.vars root ≡ v → live_at s.given id ≡ o → cond {A = Result ProofState ℕ} v (if_klause s root o) (Err 3) ≡ Ok s' → Unfolds s s' id root
    split false o a b e = absurd cc
    split true None a b e = absurd cc
    split true (Some c) a b e = last c (is_none c.guard) (are_different c.lits) (is_root (definition_of s) c.lits c.bound root) refl refl refl a b e

unfold-makes : (t : ProofState) (id root : ℕ) (c : Bounded) → is_known_variable t.vars root ≡ true → live_at t.given id ≡ Some c → is_none c.guard ≡ true → are_different c.lits ≡ true → is_root (definition_of t) c.lits c.bound root ≡ true → unfold_klause t id root ≡ Ok (with_one t origin.Unfolding (unit_of root))
unfold-makes t id root c a b i j k = rw (a, b, i, j, k) refl

none-kept : (r : ℕ → ℕ) (o : Option Literal) → is_none o ≡ true → is_none (option_map (renumbered_literal r) o) ≡ true
none-kept r None e = refl
none-kept r (Some l) e = absurd cc

pub unfold-kept : (base : ℕ) (kept : Kept) (s t s' : ProofState) → Follows base kept s t → (id root : ℕ) → unfold_klause s id root ≡ Ok s' →
    AreMarked kept.variables (root ∷ []) → AreMarked kept.ids (id ∷ []) → mark_at kept.ids (length s.given) ≡ true →
    Follows base kept s' (with_one t origin.Unfolding (unit_of (new_number kept.variables root)))
    × (unfold_klause t (new_number kept.ids id) (new_number kept.variables root) ≡ Ok (with_one t origin.Unfolding (unit_of (new_number kept.variables root))))
unfold-kept base kept s t s' h id root e kv ki m =
    let r : ℕ → ℕ = new_number kept.variables in
    let parts = unfold-parts s s' id root e in
    let c : Bounded = parts.0 in
    let one = live-alike base kept s t h id ki.0 c parts.2 in (
      subst (λ (x : ProofState). Follows base kept x (with_one t origin.Unfolding (unit_of (r root)))) (sym parts.6) (one-kept base kept s t h origin.Unfolding (unit_of root) (record { guard = tt; lits = (kv.0, tt) }) m s.refuted t.refuted),
      unfold-makes t (new_number kept.ids id) (r root) (renumbered_constraint r c)
          (variable-known base kept s t h root kv.0 parts.1)
          one.0
          (none-kept r c.guard parts.3)
          (different-kept (IsKept kept.variables) r (injective kept.variables) c.lits one.1.lits ∙ parts.4)
          (root-alike (IsKept kept.variables) r (injective kept.variables) _ _ (defined-alike base kept s t h) c.lits one.1.lits c.bound root kv.0 parts.5),
    )

pub unfold-dropped : (base : ℕ) (kept : Kept) (s t s' : ProofState) → Follows base kept s t → (id root : ℕ) → unfold_klause s id root ≡ Ok s' → mark_at kept.ids (length s.given) ≡ false → Follows base kept s' t
unfold-dropped base kept s t s' h id root e m =
    let parts = unfold-parts s s' id root e in
    subst (λ (x : ProofState). Follows base kept x t) (sym parts.6) (one-dropped base kept s t h _ m s.refuted)

-- definitions
pub define-parts : (s s' : ProofState) (x : Literal) (high low : Arm) → define s x high low ≡ Ok s' → (is_known_variable s.vars x.variable ≡ true) × (is_known_arm s.vars high ≡ true) × (is_known_arm s.vars low ≡ true) × (s' ≡ with_definition s x high low)
define-parts s s' x high low e = split (is_known_variable s.vars x.variable) (is_known_arm s.vars high) (is_known_arm s.vars low) refl refl refl e
  where
    split : (a b c : Bool) → is_known_variable s.vars x.variable ≡ a → is_known_arm s.vars high ≡ b → is_known_arm s.vars low ≡ c → cond {A = Result ProofState ℕ} (a && (b && c)) (Ok (with_definition s x high low)) (Err 3) ≡ Ok s' → (is_known_variable s.vars x.variable ≡ true) × (is_known_arm s.vars high ≡ true) × (is_known_arm s.vars low ≡ true) × (s' ≡ with_definition s x high low)
    split false b c i j k e = absurd cc
    split true false c i j k e = absurd cc
    split true true false i j k e = absurd cc
    split true true true i j k e = (i, j, k, made-is _ s' e)

define-makes : (t : ProofState) (x : Literal) (high low : Arm) → is_known_variable t.vars x.variable ≡ true → is_known_arm t.vars high ≡ true → is_known_arm t.vars low ≡ true → define t x high low ≡ Ok (with_definition t x high low)
define-makes t x high low a b c = rw (and_from _ _ a (and_from _ _ b c)) refl

arm-over : (marks : List Bool) (a : Arm) → AreMarked marks (arm_variables a) → IsArmOver (IsKept marks) a
arm-over marks arm.True k = tt
arm-over marks arm.False k = tt
arm-over marks (arm.Lit l) k = k.0

arm-known : (base : ℕ) (kept : Kept) (s t : ProofState) → Follows base kept s t → (a : Arm) → IsArmOver (IsKept kept.variables) a → is_known_arm s.vars a ≡ true → is_known_arm t.vars (renumbered_arm (new_number kept.variables) a) ≡ true
arm-known base kept s t h arm.True k e = refl
arm-known base kept s t h arm.False k e = refl
arm-known base kept s t h (arm.Lit l) k e = variable-known base kept s t h l.variable k e

pub marked-parts : (marks : List Bool) (xs ys : List ℕ) → AreMarked marks (xs ++ ys) → AreMarked marks xs × AreMarked marks ys
marked-parts marks [] ys k = (tt, k)
marked-parts marks (x ∷ xs) ys k = let rest = marked-parts marks xs ys k.1 in ((k.0, rest.0), rest.1)

with_arm-alike : (r : ℕ → ℕ) (x y : Literal) (a : Arm) → with_arm (renumbered_literal r x ∷ renumbered_literal r y ∷ []) (renumbered_arm r a) ≡ renumbered_constraint r (with_arm (x ∷ y ∷ []) a)
with_arm-alike r x y arm.True = refl
with_arm-alike r x y arm.False = refl
with_arm-alike r x y (arm.Lit l) = refl

opposite-alike : (r : ℕ → ℕ) (a : Arm) → opposite (renumbered_arm r a) ≡ renumbered_arm r (opposite a)
opposite-alike r arm.True = refl
opposite-alike r arm.False = refl
opposite-alike r (arm.Lit l) = refl

clauses-alike : (r : ℕ → ℕ) (v x : Literal) (high low : Arm) → definition_clauses (renumbered_literal r v) (renumbered_literal r x) (renumbered_arm r high) (renumbered_arm r low) ≡ map (renumbered_constraint r) (definition_clauses v x high low)
clauses-alike r v x high low =
    rw (opposite-alike r high, opposite-alike r low, with_arm-alike r (negated v) (negated x) high, with_arm-alike r (negated v) x low, with_arm-alike r v (negated x) (opposite high), with_arm-alike r v x (opposite low)) refl

with_arm-over : (K : ℕ → Type 0) (x y : Literal) (a : Arm) → K x.variable → K y.variable → IsArmOver K a → IsOver K (with_arm (x ∷ y ∷ []) a)
with_arm-over K x y arm.True kx ky k = record { guard = tt; lits = tt }
with_arm-over K x y arm.False kx ky k = record { guard = tt; lits = (kx, (ky, tt)) }
with_arm-over K x y (arm.Lit l) kx ky k = record { guard = tt; lits = (kx, (ky, (k, tt))) }

opposite-over : (K : ℕ → Type 0) (a : Arm) → IsArmOver K a → IsArmOver K (opposite a)
opposite-over K arm.True k = tt
opposite-over K arm.False k = tt
opposite-over K (arm.Lit l) k = k

clauses-over : (K : ℕ → Type 0) (v x : Literal) (high low : Arm) → K v.variable → K x.variable → IsArmOver K high → IsArmOver K low → AllByRecursion (IsOver K) (definition_clauses v x high low)
clauses-over K v x high low kv kx kh kl = (
  with_arm-over K (negated v) (negated x) high kv kx kh,
  (
    with_arm-over K (negated v) x low kv kx kl,
    (
      with_arm-over K v (negated x) (opposite high) kv kx (opposite-over K high kh),
      (with_arm-over K v x (opposite low) kv kx (opposite-over K low kl), tt),
    ),
  ),
)

pub define-kept : (base : ℕ) (kept : Kept) (s t s' : ProofState) → Follows base kept s t → (x : Literal) (high low : Arm) → define s x high low ≡ Ok s' →
    AreMarked kept.variables (x.variable ∷ arm_variables high ++ arm_variables low) → HaveMark kept.ids (length s.given) 4 true → mark_at kept.variables s.vars ≡ true →
    Follows base kept s' (with_definition t (renumbered_literal (new_number kept.variables) x) (renumbered_arm (new_number kept.variables) high) (renumbered_arm (new_number kept.variables) low))
    × (define t (renumbered_literal (new_number kept.variables) x) (renumbered_arm (new_number kept.variables) high) (renumbered_arm (new_number kept.variables) low) ≡ Ok (with_definition t (renumbered_literal (new_number kept.variables) x) (renumbered_arm (new_number kept.variables) high) (renumbered_arm (new_number kept.variables) low)))
define-kept base kept s t s' h x high low e kv ki m =
    let r : ℕ → ℕ = new_number kept.variables in
    let parts = define-parts s s' x high low e in
    let arms = marked-parts kept.variables (arm_variables high) (arm_variables low) kv.1 in
    let kh : IsArmOver (IsKept kept.variables) high = arm-over kept.variables high arms.0 in
    let kl : IsArmOver (IsKept kept.variables) low = arm-over kept.variables low arms.1 in
    let d : Definition = record { test = x; high = high; low = low } in
    let number : r (s.vars + 1) ≡ t.vars + 1 = number-at kept.variables s.vars true m ∙ ap (λ n. n + 1) (sym h.vars) in
    let place : s.vars + 1 ≡ suc s.vars = omega arith in
    let new : IsKept kept.variables (s.vars + 1) = subst (λ n. is_marked kept.variables n ≡ true) (sym place) m in
    let one = variable-kept base kept s t h d (record { test = kv.0; high = kh; low = kl }) m in
    let cs : List Bounded = definition_clauses (next_variable s) x high low in
    let all = many-kept base kept cs _ _ one (clauses-over (IsKept kept.variables) (next_variable s) x high low new kv.0 kh kl) ki in
    let same : definition_clauses (next_variable t) (renumbered_literal r x) (renumbered_arm r high) (renumbered_arm r low) ≡ map (renumbered_constraint r) cs =
    ap (λ n. definition_clauses (record { variable = n; positive = true }) (renumbered_literal r x) (renumbered_arm r high) (renumbered_arm r low)) (sym number) ∙ clauses-alike r (next_variable s) x high low in (
      subst (λ (y : ProofState). Follows base kept y (with_definition t (renumbered_literal r x) (renumbered_arm r high) (renumbered_arm r low))) (sym parts.3)
          (subst (λ (ds : List Bounded). Follows base kept (with_definition s x high low) (record (with_definition t (renumbered_literal r x) (renumbered_arm r high) (renumbered_arm r low)) { given = t.given ++ map by_definition ds })) (sym same) all),
      define-makes t (renumbered_literal r x) (renumbered_arm r high) (renumbered_arm r low) (variable-known base kept s t h x.variable kv.0 parts.0) (arm-known base kept s t h high kh parts.1) (arm-known base kept s t h low kl parts.2),
    )

pub define-dropped : (base : ℕ) (kept : Kept) (s t s' : ProofState) → Follows base kept s t → (x : Literal) (high low : Arm) → define s x high low ≡ Ok s' → HaveMark kept.ids (length s.given) 4 false → mark_at kept.variables s.vars ≡ false → Follows base kept s' t
define-dropped base kept s t s' h x high low e ki m =
    let parts = define-parts s s' x high low e in
    let d : Definition = record { test = x; high = high; low = low } in
    let cs : List Bounded = definition_clauses (next_variable s) x high low in
    subst (λ (y : ProofState). Follows base kept y t) (sym parts.3) (many-dropped base kept cs _ t (variable-dropped base kept s t h d m) ki)

-- deletions
pub delete-dropped : (base : ℕ) (kept : Kept) (s t s' : ProofState) → Follows base kept s t → (ids : List ℕ) → with_given s (deleted s.given ids) ≡ Ok s' → Follows base kept s' t
delete-dropped base kept s t s' h ids e = split (deleted s.given ids) refl e
  where
    split : (o : Result (List Given) ℕ) → deleted s.given ids ≡ o → with_given s o ≡ Ok s' → Follows base kept s' t
    split (Err cause) a e = absurd cc
    split (Ok after) a e =
        let alike = deleted-alike kept t.given ids s.given after a h.live in
        subst (λ (y : ProofState). Follows base kept y t) (sym (made-is _ s' e)) (record {
          vars = h.vars;
          ids = h.ids ∙ ap (new_number kept.ids) (sym alike.1);
          count = h.count;
          count' = h.count';
          first = h.first;
          live = alike.0;
          defined = h.defined;
        })
