use Rattle.std.proofs.Common.{◌≡◌, ℕ, zero, suc, ◌+◌, ◌<◌, true, eqb, List, [], ◌∷◌, Option, Some, refl, sym, ap, ◌∙◌, subst, inl, inr, arith}
use Rattle.std.specs.Prelude.{slice_get, option_map, nat_lt}
use Rattle.std.proofs.lemmas.Bool.{or_cases, and_parts, eqb-true, ltb-true, not_from_false, false_from_ne_true, cases_Bool, cond-true, cond-false}
use Rattle.kn_logic.specs.Literals.{Literal, negated, is_same, has, AreDifferent}
use Rattle.kn_logic.specs.Propagation.{is_open}
use Rattle.kn_watch.specs.declared.trail.Made.{Made}
use Rattle.kn_watch.specs.Trails.{literals, below, made_of}
use Rattle.kn_watch.proofs.Public.{open_within, below_all, made_of-at}
use Rattle.kn_propagate.proofs.tests.was_open.Goals as goal

-- an entry below a level
found : (made : List Made) (n : ℕ) (l : Literal) → has (literals (below n made)) l ≡ true → (p : ℕ) × (m : Made) × (slice_get made p ≡ Some m) × (m.lit.variable ≡ l.variable) × (m.level < n)
found [] n l h = absurd cc
found (x ∷ made) n l h = elim (cases_Bool (nat_lt x.level n)) [
  | inr f ↦ (let r = found made n l (subst (λ (y : List Made). has (literals y) l ≡ true) (cond-false (nat_lt x.level n) (x ∷ below n made) (below n made) f) h) in (suc r.0, r.1, r.2, r.3, r.4))
  | inl t ↦ elim (or_cases (is_same l x.lit) (has (literals (below n made)) l) (subst (λ (y : List Made). has (literals y) l ≡ true) (cond-true (nat_lt x.level n) (x ∷ below n made) (below n made) t) h)) [
    | inl s ↦ (zero, x, refl, sym (eqb-true l.variable x.lit.variable (and_parts (eqb l.variable x.lit.variable) _ s).0), ltb-true x.level n t)
    | inr s ↦ (let r = found made n l s in (suc r.0, r.1, r.2, r.3, r.4))
  ]
]

-- what became false at this level was not false below
late : (made : List Made) (k var level : ℕ) (l : Literal) → AreDifferent (literals made) → var ≡ l.variable → option_map (λ m. m.level) (made_of made var) ≡ Some level → k < level → is_open (literals (below (k + 1) made)) l ≡ true
late made k var level l d v e lt = not_from_false _ (false_from_ne_true _ (λ h. (
    let r = found made (k + 1) (negated l) h in
    let q : r.1.lit.variable ≡ var = r.3 ∙ sym v in
    let m = ap (λ (n : ℕ). option_map (λ (x : Made). x.level) (made_of made n)) (sym q) ∙ ap (λ (o : Option Made). option_map (λ (x : Made). x.level) o) (made_of-at made r.0 r.1 d r.2) in
    let same : r.1.level ≡ level = (let a = sym m ∙ e in cc) in
    omega (arith, r.4, same, lt))))

pub returns-then-is_open : goal.returns-then-is_open
returns-then-is_open c t k lt = open_within (literals (below (k + 1) c.args.trail.now.made)) (literals c.args.trail.now.made) c.args.lit (below_all c.args.trail.now.made (k + 1)) (sym c.is_open.ensures ∙ c.if-is_open.true)

pub returns-in-Some : goal.returns-in-Some
returns-in-Some c t k lt =
    let q : c.in-Some.level ≡ c.args.trail.now.level = eqb-true c.in-Some.level c.level.result t ∙ c.level.ensures in
    late c.args.trail.now.made k c.var.result c.in-Some.level c.args.lit c.level_of.ensures.kept.different c.var.ensures.value (sym c.in-Some.ensures.level) (omega (arith, lt, q))
