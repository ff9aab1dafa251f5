-- A trail that grows at its present level.
use Rattle.std.proofs.Common.{◌≡◌, ℕ, ◌+◌, ◌≤◌, ◌<◌, ◌++◌, Bool, true, false, cond, ltb, List, [], ◌∷◌, refl, sym, ap, ◌∙◌, subst, inl, inr, arith}
use Rattle.std.specs.List.{AllByRecursion}
use Rattle.std.proofs.lemmas.Bool.{or_left, cases_lt, cond-false, lt-ltb, le-ltb}
use Rattle.std.proofs.lemmas.List.{map-append}
use Rattle.std.proofs.lemmas.List.Folds.{list_any-append}
use Rattle.kn_logic.specs.Constraints.{Bounded}
use Rattle.kn_logic.specs.Literals.{Literal, is_same, has}
use Rattle.kn_watch.specs.declared.trail.Made.{Made}
use Rattle.kn_watch.specs.Trails.{literals, below, IsRising, Grows}
use Rattle.kn_watch.specs.Watches.{NoneFalse, IsSatisfied, IsSettled}
use Rattle.kn_watch.proofs.Within.{Within, none_false_within, satisfied_within}
use Rattle.kn_watch.proofs.Settled.{below_within, below_all}

-- none of the literals stands above this level
abbrev pub IsTop : ℕ → List Made → Type 0
IsTop level made = AllByRecursion (λ m. m.level ≤ level) made

pub rising_top : (level : ℕ) (made : List Made) → IsRising level made → IsTop level made
rising_top level [] r = tt
rising_top level (m ∷ made) r = (r.0, rising_top level made r.2)

step_in : (m : Made) (made : List Made) (k : ℕ) (t : Bool) → ltb m.level k ≡ t → m.level < k → below k made ≡ made → cond t (m ∷ below k made) (below k made) ≡ m ∷ made
step_in m made k true q lt ih = ap (λ (x : List Made). m ∷ x) ih
step_in m made k false q lt ih = let e = lt-ltb _ _ lt in absurd cc

pub below_top : (level : ℕ) (made : List Made) → IsTop level made → below (level + 1) made ≡ made
below_top level [] t = refl
below_top level (m ∷ made) t = step_in m made (level + 1) (ltb m.level (level + 1)) refl (omega (arith, t.0)) (below_top level made t.1)

none_below : (level k : ℕ) (more : List Made) → AllByRecursion (λ m. m.level ≡ level) more → k ≤ level → below k more ≡ []
none_below level k [] a le = refl
none_below level k (m ∷ more) a le = cond-false (ltb m.level k) (m ∷ below k more) (below k more) (le-ltb _ _ (omega (arith, a.0))) ∙ none_below level k more a.1 le

below_append_step : (m : Made) (made more : List Made) (k : ℕ) (t : Bool) → below k (made ++ more) ≡ below k made ++ below k more → cond t (m ∷ below k (made ++ more)) (below k (made ++ more)) ≡ cond t (m ∷ below k made) (below k made) ++ below k more
below_append_step m made more k true ih = ap (λ (x : List Made). m ∷ x) ih
below_append_step m made more k false ih = ih

pub below_append : (made more : List Made) (k : ℕ) → below k (made ++ more) ≡ below k made ++ below k more
below_append [] more k = refl
below_append (m ∷ made) more k = below_append_step m made more k (ltb m.level k) (below_append made more k)

pub append_none : (made : List Made) → made ++ [] ≡ made
append_none [] = refl
append_none (m ∷ made) = ap (λ (x : List Made). m ∷ x) (append_none made)

pub below_grown : (level k : ℕ) (made new : List Made) → Grows level made new → k ≤ level → below k new ≡ below k made
below_grown level k made new g le =
    ap (below k) g.1 ∙ below_append made g.0 k ∙ ap (λ (x : List Made). below k made ++ x) (none_below level k g.0 g.2 le) ∙ append_none (below k made)

pub within_append : (made more : List Made) → Within (literals made) (literals (made ++ more))
within_append made more l h = subst (λ (x : List Literal). has x l ≡ true) (sym (map-append (λ (m : Made). m.lit) made more)) (list_any-append (is_same l) (literals made) (literals more) ∙ or_left _ _ h)

pub within_grown : (level k : ℕ) (made new : List Made) → Grows level made new → Within (literals (below k made)) (literals (below k new))
within_grown level k made new g l h = subst (λ (x : List Made). has (literals x) l ≡ true) (sym (ap (below k) g.1 ∙ below_append made g.0 k)) (within_append (below k made) (below k g.0) l h)

pub all_within_grown : (level : ℕ) (made new : List Made) → Grows level made new → Within (literals made) (literals new)
all_within_grown level made new g l h = subst (λ (x : List Made). has (literals x) l ≡ true) (sym g.1) (within_append made g.0 l h)

-- satisfied, and no watched literal false below the present level
pub settled_now : (level : ℕ) (made : List Made) (c : Bounded) (watched : ℕ → Bool) → IsTop level made → IsSatisfied (literals made) c → NoneFalse (literals (below level made)) c watched → IsSettled made c watched
settled_now level made c watched top s n = (level, subst (λ (x : List Made). IsSatisfied (literals x) c) (sym (below_top level made top)) s, n)

pub settled_grows : (level : ℕ) (made new : List Made) (c : Bounded) (watched : ℕ → Bool) → Grows level made new → IsTop level new → IsSettled made c watched → IsSettled new c watched
settled_grows level made new c watched g top s =
    elim (cases_lt level s.0) [
      | inl lt ↦ settled_now level new c watched top
          (satisfied_within (literals (below (s.0 + 1) made)) (literals new) c (λ l h. all_within_grown level made new g l (below_all made (s.0 + 1) l h)) s.1)
          (subst (λ (x : List Made). NoneFalse (literals x) c watched) (sym (below_grown level level made new g (omega arith))) (none_false_within (literals (below level made)) (literals (below s.0 made)) c watched (below_within made level s.0 (omega arith)) s.2))
      | inr le ↦ (
        s.0,
        satisfied_within (literals (below (s.0 + 1) made)) (literals (below (s.0 + 1) new)) c (within_grown level (s.0 + 1) made new g) s.1,
        subst (λ (x : List Made). NoneFalse (literals x) c watched) (sym (below_grown level s.0 made new g le)) s.2,
      )
    ]
