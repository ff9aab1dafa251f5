-- What settles a constraint: it stays quiet however far the trail goes back, and however it grows.
use Rattle.std.proofs.Common.{◌≡◌, ℕ, ◌+◌, ◌≤◌, ◌⊎◌, Bool, true, false, cond, ltb, List, [], ◌∷◌, refl, sym, ap, subst, inl, inr, arith}
use Rattle.std.proofs.lemmas.Bool.{or_cases, or_left, or_right, cases_lt, ltb-true, ltb-false, lt-ltb}
use Rattle.kn_logic.specs.Literals.{is_same, has}
use Rattle.kn_logic.specs.Constraints.{Bounded}
use Rattle.kn_logic.specs.Propagation.{IsShort, IsConsistent}
use Rattle.kn_watch.specs.declared.trail.Made.{Made}
use Rattle.kn_watch.specs.Trails.{literals, below}
use Rattle.kn_watch.specs.Watches.{IsSatisfied, NoneFalse, IsSettled, HasWatches, IsBroad, QuietLaw}
use Rattle.kn_watch.proofs.Within.{Within, satisfied_within, none_false_within, satisfied_quiet}

within_cons : (m : Made) (small large : List Made) → Within (literals small) (literals large) → Within (literals (m ∷ small)) (literals (m ∷ large))
within_cons m small large w l h =
    elim (or_cases (is_same l m.lit) (has (literals small) l) h) [
      | inl e ↦ or_left _ (has (literals large) l) e
      | inr t ↦ or_right (is_same l m.lit) _ (w l t)
    ]

within_skip : (m : Made) (small large : List Made) → Within (literals small) (literals large) → Within (literals small) (literals (m ∷ large))
within_skip m small large w l h = or_right (is_same l m.lit) _ (w l h)

within_step : (m : Made) (small large : List Made) (s t : Bool) → (s ≡ true → t ≡ true) → Within (literals small) (literals large) → Within (literals (cond s (m ∷ small) small)) (literals (cond t (m ∷ large) large))
within_step m small large true true h w = within_cons m small large w
within_step m small large true false h w = let e = h refl in absurd cc
within_step m small large false true h w = within_skip m small large w
within_step m small large false false h w = w

-- a lower part is within a higher one
pub below_within : (made : List Made) (low high : ℕ) → low ≤ high → Within (literals (below low made)) (literals (below high made))
below_within [] low high le = λ l h. h
below_within (m ∷ made) low high le =
    within_step m (below low made) (below high made) (ltb m.level low) (ltb m.level high) (λ e. lt-ltb _ _ (omega (arith, ltb-true _ _ e))) (below_within made low high le)

all_step : (m : Made) (small made : List Made) (s : Bool) → Within (literals small) (literals made) → Within (literals (cond s (m ∷ small) small)) (literals (m ∷ made))
all_step m small made true w = within_cons m small made w
all_step m small made false w = within_skip m small made w

pub below_all : (made : List Made) (level : ℕ) → Within (literals (below level made)) (literals made)
below_all [] level = λ l h. h
below_all (m ∷ made) level = all_step m (below level made) made (ltb m.level level) (below_all made level)

-- going back twice
below_twice_step : (m : Made) (made : List Made) (low high : ℕ) (s t : Bool) → ltb m.level low ≡ s → ltb m.level high ≡ t → low ≤ high → below low (below high made) ≡ below low made → below low (cond t (m ∷ below high made) (below high made)) ≡ cond s (m ∷ below low made) (below low made)
below_twice_step m made low high true true s t le ih = rw s (ap (λ (x : List Made). m ∷ x) ih)
below_twice_step m made low high true false s t le ih = absurd (omega (arith, ltb-true _ _ s, ltb-false _ _ t))
below_twice_step m made low high false true s t le ih = rw s ih
below_twice_step m made low high false false s t le ih = ih

pub below_twice : (made : List Made) (low high : ℕ) → low ≤ high → below low (below high made) ≡ below low made
below_twice [] low high le = refl
below_twice (m ∷ made) low high le = below_twice_step m made low high (ltb m.level low) (ltb m.level high) refl refl le (below_twice made low high le)

-- where the trail goes back to below the level that settles, no watched literal is false any more
pub settled_back : (made : List Made) (c : Bounded) (watched : ℕ → Bool) (back : ℕ) → IsSettled made c watched → IsSettled (below back made) c watched ⊎ NoneFalse (literals (below back made)) c watched
settled_back made c watched back s =
    elim (cases_lt s.0 back) [
      | inl lt ↦ inl (s.0, subst (λ (x : List Made). IsSatisfied (literals x) c) (sym (below_twice made (s.0 + 1) back (omega arith))) s.1, subst (λ (x : List Made). NoneFalse (literals x) c watched) (sym (below_twice made s.0 back (omega arith))) s.2)
      | inr le ↦ inr (none_false_within (literals (below back made)) (literals (below s.0 made)) c watched (below_within made back s.0 le) s.2)
    ]

-- The second sentence of the law on quiet, once for all kinds: what is settled is not short.
pub settled_quiet : (made : List Made) (c : Bounded) (watched : ℕ → Bool) → IsConsistent (literals made) → IsSettled made c watched → IsShort (literals made) c → ⊥
settled_quiet made c watched k s = satisfied_quiet (literals made) c k (satisfied_within (literals (below (s.0 + 1) made)) (literals made) c (below_all made (s.0 + 1)) s.1)

-- nor under what going back leaves of the trail
pub settled_back_quiet : (made : List Made) (c : Bounded) (watched : ℕ → Bool) (back : ℕ) → QuietLaw c watched → IsBroad c → HasWatches c watched → IsConsistent (literals (below back made)) → IsSettled made c watched → IsShort (literals (below back made)) c → ⊥
settled_back_quiet made c watched back law broad has k s short =
    elim (settled_back made c watched back s) [
      | inl t ↦ settled_quiet (below back made) c watched k t short
      | inr n ↦ law (literals (below back made)) broad has n short
    ]
