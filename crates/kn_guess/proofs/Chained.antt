-- Chains of variables that a least set has.
use Rattle.std.proofs.Common.{◌≡◌, ℕ, ◌+◌, ◌-◌, ◌≤◌, ◌<◌, ◌==◌, ◌⊎◌, ◌&&◌, inl, inr, Bool, true, false, not, List, [], ◌∷◌, set, get_or, slice_index, refl, sym, ap, subst, ◌∙◌, arith, true≢false}
use Rattle.std.specs.List.{AllByRecursion}
use Rattle.std.proofs.lemmas.Bool.{cases_eq, or_cases, eqb-true, false_from_ne_true, and_from}
use Rattle.std.proofs.lemmas.List.{get_or-set_other}
use Rattle.kn_logic.specs.Constraints.{Bounded, named}
use Rattle.kn_logic.specs.Literals.{names}
use Rattle.kn_logic.specs.Groups.{is_among}
use Rattle.kn_store.specs.Stores.{Stored, IsStored, constraints_of, ids_of, naming, constraint_at}
use Rattle.kn_guess.specs.Guesses.{in_klause, share, IsClosedFrom}
use Rattle.kn_guess.specs.Refusals.{IsTooMany}
use Rattle.kn_guess.specs.Deep.{HasChain, IsReached, AreReached, IsOneOf}
use Rattle.kn_guess.specs.Tables.{AreDeep}
use Rattle.kn_guess.proofs.Built.{id-of, same-some}

-- two variables that the constraint of one id names
share-by_id : (s : Stored) (x z id : ℕ) → IsStored s → is_among (ids_of (naming x s.live)) id ≡ true → is_among (ids_of (naming z s.live)) id ≡ true → share (constraints_of s.live) x z ≡ true
share-by_id s x z id stored i j =
    let p = id-of s x id stored i in
    let r = id-of s z id stored j in
    let same = same-some p.0.constraint r.0.constraint (constraint_at s.live id) (ap (constraint_at s.live) (sym p.1) ∙ p.3.own) (ap (constraint_at s.live) (sym r.1) ∙ r.3.own) in
    p.3.some (λ c. names (named c) x && names (named c) z) (and_from (names (named p.0.constraint) x) (names (named p.0.constraint) z) p.2 (ap (λ c. names (named c) z) same ∙ r.2))

head-only : (x y : ℕ) → is_among (y ∷ []) x ≡ true → y ≡ x
head-only x y i = by (or_cases (y == x) false i)
  where
    by : (((y == x) ≡ true) ⊎ (false ≡ true)) → y ≡ x
    by (inl e) = eqb-true y x e
    by (inr e) = absurd (true≢false (sym e))

own-chain : (cs : List Bounded) (x : ℕ) → HasChain cs x 1
own-chain cs x = (x ∷ [], omega arith, (refl, tt), (omega arith, tt), (λ other closed y i. subst (λ v. is_among other v ≡ true) (head-only y x i) closed.seed_in))

above-apart : (x z : ℕ) (chain : List ℕ) → x < z → AllByRecursion (λ v. z ≤ v) chain → is_among chain x ≡ false
above-apart x z [] less h = refl
above-apart x z (v ∷ chain) less h = false_from_ne_true (is_among (v ∷ chain) x) (λ i. by (or_cases (v == x) (is_among chain x) i) (above-apart x z chain less h.1))
  where
    by : (((v == x) ≡ true) ⊎ (is_among chain x ≡ true)) → is_among chain x ≡ false → ⊥
    by (inl e) rest = let s = eqb-true v x e in omega (arith, s, less, h.0)
    by (inr i) rest = true≢false (sym i ∙ rest)

all-above : (x z : ℕ) (chain : List ℕ) → x ≤ z → AllByRecursion (λ v. z ≤ v) chain → AllByRecursion (λ v. x ≤ v) chain
all-above x z [] low h = tt
all-above x z (v ∷ chain) low h = (omega (arith, low, h.0), all-above x z chain low h.1)

closed-later : (cs : List Bounded) (x z : ℕ) (other : List ℕ) → x < z → in_klause cs z ≡ false → share cs x z ≡ true → IsClosedFrom cs x other → IsClosedFrom cs z other
closed-later cs x z other less alone near closed = record {
  seed_in = closed.neighbours x z closed.seed_in less alone near;
  neighbours = λ v w i low none together. closed.neighbours v w i (omega (arith, less, low)) none together;
}

-- one variable more
longer : (cs : List Bounded) (x z many : ℕ) → x < z → in_klause cs z ≡ false → share cs x z ≡ true → HasChain cs z many → HasChain cs x (many + 1)
longer cs x z many less alone near (chain, long, apart, above, forced) = (
  x ∷ chain,
  omega (arith, long),
  (above-apart x z chain less above, apart),
  (omega arith, all-above x z chain (omega (arith, less)) above),
  λ other closed y i. by other closed y (or_cases (x == y) (is_among chain y) i),
)
  where
    by : (other : List ℕ) → IsClosedFrom cs x other → (y : ℕ) → (((x == y) ≡ true) ⊎ (is_among chain y ≡ true)) → is_among other y ≡ true
    by other closed y (inl e) = subst (λ v. is_among other v ≡ true) (eqb-true x y e) closed.seed_in
    by other closed y (inr i) = forced other (closed-later cs x z other less alone near closed) y i

pub chain-of : (s : Stored) (x many : ℕ) (best ids : List ℕ) → IsStored s → ids ≡ ids_of (naming x s.live) → AreReached s x best → IsOneOf best ids many → HasChain (constraints_of s.live) x (many + 1)
chain-of s x many best ids stored same reached (inl e) = subst (HasChain (constraints_of s.live) x) {x = 1} {y = many + 1} (omega (arith, e)) (own-chain (constraints_of s.live) x)
chain-of s x many best ids stored same reached (inr (id, i, e)) = by (reached id)
  where
    by : ((slice_index best id ≡ 0) ⊎ IsReached s x id (slice_index best id)) → HasChain (constraints_of s.live) x (many + 1)
    by (inl none) = subst (HasChain (constraints_of s.live) x) {x = 1} {y = many + 1} (omega (arith, e, none)) (own-chain (constraints_of s.live) x)
    by (inr (z, less, alone, j, chain)) =
        subst (λ n. HasChain (constraints_of s.live) x (n + 1)) (sym e)
        (longer (constraints_of s.live) x z (slice_index best id) less alone (share-by_id s x z id stored (ap (λ ks. is_among ks id) (sym same) ∙ i) j) chain)

pub fewer : (cs : List Bounded) (x many less : ℕ) → less ≤ many → HasChain cs x many → HasChain cs x less
fewer cs x many less low (chain, long, apart, above, forced) = (chain, omega (arith, long, low), apart, above, forced)

-- a flag that is raised
pub deep-raised : (cs : List Bounded) (flags new : List Bool) (x many : ℕ) → 1 ≤ x → AreDeep cs flags → new ≡ set flags (x - 1) true → 256 < many → HasChain cs x many → AreDeep cs new
deep-raised cs flags new x many from deep is more (chain, long, apart, above, forced) y low up = by (cases_eq y x)
  where
    by : ((y ≡ x) ⊎ (y ≡ x → ⊥)) → IsTooMany cs y
    by (inl e) = subst (IsTooMany cs) (sym e) (chain, omega (arith, long, more), apart, forced)
    by (inr ne) = deep y low (sym (ap (λ z. get_or z (y - 1) false) is ∙ get_or-set_other flags (x - 1) (y - 1) true false (λ e. ne (omega (arith, e, low, from)))) ∙ up)

-- the numbers before an earlier variable
pub reached-earlier : (s : Stored) (x y : ℕ) (best : List ℕ) → y ≤ x → AreReached s x best → AreReached s y best
reached-earlier s x y best low reached id = by (reached id)
  where
    by : ((slice_index best id ≡ 0) ⊎ IsReached s x id (slice_index best id)) → (slice_index best id ≡ 0) ⊎ IsReached s y id (slice_index best id)
    by (inl e) = inl e
    by (inr (z, less, alone, there, chain)) = inr (z, omega (arith, less, low), alone, there, chain)

pub reached-lifted : (s : Stored) (x y many : ℕ) (old new ids : List ℕ) → y < x → ids ≡ ids_of (naming x s.live) → in_klause (constraints_of s.live) x ≡ false → HasChain (constraints_of s.live) x many → AreReached s x old
    → ((id : ℕ) → (slice_index new id ≡ slice_index old id) ⊎ ((is_among ids id ≡ true) × (slice_index new id ≡ many))) → AreReached s y new
reached-lifted s x y many old new ids less same alone chain reached lifted id = by (lifted id)
  where
    kept : ((slice_index old id ≡ 0) ⊎ IsReached s y id (slice_index old id)) → slice_index new id ≡ slice_index old id → (slice_index new id ≡ 0) ⊎ IsReached s y id (slice_index new id)
    kept (inl e) is = inl (is ∙ e)
    kept (inr h) is = inr (subst (IsReached s y id) (sym is) h)

    by : (slice_index new id ≡ slice_index old id) ⊎ ((is_among ids id ≡ true) × (slice_index new id ≡ many)) → (slice_index new id ≡ 0) ⊎ IsReached s y id (slice_index new id)
    by (inl is) = kept (reached-earlier s x y old (omega (arith, less)) reached id) is
    by (inr (i, is)) = inr (x, less, alone, ap (λ ks. is_among ks id) (sym same) ∙ i, subst (HasChain (constraints_of s.live) x) (sym is) chain)

pub not-up : (a : Bool) → not a ≡ true → a ≡ false
not-up true e = absurd (true≢false (sym e))
not-up false e = refl
