-- The guess of a seed, from its parts.
use Rattle.std.proofs.Common.{◌≡◌, ℕ, ◌≤◌, true, List, length, filter, sym, ap, subst, ◌∙◌}
use Rattle.std.specs.List.{AllByRecursion}
use Rattle.std.specs.List.Sorted.{IsStrictlyIncreasing}
use Rattle.kn_logic.specs.Literals.{Literal}
use Rattle.kn_logic.specs.Constraints.{Bounded}
use Rattle.kn_logic.specs.Groups.{Gathered, is_among}
use Rattle.kn_store.specs.Stores.{Stored, constraints_of, ids_of, chosen}
use Rattle.kn_store.proofs.Public.{all-one}
use Rattle.kn_guess.specs.declared.error.NoGuess.{NoGuess}
use Rattle.kn_guess.specs.declared.error.NoGuess.TheVariants.{NotSeed, TooMany, SmallBorder, TooWideBorder, TwoSided, Memory}
use Rattle.kn_guess.specs.Guesses.{is_seed, IsLeastFrom, touches, IsBorder, IsSeedGuess}
use Rattle.kn_guess.specs.Refusals.{IsBorderRefused, IsRefused}
use Rattle.kn_guess.proofs.Elements.{all-among, own-among}
use Rattle.kn_guess.proofs.Taken.{taken-same}

-- lists with the same members
pub all-same : (P : ℕ → Type 0) (xs ys : List ℕ) → ((x : ℕ) → is_among ys x ≡ is_among xs x) → AllByRecursion P xs → AllByRecursion P ys
all-same P xs ys same h = all-one (λ y. is_among ys y ≡ true) P (λ y i. all-among P xs y h (sym (same y) ∙ i)) ys (own-among ys)

pub least-same : (cs : List Bounded) (start : ℕ) (xs ys : List ℕ) → ((x : ℕ) → is_among ys x ≡ is_among xs x) → IsLeastFrom cs start xs → IsLeastFrom cs start ys
least-same cs start xs ys same least = (
  record {
    seed_in = same start ∙ least.0.seed_in;
    neighbours = λ x z i low none near. same z ∙ least.0.neighbours x z (sym (same x) ∙ i) low none near;
  },
  λ other closed x i. least.1 other closed x (sym (same x) ∙ i),
)

pub refused-border : (cs : List Bounded) (start : ℕ) (set : List ℕ) (why : NoGuess) → is_seed cs start ≡ true → IsLeastFrom cs start set → length set ≤ 256 → IsBorderRefused (filter (touches set) cs) set why → IsRefused cs start why
refused-border cs start set NotSeed seed least few h = absurd h
refused-border cs start set TooMany seed least few h = absurd h
refused-border cs start set SmallBorder seed least few h = (seed, (set, least, few, h))
refused-border cs start set TooWideBorder seed least few h = (seed, (set, least, few, h))
refused-border cs start set (TwoSided x) seed least few h = (seed, (set, least, few, h))
refused-border cs start set Memory seed least few h = tt

pub guess-is : (s : Stored) (start : ℕ) (aux : List ℕ) (border : List Literal) (g : Gathered) (ids : List ℕ) → is_seed (constraints_of s.live) start ≡ true → IsStrictlyIncreasing aux → IsLeastFrom (constraints_of s.live) start aux → length aux ≤ 256
    → IsBorder (filter (touches aux) (constraints_of s.live)) aux border → 3 ≤ length border → length border ≤ 128
    → g.aux ≡ aux → g.border ≡ border → g.taken ≡ constraints_of (chosen (touches aux) s.live) → ids ≡ ids_of (chosen (touches aux) s.live) → IsSeedGuess s start g ids
guess-is s start aux border g ids seed up least few edge low high a b t i = record {
  starts = seed;
  ascends = subst IsStrictlyIncreasing (sym a) up;
  least = subst (IsLeastFrom (constraints_of s.live) start) (sym a) least;
  few = subst (λ z. length z ≤ 256) (sym a) few;
  taken = t ∙ ap (λ z. constraints_of (chosen (touches z) s.live)) (sym a);
  ids_are = i ∙ ap (λ z. ids_of (chosen (touches z) s.live)) (sym a);
  border = subst (λ z. IsBorder g.taken z g.border) (sym a) (subst (λ z. IsBorder g.taken aux z) (sym b) (subst (λ z. IsBorder z aux border) (sym (t ∙ taken-same (touches aux) s.live)) edge));
  low = subst (λ z. 3 ≤ length z) (sym b) low;
  high = subst (λ z. length z ≤ 128) (sym b) high;
}
