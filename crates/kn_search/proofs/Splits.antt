-- Ids in two parts: those to forget, and the rest.
use Rattle.std.proofs.Common.{◌≡◌, ℕ, ◌+◌, ◌≤◌, ◌++◌, true, false, List, [], ◌∷◌, length, None, Ok, refl, sym, subst, inl, inr, arith}
use Rattle.std.specs.List.{AllByRecursion}
use Rattle.std.proofs.lemmas.Bool.{cases_Bool}
use Rattle.kn_logic.proofs.Public.{All-push}
use Rattle.kn_lines.specs.declared.line.Line.TheVariants.{Delete}
use Rattle.kn_rules.specs.States.{ProofState}
use Rattle.kn_rules.specs.Steps.{step}
use Rattle.kn_rules.specs.Searching.{is_learned, IsGivenBy, Allows}
use Rattle.kn_watch.specs.declared.trail.Made.{Made}
use Rattle.kn_propagate.specs.Engines.{Live, live_in, IsNoReason}
use Rattle.kn_search.specs.Searches.{contains, removed_all, IsLiveLearned, AreHeld, AreKept, IsSplit}
use Rattle.kn_search.proofs.Once.{contains-push, contains-last, contains-either, all-in, all-of, once-push}
use Rattle.kn_search.proofs.Held.{length-push}
use Rattle.kn_search.proofs.Forgotten.{are-learned, left-learned, still-held, kept-forgotten}

not_in : (ps ids : List ℕ) (id : ℕ) → ((q : ℕ) → contains ps q ≡ true → contains ids q ≡ true) → contains ids id ≡ false → contains ps id ≡ false
not_in ps ids id h none = elim (cases_Bool (contains ps id)) [ inl s ↦ (let t = h id s in absurd cc) | inr s ↦ s ]

unlike : (ids : List ℕ) (id q : ℕ) → contains ids id ≡ false → id ≡ q → contains ids q ≡ true → ⊥
unlike ids id q none e h = (let f : contains ids q ≡ false = subst (λ (n : ℕ). contains ids n ≡ false) e none in cc)

-- an id more, in the part or not
in_more : (ids part : List ℕ) (id q : ℕ) → ((q : ℕ) → contains part q ≡ true → contains ids q ≡ true) → contains (part ++ id ∷ []) q ≡ true → contains (ids ++ id ∷ []) q ≡ true
in_more ids part id q h k =
    elim (contains-either part id q k) [
      | inl s ↦ contains-push ids id q (h q s)
      | inr s ↦ subst (λ (n : ℕ). contains (ids ++ id ∷ []) n ≡ true) s (contains-last ids id)
    ]

pub split-none : (made : List Made) → IsSplit made [] [] []
split-none made = record { free = tt; out_in = λ q h. h; rest_in = λ q h. h; apart = λ q h k. absurd cc; out_once = tt; rest_once = tt; count = refl }

pub split-out : (made : List Made) (ids out rest : List ℕ) (id : ℕ) → IsNoReason made id → contains ids id ≡ false → IsSplit made ids out rest → IsSplit made (ids ++ id ∷ []) (out ++ id ∷ []) rest
split-out made ids out rest id free new h = record {
  free = All-push (IsNoReason made) out id h.free free;
  out_in = λ q k. in_more ids out id q h.out_in k;
  rest_in = λ q k. contains-push ids id q (h.rest_in q k);
  apart = λ q k m. elim (contains-either out id q k) [ inl s ↦ h.apart q s m | inr s ↦ unlike ids id q new s (h.rest_in q m) ];
  out_once = once-push out id h.out_once (not_in out ids id h.out_in new);
  rest_once = h.rest_once;
  count = omega (arith, h.count, length-push out id, length-push ids id);
}

pub split-rest : (made : List Made) (ids out rest : List ℕ) (id : ℕ) → contains ids id ≡ false → IsSplit made ids out rest → IsSplit made (ids ++ id ∷ []) out (rest ++ id ∷ [])
split-rest made ids out rest id new h = record {
  free = h.free;
  out_in = λ q k. contains-push ids id q (h.out_in q k);
  rest_in = λ q k. in_more ids rest id q h.rest_in k;
  apart = λ q k m. elim (contains-either rest id q m) [ inl s ↦ h.apart q k s | inr s ↦ unlike ids id q new s (h.out_in q k) ];
  out_once = h.out_once;
  rest_once = once-push rest id h.rest_once (not_in rest ids id h.rest_in new);
  count = omega (arith, h.count, length-push rest id, length-push ids id);
}

-- what holds of all ids holds of a part
pub part-all : (P : ℕ → Type 0) (ids part : List ℕ) → AllByRecursion P ids → ((q : ℕ) → contains part q ≡ true → contains ids q ≡ true) → AllByRecursion P part
part-all P ids part h within = all-of P part (λ q k. all-in P ids q h (within q k))

-- what is held when the one part was deleted
pub held-rest : (made : List Made) (s t : ProofState) (held out rest : List ℕ) → AreHeld s.given held → IsSplit made held out rest → step s (Delete out) ≡ Ok t → AreHeld t.given rest
held-rest made s t held out rest h x e = record {
  learned = all-of (IsLiveLearned t.given) rest (λ q k. still-held s t out q
      (elim (cases_Bool (contains out q)) [ inl o ↦ absurd (x.apart q o k) | inr o ↦ o ]) e
      (all-in (IsLiveLearned s.given) held q h.learned (x.rest_in q k)));
  once = x.rest_once;
  count = omega (arith, h.count, x.count, left-learned s t out e);
}

-- and what was live at first
pub kept-rest : (made : List Made) (first live new : List Live) (held out rest : List ℕ) → IsSplit made held out rest → new ≡ removed_all out live → AreKept first live held → AreKept first new rest
kept-rest made first live new held out rest x is k =
    kept-forgotten first live new held out rest (part-all (λ id. live_in first id ≡ None) held out k.others x.out_in) (part-all (λ id. live_in first id ≡ None) held rest k.others x.rest_in) is k

-- the part may be deleted by a line
pub deletion-allowed : (vars forget deletions : ℕ) (s : ProofState) (made : List Made) (held out rest ids : List ℕ) → 1 ≤ forget → forget + deletions ≤ length held → AreHeld s.given held → IsSplit made held out rest → ids ≡ out
    → Allows vars forget deletions s (Delete ids)
deletion-allowed vars forget deletions s made held out rest ids some enough h x is = (
  some,
  omega (arith, enough, h.count),
  subst (AllByRecursion (IsGivenBy is_learned s.given)) (sym is) (are-learned s.given out (part-all (IsLiveLearned s.given) held out h.learned x.out_in)),
)
