-- Which hints are used, told by what the code tests.
use Rattle.std.proofs.Common.{◌≡◌, ℕ, ◌&&◌, ◌||◌, Bool, true, false, not, cond, List, [], ◌∷◌, ◌++◌, map, filter, Option, None, Some, Result, Err, refl, sym, ap, ◌∙◌}
use Rattle.std.specs.List.{list_any}
use Rattle.std.specs.Option.{IsSome, option_map_or}
use Rattle.std.specs.Result.{IsOk}
use Rattle.std.proofs.lemmas.Bool.{or_right}
use Rattle.std.proofs.lemmas.List.Folds.{list_any-append}
use Rattle.kn_logic.specs.Literals.{Literal, negated, is_same, has}
use Rattle.kn_logic.specs.Constraints.{Bounded}
use Rattle.kn_logic.specs.Propagation.{is_open, has_unset, after_hint}
use Rattle.kn_logic.proofs.Public.{has-first}
use Rattle.kn_rules.specs.declared.given.Given.{Given}
use Rattle.kn_rules.specs.declared.given.Origin.{Origin}
use Rattle.kn_rules.specs.States.{ProofState}
use Rattle.kn_rules.specs.Steps.{are_known, hinted, if_conflict, follow}
use Rattle.kn_trim.specs.Used.{picked, is_used, used_marks, used_ids}
use Rattle.kn_trim.specs.Noting.{used_after, used_at, used_from}
use Rattle.kn_trim.proofs.Follows.{hinted-parts}

all-there : (trail front rest : List Literal) → ((l : Literal) → has rest l ≡ true → has trail l ≡ true) → list_any (λ l. not (has trail l)) rest ≡ false
all-there trail front [] h = refl
all-there trail front (x ∷ rest) h = rw (h x (has-first x rest)) (all-there trail front rest (λ l e. h l (or_right (is_same l x) (has rest l) e)))

pub is_used_none : (trail : List Literal) → is_used trail (Some trail) ≡ false
is_used_none trail = all-there trail [] trail (λ l e. e)

pub is_used_more : (trail more : List Literal) → is_used trail (Some (trail ++ more)) ≡ list_any (λ l. not (has trail l)) more
is_used_more trail more = list_any-append (λ l. not (has trail l)) trail more ∙ ap (λ b. b || list_any (λ l. not (has trail l)) more) (is_used_none trail)

any-filter : (p q : Literal → Bool) (lits : List Literal) → list_any q (filter p lits) ≡ list_any (λ l. p l && q l) lits
any-filter p q [] = refl
any-filter p q (x ∷ lits) = turn (p x) (any-filter p q lits)
  where
    turn : (t : Bool) → list_any q (filter p lits) ≡ list_any (λ l. p l && q l) lits → list_any q (cond t (x ∷ filter p lits) (filter p lits)) ≡ ((t && q x) || list_any (λ l. p l && q l) lits)
    turn true h = ap (λ b. q x || b) h
    turn false h = h

pub is_used_open : (trail lits : List Literal) → is_used trail (Some (trail ++ filter (is_open trail) lits)) ≡ has_unset trail lits
is_used_open trail lits = is_used_more trail (filter (is_open trail) lits) ∙ any-filter (is_open trail) (λ l. not (has trail l)) lits

pub is_used_one : (trail : List Literal) (l : Literal) → has trail l ≡ false → is_used trail (Some (trail ++ l ∷ [])) ≡ true
is_used_one trail l e = is_used_more trail (l ∷ []) ∙ rw e refl

-- used hints, as the code notes them
pub used_from-hinted : (given : List Given) (ids : List ℕ) (cs : List Bounded) (trail : List Literal) → hinted given ids ≡ Some cs → used_from given trail ids ≡ picked (used_marks trail cs) ids
used_from-hinted given [] [] trail e = refl
used_from-hinted given [] (c ∷ cs) trail e = absurd cc
used_from-hinted given (id ∷ ids) cs trail e =
    let parts = hinted-parts given id ids cs e in
    ap (used_at trail id (λ next. used_from given next ids)) parts.2
    ∙ turn parts.1 (after_hint trail parts.0) (λ next. used_from-hinted given ids parts.1 next parts.3)
    ∙ ap (λ (xs : List Bounded). picked (used_marks trail xs) (id ∷ ids)) (sym parts.4)
  where
    turn : (rest : List Bounded) (o : Option (List Literal)) → ((next : List Literal) → used_from given next ids ≡ picked (used_marks next rest) ids) → used_after trail id (λ next. used_from given next ids) o ≡ picked (is_used trail o ∷ option_map_or (λ next. used_marks next rest) o []) (id ∷ ids)
    turn rest None h = refl
    turn rest (Some next) h = rw (h next) refl

pub used_noted : (given : List Given) (lits : List Literal) (ids : List ℕ) → IsSome (hinted given ids) → used_from given (map negated lits) ids ≡ used_ids lits ids (hinted given ids)
used_noted given lits ids h = split (hinted given ids) refl h
  where
    split : (o : Option (List Bounded)) → hinted given ids ≡ o → IsSome o → used_from given (map negated lits) ids ≡ used_ids lits ids o
    split None e k = absurd cc
    split (Some cs) e k = used_from-hinted given ids cs (map negated lits) e

-- what a lemma or a learned clause that steps asks for
pub followed_known : (s : ProofState) (o : Origin) (lits : List Literal) (hints : List ℕ) → IsOk (follow s o lits hints) → are_known s.vars lits ≡ true
followed_known s o lits hints h = split (are_known s.vars lits) refl h
  where
    split : (b : Bool) → are_known s.vars lits ≡ b → IsOk (cond {A = Result ProofState ℕ} b (if_conflict s o lits (hinted s.given hints)) (Err 3)) → are_known s.vars lits ≡ true
    split true e k = e
    split false e k = absurd cc

pub followed_live : (s : ProofState) (o : Origin) (lits : List Literal) (hints : List ℕ) → IsOk (follow s o lits hints) → IsSome (hinted s.given hints)
followed_live s o lits hints h = split (are_known s.vars lits) (hinted s.given hints) h
  where
    split : (b : Bool) (hs : Option (List Bounded)) → IsOk (cond {A = Result ProofState ℕ} b (if_conflict s o lits hs) (Err 3)) → IsSome hs
    split false hs k = absurd cc
    split true None k = absurd cc
    split true (Some cs) k = refl
