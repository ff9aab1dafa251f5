-- A census keeps its numbers while nodes join it.
use Rattle.std.proofs.Common.{ℕ, zero, suc, ◌≡◌, ◌+◌, ◌<◌, ◌≤◌, ◌==◌, ◌&&◌, ◌||◌, Bool, true, false, not, if◌then◌else◌, List, [], ◌∷◌, ◌++◌, length, slice_index, slice_set, nat_eq, refl, sym, ap, subst, ◌∙◌, arith, length-append}
use Rattle.std.specs.List.{IsDistinct, list_any}
use Rattle.std.specs.Set.{is_member}
use Rattle.std.proofs.lemmas.Bool.{eqb-true, eqb-false, eq-eqb, ne_eqb, cond-true, cond-false, not-true, not-false}
use Rattle.std.proofs.lemmas.List.{append-nil, get_or-set_other}
use Rattle.std.proofs.lemmas.Grind.{get_or-set_at}
use Rattle.indexmap.specs.IndexSet.{insert_key}
use Rattle.kn_diagram.specs.Diagrams.{Table}
use Rattle.kn_diagram.specs.Censuses.{nodes_at, same_pair, IsCensus, IsPart, AreParts}
use Rattle.kn_diagram.proofs.ReachLemmas.{distinct-last}

-- one more entry
nodes_at-last : (depth own node : ℕ) (es : List (ℕ × ℕ)) → nodes_at depth (es ++ (own, node) ∷ []) ≡ nodes_at depth es ++ (if own == depth then node ∷ [] else [])
nodes_at-last depth own node [] = refl
nodes_at-last depth own node (e ∷ es) = by (e.0 == depth) (nodes_at-last depth own node es)
  where
    by : (b : Bool) → nodes_at depth (es ++ (own, node) ∷ []) ≡ nodes_at depth es ++ (if own == depth then node ∷ [] else [])
        → (if b then e.1 ∷ nodes_at depth (es ++ (own, node) ∷ []) else nodes_at depth (es ++ (own, node) ∷ []))
        ≡ (if b then e.1 ∷ nodes_at depth es else nodes_at depth es) ++ (if own == depth then node ∷ [] else [])
    by true rest = ap (λ ns. e.1 ∷ ns) rest
    by false rest = rest

pub nodes_at-within : (depth : ℕ) (es : List (ℕ × ℕ)) → length (nodes_at depth es) ≤ length es
nodes_at-within depth [] = omega arith
nodes_at-within depth (e ∷ es) = by (e.0 == depth) (nodes_at-within depth es)
  where
    by : (b : Bool) → length (nodes_at depth es) ≤ length es → length (if b then e.1 ∷ nodes_at depth es else nodes_at depth es) ≤ length (e ∷ es)
    by true rest = omega arith
    by false rest = omega arith

-- a node that no entry has is not among those of its depth
fresh-node : (depth node : ℕ) (es : List (ℕ × ℕ)) → list_any (same_pair (depth, node)) es ≡ false → is_member nat_eq (nodes_at depth es) node ≡ false
fresh-node depth node [] h = refl
fresh-node depth node (e ∷ es) h = by (depth == e.0) refl (node == e.1) refl h (fresh-node depth node es)
  where
    by : (a : Bool) → (depth == e.0) ≡ a → (b : Bool) → (node == e.1) ≡ b → ((a && b) || list_any (same_pair (depth, node)) es) ≡ false
        → (list_any (same_pair (depth, node)) es ≡ false → is_member nat_eq (nodes_at depth es) node ≡ false)
        → is_member nat_eq (nodes_at depth (e ∷ es)) node ≡ false
    by true x true y h rest = absurd (cc)
    by true x false y h rest =
        ap (λ ns. is_member nat_eq ns node) (cond-true (e.0 == depth) (e.1 ∷ nodes_at depth es) (nodes_at depth es) (eq-eqb e.0 depth (sym (eqb-true depth e.0 x))))
        ∙ (λ i. y i || rest h i)
    by false x b y h rest =
        ap (λ ns. is_member nat_eq ns node) (cond-false (e.0 == depth) (e.1 ∷ nodes_at depth es) (nodes_at depth es) (ne_eqb e.0 depth (λ s. eqb-false depth e.0 x (sym s))))
        ∙ rest h

-- what a census is once a node has joined it
pub census-more : (es : List (ℕ × ℕ)) (counts : List ℕ) (depth node : ℕ) → depth < length counts → IsCensus es counts → list_any (same_pair (depth, node)) es ≡ false
    → IsCensus (es ++ (depth, node) ∷ []) (slice_set counts depth (slice_index counts depth + 1))
census-more es counts depth node within c fresh = record {
  distinct = λ k. subst (IsDistinct nat_eq) (sym (nodes_at-last k depth node es)) (by k (depth == k) refl);
  counts = λ k. number k (depth == k) refl;
}
  where
    by : (k : ℕ) (b : Bool) → (depth == k) ≡ b → IsDistinct nat_eq (nodes_at k es ++ (if b then node ∷ [] else []))
    by k true t = let at = eqb-true depth k t in
        distinct-last node (nodes_at k es) (subst (λ x. is_member nat_eq (nodes_at x es) node ≡ false) at (fresh-node depth node es fresh)) (c.distinct k)
    by k false t = subst (IsDistinct nat_eq) (sym (append-nil (nodes_at k es))) (c.distinct k)

    length-last : (k : ℕ) → length (nodes_at k (es ++ (depth, node) ∷ [])) ≡ length (nodes_at k es) + length (if depth == k then node ∷ [] else [])
    length-last k = ap length (nodes_at-last k depth node es) ∙ length-append (nodes_at k es) (if depth == k then node ∷ [] else [])

    number : (k : ℕ) (b : Bool) → (depth == k) ≡ b → slice_index (slice_set counts depth (slice_index counts depth + 1)) k ≡ length (nodes_at k (es ++ (depth, node) ∷ []))
    number k true t =
        let at = eqb-true depth k t in
        let own : length (if depth == k then node ∷ [] else []) ≡ 1 = ap (λ b. length (if b then node ∷ [] else [])) t in
        let old : slice_index counts depth ≡ length (nodes_at k es) = ap (slice_index counts) at ∙ c.counts k in
        get_or-set_at counts depth k (slice_index counts depth + 1) 0 (sym at) within ∙ omega (arith, old, own, length-last k)
    number k false t =
        let own : length (if depth == k then node ∷ [] else []) ≡ 0 = ap (λ b. length (if b then node ∷ [] else [])) t in
        get_or-set_other counts depth k (slice_index counts depth + 1) 0 (λ s. eqb-false depth k t (sym s)) ∙ c.counts k ∙ omega (arith, own, length-last k)

-- the same nodes, with counts that are the same
pub census-same : (es : List (ℕ × ℕ)) (counts more : List ℕ) → ((k : ℕ) → slice_index more k ≡ slice_index counts k) → IsCensus es counts → IsCensus es more
census-same es counts more same c = record { distinct = c.distinct; counts = λ k. same k ∙ c.counts k }

pub parts-added : (d : Table) (whole : (ℕ → Bool) → Bool) (es : List (ℕ × ℕ)) (depth node : ℕ) → AreParts d whole es → IsPart d whole (depth, node)
    → AreParts d whole (insert_key same_pair es (depth, node))
parts-added d whole es depth node h p = by (list_any (same_pair (depth, node)) es)
  where
    last : (xs : List (ℕ × ℕ)) → AreParts d whole xs → AreParts d whole (xs ++ (depth, node) ∷ [])
    last [] k = (p, tt)
    last (x ∷ xs) k = (k.0, last xs k.1)

    by : (b : Bool) → AreParts d whole (if b then es else es ++ (depth, node) ∷ [])
    by true = h
    by false = last es h

pub census-none : IsCensus [] []
unfolding IsDistinct
census-none = record { distinct = λ k. tt; counts = λ k. refl }

-- one more count of 0 changes none
pub zero-last : (counts more : List ℕ) (k : ℕ) → more ≡ counts ++ 0 ∷ [] → slice_index more k ≡ slice_index counts k
zero-last counts more k e = ap (λ cs. slice_index cs k) e ∙ at counts k
  where
    at : (cs : List ℕ) (k : ℕ) → slice_index (cs ++ 0 ∷ []) k ≡ slice_index cs k
    at [] zero = refl
    at [] (suc k) = refl
    at (c ∷ cs) zero = refl
    at (c ∷ cs) (suc k) = at cs k

-- a node joins that was not there, and one that was there changes nothing
pub census-joined : (es after : List (ℕ × ℕ)) (counts room : List ℕ) (depth node now : ℕ) (was : Bool) → IsCensus es counts → ((k : ℕ) → slice_index room k ≡ slice_index counts k)
    → depth < length room → after ≡ insert_key same_pair es (depth, node) → was ≡ not (list_any (same_pair (depth, node)) es) → was ≡ true → now ≡ slice_index room depth
    → IsCensus after (slice_set room depth (now + 1))
census-joined es after counts room depth node now was c same within e is t at =
    let fresh = not-true (list_any (same_pair (depth, node)) es) (sym is ∙ t) in
    let all : after ≡ es ++ (depth, node) ∷ [] = e ∙ cond-false (list_any (same_pair (depth, node)) es) es (es ++ (depth, node) ∷ []) fresh in
    subst (λ xs. IsCensus xs (slice_set room depth (now + 1))) (sym all)
    (subst (λ n. IsCensus (es ++ (depth, node) ∷ []) (slice_set room depth (n + 1))) (sym at)
    (census-more es room depth node within (census-same es counts room same c) fresh))

pub census-stayed : (es after : List (ℕ × ℕ)) (counts room : List ℕ) (depth node : ℕ) (was : Bool) → IsCensus es counts → ((k : ℕ) → slice_index room k ≡ slice_index counts k)
    → after ≡ insert_key same_pair es (depth, node) → was ≡ not (list_any (same_pair (depth, node)) es) → was ≡ false → IsCensus after room
census-stayed es after counts room depth node was c same e is t =
    let there = not-false (list_any (same_pair (depth, node)) es) (sym is ∙ t) in
    let all : after ≡ es = e ∙ cond-true (list_any (same_pair (depth, node)) es) es (es ++ (depth, node) ∷ []) there in
    subst (λ xs. IsCensus xs room) (sym all) (census-same es counts room same c)
