-- Pieces that are marked by their lowest variable: which of them depend on the variable whose turn it is.
use Rattle.std.proofs.Common.{ℕ, ◌≡◌, ◌+◌, ◌<◌, ◌≤◌, ◌⊎◌, inl, inr, Bool, true, false, Option, Some, None, IfSome, IfNone, if◌then◌else◌, List, [], ◌∷◌, ◌++◌, length, map, reverse, slice_index, nat_eq, refl, sym, ap, subst, ◌∙◌, arith, length-append, append_assoc, true≢false}
use Rattle.std.specs.List.{AllByRecursion, IsDistinct}
use Rattle.std.proofs.lemmas.Bool.{eqb-true, eq-eqb, cases_eq}
use Rattle.std.proofs.lemmas.List.{append-nil, length-reverse, reverse-append}
use Rattle.kn_logic.specs.Groups.{Gathered, IsGroup}
use Rattle.kn_diagram.specs.Diagrams.{Table, IsNode, Keeps, function_of, depth_in}
use Rattle.kn_diagram.specs.Wide.{DependsOn, Ignores}
use Rattle.kn_diagram.proofs.Public.{depth_in-slice_index, slice_index-depth_in}
use Rattle.kn_quant.specs.declared.piece.Piece.{Piece}
use Rattle.kn_quant.specs.Runs.{Function, Splits, order_of}
use Rattle.kn_quant.specs.Eliminations.{Progress, ArePieces, functions_of}
use Rattle.kn_quant.specs.Pieces.{nodes_of, is_number, is_marked, marked_nodes, unmarked, IsLowest, AreMarked, AreOnTop}
use Rattle.kn_quant.proofs.OrderLemmas.{order-distinct}
use Rattle.kn_quant.proofs.ProgressLemmas.{function-kept}
use Rattle.kn_quant.proofs.JoinedLemmas.{IsSplit, rest_of, first-of}

number-is : (y : ℕ) (l : Option ℕ) → is_number y l ≡ true → l ≡ Some y
number-is y None e = absurd (true≢false (sym e))
number-is y (Some x) e = ap Some (eqb-true x y e)

number-isn't : (y : ℕ) (l : Option ℕ) → is_number y l ≡ false → l ≡ Some y → ⊥
number-isn't y l e is = true≢false (sym (eq-eqb y y refl) ∙ ap (is_number y) (sym is) ∙ e)

lowest-depends : (ys : List ℕ) (f : Function) (z : ℕ) (l : Option ℕ) → l ≡ Some z → IsLowest ys f l → DependsOn f z
lowest-depends [] f z l is e = let some : Some z ≡ None = sym is ∙ e in absurd (cc)
lowest-depends (y ∷ ys) f z l is (inl (d, e)) = let some : Some y ≡ Some z = sym e ∙ is in let same : y ≡ z = cc in subst (DependsOn f) same d
lowest-depends (y ∷ ys) f z l is (inr (i, e)) = lowest-depends ys f z l is e

lowest-later : (y : ℕ) (ys : List ℕ) (f : Function) (l : Option ℕ) → (l ≡ Some y → ⊥) → IsLowest (y ∷ ys) f l → Ignores f y × IsLowest ys f l
lowest-later y ys f l n (inl (d, e)) = absurd (n e)
lowest-later y ys f l n (inr r) = r

-- the bucket is the pieces that are marked by the variable
marked-splits : (d : Table) (y : ℕ) (ys : List ℕ) (ps : List Piece) → AreMarked d (y ∷ ys) ps
    → Splits y (functions_of d (nodes_of ps)) (functions_of d (marked_nodes y ps)) (functions_of d (nodes_of (unmarked y ps)))
marked-splits d y ys [] h = (refl, refl)
marked-splits d y ys (p ∷ ps) h = by (is_marked y p) refl (marked-splits d y ys ps h.1)
  where
    f : Function
    f = function_of d p.node

    by : (b : Bool) → is_marked y p ≡ b → Splits y (functions_of d (nodes_of ps)) (functions_of d (marked_nodes y ps)) (functions_of d (nodes_of (unmarked y ps)))
        → Splits y (f ∷ functions_of d (nodes_of ps)) (functions_of d (if b then p.node ∷ marked_nodes y ps else marked_nodes y ps))
        (functions_of d (nodes_of (if b then unmarked y ps else p ∷ unmarked y ps)))
    by true t rest = inl (functions_of d (marked_nodes y ps), refl, lowest-depends (y ∷ ys) f y p.lowest (number-is y p.lowest t) h.0, rest)
    by false t rest = inr (functions_of d (nodes_of (unmarked y ps)), refl, (lowest-later y ys f p.lowest (number-isn't y p.lowest t) h.0).0, rest)

pub unmarked-marked : (d : Table) (y : ℕ) (ys : List ℕ) (ps : List Piece) → AreMarked d (y ∷ ys) ps → AreMarked d ys (unmarked y ps)
unmarked-marked d y ys [] h = tt
unmarked-marked d y ys (p ∷ ps) h = by (is_marked y p) refl (unmarked-marked d y ys ps h.1)
  where
    by : (b : Bool) → is_marked y p ≡ b → AreMarked d ys (unmarked y ps) → AreMarked d ys (if b then unmarked y ps else p ∷ unmarked y ps)
    by true t rest = rest
    by false t rest = ((lowest-later y ys (function_of d p.node) p.lowest (number-isn't y p.lowest t) h.0).1, rest)

-- where no piece is marked by it, all are by later ones
pub none-marked : (d : Table) (y : ℕ) (ys : List ℕ) (ps : List Piece) → marked_nodes y ps ≡ [] → AreMarked d (y ∷ ys) ps → AreMarked d ys ps
none-marked d y ys [] e h = tt
none-marked d y ys (p ∷ ps) e h = by (is_marked y p) refl e (none-marked d y ys ps)
  where
    by : (b : Bool) → is_marked y p ≡ b → (if b then p.node ∷ marked_nodes y ps else marked_nodes y ps) ≡ [] → (marked_nodes y ps ≡ [] → AreMarked d (y ∷ ys) ps → AreMarked d ys ps)
        → AreMarked d ys (p ∷ ps)
    by true t n rest = absurd (cc)
    by false t n rest = ((lowest-later y ys (function_of d p.node) p.lowest (number-isn't y p.lowest t) h.0).1, rest n h.1)

marked-pieces : (q : Progress) (y : ℕ) (ps : List Piece) → ArePieces q (nodes_of ps) → ArePieces q (marked_nodes y ps) × ArePieces q (nodes_of (unmarked y ps))
marked-pieces q y [] h = (tt, tt)
marked-pieces q y (p ∷ ps) h = by (is_marked y p) (marked-pieces q y ps h.1)
  where
    by : (b : Bool) → ArePieces q (marked_nodes y ps) × ArePieces q (nodes_of (unmarked y ps))
        → ArePieces q (if b then p.node ∷ marked_nodes y ps else marked_nodes y ps) × ArePieces q (nodes_of (if b then unmarked y ps else p ∷ unmarked y ps))
    by true rest = ((h.0, rest.0), rest.1)
    by false rest = (rest.0, (h.0, rest.1))

-- the split of marked pieces
pub split-marked : (q : Progress) (y : ℕ) (ys : List ℕ) (ps rest : List Piece) (bucket : List ℕ) → ArePieces q (nodes_of ps) → AreMarked q.table (y ∷ ys) ps
    → bucket ≡ marked_nodes y ps → rest ≡ unmarked y ps → IsSplit q y (nodes_of ps) bucket (nodes_of rest)
split-marked q y ys ps rest bucket h m b r =
    let p = marked-pieces q y ps h in
    subst (λ z. IsSplit q y (nodes_of ps) z (nodes_of rest)) (sym b)
    (subst (λ z. IsSplit q y (nodes_of ps) (marked_nodes y ps) (nodes_of z)) (sym r)
    (record { splits = marked-splits q.table y ys ps m; in_bucket = p.0; in_rest = p.1 }))

-- What is read of a walk along the pieces.
pub record AreHalves (y : ℕ) (ps : List Piece) (bucket : List ℕ) (rest : List Piece) : Type 0 where
  pub bucket_is : bucket ≡ marked_nodes y ps
  pub rest_is : rest ≡ unmarked y ps

marked-last : (y : ℕ) (p : Piece) (ps : List Piece) → marked_nodes y (ps ++ p ∷ []) ≡ marked_nodes y ps ++ (if is_marked y p then p.node ∷ [] else [])
marked-last y p [] = refl
marked-last y p (x ∷ ps) = by (is_marked y x) (marked-last y p ps)
  where
    by : (b : Bool) → marked_nodes y (ps ++ p ∷ []) ≡ marked_nodes y ps ++ (if is_marked y p then p.node ∷ [] else [])
        → (if b then x.node ∷ marked_nodes y (ps ++ p ∷ []) else marked_nodes y (ps ++ p ∷ [])) ≡ (if b then x.node ∷ marked_nodes y ps else marked_nodes y ps) ++ (if is_marked y p then p.node ∷ [] else [])
    by true rest = ap (λ z. x.node ∷ z) rest
    by false rest = rest

unmarked-last : (y : ℕ) (p : Piece) (ps : List Piece) → unmarked y (ps ++ p ∷ []) ≡ unmarked y ps ++ (if is_marked y p then [] else p ∷ [])
unmarked-last y p [] = refl
unmarked-last y p (x ∷ ps) = by (is_marked y x) (unmarked-last y p ps)
  where
    by : (b : Bool) → unmarked y (ps ++ p ∷ []) ≡ unmarked y ps ++ (if is_marked y p then [] else p ∷ [])
        → (if b then unmarked y (ps ++ p ∷ []) else x ∷ unmarked y (ps ++ p ∷ [])) ≡ (if b then unmarked y ps else x ∷ unmarked y ps) ++ (if is_marked y p then [] else p ∷ [])
    by true rest = rest
    by false rest = ap (λ z. x ∷ z) rest

pub halves-bucket : (y : ℕ) (p : Piece) (ps more : List Piece) (bucket more_bucket : List ℕ) (rest more_rest : List Piece) → more ≡ ps ++ p ∷ [] → AreHalves y ps bucket rest
    → is_marked y p ≡ true → more_bucket ≡ bucket ++ p.node ∷ [] → more_rest ≡ rest → AreHalves y more more_bucket more_rest
halves-bucket y p ps more bucket more_bucket rest more_rest e h t b r = record {
  bucket_is = b ∙ ap (λ z. z ++ p.node ∷ []) h.bucket_is ∙ sym (ap (marked_nodes y) e ∙ marked-last y p ps ∙ ap (λ c. marked_nodes y ps ++ (if c then p.node ∷ [] else [])) t);
  rest_is = r ∙ h.rest_is ∙ sym (ap (unmarked y) e ∙ unmarked-last y p ps ∙ ap (λ c. unmarked y ps ++ (if c then [] else p ∷ [])) t ∙ append-nil (unmarked y ps));
}

pub halves-rest : (y : ℕ) (p : Piece) (ps more : List Piece) (bucket more_bucket : List ℕ) (rest more_rest : List Piece) → more ≡ ps ++ p ∷ [] → AreHalves y ps bucket rest
    → is_marked y p ≡ false → more_bucket ≡ bucket → more_rest ≡ rest ++ p ∷ [] → AreHalves y more more_bucket more_rest
halves-rest y p ps more bucket more_bucket rest more_rest e h t b r = record {
  bucket_is = b ∙ h.bucket_is ∙ sym (ap (marked_nodes y) e ∙ marked-last y p ps ∙ ap (λ c. marked_nodes y ps ++ (if c then p.node ∷ [] else [])) t ∙ append-nil (marked_nodes y ps));
  rest_is = r ∙ ap (λ z. z ++ p ∷ []) h.rest_is ∙ sym (ap (unmarked y) e ∙ unmarked-last y p ps ∙ ap (λ c. unmarked y ps ++ (if c then [] else p ∷ [])) t);
}

-- marks stay while tables grow
pub marked-kept : (old new : Table) (ys : List ℕ) (ps : List Piece) → Keeps old new → AllByRecursion (λ p. IsNode old p.node) ps → AreMarked old ys ps → AreMarked new ys ps
marked-kept old new ys [] k h m = tt
marked-kept old new ys (p ∷ ps) k h m =
    (subst (λ f. IsLowest ys f p.lowest) (sym (function-kept old new p.node k h.0)) m.0, marked-kept old new ys ps k h.1 m.1)

pub pieces-there : (q : Progress) (ps : List Piece) → ArePieces q (nodes_of ps) → AllByRecursion (λ p. IsNode q.table p.node) ps
pieces-there q [] h = tt
pieces-there q (p ∷ ps) h = (h.0.1, pieces-there q ps h.1)

pub marked-more : (d : Table) (ys : List ℕ) (ps : List Piece) (p : Piece) → AreMarked d ys ps → IsLowest ys (function_of d p.node) p.lowest → AreMarked d ys (ps ++ p ∷ [])
marked-more d ys [] p h l = (l, tt)
marked-more d ys (x ∷ ps) p h l = (h.0, marked-more d ys ps p h.1 l)

pub nodes-append : (ps qs : List Piece) → nodes_of (ps ++ qs) ≡ nodes_of ps ++ nodes_of qs
nodes-append [] qs = refl
nodes-append (p ∷ ps) qs = ap (λ z. p.node ∷ z) (nodes-append ps qs)

-- What is known of the deepest variable above a depth on which a function depends.
pub record IsDeepest (order : List ℕ) (f : Function) (depth : ℕ) (l : Option ℕ) : Type 0 where
  pub above : IfSome l (λ x. depth_in order x < depth)
  pub depends : IfSome l (λ x. DependsOn f x)
  pub deepest : IfSome l (λ x. (k : ℕ) → depth_in order x < k → k < depth → Ignores f (slice_index order k))
  pub none : IfNone l ((k : ℕ) → k < depth → Ignores f (slice_index order k))

pub top-within : (order ys : List ℕ) → AreOnTop order ys → length ys ≤ length order
top-within order [] h = omega arith
top-within order (y ∷ ys) h = omega (arith, h.1)

-- the deepest one above the number of the variables at the top is the lowest of them
pub deepest-lowest : (order ys : List ℕ) (f : Function) (l : Option ℕ) → AreOnTop order ys → IsDeepest order f (length ys) l → IsLowest ys f l
deepest-lowest order ys f None top h = none ys top h.none
  where
    none : (zs : List ℕ) → AreOnTop order zs → ((k : ℕ) → k < length zs → Ignores f (slice_index order k)) → IsLowest zs f None
    none [] t i = refl
    none (z ∷ zs) t i =
        let at : slice_index order (length zs) ≡ z = ap (slice_index order) (sym t.0) ∙ slice_index-depth_in order z (omega (arith, t.0, t.1)) in
        inr (subst (Ignores f) at (i (length zs) (omega arith)), none zs t.2 (λ k less. i k (omega arith)))
deepest-lowest order ys f (Some x) top h = some ys top h.above h.deepest
  where
    some : (zs : List ℕ) → AreOnTop order zs → depth_in order x < length zs → ((k : ℕ) → depth_in order x < k → k < length zs → Ignores f (slice_index order k)) → IsLowest zs f (Some x)
    some [] t a i = absurd (omega arith)
    some (z ∷ zs) t a i = by (cases_eq (depth_in order x) (length zs)) (some zs t.2)
      where
        at : slice_index order (length zs) ≡ z
        at = ap (slice_index order) (sym t.0) ∙ slice_index-depth_in order z (omega (arith, t.0, t.1))

        by : ((depth_in order x ≡ length zs) ⊎ (depth_in order x ≡ length zs → ⊥))
            → (depth_in order x < length zs → ((k : ℕ) → depth_in order x < k → k < length zs → Ignores f (slice_index order k)) → IsLowest zs f (Some x)) → IsLowest (z ∷ zs) f (Some x)
        by (inl e) rest =
            let same : x ≡ z = sym (slice_index-depth_in order x (omega (arith, e, t.1))) ∙ ap (slice_index order) e ∙ at in
            inl (subst (DependsOn f) same h.depends, ap Some same)
        by (inr n) rest =
            inr (subst (Ignores f) at (i (length zs) (omega (arith, a, n)) (omega arith)), rest (omega (arith, a, n)) (λ k more less. i k more (omega arith)))

-- variables whose reverse begins an order stand at its top
pub on-top : (order ys tail : List ℕ) → IsDistinct nat_eq order → order ≡ reverse ys ++ tail → AreOnTop order ys
on-top order [] tail d e = tt
on-top order (y ∷ ys) tail d e =
    let next : order ≡ reverse ys ++ (y ∷ tail) = e ∙ ap (λ z. z ++ tail) (reverse-append (y ∷ []) ys) ∙ append_assoc (reverse ys) (y ∷ []) tail in
    let len : length order ≡ length ys + (1 + length tail) = omega (arith, ap length next, length-append (reverse ys) (y ∷ tail), length-reverse ys) in
    let at : slice_index order (length ys) ≡ y = (λ i. slice_index (next i) (sym (length-reverse ys) i)) ∙ middle (reverse ys) y tail in
    (ap (depth_in order) (sym at) ∙ depth_in-slice_index order (length ys) d (omega (arith, len)), omega (arith, len), on-top order ys (y ∷ tail) d next)
  where
    middle : (xs : List ℕ) (x : ℕ) (zs : List ℕ) → slice_index (xs ++ (x ∷ zs)) (length xs) ≡ x
    middle [] x zs = refl
    middle (w ∷ xs) x zs = middle xs x zs

pub aux-on-top : (g : Gathered) → IsGroup g → AreOnTop (order_of g) g.aux
aux-on-top g ok = on-top (order_of g) g.aux (reverse (map (λ l. l.variable) g.border)) (order-distinct g ok) (reverse-append (map (λ l. l.variable) g.border) g.aux)

pub nodes-none : (ps : List Piece) → nodes_of ps ≡ [] → ps ≡ []
nodes-none [] e = refl
nodes-none (p ∷ ps) e = absurd (cc)

-- the first of some variables
pub first-slot : (xs : List ℕ) → 1 ≤ length xs → xs ≡ slice_index xs 0 ∷ rest_of xs
first-slot [] h = absurd (omega arith)
first-slot (y ∷ ys) h = first-of (y ∷ ys) y h refl
