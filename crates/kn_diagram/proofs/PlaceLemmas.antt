-- The rows as the keys of a table, the oldest first.
use Rattle.std.proofs.Common.{ℕ, ◌≡◌, ◌+◌, ◌<◌, ◌==◌, ◌⊎◌, inl, inr, Bool, true, false, ◌&&◌, ◌||◌, not, cond, zero, suc, List, [], ◌∷◌, ◌++◌, length, map, reverse, slice_get, Some, refl, sym, ap, ◌∙◌, arith}
use mathlib.Core.List.{reverse_aux}
use Rattle.std.specs.List.{list_any, position_or_len}
use Rattle.std.specs.Map.{keys_of}
use Rattle.std.proofs.lemmas.Bool.{cond-true, cond-false, and_parts, eqb-true, or_left, or_right}
use Rattle.std.proofs.lemmas.Option.{slice_get-map}
use Rattle.std.specs.Option.{option_map}
use Rattle.std.proofs.lemmas.List.{map-append, reverse-append, length-reverse, length-map}
use Rattle.indexmap.specs.IndexMap.{insert_entry}
use Rattle.kn_diagram.specs.Diagrams.{Row, row_in, row_of_key, is_same, has_row, HasPlace}
use Rattle.kn_diagram.proofs.RowLemmas.{row_in-older, row_in-newest}

abbrev pub Key : Type 0
Key = ℕ × ℕ × ℕ

abbrev pub same_key : Key → Key → Bool
same_key k x = (k.0 == x.0) && (k.1 == x.1) && (k.2 == x.2)

-- where a key comes among the entries
pub record Fresh (es : List (Key × Unit {0})) (k : Key) : Type 0 where
  pub once : list_any (same_key k) (keys_of es) ≡ false
  pub more : insert_entry same_key es k tt ≡ es ++ (k, tt) ∷ []
  pub last : position_or_len (same_key k) (keys_of es) ≡ length es

pub record Known (es : List (Key × Unit {0})) (k : Key) : Type 0 where
  pub had : list_any (same_key k) (keys_of es) ≡ true
  pub same : insert_entry same_key es k tt ≡ es
  pub within : position_or_len (same_key k) (keys_of es) < length es
  pub there : slice_get (keys_of es) (position_or_len (same_key k) (keys_of es)) ≡ Some k

same_key-true : (k x : Key) → same_key k x ≡ true → x ≡ k
same_key-true k x e =
    let p = and_parts ((k.0 == x.0) && (k.1 == x.1)) (k.2 == x.2) e in
    let q = and_parts (k.0 == x.0) (k.1 == x.1) p.0 in
    λ i. (sym (eqb-true k.0 x.0 q.0) i, sym (eqb-true k.1 x.1 q.1) i, sym (eqb-true k.2 x.2 p.1) i)

one_more : (n : ℕ) → 1 + n ≡ suc n
one_more n = omega arith

pub placed : (es : List (Key × Unit {0})) (k : Key) → Fresh es k ⊎ Known es k
placed [] k = inl (record { once = refl; more = refl; last = refl })
placed (e ∷ es) k = by (same_key k e.0) refl (placed es k)
  where
    Cases : Type 0
    Cases = Fresh (e ∷ es) k ⊎ Known (e ∷ es) k

    by : (b : Bool) → same_key k e.0 ≡ b → Fresh es k ⊎ Known es k → Cases
    by true h rest = inr (record {
      had = or_left (same_key k e.0) (list_any (same_key k) (keys_of es)) h;
      same = cond-true (same_key k e.0) ((e.0, tt) ∷ es) (e ∷ insert_entry same_key es k tt) h;
      within = let z : position_or_len (same_key k) (keys_of (e ∷ es)) ≡ 0 = ap (λ b. cond (not b) (1 + position_or_len (same_key k) (keys_of es)) 0) h in omega arith;
      there = ap (λ b. slice_get (keys_of (e ∷ es)) (cond (not b) (1 + position_or_len (same_key k) (keys_of es)) 0)) h ∙ ap Some (same_key-true k e.0 h);
    })
    by false h (inl f) = inl (record {
      once = ap (λ b. b || list_any (same_key k) (keys_of es)) h ∙ f.once;
      more = cond-false (same_key k e.0) ((e.0, tt) ∷ es) (e ∷ insert_entry same_key es k tt) h ∙ ap (λ x. e ∷ x) f.more;
      last = ap (λ b. cond (not b) (1 + position_or_len (same_key k) (keys_of es)) 0) h ∙ ap (λ n. 1 + n) f.last ∙ one_more (length es);
    })
    by false h (inr f) =
        let z : position_or_len (same_key k) (keys_of (e ∷ es)) ≡ 1 + position_or_len (same_key k) (keys_of es) = ap (λ b. cond (not b) (1 + position_or_len (same_key k) (keys_of es)) 0) h in
        inr (record {
          had = or_right (same_key k e.0) (list_any (same_key k) (keys_of es)) f.had;
          same = cond-false (same_key k e.0) ((e.0, tt) ∷ es) (e ∷ insert_entry same_key es k tt) h ∙ ap (λ x. e ∷ x) f.same;
          within = omega (arith, f.within);
          there = ap (slice_get (keys_of (e ∷ es))) (z ∙ one_more (position_or_len (same_key k) (keys_of es))) ∙ f.there;
        })

-- the rows of the entries, the newest first
abbrev pub rows_of : List (Key × Unit {0}) → List Row
rows_of es = reverse (map (λ e. row_of_key e.0) es)

any-reverse_aux : (row : Row) (xs ys : List Row) → list_any (is_same row) (reverse_aux xs ys) ≡ (list_any (is_same row) xs || list_any (is_same row) ys)
any-reverse_aux row [] ys = refl
any-reverse_aux row (x ∷ xs) ys = any-reverse_aux row xs (x ∷ ys) ∙ turned (is_same row x) (list_any (is_same row) xs) (list_any (is_same row) ys)
  where
    turned : (a b c : Bool) → (b || (a || c)) ≡ ((a || b) || c)
    turned true true c = refl
    turned true false c = refl
    turned false b c = refl

keys-rows : (k : Key) (es : List (Key × Unit {0})) → list_any (is_same (row_of_key k)) (map (λ e. row_of_key e.0) es) ≡ list_any (same_key k) (keys_of es)
keys-rows k [] = refl
keys-rows k (e ∷ es) = ap (λ x. same_key k e.0 || x) (keys-rows k es)

or_false : (b : Bool) → (b || false) ≡ b
or_false true = refl
or_false false = refl

pub has_row-rows_of : (k : Key) (es : List (Key × Unit {0})) → has_row (rows_of es) (row_of_key k) ≡ list_any (same_key k) (keys_of es)
has_row-rows_of k es =
    any-reverse_aux (row_of_key k) (map (λ e. row_of_key e.0) es) [] ∙ or_false (list_any (is_same (row_of_key k)) (map (λ e. row_of_key e.0) es)) ∙ keys-rows k es

-- newer rows leave the row of a node as it is
row_in-under : (bottom : ℕ) (xs ys : List Row) (node : ℕ) → node < length ys + 2 → row_in bottom (reverse_aux xs ys) node ≡ row_in bottom ys node
row_in-under bottom [] ys node h = refl
row_in-under bottom (x ∷ xs) ys node h = row_in-under bottom xs (x ∷ ys) node (omega arith) ∙ row_in-older bottom x ys node h

row_in-at : (bottom : ℕ) (xs ys : List Row) (i node : ℕ) (row : Row) → slice_get xs i ≡ Some row → node ≡ i + length ys + 2 → row_in bottom (reverse_aux xs ys) node ≡ row
row_in-at bottom [] ys i node row e at = absurd (cc)
row_in-at bottom (x ∷ xs) ys zero node row e at =
    row_in-under bottom xs (x ∷ ys) node (omega arith) ∙ row_in-newest bottom x ys node (omega arith) ∙ (let h : Some x ≡ Some row = e in cc)
row_in-at bottom (x ∷ xs) ys (suc i) node row e at = row_in-at bottom xs (x ∷ ys) i node row e (omega arith)

pub row_in-rows_of : (bottom : ℕ) (es : List (Key × Unit {0})) (i : ℕ) (k : Key) → slice_get (keys_of es) i ≡ Some k → row_in bottom (rows_of es) (i + 2) ≡ row_of_key k
row_in-rows_of bottom es i k e = row_in-at bottom (map (λ e. row_of_key e.0) es) [] i (i + 2) (row_of_key k) (mapped es i e) (omega arith)
  where
    mapped : (xs : List (Key × Unit {0})) (j : ℕ) → slice_get (keys_of xs) j ≡ Some k → slice_get (map (λ e. row_of_key e.0) xs) j ≡ Some (row_of_key k)
    mapped [] j h = absurd (cc)
    mapped (x ∷ xs) zero h = let f : Some x.0 ≡ Some k = h in ap (λ y. Some (row_of_key y)) (cc)
    mapped (x ∷ xs) (suc j) h = mapped xs j h

pub row_in-entry : (bottom : ℕ) (es : List (Key × Unit {0})) (i : ℕ) (k : Key) (u : Unit {0}) → Some (k, u) ≡ slice_get es i → row_in bottom (rows_of es) (i + 2) ≡ row_of_key k
row_in-entry bottom es i k u e = row_in-rows_of bottom es i k (slice_get-map (λ e. e.0) es i ∙ ap (option_map (λ e. e.0)) (sym e))

-- what an insertion makes of the rows
pub has_place : (old new : List (Key × Unit {0})) (k : Key) (place : ℕ) → new ≡ insert_entry same_key old k tt → place ≡ position_or_len (same_key k) (keys_of old)
    → HasPlace (row_of_key k) (rows_of old) (rows_of new) place
has_place old new k place e p = by (placed old k)
  where
    len : length (rows_of old) ≡ length old
    len = length-reverse (map (λ e. row_of_key e.0) old) ∙ length-map old (λ e. row_of_key e.0)

    by : Fresh old k ⊎ Known old k → HasPlace (row_of_key k) (rows_of old) (rows_of new) place
    by (inl f) = inr (record {
      once = has_row-rows_of k old ∙ f.once;
      more = ap rows_of (e ∙ f.more) ∙ ap reverse (map-append (λ e. row_of_key e.0) old ((k, tt) ∷ [])) ∙ reverse-append (map (λ e. row_of_key e.0) old) (row_of_key k ∷ []);
      last = p ∙ f.last ∙ sym len;
    })
    by (inr f) = inl (record {
      had = has_row-rows_of k old ∙ f.had;
      same = ap rows_of (e ∙ f.same);
      within = omega (arith, f.within, len);
      there = λ bottom. ap (λ n. row_in bottom (rows_of old) (n + 2)) p ∙ row_in-rows_of bottom old (position_or_len (same_key k) (keys_of old)) k f.there;
    })
