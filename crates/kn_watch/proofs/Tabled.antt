-- What the tables of a trail tell, and how they follow it.
use Rattle.std.proofs.Common.{◌≡◌, ◌≢◌, ℕ, zero, suc, ◌+◌, ◌-◌, ◌≤◌, ◌<◌, ◌++◌, Bool, true, false, not, ◌||◌, ◌&&◌, cond, eqb, List, [], ◌∷◌, Option, None, Some, length, take, drop, refl, sym, ap, ◌∙◌, subst, inl, inr, arith}
use Rattle.std.specs.Prelude.{slice_index_or, slice_set, slice_get, option_map, IfSome}
use Rattle.std.specs.List.{AllByRecursion}
use Rattle.std.proofs.Math.Bool.{beq}
use Rattle.std.proofs.lemmas.Bool.{or_parts, or_from, cases_Bool, cases_eq, cases_lt, cond-true, cond-false, eq-eqb, ne_eqb, eqb-false}
use Rattle.std.proofs.lemmas.List.{get_or-set_same, get_or-set_other, get_or_read, take_more, take-append-le}
use Rattle.std.proofs.lemmas.List.Folds.{list_any-append}
use Rattle.std.proofs.lemmas.Option.{slice_get-get_or}
use Rattle.std.proofs.Math.ListN.{length-set}
use Rattle.kn_logic.specs.Literals.{Literal, negated, has, names, IsKnown, AreKnown, AreDifferent}
use Rattle.kn_logic.proofs.Public.{unnamed}
use Rattle.kn_watch.specs.declared.trail.Made.{Made}
use Rattle.kn_watch.specs.Trails.{literals, lit_of, made_of, value_in, below, IsRising}
use Rattle.kn_watch.specs.Tables.{IsKeptOf, AreTables}
use Rattle.kn_logic.specs.Propagation.{is_open, IsConsistent}
use Rattle.kn_watch.proofs.Within.{consistent_at}
use Rattle.kn_watch.proofs.Growing.{IsTop}
use Rattle.kn_watch.proofs.Cutting.{cut_at, cut_none, front_different}
use Rattle.kn_watch.proofs.TrailKeeps.{literals-push}

-- places of a longer trail
lit_front : (made more : List Made) (place : ℕ) → place < length made → lit_of (made ++ more) place ≡ lit_of made place
lit_front [] more place lt = absurd (omega (arith, lt))
lit_front (m ∷ made) more zero lt = refl
lit_front (m ∷ made) more (suc place) lt = lit_front made more place (omega (arith, lt))

lit_end : (made : List Made) (m : Made) (place : ℕ) → place ≡ length made → lit_of (made ++ m ∷ []) place ≡ m.lit
lit_end [] m zero e = refl
lit_end [] m (suc place) e = absurd (omega (arith, e))
lit_end (x ∷ made) m zero e = absurd (omega (arith, e))
lit_end (x ∷ made) m (suc place) e = lit_end made m place (omega (arith, e))

length_push : (made : List Made) (m : Made) → length (made ++ m ∷ []) ≡ length made + 1
length_push [] m = refl
length_push (x ∷ made) m = omega (arith, length_push made m)

names_push : (made : List Made) (m : Made) (v : ℕ) → names (literals (made ++ m ∷ [])) v ≡ (names (literals made) v || (eqb m.lit.variable v || false))
names_push made m v = ap (λ (x : List Literal). names x v) (literals-push made m) ∙ list_any-append (λ x. eqb x.variable v) (literals made) (m.lit ∷ [])

kept_as : (made : List Made) (v p q : ℕ) (a b : Option Bool) → a ≡ b → p ≡ q → IsKeptOf made v a p → IsKeptOf made v b q
kept_as made v p q a b e f k = subst (λ (x : Option Bool). IsKeptOf made v x q) e (subst (λ (n : ℕ). IsKeptOf made v a n) f k)

-- a variable that the new literal is not of
kept_push : (made : List Made) (m : Made) (v place : ℕ) (value : Option Bool) → m.lit.variable ≢ v → IsKeptOf made v value place → IsKeptOf (made ++ m ∷ []) v value place
kept_push made m v place None d k = names_push made m v ∙ or_from _ _ k (or_from _ _ (ne_eqb _ _ d) refl)
kept_push made m v place (Some sign) d k = (omega (arith, k.0, length_push made m), lit_front made (m ∷ []) place k.0 ∙ k.1)

kept_drop : (made : List Made) (m : Made) (v place : ℕ) (value : Option Bool) → m.lit.variable ≢ v → IsKeptOf (made ++ m ∷ []) v value place → IsKeptOf made v value place
kept_drop made m v place None d k = (or_parts (names (literals made) v) _ (sym (names_push made m v) ∙ k)).0
kept_drop made m v place (Some sign) d k = elim (cases_eq place (length made)) [
  | inl e ↦ absurd (d (ap (λ (x : Literal). x.variable) (sym (lit_end made m place e) ∙ k.1)))
  | inr n ↦ (let lt : place < length made = omega (arith, k.0, length_push made m, n) in (lt, sym (lit_front made (m ∷ []) place lt) ∙ k.1))
]

-- the tables after one literal more
pub tables_push : (vars : ℕ) (made : List Made) (m : Made) (values : List (Option Bool)) (places : List ℕ) → IsKnown vars m.lit → AreTables vars made values places → AreTables vars (made ++ m ∷ []) (slice_set values m.lit.variable (Some m.lit.positive)) (slice_set places m.lit.variable (length made))
tables_push vars made m values places known t =
    let v = m.lit.variable in
    record {
      valued = length-set values v (Some m.lit.positive) ∙ t.valued;
      placed = length-set places v (length made) ∙ t.placed;
      kept = λ x le. elim (cases_eq v x) [
        | inl e ↦ subst (λ (z : ℕ). IsKeptOf (made ++ m ∷ []) z (slice_index_or (slice_set values v (Some m.lit.positive)) z None) (slice_index_or (slice_set places v (length made)) z 0)) e
            (kept_as (made ++ m ∷ []) v (length made) (slice_index_or (slice_set places v (length made)) v 0) (Some m.lit.positive) (slice_index_or (slice_set values v (Some m.lit.positive)) v None)
            (sym (get_or-set_same values v (Some m.lit.positive) None (omega (arith, known.1, t.valued))))
            (sym (get_or-set_same places v (length made) 0 (omega (arith, known.1, t.placed))))
            (omega (arith, length_push made m), lit_end made m (length made) refl))
        | inr d ↦ kept_as (made ++ m ∷ []) x (slice_index_or places x 0) (slice_index_or (slice_set places v (length made)) x 0) (slice_index_or values x None) (slice_index_or (slice_set values v (Some m.lit.positive)) x None)
            (sym (get_or-set_other values v x (Some m.lit.positive) None (λ q. d (sym q))))
            (sym (get_or-set_other places v x (length made) 0 (λ q. d (sym q))))
            (kept_push made m x (slice_index_or places x 0) (slice_index_or values x None) d (t.kept x le))
      ];
    }

-- the same, by equal parts
pub tables_as : (vars : ℕ) (new made : List Made) (values : List (Option Bool)) (places : List ℕ) (v w : ℕ) (p q : Bool) (k n : ℕ) → new ≡ made → v ≡ w → p ≡ q → k ≡ n → AreTables vars made (slice_set values w (Some q)) (slice_set places w n) → AreTables vars new (slice_set values v (Some p)) (slice_set places v k)
tables_as vars new made values places v w p q k n a b c d t =
    subst (λ (x : List Made). AreTables vars x (slice_set values v (Some p)) (slice_set places v k)) (sym a)
    (subst (λ (x : ℕ). AreTables vars made (slice_set values x (Some p)) (slice_set places x k)) (sym b)
    (subst (λ (x : Bool). AreTables vars made (slice_set values w (Some x)) (slice_set places w k)) (sym c)
    (subst (λ (x : ℕ). AreTables vars made (slice_set values w (Some q)) (slice_set places w x)) (sym d) t)))

-- the tables after the last literal was taken back
pub tables_drop : (vars : ℕ) (made : List Made) (m : Made) (values : List (Option Bool)) (places : List ℕ) → IsKnown vars m.lit → names (literals made) m.lit.variable ≡ false → AreTables vars (made ++ m ∷ []) values places → AreTables vars made (slice_set values m.lit.variable None) places
tables_drop vars made m values places known gone t =
    let v = m.lit.variable in
    record {
      valued = length-set values v None ∙ t.valued;
      placed = t.placed;
      kept = λ x le. elim (cases_eq v x) [
        | inl e ↦ subst (λ (z : ℕ). IsKeptOf made z (slice_index_or (slice_set values v None) z None) (slice_index_or places z 0)) e
            (kept_as made v (slice_index_or places v 0) (slice_index_or places v 0) None (slice_index_or (slice_set values v None) v None)
            (sym (get_or-set_same values v None None (omega (arith, known.1, t.valued)))) refl gone)
        | inr d ↦ kept_as made x (slice_index_or places x 0) (slice_index_or places x 0) (slice_index_or values x None) (slice_index_or (slice_set values v None) x None)
            (sym (get_or-set_other values v x None None (λ q. d (sym q)))) refl
            (kept_drop made m x (slice_index_or places x 0) (slice_index_or values x None) d (t.kept x le))
      ];
    }

-- tables that were lent as a slice
take_all : (xs : List (Option Bool)) → take (length xs) xs ≡ xs
take_all [] = refl
take_all (x ∷ xs) = ap (λ (z : List (Option Bool)). x ∷ z) (take_all xs)

pub written_back : (n : ℕ) (new old : List (Option Bool)) → n ≡ length new → take n (new ++ drop (length new) old) ≡ new
written_back n new old e = take-append-le n new (drop (length new) old) (omega (arith, e)) ∙ ap (λ (k : ℕ). take k new) e ∙ take_all new

pub tables_back : (vars : ℕ) (made less : List Made) (values written : List (Option Bool)) (places known : List ℕ) → less ≡ made → written ≡ values → places ≡ known → AreTables vars made values places → AreTables vars less written known
tables_back vars made less values written places known a b c t =
    subst (λ (x : List Made). AreTables vars x written known) (sym a)
    (subst (λ (x : List (Option Bool)). AreTables vars made x known) (sym b)
    (subst (λ (x : List ℕ). AreTables vars made values x) c t))

-- reading
pub none_of : (made : List Made) (v : ℕ) → names (literals made) v ≡ false → made_of made v ≡ None
none_of [] v h = refl
none_of (m ∷ made) v h = let p = or_parts (eqb m.lit.variable v) (names (literals made) v) h in cond-false (eqb m.lit.variable v) (Some m) (made_of made v) p.0 ∙ none_of made v p.1

not_here : (made : List Made) (place v : ℕ) (m : Made) → slice_get made place ≡ Some m → names (literals made) v ≡ false → v ≢ m.lit.variable
not_here [] place v m e h = absurd cc
not_here (x ∷ made) zero v m e h =
    let p = or_parts (eqb x.lit.variable v) (names (literals made) v) h in
    let same : x ≡ m = cc in
    λ q. eqb-false x.lit.variable v p.0 (ap (λ (z : Made). z.lit.variable) same ∙ sym q)
not_here (x ∷ made) (suc place) v m e h = not_here made place v m e (or_parts (eqb x.lit.variable v) (names (literals made) v) h).1

-- the entry at a place is that of its variable
pub made_of-at : (made : List Made) (place : ℕ) (m : Made) → AreDifferent (literals made) → slice_get made place ≡ Some m → made_of made m.lit.variable ≡ Some m
made_of-at [] place m d e = absurd cc
made_of-at (x ∷ made) zero m d e =
    let same : x ≡ m = cc in
    cond-true (eqb x.lit.variable m.lit.variable) (Some x) (made_of made m.lit.variable) (eq-eqb _ _ (ap (λ (z : Made). z.lit.variable) same)) ∙ e
made_of-at (x ∷ made) (suc place) m d e =
    cond-false (eqb x.lit.variable m.lit.variable) (Some x) (made_of made m.lit.variable) (ne_eqb _ _ (not_here made place x.lit.variable m e d.0)) ∙ made_of-at made place m d.1 e

-- the entry at a place, by its literal
pub entry_at : (made : List Made) (place : ℕ) (l : Literal) → place < length made → lit_of made place ≡ l → (m : Made) × (slice_get made place ≡ Some m) × (m.lit ≡ l)
entry_at [] place l lt e = absurd (omega (arith, lt))
entry_at (m ∷ made) zero l lt e = (m, refl, e)
entry_at (m ∷ made) (suc place) l lt e = entry_at made place l (omega (arith, lt)) e

abbrev the_literal : ℕ → Bool → Literal
the_literal v p = record { variable = v; positive = p }

pub sign_kept : (made : List Made) (v place : ℕ) (value : Option Bool) → AreDifferent (literals made) → IsKeptOf made v value place → value ≡ option_map (λ m. m.lit.positive) (made_of made v)
sign_kept made v place None d k = sym (ap (option_map (λ m. m.lit.positive)) (none_of made v k))
sign_kept made v place (Some sign) d k =
    let m = entry_at made place (the_literal v sign) k.0 k.1 in
    let var = ap (λ (l : Literal). l.variable) m.2 in
    let here = subst (λ (n : ℕ). made_of made n ≡ Some m.0) var (made_of-at made place m.0 d m.1) in
    sym (ap (option_map (λ x. x.lit.positive)) here ∙ ap (λ (l : Literal). Some l.positive) m.2)

-- a variable out of range has no literal
pub unnamed_above : (vars v : ℕ) (lits : List Literal) → AreKnown vars lits → vars < v → names lits v ≡ false
unnamed_above vars v [] k lt = refl
unnamed_above vars v (l ∷ lits) k lt = or_from _ _ (ne_eqb l.variable v (λ e. omega (arith, e, lt, k.0.1))) (unnamed_above vars v lits k.1 lt)

-- what is read of a variable in range
pub sign_read : (vars v : ℕ) (made : List Made) (values : List (Option Bool)) (places : List ℕ) (value : Option Bool) → AreDifferent (literals made) → AreTables vars made values places → v < length values → value ≡ slice_index_or values v value → value ≡ option_map (λ m. m.lit.positive) (made_of made v)
sign_read vars v made values places value d t lt r =
    let same = get_or_read values v value lt r None in
    same ∙ sign_kept made v (slice_index_or places v 0) (slice_index_or values v None) d (t.kept v (omega (arith, lt, t.valued)))

pub sign_none : (vars v : ℕ) (made : List Made) (values : List (Option Bool)) (places : List ℕ) → AreKnown vars (literals made) → AreTables vars made values places → length values ≤ v → None ≡ option_map (λ m. m.lit.positive) (made_of made v)
sign_none vars v made values places k t le = sym (ap (option_map (λ m. m.lit.positive)) (none_of made v (unnamed_above vars v (literals made) k (omega (arith, le, t.valued)))))

-- a variable with an entry is in range, and its place is that of its entry
named_of : (made : List Made) (v : ℕ) (sign : Bool) → option_map (λ m. m.lit.positive) (made_of made v) ≡ Some sign → names (literals made) v ≡ true
named_of made v sign e = elim (cases_Bool (names (literals made) v)) [
  | inl n ↦ n
  | inr n ↦ (let z = ap (option_map (λ m. m.lit.positive)) (none_of made v n) in absurd cc)
]

unnamed_of : (made : List Made) (v : ℕ) → made_of made v ≡ None → names (literals made) v ≡ false
unnamed_of [] v e = refl
unnamed_of (m ∷ made) v e = elim (cases_Bool (eqb m.lit.variable v)) [
  | inl s ↦ (let z = cond-true (eqb m.lit.variable v) (Some m) (made_of made v) s in absurd cc)
  | inr s ↦ or_from _ _ s (unnamed_of made v (sym (cond-false (eqb m.lit.variable v) (Some m) (made_of made v) s) ∙ e))
]

no_entry : (o : Option Made) → option_map (λ m. m.lit.positive) o ≡ None → o ≡ None
no_entry None e = refl
no_entry (Some m) e = absurd cc

pub unnamed_sign : (made : List Made) (v : ℕ) → None ≡ option_map (λ m. m.lit.positive) (made_of made v) → names (literals made) v ≡ false
unnamed_sign made v e = unnamed_of made v (no_entry (made_of made v) (sym e))

pub var_within : (vars v : ℕ) (made : List Made) (sign : Bool) → AreKnown vars (literals made) → Some sign ≡ option_map (λ m. m.lit.positive) (made_of made v) → v ≤ vars
var_within vars v made sign k e = elim (cases_lt vars v) [
  | inr le ↦ le
  | inl lt ↦ (let n = named_of made v sign (sym e) in let u = unnamed_above vars v (literals made) k lt in absurd cc)
]

named_place : (made : List Made) (v place : ℕ) (value : Option Bool) → names (literals made) v ≡ true → IsKeptOf made v value place → (place < length made) × IfSome (slice_get made place) (λ m. m.lit.variable ≡ v)
named_place made v place None n k = absurd cc
named_place made v place (Some s) n k =
    let m = entry_at made place (the_literal v s) k.0 k.1 in
    (k.0, subst (λ (o : Option Made). IfSome o (λ x. x.lit.variable ≡ v)) (sym m.1) (ap (λ (l : Literal). l.variable) m.2))

pub place_read : (vars v place : ℕ) (made : List Made) (values : List (Option Bool)) (places : List ℕ) (sign : Bool) → AreKnown vars (literals made) → AreTables vars made values places → Some sign ≡ option_map (λ m. m.lit.positive) (made_of made v) → place ≡ slice_index_or places v place → (place < length made) × IfSome (slice_get made place) (λ m. m.lit.variable ≡ v)
place_read vars v place made values places sign k t e r =
    let le = var_within vars v made sign k e in
    let same = get_or_read places v place (omega (arith, le, t.placed)) r 0 in
    named_place made v place (slice_index_or values v None) (named_of made v sign (sym e)) (kept_as made v (slice_index_or places v 0) place (slice_index_or values v None) (slice_index_or values v None) refl (sym same) (t.kept v le))

-- the entry that was found at a place
pub entry_found : (made : List Made) (v place : ℕ) (m : Made) → AreDifferent (literals made) → place < length made → m ≡ slice_index_or made place m → IfSome (slice_get made place) (λ x. x.lit.variable ≡ v) → Some m ≡ made_of made v
entry_found made v place m d lt r h =
    let here : slice_get made place ≡ Some m = slice_get-get_or made place m lt ∙ ap (λ (x : Made). Some x) (sym r) in
    let var : m.lit.variable ≡ v = subst (λ (o : Option Made). IfSome o (λ x. x.lit.variable ≡ v)) here h in
    sym (subst (λ (n : ℕ). made_of made n ≡ Some m) var (made_of-at made place m d here))

-- the value of a literal, by the entry of its variable
bare : (p q : Bool) → cond ((true && cond q p (not p)) || false) (Some true) (cond ((true && cond (not q) p (not p)) || false) (Some false) None) ≡ Some (beq p q)
bare true true = refl
bare true false = refl
bare false true = refl
bare false false = refl

here : (a h k p q : Bool) → a ≡ true → h ≡ false → k ≡ false → cond ((a && cond q p (not p)) || h) (Some true) (cond ((a && cond (not q) p (not p)) || k) (Some false) None) ≡ Some (beq p q)
here a h k p q e f g = rw (e, f, g) (bare p q)

there : (a h k p q : Bool) → a ≡ false → cond ((a && cond q p (not p)) || h) (Some true) (cond ((a && cond (not q) p (not p)) || k) (Some false) None) ≡ cond h (Some true) (cond k (Some false) None)
there a h k p q e = rw e refl

value_made : (made : List Made) (l : Literal) → AreDifferent (literals made) → value_in (literals made) l ≡ option_map (λ m. beq m.lit.positive l.positive) (made_of made l.variable)
value_made [] l d = refl
value_made (m ∷ made) l d = elim (cases_eq m.lit.variable l.variable) [
  | inl e ↦ (
      let gone = subst (λ (n : ℕ). names (literals made) n ≡ false) e d.0 in
      here (eqb l.variable m.lit.variable) (has (literals made) l) (has (literals made) (negated l)) m.lit.positive l.positive (eq-eqb _ _ (sym e)) (unnamed (literals made) l gone) (unnamed (literals made) (negated l) gone)
      ∙ sym (ap (option_map (λ x. beq x.lit.positive l.positive)) (cond-true (eqb m.lit.variable l.variable) (Some m) (made_of made l.variable) (eq-eqb _ _ e))))
  | inr n ↦ (
      there (eqb l.variable m.lit.variable) (has (literals made) l) (has (literals made) (negated l)) m.lit.positive l.positive (ne_eqb _ _ (λ q. n (sym q)))
      ∙ value_made made l d.1
      ∙ sym (ap (option_map (λ x. beq x.lit.positive l.positive)) (cond-false (eqb m.lit.variable l.variable) (Some m) (made_of made l.variable) (ne_eqb _ _ n))))
]

by_sign : (o : Option Made) (s q : Bool) → Some s ≡ option_map (λ m. m.lit.positive) o → Some (beq s q) ≡ option_map (λ m. beq m.lit.positive q) o
by_sign None s q e = absurd cc
by_sign (Some m) s q e = let same : s ≡ m.lit.positive = cc in ap (λ (b : Bool). Some (beq b q)) same

pub value_read : (made : List Made) (l : Literal) (sign : Bool) → AreDifferent (literals made) → Some sign ≡ option_map (λ m. m.lit.positive) (made_of made l.variable) → Some (beq sign l.positive) ≡ value_in (literals made) l
value_read made l sign d e = by_sign (made_of made l.variable) sign l.positive e ∙ sym (value_made made l d)

pub value_unread : (made : List Made) (l : Literal) → AreDifferent (literals made) → None ≡ option_map (λ m. m.lit.positive) (made_of made l.variable) → None ≡ value_in (literals made) l
value_unread made l d e = sym (value_made made l d ∙ ap (option_map (λ m. beq m.lit.positive l.positive)) (no_entry (made_of made l.variable) (sym e)))

-- taking back from the end
pub known_made : (vars : ℕ) (made : List Made) (k : ℕ) (m : Made) → AreKnown vars (literals made) → k < length made → m ≡ slice_index_or made k m → IsKnown vars m.lit
known_made vars [] k m a lt e = absurd (omega (arith, lt))
known_made vars (x ∷ made) zero m a lt e = subst (λ (z : Made). IsKnown vars z.lit) (sym e) a.0
known_made vars (x ∷ made) (suc k) m a lt e = known_made vars made k m a.1 (omega (arith, lt)) e

pub some_at : (made : List Made) (k : ℕ) (m : Made) (level : ℕ) → k < length made → m ≡ slice_index_or made k m → level < m.level → IfSome (slice_get made k) (λ x. level < x.level)
some_at made k m level lt e h = subst (λ (o : Option Made). IfSome o (λ x. level < x.level)) (sym (slice_get-get_or made k m lt ∙ ap (λ (x : Made). Some x) (sym e))) h

unnamed_end : (front : List Made) (m : Made) → AreDifferent (literals (front ++ m ∷ [])) → names (literals front) m.lit.variable ≡ false
unnamed_end [] m d = refl
unnamed_end (x ∷ front) m d =
    let p = or_parts (names (literals front) x.lit.variable) (eqb m.lit.variable x.lit.variable || false) (sym (names_push front m x.lit.variable) ∙ d.0) in
    let q = or_parts (eqb m.lit.variable x.lit.variable) false p.1 in
    or_from _ _ (ne_eqb x.lit.variable m.lit.variable (λ e. eqb-false _ _ q.0 (sym e))) (unnamed_end front m d.1)

pub back_step : (vars count : ℕ) (made : List Made) (m : Made) (values : List (Option Bool)) (places : List ℕ) → AreKnown vars (literals made) → AreDifferent (literals made) → AreTables vars (take count made) values places → 0 < count → count ≤ length made → m ≡ slice_index_or made (count - 1) m → AreTables vars (take (count - 1) made) (slice_set values m.lit.variable None) places
back_step vars count made m values places a d t some le e =
    let front = take (count - 1) made in
    let eq : take count made ≡ front ++ m ∷ [] = ap (λ (n : ℕ). take n made) (omega (arith, some)) ∙ take_more made (count - 1) m (omega (arith, some, le)) ∙ ap (λ (x : Made). front ++ x ∷ []) (sym e) in
    tables_drop vars front m values places (known_made vars made (count - 1) m a (omega (arith, some, le)) e)
    (unnamed_end front m (subst (λ (x : List Made). AreDifferent (literals x)) eq (front_different made count d)))
    (subst (λ (x : List Made). AreTables vars x values places) eq t)

above_after : (low : ℕ) (made : List Made) (k : ℕ) (m : Made) → AllByRecursion (λ n. low ≤ n.level) made → k < length made → m ≡ slice_index_or made k m → low ≤ m.level
above_after low [] k m a lt e = absurd (omega (arith, lt))
above_after low (x ∷ made) zero m a lt e = subst (λ (z : Made). low ≤ z.level) (sym e) a.0
above_after low (x ∷ made) (suc k) m a lt e = above_after low made k m a.1 (omega (arith, lt)) e

-- where the last of some first entries is not above a level, none of them is
top_front : (top level : ℕ) (made : List Made) (k : ℕ) (m : Made) → IsRising top made → k < length made → m ≡ slice_index_or made k m → m.level ≤ level → IsTop level (take (suc k) made)
top_front top level [] k m r lt e le = absurd (omega (arith, lt))
top_front top level (x ∷ made) zero m r lt e le = (subst (λ (z : Made). z.level ≤ level) e le, tt)
top_front top level (x ∷ made) (suc k) m r lt e le =
    (omega (arith, above_after x.level made k m r.1 (omega (arith, lt)) e, le), top_front top level made k m r.2 (omega (arith, lt)) e le)

first_above : (made : List Made) (count level : ℕ) → count < length made → IfSome (slice_get made count) (λ m. level < m.level) → (m : Made) × (m ≡ slice_index_or made count m) × (level < m.level)
first_above [] count level lt h = absurd (omega (arith, lt))
first_above (x ∷ made) zero level lt h = (x, refl, h)
first_above (x ∷ made) (suc count) level lt h = first_above made count level (omega (arith, lt)) h

cut_by : (top level count : ℕ) (made : List Made) → IsRising top made → IsTop level (take count made) → count ≤ length made → IfSome (slice_get made count) (λ m. level < m.level) → take count made ≡ below (level + 1) made
cut_by top level count made r t le h = elim (cases_lt count (length made)) [
  | inl lt ↦ (let m = first_above made count level lt h in cut_at top level made count m.0 r t lt m.1 m.2)
  | inr ge ↦ (
      let end : count ≡ length made = omega (arith, le, ge) in
      subst (λ (n : ℕ). take n made ≡ below (level + 1) made) (sym end) (cut_none level made (subst (λ (n : ℕ). IsTop level (take n made)) end t)))
]

pub cut_last : (top level count : ℕ) (made : List Made) (m : Made) → IsRising top made → 0 < count → count ≤ length made → m ≡ slice_index_or made (count - 1) m → m.level ≤ level → IfSome (slice_get made count) (λ x. level < x.level) → take count made ≡ below (level + 1) made
cut_last top level count made m r some le e low h =
    let eq : suc (count - 1) ≡ count = omega (arith, some) in
    cut_by top level count made r (subst (λ (n : ℕ). IsTop level (take n made)) eq (top_front top level made (count - 1) m r (omega (arith, some, le)) e low)) le h

pub cut_empty : (top level count : ℕ) (made : List Made) → IsRising top made → count ≡ 0 → count ≤ length made → IfSome (slice_get made count) (λ m. level < m.level) → take count made ≡ below (level + 1) made
cut_empty top level count made r e le h = cut_by top level count made r (subst (λ (n : ℕ). IsTop level (take n made)) (sym e) tt) le h

-- a literal with a value is false or not
pub open_sign : (trail : List Literal) (l : Literal) (sign : Bool) → IsConsistent trail → Some sign ≡ value_in trail l → sign ≡ is_open trail l
open_sign trail l sign k e = elim (cases_Bool (has trail l)) [
  | inl h ↦ (
      let s : Some sign ≡ Some true = e ∙ cond-true (has trail l) (Some true) (cond (has trail (negated l)) (Some false) None) h in
      let o = consistent_at trail trail l k h in
      cc)
  | inr h ↦ (
      let s : Some sign ≡ cond (has trail (negated l)) (Some false) None = e ∙ cond-false (has trail l) (Some true) (cond (has trail (negated l)) (Some false) None) h in
      second (has trail (negated l)) sign s)
]
  where
    second : (b sign : Bool) → Some sign ≡ cond b (Some false) None → sign ≡ not b
    second true sign s = cc
    second false sign s = absurd cc
