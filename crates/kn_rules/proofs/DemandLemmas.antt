-- What it takes that all demands of a level stand.
use Rattle.std.proofs.Common.{Less, Equal, Greater, ◌≡◌, ℕ, suc, ◌+◌, ◌==◌, nat_lt, ◌++◌, ◌&&◌, Bool, true, false, cond, List, [], ◌∷◌, length, drop, Option, None, Some, Result, Ok, Err, IfOk, refl, sym, ap, ◌∙◌, subst, drop-cons, add-one, arith}
use Rattle.std.specs.List.{list_all, slice_get}
use Rattle.std.specs.Option.{is_none}
use Rattle.std.specs.Ordering.{nat_cmp, is_eq}
use Rattle.std.specs.BTreeMap.{BTreeMap, get, is_at}
use Rattle.std.proofs.lemmas.Bool.{eqb-true, eqb-false, ltb-true}
use Rattle.std.proofs.lemmas.Option.{slice_get_within, get_or_from_slice_get, same_Some}
use Rattle.kn_logic.specs.Literals.{Literal}
use Rattle.kn_lines.specs.declared.line.Arm.{Arm}
use Rattle.kn_lines.specs.declared.line.Arm.TheVariants as arm
use Rattle.kn_counter.specs.Grids.{cell_of}
use Rattle.kn_counter.specs.declared.grid.Cell.{Cell}
use Rattle.kn_counter.specs.declared.grid.Cell.TheVariants as cell
use Rattle.kn_rules.specs.declared.definition.Definition.{Definition}
use Rattle.kn_rules.specs.Grids.{splits, stands_as, led_to, stands_for}
use Rattle.kn_rules.specs.Demands.{arm_of, count_of, agrees, with_demand, IsIndexed, all_stand}
use Rattle.kn_rules.proofs.OneCount.{one-count}

-- tests joined by "and"
pub and-assoc : (a b c : Bool) → (a && (b && c)) ≡ ((a && b) && c)
and-assoc true b c = refl
and-assoc false b c = refl

pub and-false : (a b : Bool) → b ≡ false → false ≡ (a && b)
and-false true b e = sym e
and-false false b e = refl

and-true : (a : Bool) → (a && true) ≡ a
and-true true = refl
and-true false = refl

and-same : (a b : Bool) → (a && (b && a)) ≡ (a && b)
and-same true true = refl
and-same true false = refl
and-same false b = refl

all-push : {X : Type 0} (p : X → Bool) (xs : List X) (x : X) → list_all p (xs ++ x ∷ []) ≡ (list_all p xs && p x)
all-push p [] x = and-true (p x)
all-push p (y ∷ xs) x = ap (λ b. p y && b) (all-push p xs x) ∙ and-assoc (p y) (list_all p xs) (p x)

-- what is demanded of a variable already says nothing new
and-again : (a b : Bool) → (a && b) ≡ ((a && b) && a)
and-again true true = refl
and-again true false = refl
and-again false b = refl

stand-found : (definition : ℕ → Option Definition) (lits : List Literal) (d : ℕ × ℕ) (demands : List (ℕ × ℕ)) (variable count : ℕ) (t : Bool) → (d.0 == variable) ≡ t → cond t (Some d.1) (count_of demands variable) ≡ Some count
    → (count_of demands variable ≡ Some count → all_stand definition lits demands ≡ (all_stand definition lits demands && stands_for definition lits count (arm_of variable)))
    → all_stand definition lits (d ∷ demands) ≡ (all_stand definition lits (d ∷ demands) && stands_for definition lits count (arm_of variable))
stand-found definition lits d demands variable count true t e more =
    let stands : stands_for definition lits d.1 (arm_of d.0) ≡ stands_for definition lits count (arm_of variable) =
    ap (λ (j : ℕ). stands_for definition lits j (arm_of d.0)) (same_Some d.1 count e) ∙ ap (λ (v : ℕ). stands_for definition lits count (arm_of v)) (eqb-true d.0 variable t) in
    subst (λ b. (stands_for definition lits d.1 (arm_of d.0) && all_stand definition lits demands) ≡ ((stands_for definition lits d.1 (arm_of d.0) && all_stand definition lits demands) && b)) stands
    (and-again (stands_for definition lits d.1 (arm_of d.0)) (all_stand definition lits demands))
stand-found definition lits d demands variable count false t e more =
    ap (λ b. stands_for definition lits d.1 (arm_of d.0) && b) (more e)
    ∙ and-assoc (stands_for definition lits d.1 (arm_of d.0)) (all_stand definition lits demands) (stands_for definition lits count (arm_of variable))

stand-one : (definition : ℕ → Option Definition) (lits : List Literal) (demands : List (ℕ × ℕ)) (variable count : ℕ) → count_of demands variable ≡ Some count → all_stand definition lits demands ≡ (all_stand definition lits demands && stands_for definition lits count (arm_of variable))
stand-one definition lits [] variable count e = absurd cc
stand-one definition lits (d ∷ demands) variable count e =
    stand-found definition lits d demands variable count (d.0 == variable) refl e (stand-one definition lits demands variable count)

-- one demand more
stand-with : (definition : ℕ → Option Definition) (lits : List Literal) (demands : List (ℕ × ℕ)) (variable count : ℕ) (o : Option ℕ) → count_of demands variable ≡ o → agrees o count ≡ true → all_stand definition lits (cond (is_none o) (demands ++ (variable, count) ∷ []) demands) ≡ (all_stand definition lits demands && stands_for definition lits count (arm_of variable))
stand-with definition lits demands variable count None e same = all-push (λ x. stands_for definition lits x.1 (arm_of x.0)) demands (variable, count)
stand-with definition lits demands variable count (Some before) e same = stand-one definition lits demands variable count (e ∙ ap (λ (n : ℕ). Some n) (eqb-true before count same))

-- a variable with a second count
not-both : (definition : ℕ → Option Definition) (lits : List Literal) (variable before count : ℕ) (all s t : Bool) → stands_for definition lits before (arm_of variable) ≡ s → stands_for definition lits count (arm_of variable) ≡ t → (before == count) ≡ false → all ≡ (all && s) → false ≡ (all && t)
not-both definition lits variable before count false s t e f other g = refl
not-both definition lits variable before count true s false e f other g = refl
not-both definition lits variable before count true false true e f other g = absurd cc
not-both definition lits variable before count true true true e f other g = absurd (eqb-false before count other (one-count definition lits before count variable e f))

stand-against : (definition : ℕ → Option Definition) (lits : List Literal) (demands : List (ℕ × ℕ)) (variable count : ℕ) (o : Option ℕ) → count_of demands variable ≡ o → agrees o count ≡ false → false ≡ (all_stand definition lits demands && stands_for definition lits count (arm_of variable))
stand-against definition lits demands variable count None e other = absurd cc
stand-against definition lits demands variable count (Some before) e other =
    not-both definition lits variable before count (all_stand definition lits demands) _ _ refl refl other (stand-one definition lits demands variable before e)

stand-at : (definition : ℕ → Option Definition) (lits : List Literal) (demands : List (ℕ × ℕ)) (variable count : ℕ) (t : Bool) → agrees (count_of demands variable) count ≡ t → cond t (all_stand definition lits (with_demand demands variable count)) false ≡ (all_stand definition lits demands && stands_for definition lits count (arm_of variable))
stand-at definition lits demands variable count true e = stand-with definition lits demands variable count (count_of demands variable) refl e
stand-at definition lits demands variable count false e = stand-against definition lits demands variable count (count_of demands variable) refl e

-- the map of the counts
abbrev or_else : Option ℕ → Option ℕ → Option ℕ
or_else None p = p
or_else (Some n) p = Some n

or_none : (o : Option ℕ) → or_else o None ≡ o
or_none None = refl
or_none (Some n) = refl

count-at : (d : ℕ × ℕ) (rest more : Option ℕ) (given : Option ℕ) (other : ℕ) (t : Bool) → (d.0 == other) ≡ t → more ≡ or_else rest given → cond t (Some d.1) more ≡ or_else (cond t (Some d.1) rest) given
count-at d rest more given other true t e = refl
count-at d rest more given other false t e = e

count-push : (demands : List (ℕ × ℕ)) (variable count other : ℕ) → count_of (demands ++ (variable, count) ∷ []) other ≡ or_else (count_of demands other) (cond (variable == other) (Some count) None)
count-push [] variable count other = refl
count-push (d ∷ demands) variable count other =
    count-at d (count_of demands other) (count_of (demands ++ (variable, count) ∷ []) other) (cond (variable == other) (Some count) None) other (d.0 == other) refl (count-push demands variable count other)

at-eqb : (a b : ℕ) → is_at (nat_cmp a) b ≡ (a == b)
at-eqb a b = by (nat_lt a b) refl (a == b) refl
  where
    by : (s : Bool) → nat_lt a b ≡ s → (t : Bool) → (a == b) ≡ t → is_eq (cond s Less (cond t Equal Greater)) ≡ t
    by true less true same = absurd (omega (arith, ltb-true a b less, eqb-true a b same))
    by true less false same = refl
    by false less true same = refl
    by false less false same = refl

pub index-push : (demands : List (ℕ × ℕ)) (old new : BTreeMap ℕ ℕ) (variable count : ℕ) → IsIndexed demands old → get nat_cmp old variable ≡ None → ((q : ℕ) → get nat_cmp new q ≡ cond (is_at (nat_cmp variable) q) (Some count) (get nat_cmp old q)) → IsIndexed (demands ++ (variable, count) ∷ []) new
index-push demands old new variable count h none updates q = by (variable == q) refl
  where
    by : (t : Bool) → (variable == q) ≡ t → get nat_cmp new q ≡ count_of (demands ++ (variable, count) ∷ []) q
    by true e =
        let unset : count_of demands q ≡ None = sym (h q) ∙ ap (get nat_cmp old) (sym (eqb-true variable q e)) ∙ none in
        updates q ∙ ap (λ t. cond t (Some count) (get nat_cmp old q)) (at-eqb variable q ∙ e)
        ∙ sym (count-push demands variable count q ∙ ap (λ o. or_else o (cond (variable == q) (Some count) None)) unset ∙ ap (λ t. cond t (Some count) None) e)
    by false e =
        updates q ∙ ap (λ t. cond t (Some count) (get nat_cmp old q)) (at-eqb variable q ∙ e) ∙ h q
        ∙ sym (count-push demands variable count q ∙ ap (λ t. or_else (count_of demands q) (cond t (Some count) None)) e ∙ or_none (count_of demands q))

-- arms that are constants
abbrev pub is_true_cell : Cell → Bool
is_true_cell cell.True = true
is_true_cell cell.False = false
is_true_cell cell.Inner = false

abbrev pub is_false_cell : Cell → Bool
is_false_cell cell.True = false
is_false_cell cell.False = true
is_false_cell cell.Inner = false

true-node : (c : Cell) (goes_on : Definition → Bool) → stands_as c goes_on None arm.True ≡ is_true_cell c
true-node cell.True goes_on = refl
true-node cell.False goes_on = refl
true-node cell.Inner goes_on = refl

pub stands-true : (definition : ℕ → Option Definition) (lits : List Literal) (j : ℕ) → stands_for definition lits j arm.True ≡ is_true_cell (cell_of (length lits) 1 j)
stands-true definition [] j = true-node (cell_of 0 1 j) (λ d. false)
stands-true definition (l ∷ lits) j = true-node (cell_of (length (l ∷ lits)) 1 j) (splits (stands_for definition lits) l j)

false-node : (c : Cell) (goes_on : Definition → Bool) → stands_as c goes_on None arm.False ≡ is_false_cell c
false-node cell.True goes_on = refl
false-node cell.False goes_on = refl
false-node cell.Inner goes_on = refl

pub stands-false : (definition : ℕ → Option Definition) (lits : List Literal) (j : ℕ) → stands_for definition lits j arm.False ≡ is_false_cell (cell_of (length lits) 1 j)
stands-false definition [] j = false-node (cell_of 0 1 j) (λ d. false)
stands-false definition (l ∷ lits) j = false-node (cell_of (length (l ∷ lits)) 1 j) (splits (stands_for definition lits) l j)

-- arms that are literals
negated-node : (c : Cell) (goes_on : Definition → Bool) (definition : ℕ → Option Definition) (l : Literal) (p : Bool) → p ≡ false → stands_as c goes_on (led_to definition (cond p (Some l.variable) None)) (arm.Lit l) ≡ false
negated-node c goes_on definition l true e = absurd cc
negated-node cell.True goes_on definition l false e = refl
negated-node cell.False goes_on definition l false e = refl
negated-node cell.Inner goes_on definition l false e = refl

pub stands-negated : (definition : ℕ → Option Definition) (lits : List Literal) (j : ℕ) (l : Literal) → l.positive ≡ false → stands_for definition lits j (arm.Lit l) ≡ false
stands-negated definition [] j l e = negated-node (cell_of 0 1 j) (λ d. false) definition l l.positive e
stands-negated definition (x ∷ lits) j l e = negated-node (cell_of (length (x ∷ lits)) 1 j) (splits (stands_for definition lits) x j) definition l l.positive e

pub positive-arm : (l : Literal) → l.positive ≡ true → arm_of l.variable ≡ arm.Lit l
positive-arm l e = ap (λ p. arm.Lit (record { variable = l.variable; positive = p })) (sym e)

-- behind the last literal no variable stands for a node
pub none-node : (c : Cell) (o : Option Definition) (variable : ℕ) → stands_as c (λ d. false) o (arm_of variable) ≡ false
none-node cell.True o variable = refl
none-node cell.False o variable = refl
none-node cell.Inner None variable = refl
none-node cell.Inner (Some d) variable = refl

not-none : (n : ℕ) → (suc n == 0) ≡ false
not-none n = grind arith

pub stand-none : (definition : ℕ → Option Definition) (demands : List (ℕ × ℕ)) → all_stand definition [] demands ≡ (length demands == 0)
stand-none definition [] = refl
stand-none definition (d ∷ demands) =
    let none : (suc (length demands) == 0) ≡ false = not-none (length demands) in
    ap (λ b. b && all_stand definition [] demands) (none-node (cell_of 0 1 d.1) (definition d.0) d.0) ∙ sym none

-- what an arm adds
turned : (a b : Bool) → cond a b false ≡ (b && a)
turned true true = refl
turned true false = refl
turned false true = refl
turned false false = refl

pub add-true : (definition : ℕ → Option Definition) (old : Bool) (rest : List Literal) (j : ℕ) (a : Arm) (c : Cell) (does : Bool) → a ≡ arm.True → c ≡ cell_of (length rest) 1 j → does ≡ is_true_cell c → cond does old false ≡ (old && stands_for definition rest j a)
add-true definition old rest j a c does e f g =
    ap (λ b. cond b old false) (g ∙ ap is_true_cell f) ∙ turned _ old ∙ ap (λ b. old && b) (sym (stands-true definition rest j) ∙ ap (stands_for definition rest j) (sym e))

pub add-false : (definition : ℕ → Option Definition) (old : Bool) (rest : List Literal) (j : ℕ) (a : Arm) (c : Cell) (does : Bool) → a ≡ arm.False → c ≡ cell_of (length rest) 1 j → does ≡ is_false_cell c → cond does old false ≡ (old && stands_for definition rest j a)
add-false definition old rest j a c does e f g =
    ap (λ b. cond b old false) (g ∙ ap is_false_cell f) ∙ turned _ old ∙ ap (λ b. old && b) (sym (stands-false definition rest j) ∙ ap (stands_for definition rest j) (sym e))

pub add-negated : (definition : ℕ → Option Definition) (old : Bool) (rest : List Literal) (j : ℕ) (a : Arm) (l : Literal) → a ≡ arm.Lit l → l.positive ≡ false → false ≡ (old && stands_for definition rest j a)
add-negated definition old rest j a l e f = and-false old _ (ap (stands_for definition rest j) e ∙ stands-negated definition rest j l f)

pub add-variable : {E : Type 0} (old new : List (ℕ × ℕ)) (rest : List Literal) (j variable : ℕ) (a : Arm) (l : Literal) (r : Result Bool E) → a ≡ arm.Lit l → l.positive ≡ true → variable ≡ l.variable → IfOk r (λ yes. yes ≡ agrees (count_of old variable) j) → IfOk r (λ _. new ≡ with_demand old variable j)
    → IfOk r (λ yes. (definition : ℕ → Option Definition) → cond yes (all_stand definition rest new) false ≡ (all_stand definition rest old && stands_for definition rest j a))
add-variable old new rest j variable a l (Err x) e f g does h = tt
add-variable old new rest j variable a l (Ok t) e f g does h = λ definition.
    ap (λ (ds : List (ℕ × ℕ)). cond t (all_stand definition rest ds) false) h
    ∙ stand-at definition rest old variable j t (sym does)
    ∙ ap (λ b. all_stand definition rest old && b) (ap (stands_for definition rest j) (ap arm_of g ∙ positive-arm l f ∙ sym e))

-- the root alone
pub root-alone : (definition : ℕ → Option Definition) (lits : List Literal) (none level : List (ℕ × ℕ)) (bound root : ℕ) → none ≡ [] → level ≡ with_demand none root bound → all_stand definition lits level ≡ stands_for definition lits bound (arm_of root)
root-alone definition lits none level bound root empty e =
    ap (all_stand definition lits) (e ∙ ap (λ (ds : List (ℕ × ℕ)). with_demand ds root bound) empty) ∙ and-true _

-- one demand of the level
drop_at : {X : Type 0} (xs : List X) (place : ℕ) (x : X) → slice_get xs place ≡ Some x → drop place xs ≡ x ∷ drop (place + 1) xs
drop_at xs place x e =
    let there = get_or_from_slice_get xs place x x e in
    let split = drop-cons xs place x (slice_get_within xs place x e) in
    rw (add-one place) (subst (λ y. drop place xs ≡ y ∷ drop (suc place) xs) there split)

pub demand-goes-on : (definition : ℕ → Option Definition) (lits : List Literal) (level : List (ℕ × ℕ)) (place : ℕ) (d : ℕ × ℕ) (old new whole does : Bool) → slice_get level place ≡ Some d → does ≡ true → cond does new false ≡ (old && stands_for definition lits d.1 (arm_of d.0)) → (old && all_stand definition lits (drop place level)) ≡ whole → (new && all_stand definition lits (drop (place + 1) level)) ≡ whole
demand-goes-on definition lits level place d old new whole does e went f g =
    ap (λ b. b && all_stand definition lits (drop (place + 1) level)) (sym (ap (λ b. cond b new false) went) ∙ f)
    ∙ sym (and-assoc old (stands_for definition lits d.1 (arm_of d.0)) (all_stand definition lits (drop (place + 1) level)))
    ∙ ap (λ (ds : List (ℕ × ℕ)). old && all_stand definition lits ds) (sym (drop_at level place d e)) ∙ g

pub demand-fails : (definition : ℕ → Option Definition) (lits : List Literal) (level : List (ℕ × ℕ)) (place : ℕ) (d : ℕ × ℕ) (old new whole does : Bool) → slice_get level place ≡ Some d → does ≡ false → cond does new false ≡ (old && stands_for definition lits d.1 (arm_of d.0)) → (old && all_stand definition lits (drop place level)) ≡ whole → false ≡ whole
demand-fails definition lits level place d old new whole does e not f g =
    demand-goes-on definition lits level place d old false whole true e refl (sym (ap (λ b. cond b new false) not) ∙ f) g

pub not-true-cell : (c : Cell) → (c ≡ cell.True → ⊥) → false ≡ is_true_cell c
not-true-cell cell.True h = absurd (h refl)
not-true-cell cell.False h = refl
not-true-cell cell.Inner h = refl

pub not-false-cell : (c : Cell) → (c ≡ cell.False → ⊥) → false ≡ is_false_cell c
not-false-cell cell.True h = refl
not-false-cell cell.False h = absurd (h refl)
not-false-cell cell.Inner h = refl

-- behind the last level
pub none-left : (definition : ℕ → Option Definition) (left : List Literal) (level : List (ℕ × ℕ)) (n : ℕ) (whole : Bool) → n ≡ length level → length left ≡ 0 → all_stand definition left level ≡ whole → (n == 0) ≡ whole
none-left definition [] level n whole e f g = ap (λ (k : ℕ). k == 0) e ∙ sym (stand-none definition level) ∙ g
none-left definition (l ∷ left) level n whole e f g = absurd (omega (arith, f))
