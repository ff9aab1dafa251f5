-- The diagram of "at least so many of these literals", which stand in the order of the diagram, is the grid of the
-- count: two reduced diagrams of one function in one order are equal.
use Rattle.std.proofs.Common.{◌≡◌, ℕ, ◌+◌, ◌-◌, ◌≤◌, ◌<◌, ◌==◌, ◌&&◌, ◌||◌, ◌⊎◌, ◌++◌, Bool, true, false, not, if◌then◌else◌, cond, leb, List, [], ◌∷◌, length, map, nat_le, nat_lt, slice_index, Option, Some, None, refl, sym, ap, ◌∙◌, subst, inl, inr, arith, append_assoc, length-append}
use Rattle.std.proofs.lemmas.Bool.{cases_lt, cases_eq, cond-true, cond-false, eq-eqb, ne_eqb, and_from, or_left, or_right, or_parts, le-leb, lt-leb, lt-ltb, le-ltb}
use Rattle.kn_logic.specs.Literals.{Literal, negated, is_same, names, places, AreDifferent}
use Rattle.kn_lines.specs.declared.line.Arm.{Arm}
use Rattle.kn_lines.specs.declared.line.Arm.TheVariants as arm
use Rattle.kn_counter.specs.Grids.{cell_of}
use Rattle.kn_counter.specs.declared.grid.Cell.{Cell}
use Rattle.kn_counter.specs.declared.grid.Cell.TheVariants as cell
use Rattle.kn_rules.specs.declared.definition.Definition.{Definition}
use Rattle.kn_rules.specs.Grids.{variable_of, splits, stands_as, led_to, stands_for}
use Rattle.kn_rules.specs.States.{ProofState, definition_of}
use Rattle.kn_diagram.specs.Diagrams.{Table, IsTable, function_of, depth_of, high_of, low_of, high_at, low_at, is_true_by, with_value}
use Rattle.kn_diagram.proofs.Public.{canonical, has_nodes, is-branch, split-at, high-function, low-function}
use Rattle.kn_justify.specs.declared.name.Name.{Name}
use Rattle.kn_justify.specs.Names.{positive_of, arm_at, HasNames}
use Rattle.kn_justify.specs.Counts.{IsCount}
use Rattle.kn_justify.proofs.NameLemmas.{arm_named, has-own, has-high, has-low}

-- counts of true literals
abbrev pub count : (ℕ → Bool) → List Literal → ℕ
count v lits = places (is_true_by v) lits

bit : (b : Bool) → cond b 1 0 ≤ 1
bit true = omega arith
bit false = omega arith

pub count_le : (v : ℕ → Bool) (lits : List Literal) → count v lits ≤ length lits
count_le v [] = omega arith
count_le v (l ∷ lits) = omega (arith, bit (is_true_by v l), count_le v lits)

set_own : (v : ℕ → Bool) (l : Literal) (x : ℕ) (b : Bool) → l.variable ≡ x → is_true_by (with_value v x b) l ≡ (if l.positive then b else not b)
set_own v l x b e = ap (λ (c : Bool). if l.positive then c else not c) (cond-true (l.variable == x) b (v l.variable) (eq-eqb l.variable x e))

set_other : (v : ℕ → Bool) (lits : List Literal) (x : ℕ) (b : Bool) → names lits x ≡ false → count (with_value v x b) lits ≡ count v lits
set_other v [] x b h = refl
set_other v (l ∷ lits) x b h =
    let parts = or_parts (l.variable == x) (names lits x) h in
    let here : is_true_by (with_value v x b) l ≡ is_true_by v l = ap (λ (c : Bool). if l.positive then c else not c) (cond-false (l.variable == x) b (v l.variable) parts.0) in
    ap (λ (c : Bool). (if c then 1 else 0) + count (with_value v x b) lits) here ∙ ap (λ (n : ℕ). (if is_true_by v l then 1 else 0) + n) (set_other v lits x b parts.1)

value_for : (p b : Bool) → (if p then (if p then b else not b) else not (if p then b else not b)) ≡ b
value_for true b = refl
value_for false true = refl
value_for false false = refl

one_more : (l : Literal) (lits : List Literal) (n m : ℕ) (b : Bool) → names lits l.variable ≡ false → (if b then 1 else 0) + m ≡ n → (v : ℕ → Bool) × (count v lits ≡ m) → (v : ℕ → Bool) × (count v (l ∷ lits) ≡ n)
one_more l lits n m b d e (v, h) =
    let w : ℕ → Bool = with_value v l.variable (if l.positive then b else not b) in
    let own : is_true_by w l ≡ b = set_own v l l.variable (if l.positive then b else not b) refl ∙ value_for l.positive b in
    (w, ap (λ (c : Bool). (if c then 1 else 0) + count w lits) own ∙ ap (λ (k : ℕ). (if b then 1 else 0) + k) (set_other v lits l.variable (if l.positive then b else not b) d ∙ h) ∙ e)

one_more_at : (l : Literal) (lits : List Literal) (n : ℕ) → names lits l.variable ≡ false → n ≤ length lits + 1 → ((m : ℕ) → m ≤ length lits → (v : ℕ → Bool) × (count v lits ≡ m)) → ((n < length lits + 1) ⊎ (length lits + 1 ≤ n)) → (v : ℕ → Bool) × (count v (l ∷ lits) ≡ n)
one_more_at l lits n d h some (inl low) = one_more l lits n n false d (omega arith) (some n (omega arith))
one_more_at l lits n d h some (inr high) = one_more l lits n (n - 1) true d (omega arith) (some (n - 1) (omega arith))

-- some values make so many literals true
pub some_values : (lits : List Literal) (n : ℕ) → AreDifferent lits → n ≤ length lits → (v : ℕ → Bool) × (count v lits ≡ n)
some_values [] n d h = ((λ x. false), omega arith)
some_values (l ∷ lits) n d h = one_more_at l lits n d.0 (omega arith) (λ m k. some_values lits m d.1 k) (cases_lt n (length lits + 1))

-- the order, and where the literals of the count begin in it
pub index_at : (front : List ℕ) (x : ℕ) (back : List ℕ) → slice_index (front ++ x ∷ back) (length front) ≡ x
index_at [] x back = refl
index_at (y ∷ front) x back = index_at front x back

always : (d : Table) (front : List ℕ) (lits : List Literal) (j f : ℕ) → IsTable d → IsCount d front lits j f → j ≡ 0 → f ≡ 1
always d front lits j f ok h e = canonical d ok f 1 h.there (omega arith) (λ v. h.counts v ∙ le-leb j _ (omega (arith, e)) ∙ sym ((has_nodes d ok).yes v))

never : (d : Table) (front : List ℕ) (lits : List Literal) (j f : ℕ) → IsTable d → IsCount d front lits j f → length lits < j → f ≡ 0
never d front lits j f ok h e = canonical d ok f 0 h.there (omega arith) (λ v. h.counts v ∙ lt-leb j _ (omega (arith, e, count_le v lits)) ∙ sym ((has_nodes d ok).no v))

pub within : (d : Table) (front : List ℕ) (l : Literal) (lits : List Literal) (j f : ℕ) → IsCount d front (l ∷ lits) j f → length front < length d.order
within d front l lits j f h = omega (arith, ap (λ (xs : List ℕ). length xs) h.order, length-append front (map (λ (k : Literal). k.variable) (l ∷ lits)))

pub own : (d : Table) (front : List ℕ) (l : Literal) (lits : List Literal) (j f : ℕ) → IsCount d front (l ∷ lits) j f → l.variable ≡ slice_index d.order (length front)
own d front l lits j f h = sym (ap (λ (xs : List ℕ). slice_index xs (length front)) h.order ∙ index_at front l.variable (map (λ (k : Literal). k.variable) lits))

-- what the first literal adds, where its variable has this value
abbrev pub adds : Literal → Bool → ℕ
adds l b = if (if l.positive then b else not b) then 1 else 0

pub set_count : (v : ℕ → Bool) (l : Literal) (lits : List Literal) (x : ℕ) (b : Bool) → l.variable ≡ x → names lits l.variable ≡ false → count (with_value v x b) (l ∷ lits) ≡ adds l b + count v lits
set_count v l lits x b e d =
    ap (λ (c : Bool). (if c then 1 else 0) + count (with_value v x b) lits) (set_own v l x b e)
    ∙ ap (λ (n : ℕ). adds l b + n) (set_other v lits x b (subst (λ (y : ℕ). names lits y ≡ false) e d))

high_counts : (d : Table) (front : List ℕ) (l : Literal) (lits : List Literal) (j f : ℕ) (v : ℕ → Bool) → IsTable d → IsCount d front (l ∷ lits) j f → function_of d (high_at d (length front) f) v ≡ nat_le j (adds l true + count v lits)
high_counts d front l lits j f v ok h =
    high-function d f (length front) v ok h.there (within d front l lits j f h) h.depth
    ∙ h.counts (with_value v (slice_index d.order (length front)) true)
    ∙ ap (λ (n : ℕ). nat_le j n) (set_count v l lits (slice_index d.order (length front)) true (own d front l lits j f h) h.different.0)

low_counts : (d : Table) (front : List ℕ) (l : Literal) (lits : List Literal) (j f : ℕ) (v : ℕ → Bool) → IsTable d → IsCount d front (l ∷ lits) j f → function_of d (low_at d (length front) f) v ≡ nat_le j (adds l false + count v lits)
low_counts d front l lits j f v ok h =
    low-function d f (length front) v ok h.there (within d front l lits j f h) h.depth
    ∙ h.counts (with_value v (slice_index d.order (length front)) false)
    ∙ ap (λ (n : ℕ). nat_le j n) (set_count v l lits (slice_index d.order (length front)) false (own d front l lits j f h) h.different.0)

-- one way or the other, the literal makes a difference
differs : (p : Bool) (j : ℕ) → 1 ≤ j → nat_le j ((if (if p then true else not true) then 1 else 0) + (j - 1)) ≡ nat_le j ((if (if p then false else not false) then 1 else 0) + (j - 1)) → ⊥
differs true j h e = (let a : leb j (1 + (j - 1)) ≡ true = le-leb _ _ (omega arith) in let b : leb j (0 + (j - 1)) ≡ false = lt-leb _ _ (omega arith) in absurd cc)
differs false j h e = (let a : leb j (0 + (j - 1)) ≡ false = lt-leb _ _ (omega arith) in let b : leb j (1 + (j - 1)) ≡ true = le-leb _ _ (omega arith) in absurd cc)

-- the node is one of the first literal's variable
pub at_depth : (d : Table) (front : List ℕ) (l : Literal) (lits : List Literal) (j f : ℕ) → IsTable d → IsCount d front (l ∷ lits) j f → 1 ≤ j → j ≤ length lits + 1 → ((depth_of d f ≡ length front) ⊎ (depth_of d f ≡ length front → ⊥)) → depth_of d f ≡ length front
at_depth d front l lits j f ok h low top (inl e) = e
at_depth d front l lits j f ok h low top (inr n) =
    let t = ne_eqb (depth_of d f) (length front) n in
    let same : high_at d (length front) f ≡ low_at d (length front) f = cond-false _ (high_of d f) f t ∙ sym (cond-false _ (low_of d f) f t) in
    let (v, c) = some_values lits (j - 1) h.different.1 (omega arith) in
    absurd (differs l.positive j low
    (ap (λ (k : ℕ). nat_le j (adds l true + k)) (sym c) ∙ sym (high_counts d front l lits j f v ok h) ∙ ap (λ (x : ℕ). function_of d x v) same
    ∙ low_counts d front l lits j f v ok h ∙ ap (λ (k : ℕ). nat_le j (adds l false + k)) c))

-- the kinds of nodes
cell_true : (n j : ℕ) → j ≡ 0 → cell_of n 1 j ≡ cell.True
cell_true n j e = cond-true _ _ _ (eq-eqb j 0 e)

cell_false : (n j : ℕ) → (j ≡ 0 → ⊥) → n < j → cell_of n 1 j ≡ cell.False
cell_false n j e h = cond-false _ cell.True (if nat_lt (n + 1 - 1) j then cell.False else cell.Inner) (ne_eqb j 0 e) ∙ cond-true _ _ _ (lt-ltb (n + 1 - 1) j (omega arith))

cell_inner : (n j : ℕ) → (j ≡ 0 → ⊥) → j ≤ n → cell_of n 1 j ≡ cell.Inner
cell_inner n j e h = cond-false _ cell.True (if nat_lt (n + 1 - 1) j then cell.False else cell.Inner) (ne_eqb j 0 e) ∙ cond-false _ cell.False cell.Inner (le-ltb (n + 1 - 1) j (omega arith))

stands_true : (names : List (ℕ × Name)) (c : Cell) (goes_on : Definition → Bool) (defined : Option Definition) (f : ℕ) → c ≡ cell.True → f ≡ 1 → stands_as c goes_on defined (arm_at names f) ≡ true
stands_true names c goes_on defined f e k = rw (e, k) refl

stands_false : (names : List (ℕ × Name)) (c : Cell) (goes_on : Definition → Bool) (defined : Option Definition) (f : ℕ) → c ≡ cell.False → f ≡ 0 → stands_as c goes_on defined (arm_at names f) ≡ true
stands_false names c goes_on defined f e k = rw (e, k) refl

stands_inner : (c : Cell) (goes_on : Definition → Bool) (defined : Option Definition) (d : Definition) (a : Arm) → c ≡ cell.Inner → defined ≡ Some d → goes_on d ≡ true → stands_as c goes_on defined a ≡ true
stands_inner c goes_on defined d a e k h = rw (e, k) h

-- one less where the literal is true
abbrev pub high_rest : Literal → ℕ → ℕ
high_rest l j = if l.positive then j - 1 else j

abbrev pub low_rest : Literal → ℕ → ℕ
low_rest l j = if l.positive then j else j - 1

one_less : (j c : ℕ) → 1 ≤ j → nat_le j (1 + c) ≡ nat_le (j - 1) c
one_less j c h = at (cases_lt c (j - 1))
  where
    at : ((c < j - 1) ⊎ (j - 1 ≤ c)) → leb j (1 + c) ≡ leb (j - 1) c
    at (inl low) = lt-leb _ _ (omega arith) ∙ sym (lt-leb _ _ low)
    at (inr high) = le-leb _ _ (omega arith) ∙ sym (le-leb _ _ high)

none_less : (j c : ℕ) → nat_le j (0 + c) ≡ nat_le j c
none_less j c = (let e : 0 + c ≡ c = omega arith in ap (λ (n : ℕ). nat_le j n) e)

high_less : (p : Bool) (j c : ℕ) → 1 ≤ j → nat_le j ((if (if p then true else not true) then 1 else 0) + c) ≡ nat_le (if p then j - 1 else j) c
high_less true j c h = one_less j c h
high_less false j c h = none_less j c

low_less : (p : Bool) (j c : ℕ) → 1 ≤ j → nat_le j ((if (if p then false else not false) then 1 else 0) + c) ≡ nat_le (if p then j else j - 1) c
low_less true j c h = none_less j c
low_less false j c h = one_less j c h

next_order : (d : Table) (front : List ℕ) (l : Literal) (lits : List Literal) → d.order ≡ front ++ map (λ (k : Literal). k.variable) (l ∷ lits) → d.order ≡ (front ++ l.variable ∷ []) ++ map (λ (k : Literal). k.variable) lits
next_order d front l lits e = e ∙ sym (append_assoc front (l.variable ∷ []) (map (λ (k : Literal). k.variable) lits))

high_is_count : (d : Table) (front : List ℕ) (l : Literal) (lits : List Literal) (j f : ℕ) → IsTable d → IsCount d front (l ∷ lits) j f → 1 ≤ j → IsCount d (front ++ l.variable ∷ []) lits (high_rest l j) (high_at d (length front) f)
high_is_count d front l lits j f ok h low =
    let s = split-at d f (length front) ok h.there (within d front l lits j f h) h.depth in
    record {
      order = next_order d front l lits h.order;
      different = h.different.1;
      there = s.high_there;
      depth = omega (arith, length-append front (l.variable ∷ []), s.above_high);
      counts = λ v. high_counts d front l lits j f v ok h ∙ high_less l.positive j (count v lits) low;
    }

low_is_count : (d : Table) (front : List ℕ) (l : Literal) (lits : List Literal) (j f : ℕ) → IsTable d → IsCount d front (l ∷ lits) j f → 1 ≤ j → IsCount d (front ++ l.variable ∷ []) lits (low_rest l j) (low_at d (length front) f)
low_is_count d front l lits j f ok h low =
    let s = split-at d f (length front) ok h.there (within d front l lits j f h) h.depth in
    record {
      order = next_order d front l lits h.order;
      different = h.different.1;
      there = s.low_there;
      depth = omega (arith, length-append front (l.variable ∷ []), s.above_low);
      counts = λ v. low_counts d front l lits j f v ok h ∙ low_less l.positive j (count v lits) low;
    }

same_test : (x : ℕ) (l : Literal) → x ≡ l.variable → l.positive ≡ true → is_same (positive_of x) l ≡ true
same_test x l e p = and_from _ _ (eq-eqb x l.variable e) p

other_test : (x : ℕ) (l : Literal) → x ≡ l.variable → l.positive ≡ false → is_same (positive_of x) (negated l) ≡ true
other_test x l e p = and_from _ _ (eq-eqb x l.variable e) (ap not p)

-- the definition goes on as the node does
goes_on_at : (stands : ℕ → Arm → Bool) (l : Literal) (j x : ℕ) (high low : Arm) (p : Bool) → l.positive ≡ p → x ≡ l.variable → stands (high_rest l j) high ≡ true → stands (low_rest l j) low ≡ true → splits stands l j (record { test = positive_of x; high = high; low = low }) ≡ true
goes_on_at stands l j x high low true p e h k =
    let hh : stands (j - 1) high ≡ true = ap (λ (b : Bool). stands (if b then j - 1 else j) high) (sym p) ∙ h in
    let kk : stands j low ≡ true = ap (λ (b : Bool). stands (if b then j else j - 1) low) (sym p) ∙ k in
    or_left _ _ (and_from _ _ (same_test x l e p) (and_from _ _ hh kk))
goes_on_at stands l j x high low false p e h k =
    let hh : stands j high ≡ true = ap (λ (b : Bool). stands (if b then j - 1 else j) high) (sym p) ∙ h in
    let kk : stands (j - 1) low ≡ true = ap (λ (b : Bool). stands (if b then j else j - 1) low) (sym p) ∙ k in
    or_right _ _ (and_from _ _ (other_test x l e p) (and_from _ _ hh kk))

-- what stands for the nodes of the literals behind the first
abbrev pub StandsBehind : ProofState → Table → List (ℕ × Name) → List ℕ → List Literal → Type 0
StandsBehind s d names front lits = (j f : ℕ) → IsCount d front lits j f → HasNames s d names f → stands_for (definition_of s) lits j (arm_at names f) ≡ true

inner : (s : ProofState) (d : Table) (names : List (ℕ × Name)) (front : List ℕ) (l : Literal) (lits : List Literal) (j f : ℕ) → IsTable d → IsCount d front (l ∷ lits) j f → HasNames s d names f → (j ≡ 0 → ⊥) → j ≤ length lits + 1 → StandsBehind s d names (front ++ l.variable ∷ []) lits → stands_for (definition_of s) (l ∷ lits) j (arm_at names f) ≡ true
inner s d names front l lits j f ok h k low top ih =
    let one : 1 ≤ j = omega (arith, low) in
    let at = at_depth d front l lits j f ok h one top (cases_eq (depth_of d f) (length front)) in
    let two = is-branch d f ok (omega (arith, at, within d front l lits j f h)) in
    let (n, is, r) = has-own s d names f k two in
    let t = eq-eqb (depth_of d f) (length front) at in
    let high : high_at d (length front) f ≡ high_of d f = cond-true _ (high_of d f) f t in
    let low_is : low_at d (length front) f ≡ low_of d f = cond-true _ (low_of d f) f t in
    let hh = ih (high_rest l j) (high_of d f) (subst (λ (x : ℕ). IsCount d (front ++ l.variable ∷ []) lits (high_rest l j) x) high (high_is_count d front l lits j f ok h one)) (has-high s d names f ok h.there two k) in
    let kk = ih (low_rest l j) (low_of d f) (subst (λ (x : ℕ). IsCount d (front ++ l.variable ∷ []) lits (low_rest l j) x) low_is (low_is_count d front l lits j f ok h one)) (has-low s d names f ok h.there two k) in
    let test : slice_index d.order (depth_of d f) ≡ l.variable = ap (λ (x : ℕ). slice_index d.order x) at ∙ sym (own d front l lits j f h) in
    let variable : variable_of (arm.Lit n.lit) ≡ Some n.lit.variable = cond-true _ (Some n.lit.variable) None r.defined.positive in
    subst (λ (a : Arm). stands_for (definition_of s) (l ∷ lits) j a ≡ true) (sym (arm_named names f n two is))
    (stands_inner (cell_of (length (l ∷ lits)) 1 j) (splits (stands_for (definition_of s) lits) l j) (led_to (definition_of s) (variable_of (arm.Lit n.lit))) _ (arm.Lit n.lit)
    (cell_inner (length (l ∷ lits)) j low (omega (arith, top))) (ap (led_to (definition_of s)) variable ∙ r.defined.definition)
    (goes_on_at (stands_for (definition_of s) lits) l j (slice_index d.order (depth_of d f)) (arm_at names (high_of d f)) (arm_at names (low_of d f)) l.positive refl test hh kk))

none_at : (s : ProofState) (d : Table) (names : List (ℕ × Name)) (front : List ℕ) (j f : ℕ) → IsTable d → IsCount d front [] j f → ((j ≡ 0) ⊎ (j ≡ 0 → ⊥)) → stands_for (definition_of s) [] j (arm_at names f) ≡ true
none_at s d names front j f ok h (inl e) = stands_true names (cell_of 0 1 j) _ _ f (cell_true 0 j e) (always d front [] j f ok h e)
none_at s d names front j f ok h (inr n) = stands_false names (cell_of 0 1 j) _ _ f (cell_false 0 j n (omega (arith, n))) (never d front [] j f ok h (omega (arith, n)))

some_at : (s : ProofState) (d : Table) (names : List (ℕ × Name)) (front : List ℕ) (l : Literal) (lits : List Literal) (j f : ℕ) → IsTable d → IsCount d front (l ∷ lits) j f → HasNames s d names f → StandsBehind s d names (front ++ l.variable ∷ []) lits → ((j ≡ 0) ⊎ (j ≡ 0 → ⊥)) → ((length lits + 1 < j) ⊎ (j ≤ length lits + 1)) → stands_for (definition_of s) (l ∷ lits) j (arm_at names f) ≡ true
some_at s d names front l lits j f ok h k ih (inl e) c = stands_true names (cell_of (length (l ∷ lits)) 1 j) _ _ f (cell_true (length (l ∷ lits)) j e) (always d front (l ∷ lits) j f ok h e)
some_at s d names front l lits j f ok h k ih (inr n) (inl c) = stands_false names (cell_of (length (l ∷ lits)) 1 j) _ _ f (cell_false (length (l ∷ lits)) j n (omega (arith, c))) (never d front (l ∷ lits) j f ok h (omega (arith, c)))
some_at s d names front l lits j f ok h k ih (inr n) (inr c) = inner s d names front l lits j f ok h k n c ih

-- The arm of a node of the count's diagram stands for the node of its grid.
pub count-stands : (s : ProofState) (d : Table) (names : List (ℕ × Name)) (lits : List Literal) (front : List ℕ) (j f : ℕ) → IsTable d → IsCount d front lits j f → HasNames s d names f → stands_for (definition_of s) lits j (arm_at names f) ≡ true
count-stands s d names [] front j f ok h k = none_at s d names front j f ok h (cases_eq j 0)
count-stands s d names (l ∷ lits) front j f ok h k =
    some_at s d names front l lits j f ok h k (λ i g m n. count-stands s d names lits (front ++ l.variable ∷ []) i g ok m n) (cases_eq j 0) (cases_lt (length lits + 1) j)
