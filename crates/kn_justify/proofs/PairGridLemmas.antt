-- The two nodes of a grid that are left at each place, for "all literals but one at most".
use Rattle.std.proofs.Common.{◌≡◌, ℕ, ◌≤◌, ◌<◌, ◌+◌, ◌-◌, ◌&&◌, Bool, true, false, cond, eqb, ltb, List, [], ◌∷◌, length, Option, None, Some, refl, sym, ap, ◌∙◌, subst, inl, inr, arith}
use Rattle.std.specs.Option.{option_map_or}
use Rattle.std.proofs.lemmas.Bool.{and_from, and_parts, or_cases, or_left, or_right, ne_eqb}
use Rattle.kn_logic.specs.Literals.{Literal, negated, is_same}
use Rattle.kn_logic.proofs.Public.{same-refl}
use Rattle.kn_lines.specs.declared.line.Arm.{Arm}
use Rattle.kn_lines.specs.declared.line.Arm.TheVariants as arm
use Rattle.kn_counter.specs.Grids.{cell_of}
use Rattle.kn_counter.specs.declared.grid.Cell.{Cell}
use Rattle.kn_counter.specs.declared.grid.Cell.TheVariants as cell
use Rattle.kn_rules.specs.declared.definition.Definition.{Definition}
use Rattle.kn_rules.specs.Grids.{variable_of, splits, stands_as, led_to, stands_for}

-- kinds of nodes
inner : (n j : ℕ) → 1 ≤ j → j ≤ n → cell_of n 1 j ≡ cell.Inner
inner n j a b =
    let zero_not : eqb j 0 ≡ false = ne_eqb j 0 (λ e. omega (arith, e, a)) in
    let below_not : ltb (n + 1 - 1) j ≡ false = grind (arith, b) in
    rw (zero_not, below_not) refl

beyond : (n j : ℕ) → n < j → cell_of n 1 j ≡ cell.False
beyond n j a =
    let zero_not : eqb j 0 ≡ false = ne_eqb j 0 (λ e. omega (arith, e, a)) in
    let below : ltb (n + 1 - 1) j ≡ true = grind (arith, a) in
    rw (zero_not, below) refl

-- "false" stands for more literals than there are
pub false-stands : (definition : ℕ → Option Definition) (lits : List Literal) (j : ℕ) → length lits < j → stands_for definition lits j arm.False ≡ true
false-stands definition [] j h = (let e : cell_of 0 1 j ≡ cell.False = beyond 0 j h in rw e refl)
false-stands definition (l ∷ lits) j h = (let e : cell_of (length (l ∷ lits)) 1 j ≡ cell.False = beyond (length (l ∷ lits)) j h in rw e refl)

-- a defined variable stands where its definition goes on as the node does
pub node-stands : (definition : ℕ → Option Definition) (l : Literal) (lits : List Literal) (j : ℕ) (n : Literal) (high low : Arm) → 1 ≤ j → j ≤ length (l ∷ lits)
    → n.positive ≡ true → definition n.variable ≡ Some (record { test = l; high = high; low = low })
    → stands_for definition lits (j - 1) high ≡ true → stands_for definition lits j low ≡ true → stands_for definition (l ∷ lits) j (arm.Lit n) ≡ true
node-stands definition l lits j n high low a b p e h k =
    let kind : cell_of (length (l ∷ lits)) 1 j ≡ cell.Inner = inner (length (l ∷ lits)) j a b in
    let led : led_to definition (variable_of (arm.Lit n)) ≡ Some (record { test = l; high = high; low = low }) =
    ap (λ (t : Bool). led_to definition (cond t (Some n.variable) None)) p ∙ e in
    let goes : splits (stands_for definition lits) l j (record { test = l; high = high; low = low }) ≡ true =
    or_left (is_same l l && (stands_for definition lits (j - 1) high && stands_for definition lits j low)) _ (and_from _ _ (same-refl l) (and_from _ _ h k)) in
    rw (kind, led) goes

-- "true" stands for no node that can be false
pub true-stands-not : (definition : ℕ → Option Definition) (l : Literal) (lits : List Literal) (j : ℕ) → 1 ≤ j → j ≤ length (l ∷ lits) → stands_for definition (l ∷ lits) j arm.True ≡ true → ⊥
true-stands-not definition l lits j a b h =
    let kind : cell_of (length (l ∷ lits)) 1 j ≡ cell.Inner = inner (length (l ∷ lits)) j a b in
    let f : stands_as cell.Inner (splits (stands_for definition lits) l j) None arm.True ≡ true = subst (λ (x : Cell). stands_as x (splits (stands_for definition lits) l j) None arm.True ≡ true) kind h in
    absurd cc

-- what stands for a node stays so while definitions come
abbrev Stays : (ℕ → Option Definition) → (ℕ → Option Definition) → Type 0
Stays old new = (v : ℕ) (d : Definition) → old v ≡ Some d → new v ≡ Some d

led-stays : (old new : ℕ → Option Definition) (v : Option ℕ) (d : Definition) → Stays old new → led_to old v ≡ Some d → led_to new v ≡ Some d
led-stays old new None d h e = absurd cc
led-stays old new (Some v) d h e = h v d e

splits-stay : (p q : ℕ → Arm → Bool) (l : Literal) (j : ℕ) (d : Definition) → ((i : ℕ) (a : Arm) → p i a ≡ true → q i a ≡ true) → splits p l j d ≡ true → splits q l j d ≡ true
splits-stay p q l j d h e =
    elim (or_cases (is_same d.test l && (p (j - 1) d.high && p j d.low)) (is_same d.test (negated l) && (p j d.high && p (j - 1) d.low)) e) [
      | inl f ↦ (let (t, u) = and_parts _ _ f in let (x, y) = and_parts _ _ u in or_left _ _ (and_from _ _ t (and_from _ _ (h (j - 1) d.high x) (h j d.low y))))
      | inr f ↦ (let (t, u) = and_parts _ _ f in let (x, y) = and_parts _ _ u in or_right _ _ (and_from _ _ t (and_from _ _ (h j d.high x) (h (j - 1) d.low y))))
    ]

as-stays : (c : Cell) (p q : Definition → Bool) (old new : Option Definition) (a : Arm) → ((d : Definition) → p d ≡ true → q d ≡ true) → ((d : Definition) → old ≡ Some d → new ≡ Some d) → stands_as c p old a ≡ true → stands_as c q new a ≡ true
as-stays cell.True p q old new a h k e = e
as-stays cell.False p q old new a h k e = e
as-stays cell.Inner p q None new a h k e = absurd cc
as-stays cell.Inner p q (Some d) new a h k e = subst (λ (o : Option Definition). option_map_or q o false ≡ true) (sym (k d refl)) (h d e)

pub stands-stays : (old new : ℕ → Option Definition) (lits : List Literal) (j : ℕ) (a : Arm) → ((v : ℕ) (d : Definition) → old v ≡ Some d → new v ≡ Some d) → stands_for old lits j a ≡ true → stands_for new lits j a ≡ true
stands-stays old new [] j a h e =
    as-stays (cell_of 0 1 j) (λ d. false) (λ d. false) (led_to old (variable_of a)) (led_to new (variable_of a)) a (λ d f. f) (λ d f. led-stays old new (variable_of a) d h f) e
stands-stays old new (l ∷ lits) j a h e =
    as-stays (cell_of (length (l ∷ lits)) 1 j) (splits (stands_for old lits) l j) (splits (stands_for new lits) l j) (led_to old (variable_of a)) (led_to new (variable_of a)) a
    (λ d f. splits-stay (stands_for old lits) (stands_for new lits) l j d (λ i b g. stands-stays old new lits i b h g) f) (λ d f. led-stays old new (variable_of a) d h f) e
