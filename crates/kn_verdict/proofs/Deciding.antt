-- From the numbers of an elimination's result to the verdict.
use Rattle.std.proofs.Common.{◌≡◌, ℕ, ◌+◌, ◌-◌, ◌≤◌, ◌<◌, ◌==◌, ◌⊎◌, ◌↔◌, ◌++◌, inl, inr, Bool, true, false, List, [], ◌∷◌, length, map, reverse, nat_lt, slice_index, get_or, refl, sym, ap, ◌∙◌, arith, length-append}
use Rattle.std.specs.List.{AllByRecursion}
use Rattle.std.proofs.lemmas.Bool.{cases_Bool, cases_lt, ltb-true, ltb-false, lt-ltb, le-ltb, ne_eqb, eq-eqb, true≢false}
use Rattle.std.proofs.lemmas.List.{length-reverse, get_or-reverse, get_or-append_right}
use Rattle.std.proofs.lemmas.List.Folds.{list_any_at}
use Rattle.kn_logic.specs.Literals.{Literal, places}
use Rattle.kn_logic.specs.Groups.{Gathered, IsGroup, is_among}
use Rattle.kn_diagram.specs.Diagrams.{Table, IsTable, IsNode, with_value, depth_of, is_true_by}
use Rattle.kn_diagram.proofs.Public.{not_above}
use Rattle.kn_quant.specs.Runs.{CanHold}
use Rattle.kn_quant.specs.Eliminations.{Eliminated, IsEliminationOf}
use Rattle.kn_verdict.specs.declared.fewest.Fewest.{Fewest}
use Rattle.kn_verdict.specs.Cardinals.{IsCardinal, DiffersAt}
use Rattle.kn_verdict.specs.Numbers.{AreFewest, IsWitness}
use Rattle.kn_verdict.proofs.Counts.{count, both-counts, length-negated, other-value}

-- ---- the result is a node of the border

-- the variables at the top of the order are auxiliary ones
aux_at : (g : Gathered) (d : Table) (k : ℕ) → d.order ≡ reverse (map (λ l. l.variable) g.border ++ g.aux) → k < length g.aux → is_among g.aux (slice_index d.order k) ≡ true
aux_at g d k e low =
    let vars = map (λ (l : Literal). l.variable) g.border in
    let all = vars ++ g.aux in
    let total = length-append vars g.aux in
    let i = length g.aux - 1 - k in
    let x : slice_index d.order k ≡ get_or g.aux i 0 =
    ap (λ o. slice_index o k) e ∙ get_or-reverse all k 0 (omega (arith, total, low))
    ∙ ap (λ j. get_or all j 0) {x = length all - 1 - k} {y = length vars + i} (omega (arith, total, low))
    ∙ get_or-append_right vars g.aux (length vars) (length vars + i) 0 refl (omega arith)
    ∙ ap (λ j. get_or g.aux j 0) {x = length vars + i - length vars} {y = i} (omega arith) in
    list_any_at (λ v. v == slice_index d.order k) g.aux i 0 (omega (arith, low)) (eq-eqb (get_or g.aux i 0) (slice_index d.order k) (sym x))

-- which the border does not know
agrees_at : (g : Gathered) (lits : List Literal) (y : ℕ) (v : ℕ → Bool) (b c : Bool) → is_among g.aux y ≡ true → AllByRecursion (λ l. is_among g.aux l.variable ≡ false) lits
    → AllByRecursion (λ l. with_value v y b l.variable ≡ with_value v y c l.variable) lits
agrees_at g [] y v b c h apart = tt
agrees_at g (l ∷ lits) y v b c h apart =
    let ne : (l.variable == y) ≡ false = ne_eqb l.variable y (λ e. true≢false (sym h ∙ ap (is_among g.aux) (sym e) ∙ apart.0)) in
    (other-value v y l.variable b ne ∙ sym (other-value v y l.variable c ne), agrees_at g lits y v b c h apart.1)

pub root-below : (g : Gathered) (e : Eliminated) → IsGroup g → IsEliminationOf g e → IsTable e.table → IsNode e.table e.result → length g.aux ≤ depth_of e.table e.result
root-below g e group h ok there =
    let vars = map (λ (l : Literal). l.variable) g.border in
    not_above e.table e.result (length g.aux) ok there
    (omega (arith, ap length h.order, length-reverse (vars ++ g.aux), length-append vars g.aux))
    (λ k low v.
    let y = slice_index e.table.order k in
    h.border (with_value v y true) (with_value v y false) (agrees_at g g.border y v true false (aux_at g e.table k h.order low) group.apart))

-- ---- what the numbers tell

-- where they make up more than the literals, the function is the count
pub cardinal-by : (g : Gathered) (f : (ℕ → Bool) → Bool) (numbers : Fewest) → IsGroup g → ((v : ℕ → Bool) → (f v ≡ true) ↔ CanHold g v) → AreFewest g.border f numbers
    → length g.border < numbers.holding + numbers.failing → IsCardinal g numbers.holding
cardinal-by g f numbers group meaning h more = record { within = h.holding.within; counts = counts }
  where
    holds : (v : ℕ → Bool) → numbers.holding ≤ count v g.border → ((f v ≡ true) ⊎ (f v ≡ false)) → CanHold g v
    holds v many (inl t) = (meaning v).0 t
    holds v many (inr t) = absurd (omega (arith, h.failing.bound v t, both-counts v g.border, many, more))

    counts : (v : ℕ → Bool) → CanHold g v ↔ (numbers.holding ≤ places (is_true_by v) g.border)
    counts v = (λ can. h.holding.bound v ((meaning v).1 can), λ many. holds v many (cases_Bool (f v)))

-- there are values of the side at which a bound fails
pub unlike-some : (lits : List Literal) (f : (ℕ → Bool) → Bool) (numbers : Fewest) (bound : ℕ) → AreFewest lits f numbers → numbers.holding + numbers.failing ≤ length lits
    → (v : ℕ → Bool) × (f v ≡ nat_lt numbers.holding bound)
unlike-some lits f numbers bound h less = by (cases_lt numbers.holding bound)
  where
    by : ((numbers.holding < bound) ⊎ (bound ≤ numbers.holding)) → (v : ℕ → Bool) × (f v ≡ nat_lt numbers.holding bound)
    by (inl low) = (let (v, e, c) = h.holding.met (omega (arith, less)) in (v, e ∙ sym (lt-ltb numbers.holding bound low)))
    by (inr high) = (let (v, e, c) = h.failing.met (omega (arith, less, length-negated lits)) in (v, e ∙ sym (le-ltb numbers.holding bound high)))

pub differs-by : (g : Gathered) (f : (ℕ → Bool) → Bool) (numbers : Fewest) (bound : ℕ) (want : Bool) (values : List Bool) → ((v : ℕ → Bool) → (f v ≡ true) ↔ CanHold g v) → AreFewest g.border f numbers
    → numbers.holding + numbers.failing ≤ length g.border → want ≡ nat_lt numbers.holding bound → IsWitness g f want values → DiffersAt g bound values
differs-by g f numbers bound true values meaning h less e w = record {
  all = w.all;
  are = w.are;
  differs =
      let (v, is, c) = h.holding.met (omega (arith, less)) in
      inl ((meaning w.all).0 w.is_wanted, omega (arith, w.fewest v is, c, ltb-true numbers.holding bound (sym e)));
}
differs-by g f numbers bound false values meaning h less e w = record {
  all = w.all;
  are = w.are;
  differs =
      let (v, is, c) = h.failing.met (omega (arith, less, length-negated g.border)) in
      inr (λ can. true≢false (sym ((meaning w.all).1 can) ∙ w.is_wanted), omega (arith, w.fewest v is, c, both-counts w.all g.border, less, ltb-false numbers.holding bound (sym e)));
}
