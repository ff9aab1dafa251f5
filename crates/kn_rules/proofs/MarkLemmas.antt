-- The table of a list of literals: what it says, and what marking and unmarking make of it.
use Rattle.std.proofs.Common.{◌≡◌, ◌≢◌, ℕ, ◌+◌, ◌-◌, ◌<◌, ◌++◌, ◌==◌, ◌&&◌, ◌||◌, Bool, true, false, not, cond, eqb, List, [], ◌∷◌, length, length-append, take, get_or, set, replicate, append_assoc, refl, sym, ap, ◌∙◌, subst, inl, inr, arith}
use Rattle.std.specs.List.{filter}
use Rattle.std.proofs.lemmas.Bool.{eq-eqb, ne_eqb, cases_eq}
use Rattle.std.proofs.Math.Seq.{get_or-append_seam}
use Rattle.std.proofs.lemmas.List.{get_or_append_left, take_more, get_or-replicate, length-replicate, length-set, get_or-set_same, get_or-set_other}
use Rattle.kn_logic.specs.Literals.{Literal, negated, is_same, has, names, IsKnown, AreKnown}
use Rattle.kn_logic.specs.Propagation.{is_open}
use Rattle.kn_logic.proofs.Public.{known-append, known-front, known-last, known_at, has-push, unnamed}
use Rattle.kn_rules.specs.Marks.{unmarked, mark_of, IsMarked, entry_of, is_marked, with_literal, marked, is_unopposed}
use Rattle.kn_rules.specs.declared.assumed.Mark.{Mark}

-- the list is over the variables of the table, and a variable that it does not name is unmarked
pub record IsUnmarked (marks : List Mark) (lits : List Literal) : Type 0 where
  pub known : AreKnown (length marks) lits
  pub exact : (k : ℕ) → k < length marks → names lits (k + 1) ≡ false → get_or marks k unmarked ≡ unmarked

-- what the table says
flag : (lits : List Literal) (variable : ℕ) (positive : Bool) → cond positive (mark_of lits variable).positive (mark_of lits variable).negative ≡ has lits (record { variable = variable; positive = positive })
flag lits variable true = refl
flag lits variable false = refl

entry_is : (marks : List Mark) (lits : List Literal) (l : Literal) → IsMarked marks lits → IsKnown (length marks) l → entry_of marks l ≡ mark_of lits l.variable
entry_is marks lits l m k =
    let e : l.variable - 1 + 1 ≡ l.variable = omega arith in
    m.exact (l.variable - 1) (omega arith) ∙ ap (mark_of lits) e

pub marked-has : (marks : List Mark) (lits : List Literal) (l : Literal) → IsMarked marks lits → IsKnown (length marks) l → is_marked marks l ≡ has lits l
marked-has marks lits l m k =
    ap (λ (x : Mark). cond l.positive x.positive x.negative) (entry_is marks lits l m k) ∙ flag lits l.variable l.positive

pub unopposed-open : (marks : List Mark) (lits : List Literal) (l : Literal) → IsMarked marks lits → IsKnown (length marks) l → is_unopposed marks l ≡ is_open lits l
unopposed-open marks lits l m k = ap not (marked-has marks lits (negated l) m k)

pub unopposed-filter : (marks : List Mark) (trail lits : List Literal) → IsMarked marks trail → AreKnown (length marks) lits → filter (is_unopposed marks) lits ≡ filter (is_open trail) lits
unopposed-filter marks trail [] m k = refl
unopposed-filter marks trail (l ∷ lits) m k =
    let e = unopposed-open marks trail l m k.0 in
    let ih = unopposed-filter marks trail lits m k.1 in
    rw (e, ih) refl

-- the table at first
pub replicate-marked : (vars : ℕ) → IsMarked (replicate vars unmarked) []
replicate-marked vars = record { known = tt; exact = λ k h. get_or-replicate vars k unmarked unmarked (simp length-replicate at h) }

-- one literal more
same_mark : (a b p n : Bool) → a ≡ p → b ≡ n → ◌≡◌ {A = Mark} (record { positive = a; negative = b }) (record { positive = p; negative = n })
same_mark a b p n e f = cc

or_false : (a : Bool) → (a || false) ≡ a
or_false true = refl
or_false false = refl

at_variable : (lits : List Literal) (l : Literal) (variable : ℕ) (t : Bool) → (variable == l.variable) ≡ t → mark_of (lits ++ l ∷ []) variable ≡ cond t (with_literal (mark_of lits variable) l) (mark_of lits variable)
at_variable lits l variable true e =
    let yes : Literal = record { variable = variable; positive = true } in
    let no : Literal = record { variable = variable; positive = false } in
    same_mark _ _ _ _
    (has-push lits l yes ∙ ap (λ t. has lits yes || (t && l.positive)) e)
    (has-push lits l no ∙ ap (λ t. has lits no || (t && not l.positive)) e)
at_variable lits l variable false e =
    let yes : Literal = record { variable = variable; positive = true } in
    let no : Literal = record { variable = variable; positive = false } in
    same_mark _ _ _ _
    (has-push lits l yes ∙ ap (λ t. has lits yes || (t && l.positive)) e ∙ or_false _)
    (has-push lits l no ∙ ap (λ t. has lits no || (t && not l.positive)) e ∙ or_false _)

at_place : (marks : List Mark) (lits : List Literal) (l : Literal) → IsMarked marks lits → IsKnown (length marks) l → (k : ℕ) → k < length marks → get_or (marked marks l) k unmarked ≡ mark_of (lits ++ l ∷ []) (k + 1)
at_place marks lits l m known k h =
    elim (cases_eq (k + 1) l.variable) [
      | inl same ↦ (
          let place : l.variable - 1 ≡ k = omega arith in
          let here : get_or (marked marks l) k unmarked ≡ with_literal (entry_of marks l) l =
          ap (λ (p : ℕ). get_or (set marks p (with_literal (entry_of marks l) l)) k unmarked) place ∙ get_or-set_same marks k _ unmarked h in
          here ∙ ap (λ (x : Mark). with_literal x l) (entry_is marks lits l m known ∙ ap (mark_of lits) (sym same)) ∙ sym (at_variable lits l (k + 1) true (eq-eqb _ _ same))
          )
      | inr differs ↦ (
          let place : k ≢ l.variable - 1 = omega arith in
          get_or-set_other marks (l.variable - 1) k _ unmarked place ∙ m.exact k h ∙ sym (at_variable lits l (k + 1) false (ne_eqb _ _ differs))
          )
    ]

pub push-marked : (marks : List Mark) (lits : List Literal) (l : Literal) → IsMarked marks lits → IsKnown (length marks) l → IsMarked (marked marks l) (lits ++ l ∷ [])
push-marked marks lits l m k =
    let len : length (marked marks l) ≡ length marks = length-set marks _ _ in
    record {
      known = rw len (known-append (length marks) lits (l ∷ []) m.known (k, tt));
      exact = λ j h. at_place marks lits l m k j (rw len at h);
    }

-- the table after one turn of the loop that marks all
pub marks-more : (marks new : List Mark) (before lits : List Literal) (k vars : ℕ) (l : Literal) → IsMarked marks (before ++ take k lits) → new ≡ marked marks l → k < length lits → l ≡ get_or lits k l → AreKnown vars lits → length marks ≡ vars → IsMarked new (before ++ take (k + 1) lits)
marks-more marks new before lits k vars l m e h is known len =
    let here : IsKnown vars l = subst (IsKnown vars) (sym is) (known_at vars lits k l known h) in
    let next = push-marked marks _ l m (subst (λ n. IsKnown n l) (sym len) here) in
    let list : before ++ take k lits ++ l ∷ [] ≡ before ++ take (k + 1) lits =
    append_assoc before (take k lits) (l ∷ []) ∙ ap (λ (x : Literal). before ++ (take k lits ++ x ∷ [])) is ∙ ap (λ (xs : List Literal). before ++ xs) (sym (take_more lits k l h)) in
    subst (λ x. IsMarked x (before ++ take (k + 1) lits)) (sym e) (subst (IsMarked (marked marks l)) list next)

-- the table of a list without its literals
pub marked-unmarked : (marks : List Mark) (lits : List Literal) → IsMarked marks lits → IsUnmarked marks lits
marked-unmarked marks lits m = record {
  known = m.known;
  exact = λ k h n.
      let e = m.exact k h in
      let p = unnamed lits (record { variable = k + 1; positive = true }) n in
      let q = unnamed lits (record { variable = k + 1; positive = false }) n in
      cc;
}

-- one literal less
none_named : (front : List Literal) (variable k : ℕ) → names front variable ≡ false → k ≡ variable → unmarked ≡ mark_of front k
none_named front variable k alone e =
    let n : names front k ≡ false = ap (names front) e ∙ alone in
    let p = unnamed front (record { variable = k; positive = true }) n in
    let q = unnamed front (record { variable = k; positive = false }) n in
    cc

pop_at : (marks : List Mark) (front : List Literal) (l : Literal) → IsMarked marks (front ++ l ∷ []) → names front l.variable ≡ false → (k : ℕ) → k < length marks → get_or (set marks (l.variable - 1) unmarked) k unmarked ≡ mark_of front (k + 1)
pop_at marks front l m alone k h =
    let known = known-last (length marks) front l m.known in
    elim (cases_eq (k + 1) l.variable) [
      | inl same ↦ (
          let place : l.variable - 1 ≡ k = omega arith in
          ap (λ (p : ℕ). get_or (set marks p unmarked) k unmarked) place ∙ get_or-set_same marks k unmarked unmarked h ∙ none_named front l.variable (k + 1) alone same
          )
      | inr differs ↦ (
          let place : k ≢ l.variable - 1 = omega arith in
          get_or-set_other marks (l.variable - 1) k unmarked unmarked place ∙ m.exact k h ∙ at_variable front l (k + 1) false (ne_eqb _ _ differs)
          )
    ]

pub pop-marked : (marks : List Mark) (front : List Literal) (l : Literal) → IsMarked marks (front ++ l ∷ []) → names front l.variable ≡ false → IsMarked (set marks (l.variable - 1) unmarked) front
pop-marked marks front l m alone =
    let len = length-set marks (l.variable - 1) unmarked in
    record {
      known = rw len (known-front _ front (l ∷ []) m.known);
      exact = λ k h. pop_at marks front l m alone k (rw len at h);
    }

-- one variable more
not-known : (vars : ℕ) (lits : List Literal) → AreKnown vars lits → names lits (vars + 1) ≡ false
not-known vars [] k = refl
not-known vars (l ∷ lits) k =
    let differs : eqb l.variable (vars + 1) ≡ false = ne_eqb _ _ (λ e. absurd (omega (arith, e, k.0.1))) in
    rw differs (not-known vars lits k.1)

pub marked-grown : (marks : List Mark) (lits : List Literal) → IsMarked marks lits → IsMarked (marks ++ unmarked ∷ []) lits
marked-grown marks lits m =
    let len : length (marks ++ unmarked ∷ []) ≡ length marks + 1 = length-append marks (unmarked ∷ []) in
    record {
      known = rw len (are_known-grown (length marks) lits m.known);
      exact = λ k h. elim (cases_eq k (length marks)) [
        | inl last ↦ (
            let n = not-known (length marks) lits m.known in
            let p = unnamed lits (record { variable = length marks + 1; positive = true }) n in
            let q = unnamed lits (record { variable = length marks + 1; positive = false }) n in
            rw last (get_or-append_seam marks unmarked [] unmarked ∙ same_mark _ _ _ _ (sym p) (sym q))
            )
        | inr other ↦ (
            let before : k < length marks = omega (arith, h, len, other) in
            get_or_append_left marks (unmarked ∷ []) unmarked k before ∙ m.exact k before
            )
      ];
    }
  where
    are_known-grown : (vars : ℕ) (lits : List Literal) → AreKnown vars lits → AreKnown (vars + 1) lits
    are_known-grown vars [] k = tt
    are_known-grown vars (l ∷ lits) k = ((k.0.0, omega (arith, k.0.1)), are_known-grown vars lits k.1)

-- a variable that is named, in one polarity or the other
one_way : (b p q : Bool) → (b && cond p q (not q)) || (b && cond (not p) q (not q)) ≡ b
one_way true true true = refl
one_way true true false = refl
one_way true false true = refl
one_way true false false = refl
one_way false p q = refl

swap_or : (a b c d : Bool) → ((a || b) || (c || d)) ≡ ((a || c) || (b || d))
swap_or true b c d = refl
swap_or false true true d = refl
swap_or false true false d = refl
swap_or false false c d = refl

turned_eq : (m n : ℕ) → (m == n) ≡ (n == m)
turned_eq m n = grind arith

pub has-names : (lits : List Literal) (l : Literal) → (has lits l || has lits (negated l)) ≡ names lits l.variable
has-names [] l = refl
has-names (x ∷ lits) l =
    swap_or (is_same l x) (has lits l) (is_same (negated l) x) (has lits (negated l))
    ∙ ap (λ b. b || (has lits l || has lits (negated l))) (one_way (l.variable == x.variable) l.positive x.positive ∙ turned_eq l.variable x.variable)
    ∙ ap (λ b. (x.variable == l.variable) || b) (has-names lits l)
