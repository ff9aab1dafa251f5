-- What keeps a constraint quiet, while the trail grows at its level and a chain is walked.
use Rattle.std.proofs.Common.{◌≡◌, ◌≢◌, ℕ, ◌+◌, ◌*◌, ◌<◌, ◌⊎◌, ◌++◌, Bool, true, false, ◌||◌, cond, eqb, List, [], ◌∷◌, length, refl, sym, ap, ◌∙◌, subst, inl, inr, arith}
use Rattle.std.specs.Prelude.{slice_set}
use Rattle.std.proofs.lemmas.Bool.{or_cases, eqb-true, cases_eq, cases_Bool, not_from_false, not-true}
use Rattle.std.proofs.lemmas.List.Folds.{list_any-append}
use Rattle.kn_logic.specs.Constraints.{Bounded}
use Rattle.kn_logic.specs.Literals.{Literal, negated, is_same, has}
use Rattle.kn_logic.specs.Propagation.{is_open, IsConsistent, IsShort}
use Rattle.kn_watch.specs.declared.trail.Made.{Made}
use Rattle.kn_propagate.specs.declared.chains.Spot.{Spot}
use Rattle.kn_watch.specs.Trails.{Trailed, literals, below, IsTrail}
use Rattle.kn_watch.specs.Watches.{listed, lit_at, NoneFalse, IsSatisfied, IsSettled, HasWatches, IsBroad}
use Rattle.kn_watch.specs.Trails.{Grows}
use Rattle.kn_propagate.specs.Chains.{Watching, at_slot, lit_of_spot, is_in, code, spot_at, IsWalked, IsAtRest, Goes, IsGrown}
use Rattle.kn_watch.proofs.Public.{settled_back, settled_quiet}
use Rattle.kn_watch.proofs.Public.{IsTop, below_grown, settled_now, settled_grows, append_none}
use Rattle.kn_watch.specs.Quiet.{quiet_law}
use Rattle.kn_watch.proofs.Public.{Within, none_false_within, open_within}
use Rattle.kn_logic.proofs.Public.{same_literal, negated_twice}
use Rattle.kn_watch.proofs.Public.{below_all}
use Rattle.kn_propagate.proofs.Relinking.{a_spot, spot_other}

-- The visited constraint is satisfied: it is settled.
pub walked_satisfied : (level : ℕ) (made new : List Made) (seen : List Literal) (spots : List Spot) (rest : List ℕ) (from : ℕ) (ws : List Watching) (slot : ℕ) → Grows level made new → IsTop level new → Within (literals (below level made)) seen → IsSatisfied (literals new) (at_slot ws slot).c → IsWalked made seen spots rest from ws slot → IsSettled new (at_slot ws slot).c (at_slot ws slot).watches
walked_satisfied level made new seen spots rest from ws slot g top w s walked = elim walked [
  | inl t ↦ settled_grows level made new (at_slot ws slot).c (at_slot ws slot).watches g top t
  | inr n ↦ settled_now level new (at_slot ws slot).c (at_slot ws slot).watches top s (subst (λ (x : List Made). NoneFalse (literals x) (at_slot ws slot).c (at_slot ws slot).watches) (sym (below_grown level level made new g (omega arith))) (none_false_within (literals (below level made)) seen (at_slot ws slot).c (at_slot ws slot).watches w n.0))
]

in_rest : (e x : ℕ) (rest : List ℕ) → is_in x (e ∷ rest) ≡ true → x ≢ e → is_in x rest ≡ true
in_rest e x rest i d = elim (or_cases (eqb e x) (is_in x rest) i) [
  | inl s ↦ absurd (d (sym (eqb-true e x s)))
  | inr s ↦ s
]

-- A constraint that was not visited, while another was.
pub walked_other : (level : ℕ) (made new : List Made) (seen : List Literal) (spots : List Spot) (e : ℕ) (rest : List ℕ) (from : ℕ) (ws : List Watching) (slot : ℕ) → Grows level made new → IsTop level new → slot ≢ (spot_at spots e).owner → IsWalked made seen spots (e ∷ rest) from ws slot → IsWalked new seen spots rest from ws slot
walked_other level made new seen spots e rest from ws slot g top d walked = elim walked [
  | inl t ↦ inl (settled_grows level made new (at_slot ws slot).c (at_slot ws slot).watches g top t)
  | inr n ↦ inr (
    n.0,
    λ place pl wa co. (
        let a = n.1 place pl wa co in
        let xe : a.0 ≢ e = λ (q : a.0 ≡ e). d (sym (ap (λ (z : Spot). z.owner) (sym (ap (spot_at spots) q) ∙ a.1))) in
        (a.0, a.1, in_rest e a.0 rest a.2 xe)),
  )
]

-- what `IsWalked` says of a slot, of its constraint as it is watched
abbrev IsWalkedBy : List Made → List Literal → List Spot → List ℕ → ℕ → ℕ → Bounded → (ℕ → Bool) → Type 0
IsWalkedBy made seen spots rest from slot c watches =
    IsSettled made c watches
    ⊎ (NoneFalse seen c watches
    × ((place : ℕ) → place < length (listed c) → watches place ≡ true → code (lit_at (listed c) place) ≡ from →
    (e : ℕ) × (spot_at spots e ≡ a_spot slot place) × (is_in e rest ≡ true)))

abbrev IsWalkedOf : List Made → List Literal → List Spot → List ℕ → ℕ → ℕ → Watching → Type 0
IsWalkedOf made seen spots rest from slot w = IsWalkedBy made seen spots rest from slot w.c w.watches

-- its entry of another constraint moved
pub walked_moved_other : (made : List Made) (seen : List Literal) (spots : List Spot) (e : ℕ) (rest : List ℕ) (from : ℕ) (ws new : List Watching) (slot : ℕ) (to : Spot) → Goes ws new (spot_at spots e) to → is_in e rest ≡ false → slot ≢ (spot_at spots e).owner → IsWalked made seen spots (e ∷ rest) from ws slot → IsWalked made seen (slice_set spots e to) rest from new slot
walked_moved_other made seen spots e rest from ws new slot to g out d walked =
    subst (λ (x : Watching). IsWalkedOf made seen (slice_set spots e to) rest from slot x) (sym (g.others slot d)) (elim walked [
      | inl t ↦ inl t
      | inr n ↦ inr (
        n.0,
        λ place pl wa co. (
            let a = n.1 place pl wa co in
            let xe : a.0 ≢ e = λ (q : a.0 ≡ e). d (sym (ap (λ (z : Spot). z.owner) (sym (ap (spot_at spots) q) ∙ a.1))) in
            (a.0, spot_other spots e a.0 to xe ∙ a.1, in_rest e a.0 rest a.2 xe)),
      )
    ])

-- no watched place but the new one is new, and the literal there is not false
moved_none_false : (trail : List Literal) (ws new : List Watching) (from to : Spot) → Goes ws new from to → is_open trail (lit_of_spot ws to) ≡ true → NoneFalse trail (at_slot ws from.owner).c (at_slot ws from.owner).watches → NoneFalse trail (at_slot ws from.owner).c (at_slot new from.owner).watches
moved_none_false trail ws new from to g o n = λ place pl wa. elim (cases_eq place to.place) [
  | inl p ↦ subst (λ (z : ℕ). is_open trail (lit_at (listed (at_slot ws from.owner).c) z) ≡ true) (sym p) (subst (λ (z : ℕ). is_open trail (lit_at (listed (at_slot ws z).c) to.place) ≡ true) g.owner o)
  | inr p ↦ elim (cases_eq place from.place) [
    | inl q ↦ (let r = g.released in let r2 = subst (λ (z : ℕ). (at_slot new from.owner).watches z ≡ true) q wa in absurd cc)
    | inr q ↦ n place pl (sym (g.rest place q p) ∙ wa)
  ]
]

pub walked_moved : (made : List Made) (seen : List Literal) (spots : List Spot) (e : ℕ) (rest : List ℕ) (from : ℕ) (ws new : List Watching) (to : Spot) → Goes ws new (spot_at spots e) to → is_in e rest ≡ false → is_open (literals made) (lit_of_spot ws to) ≡ true → Within seen (literals made) → code (lit_of_spot ws to) ≢ from → IsWalked made seen spots (e ∷ rest) from ws (spot_at spots e).owner → IsWalked made seen (slice_set spots e to) rest from new (spot_at spots e).owner
walked_moved made seen spots e rest from ws new to g out o w k walked =
    let i = (spot_at spots e).owner in
    subst (λ (c : Bounded). IsWalkedBy made seen (slice_set spots e to) rest from i c (at_slot new i).watches) (sym (g.same i)) (elim walked [
      | inl t ↦ inl (t.0, t.1, moved_none_false (literals (below t.0 made)) ws new (spot_at spots e) to g (open_within (literals (below t.0 made)) (literals made) (lit_of_spot ws to) (below_all made t.0) o) t.2)
      | inr n ↦ inr (
        moved_none_false seen ws new (spot_at spots e) to g (open_within seen (literals made) (lit_of_spot ws to) w o) n.0,
        λ place pl wa co. (
            let p : place ≢ to.place = λ (q : place ≡ to.place). k (ap (λ (z : ℕ). code (lit_at (listed (at_slot ws z).c) to.place)) g.owner ∙ ap (λ (z : ℕ). code (lit_at (listed (at_slot ws i).c) z)) (sym q) ∙ co) in
            let f : place ≢ (spot_at spots e).place = λ (q : place ≡ (spot_at spots e).place). (let r = g.released in let r2 = subst (λ (z : ℕ). (at_slot new i).watches z ≡ true) q wa in absurd cc) in
            let a = n.1 place pl (sym (g.rest place f p) ∙ wa) co in
            let xe : a.0 ≢ e = λ (q : a.0 ≡ e). f (sym (ap (λ (z : Spot). z.place) (sym (ap (spot_at spots) q) ∙ a.1))) in
            (a.0, spot_other spots e a.0 to xe ∙ a.1, in_rest e a.0 rest a.2 xe)),
      )
    ])

half : (m n : ℕ) (s t : Bool) → 2 * m + cond s 0 1 ≡ 2 * n + cond t 0 1 → (m ≡ n) × (s ≡ t)
half m n true true q = (omega arith, refl)
half m n true false q = absurd (omega arith)
half m n false true q = absurd (omega arith)
half m n false false q = (omega arith, refl)

abbrev the_literal : ℕ → Bool → Literal
the_literal v p = record { variable = v; positive = p }

-- a literal's chain is its own
pub code_one : (a b : Literal) → code a ≡ code b → a ≡ b
code_one a b q =
    let h = half a.variable b.variable a.positive b.positive q in
    ap (λ (v : ℕ). the_literal v a.positive) h.0 ∙ ap (λ (p : Bool). the_literal b.variable p) h.1

-- The walk is done: none of the literals that were visited is watched, the last one's negation neither.
pub walked_all : (made : List Made) (seen : List Literal) (l : Literal) (spots : List Spot) (ws : List Watching) (slot : ℕ) → IsWalked made seen spots [] (code (negated l)) ws slot → IsAtRest made (seen ++ l ∷ []) (at_slot ws slot)
walked_all made seen l spots ws slot walked = elim walked [
  | inl t ↦ inl t
  | inr n ↦ inr (λ place pl wa. (
      let x = lit_at (listed (at_slot ws slot).c) place in
      elim (cases_Bool (has (seen ++ l ∷ []) (negated x))) [
        | inr h ↦ not_from_false _ h
        | inl h ↦ elim (or_cases (has seen (negated x)) (is_same (negated x) l || false) (sym (list_any-append (is_same (negated x)) seen (l ∷ [])) ∙ h)) [
          | inl s ↦ (let o = not-true _ (n.0 place pl wa) in absurd cc)
          | inr s ↦ elim (or_cases (is_same (negated x) l) false s) [
            | inr f ↦ absurd cc
            | inl f ↦ (
                let same = same_literal (negated x) l f in
                let a = n.1 place pl wa (ap code (sym (negated_twice x) ∙ ap negated same)) in
                let i = a.2 in
                absurd cc)
          ]
        ]
      ]))
]

pub grown_same : (t : Trailed) → IsTrail t → IsGrown t t
grown_same t k = record { vars = refl; level = refl; grows = ([], sym (append_none t.made), tt); kept = k }

pub append_assoc_made : (a b c : List Made) → (a ++ b) ++ c ≡ a ++ (b ++ c)
append_assoc_made [] b c = refl
append_assoc_made (m ∷ a) b c = ap (λ (x : List Made). m ∷ x) (append_assoc_made a b c)

-- Going back leaves each constraint at rest.
pub rest_back : (made : List Made) (seen less : List Literal) (back : ℕ) (w : Watching) → Within less seen → Within less (literals (below back made)) → IsAtRest made seen w → IsAtRest (below back made) less w
rest_back made seen less back w a b r = elim r [
  | inr n ↦ inr (none_false_within less seen w.c w.watches a n)
  | inl s ↦ elim (settled_back made w.c w.watches back s) [
    | inl t ↦ inl t
    | inr n ↦ inr (none_false_within less (literals (below back made)) w.c w.watches b n)
  ]
]

-- At rest with all literals visited, a constraint with more literals than its bound is not short.
pub rest_quiet : (made : List Made) (w : Watching) → IsConsistent (literals made) → IsBroad w.c → HasWatches w.c w.watches → IsAtRest made (literals made) w → IsShort (literals made) w.c → ⊥
rest_quiet made w k broad has r = elim r [
  | inl s ↦ settled_quiet made w.c w.watches k s
  | inr n ↦ quiet_law w.c w.watches (literals made) broad has n
]
