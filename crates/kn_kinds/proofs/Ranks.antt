-- How late a literal became false, and that the latest places are those that may be watched first.
use Rattle.std.proofs.Common.{◌≡◌, ◌≢◌, ℕ, zero, suc, ◌+◌, ◌≤◌, ◌<◌, ◌⊎◌, ◌++◌, Bool, true, false, not, cond, eqb, ltb, List, [], ◌∷◌, Option, Some, length, refl, sym, ap, ◌∙◌, subst, inl, inr, arith}
use Rattle.std.specs.Prelude.{slice_get, IfSome}
use Rattle.std.specs.List.{AllByRecursion, position_or_len}
use Rattle.std.proofs.lemmas.Bool.{or_parts, or_cases, or_left, or_right, and_parts, cases_Bool, cases_lt, not-true, not-false, cond-true, cond-false, eqb-true, eqb-false, lt-ltb, le-ltb}
use Rattle.std.proofs.lemmas.List.{map-append}
use Rattle.kn_logic.specs.Literals.{Literal, negated, is_same, has, names, AreDifferent}
use Rattle.kn_logic.specs.Constraints.{Bounded}
use Rattle.kn_logic.specs.Propagation.{is_open}
use Rattle.kn_logic.proofs.Public.{unnamed}
use Rattle.kn_watch.specs.declared.trail.Made.{Made}
use Rattle.kn_watch.specs.Trails.{Trailed, literals, below, IsRising, IsTrail}
use Rattle.kn_watch.specs.Watches.{listed, lit_at, IsLatest}
use Rattle.kn_kinds.specs.Latest.{rank, AreLatest}

-- the first place of a literal in a list
place_here : (n x : Literal) (xs : List Literal) → is_same n x ≡ true → position_or_len (is_same n) (x ∷ xs) ≡ 0
place_here n x xs e = rw e refl

place_next : (n x : Literal) (xs : List Literal) → is_same n x ≡ false → position_or_len (is_same n) (x ∷ xs) ≡ 1 + position_or_len (is_same n) xs
place_next n x xs e = rw e refl

no_place : (n : Literal) (trail : List Literal) → has trail n ≡ false → position_or_len (is_same n) trail ≡ length trail
no_place n [] h = refl
no_place n (x ∷ xs) h = let p = or_parts (is_same n x) (has xs n) h in omega (arith, place_next n x xs p.0, no_place n xs p.1)

place_in : (n : Literal) (front rest : List Literal) → has front n ≡ true → position_or_len (is_same n) (front ++ rest) < length front
place_in n [] rest h = absurd cc
place_in n (x ∷ front) rest h = elim (cases_Bool (is_same n x)) [
  | inl e ↦ omega (arith, place_here n x (front ++ rest) e)
  | inr e ↦ elim (or_cases (is_same n x) (has front n) h) [
    | inl s ↦ absurd cc
    | inr t ↦ omega (arith, place_next n x (front ++ rest) e, place_in n front rest t)
  ]
]

in_place : (n : Literal) (front rest : List Literal) → position_or_len (is_same n) (front ++ rest) < length front → has front n ≡ true
in_place n [] rest lt = absurd (omega (arith, lt))
in_place n (x ∷ front) rest lt = elim (cases_Bool (is_same n x)) [
  | inl e ↦ or_left (is_same n x) (has front n) e
  | inr e ↦ or_right (is_same n x) (has front n) (in_place n front rest (omega (arith, place_next n x (front ++ rest) e, lt)))
]

append_none : (xs : List Literal) → xs ++ [] ≡ xs
append_none [] = refl
append_none (x ∷ xs) = ap (λ (z : List Literal). x ∷ z) (append_none xs)

place_lt : (n : Literal) (trail : List Literal) → has trail n ≡ true → position_or_len (is_same n) trail < length trail
place_lt n trail h = subst (λ (x : List Literal). position_or_len (is_same n) x < length trail) (append_none trail) (place_in n trail [] h)

pub rank_open : (trail : List Literal) (l : Literal) → is_open trail l ≡ true → rank trail l ≡ length trail
rank_open trail l o = no_place (negated l) trail (not-true (has trail (negated l)) o)

pub rank_false : (trail : List Literal) (l : Literal) → is_open trail l ≡ false → rank trail l < length trail
rank_false trail l o = place_lt (negated l) trail (not-false (has trail (negated l)) o)

-- the place of a false literal's variable
not_named : (made : List Made) (place v : ℕ) (m : Made) → slice_get made place ≡ Some m → names (literals made) v ≡ false → m.lit.variable ≢ v
not_named [] place v m e h = absurd cc
not_named (x ∷ made) zero v m e h =
    let p = or_parts (eqb x.lit.variable v) (names (literals made) v) h in
    let same : x ≡ m = cc in
    λ q. eqb-false x.lit.variable v p.0 (ap (λ (z : Made). z.lit.variable) same ∙ q)
not_named (x ∷ made) (suc place) v m e h = not_named made place v m e (or_parts (eqb x.lit.variable v) (names (literals made) v) h).1

place_found : (made : List Made) (place : ℕ) (m : Made) (n : Literal) → AreDifferent (literals made) → has (literals made) n ≡ true → slice_get made place ≡ Some m → m.lit.variable ≡ n.variable → position_or_len (is_same n) (literals made) ≡ place
place_found [] place m n d h e v = absurd cc
place_found (x ∷ made) zero m n d h e v =
    let same : x ≡ m = cc in
    let var : x.lit.variable ≡ n.variable = ap (λ (z : Made). z.lit.variable) same ∙ v in
    elim (or_cases (is_same n x.lit) (has (literals made) n) h) [
      | inl s ↦ place_here n x.lit (literals made) s
      | inr t ↦ (let u = unnamed (literals made) n (subst (λ (k : ℕ). names (literals made) k ≡ false) var d.0) in absurd cc)
    ]
place_found (x ∷ made) (suc place) m n d h e v = elim (cases_Bool (is_same n x.lit)) [
  | inl s ↦ (
      let var = eqb-true n.variable x.lit.variable (and_parts (eqb n.variable x.lit.variable) (cond n.positive x.lit.positive (not x.lit.positive)) s).0 in
      absurd (not_named made place x.lit.variable m e d.0 (v ∙ var)))
  | inr s ↦ elim (or_cases (is_same n x.lit) (has (literals made) n) h) [
    | inl t ↦ absurd cc
    | inr t ↦ omega (arith, place_next n x.lit (literals made) s, place_found made place m n d.1 t e v)
  ]
]

pub rank_at : (made : List Made) (l : Literal) (place : ℕ) (m : Made) → AreDifferent (literals made) → is_open (literals made) l ≡ false → slice_get made place ≡ Some m → m.lit.variable ≡ l.variable → place ≡ rank (literals made) l
rank_at made l place m d o e v = sym (place_found made place m (negated l) d (not-false (has (literals made) (negated l)) o) e v)

entry_at : (made : List Made) (place : ℕ) → place < length made → (m : Made) × (slice_get made place ≡ Some m)
entry_at [] place lt = absurd (omega (arith, lt))
entry_at (m ∷ made) zero lt = (m, refl)
entry_at (m ∷ made) (suc place) lt = entry_at made place (omega (arith, lt))

pub rank_of : (made : List Made) (l : Literal) (place : ℕ) → AreDifferent (literals made) → is_open (literals made) l ≡ false → place < length made → IfSome (slice_get made place) (λ m. m.lit.variable ≡ l.variable) → place ≡ rank (literals made) l
rank_of made l place d o lt h =
    let m = entry_at made place lt in
    rank_at made l place m.0 d o m.1 (subst (λ (x : Option Made). IfSome x (λ z. z.lit.variable ≡ l.variable)) m.1 h)

pub rank-le : (trail : List Literal) (l : Literal) → rank trail l ≤ length trail
rank-le trail l = elim (cases_Bool (is_open trail l)) [ inl o ↦ omega (arith, rank_open trail l o) | inr o ↦ omega (arith, rank_false trail l o) ]

pub false_named : (trail : List Literal) (l : Literal) → is_open trail l ≡ false → names trail l.variable ≡ false → ⊥
false_named trail l o h = let u = unnamed trail (negated l) h in let t = not-false (has trail (negated l)) o in absurd cc

-- what stands below a level is a front of the trail
none_up : (level : ℕ) (made : List Made) (low : ℕ) → level ≤ low → AllByRecursion (λ n. low ≤ n.level) made → below level made ≡ []
none_up level [] low le a = refl
none_up level (m ∷ made) low le a = cond-false (ltb m.level level) (m ∷ below level made) (below level made) (le-ltb _ _ (omega (arith, le, a.0))) ∙ none_up level made low le a.1

front_below : (top level : ℕ) (made : List Made) → IsRising top made → (rest : List Made) × (made ≡ below level made ++ rest)
front_below top level [] r = ([], refl)
front_below top level (m ∷ made) r = elim (cases_lt m.level level) [
  | inl lt ↦ (
      let ih = front_below top level made r.2 in
      (ih.0, ap (λ (x : List Made). m ∷ x) ih.1 ∙ ap (λ (x : List Made). x ++ ih.0) (sym (cond-true (ltb m.level level) (m ∷ below level made) (below level made) (lt-ltb _ _ lt)))))
  | inr le ↦ (m ∷ made, ap (λ (x : List Made). x ++ m ∷ made) (sym (cond-false (ltb m.level level) (m ∷ below level made) (below level made) (le-ltb _ _ le) ∙ none_up level made m.level le r.1)))
]

front_literals : (t : Trailed) (level : ℕ) → IsTrail t → (rest : List Literal) × (literals t.made ≡ literals (below level t.made) ++ rest)
front_literals t level k =
    let f = front_below t.level level t.made k.rising in
    (literals f.0, ap literals f.1 ∙ map-append (λ (m : Made). m.lit) (below level t.made) f.0)

late : (t : Trailed) (p q : Literal) (level : ℕ) → IsTrail t → rank (literals t.made) q ≤ rank (literals t.made) p → is_open (literals (below level t.made)) p ≡ false → is_open (literals (below level t.made)) q ≡ false
late t p q level k le o =
    let f = front_literals t level k in
    let front = literals (below level t.made) in
    let there = place_in (negated p) front f.0 (not-false (has front (negated p)) o) in
    let p_at = ap (position_or_len (is_same (negated p))) f.1 in
    let q_at = ap (position_or_len (is_same (negated q))) f.1 in
    let h = in_place (negated q) front f.0 (omega (arith, le, there, p_at, q_at)) in
    ap not h

-- Places of which no other ranks above may be watched first.
pub latest_is : (t : Trailed) (c : Bounded) (watched : ℕ → Bool) → IsTrail t → AreLatest (literals t.made) (listed c) watched → IsLatest t.made c watched
latest_is t c watched k h = record {
  open_ = λ p q pl ql wp op oq. elim (cases_Bool (watched q)) [
    | inl w ↦ w
    | inr w ↦ absurd (omega (arith, h p q pl ql wp w, rank_false (literals t.made) (lit_at (listed c) p) op, rank_open (literals t.made) (lit_at (listed c) q) oq))
  ];
  late = λ p q level pl ql wp wq op oq. late t (lit_at (listed c) p) (lit_at (listed c) q) level k (h p q pl ql wp wq) op;
}

-- one place more in the search for the latest
pub later_step : (r : ℕ → ℕ) (P : ℕ → Type 0) (n place latest new : ℕ) → latest < n → P latest → place < n → P place → (new ≡ latest) ⊎ (new ≡ place) → r latest ≤ r new → r place ≤ r new → ((q : ℕ) → q < place → P q → r q ≤ r latest) → (new < n) × P new × ((q : ℕ) → q < place + 1 → P q → r q ≤ r new)
later_step r P n place latest new ll pl lp pp one a b h = (
  elim one [ inl e ↦ omega (arith, e, ll) | inr e ↦ omega (arith, e, lp) ],
  elim one [ inl e ↦ subst P (sym e) pl | inr e ↦ subst P (sym e) pp ],
  λ q lt pq. elim (cases_lt q place) [
    | inl l ↦ omega (arith, h q l pq, a)
    | inr g ↦ (let e : q ≡ place = omega (arith, lt, g) in omega (arith, ap r e, b))
  ],
)

pub skip_step : (r : ℕ → ℕ) (P : ℕ → Type 0) (place latest : ℕ) → (P place → ⊥) → ((q : ℕ) → q < place → P q → r q ≤ r latest) → (q : ℕ) → q < place + 1 → P q → r q ≤ r latest
skip_step r P place latest n h q lt pq = elim (cases_lt q place) [
  | inl l ↦ h q l pq
  | inr g ↦ (let e : q ≡ place = omega (arith, lt, g) in absurd (n (subst P e pq)))
]
