-- Where each literal of a trail comes from, while the trail grows, goes back, or begins a level.
use Rattle.std.proofs.Common.{◌≡◌, ℕ, zero, suc, ◌+◌, ◌-◌, ◌≤◌, ◌<◌, ◌⊎◌, ◌++◌, Bool, true, false, cond, List, [], ◌∷◌, Some, None, length, take, refl, sym, ap, ◌∙◌, subst, inl, inr, arith}
use Rattle.std.specs.Prelude.{slice_get, nat_lt}
use Rattle.std.specs.List.{AllByRecursion}
use Rattle.std.proofs.lemmas.Bool.{cases_lt, lt-ltb}
use Rattle.std.proofs.lemmas.Option.{slice_get_within}
use Rattle.kn_logic.specs.Literals.{Literal}
use Rattle.kn_watch.specs.declared.trail.Made.{Made}
use Rattle.kn_watch.specs.Trails.{Trailed, literals, below, IsTrail, IsFront}
use Rattle.kn_propagate.specs.Chains.{Watching, IsGrown, HasReason, AreReasoned}
use Rattle.kn_propagate.specs.Wholes.{IsAssumed, IsFollowing, AreFounded, AreBegun}
use Rattle.kn_propagate.proofs.Reasons.{get_front, get_last, take_lits}
use Rattle.kn_propagate.proofs.Handing.{level_at, rising_at}

-- how an entry came
abbrev IsEntered : List Watching → List Made → ℕ → Made → Type 0
IsEntered ws made place m = IsAssumed made place m ⊎ (HasReason ws (take place (literals made)) m × IsFollowing made place m)

entered_more : (ws : List Watching) (made more : List Made) (place : ℕ) (m : Made) → place < length made → IsEntered ws made place m → IsEntered ws (made ++ more) place m
entered_more ws made more place m lt (inl a) = inl (a.0, a.1, λ q n ql e. a.2 q n ql (sym (get_front made more q (omega (arith, ql, lt))) ∙ e))
entered_more ws made more place m lt (inr a) = inr (
  subst (λ (x : List Literal). HasReason ws x m) (sym (take_lits made more place (omega (arith, lt)))) a.0,
  elim (a.1) [
    | inl z ↦ inl z
    | inr f ↦ inr (f.0, f.1, f.2, get_front made more f.0 (omega (arith, f.2, lt)) ∙ f.3, f.4)
  ],
)

entered_less : (ws : List Watching) (made more : List Made) (place : ℕ) (m : Made) → place < length made → IsEntered ws (made ++ more) place m → IsEntered ws made place m
entered_less ws made more place m lt (inl a) = inl (a.0, a.1, λ q n ql e. a.2 q n ql (get_front made more q (omega (arith, ql, lt)) ∙ e))
entered_less ws made more place m lt (inr a) = inr (
  subst (λ (x : List Literal). HasReason ws x m) (take_lits made more place (omega (arith, lt))) a.0,
  elim (a.1) [
    | inl z ↦ inl z
    | inr f ↦ inr (f.0, f.1, f.2, sym (get_front made more f.0 (omega (arith, f.2, lt))) ∙ f.3, f.4)
  ],
)

level_of : (level : ℕ) (more : List Made) (place : ℕ) (m : Made) → AllByRecursion (λ x. x.level ≡ level) more → slice_get more place ≡ Some m → m.level ≡ level
level_of level [] place m a e = absurd cc
level_of level (x ∷ more) zero m a e = let q : x ≡ m = cc in subst (λ (z : Made). z.level ≡ level) q a.0
level_of level (x ∷ more) (suc place) m a e = level_of level more place m a.1 e

level_added : (level : ℕ) (made more : List Made) (place : ℕ) (m : Made) → AllByRecursion (λ x. x.level ≡ level) more → length made ≤ place → slice_get (made ++ more) place ≡ Some m → m.level ≡ level
level_added level [] more place m a le e = level_of level more place m a e
level_added level (x ∷ made) more zero m a le e = absurd (omega (arith, le))
level_added level (x ∷ made) more (suc place) m a le e = level_added level made more place m a (omega (arith, le)) e

pub founded_grows : (ws : List Watching) (t u : Trailed) → IsGrown t u → AreReasoned ws t.made u.made → AreBegun t → AreFounded ws t.made → AreFounded ws u.made
founded_grows ws t u g r b f place m e =
    let is = g.grows.1 in
    let e2 = ap (λ (x : List Made). slice_get x place) (sym is) ∙ e in
    elim (cases_lt place (length t.made)) [
      | inl lt ↦ subst (λ (x : List Made). IsEntered ws x place m) (sym is) (entered_more ws t.made g.grows.0 place m lt (f place m (sym (get_front t.made g.grows.0 place lt) ∙ e2)))
      | inr ge ↦ (
          let level = level_added t.level t.made g.grows.0 place m g.grows.2 ge e2 in
          inr (
            r place m ge e,
            elim (cases_lt 0 t.level) [
              | inr z ↦ inl (omega (arith, level, z))
              | inl above ↦ (
                  let h = b t.level (omega (arith, above)) (omega arith) in
                  let lt = slice_get_within t.made h.0 h.1 h.2 in
                  inr (h.0, h.1, omega (arith, lt, ge), ap (λ (x : List Made). slice_get x h.0) is ∙ get_front t.made g.grows.0 h.0 lt ∙ h.2, h.3 ∙ sym level))
            ],
          ))
    ]

pub begun_grows : (t u : Trailed) → IsGrown t u → AreBegun t → AreBegun u
begun_grows t u g b k le high =
    let h = b k le (omega (arith, high, g.level)) in
    (h.0, h.1, ap (λ (x : List Made). slice_get x h.0) g.grows.1 ∙ get_front t.made g.grows.0 h.0 (slice_get_within t.made h.0 h.1 h.2) ∙ h.2, h.3)

pub founded_back : (ws : List Watching) (made front : List Made) → IsFront front made → AreFounded ws made → AreFounded ws front
founded_back ws made front is f place m e =
    let lt = slice_get_within front place m e in
    entered_less ws front is.0 place m lt (subst (λ (x : List Made). IsEntered ws x place m) is.1 (f place m (ap (λ (x : List Made). slice_get x place) is.1 ∙ get_front front is.0 place lt ∙ e)))

kept_step : (x m : Made) (level : ℕ) (made : List Made) (b : Bool) → nat_lt x.level level ≡ b → ((q : ℕ) × (slice_get (below level made) q ≡ Some m)) → (q : ℕ) × (slice_get (cond b (x ∷ below level made) (below level made)) q ≡ Some m)
kept_step x m level made true e h = (suc h.0, h.1)
kept_step x m level made false e h = h

first_step : (x m : Made) (level : ℕ) (made : List Made) (b : Bool) → nat_lt x.level level ≡ b → m.level < level → x ≡ m → (q : ℕ) × (slice_get (cond b (x ∷ below level made) (below level made)) q ≡ Some m)
first_step x m level made true e lt s = (zero, ap (λ (z : Made). Some z) s)
first_step x m level made false e lt s = (let t = lt-ltb m.level level lt in let u = ap (λ (z : Made). nat_lt z.level level) s in absurd cc)

-- an entry below a level stands in what is below it
kept_below : (level : ℕ) (made : List Made) (p : ℕ) (m : Made) → slice_get made p ≡ Some m → m.level < level → (q : ℕ) × (slice_get (below level made) q ≡ Some m)
kept_below level [] p m e lt = absurd cc
kept_below level (x ∷ made) zero m e lt = let s : x ≡ m = cc in first_step x m level made (nat_lt x.level level) refl lt s
kept_below level (x ∷ made) (suc p) m e lt = kept_step x m level made (nat_lt x.level level) refl (kept_below level made p m e lt)

pub begun_back : (t u : Trailed) (level : ℕ) → level ≤ t.level → u.level ≡ level → u.made ≡ below (level + 1) t.made → AreBegun t → AreBegun u
begun_back t u level le at made b k low high =
    let h = b k low (omega (arith, high, at, le)) in
    let q = kept_below (level + 1) t.made h.0 h.1 h.2 (omega (arith, h.3, high, at)) in
    (q.0, h.1, ap (λ (x : List Made). slice_get x q.0) made ∙ q.1, h.3)

snoc_get : (made : List Made) (m : Made) → slice_get (made ++ m ∷ []) (length made) ≡ Some m
snoc_get [] m = refl
snoc_get (x ∷ made) m = snoc_get made m

pub founded_assume : (ws : List Watching) (t : Trailed) (m : Made) → IsTrail t → m.reason ≡ None → m.level ≡ t.level + 1 → AreFounded ws t.made → AreFounded ws (t.made ++ m ∷ [])
founded_assume ws t m k r level f place n e = elim (cases_lt place (length t.made)) [
  | inl lt ↦ entered_more ws t.made (m ∷ []) place n lt (f place n (sym (get_front t.made (m ∷ []) place lt) ∙ e))
  | inr ge ↦ (
      let l = get_last t.made m n place ge e in
      inl (
        ap (λ (x : Made). x.reason) l.1 ∙ r,
        omega (arith, ap (λ (x : Made). x.level) l.1, level),
        λ q x ql g. (
            let ql2 : q < length t.made = omega (arith, ql, l.0) in
            let high = level_at t.level t.made q x k.rising (sym (get_front t.made (m ∷ []) q ql2) ∙ g) in
            omega (arith, high, ap (λ (z : Made). z.level) l.1, level)),
      ))
]

pub begun_assume : (t v : Trailed) (m : Made) → v.level ≡ t.level + 1 → v.made ≡ t.made ++ m ∷ [] → m.level ≡ t.level + 1 → AreBegun t → AreBegun v
begun_assume t v m level made ml b k low high = elim (cases_lt t.level k) [
  | inl lt ↦ (length t.made, m, ap (λ (x : List Made). slice_get x (length t.made)) made ∙ snoc_get t.made m, omega (arith, lt, high, level, ml))
  | inr ge ↦ (
      let h = b k low ge in
      (h.0, h.1, ap (λ (x : List Made). slice_get x h.0) made ∙ get_front t.made (m ∷ []) h.0 (slice_get_within t.made h.0 h.1 h.2) ∙ h.2, h.3))
]

-- there are no more levels above 0 than literals
climb : (t : Trailed) → IsTrail t → (b : AreBegun t) → (k : ℕ) → k < t.level → (p : ℕ) × (m : Made) × (slice_get t.made p ≡ Some m) × (m.level ≡ k + 1) × (k ≤ p)
climb t kt b zero lt = let h = b 1 (omega arith) (omega (arith, lt)) in (h.0, h.1, h.2, omega (arith, h.3), omega arith)
climb t kt b (suc k) lt =
    let i = climb t kt b k (omega (arith, lt)) in
    let h = b (suc k + 1) (omega arith) (omega (arith, lt)) in (
      h.0,
      h.1,
      h.2,
      h.3,
      elim (cases_lt i.0 h.0) [
        | inl above ↦ omega (arith, above, i.4)
        | inr under ↦ absurd (let r = rising_at t.level t.made h.0 i.0 h.1 i.1 kt.rising under h.2 i.2 in omega (arith, r, h.3, i.3))
      ],
    )

pub levels_few : (t : Trailed) → IsTrail t → AreBegun t → t.level ≤ length t.made
levels_few t kt b = elim (cases_lt 0 t.level) [
  | inr z ↦ omega (arith, z)
  | inl above ↦ (
      let i = climb t kt b (t.level - 1) (omega (arith, above)) in
      let lt = slice_get_within t.made i.0 i.1 i.2 in
      omega (arith, lt, i.4, above))
]
