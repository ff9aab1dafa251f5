-- An engine after a literal was assumed, and after going back to a level.
use Rattle.std.proofs.Common.{◌≡◌, ℕ, zero, suc, ◌+◌, ◌*◌, ◌≤◌, ◌<◌, ◌++◌, min, true, List, [], ◌∷◌, Option, Some, None, length, take, refl, sym, ap, ◌∙◌, subst, inl, inr, arith}
use Rattle.std.proofs.lemmas.Bool.{cases_lt, or_cases, or_left, or_right}
use Rattle.std.proofs.lemmas.List.{map-append, take-append-le}
use Rattle.kn_logic.specs.Literals.{Literal, is_same, has}
use Rattle.kn_logic.specs.Propagation.{open_places, IsShort}
use Rattle.kn_watch.specs.declared.trail.Made.{Made}
use Rattle.kn_watch.specs.Trails.{Trailed, literals, below, IsRising, IsTrail, IsFront, Grows}
use Rattle.kn_watch.specs.Watches.{listed, NoneFalse, IsSatisfied}
use Rattle.kn_watch.proofs.Public.{Within, IsTop, rising_top, below_top, below_grown, below_within, below_twice, below_all, settled_now, settled_grows, none_false_within, tight}
use Rattle.kn_propagate.specs.declared.step.Step.{Step}
use Rattle.kn_propagate.specs.declared.step.Step.TheVariants.{Closed, Conflict}
use Rattle.kn_propagate.specs.Engines.{closed_only}
use Rattle.kn_propagate.specs.Chains.{Watching, Chained, at_slot, AreKept, IsAtRest}
use Rattle.kn_propagate.specs.Wholes.{AreFounded, IsQuiet, Says, IsTabled, IsWhole}
use Rattle.kn_propagate.proofs.Resting.{rest_back}
use Rattle.kn_propagate.proofs.Walks.{has_take, length-literals}
use Rattle.kn_propagate.proofs.Advancing.{take_whole}
use Rattle.kn_propagate.proofs.Looking.{open_most}
use Rattle.kn_propagate.proofs.Founding.{founded_back, begun_back, founded_assume, begun_assume}

length_snoc : (made : List Made) (m : Made) → length (made ++ m ∷ []) ≡ length made + 1
length_snoc [] m = refl
length_snoc (x ∷ made) m = omega (arith, length_snoc made m)

-- A literal is assumed where the trail is closed.
pub whole_assume : (t u v : Trailed) (m : Made) (ws : List Watching) (chains : Chained) (visited : ℕ) (pending : List ℕ) (find : ℕ → Option ℕ) → IsWhole t ws chains visited (Some Closed) pending find → u ≡ (record t { level = t.level + 1 }) → v ≡ (record u { made = u.made ++ m ∷ [] }) → m.level ≡ u.level → m.reason ≡ None → IsTrail v → IsWhole v ws chains visited None pending find
whole_assume t u v m ws chains visited pending find w is iv ml reason kept =
    let e = w.tabled in
    let all = w.says.0 in
    let quiet = w.says.1 in
    let vars : v.vars ≡ t.vars = ap (λ (x : Trailed). x.vars) iv ∙ ap (λ (x : Trailed). x.vars) is in
    let level : v.level ≡ t.level + 1 = ap (λ (x : Trailed). x.level) iv ∙ ap (λ (x : Trailed). x.level) is in
    let made : v.made ≡ t.made ++ m ∷ [] = ap (λ (x : Trailed). x.made) iv ∙ ap (λ (x : Trailed). x.made ++ m ∷ []) is in
    let mlevel : m.level ≡ t.level + 1 = ml ∙ ap (λ (x : Trailed). x.level) is in
    let grows : Grows (t.level + 1) t.made v.made = (m ∷ [], made, (mlevel, tt)) in
    let top : IsTop (t.level + 1) v.made = rising_top (t.level + 1) v.made (subst (λ (n : ℕ). IsRising n v.made) level kept.rising) in
    let old_top : IsTop t.level t.made = rising_top t.level t.made e.fresh.trail.rising in
    let front : take visited (literals v.made) ≡ take visited (literals t.made) = ap (λ (x : List Made). take visited (literals x)) made ∙ ap (take visited) (map-append (λ (x : Made). x.lit) t.made (m ∷ [])) ∙ take-append-le visited (literals t.made) (literals (m ∷ [])) (omega (arith, e.visited_, length-literals t.made)) in
    let whole : take visited (literals t.made) ≡ literals t.made = take_whole (literals t.made) visited (omega (arith, all, length-literals t.made)) in
    let low : below 1 v.made ≡ below 1 t.made = below_grown (t.level + 1) 1 t.made v.made grows (omega arith) in
    record {
      tabled = record {
        small = omega (arith, e.small, vars);
        sized = e.sized ∙ ap (λ (k : ℕ). 2 * k + 3) (sym vars);
        visited_ = omega (arith, e.visited_, all, ap (λ (x : List Made). length x) made, length_snoc t.made m);
        few = e.few;
        kept = subst (λ (k : ℕ). AreKept k ws) (sym vars) e.kept;
        fresh = record {
          trail = kept;
          fresh = λ l h. (
              let h1 = subst (λ (k : ℕ). has (literals (below k v.made)) l ≡ true) level h in
              let h2 = subst (λ (x : List Made). has (literals x) l ≡ true) (below_grown (t.level + 1) (t.level + 1) t.made v.made grows (omega arith)) h1 in
              let h3 = below_all t.made (t.level + 1) l h2 in
              subst (λ (x : List Literal). has x l ≡ true) (sym (front ∙ whole)) h3);
        };
        founded = subst (AreFounded ws) (sym made) (founded_assume ws t m e.fresh.trail reason mlevel e.founded);
        begun = begun_assume t v m level made mlevel e.begun;
        still = e.still;
        spare = e.spare;
        rest = λ slot lt. inl (elim (e.rest slot lt) [
          | inl a ↦ elim a [
            | inl x ↦ inl (settled_grows (t.level + 1) t.made v.made (at_slot ws slot).c (at_slot ws slot).watches grows top x)
            | inr n ↦ inr (subst (λ (x : List Literal). NoneFalse x (at_slot ws slot).c (at_slot ws slot).watches) (sym front) n)
          ]
          | inr p ↦ inl (settled_grows (t.level + 1) t.made v.made (at_slot ws slot).c (at_slot ws slot).watches grows top
              (settled_now t.level t.made (at_slot ws slot).c (at_slot ws slot).watches old_top (tight (literals t.made) (at_slot ws slot).c p.2 (quiet slot lt)) p.1))
        ]);
        narrow = λ slot lt. elim (e.narrow slot lt) [
          | inl b ↦ inl b
          | inr h ↦ elim h [
            | inl s ↦ inr (inl (subst (λ (x : List Made). IsSatisfied (literals x) (at_slot ws slot).c) (sym low) s))
            | inr z ↦ elim (cases_lt (at_slot ws slot).c.bound (length (listed (at_slot ws slot).c))) [
              | inl b ↦ inl b
              | inr ge ↦ (
                  let sat = tight (literals t.made) (at_slot ws slot).c (omega (arith, ge, open_most (literals t.made) (listed (at_slot ws slot).c))) (quiet slot lt) in
                  let same : below 1 t.made ≡ t.made = ap (λ (k : ℕ). below (k + 1) t.made) (sym z.0) ∙ below_top t.level t.made old_top in
                  inr (inl (subst (λ (x : List Made). IsSatisfied (literals x) (at_slot ws slot).c) (sym (low ∙ same)) sat)))
            ]
          ]
        ];
        due = e.due;
        lower = λ k kl slot sl short. (
            let same : below (k + 1) v.made ≡ below (k + 1) t.made = below_grown (t.level + 1) (k + 1) t.made v.made grows (omega (arith, kl, level)) in
            let short2 = subst (λ (x : List Made). IsShort (literals x) (at_slot ws slot).c) same short in
            elim (cases_lt k t.level) [
              | inl lt ↦ e.lower k lt slot sl short2
              | inr ge ↦ (
                  let n : k ≡ t.level = omega (arith, kl, level, ge) in
                  let now : below (k + 1) t.made ≡ t.made = ap (λ (i : ℕ). below (i + 1) t.made) n ∙ below_top t.level t.made old_top in
                  quiet slot sl (subst (λ (x : List Made). IsShort (literals x) (at_slot ws slot).c) now short2))
            ]);
      };
      index = w.index;
      says = tt;
    }

-- what stands in the front and was visited before was visited among the front
in_front : (front rest : List Literal) (visited now : ℕ) (l : Literal) → now ≡ min visited (length front) → has front l ≡ true → has (take visited (front ++ rest)) l ≡ true → has (take now front) l ≡ true
in_front front rest visited now l e f h = elim (cases_lt visited (length front)) [
  | inl lt ↦ (let n : now ≡ visited = omega (arith, e, lt) in subst (λ (k : ℕ). has (take k front) l ≡ true) (sym n) (subst (λ (x : List Literal). has x l ≡ true) (take-append-le visited front rest (omega (arith, lt))) h))
  | inr ge ↦ subst (λ (x : List Literal). has x l ≡ true) (sym (take_whole front now (omega (arith, e, ge)))) f
]

take_more_has : (front rest : List Literal) (visited now : ℕ) (l : Literal) → now ≤ visited → has (take now front) l ≡ true → has (take visited (front ++ rest)) l ≡ true
take_more_has front rest visited zero l le h = absurd cc
take_more_has [] rest visited (suc now) l le h = absurd cc
take_more_has (x ∷ front) rest zero (suc now) l le h = absurd (omega (arith, le))
take_more_has (x ∷ front) rest (suc visited) (suc now) l le h = elim (or_cases (is_same l x) (has (take now front) l) h) [
  | inl s ↦ or_left (is_same l x) _ s
  | inr t ↦ or_right (is_same l x) _ (take_more_has front rest visited now l (omega (arith, le)) t)
]

longer : (a b : List Made) → length a ≤ length (a ++ b)
longer [] b = omega arith
longer (m ∷ a) b = omega (arith, longer a b)

tabled_back : (t u : Trailed) (ws : List Watching) (chains : Chained) (visited now level : ℕ) (pending : List ℕ) → IsTabled t ws chains visited pending → level ≤ t.level → u ≡ (record t { level = level; made = below (level + 1) t.made }) → IsFront u.made t.made → IsTrail u → now ≡ min visited (length u.made) → IsTabled u ws chains now pending
tabled_back t u ws chains visited now level pending e le is front kept n =
    let vars : u.vars ≡ t.vars = ap (λ (x : Trailed). x.vars) is in
    let made : u.made ≡ below (level + 1) t.made = ap (λ (x : Trailed). x.made) is in
    let at : u.level ≡ level = ap (λ (x : Trailed). x.level) is in
    let lits : literals t.made ≡ literals u.made ++ literals front.0 = ap literals front.1 ∙ map-append (λ (m : Made). m.lit) u.made front.0 in
    let n2 : now ≡ min visited (length (literals u.made)) = n ∙ ap (min visited) (sym (length-literals u.made)) in
    let visited_now : Within (take now (literals u.made)) (take visited (literals t.made)) = λ l h. subst (λ (x : List Literal). has (take visited x) l ≡ true) (sym lits) (take_more_has (literals u.made) (literals front.0) visited now l (omega (arith, n)) h) in
    let less : Within (take now (literals u.made)) (literals (below (level + 1) t.made)) = λ l h. subst (λ (x : List Made). has (literals x) l ≡ true) made (has_take now (literals u.made) l h) in
    record {
      small = omega (arith, e.small, vars);
      sized = e.sized ∙ ap (λ (k : ℕ). 2 * k + 3) (sym vars);
      visited_ = omega (arith, n);
      few = e.few;
      kept = subst (λ (k : ℕ). AreKept k ws) (sym vars) e.kept;
      fresh = record {
        trail = kept;
        fresh = λ m h. (
            let h1 = subst (λ (k : ℕ). has (literals (below k u.made)) m ≡ true) at h in
            let inside = below_all u.made level m h1 in
            let h2 = subst (λ (x : List Made). has (literals x) m ≡ true) (ap (below level) made ∙ below_twice t.made level (level + 1) (omega arith)) h1 in
            let h3 = e.fresh.fresh m (below_within t.made level t.level le m h2) in
            in_front (literals u.made) (literals front.0) visited now m n2 inside (subst (λ (x : List Literal). has (take visited x) m ≡ true) lits h3));
      };
      founded = founded_back ws t.made u.made front e.founded;
      begun = begun_back t u level le at made e.begun;
      still = e.still;
      spare = e.spare;
      rest = λ slot lt. elim (e.rest slot lt) [
        | inl a ↦ inl (subst (λ (x : List Made). IsAtRest x (take now (literals u.made)) (at_slot ws slot)) (sym made)
            (rest_back t.made (take visited (literals t.made)) (take now (literals u.made)) (level + 1) (at_slot ws slot) visited_now less a))
        | inr p ↦ elim (cases_lt level t.level) [
          | inl lower ↦ inl (inr (none_false_within (take now (literals u.made)) (literals (below t.level t.made)) (at_slot ws slot).c (at_slot ws slot).watches (λ l h. below_within t.made (level + 1) t.level (omega (arith, lower)) l (less l h)) p.1))
          | inr ge ↦ (
              let same : level ≡ t.level = omega (arith, ge, le) in
              let all : u.made ≡ t.made = made ∙ ap (λ (k : ℕ). below (k + 1) t.made) same ∙ below_top t.level t.made (rising_top t.level t.made e.fresh.trail.rising) in
              inr (
                p.0,
                subst (λ (x : List Made). NoneFalse (literals x) (at_slot ws slot).c (at_slot ws slot).watches) (sym (ap (λ (k : ℕ). below k u.made) (at ∙ same) ∙ ap (below t.level) all)) p.1,
                subst (λ (x : List Made). open_places (literals x) (listed (at_slot ws slot).c) ≤ (at_slot ws slot).c.bound) (sym all) p.2,
              ))
        ]
      ];
      narrow = λ slot lt. elim (e.narrow slot lt) [
        | inl b ↦ inl b
        | inr h ↦ elim h [
          | inl s ↦ inr (inl (subst (λ (x : List Made). IsSatisfied (literals x) (at_slot ws slot).c) (sym (ap (below 1) made ∙ below_twice t.made 1 (level + 1) (omega arith))) s))
          | inr z ↦ inr (inr (omega (arith, at, le, z.0), z.1))
        ]
      ];
      due = e.due;
      lower = λ k kl slot sl short. (
          let kl2 : k < level = omega (arith, kl, at) in
          let same : below (k + 1) u.made ≡ below (k + 1) t.made = ap (below (k + 1)) made ∙ below_twice t.made (k + 1) (level + 1) (omega (arith, kl2)) in
          e.lower k (omega (arith, kl2, le)) slot sl (subst (λ (x : List Made). IsShort (literals x) (at_slot ws slot).c) same short));
    }

says_back : (t u : Trailed) (ws : List Watching) (visited now level : ℕ) (last : Option Step) → IsTrail t → ((k : ℕ) → k < t.level → IsQuiet (literals (below (k + 1) t.made)) ws) → level ≤ t.level → u.made ≡ below (level + 1) t.made → length u.made ≤ length t.made → now ≡ min visited (length u.made) → Says t ws visited last → Says u ws now (closed_only last)
says_back t u ws visited now level None k lower le made few n s = tt
says_back t u ws visited now level (Some (Conflict id)) k lower le made few n s = tt
says_back t u ws visited now level (Some Closed) k lower le made few n s = (
  omega (arith, n, few, s.0),
  subst (λ (x : List Made). IsQuiet (literals x) ws) (sym made) (elim (cases_lt level t.level) [
    | inl lt ↦ lower level lt
    | inr ge ↦ (
        let same : level ≡ t.level = omega (arith, ge, le) in
        subst (λ (x : List Made). IsQuiet (literals x) ws) (sym (ap (λ (i : ℕ). below (i + 1) t.made) same ∙ below_top t.level t.made (rising_top t.level t.made k.rising))) s.1)
  ]),
)

-- The literals of higher levels lose their values.
pub whole_back : (t u : Trailed) (ws : List Watching) (chains : Chained) (visited now level : ℕ) (last : Option Step) (pending : List ℕ) (find : ℕ → Option ℕ) → IsWhole t ws chains visited last pending find → level ≤ t.level → u ≡ (record t { level = level; made = below (level + 1) t.made }) → IsFront u.made t.made → IsTrail u → now ≡ min visited (length u.made) → IsWhole u ws chains now (closed_only last) pending find
whole_back t u ws chains visited now level last pending find w le is front kept n = record {
  tabled = tabled_back t u ws chains visited now level pending w.tabled le is front kept n;
  index = w.index;
  says = says_back t u ws visited now level last w.tabled.fresh.trail w.tabled.lower le (ap (λ (x : Trailed). x.made) is) (omega (arith, ap (λ (x : List Made). length x) front.1, longer u.made front.0)) n w.says;
}
