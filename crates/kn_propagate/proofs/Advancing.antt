-- What the tables keep while the trail grows: constraints that were added are looked at, then all that is new is
-- visited.
use Rattle.std.proofs.Common.{◌≡◌, ℕ, zero, suc, ◌+◌, ◌*◌, ◌≤◌, ◌<◌, true, eqb, List, [], ◌∷◌, length, take, refl, sym, ap, ◌∙◌, subst, inl, inr, arith}
use Rattle.std.specs.Prelude.{slice_index_or}
use Rattle.std.proofs.lemmas.Bool.{cases_lt, or_left, or_right, eq-eqb}
use Rattle.kn_logic.specs.Literals.{Literal, has}
use Rattle.kn_logic.specs.Propagation.{IsShort}
use Rattle.kn_watch.specs.declared.trail.Made.{Made}
use Rattle.kn_watch.specs.Trails.{Trailed, literals, below}
use Rattle.kn_watch.specs.Watches.{listed, NoneFalse, IsSatisfied, IsBroad}
use Rattle.kn_watch.proofs.Public.{IsTop, below_grown, below_top, below_all, rising_top, within_grown, all_within_grown, satisfied_within, satisfied_quiet, settled_now, settled_grows, consistent_of}
use Rattle.kn_propagate.specs.declared.chains.Spot.{Spot}
use Rattle.kn_propagate.specs.Chains.{Watching, Chained, at_slot, is_in, spot_at, IsChain, AreSame, AreKept, IsAtRest, IsGrown, AreReasoned, AreSpared, AreSettled, IsFresh, IsIdle, AreSpare, nobody}
use Rattle.kn_propagate.specs.Wholes.{IsPending, IsGuarded, IsQuiet, AreFounded, IsTabled}
use Rattle.kn_propagate.proofs.Resting.{rest_quiet}
use Rattle.kn_propagate.proofs.Walks.{fresh_on, grown_long, length-literals}
use Rattle.kn_propagate.proofs.Reasons.{take_lits, reason_same}
use Rattle.kn_propagate.proofs.Looking.{open_less, open_most}
use Rattle.kn_propagate.proofs.Founding.{founded_grows, begun_grows}

-- what was visited stays the same while the trail grows
pub seen_grown : (t u : Trailed) (n : ℕ) → IsGrown t u → n ≤ length t.made → take n (literals u.made) ≡ take n (literals t.made)
seen_grown t u n g le = ap (λ (x : List Made). take n (literals x)) g.grows.1 ∙ take_lits t.made g.grows.0 n le

below_level : (t u : Trailed) → IsGrown t u → below u.level u.made ≡ below t.level t.made
below_level t u g = ap (λ (n : ℕ). below n u.made) g.level ∙ below_grown t.level t.level t.made u.made g.grows (omega arith)

rest_grown : (t u : Trailed) (n : ℕ) (w : Watching) → IsGrown t u → n ≤ length t.made → IsAtRest t.made (take n (literals t.made)) w → IsAtRest u.made (take n (literals u.made)) w
rest_grown t u n w g le r = elim r [
  | inl s ↦ inl (settled_grows t.level t.made u.made w.c w.watches g.grows (subst (λ (k : ℕ). IsTop k u.made) g.level (rising_top u.level u.made g.kept.rising)) s)
  | inr f ↦ inr (subst (λ (x : List Literal). NoneFalse x w.c w.watches) (sym (seen_grown t u n g le)) f)
]

guarded_grown : (t u : Trailed) (pending : List ℕ) (slot : ℕ) (w : Watching) → IsGrown t u → IsGuarded t pending slot w → IsGuarded u pending slot w
guarded_grown t u pending slot w g h = elim h [
  | inl b ↦ inl b
  | inr h ↦ elim h [
    | inl s ↦ inr (inl (satisfied_within (literals (below 1 t.made)) (literals (below 1 u.made)) w.c (within_grown t.level 1 t.made u.made g.grows) s))
    | inr z ↦ inr (inr (g.level ∙ z.0, z.1))
  ]
]

pub lower_grown : (t u : Trailed) (ws new : List Watching) → IsGrown t u → AreSame ws new → ((k : ℕ) → k < t.level → IsQuiet (literals (below (k + 1) t.made)) ws) → (k : ℕ) → k < u.level → IsQuiet (literals (below (k + 1) u.made)) new
lower_grown t u ws new g s h k kl slot sl short =
    let kl2 : k < t.level = omega (arith, kl, g.level) in
    h k kl2 slot (omega (arith, sl, s.long))
    (subst (λ (x : List Made). IsShort (literals x) (at_slot ws slot).c) (below_grown t.level (k + 1) t.made u.made g.grows (omega (arith, kl2)))
    (subst (IsShort (literals (below (k + 1) u.made))) (s.same slot) short))

pub same_self : (ws : List Watching) → AreSame ws ws
same_self ws = record { long = refl; same = λ slot. refl; ids = λ slot. refl }

-- The trail grows; nothing is visited yet.
pub tabled_grows : (t u : Trailed) (ws : List Watching) (chains : Chained) (visited : ℕ) (pending : List ℕ) → IsTabled t ws chains visited pending → IsGrown t u → AreReasoned ws t.made u.made → IsTabled u ws chains visited pending
tabled_grows t u ws chains visited pending w g r = record {
  small = omega (arith, w.small, g.vars);
  sized = w.sized ∙ ap (λ (n : ℕ). 2 * n + 3) (sym g.vars);
  visited_ = omega (arith, w.visited_, grown_long t u g);
  few = w.few;
  kept = subst (λ (n : ℕ). AreKept n ws) (sym g.vars) w.kept;
  fresh = record {
    trail = g.kept;
    fresh = λ m h. subst (λ (x : List Literal). has x m ≡ true) (sym (seen_grown t u visited g w.visited_)) (fresh_on t u visited w.fresh g m h);
  };
  founded = founded_grows ws t u g r w.begun w.founded;
  begun = begun_grows t u g w.begun;
  still = w.still;
  spare = w.spare;
  rest = λ slot lt. elim (w.rest slot lt) [
    | inl a ↦ inl (rest_grown t u visited (at_slot ws slot) g w.visited_ a)
    | inr p ↦ inr (p.0, subst (λ (x : List Made). NoneFalse (literals x) (at_slot ws slot).c (at_slot ws slot).watches) (sym (below_level t u g)) p.1, omega (arith, p.2, open_less (literals t.made) (literals u.made) (listed (at_slot ws slot).c) (all_within_grown t.level t.made u.made g.grows)))
  ];
  narrow = λ slot lt. guarded_grown t u pending slot (at_slot ws slot) g (w.narrow slot lt);
  due = w.due;
  lower = lower_grown t u ws ws g (same_self ws) w.lower;
}

none_due : (t : Trailed) (slot : ℕ) (w : Watching) → IsPending t [] slot w → ⊥
none_due t slot w p = (let i = p.0 in absurd cc)

-- All that was to be looked at is satisfied.
pub tabled_settled : (t u : Trailed) (ws : List Watching) (chains : Chained) (visited : ℕ) (pending : List ℕ) → IsTabled t ws chains visited pending → IsGrown t u → AreReasoned ws t.made u.made → AreSettled (literals t.made) (literals u.made) ws pending → IsTabled u ws chains visited []
tabled_settled t u ws chains visited pending w g r s =
    let n = tabled_grows t u ws chains visited pending w g r in
    let top = rising_top u.level u.made g.kept.rising in
    record {
      small = n.small;
      sized = n.sized;
      visited_ = n.visited_;
      few = n.few;
      kept = n.kept;
      fresh = n.fresh;
      founded = n.founded;
      begun = n.begun;
      still = n.still;
      spare = n.spare;
      rest = λ slot lt. elim (n.rest slot lt) [
        | inl a ↦ inl a
        | inr p ↦ elim (w.rest slot lt) [
          | inl a ↦ inl (rest_grown t u visited (at_slot ws slot) g w.visited_ a)
          | inr q ↦ inl (inl (settled_now u.level u.made (at_slot ws slot).c (at_slot ws slot).watches top (s slot q.0 q.2) p.1))
        ]
      ];
      narrow = λ slot lt. elim (n.narrow slot lt) [
        | inl b ↦ inl b
        | inr h ↦ elim h [
          | inl a ↦ inr (inl a)
          | inr z ↦ elim (cases_lt (at_slot ws slot).c.bound (length (listed (at_slot ws slot).c))) [
            | inl b ↦ inl b
            | inr ge ↦ (
                let sat = s slot z.1 (omega (arith, ge, open_most (literals t.made) (listed (at_slot ws slot).c))) in
                let all : below 1 u.made ≡ u.made = ap (λ (k : ℕ). below (k + 1) u.made) (sym z.0) ∙ below_top u.level u.made top in
                inr (inl (subst (λ (x : List Made). IsSatisfied (literals x) (at_slot ws slot).c) (sym all) sat)))
          ]
        ]
      ];
      due = λ slot i. absurd cc;
      lower = n.lower;
    }

pub idle_of : (t : Trailed) (ws : List Watching) (chains : Chained) (visited : ℕ) → IsTabled t ws chains visited [] → IsIdle t.made (take visited (literals t.made)) ws chains.spots chains.nexts chains.heads
idle_of t ws chains visited w = record {
  from = w.still.from;
  stopped = record {
    chain = w.still.chain;
    home = w.still.home;
    wired = w.still.wired;
    rest = λ slot lt. elim (w.rest slot lt) [
      | inl a ↦ a
      | inr p ↦ absurd (none_due t slot (at_slot ws slot) p)
    ];
  };
  empty = w.still.empty;
}

chain_spared : (nexts more : List ℕ) (head : ℕ) (free : List ℕ) → length more ≡ length nexts → ((e : ℕ) → is_in e free ≡ true → slice_index_or more e 0 ≡ slice_index_or nexts e 0) → IsChain nexts head free → IsChain more head free
chain_spared nexts more head [] l h c = c
chain_spared nexts more head (e ∷ free) l h c = (
  c.0,
  omega (arith, c.1, l),
  subst (λ (n : ℕ). IsChain more n free) (sym (h e (or_left (eqb e e) (is_in e free) (eq-eqb e e refl))))
      (chain_spared nexts more (slice_index_or nexts e 0) free l (λ x i. h x (or_right (eqb e x) (is_in x free) i)) c.2),
)

pub spare_kept : (count : ℕ) (old new : Chained) → count ≤ nobody → length old.nexts ≡ length old.spots → length new.nexts ≡ length new.spots → AreSpared count old new → AreSpare old → AreSpare new
spare_kept count old new le a b s f =
    let same : (e : ℕ) → is_in e f.0 ≡ true → (spot_at new.spots e ≡ spot_at old.spots e) × (slice_index_or new.nexts e 0 ≡ slice_index_or old.nexts e 0) = λ e i. s.rest e (omega (arith, le, f.2 e i)) in (
      f.0,
      subst (λ (n : ℕ). IsChain new.nexts n f.0) (sym s.head) (chain_spared old.nexts new.nexts old.spare f.0 (omega (arith, a, b, s.long)) (λ e i. (same e i).1) f.1),
      λ e i. ap (λ (z : Spot). z.owner) (same e i).0 ∙ f.2 e i,
    )

founded_same : (ws new : List Watching) (made : List Made) → AreSame ws new → AreFounded ws made → AreFounded new made
founded_same ws new made s f place m e =
    let back : AreSame new ws = record { long = sym s.long; same = λ slot. sym (s.same slot); ids = λ slot. sym (s.ids slot) } in
    elim (f place m e) [
      | inl a ↦ inl a
      | inr a ↦ inr (reason_same new ws (take place (literals made)) m back a.0, a.1)
    ]

-- All literals were visited, or the walk stopped at a conflict.
pub tabled_walked : (t u : Trailed) (ws new : List Watching) (chains more : Chained) (visited now : ℕ) → IsTabled t ws chains visited [] → length more.heads ≡ 2 * t.vars + 3 → AreKept t.vars new → AreSame ws new → IsGrown t u → AreReasoned ws t.made u.made → AreSpared (length ws) chains more → now ≤ length u.made → IsFresh u now → (idle : IsIdle u.made (take now (literals u.made)) new more.spots more.nexts more.heads) → IsTabled u new more now []
tabled_walked t u ws new chains more visited now w sized kept s g r spared le fresh idle = record {
  small = omega (arith, w.small, g.vars);
  sized = sized ∙ ap (λ (n : ℕ). 2 * n + 3) (sym g.vars);
  visited_ = le;
  few = omega (arith, w.few, s.long);
  kept = subst (λ (n : ℕ). AreKept n new) (sym g.vars) kept;
  fresh = fresh;
  founded = founded_same ws new u.made s (founded_grows ws t u g r w.begun w.founded);
  begun = begun_grows t u g w.begun;
  still = record { from = idle.from; chain = idle.stopped.chain; home = idle.stopped.home; wired = idle.stopped.wired; empty = idle.empty };
  spare = spare_kept (length ws) chains more w.few w.still.wired.long idle.stopped.wired.long spared w.spare;
  rest = λ slot lt. inl (idle.stopped.rest slot lt);
  narrow = λ slot lt. (
      let h = guarded_grown t u [] slot (at_slot ws slot) g (w.narrow slot (omega (arith, lt, s.long))) in
      elim h [
        | inl b ↦ inl (subst IsBroad (sym (s.same slot)) b)
        | inr h ↦ elim h [
          | inl a ↦ inr (inl (subst (IsSatisfied (literals (below 1 u.made))) (sym (s.same slot)) a))
          | inr z ↦ (let i = z.1 in absurd cc)
        ]
      ]);
  due = λ slot i. absurd cc;
  lower = lower_grown t u ws new g s w.lower;
}

pub take_whole : (lits : List Literal) (n : ℕ) → length lits ≤ n → take n lits ≡ lits
take_whole [] zero le = refl
take_whole [] (suc n) le = refl
take_whole (l ∷ lits) zero le = absurd (omega (arith, le))
take_whole (l ∷ lits) (suc n) le = ap (λ (x : List Literal). l ∷ x) (take_whole lits n (omega (arith, le)))

-- Where all is visited, and nothing is to be looked at, no constraint is short.
pub quiet_all : (t : Trailed) (ws : List Watching) (chains : Chained) (visited : ℕ) → IsTabled t ws chains visited [] → length t.made ≤ visited → IsQuiet (literals t.made) ws
quiet_all t ws chains visited w le slot lt short =
    let k = consistent_of t w.fresh.trail in
    elim (w.narrow slot lt) [
      | inl broad ↦ elim (w.rest slot lt) [
        | inl a ↦ rest_quiet t.made (at_slot ws slot) k broad (w.kept slot lt).has (subst (λ (x : List Literal). IsAtRest t.made x (at_slot ws slot)) (take_whole (literals t.made) visited (omega (arith, le, length-literals t.made))) a) short
        | inr p ↦ none_due t slot (at_slot ws slot) p
      ]
      | inr h ↦ elim h [
        | inl a ↦ satisfied_quiet (literals t.made) (at_slot ws slot).c k (satisfied_within (literals (below 1 t.made)) (literals t.made) (at_slot ws slot).c (below_all t.made 1) a) short
        | inr z ↦ (let i = z.1 in absurd cc)
      ]
    ]
