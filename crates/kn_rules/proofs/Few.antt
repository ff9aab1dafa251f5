-- How few clauses a search can learn.
use Rattle.std.proofs.Common.{◌≡◌, ℕ, zero, suc, ◌+◌, ◌-◌, ◌*◌, ◌^◌, ◌≤◌, ◌<◌, ◌⊎◌, ◌++◌, Bool, true, false, cond, eqb, List, [], ◌∷◌, map, length, Option, None, Some, Result, Ok, Err, slice_set, refl, sym, ap, ◌∙◌, subst, inl, inr, arith}
use Rattle.std.specs.List.{AllByRecursion, IsDistinct}
use Rattle.std.specs.Option.{is_none}
use Rattle.std.proofs.Math.Nat.{pow-suc, mul-le-mul_left}
use Rattle.kn_logic.specs.Literals.{Literal, AreKnown}
use Rattle.kn_logic.specs.Constraints.{Bounded, clause}
use Rattle.kn_lines.specs.declared.line.Line.{Line}
use Rattle.kn_lines.specs.declared.line.Line.TheVariants.{Header, Define, Lemma, Learned, Klause, Unfold, Delete}
use Rattle.kn_rules.specs.declared.given.Given.{Given}
use Rattle.kn_rules.specs.declared.given.Origin.{Origin}
use Rattle.kn_rules.specs.declared.given.Origin.TheVariants as origin
use Rattle.kn_rules.specs.States.{ProofState, given_at, live_at}
use Rattle.kn_rules.specs.Steps.{without, deleted}
use Rattle.kn_logic.specs.Newness.{IsNew}
use Rattle.kn_rules.specs.Stepping.{learned_in, deletions_in}
use Rattle.kn_rules.specs.Searching.{is_searched, is_learned, live_before, searched, learned_live, SearchesBy}
use Rattle.kn_rules.proofs.Stepping.{follow-gives, with_given-ok}
use Rattle.kn_rules.proofs.Codes.{code, IsProper, AreApart, Stands, apart-few, apart-push}

-- the literals of the live learned clauses
abbrev pub clauses : List Given → List (List Literal)
clauses given = map (λ c. c.lits) (learned_live given)

-- a live learned constraint is a clause
abbrev pub IsClauseIn : Bool → Option Bounded → Type 0
IsClauseIn true (Some c) = c ≡ clause c.lits
IsClauseIn kept live = Unit {0}

abbrev pub AreClauses : List Given → Type 0
AreClauses given = AllByRecursion (λ e. IsClauseIn (is_learned e.origin) e.live) given

pub record IsCounted (vars : ℕ) (given : List Given) : Type 0 where
  pub apart : AreApart vars (clauses given)
  pub each : AreClauses given

-- each live learned clause is one that a search rests on
stands-behind : (o : Origin) (live : Option Bounded) (cs : List Bounded) (lits : List Literal) → Stands cs lits → Stands (live_before (is_searched o) live cs) lits
stands-behind origin.File (Some c) cs lits (i, at) = (suc i, at)
stands-behind origin.Klause (Some c) cs lits (i, at) = (suc i, at)
stands-behind origin.Learned (Some c) cs lits (i, at) = (suc i, at)
stands-behind origin.File None cs lits h = h
stands-behind origin.Klause None cs lits h = h
stands-behind origin.Learned None cs lits h = h
stands-behind origin.Definition live cs lits h = h
stands-behind origin.Lemma live cs lits h = h
stands-behind origin.Unfolding live cs lits h = h

all-stand-behind : (o : Origin) (live : Option Bounded) (cs : List Bounded) (xs : List (List Literal)) → AllByRecursion (Stands cs) xs → AllByRecursion (Stands (live_before (is_searched o) live cs)) xs
all-stand-behind o live cs [] h = tt
all-stand-behind o live cs (x ∷ xs) h = (stands-behind o live cs x h.0, all-stand-behind o live cs xs h.1)

stand-at : (o : Origin) (live : Option Bounded) (given : List Given) → IsClauseIn (is_learned o) live → AllByRecursion (Stands (searched given)) (clauses given) → AllByRecursion (Stands (live_before (is_searched o) live (searched given))) (map (λ c. c.lits) (live_before (is_learned o) live (learned_live given)))
stand-at origin.Learned (Some c) given e h = ((0, ap (λ (d : Bounded). Some d) e), all-stand-behind origin.Learned (Some c) (searched given) (clauses given) h)
stand-at origin.Learned None given e h = h
stand-at origin.File live given e h = all-stand-behind origin.File live (searched given) (clauses given) h
stand-at origin.Klause live given e h = all-stand-behind origin.Klause live (searched given) (clauses given) h
stand-at origin.Definition live given e h = h
stand-at origin.Lemma live given e h = h
stand-at origin.Unfolding live given e h = h

learned-stand : (given : List Given) → AreClauses given → AllByRecursion (Stands (searched given)) (clauses given)
learned-stand [] h = tt
learned-stand (e ∷ given) h = stand-at e.origin e.live given h.0 (learned-stand given h.1)

-- one entry more
behind-push : (kept : Bool) (live : Option Bounded) (cs ds : List Bounded) (lits : List Literal) → map (λ (c : Bounded). c.lits) ds ≡ map (λ (c : Bounded). c.lits) cs ++ lits ∷ [] → map (λ (c : Bounded). c.lits) (live_before kept live ds) ≡ map (λ (c : Bounded). c.lits) (live_before kept live cs) ++ lits ∷ []
behind-push true (Some c) cs ds lits e = ap (λ (xs : List (List Literal)). c.lits ∷ xs) e
behind-push true None cs ds lits e = e
behind-push false live cs ds lits e = e

pub learned-push : (given : List Given) (lits : List Literal) → clauses (given ++ (record { origin = origin.Learned; live = Some (clause lits) }) ∷ []) ≡ clauses given ++ lits ∷ []
learned-push [] lits = refl
learned-push (e ∷ given) lits = behind-push (is_learned e.origin) e.live (learned_live given) (learned_live (given ++ (record { origin = origin.Learned; live = Some (clause lits) }) ∷ [])) lits (learned-push given lits)

lemma-push : (given : List Given) (lits : List Literal) → learned_live (given ++ (record { origin = origin.Lemma; live = Some (clause lits) }) ∷ []) ≡ learned_live given
lemma-push [] lits = refl
lemma-push (e ∷ given) lits = ap (λ (cs : List Bounded). live_before (is_learned e.origin) e.live cs) (lemma-push given lits)

each-push : (given : List Given) (e : Given) → AreClauses given → IsClauseIn (is_learned e.origin) e.live → AreClauses (given ++ e ∷ [])
each-push [] e h k = (k, tt)
each-push (x ∷ given) e h k = (h.0, each-push given e h.1 k)

counted-learned : (vars : ℕ) (given : List Given) (lits : List Literal) → IsCounted vars given → AreKnown vars lits → IsNew (searched given) lits → IsCounted vars (given ++ (record { origin = origin.Learned; live = Some (clause lits) }) ∷ [])
counted-learned vars given lits h known new = record {
  apart = subst (AreApart vars) (sym (learned-push given lits)) (apart-push vars (searched given) (clauses given) lits h.apart (learned-stand given h.each) new known);
  each = each-push given (record { origin = origin.Learned; live = Some (clause lits) }) h.each refl;
}

counted-lemma : (vars : ℕ) (given : List Given) (lits : List Literal) → IsCounted vars given → IsCounted vars (given ++ (record { origin = origin.Lemma; live = Some (clause lits) }) ∷ [])
counted-lemma vars given lits h = record {
  apart = subst (λ (cs : List Bounded). AreApart vars (map (λ c. c.lits) cs)) (sym (lemma-push given lits)) h.apart;
  each = each-push given (record { origin = origin.Lemma; live = Some (clause lits) }) h.each tt;
}

-- an entry less
abbrev pub Drops : List (List Literal) → List (List Literal) → Type 0
Drops old new = (new ≡ old) ⊎ ((front : List (List Literal)) × (back : List (List Literal)) × (x : List Literal) × (old ≡ front ++ x ∷ back) × (new ≡ front ++ back))

drops-more : (kept : Bool) (live : Option Bounded) (cs ds : List Bounded) → Drops (map (λ (c : Bounded). c.lits) cs) (map (λ (c : Bounded). c.lits) ds) → Drops (map (λ (c : Bounded). c.lits) (live_before kept live cs)) (map (λ (c : Bounded). c.lits) (live_before kept live ds))
drops-more true (Some c) cs ds h =
    elim h [
      | inl e ↦ inl (ap (λ (xs : List (List Literal)). c.lits ∷ xs) e)
      | inr s ↦ (let (front, back, x, e, f) = s in inr (c.lits ∷ front, back, x, ap (λ (xs : List (List Literal)). c.lits ∷ xs) e, ap (λ (xs : List (List Literal)). c.lits ∷ xs) f))
    ]
drops-more true None cs ds h = h
drops-more false live cs ds h = h

none-behind : (kept : Bool) (live : Option Bounded) (cs : List Bounded) → live ≡ None → live_before kept live cs ≡ cs
none-behind true None cs e = refl
none-behind true (Some c) cs e = absurd cc
none-behind false live cs e = refl

drops-first : (kept : Bool) (live : Option Bounded) (cs : List Bounded) → Drops (map (λ (c : Bounded). c.lits) (live_before kept live cs)) (map (λ (c : Bounded). c.lits) cs)
drops-first true (Some c) cs = inr ([], map (λ (c : Bounded). c.lits) cs, c.lits, refl, refl)
drops-first true None cs = inl refl
drops-first false live cs = inl refl

pub drops-at : (given : List Given) (k : ℕ) (d : Given) → d.live ≡ None → Drops (clauses given) (clauses (slice_set given k d))
drops-at [] k d e = inl refl
drops-at (x ∷ given) zero d e =
    subst (λ (cs : List Bounded). Drops (map (λ (c : Bounded). c.lits) (live_before (is_learned x.origin) x.live (learned_live given))) (map (λ (c : Bounded). c.lits) cs)) (sym (none-behind (is_learned d.origin) d.live (learned_live given) e))
    (drops-first (is_learned x.origin) x.live (learned_live given))
drops-at (x ∷ given) (suc k) d e = drops-more (is_learned x.origin) x.live (learned_live given) (learned_live (slice_set given k d)) (drops-at given k d e)

all-drop : {X : Type 0} (P : X → Type 0) (front back : List X) (x : X) → AllByRecursion P (front ++ x ∷ back) → AllByRecursion P (front ++ back)
all-drop P [] back x h = h.1
all-drop P (y ∷ front) back x h = (h.0, all-drop P front back x h.1)

distinct-drop : (ns ms : List ℕ) (n : ℕ) → IsDistinct eqb (ns ++ n ∷ ms) → IsDistinct eqb (ns ++ ms)
unfolding IsDistinct
distinct-drop [] ms n h = h.1
distinct-drop (m ∷ ns) ms n h = (all-drop (λ k. eqb m k ≡ false) ns ms n h.0, distinct-drop ns ms n h.1)

map-join : (vars : ℕ) (a b : List (List Literal)) → map (code vars) (a ++ b) ≡ map (code vars) a ++ map (code vars) b
map-join vars [] b = refl
map-join vars (x ∷ a) b = ap (λ (ns : List ℕ). code vars x ∷ ns) (map-join vars a b)

apart-drop : (vars : ℕ) (front back : List (List Literal)) (x : List Literal) → AreApart vars (front ++ x ∷ back) → AreApart vars (front ++ back)
apart-drop vars front back x h = record {
  proper = all-drop (IsProper vars) front back x h.proper;
  distinct = subst (λ (ns : List ℕ). IsDistinct eqb (code vars [] ∷ ns)) (sym (map-join vars front back))
      (distinct-drop (code vars [] ∷ map (code vars) front) (map (code vars) back) (code vars x)
      (subst (λ (ns : List ℕ). IsDistinct eqb (code vars [] ∷ ns)) (map-join vars front (x ∷ back)) h.distinct));
}

apart-drops : (vars : ℕ) (old new : List (List Literal)) → Drops old new → AreApart vars old → AreApart vars new
apart-drops vars old new d h =
    elim d [
      | inl e ↦ subst (AreApart vars) (sym e) h
      | inr s ↦ (let (front, back, x, e, f) = s in subst (AreApart vars) (sym f) (apart-drop vars front back x (subst (AreApart vars) e h)))
    ]

dead : (kept : Bool) (live : Option Bounded) → live ≡ None → IsClauseIn kept live
dead true None e = tt
dead true (Some c) e = absurd cc
dead false live e = tt

each-set : (given : List Given) (k : ℕ) (d : Given) → d.live ≡ None → AreClauses given → AreClauses (slice_set given k d)
each-set [] k d e h = tt
each-set (x ∷ given) zero d e h = (dead (is_learned d.origin) d.live e, h.1)
each-set (x ∷ given) (suc k) d e h = (h.0, each-set given k d e h.1)

counted-without : (vars : ℕ) (given : List Given) (id : ℕ) (o : Option Given) → IsCounted vars given → IsCounted vars (without given id o)
counted-without vars given id None h = h
counted-without vars given id (Some e) h = record {
  apart = apart-drops vars (clauses given) (clauses (slice_set given (id - 1) (record e { live = None }))) (drops-at given (id - 1) (record e { live = None }) refl) h.apart;
  each = each-set given (id - 1) (record e { live = None }) refl h.each;
}

pub unless-none : (b : Bool) (r : Result (List Given) ℕ) (cause : ℕ) (given : List Given) → cond b (Err cause) r ≡ Ok given → r ≡ Ok given
unless-none true r cause given e = absurd cc
unless-none false r cause given e = e

pub same_given : (a b : List Given) → ◌≡◌ {A = Result (List Given) ℕ} (Ok a) (Ok b) → a ≡ b
same_given a b e = cc

counted-deleted : (vars : ℕ) (given last : List Given) (ids : List ℕ) → deleted given ids ≡ Ok last → IsCounted vars given → IsCounted vars last
counted-deleted vars given last [] e h = subst (IsCounted vars) (same_given given last e) h
counted-deleted vars given last (id ∷ ids) e h =
    counted-deleted vars (without given id (given_at given id)) last ids
    (unless-none (is_none (live_at given id)) (deleted (without given id (given_at given id)) ids) 4 last e)
    (counted-without vars given id (given_at given id) h)

-- numbers
pub length-clauses : (cs : List Bounded) → length (map (λ (c : Bounded). c.lits) cs) ≡ length cs
length-clauses [] = refl
length-clauses (c ∷ cs) = ap suc (length-clauses cs)

abbrev pub Few : ℕ → ℕ → List Given → List Line → Type 0
Few n deletions given lines =
    (learned_in lines + length (clauses given) ≤ n + deletions_in lines * n)
    × ((deletions_in lines ≡ 0) ⊎ (deletions + deletions_in lines ≤ n))

few-delete : (n m k live deletions forget before : ℕ) → before < n + 1 → 1 ≤ forget → forget + deletions ≤ before → m + live ≤ n + k * n → (k ≡ 0) ⊎ (deletions + 1 + k ≤ n) → (0 + m + before ≤ n + (1 + k) * n) × ((1 + k ≡ 0) ⊎ (deletions + (1 + k) ≤ n))
few-delete n m k live deletions forget before less some more h bound =
    (omega (arith, less, h), inr (elim bound [ inl e ↦ omega (arith, e, less, some, more) | inr e ↦ omega (arith, e) ]))

few-lines : (vars forget deletions : ℕ) (old new : ProofState) (lines : List Line) → SearchesBy vars forget deletions old lines new → IsCounted vars old.given → Few (3 ^ vars - 1) deletions old.given lines
few-lines vars forget deletions old new [] h counted =
    let few = apart-few vars (clauses old.given) counted.apart in
    (omega (arith, few), inl refl)
few-lines vars forget deletions old new (Learned c hints ∷ lines) (next, steps, allows, last, more) counted =
    let given = follow-gives old next origin.Learned c.lits hints steps in
    let counts : IsCounted vars next.given = subst (λ (s : ProofState). IsCounted vars s.given) (sym given) (counted-learned vars old.given c.lits counted allows.0 allows.1) in
    let few = few-lines vars forget (deletions + 0) next new lines more counts in
    let long : length (clauses next.given) ≡ length (clauses old.given) + 1 = ap (λ (s : ProofState). length (clauses s.given)) given ∙ ap (λ (xs : List (List Literal)). length xs) (learned-push old.given c.lits) ∙ length-push (clauses old.given) c.lits in
    (omega (arith, few.0, long), elim few.1 [ inl e ↦ inl (omega (arith, e)) | inr e ↦ inr (omega (arith, e)) ])
  where
    length-push : (xs : List (List Literal)) (x : List Literal) → length (xs ++ x ∷ []) ≡ length xs + 1
    length-push [] x = refl
    length-push (y ∷ xs) x = omega (arith, length-push xs x)
few-lines vars forget deletions old new (Lemma c hints ∷ lines) (next, steps, allows, last, more) counted =
    let given = follow-gives old next origin.Lemma c.lits hints steps in
    let counts : IsCounted vars next.given = subst (λ (s : ProofState). IsCounted vars s.given) (sym given) (counted-lemma vars old.given c.lits counted) in
    let few = few-lines vars forget (deletions + 0) next new lines more counts in
    let long : length (clauses next.given) ≡ length (clauses old.given) = ap (λ (s : ProofState). length (clauses s.given)) given ∙ ap (λ (cs : List Bounded). length (map (λ (c : Bounded). c.lits) cs)) (lemma-push old.given c.lits) in
    (omega (arith, few.0, long), elim few.1 [ inl e ↦ inl (omega (arith, e)) | inr e ↦ inr (omega (arith, e)) ])
few-lines vars forget deletions old new (Delete ids ∷ lines) (next, steps, allows, last, more) counted =
    let counts = counted-deleted vars old.given next.given ids (with_given-ok old next (deleted old.given ids) steps) counted in
    let few = few-lines vars forget (deletions + 1) next new lines more counts in
    let before = apart-few vars (clauses old.given) counted.apart in
    let same = length-clauses (learned_live old.given) in
    few-delete (3 ^ vars - 1) (learned_in lines) (deletions_in lines) (length (clauses next.given)) deletions forget (length (clauses old.given)) (omega (arith, before)) allows.0 (omega (arith, same, allows.1)) few.0 few.1
few-lines vars forget deletions old new (Header v cs ∷ lines) (next, steps, allows, last, more) counted = absurd allows
few-lines vars forget deletions old new (Define x high low ∷ lines) (next, steps, allows, last, more) counted = absurd allows
few-lines vars forget deletions old new (Klause c root unit ∷ lines) (next, steps, allows, last, more) counted = absurd allows
few-lines vars forget deletions old new (Unfold id root ∷ lines) (next, steps, allows, last, more) counted = absurd allows

-- where nothing is forgotten
no-deletions : (vars deletions : ℕ) (old new : ProofState) (lines : List Line) → SearchesBy vars 0 deletions old lines new → deletions_in lines ≡ 0
no-deletions vars deletions old new [] h = refl
no-deletions vars deletions old new (Learned c hints ∷ lines) (next, steps, allows, last, more) = let none = no-deletions vars (deletions + 0) next new lines more in omega (arith, none)
no-deletions vars deletions old new (Lemma c hints ∷ lines) (next, steps, allows, last, more) = let none = no-deletions vars (deletions + 0) next new lines more in omega (arith, none)
no-deletions vars deletions old new (Delete ids ∷ lines) (next, steps, allows, last, more) = absurd (omega (arith, allows.0))
no-deletions vars deletions old new (Header v cs ∷ lines) (next, steps, allows, last, more) = absurd allows
no-deletions vars deletions old new (Define x high low ∷ lines) (next, steps, allows, last, more) = absurd allows
no-deletions vars deletions old new (Klause c root unit ∷ lines) (next, steps, allows, last, more) = absurd allows
no-deletions vars deletions old new (Unfold id root ∷ lines) (next, steps, allows, last, more) = absurd allows

-- where no learned clause is live
none-each : (kept : Bool) (live : Option Bounded) (cs : List Bounded) → live_before kept live cs ≡ [] → IsClauseIn kept live × (cs ≡ [])
none-each true (Some c) cs e = absurd cc
none-each true None cs e = (tt, e)
none-each false live cs e = (tt, e)

each-none : (given : List Given) → learned_live given ≡ [] → AreClauses given
each-none [] e = tt
each-none (x ∷ given) e = let parts = none-each (is_learned x.origin) x.live (learned_live given) e in (parts.0, each-none given parts.1)

distinct-one : (n : ℕ) → IsDistinct eqb (n ∷ [])
unfolding IsDistinct
distinct-one n = (tt, tt)

counted-none : (vars : ℕ) (given : List Given) → learned_live given ≡ [] → IsCounted vars given
counted-none vars given e = record {
  apart = subst (λ (cs : List Bounded). AreApart vars (map (λ c. c.lits) cs)) (sym e) (record { proper = tt; distinct = distinct-one (code vars []) });
  each = each-none given e;
}

total : (m k n : ℕ) → m ≤ n + k * n → k ≤ n → m < (n + 1) * (n + 1)
total m k n h le = let most = mul-le-mul_left n le in omega (arith, h, most)

nine : (n : ℕ) → 9 ^ n ≡ 3 ^ n * 3 ^ n
nine zero = refl
nine (suc n) = rw (pow-suc 9 n, pow-suc 3 n) (omega (arith, nine n))

one-more : (vars : ℕ) → (3 ^ vars - 1) + 1 ≡ 3 ^ vars
one-more vars = let few = apart-few vars [] (record { proper = tt; distinct = distinct-one (code vars []) }) in omega (arith, few)

pub few-learned : (vars : ℕ) (old new : ProofState) (lines : List Line) → SearchesBy vars 0 0 old lines new → learned_live old.given ≡ [] → learned_in lines < 3 ^ vars
few-learned vars old new lines h e =
    let few = few-lines vars 0 0 old new lines h (counted-none vars old.given e) in
    let none = no-deletions vars 0 old new lines h in
    few-none (learned_in lines) (deletions_in lines) (3 ^ vars - 1) (3 ^ vars) (length (clauses old.given)) none (one-more vars) few.0
  where
    few-none : (m k n a live : ℕ) → k ≡ 0 → n + 1 ≡ a → m + live ≤ n + k * n → m < a
    few-none m k n a live none one h = let zero : k * n ≡ 0 * n = ap (λ (x : ℕ). x * n) none in omega (arith, zero, one, h)

pub few-forgetting : (vars forget : ℕ) (old new : ProofState) (lines : List Line) → SearchesBy vars forget 0 old lines new → learned_live old.given ≡ [] → learned_in lines < 9 ^ vars
few-forgetting vars forget old new lines h e =
    let few = few-lines vars forget 0 old new lines h (counted-none vars old.given e) in
    let less = total (learned_in lines) (deletions_in lines) (3 ^ vars - 1) (omega (arith, few.0)) (elim few.1 [ inl z ↦ omega (arith, z) | inr le ↦ omega (arith, le) ]) in
    subst (λ (a : ℕ). learned_in lines < a) (sym (nine vars)) (subst (λ (a : ℕ). learned_in lines < a * a) (one-more vars) less)
