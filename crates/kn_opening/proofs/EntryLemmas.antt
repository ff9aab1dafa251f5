-- The entries of a file, with some of them gone: what is live there, and what a deletion makes of them.
use Rattle.std.proofs.Common.{ℕ, zero, suc, ◌≡◌, ◌+◌, ◌-◌, ◌≤◌, ◌<◌, ◌==◌, Bool, true, false, not, cond, ◌||◌, List, [], ◌∷◌, ◌++◌, length, filter, set, Option, None, Some, refl, sym, ap, ap₂, subst, ◌∙◌, arith}
use Rattle.std.specs.Prelude.{◌⊎◌, Ok, Err, Result, slice_get, option_and_then}
use Rattle.std.specs.List.{AllByRecursion}
use Rattle.std.specs.Option.{is_none}
use Rattle.std.proofs.lemmas.Bool.{cond-true, cond-false, eq-eqb, ne_eqb}
use Rattle.std.proofs.Math.Bool.{or_assoc}
use Rattle.kn_logic.specs.Constraints.{Bounded}
use Rattle.kn_logic.specs.Groups.{is_among}
use Rattle.kn_rules.specs.declared.given.Given.{Given}
use Rattle.kn_rules.specs.declared.given.Origin.{Origin}
use Rattle.kn_rules.specs.declared.given.Origin.TheVariants as origin
use Rattle.kn_rules.specs.States.{given_at, live_at}
use Rattle.kn_rules.specs.Steps.{without, deleted}
use Rattle.kn_rules.specs.Searching.{is_searched, live_before, searched}
use Rattle.kn_store.specs.Stores.{Numbered, constraints_of}
use Rattle.kn_extract.specs.Extractions.{numbered}
use Rattle.kn_justify.specs.Growth.{IsHelping, AreHelp}
use Rattle.kn_opening.specs.Openings.{numbered_before, live_behind}
use Rattle.kn_opening.specs.Entries.{file_entries}

-- the entry of a file's constraint
abbrev pub entry_if : Bool → Bounded → Given
entry_if gone c = record { origin = origin.File; live = cond gone None (Some c) }

pub file-length : (last : ℕ) (gone : ℕ → Bool) (cs : List Bounded) → length (file_entries last gone cs) ≡ length cs
file-length last gone [] = refl
file-length last gone (c ∷ cs) = ap (λ n. suc n) (file-length (last + 1) gone cs)

-- tests that agree on the ids of the entries
pub file-same : (last : ℕ) (a b : ℕ → Bool) (cs : List Bounded) → ((j : ℕ) → last < j → a j ≡ b j) → file_entries last a cs ≡ file_entries last b cs
file-same last a b [] h = refl
file-same last a b (c ∷ cs) h = ap₂ (λ (t : Bool) (es : List Given). entry_if t c ∷ es) (h (last + 1) (omega arith)) (file-same (last + 1) a b cs (λ j less. h j (omega (arith, less))))

-- ---- what is live

live-split : (last : ℕ) (gone : ℕ → Bool) (c : Bounded) (ps qs : List Numbered) → ps ≡ qs → (t : Bool) → gone (last + 1) ≡ t
    → numbered_before true (last + 1) (cond (gone (last + 1)) None (Some c)) ps ≡ cond (not (gone (last + 1))) (record { id = last + 1; constraint = c } ∷ qs) qs
live-split last gone c ps qs e true is = ap (λ t. numbered_before true (last + 1) (cond t None (Some c)) ps) is ∙ e ∙ ap (λ t. cond (not t) (record { id = last + 1; constraint = c } ∷ qs) qs) (sym is)
live-split last gone c ps qs e false is =
    ap (λ t. numbered_before true (last + 1) (cond t None (Some c)) ps) is ∙ ap (λ (z : List Numbered). record { id = last + 1; constraint = c } ∷ z) e
    ∙ ap (λ t. cond (not t) (record { id = last + 1; constraint = c } ∷ qs) qs) (sym is)

pub live-files : (last : ℕ) (gone : ℕ → Bool) (cs : List Bounded) → live_behind last (file_entries last gone cs) ≡ filter (λ p. not (gone p.id)) (numbered last cs)
live-files last gone [] = refl
live-files last gone (c ∷ cs) =
    live-split last gone c (live_behind (last + 1) (file_entries (last + 1) gone cs)) (filter (λ p. not (gone p.id)) (numbered (last + 1) cs)) (live-files (last + 1) gone cs) (gone (last + 1)) refl

before-append : (t : Bool) (id : ℕ) (live : Option Bounded) (ps qs : List Numbered) → numbered_before t id live (ps ++ qs) ≡ numbered_before t id live ps ++ qs
before-append true id (Some c) ps qs = refl
before-append true id None ps qs = refl
before-append false id (Some c) ps qs = refl
before-append false id None ps qs = refl

pub live-append : (last : ℕ) (a b : List Given) → live_behind last (a ++ b) ≡ live_behind last a ++ live_behind (last + length a) b
live-append last [] b = ap (λ n. live_behind n b) (none last)
  where
    none : (m : ℕ) → m ≡ m + 0
    none m = omega arith
live-append last (x ∷ a) b =
    ap (numbered_before (is_searched x.origin) (last + 1) x.live) (live-append (last + 1) a b)
    ∙ before-append (is_searched x.origin) (last + 1) x.live (live_behind (last + 1) a) (live_behind (last + 1 + length a) b)
    ∙ ap (λ n. numbered_before (is_searched x.origin) (last + 1) x.live (live_behind (last + 1) a) ++ live_behind n b) (same last (length a))
  where
    same : (m n : ℕ) → m + 1 + n ≡ m + suc n
    same m n = omega arith

before-help : (o : Origin) (id : ℕ) (live : Option Bounded) (ps : List Numbered) → IsHelping o → numbered_before (is_searched o) id live ps ≡ ps
before-help origin.File id live ps h = absurd h
before-help origin.Definition id live ps h = refl
before-help origin.Lemma id live ps h = refl
before-help origin.Learned id live ps h = absurd h
before-help origin.Klause id live ps h = absurd h
before-help origin.Unfolding id live ps h = absurd h

-- no search rests on definitions and lemmas
pub live-help : (last : ℕ) (help : List Given) → AreHelp help → live_behind last help ≡ []
live-help last [] h = refl
live-help last (x ∷ help) h = before-help x.origin (last + 1) x.live (live_behind (last + 1) help) h.0 ∙ live-help (last + 1) help h.1

before-constraints : (t : Bool) (id : ℕ) (live : Option Bounded) (ps : List Numbered) (cs : List Bounded) → cs ≡ constraints_of ps → live_before t live cs ≡ constraints_of (numbered_before t id live ps)
before-constraints true id (Some c) ps cs e = ap (λ (z : List Bounded). c ∷ z) e
before-constraints true id None ps cs e = e
before-constraints false id (Some c) ps cs e = e
before-constraints false id None ps cs e = e

pub searched-live : (last : ℕ) (given : List Given) → searched given ≡ constraints_of (live_behind last given)
searched-live last [] = refl
searched-live last (x ∷ given) = before-constraints (is_searched x.origin) (last + 1) x.live (live_behind (last + 1) given) (searched given) (searched-live (last + 1) given)

-- ---- an entry at its place

pub file-at : (last k : ℕ) (gone : ℕ → Bool) (cs : List Bounded) (rest : List Given) (c : Bounded) → slice_get cs k ≡ Some c → slice_get (file_entries last gone cs ++ rest) k ≡ Some (entry_if (gone (last + k + 1)) c)
file-at last k gone [] rest c e = absurd cc
file-at last zero gone (x ∷ cs) rest c e = ap₂ (λ (t : Bool) (o : Option Bounded). Some (record { origin = origin.File; live = cond t None o })) (ap gone (first last)) e
  where
    first : (m : ℕ) → m + 1 ≡ m + 0 + 1
    first m = omega arith
file-at last (suc k) gone (x ∷ cs) rest c e = file-at (last + 1) k gone cs rest c e ∙ ap (λ n. Some (entry_if (gone n) c)) (same last k)
  where
    same : (m n : ℕ) → m + 1 + n + 1 ≡ m + suc n + 1
    same m n = omega arith

pub given-at : (given : List Given) (k : ℕ) → given_at given (k + 1) ≡ slice_get given k
given-at given k = cond-false (k + 1 == 0) None (slice_get given (k + 1 - 1)) (ne_eqb (k + 1) 0 (λ e. omega (arith, e))) ∙ ap (slice_get given) (less k)
  where
    less : (k : ℕ) → k + 1 - 1 ≡ k
    less k = omega arith

-- a constraint of the file that is not gone is live
pub live-at : (k : ℕ) (gone : ℕ → Bool) (cs : List Bounded) (rest : List Given) (c : Bounded) → slice_get cs k ≡ Some c → gone (k + 1) ≡ false → live_at (file_entries 0 gone cs ++ rest) (k + 1) ≡ Some c
live-at k gone cs rest c e off =
    ap live-of (given-at (file_entries 0 gone cs ++ rest) k ∙ file-at 0 k gone cs rest c e) ∙ ap (λ t. cond t None (Some c)) (ap gone (same k) ∙ off)
  where
    live-of : Option Given → Option Bounded
    live-of o = option_and_then (λ entry. entry.live) o

    same : (k : ℕ) → 0 + k + 1 ≡ k + 1
    same k = omega arith

pub gone-at : (k : ℕ) (gone : ℕ → Bool) (cs : List Bounded) (rest : List Given) (c : Bounded) → slice_get cs k ≡ Some c → gone (k + 1) ≡ true → live_at (file_entries 0 gone cs ++ rest) (k + 1) ≡ None
gone-at k gone cs rest c e on =
    ap live-of (given-at (file_entries 0 gone cs ++ rest) k ∙ file-at 0 k gone cs rest c e) ∙ ap (λ t. cond t None (Some c)) (ap gone (same k) ∙ on)
  where
    live-of : Option Given → Option Bounded
    live-of o = option_and_then (λ entry. entry.live) o

    same : (k : ℕ) → 0 + k + 1 ≡ k + 1
    same k = omega arith

-- ---- deletion

abbrev pub or-id : (ℕ → Bool) → ℕ → ℕ → Bool
or-id gone id j = gone j || (id == j)

set-file : (last k : ℕ) (gone : ℕ → Bool) (cs : List Bounded) (rest : List Given) → k < length cs
    → set (file_entries last gone cs ++ rest) k (record { origin = origin.File; live = None }) ≡ file_entries last (or-id gone (last + k + 1)) cs ++ rest
set-file last k gone [] rest less = absurd (omega (arith, less))
set-file last zero gone (c ∷ cs) rest less =
    ap₂ (λ (o : Option Bounded) (es : List Given). (record { origin = origin.File; live = o } ∷ es) ++ rest) (sym (cond-true (or-id gone (last + 0 + 1) (last + 1)) None (Some c) (own last)))
    (file-same (last + 1) gone (or-id gone (last + 0 + 1)) cs (λ j more. sym (or-none (gone j) (last + 0 + 1 == j) (ne_eqb (last + 0 + 1) j (λ e. omega (arith, e, more))))))
  where
    or-right : (a b : Bool) → b ≡ true → (a || b) ≡ true
    or-right true b e = refl
    or-right false b e = e

    or-none : (a b : Bool) → b ≡ false → (a || b) ≡ a
    or-none true b e = refl
    or-none false b e = e

    own : (n : ℕ) → or-id gone (n + 0 + 1) (n + 1) ≡ true
    own n = or-right (gone (n + 1)) (n + 0 + 1 == n + 1) (eq-eqb (n + 0 + 1) (n + 1) (omega arith))
set-file last (suc k) gone (c ∷ cs) rest less =
    ap₂ (λ (t : Bool) (es : List Given). entry_if t c ∷ es) (sym (other (gone (last + 1)) (last + suc k + 1 == last + 1) (ne_eqb (last + suc k + 1) (last + 1) (λ e. omega (arith, e)))))
    (set-file (last + 1) k gone cs rest (omega (arith, less)) ∙ ap (λ n. file_entries (last + 1) (or-id gone n) cs ++ rest) (same last k))
  where
    other : (a b : Bool) → b ≡ false → (a || b) ≡ a
    other true b e = refl
    other false b e = e

    same : (m n : ℕ) → m + 1 + n + 1 ≡ m + suc n + 1
    same m n = omega arith

without-file : (k : ℕ) (gone : ℕ → Bool) (cs : List Bounded) (rest : List Given) (c : Bounded) → slice_get cs k ≡ Some c → k < length cs
    → without (file_entries 0 gone cs ++ rest) (k + 1) (given_at (file_entries 0 gone cs ++ rest) (k + 1)) ≡ file_entries 0 (or-id gone (k + 1)) cs ++ rest
without-file k gone cs rest c e less =
    ap (without (file_entries 0 gone cs ++ rest) (k + 1)) (given-at (file_entries 0 gone cs ++ rest) k ∙ file-at 0 k gone cs rest c e)
    ∙ ap (λ n. set (file_entries 0 gone cs ++ rest) n (record { origin = origin.File; live = None })) (back k)
    ∙ set-file 0 k gone cs rest less ∙ ap (λ n. file_entries 0 (or-id gone n) cs ++ rest) (same k)
  where
    back : (k : ℕ) → k + 1 - 1 ≡ k
    back k = omega arith

    same : (k : ℕ) → 0 + k + 1 ≡ k + 1
    same k = omega arith

-- these ids are those of constraints of the file
abbrev pub AreOfFile : List Bounded → List ℕ → Type 0
AreOfFile cs ids = AllByRecursion (λ id. (k : ℕ) × (c : Bounded) × (id ≡ k + 1) × (slice_get cs k ≡ Some c) × (k < length cs)) ids

pub deleted-files : (ids : List ℕ) (gone : ℕ → Bool) (cs : List Bounded) (rest new : List Given) → AreOfFile cs ids → deleted (file_entries 0 gone cs ++ rest) ids ≡ Ok new
    → new ≡ file_entries 0 (λ j. gone j || is_among ids j) cs ++ rest
deleted-files [] gone cs rest new h e =
    ok-same (file_entries 0 gone cs ++ rest) new e ∙ ap (λ es. es ++ rest) (file-same 0 gone (λ j. gone j || false) cs (λ j more. sym (or-false (gone j))))
  where
    or-false : (a : Bool) → (a || false) ≡ a
    or-false true = refl
    or-false false = refl

    ok-same : (a b : List Given) → ◌≡◌ {A = Result (List Given) ℕ} (Ok a) (Ok b) → b ≡ a
    ok-same a b e = cc
deleted-files (id ∷ ids) gone cs rest new h e =
    let k = h.0.0 in
    let c = h.0.1 in
    let given = file_entries 0 gone cs ++ rest in
    let one : without given id (given_at given id) ≡ file_entries 0 (or-id gone id) cs ++ rest =
    subst (λ (n : ℕ). without given n (given_at given n) ≡ file_entries 0 (or-id gone n) cs ++ rest) (sym h.0.2) (without-file k gone cs rest c h.0.3 h.0.4) in
    let next = by (is_none (live_at given id)) refl e in
    deleted-files ids (or-id gone id) cs rest new h.1 (ap (λ z. deleted z ids) (sym one) ∙ next)
    ∙ ap (λ es. es ++ rest) (file-same 0 (λ j. or-id gone id j || is_among ids j) (λ j. gone j || is_among (id ∷ ids) j) cs (λ j more. or_assoc (gone j) (id == j) (is_among ids j)))
  where
    by : (t : Bool) → is_none (live_at (file_entries 0 gone cs ++ rest) id) ≡ t → deleted (file_entries 0 gone cs ++ rest) (id ∷ ids) ≡ Ok new
        → deleted (without (file_entries 0 gone cs ++ rest) id (given_at (file_entries 0 gone cs ++ rest) id)) ids ≡ Ok new
    by false is e = sym (cond-false (is_none (live_at (file_entries 0 gone cs ++ rest) id)) (Err 4) (deleted (without (file_entries 0 gone cs ++ rest) id (given_at (file_entries 0 gone cs ++ rest) id)) ids) is) ∙ e
    by true is e = absurd (clash (sym (cond-true (is_none (live_at (file_entries 0 gone cs ++ rest) id)) (Err 4) (deleted (without (file_entries 0 gone cs ++ rest) id (given_at (file_entries 0 gone cs ++ rest) id)) ids) is) ∙ e))
      where
        clash : ◌≡◌ {A = Result (List Given) ℕ} (Err 4) (Ok new) → ⊥
        clash k = cc
