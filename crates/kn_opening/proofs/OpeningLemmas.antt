-- One group after another: what each leaves, and what all leave.
use Rattle.std.proofs.Common.{ℕ, zero, suc, ◌≡◌, ◌+◌, ◌-◌, ◌≤◌, ◌<◌, ◌==◌, Bool, true, false, not, cond, ◌||◌, List, [], ◌∷◌, ◌++◌, length, map, filter, get_or, reverse, Option, None, Some, Result, Ok, Err, refl, sym, ap, ap₂, subst, ◌∙◌, inl, inr, arith, true≢false}
use Rattle.std.specs.Prelude.{◌⊎◌, take, slice_get, ◌^◌}
use Rattle.std.specs.List.{AllByRecursion, range_with_len}
use Rattle.std.specs.Option.{is_some}
use Rattle.std.specs.Result.{IsErrAnd}
use Rattle.std.specs.List.Sorted.{IsPermutation}
use Rattle.std.proofs.lemmas.Bool.{ne_eqb, cond-true, cond-false, eq-eqb}
use Rattle.std.proofs.lemmas.List.{append_assoc, append-nil, length-append, length-map, take_more, take_all}
use Rattle.std.proofs.lemmas.List.Folds.{list_any-append}
use Rattle.std.proofs.lemmas.List.Elements.{All-from_recursion}
use Rattle.std.proofs.lemmas.List.Sorted.{IsPermutation-reverse, IsPermutation-sym}
use Rattle.std.proofs.lemmas.Option.{slice_get_within}
use Rattle.std.proofs.Math.Seq.{take-append_seam}
use Rattle.kn_logic.specs.Literals.{IsKnown}
use Rattle.kn_logic.specs.Constraints.{Bounded, klause}
use Rattle.kn_logic.specs.Formulas.{Problem}
use Rattle.kn_logic.specs.Groups.{Gathered, is_among}
use Rattle.kn_logic.proofs.Public.{All-append}
use Rattle.kn_lines.specs.declared.line.Line.{Line}
use Rattle.kn_lines.specs.declared.line.Line.TheVariants.{Header, Define, Lemma, Learned, Klause, Unfold, Delete}
use Rattle.kn_rules.specs.declared.given.Given.{Given}
use Rattle.kn_rules.specs.declared.given.Origin.TheVariants as origin
use Rattle.kn_rules.specs.States.{ProofState, start, from_file, live_at}
use Rattle.kn_rules.specs.Steps.{deleted}
use Rattle.kn_log.specs.Logs.{Logged}
use Rattle.kn_log.specs.Written.{AddsSuch, LogsSuchNot, LogsSuch}
use Rattle.kn_log.specs.declared.error.LogError.{LogError}
use Rattle.kn_log.proofs.Public.{Adds-join, such-not-behind}
use Rattle.kn_store.specs.Stores.{Numbered, Stored, constraint_at, ids_of, constraints_of}
use Rattle.kn_store.proofs.Public.{from-map, to-map, all-one, all-two}
use Rattle.kn_extract.specs.Extractions.{Found, klause_of, numbered, stored_of, Tries, IsSeedTaken, IsPairTaken, IsExtraction}
use Rattle.kn_extract.specs.Structure.{ids_taken, IsOwned, IsRemainder, Pairwise, TakesOthers, IsOver}
use Rattle.kn_extract.specs.Kept.{Took, Extracted, IsTaken, IsExtracted, IsEliminated, found_of}
use Rattle.kn_quant.specs.Eliminations.{Eliminated}
use Rattle.kn_justify.specs.Growth.{IsPlain, ArePlain, IsHelping}
use Rattle.kn_justify.specs.Closings.{AreClosing, AreJustifying, Replaces, klause_entry}
use Rattle.kn_opening.specs.Openings.{IsOpeningLine, AreOpeningLines, IsLike, AreLike, klause_by, klause_in_proof, live_behind, IsOpened}
use Rattle.kn_opening.specs.Entries.{file_entries, is_taken, IsOpening}
use Rattle.kn_opening.proofs.EntryLemmas.{file-length, file-same, live-files, live-append, live-help, searched-live, live-at, gone-at, deleted-files, AreOfFile}

-- ---- lines

plain-opening : (line : Line) → IsPlain line → IsOpeningLine line
plain-opening (Header vars constraints) h = absurd h
plain-opening (Define x high low) h = tt
plain-opening (Lemma c hints) h = h
plain-opening (Learned c hints) h = absurd h
plain-opening (Klause c root unit) h = tt
plain-opening (Unfold id root) h = absurd h
plain-opening (Delete ids) h = tt

plain-all : (lines : List Line) → ArePlain lines → AreOpeningLines lines
plain-all [] h = tt
plain-all (line ∷ lines) h = (plain-opening line h.0, plain-all lines h.1)

closing-all : (c : Bounded) (ids : List ℕ) (lines : List Line) → AreClosing c ids lines → AreOpeningLines lines
closing-all c ids [] h = tt
closing-all c ids (Klause k root unit ∷ []) h = (tt, tt)
closing-all c ids (Klause k root unit ∷ Delete gone ∷ []) h = (tt, (tt, tt))
closing-all c ids (Klause k root unit ∷ Delete gone ∷ more ∷ lines) h = absurd h
closing-all c ids (Klause k root unit ∷ Header vars constraints ∷ lines) h = absurd h
closing-all c ids (Klause k root unit ∷ Define x high low ∷ lines) h = absurd h
closing-all c ids (Klause k root unit ∷ Lemma d hints ∷ lines) h = absurd h
closing-all c ids (Klause k root unit ∷ Learned d hints ∷ lines) h = absurd h
closing-all c ids (Klause k root unit ∷ Klause d other id ∷ lines) h = absurd h
closing-all c ids (Klause k root unit ∷ Unfold id other ∷ lines) h = absurd h
closing-all c ids (Header vars constraints ∷ lines) h = absurd h
closing-all c ids (Define x high low ∷ lines) h = absurd h
closing-all c ids (Lemma d hints ∷ lines) h = absurd h
closing-all c ids (Learned d hints ∷ lines) h = absurd h
closing-all c ids (Unfold id root ∷ lines) h = absurd h
closing-all c ids (Delete gone ∷ lines) h = absurd h

pub justifying-opening : (c : Bounded) (ids : List ℕ) (lines : List Line) → AreJustifying c ids lines → AreOpeningLines lines
justifying-opening c ids lines j =
    subst AreOpeningLines (sym j.both) (All-append IsOpeningLine j.front j.back (plain-all j.front j.plain) (closing-all c ids j.back j.closing))

pub opening-more : (c : Bounded) (ids : List ℕ) (old mid new : Logged) (w v u : Option (List ℕ)) → AddsSuch AreOpeningLines old mid w v → AddsSuch (AreJustifying c ids) mid new v u → AddsSuch AreOpeningLines old new w u
opening-more c ids old mid new w v u (a, p, first) (b, j, next) = (a ++ b, All-append IsOpeningLine a b p (justifying-opening c ids b j), Adds-join a b old mid new w v u first next)

pub opening-not : (c : Bounded) (ids : List ℕ) (old mid new : Logged) (w v u : Option (List ℕ)) (e : LogError) → AddsSuch AreOpeningLines old mid w v → LogsSuchNot (AreJustifying c ids) mid new v u e → LogsSuchNot AreOpeningLines old new w u e
opening-not c ids old mid new w v u e (a, p, first) next =
    such-not-behind (AreJustifying c ids) AreOpeningLines a old mid new w v u e (λ b j. All-append IsOpeningLine a b p (justifying-opening c ids b j)) first next

pub error-ends : {T : Type 0} (P : List Line → Type 0) (old new : Logged) (w w' : Option (List ℕ)) (r : Result T LogError) (e : LogError) → IsErrAnd r (λ x. x ≡ e) → LogsSuchNot P old new w w' e → LogsSuch P old new w w' r
error-ends P old new w w' (Ok x) e h k = absurd h
error-ends P old new w w' (Err x) e h k = subst (λ (y : LogError). LogsSuchNot P old new w w' y) (sym h) k

-- ---- the start

none-gone : (last : ℕ) (cs : List Bounded) → map from_file cs ≡ file_entries last (λ id. false) cs
none-gone last [] = refl
none-gone last (c ∷ cs) = ap (λ (es : List Given). from_file c ∷ es) (none-gone (last + 1) cs)

pub opening-start : (e : Extracted) → IsOpening e (start e.original) 0 []
opening-start e = record {
  rest = [];
  given = none-gone 0 e.original.constraints ∙ sym (append-nil (file_entries 0 (is_taken e 0) e.original.constraints));
  ids = refl;
  constraints = refl;
  vars = omega arith;
  refuted = refl;
}

-- ---- the clauses of the next group are live

ids-append : (xs ys : List Found) → ids_taken (xs ++ ys) ≡ ids_taken xs ++ ids_taken ys
ids-append [] ys = refl
ids-append (x ∷ xs) ys = ap (λ z. x.ids ++ z) (ids-append xs ys) ∙ sym (append_assoc x.ids (ids_taken xs) (ids_taken ys))

map-append : {X Y : Type 0} (f : X → Y) (xs ys : List X) → map f (xs ++ ys) ≡ map f xs ++ map f ys
map-append f [] ys = refl
map-append f (x ∷ xs) ys = ap (λ z. f x ∷ z) (map-append f xs ys)

-- the ids of one group more
pub taken-more : (e : Extracted) (k : ℕ) (d : Took) (j : ℕ) → k < length e.taken → is_taken e (k + 1) j ≡ (is_taken e k j || is_among (map (λ p. p + 1) (get_or e.taken k d).places) j)
taken-more e k d j less =
    ap (λ ts. is_among (ids_taken (map found_of ts)) j) (take_more e.taken k d less)
    ∙ ap (λ z. is_among (ids_taken z) j) (map-append found_of (take k e.taken) (get_or e.taken k d ∷ []))
    ∙ ap (λ z. is_among z j) (ids-append (map found_of (take k e.taken)) (found_of (get_or e.taken k d) ∷ []) ∙ ap (λ z. ids_taken (map found_of (take k e.taken)) ++ z) (append-nil (map (λ p. p + 1) (get_or e.taken k d).places)))
    ∙ list_any-append (λ v. v == j) (ids_taken (map found_of (take k e.taken))) (map (λ p. p + 1) (get_or e.taken k d).places)

all-same : (test : ℕ → Bool) (ids : List ℕ) → ((id : ℕ) → test id ≡ false) → AllByRecursion (λ id. test id ≡ false) ids
all-same test [] h = tt
all-same test (id ∷ ids) h = (h id, all-same test ids h)

others-all : (xs : List Found) (y : Found) → AllByRecursion (λ x. TakesOthers x y) xs → AllByRecursion (λ id. is_among (ids_taken xs) id ≡ false) y.ids
others-all [] y h = all-same (is_among []) y.ids (λ id. refl)
others-all (x ∷ xs) y h =
    all-two (λ id. is_among x.ids id ≡ false) (λ id. is_among (ids_taken xs) id ≡ false) (λ id. is_among (ids_taken (x ∷ xs)) id ≡ false)
    (λ id a b. list_any-append (λ v. v == id) x.ids (ids_taken xs) ∙ ap₂ (λ s t. s || t) a b) y.ids h.0 (others-all xs y h.1)

at : {X : Type 0} (P : X → Type 0) (xs : List X) (k : ℕ) (d : X) → AllByRecursion P xs → k < length xs → P (get_or xs k d)
at P xs k d h less = All-from_recursion P xs h k d less

pairwise-at : {X : Type 0} (R : X → X → Type 0) (xs : List X) (k : ℕ) (d : X) → Pairwise R xs → k < length xs → AllByRecursion (λ y. R y (get_or xs k d)) (take k xs)
pairwise-at R [] k d h less = absurd (omega (arith, less))
pairwise-at R (x ∷ xs) zero d h less = tt
pairwise-at R (x ∷ xs) (suc k) d h less = (at (R x) xs k d h.0 (omega (arith, less)), pairwise-at R xs k d h.1 (omega (arith, less)))

pairwise-map : {X Y : Type 0} (f : X → Y) (R : Y → Y → Type 0) (xs : List X) → Pairwise R (map f xs) → Pairwise (λ x y. R (f x) (f y)) xs
pairwise-map f R [] h = tt
pairwise-map f R (x ∷ xs) h = (from-map f (R (f x)) xs h.0, pairwise-map f R xs h.1)

others-at : (e : Extracted) (k : ℕ) (d : Took) → Pairwise TakesOthers (map found_of e.taken) → k < length e.taken → AllByRecursion (λ id. is_taken e k id ≡ false) (map (λ p. p + 1) (get_or e.taken k d).places)
others-at e k d apart less =
    others-all (map found_of (take k e.taken)) (found_of (get_or e.taken k d))
    (to-map found_of (λ x. TakesOthers x (found_of (get_or e.taken k d))) (take k e.taken)
    (pairwise-at (λ x y. TakesOthers (found_of x) (found_of y)) e.taken k d (pairwise-map found_of TakesOthers e.taken apart) less))

numbered-at : (last k : ℕ) (cs : List Bounded) → constraint_at (numbered last cs) (last + k + 1) ≡ slice_get cs k
numbered-at last k [] = refl
numbered-at last zero (c ∷ cs) = cond-true (last + 1 == last + 0 + 1) (Some c) (constraint_at (numbered (last + 1) cs) (last + 0 + 1)) (eq-eqb (last + 1) (last + 0 + 1) (omega arith))
numbered-at last (suc k) (c ∷ cs) =
    cond-false (last + 1 == last + suc k + 1) (Some c) (constraint_at (numbered (last + 1) cs) (last + suc k + 1)) (ne_eqb (last + 1) (last + suc k + 1) (λ e. omega (arith, e)))
    ∙ ap (constraint_at (numbered (last + 1) cs)) (turn last k) ∙ numbered-at (last + 1) k cs
  where
    turn : (m n : ℕ) → m + suc n + 1 ≡ m + 1 + n + 1
    turn m n = omega arith

first-at : (k : ℕ) (cs : List Bounded) → constraint_at (numbered 0 cs) (k + 1) ≡ slice_get cs k
first-at k cs = ap (constraint_at (numbered 0 cs)) (turn k) ∙ numbered-at 0 k cs
  where
    turn : (n : ℕ) → n + 1 ≡ 0 + n + 1
    turn n = omega arith

abbrev head-or : Option Bounded → List (Option Bounded) → Option Bounded
head-or d [] = d
head-or d (x ∷ xs) = x

abbrev tail-of : List (Option Bounded) → List (Option Bounded)
tail-of [] = []
tail-of (x ∷ xs) = xs

owned-file : (cs : List Bounded) (places : List ℕ) (taken : List Bounded) → map (constraint_at (numbered 0 cs)) (map (λ p. p + 1) places) ≡ map (λ c. Some c) taken → AreOfFile cs (map (λ p. p + 1) places)
owned-file cs [] taken e = tt
owned-file cs (p ∷ places) [] e = absurd cc
owned-file cs (p ∷ places) (c ∷ taken) e =
    let is : slice_get cs p ≡ Some c = sym (first-at p cs) ∙ ap (head-or None) e in
    ((p, c, refl, is, slice_get_within cs p c is), owned-file cs places taken (ap tail-of e))

owned-live : (cs : List Bounded) (gone : ℕ → Bool) (rest : List Given) (places : List ℕ) (taken : List Bounded) → map (constraint_at (numbered 0 cs)) (map (λ p. p + 1) places) ≡ map (λ c. Some c) taken
    → AllByRecursion (λ id. gone id ≡ false) (map (λ p. p + 1) places) → map (live_at (file_entries 0 gone cs ++ rest)) (map (λ p. p + 1) places) ≡ map (λ c. Some c) taken
owned-live cs gone rest [] [] e off = refl
owned-live cs gone rest [] (c ∷ taken) e off = absurd cc
owned-live cs gone rest (p ∷ places) [] e off = absurd cc
owned-live cs gone rest (p ∷ places) (c ∷ taken) e off =
    ap₂ (λ (x : Option Bounded) (xs : List (Option Bounded)). x ∷ xs) (live-at p gone cs rest c (sym (first-at p cs) ∙ ap (head-or None) e) off.0) (owned-live cs gone rest places taken (ap tail-of e) off.1)

places-below : (cs : List Bounded) (places : List ℕ) → AreOfFile cs (map (λ p. p + 1) places) → length cs < 2 ^ 64 → AllByRecursion (λ p. p < 2 ^ 64 - 1) places
places-below cs [] h few = tt
places-below cs (p ∷ places) h few = (let is = h.0.2 in let less = h.0.4 in omega (arith, is, less, few), places-below cs places h.1 few)

-- ---- a group is justified

ids-of-append : (ps qs : List Numbered) → ids_of (ps ++ qs) ≡ ids_of ps ++ ids_of qs
ids-of-append [] qs = refl
ids-of-append (p ∷ ps) qs = ap (λ z. p.id ∷ z) (ids-of-append ps qs)

constraints-append : (ps qs : List Numbered) → constraints_of (ps ++ qs) ≡ constraints_of ps ++ constraints_of qs
constraints-append [] qs = refl
constraints-append (p ∷ ps) qs = ap (λ z. p.constraint ∷ z) (constraints-append ps qs)

live-next : (n : ℕ) (rest help : List Given) (c : Bounded) → AllByRecursion (λ x. IsHelping x.origin) help
    → live_behind n ((rest ++ help) ++ klause_entry c ∷ []) ≡ live_behind n rest ++ record { id = n + length (rest ++ help) + 1; constraint = c } ∷ []
live-next n rest help c h =
    live-append n (rest ++ help) (klause_entry c ∷ [])
    ∙ ap (λ z. z ++ record { id = n + length (rest ++ help) + 1; constraint = c } ∷ []) (live-append n rest help ∙ ap (λ z. live_behind n rest ++ z) (live-help (n + length rest) help h) ∙ append-nil (live_behind n rest))

pub opening-next : (e : Extracted) (s new : ProofState) (k : ℕ) (klauses : List ℕ) (d : Took) (id : ℕ) → k < length e.taken → IsOpening e s k klauses
    → AreOfFile e.original.constraints (map (λ p. p + 1) (get_or e.taken k d).places)
    → Replaces s new (map (λ p. p + 1) (get_or e.taken k d).places) (klause_in_proof (get_or e.taken k d)) id → IsOpening e new (k + 1) (klauses ++ id ∷ [])
opening-next e s new k klauses d id less o of_file r =
    let t = get_or e.taken k d in
    let ids = map (λ p. p + 1) t.places in
    let cs = e.original.constraints in
    let n = length cs in
    let c = klause_in_proof t in
    let more = (o.rest ++ r.help) ++ klause_entry c ∷ [] in
    let base : (s.given ++ r.help) ++ klause_entry c ∷ [] ≡ file_entries 0 (is_taken e k) cs ++ more =
    ap (λ z. (z ++ r.help) ++ klause_entry c ∷ []) o.given ∙ ap (λ z. z ++ klause_entry c ∷ []) (append_assoc (file_entries 0 (is_taken e k) cs) o.rest r.help)
    ∙ append_assoc (file_entries 0 (is_taken e k) cs) (o.rest ++ r.help) (klause_entry c ∷ []) in
    let after = deleted-files ids (is_taken e k) cs more new.given of_file (ap (λ z. deleted z ids) (sym base) ∙ r.given) in
    let same = file-same 0 (λ j. is_taken e k j || is_among ids j) (is_taken e (k + 1)) cs (λ j above. sym (taken-more e k d j less)) in
    let live = live-next n o.rest r.help c r.are_help in
    let long : id ≡ n + length (o.rest ++ r.help) + 1 =
    r.id_is ∙ ap (λ z. length (z ++ r.help) + 1) o.given ∙ ap (λ z. length z + 1) (append_assoc (file_entries 0 (is_taken e k) cs) o.rest r.help)
    ∙ ap (λ m. m + 1) (length-append (file_entries 0 (is_taken e k) cs) (o.rest ++ r.help) ∙ ap (λ m. m + length (o.rest ++ r.help)) (file-length 0 (is_taken e k) cs)) in
    record {
      rest = more;
      given = after ∙ ap (λ z. z ++ more) same;
      ids = ap ids_of live ∙ ids-of-append (live_behind n o.rest) (record { id = n + length (o.rest ++ r.help) + 1; constraint = c } ∷ []) ∙ ap₂ (λ a b. a ++ b ∷ []) o.ids (sym long);
      constraints = ap constraints_of live ∙ constraints-append (live_behind n o.rest) (record { id = n + length (o.rest ++ r.help) + 1; constraint = c } ∷ []) ∙ ap (λ z. z ++ c ∷ []) o.constraints
          ∙ sym (map-append klause_in_proof (take k e.taken) (t ∷ [])) ∙ ap (map klause_in_proof) (sym (take_more e.taken k d less));
      vars = let a = r.vars in let b = o.vars in omega (arith, a, b);
      refuted = r.refuted ∙ o.refuted;
    }

-- what `justify` asks for, of the next group
pub next-live : (e : Extracted) (s : ProofState) (k : ℕ) (klauses : List ℕ) (d : Took) → k < length e.taken → IsOpening e s k klauses → AllByRecursion (IsOwned e.original) (map found_of e.taken) → Pairwise TakesOthers (map found_of e.taken)
    → map (live_at s.given) (map (λ p. p + 1) (get_or e.taken k d).places) ≡ map (λ c. Some c) (get_or e.taken k d).group.taken
next-live e s k klauses d less o owned apart =
    ap (λ z. map (live_at z) (map (λ p. p + 1) (get_or e.taken k d).places)) o.given
    ∙ owned-live e.original.constraints (is_taken e k) o.rest (get_or e.taken k d).places (get_or e.taken k d).group.taken
    (at (λ t. IsOwned e.original (found_of t)) e.taken k d (from-map found_of (IsOwned e.original) e.taken owned) less) (others-at e k d apart less)

pub next-file : (e : Extracted) (k : ℕ) (d : Took) → k < length e.taken → AllByRecursion (IsOwned e.original) (map found_of e.taken) → AreOfFile e.original.constraints (map (λ p. p + 1) (get_or e.taken k d).places)
next-file e k d less owned = owned-file e.original.constraints (get_or e.taken k d).places (get_or e.taken k d).group.taken (at (λ t. IsOwned e.original (found_of t)) e.taken k d (from-map found_of (IsOwned e.original) e.taken owned) less)

pub next-below : (e : Extracted) (k : ℕ) (d : Took) → k < length e.taken → AllByRecursion (IsOwned e.original) (map found_of e.taken) → length e.original.constraints < 2 ^ 64 → AllByRecursion (λ p. p < 2 ^ 64 - 1) (get_or e.taken k d).places
next-below e k d less owned few = places-below e.original.constraints (get_or e.taken k d).places (next-file e k d less owned) few

pub next-over : (e : Extracted) (s : ProofState) (k : ℕ) (klauses : List ℕ) (d : Took) → k < length e.taken → IsOpening e s k klauses → AllByRecursion (λ x. IsOver e.original.vars x.group) (map found_of e.taken) → IsOver s.vars (get_or e.taken k d).group
next-over e s k klauses d less o over =
    let h = at (λ t. IsOver e.original.vars t.group) e.taken k d (from-map found_of (λ x. IsOver e.original.vars x.group) e.taken over) less in
    let le = o.vars in
    record {
      aux = all-one (λ v. (1 ≤ v) × (v ≤ e.original.vars)) (λ v. (1 ≤ v) × (v ≤ s.vars)) (λ v p. (p.0, omega (arith, p.1, le))) (get_or e.taken k d).group.aux h.aux;
      border = all-one (IsKnown e.original.vars) (IsKnown s.vars) (λ l p. (p.0, omega (arith, p.1, le))) (get_or e.taken k d).group.border h.border;
    }

-- ---- a pair group asks for all of its border but one

seeds-have : (ns : List ℕ) (s t : Stored) (found : List Found) → Tries IsSeedTaken ns s found t → AllByRecursion (λ x. x.group.aux ≡ [] → x.bound + 1 ≡ length x.group.border) found
seeds-have [] s t found run = subst (AllByRecursion (λ x. x.group.aux ≡ [] → x.bound + 1 ≡ length x.group.border)) (sym run.0) tt
seeds-have (n ∷ ns) s t found (inl (none, run)) = seeds-have ns s t found run
seeds-have (n ∷ ns) s t found (inr (x, u, more, e, takes, run)) =
    subst (AllByRecursion (λ x. x.group.aux ≡ [] → x.bound + 1 ≡ length x.group.border)) (sym e)
    (λ none. absurd (true≢false (sym takes.guess.least.0.seed_in ∙ ap (λ aux. is_among aux n) none)), seeds-have ns u t more run)

pairs-have : (ns : List ℕ) (s t : Stored) (found : List Found) → Tries IsPairTaken ns s found t → AllByRecursion (λ x. x.group.aux ≡ [] → x.bound + 1 ≡ length x.group.border) found
pairs-have [] s t found run = subst (AllByRecursion (λ x. x.group.aux ≡ [] → x.bound + 1 ≡ length x.group.border)) (sym run.0) tt
pairs-have (n ∷ ns) s t found (inl (none, run)) = pairs-have ns s t found run
pairs-have (n ∷ ns) s t found (inr (x, u, more, e, takes, run)) =
    subst (AllByRecursion (λ x. x.group.aux ≡ [] → x.bound + 1 ≡ length x.group.border)) (sym e) (λ none. takes.bound, pairs-have ns u t more run)

all-have : (f last : Problem) (found : List Found) → IsExtraction f found last → AllByRecursion (λ x. x.group.aux ≡ [] → x.bound + 1 ≡ length x.group.border) found
all-have f last found e =
    subst (AllByRecursion (λ x. x.group.aux ≡ [] → x.bound + 1 ≡ length x.group.border)) (sym e.found_are)
    (All-append (λ x. x.group.aux ≡ [] → x.bound + 1 ≡ length x.group.border) e.seeded e.paired
    (seeds-have (range_with_len 1 f.vars) (stored_of f) e.middle e.seeded e.seeds) (pairs-have (range_with_len 1 (length f.constraints)) e.middle e.rest e.paired e.starts))

no-aux : (g : Gathered) (o : Option Eliminated) → IsEliminated g o → o ≡ None → g.aux ≡ []
no-aux g None h e = h.aux
no-aux g (Some x) h e = absurd cc

pub next-pair : (e : Extracted) (k : ℕ) (d : Took) → k < length e.taken → IsExtracted e → (get_or e.taken k d).elimination ≡ None → (get_or e.taken k d).klause.bound + 1 ≡ length (get_or e.taken k d).group.border
next-pair e k d less x none =
    let t = get_or e.taken k d in
    at (λ t. t.group.aux ≡ [] → t.klause.bound + 1 ≡ length t.group.border) e.taken k d
    (from-map found_of (λ x. x.group.aux ≡ [] → x.bound + 1 ≡ length x.group.border) e.taken (all-have e.original e.formula (map found_of e.taken) x.extraction)) less
    (no-aux t.group t.elimination (at IsTaken e.taken k d x.taken less).elimination none)

-- ---- all groups

some-not : (t : Bool) (c : Bounded) → is_some (cond {A = Option Bounded} t None (Some c)) ≡ not t
some-not true c = refl
some-not false c = refl

left-split : (id : ℕ) (c : Bounded) (a b : Bool) (xs : List ℕ) (ps : List Numbered) → a ≡ b → xs ≡ ids_of ps → cond a (id ∷ xs) xs ≡ ids_of (cond b (record { id = id; constraint = c } ∷ ps) ps)
left-split id c a true xs ps e h = ap (λ t. cond t (id ∷ xs) xs) e ∙ ap (λ z. id ∷ z) h
left-split id c a false xs ps e h = ap (λ t. cond t (id ∷ xs) xs) e ∙ h

left-ids : (given : List Given) (gone : ℕ → Bool) (last : ℕ) (cs : List Bounded) → ((k : ℕ) (c : Bounded) → slice_get cs k ≡ Some c → live_at given (last + k + 1) ≡ cond (gone (last + k + 1)) None (Some c))
    → filter (λ id. is_some (live_at given id)) (range_with_len (last + 1) (length cs)) ≡ ids_of (filter (λ p. not (gone p.id)) (numbered last cs))
left-ids given gone last [] h = refl
left-ids given gone last (c ∷ cs) h =
    left-split (last + 1) c (is_some (live_at given (last + 1))) (not (gone (last + 1))) (filter (λ id. is_some (live_at given id)) (range_with_len (last + 1 + 1) (length cs))) (filter (λ p. not (gone p.id)) (numbered (last + 1) cs))
    (ap is_some (ap (live_at given) (first last) ∙ h 0 c refl) ∙ some-not (gone (last + 0 + 1)) c ∙ ap (λ j. not (gone j)) (sym (first last)))
    (left-ids given gone (last + 1) cs (λ k d e. ap (live_at given) (turn last k) ∙ h (suc k) d e ∙ ap (λ j. cond (gone j) None (Some d)) (sym (turn last k))))
  where
    first : (m : ℕ) → m + 1 ≡ m + 0 + 1
    first m = omega arith

    turn : (m n : ℕ) → m + 1 + n + 1 ≡ m + suc n + 1
    turn m n = omega arith

file-live : (gone : ℕ → Bool) (cs : List Bounded) (rest : List Given) (k : ℕ) (c : Bounded) → slice_get cs k ≡ Some c → live_at (file_entries 0 gone cs ++ rest) (0 + k + 1) ≡ cond (gone (0 + k + 1)) None (Some c)
file-live gone cs rest k c e = by (gone (k + 1)) refl
  where
    turn : (n : ℕ) → 0 + n + 1 ≡ n + 1
    turn n = omega arith

    by : (t : Bool) → gone (k + 1) ≡ t → live_at (file_entries 0 gone cs ++ rest) (0 + k + 1) ≡ cond (gone (0 + k + 1)) None (Some c)
    by true is = ap (live_at (file_entries 0 gone cs ++ rest)) (turn k) ∙ gone-at k gone cs rest c e is ∙ sym (ap (λ t. cond t None (Some c)) (ap gone (turn k) ∙ is))
    by false is = ap (live_at (file_entries 0 gone cs ++ rest)) (turn k) ∙ live-at k gone cs rest c e is ∙ sym (ap (λ t. cond t None (Some c)) (ap gone (turn k) ∙ is))

like-self : (cs : List Bounded) → AreLike cs cs
like-self [] = tt
like-self (c ∷ cs) = (inl refl, like-self cs)

like-append : (cs a b : List Bounded) → AreLike a b → AreLike (cs ++ a) (cs ++ b)
like-append [] a b h = h
like-append (c ∷ cs) a b h = (inl refl, like-append cs a b h)

klause-like : (t : Took) (o : Option Eliminated) → IsTaken t → IsLike (klause_by o t.klause) (klause_of (found_of t))
klause-like t None taken = inl taken.klause
klause-like t (Some e) taken = inr (
  ne_eqb t.klause.bound 1 (λ h. let low = taken.range.0 in omega (arith, h, low)),
  refl,
  refl,
  subst (λ (c : Bounded). IsPermutation (reverse c.lits) t.group.border) (sym taken.klause) (IsPermutation-sym t.group.border (reverse t.group.border) (IsPermutation-reverse t.group.border)),
)

klauses-like : (ts : List Took) → AllByRecursion IsTaken ts → AreLike (map klause_in_proof ts) (map klause_of (map found_of ts))
klauses-like [] h = tt
klauses-like (t ∷ ts) h = (klause-like t t.elimination h.0, klauses-like ts h.1)

pub opening-end : (e : Extracted) (s : ProofState) (k : ℕ) (klauses ids left : List ℕ) → IsExtracted e → IsRemainder e.original (map found_of e.taken) e.formula → length e.taken ≤ k → IsOpening e s k klauses
    → left ≡ filter (λ id. is_some (live_at s.given id)) (range_with_len 1 (length e.original.constraints)) → ids ≡ left ++ klauses → IsOpened e s ids
opening-end e s k klauses ids left x remains le o left_is ids_are =
    let cs = e.original.constraints in
    let n = length cs in
    let gone = is_taken e k in
    let kept = filter (λ p. not (gone p.id)) (numbered 0 cs) in
    let whole : take k e.taken ≡ e.taken = take_all k e.taken le in
    let A = constraints_of (filter (λ p. not (is_among (ids_taken (map found_of e.taken)) p.id)) (numbered 0 cs)) in
    let A_is : constraints_of kept ≡ A = ap (λ ts. constraints_of (filter (λ p. not (is_among (ids_taken (map found_of ts)) p.id)) (numbered 0 cs))) whole in
    let live : live_behind 0 s.given ≡ kept ++ live_behind n o.rest =
    ap (live_behind 0) o.given ∙ live-append 0 (file_entries 0 gone cs) o.rest ∙ ap₂ (λ ps m. ps ++ live_behind m o.rest) (live-files 0 gone cs) (zero-left (length (file_entries 0 gone cs)) ∙ file-length 0 gone cs) in
    let klauses_are : constraints_of (live_behind n o.rest) ≡ map klause_in_proof e.taken = o.constraints ∙ ap (map klause_in_proof) whole in
    let all : constraints_of (live_behind 0 s.given) ≡ A ++ map klause_in_proof e.taken =
    ap constraints_of live ∙ constraints-append kept (live_behind n o.rest) ∙ ap₂ (λ a b. a ++ b) A_is klauses_are in
    let long : length e.formula.constraints - length e.taken ≡ length A =
    (let a = ap (λ (z : List Bounded). length z) remains.constraints in let b = length-append A (map klause_of (map found_of e.taken)) in
    let c = length-map (map found_of e.taken) klause_of in let d = length-map e.taken found_of in omega (arith, a, b, c, d)) in
    let front : take (length e.formula.constraints - length e.taken) e.formula.constraints ≡ A =
    ap₂ (λ m (z : List Bounded). take m z) long remains.constraints ∙ take-append_seam A (map klause_of (map found_of e.taken)) in
    record {
      ids_are = ap ids_of live ∙ ids-of-append kept (live_behind n o.rest) ∙ ap₂ (λ a b. a ++ b)
          (sym (left_is ∙ ap (λ z. filter (λ id. is_some (live_at z id)) (range_with_len 1 n)) o.given ∙ left-ids (file_entries 0 gone cs ++ o.rest) gone 0 cs (file-live gone cs o.rest))) o.ids ∙ sym ids_are;
      constraints = all ∙ ap (λ z. z ++ map klause_in_proof e.taken) (sym front);
      like = subst (λ z. AreLike z e.formula.constraints) (sym (searched-live 0 s.given ∙ all)) (subst (AreLike (A ++ map klause_in_proof e.taken)) (sym remains.constraints)
          (like-append A (map klause_in_proof e.taken) (map klause_of (map found_of e.taken)) (klauses-like e.taken x.taken)));
      vars = o.vars;
      refuted = o.refuted;
    }
  where
    zero-left : (m : ℕ) → 0 + m ≡ m
    zero-left m = omega arith
