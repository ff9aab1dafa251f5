-- How a justification ends: the klause is there, the clauses that it stands for are gone, all other ids are as they were.
use Rattle.std.proofs.Common.{◌≡◌, ℕ, ◌+◌, ◌++◌, true, false, List, [], ◌∷◌, length, length-append, nat_eq, Option, None, Some, Result, Ok, Err, IfOk, OnOk, refl, sym, ap, ◌∙◌, subst, arith, append_assoc}
use Rattle.std.specs.List.{AllByRecursion, IsDistinct}
use Rattle.std.specs.Result.{IsOk}
use Rattle.std.proofs.lemmas.List.{append-nil}
use Rattle.std.proofs.lemmas.Bool.{or_left, or_right, eq-eqb}
use Rattle.kn_logic.specs.Constraints.{Bounded, klause}
use Rattle.kn_logic.specs.Groups.{is_among}
use Rattle.kn_logic.proofs.Public.{All-append}
use Rattle.kn_lines.specs.declared.line.Line.{Line}
use Rattle.kn_lines.specs.declared.line.Line.TheVariants.{Header, Define, Lemma, Learned, Klause, Unfold, Delete}
use Rattle.kn_rules.specs.declared.given.Given.{Given}
use Rattle.kn_rules.specs.States.{ProofState, live_at}
use Rattle.kn_rules.specs.Steps.{with_given, deleted, step}
use Rattle.kn_rules.specs.Stepping.{StepsBy}
use Rattle.kn_rules.proofs.Public.{count-gives, with_given-ok, step-keeps, live_at-grows}
use Rattle.kn_bytes.specs.Outside.{Got}
use Rattle.kn_log.specs.Logs.{Logged, line_bytes, IsSpelled, IsSpelledUnless, LogsNot}
use Rattle.kn_log.specs.Written.{Adds, AddsSuch, LogsSuchNot, LogsSuch}
use Rattle.kn_log.specs.declared.error.LogError.{LogError}
use Rattle.kn_log.specs.declared.error.LogError.TheVariants.{Fault, Memory}
use Rattle.kn_log.proofs.Public.{Adds-one, Adds-join, Breaks-one, Breaks-join, such-behind}
use Rattle.kn_justify.specs.Growth.{ArePlain, Grown}
use Rattle.kn_justify.specs.Closings.{AreLive, AreClosing, AreJustifying, klause_entry, Replaces}
use Rattle.kn_justify.proofs.GrowthLemmas.{plain-grows, grown-live}
use Rattle.kn_justify.proofs.SettleLemmas.{live_at-last}
use Rattle.kn_justify.proofs.DeletionLemmas.{deleted-keeps, deleted-gone, live-deletes, live-more, not-among}

-- what the line of a klause gives
pub klause-given : (old new : ProofState) (c : Bounded) (root unit : ℕ) → c ≡ klause c.bound c.lits → step old (Klause c root unit) ≡ Ok new → new.given ≡ old.given ++ klause_entry c ∷ []
klause-given old new c root unit formed e =
    ap (λ (s : ProofState). s.given) (count-gives old new c.bound c.lits root unit e) ∙ ap (λ (x : Bounded). old.given ++ klause_entry x ∷ []) (sym formed)

klause-refutes-not : (old new : ProofState) (c : Bounded) (root unit : ℕ) → step old (Klause c root unit) ≡ Ok new → new.refuted ≡ old.refuted
klause-refutes-not old new c root unit e = ap (λ (s : ProofState). s.refuted) (count-gives old new c.bound c.lits root unit e)

-- what the line of a deletion leaves
same_ok : (s t : ProofState) → ◌≡◌ {A = Result ProofState ℕ} (Ok s) (Ok t) → s ≡ t
same_ok s t e = cc

refuted_by : (s t : ProofState) (r : Result (List Given) ℕ) → with_given s r ≡ Ok t → t.refuted ≡ s.refuted
refuted_by s t (Err cause) e = absurd cc
refuted_by s t (Ok given) e = ap (λ (x : ProofState). x.refuted) (sym (same_ok (record s { given = given }) t e))

given_ok : (s : ProofState) (r : Result (List Given) ℕ) → IsOk r → IsOk (with_given s r)
given_ok s (Ok given) h = refl
given_ok s (Err cause) h = absurd cc

-- behind the klause the ids can be deleted
pub deletion-steps : (old mid : ProofState) (c : Bounded) (root unit : ℕ) (ids gone : List ℕ) → c ≡ klause c.bound c.lits → step old (Klause c root unit) ≡ Ok mid → IsDistinct nat_eq ids → AreLive old.given ids → gone ≡ ids → IsOk (step mid (Delete gone))
deletion-steps old mid c root unit ids gone formed e d h same =
    given_ok mid (deleted mid.given gone)
    (subst (λ (xs : List ℕ). IsOk (deleted mid.given xs)) (sym same)
    (live-deletes ids mid.given d (subst (λ (xs : List Given). AreLive xs ids) (sym (klause-given old mid c root unit formed e)) (live-more old.given (klause_entry c ∷ []) ids h))))

pub closes : (old mid new : ProofState) (c : Bounded) (root unit id : ℕ) (ids gone : List ℕ) → c ≡ klause c.bound c.lits → step old (Klause c root unit) ≡ Ok mid → step mid (Delete gone) ≡ Ok new → gone ≡ ids → id ≡ length old.given + 1 → Replaces old new ids c id
closes old mid new c root unit id ids gone formed e f same at =
    let none : old.given ++ [] ≡ old.given = append-nil old.given in
    let kept = step-keeps old mid (Klause c root unit) refl e in
    let kept_too = step-keeps mid new (Delete gone) refl f in
    record {
      vars = omega (arith, kept.0, kept_too.0);
      help = [];
      are_help = tt;
      id_is = at ∙ ap (λ (xs : List Given). length xs + 1) (sym none);
      given = subst (λ (xs : List Given). deleted (xs ++ klause_entry c ∷ []) ids ≡ Ok new.given) (sym none)
          (subst (λ (xs : List Given). deleted xs ids ≡ Ok new.given) (klause-given old mid c root unit formed e)
          (subst (λ (xs : List ℕ). deleted mid.given xs ≡ Ok new.given) same (with_given-ok mid new (deleted mid.given gone) f)));
      refuted = refuted_by mid new (deleted mid.given gone) f ∙ klause-refutes-not old mid c root unit e;
    }

-- behind definitions and lemmas
pub replaces-behind : (old mid new : ProofState) (ids : List ℕ) (c : Bounded) (id : ℕ) → Grown old mid → Replaces mid new ids c id → Replaces old new ids c id
replaces-behind old mid new ids c id g r =
    let same : mid.given ++ r.help ≡ old.given ++ (g.help ++ r.help) = ap (λ (xs : List Given). xs ++ r.help) g.given ∙ append_assoc old.given g.help r.help in
    record {
      vars = omega (arith, g.vars, r.vars);
      help = g.help ++ r.help;
      are_help = All-append _ g.help r.help g.are_help r.are_help;
      id_is = r.id_is ∙ ap (λ (xs : List Given). length xs + 1) same;
      given = subst (λ (xs : List Given). deleted (xs ++ klause_entry c ∷ []) ids ≡ Ok new.given) same r.given;
      refuted = r.refuted ∙ g.refuted;
    }

-- what the caller reads of it
pub replaces-klause : (old new : ProofState) (ids : List ℕ) (c : Bounded) (id : ℕ) → AreLive old.given ids → Replaces old new ids c id → live_at new.given id ≡ Some c
replaces-klause old new ids c id h r =
    deleted-keeps ids _ new.given id r.given (not-among old.given ids id h (omega (arith, r.id_is, length-append old.given r.help)))
    ∙ subst (λ (k : ℕ). live_at ((old.given ++ r.help) ++ klause_entry c ∷ []) k ≡ Some c) (sym r.id_is) (live_at-last (old.given ++ r.help) (klause_entry c) c refl)

all-gone : (given gone : List Given) (all ids : List ℕ) → deleted given all ≡ Ok gone → ((k : ℕ) → is_among ids k ≡ true → is_among all k ≡ true) → AllByRecursion (λ k. live_at gone k ≡ None) ids
all-gone given gone all [] e h = tt
all-gone given gone all (id ∷ ids) e h =
    (deleted-gone all given gone id e (h id (or_left _ _ (eq-eqb id id refl))), all-gone given gone all ids e (λ k t. h k (or_right _ _ t)))

pub replaces-gone : (old new : ProofState) (ids : List ℕ) (c : Bounded) (id : ℕ) → Replaces old new ids c id → AllByRecursion (λ k. live_at new.given k ≡ None) ids
replaces-gone old new ids c id r = all-gone ((old.given ++ r.help) ++ klause_entry c ∷ []) new.given ids ids r.given (λ k t. t)

-- lines
pub StepsBy-split : (a b : List Line) (old new : ProofState) → StepsBy old (a ++ b) new → (mid : ProofState) × StepsBy old a mid × StepsBy mid b new
StepsBy-split [] b old new h = (old, refl, h)
StepsBy-split (line ∷ a) b old new (next, e, h) = (let (mid, first, last) = StepsBy-split a b next new h in (mid, (next, e, first), last))

klause-keeps : (old new : ProofState) (k : Bounded) (root unit id : ℕ) (c : Bounded) → step old (Klause k root unit) ≡ Ok new → live_at old.given id ≡ Some c → live_at new.given id ≡ Some c
klause-keeps old new k root unit id c e h =
    subst (λ (s : ProofState). live_at s.given id ≡ Some c) (sym (count-gives old new k.bound k.lits root unit e)) (live_at-grows old.given _ id c h)

delete-keeps : (old new : ProofState) (gone ids : List ℕ) (id : ℕ) (c : Bounded) → gone ≡ ids → is_among ids id ≡ false → step old (Delete gone) ≡ Ok new → live_at old.given id ≡ Some c → live_at new.given id ≡ Some c
delete-keeps old new gone ids id c same other e h =
    deleted-keeps gone old.given new.given id (with_given-ok old new (deleted old.given gone) e) (subst (λ (xs : List ℕ). is_among xs id ≡ false) (sym same) other) ∙ h

closing-keeps : (lines : List Line) (old new : ProofState) (k : Bounded) (ids : List ℕ) (id : ℕ) (c : Bounded) → AreClosing k ids lines → StepsBy old lines new → is_among ids id ≡ false → live_at old.given id ≡ Some c → live_at new.given id ≡ Some c
closing-keeps [] old new k ids id c p h other e = subst (λ (s : ProofState). live_at s.given id ≡ Some c) h e
closing-keeps (Klause x root unit ∷ []) old new k ids id c p (next, f, h) other e =
    subst (λ (s : ProofState). live_at s.given id ≡ Some c) h (klause-keeps old next x root unit id c f e)
closing-keeps (Klause x root unit ∷ Delete gone ∷ []) old new k ids id c p (next, f, (last, g, h)) other e =
    subst (λ (s : ProofState). live_at s.given id ≡ Some c) h
    (delete-keeps next last gone ids id c p.1 other g (klause-keeps old next x root unit id c f e))
closing-keeps (Klause x root unit ∷ Delete gone ∷ line ∷ lines) old new k ids id c p h other e = absurd p
closing-keeps (Klause x root unit ∷ Header a b ∷ lines) old new k ids id c p h other e = absurd p
closing-keeps (Klause x root unit ∷ Define a b d ∷ lines) old new k ids id c p h other e = absurd p
closing-keeps (Klause x root unit ∷ Lemma a b ∷ lines) old new k ids id c p h other e = absurd p
closing-keeps (Klause x root unit ∷ Learned a b ∷ lines) old new k ids id c p h other e = absurd p
closing-keeps (Klause x root unit ∷ Klause a b d ∷ lines) old new k ids id c p h other e = absurd p
closing-keeps (Klause x root unit ∷ Unfold a b ∷ lines) old new k ids id c p h other e = absurd p
closing-keeps (Header a b ∷ lines) old new k ids id c p h other e = absurd p
closing-keeps (Define a b d ∷ lines) old new k ids id c p h other e = absurd p
closing-keeps (Lemma a b ∷ lines) old new k ids id c p h other e = absurd p
closing-keeps (Learned a b ∷ lines) old new k ids id c p h other e = absurd p
closing-keeps (Unfold a b ∷ lines) old new k ids id c p h other e = absurd p
closing-keeps (Delete a ∷ lines) old new k ids id c p h other e = absurd p

justifying-keeps : (lines : List Line) (old new : ProofState) (k : Bounded) (ids : List ℕ) (id : ℕ) (c : Bounded) → AreJustifying k ids lines → StepsBy old lines new → is_among ids id ≡ false → live_at old.given id ≡ Some c → live_at new.given id ≡ Some c
justifying-keeps lines old new k ids id c p h other e =
    let (mid, first, last) = StepsBy-split p.front p.back old new (subst (λ (xs : List Line). StepsBy old xs new) p.both h) in
    closing-keeps p.back mid new k ids id c p.closing last other (grown-live old mid id c (plain-grows p.front old mid p.plain first) e)

such-keeps-not : (old new : Logged) (w w' : Option (List ℕ)) (error : LogError) (k : Bounded) (ids : List ℕ) (id : ℕ) (c : Bounded) → LogsSuchNot (AreJustifying k ids) old new w w' error → is_among ids id ≡ false → live_at old.state.given id ≡ Some c → live_at new.state.given id ≡ Some c
such-keeps-not old new w w' Fault k ids id c (lines, last, p, h) other e = justifying-keeps (lines ++ last ∷ []) old.state new.state k ids id c p h.steps other e
such-keeps-not old new w w' Memory k ids id c (lines, p, h) other e = justifying-keeps lines old.state new.state k ids id c p h.steps other e

-- an id that the justification does not stand for is as it was, whatever is answered
pub such-keeps : {T : Type 0} (old new : Logged) (w w' : Option (List ℕ)) (r : Result T LogError) (k : Bounded) (ids : List ℕ) (id : ℕ) (c : Bounded) → LogsSuch (AreJustifying k ids) old new w w' r → is_among ids id ≡ false → live_at old.state.given id ≡ Some c → live_at new.state.given id ≡ Some c
such-keeps old new w w' (Ok x) k ids id c (lines, p, h) other e = justifying-keeps lines old.state new.state k ids id c p h.steps other e
such-keeps old new w w' (Err error) k ids id c h other e = such-keeps-not old new w w' error k ids id c h other e

-- plain lines are those of a justification that has not come to its klause
plain-justifying : (k : Bounded) (ids : List ℕ) (lines : List Line) → ArePlain lines → AreJustifying k ids lines
plain-justifying k ids lines p = record { front = lines; back = []; both = sym (append-nil lines); plain = p; closing = tt }

pub such-plain-not : (k : Bounded) (ids : List ℕ) (old new : Logged) (w w' : Option (List ℕ)) (error : LogError) → LogsSuchNot ArePlain old new w w' error → LogsSuchNot (AreJustifying k ids) old new w w' error
such-plain-not k ids old new w w' Fault (lines, last, p, f) = (lines, last, plain-justifying k ids (lines ++ last ∷ []) p, f)
such-plain-not k ids old new w w' Memory (lines, p, f) = (lines, plain-justifying k ids lines p, f)

pub such-plain : {T : Type 0} (k : Bounded) (ids : List ℕ) (old new : Logged) (w w' : Option (List ℕ)) (r : Result T LogError) → LogsSuch ArePlain old new w w' r → LogsSuch (AreJustifying k ids) old new w w' r
such-plain k ids old new w w' (Ok x) (lines, p, h) = (lines, plain-justifying k ids lines p, h)
such-plain k ids old new w w' (Err e) h = such-plain-not k ids old new w w' e h

-- the lines that close it come behind plain ones
pub closing-behind : {T : Type 0} (k : Bounded) (ids : List ℕ) (old mid new : Logged) (w v u : Option (List ℕ)) (r : Result T LogError) → AddsSuch ArePlain old mid w v → LogsSuch (AreClosing k ids) mid new v u r → LogsSuch (AreJustifying k ids) old new w u r
closing-behind k ids old mid new w v u r (front, p, h) last =
    such-behind (AreClosing k ids) (AreJustifying k ids) front old mid new w v u r (λ back closing. record { front = front; back = back; both = refl; plain = p; closing = closing }) h last

-- the lines of a klause and of the deletion
pub closed-lines : (k : Bounded) (root unit : ℕ) (ids gone : List ℕ) (old mid new : Logged) (w v u : Option (List ℕ)) → gone ≡ ids
    → (step old.state (Klause k root unit) ≡ Ok mid.state) × (mid.failed ≡ false) × Got w v (line_bytes (Klause k root unit)) → IsSpelled (Klause k root unit)
    → (step mid.state (Delete gone) ≡ Ok new.state) × (new.failed ≡ false) × Got v u (line_bytes (Delete gone)) → IsSpelled (Delete gone) → AddsSuch (AreClosing k ids) old new w u
closed-lines k root unit ids gone old mid new w v u same (e, whole, got) spelled (f, good, more) told = (
  Klause k root unit ∷ Delete gone ∷ [],
  (refl, same),
  Adds-join (Klause k root unit ∷ []) (Delete gone ∷ []) old mid new w v u (Adds-one (Klause k root unit) old mid w v e whole spelled got) (Adds-one (Delete gone) mid new v u f good told more),
)

pub closed-not : (k : Bounded) (root unit : ℕ) (ids gone : List ℕ) (old mid new : Logged) (w v u : Option (List ℕ)) (error : LogError) → gone ≡ ids
    → (step old.state (Klause k root unit) ≡ Ok mid.state) × (mid.failed ≡ false) × Got w v (line_bytes (Klause k root unit)) → IsSpelled (Klause k root unit)
    → LogsNot (Delete gone) mid new v u error → IsSpelledUnless error (Delete gone) → LogsSuchNot (AreClosing k ids) old new w u error
closed-not k root unit ids gone old mid new w v u Fault same (e, whole, got) spelled (f, failed, front) told = (
  Klause k root unit ∷ [],
  Delete gone,
  (refl, same),
  Breaks-join (Klause k root unit ∷ []) [] (Delete gone) old mid new w v u (Adds-one (Klause k root unit) old mid w v e whole spelled got) (Breaks-one (Delete gone) mid new v u f failed told front),
)
closed-not k root unit ids gone old mid new w v u Memory same (e, whole, got) spelled (kept, same_sink) told = (
  Klause k root unit ∷ [],
  refl,
  subst (λ (log : Logged). Adds (Klause k root unit ∷ []) old log w u) (sym kept)
      (subst (λ (x : Option (List ℕ)). Adds (Klause k root unit ∷ []) old mid w x) (sym same_sink) (Adds-one (Klause k root unit) old mid w v e whole spelled got)),
)

-- ids that are live stay live
pub live-grows : (old new : ProofState) (ids : List ℕ) → Grown old new → AreLive old.given ids → AreLive new.given ids
live-grows old new ids g h = subst (λ (xs : List Given). AreLive xs ids) (sym g.given) (live-more old.given g.help ids h)

-- what a result answers
pub if-ok : {T E : Type 0} (r : Result T E) (P Q : T → Type 0) → IfOk r P → ((x : T) → P x → Q x) → IfOk r Q
if-ok (Ok x) P Q h f = f x h
if-ok (Err e) P Q h f = tt

pub ok-of : {T E : Type 0} (r : Result T E) (P : T → Type 0) (Q : Type 0) → IfOk r P → ((x : T) → P x → Q) → OnOk r Q
ok-of (Ok x) P Q h f = f x h
ok-of (Err e) P Q h f = tt
