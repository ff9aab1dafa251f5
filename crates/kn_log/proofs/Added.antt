-- What several calls added, one after another.
use Rattle.std.proofs.Common.{◌≡◌, ℕ, ◌+◌, true, false, List, [], ◌∷◌, ◌++◌, Option, Result, Ok, Err, refl, sym, ap, ◌∙◌, subst, append_assoc}
use Rattle.std.proofs.lemmas.List.{append-nil}
use Rattle.kn_bytes.specs.Outside.{Got, GotPrefix}
use Rattle.kn_bytes.proofs.Public.{Got-nil, Got-append, GotPrefix-append}
use Rattle.kn_lines.specs.declared.line.Line.{Line}
use Rattle.kn_rules.specs.Steps.{step}
use Rattle.kn_rules.specs.Stepping.{StepsBy}
use Rattle.kn_rules.proofs.Public.{StepsBy-append}
use Rattle.kn_log.specs.declared.error.LogError.{LogError}
use Rattle.kn_log.specs.declared.error.LogError.TheVariants.{Fault, Memory}
use Rattle.kn_log.specs.Logs.{Logged, line_bytes, IsSpelled, IsSpelledUnless, IsReadable, LogsNot, Logs}
use Rattle.kn_log.specs.Written.{AreSpelled, lines_bytes, Adds, Breaks, LogsSuchNot, LogsSuch}

pub AreSpelled-append : (a b : List Line) → AreSpelled a → AreSpelled b → AreSpelled (a ++ b)
AreSpelled-append [] b first next = next
AreSpelled-append (line ∷ a) b first next = (first.0, AreSpelled-append a b first.1 next)

pub lines_bytes-append : (a b : List Line) → lines_bytes (a ++ b) ≡ lines_bytes a ++ lines_bytes b
lines_bytes-append [] b = refl
lines_bytes-append (line ∷ a) b = ap (λ (bytes : List ℕ). line_bytes line ++ bytes) (lines_bytes-append a b) ∙ sym (append_assoc (line_bytes line) (lines_bytes a) (lines_bytes b))

bytes-one : (line : Line) → lines_bytes (line ∷ []) ≡ line_bytes line
bytes-one line = append-nil (line_bytes line)

-- no line
pub Adds-none : (old : Logged) (w : Option (List ℕ)) → old.failed ≡ false → Adds [] old old w w
Adds-none old w e = record { steps = refl; spelled = tt; got = Got-nil w; whole = e }

-- one line
pub Adds-one : (line : Line) (old new : Logged) (w w' : Option (List ℕ)) → step old.state line ≡ Ok new.state → new.failed ≡ false → IsSpelled line → Got w w' (line_bytes line) → Adds (line ∷ []) old new w w'
Adds-one line old new w w' e whole h got = record {
  steps = (new.state, e, refl);
  spelled = (h, tt);
  got = subst (λ (bytes : List ℕ). Got w w' bytes) (sym (bytes-one line)) got;
  whole = whole;
}

-- what two turns added was added in one
pub Adds-join : (a b : List Line) (old mid new : Logged) (w v u : Option (List ℕ)) → Adds a old mid w v → Adds b mid new v u → Adds (a ++ b) old new w u
Adds-join a b old mid new w v u first next = record {
  steps = StepsBy-append a b old.state mid.state new.state first.steps next.steps;
  spelled = AreSpelled-append a b first.spelled next.spelled;
  got = subst (λ (bytes : List ℕ). Got w u bytes) (sym (lines_bytes-append a b)) (Got-append w v u (lines_bytes a) (lines_bytes b) first.got next.got);
  whole = next.whole;
}

-- one line, of which the sink has got a prefix
pub Breaks-one : (line : Line) (old new : Logged) (w w' : Option (List ℕ)) → step old.state line ≡ Ok new.state → new.failed ≡ true → IsSpelled line → GotPrefix w w' (line_bytes line) → Breaks [] line old new w w'
Breaks-one line old new w w' e failed h got = record {
  steps = (new.state, e, refl);
  spelled = (h, tt);
  got = (w, Got-nil w, got);
  failed = failed;
}

-- lines, and behind them some of which the last was not written whole
pub Breaks-join : (a b : List Line) (last : Line) (old mid new : Logged) (w v u : Option (List ℕ)) → Adds a old mid w v → Breaks b last mid new v u → Breaks (a ++ b) last old new w u
Breaks-join a b last old mid new w v u first next =
    let same : (a ++ b) ++ last ∷ [] ≡ a ++ (b ++ last ∷ []) = append_assoc a b (last ∷ []) in
    record {
      steps = subst (λ (lines : List Line). StepsBy old.state lines new.state) (sym same) (StepsBy-append a (b ++ last ∷ []) old.state mid.state new.state first.steps next.steps);
      spelled = subst AreSpelled (sym same) (AreSpelled-append a (b ++ last ∷ []) first.spelled next.spelled);
      got = (
        next.got.0,
        subst (λ (bytes : List ℕ). Got w next.got.0 bytes) (sym (lines_bytes-append a b)) (Got-append w v next.got.0 (lines_bytes a) (lines_bytes b) first.got next.got.1),
        next.got.2,
      );
      failed = next.failed;
    }

-- a prefix of all the lines was written
pub Breaks-front : (lines : List Line) (last : Line) (old new : Logged) (w w' : Option (List ℕ)) → Breaks lines last old new w w' → GotPrefix w w' (lines_bytes (lines ++ last ∷ []))
Breaks-front lines last old new w w' h =
    subst (λ (bytes : List ℕ). GotPrefix w w' bytes)
    (ap (λ (bytes : List ℕ). lines_bytes lines ++ bytes) (sym (bytes-one last)) ∙ sym (lines_bytes-append lines (last ∷ [])))
    (GotPrefix-append w h.got.0 w' (lines_bytes lines) (line_bytes last) h.got.1 h.got.2)

-- what a call for one line has done, and a call behind lines that were added

pub logs-such-not : (P : List Line → Type 0) (line : Line) (old new : Logged) (w w' : Option (List ℕ)) (e : LogError) → old.failed ≡ false → P [] → P (line ∷ []) → LogsNot line old new w w' e → IsSpelledUnless e line → LogsSuchNot P old new w w' e
logs-such-not P line old new w w' Fault whole none one (steps, failed, got) spelled = ([], line, one, Breaks-one line old new w w' steps failed spelled got)
logs-such-not P line old new w w' Memory whole none one (same, kept) spelled =
    ([], none, subst (λ (log : Logged). Adds [] old log w w') (sym same) (subst (λ (v : Option (List ℕ)). Adds [] old old w v) (sym kept) (Adds-none old w whole)))

pub logs-such : {T : Type 0} (P : List Line → Type 0) (line : Line) (old new : Logged) (w w' : Option (List ℕ)) (r : Result T LogError) → old.failed ≡ false → P [] → P (line ∷ []) → Logs line old new w w' r → IsReadable r line → LogsSuch P old new w w' r
logs-such P line old new w w' (Ok x) whole none one (steps, good, got) spelled = (line ∷ [], one, Adds-one line old new w w' steps good spelled got)
logs-such P line old new w w' (Err e) whole none one logs spelled = logs-such-not P line old new w w' e whole none one logs spelled

-- where it may log the lines a before its own, what holds of them all is Q
pub such-not-behind : (P Q : List Line → Type 0) (a : List Line) (old mid new : Logged) (w v u : Option (List ℕ)) (e : LogError) → ((b : List Line) → P b → Q (a ++ b)) → Adds a old mid w v → LogsSuchNot P mid new v u e → LogsSuchNot Q old new w u e
such-not-behind P Q a old mid new w v u Fault joins first (b, last, p, next) =
    (a ++ b, last, subst Q (sym (append_assoc a b (last ∷ []))) (joins (b ++ last ∷ []) p), Breaks-join a b last old mid new w v u first next)
such-not-behind P Q a old mid new w v u Memory joins first (b, p, next) = (a ++ b, joins b p, Adds-join a b old mid new w v u first next)

pub such-behind : {T : Type 0} (P Q : List Line → Type 0) (a : List Line) (old mid new : Logged) (w v u : Option (List ℕ)) (r : Result T LogError) → ((b : List Line) → P b → Q (a ++ b)) → Adds a old mid w v → LogsSuch P mid new v u r → LogsSuch Q old new w u r
such-behind P Q a old mid new w v u (Ok x) joins first (b, p, next) = (a ++ b, joins b p, Adds-join a b old mid new w v u first next)
such-behind P Q a old mid new w v u (Err e) joins first next = such-not-behind P Q a old mid new w v u e joins first next
