-- What a search has logged, part by part.
use Rattle.std.proofs.Common.{◌≡◌, ℕ, ◌+◌, ◌≤◌, ◌++◌, ◌∷◌, false, cond, List, [], Option, Result, Ok, Err, refl, sym, ap, ◌∙◌, subst, arith}
use Rattle.std.specs.Result.{IfErr, IsErrAnd}
use Rattle.kn_logic.proofs.Public.{All-append}
use Rattle.kn_bytes.specs.Outside.{Got}
use Rattle.kn_lines.specs.declared.line.Line.{Line}
use Rattle.kn_rules.specs.States.{ProofState}
use Rattle.kn_rules.specs.Steps.{step}
use Rattle.kn_rules.specs.Stepping.{is_lemma, is_deletion, is_learned_clause, learned_in, deletions_in}
use Rattle.kn_rules.specs.Searching.{Allows, SearchesBy}
use Rattle.kn_rules.proofs.Public.{searches-append, learned_in-append}
use Rattle.kn_log.specs.Logs.{Logged, Logs, LogsNot, IsSpelled, IsSpelledUnless, IsReadable, line_bytes}
use Rattle.kn_log.specs.Written.{Adds, AddsSuch, LogsSuch}
use Rattle.kn_log.specs.declared.error.LogError.{LogError}
use Rattle.kn_log.specs.declared.error.LogError.TheVariants.{Fault, Memory}
use Rattle.kn_log.proofs.Public.{Adds-none, Adds-one, Adds-join, Breaks-one, such-not-behind}
use Rattle.kn_search.specs.Outcomes.{MayLog}
use Rattle.kn_search.specs.Searches.{IsPart, LogsPart, LogsPartNot}

deletions_in-append : (a b : List Line) → deletions_in (a ++ b) ≡ deletions_in a + deletions_in b
deletions_in-append [] b = omega arith
deletions_in-append (line ∷ a) b = omega (arith, deletions_in-append a b)

-- no line
pub part-none : (vars forget deletions : ℕ) (log : Logged) (w : Option (List ℕ)) → log.failed ≡ false → LogsPart vars forget deletions 0 0 log log w w
part-none vars forget deletions log w whole = ([], record { searches = refl; none = tt; learned_ = refl; deleted = refl }, Adds-none log w whole)

pub part-start : (vars forget k : ℕ) (log : Logged) (w : Option (List ℕ)) → k ≡ 0 → log.failed ≡ false → LogsPart vars forget 0 0 k log log w w
part-start vars forget k log w none whole = subst (λ (n : ℕ). LogsPart vars forget 0 0 n log log w w) (sym none) (part-none vars forget 0 log w whole)

-- a line that may be logged
may-line : (vars forget deletions : ℕ) (old new : ProofState) (line : Line) → step old line ≡ Ok new → Allows vars forget deletions old line → SearchesBy vars forget deletions old (line ∷ []) new
may-line vars forget deletions old new line e allows = (new, e, allows, (λ _. refl), refl)

-- one line
pub part-line : (vars forget deletions : ℕ) (old new : Logged) (w w' : Option (List ℕ)) (line : Line) → step old.state line ≡ Ok new.state → Allows vars forget deletions old.state line → is_lemma line ≡ false
    → new.failed ≡ false → IsSpelled line → Got w w' (line_bytes line) → LogsPart vars forget deletions (cond (is_learned_clause line) 1 0) (cond (is_deletion line) 1 0) old new w w'
part-line vars forget deletions old new w w' line e allows none whole spelled got = (
  line ∷ [],
  record {
    searches = may-line vars forget deletions old.state new.state line e allows;
    none = (none, tt);
    learned_ = omega arith;
    deleted = omega arith;
  },
  Adds-one line old new w w' e whole spelled got,
)

part_lines : (vars forget deletions m k n i : ℕ) (old mid new : ProofState) (a b : List Line) → IsPart vars forget deletions m k old mid a → IsPart vars forget (deletions + k) n i mid new b → IsPart vars forget deletions (m + n) (k + i) old new (a ++ b)
part_lines vars forget deletions m k n i old mid new a b first next = record {
  searches = searches-append vars forget deletions old mid new a b first.none first.searches (subst (λ (d : ℕ). SearchesBy vars forget (deletions + d) mid b new) (sym first.deleted) next.searches);
  none = All-append (λ line. is_lemma line ≡ false) a b first.none next.none;
  learned_ = learned_in-append a b ∙ ap (λ (x : ℕ). x + learned_in b) first.learned_ ∙ ap (λ (x : ℕ). m + x) next.learned_;
  deleted = deletions_in-append a b ∙ ap (λ (x : ℕ). x + deletions_in b) first.deleted ∙ ap (λ (x : ℕ). k + x) next.deleted;
}

-- one part behind another
pub part-join : (vars forget deletions m k n i : ℕ) (old mid new : Logged) (w v u : Option (List ℕ)) → LogsPart vars forget deletions m k old mid w v → LogsPart vars forget (deletions + k) n i mid new v u → LogsPart vars forget deletions (m + n) (k + i) old new w u
part-join vars forget deletions m k n i old mid new w v u (a, first, adds) (b, next, more) =
    (a ++ b, part_lines vars forget deletions m k n i old.state mid.state new.state a b first next, Adds-join a b old mid new w v u adds more)

-- a part is such lines as a search may log
pub part-may : (vars forget deletions n k : ℕ) (old new : Logged) (w w' : Option (List ℕ)) → LogsPart vars forget deletions n k old new w w' → AddsSuch (MayLog vars forget deletions n old.state new.state) old new w w'
part-may vars forget deletions n k old new w w' (lines, part, adds) = (lines, (part.searches, omega (arith, part.learned_)), adds)

may_behind : (vars forget deletions m k most budget : ℕ) (old mid new : ProofState) (a b : List Line) → m + most ≤ budget → IsPart vars forget deletions m k old mid a → MayLog vars forget (deletions + k) most mid new b → MayLog vars forget deletions budget old new (a ++ b)
may_behind vars forget deletions m k most budget old mid new a b le first (searches, few) = (
  searches-append vars forget deletions old mid new a b first.none first.searches (subst (λ (d : ℕ). SearchesBy vars forget (deletions + d) mid b new) (sym first.deleted) searches),
  omega (arith, learned_in-append a b, first.learned_, few, le),
)

-- lines that a search may log, behind a part
pub may-join : (vars forget deletions m k most budget : ℕ) (old mid new : Logged) (w v u : Option (List ℕ)) → m + most ≤ budget → LogsPart vars forget deletions m k old mid w v → AddsSuch (MayLog vars forget (deletions + k) most mid.state new.state) mid new v u
    → AddsSuch (MayLog vars forget deletions budget old.state new.state) old new w u
may-join vars forget deletions m k most budget old mid new w v u le (a, first, adds) (b, next, more) =
    (a ++ b, may_behind vars forget deletions m k most budget old.state mid.state new.state a b le first next, Adds-join a b old mid new w v u adds more)

-- and where the log failed
pub may-fail : (vars forget deletions m k most budget : ℕ) (old mid new : Logged) (w v u : Option (List ℕ)) (e : LogError) → m + most ≤ budget → LogsPart vars forget deletions m k old mid w v → LogsPartNot vars forget (deletions + k) most mid new v u e
    → LogsPartNot vars forget deletions budget old new w u e
may-fail vars forget deletions m k most budget old mid new w v u e le (a, first, adds) next =
    such-not-behind (MayLog vars forget (deletions + k) most mid.state new.state) (MayLog vars forget deletions budget old.state new.state) a old mid new w v u e
    (λ b may. may_behind vars forget deletions m k most budget old.state mid.state new.state a b le first may) adds next

pub line-fails : (vars forget deletions most : ℕ) (old new : Logged) (w w' : Option (List ℕ)) (line : Line) (e : LogError) → old.failed ≡ false → Allows vars forget deletions old.state line → learned_in (line ∷ []) ≤ most
    → LogsNot line old new w w' e → IsSpelledUnless e line → LogsPartNot vars forget deletions most old new w w' e
line-fails vars forget deletions most old new w w' line Fault whole allows few (steps, failed, got) spelled =
    ([], line, (may-line vars forget deletions old.state new.state line steps allows, few), Breaks-one line old new w w' steps failed spelled got)
line-fails vars forget deletions most old new w w' line Memory whole allows few (same, kept) spelled = (
  [],
  (sym (ap (λ (log : Logged). log.state) same), omega arith),
  subst (λ (log : Logged). Adds [] old log w w') (sym same) (subst (λ (v : Option (List ℕ)). Adds [] old old w v) (sym kept) (Adds-none old w whole)),
)

-- what a call that logs one line has done, where a search may log that line
pub line-logs : {T : Type 0} (vars forget deletions most : ℕ) (old new : Logged) (w w' : Option (List ℕ)) (line : Line) (r : Result T LogError) → old.failed ≡ false → Allows vars forget deletions old.state line → learned_in (line ∷ []) ≤ most
    → Logs line old new w w' r → IsReadable r line → LogsSuch (MayLog vars forget deletions most old.state new.state) old new w w' r
line-logs vars forget deletions most old new w w' line (Ok x) whole allows few (steps, good, got) spelled =
    (line ∷ [], (may-line vars forget deletions old.state new.state line steps allows, few), Adds-one line old new w w' steps good spelled got)
line-logs vars forget deletions most old new w w' line (Err e) whole allows few logs spelled = line-fails vars forget deletions most old new w w' line e whole allows few logs spelled

-- the error that a `?` hands on
pub handed-on : {T E : Type 0} (P : E → Type 0) (r : Result T E) (e : E) → IsErrAnd r (λ x. x ≡ e) → P e → IfErr r P
handed-on P (Ok x) e is h = tt
handed-on P (Err x) e is h = subst P (sym is) h

-- over as many variables
pub part-vars : (a b forget deletions n k : ℕ) (old new : Logged) (w u : Option (List ℕ)) → a ≡ b → LogsPart a forget deletions n k old new w u → LogsPart b forget deletions n k old new w u
part-vars a b forget deletions n k old new w u same h = subst (λ (v : ℕ). LogsPart v forget deletions n k old new w u) same h

pub fail-vars : (a b forget deletions most : ℕ) (old new : Logged) (w u : Option (List ℕ)) (e : LogError) → a ≡ b → LogsPartNot a forget deletions most old new w u e → LogsPartNot b forget deletions most old new w u e
fail-vars a b forget deletions most old new w u e same h = subst (λ (v : ℕ). LogsPartNot v forget deletions most old new w u e) same h

-- one learned clause more
pub part-learned : (vars forget n k : ℕ) (old mid new : Logged) (w x v : Option (List ℕ)) → LogsPart vars forget 0 n k old mid w x → LogsPart vars forget (0 + k) 1 0 mid new x v → LogsPart vars forget 0 (n + 1) (k + 0) old new w v
part-learned vars forget n k old mid new w x v first learned = part-join vars forget 0 n k 1 0 old mid new w x v first learned

-- and perhaps a deletion
pub part-turn : (vars forget n k d more k' : ℕ) (old mid next new : Logged) (w x v u : Option (List ℕ)) → LogsPart vars forget 0 n k old mid w x → LogsPart vars forget (0 + k) 1 0 mid next x v → d ≡ k → k' ≡ d + more → LogsPart vars forget d 0 more next new v u
    → LogsPart vars forget 0 (n + 1) k' old new w u
part-turn vars forget n k d more k' old mid next new w x v u first learned same is forgot =
    let both = part-learned vars forget n k old mid next w x v first learned in
    let at : d ≡ 0 + (k + 0) = omega (arith, same) in
    let all = part-join vars forget 0 (n + 1) (k + 0) 0 more old next new w v u both (subst (λ (i : ℕ). LogsPart vars forget i 0 more next new v u) at forgot) in
    let deleted : (k + 0) + more ≡ k' = omega (arith, is, same) in
    let learnt : (n + 1) + 0 ≡ n + 1 = omega arith in
    subst (λ (m : ℕ). LogsPart vars forget 0 m k' old new w u) learnt (subst (λ (i : ℕ). LogsPart vars forget 0 ((n + 1) + 0) i old new w u) deleted all)

-- or the log failed at a deletion
pub turn-fails : (vars forget n k d budget : ℕ) (old mid next new : Logged) (w x v u : Option (List ℕ)) (e : LogError) → n + 1 ≤ budget → LogsPart vars forget 0 n k old mid w x → LogsPart vars forget (0 + k) 1 0 mid next x v → d ≡ k → LogsPartNot vars forget d 0 next new v u e
    → LogsPartNot vars forget 0 budget old new w u e
turn-fails vars forget n k d budget old mid next new w x v u e le first learned same failed =
    let at : d ≡ 0 + (k + 0) = omega (arith, same) in
    may-fail vars forget 0 (n + 1) (k + 0) 0 budget old next new w v u e (omega (arith, le)) (part-learned vars forget n k old mid next w x v first learned)
    (subst (λ (i : ℕ). LogsPartNot vars forget i 0 next new v u e) at failed)
