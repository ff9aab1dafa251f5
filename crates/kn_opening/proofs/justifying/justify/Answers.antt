use Rattle.std.proofs.Common.{◌≡◌, ◌∙◌, sym, ap, subst, ◌+◌, ◌-◌, map}
use Rattle.std.specs.Prelude.{nat_eq, IfOk}
use Rattle.std.specs.List.{IsDistinct}
use Rattle.std.specs.Option.{option_copied}
use Rattle.kn_logic.specs.Groups.{Gathered}
use Rattle.kn_log.specs.Written.{LogsSuch}
use Rattle.kn_justify.specs.Closings.{AreJustifying, Replaces}
use Rattle.kn_justify.specs.PairGroups.{pair_klause}
use Rattle.kn_justify.specs.Taken.{AreTaken}
use Rattle.kn_opening.proofs.JustifyLemmas.{ids-distinct, pair-klause, are-taken}
use Rattle.kn_opening.proofs.justifying.justify.Goals as goal

pub justify_pairs-requires-clause-different : goal.justify_pairs-requires-clause-different
justify_pairs-requires-clause-different g c =
    subst (IsDistinct nat_eq) (sym (c.deref.ensures.value ∙ c.in_ok-ids.ensures ∙ ap (map (λ place. place + 1)) c.places.ensures.value)) (ids-distinct c.args.taken.now.places c.places.ensures.taken.ascending)

pub returns-in-None-clause-replaced : goal.returns-in-None-clause-replaced
returns-in-None-clause-replaced g c =
    let t = c.args.taken.now in
    let ids = c.deref.ensures.value ∙ c.in_ok-ids.ensures ∙ ap (map (λ place. place + 1)) c.places.ensures.value in
    let none = sym c.elimination.ensures.value ∙ ap option_copied c.in-None.is in
    let same = ap (λ (x : Gathered). pair_klause x) c.group.ensures.value ∙ pair-klause t c.places.ensures.taken none (c.requires.pair none) in
    subst (λ k. IfOk c.justify_pairs.result (Replaces c.args.log.now.state c.justify_pairs.new.log.state (map (λ place. place + 1) t.places) k)) same
    (subst (λ i. IfOk c.justify_pairs.result (Replaces c.args.log.now.state c.justify_pairs.new.log.state i (pair_klause c.group.result.now))) ids c.justify_pairs.ensures.replaced)

pub returns-in-None-clause-lines : goal.returns-in-None-clause-lines
returns-in-None-clause-lines g c =
    let t = c.args.taken.now in
    let ids = c.deref.ensures.value ∙ c.in_ok-ids.ensures ∙ ap (map (λ place. place + 1)) c.places.ensures.value in
    let none = sym c.elimination.ensures.value ∙ ap option_copied c.in-None.is in
    let same = ap (λ (x : Gathered). pair_klause x) c.group.ensures.value ∙ pair-klause t c.places.ensures.taken none (c.requires.pair none) in
    subst (λ k. LogsSuch (AreJustifying k (map (λ place. place + 1) t.places)) c.args.log.now c.justify_pairs.new.log (g.S.Sink.written c.args.sink.now) (g.S.Sink.written c.justify_pairs.new.sink) c.justify_pairs.result) same
    (subst (λ i. LogsSuch (AreJustifying (pair_klause c.group.result.now) i) c.args.log.now c.justify_pairs.new.log (g.S.Sink.written c.args.sink.now) (g.S.Sink.written c.justify_pairs.new.sink) c.justify_pairs.result) ids c.justify_pairs.ensures.lines)

pub justify_elimination-requires-clause-different : goal.justify_elimination-requires-clause-different
justify_elimination-requires-clause-different g c =
    subst (IsDistinct nat_eq) (sym (c.deref-in-Some.ensures.value ∙ c.in_ok-ids.ensures ∙ ap (map (λ place. place + 1)) c.places.ensures.value)) (ids-distinct c.args.taken.now.places c.places.ensures.taken.ascending)

pub justify_pairs-requires-clause-live : goal.justify_pairs-requires-clause-live
justify_pairs-requires-clause-live g c =
    let ids = c.deref.ensures.value ∙ c.in_ok-ids.ensures ∙ ap (map (λ place. place + 1)) c.places.ensures.value in
    subst (λ (x : Gathered). AreTaken c.args.log.now.state.given c.deref.result.now x.taken) (sym c.group.ensures.value)
    (subst (λ i. AreTaken c.args.log.now.state.given i c.args.taken.now.group.taken) (sym ids)
    (are-taken c.args.log.now.state.given (map (λ place. place + 1) c.args.taken.now.places) c.args.taken.now.group.taken c.requires.live))

pub justify_elimination-requires-clause-live : goal.justify_elimination-requires-clause-live
justify_elimination-requires-clause-live g c =
    let ids = c.deref-in-Some.ensures.value ∙ c.in_ok-ids.ensures ∙ ap (map (λ place. place + 1)) c.places.ensures.value in
    subst (λ (x : Gathered). AreTaken c.args.log.now.state.given c.deref-in-Some.result.now x.taken) (sym c.group-in-Some.ensures.value)
    (subst (λ i. AreTaken c.args.log.now.state.given i c.args.taken.now.group.taken) (sym ids)
    (are-taken c.args.log.now.state.given (map (λ place. place + 1) c.args.taken.now.places) c.args.taken.now.group.taken c.requires.live))
