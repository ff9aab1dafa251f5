use Rattle.std.proofs.Common.{◌≡◌, ◌+◌, true, ◌++◌, IsOk, length, map, sym, subst, ap, ◌∙◌}
use Rattle.kn_rules.specs.States.{ProofState, Defined}
use Rattle.kn_rules.specs.Entries.{Entered}
use Rattle.kn_rules.specs.Steps.{define, definition_clauses, by_definition}
use Rattle.kn_rules.proofs.Ready.{defined-ready}
use Rattle.kn_rules.proofs.machine.Machine.keep_definition.Goals as goal

pub invariant_of-self-2 : goal.invariant_of-self-2
invariant_of-self-2 c =
    let s : ProofState = record { vars = c.self.inside.vars; definitions = c.self.inside.entries.defined.list; given = c.self.inside.entries.given; refuted = c.self.inside.refuted } in
    let ok : IsOk (define s c.args.x c.args.high c.args.low) = subst (λ (t : ProofState). IsOk (define t c.args.x c.args.high c.args.low)) (sym c.self.view_is) c.requires in
    let next : c.next-variable.result ≡ c.self.inside.entries.defined.base + length c.self.inside.entries.defined.list + 1 = c.next-variable.ensures ∙ ap (λ (d : Defined). d.base + length d.list + 1) c.definitions.ensures in
    let variable : c.next-variable.result ≡ s.vars + 1 = next ∙ ap (λ n. n + 1) c.self.invariant.count in
    let given : c.define.new.self.given ≡ s.given ++ map by_definition (definition_clauses (record { variable = c.next-variable.result; positive = true }) c.args.x c.args.high c.args.low) = ap (λ (e : Entered). e.given) c.in_ok-define.ensures.ok ∙ ap (λ v. s.given ++ map by_definition (definition_clauses (record { variable = v; positive = true }) c.args.x c.args.high c.args.low)) (sym next) in
    defined-ready s c.args.x c.args.high c.args.low c.self.inside.entries.defined c.define.new.self.defined c.self.inside.assumed _ c.define.new.self.given _ c.self.invariant ok variable (ap (λ (e : Entered). e.defined) c.in_ok-define.ensures.ok) given c.in_ok-grow.ensures.ok
