use Rattle.std.proofs.Common.{◌≡◌, IfOk, subst}
use Rattle.kn_rules.specs.States.{ProofState, Defined, definition_of, looked_up}
use Rattle.kn_rules.specs.Grids.{is_root}
use Rattle.kn_rules.proofs.Ready.{root-looked-up}
use Rattle.kn_rules.proofs.machine.Machine.is_root.Goals as goal

pub returns : goal.returns
returns c =
    let s : ProofState = record { vars = c.self.inside.vars; definitions = c.self.inside.entries.defined.list; given = c.self.inside.entries.given; refuted = c.self.inside.refuted } in
    subst (λ (t : ProofState). IfOk c.is_root.result (λ yes. yes ≡ is_root (definition_of t) c.args.lits.now c.args.bound c.args.root)) c.self.view_is
    (root-looked-up s c.self.inside.entries.defined c.args.lits.now c.args.bound c.args.root c.is_root.result c.self.invariant.count (subst (λ (d : Defined). IfOk c.is_root.result (λ yes. yes ≡ is_root (looked_up d) c.args.lits.now c.args.bound c.args.root)) c.definitions.ensures c.is_root.ensures))
