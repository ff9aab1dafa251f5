use Rattle.std.proofs.Common.{IsOk, sym, subst}
use Rattle.kn_rules.specs.States.{ProofState, IsReady}
use Rattle.kn_rules.specs.Entries.{Entered}
use Rattle.kn_rules.specs.Steps.{follow}
use Rattle.kn_rules.proofs.Ready.{kept-within}
use Rattle.kn_rules.proofs.machine.Machine.keep.Goals as goal

pub invariant_of-self-2 : goal.invariant_of-self-2
invariant_of-self-2 c =
    let s : ProofState = record { vars = c.self.inside.vars; definitions = c.self.inside.entries.defined.list; given = c.self.inside.entries.given; refuted = c.self.inside.refuted } in
    let ok : IsOk (follow s c.args.origin c.args.c.lits c.args.hints.now) = subst (λ (t : ProofState). IsOk (follow t c.args.origin c.args.c.lits c.args.hints.now)) (sym c.self.view_is) c.requires.steps in
    subst (λ (e : Entered). IsReady c.self.inside.vars e.defined e.given c.self.inside.assumed) (sym c.in_ok-push.ensures.ok)
    (record {
      empty = c.self.invariant.empty;
      room = c.self.invariant.room;
      count = c.self.invariant.count;
      within = kept-within s c.args.origin c.args.c c.args.hints.now c.self.invariant.within c.requires.formed ok;
    })
