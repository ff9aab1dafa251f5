use Rattle.std.proofs.Common.{◌+◌, ◌++◌, ◌∷◌, [], ap, sym, subst, ◌∙◌}
use Rattle.kn_lines.specs.declared.line.Line.{Line}
use Rattle.kn_rules.specs.Marks.{AssumedLiterals}
use Rattle.kn_trim.specs.Needed.{variables_given}
use Rattle.kn_trim.specs.Reading.{Read, IsIdle, Takes}
use Rattle.kn_trim.proofs.Read.{idle-behind}
use Rattle.kn_trim.proofs.reader.Reader.take.Goals as goal

pub returns : goal.returns
returns c =
    subst (λ (r : Read). Takes c.args.line r (record { state = c.accept.new.self; assumed = c.grow.new.assumed; lines = c.push.new.self.items })) c.self.view_is (record {
      steps = c.in_ok-accept.ensures.ok;
      lines = c.in_ok-push.ensures.items ∙ ap (λ (l : Line). c.self.inside.lines.items ++ l ∷ []) c.in_ok-lean.ensures.line;
      idle = idle-behind c.self.inside.checker c.accept.new.self c.args.line c.self.inside.assumed c.grow.new.assumed c.in_ok-accept.ensures.ok
          (subst (λ (r : Read). IsIdle r.state r.assumed) (sym c.self.view_is) c.requires.idle)
          (c.in_ok-grow.ensures.vars ∙ ap (λ (a : AssumedLiterals). a.vars + variables_given c.args.line) c.in_ok-lean.ensures.idle)
          (c.in_ok-grow.ensures.lits ∙ ap (λ (a : AssumedLiterals). a.lits) c.in_ok-lean.ensures.idle);
    })
