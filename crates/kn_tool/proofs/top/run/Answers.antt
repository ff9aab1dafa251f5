use Rattle.kn_tool.specs.Words.{Named}
use Rattle.kn_tool.proofs.Shapes.{no_command, same_name, in_range}
use Rattle.kn_tool.proofs.Replies.{told, told_usage}
use Rattle.kn_tool.proofs.Headline.{headline}
use Rattle.kn_tool.proofs.Complete.{complete}
use Rattle.kn_tool.proofs.top.run.Goals as goal

pub carry_out-reply-requires : goal.carry_out-reply-requires
carry_out-reply-requires g c = in_range _ _ c.parse.ensures

pub returns-clause-tells : goal.returns-clause-tells
returns-clause-tells g c = (_, c.parse.ensures, told _ _ c.carry_out-reply.result _ c.carry_out-reply.ensures.reply c.tell.ensures.told)

pub returns-clause-headline : goal.returns-clause-headline
returns-clause-headline g c =
    headline _ _ _ _ _ c.parse.ensures (told _ _ c.carry_out-reply.result _ c.carry_out-reply.ensures.reply c.tell.ensures.told)

pub returns-clause-complete : goal.returns-clause-complete
returns-clause-complete g c =
    complete _ _ _ _ _ c.parse.ensures (told _ _ c.carry_out-reply.result _ c.carry_out-reply.ensures.reply c.tell.ensures.told)

pub returns-clause-usage : goal.returns-clause-usage
returns-clause-usage g c = λ none. told_usage _ _ _ (c.carry_out-reply.ensures.usage (no_command _ _ c.parse.ensures none)) c.tell.ensures.told

pub returns-clause-unnamed_formula : goal.returns-clause-unnamed_formula
returns-clause-unnamed_formula g c =
    λ request asks none. c.carry_out-reply.ensures.unnamed_formula (same_name (λ (n : Named). n.formula) _ _ request c.parse.ensures asks none)

pub returns-clause-unnamed_proof : goal.returns-clause-unnamed_proof
returns-clause-unnamed_proof g c =
    λ request asks none. c.carry_out-reply.ensures.unnamed_proof (same_name (λ (n : Named). n.proof_in) _ _ request c.parse.ensures asks none)

pub returns-clause-unnamed_sink : goal.returns-clause-unnamed_sink
returns-clause-unnamed_sink g c =
    λ request asks none. c.carry_out-reply.ensures.unnamed_sink (same_name (λ (n : Named). n.proof_out) _ _ request c.parse.ensures asks none)
