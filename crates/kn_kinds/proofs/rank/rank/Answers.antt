use Rattle.std.proofs.Common.{◌≡◌, ℕ, false, sym, ◌∙◌, subst}
use Rattle.std.specs.Prelude.{slice_get, IfSome}
use Rattle.kn_logic.specs.Literals.{names}
use Rattle.kn_watch.specs.Trails.{literals}
use Rattle.kn_watch.proofs.Public.{length-literals}
use Rattle.kn_kinds.proofs.Ranks.{rank_open, rank_of, false_named}
use Rattle.kn_kinds.proofs.rank.rank.Goals as goal

pub returns-then-is_open : goal.returns-then-is_open
returns-then-is_open c = c.len.ensures.value ∙ sym (length-literals c.args.trail.now.made) ∙ sym (rank_open (literals c.args.trail.now.made) c.args.lit (sym c.is_open.ensures ∙ c.if-is_open.true))

pub returns-in-Some : goal.returns-in-Some
returns-in-Some c = rank_of c.args.trail.now.made c.args.lit c.in-Some.place c.in-Some.ensures.kept.different (sym c.is_open.ensures ∙ c.if-is_open.false) c.in-Some.ensures.inside (subst (λ (n : ℕ). IfSome (slice_get c.args.trail.now.made c.in-Some.place) (λ m. m.lit.variable ≡ n)) c.var.ensures.value c.in-Some.ensures.some)

pub returns-in-None : goal.returns-in-None
returns-in-None c = absurd (false_named (literals c.args.trail.now.made) c.args.lit (sym c.is_open.ensures ∙ c.if-is_open.false) (subst (λ (n : ℕ). names (literals c.args.trail.now.made) n ≡ false) c.var.ensures.value c.in-None.ensures.none))
