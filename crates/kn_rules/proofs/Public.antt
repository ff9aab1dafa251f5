-- For the crates above: what a proof says of its formula, what a step gives and keeps, and lines that step one after
-- another.
pub use Rattle.kn_rules.proofs.Sound.{proof-refutes}
pub use Rattle.kn_rules.proofs.Stepping.{follow-gives, define-gives, count-gives, unfold-gives, with_given-ok, step-keeps, define-defines, define-keeps, step-within, StepsBy-append, learned_in-append, searches-step, searches-append, searches-push, given_at-grows, live_at-grows}
pub use Rattle.kn_rules.proofs.Few.{few-learned, few-forgetting}
