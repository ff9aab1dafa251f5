-- For the crates above, and first for an engine: what is short, conflicting, forced, satisfied and settled, under
-- trails that grow and go back. Nothing else is known of a constraint there.
-- lists of literals within others
pub use Rattle.kn_watch.proofs.Within.{Within, within-same, consistent_at, open_within, false_within, released_within, satisfied_within, none_false_within, all_set, satisfied_quiet}
-- what stands below a level, and what is settled
pub use Rattle.kn_watch.proofs.Settled.{below_within, below_all, below_twice, settled_back, settled_quiet, settled_back_quiet}
-- trails that grow at their level
pub use Rattle.kn_watch.proofs.Growing.{IsTop, rising_top, below_top, below_append, append_none, below_grown, within_append, within_grown, all_within_grown, settled_now, settled_grows}
-- the first watches, and what is tight
pub use Rattle.kn_watch.proofs.Starting.{all_true, open_append, tight, open_lt, started}
-- what a trail keeps
pub use Rattle.kn_watch.proofs.TrailKeeps.{eqb-sym, known-push, rising-push, rising-raise, literals-push, trail-push, at-most, length-literals, room, set-names, names_unset, consistent_of, different_below, consistent_below}
-- all that a constraint forces made true, place by place
pub use Rattle.kn_watch.proofs.Forcing.{IsForcedTo, lit_own, lit_last, long_none, long_one, long_least, forced_first, not_forced, now_forced, forced_all}
-- counting
pub use Rattle.kn_watch.proofs.Looks.{open_take, take_own, binding_last, last_read, forces_own}
-- cutting at a level
pub use Rattle.kn_watch.proofs.Cutting.{cut_at, cut_none, top_step, top_below, front_different, cut_trail, cut_front}
-- the entry of a variable
pub use Rattle.kn_watch.proofs.Tabled.{none_of, made_of-at, entry_at, unnamed_above}
