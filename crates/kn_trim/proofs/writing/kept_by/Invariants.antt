use Rattle.std.proofs.Common.{◌≡◌, ◌++◌, drop}
use Rattle.kn_trim.specs.Needed.{kept_by, marks_given, ids_given, variables_given}
use Rattle.kn_trim.proofs.writing.kept_by.Given as goal

abbrev pub invariant-loop-place : goal.invariant-loop-place
invariant-loop-place l = record {
  variables : l.kept.variables ++ marks_given variables_given (drop l.place l.lines) (drop l.place l.own) ≡ (kept_by l.f l.lines l.own).variables;
  ids : l.kept.ids ++ marks_given ids_given (drop l.place l.lines) (drop l.place l.own) ≡ (kept_by l.f l.lines l.own).ids;
}
