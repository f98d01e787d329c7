use Rattle.std.proofs.Common.{◌≡◌, ◌++◌, drop}
use Rattle.std.specs.List.{flat_map}
use Rattle.circus_stub.specs.StubsText.{procedure_lines}
use Rattle.circus_stub.proofs.show.add_procedures.Given as goal

-- the text so far and that of what is left are all
abbrev pub invariant-loop-place : goal.invariant-loop-place
invariant-loop-place l = l.text ++ flat_map procedure_lines (drop l.place l.procedures) ≡ l.initial.text ++ flat_map procedure_lines l.procedures
