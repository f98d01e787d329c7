use Rattle.std.proofs.Common.{◌≡◌, ◌++◌, drop}
use Rattle.std.specs.List.{flat_map}
use Rattle.circus_stub.specs.StubsText.{error_line}
use Rattle.circus_stub.proofs.show.add_errors.Given as goal

-- the text so far and that of what is left are all
abbrev pub invariant-loop-place : goal.invariant-loop-place
invariant-loop-place l = l.text ++ flat_map error_line (drop l.place l.errors) ≡ l.initial.text ++ flat_map error_line l.errors
