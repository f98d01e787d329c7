use Rattle.std.proofs.Common.{◌≡◌, ◌++◌, drop}
use Rattle.std.specs.List.{flat_map}
use Rattle.circus_stub.specs.StubsText.{stubs_text}
use Rattle.circus_commands.proofs.stubs.append_interfaces.Given as goal

-- the text so far and that of what is left are all
abbrev pub invariant-loop-interface : goal.invariant-loop-interface
invariant-loop-interface l = l.text ++ flat_map stubs_text (drop l.interface-index l.interfaces) ≡ l.fn.text ++ flat_map stubs_text l.interfaces
