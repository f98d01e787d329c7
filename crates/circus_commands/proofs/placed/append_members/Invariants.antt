use Rattle.std.proofs.Common.{◌≡◌, ◌+◌, ◌++◌, drop, string_bytes}
use Rattle.circus_commands.specs.Placed.{member_lines}
use Rattle.circus_commands.proofs.placed.append_members.Given as goal

-- the lines so far and those of the members that are left are all lines
abbrev pub invariant-loop-number : goal.invariant-loop-number
invariant-loop-number l = record {
  counted : l.member ≡ 1 + l.number-index;
  written : string_bytes l.text ++ member_lines l.machines l.member (drop l.number-index l.chosen) ≡ string_bytes l.fn.text ++ member_lines l.machines 1 l.chosen;
}
