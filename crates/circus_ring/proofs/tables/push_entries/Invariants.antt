use Rattle.std.proofs.Common.{take}
use Rattle.std.specs.List.{flat_map}
use Rattle.circus_header.specs.Seen.Written.{Written}
use Rattle.circus_ring.specs.TableFields.{entry_fields}
use Rattle.circus_ring.proofs.tables.push_entries.Given as goal

abbrev pub invariant-loop-entry : goal.invariant-loop-entry
invariant-loop-entry l = Written l.fn.out (flat_map entry_fields (take l.entry-index l.entries)) l.out
