use Rattle.std.proofs.Common.{◌≡◌, ◌++◌, drop}
use Rattle.circus_picture.specs.Row.{names_field}
use Rattle.circus_picture.proofs.row.append_names.Given as goal

-- what is added and the names that are left are the names of all
abbrev pub invariant-loop-host : goal.invariant-loop-host
invariant-loop-host l = l.row ++ names_field l.width (drop l.host-index l.hosts) ≡ l.fn.row ++ names_field l.width l.hosts
