use Rattle.std.proofs.Common.{◌≡◌, ◌++◌, drop}
use Rattle.circus_picture.specs.Row.{field}
use Rattle.circus_picture.proofs.row.Columns.append.Given as goal

-- what is added and the columns of the nodes that are left are the columns of all
abbrev pub invariant-loop-node : goal.invariant-loop-node
invariant-loop-node l =
    l.row ++ field l.self.width l.step l.drawn l.node (drop l.node l.self.crashes)
    ≡ l.fn.row ++ field l.self.width l.step l.drawn 0 l.self.crashes
