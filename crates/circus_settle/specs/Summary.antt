-- What is written of a world that has settled.
use Rattle.std.specs.Prelude.{ℕ, List, ◌++◌, codes}
use Rattle.std.specs.Fmt.{decimal}
use Rattle.circus_record.specs.Line.{line}
use Rattle.circus_record.specs.Naming.{Names}
use Rattle.circus_world.specs.WorldState.{WorldState}
use Rattle.circus_report.specs.Report.{rest_text}

-- how many datagrams were delivered, and what a report says behind them
abbrev pub settled_text : {M : Type 0} → Names → ℕ → WorldState M → List ℕ
settled_text names given w =
    line (codes "circus settle 1") ++ line (codes "deliveries " ++ decimal given)
    ++ rest_text names w
