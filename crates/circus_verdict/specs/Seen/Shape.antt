-- Where boot and joins stand, as tests.
use Rattle.std.specs.Prelude.{Bool, not, ◌&&◌, if◌then◌else◌, List, [], ◌∷◌, is_none, is_some}
use Rattle.std.specs.List.{list_all, list_any}
use Rattle.circus_audit.specs.declared.given.GivenEvent.{GivenEvent}
use Rattle.circus_verdict.specs.Audited.{is_join}

abbrev pub comes : GivenEvent → Bool
comes e = is_some e.event

abbrev pub is_begun : GivenEvent → List GivenEvent → Bool
is_begun boot later = is_none boot.event && list_all comes later

abbrev pub joins : GivenEvent → Bool
joins e = is_join e.event

abbrev pub is_second : Bool → GivenEvent → Bool
is_second spare second = if spare then joins second else not (joins second)

abbrev pub joins_so : Bool → List GivenEvent → Bool
joins_so spare [] = not spare
joins_so spare (second ∷ others) = is_second spare second && not (list_any joins others)
