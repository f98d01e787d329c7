-- Open asks, stored as pairs.
use Rattle.std.specs.Prelude.{List}
use Rattle.std.specs.Coded.{Coded, coded×, coded_list}
use Rattle.circus_fanout.specs.Asking.{Asking}
use Rattle.circus_fanout.specs.Seen.AskingCode.{asking_code}
use Rattle.circus_member_rules.specs.declared.occurrence.AskName.{AskName}
use Rattle.circus_member_rules.specs.contracts.occurrence.AskName as name_model

abbrev pub asks_code : Coded (List (AskName × Asking))
asks_code = coded_list (coded× name_model.the_row.coded asking_code)
