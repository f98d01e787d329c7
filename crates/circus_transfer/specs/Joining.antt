-- The phases of a node on its way into a troupe.
use Rattle.std.specs.Prelude.{ℕ}
use Rattle.circus_collate.specs.declared.table.Table.{Table}
use Rattle.circus_collate.specs.declared.table.RingResult.{RingResult}
use Rattle.circus_collate.specs.declared.table.RingResult.TheVariants.{Done, RootTroupe, NotSpare, Full}
use Rattle.circus_transfer.specs.declared.joiner.Joiner.{Joiner}
use Rattle.circus_transfer.specs.declared.joiner.Joiner.TheVariants.{Outside, Asking, Fetching, Active}

-- a spare is told to join
abbrev pub after_join : Joiner → Joiner
after_join Outside = Asking
after_join Asking = Asking
after_join (Fetching incarnation) = Fetching incarnation
after_join (Active first) = Active first

-- the Ringmaster took it in, with this incarnation of the view, or refused it
abbrev pub taken_in : RingResult → ℕ → Joiner
taken_in Done incarnation = Fetching incarnation
taken_in RootTroupe incarnation = Outside
taken_in NotSpare incarnation = Outside
taken_in Full incarnation = Outside

-- the answer to its Join comes
abbrev pub after_table : Table → Joiner → Joiner
after_table table Outside = Outside
after_table table Asking = taken_in table.result table.view.incarnation
after_table table (Fetching incarnation) = Fetching incarnation
after_table table (Active first) = Active first

-- a snapshot with a count comes
abbrev pub after_state : ℕ → Joiner → Joiner
after_state count Outside = Outside
after_state count Asking = Asking
after_state count (Fetching incarnation) = Active count
after_state count (Active first) = Active first
