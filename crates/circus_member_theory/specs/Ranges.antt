-- Which occurrences a member has room for.
use Rattle.std.specs.Prelude.{◌≤◌}
use Rattle.circus_performing.specs.Performing.{last_count}
use Rattle.circus_member_rules.specs.declared.occurrence.Occurrence.{Occurrence}
use Rattle.circus_member_rules.specs.declared.occurrence.Occurrence.TheVariants as comes

-- a count that comes has room in a record
abbrev pub InRange : Occurrence → Type 0
InRange (comes.Asked header body sender) = Unit {0}
InRange (comes.Fetched incarnation sender) = Unit {0}
InRange (comes.Replied name from reply) = Unit {0}
InRange (comes.IsStale name server from incarnation) = Unit {0}
InRange (comes.IsBefore name from) = Unit {0}
InRange (comes.Told request table) = Unit {0}
InRange (comes.Restored state count) = count ≤ last_count
InRange (comes.Declared node) = Unit {0}
InRange comes.Joins = Unit {0}
