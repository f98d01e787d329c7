-- What a draft has of an interface.
use Rattle.std.specs.Prelude.{map}
use Rattle.circus_idl.specs.declared.draft.Draft.{Draft}
use Rattle.circus_idl.specs.Means.{Meant, named_shape}

abbrev pub draft_meaning : Draft → Meant
draft_meaning d = record { types = map named_shape d.types; errors = d.errors; procedures = d.procedures }
