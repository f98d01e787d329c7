-- The bytes behind a text that is shared.
use Rattle.std.specs.Prelude.{ℕ, Option, None, Some, List, []}
use Rattle.std.specs.declared.alloc.Global.{Global}
use Rattle.std.specs.declared.rc.Rc.{Rc}

abbrev pub bytes_in : Option (Rc (List ℕ) Global) → List ℕ
bytes_in None = []
bytes_in (Some bytes) = bytes.value
