-- What a text is cut at.
use Rattle.std.specs.Prelude.{ℕ, ◌≡◌, ◌==◌, false, List}
use Rattle.std.specs.List.{AllByRecursion}

-- the byte isn't there
abbrev pub Lacks : ℕ → List ℕ → Type 0
Lacks byte text = AllByRecursion (λ each. (each == byte) ≡ false) text
