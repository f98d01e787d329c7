-- A shelf in memory that never fails.
use Rattle.std.specs.Prelude.{◌≤◌, ℕ, Option, Some, List, [], All, length, unwrap_or}
use Rattle.circus_outside.specs.Limits.{longest_contents}
use Rattle.circus_outside.specs.MemShelf.{contents_in}
use Rattle.circus_outside.specs.declared.file.File.{File}

-- what a sure shelf has: its files, and the names asked for so far
pub record SureFiles : Type 0 where
  pub files : List File
  pub fetched : List (List ℕ)

-- each file has at most as many bytes as a shelf answers
abbrev pub AllAnswerable : List File → Type 0
AllAnswerable files = All (λ file. length file.contents ≤ longest_contents) files

-- the contents of a name: those of the first file of it, and none where there is no such file
abbrev pub sure_contents : List File → List ℕ → List ℕ
sure_contents files name = unwrap_or (contents_in files name) []

-- each name has contents
abbrev pub sure_of : List File → List ℕ → Option (List ℕ)
sure_of files name = Some (sure_contents files name)
