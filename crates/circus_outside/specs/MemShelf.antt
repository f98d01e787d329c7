-- A shelf in memory.
use Rattle.std.specs.Prelude.{◌<◌, ◌⊎◌, ℕ, Option, Some, None, List, Contains, length, find, option_map}
use Rattle.std.specs.Str.{bytes_eq}
use Rattle.circus_outside.specs.Limits.{longest_contents}
use Rattle.circus_outside.specs.declared.file.File.{File}

-- what a shelf in memory has: its files, the calls that are to fail, the number of the next call, the
-- names asked for so far, and how many calls have failed
pub record ShelfInMemory : Type 0 where
  pub files : List File
  pub failing : List ℕ
  pub number : ℕ
  pub fetched : List (List ℕ)
  pub faults : ℕ

-- the contents of the first file of this name
abbrev pub contents_in : List File → List ℕ → Option (List ℕ)
contents_in files name = option_map (λ file. file.contents) (find (λ file. bytes_eq file.name name) files)

-- there is no such file, or it has more bytes than a shelf answers
abbrev pub IsUnanswerable : Option (List ℕ) → Type 0
IsUnanswerable None = Unit {0}
IsUnanswerable (Some bytes) = longest_contents < length bytes

-- the next fetch, of this name, is to fail
abbrev pub FetchFails : ShelfInMemory → List ℕ → Type 0
FetchFails shelf name = Contains shelf.failing shelf.number ⊎ IsUnanswerable (contents_in shelf.files name)
