-- Where each file is short enough, so is the one that a name finds.
use Rattle.std.proofs.Common.{◌≤◌, ℕ, List, [], ◌∷◌, Some, length, suc, cond, true, false, arith}
use Rattle.std.specs.Prelude.{find, option_map, IfSome}
use Rattle.std.specs.Str.{bytes_eq}
use Rattle.circus_outside.specs.MemShelf.{contents_in}
use Rattle.circus_outside.specs.SureShelf.{AllAnswerable}
use Rattle.circus_outside.specs.declared.file.File.{File}

pub IfSome-contents_in : (files : List File) (name : List ℕ) → AllAnswerable files → IfSome (contents_in files name) (λ bytes. length bytes ≤ 16777216)
IfSome-contents_in [] name all = tt
IfSome-contents_in (file ∷ files) name all =
    elim (bytes_eq file.name name) as (λ same. IfSome (option_map (λ f. f.contents) (cond same (Some file) (find (λ f. bytes_eq f.name name) files))) (λ bytes. length bytes ≤ 16777216)) [
      | true ↦ all 0 file (omega arith)
      | false ↦ IfSome-contents_in files name (λ k d below. all (suc k) d (omega arith))
    ]
