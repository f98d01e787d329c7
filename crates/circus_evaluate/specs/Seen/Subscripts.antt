-- What the code puts under a subscript.
use Rattle.std.specs.Prelude.{ℤ, pos, negsuc, List}
use Rattle.circus_value.specs.ValueTree.{ValueTree}
use Rattle.circus_evaluate.specs.Parts.{Step}
use Rattle.circus_evaluate.specs.Putting.{with_put_item}
use Rattle.circus_evaluate.specs.declared.part.Put.{Put}

-- as with_put_item, under a subscript
abbrev pub with_put_under : List Step → Put → ℤ → List ValueTree → List ValueTree
with_put_under ss what (pos n) ts = with_put_item ss what n ts
with_put_under ss what (negsuc n) ts = ts
