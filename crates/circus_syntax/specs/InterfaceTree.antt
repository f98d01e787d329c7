-- An interface as a plain tree.
use Rattle.std.specs.Prelude.{List, map}
use Rattle.circus_syntax.specs.TypeTree.{TypeTree}
use Rattle.circus_syntax.specs.TypeOf.{tree_of}
use Rattle.circus_syntax.specs.declared.named.Named.{Named}
use Rattle.circus_syntax.specs.declared.named.Numeral.{Numeral}
use Rattle.circus_syntax.specs.declared.interface_text.ErrorText.{ErrorText}
use Rattle.circus_syntax.specs.declared.interface_text.ProcedureText.{ProcedureText}
use Rattle.circus_syntax.specs.declared.interface_text.DeclaredText.{DeclaredText}
use Rattle.circus_syntax.specs.declared.interface_text.DeclaredText.TheVariants as D
use Rattle.circus_syntax.specs.declared.interface_text.InterfaceText.{InterfaceText}

-- what an interface declares, its type as a tree
pub data DeclaredTree : Type 0 where
  a_type : Named → TypeTree → DeclaredTree
  an_error : ErrorText → DeclaredTree
  a_procedure : ProcedureText → DeclaredTree

pub record InterfaceTree : Type 0 where
  pub name : Named
  pub number : Numeral
  pub version : Numeral
  pub declared : List DeclaredTree

abbrev pub declared_of : DeclaredText → DeclaredTree
declared_of (D.Type name t) = a_type name (tree_of t)
declared_of (D.Error e) = an_error e
declared_of (D.Procedure p) = a_procedure p

abbrev pub interface_of : InterfaceText → InterfaceTree
interface_of t = record { name = t.name; number = t.number; version = t.version; declared = map declared_of t.declared }
