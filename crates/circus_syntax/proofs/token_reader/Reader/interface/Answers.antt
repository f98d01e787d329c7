use Rattle.std.proofs.Common.{map}
use Rattle.circus_syntax.specs.InterfaceTree.{declared_of}
use Rattle.circus_syntax.specs.Spelling.{most_levels}
use Rattle.circus_syntax.proofs.ByLine.{interface_is}
use Rattle.circus_syntax.proofs.token_reader.Reader.interface.Goals as goal

pub returns : goal.returns
returns c =
    interface_is most_levels _ _ _ _ _ (c.in_ok-name.name, (c.in_ok-name.number, c.in_ok-name.version)) (map declared_of c.in_ok-declared.declared)
    c.in_ok-name.ensures c.in_ok-declared.ensures c.word.ensures c.sign.ensures
