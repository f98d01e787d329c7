use Rattle.std.proofs.Common.{take, map, sym, ap, ◌∙◌}
use Rattle.std.proofs.lemmas.List.{take-map}
use Rattle.std.proofs.lemmas.Result.{on_ok_weaker}
use Rattle.circus_value.specs.ValueOf.{tree_of}
use Rattle.circus_value.specs.Seen.SharedItems.{items_in}
use Rattle.circus_value.proofs.value.Values.truncate.Goals as goal

pub returns-clause-ok : goal.returns-clause-ok
returns-clause-ok c =
    let front = sym (take-map tree_of c.args.len (items_in c.self.inside.items)) ∙ ap (take c.args.len) c.self.view_is in
    on_ok_weaker c.keep_first.result (λ is. ap (map tree_of) is ∙ front) c.keep_first.ensures.ok
