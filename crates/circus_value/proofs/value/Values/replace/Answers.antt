use Rattle.std.proofs.Common.{◌≡◌, Some, map, option_map, slice_get, slice_set, sym, ap, ◌∙◌}
use Rattle.std.proofs.lemmas.List.{map-set}
use Rattle.std.proofs.lemmas.Option.{slice_get-map}
use Rattle.std.proofs.lemmas.Result.{on_ok_weaker, IfOk-weaker}
use Rattle.circus_value.specs.ValueOf.{tree_of}
use Rattle.circus_value.specs.Seen.SharedItems.{items_in}
use Rattle.circus_value.proofs.value.Values.replace.Goals as goal

pub returns-clause-new : goal.returns-clause-new
returns-clause-new c =
    let set = map-set tree_of (items_in c.self.inside.items) c.args.place c.args.item ∙ ap (λ ts. slice_set ts c.args.place (tree_of c.args.item)) c.self.view_is in
    on_ok_weaker c.exchange.result (λ is. ap (map tree_of) is ∙ set) c.exchange.ensures.new

pub returns-clause-old : goal.returns-clause-old
returns-clause-old c =
    let vs = items_in c.self.inside.items in
    let at = ap (λ ts. slice_get ts c.args.place) (sym c.self.view_is) ∙ slice_get-map tree_of vs c.args.place in
    IfOk-weaker c.exchange.result (λ old. slice_get vs c.args.place ≡ Some old) (λ old. slice_get c.args.self.now c.args.place ≡ Some (tree_of old))
    (λ old is. at ∙ ap (option_map tree_of) is) c.exchange.ensures.old
