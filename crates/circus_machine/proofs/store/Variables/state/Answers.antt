use Rattle.std.proofs.Common.{option_map, option_copied, sym, ap, ◌∙◌, ◌++◌, [], ◌∷◌}
use Rattle.circus_value.specs.ValueOf.{tree_of}
use Rattle.circus_machine.proofs.Moving.{take_get}
use Rattle.circus_machine.proofs.store.Variables.state.Goals as goal

pub loop-place-preserved : goal.loop-place-preserved
loop-place-preserved c =
    take_get c.args.self.now.values c.loop-place.place (tree_of c.in-Some.value.now) c.loop-place.state c.push.new.self (sym c.get.ensures ∙ ap (λ o. option_map tree_of (option_copied o)) c.in-Some.is) c.loop-place.invariant
    (c.in_ok-push.ensures.ok ∙ ap (λ v. c.loop-place.state ++ tree_of v ∷ []) c.in_ok-copy.ensures)
