use Rattle.std.proofs.Common.{◌≡◌, ◌<◌, List, [], ◌∷◌, ◌++◌, length, map, get_or, sym, ap, ◌∙◌, arith, Some, Vec, Global}
use Rattle.std.specs.Prelude.{slice_get, slice_set}
use Rattle.std.proofs.lemmas.List.{map-set, get_or-map, length-map}
use Rattle.std.proofs.lemmas.Option.{slice_get-get_or}
use Rattle.circus_picture.specs.declared.deeds.Deed as keeps
use Rattle.circus_picture.specs.Seen.Kept.{deed_at}
use Rattle.circus_picture.proofs.KeptLemmas.{kept-noted, kept-late, kept-in}
use Rattle.circus_picture.proofs.deeds.note.Goals as goal

pub returns-in_ok-push : goal.returns-in_ok-push
returns-in_ok-push c = λ count before kept.
    let f : Vec keeps.Deed Global → List keeps.Deed = λ own. own.items in
    let steps = c.args.steps.now in
    let lists : List (List keeps.Deed) = map f steps.items in
    let step = c.args.step in
    let own = c.index_mut.result.now.items in
    let within : step < length steps.items = omega (arith, c.if-step-len.true, c.len.ensures, steps.ok) in
    let low : step < length lists = omega (arith, within, length-map steps.items f) in
    let at : get_or lists step [] ≡ own =
    get_or-map f steps.items step c.index_mut.result.now [] within ∙ ap f (sym c.index_mut.ensures.value) in
    let found : slice_get lists step ≡ Some own = slice_get-get_or lists step [] low ∙ ap Some at in
    kept-in count (before ++ deed_at step c.args.deed ∷ []) (slice_set lists step (own ++ c.args.deed ∷ [])) (map f (slice_set steps.items step c.push.new.self))
    (ap (slice_set lists step) (sym c.in_ok-push.ensures.items) ∙ sym (map-set f steps.items step c.push.new.self))
    (kept-noted count before lists step c.args.deed own found kept)

pub returns-else-step-len : goal.returns-else-step-len
returns-else-step-len c = λ count before kept.
    let f : Vec keeps.Deed Global → List keeps.Deed = λ own. own.items in
    let steps = c.args.steps.now in
    kept-late count before (map f steps.items) c.args.step c.args.deed
    (omega (arith, c.if-step-len.false, c.len.ensures, steps.ok, length-map steps.items f)) kept
