use Rattle.std.proofs.Common.{◌∙◌, length, slice_get, get_or, Some, ap, arith}
use Rattle.circus_value.proofs.PartLemmas.{byte_in, byte_at}
use Rattle.circus_value.proofs.tail.Tail.byte.Goals as goal

pub bounds-as_slice-offset : goal.bounds-as_slice-offset
bounds-as_slice-offset c =
    let ps = c.self.inside.parts.items in
    let place = rw c.deref.ensures.value at c.in_ok-part.ensures.within in
    let start = rw c.deref.ensures.value at c.in_ok-part.ensures.start in
    let end = rw c.deref.ensures.value at c.in_ok-part.ensures.end in
    let within = byte_in ps c.in_ok-part.part c.in_ok-part.offset c.args.at c.index.result.now place c.index.ensures start end in
    omega (arith, within, ap length c.as_slice.ensures)

pub returns : goal.returns
returns c =
    let ps = c.self.inside.parts.items in
    let place = rw c.deref.ensures.value at c.in_ok-part.ensures.within in
    let start = rw c.deref.ensures.value at c.in_ok-part.ensures.start in
    let end = rw c.deref.ensures.value at c.in_ok-part.ensures.end in
    let within = byte_in ps c.in_ok-part.part c.in_ok-part.offset c.args.at c.index.result.now place c.index.ensures start end in
    ap (λ p. Some (get_or p c.in_ok-part.offset 0)) c.as_slice.ensures ∙ byte_at ps c.in_ok-part.part c.in_ok-part.offset c.args.at c.index.result.now place c.index.ensures start within ∙ ap (λ p. slice_get p c.args.at) c.self.view_is
