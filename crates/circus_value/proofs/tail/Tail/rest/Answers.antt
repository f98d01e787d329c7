use Rattle.std.proofs.Common.{◌∙◌, ◌+◌, ◌-◌, ◌++◌, length, take, drop, slice_range, sym, ap, arith}
use Rattle.std.specs.List.{concat}
use Rattle.circus_value.proofs.PartLemmas.{byte_in, rest_split, rest_few}
use Rattle.circus_value.proofs.tail.Tail.rest.Goals as goal

pub slice-requires-clause-start_le_end : goal.slice-requires-clause-start_le_end
slice-requires-clause-start_le_end c =
    let ps = c.self.inside.parts.items in
    let place = rw c.deref.ensures.value at c.in-Some.ensures.within in
    let start = rw c.deref.ensures.value at c.in-Some.ensures.start in
    let end = rw c.deref.ensures.value at c.in-Some.ensures.end in
    let within = byte_in ps c.in-Some.first c.in-Some.offset c.args.at c.index-cut.result.now place c.index-cut.ensures start end in
    omega (arith, within, c.len.ensures.value)

pub add-requires : goal.add-requires
add-requires c =
    let ps = c.self.inside.parts.items in
    let place = rw c.deref.ensures.value at c.in-Some.ensures.within in
    let start = rw c.deref.ensures.value at c.in-Some.ensures.start in
    let end = rw c.deref.ensures.value at c.in-Some.ensures.end in
    let split = rest_split ps c.in-Some.first c.in-Some.offset c.args.at c.len.result c.index-cut.result.now place c.index-cut.ensures start end c.len.ensures.value in
    let front = slice_range c.index-cut.result.now c.in-Some.offset c.len.result in
    let later = concat (take (length ps - (c.in-Some.first + 1)) (drop (c.in-Some.first + 1) ps)) in
    let few = rest_few ps c.args.at front later split in
    omega (arith, few, ap length c.in_ok-slice.ensures.ok, ap length c.new-rest.ensures, c.self.invariant.2)

pub add_all-requires : goal.add_all-requires
add_all-requires c =
    let ps = c.self.inside.parts.items in
    let place = rw c.deref.ensures.value at c.in-Some.ensures.within in
    let start = rw c.deref.ensures.value at c.in-Some.ensures.start in
    let end = rw c.deref.ensures.value at c.in-Some.ensures.end in
    let split = rest_split ps c.in-Some.first c.in-Some.offset c.args.at c.len.result c.index-cut.result.now place c.index-cut.ensures start end c.len.ensures.value in
    let front = slice_range c.index-cut.result.now c.in-Some.offset c.len.result in
    let later = concat (take (length ps - (c.in-Some.first + 1)) (drop (c.in-Some.first + 1) ps)) in
    let few = rest_few ps c.args.at front later split in
    let added = c.in_ok-add.ensures.ok ∙ (λ j. c.new-rest.ensures j ++ c.in_ok-slice.ensures.ok j) in
    rw c.as_slice.ensures.value (omega (arith, few, ap length added, c.self.invariant.2))

pub returns : goal.returns
returns c =
    let ps = c.self.inside.parts.items in
    let place = rw c.deref.ensures.value at c.in-Some.ensures.within in
    let start = rw c.deref.ensures.value at c.in-Some.ensures.start in
    let end = rw c.deref.ensures.value at c.in-Some.ensures.end in
    let split = rest_split ps c.in-Some.first c.in-Some.offset c.args.at c.len.result c.index-cut.result.now place c.index-cut.ensures start end c.len.ensures.value in
    let front = slice_range c.index-cut.result.now c.in-Some.offset c.len.result in
    let later = concat (take (length ps - (c.in-Some.first + 1)) (drop (c.in-Some.first + 1) ps)) in
    let added = c.in_ok-add.ensures.ok ∙ (λ j. c.new-rest.ensures j ++ c.in_ok-slice.ensures.ok j) in
    let all = c.in_ok-add_all.ensures ∙ ap (λ qs. c.add.new.self ++ concat (take (length qs - (c.in-Some.first + 1)) (drop (c.in-Some.first + 1) qs))) c.as_slice.ensures.value in
    all ∙ ap (λ xs. xs ++ later) added ∙ sym split ∙ ap (drop c.args.at) c.self.view_is
