use Rattle.std.proofs.Common.{◌<◌, [], ◌++◌, length, get_or, refl, arith, ◌∙◌, ap, string_bytes}
use Rattle.std.proofs.lemmas.List.{get_or_default}
use Rattle.std.proofs.lemmas.List.Elements.{All-get_or}
use Rattle.circus_commands.specs.Placed.{name_of, member_line, member_lines}
use Rattle.circus_commands.proofs.Appended.{numbered_more}
use Rattle.circus_commands.proofs.placed.append_members.Goals as goal

pub loop-number-preserved : goal.loop-number-preserved
loop-number-preserved c =
    let machines = c.args.machines.now in
    let chosen = c.args.chosen.now in
    let index = c.loop-number.number-index in
    let member = c.loop-number.member in
    let number = get_or chosen index 0 in
    let machine = c.index-machines-from.result in
    let inside : number < length machines = All-get_or (λ n. n < length machines) chosen index 0 c.loop-number-test.true c.requires.inside in
    let found = c.index-machines-from.is ∙ ap (λ n. get_or machines n machine) c.from.ensures ∙ get_or_default machines number machine (record { name = []; attributes = [] }) inside in
    record {
      counted = omega arith;
      written =
          numbered_more (member_lines machines) (λ m n. member_line m (name_of machines n)) (λ m n ns. refl) _ _ _ member index chosen number c.loop-number-test.true (get_or_default chosen index 0 number c.loop-number-test.true)
          c.loop-number.invariant.written (c.in_ok-append_member.ensures ∙ ap (λ m. string_bytes c.loop-number.text ++ member_line member m.name) found);
    }
