use Rattle.std.proofs.Common.{◌∙◌}
use Rattle.circus_syntax.specs.Spelling.{most_levels}
use Rattle.circus_syntax.specs.Reading.{stop_in_list}
use Rattle.circus_syntax.proofs.ByWord.{marked_open, marked_stopped}
use Rattle.circus_syntax.proofs.ByLine.{unmarked_fields, fields_are, unmarked_fields_are}
use Rattle.circus_syntax.proofs.token_reader.Reader.fields.Goals as goal
use Rattle.circus_syntax.proofs.token_reader.Reader.fields.Goals.{then-goes_on, else-goes_on}

pub returns : goal.returns
returns c =
    let inner = unmarked_fields_are most_levels c.args.self.now c.sign.new.self c.groups.new.self c.sign-2.new.self c.in_ok-groups.groups c.sign.ensures c.in_ok-groups.ensures c.sign-2.ensures in
    fields_are most_levels c.args.self.now
    ∙ elim c.if-goes_on.branch [
      | then-goes_on w ↦
          marked_open stop_in_list (unmarked_fields most_levels) c.args.self.now c.sign-2.new.self c.if-goes_on.self (λ at. record { at = at; groups = c.in_ok-groups.groups }) c.stop.result c.is_none-goes_on.result c.place-at.result
          c.stop.ensures c.is_none-goes_on.ensures w.if-goes_on.true c.place-at.ensures inner (w.self-is ∙ w.mark_list.ensures)
      | else-goes_on w ↦
          marked_stopped stop_in_list (unmarked_fields most_levels) c.args.self.now c.sign-2.new.self c.if-goes_on.self (λ at. record { at = at; groups = c.in_ok-groups.groups }) c.stop.result c.is_none-goes_on.result c.place-at.result
          c.stop.ensures c.is_none-goes_on.ensures w.if-goes_on.false c.place-at.ensures inner w.self-is
    ]
