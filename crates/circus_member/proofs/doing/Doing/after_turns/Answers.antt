use Rattle.std.proofs.Common.{◌≡◌, sym, subst, ap, ◌∙◌, None}
use Rattle.std.proofs.lemmas.Result.{on_ok_weaker}
use Rattle.circus_performing.specs.Performing.{open_ask}
use Rattle.circus_member.proofs.Opening.{turns_some, turns_end, none_open}
use Rattle.circus_member.proofs.doing.Doing.after_turns.Goals as goal

pub end_run-requires-clause-ended : goal.end_run-requires-clause-ended
end_run-requires-clause-ended g c =
    subst (λ x. open_ask x.member.performing.kept ≡ None) c.self.view_is (none_open c.open_ask.result _ c.open_ask.ensures (sym c.is_some.ensures ∙ c.if-is_some.false))

pub returns-then-is_some : goal.returns-then-is_some
returns-then-is_some g c =
    let some = turns_some c.args.self.now c.open_ask.result (c.open_ask.ensures ∙ ap (λ x. open_ask x.member.performing.kept) c.self.view_is) (sym c.is_some.ensures ∙ c.if-is_some.true) in
    on_ok_weaker c.open_ask-then-is_some.result (λ is. is ∙ some) c.open_ask-then-is_some.ensures

pub returns-else-is_some : goal.returns-else-is_some
returns-else-is_some g c =
    let none = subst (λ x. open_ask x.member.performing.kept ≡ None) c.self.view_is (none_open c.open_ask.result _ c.open_ask.ensures (sym c.is_some.ensures ∙ c.if-is_some.false)) in
    on_ok_weaker c.end_run.result (λ is. is ∙ turns_end c.args.self.now none) c.end_run.ensures
