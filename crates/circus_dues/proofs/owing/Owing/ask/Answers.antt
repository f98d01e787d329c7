use Rattle.std.proofs.Common.{◌≡◌, ℕ, ◌&&◌, ◌+◌, Bool, Some, sym, subst, ap, ◌∙◌}
use Rattle.std.specs.Prelude.{not, IfSome}
use Rattle.std.specs.Option.{option_map_or}
use Rattle.std.proofs.lemmas.Result.{on_ok_weaker}
use Rattle.circus_external.specs.Spelling.{spelling_of_all}
use Rattle.circus_fanout.specs.Asking.{begin_asking}
use Rattle.circus_member_rules.specs.Callable.{IsAsked}
use Rattle.circus_dues.specs.declared.owing.Owing.{Owing}
use Rattle.circus_dues.specs.Seen.Owing as owing
use Rattle.circus_dues.specs.Seen.Owing.{MayBeSent}
use Rattle.circus_dues.specs.Seen.Parts.{CallsOut, with_opened}
use Rattle.circus_dues.specs.Seen.Steps as steps
use Rattle.circus_dues.proofs.owing.Owing.ask.Goals as goal
use Rattle.circus_dues.proofs.owing.Owing.ask.Goals.{then-self, else-self}

pub open-requires-clause-asked : goal.open-requires-clause-asked
open-requires-clause-asked c =
    let troupe = c.args.of.now.place.now.troupe in
    let run = c.args.run.now in
    let ask = c.in-Some.ask.now in
    let sent : MayBeSent troupe run c.args.number ask = subst (λ o. IfSome o (MayBeSent troupe run c.args.number)) (sym c.in-Some.ensures) c.requires.ask in
    subst IsAsked
    (sym (c.in_ok-header.ensures ∙ ap (λ n. steps.header_of troupe n.run run n.ask ask) c.name-name.ensures))
    (sent.asked _)

-- with these calls out, behind its ask of a number
asks_so : (d : Owing) (number : ℕ) (o p : CallsOut) (b c : Bool) → o ≡ p → b ≡ c
    → record d { out = o; walk = record d.walk { asked = Some (number + 1) }; is_timely = b }
    ≡ record d { out = p; walk = record d.walk { asked = Some (number + 1) }; is_timely = c }
asks_so d number o p b c out timely =
    ap (λ x. record d { out = x; walk = record d.walk { asked = Some (number + 1) }; is_timely = b }) out
    ∙ ap (λ x. record d { out = p; walk = record d.walk { asked = Some (number + 1) }; is_timely = x }) timely

pub returns-clause-kept : goal.returns-clause-kept
returns-clause-kept c =
    let d = c.args.self.now in
    let place = c.args.of.now.place.now in
    let kept = c.args.of.now.kept.now in
    let run = c.args.run.now in
    let number = c.args.number in
    let ask = c.in-Some.ask.now in
    let name = owing.ask_name kept d number in
    let words = spelling_of_all ask.arguments in
    let answered = not (steps.is_by ask.answered c.args.at) in
    let header = c.in_ok-header.ensures ∙ ap (λ n. steps.header_of place.troupe n.run run n.ask ask) c.name-name.ensures in
    let timely : c.if-self.self ≡ (d.is_timely && answered) = elim c.if-self.branch [
      | then-self w ↦ w.self-is ∙ ap not w.is_by.ensures ∙ sym (ap (λ b. b && answered) w.if-self.true)
      | else-self w ↦ w.self-is ∙ w.if-self.false ∙ sym (ap (λ b. b && answered) w.if-self.false)
    ] in
    on_ok_weaker c.open.result
    (λ opened.
    asks_so d number c.open.new.self (with_opened d.out name (owing.asking_at place kept d run number ask)) c.if-self.self (d.is_timely && answered)
    (opened
    ∙ ap (λ n. with_opened d.out n (begin_asking c.in_ok-header.header words place.replies)) c.name-name.ensures
    ∙ ap (λ h. with_opened d.out name (begin_asking h words place.replies)) header)
    timely
    ∙ ap (λ o. option_map_or (owing.asked place kept c.args.at d run number) o d) c.in-Some.ensures)
    c.open.ensures.kept
