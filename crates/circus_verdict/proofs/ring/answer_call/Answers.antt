use Rattle.std.proofs.Common.{◌≡◌, ◌∙◌, List, sym}
use Rattle.std.specs.List.{flat_map}
use Rattle.std.proofs.lemmas.Result.{IfOk-weaker, on_ok_weaker}
use Rattle.circus_member_rules.specs.declared.occurrence.Effect.{Effect}
use Rattle.circus_node.specs.Making.{table_answers}
use Rattle.circus_wire.specs.declared.delivery.Heard.TheVariants.{Called}
use Rattle.circus_headline_theory.specs.RingRun.{request_heard, answer_to}
use Rattle.circus_verdict.proofs.Ringing.{answers_one, keeps_one}
use Rattle.circus_verdict.proofs.ring.answer_call.Goals as goal

pub returns-clause-ring : goal.returns-clause-ring
returns-clause-ring c =
    on_ok_weaker c.answer_request.result
    (λ is. is ∙ sym (keeps_one c.args.ring.now c.args.sender c.args.message.now c.in-Some.request (sym c.in_ok-request.ensures.accepted ∙ c.in-Some.is)))
    c.answer_request.ensures.ring

pub returns-clause-made : goal.returns-clause-made
returns-clause-made c =
    IfOk-weaker c.answer_request.result
    (λ (made : List Effect). made ≡ table_answers c.args.ring.now c.args.sender c.in-Some.request)
    (λ (made : List Effect). made ≡ flat_map (answer_to c.args.ring.now) (request_heard c.args.ring.now (Called c.args.sender c.args.message.now)))
    (λ made is. is ∙ sym (answers_one c.args.ring.now c.args.sender c.args.message.now c.in-Some.request (sym c.in_ok-request.ensures.accepted ∙ c.in-Some.is)))
    c.answer_request.ensures.made
