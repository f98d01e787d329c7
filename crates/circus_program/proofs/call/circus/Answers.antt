use Rattle.std.proofs.Common.{inl, inr}
use Rattle.circus_program.proofs.Known.{agree_at_end, agree_at_line, kept_at_end, kept_at_line, replayed_at_end}
use Rattle.circus_program.proofs.call.circus.Goals as goal

pub returns-clause-answered : goal.returns-clause-answered
returns-clause-answered g c =
    let status = c.answer-status.result in
    let answer = c.answer-status.ensures.answer in
    let kept = kept_at_end _ _ _ _ _ _ status answer.ended in
    let kept_so_far = kept_at_line _ _ _ _ _ _ status answer.ended in (
      status,
      c.code.ensures,
      record {
        asked = c.answer-status.ensures.asked;
        ended = answer.ended;
        lacked = λ is. (answer.lacked is, answer.shelf_rose is);
        unlinked = answer.link_rose;
        unwritten = answer.sink_rose;
        broken_off = λ which. elim which [
          | inl is ↦ answer.stopped is
          | inr is ↦ answer.no_memory is
        ];
        given_on = c.answer-status.ensures.given_on;
        kept = kept;
        kept_so_far = kept_so_far;
        replayed = replayed_at_end _ _ _ _ _ _ status answer.ended c.answer-status.ensures.known;
        agree = λ is. agree_at_end _ _ _ _ (kept is);
        agree_so_far = λ which. agree_at_line _ _ _ _ (kept_so_far which);
      },
    )
