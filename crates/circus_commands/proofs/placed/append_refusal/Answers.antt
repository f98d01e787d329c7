use Rattle.circus_commands.proofs.Appended.{appended_thrice}
use Rattle.circus_commands.proofs.placed.append_refusal.Goals as goal

pub returns : goal.returns
returns c =
    let cause = rw c.cause_text.ensures at c.in_ok-push_str.ensures.bytes in
    appended_thrice _ _ _ _ _ _ _ c.in_ok-append_place.ensures cause c.in_ok-push_str-2.ensures.bytes
