-- What is made is sent: calls and returns are handed to the pairs in their order.
use Rattle.std.specs.Prelude.{ℕ, ◌*◌, ◌&&◌, ◌==◌, nat_lt, nat_le, Bool, if◌then◌else◌, List, length, map, fold, ◌++◌}
use Rattle.circus_value.specs.declared.caller.Caller.{Caller}
use Rattle.circus_segment.specs.Segment.{part_size, most_segments}
use Rattle.circus_exchange.specs.Limits.{never_used}
use Rattle.circus_wire.specs.declared.delivery.Batch.{Batch}
use Rattle.circus_wire.specs.Wire.{WireState, is_up, next_number, called_to, sent_by_call, answer_caller, sent_by_answer}
use Rattle.circus_member_rules.specs.declared.occurrence.Purpose.{Purpose}
use Rattle.circus_member_rules.specs.declared.occurrence.Effect.{Effect}
use Rattle.circus_member_rules.specs.declared.occurrence.Effect.TheVariants as made
use Rattle.circus_node.specs.declared.event.Give.{Give}

-- the pairs and what was sent so far, or a node to which no number is left
pub data Sending : Type 0 where
  sent : WireState Purpose → List Give → Sending
  spent : ℕ → Sending

abbrev pub give_to : ℕ → List ℕ → Give
give_to to bytes = record { to = to; bytes = bytes }

-- datagrams to a node, one by one
abbrev pub gives_of : Batch → List Give
gives_of batch = map (give_to batch.to) batch.datagrams

-- a message that can be sent in a format, as all messages are that a node makes
abbrev pub is_sendable : ℕ → List ℕ → Bool
is_sendable format message = nat_lt 0 (length message) && nat_le (length message) (part_size * most_segments format)

-- a call to a node, which is up, as are all nodes that a member calls
abbrev pub call_handed : WireState Purpose → List Give → ℕ → List ℕ → Purpose → Sending
call_handed w gives to message purpose =
    if is_up w to && is_sendable w.format message
    then (if next_number w to == never_used then spent to
    else sent (called_to w to message purpose) (gives ++ gives_of (sent_by_call w to message)))
    else sent w gives

-- the return to a call
abbrev pub return_handed : WireState Purpose → List Give → Caller → List ℕ → Sending
return_handed w gives caller message =
    if is_sendable w.format message
    then sent (answer_caller w caller message) (gives ++ gives_of (sent_by_answer w caller message))
    else sent w gives

-- one of the two is handed over
abbrev pub hand_over : WireState Purpose → List Give → Effect → Sending
hand_over w gives (made.Call to message purpose) = call_handed w gives to message purpose
hand_over w gives (made.Answer caller message) = return_handed w gives caller message

-- unless no number was left before
abbrev pub next_handed : Sending → Effect → Sending
next_handed (sent w gives) effect = hand_over w gives effect
next_handed (spent node) effect = spent node

-- each of them, in their order
abbrev pub all_handed : Sending → List Effect → Sending
all_handed sending effects = fold next_handed sending effects
