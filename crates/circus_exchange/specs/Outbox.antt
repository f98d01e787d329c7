-- Messages of one kind that are handed over and sent.
use Rattle.std.specs.Prelude.{ℕ, ◌+◌, Bool, false, ◌&&◌, List, [], ◌∷◌, flat_map, Option, None, Some, nat_lt, ◌==◌, if◌then◌else◌}
use Rattle.std.specs.FinMap.{FinMap, get, contains_key, insert, remove, entries}
use Rattle.std.specs.Ordering.{nat_cmp}
use Rattle.circus_exchange.specs.declared.progress.Progress.{Progress}
use Rattle.circus_segment.specs.Segment.{Piece, spelling}
use Rattle.circus_segment.specs.Cut.{Outgoing, segment_of, whole}

-- how far each message has come that was handed over, by the number of its call, and those that may have to be sent again; of a call that waits for its return and is acknowledged whole an empty one
pub record HandedOver : Type 0 where
  pub progress : FinMap nat_cmp Progress
  pub messages : FinMap nat_cmp (List ℕ)

abbrev pub has_total : Option Progress → ℕ → Bool
has_total None total = false
has_total (Some p) total = p.total == total

-- the segment speaks of a message that was handed over, and has its total
unfoldable pub agrees : HandedOver → Piece → Bool
agrees box s = has_total (get box.progress s.call) s.total

abbrev pub on_its_way : ℕ → ℕ → ℕ → Option Progress → Option (List ℕ) → Option Outgoing
on_its_way format kind call (Some p) (Some message) = Some (record { format = format; kind = kind; call = call; total = p.total; message = message })
on_its_way format kind call (Some p) None = None
on_its_way format kind call None message = None

-- the message of a call on its way
unfoldable pub outgoing_at : HandedOver → ℕ → ℕ → ℕ → Option Outgoing
outgoing_at box format kind call = on_its_way format kind call (get box.progress call) (get box.messages call)

abbrev pub whole_of : Option Outgoing → List (List ℕ)
whole_of None = []
whole_of (Some m) = whole m

-- with a message handed over
unfoldable pub hand_over : HandedOver → ℕ → ℕ → List ℕ → HandedOver
hand_over box call total message = record { progress = insert box.progress call (record { total = total; count = 0 }); messages = insert box.messages call message }

abbrev pub raise_progress : FinMap nat_cmp Progress → ℕ → Option Progress → ℕ → FinMap nat_cmp Progress
raise_progress progress call None count = progress
raise_progress progress call (Some p) count = if nat_lt p.count count then insert progress call (record { total = p.total; count = count }) else progress

-- once the segments 1 to count are acknowledged
unfoldable pub acknowledge_up_to : HandedOver → ℕ → ℕ → HandedOver
acknowledge_up_to box call count = record box { progress = raise_progress box.progress call (get box.progress call) count }

abbrev pub whole_by : Option Progress → ℕ → Bool
whole_by None count = false
whole_by (Some p) count = nat_lt p.count count && (p.total == count)

-- that makes the message acknowledged whole, which it wasn't
unfoldable pub becomes_whole : HandedOver → ℕ → ℕ → Bool
becomes_whole box call count = whole_by (get box.progress call) count

-- without the bytes of a message, whose call still waits for its return
unfoldable pub drop_bytes : HandedOver → ℕ → HandedOver
drop_bytes box call = record box { messages = if contains_key box.messages call then insert box.messages call [] else box.messages }

-- without a message
unfoldable pub forget_message : HandedOver → ℕ → HandedOver
forget_message box call = record box { messages = remove box.messages call }

-- the probe of a call
abbrev pub probe : ℕ → ℕ → ℕ → ℕ → Piece
probe format kind total call = record { format = format; kind = kind; control = 2; total = total; number = 0; call = call; part = [] }

abbrev pub reminder_of : ℕ → ℕ → ℕ → List ℕ → Option Progress → List (List ℕ)
reminder_of format kind call message None = []
reminder_of format kind call message (Some p) =
    if nat_lt p.count p.total
    then spelling (segment_of (record { format = format; kind = kind; call = call; total = p.total; message = message }) 2 (p.count + 1)) ∷ []
    else if kind == 0 then spelling (probe format kind p.total call) ∷ [] else []

-- what a tick sends for a message whose call is below a limit: its first segment that isn't acknowledged, or the probe of a call that is acknowledged whole
unfoldable pub reminder : HandedOver → ℕ → ℕ → ℕ → ℕ × List ℕ → List (List ℕ)
reminder box format kind limit entry = if nat_lt entry.0 limit then reminder_of format kind entry.0 entry.1 (get box.progress entry.0) else []

-- what a tick sends for all messages, by the numbers of their calls
unfoldable pub reminders : HandedOver → ℕ → ℕ → ℕ → List (List ℕ)
reminders box format kind limit = flat_map (reminder box format kind limit) (entries box.messages)
