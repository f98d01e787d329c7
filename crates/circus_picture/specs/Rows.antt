-- The rows of a picture: of lines, of what members did, and of what was never delivered.
use Rattle.std.specs.Prelude.{ℕ, zero, suc, ◌==◌, nat_lt, not, Bool, false, if◌then◌else◌, List, [], ◌∷◌, ◌++◌, length, codes, slice_get, Option, Some, None}
use Rattle.std.specs.Option.{option_map_or}
use Rattle.std.specs.List.{flat_map, list_any}
use Rattle.std.specs.Fmt.{decimal}
use Rattle.circus_idl.specs.declared.interface.Procedure.{Procedure}
use Rattle.circus_record.specs.Naming.{Names}
use Rattle.circus_schedule.specs.declared.line.Line.{Line}
use Rattle.circus_schedule.specs.declared.line.Line.TheVariants.{Deliver, Tick, Crash, Down, Join}
use Rattle.circus_world.specs.Sent.{Sent}
use Rattle.circus_picture.specs.declared.row.Drawn.{Drawn}
use Rattle.circus_picture.specs.declared.row.Drawn.TheVariants.{Nothing, Sign, Arrow}
use Rattle.circus_picture.specs.Row.{field, row, is_live_at}
use Rattle.circus_picture.specs.Label.{label}
use Rattle.circus_picture.specs.Deeds.{Deed, deed_sign, deed_text}

-- what rows are drawn by
pub record Scene : Type 0 where
  pub names : Names
  -- of each module
  pub procedures : List (List Procedure)
  -- of a column
  pub width : ℕ
  -- of each node the step in which it crashed
  pub crashes : List (Option ℕ)
  -- everything that was sent, by its number
  pub sent : List Sent

module _ (scene : Scene) where
  -- the columns once a step was made
  abbrev pub columns : ℕ → Drawn → List ℕ
  columns step drawn = field scene.width step drawn 0 scene.crashes

  -- ---- lines

  abbrev pub has_crashed_by : ℕ → ℕ → Bool
  has_crashed_by step node = option_map_or (λ crashed. not (is_live_at step crashed)) (slice_get scene.crashes node) false

  -- the head of an arrow: `X` at a node that has crashed, else `>` or `<`
  abbrev pub head : ℕ → ℕ → ℕ → ℕ
  head step from to = if has_crashed_by step to then 88 else if nat_lt from to then 62 else 60

  -- the arrow of the datagram of a number. A line that may be stepped delivers one that was sent
  abbrev pub delivery : ℕ → ℕ → Drawn
  delivery step number =
      option_map_or (λ (sent : Sent). Arrow sent.from sent.to (head step sent.from sent.to)) (slice_get scene.sent number) Nothing

  abbrev pub line_drawn : ℕ → Line → Drawn
  line_drawn step (Deliver number) = delivery step number
  line_drawn step (Tick node) = Sign node 116
  line_drawn step (Crash node) = Sign node 88
  line_drawn step (Down node told) = Sign told 33
  line_drawn step (Join node) = Sign node 106

  -- the label of a datagram
  abbrev pub label_of : Sent → List ℕ
  label_of sent = label scene.names scene.procedures sent.bytes

  abbrev pub line_text : Line → List ℕ
  line_text (Deliver number) = decimal number ++ codes " " ++ option_map_or label_of (slice_get scene.sent number) []
  line_text (Tick node) = scene.names.node node ++ codes " ticks"
  line_text (Crash node) = scene.names.node node ++ codes " crashes"
  line_text (Down node told) = scene.names.node told ++ codes " learns that " ++ scene.names.node node ++ codes " is down"
  line_text (Join node) = scene.names.node node ++ codes " is told to join"

  -- the line of this step
  abbrev pub line_row : ℕ → Line → List ℕ
  line_row step line = row (Some step) (columns step (line_drawn step line)) (line_text line)

  -- ---- what members did

  abbrev pub deed_row : Deed → List ℕ
  deed_row deed = row None (columns deed.step (Sign deed.node (deed_sign deed.did))) (deed_text scene.names deed)

  -- ---- what was never delivered

  -- as the nodes are once this step was made
  abbrev pub plain_row : ℕ → List ℕ → List ℕ
  plain_row step text = row None (columns step Nothing) text

  -- a datagram that was sent: its number, its nodes and its label
  abbrev pub sent_text : ℕ → Sent → List ℕ
  sent_text number sent =
      decimal number ++ codes " " ++ scene.names.node sent.from ++ codes " to " ++ scene.names.node sent.to
      ++ codes " " ++ label_of sent

  abbrev pub left_text : ℕ → List ℕ
  left_text number = option_map_or (sent_text number) (slice_get scene.sent number) []

  abbrev pub left_row : ℕ → ℕ → List ℕ
  left_row step number = plain_row step (left_text number)

  -- how many they are
  abbrev pub count_text : ℕ → List ℕ
  count_text count = codes "never delivered: " ++ decimal count ++ codes " of " ++ decimal (length scene.sent)

  abbrev pub count_row : ℕ → ℕ → List ℕ
  count_row step count = plain_row step (count_text count)

  -- where there are any
  abbrev pub left_rows : ℕ → List ℕ → List ℕ
  left_rows step [] = []
  left_rows step (first ∷ others) = count_row step (length (first ∷ others)) ++ flat_map (left_row step) (first ∷ others)

-- a line delivers the datagram of this number
abbrev pub is_delivery_of : ℕ → Line → Bool
is_delivery_of number (Deliver delivered) = delivered == number
is_delivery_of number (Tick node) = false
is_delivery_of number (Crash node) = false
is_delivery_of number (Down node told) = false
is_delivery_of number (Join node) = false

abbrev pub is_delivered : List Line → ℕ → Bool
is_delivered lines number = list_any (is_delivery_of number) lines

-- the numbers below this one of the datagrams that no line delivers
abbrev pub left_below : List Line → ℕ → List ℕ
left_below lines zero = []
left_below lines (suc number) = if is_delivered lines number then left_below lines number else left_below lines number ++ number ∷ []
