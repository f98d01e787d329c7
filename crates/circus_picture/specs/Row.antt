-- A row of a picture: a number, the columns of the nodes with what is drawn over them, and a text.
use Rattle.std.specs.Prelude.{ℕ, ◌+◌, ◌-◌, ◌/◌, ◌==◌, ◌&&◌, min, max, nat_lt, nat_le, Bool, true, if◌then◌else◌, List, [], ◌∷◌, ◌++◌, length, take, replicate, fold, codes, Option, Some, None}
use Rattle.std.specs.List.{suffix_len, flat_map}
use Rattle.std.specs.Fmt.{decimal}
use Rattle.circus_collate.specs.declared.deployment.Host.{Host}
use Rattle.circus_record.specs.Line.{line}
use Rattle.circus_picture.specs.declared.row.Drawn.{Drawn}
use Rattle.circus_picture.specs.declared.row.Drawn.TheVariants.{Nothing, Sign, Arrow}

-- ---- characters

abbrev pub blank : ℕ
blank = 32

-- `|`, at a node that is live
abbrev pub bar : ℕ
bar = 124

-- `x`, at one that has crashed
abbrev pub cross : ℕ
cross = 120

-- `-`, of which an arrow is made
abbrev pub dash : ℕ
dash = 45

-- `o`, at the node that an arrow comes from
abbrev pub origin : ℕ
origin = 111

-- ---- columns

-- how many characters a node's column has: those of the longest name and two more, at least six
abbrev pub width : List Host → ℕ
width hosts = max 6 (fold (λ longest (host : Host). max longest (length host.name)) 0 hosts + 2)

-- a column: the node stands in its middle, with this on the left of it, and this on the right
abbrev pub column : ℕ → ℕ → ℕ → ℕ → List ℕ
column width left sign right = replicate (width / 2) left ++ sign ∷ replicate (width - width / 2 - 1) right

-- a column with the node's name about its middle
abbrev pub name_column : ℕ → List ℕ → List ℕ
name_column width name =
    let before = width / 2 - (length name - 1) / 2 in
    replicate before blank ++ name ++ replicate (width - before - length name) blank

-- ---- what is drawn over the columns

-- an arrow passes on the left of a node, and on the right of it
abbrev pub is_left : ℕ → ℕ → ℕ → Bool
is_left from to node = nat_lt (min from to) node && nat_le node (max from to)

abbrev pub is_right : ℕ → ℕ → ℕ → Bool
is_right from to node = nat_le (min from to) node && nat_lt node (max from to)

abbrev pub dash_if : Bool → ℕ
dash_if passes = if passes then dash else blank

-- what is drawn on the left of a node
abbrev pub left_of : Drawn → ℕ → ℕ
left_of Nothing node = blank
left_of (Sign at sign) node = blank
left_of (Arrow from to head) node = dash_if (is_left from to node)

-- on the right of it
abbrev pub right_of : Drawn → ℕ → ℕ
right_of Nothing node = blank
right_of (Sign at sign) node = blank
right_of (Arrow from to head) node = dash_if (is_right from to node)

-- an arrow at a node: where it comes from, where it points, and between; at another node this mark stands
abbrev pub arrow_at : ℕ → ℕ → ℕ → ℕ → ℕ → ℕ
arrow_at from to head node mark =
    if node == from then origin
    else if node == to then head
    else if is_left from to node then dash
    else mark

-- at a node, where otherwise this mark stands
abbrev pub sign_at : Drawn → ℕ → ℕ → ℕ
sign_at Nothing node mark = mark
sign_at (Sign at sign) node mark = if node == at then sign else mark
sign_at (Arrow from to head) node mark = arrow_at from to head node mark

-- a node is live once a step was made, if it crashed in none or in a later one
abbrev pub is_live_at : ℕ → Option ℕ → Bool
is_live_at step None = true
is_live_at step (Some crashed) = nat_lt step crashed

abbrev pub mark : ℕ → Option ℕ → ℕ
mark step crashed = if is_live_at step crashed then bar else cross

abbrev pub drawn_column : ℕ → ℕ → Drawn → ℕ → Option ℕ → List ℕ
drawn_column width step drawn node crashed =
    column width (left_of drawn node) (sign_at drawn node (mark step crashed)) (right_of drawn node)

-- the columns of nodes, the first having this number, by the steps of their crashes
abbrev pub field : ℕ → ℕ → Drawn → ℕ → List (Option ℕ) → List ℕ
field width step drawn node [] = []
field width step drawn node (crashed ∷ others) =
    drawn_column width step drawn node crashed ++ field width step drawn (node + 1) others

-- the names of the nodes in their columns
abbrev pub names_field : ℕ → List Host → List ℕ
names_field width hosts = flat_map (λ (host : Host). name_column width host.name) hosts

-- ---- rows

-- at the right end of six characters
abbrev pub at_right_end : List ℕ → List ℕ
at_right_end text = replicate (6 - length text) blank ++ text

-- the number of a row, or nothing
abbrev pub number_text : Option ℕ → List ℕ
number_text None = []
number_text (Some number) = decimal number

-- without the blanks at its end
abbrev pub trim : List ℕ → List ℕ
trim text = take (length text - suffix_len (λ character. character == blank) text) text

-- a row with its newline; where the text is empty, the blanks before it stand at the line's end
abbrev pub row : Option ℕ → List ℕ → List ℕ → List ℕ
row number columns text = line (trim (at_right_end (number_text number) ++ codes "  " ++ columns ++ codes "  " ++ text))
