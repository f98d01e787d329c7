-- What a datagram is called, by its bytes.
use Rattle.std.specs.Prelude.{ℕ, ◌==◌, if◌then◌else◌, List, [], ◌++◌, drop, codes, find, slice_get, Option, Result, Ok, Err}
use Rattle.std.specs.Option.{option_map_or}
use Rattle.std.specs.Fmt.{decimal}
use Rattle.circus_value.specs.ThreadText.{path_text}
use Rattle.circus_segment.specs.Segment.{Piece, is_acknowledgement, has_data, reading}
use Rattle.circus_segment.specs.declared.fault.SegmentFault.{SegmentFault}
use Rattle.circus_header.specs.declared.call.CallHeader.{CallHeader}
use Rattle.circus_header.specs.declared.call.Request.{Request}
use Rattle.circus_header.specs.declared.call.Request.TheVariants.{Lookup, Join, Active, Gone}
use Rattle.circus_header.specs.declared.call.Call.{Call}
use Rattle.circus_header.specs.declared.call.Call.TheVariants.{Ask, Ring, Fetch}
use Rattle.circus_header.specs.declared.answer.ReturnHeader.{ReturnHeader}
use Rattle.circus_header.specs.declared.answer.ReturnHeader.TheVariants.{Reply, Stale, Before, Snapshot, Table}
use Rattle.circus_collate.specs.declared.table.Table as tables
use Rattle.circus_idl.specs.declared.interface.Procedure.{Procedure}
use Rattle.circus_record.specs.Naming.{Names}
use Rattle.circus_node.specs.Headers.{call_in, return_in, table_in}

-- the procedure of a number
abbrev pub procedure_numbered : ℕ → List Procedure → Option Procedure
procedure_numbered number procedures = find (λ (p : Procedure). p.number == number) procedures

-- what it is called; one that isn't there is called nothing
abbrev pub name_among : List Procedure → ℕ → List ℕ
name_among procedures number = option_map_or (λ (p : Procedure). p.name) (procedure_numbered number procedures) []

-- the procedure of a number of the module of a number
abbrev pub procedure_name : List (List Procedure) → ℕ → ℕ → List ℕ
procedure_name procedures «module» number = option_map_or (λ own. name_among own number) (slice_get procedures «module») []

-- ---- what messages begin with, by the names of nodes and modules and by the procedures of each module

abbrev pub ask_label : Names → List (List Procedure) → CallHeader → List ℕ
ask_label names procedures h =
    codes "call " ++ names.troupe h.server ++ codes "." ++ procedure_name procedures h.server h.procedure
    ++ (codes " " ++ path_text (names.troupe h.root) h.path)

abbrev pub request_label : Names → Request → List ℕ
request_label names (Lookup troupe) = codes "lookup " ++ names.troupe troupe
request_label names (Join troupe node) = codes "join " ++ names.node node
request_label names (Active troupe node count) = codes "active " ++ names.node node
request_label names (Gone troupe node) = codes "gone " ++ names.node node

abbrev pub call_label : Names → List (List Procedure) → Call → List ℕ
call_label names procedures (Ask h) = ask_label names procedures h
call_label names procedures (Ring request) = request_label names request
call_label names procedures (Fetch troupe incarnation) = codes "state request " ++ names.troupe troupe

-- a table's troupe stands behind the header
abbrev pub table_label : Names → List ℕ → List ℕ
table_label names behind = codes "table " ++ option_map_or (λ (t : tables.Table). names.troupe t.view.troupe) (table_in behind) []

-- a return, and what is behind its header
abbrev pub return_label : Names → ReturnHeader → List ℕ → List ℕ
return_label names (Reply clock) behind = codes "reply"
return_label names (Stale incarnation) behind = codes "stale " ++ decimal incarnation
return_label names (Before first) behind = codes "before " ++ decimal first
return_label names (Snapshot count) behind = codes "snapshot " ++ decimal count
return_label names Table behind = table_label names behind

-- a message that begins with these bytes. What nodes send begins with a header; what doesn't is called nothing
abbrev pub call_message_label : Names → List (List Procedure) → List ℕ → List ℕ
call_message_label names procedures message = option_map_or (λ (read : Call × ℕ). call_label names procedures read.0) (call_in message) []

abbrev pub return_message_label : Names → List ℕ → List ℕ
return_message_label names message =
    option_map_or (λ (read : ReturnHeader × ℕ). return_label names read.0 (drop read.1 message)) (return_in message) []

-- ---- segments

-- whether a segment is of a call or of a return
abbrev pub kind_word : Piece → List ℕ
kind_word s = if s.kind == 0 then codes "call" else codes "return"

-- a segment behind the first one of its message
abbrev pub later_label : Piece → List ℕ
later_label s =
    kind_word s ++ codes " " ++ decimal s.call ++ codes " segment " ++ decimal s.number ++ codes " of " ++ decimal s.total

-- a message by its first segment
abbrev pub begun_label : Names → List (List Procedure) → Piece → List ℕ
begun_label names procedures s =
    if s.kind == 0 then call_message_label names procedures s.part else return_message_label names s.part

-- a segment with data
abbrev pub data_label : Names → List (List Procedure) → Piece → List ℕ
data_label names procedures s = if s.number == 1 then begun_label names procedures s else later_label s

-- one that asks for an acknowledgement is sent again
abbrev pub again_text : Piece → List ℕ
again_text s = if s.control == 2 then codes " again" else []

-- one without data
abbrev pub bare_label : Piece → List ℕ
bare_label s =
    if is_acknowledgement s then codes "ack " ++ kind_word s ++ codes " " ++ decimal s.call
    else codes "probe " ++ decimal s.call

abbrev pub segment_label : Names → List (List Procedure) → Piece → List ℕ
segment_label names procedures s = if has_data s then data_label names procedures s ++ again_text s else bare_label s

-- what is read of a datagram; what nodes send is a segment, and what is none is called nothing
abbrev pub read_label : Names → List (List Procedure) → Result Piece SegmentFault → List ℕ
read_label names procedures (Ok s) = segment_label names procedures s
read_label names procedures (Err fault) = []

abbrev pub label : Names → List (List Procedure) → List ℕ → List ℕ
label names procedures bytes = read_label names procedures (reading bytes)
