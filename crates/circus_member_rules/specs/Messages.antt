-- The messages that a member sends, as bytes, and the arguments that bytes spell.
use Rattle.std.specs.Prelude.{ℕ, List, [], ◌++◌}
use Rattle.std.specs.Option.{option_map_or}
use Rattle.circus_value.specs.ValueTree.{ValueTree}
use Rattle.circus_value.specs.declared.outcome.Outcome.{Outcome}
use Rattle.circus_value.specs.declared.outcome.Outcome.TheVariants.{Returned, Raised}
use Rattle.circus_external.specs.Octets.{word}
use Rattle.circus_external.specs.Spelling.{spelling_of_all}
use Rattle.circus_external.specs.Answer.{Answer, found, short, not_a_value, bad_pad}
use Rattle.circus_external.specs.Reading.{fields_reading}
use Rattle.circus_header.specs.Field.{bytes_of}
use Rattle.circus_header.specs.CallFields.{call_fields}
use Rattle.circus_header.specs.ReturnFields.{return_fields}
use Rattle.circus_header.specs.declared.call.CallHeader.{CallHeader}
use Rattle.circus_header.specs.declared.call.Request.{Request}
use Rattle.circus_header.specs.declared.call.Call.TheVariants as call
use Rattle.circus_header.specs.declared.answer.Reply.{Reply}
use Rattle.circus_header.specs.declared.answer.ReturnHeader.TheVariants as header
use Rattle.circus_transfer.specs.Snapshot.{fields_of}
use Rattle.circus_model.specs.declared.signature.ProcedureShape.{ProcedureShape}
use Rattle.circus_model.specs.Lawful.{procedure_numbered}

-- an ask: the header, and behind it the arguments
abbrev pub ask_message : CallHeader → List ℕ → List ℕ
ask_message h body = bytes_of (call_fields (call.Ask h)) ++ body

abbrev pub request_message : Request → List ℕ
request_message request = bytes_of (call_fields (call.Ring request))

-- the state of a troupe in an incarnation is asked for
abbrev pub fetch_message : ℕ → ℕ → List ℕ
fetch_message troupe incarnation = bytes_of (call_fields (call.Fetch troupe incarnation))

-- the results behind word 0, or an error's number and its values behind word 1
abbrev pub outcome_spelling : Outcome → List ℕ
outcome_spelling (Returned results) = word 0 ++ spelling_of_all results
outcome_spelling (Raised error values) = word 1 ++ word error ++ spelling_of_all values

-- the clock, and behind it the outcome
abbrev pub reply_message : Reply → List ℕ
reply_message reply = bytes_of (return_fields (header.Reply reply.clock)) ++ outcome_spelling reply.outcome

abbrev pub stale_message : ℕ → List ℕ
stale_message incarnation = bytes_of (return_fields (header.Stale incarnation))

abbrev pub before_message : ℕ → List ℕ
before_message first = bytes_of (return_fields (header.Before first))

-- the values that were found, or none
abbrev pub values_found : Answer (List ValueTree) → List ValueTree
values_found (found values next rest) = values
values_found (short place) = []
values_found (not_a_value place) = []
values_found (bad_pad place) = []

-- the arguments of a procedure that bytes spell
abbrev pub arguments_in : List ProcedureShape → ℕ → List ℕ → List ValueTree
arguments_in procedures number bytes =
    option_map_or (λ (p : ProcedureShape). values_found (fields_reading (fields_of p.arguments) 0 bytes)) (procedure_numbered number procedures) []
