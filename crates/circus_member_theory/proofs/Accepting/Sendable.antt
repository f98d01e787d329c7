-- True messages of a module can be sent where its limit is one of the format.
use Rattle.std.proofs.Common.{◌≡◌, ℕ, ◌+◌, ◌*◌, ◌<◌, ◌≤◌, ◌⊎◌, inl, inr, true, false, List, [], ◌∷◌, ◌++◌, length, map, Some, sym, ap, subst, arith, append-nil, length-append}
use Rattle.std.specs.Prelude.{◌==◌, slice_index, IsSomeAnd, if◌then◌else◌}
use Rattle.std.proofs.lemmas.List.{length-map}
use Rattle.circus_value.specs.ExternalSize.{size_of_values}
use Rattle.circus_value.specs.ValueTree.{value_trees}
use Rattle.circus_value.specs.declared.caller.Caller.{Caller}
use Rattle.circus_value.specs.declared.outcome.Outcome.{Outcome}
use Rattle.circus_value.specs.declared.outcome.Outcome.TheVariants.{Returned, Raised}
use Rattle.circus_external.specs.Spelling.{spelling_of_all}
use Rattle.circus_external.proofs.Sizes.{size_of_spellings}
use Rattle.circus_segment.specs.Segment.{part_size, most_segments}
use Rattle.circus_exchange.specs.Exchange.{IsSendable}
use Rattle.circus_header.specs.Field.{Field, word, long, bytes_of}
use Rattle.circus_header.specs.CallFields.{IsAsk, call_fields, request_fields}
use Rattle.circus_header.specs.ReturnFields.{return_fields}
use Rattle.circus_header.specs.Reading.{IsOne, returns}
use Rattle.circus_header.specs.declared.answer.Reply.{Reply}
use Rattle.circus_header.specs.declared.answer.ReturnHeader.TheVariants as says
use Rattle.circus_header.specs.declared.call.Call.TheVariants.{Ask as AskOf, Ring, Fetch}
use Rattle.circus_header.specs.declared.call.CallHeader.{CallHeader}
use Rattle.circus_header.specs.declared.call.Request.{Request}
use Rattle.circus_header.specs.declared.call.Request.TheVariants.{Lookup, Join, Active, Gone}
use Rattle.circus_limits.specs.Limits.{first_limit, most_bytes, limit_of}
use Rattle.circus_model.specs.Agree.{IsAt, AreModules, Agree}
use Rattle.circus_model.specs.Behaviour.{Behaviour}
use Rattle.circus_model.specs.Execution.{history_of, replies_of}
use Rattle.circus_model.specs.History.{run_at, state_after}
use Rattle.circus_model.specs.Lawful.{values_of}
use Rattle.circus_model.specs.declared.history.Run.{Run}
use Rattle.circus_model.proofs.Logging.{some_and}
use Rattle.circus_member_rules.specs.Messages.{outcome_spelling, reply_message}
use Rattle.circus_member_rules.specs.declared.occurrence.Purpose.{Purpose}
use Rattle.circus_member_rules.specs.declared.occurrence.Purpose.TheVariants as for
use Rattle.circus_member_theory.specs.Messages.{IsReplyOf}
use Rattle.circus_member_theory.specs.Truth.{IsTrueCallFor, IsTrueReturn}
use Rattle.circus_member_theory.proofs.Histories.{run_follows, state_is, within}

-- ---- sizes

-- a field has two to four bytes
fields_many : (fields : List Field) → 2 * length fields ≤ length (bytes_of fields)
fields_many [] = omega arith
fields_many (word n ∷ fields) = omega (arith, fields_many fields)
fields_many (long n ∷ fields) = omega (arith, fields_many fields)

fields_few : (fields : List Field) → length (bytes_of fields) ≤ 4 * length fields
fields_few [] = omega arith
fields_few (word n ∷ fields) = omega (arith, fields_few fields)
fields_few (long n ∷ fields) = omega (arith, fields_few fields)

room : (format : ℕ) → limit_of format + 1024 ≤ part_size * most_segments format
room format = elim (format == 1) as (λ b. (if b then first_limit else most_bytes) + 1024 ≤ 1024 * (if b then 255 else 1025)) [ true ↦ omega arith | false ↦ omega arith ]

-- what a message has besides its values is less than one part
sendable : (format : ℕ) (fields : List Field) (rest : List ℕ) → 0 < length fields → length fields ≤ 80 → length rest ≤ 4 + limit_of format
    → IsSendable format (bytes_of fields ++ rest)
sendable format fields rest some few short = (
  omega (arith, length-append (bytes_of fields) rest, fields_many fields, some),
  omega (arith, length-append (bytes_of fields) rest, fields_few fields, few, short, room format),
)

fields_sendable : (format : ℕ) (fields : List Field) → 0 < length fields → length fields ≤ 80 → IsSendable format (bytes_of fields)
fields_sendable format fields some few = subst (IsSendable format) (append-nil (bytes_of fields)) (sendable format fields [] some few (omega arith))

ask_few : (h : CallHeader) → IsAsk h → length (call_fields (AskOf h)) ≤ 80
ask_few h is =
    let numbers : List Field = long h.client_index ∷ word h.server ∷ long h.server_incarnation ∷ word h.procedure ∷ word (length h.clock) ∷ map long h.clock in
    let behind : List Field = word h.client ∷ long h.client_incarnation ∷ numbers in
    omega (arith, length-append (map word h.path) behind, length-map h.path word, length-map h.clock long, is.path_most, is.clock_most)

request_few : (request : Request) → length (request_fields request) ≤ 79
request_few (Lookup troupe) = omega arith
request_few (Join troupe node) = omega arith
request_few (Active troupe node count) = omega arith
request_few (Gone troupe node) = omega arith

outcome_length : (o : Outcome) → length (outcome_spelling o) ≤ 4 + size_of_values (values_of o)
outcome_length (Returned results) = let size : length (spelling_of_all results) ≡ size_of_values results = size_of_spellings (value_trees results) in omega (arith, size)
outcome_length (Raised error values) = let size : length (spelling_of_all values) ≡ size_of_values values = size_of_spellings (value_trees values) in omega (arith, size)

-- ---- true messages

module _ (program : List Behaviour) (agree : Agree program) (are : AreModules program) (troupe : ℕ) (b : Behaviour) (at : IsAt program troupe b)
    (Called : Caller → List ℕ → Type 0) (format : ℕ) (limit : b.declared.limit ≤ limit_of format) where
  pub call_sendable : (purpose : Purpose) (message : List ℕ) → IsTrueCallFor (history_of program) troupe b.first Called purpose message → IsSendable format message
  call_sendable (for.Ask name server) message a =
      let n = a.named in
      let size : length (spelling_of_all n.ask.arguments) ≡ size_of_values n.ask.arguments = size_of_spellings (value_trees n.ask.arguments) in
      let short = within program agree are troupe b at name.run name.ask n.run n.ask n.there in
      subst (IsSendable format) (sym a.message_is)
      (sendable format (call_fields (AskOf a.header)) a.body (omega arith) (ask_few a.header a.header_is.0) (omega (arith, ap length n.so.body_is, size, short, limit)))
  call_sendable (for.Ring request) message is =
      subst (IsSendable format) (sym is) (fields_sendable format (call_fields (Ring request)) (omega arith) (omega (arith, request_few request)))
  call_sendable for.Fetch message is = subst (IsSendable format) (sym is.1) (fields_sendable format (call_fields (Fetch troupe is.0)) (omega arith) (omega arith))

  -- the outcome of a run is within the limit
  run_within : (index : ℕ) (run : Run) → run_at (history_of program) troupe index ≡ Some run → size_of_values (values_of run.outcome) ≤ b.declared.limit
  run_within index run is =
      let f = run_follows program agree are troupe b at index run is in
      let law = (are troupe b at).turns_are_lawful (state_after (history_of program) troupe b.first index) run.procedure run.arguments (replies_of run.asks) f.start f.replies_fit in
      let so = rw f.ends_so at law in
      so.0.within

  reply_sendable : (reply : Reply) → IsOne returns (says.Reply reply.clock) → size_of_values (values_of reply.outcome) ≤ b.declared.limit → IsSendable format (reply_message reply)
  reply_sendable reply one short =
      sendable format (return_fields (says.Reply reply.clock)) (outcome_spelling reply.outcome) (omega arith)
      (omega (arith, length-map reply.clock long, one.0.1)) (omega (arith, outcome_length reply.outcome, short, limit))

  -- a return, if it isn't a table
  pub return_sendable : (caller : Caller) (message : List ℕ) → IsTrueReturn (history_of program) troupe b.first Called caller message
      → IsSendable format message ⊎ ((rest : List ℕ) × (message ≡ bytes_of (return_fields says.Table) ++ rest))
  return_sendable caller message (inl r) =
      let there = subst (λ s. IsSomeAnd (run_at (history_of program) s (slice_index r.header.clock s)) (λ run. IsReplyOf run r.reply)) r.called.server r.true_reply in
      let run = some_and (run_at (history_of program) troupe (slice_index r.header.clock troupe)) (λ x. IsReplyOf x r.reply) there in
      let short = run_within (slice_index r.header.clock troupe) run.0 run.1.0 in
      let same : r.reply.outcome ≡ run.0.outcome = run.1.1.outcome in
      inl (subst (IsSendable format) (sym r.message_is) (reply_sendable r.reply r.header_is (omega (arith, ap (λ o. size_of_values (values_of o)) same, short))))
  return_sendable caller message (inr (inl s)) =
      let size : length (spelling_of_all s.state) ≡ size_of_values s.state = size_of_spellings (value_trees s.state) in
      let short : size_of_values s.state ≤ b.declared.limit =
      omega (arith, ap size_of_values s.true_state.state_is, (state_is program agree are troupe b at s.count s.true_state.within).within) in
      let whole = sendable format (word 3 ∷ long s.count ∷ []) (spelling_of_all s.state) (omega arith) (omega arith) (omega (arith, size, short, limit)) in
      inl (subst (IsSendable format) (sym s.message_is) whole)
  return_sendable caller message (inr (inr (inl stale))) =
      inl (subst (IsSendable format) (sym stale.1) (fields_sendable format (return_fields (says.Stale stale.0)) (omega arith) (omega arith)))
  return_sendable caller message (inr (inr (inr (inl before)))) =
      inl (subst (IsSendable format) (sym before.1) (fields_sendable format (return_fields (says.Before before.0)) (omega arith) (omega arith)))
  return_sendable caller message (inr (inr (inr (inr table)))) = inr table
