-- The messages of a member can be sent: they have some bytes, and no more than a format takes.
use Rattle.std.proofs.Common.{◌≡◌, ℕ, ◌+◌, ◌*◌, ◌<◌, ◌≤◌, List, [], ◌∷◌, ◌++◌, map, length, ◌⊎◌, inl, inr, sym, subst, arith, length-append}
use Rattle.std.proofs.lemmas.List.{length-map}
use Rattle.circus_value.specs.ExternalSize.{size_of_values}
use Rattle.circus_value.specs.ValueTree.{ValueTree, value_trees}
use Rattle.circus_value.specs.declared.outcome.Outcome.{Outcome}
use Rattle.circus_value.specs.declared.outcome.Outcome.TheVariants.{Returned, Raised}
use Rattle.circus_external.specs.Spelling.{spelling_of_all}
use Rattle.circus_external.proofs.Sizes.{size_of_spellings}
use Rattle.circus_exchange.specs.Exchange.{IsSendable}
use Rattle.circus_limits.specs.Limits.{limit_of}
use Rattle.circus_header.specs.Field.{Field, word, long, bytes_of}
use Rattle.circus_header.specs.CallFields.{call_fields}
use Rattle.circus_header.specs.ReturnFields.{return_fields}
use Rattle.circus_header.specs.declared.call.Call.TheVariants as call
use Rattle.circus_header.specs.declared.call.CallHeader.{CallHeader}
use Rattle.circus_header.specs.declared.call.Request.{Request}
use Rattle.circus_header.specs.declared.call.Request.TheVariants.{Lookup, Join, Active, Gone}
use Rattle.circus_header.specs.declared.answer.Reply.{Reply}
use Rattle.circus_header.specs.declared.answer.ReturnHeader.TheVariants as says
use Rattle.circus_transfer.specs.Snapshot.{snapshot_bytes, snapshot_values}
use Rattle.circus_model.specs.Lawful.{values_of}
use Rattle.circus_member_rules.specs.Messages.{ask_message, request_message, fetch_message, outcome_spelling, reply_message, stale_message, before_message}

-- ---- bytes

-- each field has two bytes or four
pub fields_few : (fs : List Field) → (2 * length fs ≤ length (bytes_of fs)) × (length (bytes_of fs) ≤ 4 * length fs)
fields_few [] = (omega arith, omega arith)
fields_few (word n ∷ fs) = let rest = fields_few fs in let low = rest.0 in let high = rest.1 in (omega arith, omega arith)
fields_few (long n ∷ fs) = let rest = fields_few fs in let low = rest.0 in let high = rest.1 in (omega arith, omega arith)

-- a message of at most so many bytes in all, with some room for its header
abbrev pub IsBrief : ℕ → List ℕ → Type 0
IsBrief most message = (0 < length message) × (length message ≤ most + 512)

-- fields with something behind them
brief_behind : (most : ℕ) (fs : List Field) (rest : List ℕ) → 0 < length fs → length fs ≤ 100 → length rest ≤ most + 100 → IsBrief most (bytes_of fs ++ rest)
brief_behind most fs rest some few within =
    let bytes = fields_few fs in
    let low = bytes.0 in
    let high = bytes.1 in
    let both = length-append (bytes_of fs) rest in
    (omega arith, omega arith)

brief_alone : (most : ℕ) (fs : List Field) → 0 < length fs → length fs ≤ 100 → IsBrief most (bytes_of fs)
brief_alone most fs some within = let bytes = fields_few fs in let low = bytes.0 in let high = bytes.1 in (omega arith, omega arith)

pub size_is : (values : List ValueTree) → length (spelling_of_all values) ≡ size_of_values values
size_is values = size_of_spellings (value_trees values)

-- ---- messages

-- a call with few bytes
pub record IsSmallCall (most : ℕ) (h : CallHeader) (body : List ℕ) : Type 0 where
  pub path : length h.path ≤ 31
  pub clock : length h.clock ≤ 32
  pub arguments : length body ≤ most

pub record IsSmallReply (most : ℕ) (reply : Reply) : Type 0 where
  pub clock : length reply.clock ≤ 32
  pub outcome : size_of_values (values_of reply.outcome) ≤ most

module _ (most : ℕ) where
  pub ask_brief : (h : CallHeader) (body : List ℕ) → IsSmallCall most h body → IsBrief most (ask_message h body)
  ask_brief h body small =
      let path = small.path in
      let clock = small.clock in
      let within = small.arguments in
      let paths : length (map word h.path) ≡ length h.path = length-map h.path word in
      let clocks : length (map long h.clock) ≡ length h.clock = length-map h.clock long in
      let long_ = length-append (map word h.path) (word h.client ∷ long h.client_incarnation ∷ long h.client_index ∷ word h.server ∷ long h.server_incarnation ∷ word h.procedure ∷ word (length h.clock) ∷ map long h.clock) in
      brief_behind most (call_fields (call.Ask h)) body (omega arith) (omega arith) (omega arith)

  pub request_brief : (request : Request) → IsBrief most (request_message request)
  request_brief (Lookup troupe) = brief_alone most (call_fields (call.Ring (Lookup troupe))) (omega arith) (omega arith)
  request_brief (Join troupe node) = brief_alone most (call_fields (call.Ring (Join troupe node))) (omega arith) (omega arith)
  request_brief (Active troupe node count) = brief_alone most (call_fields (call.Ring (Active troupe node count))) (omega arith) (omega arith)
  request_brief (Gone troupe node) = brief_alone most (call_fields (call.Ring (Gone troupe node))) (omega arith) (omega arith)

  pub fetch_brief : (troupe incarnation : ℕ) → IsBrief most (fetch_message troupe incarnation)
  fetch_brief troupe incarnation = brief_alone most (call_fields (call.Fetch troupe incarnation)) (omega arith) (omega arith)

  outcome_within : (o : Outcome) → size_of_values (values_of o) ≤ most → length (outcome_spelling o) ≤ most + 100
  outcome_within (Returned results) within = let size = size_is results in omega arith
  outcome_within (Raised error values) within = let size = size_is values in omega arith

  pub reply_brief : (reply : Reply) → IsSmallReply most reply → IsBrief most (reply_message reply)
  reply_brief reply small =
      let clock = small.clock in
      let clocks : length (map long reply.clock) ≡ length reply.clock = length-map reply.clock long in
      brief_behind most (return_fields (says.Reply reply.clock)) (outcome_spelling reply.outcome) (omega arith) (omega arith) (outcome_within reply.outcome small.outcome)

  pub stale_brief : (incarnation : ℕ) → IsBrief most (stale_message incarnation)
  stale_brief incarnation = brief_alone most (return_fields (says.Stale incarnation)) (omega arith) (omega arith)

  pub before_brief : (start : ℕ) → IsBrief most (before_message start)
  before_brief start = brief_alone most (return_fields (says.Before start)) (omega arith) (omega arith)

  pub snapshot_brief : (count : ℕ) (state : List ValueTree) → size_of_values state ≤ most → IsBrief most (snapshot_bytes count state)
  snapshot_brief count state within = let size = size_is (snapshot_values count state) in (omega arith, omega arith)

-- a format takes what keeps to its limit
pub brief_is_sendable : (format : ℕ) (message : List ℕ) → (format ≡ 1) ⊎ (format ≡ 2) → IsBrief (limit_of format) message → IsSendable format message
brief_is_sendable format message (inl one) brief =
    subst (λ f. IsBrief (limit_of f) message → IsSendable f message) (sym one) (λ b. (b.0, (let within = b.1 in omega (arith, within)))) brief
brief_is_sendable format message (inr two) brief =
    subst (λ f. IsBrief (limit_of f) message → IsSendable f message) (sym two) (λ b. (b.0, (let within = b.1 in omega (arith, within)))) brief
