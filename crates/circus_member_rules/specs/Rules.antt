-- The rules of a member, one by one: what is made of what happens, by what it knows.
use Rattle.std.specs.Prelude.{ℕ, ◌+◌, ◌-◌, Bool, true, false, not, ◌&&◌, ◌||◌, nat_eq, min, if◌then◌else◌, List, [], ◌∷◌, length, map, filter, slice_get, slice_index, slice_set, Option, None, Some, option_map, option_and_then}
use Rattle.std.specs.List.{flat_map}
use Rattle.std.specs.Option.{option_map_or}
use Rattle.circus_value.specs.Among.{is_among}
use Rattle.circus_value.specs.declared.caller.Caller.{Caller}
use Rattle.circus_header.specs.declared.call.CallHeader.{CallHeader}
use Rattle.circus_header.specs.declared.call.Request.{Request}
use Rattle.circus_header.specs.declared.call.Request.TheVariants.{Lookup, Join, Active, Gone}
use Rattle.circus_header.specs.declared.answer.Reply.{Reply}
use Rattle.circus_collate.specs.declared.view.View.{View}
use Rattle.circus_collate.specs.declared.view.Entry.{Entry}
use Rattle.circus_collate.specs.declared.view.Since.{Since}
use Rattle.circus_collate.specs.declared.view.Since.TheVariants as since
use Rattle.circus_collate.specs.declared.giving.Said.{Said}
use Rattle.circus_collate.specs.declared.collating.Collated.{Collated}
use Rattle.circus_collate.specs.declared.collating.Collated.TheVariants.{Waiting, Answer, Differ}
use Rattle.circus_collate.specs.Expecting.{has_node}
use Rattle.circus_record.specs.declared.record.MemberRecord.{MemberRecord}
use Rattle.circus_transfer.specs.Snapshot.{snapshot_bytes}
use Rattle.circus_fanout.specs.Knowing.{Knowing}
use Rattle.circus_fanout.specs.Knowing as knowing
use Rattle.circus_gather.specs.Gathering.{Gathered}
use Rattle.circus_gather.specs.Gathering as gathering
use Rattle.circus_gather.specs.declared.added.Added.{Added}
use Rattle.circus_gather.specs.declared.added.Added.TheVariants as added
use Rattle.circus_fanout.specs.Asking.{Asking}
use Rattle.circus_fanout.specs.Asking as asking
use Rattle.circus_fanout.specs.declared.send.Send.{Send}
use Rattle.circus_fanout.specs.declared.send.Next.{Next}
use Rattle.circus_fanout.specs.declared.send.Next.TheVariants as next
use Rattle.circus_fanout.specs.declared.send.Watched.{Watched}
use Rattle.circus_fanout.specs.declared.send.Watched.TheVariants.{Quiet, Differs}
use Rattle.circus_performing.specs.Performing.{last_count}
use Rattle.circus_member_rules.specs.declared.place.Place.{Place}
use Rattle.circus_member_rules.specs.declared.occurrence.AskName.{AskName}
use Rattle.circus_member_rules.specs.declared.occurrence.Difference.{Difference}
use Rattle.circus_member_rules.specs.declared.occurrence.Purpose.TheVariants as for
use Rattle.circus_member_rules.specs.declared.occurrence.Effect.{Effect}
use Rattle.circus_member_rules.specs.declared.occurrence.Effect.TheVariants as made
use Rattle.circus_member_rules.specs.Messages.{ask_message, request_message, fetch_message, reply_message, stale_message, before_message}

-- the Ringmaster's node
abbrev pub ringmaster : ℕ
ringmaster = 0

-- the return with this message to a call
abbrev pub answer : List ℕ → Caller → Effect
answer message caller = made.Answer caller message

-- and to each of these calls
abbrev pub answers : List ℕ → List Caller → List Effect
answers message callers = map (answer message) callers

-- a request to the Ringmaster
abbrev pub request_call : Request → Effect
request_call request = made.Call ringmaster (request_message request) (for.Ring request)

-- none where that is down
abbrev pub request_to_ring : Knowing → Request → List Effect
request_to_ring k request = if is_among k.down ringmaster then [] else request_call request ∷ []

-- ---- a call comes in

-- the return that it gets at once, unless it is held
abbrev pub message_at_once : Added → Option (List ℕ)
message_at_once (added.Reply reply) = Some (reply_message reply)
message_at_once (added.Stale required) = Some (stale_message required)
message_at_once (added.Before first) = Some (before_message first)
message_at_once added.Held = None

abbrev pub answer_at_once : Added → Caller → List Effect
answer_at_once added sender = option_map_or (λ message. answer message sender ∷ []) (message_at_once added) []

-- one that is held makes the client's view wanted
abbrev pub wanted_by_call : Added → CallHeader → Knowing → Knowing
wanted_by_call (added.Reply reply) header k = k
wanted_by_call (added.Stale required) header k = k
wanted_by_call (added.Before first) header k = k
wanted_by_call added.Held header k = knowing.want_view k header.client header.client_incarnation

-- ---- calls out

-- the incarnation of a troupe's view
abbrev pub incarnation_of : Knowing → ℕ → ℕ
incarnation_of k troupe = option_map_or (λ (v : View). v.incarnation) (slice_get k.views troupe) 0

-- the header of a call names the views of the server and of the own troupe that are known as the call is made
abbrev pub header_now : Knowing → Asking → Send → CallHeader
header_now k a send = record a.header { client_incarnation = incarnation_of k a.header.client; server_incarnation = send.incarnation }

abbrev pub call_of_ask : Knowing → AskName → Asking → Send → Effect
call_of_ask k name a send = made.Call send.node (ask_message (header_now k a send) a.body) (for.Ask name a.header.server)

abbrev pub calls_of_ask : Knowing → AskName → Asking → List Send → List Effect
calls_of_ask k name a sends = map (call_of_ask k name a) sends

-- the view of an ask's server, for what looks at it
abbrev pub by_view : {A : Type 0} → Knowing → Asking → (View → A) → A → A
by_view k a look none = option_map_or look (slice_get k.views a.header.server) none

-- after a Stale the call is sent again where its view is known, and the node is in it and isn't down
abbrev pub call_for : Knowing → AskName → Asking → Next → List Effect
call_for k name a (next.Send send) = call_of_ask k name a send ∷ []
call_for k name a (next.Lookup incarnation) = []
call_for k name a next.Leave = []

abbrev pub call_again : Knowing → AskName → ℕ → ℕ → Asking → List Effect
call_again k name from incarnation a = by_view k a (λ view. call_for k name a (asking.next view k.down from incarnation)) []

abbrev pub after_stale : Knowing → ℕ → ℕ → Asking → Asking
after_stale k from incarnation a = by_view k a (λ view. asking.with_stale view k.down from incarnation a) a

-- the asks to a troupe
abbrev pub is_to : ℕ → AskName × Asking → Bool
is_to troupe e = nat_eq e.1.header.server troupe

-- the calls of one ask that a view of its server makes due
abbrev pub calls_for_view : Knowing → View → AskName × Asking → List Effect
calls_for_view k view e = calls_of_ask k e.0 e.1 (asking.calls_for_a_view view k.down e.1.asked)

-- a new view makes calls due: by the asks, then by the view
abbrev pub calls_for_a_new_view : Knowing → View → List (AskName × Asking) → List Effect
calls_for_a_new_view k view asks = flat_map (calls_for_view k view) (filter (is_to view.troupe) asks)

abbrev pub seen_by_ask : Knowing → View → AskName × Asking → AskName × Asking
seen_by_ask k view e = if is_to view.troupe e then (e.0, asking.with_view view k.down e.1) else e

abbrev pub with_new_view : Knowing → View → List (AskName × Asking) → List (AskName × Asking)
with_new_view k view asks = map (seen_by_ask k view) asks

-- the value of an ask, where its collator gives one
abbrev pub answer_in : Asking → Collated → Option Reply
answer_in a (Answer place) = asking.reply_at a place
answer_in a Waiting = None
answer_in a (Differ one other) = None

abbrev pub value_of_ask : Knowing → Asking → Option Reply
value_of_ask k a = by_view k a (λ view. answer_in a (asking.answer view k.down a)) None

-- a reply differs from the first one to the same ask
abbrev pub difference_of : AskName → Said Reply → Said Reply → Difference
difference_of name first second =
    record { run = name.run; ask = name.ask; first = first.node; first_reply = first.value; second = second.node; second_reply = second.value }

abbrev pub difference_told : AskName → List (Said Reply) → Watched → Option Difference
difference_told name said Quiet = None
difference_told name said (Differs one other) =
    option_and_then (λ first. option_map (difference_of name first) (slice_get said other)) (slice_get said one)

-- a watchdog tells what it watches in a reply that comes from a node
abbrev pub difference_by : AskName → ℕ → Reply → Asking → Option Difference
difference_by name from reply a = difference_told name (asking.with_reply from reply a).said (asking.watch_reply a.kind a.said reply)

-- each entry of the view of an ask's server is down or has answered
abbrev pub is_settled : Knowing → Asking → Bool
is_settled k a = by_view k a (λ view. asking.all_settled view k.down a) false

-- an ask is closed where it is settled, once it has a value
abbrev pub stays_open : Knowing → (AskName → Bool) → AskName × Asking → Bool
stays_open k waits e = waits e.0 || not (is_settled k e.1)

abbrev pub close_asks : Knowing → (AskName → Bool) → List (AskName × Asking) → List (AskName × Asking)
close_asks k waits asks = filter (stays_open k waits) asks

-- ---- a state request comes, and states are given

-- who is told that a later view is required
abbrev pub stale_answers : Gathered → ℕ → List Effect
stale_answers g incarnation =
    answers (stale_message (gathering.with_required g incarnation).required) (gathering.stale_answers g incarnation)

-- a snapshot to each that waits
abbrev pub snapshots_owed : MemberRecord → List Caller → List Effect
snapshots_owed kept requests = answers (snapshot_bytes kept.count kept.state) requests

-- ---- views, joins and declarations

-- an entry that performs calls itself, of another node that isn't down
abbrev pub performs_any : Since → Bool
performs_any since.Joining = false
performs_any (since.From first) = true

abbrev pub may_give : ℕ → List ℕ → Entry → Bool
may_give own down e = performs_any e.since && not (nat_eq e.node own) && not (is_among down e.node)

abbrev pub givers : ℕ → List ℕ → View → List ℕ
givers own down view = map (λ (e : Entry). e.node) (filter (may_give own down) view.entries)

-- a node is asked for the state of a troupe, by the view that took the member in
abbrev pub state_request : ℕ → ℕ → ℕ → Effect
state_request troupe incarnation node = made.Call node (fetch_message troupe incarnation) for.Fetch

-- a member that was taken in asks each of those
abbrev pub state_requests : Place → List ℕ → View → List Effect
state_requests place down view = map (state_request place.troupe view.incarnation) (givers place.node down view)

abbrev pub join_call : Place → Knowing → List Effect
join_call place k = request_to_ring k (Join place.troupe place.node)

abbrev pub active_call : Place → Knowing → ℕ → List Effect
active_call place k count = request_to_ring k (Active place.troupe place.node count)

-- who is told that the member begins behind the call
abbrev pub before_answers : Gathered → ℕ → List Effect
before_answers g first = answers (before_message first) (gathering.before_answers g first)

-- a node that is down is gone, where the known view of its troupe has it
abbrev pub gone_from : Knowing → ℕ → ℕ → List Effect
gone_from k node troupe =
    option_map_or (λ (v : View). if has_node v node then request_to_ring k (Gone troupe node) else []) (slice_get k.views troupe) []

abbrev pub gone_call : Place → Knowing → ℕ → List Effect
gone_call place k node =
    option_map_or (λ hosted. option_map_or (gone_from k node) hosted []) (slice_get place.troupes node) []

abbrev pub lookup_call : ℕ → Effect
lookup_call troupe = request_call (Lookup troupe)

-- the views that are to be looked up now
abbrev pub lookups : Knowing → List Effect
lookups k = map lookup_call (knowing.lookups k ringmaster)

-- ---- runs

-- the index of the run that was entered last
abbrev pub index_of_last : MemberRecord → ℕ
index_of_last kept = min (kept.from + (length kept.runs - 1)) last_count

abbrev pub answers_of_run : List Caller → Reply → List Effect
answers_of_run callers reply = answers (reply_message reply) callers

-- the clock at the entry of a call's run, which counts the call
abbrev pub clock_at_entry : ℕ → List ℕ → List ℕ
clock_at_entry troupe clock = slice_set clock troupe (min (slice_index clock troupe + 1) last_count)
