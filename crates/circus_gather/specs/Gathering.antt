-- Calls that come in: which are held, which starts, and who is answered.
use Rattle.std.specs.Prelude.{ℕ, Bool, true, false, not, ◌&&◌, nat_eq, nat_lt, nat_le, max, if◌then◌else◌, List, [], ◌∷◌, ◌++◌, map, filter, slice_get, slice_index, Option, Some, None, option_map, option_and_then}
use Rattle.std.specs.Option.{option_map_or}
use Rattle.std.specs.Map.{lookup}
use Rattle.std.specs.Cmp.Lexicographic.{pointwise}
use Rattle.circus_header.specs.declared.call.CallHeader.{CallHeader}
use Rattle.circus_header.specs.declared.answer.Reply.{Reply}
use Rattle.circus_collate.specs.declared.kind.Kind.{Kind}
use Rattle.circus_collate.specs.declared.view.View.{View}
use Rattle.circus_collate.specs.declared.giving.Said.{Said}
use Rattle.circus_collate.specs.Expecting.{expected_nodes}
use Rattle.circus_collate.specs.Giving.{place_of_value}
use Rattle.circus_value.specs.declared.caller.Caller.{Caller}
use Rattle.circus_gather.specs.declared.held.HeldCall.{HeldCall}
use Rattle.circus_gather.specs.declared.added.Added.{Added}
use Rattle.circus_gather.specs.declared.added.Added.TheVariants as A

-- what a member keeps of the calls to it
pub record Gathered : Type 0 where
  -- the member's module
  pub «module» : ℕ
  -- the first index that the member performs itself, and 0 as long as it isn't active
  pub from : ℕ
  -- the greatest incarnation of the state requests so far, or 0
  pub required : ℕ
  -- the index of the run that was started and hasn't ended
  pub open_run : Option ℕ
  -- the replies of the indexes that were performed, in order
  pub replies : List (ℕ × Reply)
  -- the calls that wait for their reply, in order of arrival
  pub held : List HeldCall

abbrev pub before_any : ℕ → ℕ → Gathered
before_any «module» from = record { «module» = «module»; from = from; required = 0; open_run = None; replies = []; held = [] }

-- which call to a module it is
abbrev pub index_of : ℕ → CallHeader → ℕ
index_of «module» header = slice_index header.clock «module»

abbrev pub is_of_index : ℕ → ℕ → HeldCall → Bool
is_of_index «module» index call = nat_eq (index_of «module» call.header) index

-- who made the calls
abbrev pub callers : List HeldCall → List Caller
callers calls = map (λ (c : HeldCall). c.sender) calls

-- ---- a call arrives

-- the reply of an index that was performed
abbrev pub reply_of : Gathered → ℕ → Option Reply
reply_of g index = lookup (nat_eq index) g.replies

-- what a call gets at once: it is of an older view than required; or before the first index; or its index was performed; else it is held
abbrev pub answer_to : Gathered → CallHeader → Added
answer_to g header =
    let index = index_of g.module header in
    if nat_lt header.server_incarnation g.required then A.Stale g.required
    else if nat_lt index g.from then A.Before g.from
    else option_map_or A.Reply (reply_of g index) A.Held

abbrev pub is_held : Added → Bool
is_held (A.Reply reply) = false
is_held (A.Stale incarnation) = false
is_held (A.Before first) = false
is_held A.Held = true

-- once it has arrived
abbrev pub with_call : Gathered → HeldCall → Gathered
with_call g call = if is_held (answer_to g call.header) then record g { held = g.held ++ call ∷ [] } else g

-- ---- a run starts

-- the thread stands at one place: root, path and clock are equal
abbrev pub is_of_one_thread : CallHeader → CallHeader → Bool
is_of_one_thread a b = nat_eq a.root b.root && pointwise nat_eq a.path b.path && pointwise nat_eq a.clock b.clock

-- one client calls at one place of its own
abbrev pub is_of_one_client : CallHeader → CallHeader → Bool
is_of_one_client a b = nat_eq a.client b.client && nat_eq a.client_index b.client_index

-- two calls are the same value: of one thread and of one client, to one procedure with the same arguments
unfoldable pub is_same_call : HeldCall → HeldCall → Bool
is_same_call a b =
    is_of_one_thread a.header b.header && is_of_one_client a.header b.header
    && nat_eq a.header.procedure b.header.procedure && pointwise nat_eq a.body b.body

-- the view of a troupe is known in that incarnation or a later one
abbrev pub is_known : List View → ℕ → ℕ → Bool
is_known views troupe incarnation = option_map_or (λ (view : View). nat_le incarnation view.incarnation) (slice_get views troupe) false

-- a held call counts for a run: it is of that index and not of an older view than required, and its client's view is known
unfoldable pub is_counted : ℕ → ℕ → List View → ℕ → HeldCall → Bool
is_counted «module» required views index call =
    is_of_index «module» index call && nat_le required call.header.server_incarnation
    && is_known views call.header.client call.header.client_incarnation

-- the nodes that are expected to make a call: those of its client's view that perform the client's index themselves
unfoldable pub expected_callers : List View → HeldCall → List ℕ
expected_callers views call = option_map_or (λ (view : View). expected_nodes view call.header.client_index) (slice_get views call.header.client) []

-- who made which call
abbrev pub as_said : HeldCall → Said HeldCall
as_said call = record { node = call.sender.node; value = call }

-- the call that the collator gives of those that were made
unfoldable pub given_call : List View → List ℕ → Kind → List (Said HeldCall) → Option HeldCall
given_call views down kind said =
    option_and_then (λ place. option_map (λ (s : Said HeldCall). s.value) (slice_get said place)) (place_of_value is_same_call (expected_callers views) said kind down)

-- the call that it gives of those that count for the run of an index
abbrev pub call_to_start : Gathered → List View → List ℕ → Kind → ℕ → Option HeldCall
call_to_start g views down kind index = given_call views down kind (map as_said (filter (is_counted g.module g.required views index) g.held))

-- its run is open
abbrev pub with_start : Gathered → ℕ → Gathered
with_start g index = record g { open_run = Some index }

-- ---- a run ends

-- who gets its reply
abbrev pub answered_by_end : Gathered → ℕ → List Caller
answered_by_end g index = callers (filter (is_of_index g.module index) g.held)

-- the reply is kept
abbrev pub with_end : Gathered → ℕ → Reply → Gathered
with_end g index reply = record g {
  open_run = None;
  replies = g.replies ++ (index, reply) ∷ [];
  held = filter (λ c. not (is_of_index g.module index c)) g.held;
}

-- ---- a state request comes

-- it is a call of the run, where there is one
abbrev pub is_of_run : ℕ → Option ℕ → HeldCall → Bool
is_of_run «module» run call = option_map_or (λ index. is_of_index «module» index call) run false

-- a held call is of an older view than required, and its run isn't open
abbrev pub is_stale : Gathered → ℕ → HeldCall → Bool
is_stale g required call = nat_lt call.header.server_incarnation required && not (is_of_run g.module g.open_run call)

-- who is told that a later view is required
abbrev pub stale_answers : Gathered → ℕ → List Caller
stale_answers g incarnation = callers (filter (is_stale g (max g.required incarnation)) g.held)

abbrev pub with_required : Gathered → ℕ → Gathered
with_required g incarnation = record g {
  required = max g.required incarnation;
  held = filter (λ c. not (is_stale g (max g.required incarnation) c)) g.held;
}

-- ---- the member becomes active

-- a call is before the first index
abbrev pub is_before : Gathered → ℕ → HeldCall → Bool
is_before g from call = nat_lt (index_of g.module call.header) from

-- who is told that the member begins behind that call
abbrev pub before_answers : Gathered → ℕ → List Caller
before_answers g from = callers (filter (is_before g from) g.held)

abbrev pub with_first : Gathered → ℕ → Gathered
with_first g from = record g { from = from; held = filter (λ c. not (is_before g from c)) g.held }
