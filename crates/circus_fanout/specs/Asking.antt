-- One call to many: who was sent it, who answered what, and what follows.
use Rattle.std.specs.Prelude.{ℕ, Bool, true, false, not, ◌&&◌, ◌||◌, ◌==◌, nat_lt, nat_le, if◌then◌else◌, List, [], ◌∷◌, ◌++◌, length, map, filter, find, fold, slice_get, slice_index, Option, option_map}
use Rattle.std.specs.List.{list_any, list_all}
use Rattle.std.specs.Option.{option_map_or}
use Rattle.circus_value.specs.Among.{is_among}
use Rattle.circus_header.specs.declared.call.CallHeader.{CallHeader}
use Rattle.circus_header.specs.declared.answer.Reply.{Reply}
use Rattle.circus_header.specs.ReplyEquality.{reply_eq}
use Rattle.circus_collate.specs.declared.kind.Kind.{Kind}
use Rattle.circus_collate.specs.declared.kind.Kind.TheVariants.{First, Majority, Unanimous, AtLeast, Watchdog}
use Rattle.circus_collate.specs.declared.view.Entry.{Entry}
use Rattle.circus_collate.specs.declared.view.View.{View}
use Rattle.circus_collate.specs.declared.giving.Said.{Said}
use Rattle.circus_collate.specs.declared.collating.Collated.{Collated}
use Rattle.circus_collate.specs.Expecting.{expected_nodes, has_node}
use Rattle.circus_collate.specs.Collating.{collate}
use Rattle.circus_fanout.specs.declared.asked.Sending.{Sending}
use Rattle.circus_fanout.specs.declared.asked.Sending.TheVariants.{Unanswered, Settled, Stale}
use Rattle.circus_fanout.specs.declared.asked.Asked.{Asked}
use Rattle.circus_fanout.specs.declared.send.Send.{Send}
use Rattle.circus_fanout.specs.declared.send.Next.{Next}
use Rattle.circus_fanout.specs.declared.send.Next.TheVariants as N
use Rattle.circus_fanout.specs.declared.send.Watched.{Watched}
use Rattle.circus_fanout.specs.declared.send.Watched.TheVariants.{Quiet, Differs}

-- the call with the collator of its replies, who was sent it, and who replied what
pub record Asking : Type 0 where
  pub header : CallHeader
  pub body : List ℕ
  pub kind : Kind
  -- in the order in which they were sent it first, each with what became of the last sending to it
  pub asked : List Asked
  -- in order of arrival
  pub said : List (Said Reply)

-- before any sending
abbrev pub begin_asking : CallHeader → List ℕ → Kind → Asking
begin_asking header body kind = record { header = header; body = body; kind = kind; asked = []; said = [] }

-- ---- who was sent the call

abbrev pub is_of : ℕ → Asked → Bool
is_of node a = a.node == node

-- what became of the last sending to a node, where there was one
abbrev pub sending_to : List Asked → ℕ → Option Sending
sending_to asked node = option_map (λ (a : Asked). a.sending) (find (is_of node) asked)

-- once this became of the last sending to a node
abbrev pub once_marked : ℕ → Sending → Asked → Asked
once_marked node sending a = if is_of node a then record { node = node; sending = sending } else a

abbrev pub mark_asked : List Asked → ℕ → Sending → List Asked
mark_asked asked node sending = map (once_marked node sending) asked

-- once the call was sent to a node
abbrev pub with_sent : List Asked → ℕ → List Asked
with_sent asked node =
    if list_any (is_of node) asked then mark_asked asked node Unanswered else asked ++ record { node = node; sending = Unanswered } ∷ []

-- ---- calls for a view

-- the sending was answered by a Stale that the view satisfies: its incarnation isn't above the view's
abbrev pub is_satisfied : View → Sending → Bool
is_satisfied view Unanswered = false
is_satisfied view Settled = false
is_satisfied view (Stale incarnation) = nat_le incarnation view.incarnation

-- the call is due to an entry: it isn't down, and was not sent the call, or the view satisfies the last sending to it
abbrev pub is_due : View → List ℕ → List Asked → Entry → Bool
is_due view down asked e = not (is_among down e.node) && option_map_or (is_satisfied view) (sending_to asked e.node) true

-- a call to a node, made with this view
abbrev pub send_to : View → ℕ → Send
send_to view node = record { node = node; incarnation = view.incarnation }

-- the calls that a view makes due, in its order
unfoldable pub calls_for_a_view : View → List ℕ → List Asked → List Send
calls_for_a_view view down asked = map (λ (e : Entry). send_to view e.node) (filter (is_due view down asked) view.entries)

-- once they were sent
unfoldable pub with_calls : List Asked → List Send → List Asked
with_calls asked sends = fold (λ so_far (send : Send). with_sent so_far send.node) asked sends

-- once the calls that a view makes due were sent
abbrev pub with_view : View → List ℕ → Asking → Asking
with_view view down a = record a { asked = with_calls a.asked (calls_for_a_view view down a.asked) }

-- ---- answers

-- once a node replied
abbrev pub with_reply : ℕ → Reply → Asking → Asking
with_reply node reply a =
    record a { asked = mark_asked a.asked node Settled; said = a.said ++ record { node = node; value = reply } ∷ [] }

abbrev pub is_watchdog : Kind → Bool
is_watchdog First = false
is_watchdog Majority = false
is_watchdog Unanimous = false
is_watchdog (AtLeast number) = false
is_watchdog Watchdog = true

-- a reply is another value than the first of those before it
abbrev pub differs : List (Said Reply) → Reply → Bool
differs said reply = option_map_or (λ (first : Said Reply). not (reply_eq first.value reply)) (slice_get said 0) false

-- a watchdog tells a reply that differs, by the places of the first and of this one
abbrev pub watch_reply : Kind → List (Said Reply) → Reply → Watched
watch_reply kind said reply = if is_watchdog kind && differs said reply then Differs 0 (length said) else Quiet

-- once a node answered that the call is before its first one
abbrev pub with_before : ℕ → Asking → Asking
with_before node a = record a { asked = mark_asked a.asked node Settled }

-- what follows a Stale: its view has to be looked up where it is above the one that is known, and else the call is sent again where the node is an entry of that one and isn't down
unfoldable pub next : View → List ℕ → ℕ → ℕ → Next
next view down node incarnation =
    if nat_lt view.incarnation incarnation then N.Lookup incarnation
    else if has_node view node && not (is_among down node) then N.Send (send_to view node)
    else N.Leave

-- what becomes of the sending that was answered so: there is a new one, or it stays stale
abbrev pub after_stale : Next → ℕ → Sending
after_stale (N.Send send) incarnation = Unanswered
after_stale (N.Lookup wanted) incarnation = Stale incarnation
after_stale N.Leave incarnation = Stale incarnation

-- once a node answered that the call was of an older view
abbrev pub with_stale : View → List ℕ → ℕ → ℕ → Asking → Asking
with_stale view down node incarnation a =
    record a { asked = mark_asked a.asked node (after_stale (next view down node incarnation) incarnation) }

-- ---- what the fan-out comes to

-- which call to its server it is
abbrev pub index_of : CallHeader → ℕ
index_of header = slice_index header.clock header.server

-- what the collator answers
abbrev pub answer : View → List ℕ → Asking → Collated
answer view down a = collate reply_eq (expected_nodes view (index_of a.header)) down a.said a.kind

-- the reply at a place
abbrev pub reply_at : Asking → ℕ → Option Reply
reply_at a place = option_map (λ (s : Said Reply). s.value) (slice_get a.said place)

abbrev pub is_settled : Sending → Bool
is_settled Unanswered = false
is_settled Settled = true
is_settled (Stale incarnation) = false

-- an entry is down, or has replied, or answered that the call is before its first one
abbrev pub is_done : List ℕ → List Asked → Entry → Bool
is_done down asked e = is_among down e.node || option_map_or is_settled (sending_to asked e.node) false

-- each entry of the view is
abbrev pub all_settled : View → List ℕ → Asking → Bool
all_settled view down a = list_all (is_done down a.asked) view.entries
