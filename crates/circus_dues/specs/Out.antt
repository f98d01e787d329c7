-- What is kept of views, of what is wanted, of the phase and of open asks while a trace is gone
-- through, by the record of a member in the end, and what each occurrence does to it.
use Rattle.std.specs.Prelude.{◌≡◌, ℕ, ◌+◌, Bool, false, not, ◌&&◌, if◌then◌else◌, List, [], ◌∷◌, take, slice_get, slice_index, Option, Some}
use Rattle.std.specs.Option.{option_map_or}
use Rattle.circus_value.specs.ValueTree.{ValueTree}
use Rattle.circus_collate.specs.declared.view.View.{View}
use Rattle.circus_transfer.specs.declared.joiner.Joiner.{Joiner}
use Rattle.circus_transfer.specs.Joining.{after_join, after_table, after_state}
use Rattle.circus_record.specs.declared.record.AskRecord.{AskRecord}
use Rattle.circus_record.specs.declared.record.MemberRecord.{MemberRecord}
use Rattle.circus_record.specs.declared.record.RunRecord.{RunRecord}
use Rattle.circus_gather.specs.declared.held.HeldCall.{HeldCall}
use Rattle.circus_fanout.specs.Knowing.{Knowing}
use Rattle.circus_fanout.specs.Knowing as knowing
use Rattle.circus_fanout.specs.Asking.{Asking, with_reply, with_before}
use Rattle.circus_fanout.specs.declared.known.Want.{Want}
use Rattle.circus_performing.specs.Performing.{is_fetching, clock_after}
use Rattle.circus_member_rules.specs.declared.place.Place.{Place}
use Rattle.circus_member_rules.specs.declared.occurrence.AskName.{AskName}
use Rattle.circus_member_rules.specs.declared.occurrence.Effect.{Effect}
use Rattle.circus_member_rules.specs.declared.occurrence.Occurrence.{Occurrence}
use Rattle.circus_member_rules.specs.declared.occurrence.Occurrence.TheVariants as comes
use Rattle.circus_member_rules.specs.OpenAsks.{asking_of, with_asking}
use Rattle.circus_member_rules.specs.Rules.{state_requests, join_call, active_call, gone_call, after_stale, call_again, with_new_view, calls_for_a_new_view}
use Rattle.circus_member_rules.specs.Step.{is_join, is_taken_in, known_by_table}
use Rattle.circus_member_theory.specs.Past.{Past, booted, followed, views_known, nodes_declared_down}
use Rattle.circus_member_theory.specs.Requests.{answers_lookup, is_held, wanted_incarnation, is_unanswered}

-- ---- the phase

-- behind what comes
abbrev pub phase_behind : Occurrence → Joiner → Joiner
phase_behind (comes.Asked header body sender) j = j
phase_behind (comes.Fetched incarnation sender) j = j
phase_behind (comes.Replied name from reply) j = j
phase_behind (comes.IsStale name server from incarnation) j = j
phase_behind (comes.IsBefore name from) j = j
phase_behind (comes.Told request table) j = if is_join request then after_table table j else j
phase_behind (comes.Restored state count) j = after_state count j
phase_behind (comes.Declared node) j = j
phase_behind comes.Joins j = after_join j

-- the first snapshot that came while the member fetched one, in this phase before
abbrev pub snapshot_behind : Occurrence → Joiner → Option (List ValueTree × ℕ)
    → Option (List ValueTree × ℕ)
snapshot_behind (comes.Restored state count) j fetched =
    if is_fetching j then Some (state, count) else fetched
snapshot_behind _ j fetched = fetched

-- the state with which the member became active
abbrev pub began_behind : Occurrence → Joiner → List ValueTree → List ValueTree
began_behind (comes.Restored state count) j began = if is_fetching j then state else began
began_behind _ j began = began

-- ---- requests but Lookups, by the phase before and by what is known behind what comes

abbrev pub requests_of : Place → Occurrence → Joiner → Knowing → List Effect
requests_of place (comes.Asked header body sender) j k = []
requests_of place (comes.Fetched incarnation sender) j k = []
requests_of place (comes.Replied name from reply) j k = []
requests_of place (comes.IsStale name server from incarnation) j k = []
requests_of place (comes.IsBefore name from) j k = []
requests_of place (comes.Told request table) j k =
    if is_taken_in j (phase_behind (comes.Told request table) j)
    then state_requests place k.down table.view
    else []
requests_of place (comes.Restored state count) j k =
    if is_fetching j then active_call place k count else []
requests_of place (comes.Declared node) j k = gone_call place k node
requests_of place comes.Joins j k = join_call place k

-- ---- open asks, by what is known before and behind what comes

abbrev pub open_behind : Occurrence → Knowing → Knowing → List (AskName × Asking)
    → List (AskName × Asking)
open_behind (comes.Asked header body sender) before k asks = asks
open_behind (comes.Fetched incarnation sender) before k asks = asks
open_behind (comes.Replied name from reply) before k asks =
    with_asking name (with_reply from reply) asks
open_behind (comes.IsStale name server from incarnation) before k asks =
    with_asking name (after_stale k from incarnation) asks
open_behind (comes.IsBefore name from) before k asks = with_asking name (with_before from) asks
open_behind (comes.Told request table) before k asks =
    if knowing.is_newer before table.view then with_new_view k table.view asks else asks
open_behind (comes.Restored state count) before k asks = asks
open_behind (comes.Declared node) before k asks = asks
open_behind comes.Joins before k asks = asks

-- the calls of them that it makes
abbrev pub calls_of_open : Occurrence → Knowing → Knowing → List (AskName × Asking) → List Effect
calls_of_open (comes.Asked header body sender) before k asks = []
calls_of_open (comes.Fetched incarnation sender) before k asks = []
calls_of_open (comes.Replied name from reply) before k asks = []
calls_of_open (comes.IsStale name server from incarnation) before k asks =
    option_map_or (call_again k name from incarnation) (asking_of asks name) []
calls_of_open (comes.IsBefore name from) before k asks = []
calls_of_open (comes.Told request table) before k asks =
    if knowing.is_newer before table.view then calls_for_a_new_view k table.view asks else []
calls_of_open (comes.Restored state count) before k asks = []
calls_of_open (comes.Declared node) before k asks = []
calls_of_open comes.Joins before k asks = []

-- ---- the record

-- each ask of a record says how many calls to its callee its thread had made before
abbrev pub AsksCount : MemberRecord → Type 0
AsksCount kept =
    (number ask_number : ℕ) (run : RunRecord) (ask : AskRecord)
    → slice_get kept.runs number ≡ Some run → slice_get run.asks ask_number ≡ Some ask
    → ask.index ≡ slice_index (clock_after run.entry (take ask_number run.asks)) ask.callee

-- ---- what is known

-- the wants of as many troupes as there are views, the first having this number
abbrev pub wants_from : (ℕ → Want) → ℕ → List View → List Want
wants_from want troupe [] = []
wants_from want troupe (view ∷ views) = want troupe ∷ wants_from want (troupe + 1) views

-- the views and the nodes that are down are those of a past
pub record KnowsViews (boot : List View) (p : Past) (k : Knowing) : Type 0 where
  pub views : k.views ≡ views_known boot p
  pub down : k.down ≡ nodes_declared_down p

-- of a member that stands here, with these views and in this phase at boot, by its record in the
-- end
module _ (place : Place) (boot : List View) (begins : Joiner) (kept : MemberRecord) where
  -- a Lookup for a troupe was made before the last step of a past, and isn't answered in it
  abbrev pub is_left : Past → ℕ → Bool
  is_left booted troupe = false
  is_left (followed p step o) troupe =
      is_unanswered place boot begins kept p troupe && not (answers_lookup o troupe)

  -- what is wanted of a troupe at the end of a past
  abbrev pub want_at : Past → ℕ → Want
  want_at p troupe =
      record {
        incarnation = wanted_incarnation place boot begins kept troupe p;
        asked = is_unanswered place boot begins kept p troupe;
      }

  -- and before the Lookups of its last step
  abbrev pub want_amid : Past → ℕ → Want
  want_amid p troupe =
      record {
        incarnation = wanted_incarnation place boot begins kept troupe p;
        asked = is_left p troupe;
      }

  -- it is what is known at the end of a past
  pub record KnowsAt (p : Past) (k : Knowing) : Type 0 where
    pub seen : KnowsViews boot p k
    pub wants : k.wants ≡ wants_from (want_at p) 0 boot

  -- and before the Lookups of its last step
  pub record KnowsAmid (p : Past) (k : Knowing) : Type 0 where
    pub seen : KnowsViews boot p k
    pub wants : k.wants ≡ wants_from (want_amid p) 0 boot

  -- what is known once this comes behind a past: a call that is held makes its client's view
  -- wanted
  abbrev pub known_behind : Past → Occurrence → Knowing → Knowing
  known_behind p (comes.Asked header body sender) k =
      let call : HeldCall = record { header = header; body = body; sender = sender } in
      if is_held place boot begins kept p call
      then knowing.want_view k header.client header.client_incarnation
      else k
  known_behind p (comes.Fetched incarnation sender) k = k
  known_behind p (comes.Replied name from reply) k = k
  known_behind p (comes.IsStale name server from incarnation) k =
      knowing.want_view k server incarnation
  known_behind p (comes.IsBefore name from) k = k
  known_behind p (comes.Told request table) k = known_by_table k request table.view
  known_behind p (comes.Restored state count) k = k
  known_behind p (comes.Declared node) k = knowing.note_down k node
  known_behind p comes.Joins k = k
