-- The calls of a member that are no asks: to the Ringmaster, and for a state. Each is made in the
-- step of its cause, once for each.
use Rattle.std.specs.Prelude.{ℕ, ◌+◌, Bool, true, false, not, ◌&&◌, ◌||◌, nat_eq, nat_lt, max, if◌then◌else◌, List, [], ◌∷◌, ◌++◌, map, is_none, slice_get}
use Rattle.std.specs.Option.{option_map_or}
use Rattle.circus_value.specs.Among.{is_among}
use Rattle.circus_header.specs.declared.call.Request.{Request}
use Rattle.circus_header.specs.declared.call.Request.TheVariants.{Join, Active, Gone}
use Rattle.circus_collate.specs.Expecting.{has_node}
use Rattle.circus_collate.specs.declared.view.View.{View}
use Rattle.circus_transfer.specs.declared.joiner.Joiner.{Joiner}
use Rattle.circus_record.specs.declared.record.MemberRecord.{MemberRecord}
use Rattle.circus_gather.specs.declared.held.HeldCall.{HeldCall}
use Rattle.circus_performing.specs.Performing.{is_fetching}
use Rattle.circus_member_rules.specs.declared.place.Place.{Place}
use Rattle.circus_member_rules.specs.declared.occurrence.Effect.{Effect}
use Rattle.circus_member_rules.specs.declared.occurrence.Effect.TheVariants as made
use Rattle.circus_member_rules.specs.declared.occurrence.Occurrence.{Occurrence}
use Rattle.circus_member_rules.specs.declared.occurrence.Occurrence.TheVariants as comes
use Rattle.circus_member_rules.specs.declared.occurrence.Purpose.{Purpose}
use Rattle.circus_member_rules.specs.declared.occurrence.Purpose.TheVariants as for
use Rattle.circus_member_rules.specs.Rules.{ringmaster, request_call, state_requests, lookup_call}
use Rattle.circus_member_rules.specs.Step.{is_lookup}
use Rattle.circus_member_theory.specs.Past.{Past, booted, followed, views_known, nodes_declared_down, required_incarnation, phase}
use Rattle.circus_member_theory.specs.Returns.{is_before, reply_by}

-- it is such a call
abbrev pub is_no_ask : Purpose → Bool
is_no_ask (for.Ask name troupe) = false
is_no_ask (for.Ring request) = true
is_no_ask for.Fetch = true

abbrev pub is_request : Effect → Bool
is_request (made.Call to message purpose) = is_no_ask purpose
is_request (made.Answer caller message) = false

-- a request to the Ringmaster, unless that is down
abbrev pub to_ring : List ℕ → Request → List Effect
to_ring gone_nodes request =
    if is_among gone_nodes ringmaster then [] else request_call request ∷ []

-- a table answers a Lookup for a troupe
abbrev pub answers_lookup : Occurrence → ℕ → Bool
answers_lookup (comes.Told request table) troupe =
    is_lookup request && nat_eq troupe table.view.troupe
answers_lookup _ troupe = false

-- of a member that stands here, with these views and in this phase at boot
module _ (place : Place) (boot : List View) (begins : Joiner) where
  -- ---- what comes

  -- a node that is down is gone, where the known view of its troupe has it
  abbrev pub gone_from : Past → ℕ → ℕ → List Effect
  gone_from p node troupe =
      option_map_or
      (λ (v : View). if has_node v node then to_ring (nodes_declared_down p) (Gone troupe node) else [])
      (slice_get (views_known boot p) troupe) []

  abbrev pub gone_requests : Past → ℕ → List Effect
  gone_requests p node =
      option_map_or (λ hosted. option_map_or (gone_from p node) hosted [])
      (slice_get place.troupes node) []

  -- for what came last: Join as the member is told to join, the state requests as it is taken in,
  -- Active as it has a state, Gone at a declaration
  abbrev pub for_what_came : Past → List Effect
  for_what_came (followed p step comes.Joins) =
      to_ring (nodes_declared_down p) (Join place.troupe place.node)
  for_what_came (followed p step (comes.Told request table)) =
      if not (is_fetching (phase begins p))
      && is_fetching (phase begins (followed p step (comes.Told request table)))
      then state_requests place (nodes_declared_down p) table.view
      else []
  for_what_came (followed p step (comes.Restored state count)) =
      if is_fetching (phase begins p)
      then to_ring (nodes_declared_down p) (Active place.troupe place.node count)
      else []
  for_what_came (followed p step (comes.Declared node)) =
      gone_requests (followed p step (comes.Declared node)) node
  for_what_came _ = []

  -- ---- Lookups, by the record in the end

  module _ (kept : MemberRecord) where
    -- a call that comes behind a past is held: it is not of an older view than required, nor before
    -- the first call, and has no reply
    abbrev pub is_held : Past → HeldCall → Bool
    is_held p call =
        not (nat_lt call.header.server_incarnation (required_incarnation p))
        && not (is_before place.troupe begins kept call p)
        && is_none (reply_by place.troupe begins kept call p)

    -- the greatest incarnation that is wanted of a troupe: by the client incarnation of a call that
    -- was held, or by a Stale
    abbrev pub wanted_incarnation : ℕ → Past → ℕ
    wanted_incarnation troupe booted = 0
    wanted_incarnation troupe (followed p step (comes.Asked header body sender)) =
        if is_held p (record { header = header; body = body; sender = sender })
        && nat_eq troupe header.client
        then max (wanted_incarnation troupe p) header.client_incarnation
        else wanted_incarnation troupe p
    wanted_incarnation troupe (followed p step (comes.IsStale name server from incarnation)) =
        if nat_eq troupe server then max (wanted_incarnation troupe p) incarnation else wanted_incarnation troupe p
    wanted_incarnation troupe (followed p step _) = wanted_incarnation troupe p

    -- a view is to be looked up: it is below what is wanted, and no Lookup for it is unanswered
    abbrev pub is_due : (ℕ → Bool) → Past → ℕ → View → Bool
    is_due unanswered p troupe view =
        nat_lt view.incarnation (wanted_incarnation troupe p) && not (unanswered troupe)

    -- the troupes of which that holds, from this one on
    abbrev pub due_from : (ℕ → Bool) → Past → ℕ → List View → List ℕ
    due_from unanswered p troupe [] = []
    due_from unanswered p troupe (view ∷ views) =
        (if is_due unanswered p troupe view then troupe ∷ [] else [])
        ++ due_from unanswered p (troupe + 1) views

    abbrev pub due : (ℕ → Bool) → Past → List ℕ
    due unanswered p =
        if is_among (nodes_declared_down p) ringmaster then [] else due_from unanswered p 0 (views_known boot p)

    -- a Lookup for a troupe was made, and isn't answered
    abbrev pub is_unanswered : Past → ℕ → Bool
    is_unanswered booted troupe = false
    is_unanswered (followed p step o) troupe =
        is_among (due (λ t. is_unanswered p t && not (answers_lookup o t)) (followed p step o))
        troupe
        || (is_unanswered p troupe && not (answers_lookup o troupe))

    abbrev pub lookups : Past → List Effect
    lookups booted = []
    lookups (followed p step o) =
        map lookup_call
        (due (λ t. is_unanswered p t && not (answers_lookup o t)) (followed p step o))

    -- all of these calls, each with its step: in a step first those for what came, then the Lookups
    -- by troupe
    abbrev pub requests_owed : Past → List (ℕ × Effect)
    requests_owed booted = []
    requests_owed (followed p step o) =
        requests_owed p
        ++ map (λ (e : Effect). (step, e))
        (for_what_came (followed p step o) ++ lookups (followed p step o))
