-- The calls of a member's asks: which are open, and to whom a call of one is made, first or again.
use Rattle.std.specs.Prelude.{ℕ, ◌+◌, Bool, false, not, ◌&&◌, nat_eq, nat_le, if◌then◌else◌, List, [], ◌∷◌, ◌++◌, map, filter, fold, unwrap_or}
use Rattle.std.specs.List.{flat_map, list_any}
use Rattle.std.specs.Option.{option_map_or}
use Rattle.circus_external.specs.Spelling.{spelling_of_all}
use Rattle.circus_collate.specs.declared.view.View.{View}
use Rattle.circus_model.specs.Execution.{is_spent}
use Rattle.circus_record.specs.declared.record.AskRecord.{AskRecord}
use Rattle.circus_record.specs.declared.record.MemberRecord.{MemberRecord}
use Rattle.circus_record.specs.declared.record.RunRecord.{RunRecord}
use Rattle.circus_fanout.specs.Knowing.{Knowing}
use Rattle.circus_fanout.specs.Asking.{Asking, begin_asking, calls_for_a_view, with_view, with_reply, with_before}
use Rattle.circus_member_rules.specs.declared.place.Place.{Place}
use Rattle.circus_member_rules.specs.declared.occurrence.AskName.{AskName}
use Rattle.circus_member_rules.specs.declared.occurrence.Effect.{Effect}
use Rattle.circus_member_rules.specs.declared.occurrence.Effect.TheVariants as made
use Rattle.circus_member_rules.specs.declared.occurrence.Occurrence.TheVariants as comes
use Rattle.circus_member_rules.specs.OpenAsks.{is_name, asking_of, with_ask, with_asking}
use Rattle.circus_member_rules.specs.Rules.{by_view, calls_of_ask, after_stale, call_again, calls_for_a_new_view, with_new_view, stays_open}
use Rattle.circus_member_theory.specs.Past.{Past, booted, followed, now, views_known, nodes_declared_down, is_newer}
use Rattle.circus_member_theory.specs.Requests.{is_no_ask}

-- it is a call of an ask
abbrev pub is_of_ask : Effect → Bool
is_of_ask (made.Call to message purpose) = not (is_no_ask purpose)
is_of_ask (made.Answer caller message) = false

-- an ask was made in the last step of a past
abbrev pub is_new : Past → AskRecord → Bool
is_new p ask = nat_eq ask.asked (now p)

-- it was made by then, and has no answer yet
abbrev pub is_waiting : Past → AskRecord → Bool
is_waiting p ask =
    nat_le ask.asked (now p)
    && not (option_map_or (λ step. nat_le step (now p)) ask.answered false)

-- ---- the asks of a record, of a member that stands here

module _ (place : Place) where
  -- an ask by its name as it is made, in a run with this index, root and path, at this clock: it
  -- was sent to nobody
  abbrev pub as_made : ℕ → ℕ → List ℕ → ℕ → List ℕ → AskRecord → AskName × Asking
  as_made index root path number clock ask = (
    record { run = index; ask = number },
    begin_asking
        (record {
          root = root;
          path = path ++ number ∷ [];
          client = place.troupe;
          client_incarnation = 0;
          client_index = index;
          server = ask.callee;
          server_incarnation = 0;
          procedure = ask.procedure;
          clock = clock;
        })
        (spelling_of_all ask.arguments)
        place.replies,
  )

  -- those that pass a test, of a run, from an ask with this number on, made at this clock; a thread
  -- that is spent makes no call
  abbrev pub asks_from : (AskRecord → Bool) → ℕ → ℕ → List ℕ → ℕ → List ℕ → List AskRecord
      → List (AskName × Asking)
  asks_from test index root path number clock [] = []
  asks_from test index root path number clock (ask ∷ asks) =
      (if test ask && not (is_spent clock)
      then as_made index root path number clock ask ∷ []
      else [])
      ++ asks_from test index root path (number + 1) (unwrap_or ask.after clock) asks

  -- of runs, the first of this index
  abbrev pub asks_of : (AskRecord → Bool) → ℕ → List RunRecord → List (AskName × Asking)
  asks_of test index [] = []
  asks_of test index (run ∷ runs) =
      asks_from test index run.root run.path 0 run.entry run.asks
      ++ asks_of test (index + 1) runs

  -- ---- calls, by the views at boot

  module _ (boot : List View) where
    -- what is known at the end of a past
    abbrev pub knows : Past → Knowing
    knows p = record { views = views_known boot p; down = nodes_declared_down p; wants = [] }

    -- an ask is opened, and sent to each entry of its server's view that isn't down
    abbrev pub opened_one : Knowing → List (AskName × Asking) → AskName × Asking
        → List (AskName × Asking)
    opened_one k asks e = by_view k e.1 (λ view. with_ask asks e.0 (with_view view k.down e.1)) asks

    abbrev pub first_calls : Knowing → AskName × Asking → List Effect
    first_calls k e =
        by_view k e.1 (λ view. calls_of_ask k e.0 e.1 (calls_for_a_view view k.down [])) []

    -- what became of open asks by what came last: a reply, that it is before the first call, a
    -- Stale, or a newer view
    abbrev pub asks_behind : Past → List (AskName × Asking) → List (AskName × Asking)
    asks_behind (followed p step (comes.Replied name from reply)) asks =
        with_asking name (with_reply from reply) asks
    asks_behind (followed p step (comes.IsBefore name from)) asks =
        with_asking name (with_before from) asks
    asks_behind (followed p step (comes.IsStale name server from incarnation)) asks =
        with_asking name
        (after_stale (knows (followed p step (comes.IsStale name server from incarnation))) from
        incarnation) asks
    asks_behind (followed p step (comes.Told request table)) asks =
        if is_newer (views_known boot p) table.view
        then with_new_view (knows (followed p step (comes.Told request table))) table.view asks
        else asks
    asks_behind _ asks = asks

    -- the calls of them that this makes: again to a node whose Stale the known view satisfies, or
    -- as a newer view makes due
    abbrev pub calls_behind : Past → List (AskName × Asking) → List Effect
    calls_behind (followed p step (comes.IsStale name server from incarnation)) asks =
        option_map_or
        (call_again (knows (followed p step (comes.IsStale name server from incarnation))) name
        from incarnation)
        (asking_of asks name) []
    calls_behind (followed p step (comes.Told request table)) asks =
        if is_newer (views_known boot p) table.view
        then calls_for_a_new_view (knows (followed p step (comes.Told request table)))
        table.view asks
        else []
    calls_behind _ asks = []

    -- ---- by the record in the end

    module _ (kept : MemberRecord) where
      -- the asks that were made in the last step
      abbrev pub new_asks : Past → List (AskName × Asking)
      new_asks p = asks_of (is_new p) kept.from kept.runs

      -- the ask of a name waits for its answer
      abbrev pub waits_then : Past → AskName → Bool
      waits_then p name =
          list_any (λ (e : AskName × Asking). is_name e.0 name)
          (asks_of (is_waiting p) kept.from kept.runs)

      -- the open asks in the order of asking: one is closed once it is answered and each entry of
      -- its server's view has answered or is down
      abbrev pub open_asks : Past → List (AskName × Asking)
      open_asks booted = fold (opened_one (knows booted)) [] (new_asks booted)
      open_asks (followed p step o) =
          filter (stays_open (knows (followed p step o)) (waits_then (followed p step o)))
          (fold (opened_one (knows (followed p step o)))
          (asks_behind (followed p step o) (open_asks p)) (new_asks (followed p step o)))

      -- all calls of asks, each with its step: in a step first those for what came, then those of
      -- the asks that were made in it
      abbrev pub calls_owed : Past → List (ℕ × Effect)
      calls_owed booted =
          map (λ (e : Effect). (0, e))
          (flat_map (first_calls (knows booted)) (new_asks booted))
      calls_owed (followed p step o) =
          calls_owed p
          ++ map (λ (e : Effect). (step, e))
          (calls_behind (followed p step o) (open_asks p)
          ++ flat_map (first_calls (knows (followed p step o))) (new_asks (followed p step o)))
