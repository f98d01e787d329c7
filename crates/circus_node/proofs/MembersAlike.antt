-- A member takes the same steps with the behaviour of its module.
use Rattle.std.proofs.Common.{◌≡◌, ℕ, zero, suc, Bool, true, false, List, [], ◌++◌, length, Option, None, Some, refl, ◌∙◌, ap}
use Rattle.std.specs.Prelude.{if◌then◌else◌, slice_get}
use Rattle.std.specs.Option.{option_map_or}
use Rattle.circus_value.specs.ValueTree.{ValueTree}
use Rattle.circus_value.specs.declared.outcome.Outcome.{Outcome}
use Rattle.circus_collate.specs.declared.view.View.{View}
use Rattle.circus_record.specs.declared.record.AskRecord.{AskRecord}
use Rattle.circus_record.specs.declared.record.RunRecord.{RunRecord}
use Rattle.circus_model.specs.NextTurn.{NextTurn}
use Rattle.circus_model.specs.Behaviour.{Behaviour}
use Rattle.circus_model.specs.declared.signature.Signature.{Signature}
use Rattle.circus_gather.specs.Gathering as gathering
use Rattle.circus_performing.specs.declared.start.RunStart.{RunStart}
use Rattle.circus_performing.specs.Performing as performing
use Rattle.circus_performing.specs.Performing.{open_ask, last_of, is_fetching}
use Rattle.circus_performing.specs.Record.{behaviour}
use Rattle.circus_member_rules.specs.declared.place.Place.{Place}
use Rattle.circus_member_rules.specs.declared.place.Beginning.{Beginning}
use Rattle.circus_member_rules.specs.declared.place.Beginning.TheVariants.{Founder, Spare}
use Rattle.circus_member_rules.specs.declared.occurrence.Occurrence.{Occurrence}
use Rattle.circus_member_rules.specs.declared.occurrence.Occurrence.TheVariants as comes
use Rattle.circus_member_rules.specs.MemberState.{MemberState, Doing, add_effects}
use Rattle.circus_member_rules.specs.Rules as rules
use Rattle.circus_member_rules.specs.Step as step
use Rattle.circus_member_rules.specs.Step.{start_runs}
use Rattle.circus_node.specs.Alike.{declared_of, turn_of, first_of, member_as, doing_as}

module _ {M : Type 0} (declared : M → Signature) (turn : M → List ValueTree → ℕ → List ValueTree → List Outcome → NextTurn) (first : M → List ValueTree) where
  abbrev seen : Doing M → Doing Behaviour
  seen d = doing_as declared turn first d

  -- ---- choices

  by_option : {X : Type 0} (o : Option X) (f : X → Doing M) (g : X → Doing Behaviour) (d : Doing M) (e : Doing Behaviour)
      → ((x : X) → seen (f x) ≡ g x) → seen d ≡ e → seen (option_map_or f o d) ≡ option_map_or g o e
  by_option None f g d e each same = same
  by_option (Some x) f g d e each same = each x

  by_test : (b : Bool) (d other : Doing M) (e also : Doing Behaviour) → seen d ≡ e → seen other ≡ also → seen (if b then d else other) ≡ if b then e else also
  by_test true d other e also same others = same
  by_test false d other e also same others = others

  -- ---- the execution

  opened_ask_as : (d : Doing M) (run : RunRecord) (ask : AskRecord) → seen (step.opened_ask d run ask) ≡ step.opened_ask (seen d) run ask
  opened_ask_as d run ask =
      let name = step.name_of_last d.member.performing.kept in
      let a = step.asking_begun d.member.place d.member.performing.kept run ask in
      by_option (slice_get d.member.known.views a.header.server) (step.opened_by_view d name a) (step.opened_by_view (seen d) name a) d (seen d) (λ view. refl) refl

  after_turns_as : (d : Doing M) → seen (step.after_turns d) ≡ step.after_turns (seen d)
  after_turns_as d =
      let asked = open_ask d.member.performing.kept in
      by_option (last_of d.member.performing.kept.runs)
      (λ (run : RunRecord). option_map_or (step.opened_ask d run) asked (step.ended_run d run))
      (λ (run : RunRecord). option_map_or (step.opened_ask (seen d) run) asked (step.ended_run (seen d) run)) d (seen d)
      (λ run. by_option asked (step.opened_ask d run) (step.opened_ask (seen d) run) (step.ended_run d run) (step.ended_run (seen d) run) (λ ask. opened_ask_as d run ask) refl)
      refl

  -- those that asked for its state are given it
  abbrev with_states_given : {X : Type 0} → Doing X → Doing X
  with_states_given x = add_effects (record x { member = record x.member { requests = [] } }) (rules.snapshots_owed x.member.performing.kept x.member.requests)

  given_states_as : (d : Doing M) → seen (step.given_states d) ≡ step.given_states (seen d)
  given_states_as d = by_test (step.is_idle d.member.performing.kept) (with_states_given d) d (with_states_given (seen d)) (seen d) refl refl

  answered_open_as : (at : ℕ) (d : Doing M) → seen (step.answered_open turn at d) ≡ step.answered_open turn_of at (seen d)
  answered_open_as at d =
      by_option (step.value_of_open d.member) (step.answered_by turn at d) (step.answered_by turn_of at (seen d)) d (seen d)
      (λ reply. after_turns_as (step.with_record d (performing.answer_open_ask (turn d.member.performing.hosted) d.member.performing.began at reply.outcome reply.clock d.member.performing.kept)))
      refl

  pub entered_as : (at : ℕ) (d : Doing M) (start : RunStart) → seen (step.enter_run_of turn at d start) ≡ step.enter_run_of turn_of at (seen d) start
  entered_as at d start =
      let p = d.member.performing in
      after_turns_as (step.with_record (record d { member = record d.member { gathered = gathering.with_start d.member.gathered p.kept.count } }) (performing.enter_run (turn p.hosted) at start p.kept))

  starting_as : (at left : ℕ) (d : Doing M) → seen (start_runs declared turn at left d) ≡ start_runs declared_of turn_of at left (seen d)
  unfolding start_runs
  starting_as at zero d = given_states_as d
  starting_as at (suc left) d =
      let e : Doing M = step.given_states d in
      let then_more : Doing Behaviour → Doing Behaviour = λ x.
      option_map_or (λ call. start_runs declared_of turn_of at left (step.enter_run_of turn_of at x (step.start_of_call declared_of turn_of x.member call))) (step.next_start x.member) x in
      by_option (step.next_start e.member)
      (λ call. start_runs declared turn at left (step.enter_run_of turn at e (step.start_of_call declared turn e.member call)))
      (λ call. start_runs declared_of turn_of at left (step.enter_run_of turn_of at (seen e) (step.start_of_call declared_of turn_of (seen e).member call))) e (seen e)
      (λ call. starting_as at left (step.enter_run_of turn at e (step.start_of_call declared turn e.member call))
      ∙ ap (start_runs declared_of turn_of at left) (entered_as at e (step.start_of_call declared turn e.member call)))
      refl
      ∙ ap then_more (given_states_as d)

  executed_as : (at : ℕ) (d : Doing M) → seen (step.execute declared turn at d) ≡ step.execute declared_of turn_of at (seen d)
  executed_as at d =
      let e : Doing M = step.answered_open turn at d in
      starting_as at (length e.member.gathered.held) e
      ∙ ap (λ (x : Doing Behaviour). start_runs declared_of turn_of at (length x.member.gathered.held) x) (answered_open_as at d)

  -- ---- a step

  -- one that fetches a state has it
  abbrev with_state : {X : Type 0} → ℕ → List ValueTree → ℕ → MemberState X → Doing X
  with_state at state count x =
      record {
        member = record x { performing = performing.made_active at state count x.performing; gathered = gathering.with_first x.gathered count };
        effects = rules.active_call x.place x.known count ++ rules.before_answers x.gathered count;
      }

  restored_as : (at : ℕ) (m : MemberState M) (state : List ValueTree) (count : ℕ) → seen (step.handle_state at m state count) ≡ step.handle_state at (member_as declared turn first m) state count
  restored_as at m state count =
      by_test (is_fetching m.performing.kept.phase) (with_state at state count m) (record { member = m; effects = [] })
      (with_state at state count (member_as declared turn first m)) (record { member = member_as declared turn first m; effects = [] }) refl refl

  handled_as : (at : ℕ) (o : Occurrence) (m : MemberState M) → seen (step.handle at o m) ≡ step.handle at o (member_as declared turn first m)
  handled_as at (comes.Asked header body sender) m = refl
  handled_as at (comes.Fetched incarnation sender) m = refl
  handled_as at (comes.Replied name from reply) m = refl
  handled_as at (comes.IsStale name server from incarnation) m = refl
  handled_as at (comes.IsBefore name from) m = refl
  handled_as at (comes.Told request table) m = refl
  handled_as at (comes.Restored state count) m = restored_as at m state count
  handled_as at (comes.Declared node) m = refl
  handled_as at comes.Joins m = refl

  pub stepped_as : (at : ℕ) (o : Occurrence) (m : MemberState M) → seen (step.step_member declared turn at o m) ≡ step.step_member declared_of turn_of at o (member_as declared turn first m)
  stepped_as at o m =
      ap (λ (d : Doing Behaviour). step.look_up (step.keep_ask_open d))
      (executed_as at (step.handle at o m) ∙ ap (step.execute declared_of turn_of at) (handled_as at o m))

  pub difference_as : (o : Occurrence) (m : MemberState M) → step.difference o (member_as declared turn first m) ≡ step.difference o m
  difference_as (comes.Asked header body sender) m = refl
  difference_as (comes.Fetched incarnation sender) m = refl
  difference_as (comes.Replied name from reply) m = refl
  difference_as (comes.IsStale name server from incarnation) m = refl
  difference_as (comes.IsBefore name from) m = refl
  difference_as (comes.Told request table) m = refl
  difference_as (comes.Restored state count) m = refl
  difference_as (comes.Declared node) m = refl
  difference_as comes.Joins m = refl

  -- ---- at boot

  pub booted_as : (place : Place) (views : List View) (beginning : Beginning) (hosted : M)
      → seen (step.boot_member declared turn first place views beginning hosted)
      ≡ step.boot_member declared_of turn_of first_of place views beginning (behaviour declared turn first hosted)
  booted_as place views Founder hosted =
      let d : Doing M = record { member = step.before_any declared turn place views (performing.founder hosted (first hosted)); effects = [] } in
      let start = step.main_start place.troupe views in
      by_test (declared hosted).root (step.enter_run_of turn 0 d start) d (step.enter_run_of turn_of 0 (seen d) start) (seen d) (entered_as 0 d start) refl
  booted_as place views Spare hosted = refl
