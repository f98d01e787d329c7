-- A member knows as many views after a step as before.
use Rattle.std.proofs.Common.{◌≡◌, ℕ, zero, suc, Bool, true, false, List, [], ◌++◌, length, Option, Some, None, slice_get, refl, ap, ◌∙◌, if◌then◌else◌}
use Rattle.std.specs.Option.{option_map_or}
use Rattle.circus_value.specs.ValueTree.{ValueTree}
use Rattle.circus_value.specs.declared.outcome.Outcome.{Outcome}
use Rattle.circus_header.specs.declared.call.Request.{Request}
use Rattle.circus_header.specs.declared.answer.Reply.{Reply}
use Rattle.circus_collate.specs.declared.table.Table.{Table}
use Rattle.circus_collate.specs.declared.view.View.{View}
use Rattle.circus_collate.specs.declared.deployment.Deployment.{Deployment}
use Rattle.circus_ring.specs.RingTable.{boot_views}
use Rattle.circus_ring.proofs.Booting.{length_boot}
use Rattle.circus_gather.specs.Gathering as gathering
use Rattle.circus_gather.specs.declared.held.HeldCall.{HeldCall}
use Rattle.circus_fanout.specs.Knowing.{Knowing, at_boot}
use Rattle.circus_model.specs.NextTurn.{NextTurn}
use Rattle.circus_model.specs.declared.signature.Signature.{Signature}
use Rattle.circus_record.specs.declared.record.RunRecord.{RunRecord}
use Rattle.circus_record.specs.declared.record.AskRecord.{AskRecord}
use Rattle.circus_performing.specs.declared.start.RunStart.{RunStart}
use Rattle.circus_performing.specs.Performing as performing
use Rattle.circus_performing.specs.Performing.{open_ask, last_of, is_fetching, made_active}
use Rattle.circus_member_rules.specs.declared.occurrence.Occurrence.{Occurrence}
use Rattle.circus_member_rules.specs.declared.occurrence.Occurrence.TheVariants as comes
use Rattle.circus_member_rules.specs.declared.place.Place.{Place}
use Rattle.circus_member_rules.specs.declared.place.Beginning.{Beginning}
use Rattle.circus_member_rules.specs.MemberState.{MemberState, Doing, add_effects}
use Rattle.circus_member_rules.specs.Rules.{snapshots_owed, active_call, before_answers}
use Rattle.circus_member_rules.specs.Step.{name_of_last, asking_begun, with_record, opened_by_view, opened_ask, ended_run, is_idle, after_turns, given_states, value_of_open, next_start, start_of_call, main_start, answered_by, answered_open, enter_run_of, start_runs, execute, handle, handle_table, handle_state, step_member, before_any, performer_at_boot, starts_at_boot, boot_member}
use Rattle.circus_node.specs.Accepting.{IsMemberOf}
use Rattle.circus_member_rules.proofs.Homes.{told_as_many, ring_views, called_views, declared_views}

-- what holds of each case holds
by_option : {A B : Type 0} (P : B → Type 0) (f : A → B) (o : Option A) (d : B) → ((x : A) → P (f x)) → P d → P (option_map_or f o d)
by_option P f None d some none = none
by_option P f (Some x) d some none = some x

by_test : {B : Type 0} (P : B → Type 0) (b : Bool) (x y : B) → P x → P y → P (if b then x else y)
by_test P true x y one other = one
by_test P false x y one other = other

module _ {M : Type 0} where
  -- a step so far knows what it knew
  abbrev Knows : Knowing → Doing M → Type 0
  Knows k d = d.member.known ≡ k

  opened_knows : (d : Doing M) (run : RunRecord) (ask : AskRecord) → Knows d.member.known (opened_ask d run ask)
  opened_knows d run ask =
      let kept = d.member.performing.kept in
      let a = asking_begun d.member.place kept run ask in
      by_option (Knows d.member.known) (opened_by_view d (name_of_last kept) a) (slice_get d.member.known.views a.header.server) d (λ view. refl) refl

  turns_know : (d : Doing M) → Knows d.member.known (after_turns d)
  turns_know d =
      let kept = d.member.performing.kept in
      by_option (Knows d.member.known) (λ (run : RunRecord). option_map_or (opened_ask d run) (open_ask kept) (ended_run d run)) (last_of kept.runs) d
      (λ run. by_option (Knows d.member.known) (opened_ask d run) (open_ask kept) (ended_run d run) (opened_knows d run) refl)
      refl

  -- the states asked for are given
  abbrev with_given : Doing M → Doing M
  with_given d = let m = d.member in add_effects (record d { member = record m { requests = [] } }) (snapshots_owed m.performing.kept m.requests)

  states_know : (d : Doing M) → Knows d.member.known (given_states d)
  states_know d = by_test (Knows d.member.known) (is_idle d.member.performing.kept) (with_given d) d refl refl

  told_many : (m : MemberState M) (request : Request) (table : Table) → length (handle_table m request table).member.known.views ≡ length m.known.views
  told_many m request table = told_as_many _ table.view ∙ ap length (ring_views m.known request table.view.troupe)

  -- a member has the state that it fetched
  abbrev pub with_state : ℕ → MemberState M → List ValueTree → ℕ → Doing M
  with_state step m state count =
      record {
        member = record m { performing = made_active step state count m.performing; gathered = gathering.with_first m.gathered count };
        effects = active_call m.place m.known count ++ before_answers m.gathered count;
      }

  restored_many : (step : ℕ) (m : MemberState M) (state : List ValueTree) (count : ℕ) → length (handle_state step m state count).member.known.views ≡ length m.known.views
  restored_many step m state count =
      elim (is_fetching m.performing.kept.phase) as
      (λ b. length (if b then with_state step m state count else record { member = m; effects = [] }).member.known.views ≡ length m.known.views)
      [ true ↦ refl | false ↦ refl ]

  handled_many : (step : ℕ) (o : Occurrence) (m : MemberState M) → length (handle step o m).member.known.views ≡ length m.known.views
  handled_many step (comes.Asked header body sender) m = ap length (called_views (gathering.answer_to m.gathered header) header m.known)
  handled_many step (comes.Fetched incarnation sender) m = refl
  handled_many step (comes.Replied name from reply) m = refl
  handled_many step (comes.IsStale name server from incarnation) m = refl
  handled_many step (comes.IsBefore name from) m = refl
  handled_many step (comes.Told request table) m = told_many m request table
  handled_many step (comes.Restored state count) m = restored_many step m state count
  handled_many step (comes.Declared node) m = ap length (declared_views m.known node)
  handled_many step comes.Joins m = refl

module _ {M : Type 0} (declared : M → Signature) (turn : M → List ValueTree → ℕ → List ValueTree → List Outcome → NextTurn) where
  -- a run is entered, before its turns
  abbrev entering : ℕ → Doing M → RunStart → Doing M
  entering step d start =
      let p = d.member.performing in
      with_record (record d { member = record d.member { gathered = gathering.with_start d.member.gathered p.kept.count } })
      (performing.enter_run (turn p.hosted) step start p.kept)

  entered_knows : (step : ℕ) (d : Doing M) (start : RunStart) → Knows d.member.known (enter_run_of turn step d start)
  entered_knows step d start = turns_know (entering step d start)

  -- an ask is answered, before the turns of its run
  abbrev answering : ℕ → Doing M → Reply → Doing M
  answering step d reply =
      let p = d.member.performing in
      with_record d (performing.answer_open_ask (turn p.hosted) p.began step reply.outcome reply.clock p.kept)

  answered_knows : (step : ℕ) (d : Doing M) → Knows d.member.known (answered_open turn step d)
  answered_knows step d =
      by_option (Knows d.member.known) (answered_by turn step d) (value_of_open d.member) d (λ reply. turns_know (answering step d reply)) refl

  starting_knows : (step left : ℕ) (d : Doing M) → Knows d.member.known (start_runs declared turn step left d)
  unfolding start_runs
  starting_knows step zero d = states_know d
  starting_knows step (suc left) d =
      let e = given_states d in
      let start : HeldCall → RunStart = start_of_call declared turn e.member in
      by_option (Knows d.member.known) (λ (call : HeldCall). start_runs declared turn step left (enter_run_of turn step e (start call))) (next_start e.member) e
      (λ call. starting_knows step left (enter_run_of turn step e (start call)) ∙ entered_knows step e (start call) ∙ states_know d)
      (states_know d)

  pub executed_knows : (step : ℕ) (d : Doing M) → Knows d.member.known (execute declared turn step d)
  executed_knows step d =
      let e = answered_open turn step d in
      starting_knows step (length e.member.gathered.held) e ∙ answered_knows step d

  stepped_many : (step : ℕ) (o : Occurrence) (m : MemberState M) → length (step_member declared turn step o m).member.known.views ≡ length m.known.views
  stepped_many step o m = ap (λ (k : Knowing). length k.views) (executed_knows step (handle step o m)) ∙ handled_many step o m

  -- a member stays one of its deployment
  pub still_member : (step : ℕ) (o : Occurrence) (m n : MemberState M) (d : Deployment) → IsMemberOf d m → n ≡ (step_member declared turn step o m).member → IsMemberOf d n
  still_member step o m n d of is = record { views = ap (λ (x : MemberState M). length x.known.views) is ∙ stepped_many step o m ∙ of.views }

  -- a member knows the views that it boots with
  pub booted_knows : (first : M → List ValueTree) (place : Place) (views : List View) (beginning : Beginning) (hosted : M)
      → (boot_member declared turn first place views beginning hosted).member.known ≡ at_boot views
  booted_knows first place views beginning hosted =
      let d : Doing M = record { member = before_any declared turn place views (performer_at_boot first beginning hosted); effects = [] } in
      let start = main_start place.troupe views in
      by_test (Knows (at_boot views)) (starts_at_boot declared turn beginning hosted) (enter_run_of turn 0 d start) d (entered_knows 0 d start) refl

  booted_many : (first : M → List ValueTree) (place : Place) (views : List View) (beginning : Beginning) (hosted : M)
      → length (boot_member declared turn first place views beginning hosted).member.known.views ≡ length views
  booted_many first place views beginning hosted = ap (λ (k : Knowing). length k.views) (booted_knows first place views beginning hosted)

  -- a member that boots with the views that every node boots with is one of its deployment
  pub booted_of : (first : M → List ValueTree) (place : Place) (views : List View) (beginning : Beginning) (hosted : M) (n : MemberState M) (d : Deployment)
      → views ≡ boot_views d.troupes → n ≡ (boot_member declared turn first place views beginning hosted).member → IsMemberOf d n
  booted_of first place views beginning hosted n d same is =
      record {
        views = ap (λ (x : MemberState M). length x.known.views) is ∙ booted_many first place views beginning hosted ∙ ap (λ (vs : List View). length vs) same ∙ length_boot d.troupes;
      }
