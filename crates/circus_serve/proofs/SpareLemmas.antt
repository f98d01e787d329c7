-- Which nodes are told to join at boot.
use Rattle.std.proofs.Common.{◌≡◌, ℕ, Bool, true, false, if◌then◌else◌, List, [], slice_get, Option, None, Some, option_and_then, option_map, Ok, Err, refl, sym, ap, ◌∙◌}
use Rattle.std.specs.Option.{option_map_or}
use Rattle.circus_value.specs.Among.{is_among}
use Rattle.circus_value.specs.ValueTree.{ValueTree}
use Rattle.circus_value.specs.declared.outcome.Outcome.{Outcome}
use Rattle.circus_collate.specs.declared.deployment.Troupe.{Troupe}
use Rattle.circus_collate.specs.declared.deployment.Deployment.{Deployment}
use Rattle.circus_collate.specs.declared.view.View.{View}
use Rattle.circus_model.specs.NextTurn.{NextTurn}
use Rattle.circus_model.specs.declared.signature.Signature.{Signature}
use Rattle.circus_record.specs.declared.record.AskRecord.{AskRecord}
use Rattle.circus_record.specs.declared.record.RunRecord.{RunRecord}
use Rattle.circus_record.specs.declared.record.MemberRecord.{MemberRecord}
use Rattle.circus_performing.specs.Performing.{last_of, open_ask, enter_run}
use Rattle.circus_gather.specs.Gathering.{with_start}
use Rattle.circus_ring.specs.RingTable.{boot_views}
use Rattle.circus_member_rules.specs.declared.place.Place.{Place}
use Rattle.circus_member_rules.specs.declared.place.Beginning.{Beginning}
use Rattle.circus_member_rules.specs.declared.place.Beginning.TheVariants.{Founder, Spare}
use Rattle.circus_member_rules.specs.MemberState.{MemberState, Doing}
use Rattle.circus_member_rules.specs.Step as member_step
use Rattle.circus_node.specs.declared.event.Event.TheVariants.{Join}
use Rattle.circus_node.specs.declared.event.Give.{Give}
use Rattle.circus_node.specs.declared.event.Outputs.{Outputs}
use Rattle.circus_node.specs.NodeState.{Acting, NodeState, member_record}
use Rattle.circus_node.specs.Accepting.{troupe_at}
use Rattle.circus_node.specs.Sending.{Sending, sent, spent, all_handed}
use Rattle.circus_node.specs.Step as step
use Rattle.circus_node.specs.Booting.{home_of, home_in, beginning_in, made_at_boot, fresh_wire, boot_node}
use Rattle.circus_serve.specs.Serving.{on, is_outside, is_spare, at_boot, comes, begin_serving}

module _ {M : Type 0} (declared : M → Signature) (turn : M → List ValueTree → ℕ → List ValueTree → List Outcome → NextTurn) where
  -- it is told to join where it is a spare
  pub begun_so : (node : NodeState M) (gives : List Give) (is : Bool) → is_spare node ≡ is
      → begin_serving declared turn node gives ≡ (if is then comes declared turn Join (at_boot node gives) else on (at_boot node gives))
  begun_so node gives is same = ap (λ b. if b then comes declared turn Join (at_boot node gives) else on (at_boot node gives)) same

-- what stands outside its troupe, by what a node does
abbrev spare_by : {M : Type 0} → Acting M → Bool
spare_by acting = option_map_or (λ (kept : MemberRecord). is_outside kept.phase) (member_record acting) false

-- sending leaves what a node does
acting_stays : {M : Type 0} (n m : NodeState M) (came : _) (sending : Sending) (outputs : Outputs) → step.end_step n came sending ≡ Ok (m, outputs) → m.acting ≡ n.acting
acting_stays {M} n m came sending outputs is = sym (ap acting_in is) ∙ by_sending sending
  where
    acting_in : step.Ended M → Acting M
    acting_in (Ok ended) = ended.0.acting
    acting_in (Err node) = n.acting

    by_sending : (s : Sending) → acting_in (step.end_step n came s) ≡ n.acting
    by_sending (sent w gives) = refl
    by_sending (spent node) = refl

-- the phase of a member behind turns
phase_behind : {M : Type 0} (d : Doing M) → (member_step.after_turns d).member.performing.kept.phase ≡ d.member.performing.kept.phase
phase_behind d = by_last (last_of d.member.performing.kept.runs)
  where
    by_last : (last : Option RunRecord) → (option_map_or (λ (run : RunRecord). option_map_or (member_step.opened_ask d run) (open_ask d.member.performing.kept) (member_step.ended_run d run)) last d).member.performing.kept.phase
        ≡ d.member.performing.kept.phase
    by_last None = refl
    by_last (Some run) = by_ask (open_ask d.member.performing.kept)
      where
        by_ask : (ask : Option AskRecord) → (option_map_or (member_step.opened_ask d run) ask (member_step.ended_run d run)).member.performing.kept.phase ≡ d.member.performing.kept.phase
        by_ask None = refl
        by_ask (Some ask) =
            let kept = d.member.performing.kept in
            let a = member_step.asking_begun d.member.place kept run ask in
            by_view (slice_get d.member.known.views a.header.server)
          where
            by_view : (view : Option View) → let kept : MemberRecord = d.member.performing.kept in let a = member_step.asking_begun d.member.place kept run ask in (option_map_or (member_step.opened_by_view d (member_step.name_of_last kept) a) view d).member.performing.kept.phase ≡ d.member.performing.kept.phase
            by_view None = refl
            by_view (Some view) = refl

module _ {M : Type 0} (declared : M → Signature) (turn : M → List ValueTree → ℕ → List ValueTree → List Outcome → NextTurn) (first : M → List ValueTree) where
  -- a spare stands outside, and a founder does not
  abbrev at_boot_of : Place → List View → Beginning → M → MemberState M
  at_boot_of place views beginning hosted = (member_step.boot_member declared turn first place views beginning hosted).member

  founder_inside : (place : Place) (views : List View) (hosted : M) → is_outside (at_boot_of place views Founder hosted).performing.kept.phase ≡ false
  founder_inside place views hosted = by_root (declared hosted).root
    where
      by_root : (root : Bool) → let d : Doing M = record { member = member_step.before_any declared turn place views (member_step.performer_at_boot first Founder hosted); effects = [] } in
          is_outside (if root then member_step.enter_run_of turn 0 d (member_step.main_start place.troupe views) else d).member.performing.kept.phase ≡ false
      by_root true =
          let d : Doing M = record { member = member_step.before_any declared turn place views (member_step.performer_at_boot first Founder hosted); effects = [] } in
          let start = member_step.main_start place.troupe views in
          let p = d.member.performing in
          ap is_outside (phase_behind (member_step.with_record (record d { member = record d.member { gathered = with_start d.member.gathered p.kept.count } }) (enter_run (turn p.hosted) 0 start p.kept)))
      by_root false = refl

  -- which of them a node is at boot
  module _ (d : Deployment) (node : ℕ) where
    made_is : (hosted : Option M) (n : NodeState M) (outputs : Outputs) → boot_node declared turn first d hosted node ≡ Ok (n, outputs)
        → n.acting ≡ (made_at_boot declared turn first d (home_of d node) hosted).acting
    made_is hosted n outputs is =
        let made = made_at_boot declared turn first d (home_of d node) hosted in
        acting_stays (record { deployment = d; wire = fresh_wire d node; acting = made.acting; dropped = 0 }) n made.came (all_handed (sent (fresh_wire d node) []) made.came.effects) outputs is

    home_is : (number : ℕ) (troupe : Troupe) → troupe_at d node ≡ Some number → slice_get d.troupes number ≡ Some troupe → home_of d node ≡ Some (home_in d node number troupe)
    home_is number troupe at there =
        ap (option_and_then (λ k. option_map (home_in d node k) (slice_get d.troupes k))) at ∙ ap (option_map (home_in d node number)) there

    -- by the troupe that its member is of
    spare_at_boot : (hosted : M) (number : ℕ) (troupe : Troupe) (n : NodeState M) (outputs : Outputs) → boot_node declared turn first d (Some hosted) node ≡ Ok (n, outputs)
        → troupe_at d node ≡ Some number → slice_get d.troupes number ≡ Some troupe
        → is_spare n ≡ is_outside (at_boot_of (home_in d node number troupe).place (boot_views d.troupes) (beginning_in troupe node) hosted).performing.kept.phase
    spare_at_boot hosted number troupe n outputs is at there =
        ap spare_by (made_is (Some hosted) n outputs is) ∙ ap (λ home. spare_by (made_at_boot declared turn first d home (Some hosted)).acting) (home_is number troupe at there)

    pub begins_as_spare : (hosted : M) (number : ℕ) (troupe : Troupe) (n : NodeState M) (outputs : Outputs) → boot_node declared turn first d (Some hosted) node ≡ Ok (n, outputs)
        → troupe_at d node ≡ Some number → slice_get d.troupes number ≡ Some troupe → is_among troupe.founders node ≡ false
        → begin_serving declared turn n outputs.gives ≡ comes declared turn Join (at_boot n outputs.gives)
    begins_as_spare hosted number troupe n outputs is at there among =
        let place = (home_in d node number troupe).place in
        begun_so declared turn n outputs.gives true
        (spare_at_boot hosted number troupe n outputs is at there
        ∙ ap (λ f. is_outside (at_boot_of place (boot_views d.troupes) (if f then Founder else Spare) hosted).performing.kept.phase) among)

    pub begins_as_founder : (hosted : M) (number : ℕ) (troupe : Troupe) (n : NodeState M) (outputs : Outputs) → boot_node declared turn first d (Some hosted) node ≡ Ok (n, outputs)
        → troupe_at d node ≡ Some number → slice_get d.troupes number ≡ Some troupe → is_among troupe.founders node ≡ true
        → begin_serving declared turn n outputs.gives ≡ on (at_boot n outputs.gives)
    begins_as_founder hosted number troupe n outputs is at there among =
        let place = (home_in d node number troupe).place in
        begun_so declared turn n outputs.gives false
        (spare_at_boot hosted number troupe n outputs is at there
        ∙ ap (λ f. is_outside (at_boot_of place (boot_views d.troupes) (if f then Founder else Spare) hosted).performing.kept.phase) among
        ∙ founder_inside place (boot_views d.troupes) hosted)

    pub begins_as_ringmaster : (hosted : Option M) (n : NodeState M) (outputs : Outputs) → boot_node declared turn first d hosted node ≡ Ok (n, outputs)
        → troupe_at d node ≡ None → begin_serving declared turn n outputs.gives ≡ on (at_boot n outputs.gives)
    begins_as_ringmaster hosted n outputs is at =
        begun_so declared turn n outputs.gives false
        (ap spare_by (made_is hosted n outputs is)
        ∙ ap (λ number. spare_by (made_at_boot declared turn first d (option_and_then (λ k. option_map (home_in d node k) (slice_get d.troupes k)) number) hosted).acting) at)
