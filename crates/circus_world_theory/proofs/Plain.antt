-- The copies of a program of behaviours agree, as those of modules that behave so do.
use Rattle.std.proofs.Common.{◌≡◌, ℕ, true, List, map, Option, None, Some, refl, sym, ap, subst, ◌∙◌}
use Rattle.std.specs.Prelude.{slice_get, option_map}
use Rattle.std.proofs.lemmas.Option.{none-some, same_Some, slice_get-map}
use Rattle.circus_collate.specs.declared.deployment.Deployment.{Deployment}
use Rattle.circus_model.specs.Behaviour.{Behaviour}
use Rattle.circus_model.specs.Agree.{IsAt}
use Rattle.circus_model.specs.Execution.{history_of}
use Rattle.circus_record.specs.declared.record.MemberRecord.{MemberRecord}
use Rattle.circus_performing.specs.Performing.{is_active}
use Rattle.circus_node.specs.Accepting.{troupe_at}
use Rattle.circus_node.specs.NodeState.{member_record}
use Rattle.circus_schedule.specs.declared.line.Line.{Line}
use Rattle.circus_world.specs.WorldState.{WorldState, Standing}
use Rattle.circus_world.specs.Alike.{standing_as}
use Rattle.circus_member_theory.specs.Stands.{Stands}
use Rattle.circus_world_theory.specs.Worlds.{IsPlainWorldOf}
use Rattle.circus_world_theory.specs.Agreeing.{RecordsStand}
use Rattle.circus_world_theory.proofs.Theorem.{records_stand}
use Rattle.circus_world_theory.proofs.Lawful as lawful
use Rattle.circus_world_theory.proofs.Lawful.{Lawful, acting_recorded}

-- the records of a world are those of the world whose behaviours are seen
seen_stand : (d : Deployment) (p : List Behaviour) (w : WorldState Lawful) → RecordsStand p d w → RecordsStand p d (lawful.seen w)
seen_stand d p w stand = λ node troupe s kept b at is own at_program active. by_node node troupe s kept b (slice_get w.nodes node) refl
    (sym (slice_get-map (standing_as lawful.declared lawful.turn lawful.first) w.nodes node) ∙ at) is own at_program active
  where
    by_node : (node troupe : ℕ) (s : Standing Behaviour) (kept : MemberRecord) (b : Behaviour) (o : Option (Standing Lawful)) → slice_get w.nodes node ≡ o
        → option_map (standing_as lawful.declared lawful.turn lawful.first) o ≡ Some s → member_record s.node.acting ≡ Some kept → troupe_at d node ≡ Some troupe → IsAt p troupe b
        → is_active kept.phase ≡ true → Stands (history_of p) troupe b.first kept
    by_node node troupe s kept b None there at is own at_program active = absurd (none-some s at)
    by_node node troupe s kept b (Some t) there at is own at_program active =
        let same : standing_as lawful.declared lawful.turn lawful.first t ≡ s = same_Some _ _ at in
        stand node troupe t kept b there
        (sym (acting_recorded t.node.acting) ∙ ap (λ (v : Standing Behaviour). member_record v.node.acting) same ∙ is) own at_program active

pub plain_records_stand : (d : Deployment) (program : List Behaviour) (hosted : List (Option Behaviour)) (lines : List Line) (booted last : WorldState Behaviour)
    → IsPlainWorldOf d program hosted lines booted last → RecordsStand program d last
plain_records_stand d program hosted lines booted last world =
    let modules = lawful.modules d program hosted lines booted last world in
    let boots = lawful.boots d program hosted lines booted last world in
    let leads = lawful.leads d program hosted lines booted last world in
    subst (λ (l : List Behaviour). RecordsStand l d last) (lawful.modules_are d program hosted lines booted last world)
    (subst (λ (v : WorldState Behaviour). RecordsStand (map lawful.one modules) d v) leads.same
    (seen_stand d (map lawful.one modules) leads.world
    (records_stand lawful.declared lawful.turn lawful.first lawful.all_lawful d modules (lawful.own_hosted d program hosted lines booted last world) lines boots.world leads.world
    (lawful.lawful_world d program hosted lines booted last world))))
