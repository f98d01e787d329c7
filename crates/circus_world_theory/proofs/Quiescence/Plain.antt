-- What holds where nothing is lost of a program of behaviours, as of modules that behave so.
use Rattle.std.proofs.Common.{◌≡◌, ℕ, ◌*◌, ◌≤◌, true, List, [], ◌∷◌, length, map, All, Option, None, Some, refl, sym, ap, subst, ◌∙◌}
use Rattle.std.specs.Prelude.{slice_get, option_map}
use Rattle.std.proofs.lemmas.Option.{none-some, same_Some, slice_get-map}
use Rattle.circus_value.specs.Among.{is_among}
use Rattle.circus_collate.specs.declared.deployment.Deployment.{Deployment}
use Rattle.circus_collate.specs.declared.deployment.Troupe.{Troupe}
use Rattle.circus_model.specs.Behaviour.{Behaviour}
use Rattle.circus_model.specs.Execution.{history_of}
use Rattle.circus_model.specs.declared.signature.Signature.{Signature}
use Rattle.circus_record.specs.declared.record.MemberRecord.{MemberRecord}
use Rattle.circus_node.specs.Accepting.{is_root}
use Rattle.circus_node.specs.NodeState.{member_record}
use Rattle.circus_node.specs.Alike.{declared_of}
use Rattle.circus_schedule.specs.declared.line.Line.{Line}
use Rattle.circus_world.specs.WorldState.{WorldState, Standing}
use Rattle.circus_world.specs.Alike.{standing_as}
use Rattle.circus_world_theory.specs.Worlds.{IsPlainWorldOf}
use Rattle.circus_world_theory.proofs.Lawful as lawful
use Rattle.circus_world_theory.proofs.Lawful.{Lawful, acting_recorded}
use Rattle.circus_world_theory.specs.Done.{AskEnough, IsDone, RootsAreDone}
use Rattle.circus_world_theory.specs.Enough.{AreOnce, all_segments}
use Rattle.circus_world_theory.specs.Quiet.{IsDelivery, IsQuiet}
use Rattle.circus_world_theory.proofs.Quiescence.Bounding.{few_sent}
use Rattle.circus_world_theory.proofs.Quiescence.Finally.{roots_are_done}

-- what a world's nodes have done is what those of the world have whose behaviours are seen
seen_done : (d : Deployment) (w : WorldState Lawful) → RootsAreDone d w → RootsAreDone d (lawful.seen w)
seen_done d w done = λ node troupe t s kept root there among at is. by_node node troupe t s kept (slice_get w.nodes node) refl
    root there among (sym (slice_get-map (standing_as lawful.declared lawful.turn lawful.first) w.nodes node) ∙ at) is
  where
    by_node : (node troupe : ℕ) (t : Troupe) (s : Standing Behaviour) (kept : MemberRecord) (o : Option (Standing Lawful)) → slice_get w.nodes node ≡ o
        → is_root d troupe ≡ true → slice_get d.troupes troupe ≡ Some t → is_among t.founders node ≡ true
        → option_map (standing_as lawful.declared lawful.turn lawful.first) o ≡ Some s → member_record s.node.acting ≡ Some kept → IsDone kept
    by_node node troupe t s kept None found root there among at is = absurd (none-some s at)
    by_node node troupe t s kept (Some v) found root there among at is =
        let same : standing_as lawful.declared lawful.turn lawful.first v ≡ s = same_Some _ _ at in
        done node troupe t v kept root there among found
        (sym (acting_recorded v.node.acting) ∙ ap (λ (x : Standing Behaviour). member_record x.node.acting) same ∙ is)

-- what modules declare is what their behaviours do
declared_same : (modules : List Lawful) → map declared_of (map lawful.one modules) ≡ map lawful.declared modules
declared_same [] = refl
declared_same (m ∷ modules) = ap (λ l. lawful.declared m ∷ l) (declared_same modules)

unseen_quiet : (w : WorldState Lawful) (lines : List Line) → IsQuiet (lawful.seen w) lines → IsQuiet w lines
unseen_quiet w lines quiet = record { alone = quiet.alone; each = quiet.each }

module _ (d : Deployment) (program : List Behaviour) (hosted : List (Option Behaviour)) (lines : List Line) (booted last : WorldState Behaviour)
    (world : IsPlainWorldOf d program hosted lines booted last) where
  pub plain_roots_are_done : IsQuiet last lines → AskEnough d (map declared_of program) → RootsAreDone d last
  plain_roots_are_done quiet enough =
      let modules = lawful.modules d program hosted lines booted last world in
      let boots = lawful.boots d program hosted lines booted last world in
      let leads = lawful.leads d program hosted lines booted last world in
      let are = lawful.modules_are d program hosted lines booted last world in
      subst (λ (v : WorldState Behaviour). RootsAreDone d v) leads.same
      (seen_done d leads.world
      (roots_are_done lawful.declared lawful.turn lawful.first lawful.all_lawful d modules (lawful.own_hosted d program hosted lines booted last world) lines boots.world leads.world
      (lawful.lawful_world d program hosted lines booted last world)
      (unseen_quiet leads.world lines (subst (λ (v : WorldState Behaviour). IsQuiet v lines) (sym leads.same) quiet))
      (subst (λ (l : List Signature). AskEnough d l) (ap (map declared_of) (sym are) ∙ declared_same modules) enough)))

  pub plain_few_sent : All IsDelivery lines → AreOnce lines → length last.sent ≤ 2 * all_segments d (history_of program)
  plain_few_sent alone once =
      let modules = lawful.modules d program hosted lines booted last world in
      let boots = lawful.boots d program hosted lines booted last world in
      let leads = lawful.leads d program hosted lines booted last world in
      subst (λ (l : List Behaviour). length last.sent ≤ 2 * all_segments d (history_of l)) (lawful.modules_are d program hosted lines booted last world)
      (subst (λ (v : WorldState Behaviour). length v.sent ≤ 2 * all_segments d (history_of (map lawful.one modules))) leads.same
      (few_sent lawful.declared lawful.turn lawful.first lawful.all_lawful d modules (lawful.own_hosted d program hosted lines booted last world) lines boots.world leads.world
      (lawful.lawful_world d program hosted lines booted last world) alone once))
