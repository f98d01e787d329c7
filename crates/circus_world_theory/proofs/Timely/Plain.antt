-- Nothing that a member does comes late or early in a world of behaviours that keep to the laws of modules.
use Rattle.std.proofs.Common.{◌≡◌, ℕ, List, map, Option, None, Some, refl, sym, ap, subst, ◌∙◌}
use Rattle.std.specs.Prelude.{slice_get, option_map}
use Rattle.std.proofs.lemmas.Option.{none-some, same_Some, slice_get-map}
use Rattle.circus_collate.specs.declared.deployment.Deployment.{Deployment}
use Rattle.circus_collate.specs.declared.deployment.Troupe.{Troupe}
use Rattle.circus_ring.specs.RingTable.{boot_views}
use Rattle.circus_model.specs.Behaviour.{Behaviour}
use Rattle.circus_record.specs.declared.record.MemberRecord.{MemberRecord}
use Rattle.circus_member_rules.specs.declared.place.Beginning.{Beginning}
use Rattle.circus_member_rules.specs.declared.place.Beginning.TheVariants.{Founder, Spare}
use Rattle.circus_node.specs.Booting.{beginning_in, home_in}
use Rattle.circus_node.specs.NodeState.{member_record}
use Rattle.circus_schedule.specs.declared.line.Line.{Line}
use Rattle.circus_node.specs.Alike.{declared_of, turn_of}
use Rattle.circus_world.specs.WorldState.{WorldState, Standing}
use Rattle.circus_world.specs.Alike.{standing_as}
use Rattle.circus_member_theory.specs.Past.{Past, booted}
use Rattle.circus_member_theory.specs.Timely.{IsTimely}
use Rattle.circus_member_theory.specs.Living.{phase_at_boot, runs_at_boot}
use Rattle.circus_world_theory.specs.Worlds.{IsPlainWorldOf}
use Rattle.circus_world_theory.proofs.Lawful as lawful
use Rattle.circus_world_theory.proofs.Lawful.{Lawful, acting_recorded}
use Rattle.circus_world_theory.specs.Happened.{past_of, with_lines}
use Rattle.circus_world_theory.specs.InTime.{IsInTime, RecordsAreTimely}
use Rattle.circus_world_theory.proofs.Timely.PastsAlike.{pasts_as}
use Rattle.circus_world_theory.proofs.Timely.Worlds.{records_are_timely}

-- ---- what is seen of a lawful module

same_boots : (beginning : Beginning) (m : Lawful) → runs_at_boot lawful.declared beginning m ≡ runs_at_boot declared_of beginning (lawful.one m)
same_boots Founder m = refl
same_boots Spare m = refl

seen_in_time : (d : Deployment) (node number : ℕ) (troupe : Troupe) (own : Lawful) (b : Behaviour) (kept : MemberRecord) (p : Past) → lawful.one own ≡ b
    → IsInTime lawful.declared lawful.turn d node number troupe own kept p → IsInTime declared_of turn_of d node number troupe b kept p
seen_in_time d node number troupe own b kept p same is =
    subst (λ (x : Behaviour). IsInTime declared_of turn_of d node number troupe x kept p) same
    (subst (λ (many : ℕ). IsTimely (home_in d node number troupe).place (boot_views d.troupes) (phase_at_boot (beginning_in troupe node))
    (lawful.declared own).procedures many kept p)
    (same_boots (beginning_in troupe node) own) is)

-- what is seen at a place stands there
record IsThere {X Y : Type 0} (f : X → Y) (xs : List X) (place : ℕ) (y : Y) : Type 0 where
  x : X
  there : slice_get xs place ≡ Some x
  same : f x ≡ y

is_there : {X Y : Type 0} (f : X → Y) (xs : List X) (place : ℕ) (y : Y) → slice_get (map f xs) place ≡ Some y → IsThere f xs place y
is_there {X} {Y} f xs place y at = by_option (slice_get xs place) refl (sym (slice_get-map f xs place) ∙ at)
  where
    by_option : (o : Option X) → slice_get xs place ≡ o → option_map f o ≡ Some y → IsThere f xs place y
    by_option None there is = absurd (none-some y is)
    by_option (Some x) there is = record { x = x; there = there; same = same_Some _ _ is }

record IsOwn (o : Option Lawful) (b : Behaviour) : Type 0 where
  own : Lawful
  is : o ≡ Some own
  same : lawful.one own ≡ b

is_own : (o : Option Lawful) (b : Behaviour) → option_map lawful.one o ≡ Some b → IsOwn o b
is_own None b is = absurd (none-some b is)
is_own (Some own) b is = record { own = own; is = refl; same = same_Some _ _ is }

-- ---- a world of behaviours

pub plain_records_are_timely : (d : Deployment) (program : List Behaviour) (hosted : List (Option Behaviour)) (lines : List Line) (begun last : WorldState Behaviour)
    → IsPlainWorldOf d program hosted lines begun last → RecordsAreTimely declared_of turn_of d hosted lines begun last
plain_records_are_timely d program hosted lines begun last world node number troupe s own kept at hosts_it is_at there is =
    let boots = lawful.boots d program hosted lines begun last world in
    let leads = lawful.leads d program hosted lines begun last world in
    let own_hosted = lawful.own_hosted d program hosted lines begun last world in
    let h = is_there (option_map lawful.one) own_hosted node (Some own)
    (ap (λ (l : List (Option Behaviour)). slice_get l node) (lawful.hosted_are d program hosted lines begun last world) ∙ hosts_it) in
    let o = is_own h.x own h.same in
    let t = is_there (standing_as lawful.declared lawful.turn lawful.first) leads.world.nodes node s
    (ap (λ (w : WorldState Behaviour). slice_get w.nodes node) leads.same ∙ at) in
    let recorded = sym (acting_recorded t.x.node.acting) ∙ ap (λ (v : Standing Behaviour). member_record v.node.acting) t.same ∙ is in
    let in_time = records_are_timely lawful.declared lawful.turn lawful.first lawful.all_lawful d
    (lawful.modules d program hosted lines begun last world) own_hosted lines boots.world leads.world
    (lawful.lawful_world d program hosted lines begun last world) node number troupe t.x o.own kept t.there
    (h.there ∙ ap (λ (x : Option Lawful). Some x) o.is) is_at there recorded in
    let same_past = sym (pasts_as lawful.declared lawful.turn lawful.first node booted lines boots.world)
    ∙ ap (λ (w : WorldState Behaviour). with_lines declared_of turn_of node booted lines w) boots.same in
    subst (λ (p : Past). IsInTime declared_of turn_of d node number troupe own kept p) same_past
    (seen_in_time d node number troupe o.own own kept (past_of lawful.declared lawful.turn lines boots.world node) o.same in_time)
