-- A world of behaviours that keep to the laws of modules is one of lawful modules, seen as behaviours.
use Rattle.std.proofs.Common.{◌≡◌, ℕ, suc, List, [], ◌∷◌, length, map, Option, None, Some, Ok, Err, refl, sym, ap, subst, ◌∙◌}
use Rattle.std.specs.Prelude.{slice_get, option_map, option_and_then}
use Rattle.std.proofs.lemmas.List.{length-map}
use Rattle.std.proofs.lemmas.Option.{none-some, slice_get-map}
use Rattle.circus_value.specs.ValueTree.{ValueTree}
use Rattle.circus_value.specs.declared.outcome.Outcome.{Outcome}
use Rattle.circus_collate.specs.declared.deployment.Deployment.{Deployment}
use Rattle.circus_model.specs.NextTurn.{NextTurn}
use Rattle.circus_model.specs.Behaviour.{Behaviour, IsModule}
use Rattle.circus_model.specs.Agree.{AreModules, Agree}
use Rattle.circus_model.specs.declared.signature.Signature.{Signature}
use Rattle.circus_performing.specs.Record.{behaviour}
use Rattle.circus_node.specs.Accepting.{troupe_at}
use Rattle.circus_node.specs.Booting.{AreOfTroupes}
use Rattle.circus_node.specs.NodeState.{Acting, member, ringmaster, member_record}
use Rattle.circus_schedule.specs.declared.line.Line.{Line}
use Rattle.circus_schedule.specs.Meaning.{NamesBelow}
use Rattle.circus_node.specs.Alike.{declared_of, turn_of, first_of, acting_as}
use Rattle.circus_world.specs.WorldState.{WorldState}
use Rattle.circus_world.specs.Alike.{standing_as, world_as, step_as}
use Rattle.circus_world.specs.Course.{Stepped, step_line}
use Rattle.circus_world.specs.Boot.{before_any, all_booted, AreHosted}
use Rattle.circus_world.specs.Lines.{Lead}
use Rattle.circus_world.proofs.WorldsAlike.{refusal_as, world_stepped_as, all_booted_as}
use Rattle.circus_world_theory.specs.Worlds.{IsWorldOf, IsPlainWorldOf}

-- ---- behaviours that keep to the laws of modules

pub record Lawful : Type 0 where
  pub behaves : Behaviour
  pub is : IsModule behaves

abbrev pub declared : Lawful → Signature
declared m = m.behaves.declared

abbrev pub turn : Lawful → List ValueTree → ℕ → List ValueTree → List Outcome → NextTurn
turn m = m.behaves.turn

abbrev pub first : Lawful → List ValueTree
first m = m.behaves.first

abbrev pub one : Lawful → Behaviour
one m = behaviour declared turn first m

pub all_lawful : (m : Lawful) → IsModule (one m)
all_lawful m = m.is

-- ---- lists of them

pub lifted : (program : List Behaviour) → AreModules program → List Lawful
lifted [] are = []
lifted (b ∷ program) are = record { behaves = b; is = are 0 b refl } ∷ lifted program (λ place other at. are (suc place) other at)

pub lifted_is : (program : List Behaviour) (are : AreModules program) → map one (lifted program are) ≡ program
unfolding lifted
lifted_is [] are = refl
lifted_is (b ∷ program) are = ap (λ l. b ∷ l) (lifted_is program (λ place other at. are (suc place) other at))

abbrev AreLawful : List (Option Behaviour) → Type 0
AreLawful hosted = (node : ℕ) (b : Behaviour) → slice_get hosted node ≡ Some (Some b) → IsModule b

lifted_one : (own : Option Behaviour) → ((b : Behaviour) → own ≡ Some b → IsModule b) → Option Lawful
lifted_one None is = None
lifted_one (Some b) is = Some (record { behaves = b; is = is b refl })

one_is : (own : Option Behaviour) (is : (b : Behaviour) → own ≡ Some b → IsModule b) → option_map one (lifted_one own is) ≡ own
unfolding lifted_one
one_is None is = refl
one_is (Some b) is = refl

lifted_all : (hosted : List (Option Behaviour)) → AreLawful hosted → List (Option Lawful)
lifted_all [] are = []
lifted_all (own ∷ hosted) are = lifted_one own (λ b is. are 0 b (ap (λ (o : Option Behaviour). Some o) is)) ∷ lifted_all hosted (λ node b at. are (suc node) b at)

all_is : (hosted : List (Option Behaviour)) (are : AreLawful hosted) → map (option_map one) (lifted_all hosted are) ≡ hosted
unfolding lifted_all
all_is [] are = refl
all_is (own ∷ hosted) are =
    (λ i. one_is own (λ b is. are 0 b (ap (λ (o : Option Behaviour). Some o) is)) i ∷ all_is hosted (λ node b at. are (suc node) b at) i)

pub declared_are : (modules : List Lawful) → map declared modules ≡ map declared_of (map one modules)
declared_are [] = refl
declared_are (m ∷ modules) = ap (λ l. declared m ∷ l) (declared_are modules)

same_option : (o : Option Behaviour) → option_map (behaviour declared_of turn_of first_of) o ≡ o
same_option None = refl
same_option (Some b) = refl

module_at : (program : List Behaviour) (modules : List Lawful) → map one modules ≡ program → (o : Option ℕ)
    → option_map one (option_and_then (slice_get modules) o) ≡ option_and_then (slice_get program) o
module_at program modules is None = refl
module_at program modules is (Some troupe) = sym (slice_get-map one modules troupe) ∙ ap (λ (l : List Behaviour). slice_get l troupe) is

-- ---- worlds

abbrev pub seen : WorldState Lawful → WorldState Behaviour
seen w = world_as declared turn first w

-- what a step of behaviours comes to, one of modules that behave so comes to
pub record Lifts (s : Stepped Lawful) (next : WorldState Behaviour) : Type 0 where
  pub world : WorldState Lawful
  pub is : s ≡ Ok world
  pub same : seen world ≡ next

lifts : (s : Stepped Lawful) (next : WorldState Behaviour) → step_as declared turn first s ≡ Ok next → Lifts s next
lifts (Ok world) next is = record { world = world; is = refl; same = (let same : seen world ≡ next = cc in same) }
lifts (Err spent) next is = absurd (let clash : ◌≡◌ {A = Stepped Behaviour} (Err spent) (Ok next) = is in cc)

-- where lines lead
pub record LiftsLead (lines : List Line) (w : WorldState Lawful) (last : WorldState Behaviour) : Type 0 where
  pub world : WorldState Lawful
  pub leads : Lead declared turn lines w world
  pub same : seen world ≡ last

lifts_lead : (lines : List Line) (w : WorldState Lawful) (last : WorldState Behaviour) → Lead declared_of turn_of lines (seen w) last → LiftsLead lines w last
lifts_lead [] w last lead = record { world = w; leads = refl; same = sym lead }
lifts_lead (line ∷ lines) w last lead =
    let l = lead.1 in
    let step = lifts (step_line declared turn line w) lead.0 (world_stepped_as declared turn first line w ∙ l.stepped_is) in
    let rest = lifts_lead lines step.world last (subst (λ (v : WorldState Behaviour). Lead declared_of turn_of lines v last) (sym step.same) lead.2) in
    record {
      world = rest.world;
      leads = (
        step.world,
        record {
          named = subst (λ k. NamesBelow k line) (length-map w.nodes (standing_as declared turn first)) l.named;
          legal = sym (refusal_as declared turn first line w) ∙ l.legal;
          stepped_is = step.is;
        },
        rest.leads,
      );
      same = rest.same;
    }

-- what is seen has the same record
pub acting_recorded : (a : Acting Lawful) → member_record (acting_as declared turn first a) ≡ member_record a
acting_recorded (member m) = refl
acting_recorded (ringmaster kept) = refl

-- ---- a world of behaviours

module _ (d : Deployment) (program : List Behaviour) (hosted : List (Option Behaviour)) (lines : List Line) (booted last : WorldState Behaviour)
    (world : IsPlainWorldOf d program hosted lines booted last) where
  pub modules : List Lawful
  modules = lifted program world.modules

  pub modules_are : map one modules ≡ program
  unfolding modules
  modules_are = lifted_is program world.modules

  hosts_so : (node : ℕ) (own : Option Behaviour) → slice_get hosted node ≡ Some own → own ≡ option_and_then (slice_get program) (troupe_at d node)
  hosts_so node own at = sym (same_option own) ∙ world.hosts.each node own at ∙ same_option (option_and_then (slice_get program) (troupe_at d node))

  hosted_lawful : AreLawful hosted
  hosted_lawful node b at = by_troupe (troupe_at d node) (hosts_so node (Some b) at)
    where
      by_troupe : (o : Option ℕ) → Some b ≡ option_and_then (slice_get program) o → IsModule b
      by_troupe None is = absurd (none-some b (sym is))
      by_troupe (Some troupe) is = world.modules troupe b (sym is)

  pub own_hosted : List (Option Lawful)
  own_hosted = lifted_all hosted hosted_lawful

  pub hosted_are : map (option_map one) own_hosted ≡ hosted
  unfolding own_hosted
  hosted_are = all_is hosted hosted_lawful

  hosts : AreHosted declared turn first d modules own_hosted
  hosts = record {
    one_each = sym (length-map own_hosted (option_map one)) ∙ ap (λ (l : List (Option Behaviour)). length l) hosted_are ∙ world.hosts.one_each;
    each = λ node own at.
        hosts_so node (option_map one own)
        (ap (λ (l : List (Option Behaviour)). slice_get l node) (sym hosted_are) ∙ slice_get-map (option_map one) own_hosted node ∙ ap (option_map (option_map one)) at)
        ∙ sym (module_at program modules modules_are (troupe_at d node));
  }

  pub boots : Lifts (all_booted declared turn first own_hosted (before_any d modules)) booted
  boots =
      lifts (all_booted declared turn first own_hosted (before_any d modules)) booted
      (all_booted_as declared turn first own_hosted (before_any d modules)
      ∙ ap (λ (l : List (Option Behaviour)). all_booted declared_of turn_of first_of l (before_any d (map one modules))) hosted_are
      ∙ ap (λ (l : List Behaviour). all_booted declared_of turn_of first_of hosted (before_any d l)) modules_are
      ∙ world.boots)

  pub leads : LiftsLead lines boots.world last
  leads = lifts_lead lines boots.world last (subst (λ (v : WorldState Behaviour). Lead declared_of turn_of lines v last) (sym boots.same) world.leads)

  pub lawful_world : IsWorldOf declared turn first d modules own_hosted lines boots.world leads.world
  lawful_world = record {
    deployment = world.deployment;
    troupes = subst (λ (l : List Signature). AreOfTroupes d l) (ap (map declared_of) (sym modules_are) ∙ sym (declared_are modules)) world.troupes;
    agree = subst (λ (l : List Behaviour). Agree l) (sym modules_are) world.agree;
    hosts = hosts;
    boots = boots.is;
    leads = leads.leads;
  }
