-- A node of a plan that is served to its end is a node run.
use Rattle.std.proofs.Common.{◌≡◌, ◌≤◌, ◌⊎◌, ℕ, inl, inr, List, [], ◌∷◌, ◌++◌, length, map, All, Option, None, Some, Ok, refl, sym, ap, subst, ◌∙◌, arith, append-nil}
use Rattle.std.specs.Prelude.{IsSome, slice_get, option_map, option_and_then}
use Rattle.std.proofs.lemmas.Option.{none-some, same_Some, slice_get-map, slice_get_within}
use Rattle.circus_collate.specs.declared.deployment.Host.{Host}
use Rattle.circus_collate.specs.declared.deployment.Troupe.{Troupe}
use Rattle.circus_model.specs.Agree.{IsAt}
use Rattle.circus_model.specs.Behaviour.{Behaviour}
use Rattle.circus_record.specs.Naming.{names_of}
use Rattle.circus_record.specs.declared.record.MemberRecord.{MemberRecord}
use Rattle.circus_node.specs.Accepting.{troupe_at}
use Rattle.circus_node.specs.Booting.{CanBoot}
use Rattle.circus_node.specs.Booting as booting
use Rattle.circus_node.specs.NodeState.{NodeState, member_record}
use Rattle.circus_node.specs.Step.{Ended}
use Rattle.circus_node.specs.declared.event.Outputs.{Outputs}
use Rattle.circus_node.specs.Alike.{declared_of, turn_of, first_of}
use Rattle.circus_outside.specs.Link.{Taken, failed, taken_of}
use Rattle.circus_outside.specs.declared.link.TakenFrom.{TakenFrom}
use Rattle.circus_serve.specs.declared.happening.Happening.{Happening}
use Rattle.circus_serve.specs.Happened.{given_in}
use Rattle.circus_serve.specs.Serving.{happened_by, serve_takes}
use Rattle.circus_serve.specs.Outside.{Tells, IsAsked}
use Rattle.circus_serve.specs.Recorded.{Recorded}
use Rattle.circus_serve.specs.Answers.{asked_of_link, IsServed, IsPartGiven}
use Rattle.circus_config.specs.declared.plan.Plan.{Plan}
use Rattle.circus_config.specs.Program.{IsPlan}
use Rattle.circus_plan_modules.specs.Loaded.{behaviours_in, hosted_by}
use Rattle.circus_plan_theory.proofs.Plan.{plan_modules}
use Rattle.circus_plan_theory.proofs.Troupes.{plan_of_troupes}
use Rattle.circus_commands.specs.declared.status.Status.TheVariants.{Done, LinkFault, Spent}
use Rattle.circus_commands.specs.Ending.{Ending}
use Rattle.circus_node_command.specs.NodeEnds.{booted_node, IsEndOfBooted, IsEndOfServing}
use Rattle.circus_headline_theory.specs.ServedRun.{IsOfOctets, IsServedRun}
use Rattle.circus_headline_theory.proofs.PlainServed.{plain_served_is_a_node_run, plain_served_so_far}
use Rattle.circus_program.specs.ServedRuns.{IsServedRunOf, happened_so_far, WasGiven, WasServedSoFar, WasSpentAtBoot}

module _ (plan : Plan) (is : IsPlan plan) (node number : ℕ) (b : Behaviour) (hosts : troupe_at plan.deployment node ≡ Some number)
    (at : IsAt (behaviours_in plan) number b) where
  -- the node is one of the program, and hosts the module of its troupe
  record IsHost : Type 0 where
    host : Host
    there : slice_get plan.deployment.nodes node ≡ Some host
    own : host.module ≡ Some number

  is_host : IsHost
  is_host = by_option (slice_get plan.deployment.nodes node) refl hosts
    where
      by_option : (o : Option Host) → slice_get plan.deployment.nodes node ≡ o → option_and_then (λ (h : Host). h.module) o ≡ Some number → IsHost
      by_option None there own = absurd (none-some number own)
      by_option (Some host) there own = record { host = host; there = there; own = own }

  hosted : option_and_then (hosted_by (behaviours_in plan)) (slice_get plan.deployment.nodes node) ≡ Some b
  hosted =
      ap (option_and_then (hosted_by (behaviours_in plan))) is_host.there
      ∙ ap (option_and_then (slice_get (behaviours_in plan))) is_host.own ∙ at

  can_boot : CanBoot plan.deployment node (Some b.declared)
  can_boot = record {
    deployment = is.deployed;
    within = slice_get_within plan.deployment.nodes node is_host.host is_host.there;
    hosted = ((λ some. subst (λ (o : Option ℕ). IsSome o) (sym hosts) refl), (λ some. refl));
    fits = λ other signature own said.
        let same : number ≡ other = same_Some number other (sym hosts ∙ own) in
        (plan_of_troupes plan is).each other signature
        (slice_get-map declared_of (behaviours_in plan) other
        ∙ ap (λ (k : ℕ). option_map declared_of (slice_get (behaviours_in plan) k)) (sym same)
        ∙ ap (option_map declared_of) at ∙ said);
  }

  -- what it came to at boot is what a node comes to that hosts this
  boots : (ended : Ended Behaviour) → booted_node plan node ≡ ended → booting.boot_node declared_of turn_of first_of plan.deployment (Some b) node ≡ ended
  boots ended booted_is = ap (λ (o : Option Behaviour). booting.boot_node declared_of turn_of first_of plan.deployment o node) (sym hosted) ∙ booted_is

module _ (plan : Plan) (is : IsPlan plan) (node turns : ℕ) (old new : Tells) where
  served_run : (begun : NodeState Behaviour) (outputs : Outputs) → booted_node plan node ≡ Ok (begun, outputs) → (recorded : Recorded Behaviour)
      → (serve_takes : IsServed declared_of turn_of plan.deployment node begun outputs.gives turns old new recorded) → All IsOfOctets serve_takes.takes
      → (number : ℕ) (troupe : Troupe) (b : Behaviour) (kept : MemberRecord) → troupe_at plan.deployment node ≡ Some number
      → slice_get plan.deployment.troupes number ≡ Some troupe → IsAt (behaviours_in plan) number b → member_record recorded.node.acting ≡ Some kept
      → IsServedRun plan.deployment b node number troupe recorded.happened kept
  served_run begun outputs booted_is recorded serve_takes octets number troupe b kept hosts there at recorded_is =
      subst (λ happened. IsServedRun plan.deployment b node number troupe happened kept) (sym serve_takes.happened)
      (plain_served_is_a_node_run plan.deployment b (plan_modules plan is number b at) node number troupe begun outputs serve_takes.takes serve_takes.last kept
      (can_boot plan is node number b hosts at) (boots plan is node number b hosts at (Ok (begun, outputs)) booted_is) serve_takes.is octets hosts there
      (ap (λ (n : NodeState Behaviour). member_record n.acting) (sym serve_takes.node) ∙ recorded_is))

  pub served_ends : (ending : Ending) → IsEndOfServing plan node turns old new ending → ending.status ≡ Done → IsServedRunOf plan node turns old new ending.text
  served_ends ending (inr (peer, spent_is, same, ends)) done = absurd (let clash : Spent ≡ Done = sym (ap (λ (e : Ending). e.status) ends) ∙ done in cc)
  served_ends ending (inl (boot, booted_is, inr (inl (peer, spent_is, ends)))) done = absurd (let clash : Spent ≡ Done = sym (ap (λ (e : Ending). e.status) ends) ∙ done in cc)
  served_ends ending (inl (boot, booted_is, inr (inr (broken, ends)))) done = absurd (let clash : LinkFault ≡ Done = sym (ap (λ (e : Ending). e.status) ends) ∙ done in cc)
  served_ends ending (inl (boot, booted_is, inl (recorded, serve_takes, ends))) done =
      record {
        recorded = recorded;
        written = ap (λ (e : Ending). e.text) ends;
        boot = boot;
        booted_is = booted_is;
        served = serve_takes;
        run = λ octets. served_run boot.0 boot.1 booted_is recorded serve_takes octets;
      }

  -- ---- as far as it came

  module _ (boot : NodeState Behaviour × Outputs) (booted_is : booted_node plan node ≡ Ok boot) where
    run_so_far : (takes : List TakenFrom) → length takes ≤ turns → WasGiven plan node old new boot takes → WasServedSoFar plan node turns old new
    run_so_far takes few gave =
        record {
          boot = boot;
          booted_is = booted_is;
          takes = takes;
          few = few;
          gave = gave;
          run = λ octets number troupe b hosts there at.
              plain_served_so_far plan.deployment b (plan_modules plan is number b at) node number troupe boot.0 boot.1 takes (can_boot plan is node number b hosts at)
              (boots plan is node number b hosts at (Ok boot) booted_is) octets hosts there;
        }

    -- all of it
    gave_all : (takes : List TakenFrom) (happened : List Happening) (failing : List Taken) → happened_so_far plan node boot takes ≡ happened → (failing ≡ []) ⊎ (failing ≡ failed ∷ [])
        → IsAsked old new (asked_of_link plan.deployment node (map taken_of takes ++ failing) (given_in plan.deployment happened)) → WasGiven plan node old new boot takes
    gave_all takes happened failing same few link =
        record {
          given = given_in plan.deployment happened;
          rest = [];
          whole = ap (given_in plan.deployment) same ∙ sym (append-nil (given_in plan.deployment happened));
          earlier = λ missing before last are. absurd (missing refl);
          failing = failing;
          at_most_one = few;
          link = link;
        }

    -- no call of it failed
    none_failed : (takes : List TakenFrom) (given : List (ℕ × List ℕ)) → IsAsked old new (asked_of_link plan.deployment node (map taken_of takes) given)
        → IsAsked old new (asked_of_link plan.deployment node (map taken_of takes ++ []) given)
    none_failed takes given link = subst (λ (l : List Taken). IsAsked old new (asked_of_link plan.deployment node l given)) (sym (append-nil (map taken_of takes))) link

    -- a part of it
    gave_part : (takes : List TakenFrom) (given : List (ℕ × List ℕ)) → IsPartGiven declared_of turn_of plan.deployment node boot.0 boot.1.gives takes given
        → IsAsked old new (asked_of_link plan.deployment node (map taken_of takes) given) → WasGiven plan node old new boot takes
    gave_part takes given part link =
        record {
          given = given;
          rest = part.rest;
          whole = part.whole;
          earlier = λ missing before last are. part.earlier before last are;
          failing = [];
          at_most_one = inl refl;
          link = none_failed takes given link;
        }

    -- the port was bound at most
    gave_nothing : IsAsked old new (asked_of_link plan.deployment node [] []) → WasGiven plan node old new boot []
    gave_nothing link =
        record {
          given = [];
          rest = given_in plan.deployment (happened_so_far plan node boot []);
          whole = refl;
          earlier = λ missing before last are. absurd (no_last before last are);
          failing = [];
          at_most_one = inl refl;
          link = link;
        }
      where
        no_last : (before : List TakenFrom) (last : TakenFrom) → [] ≡ before ++ last ∷ [] → ⊥
        no_last [] last are = cc
        no_last (x ∷ before) last are = cc

    booted_so_far : (ending : Ending)
        → IsEndOfBooted declared_of turn_of (names_of plan.deployment.nodes plan.names) plan.deployment node turns old new boot.0 boot.1.gives ending
        → WasServedSoFar plan node turns old new
    booted_so_far ending (inl (recorded, serve_takes, ends)) =
        run_so_far serve_takes.takes (omega (arith, serve_takes.all))
        (gave_all serve_takes.takes serve_takes.last.happened [] (ap happened_by serve_takes.is) (inl refl) (none_failed serve_takes.takes (given_in plan.deployment serve_takes.last.happened) serve_takes.link))
    booted_so_far ending (inr (inl (peer, spent_is, ends))) =
        run_so_far spent_is.takes spent_is.few
        (gave_all spent_is.takes spent_is.happened [] (ap happened_by spent_is.is) (inl refl) (none_failed spent_is.takes (given_in plan.deployment spent_is.happened) spent_is.link))
    booted_so_far ending (inr (inr (inl unbound, ends))) = run_so_far [] (omega arith) (gave_nothing unbound)
    booted_so_far ending (inr (inr (inr (inl take), ends))) =
        run_so_far take.takes (omega (arith, take.few)) (gave_all take.takes take.last.happened (failed ∷ []) (ap happened_by take.is) (inr refl) take.link)
    booted_so_far ending (inr (inr (inr (inr give), ends))) = run_so_far give.takes give.few (gave_part give.takes give.given give.part give.link)

  pub served_so_far : (ending : Ending) → IsEndOfServing plan node turns old new ending → WasServedSoFar plan node turns old new ⊎ WasSpentAtBoot plan node old new
  served_so_far ending (inl (boot, booted_is, end)) = inl (booted_so_far boot booted_is ending end)
  served_so_far ending (inr (peer, booted_is, same, ends)) = inr (record { peer = peer; booted_is = booted_is; same = same })
