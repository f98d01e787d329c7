-- What words that ask to simulate a program are written of.
use Rattle.std.proofs.Common.{◌≡◌, ℕ, ◌≤◌, inl, inr, Bool, true, false, Option, Some, None, List, [], ◌∷◌, length, map, refl, sym, ap, subst, ◌∙◌, arith, Ok, Err, codes}
use Rattle.std.specs.Prelude.{slice_get, option_map, option_and_then, nat_lt, if◌then◌else◌, ◌||◌, bytes_eq}
use Rattle.std.proofs.lemmas.Bool.{ltb-false}
use Rattle.std.proofs.lemmas.List.{length-map}
use Rattle.std.proofs.lemmas.Option.{slice_get-map}
use Rattle.circus_collate.specs.declared.deployment.Deployment.{Deployment}
use Rattle.circus_collate.specs.declared.deployment.Host.{Host}
use Rattle.circus_model.specs.Behaviour.{Behaviour}
use Rattle.circus_performing.specs.Record.{behaviour}
use Rattle.circus_node.specs.Alike.{declared_of, turn_of, first_of}
use Rattle.circus_schedule.specs.declared.line.Line.{Line}
use Rattle.circus_schedule.specs.declared.schedule_fault.ScheduleFault.TheVariants as schedule_fault
use Rattle.circus_schedule.specs.Meaning.{numbers_of}
use Rattle.circus_schedule.specs.Answer.{IsAnswer}
use Rattle.circus_world.specs.WorldState.{WorldState}
use Rattle.circus_world.specs.Course.{Stepped}
use Rattle.circus_world.specs.Lines.{Lead}
use Rattle.circus_simulation.specs.Sampled.{lines_behind, sample_lines}
use Rattle.circus_simulation.specs.Summary.{summary}
use Rattle.circus_simulation.specs.Seen.Stepping.{NoneCrashed}
use Rattle.circus_simulation.proofs.Stepping.{samples_lead}
use Rattle.circus_simulation.proofs.Untouched.{none_crashed, booted_new}
use Rattle.circus_settle.specs.Settled.{Delivered, first_deliveries, settle_world}
use Rattle.circus_settle.specs.Summary.{settled_text}
use Rattle.circus_settle.proofs.Leading.{led}
use Rattle.circus_config.specs.declared.plan.Plan.{Plan}
use Rattle.circus_config.specs.Program.{IsProgramOf}
use Rattle.circus_commands.specs.declared.status.Status.{Status}
use Rattle.circus_commands.specs.declared.status.Status.TheVariants.{Done, BadProgram, BadSchedule, Spent, Unsettled}
use Rattle.circus_commands.specs.Ending.{Ending}
use Rattle.circus_plan_modules.specs.Loaded.{behaviours_in, hosted_by}
use Rattle.circus_simulation.specs.Booted.{boot_world, names_in, after_step}
use Rattle.circus_simulation.specs.Sample.{end_of_summary, sample_in, sample_of}
use Rattle.circus_simulation.specs.Schedule.{lines_in, lines_of_sample, end_of_drawing, schedule_in, schedule_of}
use Rattle.circus_simulation.specs.Settle.{budget, settled_end, after_settling, settle_in, settle_of}
use Rattle.circus_simulation.proofs.SteppingLines.{booted_joins}
use Rattle.circus_program.specs.Form.{CommandForm, stubs, run, replay, picture, node, sample, draw, settle, place, audit, words_of, IsOfForm}
use Rattle.circus_program.specs.declared.shown.Shown.TheVariants.{Report, Picture}
use Rattle.circus_program.specs.declared.second.Second.TheVariants.{Schedule}
use Rattle.circus_program.specs.declared.shown.Shown.{Shown}
use Rattle.circus_program.specs.Replay.{IsEndOfReplay, replay_of, picture_of, shown_of}
use Rattle.circus_program.specs.Answer.{Due, fetch, finish, IsDue}
use Rattle.circus_program.specs.Last.{IsDueLast}
use Rattle.circus_program.specs.Worlds.{IsSimulation, AskToSimulate, IsOfWorld}
use Rattle.circus_program.proofs.OneDue.{of_form, OfProgram, OfSecond, OfWords}
use Rattle.circus_program.proofs.Reports.{is_reported, is_pictured}
use Rattle.circus_program.proofs.SampleEnds.{lines_end_alike}

-- ---- what a seed draws

-- each node hosts what its troupe's module does
hosted : (modules : List Behaviour) (nodes : List Host) (number : ℕ) (own : Option Behaviour) → slice_get (map (hosted_by modules) nodes) number ≡ Some own
    → own ≡ option_and_then (slice_get modules) (option_and_then (λ (h : Host). h.module) (slice_get nodes number))
hosted modules nodes number own at = by_host (slice_get nodes number) (sym (slice_get-map (hosted_by modules) nodes number) ∙ at)
  where
    by_host : (o : Option Host) → option_map (hosted_by modules) o ≡ Some own → own ≡ option_and_then (slice_get modules) (option_and_then (λ (h : Host). h.module) o)
    by_host None is = absurd (let clash : ◌≡◌ {A = Option (Option Behaviour)} None (Some own) = is in cc)
    by_host (Some h) is = let same : hosted_by modules h ≡ own = cc in sym same

boots_live : (plan : Plan) (w : WorldState Behaviour) → boot_world plan ≡ Ok w → NoneCrashed w
boots_live plan w is =
    let d = plan.deployment in
    let modules = behaviours_in plan in
    let hosting = map (hosted_by modules) d.nodes in
    let new = booted_new declared_of turn_of first_of d modules w (
      hosting,
      record {
        one_each = length-map d.nodes (hosted_by modules);
        each = λ number own at. ap (option_map (behaviour declared_of turn_of first_of)) (hosted modules d.nodes number own at);
      },
      is,
    ) in
    none_crashed w new.untouched

pub boots_nodes : (plan : Plan) (w : WorldState Behaviour) → boot_world plan ≡ Ok w → length w.nodes ≡ length plan.deployment.nodes
boots_nodes plan w is =
    let modules = behaviours_in plan in
    let joined = booted_joins declared_of turn_of first_of (map (hosted_by modules) plan.deployment.nodes) plan.deployment modules w is in
    omega (arith, joined.nodes, length-map plan.deployment.nodes (hosted_by modules))

-- the Ringmaster's
has_node : (text : List ℕ) (plan : Plan) → IsProgramOf text plan → 1 ≤ length plan.deployment.nodes
has_node text plan means = subst (λ (d : Deployment). 1 ≤ length d.nodes) (sym means.deployment) (omega arith)

-- the lines of a sample, where all are stepped, what is written of it, and of them
pub record IsDrawn (plan : Plan) (seed steps : ℕ) : Type 0 where
  pub begun : WorldState Behaviour
  pub last : WorldState Behaviour
  pub booted_is : boot_world plan ≡ Ok begun
  pub sampled_is : sample_lines declared_of turn_of steps seed begun ≡ Ok last
  pub count : length (lines_of_sample plan seed steps) ≡ steps
  pub lead : Lead declared_of turn_of (lines_of_sample plan seed steps) begun last
  pub summed_is : sample_of plan seed steps ≡ record { status = Done; text = summary (names_in plan) steps last }
  pub listed_is : schedule_of plan seed steps ≡ end_of_drawing (names_in plan) (lines_of_sample plan seed steps)

pub is_drawn : (plan : Plan) (seed steps : ℕ) → 1 ≤ length plan.deployment.nodes → (sample_of plan seed steps).status ≡ Done → IsDrawn plan seed steps
is_drawn plan seed steps some done =
    elim (boot_world plan) as (λ s. boot_world plan ≡ s → (end s).status ≡ Done → IsDrawn plan seed steps) [
      | Err nodes ↦ λ is same. absurd (let clash : Spent ≡ Done = same in cc)
      | Ok w ↦ λ is same. behind_boot w is same
    ] refl done
  where
    end : Stepped Behaviour → Ending
    end s = after_step (names_in plan) (sample_in (names_in plan) seed steps) s

    behind_boot : (w : WorldState Behaviour) → boot_world plan ≡ Ok w → (sample_in (names_in plan) seed steps w).status ≡ Done → IsDrawn plan seed steps
    behind_boot w is same =
        elim (sample_lines declared_of turn_of steps seed w) as (λ s. sample_lines declared_of turn_of steps seed w ≡ s → (after_step (names_in plan) (end_of_summary (names_in plan) steps) s).status ≡ Done
        → IsDrawn plan seed steps) [
          | Err nodes ↦ λ whole out. absurd (let clash : Spent ≡ Done = out in cc)
          | Ok last ↦ λ whole all.
              let lines = samples_lead declared_of turn_of steps seed w last (boots_live plan w is) (omega (arith, some, boots_nodes plan w is)) whole in
              let same : lines_in seed steps w ≡ lines_of_sample plan seed steps = ap (lines_behind (lines_in seed steps)) (sym is) in
              record {
                begun = w;
                last = last;
                booted_is = is;
                sampled_is = whole;
                count = subst (λ (l : List Line). length l ≡ steps) same lines.0;
                lead = subst (λ (l : List Line). Lead declared_of turn_of l w last) same lines.1;
                summed_is = ap end is ∙ ap (after_step (names_in plan) (end_of_summary (names_in plan) steps)) whole;
                listed_is =
                    ap (after_step (names_in plan) (schedule_in (names_in plan) seed steps)) is
                    ∙ ap (after_step (names_in plan) (λ (after : WorldState Behaviour). end_of_drawing (names_in plan) (lines_in seed steps w))) whole
                    ∙ ap (end_of_drawing (names_in plan)) same;
              }
        ] refl same

-- ---- what is delivered

record IsMade (plan : Plan) (deliveries : ℕ) (text : List ℕ) : Type 0 where
  begun : WorldState Behaviour
  last : WorldState Behaviour
  booted_is : boot_world plan ≡ Ok begun
  few : length last.sent ≤ deliveries
  lead : Lead declared_of turn_of (first_deliveries (length last.sent)) begun last
  written : text ≡ settled_text (names_in plan) (length last.sent) last

module _ (plan : Plan) (deliveries : ℕ) where
  abbrev if_left : Delivered Behaviour → Bool → Ending
  if_left done left =
      if left then budget deliveries (length done.world.sent) else record { status = Done; text = settled_text (names_in plan) done.given done.world }

  made_all : (w : WorldState Behaviour) (done : Delivered Behaviour) → boot_world plan ≡ Ok w → settle_world declared_of turn_of deliveries 0 w ≡ Ok done
      → (settled_end (names_in plan) deliveries done).status ≡ Done → IsMade plan deliveries (settled_end (names_in plan) deliveries done).text
  made_all w done is whole same = by_left (nat_lt done.given (length done.world.sent)) refl same
    where
      by_left : (left : Bool) → nat_lt done.given (length done.world.sent) ≡ left → (if_left done left).status ≡ Done → IsMade plan deliveries (if_left done left).text
      by_left true some out = absurd (let clash : Unsettled ≡ Done = out in cc)
      by_left false none all =
          let to = led declared_of turn_of deliveries w done whole in
          let given : done.given ≡ length done.world.sent = omega (arith, to.sent, ltb-false done.given (length done.world.sent) none) in
          record {
            begun = w;
            last = done.world;
            booted_is = is;
            few = omega (arith, given, to.few);
            lead = subst (λ k. Lead declared_of turn_of (first_deliveries k) w done.world) given to.lead;
            written = ap (λ k. settled_text (names_in plan) k done.world) given;
          }

  made : (settle_of plan deliveries).status ≡ Done → IsMade plan deliveries (settle_of plan deliveries).text
  made done =
      elim (boot_world plan) as (λ s. boot_world plan ≡ s → (end s).status ≡ Done → IsMade plan deliveries (end s).text) [
        | Err nodes ↦ λ is same. absurd (let clash : Spent ≡ Done = same in cc)
        | Ok w ↦ λ is same. behind_boot w is same
      ] refl done
    where
      end : Stepped Behaviour → Ending
      end s = after_step (names_in plan) (settle_in (names_in plan) deliveries) s

      behind_boot : (w : WorldState Behaviour) → boot_world plan ≡ Ok w → (settle_in (names_in plan) deliveries w).status ≡ Done → IsMade plan deliveries (settle_in (names_in plan) deliveries w).text
      behind_boot w is same =
          elim (settle_world declared_of turn_of deliveries 0 w) as (λ s. settle_world declared_of turn_of deliveries 0 w ≡ s → (after_settling (names_in plan) deliveries s).status ≡ Done
          → IsMade plan deliveries (after_settling (names_in plan) deliveries s).text) [
            | Err nodes ↦ λ whole out. absurd (let clash : Spent ≡ Done = out in cc)
            | Ok done ↦ λ whole all. made_all w done is whole all
          ] refl same

-- ---- of a form

pub same_end : (one other : Ending) → finish one ≡ finish other → one ≡ other
same_end one other is = cc

-- it is done, so its status is no other one
not_done : {X : Type 0} (status : Status) (ending other : Ending) → ending.status ≡ Done → finish ending ≡ finish other → other.status ≡ status → (status ≡ Done → ⊥) → X
not_done status ending other done is bad apart = absurd (apart (sym bad ∙ sym (ap (λ (e : Ending). e.status) (same_end ending other is)) ∙ done))

module _ (contents : List ℕ → Option (List ℕ)) (words : List (List ℕ)) (ending : Ending) (done : ending.status ≡ Done) where
  abbrev Written : Type 0
  Written = (plan : Plan) × (lines : List Line) × (last : WorldState Behaviour) × IsOfWorld contents words plan lines last ending.text

  -- a program, and what comes of it
  record IsFound (program : List ℕ) (IsNext : Plan → Due → Type 0) : Type 0 where
    bytes : List ℕ
    plan : Plan
    there : contents program ≡ Some bytes
    good : IsProgramOf bytes plan
    next : IsNext plan (finish ending)

  found : (program : List ℕ) (IsNext : Plan → Due → Type 0) → OfProgram contents program IsNext (finish ending) → IsFound program IsNext
  found program IsNext (inl (none, is)) = absurd (let clash : finish ending ≡ fetch program = is in cc)
  found program IsNext (inr (bytes, there, inl (plan, good, next))) = record { bytes = bytes; plan = plan; there = there; good = good; next = next }
  found program IsNext (inr (bytes, there, inr (other, (number, cause, refusal, means), is))) =
      not_done BadProgram ending other done is (ap (λ (e : Ending). e.status) means) (λ same. cc)

  -- what comes of a schedule that was read as lines, if not as a fault
  by_lines : (shown : Shown) (plan : Plan) (schedule : List ℕ) (other : Ending) → finish ending ≡ finish other → IsEndOfReplay shown plan schedule other
      → ((lines : List Line) → IsAnswer (numbers_of plan.deployment.nodes) schedule (Ok lines) → ending ≡ shown_of shown plan lines → Written) → Written
  by_lines shown plan schedule other is (Ok lines, read, end) next = next lines read (same_end ending other is ∙ end)
  by_lines shown plan schedule other is (Err (schedule_fault.BadLine number), read, end) next = not_done BadSchedule ending other done is (ap (λ (e : Ending). e.status) end) (λ same. cc)
  by_lines shown plan schedule other is (Err (schedule_fault.UnknownNode number node_name), read, end) next = not_done BadSchedule ending other done is (ap (λ (e : Ending). e.status) end) (λ same. cc)
  by_lines shown plan schedule other is (Err (schedule_fault.TooManyLines number), read, end) next = not_done BadSchedule ending other done is (ap (λ (e : Ending). e.status) end) (λ same. cc)
  by_lines shown plan schedule other is (Err schedule_fault.NoMemory, read, end) next = absurd end

  replay_written : (program name : List ℕ) → IsOfForm words (replay program name) → IsFound program (OfSecond contents (Schedule Report) name) → Written
  replay_written program name of f = by_schedule f.next
    where
      reported : (schedule : List ℕ) → contents name ≡ Some schedule → (lines : List Line) → IsAnswer (numbers_of f.plan.deployment.nodes) schedule (Ok lines) → ending ≡ replay_of f.plan lines → Written
      reported schedule here lines read whole =
          let r = is_reported f.plan lines (sym (ap (λ (e : Ending). e.status) whole) ∙ done) in (
            f.plan,
            lines,
            r.last,
            record {
              led = r.led;
              written = inl (
                schedule,
                record { program = program; name = name; of_form = of; bytes = f.bytes; program_is = f.there; good = f.good; second_is = here },
                read,
                ap (λ (e : Ending). e.text) whole ∙ r.written,
              );
            },
          )

      by_schedule : OfSecond contents (Schedule Report) name f.plan (finish ending) → Written
      by_schedule (inl (none, is)) = absurd (let clash : finish ending ≡ fetch name = is in cc)
      by_schedule (inr (schedule, here, (other, end, is))) = by_lines Report f.plan schedule other is end (reported schedule here)

  picture_written : (program name : List ℕ) → IsOfForm words (picture program name) → IsFound program (OfSecond contents (Schedule Picture) name) → Written
  picture_written program name of f = by_schedule f.next
    where
      drawn_as : (schedule : List ℕ) → contents name ≡ Some schedule → (lines : List Line) → IsAnswer (numbers_of f.plan.deployment.nodes) schedule (Ok lines) → ending ≡ picture_of f.plan lines → Written
      drawn_as schedule here lines read whole =
          let p = is_pictured f.plan lines (sym (ap (λ (e : Ending). e.status) whole) ∙ done) in (
            f.plan,
            lines,
            p.last,
            record {
              led = p.led;
              written = inr (inr (inr (inr (
                schedule,
                record { program = program; name = name; of_form = of; bytes = f.bytes; program_is = f.there; good = f.good; second_is = here },
                read,
                ap (λ (e : Ending). e.text) (whole ∙ p.pictured),
              ))));
            },
          )

      by_schedule : OfSecond contents (Schedule Picture) name f.plan (finish ending) → Written
      by_schedule (inl (none, is)) = absurd (let clash : finish ending ≡ fetch name = is in cc)
      by_schedule (inr (schedule, here, (other, end, is))) = by_lines Picture f.plan schedule other is end (drawn_as schedule here)

  sample_written : (program : List ℕ) (seed steps : ℕ) → IsOfForm words (sample program seed steps) → IsFound program (λ plan due. due ≡ finish (sample_of plan seed steps)) → Written
  sample_written program seed steps of f =
      let whole : ending ≡ sample_of f.plan seed steps = same_end ending (sample_of f.plan seed steps) f.next in
      let d = is_drawn f.plan seed steps (has_node f.bytes f.plan f.good) (sym (ap (λ (e : Ending). e.status) whole) ∙ done) in (
        f.plan,
        lines_of_sample f.plan seed steps,
        d.last,
        record {
          led = record { begun = d.begun; booted_is = d.booted_is; lead = d.lead };
          written = inr (inl (
            seed,
            steps,
            d.begun,
            record { program = program; of_form = of; bytes = f.bytes; program_is = f.there; good = f.good },
            refl,
            d.count,
            d.booted_is,
            d.sampled_is,
            ap (λ (e : Ending). e.text) (whole ∙ d.summed_is),
          ));
        },
      )

  lines_written : (program : List ℕ) (seed steps : ℕ) → IsOfForm words (draw program seed steps) → IsFound program (λ plan due. due ≡ finish (schedule_of plan seed steps)) → Written
  lines_written program seed steps of f =
      let whole : ending ≡ schedule_of f.plan seed steps = same_end ending (schedule_of f.plan seed steps) f.next in
      let ends = sym (lines_end_alike f.plan seed steps) ∙ sym (ap (λ (e : Ending). e.status) whole) ∙ done in
      let d = is_drawn f.plan seed steps (has_node f.bytes f.plan f.good) ends in (
        f.plan,
        lines_of_sample f.plan seed steps,
        d.last,
        record {
          led = record { begun = d.begun; booted_is = d.booted_is; lead = d.lead };
          written = inr (inr (inr (inl (
            seed,
            steps,
            d.begun,
            record { program = program; of_form = of; bytes = f.bytes; program_is = f.there; good = f.good },
            refl,
            d.count,
            d.booted_is,
            d.sampled_is,
            ap (λ (e : Ending). e.text) (whole ∙ d.listed_is),
          ))));
        },
      )

  settle_written : (program : List ℕ) (deliveries : ℕ) → IsOfForm words (settle program deliveries) → IsFound program (λ plan due. due ≡ finish (settle_of plan deliveries)) → Written
  settle_written program deliveries of f =
      let whole : ending ≡ settle_of f.plan deliveries = same_end ending (settle_of f.plan deliveries) f.next in
      let m = made f.plan deliveries (sym (ap (λ (e : Ending). e.status) whole) ∙ done) in (
        f.plan,
        first_deliveries (length m.last.sent),
        m.last,
        record {
          led = record { begun = m.begun; booted_is = m.booted_is; lead = m.lead };
          written = inr (inr (inl (
            deliveries,
            record { program = program; of_form = of; bytes = f.bytes; program_is = f.there; good = f.good },
            m.few,
            refl,
            ap (λ (e : Ending). e.text) whole ∙ m.written,
          )));
        },
      )

  form_written : (form : CommandForm) → IsOfForm words form → IsSimulation form → OfWords contents form (finish ending) → Written
  form_written (replay program name) of simulates is = replay_written program name of (found program (OfSecond contents (Schedule Report) name) is)
  form_written (picture program name) of simulates is = picture_written program name of (found program (OfSecond contents (Schedule Picture) name) is)
  form_written (sample program seed steps) of simulates is = sample_written program seed steps of (found program (λ plan due. due ≡ finish (sample_of plan seed steps)) is)
  form_written (draw program seed steps) of simulates is = lines_written program seed steps of (found program (λ plan due. due ≡ finish (schedule_of plan seed steps)) is)
  form_written (settle program deliveries) of simulates is = settle_written program deliveries of (found program (λ plan due. due ≡ finish (settle_of plan deliveries)) is)
  form_written (stubs _) of simulates is = absurd simulates
  form_written (run _) of simulates is = absurd simulates
  form_written (node _ _ _) of simulates is = absurd simulates
  form_written (place _) of simulates is = absurd simulates
  form_written (audit _ _) of simulates is = absurd simulates

-- ---- of words

-- the first of them tells
pub asks : List (List ℕ) → Bool
asks [] = false
asks (command ∷ _) =
    bytes_eq command (codes "replay")
    || (bytes_eq command (codes "sample") || (bytes_eq command (codes "settle") || (bytes_eq command (codes "lines") || bytes_eq command (codes "picture"))))

pub asking : (form : CommandForm) → IsSimulation form → asks (words_of form) ≡ true
unfolding asks
asking (replay _ _) simulates = refl
asking (picture _ _) simulates = refl
asking (sample _ _ _) simulates = refl
asking (draw _ _ _) simulates = refl
asking (settle _ _) simulates = refl
asking (stubs _) simulates = absurd simulates
asking (run _) simulates = absurd simulates
asking (node _ _ _) simulates = absurd simulates
asking (place _) simulates = absurd simulates
asking (audit _ _) simulates = absurd simulates

pub asked : (form : CommandForm) → asks (words_of form) ≡ true → IsSimulation form
unfolding asks
asked (replay _ _) is = tt
asked (picture _ _) is = tt
asked (sample _ _ _) is = tt
asked (draw _ _ _) is = tt
asked (settle _ _) is = tt
asked (stubs _) is = absurd (let clash : false ≡ true = is in cc)
asked (run _) is = absurd (let clash : false ≡ true = is in cc)
asked (node _ _ _) is = absurd (let clash : false ≡ true = is in cc)
asked (place _) is = absurd (let clash : false ≡ true = is in cc)
asked (audit _ _) is = absurd (let clash : false ≡ true = is in cc)

pub simulated_written : (contents : List ℕ → Option (List ℕ)) (words : List (List ℕ)) (ending : Ending) → IsDueLast contents words (finish ending) → ending.status ≡ Done → AskToSimulate words
    → (plan : Plan) × (lines : List Line) × (last : WorldState Behaviour) × IsOfWorld contents words plan lines last ending.text
simulated_written contents words ending due done (form, of, simulates) = by_due due.is_due
  where
    by_due : IsDue (Some contents) words (finish ending) → (plan : Plan) × (lines : List Line) × (last : WorldState Behaviour) × IsOfWorld contents words plan lines last ending.text
    by_due (inl some) =
        form_written contents words ending done some.form some.of_form
        (asked some.form (ap asks (sym some.of_form.spelled ∙ of.spelled) ∙ asking form simulates))
        (of_form contents some.form some.files (finish ending) some.fetched some.is_due due.last)
    by_due (inr (none, is)) = absurd (none form of)
