-- What is promised of worlds is kept, and so of what is written of them.
use Rattle.std.proofs.Common.{◌≡◌, ℕ, ◌+◌, ◌<◌, arith, inl, inr, ◌⊎◌, Option, Some, List, length, sym, ap, subst, ◌∙◌, Ok, Err}
use Rattle.std.proofs.lemmas.Option.{same_Some}
use Rattle.circus_model.specs.Behaviour.{Behaviour}
use Rattle.circus_schedule.specs.declared.line.Line.{Line}
use Rattle.circus_world.specs.WorldState.{WorldState}
use Rattle.circus_world_theory.specs.Worlds.{IsPlainWorldOf}
use Rattle.circus_world_theory.proofs.Plain.{plain_records_stand}
use Rattle.circus_world_theory.proofs.PlainMessages.{plain_asks_are_true, plain_returns_are_true, plain_others_cite_nothing, plain_none_differ}
use Rattle.circus_world_theory.proofs.Timely.Plain.{plain_records_are_timely}
use Rattle.circus_headline_theory.proofs.Runs.{plain_worlds_keep_the_headline}
use Rattle.circus_world_theory.proofs.Quiescence.Plain.{plain_roots_are_done, plain_few_sent}
use Rattle.circus_settle.proofs.AllDelivered.{alone, first_once}
use Rattle.circus_config.specs.declared.plan.Plan.{Plan}
use Rattle.circus_config.specs.Program.{IsProgramOf, IsPlan}
use Rattle.circus_config.proofs.PlanIs.{plan_is}
use Rattle.circus_plan_modules.specs.Loaded.{behaviours_in}
use Rattle.circus_plan_theory.proofs.Plan.{plan_agrees, plan_modules}
use Rattle.circus_plan_theory.proofs.Troupes.{plan_of_troupes}
use Rattle.circus_plan_theory.proofs.Hosted.{plan_hosted}
use Rattle.circus_commands.specs.declared.status.Status.TheVariants.{Done, BadSchedule, Spent}
use Rattle.circus_commands.specs.Ending.{Ending}
use Rattle.circus_commands.proofs.OneProgram.{good_or_refused}
use Rattle.circus_commands.specs.Refusal.{IsEndOfRefused}
use Rattle.circus_commands.specs.Spent.{end_of_spent}
use Rattle.circus_simulation.specs.Booted.{names_in}
use Rattle.circus_program.specs.Form.{replay}
use Rattle.circus_program.specs.declared.shown.Shown.TheVariants.{Report}
use Rattle.circus_program.specs.declared.second.Second.TheVariants.{Schedule}
use Rattle.circus_program.specs.Replay.{IsEndOfReplay, replay_of, cause_text, refuse_line}
use Rattle.circus_program.specs.Answer.{fetch, finish}
use Rattle.circus_settle.specs.Settled.{first_deliveries}
use Rattle.circus_program.specs.Last.{IsDueLast, IsReplay, HasLeft}
use Rattle.circus_program.specs.Worlds.{AreLed, IsCutBySpending, IsSpentAtBoot, AskToSimulate, IsWrittenBySome, IsOfWorld}
use Rattle.circus_program.specs.Promise.{hosted_in, KeepsPromise, IsKept, IsKeptSoFar, IsKeptOfSchedule, enough_deliveries}
use Rattle.circus_program.proofs.PlanOne.{plan_is_one}
use Rattle.circus_program.proofs.OneDue.{OfProgram, OfSecond, of_replaying}
use Rattle.circus_program.proofs.Reports.{is_cut_by_refusal, is_cut_by_spending}
use Rattle.circus_program.proofs.Simulated.{simulated_written}

-- ---- of a world

pub plain_world : (plan : Plan) (lines : List Line) (last : WorldState Behaviour) → IsPlan plan → (led : AreLed plan lines last)
    → IsPlainWorldOf plan.deployment (behaviours_in plan) (hosted_in plan) lines led.begun last
plain_world plan lines last is led = record {
  deployment = is.deployed;
  troupes = plan_of_troupes plan is;
  modules = plan_modules plan is;
  agree = plan_agrees plan is;
  hosts = plan_hosted plan;
  boots = led.booted_is;
  leads = led.lead;
}

pub keeps_promise : (plan : Plan) (lines : List Line) (last : WorldState Behaviour) → IsPlan plan → (led : AreLed plan lines last) → KeepsPromise plan lines last led
keeps_promise plan lines last is led =
    let world = plain_world plan lines last is led in
    record {
      headline = plain_worlds_keep_the_headline plan.deployment (behaviours_in plan) (hosted_in plan) lines led.begun last world;
      stand = plain_records_stand plan.deployment (behaviours_in plan) (hosted_in plan) lines led.begun last world;
      timely = plain_records_are_timely plan.deployment (behaviours_in plan) (hosted_in plan) lines led.begun last world;
      asks = plain_asks_are_true plan.deployment (behaviours_in plan) (hosted_in plan) lines led.begun last world;
      returns = plain_returns_are_true plan.deployment (behaviours_in plan) (hosted_in plan) lines led.begun last world;
      others = plain_others_cite_nothing plan.deployment (behaviours_in plan) (hosted_in plan) lines led.begun last world;
      none_differ = plain_none_differ plan.deployment (behaviours_in plan) (hosted_in plan) lines led.begun last world;
      ends = plain_roots_are_done plan.deployment (behaviours_in plan) (hosted_in plan) lines led.begun last world;
      few = plain_few_sent plan.deployment (behaviours_in plan) (hosted_in plan) lines led.begun last world;
    }

-- deliveries that leave some of the datagrams are fewer than enough
pub left_few : (plan : Plan) (deliveries : ℕ) → IsPlan plan → HasLeft plan deliveries → deliveries < enough_deliveries plan
left_few plan deliveries is (w, last, booted_is, lead, left) =
    let led : AreLed plan (first_deliveries deliveries) last = record { begun = w; booted_is = booted_is; lead = lead } in
    let few = (keeps_promise plan (first_deliveries deliveries) last is led).few (alone 0 deliveries) (first_once deliveries) in
    omega (arith, few, left)

-- ---- in full

module _ (contents : List ℕ → Option (List ℕ)) (words : List (List ℕ)) where
  -- what words ask for is a plan
  world_plan : (plan : Plan) (lines : List Line) (last : WorldState Behaviour) (text : List ℕ) → IsOfWorld contents words plan lines last text → IsPlan plan
  world_plan plan lines last text of = by_form of.written
    where
      by_form : IsWrittenBySome contents words plan lines last text → IsPlan plan
      by_form (inl (schedule, r, read, so)) = plan_is r.bytes plan r.good
      by_form (inr (inl (seed, steps, begun, d, lines_are, count, booted_is, sampled_is, so))) = plan_is d.bytes plan d.good
      by_form (inr (inr (inr (inl (seed, steps, begun, l, lines_are, count, booted_is, sampled_is, so))))) = plan_is l.bytes plan l.good
      by_form (inr (inr (inr (inr (schedule, r, read, so))))) = plan_is r.bytes plan r.good
      by_form (inr (inr (inl (deliveries, s, few, lines_are, so)))) = plan_is s.bytes plan s.good

  pub ends_kept : (ending : Ending) → IsDueLast contents words (finish ending) → ending.status ≡ Done → AskToSimulate words → IsKept contents words ending.text
  ends_kept ending due done simulates =
      let (plan, lines, last, of) = simulated_written contents words ending due done simulates in
      record {
        plan = plan;
        lines = lines;
        last = last;
        of_world = of;
        kept = keeps_promise plan lines last (world_plan plan lines last ending.text of) of.led;
      }

-- ---- so far

pub refused_kept : (plan : Plan) (lines : List Line) → IsPlan plan → (replay_of plan lines).status ≡ BadSchedule → IsKeptSoFar plan lines (replay_of plan lines).text
refused_kept plan lines is bad =
    let cut = is_cut_by_refusal plan lines bad in
    record {
      before = cut.before;
      line = cut.line;
      others = cut.others;
      lines_are = cut.lines_are;
      last = cut.last;
      led = cut.led;
      kept = keeps_promise plan cut.before cut.last is cut.led;
      said = (refuse_line (1 + length cut.before) (cause_text (names_in plan) cut.cause)).text;
      written = cut.written;
    }

pub spent_kept : (plan : Plan) (lines : List Line) → IsPlan plan → (replay_of plan lines).status ≡ Spent → IsSpentAtBoot plan (replay_of plan lines).text ⊎ IsKeptSoFar plan lines (replay_of plan lines).text
spent_kept plan lines is out = by_cut (is_cut_by_spending plan lines out)
  where
    by_cut : IsSpentAtBoot plan (replay_of plan lines).text ⊎ IsCutBySpending plan lines (replay_of plan lines).text → IsSpentAtBoot plan (replay_of plan lines).text ⊎ IsKeptSoFar plan lines (replay_of plan lines).text
    by_cut (inl at_boot) = inl at_boot
    by_cut (inr cut) = inr (record {
      before = cut.before;
      line = cut.line;
      others = cut.others;
      lines_are = cut.lines_are;
      last = cut.last;
      led = cut.led;
      kept = keeps_promise plan cut.before cut.last is cut.led;
      said = (end_of_spent (names_in plan) cut.nodes).text;
      written = cut.written;
    })

-- lines that end with either status
cut_kept : (plan : Plan) (lines : List Line) → IsPlan plan → ((replay_of plan lines).status ≡ BadSchedule) ⊎ ((replay_of plan lines).status ≡ Spent)
    → IsSpentAtBoot plan (replay_of plan lines).text ⊎ IsKeptSoFar plan lines (replay_of plan lines).text
cut_kept plan lines is (inl bad) = inr (refused_kept plan lines is bad)
cut_kept plan lines is (inr out) = spent_kept plan lines is out

module _ (contents : List ℕ → Option (List ℕ)) (words : List (List ℕ)) (plan : Plan) (schedule : List ℕ) (r : IsReplay contents words plan schedule) where
  same_bytes : (name one other : List ℕ) → contents name ≡ Some one → contents name ≡ Some other → one ≡ other
  same_bytes name one other first second = same_Some one other (sym first ∙ second)

  -- what comes of the replay is the end of its schedule
  schedule_end : (ending : Ending) → OfSecond contents (Schedule Report) r.name plan (finish ending) → IsEndOfReplay Report plan schedule ending
  schedule_end ending (inl (none, is)) = absurd (let clash : finish ending ≡ fetch r.name = is in cc)
  schedule_end ending (inr (text, here, (other, end, is))) =
      let same : other ≡ ending = (let finishes : finish ending ≡ finish other = is in cc) in
      subst (λ t. IsEndOfReplay Report plan t ending) (same_bytes r.name text schedule here r.second_is) (subst (λ (e : Ending). IsEndOfReplay Report plan text e) same end)

  replay_end : (ending : Ending) → OfProgram contents r.program (OfSecond contents (Schedule Report) r.name) (finish ending) → IsEndOfReplay Report plan schedule ending
  replay_end ending (inl (none, is)) = absurd (let clash : finish ending ≡ fetch r.program = is in cc)
  replay_end ending (inr (bytes, there, inl (again, means, next))) =
      let same = same_bytes r.program bytes r.bytes there r.program_is in
      let one = plan_is_one r.bytes again plan (subst (λ b. IsProgramOf b again) same means) r.good in
      schedule_end ending (subst (λ (p : Plan). OfSecond contents (Schedule Report) r.name p (finish ending)) one next)
  replay_end ending (inr (bytes, there, inr (other, bad, is))) =
      let same = same_bytes r.program bytes r.bytes there r.program_is in
      absurd (good_or_refused r.bytes plan other r.good (subst (λ b. IsEndOfRefused b other) same bad))

  pub kept_so_far : (ending : Ending) → IsPlan plan → IsDueLast contents words (finish ending) → (ending.status ≡ BadSchedule) ⊎ (ending.status ≡ Spent) → IsKeptOfSchedule plan schedule ending.text
  kept_so_far ending is due status = by_end (replay_end ending (of_replaying contents words r.program r.name (finish ending) r.of_form due))
    where
      by_end : IsEndOfReplay Report plan schedule ending → IsKeptOfSchedule plan schedule ending.text
      by_end (Err fault, answer, so) = inl (fault, answer)
      by_end (Ok lines, answer, so) = by_cut (cut_kept plan lines is (subst (λ (e : Ending). (e.status ≡ BadSchedule) ⊎ (e.status ≡ Spent)) so status))
        where
          text_is : (replay_of plan lines).text ≡ ending.text
          text_is = sym (ap (λ (e : Ending). e.text) so)

          by_cut : IsSpentAtBoot plan (replay_of plan lines).text ⊎ IsKeptSoFar plan lines (replay_of plan lines).text → IsKeptOfSchedule plan schedule ending.text
          by_cut (inl at_boot) = inr (inl (subst (IsSpentAtBoot plan) text_is at_boot))
          by_cut (inr kept) = inr (inr (lines, answer, subst (IsKeptSoFar plan lines) text_is kept))
