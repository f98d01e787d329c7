-- The copies agree in what is written, since what is promised of worlds is kept.
use Rattle.std.proofs.Common.{◌≡◌, ℕ, inl, inr, ◌⊎◌, true, Option, Some, None, List, length, refl, sym, ap, ◌∙◌}
use Rattle.std.specs.Prelude.{slice_get, option_map}
use Rattle.std.proofs.lemmas.Option.{none-some, same_Some, slice_get-map}
use Rattle.circus_collate.specs.declared.deployment.Deployment.{Deployment}
use Rattle.circus_collate.specs.declared.deployment.Host.{Host}
use Rattle.circus_model.specs.Behaviour.{Behaviour}
use Rattle.circus_model.specs.Agree.{IsAt}
use Rattle.circus_model.specs.Execution.{history_of}
use Rattle.circus_record.specs.declared.record.MemberRecord.{MemberRecord}
use Rattle.circus_performing.specs.Performing.{is_active}
use Rattle.circus_node.specs.Accepting.{troupe_at}
use Rattle.circus_node.specs.Alike.{declared_of, turn_of}
use Rattle.circus_schedule.specs.declared.line.Line.{Line}
use Rattle.circus_world.specs.WorldState.{WorldState, Standing}
use Rattle.circus_world.proofs.LineLemmas.{deployment_stays}
use Rattle.circus_member_theory.specs.Stands.{Stands}
use Rattle.circus_world_theory.specs.Agreeing.{RecordsStand}
use Rattle.circus_config.specs.declared.plan.Plan.{Plan}
use Rattle.circus_plan_modules.specs.Loaded.{behaviours_in}
use Rattle.circus_headline_theory.specs.Facts.{NodeFacts, AllStand, report_of, settled_of, node_facts, facts_of}
use Rattle.circus_headline_theory.proofs.Told.{report_is_told, summary_is_told, settled_is_told}
use Rattle.circus_commands.specs.declared.status.Status.TheVariants.{Done}
use Rattle.circus_commands.specs.Ending.{Ending}
use Rattle.circus_simulation.specs.Booted.{names_in}
use Rattle.circus_program.specs.Form.{picture, draw}
use Rattle.circus_program.specs.Replay.{replay_of}
use Rattle.circus_program.specs.Worlds.{AreLed, AskForRecords, IsWrittenBySome}
use Rattle.circus_program.specs.Promise.{IsKept, IsKeptSoFar, IsKeptOfSchedule}
use Rattle.circus_program.specs.Agreeing.{report_of_facts, IsReportOf, IsSummaryOf, IsSettledOf, IsAgreed, IsAgreedSoFar, IsCutSoFar}
use Rattle.circus_program.proofs.Reports.{booted_nodes, led_reported}
use Rattle.circus_program.proofs.Telling.{no_records}

-- ---- of a world

module _ (plan : Plan) (lines : List Line) (last : WorldState Behaviour) (led : AreLed plan lines last) where
  nodes_are : last.deployment.nodes ≡ plan.deployment.nodes
  nodes_are =
      ap (λ (d : Deployment). d.nodes) (deployment_stays declared_of turn_of lines led.begun last led.lead)
      ∙ booted_nodes plan led.begun led.booted_is

  replay_is : replay_of plan lines ≡ record { status = Done; text = report_of_facts plan (facts_of last) }
  replay_is =
      let told : List ℕ → Ending = λ text. record { status = Done; text = text } in
      led_reported plan lines last led
      ∙ ap told (report_is_told (names_in plan) last ∙ ap (λ (hs : List Host). report_of (names_in plan) hs (facts_of last)) nodes_are)

-- ---- in full

pub agreed_of_kept : (contents : List ℕ → Option (List ℕ)) (words : List (List ℕ)) (text : List ℕ) → AskForRecords words → IsKept contents words text → IsAgreed contents words text
agreed_of_kept contents words text tells k =
    record {
      plan = k.plan;
      lines = k.lines;
      facts = facts_of k.last;
      headline = k.kept.headline;
      written = by_form k.of_world.written;
    }
  where
    nodes : k.last.deployment.nodes ≡ k.plan.deployment.nodes
    nodes = nodes_are k.plan k.lines k.last k.of_world.led

    by_form : IsWrittenBySome contents words k.plan k.lines k.last text
        → IsReportOf contents words k.plan k.lines (facts_of k.last) text
        ⊎ (IsSummaryOf contents words k.plan k.lines (facts_of k.last) text ⊎ IsSettledOf contents words k.plan k.lines (facts_of k.last) text)
    by_form (inl (schedule, replayed, read, so)) =
        inl (schedule, replayed, read, so ∙ report_is_told (names_in k.plan) k.last ∙ ap (λ (hs : List Host). report_of (names_in k.plan) hs (facts_of k.last)) nodes)
    by_form (inr (inl (seed, steps, begun, drawn, lines_are, count, booted_is, sampled_is, so))) = inr (inl (seed, steps, drawn, lines_are, so ∙ summary_is_told (names_in k.plan) steps k.last))
    by_form (inr (inr (inr (inl (seed, steps, begun, l, lines_are, count, booted_is, sampled_is, so))))) = no_records words (draw l.program seed steps) tells l.of_form (λ told. told)
    by_form (inr (inr (inr (inr (schedule, p, read, so))))) = no_records words (picture p.program p.name) tells p.of_form (λ told. told)
    by_form (inr (inr (inl (deliveries, settles, few, lines_are, so)))) =
        inr (inr (
          deliveries,
          settles,
          lines_are,
          so
              ∙ settled_is_told (names_in k.plan) (length k.last.sent) k.last
              ∙ ap (λ (hs : List Host). settled_of (names_in k.plan) hs (length k.last.sent) (facts_of k.last)) nodes,
        ))

-- ---- so far

pub agreed_so_far : (plan : Plan) (lines : List Line) (text : List ℕ) → IsKeptSoFar plan lines text → IsAgreedSoFar plan lines text
agreed_so_far plan lines text k = record {
  before = k.before;
  line = k.line;
  others = k.others;
  lines_are = k.lines_are;
  facts = facts_of k.last;
  headline = k.kept.headline;
  reported_is = replay_is plan k.before k.last k.led;
  last = k.said;
  written = k.written;
}

pub cut_so_far : (plan : Plan) (schedule text : List ℕ) → IsKeptOfSchedule plan schedule text → IsCutSoFar plan schedule text
cut_so_far plan schedule text (inl fault) = inl fault
cut_so_far plan schedule text (inr (inl at_boot)) = inr (inl at_boot)
cut_so_far plan schedule text (inr (inr (lines, answer, kept))) = inr (inr (lines, answer, agreed_so_far plan lines text kept))
