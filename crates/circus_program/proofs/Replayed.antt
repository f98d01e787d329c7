-- A replay of the lines of a sample comes to the world of the sample.
use Rattle.std.proofs.Common.{◌≡◌, ℕ, ◌≤◌, inl, All, Option, List, [], ◌∷◌, length, refl, sym, ap, subst, ◌∙◌, arith, Ok}
use Rattle.std.specs.Option.{option_map_or}
use Rattle.std.proofs.lemmas.List.Elements.{All-nil, All-cons}
use Rattle.circus_value.specs.ValueTree.{ValueTree}
use Rattle.circus_value.specs.declared.outcome.Outcome.{Outcome}
use Rattle.circus_collate.specs.declared.deployment.Host.{Host}
use Rattle.circus_model.specs.NextTurn.{NextTurn}
use Rattle.circus_model.specs.declared.signature.Signature.{Signature}
use Rattle.circus_record.specs.Naming.{host_name}
use Rattle.circus_node.specs.Alike.{declared_of, turn_of}
use Rattle.circus_schedule.specs.declared.line.Line.{Line}
use Rattle.circus_schedule.specs.Meaning.{NamesBelow}
use Rattle.circus_schedule.specs.ScheduleText.{lines_text, AreCalled}
use Rattle.circus_schedule.proofs.ReadBack.{read_back}
use Rattle.circus_world.specs.WorldState.{WorldState}
use Rattle.circus_world.specs.Lines.{Lead}
use Rattle.circus_config.specs.declared.plan.Plan.{Plan}
use Rattle.circus_config.specs.Program.{IsPlan}
use Rattle.circus_commands.specs.declared.status.Status.TheVariants.{Done}
use Rattle.circus_commands.specs.Ending.{Ending}
use Rattle.circus_simulation.specs.Booted.{names_in}
use Rattle.circus_simulation.specs.Schedule.{lines_of_sample, schedule_of}
use Rattle.circus_simulation.proofs.SteppingLines.{stepped_keeps}
use Rattle.circus_program.specs.Form.{most_steps, draw}
use Rattle.circus_program.specs.Answer.{finish}
use Rattle.circus_program.specs.Last.{IsDueLast, IsLines}
use Rattle.circus_program.specs.Worlds.{AreLed}
use Rattle.circus_program.specs.Replayed.{IsReplayed, AreShort}
use Rattle.circus_program.proofs.OneDue.{one_due}
use Rattle.circus_program.proofs.Reports.{led_reported}
use Rattle.circus_program.proofs.SampleEnds.{lines_end_alike}
use Rattle.circus_program.proofs.Simulated.{boots_nodes, is_drawn, same_end}

module _ {M : Type 0} (declared : M → Signature) (turn : M → List ValueTree → ℕ → List ValueTree → List Outcome → NextTurn) where
  -- lines that lead from a world name nodes of it
  lines_named : (count : ℕ) (lines : List Line) (w last : WorldState M) → length w.nodes ≡ count → Lead declared turn lines w last → All (NamesBelow count) lines
  lines_named count [] w last nodes lead = All-nil (NamesBelow count)
  lines_named count (line ∷ lines) w last nodes (next, leads, lead) =
      All-cons (NamesBelow count) line lines (subst (λ n. NamesBelow n line) nodes leads.named)
      (lines_named count lines next last ((stepped_keeps declared turn line w next leads.stepped_is).nodes ∙ nodes) lead)

-- nodes are called by their names
called : (plan : Plan) → AreCalled plan.deployment.nodes (names_in plan).node
called plan = λ number node there. ap (λ (o : Option Host). option_map_or host_name o []) there

pub is_replayed : (plan : Plan) (seed steps : ℕ) → IsPlan plan → steps ≤ most_steps → AreShort plan seed steps → (schedule_of plan seed steps).status ≡ Done
    → IsReplayed plan seed steps (schedule_of plan seed steps).text
is_replayed plan seed steps is few short done =
    let nodes = plan.deployment.nodes in
    let lines = lines_of_sample plan seed steps in
    let d = is_drawn plan seed steps is.deployed.some_nodes (sym (lines_end_alike plan seed steps) ∙ done) in
    let below = lines_named declared_of turn_of (length nodes) lines d.begun d.last (boots_nodes plan d.begun d.booted_is) d.lead in
    let read = read_back plan.deployment (names_in plan).node is.deployed (called plan) lines below (short done) (omega (arith, d.count, few)) in
    let led : AreLed plan lines d.last = record { begun = d.begun; booted_is = d.booted_is; lead = d.lead } in
    let text : (schedule_of plan seed steps).text ≡ lines_text (names_in plan).node lines = ap (λ (e : Ending). e.text) d.listed_is in
    subst (IsReplayed plan seed steps) (sym text) (record {
      last = d.last;
      replayed = (Ok lines, read, sym (led_reported plan lines d.last led));
      sampled = d.summed_is;
    })

-- what is due where words ask for lines
pub due_replayed : (contents : List ℕ → Option (List ℕ)) (words : List (List ℕ)) (plan : Plan) (seed steps : ℕ) (text : List ℕ) (l : IsLines contents words plan seed steps) → IsPlan plan → AreShort plan seed steps
    → IsDueLast contents words (finish (record { status = Done; text = text })) → IsReplayed plan seed steps text
due_replayed contents words plan seed steps text l is short due =
    let ending : Ending = record { status = Done; text = text } in
    let own : IsDueLast contents words (finish (schedule_of plan seed steps)) = record {
      is_due = inl (record { form = draw l.program seed steps; of_form = l.of_form; files = l.bytes ∷ []; fetched = (l.program_is, tt); is_due = inl (plan, l.good, refl) });
      last = tt;
    } in
    let same : ending ≡ schedule_of plan seed steps = same_end ending (schedule_of plan seed steps) (one_due contents words (finish ending) (finish (schedule_of plan seed steps)) due own) in
    subst (IsReplayed plan seed steps) (sym (ap (λ (e : Ending). e.text) same))
    (is_replayed plan seed steps is l.of_form.in_range.2 short (sym (ap (λ (e : Ending). e.status) same)))
