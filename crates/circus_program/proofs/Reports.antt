-- What a replay writes is written of a world to which its lines lead.
use Rattle.std.proofs.Common.{◌≡◌, ℕ, ◌+◌, ◌<◌, ◌⊎◌, inl, inr, Bool, true, false, Option, Some, None, List, [], ◌∷◌, ◌++◌, length, map, drop, refl, sym, ap, subst, ◌∙◌, arith, append_assoc, add-zero, length-append, Ok, Err}
use Rattle.std.specs.Prelude.{slice_get, is_none, is_some, if◌then◌else◌}
use Rattle.std.specs.Option.{option_map_or}
use Rattle.std.proofs.Math.Seq.{drop-length, drop-append_seam}
use Rattle.std.proofs.lemmas.Option.{slice_get_within}
use Rattle.circus_value.specs.ValueTree.{ValueTree}
use Rattle.circus_value.specs.declared.outcome.Outcome.{Outcome}
use Rattle.circus_collate.specs.declared.deployment.Deployment.{Deployment}
use Rattle.circus_collate.specs.declared.deployment.Host.{Host}
use Rattle.circus_model.specs.NextTurn.{NextTurn}
use Rattle.circus_model.specs.Behaviour.{Behaviour}
use Rattle.circus_model.specs.declared.signature.Signature.{Signature}
use Rattle.circus_node.specs.Alike.{declared_of, turn_of, first_of}
use Rattle.circus_record.specs.Naming.{Names, names_of}
use Rattle.circus_record.proofs.LinesMore.{all_append}
use Rattle.circus_schedule.specs.declared.line.Line.{Line}
use Rattle.circus_schedule.specs.declared.line.Line.TheVariants.{Deliver, Tick, Crash, Down, Join}
use Rattle.circus_schedule.specs.Meaning.{NamesBelow}
use Rattle.circus_world.specs.declared.cause.LineCause.{LineCause}
use Rattle.circus_world.specs.declared.cause.LineCause.TheVariants.{NotLive, NotCrashed, NotSpare}
use Rattle.circus_world.specs.Sent.{Sent}
use Rattle.circus_world.specs.WorldState.{WorldState, Standing, is_live, has_crashed}
use Rattle.circus_world.specs.Legal.{refusal, is_spare, unless_told}
use Rattle.circus_world.specs.Course.{Stepped, step_line}
use Rattle.circus_world.specs.Lines.{Leads, Lead}
use Rattle.circus_world.proofs.LineLemmas.{sent_stays, deployment_stays}
use Rattle.circus_report.specs.Report.{first_line, sent_line, sent_lines, rest_text, report_text}
use Rattle.circus_report.specs.Run.{beginning, sent_from}
use Rattle.circus_config.specs.declared.plan.Plan.{Plan}
use Rattle.circus_commands.specs.declared.status.Status.TheVariants.{Done, BadSchedule, Spent}
use Rattle.circus_commands.specs.Ending.{Ending}
use Rattle.circus_commands.specs.Spent.{end_of_spent}
use Rattle.circus_plan_modules.specs.Loaded.{behaviours_in, hosted_by}
use Rattle.circus_simulation.specs.Booted.{boot_world, names_in, after_step}
use Rattle.circus_simulation.proofs.SteppingLines.{booted_joins}
use Rattle.circus_program.specs.Replay.{cause_text, refuse_line, behind, replay_lines, replayed_whole, replay_of, picture_of}
use Rattle.circus_program.specs.Worlds.{AreLed, sent_text, IsReported, IsCutByRefusal, IsCutBySpending, IsSpentAtBoot, IsPictured}
use Rattle.circus_program.proofs.OneLine.{replayed_stepped, replayed_spent, replayed_refused}
use Rattle.circus_program.proofs.Drawn.{picture_status, led_pictured}

-- ---- lines of datagrams

-- they name nodes alone
sent_named : (hosts : List Host) (modules : List (List ℕ)) (number : ℕ) (sent : List Sent) → sent_lines (names_of hosts []) number sent ≡ sent_lines (names_of hosts modules) number sent
sent_named hosts modules number [] = refl
sent_named hosts modules number (s ∷ sent) = ap (λ l. sent_line (names_of hosts modules) number s ++ l) (sent_named hosts modules (number + 1) sent)

-- what was sent in a step, and what was sent behind it
sent_on : (names : Names) (before now last more others : List Sent) → now ≡ before ++ more → last ≡ now ++ others
    → sent_lines names (length before) (drop (length before) now) ++ sent_lines names (length now) (drop (length now) last) ≡ sent_lines names (length before) (drop (length before) last)
sent_on names before now last more others first second =
    let front : drop (length before) now ≡ more = ap (drop (length before)) first ∙ drop-append_seam before more in
    let rest : drop (length now) last ≡ others = ap (drop (length now)) second ∙ drop-append_seam now others in
    let both : drop (length before) last ≡ more ++ others =
    ap (drop (length before)) (second ∙ ap (λ l. l ++ others) first ∙ append_assoc before more others) ∙ drop-append_seam before (more ++ others) in
    let count : length now ≡ length before + length more = ap length first ∙ length-append before more in
    (λ i. sent_lines names (length before) (front i) ++ sent_lines names (count i) (rest i))
    ∙ sym (all_append (sent_lines names) (sent_line names) (λ n. refl) (λ n x xs. refl) (length before) more others)
    ∙ ap (sent_lines names (length before)) (sym both)

-- ---- a line that is not refused names nodes that there are

no_cause : {X : Type 0} (cause : LineCause) → ◌≡◌ {A = Option LineCause} (Some cause) None → X
no_cause cause is = absurd (let clash : ◌≡◌ {A = Option LineCause} (Some cause) None = is in cc)

module _ {M : Type 0} where
  there : (nodes : List (Standing M)) (node : ℕ) (test : Standing M → Bool) → option_map_or test (slice_get nodes node) false ≡ true → node < length nodes
  there nodes node test holds = by_option (slice_get nodes node) refl holds
    where
      by_option : (o : Option (Standing M)) → slice_get nodes node ≡ o → option_map_or test o false ≡ true → node < length nodes
      by_option None at holds = absurd (let clash : false ≡ true = holds in cc)
      by_option (Some s) at holds = slice_get_within nodes node s at

  live_there : (w : WorldState M) (node : ℕ) → refusal w (Tick node) ≡ None → node < length w.nodes
  live_there w node legal = by_test (is_live w node) refl legal
    where
      by_test : (live : Bool) → is_live w node ≡ live → (if live then None else Some (NotLive node)) ≡ None → node < length w.nodes
      by_test true live legal = there w.nodes node (λ s. is_none s.crashed) live
      by_test false live legal = no_cause (NotLive node) legal

  named : (w : WorldState M) (line : Line) → refusal w line ≡ None → NamesBelow (length w.nodes) line
  named w (Deliver number) legal = tt
  named w (Tick node) legal = live_there w node legal
  named w (Crash node) legal = live_there w node legal
  named w (Down node told) legal = by_test (has_crashed w node) refl legal
    where
      by_test : (crashed : Bool) → has_crashed w node ≡ crashed → (if crashed then refusal w (Tick told) else Some (NotCrashed node)) ≡ None
          → (node < length w.nodes) × (told < length w.nodes)
      by_test true crashed legal = (there w.nodes node (λ s. is_some s.crashed) crashed, live_there w told legal)
      by_test false crashed legal = no_cause (NotCrashed node) legal
  named w (Join node) legal = by_spare (is_spare w.deployment node) legal
    where
      by_live : (live : Bool) → is_live w node ≡ live → (if live then unless_told w node else Some (NotLive node)) ≡ None → node < length w.nodes
      by_live true live legal = there w.nodes node (λ s. is_none s.crashed) live
      by_live false live legal = no_cause (NotLive node) legal

      by_spare : (spare : Bool) → (if spare then (if is_live w node then unless_told w node else Some (NotLive node)) else Some (NotSpare node)) ≡ None → node < length w.nodes
      by_spare true legal = by_live (is_live w node) refl legal
      by_spare false legal = no_cause (NotSpare node) legal

-- ---- lines

module _ {M : Type 0} (declared : M → Signature) (turn : M → List ValueTree → ℕ → List ValueTree → List Outcome → NextTurn) (hosts : List Host) (modules : List (List ℕ)) where
  abbrev names : Names
  names = names_of hosts modules

  -- the lines of what was sent between two worlds
  abbrev sent_between : WorldState M → WorldState M → List ℕ
  sent_between w last = sent_lines names (length w.sent) (drop (length w.sent) last.sent)

  -- how lines end, the first of which has this number
  data Ends (number : ℕ) (lines : List Line) (w : WorldState M) (ending : Ending) : Type 0 where
    completes : (last : WorldState M) → Lead declared turn lines w last
        → ending ≡ behind (sent_between w last) (record { status = Done; text = rest_text names last }) → Ends number lines w ending
    refuses : (before : List Line) (line : Line) (others : List Line) (last : WorldState M) (cause : LineCause) → lines ≡ before ++ line ∷ others → Lead declared turn before w last
        → refusal last line ≡ Some cause → ending ≡ behind (sent_between w last) (refuse_line (number + length before) (cause_text names cause)) → Ends number lines w ending
    spends : (before : List Line) (line : Line) (others : List Line) (last : WorldState M) (nodes : ℕ × ℕ) → lines ≡ before ++ line ∷ others → Lead declared turn before w last
        → refusal last line ≡ None → step_line declared turn line last ≡ Err nodes → ending ≡ behind (sent_between w last) (end_of_spent names nodes) → Ends number lines w ending

  -- nothing was sent meanwhile
  none_sent : (w : WorldState M) (ending : Ending) → ending ≡ behind (sent_between w w) ending
  none_sent w ending = sym (ap (λ (l : List Sent). behind (sent_lines names (length w.sent) l) ending) (drop-length w.sent))

  -- what is written of a step, and behind it
  joined : (line : Line) (lines : List Line) (w next last : WorldState M) (ending : Ending) → w.deployment.nodes ≡ hosts → Leads declared turn line w next → Lead declared turn lines next last
      → behind (sent_from (length w.sent) next) (behind (sent_between next last) ending) ≡ behind (sent_between w last) ending
  joined line lines w next last ending deployed leads lead =
      let one : Lead declared turn (line ∷ []) w next = (next, leads, refl) in
      let first = sent_stays declared turn (line ∷ []) w next one in
      let second = sent_stays declared turn lines next last lead in
      let nodes : next.deployment.nodes ≡ hosts = ap (λ (d : Deployment). d.nodes) (deployment_stays declared turn (line ∷ []) w next one) ∙ deployed in
      let told : List ℕ → Ending = λ text. record { status = ending.status; text = text } in
      let step : sent_from (length w.sent) next ≡ sent_between w next =
      ap (λ (hs : List Host). sent_lines (names_of hs []) (length w.sent) (drop (length w.sent) next.sent)) nodes
      ∙ sent_named hosts modules (length w.sent) (drop (length w.sent) next.sent) in
      ap told (
      sym (append_assoc (sent_from (length w.sent) next) (sent_between next last) ending.text)
      ∙ ap (λ l. (l ++ sent_between next last) ++ ending.text) step
      ∙ ap (λ l. l ++ ending.text) (sent_on names w.sent next.sent last.sent first.0 second.0 first.1 second.1))

  later : (number : ℕ) (line : Line) (lines : List Line) (w next : WorldState M) (ending : Ending) → w.deployment.nodes ≡ hosts → Leads declared turn line w next
      → Ends (number + 1) lines next ending → Ends number (line ∷ lines) w (behind (sent_from (length w.sent) next) ending)
  later number line lines w next ending deployed leads (completes last lead is) =
      completes last (next, leads, lead) (ap (behind (sent_from (length w.sent) next)) is ∙ joined line lines w next last _ deployed leads lead)
  later number line lines w next ending deployed leads (refuses before at others last cause are lead refusal_is is) =
      let place : number + 1 + length before ≡ number + length (line ∷ before) = omega arith in
      refuses (line ∷ before) at others last cause (ap (λ l. line ∷ l) are) (next, leads, lead) refusal_is
      (ap (behind (sent_from (length w.sent) next)) is
      ∙ joined line before w next last _ deployed leads lead
      ∙ ap (λ k. behind (sent_between w last) (refuse_line k (cause_text names cause))) place)
  later number line lines w next ending deployed leads (spends before at others last nodes are lead legal stepped_is is) =
      spends (line ∷ before) at others last nodes (ap (λ l. line ∷ l) are) (next, leads, lead) legal stepped_is
      (ap (behind (sent_from (length w.sent) next)) is ∙ joined line before w next last _ deployed leads lead)

  abbrev End : ℕ → List Line → WorldState M → Ending
  End number lines w = replay_lines declared turn names number lines w

  refuses_first : (number : ℕ) (line : Line) (lines : List Line) (w : WorldState M) (cause : LineCause) → refusal w line ≡ Some cause → Ends number (line ∷ lines) w (End number (line ∷ lines) w)
  refuses_first number line lines w cause is =
      let end : Ending = refuse_line (number + 0) (cause_text names cause) in
      refuses [] line lines w cause refl refl is
      (replayed_refused declared turn names number line lines w cause is
      ∙ ap (λ k. refuse_line k (cause_text names cause)) (sym (add-zero number))
      ∙ none_sent w end)

  spends_first : (number : ℕ) (line : Line) (lines : List Line) (w : WorldState M) (nodes : ℕ × ℕ) → refusal w line ≡ None → step_line declared turn line w ≡ Err nodes
      → Ends number (line ∷ lines) w (End number (line ∷ lines) w)
  spends_first number line lines w nodes legal is =
      spends [] line lines w nodes refl refl legal is (replayed_spent declared turn names number line lines w nodes legal is ∙ none_sent w (end_of_spent names nodes))

  goes_on : (number : ℕ) (line : Line) (lines : List Line) (w next : WorldState M) → w.deployment.nodes ≡ hosts → refusal w line ≡ None → step_line declared turn line w ≡ Ok next
      → (next.deployment.nodes ≡ hosts → Ends (number + 1) lines next (End (number + 1) lines next)) → Ends number (line ∷ lines) w (End number (line ∷ lines) w)
  goes_on number line lines w next deployed legal is others =
      let leads : Leads declared turn line w next = record { named = named w line legal; legal = legal; stepped_is = is } in
      let nodes : next.deployment.nodes ≡ hosts = ap (λ (d : Deployment). d.nodes) (deployment_stays declared turn (line ∷ []) w next (next, leads, refl)) ∙ deployed in
      subst (λ (e : Ending). Ends number (line ∷ lines) w e) (sym (replayed_stepped declared turn names number line lines w next legal is))
      (later number line lines w next (End (number + 1) lines next) deployed leads (others nodes))

  lines_end : (number : ℕ) (lines : List Line) (w : WorldState M) → w.deployment.nodes ≡ hosts → Ends number lines w (End number lines w)
  lines_end number [] w deployed = completes w refl (none_sent w (record { status = Done; text = rest_text names w }))
  lines_end number (line ∷ lines) w deployed =
      elim (refusal w line) as (λ o. refusal w line ≡ o → Ends number (line ∷ lines) w (End number (line ∷ lines) w)) [
        | Some cause ↦ λ is. refuses_first number line lines w cause is
        | None ↦ λ legal. elim (step_line declared turn line w) as (λ s. step_line declared turn line w ≡ s → Ends number (line ∷ lines) w (End number (line ∷ lines) w)) [
          | Ok next ↦ λ is. goes_on number line lines w next deployed legal is (λ nodes. lines_end (number + 1) lines next nodes)
          | Err nodes ↦ λ is. spends_first number line lines w nodes legal is
        ] refl
      ] refl

  -- ---- with the beginning

  -- what was sent before, and behind it
  begins : (w last : WorldState M) (lines : List Line) (ending : Ending) → w.deployment.nodes ≡ hosts → Lead declared turn lines w last
      → behind (beginning w) (behind (sent_between w last) ending) ≡ behind (sent_text names last) ending
  begins w last lines ending deployed lead =
      let more = sent_stays declared turn lines w last lead in
      let told : List ℕ → Ending = λ text. record { status = ending.status; text = text } in
      let step : sent_lines (names_of w.deployment.nodes []) 0 w.sent ≡ sent_lines names 0 w.sent =
      ap (λ (hs : List Host). sent_lines (names_of hs []) 0 w.sent) deployed ∙ sent_named hosts modules 0 w.sent in
      ap told (
      sym (append_assoc (beginning w) (sent_between w last) ending.text)
      ∙ ap (λ l. ((first_line ++ l) ++ sent_between w last) ++ ending.text) step
      ∙ ap (λ l. l ++ ending.text) (
      append_assoc first_line (sent_lines names 0 w.sent) (sent_between w last)
      ∙ ap (λ l. first_line ++ l) (sent_on names [] w.sent last.sent w.sent more.0 refl more.1)))

-- ---- of a plan

-- its world at boot has its nodes
pub booted_nodes : (plan : Plan) (w : WorldState Behaviour) → boot_world plan ≡ Ok w → w.deployment.nodes ≡ plan.deployment.nodes
booted_nodes plan w is =
    let joined = booted_joins declared_of turn_of first_of (map (hosted_by (behaviours_in plan)) plan.deployment.nodes) plan.deployment (behaviours_in plan) w is in
    ap (λ (d : Deployment). d.nodes) joined.deployment

-- how a replay ends
data Reports (plan : Plan) (lines : List Line) (ending : Ending) : Type 0 where
  reported : ending.status ≡ Done → IsReported plan lines ending.text → Reports plan lines ending
  cut_by_refusal : ending.status ≡ BadSchedule → IsCutByRefusal plan lines ending.text → Reports plan lines ending
  cut_by_spending : ending.status ≡ Spent → IsSpentAtBoot plan ending.text ⊎ IsCutBySpending plan lines ending.text → Reports plan lines ending

behind_boot : (plan : Plan) (lines : List Line) (w : WorldState Behaviour) (ending end : Ending) → boot_world plan ≡ Ok w → ending ≡ behind (beginning w) end
    → Ends declared_of turn_of plan.deployment.nodes plan.names 1 lines w end → Reports plan lines ending
behind_boot plan lines w ending end is whole (completes last lead end_is) =
    let same = whole ∙ ap (behind (beginning w)) end_is ∙ begins declared_of turn_of plan.deployment.nodes plan.names w last lines _ (booted_nodes plan w is) lead in
    reported (ap (λ (e : Ending). e.status) same)
    (record { last = last; led = record { begun = w; booted_is = is; lead = lead }; written = ap (λ (e : Ending). e.text) same })
behind_boot plan lines w ending end is whole (refuses before line others last cause are lead refusal_is end_is) =
    let same = whole ∙ ap (behind (beginning w)) end_is ∙ begins declared_of turn_of plan.deployment.nodes plan.names w last before _ (booted_nodes plan w is) lead in
    cut_by_refusal (ap (λ (e : Ending). e.status) same)
    (record {
      before = before;
      line = line;
      others = others;
      lines_are = are;
      last = last;
      led = record { begun = w; booted_is = is; lead = lead };
      cause = cause;
      refusal_is = refusal_is;
      written = ap (λ (e : Ending). e.text) same;
    })
behind_boot plan lines w ending end is whole (spends before line others last nodes are lead legal stepped_is end_is) =
    let same = whole ∙ ap (behind (beginning w)) end_is ∙ begins declared_of turn_of plan.deployment.nodes plan.names w last before _ (booted_nodes plan w is) lead in
    cut_by_spending (ap (λ (e : Ending). e.status) same)
    (inr (record {
      before = before;
      line = line;
      others = others;
      lines_are = are;
      last = last;
      led = record { begun = w; booted_is = is; lead = lead };
      legal = legal;
      nodes = nodes;
      stepped_is = stepped_is;
      written = ap (λ (e : Ending). e.text) same;
    }))

abbrev from_boot : Plan → List Line → Stepped Behaviour → Ending
from_boot plan lines s = after_step (names_in plan) (replayed_whole declared_of turn_of (names_in plan) lines) s

reports : (plan : Plan) (lines : List Line) → Reports plan lines (replay_of plan lines)
reports plan lines =
    elim (boot_world plan) as (λ s. boot_world plan ≡ s → Reports plan lines (from_boot plan lines s)) [
      | Ok w ↦ λ is. behind_boot plan lines w (from_boot plan lines (Ok w)) _ is refl (lines_end declared_of turn_of plan.deployment.nodes plan.names 1 lines w (booted_nodes plan w is))
      | Err nodes ↦ λ is. cut_by_spending refl (inl (nodes, is, refl))
    ] refl

-- ---- by status

pub is_reported : (plan : Plan) (lines : List Line) → (replay_of plan lines).status ≡ Done → IsReported plan lines (replay_of plan lines).text
is_reported plan lines same = elim (reports plan lines) [
  | reported done of ↦ of
  | cut_by_refusal bad of ↦ absurd (let clash : BadSchedule ≡ Done = sym bad ∙ same in cc)
  | cut_by_spending out of ↦ absurd (let clash : Spent ≡ Done = sym out ∙ same in cc)
]

pub is_cut_by_refusal : (plan : Plan) (lines : List Line) → (replay_of plan lines).status ≡ BadSchedule → IsCutByRefusal plan lines (replay_of plan lines).text
is_cut_by_refusal plan lines same = elim (reports plan lines) [
  | reported done of ↦ absurd (let clash : Done ≡ BadSchedule = sym done ∙ same in cc)
  | cut_by_refusal bad of ↦ of
  | cut_by_spending out of ↦ absurd (let clash : Spent ≡ BadSchedule = sym out ∙ same in cc)
]

pub is_cut_by_spending : (plan : Plan) (lines : List Line) → (replay_of plan lines).status ≡ Spent
    → IsSpentAtBoot plan (replay_of plan lines).text ⊎ IsCutBySpending plan lines (replay_of plan lines).text
is_cut_by_spending plan lines same = elim (reports plan lines) [
  | reported done of ↦ absurd (let clash : Done ≡ Spent = sym done ∙ same in cc)
  | cut_by_refusal bad of ↦ absurd (let clash : BadSchedule ≡ Spent = sym bad ∙ same in cc)
  | cut_by_spending out of ↦ of
]

-- ---- of lines that lead to a world

-- they are replayed up to their report
led_whole : {M : Type 0} (declared : M → Signature) (turn : M → List ValueTree → ℕ → List ValueTree → List Outcome → NextTurn) (hosts : List Host) (modules : List (List ℕ)) (number : ℕ) (lines : List Line)
    (w last : WorldState M) → w.deployment.nodes ≡ hosts → Lead declared turn lines w last
    → replay_lines declared turn (names_of hosts modules) number lines w ≡ behind (sent_between declared turn hosts modules w last) (record { status = Done; text = rest_text (names_of hosts modules) last })
led_whole declared turn hosts modules number [] w last deployed same =
    let end : Ending = record { status = Done; text = rest_text (names_of hosts modules) w } in
    subst (λ v. end ≡ behind (sent_between declared turn hosts modules w v) (record { status = Done; text = rest_text (names_of hosts modules) v })) (sym same) (none_sent declared turn hosts modules w end)
led_whole declared turn hosts modules number (line ∷ lines) w last deployed (next, leads, lead) =
    let nodes : next.deployment.nodes ≡ hosts = ap (λ (d : Deployment). d.nodes) (deployment_stays declared turn (line ∷ []) w next (next, leads, refl)) ∙ deployed in
    replayed_stepped declared turn (names_of hosts modules) number line lines w next leads.legal leads.stepped_is
    ∙ ap (behind (sent_from (length w.sent) next)) (led_whole declared turn hosts modules (number + 1) lines next last nodes lead)
    ∙ joined declared turn hosts modules line lines w next last (record { status = Done; text = rest_text (names_of hosts modules) last }) deployed leads lead

pub led_reported : (plan : Plan) (lines : List Line) (last : WorldState Behaviour) → AreLed plan lines last → replay_of plan lines ≡ record { status = Done; text = report_text (names_in plan) last }
led_reported plan lines last led =
    let deployed = booted_nodes plan led.begun led.booted_is in
    ap (from_boot plan lines) led.booted_is
    ∙ ap (behind (beginning led.begun)) (led_whole declared_of turn_of plan.deployment.nodes plan.names 1 lines led.begun last deployed led.lead)
    ∙ begins declared_of turn_of plan.deployment.nodes plan.names led.begun last lines (record { status = Done; text = rest_text (names_in plan) last }) deployed led.lead

-- ---- of a picture

pub is_pictured : (plan : Plan) (lines : List Line) → (picture_of plan lines).status ≡ Done → IsPictured plan lines
is_pictured plan lines done =
    let r = is_reported plan lines (sym (picture_status plan lines) ∙ done) in
    record { last = r.last; led = r.led; pictured = led_pictured plan lines r.last r.led; reported = led_reported plan lines r.last r.led }
