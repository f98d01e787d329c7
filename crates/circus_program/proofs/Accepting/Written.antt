-- What a served node writes with status 0 is read as a record of it, which is audited.
use Rattle.std.specs.List.{AllByRecursion, flat_map}
use Rattle.std.specs.Option.{option_map_or}
use Rattle.std.specs.Prelude.{slice_get, codes, option_map, option_and_then}
use Rattle.std.proofs.Common.{◌≡◌, ℕ, ◌<◌, inl, inr, List, [], ◌∷◌, ◌++◌, map, length, All, Option, None, Some, Ok, refl, sym, ap, subst, ◌∙◌}
use Rattle.std.proofs.lemmas.List.{length-map}
use Rattle.std.proofs.lemmas.List.Concat.{flat_map-append}
use Rattle.std.proofs.lemmas.Option.{slice_get-map}
use Rattle.circus_collate.specs.declared.deployment.Deployment.{Deployment}
use Rattle.circus_collate.specs.declared.deployment.Host.{Host}
use Rattle.circus_collate.specs.declared.deployment.Troupe.{Troupe}
use Rattle.circus_transfer.specs.declared.joiner.Joiner.{Joiner}
use Rattle.circus_transfer.specs.declared.joiner.Joiner.TheVariants.{Outside, Asking, Fetching, Active}
use Rattle.circus_model.specs.Behaviour.{Behaviour}
use Rattle.circus_check.specs.Meaning.{ModuleMeant}
use Rattle.circus_check.specs.Resolved.{module_as}
use Rattle.circus_config.specs.declared.plan.Plan.{Plan}
use Rattle.circus_config.specs.Program.{IsPlan}
use Rattle.circus_plan_modules.specs.Loaded.{behaviours_in, hosted_by}
use Rattle.circus_record.specs.Line.{line}
use Rattle.circus_collate.specs.declared.view.View.{View}
use Rattle.circus_record.specs.MemberText.{status_text, phase_lines, member_lines}
use Rattle.circus_record.specs.Naming.{Names, names_of}
use Rattle.circus_record.specs.declared.record.MemberRecord.{MemberRecord}
use Rattle.circus_report.specs.ViewLines.{ringmaster_line, views_lines}
use Rattle.circus_member_rules.specs.declared.occurrence.Difference.{Difference}
use Rattle.circus_node.specs.Accepting.{troupe_at}
use Rattle.circus_node.specs.Alike.{declared_of, turn_of, first_of, acting_as}
use Rattle.circus_node.specs.Booting as booting
use Rattle.circus_node.specs.NodeState.{Acting, member, ringmaster, NodeState, member_record, ring_views}
use Rattle.circus_node.specs.Trace as trace
use Rattle.circus_node.specs.Trace.{Trace, StandsFor}
use Rattle.circus_node.specs.declared.event.Outputs.{Outputs}
use Rattle.circus_serve.specs.Answers.{IsServed}
use Rattle.circus_serve.specs.NodeText.{happened_lines, node_lines, node_text}
use Rattle.circus_serve.specs.Outside.{Tells}
use Rattle.circus_serve.specs.Recorded.{Recorded}
use Rattle.circus_serve.specs.Serving.{Served, on, serve_takes}
use Rattle.circus_serve.specs.declared.happening.Happening.TheVariants.{Stepped}
use Rattle.circus_commands.specs.Ending.{Ending}
use Rattle.circus_commands.specs.declared.status.Status.TheVariants.{Done, LinkFault, Spent}
use Rattle.circus_node_command.specs.NodeEnds.{booted_node, IsEndOfServing}
use Rattle.circus_world.specs.Legal.{is_spare}
use Rattle.circus_world_theory.proofs.Lawful as lawful
use Rattle.circus_world_theory.proofs.Lawful.{Lawful}
use Rattle.circus_headline_theory.specs.ServedRun.{own_happenings, shown_of}
use Rattle.circus_audit.specs.RecordText.{Noted, all_noted_lines, kept_lines, record_text, IsRecordText}
use Rattle.circus_audit.specs.declared.given.Given.{Given}
use Rattle.circus_audit.specs.declared.given.GivenEvent.{GivenEvent}
use Rattle.circus_audit.proofs.Beginnings.{none_of_record}
use Rattle.circus_audit.proofs.OneReading.{one_given}
use Rattle.circus_verdict.specs.Audited.{events_in, said_in, said_of, IsAudited}
use Rattle.circus_verdict.specs.declared.verdict.Verdict.TheVariants.{NotARun}
use Rattle.circus_program.specs.Audit.{IsBadAt, IsJudged}
use Rattle.circus_program.specs.Accepted.{IsFromPort, IsAccepted, HasModuleNames, IsAcceptedOf}
use Rattle.circus_program.proofs.Accepting.Accepted.{given_in, modules, program_is, hosted, can, whole_is}
use Rattle.circus_program.proofs.Accepting.Noting.{IsOfPort, alone, at_boot, in_step, noted_from, boot_lines, given_of, events_are, strays_are}
use Rattle.circus_program.proofs.Accepting.Recorded.{boots_so, serves_so, begins_so}
use Rattle.circus_program.proofs.Accepting.Serving.{boots_quietly, JoinsWell, Reached, reached}

-- ---- the events that a record shows

shown_events : (d : Deployment) (own : Option Lawful) (node : ℕ) (t : Trace) (n : NodeState Lawful) → StandsFor lawful.declared lawful.turn lawful.first d own node t n
    → flat_map given_of (shown_of t) ≡ events_in t
shown_events d own node (trace.booted made outputs) n stands =
    ap (λ (ds : List Difference). let e : GivenEvent = record { event = None; gives = outputs.gives; differences = ds } in e ∷ [])
    (sym (boots_quietly lawful.declared lawful.turn lawful.first d own node n outputs stands.0).1)
shown_events d own node (trace.stepped t at event made outputs) n stands =
    flat_map-append given_of (shown_of t) (Stepped event outputs.gives outputs.differences ∷ [])
    ∙ ap (λ l. l ++ in_step event outputs.gives outputs.differences ∷ []) (shown_events d own node t stands.0 stands.1)

-- ---- what a record says of a member

said_lines : (names : Names) (kept : MemberRecord) (phase : Joiner) → kept.phase ≡ phase → phase_lines names (said_in phase kept).phase (said_in phase kept) ≡ phase_lines names kept.phase kept
said_lines names kept Outside is = ap (λ (p : Joiner). phase_lines names p kept) (sym is)
said_lines names kept Asking is = ap (λ (p : Joiner). phase_lines names p kept) (sym is)
said_lines names kept (Fetching incarnation) is = ap (λ (p : Joiner). phase_lines names p kept) (sym is)
said_lines names kept (Active first) is = refl

said_same : (names : Names) (node troupe : ℕ) (o : Option MemberRecord) → option_map_or (member_lines names node troupe None) (option_map said_of o) [] ≡ option_map_or (member_lines names node troupe None) o []
said_same names node troupe None = refl
said_same names node troupe (Some kept) =
    ap (λ l. codes "member " ++ names.node node ++ codes " " ++ names.troupe troupe ++ codes " " ++ status_text None ++ l) (said_lines names kept kept.phase refl)

module _ (names : Names) (d : Deployment) (node : ℕ) (lived : Trace) where
  kept_same : (acting : Acting Lawful) (o : Option ℕ)
      → option_map_or (λ troupe. option_map_or (member_lines names node troupe None) (option_map said_of (member_record acting)) []) o
      (ringmaster_line names None ++ option_map_or (views_lines names) (ring_views acting) [])
      ≡ option_map_or (λ troupe. option_map_or (member_lines names node troupe None) (member_record acting) []) o
      (ringmaster_line names None ++ option_map_or (views_lines names) (ring_views acting) [])
  kept_same acting None = refl
  kept_same acting (Some troupe) = said_same names node troupe (member_record acting)

-- ---- a served node

abbrev seen_acting : Acting Lawful → Acting Behaviour
seen_acting a = acting_as lawful.declared lawful.turn lawful.first a

seen_record : (a : Acting Lawful) → member_record (seen_acting a) ≡ member_record a
seen_record (member m) = refl
seen_record (ringmaster kept) = refl

seen_views : (a : Acting Lawful) → ring_views (seen_acting a) ≡ ring_views a
seen_views (member m) = refl
seen_views (ringmaster kept) = refl

module _ (plan : Plan) (is : IsPlan plan) (named : HasModuleNames plan) (node : ℕ) (within : node < length plan.deployment.nodes) where
  abbrev d : Deployment
  d = plan.deployment

  abbrev names : Names
  names = names_of d.nodes plan.names

  abbrev own : Option Lawful
  own = hosted plan is node within

  many_names : length plan.names ≡ length d.troupes
  many_names =
      ap length named.names ∙ length-map (map module_as plan.checked.modules) (λ (m : ModuleMeant). m.name)
      ∙ sym (length-map (map module_as plan.checked.modules) (λ (m : ModuleMeant). m.root))
      ∙ ap length (sym is.roots) ∙ length-map d.troupes (λ (t : Troupe). t.root)

  hosted_so : option_map lawful.one own ≡ option_and_then (hosted_by (behaviours_in plan)) (slice_get d.nodes node)
  hosted_so = by_host (slice_get d.nodes node)
    where
      by_module : (o : Option ℕ) → option_map lawful.one (option_and_then (slice_get (modules plan is node within)) o) ≡ option_and_then (slice_get (behaviours_in plan)) o
      by_module None = refl
      by_module (Some number) =
          sym (slice_get-map lawful.one (modules plan is node within) number) ∙ ap (λ l. slice_get l number) (program_is plan is node within)

      by_host : (o : Option Host) → option_map lawful.one (option_and_then (slice_get (modules plan is node within)) (option_and_then (λ (h : Host). h.module) o))
          ≡ option_and_then (hosted_by (behaviours_in plan)) o
      by_host None = refl
      by_host (Some host) = by_module host.module

  module _ (last : Served Lawful) (r : Reached lawful.declared lawful.turn lawful.first d own node (can plan is node within) (JoinsWell (is_spare d node)) [] last) where
    abbrev given : Given
    given = given_in node r.lived last.node.acting

    noted : List Noted
    noted = noted_from (alone (at_boot r.begins.gives)) r.begins.later

    noted_events : map (λ (n : Noted). n.given) noted ≡ events_in r.lived
    unfolding noted
    noted_events =
        events_are (alone (at_boot r.begins.gives)) r.begins.later
        ∙ ap (λ l. flat_map given_of (own_happenings l)) (sym r.begins.is)
        ∙ ap (flat_map given_of) r.shows
        ∙ shown_events d own node r.lived last.node r.stands

    text_is : (recorded : Recorded Behaviour) → recorded.happened ≡ last.happened → recorded.node.acting ≡ seen_acting last.node.acting
        → node_text names d node recorded ≡ record_text names d noted given
    unfolding noted
    text_is recorded happened acting =
        let head = line (codes "circus node 1 " ++ names.node node) in
        let lines : happened_lines names 0 recorded.happened ≡ all_noted_lines names 0 (noted_from (alone (at_boot r.begins.gives)) r.begins.later) =
        ap (happened_lines names 0) (happened ∙ r.begins.is) ∙ boot_lines names 0 r.begins.gives r.begins.later in
        let kept : node_lines names d node recorded.node ≡ kept_lines names d given =
        ap (λ (x : Option MemberRecord × Option (List View)). option_map_or (λ troupe. option_map_or (member_lines names node troupe None) x.0 []) (troupe_at d node)
        (ringmaster_line names None ++ option_map_or (views_lines names) x.1 []))
        (λ j. (member_record (acting j), ring_views (acting j)))
        ∙ (λ j. option_map_or (λ troupe. option_map_or (member_lines names node troupe None) (seen_record last.node.acting j) []) (troupe_at d node)
        (ringmaster_line names None ++ option_map_or (views_lines names) (seen_views last.node.acting j) []))
        ∙ sym (kept_same names d node r.lived last.node.acting (troupe_at d node)) in
        λ j. head ++ lines j ++ kept j

    is_text : (recorded : Recorded Behaviour) → recorded.happened ≡ last.happened → recorded.node.acting ≡ seen_acting last.node.acting
        → IsRecordText plan given (node_text names d node recorded)
    unfolding noted
    is_text recorded happened acting =
        record {
          possible = (whole_is plan is node within last r many_names).possible;
          noted = noted;
          events = noted_events;
          strays =
              strays_are (alone (at_boot r.begins.gives)) r.begins.later tt
              (subst (AllByRecursion IsOfPort) r.begins.is r.ports).1;
          is_text = text_is recorded happened acting;
        }

    accepted : (recorded : Recorded Behaviour) (text : List ℕ) → recorded.happened ≡ last.happened → recorded.node.acting ≡ seen_acting last.node.acting
        → text ≡ node_text names d node recorded → length text < 4294967295 → IsAccepted plan text
    accepted recorded text happened acting written few =
        record {
          given = given;
          is_record = (few, subst (IsRecordText plan given) (sym written) (is_text recorded happened acting));
          audited = (whole_is plan is node within last r many_names).audited;
        }

  -- ---- the end of serving

  accepted_end : (boot : NodeState Behaviour × Outputs) → booted_node plan node ≡ Ok boot → (turns : ℕ) (old new : Tells) (recorded : Recorded Behaviour) (text : List ℕ)
      → (served : IsServed declared_of turn_of d node boot.0 boot.1.gives turns old new recorded) → text ≡ node_text names d node recorded
      → All IsFromPort served.takes → length text < 4294967295 → IsAccepted plan text
  accepted_end boot booted_is turns old new recorded text served written octets few =
      let boots = ap (λ o. booting.boot_node declared_of turn_of first_of d o node) hosted_so ∙ booted_is in
      let b = boots_so d own node boot.0 boot.1 boots in
      let s = serves_so d own node b.own boot.1 served.takes served.last (subst (λ (n : NodeState Behaviour). serve_takes declared_of turn_of d node n boot.1.gives served.takes ≡ on served.last) (sym b.same) served.is) in
      let r = reached lawful.declared lawful.turn lawful.first d own node (can plan is node within) b.own boot.1 b.boots (is_spare d node)
      (begins_so d is.deployed own node b.own boot.1 (can plan is node within) b.boots) served.takes octets s.own s.is in
      accepted s.own r recorded text (served.happened ∙ sym (ap (λ (x : Served Behaviour). x.happened) s.same))
      (ap (λ (n : NodeState Behaviour). n.acting) served.node ∙ sym (ap (λ (x : Served Behaviour). x.node.acting) s.same)) written few

  pub audits_accept : (turns : ℕ) (old new : Tells) (ending : Ending) → IsEndOfServing plan node turns old new ending → ending.status ≡ Done → IsAcceptedOf plan node turns old new ending.text
  audits_accept turns old new ending (inr (peer, spent_is, same, ends)) done = absurd (let clash : Spent ≡ Done = sym (ap (λ (e : Ending). e.status) ends) ∙ done in cc)
  audits_accept turns old new ending (inl (boot, booted_is, inr (inl (peer, spent_is, ends)))) done =
      absurd (let clash : Spent ≡ Done = sym (ap (λ (e : Ending). e.status) ends) ∙ done in cc)
  audits_accept turns old new ending (inl (boot, booted_is, inr (inr (broken, ends)))) done =
      absurd (let clash : LinkFault ≡ Done = sym (ap (λ (e : Ending). e.status) ends) ∙ done in cc)
  audits_accept turns old new ending (inl (boot, booted_is, inl (recorded, served, ends))) done =
      record {
        recorded = recorded;
        boot = boot;
        booted_is = booted_is;
        served = served;
        accepted = λ octets few. accepted_end boot booted_is turns old new recorded ending.text served (ap (λ (e : Ending). e.text) ends) octets few;
      }

-- ---- what an audit of it comes to

pub no_bad_line : (plan : Plan) (text : List ℕ) (number : ℕ) → IsAccepted plan text → IsBadAt plan text number → ⊥
no_bad_line plan text number a bad = none_of_record plan a.given text number a.is_record.1 bad

pub is_a_run : (plan : Plan) (text : List ℕ) (given : Given) → IsPlan plan → HasModuleNames plan → IsAccepted plan text → IsJudged plan text given NotARun → ⊥
is_a_run plan text given is named a judged =
    let same = one_given plan a.given given text is named.names named.words a.is_record.0 a.is_record.1 judged.is_record.1 in
    judged.verdict_is (subst (IsAudited plan.deployment (behaviours_in plan)) same a.audited)
