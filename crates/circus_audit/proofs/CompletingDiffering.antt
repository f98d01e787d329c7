-- The replies that differ are read, once their asks are known.
use Rattle.std.specs.List.{AllByRecursion}
use Rattle.std.specs.Option.{option_map_or}
use Rattle.std.proofs.Common.{◌≡◌, ◌≢◌, ◌∙◌, ℕ, ◌+◌, ◌-◌, ◌<◌, ◌^◌, true, List, [], ◌∷◌, ◌++◌, length, map, slice_get, codes, Option, Some, None, option_map, refl, sym, ap, subst, append_assoc, append-nil, le-leb}
use Rattle.std.proofs.lemmas.List.{length-map}
use Rattle.circus_value.specs.ThreadText.{clock_text}
use Rattle.circus_value.specs.OutcomeText.{outcome_text}
use Rattle.circus_value.specs.declared.outcome.Outcome.{Outcome}
use Rattle.circus_model.specs.Lawful.{import_answers}
use Rattle.circus_model.specs.declared.signature.ProcedureShape.{ProcedureShape}
use Rattle.circus_model.specs.declared.signature.Signature.{Signature}
use Rattle.circus_record.specs.Naming.{host_name}
use Rattle.circus_record.specs.declared.record.AskRecord.{AskRecord}
use Rattle.circus_record.specs.declared.record.RunRecord.{RunRecord}
use Rattle.circus_record.specs.declared.record.MemberRecord.{MemberRecord}
use Rattle.circus_header.specs.declared.answer.Reply.{Reply}
use Rattle.circus_member_rules.specs.declared.occurrence.Difference.{Difference}
use Rattle.circus_serve.specs.NodeText.{reply_text}
use Rattle.circus_config.specs.declared.plan.Plan.{Plan}
use Rattle.circus_value_text.specs.Reading.{and_then}
use Rattle.circus_audit.specs.Possible.{declared_by, IsOther, IsNamed, CanDiffer}
use Rattle.circus_audit.specs.declared.given.GivenEvent.{GivenEvent}
use Rattle.circus_audit.specs.declared.noted.Differing.{Differing}
use Rattle.circus_audit.specs.declared.differing.Replied.{Replied}
use Rattle.circus_audit.specs.Seen.Answers.{from_some, whole, only_if}
use Rattle.circus_audit.specs.Seen.Names.{number_of_name, other, name_at}
use Rattle.circus_audit.specs.Seen.Events.{other_behind}
use Rattle.circus_audit.specs.Seen.Lines.{clock_behind}
use Rattle.circus_audit.specs.Seen.Values.{outcome_behind}
use Rattle.circus_audit.specs.Seen.Differing.{each_read, ask_named, event_with, difference_of, replied_read, replies_read, by_procedure, by_ask, difference_read, event_of, events_of, event_apart, events_apart}
use Rattle.circus_audit.specs.Seen.Reading.{node_names}
use Rattle.circus_audit.proofs.SoundingEvents.{spelled}
use Rattle.circus_audit.proofs.OneLine.{is_clean, clean_both, clock_clean, outcome_clean}
use Rattle.circus_audit.proofs.Completing.{AreNames, Completes, behind_complete, two_complete, three_complete, clock_behind_complete, other_complete}
use Rattle.circus_audit.proofs.CompletingNames.{name_clean}
use Rattle.circus_audit.proofs.CompletingOutcomes.{CanEnd, outcome_behind_complete}
use Rattle.circus_audit.proofs.CompletingPlans.{IsSmall, answers_so}
use Rattle.circus_audit.proofs.CompletingHappening.{differing_from, noted_from, IsPlain}

-- ---- two replies

abbrev IsFrom : Plan → ℕ → ℕ → Type 0
IsFrom plan own n = (n < length (node_names plan)) × (n ≢ own)

abbrev IsCount : Plan → List ℕ → Type 0
IsCount plan clock = (length clock ≡ length plan.names) × AllByRecursion (λ n. n < 2 ^ 32) clock

abbrev CanReply : Plan → ℕ → ProcedureShape → Replied → Type 0
CanReply plan own p r = IsFrom plan own r.node × IsCount plan r.reply.clock × CanEnd p r.reply.outcome

abbrev replied_of : ℕ → List ℕ → Outcome → Replied
replied_of node clock outcome = record { node = node; reply = record { clock = clock; outcome = outcome } }

abbrev said_text : Plan → Replied → List ℕ
said_text plan r = reply_text (spelled plan) r.node r.reply

reply_group : (a b c d e f : List ℕ) → ((((a ++ b) ++ c) ++ d) ++ e) ++ f ≡ (a ++ b) ++ ((c ++ d) ++ (e ++ f))
reply_group a b c d e f = simp append_assoc

module _ (plan : Plan) (own : ℕ) (names : AreNames (node_names plan)) where
  replied_complete : (p : ProcedureShape) → Completes (replied_read (node_names plan) (length plan.names) own p) (said_text plan) (CanReply plan own p)
  replied_complete p r rest can ends =
      let nodes = node_names plan in
      ap (λ t. replied_read nodes (length plan.names) own p (t ++ rest)) (reply_group (codes " ") (name_at nodes r.node) (codes " clock ") (clock_text r.reply.clock) (codes " ") (outcome_text r.reply.outcome))
      ∙ three_complete (other_behind (codes " ") nodes own) (λ n. codes " " ++ name_at nodes n) (IsFrom plan own) (clock_behind (length plan.names)) (λ clock. codes " clock " ++ clock_text clock) (IsCount plan) (outcome_behind p) (λ o. codes " " ++ outcome_text o) (CanEnd p) replied_of (behind_complete (codes " ") (λ t. other own (number_of_name nodes t)) (name_at nodes) (IsFrom plan own) (other_complete nodes own names)) (clock_behind_complete (length plan.names)) (outcome_behind_complete p) r.node r.reply.clock r.reply.outcome rest can.0 can.1 can.2 refl refl ends

  replies_complete : (p : ProcedureShape) (d : Differing) (first second : Replied) → d.replies ≡ said_text plan first ++ said_text plan second → CanReply plan own p first → CanReply plan own p second → replies_read (node_names plan) (length plan.names) own d p ≡ Some (difference_of d first second)
  replies_complete p d first second is one two =
      let read = replied_read (node_names plan) (length plan.names) own p in
      let both = two_complete read (said_text plan) (CanReply plan own p) read (said_text plan) (CanReply plan own p) (difference_of d) (replied_complete p) (replied_complete p) first second [] one two refl refl in
      ap whole (ap (λ t. and_then (read t) (λ (x : Replied) rest. and_then (read rest) (λ (y : Replied) later. Some (difference_of d x y, later)))) (is ∙ sym (append-nil (said_text plan first ++ said_text plan second))) ∙ both)

  -- ---- the ask

  named_complete : (kept : MemberRecord) (d : Difference) (ask : AskRecord) → IsNamed plan kept d ask → ask_named kept d.run d.ask ≡ Some ask
  named_complete kept d ask is =
      ap (λ t. only_if t (from_some (slice_get kept.runs (d.run - kept.from)) (λ (r : RunRecord). slice_get r.asks d.ask))) (le-leb kept.from d.run is.later)
      ∙ ap (λ o. from_some o (λ (r : RunRecord). slice_get r.asks d.ask)) is.is_run
      ∙ is.is_ask

  other_from : (n : ℕ) → IsOther plan own n → IsFrom plan own n
  other_from n is = (subst (λ k. n < k) (sym (length-map plan.deployment.nodes host_name)) is.0, is.1)

  -- ---- lines

  reply_clean : (node : ℕ) (reply : Reply) → IsOther plan own node → is_clean (reply_text (spelled plan) node reply) ≡ true
  reply_clean node reply is =
      let name = name_at (node_names plan) node in
      clean_both ((((codes " " ++ name) ++ codes " clock ") ++ clock_text reply.clock) ++ codes " ") (outcome_text reply.outcome)
      (clean_both (((codes " " ++ name) ++ codes " clock ") ++ clock_text reply.clock) (codes " ") (clean_both ((codes " " ++ name) ++ codes " clock ") (clock_text reply.clock) (clean_both (codes " " ++ name) (codes " clock ") (clean_both (codes " ") name refl (name_clean (node_names plan) names node (other_from node is).0)) refl) (clock_clean reply.clock)) refl)
      (outcome_clean reply.outcome)

  pub differing_plain : (hosted : Option ℕ) (member : Option MemberRecord) (ds : List Difference) → AllByRecursion (CanDiffer plan own hosted member) ds → AllByRecursion IsPlain (map (differing_from plan) ds)
  differing_plain hosted member [] can = tt
  differing_plain hosted member (d ∷ ds) can =
      let one = can.0 in
      ((one.run, one.number, refl, clean_both (reply_text (spelled plan) d.first d.first_reply) (reply_text (spelled plan) d.second d.second_reply) (reply_clean d.first d.first_reply one.first.0) (reply_clean d.second d.second_reply one.second.0)), differing_plain hosted member ds can.1)

  -- ---- events of a member

  module _ (hosted : Option ℕ) (kept : MemberRecord) (s : Signature) (declared : option_map_or (declared_by plan) hosted None ≡ Some s) (small : IsSmall (length plan.names) s) where
    pub difference_complete : (d : Difference) → CanDiffer plan own hosted (Some kept) d → difference_read (node_names plan) (length plan.names) own s.imports kept (differing_from plan d) ≡ Some d
    difference_complete d can =
        let same_kept : can.kept ≡ kept = cc (can.is_kept) in
        let same_s : can.s ≡ s = cc (can.declared, declared) in
        let ask = can.ask in
        let named_is = named_complete can.kept d ask can.named in
        let first_answers = subst (λ (x : Signature). import_answers x.imports ask.callee ask.procedure d.first_reply.outcome ≡ true) same_s can.first.1.1 in
        let second_answers = subst (λ (x : Signature). import_answers x.imports ask.callee ask.procedure d.second_reply.outcome ≡ true) same_s can.second.1.1 in
        let one = answers_so (length plan.names) s.imports ask.callee ask.procedure d.first_reply.outcome small.imports first_answers in
        let two = answers_so (length plan.names) s.imports ask.callee ask.procedure d.second_reply.outcome small.imports second_answers in
        let same_shape : two.shape ≡ one.shape = cc (one.is_shape, two.is_shape) in
        let first = replied_of d.first d.first_reply.clock d.first_reply.outcome in
        let second = replied_of d.second d.second_reply.clock d.second_reply.outcome in
        let nodes = node_names plan in
        ap (by_ask nodes (length plan.names) own s.imports (differing_from plan d)) (ap (λ (k : MemberRecord). ask_named k d.run d.ask) (sym same_kept) ∙ named_is)
        ∙ ap (by_procedure nodes (length plan.names) own (differing_from plan d)) one.is_shape
        ∙ replies_complete one.shape (differing_from plan d) first second refl (other_from d.first can.first.0, can.first.1.0, one.can) (other_from d.second can.second.0, can.second.1.0, subst (λ p. CanEnd p d.second_reply.outcome) same_shape two.can)

    differences_complete : (ds : List Difference) → AllByRecursion (CanDiffer plan own hosted (Some kept)) ds → each_read (difference_read (node_names plan) (length plan.names) own s.imports kept) (map (differing_from plan) ds) ≡ Some ds
    differences_complete [] can = refl
    differences_complete (d ∷ ds) can =
        let f = difference_read (node_names plan) (length plan.names) own s.imports kept in
        ap (λ r. from_some r (λ b. option_map (λ bs. b ∷ bs) (each_read f (map (differing_from plan) ds)))) (difference_complete d can.0)
        ∙ ap (option_map (λ bs. d ∷ bs)) (differences_complete ds can.1)

    pub events_complete : (es : List GivenEvent) → AllByRecursion (λ (e : GivenEvent). AllByRecursion (CanDiffer plan own hosted (Some kept)) e.differences) es → events_of (node_names plan) (length plan.names) own s.imports kept (map (noted_from plan) es) ≡ Some es
    events_complete [] can = refl
    events_complete (e ∷ es) can =
        let f = event_of (node_names plan) (length plan.names) own s.imports kept in
        let one : f (noted_from plan e) ≡ Some e = ap (option_map (event_with (noted_from plan e))) (differences_complete e.differences can.0) in
        ap (λ r. from_some r (λ b. option_map (λ bs. b ∷ bs) (each_read f (map (noted_from plan) es)))) one
        ∙ ap (option_map (λ bs. e ∷ bs)) (events_complete es can.1)

  -- ---- events of a node without member

  no_differences : (member : Option MemberRecord) (ds : List Difference) → AllByRecursion (CanDiffer plan own None member) ds → ds ≡ []
  no_differences member [] can = refl
  no_differences member (d ∷ ds) can = let none = can.0.declared in cc

  apart_complete : (member : Option MemberRecord) (e : GivenEvent) → AllByRecursion (CanDiffer plan own None member) e.differences → event_apart (noted_from plan e) ≡ Some e
  apart_complete member e can =
      let none = no_differences member e.differences can in
      subst (λ (ds : List Difference). event_apart (noted_from plan (record { event = e.event; gives = e.gives; differences = ds })) ≡ Some (record { event = e.event; gives = e.gives; differences = ds })) (sym none) refl

  pub events_apart_complete : (member : Option MemberRecord) (es : List GivenEvent) → AllByRecursion (λ (e : GivenEvent). AllByRecursion (CanDiffer plan own None member) e.differences) es → events_apart (map (noted_from plan) es) ≡ Some es
  events_apart_complete member [] can = refl
  events_apart_complete member (e ∷ es) can =
      ap (λ r. from_some r (λ b. option_map (λ bs. b ∷ bs) (each_read event_apart (map (noted_from plan) es)))) (apart_complete member e can.0)
      ∙ ap (option_map (λ bs. e ∷ bs)) (events_apart_complete member es can.1)
