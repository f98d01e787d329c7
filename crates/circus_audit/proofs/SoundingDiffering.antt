-- The lines of replies that differ, once they are read, are those of what was read.
use Rattle.std.specs.List.{AllByRecursion, flat_map}
use Rattle.std.specs.Fmt.{decimal}
use Rattle.std.proofs.Common.{◌≡◌, ◌≢◌, ◌∙◌, ℕ, suc, ◌+◌, ◌-◌, ◌<◌, ◌^◌, true, cond, nat_le, List, [], ◌∷◌, ◌++◌, length, map, slice_get, codes, Option, Some, None, option_map, refl, sym, ap, subst, append_assoc, append-nil}
use Rattle.std.specs.Option.{option_map_or}
use Rattle.std.proofs.lemmas.Bool.{leb-true}
use Rattle.circus_value.specs.ThreadText.{clock_text}
use Rattle.circus_value.specs.OutcomeText.{outcome_text}
use Rattle.circus_value.specs.declared.outcome.Outcome.{Outcome}
use Rattle.circus_model.specs.Lawful.{outcome_fits, import_of}
use Rattle.circus_model.specs.declared.signature.ProcedureShape.{ProcedureShape}
use Rattle.circus_model.specs.declared.signature.Signature.{Signature}
use Rattle.circus_record.specs.Line.{line}
use Rattle.circus_record.specs.declared.record.AskRecord.{AskRecord}
use Rattle.circus_record.specs.declared.record.RunRecord.{RunRecord}
use Rattle.circus_record.specs.declared.record.MemberRecord.{MemberRecord}
use Rattle.circus_member_rules.specs.declared.occurrence.Difference.{Difference}
use Rattle.circus_node.specs.Accepting.{troupe_at}
use Rattle.circus_serve.specs.NodeText.{event_line, give_line, reply_text, differ_line}
use Rattle.circus_config.specs.declared.plan.Plan.{Plan}
use Rattle.circus_audit.specs.Possible.{declared_by, CanDiffer, CanHappen, IsNamed}
use Rattle.circus_audit.specs.RecordText.{what_came, stray_line, IsStray, noted_lines, all_noted_lines}
use Rattle.circus_audit.specs.RecordText as texts
use Rattle.circus_audit.specs.declared.given.GivenEvent.{GivenEvent}
use Rattle.circus_audit.specs.declared.given.Given.{Given}
use Rattle.circus_audit.specs.declared.noted.Differing.{Differing}
use Rattle.circus_audit.specs.declared.noted.Noted.{Noted}
use Rattle.circus_audit.specs.declared.differing.Replied.{Replied}
use Rattle.circus_audit.specs.Seen.Answers.{from_some}
use Rattle.circus_audit.specs.Seen.Names.{number_of_name, other, name_at}
use Rattle.circus_audit.specs.Seen.Events.{other_behind}
use Rattle.circus_audit.specs.Seen.Lines.{clock_behind}
use Rattle.circus_audit.specs.Seen.Values.{outcome_behind, procedure_of_import}
use Rattle.circus_audit.specs.Seen.Differing.{each_read, ask_named, event_with, nothing_differs, difference_of, replied_read, replies_parts, replies_read, by_procedure, by_ask, difference_read, event_of, event_apart}
use Rattle.circus_audit.specs.Seen.Reading.{node_names}
use Rattle.circus_audit.proofs.Opening.{from_is, map_is, only_is}
use Rattle.circus_audit.proofs.Sounding.{Sounds, whole_some, behind_sound, clock_behind_sound}
use Rattle.circus_audit.proofs.SoundingValues.{outcome_behind_sound}
use Rattle.circus_audit.proofs.SoundingMember.{two_sound, three_sound}
use Rattle.circus_audit.proofs.SoundingAsks.{answers_of}
use Rattle.circus_audit.proofs.SoundingEvents.{spelled, other_sound, other_is}
use Rattle.circus_audit.proofs.SoundingHappening.{Heard, noted_of, differing_line, heard_lines, all_heard, IsFewDiffering, IsHeard}

-- ---- two replies

told_text : (d r a n x y : List ℕ) → d ++ (r ++ (a ++ (n ++ (x ++ y)))) ≡ ((((d ++ r) ++ a) ++ n) ++ x) ++ y
told_text d r a n x y = simp append_assoc

replied_text : (a b c d e f : List ℕ) → (a ++ b) ++ ((c ++ d) ++ (e ++ f)) ≡ ((((a ++ b) ++ c) ++ d) ++ e) ++ f
replied_text a b c d e f = simp append_assoc

abbrev IsFrom : Plan → ℕ → ℕ → Type 0
IsFrom plan own n = (n < length (node_names plan)) × (n ≢ own)

abbrev IsCount : Plan → List ℕ → Type 0
IsCount plan clock = (length clock ≡ length plan.names) × AllByRecursion (λ n. n < 2 ^ 32) clock

abbrev CanReply : Plan → ℕ → ProcedureShape → Replied → Type 0
CanReply plan own p r = IsFrom plan own r.node × IsCount plan r.reply.clock × (outcome_fits p r.reply.outcome ≡ true)

abbrev replied_of : ℕ → List ℕ → Outcome → Replied
replied_of node clock outcome = record { node = node; reply = record { clock = clock; outcome = outcome } }

abbrev said_text : Plan → Replied → List ℕ
said_text plan r = reply_text (spelled plan) r.node r.reply

replied_sound : (plan : Plan) (own : ℕ) (p : ProcedureShape) → Sounds (replied_read (node_names plan) (length plan.names) own p) (said_text plan) (CanReply plan own p)
replied_sound plan own p text r rest is =
    let nodes = node_names plan in
    let x = three_sound (other_behind (codes " ") nodes own) (λ n. codes " " ++ name_at nodes n) (IsFrom plan own) (clock_behind (length plan.names)) (λ clock. codes " clock " ++ clock_text clock) (IsCount plan) (outcome_behind p) (λ o. codes " " ++ outcome_text o) (λ o. outcome_fits p o ≡ true) replied_of (behind_sound (codes " ") (λ t. other own (number_of_name nodes t)) (name_at nodes) (IsFrom plan own) (other_sound nodes own)) (clock_behind_sound (length plan.names)) (outcome_behind_sound p) text r rest is in (
      x.4 ∙ ap (λ w. w ++ rest) (replied_text (codes " ") (name_at nodes x.0) (codes " clock ") (clock_text x.1) (codes " ") (outcome_text x.2)) ∙ ap (λ y. said_text plan y ++ rest) (sym x.3),
      subst (CanReply plan own p) (sym x.3) (x.5, x.6, x.7),
    )

-- two replies to a procedure's call
pub record AreReplies (plan : Plan) (own : ℕ) (p : ProcedureShape) (d : Differing) (difference : Difference) : Type 0 where
  pub first : Replied
  pub second : Replied
  pub is_difference : difference ≡ difference_of d first second
  pub text_is : d.replies ≡ said_text plan first ++ said_text plan second
  pub first_can : CanReply plan own p first
  pub second_can : CanReply plan own p second

replies_sound : (plan : Plan) (own : ℕ) (p : ProcedureShape) (d : Differing) (difference : Difference) → replies_read (node_names plan) (length plan.names) own d p ≡ Some difference → AreReplies plan own p d difference
replies_sound plan own p d difference is =
    let w = whole_some (replies_parts (node_names plan) (length plan.names) own d p) difference is in
    let r = two_sound (replied_read (node_names plan) (length plan.names) own p) (said_text plan) (CanReply plan own p) (replied_read (node_names plan) (length plan.names) own p) (said_text plan) (CanReply plan own p) (difference_of d) (replied_sound plan own p) (replied_sound plan own p) d.replies difference w.0 w.1 in
    record {
      first = r.0;
      second = r.1;
      is_difference = r.2;
      text_is = r.3 ∙ ap (λ x. (said_text plan r.0 ++ said_text plan r.1) ++ x) w.2 ∙ append-nil (said_text plan r.0 ++ said_text plan r.1);
      first_can = r.4;
      second_can = r.5;
    }

-- ---- the ask

named_is : (plan : Plan) (kept : MemberRecord) (d : Difference) (ask : AskRecord) → ask_named kept d.run d.ask ≡ Some ask → IsNamed plan kept d ask
named_is plan kept d ask is =
    let test = only_is (nat_le kept.from d.run) (from_some (slice_get kept.runs (d.run - kept.from)) (λ (r : RunRecord). slice_get r.asks d.ask)) ask is in
    let run = from_is (slice_get kept.runs (d.run - kept.from)) (λ (r : RunRecord). slice_get r.asks d.ask) ask test.1 in
    record { run = run.0; later = leb-true kept.from d.run test.0; is_run = run.1; is_ask = run.2 }

-- one line of replies that differ
pub record IsTold (plan : Plan) (own : ℕ) (hosted : Option ℕ) (member : Option MemberRecord) (d : Differing) (difference : Difference) : Type 0 where
  pub text_is : differing_line d ≡ differ_line (spelled plan) difference
  pub can : CanDiffer plan own hosted member difference

module _ (plan : Plan) (own : ℕ) (hosted : Option ℕ) (member : Option MemberRecord) (s : Signature) (kept : MemberRecord) (declared : option_map_or (declared_by plan) hosted None ≡ Some s) (is_kept : member ≡ Some kept) where
  told : (d : Differing) (difference : Difference) (ask : AskRecord) (p : ProcedureShape) → IsFewDiffering plan own d → ask_named kept d.run d.ask ≡ Some ask → procedure_of_import s.imports ask.callee ask.procedure ≡ Some p → AreReplies plan own p d difference → IsTold plan own hosted member d difference
  told d difference ask p few asked shape r =
      let made = sym r.is_difference in
      let first : Difference = difference_of d r.first r.second in
      let answers = λ (x : Replied) (can : CanReply plan own p x). answers_of (import_of ask.callee s.imports) ask.procedure p x.reply.outcome shape can.2 in
      subst (IsTold plan own hosted member d) made (record {
        text_is = ap (λ x. line (codes "differ run " ++ (decimal d.run ++ (codes " ask " ++ (decimal d.ask ++ x))))) r.text_is ∙ ap line (told_text (codes "differ run ") (decimal d.run) (codes " ask ") (decimal d.ask) (said_text plan r.first) (said_text plan r.second));
        can = record {
          s = s;
          declared = declared;
          kept = kept;
          is_kept = is_kept;
          ask = ask;
          named = named_is plan kept first ask asked;
          run = few.0;
          number = few.1;
          first = (other_is plan own r.first.node r.first_can.0, (r.first_can.1, answers r.first r.first_can));
          second = (other_is plan own r.second.node r.second_can.0, (r.second_can.1, answers r.second r.second_can));
        };
      })

  difference_sound : (d : Differing) (difference : Difference) → IsFewDiffering plan own d → difference_read (node_names plan) (length plan.names) own s.imports kept d ≡ Some difference → IsTold plan own hosted member d difference
  difference_sound d difference few is = by_named (ask_named kept d.run d.ask) refl is
    where
      by_shape : (ask : AskRecord) (o : Option ProcedureShape) → ask_named kept d.run d.ask ≡ Some ask → procedure_of_import s.imports ask.callee ask.procedure ≡ o → by_procedure (node_names plan) (length plan.names) own d o ≡ Some difference → IsTold plan own hosted member d difference
      by_shape ask (Some p) asked shape read = told d difference ask p few asked shape (replies_sound plan own p d difference read)
      by_shape ask None asked shape read = cc

      by_named : (o : Option AskRecord) → ask_named kept d.run d.ask ≡ o → by_ask (node_names plan) (length plan.names) own s.imports d o ≡ Some difference → IsTold plan own hosted member d difference
      by_named (Some ask) asked read = by_shape ask (procedure_of_import s.imports ask.callee ask.procedure) asked refl read
      by_named None asked read = cc

  differences_sound : (ds : List Differing) (differences : List Difference) → AllByRecursion (IsFewDiffering plan own) ds → each_read (difference_read (node_names plan) (length plan.names) own s.imports kept) ds ≡ Some differences → (flat_map differing_line ds ≡ flat_map (differ_line (spelled plan)) differences) × AllByRecursion (CanDiffer plan own hosted member) differences
  differences_sound [] differences few is =
      let none : [] ≡ differences = cc in
      (ap (flat_map (differ_line (spelled plan))) none, subst (AllByRecursion (CanDiffer plan own hosted member)) none tt)
  differences_sound (d ∷ ds) differences few is =
      let f = difference_read (node_names plan) (length plan.names) own s.imports kept in
      let x = from_is (f d) (λ b. option_map (λ bs. b ∷ bs) (each_read f ds)) differences is in
      let y = map_is (λ bs. x.0 ∷ bs) (each_read f ds) differences x.2 in
      let one = difference_sound d x.0 few.0 x.1 in
      let later = differences_sound ds y.0 few.1 y.1 in
      ((λ i. one.text_is i ++ later.0 i) ∙ ap (flat_map (differ_line (spelled plan))) y.2, subst (AllByRecursion (CanDiffer plan own hosted member)) y.2 (one.can, later.1))

-- ---- events

-- an event is told by its lines
pub record IsEvent (plan : Plan) (given : Given) (h : Heard) (e : GivenEvent) : Type 0 where
  pub text_is : (number : ℕ) → heard_lines (spelled plan) number h ≡ noted_lines (spelled plan) number (record { given = e; strays = h.strays })
  pub can : CanHappen plan given e

pub event_told : (plan : Plan) (given : Given) (s : Signature) (kept : MemberRecord) → option_map_or (declared_by plan) (troupe_at plan.deployment given.node) None ≡ Some s → given.member ≡ Some kept → (h : Heard) (e : GivenEvent) → IsHeard plan given.node h → event_of (node_names plan) (length plan.names) given.node s.imports kept h.noted ≡ Some e → IsEvent plan given h e
event_told plan given s kept declared is_kept h e heard is =
    let x = map_is (event_with h.noted) (each_read (difference_read (node_names plan) (length plan.names) given.node s.imports kept) h.noted.differing) e is in
    let all = differences_sound plan given.node (troupe_at plan.deployment given.node) given.member s kept declared is_kept h.noted.differing x.0 heard.differing x.1 in
    subst (IsEvent plan given h) x.2 (record {
      text_is = λ number. ap (λ t. ((event_line number (what_came (spelled plan) h.noted.event) ++ flat_map (give_line (spelled plan)) h.noted.gives) ++ t) ++ flat_map stray_line h.strays) all.0;
      can = record { event = heard.event; gives = heard.gives; differences = all.1 };
    })

pub event_told_apart : (plan : Plan) (given : Given) (h : Heard) (e : GivenEvent) → IsHeard plan given.node h → event_apart h.noted ≡ Some e → IsEvent plan given h e
event_told_apart plan given h e heard is = by_differing h.noted.differing refl is
  where
    by_differing : (ds : List Differing) → h.noted.differing ≡ ds → cond (nothing_differs ds) (Some (event_with h.noted [])) None ≡ Some e → IsEvent plan given h e
    by_differing [] none read =
        let same : event_with h.noted [] ≡ e = cc in
        subst (IsEvent plan given h) same (record {
          text_is = λ number. ap (λ ds. ((event_line number (what_came (spelled plan) h.noted.event) ++ flat_map (give_line (spelled plan)) h.noted.gives) ++ flat_map differing_line ds) ++ flat_map stray_line h.strays) none;
          can = record { event = heard.event; gives = heard.gives; differences = tt };
        })
    by_differing (d ∷ ds) none read = cc

-- all events, with the strays behind them
pub record AreEvents (plan : Plan) (given : Given) (number : ℕ) (hs : List Heard) (es : List GivenEvent) : Type 0 where
  pub noted : List texts.Noted
  pub events : map (λ (n : texts.Noted). n.given) noted ≡ es
  pub strays : AllByRecursion (λ (n : texts.Noted). AllByRecursion IsStray n.strays) noted
  pub text_is : all_heard (spelled plan) number hs ≡ all_noted_lines (spelled plan) number noted
  pub many : length es ≡ length hs
  pub can : AllByRecursion (CanHappen plan given) es

pub events_told : (plan : Plan) (given : Given) (f : Noted → Option GivenEvent) → ((h : Heard) (e : GivenEvent) → IsHeard plan given.node h → f h.noted ≡ Some e → IsEvent plan given h e) → (number : ℕ) (hs : List Heard) (es : List GivenEvent) → AllByRecursion (IsHeard plan given.node) hs → each_read f (map noted_of hs) ≡ Some es → AreEvents plan given number hs es
events_told plan given f tells number [] es heard is =
    let none : [] ≡ es = cc in
    subst (AreEvents plan given number []) none (record { noted = []; events = refl; strays = tt; text_is = refl; many = refl; can = tt })
events_told plan given f tells number (h ∷ hs) es heard is =
    let x = from_is (f h.noted) (λ b. option_map (λ bs. b ∷ bs) (each_read f (map noted_of hs))) es is in
    let y = map_is (λ bs. x.0 ∷ bs) (each_read f (map noted_of hs)) es x.2 in
    let one = tells h x.0 heard.0 x.1 in
    let others = events_told plan given f tells (number + 1) hs y.0 heard.1 y.1 in
    let first : texts.Noted = record { given = x.0; strays = h.strays } in
    let before = one.text_is number in
    let behind = others.text_is in
    subst (AreEvents plan given number (h ∷ hs)) y.2 (record {
      noted = first ∷ others.noted;
      events = ap (λ gs. x.0 ∷ gs) others.events;
      strays = (heard.0.strays, others.strays);
      text_is = λ i. before i ++ behind i;
      many = ap suc others.many;
      can = (one.can, others.can);
    })
