-- A text that is read is the text of the record that was read.
use Rattle.std.specs.List.{AllByRecursion}
use Rattle.std.specs.Option.{option_map_or}
use Rattle.std.proofs.Common.{◌≡◌, ◌∙◌, ℕ, ◌<◌, Bool, true, false, cond, nat_eq, List, [], ◌∷◌, ◌++◌, length, map, slice_get, unwrap_or, codes, Option, Some, None, option_map, option_and_then, Result, Ok, Err, IfOk, refl, sym, ap, subst, arith, append_assoc, append-nil}
use Rattle.std.proofs.lemmas.Bool.{eqb-true}
use Rattle.std.proofs.lemmas.List.{length-map}
use Rattle.std.proofs.lemmas.Option.{slice_get-map}
use Rattle.circus_collate.specs.declared.deployment.Host.{Host}
use Rattle.circus_collate.specs.declared.view.View.{View}
use Rattle.circus_record.specs.declared.record.MemberRecord.{MemberRecord}
use Rattle.circus_record.specs.Line.{line}
use Rattle.circus_record.specs.Naming.{host_name, names_of}
use Rattle.circus_node.specs.Accepting.{troupe_at}
use Rattle.circus_config.specs.declared.plan.Plan.{Plan}
use Rattle.circus_value_text.specs.Reading.{behind_prefix, behind}
use Rattle.circus_value_text.proofs.Marks.{passed_stands, behind_some}
use Rattle.circus_audit.specs.Possible.{declared_by, IsKept}
use Rattle.circus_audit.specs.RecordText.{record_text, all_noted_lines, IsRecordText}
use Rattle.circus_audit.specs.declared.given.GivenEvent.{GivenEvent}
use Rattle.circus_audit.specs.declared.given.Given.{Given}
use Rattle.circus_audit.specs.declared.noted.Noted.{Noted}
use Rattle.circus_audit.specs.declared.setting.Hosted.{Hosted}
use Rattle.circus_audit.specs.declared.stage.Stage.{Stage}
use Rattle.circus_audit.specs.declared.stage.Stage.TheVariants.{Events, Runs, Watching, Done}
use Rattle.circus_audit.specs.Seen.Answers.{from_some}
use Rattle.circus_audit.specs.Seen.Breaking.{onto_line, all_lines}
use Rattle.circus_audit.specs.Seen.Names.{number_of_name, name_at}
use Rattle.circus_audit.specs.Seen.Differing.{event_of, event_apart}
use Rattle.circus_audit.specs.Seen.Read.{IsRead}
use Rattle.circus_audit.specs.declared.fault.RecordFault.{RecordFault}
use Rattle.circus_audit.specs.declared.fault.RecordFault.TheVariants.{BadLine, NoMemory}
use Rattle.circus_audit.specs.Seen.Reading.{node_names, own_read, beginning, events_by, stage_after, given_by, stage_behind, hosted_as, hosted_by, lines_read, record_read}
use Rattle.circus_audit.proofs.Opening.{from_is, map_is}
use Rattle.circus_audit.proofs.Sounding.{whole_some}
use Rattle.circus_audit.proofs.SoundingMember.{named_sound}
use Rattle.circus_audit.proofs.SoundingEvents.{spelled}
use Rattle.circus_audit.proofs.SoundingHappening.{Heard, noted_of, IsHeard}
use Rattle.circus_audit.proofs.SoundingDiffering.{event_told, event_told_apart, AreEvents, events_told}
use Rattle.circus_audit.proofs.SoundingStages.{kept_text, Hosting, IsDone, IsStage, stage_sound}

-- ---- names

node_is : (nodes : List Host) (n : ℕ) → option_map_or host_name (slice_get nodes n) [] ≡ name_at (map host_name nodes) n
node_is nodes n = by_host (slice_get nodes n) ∙ ap (λ o. unwrap_or o []) (sym (slice_get-map host_name nodes n))
  where
    by_host : (o : Option Host) → option_map_or host_name o [] ≡ unwrap_or (option_map host_name o) []
    by_host (Some h) = refl
    by_host None = refl

troupe_is : (o : Option (List ℕ)) → option_map_or (λ name. name) o [] ≡ unwrap_or o []
troupe_is (Some name) = refl
troupe_is None = refl

pub names_are : (plan : Plan) → names_of plan.deployment.nodes plan.names ≡ spelled plan
names_are plan = λ i. record { node = λ n. node_is plan.deployment.nodes n i; troupe = λ n. troupe_is (slice_get plan.names n) i }

-- ---- lines

-- lines, each with its newline
abbrev pub joined : List (List ℕ) → List ℕ
joined [] = []
joined (row ∷ rows) = line row ++ joined rows

onto_is : (b : ℕ) (o : Option (List (List ℕ))) (rows : List (List ℕ)) → from_some o (onto_line b) ≡ Some rows → (first : List ℕ) × (others : List (List ℕ)) × (o ≡ Some (first ∷ others)) × ((b ∷ first) ∷ others ≡ rows)
onto_is b (Some []) rows is = cc
onto_is b (Some (first ∷ others)) rows is = (first, others, refl, cc)
onto_is b None rows is = cc

pub lines_join : (text : List ℕ) (rows : List (List ℕ)) → all_lines text ≡ Some rows → text ≡ joined rows
lines_join [] rows is =
    let none : [] ≡ rows = cc in
    ap joined none
lines_join (b ∷ text) rows is = by_byte (nat_eq b 10) refl (lines_join text) is
  where
    by_byte : (end : Bool) → nat_eq b 10 ≡ end → ((rs : List (List ℕ)) → all_lines text ≡ Some rs → text ≡ joined rs) → cond end (option_map (λ lines. [] ∷ lines) (all_lines text)) (from_some (all_lines text) (onto_line b)) ≡ Some rows → b ∷ text ≡ joined rows
    by_byte true newline go_on read =
        let x = map_is (λ lines. [] ∷ lines) (all_lines text) rows read in
        let same = eqb-true b 10 newline in
        let later = go_on x.0 x.1 in
        (λ i. same i ∷ later i) ∙ ap joined x.2
    by_byte false newline go_on read =
        let x = onto_is b (all_lines text) rows read in
        ap (λ t. b ∷ t) (go_on (x.0 ∷ x.1) x.2) ∙ ap joined x.3

-- ---- whom a node hosts

pub chosen : {A B : Type 0} (f : A → Option B) (o : Option A) (b : B) → option_and_then f o ≡ Some b → (a : A) × (o ≡ Some a) × (f a ≡ Some b)
chosen f (Some a) b is = (a, refl, is)
chosen f None b is = cc

pub hosting : (plan : Plan) (own : ℕ) (o : Option Hosted) → hosted_by plan own ≡ o → Hosting plan own (hosted_by plan own) o
hosting plan own None is = tt
hosting plan own (Some host) is =
    let x = chosen (λ «module». option_map (hosted_as plan «module») (declared_by plan «module»)) (troupe_at plan.deployment own) host is in
    let y = map_is (hosted_as plan x.0) (declared_by plan x.0) host x.2 in
    record {
      is_hosted = is;
      troupe = x.1 ∙ ap (λ (h : Hosted). Some h.«module») y.2;
      declared = ap (λ (h : Hosted). declared_by plan h.«module») (sym y.2) ∙ y.1 ∙ ap (λ (h : Hosted). Some h.signature) y.2;
    }

-- ---- the end

module _ (plan : Plan) (own : ℕ) where
  abbrev given_of : List GivenEvent → Option MemberRecord → Option (List View) → Given
  given_of events kept views = record { node = own; events = events; member = kept; views = views }

  -- what the events say, by whom the node hosts
  told_events : (notes : List Noted) (kept : Option MemberRecord) (views : Option (List View)) (events : List GivenEvent) (o : Option Hosted) (heard : List Heard) → Hosting plan own (hosted_by plan own) o → map noted_of heard ≡ notes → AllByRecursion (IsHeard plan own) heard → events_by plan own o kept notes ≡ Some events → AreEvents plan (given_of events kept views) 0 heard events
  told_events notes None views events None heard hosts are each is =
      events_told plan (given_of events None views) event_apart (event_told_apart plan (given_of events None views)) 0 heard events each (ap (λ ns. events_by plan own None None ns) are ∙ is)
  told_events notes (Some kept) views events None heard hosts are each is = cc
  told_events notes None views events (Some host) heard hosts are each is = cc
  told_events notes (Some kept) views events (Some host) heard hosts are each is =
      let declared : option_map_or (declared_by plan) (troupe_at plan.deployment own) None ≡ Some host.signature = ap (λ o. option_map_or (declared_by plan) o None) hosts.troupe ∙ hosts.declared in
      let given = given_of events (Some kept) views in
      events_told plan given (event_of (node_names plan) (length plan.names) own host.signature.imports kept) (event_told plan given host.signature kept declared refl) 0 heard events each (ap (λ ns. events_by plan own (Some host) (Some kept) ns) are ∙ is)

  finish : (notes : List Noted) (kept : Option MemberRecord) (views : Option (List View)) (given : Given) (text : List ℕ) → own < length (node_names plan) → given_by plan own (hosted_by plan own) (Done notes kept views) ≡ Some given → IsDone plan own (hosted_by plan own) notes kept views text → IsRecordText plan given (line (codes "circus node 1 " ++ name_at (node_names plan) own) ++ text)
  finish notes kept views given text few is done =
      let x = map_is (λ events. given_of events kept views) (events_by plan own (hosted_by plan own) kept notes) given is in
      let told = told_events notes kept views x.0 (hosted_by plan own) done.events.heard (hosting plan own (hosted_by plan own) refl) done.events.are done.events.each x.1 in
      let first = line (codes "circus node 1 " ++ name_at (node_names plan) own) in
      let many : length notes ≡ length x.0 = sym (ap length done.events.are) ∙ length-map done.events.heard noted_of ∙ sym told.many in
      let behind = kept_text (spelled plan) own (troupe_at plan.deployment own) kept views in
      let events_text = done.events.text_is ∙ told.text_is in
      subst (λ g. IsRecordText plan g (first ++ text)) x.2 (record {
        possible = record {
          node = subst (λ n. own < n) (length-map plan.deployment.nodes host_name) few;
          events = told.can;
          kept = subst (λ n. IsKept plan n (troupe_at plan.deployment own) kept views) many done.is_kept;
        };
        noted = told.noted;
        events = told.events;
        strays = told.strays;
        is_text = ap (λ t. first ++ t) (done.text_is ∙ ap (λ t. t ++ behind) events_text) ∙ sym (append_assoc first (all_noted_lines (spelled plan) 0 told.noted) behind) ∙ ap (λ names. record_text names plan.deployment told.noted (given_of x.0 kept views)) (sym (names_are plan));
      })

  by_stage : (stage : Stage) (given : Given) (text : List ℕ) → own < length (node_names plan) → given_by plan own (hosted_by plan own) stage ≡ Some given → IsStage plan own (hosted_by plan own) stage text → IsRecordText plan given (line (codes "circus node 1 " ++ name_at (node_names plan) own) ++ text)
  by_stage (Events h) given text few is stands = cc
  by_stage (Runs notes p) given text few is stands = cc
  by_stage (Watching notes views) given text few is stands = cc
  by_stage (Done notes kept views) given text few is stands = finish notes kept views given text few is stands

  lines_sound : (stage last : Stage) (rows : List (List ℕ)) (text : List ℕ) → stage_behind plan own (hosted_by plan own) stage rows ≡ Some last → IsStage plan own (hosted_by plan own) stage text → IsStage plan own (hosted_by plan own) last (text ++ joined rows)
  lines_sound stage last [] text is stands =
      let same : stage ≡ last = cc in
      subst (λ s. IsStage plan own (hosted_by plan own) s (text ++ [])) same (subst (IsStage plan own (hosted_by plan own) stage) (sym (append-nil text)) stands)
  lines_sound stage last (row ∷ rows) text is stands =
      let x = from_is (stage_after plan own (hosted_by plan own) stage row) (λ next. stage_behind plan own (hosted_by plan own) next rows) last is in
      let next = stage_sound plan own (hosted_by plan own) stage row text x.0 (hosting plan own (hosted_by plan own) refl) x.1 stands in
      subst (IsStage plan own (hosted_by plan own) last) (append_assoc text (line row) (joined rows)) (lines_sound x.0 last rows (text ++ line row) x.2 next)

  pub begins : IsStage plan own (hosted_by plan own) beginning []
  begins = record {
    front = [];
    earlier = record { heard = []; are = refl; each = tt; few = omega arith; text_is = refl };
    last = [];
    is_last = refl;
    text_is = refl;
  }

pub own_sound : (plan : Plan) (row : List ℕ) (own : ℕ) → own_read plan row ≡ Some own → (row ≡ codes "circus node 1 " ++ name_at (node_names plan) own) × (own < length (node_names plan))
own_sound plan row own is =
    let w = whole_some (behind (behind_prefix (codes "circus node 1 ") row) (number_of_name (node_names plan))) own is in
    let x = behind_some (behind_prefix (codes "circus node 1 ") row) (number_of_name (node_names plan)) (own, w.0) w.1 in
    let n = named_sound (node_names plan) x.0 own w.0 x.2 in
    let name = name_at (node_names plan) own in
    (passed_stands (codes "circus node 1 ") row x.0 x.1 ∙ ap (λ t. codes "circus node 1 " ++ t) (n.0 ∙ ap (λ t. name ++ t) w.2 ∙ append-nil name), n.1)

-- what is read is what the text says
pub read_is_record : (plan : Plan) (text : List ℕ) (given : Given) → record_read plan text ≡ Some given → IsRecordText plan given text
read_is_record plan text given is =
    let x = from_is (all_lines text) (lines_read plan) given is in
    subst (IsRecordText plan given) (sym (lines_join text x.0 x.1)) (by_rows x.0 x.2)
  where
    by_rows : (rows : List (List ℕ)) → lines_read plan rows ≡ Some given → IsRecordText plan given (joined rows)
    by_rows [] read = cc
    by_rows (first ∷ rows) read =
        let o = from_is (own_read plan first) (λ own. from_some (stage_behind plan own (hosted_by plan own) beginning rows) (given_by plan own (hosted_by plan own))) given read in
        let s = from_is (stage_behind plan o.0 (hosted_by plan o.0) beginning rows) (given_by plan o.0 (hosted_by plan o.0)) given o.2 in
        let own = own_sound plan first o.0 o.1 in
        let stands = lines_sound plan o.0 beginning s.0 rows [] s.1 (begins plan o.0) in
        subst (λ t. IsRecordText plan given (line t ++ joined rows)) (sym own.0) (by_stage plan o.0 s.0 given (joined rows) own.1 s.2 stands)

pub read_ok : (plan : Plan) (text : List ℕ) (r : Result Given RecordFault) → IsRead r (record_read plan text) → IfOk r (λ given. IsRecordText plan given text)
read_ok plan text (Ok given) is = read_is_record plan text given is
read_ok plan text (Err (BadLine line)) is = tt
read_ok plan text (Err NoMemory) is = tt
