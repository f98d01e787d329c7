-- The text of a record is read, as what it says.
use Rattle.std.specs.List.{AllByRecursion}
use Rattle.std.specs.Option.{option_map_or}
use Rattle.std.proofs.Common.{◌≡◌, ◌∙◌, ℕ, ◌+◌, ◌<◌, ◌≤◌, ◌^◌, true, List, [], ◌∷◌, ◌++◌, length, map, codes, Option, Some, None, option_map, option_and_then, refl, sym, ap, subst, arith, append_assoc, append-nil, length-append}
use Rattle.std.proofs.lemmas.List.{length-map}
use Rattle.circus_collate.specs.declared.view.View.{View}
use Rattle.circus_model.specs.declared.signature.Signature.{Signature}
use Rattle.circus_transfer.specs.declared.joiner.Joiner.{Joiner}
use Rattle.circus_transfer.specs.declared.joiner.Joiner.TheVariants as joiner
use Rattle.circus_record.specs.declared.record.MemberRecord.{MemberRecord}
use Rattle.circus_record.specs.Line.{line}
use Rattle.circus_record.specs.Naming.{host_name, names_of}
use Rattle.circus_record.specs.MemberText.{member_lines}
use Rattle.circus_node.specs.Accepting.{troupe_at}
use Rattle.circus_config.specs.declared.plan.Plan.{Plan}
use Rattle.circus_audit.specs.Possible.{declared_by, CanDiffer, CanHappen, IsMember, AreViews, IsKept}
use Rattle.circus_audit.specs.RecordText.{Noted, IsStray, all_noted_lines, kept_lines, record_text, IsRecordText}
use Rattle.circus_audit.specs.declared.given.GivenEvent.{GivenEvent}
use Rattle.circus_audit.specs.declared.given.Given.{Given}
use Rattle.circus_audit.specs.declared.noted.Noted as heard
use Rattle.circus_audit.specs.declared.noted.Happened.{Happened}
use Rattle.circus_audit.specs.declared.stage.Stage.TheVariants.{Events, Done}
use Rattle.circus_audit.specs.Seen.Answers.{from_some, whole}
use Rattle.circus_audit.specs.Seen.Names.{number_of_name, name_at}
use Rattle.circus_audit.specs.Seen.Reading.{node_names, own_read, nothing_happened, beginning, noted_by, events_by, given_by, stage_behind, hosted_as, hosted_by, lines_read, record_read}
use Rattle.circus_audit.proofs.SoundingEvents.{spelled}
use Rattle.circus_audit.proofs.SoundingRecord.{joined, names_are}
use Rattle.circus_audit.proofs.SoundingStages.{kept_text}
use Rattle.circus_audit.proofs.OneLine.{is_clean, clean_both}
use Rattle.circus_audit.proofs.Completing.{AreNames, named_complete}
use Rattle.circus_audit.proofs.CompletingNames.{name_clean}
use Rattle.circus_audit.proofs.CompletingPlans.{IsSpelled}
use Rattle.circus_audit.proofs.CompletingRows.{Reads, both_read, lines_of_joined}
use Rattle.circus_audit.proofs.CompletingHappening.{noted_from, CanStand, all_noted_read}
use Rattle.circus_audit.proofs.CompletingDiffering.{differing_plain, events_complete, events_apart_complete}
use Rattle.circus_audit.proofs.CompletingViews.{ring_read}
use Rattle.circus_audit.proofs.CompletingRuns.{HasFewAsks}
use Rattle.circus_audit.proofs.CompletingMembers.{member_read}
use Rattle.circus_audit.proofs.CompletingBounds.{noted_many, member_asks}

-- ---- the first line

pub own_complete : (plan : Plan) (own : ℕ) → AreNames (node_names plan) → own < length (node_names plan) → own_read plan (codes "circus node 1 " ++ name_at (node_names plan) own) ≡ Some own
own_complete plan own names few =
    ap whole (ap (number_of_name (node_names plan)) (sym (append-nil (name_at (node_names plan) own))) ∙ named_complete (node_names plan) names own [] few refl)

-- ---- events

module _ (plan : Plan) (given : Given) (is_spelled : IsSpelled plan) where
  pub can_stand : (notes : List Noted) (events : List GivenEvent) → map (λ (n : Noted). n.given) notes ≡ events → AllByRecursion (CanHappen plan given) events → AllByRecursion (λ (n : Noted). AllByRecursion IsStray n.strays) notes → AllByRecursion (CanStand plan given.node (hosted_by plan given.node) is_spelled.nodes) notes
  can_stand notes events are can strays = by_notes notes (subst (AllByRecursion (CanHappen plan given)) (sym are) can) strays
    where
      by_notes : (ns : List Noted) → AllByRecursion (CanHappen plan given) (map (λ (n : Noted). n.given) ns) → AllByRecursion (λ (n : Noted). AllByRecursion IsStray n.strays) ns → AllByRecursion (CanStand plan given.node (hosted_by plan given.node) is_spelled.nodes) ns
      by_notes [] can strays = tt
      by_notes (n ∷ ns) can strays = (
        record {
          event = can.0.event;
          gives = can.0.gives;
          differing = differing_plain plan given.node is_spelled.nodes (troupe_at plan.deployment given.node) given.member n.given.differences can.0.differences;
          strays = strays.0;
        },
        by_notes ns can.1 strays.1,
      )

  pub noted_all : (notes : List Noted) → map (λ (n : Noted). noted_from plan n.given) notes ≡ map (noted_from plan) (map (λ (n : Noted). n.given) notes)
  noted_all [] = refl
  noted_all (n ∷ notes) = ap (λ (ns : List heard.Noted). noted_from plan n.given ∷ ns) (noted_all notes)

  pub can_differ : (es : List GivenEvent) → AllByRecursion (CanHappen plan given) es → AllByRecursion (λ (e : GivenEvent). AllByRecursion (CanDiffer plan given.node (troupe_at plan.deployment given.node) given.member) e.differences) es
  can_differ [] can = tt
  can_differ (e ∷ es) can = (can.0.differences, can_differ es can.1)

-- ---- what is kept, and the end

-- each run of the member has so few asks that four bytes count them
abbrev pub HaveFewAsks : Option MemberRecord → Type 0
HaveFewAsks None = Unit {0}
HaveFewAsks (Some kept) = AllByRecursion HasFewAsks kept.runs

module _ (plan : Plan) (own : ℕ) (is_spelled : IsSpelled plan) (here : own < length (node_names plan)) (events : List GivenEvent) where
  abbrev Differ : Option ℕ → Option MemberRecord → Type 0
  Differ troupe member = AllByRecursion (λ (e : GivenEvent). AllByRecursion (CanDiffer plan own troupe member) e.differences) events

  -- the last lines are read, and then the events
  pub record IsEndOf (h : Happened) (troupe : Option ℕ) (member : Option MemberRecord) (views : Option (List View)) : Type 0 where
    pub read : Reads plan own (hosted_by plan own) (Events h) (kept_text (spelled plan) own troupe member views) (Done (noted_by h) member views)
    pub events_are : events_by plan own (hosted_by plan own) member (noted_by h) ≡ Some events

  few_asks : (s : Signature) (troupe : ℕ) (kept : MemberRecord) (phase : Joiner) → kept.phase ≡ phase → IsMember plan s (length events) kept phase → length (member_lines (spelled plan) own troupe None kept) < 2 ^ 32 → AllByRecursion HasFewAsks kept.runs
  few_asks s troupe kept joiner.Outside at same few = subst (λ (k : MemberRecord). AllByRecursion HasFewAsks k.runs) (sym same) tt
  few_asks s troupe kept joiner.Asking at same few = subst (λ (k : MemberRecord). AllByRecursion HasFewAsks k.runs) (sym same) tt
  few_asks s troupe kept (joiner.Fetching incarnation) at same few = subst (λ (k : MemberRecord). AllByRecursion HasFewAsks k.runs) (sym same) tt
  few_asks s troupe kept (joiner.Active from) at active few = member_asks (spelled plan) own troupe kept from at few

  member_end : (h : Happened) («module» : ℕ) (kept : MemberRecord) (s : Signature) → troupe_at plan.deployment own ≡ Some «module» → declared_by plan «module» ≡ Some s → IsMember plan s (length events) kept kept.phase → noted_by h ≡ map (noted_from plan) events → length events ≤ 2 ^ 32 → Differ (troupe_at plan.deployment own) (Some kept) → AllByRecursion HasFewAsks kept.runs → IsEndOf h (Some «module») (Some kept) None
  member_end h «module» kept s at declared is are short differ asks =
      let host = hosted_as plan «module» s in
      let hosted_is : hosted_by plan own ≡ Some host = ap (option_and_then (λ m. option_map (hosted_as plan m) (declared_by plan m))) at ∙ ap (option_map (hosted_as plan «module»)) declared in
      let small = is_spelled.declared «module» s declared in
      let count : length events ≡ length (noted_by h) = sym (ap length are ∙ length-map events (noted_from plan)) in
      let read = member_read plan own host is_spelled small here (is_spelled.hosted «module» s declared) h kept (omega (arith, short, count)) (subst (λ n. IsMember plan s n kept kept.phase) count is) asks in
      let known : option_map_or (declared_by plan) (troupe_at plan.deployment own) None ≡ Some s = ap (λ o. option_map_or (declared_by plan) o None) at ∙ declared in
      record {
        read = subst (λ o. Reads plan own o (Events h) (member_lines (spelled plan) own «module» None kept) (Done (noted_by h) (Some kept) None)) (sym hosted_is) read;
        events_are = ap (λ o. events_by plan own o (Some kept) (noted_by h)) hosted_is ∙ ap (events_by plan own (Some host) (Some kept)) are ∙ events_complete plan own is_spelled.nodes (troupe_at plan.deployment own) kept s known small events differ;
      }

  ring_end : (h : Happened) (views : List View) → troupe_at plan.deployment own ≡ None → AreViews plan views → noted_by h ≡ map (noted_from plan) events → Differ (troupe_at plan.deployment own) None → IsEndOf h None None (Some views)
  ring_end h views at is are differ =
      let hosted_is : hosted_by plan own ≡ None = ap (option_and_then (λ m. option_map (hosted_as plan m) (declared_by plan m))) at in
      record {
        read = ring_read plan own (hosted_by plan own) is_spelled h views (omega (arith, here)) at is;
        events_are = ap (λ o. events_by plan own o None (noted_by h)) hosted_is ∙ ap (events_by plan own None None) are ∙ events_apart_complete plan own is_spelled.nodes None events (subst (λ o. Differ o None) at differ);
      }

  -- a short text has few asks
  kept_few : (troupe : Option ℕ) (member : Option MemberRecord) (views : Option (List View)) → IsKept plan (length events) troupe member views → length (kept_text (spelled plan) own troupe member views) < 2 ^ 32 → HaveFewAsks member
  kept_few (Some «module») (Some kept) None is few = few_asks is.0 «module» kept kept.phase refl is.2 few
  kept_few None None (Some views) is few = tt
  kept_few (Some «module») (Some kept) (Some views) is few = absurd is
  kept_few (Some «module») None views is few = absurd is
  kept_few None (Some kept) views is few = absurd is
  kept_few None None None is few = absurd is

  kept_end : (h : Happened) (troupe : Option ℕ) (member : Option MemberRecord) (views : Option (List View)) → troupe_at plan.deployment own ≡ troupe → IsKept plan (length events) troupe member views → noted_by h ≡ map (noted_from plan) events → length events ≤ 2 ^ 32 → Differ (troupe_at plan.deployment own) member → HaveFewAsks member → IsEndOf h troupe member views
  kept_end h (Some «module») (Some kept) None at is are short differ few = member_end h «module» kept is.0 at is.1 is.2 are short differ few
  kept_end h None None (Some views) at is are short differ few = ring_end h views at is are differ
  kept_end h (Some «module») (Some kept) (Some views) at is are short differ few = absurd is
  kept_end h (Some «module») None views at is are short differ few = absurd is
  kept_end h None (Some kept) views at is are short differ few = absurd is
  kept_end h None None None at is are short differ few = absurd is

-- ---- the whole

behind_first : (first events kept : List ℕ) → (first ++ events) ++ kept ≡ first ++ (events ++ kept)
behind_first first events kept = append_assoc first events kept

-- the lines of a record lead to what it says
pub record HasRows (plan : Plan) (given : Given) (text : List ℕ) : Type 0 where
  pub first : List ℕ
  pub rows : List (List ℕ)
  pub text_is : text ≡ joined (first ∷ rows)
  pub clean : AllByRecursion (λ row. is_clean row ≡ true) (first ∷ rows)
  pub own_is : own_read plan first ≡ Some given.node
  pub notes : List heard.Noted
  pub reach : stage_behind plan given.node (hosted_by plan given.node) beginning rows ≡ Some (Done notes given.member given.views)
  pub events_are : events_by plan given.node (hosted_by plan given.node) given.member notes ≡ Some given.events
  pub few : length notes ≤ 2 ^ 32

pub record_rows : (plan : Plan) (given : Given) (text : List ℕ) → IsSpelled plan → (is : IsRecordText plan given text) → length is.noted ≤ 2 ^ 32 → HaveFewAsks given.member → HasRows plan given text
record_rows plan given text is_spelled is few asks =
    let own = given.node in
    let hosted = hosted_by plan own in
    let possible = is.possible in
    let here : own < length (node_names plan) = subst (λ k. own < k) (sym (length-map plan.deployment.nodes host_name)) possible.node in
    let name = codes "circus node 1 " ++ name_at (node_names plan) own in
    let all = all_noted_lines (spelled plan) 0 is.noted in
    let kept = kept_text (spelled plan) own (troupe_at plan.deployment own) given.member given.views in
    let text_is : text ≡ (line name ++ all) ++ kept = is.is_text ∙ ap (λ names. record_text names plan.deployment is.noted given) (names_are plan) in
    let counted : length is.noted ≡ length given.events = sym (length-map is.noted (λ (n : Noted). n.given)) ∙ ap length is.events in
    let happened = all_noted_read plan own hosted is_spelled.nodes nothing_happened 0 is.noted refl (can_stand plan given is_spelled is.noted given.events is.events possible.events is.strays) (omega (arith, few)) in
    let are = happened.are ∙ noted_all plan given is_spelled is.noted ∙ ap (map (noted_from plan)) is.events in
    let end = kept_end plan own is_spelled here given.events happened.next (troupe_at plan.deployment own) given.member given.views refl possible.kept are (omega (arith, few, counted)) (can_differ plan given is_spelled given.events possible.events) asks in
    let last = Done (noted_by happened.next) given.member given.views in
    let both = both_read plan own hosted beginning (Events happened.next) last all kept happened.read end.read in
    record {
      first = name;
      rows = both.rows;
      text_is = text_is ∙ behind_first (line name) all kept ∙ ap (λ t. line name ++ t) both.text_is;
      clean = (clean_both (codes "circus node 1 ") (name_at (node_names plan) own) refl (name_clean (node_names plan) is_spelled.nodes own here), both.clean);
      own_is = own_complete plan own is_spelled.nodes here;
      notes = noted_by happened.next;
      reach = both.reach;
      events_are = end.events_are;
      few = omega (arith, few, counted, ap length are ∙ length-map given.events (noted_from plan));
    }

-- a short record has few events and asks
pub short_noted : (plan : Plan) (given : Given) (text : List ℕ) → (is : IsRecordText plan given text) → length text < 2 ^ 32 → length is.noted ≤ 2 ^ 32
short_noted plan given text is few =
    let names = names_of plan.deployment.nodes plan.names in
    let name = codes "circus node 1 " ++ names.node given.node in
    let all = all_noted_lines names 0 is.noted in
    let kept = kept_lines names plan.deployment given in
    let many = noted_many names 0 is.noted in
    omega (arith, few, many, ap length is.is_text, length-append (line name ++ all) kept, length-append (line name) all)

pub short_asks : (plan : Plan) (given : Given) (text : List ℕ) → IsSpelled plan → IsRecordText plan given text → length text < 2 ^ 32 → HaveFewAsks given.member
short_asks plan given text is_spelled is few =
    let own = given.node in
    let here : own < length (node_names plan) = subst (λ k. own < k) (sym (length-map plan.deployment.nodes host_name)) is.possible.node in
    let name = codes "circus node 1 " ++ name_at (node_names plan) own in
    let all = all_noted_lines (spelled plan) 0 is.noted in
    let kept = kept_text (spelled plan) own (troupe_at plan.deployment own) given.member given.views in
    let text_is : text ≡ (line name ++ all) ++ kept = is.is_text ∙ ap (λ names. record_text names plan.deployment is.noted given) (names_are plan) in
    kept_few plan own is_spelled here given.events (troupe_at plan.deployment own) given.member given.views is.possible.kept (omega (arith, few, ap length text_is, length-append (line name ++ all) kept))

-- the text of a record is read
pub record_is_read : (plan : Plan) (given : Given) (text : List ℕ) → IsSpelled plan → IsRecordText plan given text → length text < 2 ^ 32 → record_read plan text ≡ Some given
record_is_read plan given text is_spelled is few =
    let r = record_rows plan given text is_spelled is (short_noted plan given text is few) (short_asks plan given text is_spelled is few) in
    let own = given.node in
    let hosted = hosted_by plan own in
    ap (record_read plan) r.text_is
    ∙ ap (λ o. from_some o (lines_read plan)) (lines_of_joined (r.first ∷ r.rows) r.clean)
    ∙ ap (λ o. from_some o (λ n. from_some (stage_behind plan n (hosted_by plan n) beginning r.rows) (given_by plan n (hosted_by plan n)))) r.own_is
    ∙ ap (λ o. from_some o (given_by plan own hosted)) r.reach
    ∙ ap (option_map (λ (events : List GivenEvent). record { node = own; events = events; member = given.member; views = given.views })) r.events_are
