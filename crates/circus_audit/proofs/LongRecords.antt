-- Any record is read to its end, or up to more lines than a text has that can be read.
use Rattle.std.specs.List.{AllByRecursion}
use Rattle.std.specs.Prelude.{option_and_then}
use Rattle.std.proofs.Common.{◌≡◌, ◌∙◌, ℕ, ◌+◌, ◌<◌, ◌≤◌, ◌^◌, ◌⊎◌, inl, inr, List, [], ◌++◌, length, map, codes, Option, Some, None, option_map, refl, sym, ap, subst, arith, append_assoc, length-append}
use Rattle.std.proofs.lemmas.Bool.{cases_lt}
use Rattle.std.proofs.lemmas.List.{length-map}
use Rattle.circus_collate.specs.declared.view.View.{View}
use Rattle.circus_model.specs.declared.signature.Signature.{Signature}
use Rattle.circus_transfer.specs.declared.joiner.Joiner.{Joiner}
use Rattle.circus_transfer.specs.declared.joiner.Joiner.TheVariants as joiner
use Rattle.circus_record.specs.declared.record.MemberRecord.{MemberRecord}
use Rattle.circus_record.specs.Line.{line}
use Rattle.circus_record.specs.Naming.{host_name}
use Rattle.circus_performing.specs.Performing.{before_any}
use Rattle.circus_node.specs.Accepting.{troupe_at}
use Rattle.circus_config.specs.declared.plan.Plan.{Plan}
use Rattle.circus_audit.specs.Possible.{declared_by, IsActive, IsMember, IsKept}
use Rattle.circus_audit.specs.RecordText.{Noted, all_noted_lines, record_text, IsRecordText}
use Rattle.circus_audit.specs.declared.given.Given.{Given}
use Rattle.circus_audit.specs.declared.noted.Happened.{Happened}
use Rattle.circus_audit.specs.declared.performed.Current.TheVariants.{Run}
use Rattle.circus_audit.specs.declared.setting.Hosted.{Hosted}
use Rattle.circus_audit.specs.declared.stage.Stage.{Stage}
use Rattle.circus_audit.specs.declared.stage.Stage.TheVariants.{Events, Runs}
use Rattle.circus_audit.specs.Seen.Names.{name_at}
use Rattle.circus_audit.specs.Seen.Reading.{node_names, nothing_happened, beginning, noted_by, hosted_as, hosted_by}
use Rattle.circus_audit.proofs.SoundingEvents.{spelled}
use Rattle.circus_audit.proofs.SoundingRecord.{names_are}
use Rattle.circus_audit.proofs.SoundingStages.{kept_text}
use Rattle.circus_audit.proofs.OneLine.{clean_both}
use Rattle.circus_audit.proofs.CompletingNames.{name_clean}
use Rattle.circus_audit.proofs.CompletingPlans.{IsSpelled}
use Rattle.circus_audit.proofs.CompletingRows.{Reads, both_read}
use Rattle.circus_audit.proofs.CompletingHappening.{noted_from, all_noted_read}
use Rattle.circus_audit.proofs.CompletingPerforming.{begun_of, with_asks}
use Rattle.circus_audit.proofs.CompletingRuns.{HasFewAsks}
use Rattle.circus_audit.proofs.CompletingRecord.{can_stand, can_differ, noted_all, own_complete, HaveFewAsks, HasRows, record_rows}
use Rattle.circus_audit.proofs.GoingBack.{AllTell}
use Rattle.circus_audit.proofs.GoingStages.{Tells, Leads}
use Rattle.circus_audit.proofs.LongRecord.{enough, HasRowsSoFar, tell_all, long_events, HasManyAsks, asks_or_many, before_is, member_so_far}

-- the stage in the middle of the asks of a run
abbrev many_stage : (plan : Plan) (host : Hosted) (h : Happened) (kept : MemberRecord) → HasManyAsks plan host.signature (length (noted_by h)) kept → Stage
many_stage plan host h kept m = Runs (noted_by h) (record { from = kept.from; since = kept.active_at; count = kept.count; runs = m.before; current = Run (with_asks (begun_of m.run) m.front) })

-- the lines of what is kept, as far as they are read
pub record IsKeptSoFar (plan : Plan) (own : ℕ) (h : Happened) (troupe : Option ℕ) (member : Option MemberRecord) (views : Option (List View)) : Type 0 where
  pub text : List ℕ
  pub more : List ℕ
  pub last : Stage
  pub are : kept_text (spelled plan) own troupe member views ≡ text ++ more
  pub read : Reads plan own (hosted_by plan own) (Events h) text last
  pub leads : Leads plan own (hosted_by plan own) member last
  pub large : enough ≤ length text

module _ (plan : Plan) (own : ℕ) (is_spelled : IsSpelled plan) (here : own < length (node_names plan)) (h : Happened) (short : length (noted_by h) < 2 ^ 64) where
  member_part : («module» : ℕ) (kept : MemberRecord) (s : Signature) (from : ℕ) → troupe_at plan.deployment own ≡ Some «module» → declared_by plan «module» ≡ Some s → kept.phase ≡ joiner.Active from → IsActive plan s (length (noted_by h)) from kept → HasManyAsks plan s (length (noted_by h)) kept → AllTell (Tells plan own (hosted_by plan own) (Some kept)) (noted_by h) → IsKeptSoFar plan own h (Some «module») (Some kept) None
  member_part «module» kept s from at declared phase is m tell =
      let host = hosted_as plan «module» s in
      let hosted_is : hosted_by plan own ≡ Some host = ap (option_and_then (λ x. option_map (hosted_as plan x) (declared_by plan x))) at ∙ ap (option_map (hosted_as plan «module»)) declared in
      let small = is_spelled.declared «module» s declared in
      let there = is_spelled.hosted «module» s declared in
      let r = member_so_far plan own host is_spelled small here there h short kept from phase is m in
      let stage = many_stage plan host h kept m in
      let read = subst (λ o. Reads plan own o (Events h) r.text stage) (sym hosted_is) r.read in
      record {
        text = r.text;
        more = r.more;
        last = stage;
        are = r.are;
        read = read;
        leads = record {
          host = host;
          is_host = hosted_is;
          kept = kept;
          is_kept = refl;
          tell = tell;
          short = short;
          before = before_is plan own host is_spelled small here there h short kept from phase is m;
        };
        large = r.large;
      }

  no_runs : (kept : MemberRecord) (other : MemberRecord) → kept ≡ other → other.runs ≡ [] → HaveFewAsks (Some kept)
  no_runs kept other same none = subst (λ rs. AllByRecursion HasFewAsks rs) (sym (ap (λ (k : MemberRecord). k.runs) same ∙ none)) tt

  by_phase : («module» : ℕ) (kept : MemberRecord) (s : Signature) (phase : Joiner) → troupe_at plan.deployment own ≡ Some «module» → declared_by plan «module» ≡ Some s → kept.phase ≡ phase → IsMember plan s (length (noted_by h)) kept phase → AllTell (Tells plan own (hosted_by plan own) (Some kept)) (noted_by h) → HaveFewAsks (Some kept) ⊎ IsKeptSoFar plan own h (Some «module») (Some kept) None
  by_phase «module» kept s joiner.Outside at declared phase same tell = inl (no_runs kept (before_any joiner.Outside []) same refl)
  by_phase «module» kept s joiner.Asking at declared phase same tell = inl (no_runs kept (before_any joiner.Asking []) same refl)
  by_phase «module» kept s (joiner.Fetching incarnation) at declared phase same tell = inl (no_runs kept (before_any (joiner.Fetching 0) []) same refl)
  by_phase «module» kept s (joiner.Active from) at declared phase is tell = by_asks (asks_or_many plan s (length (noted_by h)) kept from is)
    where
      by_asks : AllByRecursion HasFewAsks kept.runs ⊎ HasManyAsks plan s (length (noted_by h)) kept → HaveFewAsks (Some kept) ⊎ IsKeptSoFar plan own h (Some «module») (Some kept) None
      by_asks (inl few) = inl few
      by_asks (inr m) = inr (member_part «module» kept s from at declared phase is m tell)

  pub kept_part : (events : ℕ) (troupe : Option ℕ) (member : Option MemberRecord) (views : Option (List View)) → troupe_at plan.deployment own ≡ troupe → events ≡ length (noted_by h) → IsKept plan events troupe member views → AllTell (Tells plan own (hosted_by plan own) member) (noted_by h) → HaveFewAsks member ⊎ IsKeptSoFar plan own h troupe member views
  kept_part events (Some «module») (Some kept) None at count is tell = by_phase «module» kept is.0 kept.phase at is.1 refl (subst (λ n. IsMember plan is.0 n kept kept.phase) count is.2) tell
  kept_part events None None (Some views) at count is tell = inl tt
  kept_part events (Some «module») (Some kept) (Some views) at count is tell = absurd is
  kept_part events (Some «module») None views at count is tell = absurd is
  kept_part events None (Some kept) views at count is tell = absurd is
  kept_part events None None None at count is tell = absurd is

parts_text : (first all text more : List ℕ) → (first ++ all) ++ (text ++ more) ≡ (first ++ (all ++ text)) ++ more
parts_text first all text more = simp append_assoc

part_rows : (plan : Plan) (given : Given) (text : List ℕ) → IsSpelled plan → (is : IsRecordText plan given text) → (h : Happened) → Reads plan given.node (hosted_by plan given.node) beginning (all_noted_lines (spelled plan) 0 is.noted) (Events h) → given.node < length (node_names plan) → length is.noted ≤ 2 ^ 32 → HaveFewAsks given.member ⊎ IsKeptSoFar plan given.node h (troupe_at plan.deployment given.node) given.member given.views → HasRows plan given text ⊎ HasRowsSoFar plan given text
part_rows plan given text is_spelled is h read here few (inl asks) = inl (record_rows plan given text is_spelled is few asks)
part_rows plan given text is_spelled is h read here few (inr part) =
    let own = given.node in
    let hosted = hosted_by plan own in
    let name = codes "circus node 1 " ++ name_at (node_names plan) own in
    let all = all_noted_lines (spelled plan) 0 is.noted in
    let both = both_read plan own hosted beginning (Events h) part.last all part.text read part.read in
    let text_is = is.is_text ∙ ap (λ names. record_text names plan.deployment is.noted given) (names_are plan) ∙ ap (λ t. (line name ++ all) ++ t) part.are ∙ parts_text (line name) all part.text part.more in
    let large = part.large in
    inr (record {
      first = name;
      rows = both.rows;
      more = part.more;
      text_is = text_is ∙ ap (λ t. (line name ++ t) ++ part.more) both.text_is;
      clean = (clean_both (codes "circus node 1 ") (name_at (node_names plan) own) refl (name_clean (node_names plan) is_spelled.nodes own here), both.clean);
      own_is = own_complete plan own is_spelled.nodes here;
      last = part.last;
      reach = both.reach;
      leads = part.leads;
      large = omega (arith, large, ap length both.text_is, length-append all part.text);
    })

few_rows : (plan : Plan) (given : Given) (text : List ℕ) → IsSpelled plan → (is : IsRecordText plan given text) → length is.noted < enough → HasRows plan given text ⊎ HasRowsSoFar plan given text
few_rows plan given text is_spelled is less =
    let own = given.node in
    let hosted = hosted_by plan own in
    let possible = is.possible in
    let here : own < length (node_names plan) = subst (λ k. own < k) (sym (length-map plan.deployment.nodes host_name)) possible.node in
    let counted : length is.noted ≡ length given.events = sym (length-map is.noted (λ (n : Noted). n.given)) ∙ ap length is.events in
    let happened = all_noted_read plan own hosted is_spelled.nodes nothing_happened 0 is.noted refl (can_stand plan given is_spelled is.noted given.events is.events possible.events is.strays) (omega (arith, less)) in
    let h = happened.next in
    let are = happened.are ∙ noted_all plan given is_spelled is.noted ∙ ap (map (noted_from plan)) is.events in
    let count : length given.events ≡ length (noted_by h) = sym (ap length are ∙ length-map given.events (noted_from plan)) in
    let tell = tell_all plan own is_spelled (length given.events) (troupe_at plan.deployment own) given.member given.views given.events refl possible.kept (can_differ plan given is_spelled given.events possible.events) in
    let told = subst (λ ns. AllTell (Tells plan own hosted given.member) ns) (sym are) tell in
    let part = kept_part plan own is_spelled here h (omega (arith, less, counted, count)) (length given.events) (troupe_at plan.deployment own) given.member given.views refl count possible.kept told in
    part_rows plan given text is_spelled is h happened.read here (omega (arith, less)) part

pub whole_or_part : (plan : Plan) (given : Given) (text : List ℕ) → IsSpelled plan → IsRecordText plan given text → HasRows plan given text ⊎ HasRowsSoFar plan given text
whole_or_part plan given text is_spelled is = by_events (cases_lt (length is.noted) enough)
  where
    by_events : (length is.noted < enough) ⊎ (enough ≤ length is.noted) → HasRows plan given text ⊎ HasRowsSoFar plan given text
    by_events (inr many) = inr (long_events plan given text is_spelled is many)
    by_events (inl less) = few_rows plan given text is_spelled is less
