-- From each stage that rests well a record goes on to its end.
use Rattle.std.specs.List.{AllByRecursion}
use Rattle.std.proofs.Common.{◌≡◌, ◌∙◌, ℕ, zero, suc, ◌+◌, ◌-◌, ◌<◌, ◌≤◌, ◌^◌, ◌⊎◌, inl, inr, true, List, [], ◌∷◌, ◌++◌, length, codes, Option, Some, None, option_map, refl, sym, ap, subst, arith, length-append}
use Rattle.circus_model.specs.declared.signature.Signature.{Signature}
use Rattle.circus_collate.specs.declared.view.View.{View}
use Rattle.circus_transfer.specs.declared.joiner.Joiner.TheVariants as joiner
use Rattle.circus_record.specs.declared.record.RunRecord.{RunRecord}
use Rattle.circus_record.specs.declared.record.MemberRecord.{MemberRecord}
use Rattle.circus_performing.specs.Performing.{last_count}
use Rattle.circus_node.specs.Accepting.{troupe_at}
use Rattle.circus_config.specs.declared.plan.Plan.{Plan}
use Rattle.circus_audit.specs.Possible.{declared_by}
use Rattle.circus_audit.specs.declared.given.Given.{Given}
use Rattle.circus_audit.specs.declared.given.GivenEvent.{GivenEvent}
use Rattle.circus_audit.specs.declared.noted.Differing.{Differing}
use Rattle.circus_audit.specs.declared.noted.Noted.{Noted}
use Rattle.circus_audit.specs.declared.noted.Happened.{Happened}
use Rattle.circus_audit.specs.declared.performed.Current.{Current}
use Rattle.circus_audit.specs.declared.performed.Current.TheVariants.{Nothing, Run, Ask}
use Rattle.circus_audit.specs.declared.performed.Performed.{Performed}
use Rattle.circus_audit.specs.declared.setting.Hosted.{Hosted}
use Rattle.circus_audit.specs.declared.stage.Stage.{Stage}
use Rattle.circus_audit.specs.declared.stage.Stage.TheVariants.{Events, Runs, Watching, Done}
use Rattle.circus_audit.specs.Seen.Outlook.{all_named}
use Rattle.circus_audit.specs.Seen.Reading.{node_names, record_apart, noted_by, with_views, events_by, given_by}
use Rattle.circus_audit.proofs.SoundingEvents.{spelled}
use Rattle.circus_audit.proofs.SoundingHappening.{IsFewDiffering, HasLines, all_of}
use Rattle.circus_audit.proofs.SoundingPerforming.{run_now}
use Rattle.circus_audit.proofs.SoundingViews.{AreViewsFrom}
use Rattle.circus_audit.proofs.SoundingStages.{active_head, HostsIt, Hosting, IsPerformed, IsStage}
use Rattle.circus_audit.proofs.CompletingPlans.{IsSpelled}
use Rattle.circus_audit.proofs.CompletingRows.{Goes, goes_by, stays, both_go}
use Rattle.circus_audit.proofs.CompletingRuns.{HasFewAsks}
use Rattle.circus_audit.proofs.CompletingBounds.{runs_asks}
use Rattle.circus_audit.proofs.CompletingViews.{ring_reads, watched, views_read}
use Rattle.circus_audit.proofs.CompletingMembers.{apart_reads, counted_begins}
use Rattle.circus_audit.proofs.GoingOn.{IsTold}
use Rattle.circus_audit.proofs.SomeValues.{CanPerform}
use Rattle.circus_audit.proofs.SomeRuns.{asks_in, CanEnter, CanBeAsked, RunsAnswer, AreAsked, IsEndable, behind, nothing_end, IsNowWell, current_end}
use Rattle.circus_audit.proofs.SomeTold.{said, said_few, named_all, told_all, events_told, apart_told}

-- a run that is performed has few asks
few_asks : (runs : List RunRecord) (c : Current) → AllByRecursion HasFewAsks (runs ++ run_now c) → asks_in c < 2 ^ 32
few_asks [] Nothing all = omega arith
few_asks [] (Run run) all = all.0
few_asks [] (Ask run ask) all = let few = all.0 in omega (arith, few, length-append run.asks (ask ∷ []))
few_asks (r ∷ runs) c all = few_asks runs c all.1

-- ---- what rests well

-- the asks that lines of replies name can come
abbrev pub ComesBy : Plan → ℕ → Option Hosted → List Differing → Type 0
ComesBy plan own None expected = expected ≡ []
ComesBy plan own (Some host) expected = CanBeAsked plan own host.signature expected

-- what is kept at the end has them
abbrev pub EndsWell : Plan → ℕ → Option Hosted → Option MemberRecord → List Differing → Type 0
EndsWell plan own None None expected = expected ≡ []
EndsWell plan own None (Some kept) expected = ⊥
EndsWell plan own (Some host) None expected = ⊥
EndsWell plan own (Some host) (Some kept) expected = RunsAnswer plan own host.signature expected kept.from kept.runs × (all_named kept expected ≡ true)

-- an active member can still do what lines of replies name, and what its count says
pub record PerformsWell (plan : Plan) (own : ℕ) (host : Hosted) (expected : List Differing) (p : Performed) : Type 0 where
  pub come : CanBeAsked plan own host.signature expected
  pub least : p.from ≤ p.count
  pub most : p.count ≤ last_count
  pub named : AllByRecursion (λ (d : Differing). (p.from ≤ d.run) × (d.run < p.count + 1)) expected
  pub enters : (p.from ≡ p.count) ⊎ CanEnter plan host.signature
  pub counted : (p.from + length p.runs ≤ p.count) ⊎ ((p.count ≡ last_count) × (p.from + length p.runs ≤ last_count + 1))
  pub answer : RunsAnswer plan own host.signature expected p.from p.runs
  pub asked : AreAsked plan own host.signature expected p.from p.runs
  pub now : IsNowWell plan own host.signature expected p.from p.count p.runs p.current

module _ (plan : Plan) (own : ℕ) (hosted : Option Hosted) where
  abbrev pub RestsWell : List Differing → Stage → Type 0
  RestsWell expected (Events h) = (expected ≡ said (noted_by h)) × ComesBy plan own hosted expected
  RestsWell expected (Runs notes p) = (expected ≡ said notes) × ((host : Hosted) × (hosted ≡ Some host) × PerformsWell plan own host expected p)
  RestsWell expected (Watching notes views) = (expected ≡ said notes) × (expected ≡ []) × (hosted ≡ None) × (length views < length plan.names)
  RestsWell expected (Done notes kept views) = (expected ≡ said notes) × EndsWell plan own hosted kept expected

  -- lines lead from it to the end of a record
  pub record IsFinishable (stage : Stage) : Type 0 where
    pub last : Stage
    pub goes : Goes plan own hosted stage last
    pub given : Given
    pub ends : given_by plan own hosted last ≡ Some given

  events_end : (o : Option Hosted) (kept : Option MemberRecord) (notes : List Noted) (expected : List Differing) → expected ≡ said notes → EndsWell plan own o kept expected → (events : List GivenEvent) × (events_by plan own o kept notes ≡ Some events)
  events_end None None notes expected is ends = apart_told notes (sym is ∙ ends)
  events_end None (Some kept) notes expected is ends = absurd ends
  events_end (Some host) None notes expected is ends = absurd ends
  events_end (Some host) (Some kept) notes expected is ends = events_told plan own host.signature kept notes (subst (AllByRecursion (IsTold plan own host.signature kept)) is (told_all plan own host.signature expected kept ends.0 ends.1))

  finish : (stage : Stage) (notes : List Noted) (kept : Option MemberRecord) (views : Option (List View)) (expected : List Differing) → Goes plan own hosted stage (Done notes kept views) → expected ≡ said notes → EndsWell plan own hosted kept expected → IsFinishable stage
  finish stage notes kept views expected goes is ends =
      let events = events_end hosted kept notes expected is ends in
      record {
        last = Done notes kept views;
        goes = goes;
        given = record { node = own; events = events.0; member = kept; views = views };
        ends = ap (option_map (λ (es : List GivenEvent). record { node = own; events = es; member = kept; views = views })) events.1;
      }

  -- ---- the Ringmaster

  rest_of_views : (number many : ℕ) → (views : List View) × AreViewsFrom plan number views × (length views ≡ many)
  rest_of_views number zero = ([], tt, refl)
  rest_of_views number (suc many) =
      let others = rest_of_views (number + 1) many in
      let view : View = record { troupe = number; incarnation = 0; entries = [] } in
      (view ∷ others.0, ((refl, omega arith, tt), others.1), ap suc others.2)

  views_end : IsSpelled plan → (stage : Stage) (notes : List Noted) (views : List View) (expected : List Differing) → Goes plan own hosted stage (with_views plan notes views) → length views ≤ length plan.names → expected ≡ said notes → expected ≡ [] → hosted ≡ None → IsFinishable stage
  views_end is_spelled stage notes views expected goes few is none apart =
      let more = rest_of_views (length views) (length plan.names - length views) in
      let whole : length (views ++ more.0) ≡ length plan.names = omega (arith, few, more.2, length-append views more.0) in
      let last = Done notes None (Some (views ++ more.0)) in
      let read = goes_by plan own hosted (with_views plan notes views) last (views_read plan own hosted is_spelled notes views more.0 more.1 whole) in
      finish stage notes None (Some (views ++ more.0)) expected (both_go plan own hosted stage (with_views plan notes views) last goes read) is (subst (λ o. EndsWell plan own o None expected) (sym apart) none)

  -- ---- members

  module _ (is_spelled : IsSpelled plan) (perform : (number : ℕ) (s : Signature) → declared_by plan number ≡ Some s → CanPerform s) (here : own < length (node_names plan)) (hosts : Hosting plan own hosted hosted) (apart : hosted ≡ None → troupe_at plan.deployment own ≡ None) where
    hosts_it : (host : Hosted) → hosted ≡ Some host → HostsIt plan own hosted host
    hosts_it host is = subst (λ o. Hosting plan own hosted o) is hosts

    endable_finish : (host : Hosted) → hosted ≡ Some host → (h : HostsIt plan own hosted host) → (notes : List Noted) (short : length notes < 2 ^ 64) (some : 0 < length notes) (expected : List Differing) (few : AllByRecursion (λ (d : Differing). (d.run < 2 ^ 32) × (d.ask < 2 ^ 32)) expected) (from since count : ℕ) (stage : Stage) → expected ≡ said notes → IsEndable plan own host is_spelled (is_spelled.declared host.«module» host.signature h.declared) notes short some expected few (perform host.«module» host.signature h.declared) from since count stage → IsFinishable stage
    endable_finish host at h notes short some expected few from since count stage is end =
        let kept = end.kept in
        let goes = subst (λ o. Goes plan own o stage (Done notes (Some kept) None)) (sym at) end.goes in
        finish stage notes (Some kept) None expected goes is (subst (λ o. EndsWell plan own o (Some kept) expected) (sym at) (end.answering.answer, named_all plan own host.signature expected kept end.answering))

    -- an active member
    runs_finish : (notes : List Noted) (p : Performed) (text : List ℕ) (expected : List Differing) → IsPerformed plan own hosted notes p text → AllByRecursion (λ (d : Differing). (d.run < 2 ^ 32) × (d.ask < 2 ^ 32)) expected → length text < 2 ^ 32 → RestsWell expected (Runs notes p) → IsFinishable (Runs notes p)
    runs_finish notes p text expected performed few few_bytes well =
        let host = performed.host in
        let same : well.1.0 ≡ host = cc (well.1.1, performed.hosts.is_hosted) in
        let w = subst (λ (x : Hosted). PerformsWell plan own x expected p) same well.1.2 in
        let acts = performed.acts in
        let since_some = acts.active_at in
        let noted = performed.events.few in
        let short : length notes < 2 ^ 64 = omega (arith, noted) in
        let some : 0 < length notes = omega (arith, since_some) in
        let h = performed.hosts in
        let head = active_head (spelled plan) own host.«module» p.from p.since p.count in
        let lines = ap length performed.text_is in
        let behind_front = length-append performed.front (head ++ performed.behind) in
        let behind_head = length-append head performed.behind in
        let few_lines = ap length acts.text_is in
        let asks = few_asks p.runs p.current (runs_asks (spelled plan) p.from (p.runs ++ run_now p.current) (omega (arith, few_bytes, lines, behind_front, behind_head, few_lines))) in
        let small = is_spelled.declared host.«module» host.signature h.declared in
        let can = perform host.«module» host.signature h.declared in
        let end = current_end plan own host is_spelled small notes short some expected few can p.from p.since p.count w.least w.most w.come w.named p.current p.runs acts.now w.enters w.counted acts.few asks w.answer w.asked w.now in
        endable_finish host h.is_hosted h notes short some expected few p.from p.since p.count (Runs notes p) well.0 end

    -- before the lines of a member, of which no line of replies tells
    outside_finish : (h : Happened) (expected : List Differing) (host : Hosted) → expected ≡ said (noted_by h) → hosted ≡ Some host → expected ≡ [] → IsFinishable (Events h)
    outside_finish h expected host is at none =
        let it = hosts_it host at in
        let small = is_spelled.declared host.«module» host.signature it.declared in
        let there = is_spelled.hosted host.«module» host.signature it.declared in
        let kept = record_apart joiner.Outside in
        let last = Done (noted_by h) (Some kept) None in
        let goes = goes_by plan own (Some host) (Events h) last (apart_reads plan own host is_spelled small here there h joiner.Outside (codes "outside") refl refl refl) in
        finish (Events h) (noted_by h) (Some kept) None expected (subst (λ o. Goes plan own o (Events h) last) (sym at) goes) is (subst (λ o. EndsWell plan own o (Some kept) expected) (sym at) (tt, ap (all_named kept) none))

    -- before the lines of a member
    member_finish : (h : Happened) (expected : List Differing) (host : Hosted) → length (noted_by h) < 2 ^ 64 → AllByRecursion (λ (d : Differing). (d.run < 2 ^ 32) × (d.ask < 2 ^ 32)) expected → expected ≡ said (noted_by h) → hosted ≡ Some host → CanBeAsked plan own host.signature expected → IsFinishable (Events h)
    member_finish h expected host short few is at (inl none) = outside_finish h expected host is at none
    member_finish h expected host short few is at (inr free) = by_notes (noted_by h) refl
      where
        by_some : 0 < length (noted_by h) → IsFinishable (Events h)
        by_some some =
            let it = hosts_it host at in
            let small = is_spelled.declared host.«module» host.signature it.declared in
            let there = is_spelled.hosted host.«module» host.signature it.declared in
            let can = perform host.«module» host.signature it.declared in
            let notes = noted_by h in
            let first = Runs notes (record { from = 0; since = 0; count = last_count; runs = []; current = Nothing }) in
            let goes = goes_by plan own (Some host) (Events h) first (counted_begins plan own host is_spelled small here there h 0 0 last_count short (omega arith) some (omega arith)) in
            let end = nothing_end plan own host is_spelled small notes short some expected few can 0 0 last_count (omega arith) (omega arith) (inr free) (named_so expected few) [] (inl (omega arith)) (inr free.0) tt tt in
            endable_finish host at it notes short some expected few 0 0 last_count (Events h) is (behind plan own host is_spelled small notes short some expected few can 0 0 last_count (Events h) first goes end)
          where
            named_so : (ds : List Differing) → AllByRecursion (λ (d : Differing). (d.run < 2 ^ 32) × (d.ask < 2 ^ 32)) ds → AllByRecursion (λ (d : Differing). (0 ≤ d.run) × (d.run < last_count + 1)) ds
            named_so [] all = tt
            named_so (d ∷ ds) all = let small_run = all.0.0 in ((omega arith, omega (arith, small_run)), named_so ds all.1)

        by_notes : (notes : List Noted) → noted_by h ≡ notes → IsFinishable (Events h)
        by_notes [] none = outside_finish h expected host is at (is ∙ ap said none)
        by_notes (n ∷ notes) are = by_some (omega (arith, ap length are))

    events_finish : (o : Option Hosted) (h : Happened) (expected : List Differing) → length (noted_by h) < 2 ^ 64 → AllByRecursion (λ (d : Differing). (d.run < 2 ^ 32) × (d.ask < 2 ^ 32)) expected → expected ≡ said (noted_by h) → hosted ≡ o → ComesBy plan own o expected → IsFinishable (Events h)
    events_finish (Some host) h expected short few is at come = member_finish h expected host short few is at come
    events_finish None h expected short few is at come =
        let goes = goes_by plan own hosted (Events h) (with_views plan (noted_by h) []) (ring_reads plan own hosted is_spelled h (omega (arith, here)) (apart at)) in
        views_end is_spelled (Events h) (noted_by h) [] expected goes (omega arith) is come at

    few_of : (notes : List Noted) (front : List ℕ) (expected : List Differing) → HasLines plan own notes front → expected ≡ said notes → AllByRecursion (IsFewDiffering plan own) expected
    few_of notes front expected has is = subst (AllByRecursion (IsFewDiffering plan own)) (ap said has.are ∙ sym is) (said_few plan own has.heard has.each)

    short_of : (notes : List Noted) (front : List ℕ) → HasLines plan own notes front → length notes < 2 ^ 64
    short_of notes front has = let few = has.few in omega (arith, few)

    pub stage_finish : (stage : Stage) (text : List ℕ) (expected : List Differing) → IsStage plan own hosted stage text → length text < 2 ^ 32 → RestsWell expected stage → IsFinishable stage
    stage_finish (Events h) text expected stands few_bytes well =
        let has = all_of plan own h text stands in
        events_finish hosted h expected (short_of (noted_by h) text has) (few_of (noted_by h) text expected has well.0) well.0 refl well.1
    stage_finish (Runs notes p) text expected stands few_bytes well = runs_finish notes p text expected stands (few_of notes stands.front expected stands.events well.0) few_bytes well
    stage_finish (Watching notes views) text expected stands few_bytes well =
        let few = well.3 in
        let goes = subst (λ x. Goes plan own hosted (Watching notes views) x) (sym (watched plan own hosted is_spelled notes views few)) (stays plan own hosted (Watching notes views)) in
        views_end is_spelled (Watching notes views) notes views expected goes (omega (arith, few)) well.0 well.1 well.2
    stage_finish (Done notes kept views) text expected stands few_bytes well = finish (Done notes kept views) notes kept views expected (stays plan own hosted (Done notes kept views)) well.0 well.1
