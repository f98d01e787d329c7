-- The lines of a record that are read are those of what they said so far.
use Rattle.std.specs.Option.{option_map_or}
use Rattle.std.specs.Str.{bytes_eq}
use Rattle.std.specs.Fmt.{decimal}
use Rattle.std.proofs.Common.{◌≡◌, ◌∙◌, ℕ, ◌+◌, ◌<◌, ◌^◌, Bool, true, false, cond, nat_eq, nat_le, inl, inr, List, [], ◌∷◌, ◌++◌, length, codes, Option, Some, None, option_map, refl, sym, ap, subst, arith, append_assoc, append-nil}
use Rattle.std.proofs.lemmas.Bool.{eqb-true}
use Rattle.circus_collate.specs.declared.view.View.{View}
use Rattle.circus_transfer.specs.declared.joiner.Joiner.{Joiner}
use Rattle.circus_transfer.specs.declared.joiner.Joiner.TheVariants as joiner
use Rattle.circus_record.specs.declared.record.MemberRecord.{MemberRecord}
use Rattle.circus_record.specs.Line.{line}
use Rattle.circus_record.specs.Naming.{Names}
use Rattle.circus_record.specs.MemberText.{runs_lines, now_line, phase_lines, member_lines}
use Rattle.circus_report.specs.ViewLines.{ringmaster_line, views_lines, view_line}
use Rattle.circus_node.specs.Accepting.{troupe_at}
use Rattle.circus_config.specs.declared.plan.Plan.{Plan}
use Rattle.circus_value_text.specs.Reading.{behind_prefix}
use Rattle.circus_value_text.proofs.Marks.{passed_stands}
use Rattle.circus_audit.specs.Possible.{declared_by, IsMember, IsKept}
use Rattle.circus_audit.specs.declared.noted.Noted.{Noted}
use Rattle.circus_audit.specs.declared.noted.Happened.{Happened}
use Rattle.circus_audit.specs.declared.member_line.Phase.{Phase}
use Rattle.circus_audit.specs.declared.member_line.Phase.TheVariants.{Apart, Active}
use Rattle.circus_audit.specs.declared.performed.Performed.{Performed}
use Rattle.circus_audit.specs.declared.performed.After.{After}
use Rattle.circus_audit.specs.declared.performed.After.TheVariants.{On, Last}
use Rattle.circus_audit.specs.declared.setting.Hosted.{Hosted}
use Rattle.circus_audit.specs.declared.stage.Stage.{Stage}
use Rattle.circus_audit.specs.declared.stage.Stage.TheVariants.{Events, Runs, Watching, Done}
use Rattle.circus_audit.specs.Seen.Answers.{from_some, or_else, only_if}
use Rattle.circus_audit.specs.Seen.Names.{name_at}
use Rattle.circus_audit.specs.Seen.Happening.{happened_after}
use Rattle.circus_audit.specs.Seen.Lines.{phase_read, active_line, active_read}
use Rattle.circus_audit.specs.Seen.Performing.{performed_after}
use Rattle.circus_audit.specs.Seen.Views.{view_read}
use Rattle.circus_audit.specs.Seen.Reading.{node_names, record_apart, by_phase, after_line, with_views, who_read, member_if, ring_if, ring_at, noted_by, event_line_read, events_go_on, runs_go_on, views_go_on, stage_after}
use Rattle.circus_audit.proofs.Opening.{from_is, map_is, only_is, or_is}
use Rattle.circus_audit.proofs.Sounding.{whole_some}
use Rattle.circus_audit.proofs.SoundingMember.{active_text, IsActivePhase, active_sound}
use Rattle.circus_audit.proofs.SoundingEvents.{spelled, four_texts, bytes_same}
use Rattle.circus_audit.proofs.SoundingPerforming.{Acts, HasActed, Follows, performed_sound}
use Rattle.circus_audit.proofs.SoundingHappening.{HasLines, Happens, all_of, happened_sound}
use Rattle.circus_audit.proofs.SoundingViews.{IsViewOf, AreViewsFrom, view_sound, views_more, views_text_more, view_at}

-- the text behind the member's name
abbrev pub phase_text : Phase → List ℕ
phase_text (Apart joiner.Outside) = codes "outside"
phase_text (Apart joiner.Asking) = codes "asking"
phase_text (Apart (joiner.Fetching incarnation)) = codes "fetching"
phase_text (Apart (joiner.Active first)) = []
phase_text (Active from since count) = active_text (Active from since count)

-- a phase that a line says
abbrev pub IsPhase : ℕ → Phase → Type 0
IsPhase events (Apart joiner.Outside) = Unit {0}
IsPhase events (Apart joiner.Asking) = Unit {0}
IsPhase events (Apart (joiner.Fetching incarnation)) = incarnation ≡ 0
IsPhase events (Apart (joiner.Active first)) = ⊥
IsPhase events (Active from since count) = IsActivePhase events (Active from since count)

active_sound_line : (events : ℕ) (text : List ℕ) (phase : Phase) → events < 2 ^ 64 → active_line events text ≡ Some phase → (text ≡ phase_text phase) × IsPhase events phase
active_sound_line events text phase short is = by_phase_of phase one.0 one.1
  where
    one : (text ≡ active_text phase) × IsActivePhase events phase
    one =
        let w = whole_some (active_read events text) phase is in
        let a = active_sound events short text phase w.0 w.1 in
        (a.0 ∙ ap (λ x. active_text phase ++ x) w.2 ∙ append-nil (active_text phase), a.1)

    by_phase_of : (p : Phase) → text ≡ active_text p → IsActivePhase events p → (text ≡ phase_text p) × IsPhase events p
    by_phase_of (Apart j) stands possible = absurd possible
    by_phase_of (Active from since count) stands possible = (stands, possible)

pub phase_sound : (events : ℕ) (text : List ℕ) (phase : Phase) → events < 2 ^ 64 → phase_read events text ≡ Some phase → (text ≡ phase_text phase) × IsPhase events phase
phase_sound events text phase short is = by_words (bytes_eq text (codes "outside")) (bytes_eq text (codes "asking")) (bytes_eq text (codes "fetching")) refl refl refl is
  where
    by_words : (outside asking fetching : Bool) → bytes_eq text (codes "outside") ≡ outside → bytes_eq text (codes "asking") ≡ asking → bytes_eq text (codes "fetching") ≡ fetching → cond outside (Some (Apart joiner.Outside)) (cond asking (Some (Apart joiner.Asking)) (cond fetching (Some (Apart (joiner.Fetching 0))) (active_line events text))) ≡ Some phase → (text ≡ phase_text phase) × IsPhase events phase
    by_words true asking fetching o a f read =
        let same : Apart joiner.Outside ≡ phase = cc in
        (bytes_same text (codes "outside") o ∙ ap phase_text same, subst (IsPhase events) same tt)
    by_words false true fetching o a f read =
        let same : Apart joiner.Asking ≡ phase = cc in
        (bytes_same text (codes "asking") a ∙ ap phase_text same, subst (IsPhase events) same tt)
    by_words false false true o a f read =
        let same : Apart (joiner.Fetching 0) ≡ phase = cc in
        (bytes_same text (codes "fetching") f ∙ ap phase_text same, subst (IsPhase events) same refl)
    by_words false false false o a f read = active_sound_line events text phase short read

-- ---- the member's first line

pub who_text : (m n s t p v u w e : List ℕ) → (m ++ (n ++ (s ++ (t ++ (((p ++ v) ++ u) ++ w))))) ++ e ≡ (((((m ++ n) ++ s) ++ t) ++ p) ++ v) ++ ((u ++ w) ++ e)
who_text m n s t p v u w e = simp append_assoc

head_text : (m n s t p v u f a b c d g e r k : List ℕ) → ((m ++ (n ++ (s ++ (t ++ (((p ++ v) ++ u) ++ ((f ++ a) ++ ((b ++ c) ++ (d ++ g)))))))) ++ e) ++ (r ++ k) ≡ (((((m ++ n) ++ s) ++ t) ++ p) ++ v) ++ (((((((((u ++ f) ++ a) ++ b) ++ c) ++ d) ++ g) ++ e) ++ r) ++ k)
head_text m n s t p v u f a b c d g e r k = simp append_assoc

more_text : (front head behind more text : List ℕ) → text ≡ front ++ (head ++ behind) → text ++ more ≡ front ++ (head ++ (behind ++ more))
more_text front head behind more text is =
    ap (λ x. x ++ more) is ∙ append_assoc front (head ++ behind) more ∙ ap (λ x. front ++ x) (append_assoc head behind more)

-- where the member's phase stands
abbrev pub who_line : Names → ℕ → ℕ → List ℕ → List ℕ
who_line names node troupe rest = codes "member " ++ (names.node node ++ (codes " " ++ (names.troupe troupe ++ (codes " live " ++ rest))))

-- the first line of a member that is active
abbrev pub active_head : Names → ℕ → ℕ → ℕ → ℕ → ℕ → List ℕ
active_head names node troupe from since count = line (who_line names node troupe (active_text (Active from since count)))

-- the lines of a member that is active, from its first one on
pub active_whole : (names : Names) (node troupe : ℕ) (kept : MemberRecord) (from since count : ℕ) (rest : List ℕ) → kept.phase ≡ joiner.Active from → kept.from ≡ from → kept.active_at ≡ since → kept.count ≡ count → rest ≡ runs_lines names kept.from kept.runs ++ now_line kept → active_head names node troupe from since count ++ rest ≡ member_lines names node troupe None kept
active_whole names node troupe kept from since count rest phase from_same since_same count_same is =
    (λ i. active_head names node troupe (sym from_same i) (sym since_same i) (sym count_same i) ++ is i)
    ∙ head_text (codes "member ") (names.node node) (codes " ") (names.troupe troupe) (codes " ") (codes "live") (codes " ") (codes "from ") (decimal kept.from) (codes " at ") (decimal kept.active_at) (codes " count ") (decimal kept.count) (10 ∷ []) (runs_lines names kept.from kept.runs) (now_line kept)
    ∙ ap (λ p. codes "member " ++ names.node node ++ codes " " ++ names.troupe troupe ++ codes " " ++ codes "live" ++ phase_lines names p kept) (sym phase)

who_sound : (plan : Plan) (own troupe : ℕ) (text rest : List ℕ) → who_read plan own troupe text ≡ Some rest → codes "member " ++ text ≡ who_line (spelled plan) own troupe rest
who_sound plan own troupe text rest is =
    let node = name_at (node_names plan) own in
    let name = name_at plan.names troupe in
    let a = from_is (behind_prefix node text) (λ x. from_some (behind_prefix (codes " ") x) (λ y. from_some (behind_prefix name y) (behind_prefix (codes " live ")))) rest is in
    let b = from_is (behind_prefix (codes " ") a.0) (λ y. from_some (behind_prefix name y) (behind_prefix (codes " live "))) rest a.2 in
    let c = from_is (behind_prefix name b.0) (behind_prefix (codes " live ")) rest b.2 in
    ap (λ x. codes "member " ++ x) (passed_stands node text a.0 a.1 ∙ ap (λ x. node ++ x) (passed_stands (codes " ") a.0 b.0 b.1 ∙ ap (λ x. codes " " ++ x) (passed_stands name b.0 c.0 c.1 ∙ ap (λ x. name ++ x) (passed_stands (codes " live ") c.0 rest c.2))))

-- ---- stages

-- the text of what a node keeps, by the troupe that it hosts a member of
abbrev pub kept_text : Names → ℕ → Option ℕ → Option MemberRecord → Option (List View) → List ℕ
kept_text names own hosted member views =
    option_map_or (λ troupe. option_map_or (member_lines names own troupe None) member []) hosted
    (ringmaster_line names None ++ option_map_or (views_lines names) views [])

module _ (plan : Plan) (own : ℕ) (hosted : Option Hosted) where
  -- the member of a module
  pub record HostsIt (host : Hosted) : Type 0 where
    pub is_hosted : hosted ≡ Some host
    pub troupe : troupe_at plan.deployment own ≡ Some host.«module»
    pub declared : declared_by plan host.«module» ≡ Some host.signature

  -- whom the node hosts
  abbrev pub Hosting : Option Hosted → Type 0
  Hosting None = Unit {0}
  Hosting (Some host) = HostsIt host

  pub record IsPerformed (notes : List Noted) (p : Performed) (text : List ℕ) : Type 0 where
    pub host : Hosted
    pub hosts : HostsIt host
    pub front : List ℕ
    pub events : HasLines plan own notes front
    pub behind : List ℕ
    pub acts : Acts plan host.signature (length notes) p.from p.since p.runs p.current behind
    pub text_is : text ≡ front ++ (active_head (spelled plan) own host.«module» p.from p.since p.count ++ behind)

  pub record IsWatched (notes : List Noted) (views : List View) (text : List ℕ) : Type 0 where
    pub hosts_none : troupe_at plan.deployment own ≡ None
    pub front : List ℕ
    pub events : HasLines plan own notes front
    pub each : AreViewsFrom plan 0 views
    pub text_is : text ≡ front ++ (ringmaster_line (spelled plan) None ++ views_lines (spelled plan) views)

  pub record IsDone (notes : List Noted) (kept : Option MemberRecord) (views : Option (List View)) (text : List ℕ) : Type 0 where
    pub front : List ℕ
    pub events : HasLines plan own notes front
    pub is_kept : IsKept plan (length notes) (troupe_at plan.deployment own) kept views
    pub text_is : text ≡ front ++ kept_text (spelled plan) own (troupe_at plan.deployment own) kept views

  -- what lines behind the first one say
  abbrev pub IsStage : Stage → List ℕ → Type 0
  IsStage (Events h) text = Happens plan own h text
  IsStage (Runs notes p) text = IsPerformed notes p text
  IsStage (Watching notes views) text = IsWatched notes views text
  IsStage (Done notes kept views) text = IsDone notes kept views text

  -- ---- members

  done_member : (notes : List Noted) (host : Hosted) (kept : MemberRecord) (front text : List ℕ) → HostsIt host → HasLines plan own notes front → IsMember plan host.signature (length notes) kept kept.phase → text ≡ front ++ member_lines (spelled plan) own host.«module» None kept → IsDone notes (Some kept) None text
  done_member notes host kept front text hosts events is_member is = record {
    front = front;
    events = events;
    is_kept = subst (λ o. IsKept plan (length notes) o (Some kept) None) (sym hosts.troupe) (host.signature, hosts.declared, is_member);
    text_is = is ∙ ap (λ o. front ++ kept_text (spelled plan) own o (Some kept) None) (sym hosts.troupe);
  }

  apart : (notes : List Noted) (host : Hosted) (phase : Joiner) (word front text : List ℕ) → HostsIt host → HasLines plan own notes front → IsMember plan host.signature (length notes) (record_apart phase) phase → line (codes " " ++ word) ≡ phase_lines (spelled plan) phase (record_apart phase) → text ≡ front ++ line (who_line (spelled plan) own host.«module» word) → IsDone notes (Some (record_apart phase)) None text
  apart notes host phase word front text hosts events is_member said is =
      let node = name_at (node_names plan) own in
      let name = name_at plan.names host.«module» in
      let whole : line (who_line (spelled plan) own host.«module» word) ≡ member_lines (spelled plan) own host.«module» None (record_apart phase) =
      who_text (codes "member ") node (codes " ") name (codes " ") (codes "live") (codes " ") word (10 ∷ []) ∙ ap (λ x. codes "member " ++ node ++ codes " " ++ name ++ codes " " ++ codes "live" ++ x) said in
      done_member notes host (record_apart phase) front text hosts events is_member (is ∙ ap (λ x. front ++ x) whole)

  begins : (notes : List Noted) (host : Hosted) (phase : Phase) (front text : List ℕ) → HostsIt host → HasLines plan own notes front → IsPhase (length notes) phase → text ≡ front ++ line (who_line (spelled plan) own host.«module» (phase_text phase)) → IsStage (by_phase notes phase) text
  begins notes host (Apart joiner.Outside) front text hosts events possible is = apart notes host joiner.Outside (codes "outside") front text hosts events refl refl is
  begins notes host (Apart joiner.Asking) front text hosts events possible is = apart notes host joiner.Asking (codes "asking") front text hosts events refl refl is
  begins notes host (Apart (joiner.Fetching incarnation)) front text hosts events possible is =
      apart notes host (joiner.Fetching incarnation) (codes "fetching") front text hosts events (ap (λ n. record_apart (joiner.Fetching n)) possible) refl is
  begins notes host (Apart (joiner.Active first)) front text hosts events possible is = absurd possible
  begins notes host (Active from since count) front text hosts events possible is = record {
    host = host;
    hosts = hosts;
    front = front;
    events = events;
    behind = [];
    acts = record {
      first = omega (arith, possible.0);
      active_at = possible.1;
      ended = tt;
      now = tt;
      few = omega (arith, possible.0);
      text_is = refl;
    };
    text_is = is ∙ ap (λ x. front ++ x) (sym (append-nil (active_head (spelled plan) own host.«module» from since count)));
  }

  member_step : (notes : List Noted) (o : Option Hosted) (inner front : List ℕ) (next : Stage) → length notes < 2 ^ 64 → hosted ≡ o → Hosting o → HasLines plan own notes front → member_if plan own notes o inner ≡ Some next → IsStage next (front ++ line (codes "member " ++ inner))
  member_step notes None inner front next short is hosts events read = cc
  member_step notes (Some host) inner front next short is hosts events read =
      let who = from_is (who_read plan own host.«module» inner) (λ rest. option_map (by_phase notes) (phase_read (length notes) rest)) next read in
      let phase = map_is (by_phase notes) (phase_read (length notes) who.0) next who.2 in
      let stands = who_sound plan own host.«module» inner who.0 who.1 in
      let p = phase_sound (length notes) who.0 phase.0 short phase.1 in
      let said = ap line (stands ∙ ap (who_line (spelled plan) own host.«module») p.0) in
      subst (λ x. IsStage x (front ++ line (codes "member " ++ inner))) phase.2 (begins notes host phase.0 front (front ++ line (codes "member " ++ inner)) hosts events p.1 (ap (λ x. front ++ x) said))

  -- ---- the Ringmaster

  views_end : (notes : List Noted) (views : List View) (text : List ℕ) → IsWatched notes views text → IsStage (with_views plan notes views) text
  views_end notes views text watched = by_test (nat_eq (length views) (length plan.names)) refl
    where
      by_test : (b : Bool) → nat_eq (length views) (length plan.names) ≡ b → IsStage (cond b (Done notes None (Some views)) (Watching notes views)) text
      by_test true all = record {
        front = watched.front;
        events = watched.events;
        is_kept = subst (λ o. IsKept plan (length notes) o None (Some views)) (sym watched.hosts_none) (record {
          all = eqb-true (length views) (length plan.names) all;
          each = λ m view at. let here : 0 + m ≡ m = omega arith in subst (λ n. IsViewOf plan n view) here (view_at plan 0 views m view watched.each at);
        });
        text_is = watched.text_is ∙ ap (λ o. watched.front ++ kept_text (spelled plan) own o None (Some views)) (sym watched.hosts_none);
      }
      by_test false all = watched

  ring_step : (notes : List Noted) (o : Option ℕ) (inner front : List ℕ) (next : Stage) → troupe_at plan.deployment own ≡ o → HasLines plan own notes front → ring_if plan o notes inner ≡ Some next → IsStage next (front ++ line (codes "ringmaster " ++ inner))
  ring_step notes (Some troupe) inner front next none events read = cc
  ring_step notes None inner front next none events read =
      let name = name_at (node_names plan) 0 in
      let a = from_is (behind_prefix name inner) (λ rest. only_if (bytes_eq rest (codes " live")) (Some (with_views plan notes []))) next read in
      let test = only_is (bytes_eq a.0 (codes " live")) (Some (with_views plan notes [])) next a.2 in
      let same : with_views plan notes [] ≡ next = cc (test.1) in
      let stands : inner ≡ name ++ codes " live" = passed_stands name inner a.0 a.1 ∙ ap (λ x. name ++ x) (bytes_same a.0 (codes " live") test.0) in
      subst (λ x. IsStage x (front ++ line (codes "ringmaster " ++ inner))) same (views_end notes [] (front ++ line (codes "ringmaster " ++ inner)) (record {
        hosts_none = none;
        front = front;
        events = events;
        each = tt;
        text_is = ap (λ x. front ++ line (codes "ringmaster " ++ x)) stands ∙ ap (λ x. front ++ line x) (four_texts (codes "ringmaster ") name (codes " ") (codes "live")) ∙ ap (λ x. front ++ x) (sym (append-nil (ringmaster_line (spelled plan) None)));
      }))

  -- ---- by any line

  row_stage : (mark row inner front : List ℕ) (next : Stage) → behind_prefix mark row ≡ Some inner → IsStage next (front ++ line (mark ++ inner)) → IsStage next (front ++ line row)
  row_stage mark row inner front next is = subst (λ x. IsStage next (front ++ line x)) (sym (passed_stands mark row inner is))

  few_of : (notes : List Noted) (front : List ℕ) → HasLines plan own notes front → length notes < 2 ^ 64
  few_of notes front has = omega (arith, has.few)

  events_step : (h : Happened) (row text : List ℕ) (next : Stage) → length (noted_by h) < 2 ^ 64 → Hosting hosted → events_go_on plan own hosted h row ≡ Some next → Happens plan own h text → IsStage next (text ++ line row)
  events_step h row text next short hosts is happens =
      elim (or_is (behind_prefix (codes "member ") row) (member_if plan own (noted_by h) hosted) (or_else (behind_prefix (codes "ringmaster ") row) (ring_at plan own (noted_by h)) (event_line_read plan own h row)) next is) [
        | inl m ↦ row_stage (codes "member ") row m.0 text next m.1 (member_step (noted_by h) hosted m.0 text next short refl hosts (all_of plan own h text happens) m.2)
        | inr o ↦
            elim (or_is (behind_prefix (codes "ringmaster ") row) (ring_at plan own (noted_by h)) (event_line_read plan own h row) next o.1) [
              | inl r ↦ row_stage (codes "ringmaster ") row r.0 text next r.1 (ring_step (noted_by h) (troupe_at plan.deployment own) r.0 text next refl (all_of plan own h text happens) r.2)
              | inr e ↦ event e.1
            ]
      ]
    where
      event : event_line_read plan own h row ≡ Some next → IsStage next (text ++ line row)
      event read =
          let made = map_is (λ (n : Happened). Events n) (happened_after (node_names plan) own h row) next read in
          subst (λ x. IsStage x (text ++ line row)) made.2 (happened_sound plan own h row text made.0 made.1 happens)

  -- ---- runs

  performed_on : (notes : List Noted) (p q : Performed) (front behind more text : List ℕ) (host : Hosted) → HostsIt host → HasLines plan own notes front → text ≡ front ++ (active_head (spelled plan) own host.«module» p.from p.since p.count ++ behind) → Follows plan host.signature (length notes) p (On q) (behind ++ more) → IsPerformed notes q (text ++ more)
  performed_on notes p q front behind more text host hosts events is follows = record {
    host = host;
    hosts = hosts;
    front = front;
    events = events;
    behind = behind ++ more;
    acts = follows.0;
    text_is = more_text front (active_head (spelled plan) own host.«module» p.from p.since p.count) behind more text is ∙ (λ i. front ++ (active_head (spelled plan) own host.«module» (sym follows.1 i) (sym follows.2 i) (sym follows.3 i) ++ (behind ++ more)));
  }

  performed_last : (notes : List Noted) (p : Performed) (kept : MemberRecord) (front behind more text : List ℕ) (host : Hosted) → HostsIt host → HasLines plan own notes front → text ≡ front ++ (active_head (spelled plan) own host.«module» p.from p.since p.count ++ behind) → HasActed plan host.signature (length notes) p.from p.since p.count kept (behind ++ more) → IsDone notes (Some kept) None (text ++ more)
  performed_last notes p kept front behind more text host hosts events is acted =
      let said = active_whole (spelled plan) own host.«module» kept p.from p.since p.count (behind ++ more) acted.phase acted.from_is acted.since_is acted.count_is acted.text_is in
      let is_member : IsMember plan host.signature (length notes) kept kept.phase = subst (IsMember plan host.signature (length notes) kept) (sym acted.phase) acted.active in
      done_member notes host kept front (text ++ more) hosts events is_member (more_text front (active_head (spelled plan) own host.«module» p.from p.since p.count) behind more text is ∙ ap (λ x. front ++ x) said)

  runs_step : (notes : List Noted) (p : Performed) (row text : List ℕ) (next : Stage) → length notes < 2 ^ 64 → runs_go_on plan hosted notes p row ≡ Some next → IsPerformed notes p text → IsStage next (text ++ line row)
  runs_step notes p row text next short is performed =
      let host = performed.host in
      let read : runs_go_on plan (Some host) notes p row ≡ Some next = subst (λ o. runs_go_on plan o notes p row ≡ Some next) performed.hosts.is_hosted is in
      let made = map_is (after_line notes) (performed_after plan.names plan.deployment host.signature (length notes) p row) next read in
      subst (λ x. IsStage x (text ++ line row)) made.2 (by_after made.0 (performed_sound plan host.signature (length notes) p row performed.behind made.0 short made.1 performed.acts))
    where
      by_after : (after : After) → Follows plan performed.host.signature (length notes) p after (performed.behind ++ line row) → IsStage (after_line notes after) (text ++ line row)
      by_after (On q) follows = performed_on notes p q performed.front performed.behind (line row) text performed.host performed.hosts performed.events performed.text_is follows
      by_after (Last kept) acted = performed_last notes p kept performed.front performed.behind (line row) text performed.host performed.hosts performed.events performed.text_is acted

  views_step : (notes : List Noted) (views : List View) (row text : List ℕ) (next : Stage) → views_go_on plan notes views row ≡ Some next → IsWatched notes views text → IsStage next (text ++ line row)
  views_step notes views row text next is watched =
      let read = view_read (node_names plan) (length views) (name_at plan.names (length views)) row in
      let test = only_is (nat_le (length views) 65535) (option_map (λ view. with_views plan notes (views ++ view ∷ [])) read) next is in
      let made = map_is (λ view. with_views plan notes (views ++ view ∷ [])) read next test.1 in
      let v = view_sound plan (length views) row made.0 made.1 in
      let here : length views ≡ 0 + length views = omega arith in
      let ring = ringmaster_line (spelled plan) None in
      let shown = views_lines (spelled plan) views in
      let said = (λ i. watched.text_is i ++ v.0 i) ∙ append_assoc watched.front (ring ++ shown) (view_line (spelled plan) made.0) ∙ ap (λ x. watched.front ++ x) (append_assoc ring shown (view_line (spelled plan) made.0) ∙ ap (λ x. ring ++ x) (sym (views_text_more plan views made.0))) in
      subst (λ x. IsStage x (text ++ line row)) made.2 (views_end notes (views ++ made.0 ∷ []) (text ++ line row) (record {
        hosts_none = watched.hosts_none;
        front = watched.front;
        events = watched.events;
        each = views_more plan 0 views made.0 watched.each (subst (λ n. IsViewOf plan n made.0) here v.1);
        text_is = said;
      }))

  -- a line that is read is the next one of what the lines before it said
  pub stage_sound : (stage : Stage) (row text : List ℕ) (next : Stage) → Hosting hosted → stage_after plan own hosted stage row ≡ Some next → IsStage stage text → IsStage next (text ++ line row)
  stage_sound (Events h) row text next hosts is stands = events_step h row text next (few_of (noted_by h) text (all_of plan own h text stands)) hosts is stands
  stage_sound (Runs notes p) row text next hosts is stands = runs_step notes p row text next (few_of notes stands.front stands.events) is stands
  stage_sound (Watching notes views) row text next hosts is stands = views_step notes views row text next is stands
  stage_sound (Done notes kept views) row text next hosts is stands = cc
