-- A record that is read goes on behind each line, so none of its lines is bad.
use Rattle.std.specs.List.{AllByRecursion}
use Rattle.std.specs.Option.{option_to_list}
use Rattle.std.specs.Prelude.{option_and_then, bytes_eq}
use Rattle.std.proofs.Common.{◌≡◌, ◌∙◌, ℕ, ◌+◌, ◌-◌, ◌<◌, ◌^◌, Bool, true, false, cond, ◌&&◌, ◌||◌, nat_eq, nat_le, inl, inr, List, [], ◌∷◌, ◌++◌, length, codes, Option, Some, None, option_map, refl, sym, ap, subst}
use Rattle.circus_collate.specs.declared.view.View.{View}
use Rattle.circus_record.specs.declared.record.MemberRecord.{MemberRecord}
use Rattle.circus_node.specs.Accepting.{troupe_at}
use Rattle.circus_config.specs.declared.plan.Plan.{Plan}
use Rattle.circus_value_text.specs.Reading.{behind_prefix}
use Rattle.circus_audit.specs.declared.given.GivenEvent.{GivenEvent}
use Rattle.circus_audit.specs.declared.noted.Differing.{Differing}
use Rattle.circus_audit.specs.declared.noted.Noted.{Noted}
use Rattle.circus_audit.specs.declared.noted.Kind.{Kind}
use Rattle.circus_audit.specs.declared.noted.Kind.TheVariants.{Gives, Differences, Foreign}
use Rattle.circus_audit.specs.declared.noted.Happened.{Happened}
use Rattle.circus_audit.specs.declared.member_line.Phase.{Phase}
use Rattle.circus_audit.specs.declared.member_line.Phase.TheVariants.{Apart, Active}
use Rattle.circus_audit.specs.declared.performed.Performed.{Performed}
use Rattle.circus_audit.specs.declared.performed.After.{After}
use Rattle.circus_audit.specs.declared.performed.After.TheVariants.{On, Last}
use Rattle.circus_audit.specs.declared.setting.Hosted.{Hosted}
use Rattle.circus_audit.specs.declared.stage.Stage.{Stage}
use Rattle.circus_audit.specs.declared.stage.Stage.TheVariants.{Events, Runs, Watching, Done}
use Rattle.circus_audit.specs.Seen.Answers.{or_else, only_if}
use Rattle.circus_audit.specs.Seen.Happening.{all_noted, happened_after}
use Rattle.circus_audit.specs.Seen.Names.{name_at}
use Rattle.circus_audit.specs.Seen.Lines.{phase_read}
use Rattle.circus_audit.specs.Seen.Performing.{performed_after}
use Rattle.circus_audit.specs.Seen.Differing.{each_read, event_with, nothing_differs, difference_read, event_of, events_of, event_apart, events_apart}
use Rattle.circus_audit.specs.Seen.Views.{view_read}
use Rattle.circus_audit.specs.Seen.Outlook.{last_of, newest_by, newest, can_come, may_enter, performs, come_by, performs_by, named_by, goes_on}
use Rattle.circus_audit.specs.Seen.Reading.{has_root, node_names, by_phase, after_line, with_views, who_read, member_if, ring_if, ring_at, noted_by, event_line_read, events_go_on, runs_go_on, views_go_on, events_by, stage_after, stage_behind}
use Rattle.circus_audit.proofs.Opening.{from_is, map_is, only_is, or_is}
use Rattle.circus_audit.proofs.GoingOn.{get_all, IsTold, has_ask, IsKnown, IsBefore, enters_so, performs_so, can_come_so, named_so}
use Rattle.circus_audit.proofs.GoingBack.{AllTell, happened_back, performed_back}

-- ---- what the events say of the lines of replies

each_tells : {A B : Type 0} (f : A → Option B) (xs : List A) (ys : List B) → each_read f xs ≡ Some ys → AllByRecursion (λ x. (y : B) × (f x ≡ Some y)) xs
each_tells f [] ys is = tt
each_tells f (x ∷ xs) ys is =
    let one = from_is (f x) (λ b. option_map (λ bs. b ∷ bs) (each_read f xs)) ys is in
    let others = map_is (λ bs. one.0 ∷ bs) (each_read f xs) ys one.2 in
    ((one.0, one.1), each_tells f xs others.0 others.1)

module _ (plan : Plan) (own : ℕ) (hosted : Option Hosted) (member : Option MemberRecord) where
  -- the line names an ask of the member, which may be answered so
  abbrev pub IsToldOf : Option Hosted → Option MemberRecord → Differing → Type 0
  IsToldOf (Some host) (Some kept) d = IsTold plan own host.signature kept d
  IsToldOf (Some host) None d = ⊥
  IsToldOf None kept d = ⊥

  abbrev pub Tells : Differing → Type 0
  Tells = IsToldOf hosted member

  member_tells : (host : Hosted) (kept : MemberRecord) (notes : List Noted) (events : List GivenEvent) → events_of (node_names plan) (length plan.names) own host.signature.imports kept notes ≡ Some events → AllTell (IsTold plan own host.signature kept) notes
  member_tells host kept [] events is = tt
  member_tells host kept (n ∷ notes) events is =
      let f = event_of (node_names plan) (length plan.names) own host.signature.imports kept in
      let one = from_is (f n) (λ b. option_map (λ bs. b ∷ bs) (each_read f notes)) events is in
      let others = map_is (λ bs. one.0 ∷ bs) (each_read f notes) events one.2 in
      let ds = map_is (event_with n) (each_read (difference_read (node_names plan) (length plan.names) own host.signature.imports kept) n.differing) one.0 one.1 in
      (each_tells (difference_read (node_names plan) (length plan.names) own host.signature.imports kept) n.differing ds.0 ds.1, member_tells host kept notes others.0 others.1)

  apart_tells : (notes : List Noted) (events : List GivenEvent) → events_apart notes ≡ Some events → AllTell (λ d. ⊥) notes
  apart_tells [] events is = tt
  apart_tells (n ∷ notes) events is =
      let one = from_is (event_apart n) (λ b. option_map (λ bs. b ∷ bs) (each_read event_apart notes)) events is in
      let others = map_is (λ bs. one.0 ∷ bs) (each_read event_apart notes) events one.2 in
      (none n.differing (event_with n []) one.0 one.1, apart_tells notes others.0 others.1)
    where
      none : (ds : List Differing) (e : GivenEvent) (g : GivenEvent) → cond (nothing_differs ds) (Some e) None ≡ Some g → AllByRecursion (λ (d : Differing). ⊥) ds
      none [] e g read = tt
      none (d ∷ ds) e g read = cc

  pub all_tell : (o : Option Hosted) (m : Option MemberRecord) (notes : List Noted) (events : List GivenEvent) → events_by plan own o m notes ≡ Some events → AllTell (IsToldOf o m) notes
  all_tell None None notes events is = apart_tells notes events is
  all_tell None (Some kept) notes events is = cc
  all_tell (Some host) None notes events is = cc
  all_tell (Some host) (Some kept) notes events is = member_tells host kept notes events is

  -- ---- what is known of each stage

  pub record IsBeforeRuns (notes : List Noted) (p : Performed) : Type 0 where
    pub host : Hosted
    pub is_host : hosted ≡ Some host
    pub kept : MemberRecord
    pub is_kept : member ≡ Some kept
    pub tell : AllTell Tells notes
    pub short : length notes < 2 ^ 64
    pub before : IsBefore plan own host.signature kept p

  pub record IsBeforeEnd (notes : List Noted) (kept : Option MemberRecord) : Type 0 where
    pub is_kept : kept ≡ member
    pub tell : AllTell Tells notes
    pub short : length notes < 2 ^ 64

  abbrev pub Leads : Stage → Type 0
  Leads (Events h) = AllTell Tells (noted_by h)
  Leads (Runs notes p) = IsBeforeRuns notes p
  Leads (Watching notes views) = AllTell Tells notes
  Leads (Done notes kept views) = IsBeforeEnd notes kept

  views_lead : (notes : List Noted) (views : List View) → Leads (with_views plan notes views) → AllTell Tells notes
  views_lead notes views = by_test (nat_eq (length views) (length plan.names))
    where
      by_test : (b : Bool) → Leads (cond b (Done notes None (Some views)) (Watching notes views)) → AllTell Tells notes
      by_test true leads = leads.tell
      by_test false leads = leads

  phase_leads : (notes : List Noted) (phase : Phase) → Leads (by_phase notes phase) → AllTell Tells notes
  phase_leads notes (Apart joiner) leads = leads.tell
  phase_leads notes (Active from since count) leads = leads.tell

  member_leads : (notes : List Noted) (o : Option Hosted) (text : List ℕ) (next : Stage) → member_if plan own notes o text ≡ Some next → Leads next → AllTell Tells notes
  member_leads notes None text next read leads = cc
  member_leads notes (Some host) text next read leads =
      let who = from_is (who_read plan own host.«module» text) (λ rest. option_map (by_phase notes) (phase_read (length notes) rest)) next read in
      let phase = map_is (by_phase notes) (phase_read (length notes) who.0) next who.2 in
      phase_leads notes phase.0 (subst Leads (sym phase.2) leads)

  ring_leads : (notes : List Noted) (o : Option ℕ) (text : List ℕ) (next : Stage) → ring_if plan o notes text ≡ Some next → Leads next → AllTell Tells notes
  ring_leads notes (Some troupe) text next read leads = cc
  ring_leads notes None text next read leads =
      let a = from_is (behind_prefix (name_at (node_names plan) 0) text) (λ rest. only_if (bytes_eq rest (codes " live")) (Some (with_views plan notes []))) next read in
      let test = only_is (bytes_eq a.0 (codes " live")) (Some (with_views plan notes [])) next a.2 in
      let same : with_views plan notes [] ≡ next = cc (test.1) in
      views_lead notes [] (subst Leads (sym same) leads)

  events_lead : (h : Happened) (row : List ℕ) (next : Stage) → events_go_on plan own hosted h row ≡ Some next → Leads next → AllTell Tells (noted_by h)
  events_lead h row next is leads =
      elim (or_is (behind_prefix (codes "member ") row) (member_if plan own (noted_by h) hosted) (or_else (behind_prefix (codes "ringmaster ") row) (ring_at plan own (noted_by h)) (event_line_read plan own h row)) next is) [
        | inl m ↦ member_leads (noted_by h) hosted m.0 next m.2 leads
        | inr o ↦
            elim (or_is (behind_prefix (codes "ringmaster ") row) (ring_at plan own (noted_by h)) (event_line_read plan own h row) next o.1) [
              | inl r ↦ ring_leads (noted_by h) (troupe_at plan.deployment own) r.0 next r.2 leads
              | inr e ↦ event e.1
            ]
      ]
    where
      event : event_line_read plan own h row ≡ Some next → AllTell Tells (noted_by h)
      event read =
          let made = map_is (λ (n : Happened). Events n) (happened_after (node_names plan) own h row) next read in
          let leading = subst Leads (sym made.2) leads in
          happened_back Tells (node_names plan) own h row made.0 made.1 leading

  runs_lead : (notes : List Noted) (p : Performed) (row : List ℕ) (next : Stage) (o : Option Hosted) → hosted ≡ o → runs_go_on plan o notes p row ≡ Some next → Leads next → IsBeforeRuns notes p
  runs_lead notes p row next None at is leads = cc
  runs_lead notes p row next (Some host) at is leads =
      let made = map_is (after_line notes) (performed_after plan.names plan.deployment host.signature (length notes) p row) next is in
      by_after made.0 made.1 (subst Leads (sym made.2) leads)
    where
      by_after : (after : After) → performed_after plan.names plan.deployment host.signature (length notes) p row ≡ Some after → Leads (after_line notes after) → IsBeforeRuns notes p
      by_after (On q) read leading =
          let same_host : leading.host ≡ host = cc (leading.is_host, at) in
          let q_before = subst (λ (h : Hosted). IsBefore plan own h.signature leading.kept q) same_host leading.before in
          record {
            host = host;
            is_host = at;
            kept = leading.kept;
            is_kept = leading.is_kept;
            tell = leading.tell;
            short = leading.short;
            before = performed_back plan own host.signature leading.kept (length notes) leading.short p row (On q) read q_before;
          }
      by_after (Last kept) read leading = record {
        host = host;
        is_host = at;
        kept = kept;
        is_kept = sym leading.is_kept;
        tell = leading.tell;
        short = leading.short;
        before = performed_back plan own host.signature kept (length notes) leading.short p row (Last kept) read refl;
      }

  views_lead_on : (notes : List Noted) (views : List View) (row : List ℕ) (next : Stage) → views_go_on plan notes views row ≡ Some next → Leads next → AllTell Tells notes
  views_lead_on notes views row next is leads =
      let read = view_read (node_names plan) (length views) (name_at plan.names (length views)) row in
      let test = only_is (nat_le (length views) 65535) (option_map (λ view. with_views plan notes (views ++ view ∷ [])) read) next is in
      let made = map_is (λ view. with_views plan notes (views ++ view ∷ [])) read next test.1 in
      views_lead notes (views ++ made.0 ∷ []) (subst Leads (sym made.2) leads)

  pub stage_leads : (stage : Stage) (row : List ℕ) (next : Stage) → stage_after plan own hosted stage row ≡ Some next → Leads next → Leads stage
  stage_leads (Events h) row next is leads = events_lead h row next is leads
  stage_leads (Runs notes p) row next is leads = runs_lead notes p row next hosted refl is leads
  stage_leads (Watching notes views) row next is leads = views_lead_on notes views row next is leads
  stage_leads (Done notes kept views) row next is leads = cc

  pub rows_lead : (stage : Stage) (rows : List (List ℕ)) (last : Stage) → stage_behind plan own hosted stage rows ≡ Some last → Leads last → Leads stage
  rows_lead stage [] last is leads = let same : stage ≡ last = cc in subst Leads (sym same) leads
  rows_lead stage (row ∷ rows) last is leads =
      let at = from_is (stage_after plan own hosted stage row) (λ next. stage_behind plan own hosted next rows) last is in
      stage_leads stage row at.0 at.1 (rows_lead at.0 rows last at.2 leads)

  -- ---- it goes on

  last_told : (notes : List Noted) (n : Noted) → AllTell Tells (notes ++ n ∷ []) → AllByRecursion Tells n.differing
  last_told [] n all = all.0
  last_told (x ∷ notes) n all = last_told notes n all.1

  one_told : (d : Option Differing) → ((x : Differing) → d ≡ Some x → Tells x) → AllByRecursion Tells (option_to_list d)
  one_told None all = tt
  one_told (Some d) all = (all d refl, tt)

  by_last : (earlier : List Noted) (last : Option Noted) → AllTell Tells (all_noted earlier last) → (d : Differing) → option_and_then (λ (n : Noted). last_of n.differing) last ≡ Some d → Tells d
  by_last earlier None all d is = cc
  by_last earlier (Some n) all d is = get_all Tells n.differing (length n.differing - 1) d (last_told earlier n all) is

  newest_so : (kind : Kind) (earlier : List Noted) (last : Option Noted) → AllTell Tells (all_noted earlier last) → (d : Differing) → newest_by kind last ≡ Some d → Tells d
  newest_so Gives earlier last all d is = cc
  newest_so Differences earlier last all d is = by_last earlier last all d is
  newest_so Foreign earlier last all d is = cc

  -- the line that a stage was read by tells of an ask
  pub newest_told : (stage : Stage) → Leads stage → AllByRecursion Tells (option_to_list (newest stage))
  newest_told (Events h) leads = one_told (newest_by h.kind h.last) (newest_so h.kind h.earlier h.last leads)
  newest_told (Runs notes p) leads = tt
  newest_told (Watching notes views) leads = tt
  newest_told (Done notes kept views) leads = tt

  -- what is known of the member's record
  abbrev pub AreKnown : Option Hosted → Option MemberRecord → Type 0
  AreKnown (Some host) (Some kept) = IsKnown plan own host.signature kept × (host.rooted ≡ has_root plan.deployment.troupes)
  AreKnown (Some host) None = Unit {0}
  AreKnown None kept = Unit {0}

  come_so : (o : Option Hosted) (m : Option MemberRecord) → AreKnown o m → (expected : List Differing) → AllByRecursion (IsToldOf o m) expected → (d : Option Differing) → ((x : Differing) → d ≡ Some x → IsToldOf o m x) → come_by (node_names plan) (length plan.names) own o expected d ≡ true
  come_so o m known expected told None all = refl
  come_so None m known expected told (Some d) all = absurd (all d refl)
  come_so (Some host) None known expected told (Some d) all = absurd (all d refl)
  come_so (Some host) (Some kept) known expected told (Some d) all =
      let h = has_ask plan own host.signature kept d (all d refl) in
      let enters : host.rooted ≡ true = known.1 ∙ known.0.roots (d.run - kept.from) h.run h.is_run in
      ap (λ t. t && can_come (node_names plan) (length plan.names) own host.signature expected d) enters
      ∙ can_come_so plan own host.signature kept known.0 expected told d (all d refl)

  named_of : (o : Option Hosted) (m : Option MemberRecord) → AreKnown o m → (expected : List Differing) → AllByRecursion (IsToldOf o m) expected → named_by (node_names plan) (length plan.names) own expected m ≡ true
  named_of o None known expected told = refl
  named_of None (Some kept) known [] told = refl
  named_of None (Some kept) known (d ∷ expected) told = absurd told.0
  named_of (Some host) (Some kept) known expected told = named_so plan own host.signature kept known.0 expected told

  runs_of : (notes : List Noted) (p : Performed) → IsBeforeRuns notes p → (o : Option Hosted) (m : Option MemberRecord) → hosted ≡ o → member ≡ m → AreKnown o m → (expected : List Differing) → AllByRecursion (IsToldOf o m) expected → performs_by (node_names plan) (length plan.names) own o expected p ≡ true
  runs_of notes p leads None m at is known expected told = refl
  runs_of notes p leads (Some host) None at is known expected told = let some = leads.is_kept in cc
  runs_of notes p leads (Some host) (Some kept) at is known expected told =
      let same_host : leads.host ≡ host = cc (leads.is_host, at) in
      let same_kept : leads.kept ≡ kept = cc (leads.is_kept, is) in
      let before = subst (λ (k : MemberRecord). IsBefore plan own host.signature k p) same_kept (subst (λ (h : Hosted). IsBefore plan own h.signature leads.kept p) same_host leads.before) in
      let enters : may_enter host p ≡ true = ap (λ t. t || nat_eq p.from p.count) known.1 ∙ enters_so plan own host.signature kept known.0 expected told p before in
      ap (λ t. t && performs (node_names plan) (length plan.names) own host.signature expected p) enters
      ∙ performs_so plan own host.signature kept known.0 expected told p before

  -- behind each stage that leads to the record it goes on
  pub goes_so : (stage : Stage) → Leads stage → AreKnown hosted member → (expected : List Differing) → AllByRecursion Tells expected → goes_on (node_names plan) (length plan.names) own hosted expected stage ≡ true
  goes_so (Events h) leads known expected told = come_so hosted member known expected told (newest_by h.kind h.last) (newest_so h.kind h.earlier h.last leads)
  goes_so (Runs notes p) leads known expected told = runs_of notes p leads hosted member refl refl known expected told
  goes_so (Watching notes views) leads known expected told = refl
  goes_so (Done notes kept views) leads known expected told = ap (named_by (node_names plan) (length plan.names) own expected) leads.is_kept ∙ named_of hosted member known expected told
