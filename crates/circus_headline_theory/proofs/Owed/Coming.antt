-- What happens to a member leaves what it knows that of its past, and its replies those of its runs.
use Rattle.std.proofs.Common.{◌≡◌, ℕ, ◌+◌, ◌≤◌, Bool, true, false, ◌&&◌, ◌⊎◌, inl, inr, if◌then◌else◌, List, [], ◌∷◌, ◌++◌, length, Some, refl, sym, ap, ◌∙◌, arith, length-append}
use Rattle.std.specs.Prelude.{max, option_and_then}
use Rattle.std.specs.Option.{option_map_or}
use Rattle.circus_value.specs.ValueTree.{ValueTree}
use Rattle.circus_value.specs.declared.caller.Caller.{Caller}
use Rattle.circus_header.specs.declared.call.CallHeader.{CallHeader}
use Rattle.circus_header.specs.declared.call.Request.{Request}
use Rattle.circus_collate.specs.declared.table.Table.{Table}
use Rattle.circus_collate.specs.declared.table.RingResult.{RingResult}
use Rattle.circus_collate.specs.declared.table.RingResult.TheVariants.{Done, RootTroupe, NotSpare, Full}
use Rattle.circus_transfer.specs.declared.joiner.Joiner.{Joiner}
use Rattle.circus_transfer.specs.declared.joiner.Joiner.TheVariants.{Outside, Asking, Fetching, Active}
use Rattle.circus_transfer.specs.Joining.{after_join, after_table, taken_in as result_taken}
use Rattle.circus_model.specs.Behaviour.{Behaviour}
use Rattle.circus_record.specs.declared.record.MemberRecord.{MemberRecord}
use Rattle.circus_record.specs.declared.record.RunRecord.{RunRecord}
use Rattle.circus_gather.specs.Gathering.{Gathered, answer_to, is_held, with_required, with_first}
use Rattle.circus_performing.specs.Performing.{last_of, unless_replied, is_fetching, made_active, taken_in, last_count}
use Rattle.circus_performing.proofs.Records.{fetching_is_inactive}
use Rattle.circus_member_rules.specs.declared.occurrence.Occurrence.{Occurrence}
use Rattle.circus_member_rules.specs.declared.occurrence.Occurrence.TheVariants as comes
use Rattle.circus_member_rules.specs.Rules.{answer_at_once, wanted_by_call, active_call, before_answers}
use Rattle.circus_member_rules.specs.MemberState.{MemberState, Doing}
use Rattle.circus_member_rules.specs.Step.{is_join, kept_by_table, handle}
use Rattle.circus_member_rules.specs.Seen.Sound.{IsSound}
use Rattle.circus_member_theory.specs.Ranges.{InRange}
use Rattle.circus_member_theory.specs.Past.{Past, followed, required_incarnation, is_asking, taken_in as way_in, phase, snapshot_fetched}
use Rattle.circus_member_theory.proofs.Timely.Phases.{once_told, once_tabled}
use Rattle.circus_member_theory.specs.Returns.{first_of}
use Rattle.circus_member_theory.specs.Snapshots.{began}
use Rattle.circus_headline_theory.proofs.Owed.Links.{numbered, IsLinked}
use Rattle.circus_headline_theory.proofs.Owed.Stays.{IsSame}

-- ---- phases

first_joining : (j : Joiner) → first_of (after_join j) ≡ first_of j
first_joining Outside = refl
first_joining Asking = refl
first_joining (Fetching incarnation) = refl
first_joining (Active first) = refl

first_tabled : (table : Table) (j : Joiner) → first_of (after_table table j) ≡ first_of j
first_tabled table Outside = refl
first_tabled table Asking = by_result table.result
  where
    by_result : (r : RingResult) → first_of (result_taken r table.view.incarnation) ≡ 0
    by_result Done = refl
    by_result RootTroupe = refl
    by_result NotSpare = refl
    by_result Full = refl
first_tabled table (Fetching incarnation) = refl
first_tabled table (Active first) = refl

-- ---- what a member knows

module _ {M : Type 0} (begins : Joiner) (state : List ValueTree) where
  -- what it requires and has become is that of its past, from this phase and state at boot on
  pub record Knows (p : Past) (m : MemberState M) : Type 0 where
    pub requires : m.gathered.required ≡ required_incarnation p
    pub phase_is : m.performing.kept.phase ≡ phase begins p
    pub from : m.gathered.from ≡ first_of m.performing.kept.phase
    pub start : m.performing.kept.from ≡ first_of m.performing.kept.phase
    pub state_is : m.performing.began ≡ began begins state p

  pub knows_same : (p : Past) (m n : MemberState M) → IsSame m n → Knows p m → Knows p n
  knows_same p m n same h =
      record {
        requires = same.required ∙ h.requires;
        phase_is = same.phase ∙ h.phase_is;
        from = same.from ∙ h.from ∙ ap first_of (sym same.phase);
        start = same.start ∙ h.start ∙ ap first_of (sym same.phase);
        state_is = same.began ∙ h.state_is;
      }

  module _ (p : Past) (m : MemberState M) (h : Knows p m) (at : ℕ) where
    -- where nothing of it changes
    abbrev pub Knew : Occurrence → Type 0
    Knew o = Knows (followed p at o) (handle at o m).member

    knew_asked : (header : CallHeader) (body : List ℕ) (sender : Caller) → Knew (comes.Asked header body sender)
    knew_asked header body sender = by_test (is_held (answer_to m.gathered header))
      where
        by_test : (b : Bool) → let n : MemberState M = record m {
          gathered = if b then record m.gathered { held = m.gathered.held ++ record { header = header; body = body; sender = sender } ∷ [] } else m.gathered;
          known = wanted_by_call (answer_to m.gathered header) header m.known;
        } in Knows (followed p at (comes.Asked header body sender)) n
        by_test true = record { requires = h.requires; phase_is = h.phase_is; from = h.from; start = h.start; state_is = h.state_is }
        by_test false = record { requires = h.requires; phase_is = h.phase_is; from = h.from; start = h.start; state_is = h.state_is }

    knew_told : (request : Request) (table : Table) → Knew (comes.Told request table)
    knew_told request table =
        let t = by_test (is_join request) in
        record { requires = h.requires; phase_is = t.0; from = t.1; start = t.2; state_is = h.state_is }
      where
        -- with this record behind it
        by_test : (b : Bool) → let kept : MemberRecord = if b then taken_in table m.performing.kept else m.performing.kept in
            (kept.phase ≡ (if b && is_asking (phase begins p) then way_in table else phase begins p)) × (m.gathered.from ≡ first_of kept.phase) × (kept.from ≡ first_of kept.phase)
        by_test true = (ap (after_table table) h.phase_is ∙ once_tabled table (phase begins p), h.from ∙ sym (first_tabled table m.performing.kept.phase), h.start ∙ sym (first_tabled table m.performing.kept.phase))
        by_test false = (h.phase_is, h.from, h.start)

    knew_restored : (given : List ValueTree) (count : ℕ) → Knew (comes.Restored given count)
    knew_restored given count = by_test (is_fetching m.performing.kept.phase) refl
      where
        fetches : (b : Bool) → is_fetching m.performing.kept.phase ≡ b → is_fetching (phase begins p) ≡ b
        fetches b is = ap is_fetching (sym h.phase_is) ∙ is

        by_test : (b : Bool) → is_fetching m.performing.kept.phase ≡ b
            → let d : Doing M = if b then record { member = record m { performing = made_active at given count m.performing; gathered = with_first m.gathered count }; effects = active_call m.place m.known count ++ before_answers m.gathered count } else record { member = m; effects = [] }
            in Knows (followed p at (comes.Restored given count)) d.member
        by_test true is =
            record {
              requires = h.requires;
              phase_is = sym (ap (λ b. if b then Active count else phase begins p) (fetches true is));
              from = refl;
              start = refl;
              state_is = sym (ap (λ b. option_map_or (λ (s : List ValueTree × ℕ). s.0) (if b then Some (given, count) else snapshot_fetched begins p) state) (fetches true is));
            }
        by_test false is =
            record {
              requires = h.requires;
              phase_is = h.phase_is ∙ sym (ap (λ b. if b then Active count else phase begins p) (fetches false is));
              from = h.from;
              start = h.start;
              state_is = h.state_is ∙ sym (ap (λ b. option_map_or (λ (s : List ValueTree × ℕ). s.0) (if b then Some (given, count) else snapshot_fetched begins p) state) (fetches false is));
            }

    pub knew : (o : Occurrence) → Knew o
    knew (comes.Asked header body sender) = knew_asked header body sender
    knew (comes.Fetched incarnation sender) = record { requires = ap (λ n. max n incarnation) h.requires; phase_is = h.phase_is; from = h.from; start = h.start; state_is = h.state_is }
    knew (comes.Replied name from reply) = record { requires = h.requires; phase_is = h.phase_is; from = h.from; start = h.start; state_is = h.state_is }
    knew (comes.IsStale name server from incarnation) = record { requires = h.requires; phase_is = h.phase_is; from = h.from; start = h.start; state_is = h.state_is }
    knew (comes.IsBefore name from) = record { requires = h.requires; phase_is = h.phase_is; from = h.from; start = h.start; state_is = h.state_is }
    knew (comes.Told request table) = knew_told request table
    knew (comes.Restored given count) = knew_restored given count
    knew (comes.Declared node) = record { requires = h.requires; phase_is = h.phase_is; from = h.from; start = h.start; state_is = h.state_is }
    knew comes.Joins =
        record {
          requires = h.requires;
          phase_is = ap after_join h.phase_is ∙ once_told (phase begins p);
          from = h.from ∙ sym (first_joining m.performing.kept.phase);
          start = h.start ∙ sym (first_joining m.performing.kept.phase);
          state_is = h.state_is;
        }

-- ---- runs

-- replies, the open run, the runs and their first index are the same
linked_with : (g h : Gathered) (kept later : MemberRecord) → h.open_run ≡ g.open_run → h.replies ≡ g.replies → later.runs ≡ kept.runs → later.from ≡ kept.from → IsLinked g kept → IsLinked h later
linked_with g h kept later open_run replies runs from (inl r) =
    let start = r.rests.start in
    let few = r.rests.few in
    let long = ap length runs in
    inl (record {
      no_ask = ap (λ rs. option_and_then (λ (x : RunRecord). option_and_then unless_replied (last_of x.asks)) (last_of rs)) runs ∙ r.no_ask;
      rests = record {
        start = omega (arith, start, from);
        few = omega (arith, few, from, long);
        none_open = open_run ∙ r.rests.none_open;
        replies = replies ∙ r.rests.replies ∙ ap (λ n. numbered n kept.runs) (sym from) ∙ ap (numbered later.from) (sym runs);
      };
    })
linked_with g h kept later open_run replies runs from (inr w) =
    let few = w.runs.few in
    inr (record {
      ask = w.ask;
      asks = ap (λ rs. option_and_then (λ (x : RunRecord). option_and_then unless_replied (last_of x.asks)) (last_of rs)) runs ∙ w.asks;
      runs = record {
        before = w.runs.before;
        run = w.runs.run;
        runs_are = runs ∙ w.runs.runs_are;
        few = omega (arith, few, from);
        is_open = open_run ∙ w.runs.is_open ∙ ap (λ n. Some (n + length w.runs.before)) (sym from);
        replies = replies ∙ w.runs.replies ∙ ap (λ n. numbered n w.runs.before) (sym from);
      };
    })

-- the same runs; where their first index is another, there are none
pub record Carries {M : Type 0} (m : MemberState M) (d : Doing M) : Type 0 where
  pub runs : d.member.performing.kept.runs ≡ m.performing.kept.runs
  pub start : (d.member.performing.kept.from ≡ m.performing.kept.from) ⊎ (m.performing.kept.runs ≡ [])
  pub linked : IsLinked d.member.gathered d.member.performing.kept
  pub hosted : d.member.performing.hosted ≡ m.performing.hosted
  pub place : d.member.place ≡ m.place

module _ {M : Type 0} (b : Behaviour) (m : MemberState M) (at : ℕ) (sound : IsSound b m) (h : IsLinked m.gathered m.performing.kept) where
  -- a member that has performed nothing begins behind a count
  none_linked : (given : List ValueTree) (count : ℕ) → m.performing.kept.runs ≡ [] → count ≤ last_count → IsLinked (with_first m.gathered count) (made_active at given count m.performing).kept
  none_linked given count none within = by_link h
    where
      long : length m.performing.kept.runs ≡ 0
      long = ap length none

      by_link : IsLinked m.gathered m.performing.kept → IsLinked (with_first m.gathered count) (made_active at given count m.performing).kept
      by_link (inr w) = let some = ap length w.runs.runs_are ∙ length-append w.runs.before (w.runs.run ∷ []) in absurd (omega (arith, some, long))
      by_link (inl r) =
          inl (record {
            no_ask = r.no_ask;
            rests = record {
              start = within;
              few = omega (arith, within, long);
              none_open = r.rests.none_open;
              replies = r.rests.replies ∙ ap (numbered m.performing.kept.from) none ∙ ap (numbered count) (sym none);
            };
          })

  pub carries : (o : Occurrence) → InRange o → Carries m (handle at o m)
  carries (comes.Asked header body sender) ranges = by_test (is_held (answer_to m.gathered header))
    where
      by_test : (t : Bool) → let d : Doing M = record {
        member = record m {
          gathered = if t then record m.gathered { held = m.gathered.held ++ record { header = header; body = body; sender = sender } ∷ [] } else m.gathered;
          known = wanted_by_call (answer_to m.gathered header) header m.known;
        };
        effects = answer_at_once (answer_to m.gathered header) sender;
      } in Carries m d
      by_test true = record { runs = refl; start = inl refl; linked = linked_with m.gathered _ m.performing.kept m.performing.kept refl refl refl refl h; hosted = refl; place = refl }
      by_test false = record { runs = refl; start = inl refl; linked = h; hosted = refl; place = refl }
  carries (comes.Fetched incarnation sender) ranges = record { runs = refl; start = inl refl; linked = linked_with m.gathered (with_required m.gathered incarnation) m.performing.kept m.performing.kept refl refl refl refl h; hosted = refl; place = refl }
  carries (comes.Replied name from reply) ranges = record { runs = refl; start = inl refl; linked = h; hosted = refl; place = refl }
  carries (comes.IsStale name server from incarnation) ranges = record { runs = refl; start = inl refl; linked = h; hosted = refl; place = refl }
  carries (comes.IsBefore name from) ranges = record { runs = refl; start = inl refl; linked = h; hosted = refl; place = refl }
  carries (comes.Told request table) ranges =
      let later = kept_by_table m.performing.kept request table in
      let same = by_test (is_join request) in
      record { runs = same.0; start = inl same.1; linked = linked_with m.gathered m.gathered m.performing.kept later refl refl same.0 same.1 h; hosted = refl; place = refl }
    where
      by_test : (t : Bool) → let kept : MemberRecord = if t then taken_in table m.performing.kept else m.performing.kept in (kept.runs ≡ m.performing.kept.runs) × (kept.from ≡ m.performing.kept.from)
      by_test true = (refl, refl)
      by_test false = (refl, refl)
  carries (comes.Restored given count) ranges = by_test (is_fetching m.performing.kept.phase) refl
    where
      by_test : (t : Bool) → is_fetching m.performing.kept.phase ≡ t
          → let d : Doing M = if t then record { member = record m { performing = made_active at given count m.performing; gathered = with_first m.gathered count }; effects = active_call m.place m.known count ++ before_answers m.gathered count } else record { member = m; effects = [] }
          in Carries m d
      by_test false is = record { runs = refl; start = inl refl; linked = h; hosted = refl; place = refl }
      by_test true is =
          let none = sound.kept.inactive (fetching_is_inactive m.performing.kept.phase is) in
          record { runs = refl; start = inr none; linked = none_linked given count none ranges; hosted = refl; place = refl }
  carries (comes.Declared node) ranges = record { runs = refl; start = inl refl; linked = h; hosted = refl; place = refl }
  carries comes.Joins ranges = record { runs = refl; start = inl refl; linked = linked_with m.gathered m.gathered m.performing.kept _ refl refl refl refl h; hosted = refl; place = refl }
