-- A member that has booted is quiet.
use Rattle.std.proofs.Common.{◌≡◌, ◌⊎◌, inl, inr, ℕ, ◌+◌, ◌<◌, ◌≤◌, Bool, true, false, List, [], ◌∷◌, length, map, All, Option, None, Some, refl, sym, ap, subst, ◌∙◌, arith, length-append, if◌then◌else◌}
use Rattle.std.specs.Prelude.{slice_get}
use Rattle.std.specs.Option.{option_map_or}
use Rattle.std.proofs.lemmas.List.Elements.{All-nil, All-cons}
use Rattle.std.proofs.lemmas.Option.{same_Some}
use Rattle.circus_value.specs.ValueTree.{ValueTree}
use Rattle.circus_value.specs.declared.caller.Caller.{Caller}
use Rattle.circus_value.specs.declared.outcome.Outcome.{Outcome}
use Rattle.circus_header.specs.declared.call.CallHeader.{CallHeader}
use Rattle.circus_header.specs.declared.answer.Reply.{Reply}
use Rattle.circus_collate.specs.declared.giving.Said.{Said}
use Rattle.circus_collate.specs.declared.view.View.{View}
use Rattle.circus_transfer.specs.declared.joiner.Joiner.{Joiner}
use Rattle.circus_model.specs.declared.history.Run.{Run}
use Rattle.circus_model.specs.NextTurn.{NextTurn}
use Rattle.circus_model.specs.Behaviour.{Behaviour, IsModule}
use Rattle.circus_model.specs.Agree.{AreModules, Agree}
use Rattle.circus_model.specs.Execution.{history_of}
use Rattle.circus_model.specs.History.{runs_of}
use Rattle.circus_model.specs.declared.signature.Signature.{Signature}
use Rattle.circus_record.specs.declared.record.MemberRecord.{MemberRecord}
use Rattle.circus_record.specs.declared.record.RunRecord.{RunRecord}
use Rattle.circus_fanout.specs.Knowing as knowing
use Rattle.circus_fanout.specs.Knowing.{Knowing, no_want}
use Rattle.circus_fanout.specs.declared.known.Want.{Want}
use Rattle.circus_gather.specs.declared.held.HeldCall.{HeldCall}
use Rattle.circus_performing.specs.Performing.{Performing, is_active, last_count, last_of, open_ask}
use Rattle.circus_fanout.specs.Asking.{Asking}
use Rattle.circus_member_rules.specs.OpenAsks.{asking_of}
use Rattle.circus_record.specs.declared.record.AskRecord.{AskRecord}
use Rattle.circus_member_rules.proofs.Entering.{with_entered}
use Rattle.circus_performing.specs.Performing as performing
use Rattle.circus_performing.specs.Record.{behaviour}
use Rattle.circus_member_theory.proofs.Histories.{runs_are_few}
use Rattle.circus_member_rules.specs.declared.place.Beginning.{Beginning}
use Rattle.circus_member_rules.specs.declared.place.Beginning.TheVariants.{Founder, Spare}
use Rattle.circus_member_rules.specs.declared.place.Place.{Place}
use Rattle.circus_member_rules.specs.Happening.{IsHome}
use Rattle.circus_member_rules.specs.MemberState.{MemberState, Doing}
use Rattle.circus_member_rules.specs.Step.{main_start, before_any, performer_at_boot, starts_at_boot, enter_run_of, boot_member, after_turns, opened_ask, ended_run, opened_by_view, name_of_last, asking_begun}
use Rattle.circus_member_theory.proofs.Resting.{at_boot, sound_at_boot, may_begin}
use Rattle.circus_node.proofs.ViewLemmas.{booted_knows}
use Rattle.circus_member_theory.specs.Stands.{Stands, IsIdle, IsBusy}
use Rattle.circus_world_theory.specs.Still.{phase_of}
use Rattle.circus_world_theory.proofs.Quiescence.Phases.{entered_keeps}
use Rattle.circus_world_theory.specs.Told.{Recorded, IsOpenAt}
use Rattle.circus_world_theory.proofs.Quiescence.Staying as staying
use Rattle.circus_world_theory.proofs.Quiescence.Once.{AreApart, AreOthers, targets, entered_once}
use Rattle.circus_world_theory.proofs.Quiescence.Staying.{EffectSo, NewCall, IsCallIn, is_entry, Body, keeps}
use Rattle.circus_world_theory.proofs.Quiescence.Stepping.{AreFirst, AreLow, IsQuiet, ones_of}

-- ---- how many runs a record has

busy_runs : (history : List (List Run)) (place : ℕ) (kept : MemberRecord) (busy : IsBusy history place kept) → length kept.runs ≡ length busy.before + 1
busy_runs history place kept busy = ap length busy.runs_are ∙ length-append busy.before (busy.last ∷ [])

pub few_runs : (program : List Behaviour) (agree : Agree program) (are : AreModules program) (place : ℕ) (first : List ValueTree) (kept : MemberRecord)
    → (is_active kept.phase ≡ false → kept.runs ≡ []) → (is_active kept.phase ≡ true → Stands (history_of program) place first kept) → length kept.runs ≤ last_count
few_runs program agree are place first kept inactive active = by_phase (is_active kept.phase) refl
  where
    few : length (runs_of (history_of program) place) ≤ 16777217
    few = runs_are_few program agree are place

    by_now : Stands (history_of program) place first kept → IsIdle (history_of program) place first kept ⊎ IsBusy (history_of program) place kept → length kept.runs ≤ last_count
    by_now s (inl idle) = (let within = s.within in let count = idle.count in omega (arith, within, count, few))
    by_now s (inr busy) = (let within = s.within in let count = busy.count in let runs = busy_runs (history_of program) place kept busy in omega (arith, within, count, few, runs))

    by_phase : (b : Bool) → is_active kept.phase ≡ b → length kept.runs ≤ last_count
    by_phase false is = (let none : length kept.runs ≡ 0 = ap length (inactive is) in omega (arith, none))
    by_phase true is = by_now (active is) (active is).now

-- ---- at boot

no_item : {X : Type 0} (k : ℕ) (x : X) → slice_get [] k ≡ Some x → ⊥
no_item k x h = cc

none_wanted : (views : List View) → AreLow (map no_want views)
none_wanted [] = All-nil (λ (w : Want). w.incarnation ≤ 1)
none_wanted (v ∷ views) = All-cons (λ (w : Want). w.incarnation ≤ 1) (no_want v) (map no_want views) (omega arith) (none_wanted views)

module _ {M : Type 0} (declared : M → Signature) (turn : M → List ValueTree → ℕ → List ValueTree → List Outcome → NextTurn) (first : M → List ValueTree)
    (lawful : (hosted : M) → IsModule (behaviour declared turn first hosted)) (P : Caller → CallHeader → List ℕ → Type 0)
    (place : Place) (views : List View) (firsts : AreFirst views) (hosted : M) (home : IsHome (declared hosted) place views) where
  -- before anything has happened
  quiet_before : (phase : Joiner) → IsQuiet views place.troupe phase P (before_any declared turn place views (record { hosted = hosted; began = first hosted; kept = performing.before_any phase (first hosted) }))
  quiet_before phase = record {
    views = refl;
    down = refl;
    wants = none_wanted views;
    requests = refl;
    required = refl;
    first = refl;
    own_is = refl;
    from = refl;
    phase_is = refl;
    held = All-nil (λ (c : HeldCall). P c.sender c.header c.body);
    replies = λ index reply is. absurd (let clash : ◌≡◌ {A = Option Reply} None (Some reply) = is in cc);
    replied = λ index less. absurd (omega (arith, less));
    opened = λ index number callee o. absurd (let clash : ◌≡◌ {A = Option RunRecord} None (Some o.run) = o.last in cc);
  }

  -- a founder of a root has entered its MAIN
  module _ (is : starts_at_boot declared turn Founder hosted ≡ true) where
    abbrev m : MemberState M
    m = at_boot declared turn first lawful place views hosted home Founder

    abbrev z : staying.Beginning
    z = record { views = views; own = place.troupe; phase = m.performing.kept.phase; kept = m.performing.kept }

    abbrev Old : ℕ → ℕ → ℕ → ℕ → Type 0
    Old a b c e = ⊥

    abbrev OldSaid : ℕ → ℕ → List (Said Reply) → Type 0
    OldSaid index number said = said ≡ []

    ones : (t : ℕ) (v : View) → slice_get views t ≡ Some v → v.incarnation ≤ 1
    ones = ones_of views firsts

    abbrev Behind : Doing M → Type 0
    Behind d = Body z ones P Old OldSaid d

    start_body : Behind (record { member = m; effects = [] })
    start_body = record {
      stays = record {
        views = refl;
        down = refl;
        requests = refl;
        required = refl;
        first = refl;
        own = refl;
        from = refl;
        phase = refl;
        held = All-nil (λ (c : HeldCall). P c.sender c.header c.body);
        effects = All-nil (EffectSo views place.troupe P m.performing.kept);
        news = All-nil (NewCall m.performing.kept);
        named = λ index number n. n;
        longer = omega arith;
        counts = omega arith;
        replies = λ index reply is. absurd (let clash : ◌≡◌ {A = Option Reply} None (Some reply) = is in cc);
      };
      recorded = λ index number callee r. absurd (no_item index r.run r.run_is);
      opened = λ index number callee o. absurd (let clash : ◌≡◌ {A = Option RunRecord} None (Some o.run) = o.last in cc);
      replied = λ index less. absurd (omega (arith, less));
    }

    abbrev e : Doing M
    e = enter_run_of turn 0 (record { member = m; effects = [] }) (main_start place.troupe views)

    entered_body : length e.member.performing.kept.runs ≤ last_count → Behind e
    entered_body few =
        entered_keeps declared turn first lawful 0 (λ d. staying.I z ones P Old OldSaid d) (λ d. staying.J z ones P Old OldSaid d) (keeps z ones P Old OldSaid declared turn first lawful 0)
        (record { member = m; effects = [] }) (main_start place.troupe views) (sound_at_boot declared turn first lawful place views hosted home Founder) (may_begin declared turn first lawful place views hosted home Founder is)
        (λ few_before. start_body) few

    -- the turns leave the record as it is
    turns_perform : (d : Doing M) → (after_turns d).member.performing ≡ d.member.performing
    turns_perform d = by_run (last_of d.member.performing.kept.runs)
      where
        by_view : (run : RunRecord) (ask : AskRecord) (o : Option View) → (option_map_or (opened_by_view d (name_of_last d.member.performing.kept) (asking_begun d.member.place d.member.performing.kept run ask)) o d).member.performing ≡ d.member.performing
        by_view run ask None = refl
        by_view run ask (Some view) = refl

        by_ask : (run : RunRecord) (o : Option AskRecord) → (option_map_or (opened_ask d run) o (ended_run d run)).member.performing ≡ d.member.performing
        by_ask run None = refl
        by_ask run (Some ask) = by_view run ask (slice_get d.member.known.views ask.callee)

        by_run : (o : Option RunRecord) → (option_map_or (λ (run : RunRecord). option_map_or (opened_ask d run) (open_ask d.member.performing.kept) (ended_run d run)) o d).member.performing ≡ d.member.performing
        by_run None = refl
        by_run (Some run) = by_ask run (open_ask d.member.performing.kept)

    entered_some : 0 < length e.member.performing.kept.runs
    entered_some =
        let f : Doing M = record { member = with_entered (behaviour declared turn first hosted) (lawful hosted) m 0 (main_start place.troupe views); effects = [] } in
        let one : length f.member.performing.kept.runs ≡ length m.performing.kept.runs + 1 = length-append m.performing.kept.runs
        (performing.gone_on 0 (turn hosted m.performing.kept.state 0 []) performing.most_turns (performing.begin_run 0 (main_start place.troupe views)) ∷ []) in
        let same : length e.member.performing.kept.runs ≡ length f.member.performing.kept.runs = ap (λ (p : Performing M). length p.kept.runs) (turns_perform f) in
        omega (arith, one, same)

  pub record BootsQuietly (beginning : Beginning) (d : Doing M) : Type 0 where
    pub quiet : IsQuiet views place.troupe (phase_of beginning) P d.member
    pub effects : All (EffectSo views place.troupe P d.member.performing.kept) d.effects
    pub once : ((t : ℕ) (view : View) → slice_get views t ≡ Some view → AreOthers view) → AreApart (targets d.effects)
    pub recorded : (index number callee : ℕ) → Recorded d.member.performing.kept index number callee → (view : View) (node : ℕ) → slice_get views callee ≡ Some view → is_entry view node ≡ true
        → IsCallIn d.effects index number callee node
    pub silent : (index number callee : ℕ) → IsOpenAt d.member.performing.kept index number callee → (a : Asking) → asking_of d.member.asks (record { run = index; ask = number }) ≡ Some a → a.said ≡ []
    pub begun : starts_at_boot declared turn beginning hosted ≡ true → 0 < length d.member.performing.kept.runs

  nothing_yet : (beginning : Beginning) → (starts_at_boot declared turn beginning hosted ≡ true → ⊥)
      → BootsQuietly beginning (record { member = before_any declared turn place views (record { hosted = hosted; began = first hosted; kept = performing.before_any (phase_of beginning) (first hosted) }); effects = [] })
  nothing_yet beginning none = record {
    quiet = quiet_before (phase_of beginning);
    effects = All-nil (EffectSo views place.troupe P (performing.before_any (phase_of beginning) (first hosted)));
    once = λ others. tt;
    recorded = λ index number callee r. absurd (no_item index r.run r.run_is);
    silent = λ index number callee o. absurd (let clash : ◌≡◌ {A = Option RunRecord} None (Some o.run) = o.last in cc);
    begun = λ starts. absurd (none starts);
  }

  pub boots_quietly : (beginning : Beginning) → length (boot_member declared turn first place views beginning hosted).member.performing.kept.runs ≤ last_count → BootsQuietly beginning (boot_member declared turn first place views beginning hosted)
  boots_quietly Spare few = nothing_yet Spare (λ starts. absurd (let clash : false ≡ true = starts in cc))
  boots_quietly Founder few = by_test (starts_at_boot declared turn Founder hosted) refl few (booted_knows declared turn first place views Founder hosted)
    where
      by_test : (t : Bool) → starts_at_boot declared turn Founder hosted ≡ t
          → let d : Doing M = record { member = before_any declared turn place views (performer_at_boot first Founder hosted); effects = [] } in
          length (if t then enter_run_of turn 0 d (main_start place.troupe views) else d).member.performing.kept.runs ≤ last_count
          → (if t then enter_run_of turn 0 d (main_start place.troupe views) else d).member.known ≡ knowing.at_boot views
          → BootsQuietly Founder (if t then enter_run_of turn 0 d (main_start place.troupe views) else d)
      by_test false is few_ knows = nothing_yet Founder (λ starts. absurd (let clash : false ≡ true = sym is ∙ starts in cc))
      by_test true is few_ knows =
          let body = entered_body is few_ in
          let s = body.stays in
          record {
            quiet = record {
              views = s.views;
              down = s.down;
              wants = subst (λ (k : Knowing). AreLow k.wants) (sym knows) (none_wanted views);
              requests = s.requests;
              required = s.required;
              first = s.first;
              own_is = s.own;
              from = s.from;
              phase_is = s.phase;
              held = s.held;
              replies = s.replies;
              replied = body.replied;
              opened = λ index number callee o. (let x = body.opened index number callee o in record { asking = x.asking; there = x.there; server = x.server; kind = x.kind });
            };
            effects = s.effects;
            once = λ others. (entered_once views others turn 0 (record { member = m is; effects = [] }) (main_start place.troupe views) refl refl).once;
            recorded = λ index number callee r view node at entry. elim (body.recorded index number callee r view node at entry) [ inl old ↦ absurd old | inr new ↦ new ];
            silent = λ index number callee o a at.
                let x = body.opened index number callee o in
                let same : a ≡ x.asking = same_Some a x.asking (sym at ∙ x.there) in
                ap (λ (y : Asking). y.said) same ∙ elim x.said [ inl old ↦ old | inr new ↦ new.1 ];
            begun = λ starts. entered_some is;
          }
