-- What an execution makes: that of the run that was open, then the snapshots, and then that of the runs that start.
use Rattle.std.proofs.Common.{◌≡◌, ℕ, ◌+◌, ◌-◌, Bool, true, false, true≢false, ◌&&◌, not, ◌⊎◌, inl, inr, cond, if◌then◌else◌, List, [], ◌∷◌, ◌++◌, filter, length, All, Option, Some, None, refl, sym, ap, subst, ◌∙◌, arith, append_assoc, append-nil, length-append}
use Rattle.std.specs.Prelude.{slice_get, nat_eq, nat_lt, is_some, is_none, option_and_then}
use Rattle.std.specs.List.{flat_map}
use Rattle.std.specs.Map.{lookup}
use Rattle.std.specs.Option.{option_map_or}
use Rattle.std.proofs.lemmas.Bool.{le-ltb, eq-eqb}
use Rattle.std.proofs.lemmas.Bool.Decides.{eqb_tells}
use Rattle.std.proofs.lemmas.List.Concat.{flat_map-append}
use Rattle.std.proofs.lemmas.List.Elements.{All-head, All-tail, All-push, All-weaker, All-filter, filter-append, filter_agree}
use Rattle.std.proofs.lemmas.Option.{same_Some, slice_get-get_or}
use Rattle.circus_value.specs.ValueTree.{ValueTree}
use Rattle.circus_value.specs.declared.outcome.Outcome.{Outcome}
use Rattle.circus_header.specs.declared.answer.Reply.{Reply}
use Rattle.circus_collate.specs.declared.view.View.{View}
use Rattle.circus_transfer.specs.Snapshot.{snapshot_bytes}
use Rattle.circus_model.specs.declared.signature.Signature.{Signature}
use Rattle.circus_model.specs.NextTurn.{NextTurn}
use Rattle.circus_model.specs.Behaviour.{IsModule}
use Rattle.circus_record.specs.declared.record.AskRecord.{AskRecord}
use Rattle.circus_record.specs.declared.record.MemberRecord.{MemberRecord}
use Rattle.circus_record.specs.declared.record.RunRecord.{RunRecord}
use Rattle.circus_gather.specs.Gathering.{Gathered, index_of, is_of_index, reply_of, answered_by_end, callers}
use Rattle.circus_gather.specs.declared.held.HeldCall.{HeldCall}
use Rattle.circus_fanout.specs.Asking.{Asking, calls_for_a_view}
use Rattle.circus_performing.specs.declared.start.RunStart.{RunStart}
use Rattle.circus_performing.specs.Performing.{is_active, last_of, unless_replied, open_ask, clock_after, begin_run, made_ask, answered_ask, gone_on, state_after, most_turns}
use Rattle.circus_performing.specs.Record.{behaviour, count_after, start_of, turns}
use Rattle.circus_performing.proofs.Ends.{last_more}
use Rattle.circus_performing.proofs.Records.{none_is_some, with_answer, answered_is}
use Rattle.circus_member_rules.specs.declared.occurrence.AskName.{AskName}
use Rattle.circus_member_rules.specs.declared.occurrence.Effect.{Effect}
use Rattle.circus_member_rules.specs.Rules.{answers, calls_of_ask, answers_of_run, index_of_last}
use Rattle.circus_member_rules.specs.MemberState.{MemberState, Doing}
use Rattle.circus_member_rules.specs.Step.{is_idle, name_of_last, asking_begun, opened_by_view, ended_run, reply_of_run}
use Rattle.circus_member_rules.specs.Seen.Sound.{MayStart}
use Rattle.circus_member_rules.proofs.Entering.{HasValue, with_entered, with_answered}
use Rattle.circus_member_rules.proofs.Starting.{IsSoundNow, and_right, none_from_test}
use Rattle.circus_member_rules.proofs.Turned.{IsTurned}
use Rattle.circus_member_rules.proofs.Writing.{one_is_performing, none_is_idle}
use Rattle.circus_model.proofs.Lookups.{at_end}
use Rattle.circus_world_theory.proofs.Border.Going.{with_given}
use Rattle.circus_member_theory.specs.Asks.{as_made, first_calls}
use Rattle.circus_headline_theory.proofs.Owed.Distinct.{All-without_last, All-last}
use Rattle.circus_headline_theory.proofs.Owed.Entries.{HasNoAsk, none_from, open_part, asks_by, gone_asks, answered_asks}
use Rattle.circus_headline_theory.proofs.Owed.Going.{behaves, Keeps}
use Rattle.circus_headline_theory.proofs.Owed.Grown.{EndsAt, gone_started, gone_ends}
use Rattle.circus_headline_theory.proofs.Owed.Links.{IsLinkedIn, RunsIn, linked_keeps, last_index}
use Rattle.circus_headline_theory.proofs.Owed.Moments.{is_early, AreEarly, AreEnded, all_pass}
use Rattle.circus_headline_theory.proofs.Owed.Opening.{one_open}
use Rattle.circus_headline_theory.proofs.Owed.Passing.{passing_both}
use Rattle.circus_headline_theory.proofs.Owed.Stays.{IsSame, stays_keeps}
use Rattle.circus_headline_theory.proofs.Owed.Waiting.{lookup_stays, lookup_added}

-- ---- the calls that wait

-- the index of a call has no reply
abbrev pub has_none : Gathered → HeldCall → Bool
has_none g call = is_none (reply_of g (index_of g.module call.header))

-- of those that were held, these wait
abbrev pub WaitOn : List HeldCall → Gathered → Type 0
WaitOn held g = g.held ≡ filter (has_none g) held

-- once an index has a reply, the calls of it are gone
wait_ended : (held : List HeldCall) (g : Gathered) (index : ℕ) (reply : Reply) → WaitOn held g
    → filter (λ c. not (is_of_index g.module index c)) g.held ≡ filter (λ c. is_none (lookup (nat_eq (index_of g.module c.header)) (g.replies ++ (index, reply) ∷ []))) held
wait_ended held g index reply h =
    ap (filter (λ c. not (is_of_index g.module index c))) h
    ∙ passing_both (λ c. not (is_of_index g.module index c)) (has_none g) held
    ∙ filter_agree (λ c. has_none g c && not (is_of_index g.module index c)) (λ c. is_none (lookup (nat_eq (index_of g.module c.header)) (g.replies ++ (index, reply) ∷ [])))
    (λ c. by_reply (index_of g.module c.header) (lookup (nat_eq (index_of g.module c.header)) g.replies) refl) held
  where
    if_found : (b : Bool) → not b ≡ is_none (cond b (Some reply) None)
    if_found true = refl
    if_found false = refl

    by_reply : (i : ℕ) (o : Option Reply) → lookup (nat_eq i) g.replies ≡ o → (is_none (lookup (nat_eq i) g.replies) && not (nat_eq i index)) ≡ is_none (lookup (nat_eq i) (g.replies ++ (index, reply) ∷ []))
    by_reply i None is = ap (λ o. is_none o && not (nat_eq i index)) is ∙ if_found (nat_eq i index) ∙ ap is_none (sym (lookup_added i index reply g.replies is))
    by_reply i (Some found) is = ap (λ o. is_none o && not (nat_eq i index)) is ∙ ap is_none (sym (lookup_stays i index reply g.replies found is))

-- those of an index that has none wait
all_wait : (held : List HeldCall) (g : Gathered) (index : ℕ) → WaitOn held g → reply_of g index ≡ None → filter (is_of_index g.module index) g.held ≡ filter (is_of_index g.module index) held
all_wait held g index h none =
    ap (filter (is_of_index g.module index)) h
    ∙ passing_both (is_of_index g.module index) (has_none g) held
    ∙ filter_agree (λ c. has_none g c && is_of_index g.module index c) (is_of_index g.module index) (λ c. by_index (index_of g.module c.header) (eqb_tells (index_of g.module c.header) index)) held
  where
    both : (b : Bool) → (b && false) ≡ false
    both true = refl
    both false = refl

    by_index : (i : ℕ) → ((nat_eq i index ≡ true) × (i ≡ index)) ⊎ ((nat_eq i index ≡ false) × ((i ≡ index) → ⊥)) → (is_none (reply_of g i) && nat_eq i index) ≡ nat_eq i index
    by_index i (inl same) = ap (λ o. is_none o && nat_eq i index) (ap (reply_of g) same.1 ∙ none)
    by_index i (inr other) = ap (λ b. is_none (reply_of g i) && b) other.0 ∙ both (is_none (reply_of g i)) ∙ sym other.0

module _ {M : Type 0} (declared : M → Signature) (turn : M → List ValueTree → ℕ → List ValueTree → List Outcome → NextTurn) (first : M → List ValueTree) (lawful : (hosted : M) → IsModule (behaviour declared turn first hosted)) (step : ℕ) (held : List HeldCall) where
  abbrev pub WaitIn : Doing M → Type 0
  WaitIn d = WaitOn held d.member.gathered

  pub wait_keeps : Keeps declared turn first lawful step WaitIn WaitIn
  wait_keeps =
      record {
        gives = λ d sound idle h. h;
        enters = λ d start sound may none h. h;
        answers = λ d reply sound value h. h;
        opens = λ d run ask view turned at is there h. h;
        ends = λ d run turned at none h. wait_ended held d.member.gathered (index_of_last d.member.performing.kept) (reply_of_run run) h;
      }

-- the reply of an index stays
module _ {M : Type 0} (declared : M → Signature) (turn : M → List ValueTree → ℕ → List ValueTree → List Outcome → NextTurn) (first : M → List ValueTree) (lawful : (hosted : M) → IsModule (behaviour declared turn first hosted)) (step index : ℕ) (reply : Reply) where
  abbrev pub IsReplied : Doing M → Type 0
  IsReplied d = reply_of d.member.gathered index ≡ Some reply

  pub reply_keeps : Keeps declared turn first lawful step IsReplied IsReplied
  reply_keeps =
      record {
        gives = λ d sound idle h. h;
        enters = λ d start sound may none h. h;
        answers = λ d reply sound value h. h;
        opens = λ d run ask view turned at is there h. h;
        ends = λ d run turned at none h. lookup_stays index (index_of_last d.member.performing.kept) (reply_of_run run) d.member.gathered.replies reply h;
      }

-- ---- lists

pub early_more : (step : ℕ) (before : List RunRecord) (run : RunRecord) (b : Bool) → is_early step run ≡ b → filter (is_early step) (before ++ run ∷ []) ≡ filter (is_early step) before ++ cond b (run ∷ []) []
early_more step before run b is = filter-append (is_early step) before (run ∷ []) ∙ ap (λ t. filter (is_early step) before ++ cond t (run ∷ []) []) is

module _ {M : Type 0} (declared : M → Signature) (turn : M → List ValueTree → ℕ → List ValueTree → List Outcome → NextTurn) (first : M → List ValueTree) (lawful : (hosted : M) → IsModule (behaviour declared turn first hosted)) (step : ℕ) (m : MemberState M) (boot : List View) (test : AskRecord → Bool)
    (fresh : (clock : List ℕ) (callee procedure : ℕ) (arguments state : List ValueTree) → test (made_ask step clock callee procedure arguments state) ≡ true)
    (still : (ask : AskRecord) (reply : Outcome) (clock : List ℕ) → ask.answered ≡ None → test (answered_ask step reply clock ask) ≡ test ask) (old : List Effect) where
  -- ---- what each run makes

  abbrev pub ends_in : RunRecord → Bool
  ends_in run = option_map_or (nat_eq step) run.ended false

  abbrev pub calls_for : List (AskName × Asking) → List Effect
  calls_for asks = flat_map (first_calls m.place boot m.known) asks

  -- the calls of its asks, and the returns to the calls that were held, as it ends
  abbrev pub part : ℕ → RunRecord → List Effect
  part index run = calls_for (asks_by m.place test index run) ++ (if ends_in run then answers_of_run (answered_by_end m.gathered index) (reply_of_run run) else [])

  -- of the runs that pass, the first of this index
  abbrev pub parts : (RunRecord → Bool) → ℕ → List RunRecord → List Effect
  parts pass index [] = []
  parts pass index (run ∷ runs) = (if pass run then part index run else []) ++ parts pass (index + 1) runs

  parts-append : (pass : RunRecord → Bool) (index : ℕ) (runs : List RunRecord) (run : RunRecord) → parts pass index (runs ++ run ∷ []) ≡ parts pass index runs ++ (if pass run then part (index + length runs) run else [])
  parts-append pass index [] run =
      let same : index ≡ index + 0 = omega arith in
      append-nil (if pass run then part index run else []) ∙ ap (λ k. if pass run then part k run else []) same
  parts-append pass index (r ∷ runs) run =
      let same : (index + 1) + length runs ≡ index + length (r ∷ runs) = omega arith in
      let head = if pass r then part index r else [] in
      ap (λ l. head ++ l) (parts-append pass (index + 1) runs run ∙ ap (λ k. parts pass (index + 1) runs ++ (if pass run then part k run else [])) same)
      ∙ sym (append_assoc head (parts pass (index + 1) runs) (if pass run then part (index + length (r ∷ runs)) run else []))

  pub no_parts : (pass : RunRecord → Bool) (index : ℕ) (runs : List RunRecord) → All (λ (r : RunRecord). pass r ≡ false) runs → parts pass index runs ≡ []
  no_parts pass index [] all = refl
  no_parts pass index (r ∷ runs) all =
      let P : RunRecord → Type 0 = λ x. pass x ≡ false in
      ap (λ b. (if b then part index r else []) ++ parts pass (index + 1) runs) (All-head P r runs all) ∙ no_parts pass (index + 1) runs (All-tail P r runs all)

  -- where no run makes anything
  pub quiet_parts : (pass : RunRecord → Bool) (index : ℕ) (runs : List RunRecord) → All (λ (r : RunRecord). (All (λ (a : AskRecord). test a ≡ false) r.asks) × (ends_in r ≡ false)) runs → parts pass index runs ≡ []
  quiet_parts pass index [] all = refl
  quiet_parts pass index (r ∷ runs) all =
      let P : RunRecord → Type 0 = λ x. (All (λ (a : AskRecord). test a ≡ false) x.asks) × (ends_in x ≡ false) in
      let here = All-head P r runs all in
      let nothing : part index r ≡ [] = (λ j. calls_for (none_by index r here.0 j) ++ (if here.1 j then answers_of_run (answered_by_end m.gathered index) (reply_of_run r) else [])) in
      (λ j. (if pass r then nothing j else []) ++ quiet_parts pass (index + 1) runs (All-tail P r runs all) j) ∙ none_either (pass r)
    where
      none_by : (i : ℕ) (r : RunRecord) → All (λ (a : AskRecord). test a ≡ false) r.asks → asks_by m.place test i r ≡ []
      none_by i r none = none_from m.place test i r.root r.path 0 r.entry r.asks none

      none_either : (b : Bool) → let l : List Effect = (if b then [] else []) ++ [] in l ≡ []
      none_either true = refl
      none_either false = refl

  -- runs that were started before the step, and the others
  abbrev pub early : RunRecord → Bool
  early run = is_early step run

  abbrev pub late : RunRecord → Bool
  late run = not (is_early step run)

  abbrev pub origin : ℕ
  origin = m.performing.kept.from

  -- the snapshots behind runs
  abbrev pub snapshots_behind : List RunRecord → List Effect
  snapshots_behind runs = answers (snapshot_bytes (count_after origin (length runs)) (state_after m.performing.began runs)) m.requests

  abbrev pub runs_in : Doing M → List RunRecord
  runs_in d = d.member.performing.kept.runs

  -- ---- what is made so far

  -- no snapshot is given yet, and no run was started
  pub record Pends (d : Doing M) : Type 0 where
    pub requests : d.member.requests ≡ m.requests
    pub all_early : AreEarly step (runs_in d)
    pub effects : d.effects ≡ old ++ parts early origin (runs_in d)

  -- snapshots were given, behind the runs that were started before
  pub record HasGiven (d : Doing M) : Type 0 where
    pub requests : d.member.requests ≡ []
    pub reason : (is_active m.performing.kept.phase ≡ true) ⊎ (m.requests ≡ [])
    pub ended : AreEnded (filter early (runs_in d))
    pub effects : d.effects ≡ old ++ ((parts early origin (runs_in d) ++ snapshots_behind (filter early (runs_in d))) ++ parts late origin (runs_in d))

  abbrev pub Goes : Doing M → Type 0
  Goes d = IsLinkedIn declared turn first lawful step d × IsSame m d.member × WaitOn m.gathered.held d.member.gathered × (Pends d ⊎ HasGiven d)

  -- behind the turns of a run, which stands behind these: but for its open ask and its end
  pub record TurnsFirst (before : List RunRecord) (run : RunRecord) (done : List (AskName × Asking)) (d : Doing M) : Type 0 where
    pub requests : d.member.requests ≡ m.requests
    pub all_early : AreEarly step (before ++ run ∷ [])
    pub effects : d.effects ≡ old ++ (parts early origin before ++ calls_for done)

  pub record TurnsThen (before : List RunRecord) (run : RunRecord) (done : List (AskName × Asking)) (d : Doing M) : Type 0 where
    pub requests : d.member.requests ≡ []
    pub reason : (is_active m.performing.kept.phase ≡ true) ⊎ (m.requests ≡ [])
    pub is_late : is_early step run ≡ false
    pub ended : AreEnded (filter early before)
    pub effects : d.effects ≡ old ++ ((parts early origin before ++ snapshots_behind (filter early before)) ++ (parts late origin before ++ calls_for done))

  pub record HasTurned (d : Doing M) : Type 0 where
    pub before : List RunRecord
    pub run : RunRecord
    pub done : List (AskName × Asking)
    pub runs_are : runs_in d ≡ before ++ run ∷ []
    pub asks_are : asks_by m.place test (origin + length before) run ≡ done ++ open_part m.place test (origin + length before) run
    pub ends : EndsAt step run
    pub fate : TurnsFirst before run done d ⊎ TurnsThen before run done d

  abbrev pub Turns : Doing M → Type 0
  Turns d = RunsIn declared turn first lawful step d × IsSame m d.member × WaitOn m.gathered.held d.member.gathered × HasTurned d

  -- ---- the run asks, or ends

  -- with what it makes then
  goes_on : (d e : Doing M) (t : HasTurned d) (more : List Effect) → e.member.requests ≡ d.member.requests → runs_in e ≡ runs_in d → e.effects ≡ d.effects ++ more
      → part (origin + length t.before) t.run ≡ calls_for t.done ++ more → Pends e ⊎ HasGiven e
  goes_on d e t more requests same effects is = by_fate t.fate
    where
      runs : runs_in e ≡ t.before ++ t.run ∷ []
      runs = same ∙ t.runs_are

      F : List Effect
      F = calls_for t.done

      A : List Effect
      A = parts early origin t.before

      by_fate : TurnsFirst t.before t.run t.done d ⊎ TurnsThen t.before t.run t.done d → Pends e ⊎ HasGiven e
      by_fate (inl w) =
          let P : RunRecord → Type 0 = λ r. is_early step r ≡ true in
          let here = All-last P t.before t.run w.all_early in
          let all : parts early origin (t.before ++ t.run ∷ []) ≡ A ++ (F ++ more) =
          parts-append early origin t.before t.run ∙ ap (λ b. A ++ (if b then part (origin + length t.before) t.run else [])) here ∙ ap (λ l. A ++ l) is in
          inl (record {
            requests = requests ∙ w.requests;
            all_early = subst (AreEarly step) (sym runs) w.all_early;
            effects = effects ∙ ap (λ l. l ++ more) w.effects ∙ append_assoc old (A ++ F) more ∙ ap (λ l. old ++ l) (append_assoc A F more ∙ sym all) ∙ ap (λ rs. old ++ parts early origin rs) (sym runs);
          })
      by_fate (inr w) =
          let B = parts late origin t.before in
          let S = snapshots_behind (filter early t.before) in
          let firsts : parts early origin (t.before ++ t.run ∷ []) ≡ A =
          parts-append early origin t.before t.run ∙ ap (λ b. A ++ (if b then part (origin + length t.before) t.run else [])) w.is_late ∙ append-nil A in
          let behind : parts late origin (t.before ++ t.run ∷ []) ≡ B ++ (F ++ more) =
          parts-append late origin t.before t.run ∙ ap (λ b. B ++ (if not b then part (origin + length t.before) t.run else [])) w.is_late ∙ ap (λ l. B ++ l) is in
          let those : filter early (t.before ++ t.run ∷ []) ≡ filter early t.before = early_more step t.before t.run false w.is_late ∙ append-nil (filter early t.before) in
          let all : (parts early origin (t.before ++ t.run ∷ []) ++ snapshots_behind (filter early (t.before ++ t.run ∷ []))) ++ parts late origin (t.before ++ t.run ∷ []) ≡ ((A ++ S) ++ (B ++ F)) ++ more =
          (λ j. (firsts j ++ snapshots_behind (those j)) ++ behind j) ∙ ap (λ l. (A ++ S) ++ l) (sym (append_assoc B F more)) ∙ sym (append_assoc (A ++ S) (B ++ F) more) in
          inr (record {
            requests = requests ∙ w.requests;
            reason = w.reason;
            ended = subst AreEnded (sym (ap (filter early) runs ∙ those)) w.ended;
            effects = effects ∙ ap (λ l. l ++ more) w.effects ∙ append_assoc old ((A ++ S) ++ (B ++ F)) more ∙ ap (λ l. old ++ l) (sym all)
                ∙ ap (λ rs. old ++ ((parts early origin rs ++ snapshots_behind (filter early rs)) ++ parts late origin rs)) (sym runs);
          })

  -- the run at the end of the record is the last one
  same_last : (d : Doing M) (t : HasTurned d) (run : RunRecord) → last_of (runs_in d) ≡ Some run → t.run ≡ run
  same_last d t run at = same_Some t.run run (sym (ap last_of t.runs_are ∙ last_more t.before t.run) ∙ at)

  opens : (d : Doing M) (run : RunRecord) (ask : AskRecord) (view : View) → IsTurned (behaves declared turn first lawful d) d.member → last_of (runs_in d) ≡ Some run → open_ask d.member.performing.kept ≡ Some ask
      → slice_get d.member.known.views ask.callee ≡ Some view → Turns d
      → let e = opened_by_view d (name_of_last d.member.performing.kept) (asking_begun d.member.place d.member.performing.kept run ask) view in Pends e ⊎ HasGiven e
  opens d run ask view turned at is there h =
      let t = h.3 in
      let kept = d.member.performing.kept in
      let k = d.member.known in
      let name = name_of_last kept in
      let a = asking_begun d.member.place kept run ask in
      let more = calls_of_ask k name a (calls_for_a_view view k.down []) in
      let index = origin + length t.before in
      let same = same_last d t run at in
      let part_is : open_part m.place test index t.run ≡ (name, a) ∷ [] =
      ap (λ n. open_part m.place test (n + length t.before) t.run) (sym h.1.start) ∙ one_open declared turn first lawful step m boot test fresh still old d t.before t.run run ask h.0 h.1.place t.runs_are same at is in
      let made : first_calls m.place boot m.known (name, a) ≡ more =
      ap (λ x. first_calls m.place boot x (name, a)) (sym h.1.known) ∙ ap (λ o. option_map_or (λ v. calls_of_ask k name a (calls_for_a_view v k.down [])) o []) there in
      let asks_then : calls_for (asks_by m.place test index t.run) ≡ calls_for t.done ++ more =
      ap calls_for (t.asks_are ∙ ap (λ l. t.done ++ l) part_is) ∙ flat_map-append (first_calls m.place boot m.known) t.done ((name, a) ∷ [])
      ∙ ap (λ l. calls_for t.done ++ l) (append-nil (first_calls m.place boot m.known (name, a)) ∙ made) in
      let p = one_is_performing (behaves declared turn first lawful d) d.member.performing.began kept turned.kept ask is in
      let last : t.run ≡ p.run = same_Some t.run p.run (sym (ap last_of t.runs_are ∙ last_more t.before t.run) ∙ ap last_of p.runs_are ∙ last_more p.before p.run) in
      let open_yet : t.run.ended ≡ None = ap (λ (r : RunRecord). r.ended) last ∙ p.waiting.not_ended in
      goes_on d (opened_by_view d name a view) t more refl refl refl
      ((λ j. asks_then j ++ (if option_map_or (nat_eq step) (open_yet j) false then answers_of_run (answered_by_end m.gathered index) (reply_of_run t.run) else [])) ∙ append-nil (calls_for t.done ++ more))

  ends : (d : Doing M) (run : RunRecord) → IsTurned (behaves declared turn first lawful d) d.member → last_of (runs_in d) ≡ Some run → open_ask d.member.performing.kept ≡ None → Turns d
      → Pends (ended_run d run) ⊎ HasGiven (ended_run d run)
  ends d run turned at none h =
      let t = h.3 in
      let kept = d.member.performing.kept in
      let g = d.member.gathered in
      let index = origin + length t.before in
      let more = answers_of_run (answered_by_end g (index_of_last kept)) (reply_of_run run) in
      let same = same_last d t run at in
      let last = ap last_of t.runs_are ∙ last_more t.before t.run in
      let no_ask : option_and_then unless_replied (last_of t.run.asks) ≡ None = sym (ap (option_and_then (λ (r : RunRecord). option_and_then unless_replied (last_of r.asks))) last) ∙ none in
      let asks_then : asks_by m.place test index t.run ≡ t.done =
      t.asks_are ∙ ap (λ l. t.done ++ l) (no_part index t.run no_ask) ∙ append-nil t.done in
      let first_long = ap length t.runs_are ∙ length-append t.before (t.run ∷ []) in
      let other_long = ap length h.0.runs_are ∙ length-append h.0.before (h.0.run ∷ []) in
      let long : length h.0.before ≡ length t.before = omega (arith, first_long, other_long) in
      let number : index_of_last kept ≡ index = last_index g kept h.0 ∙ (λ j. h.1.start j + long j) in
      let those : answered_by_end g (index_of_last kept) ≡ answered_by_end m.gathered index =
      ap callers (all_wait m.gathered.held g (index_of_last kept) h.2 turned.fresh ∙ (λ j. filter (is_of_index (h.1.own j) (number j)) m.gathered.held)) in
      let idle = none_is_idle (behaves declared turn first lawful d) d.member.performing.began kept turned.kept none in
      let ended : ends_in t.run ≡ true = by_end t.run _ t.ends (idle.runs (length t.before) t.run (ap (λ rs. slice_get rs (length t.before)) t.runs_are ∙ at_end t.before t.run)).ended_is in
      goes_on d (ended_run d run) t more refl refl refl
      (λ j. calls_for (asks_then j) ++ (if ended j then answers_of_run (sym those j) (reply_of_run (same j)) else []))
    where
      no_part : (i : ℕ) (r : RunRecord) → option_and_then unless_replied (last_of r.asks) ≡ None → open_part m.place test i r ≡ []
      no_part i r is = ap (λ o. option_map_or (λ ask. open_one i r ask ∷ []) o []) is
        where
          open_one : ℕ → RunRecord → AskRecord → AskName × Asking
          open_one i r ask = as_made m.place i r.root r.path (length r.asks - 1) (clock_after r.entry r.asks) ask

      by_end : (run : RunRecord) (s : ℕ) → EndsAt step run → run.ended ≡ Some s → ends_in run ≡ true
      by_end run s (inl open_yet) is = absurd (none_is_some (sym open_yet ∙ is))
      by_end run s (inr now) is = ap (λ o. option_map_or (nat_eq step) o false) now ∙ eq-eqb step step refl

  -- ---- a run is entered, or goes on

  pub all_late : (runs : List RunRecord) → AreEarly step runs → parts late origin runs ≡ []
  all_late runs all =
      no_parts late origin runs (All-weaker (λ (r : RunRecord). is_early step r ≡ true) (λ (r : RunRecord). late r ≡ false) (λ r is. ap not is) runs all)

  enters : (d : Doing M) (start : RunStart) → IsSoundNow declared turn first lawful d.member → MayStart (declared d.member.performing.hosted) d.member start → d.member.requests ≡ [] → Pends d ⊎ HasGiven d
      → HasTurned (record d { member = with_entered (behaves declared turn first lawful d) (lawful d.member.performing.hosted) d.member step start })
  enters d start sound may none h =
      let kept = d.member.performing.kept in
      let t = turn d.member.performing.hosted kept.state start.procedure start.arguments in
      let gone = gone_on step t most_turns (begin_run step start) in
      let started : gone.started ≡ step = gone_started step t most_turns (begin_run step start) in
      record {
        before = kept.runs;
        run = gone;
        done = [];
        runs_are = refl;
        asks_are = gone_asks m.place test step true fresh t most_turns (origin + length kept.runs) (begin_run step start) refl;
        ends = gone_ends step t most_turns (begin_run step start) refl;
        fate = inr (by_fate (le-ltb gone.started step (omega (arith, started))) h);
      }
    where
      gone_run : RunRecord
      gone_run = gone_on step (turn d.member.performing.hosted d.member.performing.kept.state start.procedure start.arguments) most_turns (begin_run step start)

      by_fate : is_early step gone_run ≡ false → Pends d ⊎ HasGiven d
          → TurnsThen d.member.performing.kept.runs gone_run [] (record d { member = with_entered (behaves declared turn first lawful d) (lawful d.member.performing.hosted) d.member step start })
      by_fate is_late (inr g) =
          record {
            requests = g.requests;
            reason = g.reason;
            is_late = is_late;
            ended = g.ended;
            effects = g.effects ∙ ap (λ l. old ++ ((parts early origin (runs_in d) ++ snapshots_behind (filter early (runs_in d))) ++ l)) (sym (append-nil (parts late origin (runs_in d))));
          }
      by_fate is_late (inl w) =
          let kept = d.member.performing.kept in
          let rests = none_is_idle (behaves declared turn first lawful d) d.member.performing.began kept sound.kept may.can.idle in
          let no_requests : m.requests ≡ [] = sym w.requests ∙ none in
          let nothing : snapshots_behind (filter early kept.runs) ≡ [] =
          ap (answers (snapshot_bytes (count_after origin (length (filter early kept.runs))) (state_after m.performing.began (filter early kept.runs)))) no_requests in
          let A = parts early origin kept.runs in
          record {
            requests = none;
            reason = inr no_requests;
            is_late = is_late;
            ended = All-filter early (λ (r : RunRecord). is_some r.ended ≡ true) kept.runs (λ k r below. ap is_some ((rests.runs k _ (slice_get-get_or kept.runs k r below)).ended_is));
            effects = w.effects
                ∙ ap (λ l. old ++ l) (sym (append-nil (A ++ []) ∙ append-nil A) ∙ (λ j. (A ++ sym nothing j) ++ (sym (all_late kept.runs w.all_early) j ++ [])));
          }

  answers_on : (d : Doing M) (reply : Reply) → IsSoundNow declared turn first lawful d.member → HasValue (behaves declared turn first lawful d) d.member reply → Pends d ⊎ HasGiven d
      → HasTurned (record d { member = with_answered (behaves declared turn first lawful d) (lawful d.member.performing.hosted) d.member step reply })
  answers_on d reply sound value h =
      let b = behaves declared turn first lawful d in
      let law = lawful d.member.performing.hosted in
      let kept = d.member.performing.kept in
      let began = d.member.performing.began in
      let p = one_is_performing b began kept sound.kept value.ask value.is_open in
      let made = with_answer b law began kept p step reply.outcome reply.clock in
      let t = turns b (state_after began p.before) (start_of p.run) in
      let gone = gone_on step t most_turns made in
      let index = origin + length p.before in
      let done = asks_by m.place test index p.run in
      let e : Doing M = record d { member = with_answered b law d.member step reply } in
      let none : HasNoAsk made = ap (option_and_then unless_replied) (last_more p.waiting.before (answered_ask step reply.outcome reply.clock p.waiting.ask)) in
      let started : gone.started ≡ p.run.started = gone_started step t most_turns made in
      let last_part : part index p.run ≡ calls_for done =
      (λ j. calls_for done ++ (if option_map_or (nat_eq step) (p.waiting.not_ended j) false then answers_of_run (answered_by_end m.gathered index) (reply_of_run p.run) else [])) ∙ append-nil (calls_for done) in
      record {
        before = p.before;
        run = gone;
        done = done;
        runs_are = ap (λ (x : MemberRecord). x.runs) (answered_is b law began kept p step reply.outcome reply.clock);
        asks_are = gone_asks m.place test step true fresh t most_turns index made none
            ∙ ap (λ l. l ++ open_part m.place test index gone) (answered_asks m.place test index p.run p.waiting.before p.waiting.ask step reply.outcome reply.clock p.waiting.asks_are (still p.waiting.ask reply.outcome reply.clock p.waiting.waits.not_answered));
        ends = gone_ends step t most_turns made p.waiting.not_ended;
        fate = by_fate e p.before p.run gone done p.runs_are p.waiting.not_ended started last_part refl refl h;
      }
    where
      by_late : (t : Bool) (before : List RunRecord) (run : RunRecord) → is_early step run ≡ t → runs_in d ≡ before ++ run ∷ [] → run.ended ≡ None → AreEnded (filter early (runs_in d)) → is_early step run ≡ false
      by_late false before run is runs open_yet ended = is
      by_late true before run is runs open_yet ended =
          let last = All-last (λ (r : RunRecord). is_some r.ended ≡ true) (filter early before) run (subst AreEnded (ap (filter early) runs ∙ early_more step before run true is) ended) in
          absurd (true≢false (sym last ∙ ap is_some open_yet))

      by_fate : (e : Doing M) (before : List RunRecord) (run gone : RunRecord) (done : List (AskName × Asking)) → runs_in d ≡ before ++ run ∷ [] → run.ended ≡ None → gone.started ≡ run.started
          → part (origin + length before) run ≡ calls_for done → e.member.requests ≡ d.member.requests → e.effects ≡ d.effects → Pends d ⊎ HasGiven d → TurnsFirst before gone done e ⊎ TurnsThen before gone done e
      by_fate e before run gone done runs open_yet started last_part requests effects (inl w) =
          let P : RunRecord → Type 0 = λ r. is_early step r ≡ true in
          let all : AreEarly step (before ++ run ∷ []) = subst (AreEarly step) runs w.all_early in
          let here = All-last P before run all in
          let A = parts early origin before in
          inl (record {
            requests = requests ∙ w.requests;
            all_early = All-push P before gone (All-without_last P before run all) (ap (λ n. nat_lt n step) started ∙ here);
            effects = effects ∙ w.effects
                ∙ ap (λ l. old ++ l) (ap (parts early origin) runs ∙ parts-append early origin before run ∙ ap (λ b. A ++ (if b then part (origin + length before) run else [])) here ∙ ap (λ l. A ++ l) last_part);
          })
      by_fate e before run gone done runs open_yet started last_part requests effects (inr g) =
          let is_late = by_late (is_early step run) before run refl runs open_yet g.ended in
          let A = parts early origin before in
          let B = parts late origin before in
          let those : filter early (runs_in d) ≡ filter early before = ap (filter early) runs ∙ early_more step before run false is_late ∙ append-nil (filter early before) in
          let firsts : parts early origin (runs_in d) ≡ A =
          ap (parts early origin) runs ∙ parts-append early origin before run ∙ ap (λ b. A ++ (if b then part (origin + length before) run else [])) is_late ∙ append-nil A in
          let behind : parts late origin (runs_in d) ≡ B ++ calls_for done =
          ap (parts late origin) runs ∙ parts-append late origin before run ∙ ap (λ b. B ++ (if not b then part (origin + length before) run else [])) is_late ∙ ap (λ l. B ++ l) last_part in
          inr (record {
            requests = requests ∙ g.requests;
            reason = g.reason;
            is_late = ap (λ n. nat_lt n step) started ∙ is_late;
            ended = subst AreEnded those g.ended;
            effects = effects ∙ g.effects ∙ (λ j. old ++ ((firsts j ++ snapshots_behind (those j)) ++ behind j));
          })

  -- ---- snapshots are given

  is_left : (a b : Bool) → (a && b) ≡ true → a ≡ true
  is_left true b is = refl
  is_left false b is = is

  gives : (d : Doing M) → IsSoundNow declared turn first lawful d.member → is_idle d.member.performing.kept ≡ true → IsSame m d.member → Pends d ⊎ HasGiven d → Pends (with_given d) ⊎ HasGiven (with_given d)
  gives d sound idle same (inr g) =
      let kept = d.member.performing.kept in
      inr (record {
        requests = refl;
        reason = g.reason;
        ended = g.ended;
        effects = ap (λ l. d.effects ++ answers (snapshot_bytes kept.count kept.state) l) g.requests ∙ append-nil d.effects ∙ g.effects;
      })
  gives d sound idle same (inl w) =
      let kept = d.member.performing.kept in
      let b = behaves declared turn first lawful d in
      let rests = none_is_idle b d.member.performing.began kept sound.kept (none_from_test (open_ask kept) (and_right (is_active kept.phase) _ idle)) in
      let all : filter early kept.runs ≡ kept.runs = all_pass early kept.runs w.all_early in
      let count : kept.count ≡ count_after origin (length (filter early kept.runs)) =
      rests.count ∙ ap (λ n. count_after n (length kept.runs)) same.start ∙ ap (λ runs. count_after origin (length runs)) (sym all) in
      let state : kept.state ≡ state_after m.performing.began (filter early kept.runs) =
      rests.state ∙ ap (λ s. state_after s kept.runs) same.began ∙ ap (state_after m.performing.began) (sym all) in
      let A = parts early origin kept.runs in
      let S = snapshots_behind (filter early kept.runs) in
      inr (record {
        requests = refl;
        reason = inl (ap is_active (sym same.phase) ∙ is_left (is_active kept.phase) _ idle);
        ended = subst AreEnded (sym all) (λ k r below. ap is_some ((rests.runs k _ (slice_get-get_or kept.runs k r below)).ended_is));
        effects = (λ j. w.effects j ++ answers (snapshot_bytes (count j) (state j)) (w.requests j)) ∙ append_assoc old A S
            ∙ ap (λ l. old ++ l) (sym (append-nil (A ++ S)) ∙ ap (λ l. (A ++ S) ++ l) (sym (all_late kept.runs w.all_early)));
      })

  -- ---- all of it

  pub goes_keep : Keeps declared turn first lawful step Goes Turns
  goes_keep =
      let links = linked_keeps declared turn first lawful step in
      let stays = stays_keeps declared turn first lawful step m in
      record {
        gives = λ d sound idle h. (links.gives d sound idle h.0, stays.gives d sound idle h.1, h.2, gives d sound idle h.1 h.3);
        enters = λ d start sound may none h. (links.enters d start sound may none h.0, stays.enters d start sound may none h.1, h.2, enters d start sound may none h.3);
        answers = λ d reply sound value h. (links.answers d reply sound value h.0, stays.answers d reply sound value h.1, h.2, answers_on d reply sound value h.3);
        opens = λ d run ask view turned at is there h. (links.opens d run ask view turned at is there h.0, stays.opens d run ask view turned at is there h.1, h.2, opens d run ask view turned at is there h);
        ends = λ d run turned at none h. (
          links.ends d run turned at none h.0,
          stays.ends d run turned at none h.1,
          wait_ended m.gathered.held d.member.gathered (index_of_last d.member.performing.kept) (reply_of_run run) h.2,
          ends d run turned at none h,
        );
      }
