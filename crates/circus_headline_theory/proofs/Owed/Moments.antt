-- The state that is given is that of the first moment of a step at which the member is active and performs no run.
use Rattle.std.proofs.Common.{◌≡◌, ℕ, suc, ◌<◌, Bool, true, false, true≢false, ◌&&◌, ◌⊎◌, inl, inr, cond, List, [], ◌∷◌, ◌++◌, filter, length, All, None, refl, sym, ap, subst, ◌∙◌, arith, append-nil}
use Rattle.std.specs.Prelude.{nat_lt, nat_le, IfSome, is_some}
use Rattle.std.specs.List.{list_all}
use Rattle.std.specs.Option.{option_map_or}
use Rattle.std.proofs.lemmas.Bool.{le-ltb, lt-leb}
use Rattle.std.proofs.lemmas.List.Elements.{All-head, All-tail, All-push, filter-append}
use Rattle.std.proofs.lemmas.Option.{slice_get-get_or}
use Rattle.circus_value.specs.ValueTree.{ValueTree}
use Rattle.circus_value.specs.declared.caller.Caller.{Caller}
use Rattle.circus_value.specs.declared.outcome.Outcome.{Outcome}
use Rattle.circus_header.specs.declared.answer.Reply.{Reply}
use Rattle.circus_transfer.specs.Snapshot.{snapshot_bytes}
use Rattle.circus_model.specs.declared.signature.Signature.{Signature}
use Rattle.circus_model.specs.NextTurn.{NextTurn}
use Rattle.circus_model.specs.Behaviour.{IsModule}
use Rattle.circus_record.specs.declared.record.MemberRecord.{MemberRecord}
use Rattle.circus_record.specs.declared.record.RunRecord.{RunRecord}
use Rattle.circus_collate.specs.declared.view.View.{View}
use Rattle.circus_fanout.specs.Asking.{Asking, calls_for_a_view}
use Rattle.circus_member_rules.specs.declared.occurrence.AskName.{AskName}
use Rattle.circus_performing.specs.declared.start.RunStart.{RunStart}
use Rattle.circus_performing.specs.Performing.{is_active, open_ask, state_after, gone_on, begin_run, most_turns}
use Rattle.circus_performing.specs.Record.{behaviour, count_after, start_of, turns}
use Rattle.circus_performing.proofs.Records.{with_answer, answered_is}
use Rattle.circus_member_rules.specs.MemberState.{MemberState, Doing}
use Rattle.circus_member_rules.specs.Step.{is_idle, opened_by_view, ended_run, name_of_last, asking_begun}
use Rattle.circus_member_rules.specs.Seen.Sound.{MayStart}
use Rattle.circus_member_rules.proofs.Entering.{HasValue, with_entered, with_answered}
use Rattle.circus_member_rules.proofs.Starting.{IsSoundNow, and_right, none_from_test}
use Rattle.circus_member_rules.proofs.Writing.{one_is_performing, none_is_idle}
use Rattle.circus_world_theory.proofs.Border.Going.{with_given}
use Rattle.circus_member_theory.specs.Past.{Past, now}
use Rattle.circus_member_theory.specs.Made.{is_caller}
use Rattle.circus_member_theory.specs.Returns.{has_ended}
use Rattle.circus_headline_theory.proofs.Owed.Callers.{returned, is_from}
use Rattle.circus_headline_theory.proofs.Owed.Distinct.{All-without_last, All-last}
use Rattle.circus_headline_theory.proofs.Owed.Going.{behaves, Keeps}
use Rattle.circus_headline_theory.proofs.Owed.Grown.{EndsAt, HasGone, AreGrown, gone_started}
use Rattle.circus_headline_theory.proofs.Owed.Status.{IsWithin, AreWithin}
use Rattle.circus_headline_theory.proofs.Owed.Stays.{IsSame, stays_keeps}
use Rattle.circus_headline_theory.proofs.Owed.Waiting.{IsQuiet, quiet_keeps, quiet_opened, quiet_ended, more_snapshots, more_calls, more_replies, fewer_held}

-- ---- runs that were started before a step

abbrev pub is_early : ℕ → RunRecord → Bool
is_early step run = nat_lt run.started step

-- they are the same before a step, or some has not ended then
not_yet : (step : ℕ) (r : Past) (run : RunRecord) → now r < step → EndsAt step run → has_ended run r ≡ false
not_yet step r run before (inl none) = ap (λ o. option_map_or (λ s. nat_le s (now r)) o false) none
not_yet step r run before (inr some) = ap (λ o. option_map_or (λ s. nat_le s (now r)) o false) some ∙ lt-leb step (now r) before

abbrev pub IsSameThen : Past → List RunRecord → List RunRecord → Type 0
IsSameThen r xs ys = (xs ≡ ys) ⊎ ((list_all (λ run. has_ended run r) xs ≡ false) × (list_all (λ run. has_ended run r) ys ≡ false))

pub same_then : (step : ℕ) (r : Past) → now r < step → (old new : List RunRecord) → AreGrown step old new → IsSameThen r (filter (is_early (now r)) old) (filter (is_early (now r)) new)
same_then step r before [] [] grown = inl refl
same_then step r before [] (n ∷ new) grown = by_rest (same_then step r before [] new (λ k. grown (suc k)))
  where
    late : is_early (now r) n ≡ false
    late = let started = (grown 0).started in le-ltb n.started (now r) (omega (arith, started, before))

    by_rest : IsSameThen r [] (filter (is_early (now r)) new) → IsSameThen r [] (cond (is_early (now r) n) (n ∷ filter (is_early (now r)) new) (filter (is_early (now r)) new))
    by_rest (inl same) = inl (same ∙ sym (ap (λ b. cond b (n ∷ filter (is_early (now r)) new) (filter (is_early (now r)) new)) late))
    by_rest (inr ended) = absurd (true≢false ended.0)
same_then step r before (q ∷ old) [] grown = absurd (grown 0)
same_then step r before (q ∷ old) (n ∷ new) grown = by_head (grown 0) (same_then step r before old new (λ k. grown (suc k)))
  where
    both_false : (b : Bool) → (b && false) ≡ false
    both_false true = refl
    both_false false = refl

    by_head : (q ≡ n) ⊎ HasGone step q n → IsSameThen r (filter (is_early (now r)) old) (filter (is_early (now r)) new)
        → IsSameThen r (filter (is_early (now r)) (q ∷ old)) (filter (is_early (now r)) (n ∷ new))
    by_head (inl same) rest = subst (λ x. IsSameThen r (filter (is_early (now r)) (q ∷ old)) (filter (is_early (now r)) (x ∷ new))) same (by_test (is_early (now r) q) rest)
      where
        by_test : (b : Bool) → IsSameThen r (filter (is_early (now r)) old) (filter (is_early (now r)) new)
            → IsSameThen r (cond b (q ∷ filter (is_early (now r)) old) (filter (is_early (now r)) old)) (cond b (q ∷ filter (is_early (now r)) new) (filter (is_early (now r)) new))
        by_test true (inl eq) = inl (ap (λ l. q ∷ l) eq)
        by_test true (inr ended) = inr (ap (λ b. has_ended q r && b) ended.0 ∙ both_false (has_ended q r), ap (λ b. has_ended q r && b) ended.1 ∙ both_false (has_ended q r))
        by_test false rest = rest
    by_head (inr gone) rest =
        subst (λ b. IsSameThen r (filter (is_early (now r)) (q ∷ old)) (cond b (n ∷ filter (is_early (now r)) new) (filter (is_early (now r)) new))) (ap (λ s. nat_lt s (now r)) (sym gone.started))
        (by_test (is_early (now r) q))
      where
        by_test : (b : Bool) → IsSameThen r (cond b (q ∷ filter (is_early (now r)) old) (filter (is_early (now r)) old)) (cond b (n ∷ filter (is_early (now r)) new) (filter (is_early (now r)) new))
        by_test true =
            inr (
              ap (λ b. b && list_all (λ run. has_ended run r) (filter (is_early (now r)) old)) (not_yet step r q before (inl gone.was_open)),
              ap (λ b. b && list_all (λ run. has_ended run r) (filter (is_early (now r)) new)) (not_yet step r n before gone.ends),
            )
        by_test false = rest

-- ---- all runs

pub within_all : (at : ℕ) (runs : List RunRecord) → AreWithin at runs → All (IsWithin at) runs
within_all at runs h = λ k x below. subst (λ o. IfSome o (IsWithin at)) (slice_get-get_or runs k x below) (h k)

abbrev pub AreEarly : ℕ → List RunRecord → Type 0
AreEarly step runs = All (λ (run : RunRecord). is_early step run ≡ true) runs

abbrev pub AreEnded : List RunRecord → Type 0
AreEnded runs = All (λ (run : RunRecord). is_some run.ended ≡ true) runs

pub all_pass : {X : Type 0} (p : X → Bool) (xs : List X) → All (λ x. p x ≡ true) xs → filter p xs ≡ xs
all_pass {X} p [] all = refl
all_pass {X} p (x ∷ xs) all =
    let P : X → Type 0 = λ y. p y ≡ true in
    ap (λ b. cond b (x ∷ filter p xs) (filter p xs)) (All-head P x xs all) ∙ ap (λ l. x ∷ l) (all_pass p xs (All-tail P x xs all))

-- of those before another run
early_with : (step : ℕ) (before : List RunRecord) (run : RunRecord) (b : Bool) → is_early step run ≡ b → filter (is_early step) (before ++ run ∷ []) ≡ filter (is_early step) before ++ cond b (run ∷ []) []
early_with step before run b is = filter-append (is_early step) before (run ∷ []) ∙ ap (λ t. filter (is_early step) before ++ cond t (run ∷ []) []) is

is_left : (a b : Bool) → (a && b) ≡ true → a ≡ true
is_left true b is = refl
is_left false b is = is

module _ {M : Type 0} (c x : Caller) (declared : M → Signature) (turn : M → List ValueTree → ℕ → List ValueTree → List Outcome → NextTurn) (first : M → List ValueTree) (lawful : (hosted : M) → IsModule (behaviour declared turn first hosted)) (step : ℕ) (m : MemberState M) where
  abbrev pub early_in : Doing M → List RunRecord
  early_in d = filter (is_early step) d.member.performing.kept.runs

  -- the request waits: there was no such moment, and no run was started
  pub record Pends (d : Doing M) : Type 0 where
    pub returns : returned c d.effects ≡ []
    pub held : filter (is_from c) d.member.gathered.held ≡ []
    pub requests : filter (is_caller c) d.member.requests ≡ x ∷ []
    pub early : AreEarly step d.member.performing.kept.runs

  -- the state was given at that moment, behind the runs that were started before the step
  pub record IsGiven (d : Doing M) : Type 0 where
    pub active : is_active m.performing.kept.phase ≡ true
    pub quiet : IsQuiet c (snapshot_bytes (count_after m.performing.kept.from (length (early_in d))) (state_after m.performing.began (early_in d)) ∷ []) d
    pub ended : AreEnded (early_in d)

  abbrev pub Fate : Doing M → Type 0
  Fate d = IsSame m d.member × (Pends d ⊎ IsGiven d)

  -- where the runs that were started before are the same
  given_with : (d e : Doing M) → early_in e ≡ early_in d → ((old : List (List ℕ)) → IsQuiet c old d → IsQuiet c old e) → IsGiven d → IsGiven e
  given_with d e same quiet g =
      record {
        active = g.active;
        quiet = subst (λ runs. IsQuiet c (snapshot_bytes (count_after m.performing.kept.from (length runs)) (state_after m.performing.began runs) ∷ []) e) (sym same) (quiet (snapshot_bytes (count_after m.performing.kept.from (length (early_in d))) (state_after m.performing.began (early_in d)) ∷ []) g.quiet);
        ended = subst AreEnded (sym same) g.ended;
      }

  gives : (d : Doing M) → IsSoundNow declared turn first lawful d.member → is_idle d.member.performing.kept ≡ true → IsSame m d.member → Pends d ⊎ IsGiven d → Pends (with_given d) ⊎ IsGiven (with_given d)
  gives d sound idle same (inr g) = inr (given_with d (with_given d) refl (λ old. (quiet_keeps c declared turn first lawful step old).gives d sound idle) g)
  gives d sound idle same (inl w) =
      let kept = d.member.performing.kept in
      let b = behaves declared turn first lawful d in
      let rests = none_is_idle b d.member.performing.began kept sound.kept (none_from_test (open_ask kept) (and_right (is_active kept.phase) _ idle)) in
      let all : filter (is_early step) kept.runs ≡ kept.runs = all_pass (is_early step) kept.runs w.early in
      let count : kept.count ≡ count_after m.performing.kept.from (length (early_in d)) =
      rests.count ∙ ap (λ n. count_after n (length kept.runs)) same.start ∙ ap (λ runs. count_after m.performing.kept.from (length runs)) (sym all) in
      let state : kept.state ≡ state_after m.performing.began (early_in d) =
      rests.state ∙ ap (λ s. state_after s kept.runs) same.began ∙ ap (state_after m.performing.began) (sym all) in
      inr (record {
        active = ap is_active (sym same.phase) ∙ is_left (is_active kept.phase) _ idle;
        quiet = record {
          returns = more_snapshots c d (x ∷ []) w.requests ∙ ap (λ l. l ++ snapshot_bytes kept.count kept.state ∷ []) w.returns
              ∙ ap (λ n. snapshot_bytes n kept.state ∷ []) count ∙ ap (λ s. snapshot_bytes (count_after m.performing.kept.from (length (early_in d))) s ∷ []) state;
          held = w.held;
          requests = refl;
        };
        ended = subst AreEnded (sym all) (λ k r below. ap is_some ((rests.runs k _ (slice_get-get_or kept.runs k r below)).ended_is));
      })

  enters : (d : Doing M) (start : RunStart) → IsSoundNow declared turn first lawful d.member → MayStart (declared d.member.performing.hosted) d.member start → d.member.requests ≡ [] → Pends d ⊎ IsGiven d
      → let e : Doing M = record d { member = with_entered (behaves declared turn first lawful d) (lawful d.member.performing.hosted) d.member step start } in Pends e ⊎ IsGiven e
  enters d start sound may none (inl w) = absurd (not_there (sym (ap (filter (is_caller c)) none) ∙ w.requests))
    where
      not_there : [] ≡ x ∷ [] → ⊥
      not_there is = cc
  enters d start sound may none (inr g) =
      let kept = d.member.performing.kept in
      let t = turn d.member.performing.hosted kept.state start.procedure start.arguments in
      let gone = gone_on step t most_turns (begin_run step start) in
      let started : gone.started ≡ step = gone_started step t most_turns (begin_run step start) in
      let e : Doing M = record d { member = with_entered (behaves declared turn first lawful d) (lawful d.member.performing.hosted) d.member step start } in
      inr (given_with d e (early_with step kept.runs gone false (le-ltb gone.started step (omega (arith, started))) ∙ append-nil (early_in d))
      (λ old. (quiet_keeps c declared turn first lawful step old).enters d start sound may none) g)

  answers : (d : Doing M) (reply : Reply) → IsSoundNow declared turn first lawful d.member → HasValue (behaves declared turn first lawful d) d.member reply → Pends d ⊎ IsGiven d
      → let e : Doing M = record d { member = with_answered (behaves declared turn first lawful d) (lawful d.member.performing.hosted) d.member step reply } in Pends e ⊎ IsGiven e
  answers d reply sound value h = by_fate h
    where
      by_fate : Pends d ⊎ IsGiven d → let e : Doing M = record d { member = with_answered (behaves declared turn first lawful d) (lawful d.member.performing.hosted) d.member step reply } in Pends e ⊎ IsGiven e
      by_fate (inl w) =
          let b = behaves declared turn first lawful d in
          let law = lawful d.member.performing.hosted in
          let began = d.member.performing.began in
          let k = d.member.performing.kept in
          let p = one_is_performing b began k sound.kept value.ask value.is_open in
          let made = with_answer b law began k p step reply.outcome reply.clock in
          let t = turns b (state_after began p.before) (start_of p.run) in
          let gone = gone_on step t most_turns made in
          let early : AreEarly step (p.before ++ p.run ∷ []) = subst (AreEarly step) p.runs_are w.early in
          let P : RunRecord → Type 0 = λ run. is_early step run ≡ true in
          inl (record {
            returns = w.returns;
            held = w.held;
            requests = w.requests;
            early = subst (λ (r : MemberRecord). AreEarly step r.runs) (sym (answered_is b law began k p step reply.outcome reply.clock))
                (All-push P p.before gone (All-without_last P p.before p.run early) (ap (λ n. nat_lt n step) (gone_started step t most_turns made) ∙ All-last P p.before p.run early));
          })
      by_fate (inr g) =
          let b = behaves declared turn first lawful d in
          let law = lawful d.member.performing.hosted in
          let began = d.member.performing.began in
          let k = d.member.performing.kept in
          let p = one_is_performing b began k sound.kept value.ask value.is_open in
          let made = with_answer b law began k p step reply.outcome reply.clock in
          let t = turns b (state_after began p.before) (start_of p.run) in
          let gone = gone_on step t most_turns made in
          let e : Doing M = record d { member = with_answered b law d.member step reply } in
          let late : is_early step p.run ≡ false = by_late (is_early step p.run) p.before p.run refl p.runs_are p.waiting.not_ended g.ended in
          let was : early_in d ≡ filter (is_early step) p.before ++ [] = ap (filter (is_early step)) p.runs_are ∙ early_with step p.before p.run false late in
          let after_it : early_in e ≡ filter (is_early step) p.before ++ [] =
          ap (λ (r : MemberRecord). filter (is_early step) r.runs) (answered_is b law began k p step reply.outcome reply.clock)
          ∙ early_with step p.before gone false (ap (λ n. nat_lt n step) (gone_started step t most_turns made) ∙ late) in
          inr (given_with d e (after_it ∙ sym was) (λ old. (quiet_keeps c declared turn first lawful step old).answers d reply sound value) g)
        where
          -- the run that is open was started in this step
          by_late : (t : Bool) (before : List RunRecord) (run : RunRecord) → is_early step run ≡ t → d.member.performing.kept.runs ≡ before ++ run ∷ [] → run.ended ≡ None → AreEnded (early_in d) → is_early step run ≡ false
          by_late false before run is runs still_open ended = is
          by_late true before run is runs still_open ended =
              let last = All-last (λ (r : RunRecord). is_some r.ended ≡ true) (filter (is_early step) before) run (subst AreEnded (ap (filter (is_early step)) runs ∙ early_with step before run true is) ended) in
              absurd (true≢false (sym last ∙ ap is_some still_open))

  pub fate_keeps : Keeps declared turn first lawful step Fate Fate
  fate_keeps =
      let stays = stays_keeps declared turn first lawful step m in
      record {
        gives = λ d sound idle h. (stays.gives d sound idle h.0, gives d sound idle h.0 h.1);
        enters = λ d start sound may none h. (stays.enters d start sound may none h.0, enters d start sound may none h.1);
        answers = λ d reply sound value h. (stays.answers d reply sound value h.0, answers d reply sound value h.1);
        opens = λ d run ask view turned at is there h. (stays.opens d run ask view turned at is there h.0, opens d (name_of_last d.member.performing.kept) (asking_begun d.member.place d.member.performing.kept run ask) view h.1);
        ends = λ d run turned at none h. (stays.ends d run turned at none h.0, ends d run h.1);
      }
    where
      opens : (d : Doing M) (name : AskName) (a : Asking) (view : View) → Pends d ⊎ IsGiven d → Pends (opened_by_view d name a view) ⊎ IsGiven (opened_by_view d name a view)
      opens d name a view (inl w) =
          inl (record { returns = more_calls c d name a (calls_for_a_view view d.member.known.down []) ∙ w.returns; held = w.held; requests = w.requests; early = w.early })
      opens d name a view (inr g) = inr (given_with d (opened_by_view d name a view) refl (λ old quiet. quiet_opened c declared turn first lawful step old d name a view quiet) g)

      ends : (d : Doing M) (run : RunRecord) → Pends d ⊎ IsGiven d → Pends (ended_run d run) ⊎ IsGiven (ended_run d run)
      ends d run (inl w) =
          inl (record { returns = more_replies c d run [] w.held ∙ append-nil (returned c d.effects) ∙ w.returns; held = fewer_held c d run [] w.held; requests = w.requests; early = w.early })
      ends d run (inr g) = inr (given_with d (ended_run d run) refl (λ old quiet. quiet_ended c declared turn first lawful step old d run quiet) g)
