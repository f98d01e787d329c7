-- The end of a step: states are given where no run is under way, asks that are settled are closed, and views looked up.
use Rattle.std.proofs.Common.{◌≡◌, ℕ, ◌+◌, ◌<◌, ◌≤◌, ◌⊎◌, inl, inr, Bool, true, false, ◌&&◌, if◌then◌else◌, List, [], ◌++◌, length, map, take, Option, None, Some, option_map, refl, sym, ap, ◌∙◌, arith, length-take-le}
use Rattle.std.specs.Prelude.{slice_get, nat_le, is_none, IfSome}
use Rattle.std.proofs.lemmas.Bool.{ltb-true}
use Rattle.std.proofs.lemmas.Bool.Decides.{leb_tells}
use Rattle.circus_value.specs.ValueTree.{ValueTree}
use Rattle.circus_value.specs.declared.caller.Caller.{Caller}
use Rattle.circus_collate.specs.declared.view.View.{View}
use Rattle.circus_transfer.specs.Snapshot.{snapshot_bytes}
use Rattle.circus_transfer.specs.declared.joiner.Joiner.{Joiner}
use Rattle.circus_model.specs.declared.signature.ProcedureShape.{ProcedureShape}
use Rattle.circus_record.specs.declared.record.MemberRecord.{MemberRecord}
use Rattle.circus_record.specs.declared.record.RunRecord.{RunRecord}
use Rattle.circus_fanout.specs.Asking.{Asking}
use Rattle.circus_performing.specs.Performing.{is_active, state_after}
use Rattle.circus_performing.specs.Record.{count_after}
use Rattle.circus_member_rules.specs.declared.place.Place.{Place}
use Rattle.circus_member_rules.specs.declared.occurrence.AskName.{AskName}
use Rattle.circus_member_rules.specs.declared.occurrence.Occurrence.{Occurrence}
use Rattle.circus_member_rules.specs.OpenAsks.{is_waiting}
use Rattle.circus_member_rules.specs.Rules.{answers, close_asks}
use Rattle.circus_member_rules.specs.Rules as rules
use Rattle.circus_member_theory.specs.Past.{Past, Rises, followed, now, phase}
use Rattle.circus_member_theory.specs.Asks.{new_asks, open_asks}
use Rattle.circus_member_theory.specs.Order.{snapshots_now}
use Rattle.circus_member_theory.specs.Requests.{lookups}
use Rattle.circus_member_theory.specs.Returns.{first_of, has_ended}
use Rattle.circus_member_theory.specs.Snapshots.{began, runs_before}
use Rattle.circus_dues.specs.Calls.{NoneBetween, IsKeptOf, is_index, request_in, ungiven, has_moment, snapshot_now}
use Rattle.circus_dues.specs.Dues.{HasComeTo, IsDuesOf}
use Rattle.circus_dues.specs.Walk.{IsBy, IsLater, RunOneByOne}
use Rattle.circus_dues.specs.Seen.Owing.{is_idle, given_states, states_given, waiting, concluded}
use Rattle.circus_dues.specs.declared.owing.Owing.{Owing}
use Rattle.circus_dues.proofs.CallsMoments.{moment_at_rest, no_moment, before_are}
use Rattle.circus_dues.proofs.CallsPassing.{kept_at_last}
use Rattle.circus_dues.proofs.CallsStates.{snapshots_are, ungiven_then}
use Rattle.circus_dues.proofs.OneByOne.{alone_of}
use Rattle.circus_dues.proofs.OutClosing.{all_closed}
use Rattle.circus_dues.proofs.OutKnown.{lookups_are, knows_then}
use Rattle.circus_dues.proofs.Stages.{IsAmid}
use Rattle.circus_dues.proofs.StepReached.{ended_so, goes_on, none_ends, opens_so, waits_so}

-- ---- what is given keeps the rest

module _ (place : Place) (boot : List View) (begins : Joiner) (first : List ValueTree) (procedures : List ProcedureShape) (at_boot : ℕ) (kept : MemberRecord) (p : Past) (at : ℕ) (o : Occurrence) where
  pub amid_given : (new : List (AskName × Asking)) (opened : Option ℕ) (d : Owing) → IsAmid place boot begins first procedures at_boot kept p at o new opened d
      → IsAmid place boot begins first procedures at_boot kept p at o new opened (given_states d)
  amid_given new opened d a = by_test (is_idle d)
    where
      by_test : (b : Bool) → IsAmid place boot begins first procedures at_boot kept p at o new opened (if b then record d { calls = record d.calls { requests = [] } } else d)
      by_test true = record { known = a.known; asks = a.asks; calls = a.calls; opens = a.opens; phase_is = a.phase_is; began_is = a.began_is }
      by_test false = a

module _ (place : Place) (boot : List View) (begins : Joiner) (first : List ValueTree) (kept : MemberRecord) (p : Past) (at : ℕ) (o : Occurrence) (rises : Rises p) (later : now p < at) (order : RunOneByOne 0 kept.runs) where
  abbrev q : Past
  q = followed p at o

  -- ---- states

  abbrev senders : List Caller
  senders = map (λ (e : ℕ × Caller). e.1) (ungiven begins first kept p ++ request_in at o)

  module _ (d : Owing) (requests : d.calls.requests ≡ senders) (phase_is : d.phase ≡ phase begins q) (began_is : d.began ≡ began begins first q) where
    -- what is given, and who still waits, where there is a moment for it or not
    abbrev StatesAreGiven : Type 0
    StatesAreGiven =
        (states_given kept d ≡ snapshots_now place boot begins first kept q)
        × ((given_states d).calls.requests ≡ map (λ (e : ℕ × Caller). e.1) (ungiven begins first kept q))

    left_by_test : (b : Bool) → (if b then record d { calls = record d.calls { requests = [] } } else d).calls.requests ≡ (if b then [] else d.calls.requests)
    left_by_test true = refl
    left_by_test false = refl

    left_of_all : (b : Bool) → map (λ (e : ℕ × Caller). e.1) (if b then [] else ungiven begins first kept p ++ request_in at o) ≡ (if b then [] else senders)
    left_of_all true = refl
    left_of_all false = refl

    left_so : is_idle d ≡ has_moment begins kept q → (given_states d).calls.requests ≡ map (λ (e : ℕ × Caller). e.1) (ungiven begins first kept q)
    left_so idle =
        left_by_test (is_idle d)
        ∙ (λ j. if idle j then [] else requests j)
        ∙ sym (ap (map (λ (e : ℕ × Caller). e.1)) (ungiven_then place boot begins first kept p at o rises later) ∙ left_of_all (has_moment begins kept q))

    -- where no run is under way, and these were passed
    module _ (k : ℕ) (walk : d.walk ≡ record { ended = k; asked = None }) (few : k ≤ length kept.runs)
        (passed : (m : ℕ) (run : RunRecord) → m < k → slice_get kept.runs m ≡ Some run → (run.started < at) × IsBy at run.ended)
        (next : (m : ℕ) (run : RunRecord) → k ≤ m → slice_get kept.runs m ≡ Some run → at ≤ run.started)
        (from_is : is_active (phase begins q) ≡ true → kept.from ≡ first_of (phase begins q)) where
      moment : has_moment begins kept q ≡ is_active (phase begins q)
      moment = moment_at_rest begins kept q (λ m run is early. by_tell m run is (ltb-true run.started at early) (leb_tells k m))
        where
          by_tell : (m : ℕ) (run : RunRecord) → slice_get kept.runs m ≡ Some run → run.started < at → ((nat_le k m ≡ true) × (k ≤ m)) ⊎ ((nat_le k m ≡ false) × (m < k)) → has_ended run q ≡ true
          by_tell m run is early (inl up) = (let late = next m run up.1 is in absurd (omega (arith, early, late)))
          by_tell m run is early (inr below) = ended_so q run ((passed m run below.1 is).1)

      runs_are : runs_before kept q ≡ take k kept.runs
      runs_are = before_are begins kept q (alone_of kept order) k (λ m run below is. (passed m run below is).0) (by_next (slice_get kept.runs k) refl)
        where
          by_next : (found : Option RunRecord) → slice_get kept.runs k ≡ found → IfSome found (λ (run : RunRecord). at ≤ run.started)
          by_next None is = tt
          by_next (Some run) is = next k run (omega arith) is

      it_is : is_active (phase begins q) ≡ true → snapshot_now begins first kept q ≡ snapshot_bytes (count_after kept.from k) (state_after (began begins first q) (take k kept.runs))
      it_is active =
          (λ j. snapshot_bytes (count_after (sym (from_is active) j) (length (runs_are j))) (state_after (began begins first q) (runs_are j)))
          ∙ ap (λ n. snapshot_bytes (count_after kept.from n) (state_after (began begins first q) (take k kept.runs))) (length-take-le k kept.runs few)

      idle_so : is_idle d ≡ has_moment begins kept q
      idle_so = (λ j. is_active (phase_is j) && is_none ((walk j).asked)) ∙ and_true (is_active (phase begins q)) ∙ sym moment
        where
          and_true : (b : Bool) → (b && true) ≡ b
          and_true true = refl
          and_true false = refl

      pub given_at_rest : StatesAreGiven
      given_at_rest = (
        (λ j. if idle_so j then answers (snapshot_bytes (count_after kept.from ((walk j).ended)) (state_after (began_is j) (take ((walk j).ended) kept.runs))) (requests j) else [])
            ∙ ap (λ b. if b then answers (snapshot_bytes (count_after kept.from k) (state_after (began begins first q) (take k kept.runs))) senders else []) moment
            ∙ by_active (is_active (phase begins q)) refl
            ∙ ap (λ b. if b then answers (snapshot_now begins first kept q) senders else []) (sym moment)
            ∙ sym (snapshots_are place boot begins first kept p at o rises later),
        left_so idle_so,
      )
        where
          by_active : (b : Bool) → is_active (phase begins q) ≡ b
              → (if b then answers (snapshot_bytes (count_after kept.from k) (state_after (began begins first q) (take k kept.runs))) senders else [])
              ≡ (if b then answers (snapshot_now begins first kept q) senders else [])
          by_active true active = ap (λ bytes. answers bytes senders) (sym (it_is active))
          by_active false active = refl

    -- where one is
    module _ (number count : ℕ) (walk : d.walk ≡ record { ended = number; asked = Some count }) (run : RunRecord) (there : slice_get kept.runs number ≡ Some run) (started : run.started < at) (goes : IsLater at run.ended) where
      no_moment_so : has_moment begins kept q ≡ false
      no_moment_so = no_moment begins kept q number run there started (goes_on q run goes)

      busy_so : is_idle d ≡ has_moment begins kept q
      busy_so = (λ j. is_active d.phase && is_none ((walk j).asked)) ∙ and_false (is_active d.phase) ∙ sym no_moment_so
        where
          and_false : (b : Bool) → (b && false) ≡ false
          and_false true = refl
          and_false false = refl

      pub none_given : StatesAreGiven
      none_given = (
        ap (λ b. if b then answers (snapshot_bytes (count_after kept.from d.walk.ended) (state_after d.began (take d.walk.ended kept.runs))) d.calls.requests else []) (busy_so ∙ no_moment_so)
            ∙ ap (λ b. if b then answers (snapshot_now begins first kept q) senders else []) (sym no_moment_so)
            ∙ sym (snapshots_are place boot begins first kept p at o rises later),
        left_so busy_so,
      )

  -- ---- the end

  module _ (procedures : List ProcedureShape) (at_boot : ℕ) (few : kept.from + length kept.runs ≤ 4294967296) (between : NoneBetween kept (now p) at) (d : Owing) (comes : HasComeTo kept q d.walk)
      (opened : Option ℕ) (amid : IsAmid place boot begins first procedures at_boot kept p at o (new_asks place boot kept q) opened d) (open_is : opened ≡ option_map (λ _. kept.from + d.walk.ended) d.walk.asked) where
    asks_so : (concluded kept d).out.asks ≡ open_asks place boot kept q
    asks_so =
        ap (close_asks d.out.known (is_waiting (waiting kept d))) amid.asks
        ∙ sym (all_closed place boot kept p at o d.out.known amid.known.seen (waiting kept d) (waits_so kept q order d.walk comes place boot few))

    calls_so : IsKeptOf place.troupe begins kept q d.calls.gathered
    calls_so =
        kept_at_last place boot begins first kept p at o rises later between d.walk.ended d.calls.gathered amid.calls (none_ends kept q order d.walk comes)
        (λ n. ap (λ open_run. is_index open_run n) (amid.opens ∙ open_is) ∙ opens_so kept q order d.walk comes n)

    -- the Lookups that are made
    pub looked_up : rules.lookups d.out.known ≡ lookups place boot begins kept q
    looked_up = sym (lookups_are place boot begins kept p at o d.out.known amid.known)

    -- what is kept then
    pub closes : d.calls.requests ≡ map (λ (e : ℕ × Caller). e.1) (ungiven begins first kept q) → IsDuesOf place boot begins first kept q (concluded kept d)
    closes requests =
        record {
          known = knows_then place boot begins kept p at o d.out.known amid.known;
          asks = asks_so;
          calls = calls_so;
          requests = requests;
          phase_is = amid.phase_is;
          began_is = amid.began_is;
          comes_to = comes;
        }
