-- The order of what is made in a step. What came is answered first, and then the run that was open
-- goes on; once the member is idle the snapshots are given, and the next runs are performed. The
-- Lookups come last.
use Rattle.std.specs.Prelude.{◌≡◌, ℕ, ◌+◌, Bool, false, not, ◌&&◌, nat_eq, nat_lt, if◌then◌else◌, List, [], ◌∷◌, ◌++◌, filter, Option}
use Rattle.std.specs.List.{flat_map}
use Rattle.std.specs.Option.{option_map_or}
use Rattle.circus_value.specs.ValueTree.{ValueTree}
use Rattle.circus_value.specs.declared.caller.Caller.{Caller}
use Rattle.circus_collate.specs.declared.view.View.{View}
use Rattle.circus_transfer.specs.declared.joiner.Joiner.{Joiner}
use Rattle.circus_record.specs.declared.record.MemberRecord.{MemberRecord}
use Rattle.circus_record.specs.declared.record.RunRecord.{RunRecord}
use Rattle.circus_gather.specs.Gathering.{index_of, is_of_index}
use Rattle.circus_gather.specs.declared.held.HeldCall.{HeldCall}
use Rattle.circus_member_rules.specs.declared.place.Place.{Place}
use Rattle.circus_member_rules.specs.declared.occurrence.Effect.{Effect}
use Rattle.circus_member_rules.specs.declared.occurrence.Occurrence.{Occurrence}
use Rattle.circus_member_rules.specs.Rules.{answer}
use Rattle.circus_member_theory.specs.Past.{Past, followed, now}
use Rattle.circus_member_theory.specs.Asks.{is_new, asks_from, knows, first_calls, calls_behind, open_asks}
use Rattle.circus_member_theory.specs.Made.{asks, requests}
use Rattle.circus_member_theory.specs.Requests.{for_what_came, lookups}
use Rattle.circus_member_theory.specs.Returns.{run_of, is_stale, is_before, return_owed}
use Rattle.circus_member_theory.specs.Snapshots.{snapshot_owed}

-- the return to a caller that is owed it in the last step of a past
abbrev pub if_now : Past → Caller → Option (ℕ × List ℕ) → List Effect
if_now p caller owed =
    option_map_or
    (λ (given : ℕ × List ℕ). if nat_eq given.0 (now p) then answer given.1 caller ∷ [] else [])
    owed []

-- of a member that stands here, with these views, in this phase and with this state at boot, by its
-- record in the end: what it makes in the last step of a past
module _ (place : Place) (boot : List View) (begins : Joiner) (first : List ValueTree)
    (kept : MemberRecord) where
  -- of what came, behind what had come before: calls of asks, and then the other calls
  abbrev pub calls_of_what_came : Past → Past → List Effect
  calls_of_what_came before p =
      calls_behind place boot p (open_asks place boot kept before)
      ++ for_what_came place boot begins p

  -- ---- returns

  -- the run of an index ends
  abbrev pub ends_now : Past → ℕ → Bool
  ends_now p index =
      option_map_or (λ (run : RunRecord). option_map_or (nat_eq (now p)) run.ended false)
      (run_of kept index) false

  -- a call gets the reply of its run as that ends
  abbrev pub is_answered_by_end : Past → ℕ × HeldCall → Bool
  is_answered_by_end p e =
      not (is_stale place.troupe begins kept e.0 e.1 p)
      && not (is_before place.troupe begins kept e.1 p)
      && ends_now p (index_of place.troupe e.1.header)

  -- the returns that are owed now to the calls that pass a test, in order of arrival
  abbrev pub returns_now : Past → (ℕ × HeldCall → Bool) → List Effect
  returns_now p test =
      flat_map
      (λ (e : ℕ × HeldCall).
      if_now p e.1.sender (return_owed place.troupe begins kept e.0 e.1 p))
      (filter test (asks p))

  -- those for which no run ends
  abbrev pub returns_at_once : Past → List Effect
  returns_at_once p = returns_now p (λ e. not (is_answered_by_end p e))

  -- ---- what the execution makes

  -- of the run of an index: the calls of the asks that it makes, and the returns as it ends
  abbrev pub made_by_run : Past → ℕ → RunRecord → List Effect
  made_by_run p index run =
      flat_map (first_calls place boot (knows place boot p))
      (asks_from place (is_new p) index run.root run.path 0 run.entry run.asks)
      ++ returns_now p (λ e. is_answered_by_end p e && is_of_index place.troupe index e.1)

  -- of the runs that pass a test, the first of this index
  abbrev pub made_by_runs : (RunRecord → Bool) → Past → ℕ → List RunRecord → List Effect
  made_by_runs test p index [] = []
  made_by_runs test p index (run ∷ runs) =
      (if test run then made_by_run p index run else [])
      ++ made_by_runs test p (index + 1) runs

  -- the snapshots that are owed now, in order of arrival
  abbrev pub snapshots_now : Past → List Effect
  snapshots_now p =
      flat_map
      (λ (e : ℕ × Caller). if_now p e.1 (snapshot_owed begins first kept e.0 p))
      (requests p)

  -- the run that was started before goes on, then snapshots are given, and others are started
  abbrev pub executed_then : Past → List Effect
  executed_then p =
      (made_by_runs (λ run. nat_lt run.started (now p)) p kept.from kept.runs ++ snapshots_now p)
      ++ made_by_runs (λ run. not (nat_lt run.started (now p))) p kept.from kept.runs

  -- ---- all of it

  abbrev pub made_in_step : Past → Past → List Effect
  made_in_step before p =
      ((calls_of_what_came before p ++ returns_at_once p) ++ executed_then p)
      ++ lookups place boot begins kept p

  -- what was made in a step behind a past, in which this came, stands in this order
  abbrev pub IsInOrder : Past → ℕ → Occurrence → List Effect → Type 0
  IsInOrder before step o effects = effects ≡ made_in_step before (followed before step o)
