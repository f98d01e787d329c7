-- What the record says of a call's run is what is kept of it; and it says the same of what was, once it has grown.
use Rattle.std.proofs.Common.{◌≡◌, ℕ, zero, suc, ◌+◌, ◌-◌, ◌<◌, ◌≤◌, ◌≢◌, Bool, true, false, ◌&&◌, ◌||◌, ◌⊎◌, inl, inr, not, if◌then◌else◌, List, [], ◌∷◌, ◌++◌, length, Option, Some, None, refl, sym, ap, subst, ◌∙◌, arith}
use Rattle.std.specs.Prelude.{slice_get, nat_eq, nat_lt, nat_le, IfSome, option_map, option_and_then}
use Rattle.std.specs.Option.{option_map_or}
use Rattle.std.specs.Map.{lookup}
use Rattle.std.proofs.lemmas.Bool.{ltb-true, ltb-false, lt-ltb, le-ltb, le-leb, lt-leb, eq-eqb, ne_eqb}
use Rattle.std.proofs.lemmas.Bool.Decides.{eqb_tells}
use Rattle.std.proofs.lemmas.Option.{same_Some, slice_get_past}
use Rattle.circus_value.specs.ValueTree.{ValueTree}
use Rattle.circus_transfer.specs.declared.joiner.Joiner.{Joiner}
use Rattle.circus_model.specs.Behaviour.{Behaviour}
use Rattle.circus_model.proofs.Lookups.{at_end}
use Rattle.circus_record.specs.declared.record.MemberRecord.{MemberRecord}
use Rattle.circus_record.specs.declared.record.RunRecord.{RunRecord}
use Rattle.circus_gather.specs.Gathering.{Gathered, index_of, reply_of, is_of_run}
use Rattle.circus_gather.specs.declared.held.HeldCall.{HeldCall}
use Rattle.circus_performing.specs.Performing.{front_of}
use Rattle.circus_performing.specs.Record.{IsRecord}
use Rattle.circus_performing.proofs.Ends.{front_more}
use Rattle.circus_performing.proofs.Records.{none_is_some}
use Rattle.circus_member_rules.specs.Messages.{reply_message, stale_message, before_message}
use Rattle.circus_member_rules.specs.Step.{reply_of_run}
use Rattle.circus_member_rules.proofs.Writing.{one_is_performing, none_is_idle}
use Rattle.circus_member_theory.specs.Past.{Past, now, required_incarnation, phase}
use Rattle.circus_member_theory.specs.Returns.{first_of, run_of, was_started, has_ended, is_stale, is_before, reply_by, return_at}
use Rattle.circus_headline_theory.proofs.Owed.Grown.{EndsAt, Grown, AreGrown}
use Rattle.circus_headline_theory.proofs.Owed.Links.{numbered, lookup_numbered, lookup_below, IsLinked}

-- each run was started, and has ended, by a step
abbrev pub IsWithin : ℕ → RunRecord → Type 0
IsWithin at run = (run.started ≤ at) × IfSome run.ended (λ step. step ≤ at)

abbrev pub AreWithin : ℕ → List RunRecord → Type 0
AreWithin at runs = (n : ℕ) → IfSome (slice_get runs n) (IsWithin at)

ends_within : (step : ℕ) (o : Option ℕ) → (o ≡ None) ⊎ (o ≡ Some step) → IfSome o (λ s. s ≤ step)
ends_within step o (inl none) = subst (λ x. IfSome x (λ s. s ≤ step)) (sym none) tt
ends_within step o (inr some) = subst (λ x. IfSome x (λ s. s ≤ step)) (sym some) (omega arith)

later_within : (at step : ℕ) (o : Option ℕ) → at ≤ step → IfSome o (λ s. s ≤ at) → IfSome o (λ s. s ≤ step)
later_within at step None below h = tt
later_within at step (Some s) below h = omega (arith, below, h)

pub within_grown : (at step : ℕ) (old new : List RunRecord) → at ≤ step → AreGrown step old new → AreWithin at old → AreWithin step new
within_grown at step old new below grown h n = by_runs (slice_get old n) (slice_get new n) (grown n) (h n)
  where
    by_runs : (o p : Option RunRecord) → Grown step o p → IfSome o (IsWithin at) → IfSome p (IsWithin step)
    by_runs None None g w = tt
    by_runs None (Some r) g w = let started = g.started in (omega (arith, started), ends_within step r.ended g.ends)
    by_runs (Some q) None g w = absurd g
    by_runs (Some q) (Some r) (inl same) w =
        let here : IsWithin at r = subst (IsWithin at) same w in
        let started = here.0 in
        (omega (arith, started, below), later_within at step r.ended below here.1)
    by_runs (Some q) (Some r) (inr gone) w =
        let started = gone.started in
        let was = w.0 in
        (omega (arith, started, was, below), ends_within step r.ended gone.ends)

-- ---- a place within, or at the end

behind : {X : Type 0} (xs : List X) (x : X) (k : ℕ) → k ≢ length xs → slice_get (xs ++ x ∷ []) k ≡ slice_get xs k
behind [] x zero other = absurd (other refl)
behind [] x (suc k) other = refl
behind (y ∷ xs) x zero other = refl
behind (y ∷ xs) x (suc k) other = behind xs x k (λ is. other (ap suc is))

-- ---- the reply

-- the reply of a run that may have ended
abbrev pub reply_in : Past → RunRecord → Option (List ℕ)
reply_in p run = if has_ended run p then Some (reply_message (reply_of_run run)) else None

reply_ended : (p : Past) (run : RunRecord) (step : ℕ) → run.ended ≡ Some step → IfSome run.ended (λ s. s ≤ now p) → reply_in p run ≡ Some (reply_message (reply_of_run run))
reply_ended p run step is within =
    let below : step ≤ now p = subst (λ o. IfSome o (λ s. s ≤ now p)) is within in
    ap (λ o. if option_map_or (λ s. nat_le s (now p)) o false then Some (reply_message (reply_of_run run)) else None) is
    ∙ ap (λ b. if b then Some (reply_message (reply_of_run run)) else None) (le-leb step (now p) below)

reply_open : (p : Past) (run : RunRecord) → run.ended ≡ None → reply_in p run ≡ None
reply_open p run is = ap (λ o. if option_map_or (λ s. nat_le s (now p)) o false then Some (reply_message (reply_of_run run)) else None) is

module _ (b : Behaviour) (state : List ValueTree) (g : Gathered) (kept : MemberRecord) (is_record : IsRecord b state kept) (h : IsLinked g kept) (p : Past) (within : AreWithin (now p) kept.runs) where
  -- of the run of an index, by its number
  by_number : (i k : ℕ) → i ≡ kept.from + k → option_and_then (reply_in p) (slice_get kept.runs k) ≡ option_map reply_message (reply_of g i)
  by_number i k is = by_link h
    where
      by_run : (o : Option RunRecord) → IfSome o (IsWithin (now p)) → ((run : RunRecord) → o ≡ Some run → (step : ℕ) × (run.ended ≡ Some step)) → option_and_then (reply_in p) o ≡ option_map reply_message (option_map reply_of_run o)
      by_run None here ended = refl
      by_run (Some run) here ended = let end = ended run refl in reply_ended p run end.0 end.1 here.1

      by_link : IsLinked g kept → option_and_then (reply_in p) (slice_get kept.runs k) ≡ option_map reply_message (reply_of g i)
      by_link (inl r) =
          let idle = none_is_idle b state kept is_record r.no_ask in
          by_run (slice_get kept.runs k) (within k) (λ run at. (_, (idle.runs k run at).ended_is))
          ∙ ap (option_map reply_message) (sym (ap (lookup (nat_eq i)) r.rests.replies ∙ lookup_numbered kept.from i k kept.runs is))
      by_link (inr w) =
          let performs = one_is_performing b state kept is_record w.ask w.asks in
          let same : w.runs.before ≡ performs.before = sym (front_more w.runs.before w.runs.run) ∙ ap front_of (sym w.runs.runs_are ∙ performs.runs_are) ∙ front_more performs.before performs.run in
          let found : reply_of g i ≡ option_map reply_of_run (slice_get performs.before k) = ap (lookup (nat_eq i)) w.runs.replies ∙ ap (λ rs. lookup (nat_eq i) (numbered kept.from rs)) same ∙ lookup_numbered kept.from i k performs.before is in
          by_place performs.before performs.run performs.runs_are (λ run at. (_, (performs.runs k run at).ended_is)) performs.waiting.not_ended found (eqb_tells k (length performs.before))
        where
          by_place : (before : List RunRecord) (run : RunRecord) → kept.runs ≡ before ++ run ∷ [] → ((r : RunRecord) → slice_get before k ≡ Some r → (step : ℕ) × (r.ended ≡ Some step)) → run.ended ≡ None
              → reply_of g i ≡ option_map reply_of_run (slice_get before k)
              → ((nat_eq k (length before) ≡ true) × (k ≡ length before)) ⊎ ((nat_eq k (length before) ≡ false) × (k ≢ length before))
              → option_and_then (reply_in p) (slice_get kept.runs k) ≡ option_map reply_message (reply_of g i)
          by_place before run runs_are ended not_ended found (inl at) =
              let last = at.1 in
              let none : slice_get before k ≡ None = slice_get_past before k (omega (arith, last)) in
              ap (λ rs. option_and_then (reply_in p) (slice_get rs k)) runs_are
              ∙ ap (option_and_then (reply_in p)) (ap (slice_get (before ++ run ∷ [])) last ∙ at_end before run)
              ∙ reply_open p run not_ended
              ∙ ap (option_map reply_message) (sym (found ∙ ap (option_map reply_of_run) none))
          by_place before run runs_are ended not_ended found (inr other) =
              let place : slice_get kept.runs k ≡ slice_get before k = ap (λ rs. slice_get rs k) runs_are ∙ behind before run k other.1 in
              ap (option_and_then (reply_in p)) place
              ∙ by_run (slice_get before k) (subst (λ o. IfSome o (IsWithin (now p))) place (within k)) ended
              ∙ ap (option_map reply_message) (sym found)

  -- none is kept below the first index
  none_below : (i : ℕ) → i < kept.from → reply_of g i ≡ None
  none_below i below = by_link h
    where
      by_link : IsLinked g kept → reply_of g i ≡ None
      by_link (inl r) = ap (lookup (nat_eq i)) r.rests.replies ∙ lookup_below kept.from i kept.runs below
      by_link (inr w) = ap (lookup (nat_eq i)) w.runs.replies ∙ lookup_below kept.from i w.runs.before below

  -- the reply by the record is the one that is kept
  pub reply_is : (troupe : ℕ) (begins : Joiner) (call : HeldCall) → reply_by troupe begins kept call p ≡ option_map reply_message (reply_of g (index_of troupe call.header))
  reply_is troupe begins call = by_test (nat_lt i kept.from) refl
    where
      i : ℕ
      i = index_of troupe call.header

      by_test : (t : Bool) → nat_lt i kept.from ≡ t → option_and_then (reply_in p) (if t then None else slice_get kept.runs (i - kept.from)) ≡ option_map reply_message (reply_of g i)
      by_test true is = sym (ap (option_map reply_message) (none_below i (ltb-true i kept.from is)))
      by_test false is = let above = ltb-false i kept.from is in by_number i (i - kept.from) (omega (arith, above))

-- ---- whether its run was started before

module _ (step : ℕ) (old new : MemberRecord) (grown : AreGrown step old.runs new.runs) (start : (new.from ≡ old.from) ⊎ (old.runs ≡ [])) where
  -- so has the run of each index
  pub run_grown : (i : ℕ) → Grown step (run_of old i) (run_of new i)
  run_grown i = by_start start
    where
      by_none : (t : Bool) → let o = if t then None else slice_get new.runs (i - new.from) in ((k : ℕ) → Grown step None (slice_get new.runs k)) → Grown step None o
      by_none true fresh = tt
      by_none false fresh = fresh (i - new.from)

      empty : (t : Bool) (k : ℕ) (runs : List RunRecord) → runs ≡ [] → (if t then None else slice_get runs k) ≡ None
      empty true k runs is = refl
      empty false k runs is = ap (λ rs. slice_get rs k) is

      by_test : (t : Bool) → Grown step (if t then None else slice_get old.runs (i - old.from)) (if t then None else slice_get new.runs (i - old.from))
      by_test true = tt
      by_test false = grown (i - old.from)

      by_start : (new.from ≡ old.from) ⊎ (old.runs ≡ []) → Grown step (run_of old i) (run_of new i)
      by_start (inl same) =
          subst (λ n. Grown step (run_of old i) (if nat_lt i n then None else slice_get new.runs (i - n))) (sym same) (by_test (nat_lt i old.from))
      by_start (inr none) =
          subst (λ o. Grown step o (run_of new i)) (sym (empty (nat_lt i old.from) (i - old.from) old.runs none))
          (by_none (nat_lt i new.from) (λ k. subst (λ rs. Grown step (slice_get rs k) (slice_get new.runs k)) none (grown k)))

  -- before the step it says the same
  pub starts_same : (i at : ℕ) → at ≤ step → was_started old i at ≡ was_started new i at
  starts_same i at below = by_runs (run_of old i) (run_of new i) (run_grown i)
    where
      by_runs : (o p : Option RunRecord) → Grown step o p → option_map_or (λ (run : RunRecord). nat_lt run.started at) o false ≡ option_map_or (λ (run : RunRecord). nat_lt run.started at) p false
      by_runs None None g = refl
      by_runs None (Some r) g = let started = g.started in sym (le-ltb r.started at (omega (arith, started, below)))
      by_runs (Some q) None g = absurd g
      by_runs (Some q) (Some r) (inl same) = ap (λ (run : RunRecord). nat_lt run.started at) same
      by_runs (Some q) (Some r) (inr gone) = ap (λ n. nat_lt n at) (sym gone.started)

  pub replies_same : (i : ℕ) (q : Past) → now q < step → option_and_then (reply_in q) (run_of old i) ≡ option_and_then (reply_in q) (run_of new i)
  replies_same i q before = by_runs (run_of old i) (run_of new i) (run_grown i)
    where
      none_yet : (r : RunRecord) → EndsAt step r → reply_in q r ≡ None
      none_yet r (inl is) = reply_open q r is
      none_yet r (inr is) =
          ap (λ o. if option_map_or (λ s. nat_le s (now q)) o false then Some (reply_message (reply_of_run r)) else None) is
          ∙ ap (λ b. if b then Some (reply_message (reply_of_run r)) else None) (lt-leb step (now q) before)

      by_runs : (o p : Option RunRecord) → Grown step o p → option_and_then (reply_in q) o ≡ option_and_then (reply_in q) p
      by_runs None None g = refl
      by_runs None (Some r) g = sym (none_yet r g.ends)
      by_runs (Some r) None g = absurd g
      by_runs (Some r) (Some s) (inl same) = ap (reply_in q) same
      by_runs (Some r) (Some s) (inr gone) = reply_open q r gone.was_open ∙ sym (none_yet s gone.ends)

  -- so a return before the step is the same
  pub return_same : (troupe : ℕ) (begins : Joiner) (at : ℕ) (call : HeldCall) (q : Past) → now q < step → return_at troupe begins old at call q ≡ return_at troupe begins new at call q
  return_same troupe begins at call q before =
      let i = index_of troupe call.header in
      ap (λ t. if nat_lt (now q) at then None else if nat_lt call.header.server_incarnation (required_incarnation q) && (nat_eq at (now q) || not t) then Some (stale_message (required_incarnation q)) else if is_before troupe begins old call q then Some (before_message (first_of (phase begins q))) else reply_by troupe begins old call q) (starts_same i (now q) (omega (arith, before)))
      ∙ ap (λ o. if nat_lt (now q) at then None else if is_stale troupe begins new at call q then Some (stale_message (required_incarnation q)) else if is_before troupe begins new call q then Some (before_message (first_of (phase begins q))) else o) (replies_same i q before)

-- a call that has no reply: its run was started before the step exactly where it is open
module _ (step at : ℕ) (old new : MemberRecord) (grown : AreGrown step old.runs new.runs) (same : new.from ≡ old.from) (below : at < step) (within : AreWithin at old.runs) (g : Gathered) (h : IsLinked g old) where
  started_by_number : (i k : ℕ) → i ≡ old.from + k → reply_of g i ≡ None → option_map_or (λ (run : RunRecord). nat_lt run.started step) (slice_get new.runs k) false ≡ option_map_or (λ index. nat_eq i index) g.open_run false
  started_by_number i k is fresh = by_link h
    where
      fresh_start : (o : Option RunRecord) → Grown step None o → option_map_or (λ (run : RunRecord). nat_lt run.started step) o false ≡ false
      fresh_start None grows = refl
      fresh_start (Some r) grows = let started = grows.started in le-ltb r.started step (omega (arith, started))

      no_run : (o : Option RunRecord) → option_map reply_of_run o ≡ None → o ≡ None
      no_run None none = refl
      no_run (Some r) none = cc

      open_start : (run : RunRecord) (o : Option RunRecord) → IsWithin at run → Grown step (Some run) o → option_map_or (λ (r : RunRecord). nat_lt r.started step) o false ≡ true
      open_start run None w grows = absurd grows
      open_start run (Some r) w (inl eq) = let was = w.0 in let started = ap (λ (x : RunRecord). x.started) eq in lt-ltb r.started step (omega (arith, was, started, below))
      open_start run (Some r) w (inr gone) = let was = w.0 in let started = gone.started in lt-ltb r.started step (omega (arith, was, started, below))

      by_link : IsLinked g old → option_map_or (λ (run : RunRecord). nat_lt run.started step) (slice_get new.runs k) false ≡ option_map_or (λ index. nat_eq i index) g.open_run false
      by_link (inl r) =
          let none = no_run (slice_get old.runs k) (sym (ap (lookup (nat_eq i)) r.rests.replies ∙ lookup_numbered old.from i k old.runs is) ∙ fresh) in
          fresh_start (slice_get new.runs k) (subst (λ o. Grown step o (slice_get new.runs k)) none (grown k))
          ∙ sym (ap (λ o. option_map_or (λ index. nat_eq i index) o false) r.rests.none_open)
      by_link (inr w) = by_place (eqb_tells k (length before))
        where
          before : List RunRecord
          before = w.runs.before

          by_place : ((nat_eq k (length before) ≡ true) × (k ≡ length before)) ⊎ ((nat_eq k (length before) ≡ false) × (k ≢ length before))
              → option_map_or (λ (run : RunRecord). nat_lt run.started step) (slice_get new.runs k) false ≡ option_map_or (λ index. nat_eq i index) g.open_run false
          by_place (inl here) =
              let last = here.1 in
              let place : slice_get old.runs k ≡ Some w.runs.run = ap (λ rs. slice_get rs k) w.runs.runs_are ∙ ap (slice_get (before ++ w.runs.run ∷ [])) last ∙ at_end before w.runs.run in
              open_start w.runs.run (slice_get new.runs k) (subst (λ o. IfSome o (IsWithin at)) place (within k)) (subst (λ o. Grown step o (slice_get new.runs k)) place (grown k))
              ∙ sym (ap (λ o. option_map_or (λ index. nat_eq i index) o false) w.runs.is_open ∙ eq-eqb i (old.from + length before) (omega (arith, is, last)))
          by_place (inr other) =
              let place : slice_get old.runs k ≡ slice_get before k = ap (λ rs. slice_get rs k) w.runs.runs_are ∙ behind before w.runs.run k other.1 in
              let none = no_run (slice_get before k) (sym (ap (lookup (nat_eq i)) w.runs.replies ∙ lookup_numbered old.from i k before is) ∙ fresh) in
              let apart = other.1 in
              fresh_start (slice_get new.runs k) (subst (λ o. Grown step o (slice_get new.runs k)) (place ∙ none) (grown k))
              ∙ sym (ap (λ o. option_map_or (λ index. nat_eq i index) o false) w.runs.is_open ∙ ne_eqb i (old.from + length before) (λ eq. apart (omega (arith, is, eq))))

  pub started_is : (call : HeldCall) → reply_of g (index_of g.module call.header) ≡ None → was_started new (index_of g.module call.header) step ≡ is_of_run g.module g.open_run call
  started_is call fresh = by_test (nat_lt i new.from) refl
    where
      i : ℕ
      i = index_of g.module call.header

      by_open : (o : Option ℕ) → g.open_run ≡ o → i < old.from → option_map_or (λ index. nat_eq i index) o false ≡ false
      by_open None is low = refl
      by_open (Some n) is low = by_link h
        where
          by_link : IsLinked g old → nat_eq i n ≡ false
          by_link (inl r) = absurd (none_is_some (sym r.rests.none_open ∙ is))
          by_link (inr w) =
              let is_it : n ≡ old.from + length w.runs.before = same_Some n _ (sym is ∙ w.runs.is_open) in
              ne_eqb i n (λ eq. absurd (omega (arith, is_it, eq, low)))

      by_test : (t : Bool) → nat_lt i new.from ≡ t → option_map_or (λ (run : RunRecord). nat_lt run.started step) (if t then None else slice_get new.runs (i - new.from)) false ≡ option_map_or (λ index. nat_eq i index) g.open_run false
      by_test true is = let low = ltb-true i new.from is in sym (by_open g.open_run refl (omega (arith, low, same)))
      by_test false is =
          let above = ltb-false i new.from is in
          started_by_number i (i - new.from) (omega (arith, above, same)) fresh
