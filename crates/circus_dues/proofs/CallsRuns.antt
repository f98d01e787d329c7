-- What a record says of a run in a step: it had ended before, it ends in it, or it goes on.
use Rattle.std.proofs.Common.{◌≡◌, ℕ, ◌<◌, ◌≤◌, Bool, true, false, ◌&&◌, ◌||◌, not, ◌⊎◌, inl, inr, if◌then◌else◌, Option, Some, None, refl, sym, ap, ◌∙◌, arith}
use Rattle.std.specs.Prelude.{List, nat_eq, nat_lt, nat_le, IfSome, option_map, option_and_then}
use Rattle.std.specs.Option.{option_map_or}
use Rattle.std.proofs.lemmas.Bool.{le-leb, lt-leb, lt-ltb, le-ltb, ltb-true, ne_eqb}
use Rattle.std.proofs.lemmas.Bool.Decides.{eqb_tells, leb_tells}
use Rattle.circus_header.specs.declared.answer.Reply.{Reply}
use Rattle.circus_transfer.specs.declared.joiner.Joiner.{Joiner}
use Rattle.circus_record.specs.declared.record.MemberRecord.{MemberRecord}
use Rattle.circus_record.specs.declared.record.RunRecord.{RunRecord}
use Rattle.circus_gather.specs.Gathering.{index_of}
use Rattle.circus_gather.specs.declared.held.HeldCall.{HeldCall}
use Rattle.circus_member_rules.specs.Messages.{reply_message}
use Rattle.circus_member_rules.specs.Step.{reply_of_run}
use Rattle.circus_member_theory.specs.Past.{Past, now}
use Rattle.circus_member_theory.specs.Returns.{run_of, was_started, has_ended, reply_by}
use Rattle.circus_dues.specs.Calls.{IsOutside, NoneBetween, is_open, reply_if}

-- ---- replies

-- the reply of a run, if so
abbrev pub reply_when : Bool → RunRecord → Option Reply
reply_when b run = if b then Some (reply_of_run run) else None

abbrev pub message_when : Bool → RunRecord → Option (List ℕ)
message_when b run = if b then Some (reply_message (reply_of_run run)) else None

pub message_is : (b : Bool) (run : RunRecord) → message_when b run ≡ option_map reply_message (reply_when b run)
message_is true run = refl
message_is false run = refl

or_false : (b : Bool) → (b || false) ≡ b
or_false true = refl
or_false false = refl

pub reply_by_is : (troupe : ℕ) (begins : Joiner) (kept : MemberRecord) (call : HeldCall) (p : Past) → reply_by troupe begins kept call p ≡ option_map reply_message (reply_if kept p (λ i. false) (index_of troupe call.header))
reply_by_is troupe begins kept call p = by_run (run_of kept (index_of troupe call.header))
  where
    by_run : (o : Option RunRecord) → option_and_then (λ (run : RunRecord). message_when (has_ended run p) run) o ≡ option_map reply_message (option_and_then (λ (run : RunRecord). reply_when (has_ended run p || false) run) o)
    by_run None = refl
    by_run (Some run) = message_is (has_ended run p) run ∙ ap (λ b. option_map reply_message (reply_when b run)) (sym (or_false (has_ended run p)))

-- ---- in a step

module _ (low step : ℕ) (later : low < step) where
  abbrev ended_by : ℕ → Option ℕ → Bool
  ended_by n o = option_map_or (λ s. nat_le s n) o false

  abbrev ends_at : Option ℕ → Bool
  ends_at o = option_map_or (nat_eq step) o false

  -- it had ended before, or it ends in the step or goes on
  abbrev pub Fares : Option ℕ → Type 0
  Fares o = ((ended_by low o ≡ true) × (ended_by step o ≡ true) × (ends_at o ≡ false)) ⊎ ((ended_by low o ≡ false) × (ended_by step o ≡ ends_at o))

  pub fares : (o : Option ℕ) → IfSome o (IsOutside low step) → Fares o
  fares None outside = inr (refl, refl)
  fares (Some s) (inl early) =
      inl (le-leb s low early, le-leb s step (omega (arith, early, later)), ne_eqb step s (λ eq. absurd (omega (arith, early, later, eq))))
  fares (Some s) (inr late) = by_tell (eqb_tells step s)
    where
      by_tell : ((nat_eq step s ≡ true) × (step ≡ s)) ⊎ ((nat_eq step s ≡ false) × ((step ≡ s) → ⊥)) → Fares (Some s)
      by_tell (inl same) = (let eq = same.1 in inr (lt-leb s low (omega (arith, late, later)), le-leb s step (omega (arith, eq)) ∙ sym same.0))
      by_tell (inr other) =
          let apart = other.1 in
          inr (lt-leb s low (omega (arith, late, later)), lt-leb s step (by_order (leb_tells s step)) ∙ sym other.0)
        where
          by_order : ((nat_le s step ≡ true) × (s ≤ step)) ⊎ ((nat_le s step ≡ false) × (step < s)) → step < s
          by_order (inl below) = (let up = below.1 in absurd (other.1 (omega (arith, up, late))))
          by_order (inr above) = above.1

-- ---- a run that has no reply was started before a step where it is open

module _ (kept : MemberRecord) (p : Past) (index : ℕ) where
  abbrev IsFresh : Type 0
  IsFresh = reply_if kept p (λ i. false) index ≡ None

  not_ended : (run : RunRecord) (b : Bool) → reply_when (b || false) run ≡ None → b ≡ false
  not_ended run true none = cc
  not_ended run false none = refl

  pub open_started : IsFresh → was_started kept index (now p) ≡ true → is_open kept p index ≡ true
  open_started = by_run (run_of kept index)
    where
      by_run : (o : Option RunRecord) → option_and_then (λ (run : RunRecord). reply_when (has_ended run p || false) run) o ≡ None
          → option_map_or (λ (run : RunRecord). nat_lt run.started (now p)) o false ≡ true
          → option_map_or (λ (run : RunRecord). nat_le run.started (now p) && not (has_ended run p)) o false ≡ true
      by_run None none is = is
      by_run (Some run) none is =
          let below = ltb-true run.started (now p) is in
          (λ j. le-leb run.started (now p) (omega (arith, below)) j && not (not_ended run (has_ended run p) none j))

  pub started_is_open : (step : ℕ) → now p < step → NoneBetween kept (now p) step → IsFresh → was_started kept index step ≡ is_open kept p index
  started_is_open step later between = by_run (run_of kept index) refl
    where
      by_run : (o : Option RunRecord) → run_of kept index ≡ o → option_and_then (λ (run : RunRecord). reply_when (has_ended run p || false) run) o ≡ None
          → option_map_or (λ (run : RunRecord). nat_lt run.started step) o false
          ≡ option_map_or (λ (run : RunRecord). nat_le run.started (now p) && not (has_ended run p)) o false
      by_run None is none = refl
      by_run (Some run) is none =
          by_start ((between index run is).0)
        where
          by_start : IsOutside (now p) step run.started → nat_lt run.started step ≡ (nat_le run.started (now p) && not (has_ended run p))
          by_start (inl early) =
              lt-ltb run.started step (omega (arith, early, later))
              ∙ sym (λ j. le-leb run.started (now p) early j && not (not_ended run (has_ended run p) none j))
          by_start (inr late) =
              le-ltb run.started step late
              ∙ sym (ap (λ b. b && not (has_ended run p)) (lt-leb run.started (now p) (omega (arith, late, later))))
