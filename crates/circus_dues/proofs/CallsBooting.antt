-- What is kept of the calls in at boot, where no run was entered, and where one was.
use Rattle.std.proofs.Common.{◌≡◌, ℕ, ◌<◌, Bool, true, false, ◌&&◌, ◌||◌, not, ◌⊎◌, inl, inr, if◌then◌else◌, Option, Some, None, refl, sym, ap, ◌∙◌, arith}
use Rattle.std.specs.Prelude.{nat_eq, nat_le, IfSome, option_and_then}
use Rattle.std.specs.Option.{option_map_or}
use Rattle.std.proofs.lemmas.Bool.{lt-leb, le-leb}
use Rattle.std.proofs.lemmas.Bool.Decides.{eqb_tells}
use Rattle.circus_header.specs.declared.answer.Reply.{Reply}
use Rattle.circus_transfer.specs.declared.joiner.Joiner.{Joiner}
use Rattle.circus_record.specs.declared.record.MemberRecord.{MemberRecord}
use Rattle.circus_record.specs.declared.record.RunRecord.{RunRecord}
use Rattle.circus_gather.specs.Gathering.{before_any, with_start, with_end}
use Rattle.circus_member_rules.specs.Step.{reply_of_run}
use Rattle.circus_member_theory.specs.Past.{booted}
use Rattle.circus_member_theory.specs.Returns.{first_of, run_of, has_ended}
use Rattle.circus_dues.specs.Calls.{is_open, reply_if, IsKeptOf}
use Rattle.circus_dues.proofs.CallsRuns.{reply_when}

-- a run was started, and ended, after boot
abbrev pub IsLater : RunRecord → Type 0
IsLater run = (0 < run.started) × IfSome run.ended (λ step. 0 < step)

not_ended : (run : RunRecord) → IsLater run → has_ended run booted ≡ false
not_ended run later = by_end run.ended later.1
  where
    by_end : (o : Option ℕ) → IfSome o (λ step. 0 < step) → option_map_or (λ s. nat_le s 0) o false ≡ false
    by_end None after = refl
    by_end (Some s) after = lt-leb s 0 after

module _ (troupe : ℕ) (begins : Joiner) (kept : MemberRecord) where
  -- of an index whose run is later
  later_reply : (n : ℕ) → ((run : RunRecord) → run_of kept n ≡ Some run → IsLater run) → reply_if kept booted (λ i. false) n ≡ None
  later_reply n later = by_run (run_of kept n) refl
    where
      by_run : (r : Option RunRecord) → run_of kept n ≡ r → option_and_then (λ (run : RunRecord). reply_when (has_ended run booted || false) run) r ≡ None
      by_run None is = refl
      by_run (Some run) is = ap (λ b. reply_when (b || false) run) (not_ended run (later run is))

  later_opens : (n : ℕ) → ((run : RunRecord) → run_of kept n ≡ Some run → IsLater run) → is_open kept booted n ≡ false
  later_opens n later = by_run (run_of kept n) refl
    where
      by_run : (r : Option RunRecord) → run_of kept n ≡ r → option_map_or (λ (run : RunRecord). nat_le run.started 0 && not (has_ended run booted)) r false ≡ false
      by_run None is = refl
      by_run (Some run) is = ap (λ b. b && not (has_ended run booted)) (lt-leb run.started 0 ((later run is).0))

  -- no run was entered
  pub kept_at_boot : ((n : ℕ) (run : RunRecord) → run_of kept n ≡ Some run → IsLater run) → IsKeptOf troupe begins kept booted (before_any troupe (first_of begins))
  kept_at_boot later =
      record {
        own = refl;
        from = refl;
        required = refl;
        held = refl;
        replies = λ n. sym (later_reply n (later n));
        opens = λ n. sym (later_opens n (later n));
      }

  -- one was, and no other
  module _ (i : ℕ) (run : RunRecord) (is : run_of kept i ≡ Some run) (started : run.started ≡ 0) (others : (n : ℕ) (r : RunRecord) → (n ≡ i → ⊥) → run_of kept n ≡ Some r → IsLater r) where
    opens_by : (b : Bool) → has_ended run booted ≡ b → (n : ℕ) → is_open kept booted n ≡ (not b && nat_eq n i)
    opens_by b ended n = by_index (eqb_tells n i)
      where
        and_true : (c : Bool) → c ≡ (c && true)
        and_true true = refl
        and_true false = refl

        and_false : (c : Bool) → false ≡ (c && false)
        and_false true = refl
        and_false false = refl

        by_index : ((nat_eq n i ≡ true) × (n ≡ i)) ⊎ ((nat_eq n i ≡ false) × ((n ≡ i) → ⊥)) → is_open kept booted n ≡ (not b && nat_eq n i)
        by_index (inl same) =
            (λ j. is_open kept booted (same.1 j))
            ∙ ap (λ r. option_map_or (λ (x : RunRecord). nat_le x.started 0 && not (has_ended x booted)) r false) is
            ∙ (λ j. le-leb run.started 0 (omega (arith, started)) j && not (ended j))
            ∙ and_true (not b)
            ∙ ap (λ c. not b && c) (sym same.0)
        by_index (inr other) = later_opens n (λ r. others n r other.1) ∙ and_false (not b) ∙ ap (λ c. not b && c) (sym other.0)

    reply_by : (b : Bool) → has_ended run booted ≡ b → (n : ℕ) → reply_if kept booted (λ k. false) n ≡ (if b && nat_eq n i then Some (reply_of_run run) else None)
    reply_by b ended n = by_index (eqb_tells n i)
      where
        by_end : (c : Bool) → reply_when (c || false) run ≡ (if c && true then Some (reply_of_run run) else None)
        by_end true = refl
        by_end false = refl

        by_none : (c : Bool) → let o : Option Reply = if c && false then Some (reply_of_run run) else None in None ≡ o
        by_none true = refl
        by_none false = refl

        by_index : ((nat_eq n i ≡ true) × (n ≡ i)) ⊎ ((nat_eq n i ≡ false) × ((n ≡ i) → ⊥)) → reply_if kept booted (λ k. false) n ≡ (if b && nat_eq n i then Some (reply_of_run run) else None)
        by_index (inl same) =
            (λ j. reply_if kept booted (λ k. false) (same.1 j))
            ∙ ap (option_and_then (λ (x : RunRecord). reply_when (has_ended x booted || false) x)) is
            ∙ ap (λ c. reply_when (c || false) run) ended
            ∙ by_end b
            ∙ ap (λ c. if b && c then Some (reply_of_run run) else None) (sym same.0)
        by_index (inr other) = later_reply n (λ r. others n r other.1) ∙ by_none b ∙ ap (λ c. if b && c then Some (reply_of_run run) else None) (sym other.0)

    -- it goes on
    pub kept_at_start : has_ended run booted ≡ false → IsKeptOf troupe begins kept booted (with_start (before_any troupe (first_of begins)) i)
    kept_at_start goes =
        record {
          own = refl;
          from = refl;
          required = refl;
          held = refl;
          replies = λ n. sym (reply_by false goes n);
          opens = λ n. sym (opens_by false goes n);
        }

    -- or has ended
    pub kept_at_end : has_ended run booted ≡ true → IsKeptOf troupe begins kept booted (with_end (with_start (before_any troupe (first_of begins)) i) i (reply_of_run run))
    kept_at_end ended =
        record {
          own = refl;
          from = refl;
          required = refl;
          held = refl;
          replies = λ n. by_test (nat_eq n i) ∙ sym (reply_by true ended n);
          opens = λ n. sym (opens_by true ended n);
        }
      where
        by_test : (b : Bool) → (if b then Some (reply_of_run run) else None) ≡ (if true && b then Some (reply_of_run run) else None)
        by_test true = refl
        by_test false = refl
