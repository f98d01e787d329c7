-- As a run ends in a step its callers get its reply; at the end of the step what is kept is that of the past.
use Rattle.std.proofs.Common.{◌≡◌, ℕ, ◌<◌, Bool, true, false, ◌&&◌, ◌||◌, not, ◌⊎◌, inl, inr, cond, if◌then◌else◌, List, [], ◌∷◌, ◌++◌, map, filter, Option, Some, None, refl, sym, ap, subst, ◌∙◌}
use Rattle.std.specs.Prelude.{nat_eq, is_none}
use Rattle.std.specs.List.{flat_map}
use Rattle.std.specs.Map.{lookup}
use Rattle.std.specs.Option.{option_map_or}
use Rattle.std.proofs.lemmas.Bool.Decides.{eqb_tells}
use Rattle.std.proofs.lemmas.List.Elements.{All-weaker, filter_agree}
use Rattle.circus_value.specs.ValueTree.{ValueTree}
use Rattle.circus_header.specs.declared.answer.Reply.{Reply}
use Rattle.circus_collate.specs.declared.view.View.{View}
use Rattle.circus_transfer.specs.declared.joiner.Joiner.{Joiner}
use Rattle.circus_record.specs.declared.record.MemberRecord.{MemberRecord}
use Rattle.circus_record.specs.declared.record.RunRecord.{RunRecord}
use Rattle.circus_gather.specs.Gathering.{Gathered, index_of, is_of_index, reply_of, answered_by_end, with_start, with_end}
use Rattle.circus_gather.specs.declared.held.HeldCall.{HeldCall}
use Rattle.circus_member_rules.specs.declared.place.Place.{Place}
use Rattle.circus_member_rules.specs.declared.occurrence.Effect.{Effect}
use Rattle.circus_member_rules.specs.declared.occurrence.Occurrence.{Occurrence}
use Rattle.circus_member_rules.specs.Messages.{reply_message}
use Rattle.circus_member_rules.specs.Rules.{answer, answers}
use Rattle.circus_member_rules.specs.Step.{reply_of_run}
use Rattle.circus_member_rules.proofs.Concerned.{all_of}
use Rattle.circus_member_theory.specs.Past.{Past, followed, now, Rises}
use Rattle.circus_member_theory.specs.Order.{ends_now, is_answered_by_end, returns_now}
use Rattle.circus_member_theory.specs.Returns.{run_of, has_ended, is_stale, is_before, return_at}
use Rattle.circus_dues.specs.Calls.{NoneBetween, is_open, is_index, reply_if, calls_of, asks_waiting, return_if, IsKeptOf, IsKeptAmid}
use Rattle.circus_headline_theory.proofs.Owed.Passing.{passing_both, passing_through, same_flat, none_flat, flat_passing, flat_through, answers_to}
use Rattle.circus_dues.proofs.CallsAmid.{CameBy, waiting_by, returned, none_yet, end_one, reply_more, waits_less, replies_then, unreturned_are}
use Rattle.circus_dues.proofs.CallsGiven.{message_to}
use Rattle.circus_dues.proofs.CallsRuns.{Fares, fares}

-- one that is there, or else another
abbrev or_that : Option Reply → Option Reply → Option Reply
or_that None other = other
or_that (Some r) other = Some r

lookup_more : (n i : ℕ) (r : Reply) (replies : List (ℕ × Reply)) → lookup (nat_eq n) (replies ++ (i, r) ∷ []) ≡ or_that (lookup (nat_eq n) replies) (if nat_eq n i then Some r else None)
lookup_more n i r [] = refl
lookup_more n i r (x ∷ replies) = by_test (lookup_more n i r replies) (nat_eq n x.0)
  where
    by_test : lookup (nat_eq n) (replies ++ (i, r) ∷ []) ≡ or_that (lookup (nat_eq n) replies) (if nat_eq n i then Some r else None) → (b : Bool)
        → cond b (Some x.1) (lookup (nat_eq n) (replies ++ (i, r) ∷ [])) ≡ or_that (cond b (Some x.1) (lookup (nat_eq n) replies)) (if nat_eq n i then Some r else None)
    by_test rest true = refl
    by_test rest false = rest

module _ (place : Place) (boot : List View) (begins : Joiner) (first : List ValueTree) (kept : MemberRecord) (p : Past) (step : ℕ) (o : Occurrence) (rises : Rises p) (later : now p < step) where
  abbrev q : Past
  q = followed p step o

  abbrev IsAmid : (ℕ → Bool) → Gathered → Type 0
  IsAmid done g = IsKeptAmid place.troupe begins kept p step o done g

  abbrev all_waiting : List (ℕ × HeldCall)
  all_waiting = asks_waiting place.troupe begins kept p step o

  -- by a run that doesn't end in the step nobody gets anything
  pub none_by_end : (i : ℕ) → ends_now place boot begins first kept q i ≡ false → returns_now place boot begins first kept q (λ e. is_answered_by_end place boot begins first kept q e && is_of_index place.troupe i e.1) ≡ []
  none_by_end i goes =
      let f : ℕ × HeldCall → List Effect = λ e. if is_answered_by_end place boot begins first kept q e && is_of_index place.troupe i e.1 then message_to e.1.sender (return_at place.troupe begins kept e.0 e.1 q) else [] in
      returned place boot begins first kept p step o rises later (λ e. is_answered_by_end place boot begins first kept q e && is_of_index place.troupe i e.1)
      ∙ none_flat f all_waiting (all_of (λ e. f e ≡ []) all_waiting (λ e. ap (λ b. if b then message_to e.1.sender (return_at place.troupe begins kept e.0 e.1 q) else []) (none_of e (eqb_tells (index_of place.troupe e.1.header) i))))
    where
      by_tests : (s b : Bool) → ((not s && not b && false) && true) ≡ false
      by_tests true b = refl
      by_tests false true = refl
      by_tests false false = refl

      and_false : (b : Bool) → (b && false) ≡ false
      and_false true = refl
      and_false false = refl

      none_of : (e : ℕ × HeldCall) → ((nat_eq (index_of place.troupe e.1.header) i ≡ true) × (index_of place.troupe e.1.header ≡ i)) ⊎ ((nat_eq (index_of place.troupe e.1.header) i ≡ false) × ((index_of place.troupe e.1.header ≡ i) → ⊥))
          → (is_answered_by_end place boot begins first kept q e && is_of_index place.troupe i e.1) ≡ false
      none_of e (inl same) =
          (λ j. (not (is_stale place.troupe begins kept e.0 e.1 q) && not (is_before place.troupe begins kept e.1 q) && ends_now place boot begins first kept q (same.1 j)) && same.0 j)
          ∙ (λ j. (not (is_stale place.troupe begins kept e.0 e.1 q) && not (is_before place.troupe begins kept e.1 q) && goes j) && true)
          ∙ by_tests (is_stale place.troupe begins kept e.0 e.1 q) (is_before place.troupe begins kept e.1 q)
      none_of e (inr other) = ap (λ b. is_answered_by_end place boot begins first kept q e && b) other.0 ∙ and_false (is_answered_by_end place boot begins first kept q e)

  -- the test of those runs that end in the step tells which have ended by its end
  pub all_ended : NoneBetween kept (now p) step → (done : ℕ → Bool) → ((n : ℕ) (run : RunRecord) → run_of kept n ≡ Some run → option_map_or (nat_eq step) run.ended false ≡ done n)
      → (n : ℕ) (run : RunRecord) → run_of kept n ≡ Some run → has_ended run q ≡ (has_ended run p || done n)
  all_ended between done just n run is = by_fate (fares (now p) step later run.ended ((between n run is).1))
    where
      by_fate : Fares (now p) step later run.ended → has_ended run q ≡ (has_ended run p || done n)
      by_fate (inl ended) = ended.1 ∙ sym (ap (λ b. b || done n) ended.0)
      by_fate (inr goes) = goes.1 ∙ just n run is ∙ sym (ap (λ b. b || done n) goes.0)

  module _ (done : ℕ → Bool) (g : Gathered) (h : IsAmid done g) where
    -- tests that agree say the same
    pub same_done : (other : ℕ → Bool) → ((n : ℕ) → done n ≡ other n) → IsAmid other g
    same_done other same = subst (λ (d : ℕ → Bool). IsAmid d g) (λ j n. same n j) h

    -- a run starts
    pub started_amid : (i : ℕ) → IsAmid done (with_start g i)
    started_amid i = record { own = h.own; from = h.from; required = h.required; held = h.held; replies = h.replies }

    abbrev waits : ℕ × HeldCall → Bool
    waits e = is_none (return_if place.troupe begins kept p step o done e)

    -- the run of an index ends
    module _ (i : ℕ) (run : RunRecord) (is : run_of kept i ≡ Some run) (ends : run.ended ≡ Some step) (fresh : done i ≡ false) where
      -- its callers get its reply, and nobody else does by its end
      pub returned_by_end : returns_now place boot begins first kept q (λ e. is_answered_by_end place boot begins first kept q e && is_of_index place.troupe i e.1)
          ≡ answers (reply_message (reply_of_run run)) (answered_by_end g i)
      returned_by_end =
          let message = reply_message (reply_of_run run) in
          let R : HeldCall → List Effect = λ c. if is_of_index place.troupe i c then answer message c.sender ∷ [] else [] in
          let f : ℕ × HeldCall → List Effect = λ e. if is_answered_by_end place boot begins first kept q e && is_of_index place.troupe i e.1 then message_to e.1.sender (return_at place.troupe begins kept e.0 e.1 q) else [] in
          let F : ℕ × HeldCall → List Effect = λ e. if waits e then R e.1 else [] in
          returned place boot begins first kept p step o rises later (λ e. is_answered_by_end place boot begins first kept q e && is_of_index place.troupe i e.1)
          ∙ same_flat f F all_waiting (All-weaker (CameBy step) (λ e. f e ≡ F e) (end_one place boot begins first kept p step o rises later done i run is ends fresh) all_waiting (waiting_by place boot begins first kept p step o rises later))
          ∙ sym (flat_passing waits (λ e. R e.1) all_waiting)
          ∙ sym (flat_through R (λ (e : ℕ × HeldCall). e.1) (filter waits all_waiting))
          ∙ ap (flat_map R) (sym h.held)
          ∙ sym (answers_to message (is_of_index place.troupe i) g.held)
          ∙ ap (λ n. answers message (map (λ (c : HeldCall). c.sender) (filter (is_of_index n i) g.held))) (sym h.own)

      -- they wait no longer
      pub ended_amid : IsAmid (λ n. done n || nat_eq n i) (with_end g i (reply_of_run run))
      ended_amid =
          let still : HeldCall → Bool = λ c. not (is_of_index place.troupe i c) in
          record {
            own = h.own;
            from = h.from;
            required = h.required;
            held = ap (λ n. filter (λ c. not (is_of_index n i c)) g.held) h.own
                ∙ ap (filter still) h.held
                ∙ passing_through still (λ (e : ℕ × HeldCall). e.1) (filter waits all_waiting)
                ∙ ap calls_of (passing_both (λ (e : ℕ × HeldCall). still e.1) waits all_waiting
                ∙ sym (filter_agree (λ e. is_none (return_if place.troupe begins kept p step o (λ n. done n || nat_eq n i) e)) (λ e. waits e && still e.1) (waits_less place boot begins first kept p step o rises later done i run is) all_waiting));
            replies = replies;
          }
        where
          or_none : (r : Option Reply) → or_that r None ≡ r
          or_none None = refl
          or_none (Some x) = refl

          replies : (n : ℕ) → reply_of (with_end g i (reply_of_run run)) n ≡ reply_if kept p (λ k. done k || nat_eq k i) n
          replies n =
              lookup_more n i (reply_of_run run) g.replies
              ∙ ap (λ r. or_that r (if nat_eq n i then Some (reply_of_run run) else None)) (h.replies n)
              ∙ by_index (eqb_tells n i)
              ∙ sym (reply_more place boot begins first kept p step o rises later done i run is n)
            where
              by_index : ((nat_eq n i ≡ true) × (n ≡ i)) ⊎ ((nat_eq n i ≡ false) × ((n ≡ i) → ⊥))
                  → or_that (reply_if kept p done n) (if nat_eq n i then Some (reply_of_run run) else None) ≡ (if nat_eq n i then Some (reply_of_run run) else reply_if kept p done n)
              by_index (inl same) =
                  (λ j. or_that (reply_if kept p done (same.1 j)) (if same.0 j then Some (reply_of_run run) else None))
                  ∙ ap (λ r. or_that r (Some (reply_of_run run))) (none_yet place boot begins first kept p step o rises later done i run is ends fresh)
                  ∙ sym (ap (λ b. if b then Some (reply_of_run run) else reply_if kept p done n) same.0)
              by_index (inr other) =
                  ap (λ b. or_that (reply_if kept p done n) (if b then Some (reply_of_run run) else None)) other.0
                  ∙ or_none (reply_if kept p done n)
                  ∙ sym (ap (λ b. if b then Some (reply_of_run run) else reply_if kept p done n) other.0)

    -- ---- the end of the step

    -- when all runs that end in it have ended
    pub kept_then : ((n : ℕ) (run : RunRecord) → run_of kept n ≡ Some run → has_ended run q ≡ (has_ended run p || done n))
        → ((n : ℕ) → is_index g.open_run n ≡ is_open kept q n) → IsKeptOf place.troupe begins kept q g
    kept_then all opens =
        record {
          own = h.own;
          from = h.from;
          required = h.required;
          held = h.held ∙ ap calls_of (sym (unreturned_are place boot begins first kept p step o rises later done all));
          replies = λ n. h.replies n ∙ sym (replies_then place boot begins first kept p step o rises later done all n);
          opens = opens;
        }
