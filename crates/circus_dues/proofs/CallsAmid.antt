-- The asks that wait in a step, and what each of them gets in it: at once, as a run ends, or nothing yet.
use Rattle.std.proofs.Common.{◌≡◌, ℕ, ◌<◌, ◌≤◌, Bool, true, false, ◌&&◌, ◌||◌, not, ◌⊎◌, inl, inr, if◌then◌else◌, List, [], ◌∷◌, ◌++◌, filter, All, Option, Some, None, refl, sym, ap, subst, ◌∙◌, arith, append-nil}
use Rattle.std.specs.Prelude.{nat_eq, nat_le, is_none, option_map, option_and_then}
use Rattle.std.specs.List.{flat_map}
use Rattle.std.specs.Option.{option_map_or}
use Rattle.std.proofs.lemmas.Bool.{le-leb, lt-leb, lt-ltb, le-ltb, eq-eqb}
use Rattle.std.proofs.lemmas.Bool.Decides.{eqb_tells}
use Rattle.std.proofs.lemmas.List.Elements.{All-nil, All-push, All-append, All-weaker, All-filter, filter-append}
use Rattle.circus_value.specs.ValueTree.{ValueTree}
use Rattle.circus_header.specs.declared.answer.Reply.{Reply}
use Rattle.circus_collate.specs.declared.view.View.{View}
use Rattle.circus_transfer.specs.declared.joiner.Joiner.{Joiner}
use Rattle.circus_record.specs.declared.record.MemberRecord.{MemberRecord}
use Rattle.circus_record.specs.declared.record.RunRecord.{RunRecord}
use Rattle.circus_gather.specs.Gathering.{index_of, is_of_index}
use Rattle.circus_gather.specs.declared.held.HeldCall.{HeldCall}
use Rattle.circus_member_rules.specs.declared.place.Place.{Place}
use Rattle.circus_member_rules.specs.declared.occurrence.Effect.{Effect}
use Rattle.circus_member_rules.specs.declared.occurrence.Occurrence.{Occurrence}
use Rattle.circus_member_rules.specs.declared.occurrence.Occurrence.TheVariants as comes
use Rattle.circus_member_rules.specs.Messages.{reply_message, stale_message, before_message}
use Rattle.circus_member_rules.specs.Rules.{answer}
use Rattle.circus_member_rules.specs.Step.{reply_of_run}
use Rattle.circus_member_theory.specs.Past.{Past, booted, followed, now, Rises, required_incarnation, phase}
use Rattle.circus_member_theory.specs.First.{first_given}
use Rattle.circus_member_theory.specs.Made.{asks}
use Rattle.circus_member_theory.specs.Order.{ends_now, is_answered_by_end, returns_now, returns_at_once}
use Rattle.circus_member_theory.specs.Returns.{first_of, run_of, has_ended, is_stale, is_before, reply_by, return_at}
use Rattle.circus_member_theory.proofs.Timely.Firsts.{none_first}
use Rattle.circus_dues.specs.Calls.{NoneBetween, reply_if, ask_in, unreturned, asks_waiting, return_if}
use Rattle.circus_headline_theory.proofs.Owed.Moments.{all_pass}
use Rattle.circus_headline_theory.proofs.Owed.Passing.{same_passing, same_flat, flat_passing}
use Rattle.circus_dues.proofs.CallsGiven.{message_to, waits, given_now, wait_on}
use Rattle.circus_dues.proofs.CallsRuns.{reply_when, reply_by_is, Fares, fares}

and_true : (b : Bool) → (b && true) ≡ b
and_true true = refl
and_true false = refl

and_false : (b : Bool) → (b && false) ≡ false
and_false true = refl
and_false false = refl

or_false : (b : Bool) → (b || false) ≡ b
or_false true = refl
or_false false = refl

-- ---- what came

pub on_ask : (P : ℕ × HeldCall → Type 0) (step : ℕ) (o : Occurrence) → ((call : HeldCall) → P (step, call)) → All P (ask_in step o)
on_ask P step (comes.Asked header body sender) each =
    let call : HeldCall = record { header = header; body = body; sender = sender } in
    All-push P [] (step, call) (All-nil P) (each call)
on_ask P step (comes.Fetched incarnation sender) each = All-nil P
on_ask P step (comes.Replied name from reply) each = All-nil P
on_ask P step (comes.IsStale name server from incarnation) each = All-nil P
on_ask P step (comes.IsBefore name from) each = All-nil P
on_ask P step (comes.Told request table) each = All-nil P
on_ask P step (comes.Restored state count) each = All-nil P
on_ask P step (comes.Declared node) each = All-nil P
on_ask P step comes.Joins each = All-nil P

pub asks_more : (p : Past) (step : ℕ) (o : Occurrence) → asks (followed p step o) ≡ asks p ++ ask_in step o
asks_more p step (comes.Asked header body sender) = refl
asks_more p step (comes.Fetched incarnation sender) = sym (append-nil (asks p))
asks_more p step (comes.Replied name from reply) = sym (append-nil (asks p))
asks_more p step (comes.IsStale name server from incarnation) = sym (append-nil (asks p))
asks_more p step (comes.IsBefore name from) = sym (append-nil (asks p))
asks_more p step (comes.Told request table) = sym (append-nil (asks p))
asks_more p step (comes.Restored state count) = sym (append-nil (asks p))
asks_more p step (comes.Declared node) = sym (append-nil (asks p))
asks_more p step comes.Joins = sym (append-nil (asks p))

abbrev pub CameBy : ℕ → ℕ × HeldCall → Type 0
CameBy last e = e.0 ≤ last

pub asks_by : (p : Past) → Rises p → All (CameBy (now p)) (asks p)
asks_by booted rises = All-nil (CameBy 0)
asks_by (followed p step o) rises =
    let later = rises.1 in
    subst (All (CameBy step)) (sym (asks_more p step o))
    (All-append (CameBy step) (asks p) (ask_in step o)
    (All-weaker (CameBy (now p)) (CameBy step) (λ e low. omega (arith, low, later)) (asks p) (asks_by p rises.0))
    (on_ask (CameBy step) step o (λ call. omega arith)))

-- ---- a step

module _ (place : Place) (boot : List View) (begins : Joiner) (first : List ValueTree) (kept : MemberRecord) (p : Past) (step : ℕ) (o : Occurrence) (rises : Rises p) (later : now p < step) where
  abbrev q : Past
  q = followed p step o

  abbrev gives : ℕ × HeldCall → Past → Option (List ℕ)
  gives e = return_at place.troupe begins kept e.0 e.1

  abbrev all_waiting : List (ℕ × HeldCall)
  all_waiting = asks_waiting place.troupe begins kept p step o

  none_before : (call : HeldCall) → first_given (gives (step, call)) p ≡ None
  none_before call =
      none_first (gives (step, call)) (now p) p rises (omega arith)
      (λ r below. ap (λ b. if b then None else if is_stale place.troupe begins kept step call r then Some (stale_message (required_incarnation r)) else if is_before place.troupe begins kept call r then Some (before_message (first_of (phase begins r))) else reply_by place.troupe begins kept call r)
      (lt-ltb (now r) step (omega (arith, below, later))))

  waiting_are : filter (waits (λ (e : ℕ × HeldCall). e.1.sender) gives p) (asks q) ≡ all_waiting
  waiting_are =
      let test : ℕ × HeldCall → Bool = waits (λ (e : ℕ × HeldCall). e.1.sender) gives p in
      ap (filter test) (asks_more p step o) ∙ filter-append test (asks p) (ask_in step o)
      ∙ ap (λ l. unreturned place.troupe begins kept p ++ l) (all_pass test (ask_in step o) (on_ask (λ e. test e ≡ true) step o (λ call. ap is_none (none_before call))))

  pub waiting_by : All (CameBy step) all_waiting
  waiting_by =
      let test : ℕ × HeldCall → Bool = waits (λ (e : ℕ × HeldCall). e.1.sender) gives p in
      All-append (CameBy step) (unreturned place.troupe begins kept p) (ask_in step o)
      (All-weaker (CameBy (now p)) (CameBy step) (λ e low. omega (arith, low, later)) (unreturned place.troupe begins kept p) (All-filter test (CameBy (now p)) (asks p) (asks_by p rises)))
      (on_ask (CameBy step) step o (λ call. omega arith))

  -- what is returned to those that pass a test
  abbrev gets : ℕ × HeldCall → List Effect
  gets e = message_to e.1.sender (gives e q)

  pub returned : (test : ℕ × HeldCall → Bool) → returns_now place boot begins first kept q test ≡ flat_map (λ e. if test e then message_to e.1.sender (return_at place.troupe begins kept e.0 e.1 q) else []) all_waiting
  returned test =
      given_now (λ (e : ℕ × HeldCall). e.1.sender) gives p step o rises later test (asks q)
      ∙ ap (λ l. flat_map gets (filter test l)) waiting_are
      ∙ flat_passing test gets all_waiting

  pub unreturned_then : unreturned place.troupe begins kept q ≡ filter (λ e. is_none (return_at place.troupe begins kept e.0 e.1 q)) all_waiting
  unreturned_then =
      wait_on (λ (e : ℕ × HeldCall). e.1.sender) gives p step o rises later (asks q)
      ∙ ap (filter (λ e. is_none (gives e q))) waiting_are

  -- ---- one ask

  abbrev by_end : ℕ × HeldCall → Bool
  by_end e = is_answered_by_end place boot begins first kept q e

  abbrev stale : ℕ × HeldCall → Bool
  stale e = is_stale place.troupe begins kept e.0 e.1 q

  abbrev before : ℕ × HeldCall → Bool
  before e = is_before place.troupe begins kept e.1 q

  abbrev one : List ℕ
  one = stale_message (required_incarnation q)

  abbrev two : List ℕ
  two = before_message (first_of (phase begins q))

  abbrev own : ℕ × HeldCall → ℕ
  own e = index_of place.troupe e.1.header

  return_is : (e : ℕ × HeldCall) → e.0 ≤ step → gives e q ≡ (if stale e then Some one else if before e then Some two else option_map reply_message (reply_if kept q (λ i. false) (own e)))
  return_is e low =
      ap (λ b. if b then None else if stale e then Some one else if before e then Some two else reply_by place.troupe begins kept e.1 q) (le-ltb step e.0 low)
      ∙ ap (λ r. if stale e then Some one else if before e then Some two else r) (reply_by_is place.troupe begins kept e.1 q)

  -- at once
  module _ (between : NoneBetween kept (now p) step) where
    reply_then : (i : ℕ) → (if ends_now place boot begins first kept q i then None else option_map reply_message (reply_if kept q (λ n. false) i)) ≡ option_map reply_message (reply_if kept p (λ n. false) i)
    reply_then i = by_run (run_of kept i) refl
      where
        by_run : (r : Option RunRecord) → run_of kept i ≡ r
            → (if option_map_or (λ (run : RunRecord). option_map_or (nat_eq step) run.ended false) r false then None else option_map reply_message (option_and_then (λ (run : RunRecord). reply_when (has_ended run q || false) run) r))
            ≡ option_map reply_message (option_and_then (λ (run : RunRecord). reply_when (has_ended run p || false) run) r)
        by_run None is = refl
        by_run (Some run) is = by_fate (fares (now p) step later run.ended ((between i run is).1))
          where
            by_both : (b : Bool) → (if b then None else option_map reply_message (reply_when (b || false) run)) ≡ None
            by_both true = refl
            by_both false = refl

            by_fate : Fares (now p) step later run.ended
                → (if option_map_or (nat_eq step) run.ended false then None else option_map reply_message (reply_when (has_ended run q || false) run)) ≡ option_map reply_message (reply_when (has_ended run p || false) run)
            by_fate (inl ended) =
                (λ j. if ended.2 j then None else option_map reply_message (reply_when (ended.1 j || false) run))
                ∙ sym (ap (λ b. option_map reply_message (reply_when (b || false) run)) ended.0)
            by_fate (inr goes) =
                ap (λ b. if option_map_or (nat_eq step) run.ended false then None else option_map reply_message (reply_when (b || false) run)) goes.1
                ∙ by_both (option_map_or (nat_eq step) run.ended false)
                ∙ sym (ap (λ b. option_map reply_message (reply_when (b || false) run)) goes.0)

    at_once_one : (e : ℕ × HeldCall) → e.0 ≤ step → (if not (by_end e) then gets e else []) ≡ message_to e.1.sender (return_if place.troupe begins kept p step o (λ i. false) e)
    at_once_one e low =
        ap (λ r. if not (by_end e) then message_to e.1.sender r else []) (return_is e low)
        ∙ by_tests (stale e) (before e) (ends_now place boot begins first kept q (own e)) (option_map reply_message (reply_if kept q (λ i. false) (own e)))
        ∙ ap (λ r. message_to e.1.sender (if stale e then Some one else if before e then Some two else r)) (reply_then (own e))
      where
        by_tests : (s b ends : Bool) (r : Option (List ℕ))
            → (if not (not s && not b && ends) then message_to e.1.sender (if s then Some one else if b then Some two else r) else [])
            ≡ message_to e.1.sender (if s then Some one else if b then Some two else if ends then None else r)
        by_tests true b ends r = refl
        by_tests false true ends r = refl
        by_tests false false true r = refl
        by_tests false false false r = refl

    pub at_once_are : returns_at_once place boot begins first kept q ≡ flat_map (λ e. message_to e.1.sender (return_if place.troupe begins kept p step o (λ i. false) e)) all_waiting
    at_once_are =
        let f : ℕ × HeldCall → List Effect = λ e. if not (by_end e) then gets e else [] in
        let g : ℕ × HeldCall → List Effect = λ e. message_to e.1.sender (return_if place.troupe begins kept p step o (λ i. false) e) in
        returned (λ e. not (by_end e)) ∙ same_flat f g all_waiting (All-weaker (CameBy step) (λ e. f e ≡ g e) at_once_one all_waiting waiting_by)

  -- as the run of an index ends
  module _ (done : ℕ → Bool) (i : ℕ) (run : RunRecord) (is : run_of kept i ≡ Some run) where
    abbrev done_then : ℕ → Bool
    done_then n = done n || nat_eq n i

    module _ (ends : run.ended ≡ Some step) (fresh : done i ≡ false) where
      not_before : has_ended run p ≡ false
      not_before = ap (λ x. option_map_or (λ s. nat_le s (now p)) x false) ends ∙ lt-leb step (now p) later

      ends_is : ends_now place boot begins first kept q i ≡ true
      ends_is = ap (λ r. option_map_or (λ (x : RunRecord). option_map_or (nat_eq step) x.ended false) r false) is ∙ ap (λ x. option_map_or (nat_eq step) x false) ends ∙ eq-eqb step step refl

      reply_is : option_map reply_message (reply_if kept q (λ n. false) i) ≡ Some (reply_message (reply_of_run run))
      reply_is =
          ap (λ r. option_map reply_message (option_and_then (λ (x : RunRecord). reply_when (has_ended x q || false) x) r)) is
          ∙ ap (λ x. option_map reply_message (reply_when (option_map_or (λ s. nat_le s step) x false || false) run)) ends
          ∙ ap (λ b. option_map reply_message (reply_when (b || false) run)) (le-leb step step (omega arith))

      pub none_yet : reply_if kept p done i ≡ None
      none_yet =
          ap (option_and_then (λ (x : RunRecord). reply_when (has_ended x p || done i) x)) is ∙ (λ j. reply_when (not_before j || fresh j) run)

      pub end_one : (e : ℕ × HeldCall) → e.0 ≤ step → (if by_end e && is_of_index place.troupe i e.1 then gets e else [])
          ≡ (if is_none (return_if place.troupe begins kept p step o done e) then (if is_of_index place.troupe i e.1 then answer (reply_message (reply_of_run run)) e.1.sender ∷ [] else []) else [])
      end_one e low = ap (λ r. if by_end e && is_of_index place.troupe i e.1 then message_to e.1.sender r else []) (return_is e low) ∙ by_index (eqb_tells (own e) i)
        where
          last : List Effect
          last = answer (reply_message (reply_of_run run)) e.1.sender ∷ []

          shape : Option (List ℕ) → Option (List ℕ)
          shape r = if stale e then Some one else if before e then Some two else r

          by_tests : (s b : Bool)
              → (if (not s && not b && true) && true then message_to e.1.sender (if s then Some one else if b then Some two else Some (reply_message (reply_of_run run))) else [])
              ≡ (if is_none (if s then Some one else if b then Some two else None) then last else [])
          by_tests true b = refl
          by_tests false true = refl
          by_tests false false = refl

          nothing : (b : Bool) → let l : List Effect = if b then [] else [] in [] ≡ l
          nothing true = refl
          nothing false = refl

          by_index : ((nat_eq (own e) i ≡ true) × (own e ≡ i)) ⊎ ((nat_eq (own e) i ≡ false) × ((own e ≡ i) → ⊥))
              → (if by_end e && nat_eq (own e) i then message_to e.1.sender (shape (option_map reply_message (reply_if kept q (λ n. false) (own e)))) else [])
              ≡ (if is_none (shape (option_map reply_message (reply_if kept p done (own e)))) then (if nat_eq (own e) i then last else []) else [])
          by_index (inl same) =
              (λ j. if (not (stale e) && not (before e) && ends_now place boot begins first kept q (same.1 j)) && same.0 j then message_to e.1.sender (shape (option_map reply_message (reply_if kept q (λ n. false) (same.1 j)))) else [])
              ∙ (λ j. if (not (stale e) && not (before e) && ends_is j) && true then message_to e.1.sender (shape (reply_is j)) else [])
              ∙ by_tests (stale e) (before e)
              ∙ sym ((λ j. if is_none (shape (option_map reply_message (reply_if kept p done (same.1 j)))) then (if same.0 j then last else []) else [])
              ∙ (λ j. if is_none (shape (option_map reply_message (none_yet j))) then last else []))
          by_index (inr other) =
              (λ j. if by_end e && other.0 j then message_to e.1.sender (shape (option_map reply_message (reply_if kept q (λ n. false) (own e)))) else [])
              ∙ ap (λ b. if b then message_to e.1.sender (shape (option_map reply_message (reply_if kept q (λ n. false) (own e)))) else []) (and_false (by_end e))
              ∙ nothing (is_none (shape (option_map reply_message (reply_if kept p done (own e)))))
              ∙ sym (ap (λ b. if is_none (shape (option_map reply_message (reply_if kept p done (own e)))) then (if b then last else []) else []) other.0)

    -- its callers wait no longer, and each other index is as before
    pub reply_more : (n : ℕ) → reply_if kept p done_then n ≡ (if nat_eq n i then Some (reply_of_run run) else reply_if kept p done n)
    reply_more n = by_index (eqb_tells n i)
      where
        with_true : (b c : Bool) → reply_when (b || (c || true)) run ≡ Some (reply_of_run run)
        with_true true c = refl
        with_true false true = refl
        with_true false false = refl

        by_index : ((nat_eq n i ≡ true) × (n ≡ i)) ⊎ ((nat_eq n i ≡ false) × ((n ≡ i) → ⊥)) → reply_if kept p done_then n ≡ (if nat_eq n i then Some (reply_of_run run) else reply_if kept p done n)
        by_index (inl same) =
            (λ j. option_and_then (λ (x : RunRecord). reply_when (has_ended x p || (done n || same.0 j)) x) (run_of kept (same.1 j)))
            ∙ ap (option_and_then (λ (x : RunRecord). reply_when (has_ended x p || (done n || true)) x)) is
            ∙ with_true (has_ended run p) (done n)
            ∙ sym (ap (λ b. if b then Some (reply_of_run run) else reply_if kept p done n) same.0)
        by_index (inr other) =
            (λ j. option_and_then (λ (x : RunRecord). reply_when (has_ended x p || (done n || other.0 j)) x) (run_of kept n))
            ∙ (λ j. option_and_then (λ (x : RunRecord). reply_when (has_ended x p || or_false (done n) j) x) (run_of kept n))
            ∙ sym (ap (λ b. if b then Some (reply_of_run run) else reply_if kept p done n) other.0)

    pub waits_less : (e : ℕ × HeldCall) → is_none (return_if place.troupe begins kept p step o done_then e) ≡ (is_none (return_if place.troupe begins kept p step o done e) && not (is_of_index place.troupe i e.1))
    waits_less e =
        ap (λ r. is_none (if stale e then Some one else if before e then Some two else option_map reply_message r)) (reply_more (own e))
        ∙ by_tests (stale e) (before e) (nat_eq (own e) i) (reply_if kept p done (own e))
      where
        by_tests : (s b same : Bool) (r : Option Reply)
            → is_none (if s then Some one else if b then Some two else option_map reply_message (if same then Some (reply_of_run run) else r))
            ≡ (is_none (if s then Some one else if b then Some two else option_map reply_message r) && not same)
        by_tests true b same r = refl
        by_tests false true same r = refl
        by_tests false false true r = sym (and_false (is_none (option_map reply_message r)))
        by_tests false false false r = sym (and_true (is_none (option_map reply_message r)))

  -- at the end of the step, when all runs that end in it have ended
  module _ (done : ℕ → Bool) (all : (n : ℕ) (run : RunRecord) → run_of kept n ≡ Some run → has_ended run q ≡ (has_ended run p || done n)) where
    pub replies_then : (n : ℕ) → reply_if kept q (λ i. false) n ≡ reply_if kept p done n
    replies_then n = by_run (run_of kept n) refl
      where
        by_run : (r : Option RunRecord) → run_of kept n ≡ r → option_and_then (λ (x : RunRecord). reply_when (has_ended x q || false) x) r ≡ option_and_then (λ (x : RunRecord). reply_when (has_ended x p || done n) x) r
        by_run None is = refl
        by_run (Some run) is = ap (λ b. reply_when b run) (or_false (has_ended run q) ∙ all n run is)

    return_then : (e : ℕ × HeldCall) → e.0 ≤ step → is_none (gives e q) ≡ is_none (return_if place.troupe begins kept p step o done e)
    return_then e low = ap is_none (return_is e low) ∙ ap (λ r. is_none (if stale e then Some one else if before e then Some two else option_map reply_message r)) (replies_then (own e))

    pub unreturned_are : unreturned place.troupe begins kept q ≡ filter (λ e. is_none (return_if place.troupe begins kept p step o done e)) all_waiting
    unreturned_are =
        let f : ℕ × HeldCall → Bool = λ e. is_none (gives e q) in
        let g : ℕ × HeldCall → Bool = λ e. is_none (return_if place.troupe begins kept p step o done e) in
        unreturned_then ∙ same_passing f g all_waiting (All-weaker (CameBy step) (λ e. f e ≡ g e) return_then all_waiting waiting_by)
