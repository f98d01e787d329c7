-- The state requests that wait are all given the same snapshot in the first step with a moment for it, and wait on in each before.
use Rattle.std.proofs.Common.{◌≡◌, ℕ, ◌<◌, ◌≤◌, Bool, true, false, if◌then◌else◌, List, [], ◌∷◌, ◌++◌, map, filter, All, Option, Some, None, refl, sym, ap, subst, ◌∙◌, arith, append-nil}
use Rattle.std.specs.Prelude.{is_none}
use Rattle.std.specs.List.{flat_map}
use Rattle.std.proofs.lemmas.Bool.{lt-ltb, le-ltb}
use Rattle.std.proofs.lemmas.List.Elements.{All-nil, All-push, All-append, All-weaker, All-filter, filter-append}
use Rattle.circus_value.specs.ValueTree.{ValueTree}
use Rattle.circus_value.specs.declared.caller.Caller.{Caller}
use Rattle.circus_collate.specs.declared.view.View.{View}
use Rattle.circus_transfer.specs.declared.joiner.Joiner.{Joiner}
use Rattle.circus_record.specs.declared.record.MemberRecord.{MemberRecord}
use Rattle.circus_member_rules.specs.declared.place.Place.{Place}
use Rattle.circus_member_rules.specs.declared.occurrence.Effect.{Effect}
use Rattle.circus_member_rules.specs.declared.occurrence.Occurrence.{Occurrence}
use Rattle.circus_member_rules.specs.declared.occurrence.Occurrence.TheVariants as comes
use Rattle.circus_member_rules.specs.Rules.{answers}
use Rattle.circus_member_rules.proofs.Concerned.{all_of}
use Rattle.circus_member_theory.specs.Past.{Past, booted, followed, now, Rises}
use Rattle.circus_member_theory.specs.First.{first_given}
use Rattle.circus_member_theory.specs.Made.{requests}
use Rattle.circus_member_theory.specs.Order.{if_now, snapshots_now}
use Rattle.circus_member_theory.specs.Snapshots.{snapshot_at}
use Rattle.circus_member_theory.proofs.Timely.Firsts.{none_first}
use Rattle.circus_dues.specs.Calls.{request_in, ungiven, has_moment, snapshot_now}
use Rattle.circus_headline_theory.proofs.Owed.AtOnce.{all_stay}
use Rattle.circus_headline_theory.proofs.Owed.Moments.{all_pass}
use Rattle.circus_headline_theory.proofs.Owed.Passing.{same_passing, same_flat, none_flat, flat_through, answers_all}
use Rattle.circus_dues.proofs.CallsGiven.{message_to, waits, given_now, wait_on}

-- ---- what came

on_request : (P : ℕ × Caller → Type 0) (step : ℕ) (o : Occurrence) → ((sender : Caller) → P (step, sender)) → All P (request_in step o)
on_request P step (comes.Fetched incarnation sender) each = All-push P [] (step, sender) (All-nil P) (each sender)
on_request P step (comes.Asked header body sender) each = All-nil P
on_request P step (comes.Replied name from reply) each = All-nil P
on_request P step (comes.IsStale name server from incarnation) each = All-nil P
on_request P step (comes.IsBefore name from) each = All-nil P
on_request P step (comes.Told request table) each = All-nil P
on_request P step (comes.Restored state count) each = All-nil P
on_request P step (comes.Declared node) each = All-nil P
on_request P step comes.Joins each = All-nil P

requests_more : (p : Past) (step : ℕ) (o : Occurrence) → requests (followed p step o) ≡ requests p ++ request_in step o
requests_more p step (comes.Fetched incarnation sender) = refl
requests_more p step (comes.Asked header body sender) = sym (append-nil (requests p))
requests_more p step (comes.Replied name from reply) = sym (append-nil (requests p))
requests_more p step (comes.IsStale name server from incarnation) = sym (append-nil (requests p))
requests_more p step (comes.IsBefore name from) = sym (append-nil (requests p))
requests_more p step (comes.Told request table) = sym (append-nil (requests p))
requests_more p step (comes.Restored state count) = sym (append-nil (requests p))
requests_more p step (comes.Declared node) = sym (append-nil (requests p))
requests_more p step comes.Joins = sym (append-nil (requests p))

abbrev CameBy : ℕ → ℕ × Caller → Type 0
CameBy last e = e.0 ≤ last

requests_by : (p : Past) → Rises p → All (CameBy (now p)) (requests p)
requests_by booted rises = All-nil (CameBy 0)
requests_by (followed p step o) rises =
    let later = rises.1 in
    subst (All (CameBy step)) (sym (requests_more p step o))
    (All-append (CameBy step) (requests p) (request_in step o)
    (All-weaker (CameBy (now p)) (CameBy step) (λ e low. omega (arith, low, later)) (requests p) (requests_by p rises.0))
    (on_request (CameBy step) step o (λ sender. omega arith)))

-- ---- the same to all, or nothing

all_given : (b : Bool) (message : List ℕ) (xs : List (ℕ × Caller))
    → flat_map (λ (e : ℕ × Caller). message_to e.1 (if b then Some message else None)) xs ≡ (if b then answers message (map (λ (e : ℕ × Caller). e.1) xs) else [])
all_given true message xs =
    sym (answers_all message (map (λ (e : ℕ × Caller). e.1) xs) ∙ flat_through (λ (c : Caller). message_to c (Some message)) (λ (e : ℕ × Caller). e.1) xs)
all_given false message xs =
    let f : ℕ × Caller → List Effect = λ e. message_to e.1 None in
    none_flat f xs (all_of (λ e. f e ≡ []) xs (λ e. refl))

none_pass : {X : Type 0} (xs : List X) → filter (λ x. false) xs ≡ []
none_pass [] = refl
none_pass (x ∷ xs) = none_pass xs

all_wait : (b : Bool) (message : List ℕ) (xs : List (ℕ × Caller)) → filter (λ (e : ℕ × Caller). is_none (if b then Some message else None)) xs ≡ (if b then [] else xs)
all_wait true message xs = none_pass xs
all_wait false message xs = all_stay xs

-- ---- a step

module _ (place : Place) (boot : List View) (begins : Joiner) (first : List ValueTree) (kept : MemberRecord) (p : Past) (step : ℕ) (o : Occurrence) (rises : Rises p) (later : now p < step) where
  abbrev q : Past
  q = followed p step o

  abbrev gives : ℕ × Caller → Past → Option (List ℕ)
  gives e = snapshot_at begins first kept e.0

  abbrev sender : ℕ × Caller → Caller
  sender e = e.1

  abbrev pub requests_waiting : List (ℕ × Caller)
  requests_waiting = ungiven begins first kept p ++ request_in step o

  abbrev it : Option (List ℕ)
  it = if has_moment begins kept q then Some (snapshot_now begins first kept q) else None

  none_before : (c : Caller) → first_given (gives (step, c)) p ≡ None
  none_before c =
      none_first (gives (step, c)) (now p) p rises (omega arith)
      (λ r below. ap (λ b. if b then None else if has_moment begins kept r then Some (snapshot_now begins first kept r) else None) (lt-ltb (now r) step (omega (arith, below, later))))

  waiting_are : filter (waits sender gives p) (requests q) ≡ requests_waiting
  waiting_are =
      let test : ℕ × Caller → Bool = waits sender gives p in
      ap (filter test) (requests_more p step o) ∙ filter-append test (requests p) (request_in step o)
      ∙ ap (λ l. ungiven begins first kept p ++ l) (all_pass test (request_in step o) (on_request (λ e. test e ≡ true) step o (λ c. ap is_none (none_before c))))

  waiting_by : All (CameBy step) requests_waiting
  waiting_by =
      All-append (CameBy step) (ungiven begins first kept p) (request_in step o)
      (All-weaker (CameBy (now p)) (CameBy step) (λ e low. omega (arith, low, later)) (ungiven begins first kept p) (All-filter (waits sender gives p) (CameBy (now p)) (requests p) (requests_by p rises)))
      (on_request (CameBy step) step o (λ c. omega arith))

  gives_it : (e : ℕ × Caller) → e.0 ≤ step → gives e q ≡ it
  gives_it e low = ap (λ b. if b then None else it) (le-ltb step e.0 low)

  -- each that waits is given the snapshot, where there is a moment for it, and nobody else
  pub snapshots_are : snapshots_now place boot begins first kept q ≡ (if has_moment begins kept q then answers (snapshot_now begins first kept q) (map (λ (e : ℕ × Caller). e.1) requests_waiting) else [])
  snapshots_are =
      let f : ℕ × Caller → List Effect = λ e. message_to e.1 (gives e q) in
      let g : ℕ × Caller → List Effect = λ e. message_to e.1 it in
      ap (flat_map (λ (e : ℕ × Caller). if_now q e.1 (first_given (gives e) q))) (sym (all_stay (requests q)))
      ∙ given_now sender gives p step o rises later (λ e. true) (requests q)
      ∙ ap (flat_map f) (all_stay (filter (waits sender gives p) (requests q)) ∙ waiting_are)
      ∙ same_flat f g requests_waiting (All-weaker (CameBy step) (λ e. f e ≡ g e) (λ e low. ap (message_to e.1) (gives_it e low)) requests_waiting waiting_by)
      ∙ all_given (has_moment begins kept q) (snapshot_now begins first kept q) requests_waiting

  -- then none waits, and else they wait on
  pub ungiven_then : ungiven begins first kept q ≡ (if has_moment begins kept q then [] else requests_waiting)
  ungiven_then =
      let f : ℕ × Caller → Bool = λ e. is_none (gives e q) in
      let g : ℕ × Caller → Bool = λ e. is_none it in
      wait_on sender gives p step o rises later (requests q)
      ∙ ap (filter f) waiting_are
      ∙ same_passing f g requests_waiting (All-weaker (CameBy step) (λ e. f e ≡ g e) (λ e low. ap is_none (gives_it e low)) requests_waiting waiting_by)
      ∙ all_wait (has_moment begins kept q) (snapshot_now begins first kept q) requests_waiting
