-- What is made in its order, step by step, is what is owed.
use Rattle.std.proofs.Common.{◌≡◌, ℕ, ◌<◌, ◌≤◌, Bool, true, false, cond, if◌then◌else◌, List, [], ◌∷◌, ◌++◌, map, filter, All, Option, Some, None, refl, sym, ap, subst, ◌∙◌, arith, append-nil}
use Rattle.std.specs.Prelude.{nat_lt}
use Rattle.std.specs.List.{flat_map, list_all}
use Rattle.std.proofs.lemmas.Bool.{eq-eqb, ne_eqb, lt-ltb}
use Rattle.std.proofs.lemmas.List.Elements.{All-nil, All-head, All-tail, All-push, filter-append}
use Rattle.circus_value.specs.ValueTree.{ValueTree}
use Rattle.circus_value.specs.declared.caller.Caller.{Caller}
use Rattle.circus_collate.specs.declared.deployment.Deployment.{Deployment}
use Rattle.circus_collate.specs.declared.deployment.Troupe.{Troupe}
use Rattle.circus_collate.specs.declared.view.View.{View}
use Rattle.circus_ring.specs.RingTable.{boot_views}
use Rattle.circus_transfer.specs.declared.joiner.Joiner.{Joiner}
use Rattle.circus_model.specs.Behaviour.{Behaviour}
use Rattle.circus_record.specs.declared.record.MemberRecord.{MemberRecord}
use Rattle.circus_gather.specs.declared.held.HeldCall.{HeldCall}
use Rattle.circus_performing.specs.Performing.{is_active}
use Rattle.circus_member_rules.specs.declared.place.Place.{Place}
use Rattle.circus_member_rules.specs.declared.occurrence.Effect.{Effect}
use Rattle.circus_member_rules.specs.declared.occurrence.Occurrence.{Occurrence}
use Rattle.circus_member_rules.specs.declared.occurrence.Occurrence.TheVariants as comes
use Rattle.circus_member_rules.specs.Messages.{stale_message, before_message}
use Rattle.circus_node.specs.Booting.{beginning_in, home_in}
use Rattle.circus_node.specs.Trace as trace
use Rattle.circus_node.specs.Trace.{Trace}
use Rattle.circus_world_theory.specs.Histories.{beginning_of}
use Rattle.circus_world_theory.specs.Happened.{with_one}
use Rattle.circus_member_theory.specs.Past.{Past, booted, followed, now, Rises, required_incarnation, phase}
use Rattle.circus_member_theory.specs.First.{at_end, or_else, first_given}
use Rattle.circus_member_theory.specs.Asks.{is_of_ask, knows, first_calls, new_asks, calls_owed}
use Rattle.circus_member_theory.specs.Made.{is_caller, returns_to, at_most_one, asks, requests, AreDistinct}
use Rattle.circus_member_theory.specs.Order.{made_in_step}
use Rattle.circus_member_theory.specs.Owed.{IsReturned, IsGivenState, AreReturned, AreRequested, AreAsked}
use Rattle.circus_member_theory.specs.Requests.{is_request, requests_owed}
use Rattle.circus_member_theory.specs.Returns.{first_of, has_ended, is_stale, is_before, reply_by, return_at, return_owed}
use Rattle.circus_member_theory.specs.Snapshots.{runs_before, began, snapshot_at, snapshot_owed}
use Rattle.circus_member_theory.specs.Living.{phase_at_boot}
use Rattle.circus_member_theory.proofs.Timely.Firsts.{first_is, none_first}
use Rattle.circus_headline_theory.specs.NodeRun.{happens_by, past_of, IsOrderedFor, IsOrdered}
use Rattle.circus_headline_theory.specs.Owed.Living.{made_in}
use Rattle.circus_headline_theory.specs.Owed.OrderedMakes.{made_at_boot, BeginsRight, StartInOrder}
use Rattle.circus_headline_theory.specs.Trace as traces
use Rattle.circus_headline_theory.specs.Trace.{made_of, acts_of}
use Rattle.circus_headline_theory.proofs.Owed.Callers.{returned, returns-append, returns_in}
use Rattle.circus_headline_theory.proofs.Owed.Distinct.{All-zip, IsNew, new_caller, new_before, asks_called, requests_called, other_asks, other_requests, is_caller-refl}
use Rattle.circus_headline_theory.proofs.Owed.Handling.{is_by}
use Rattle.circus_headline_theory.proofs.OneRun.{lived_rises}
use Rattle.circus_headline_theory.proofs.Owed.OrderedParts.{AreAll, all_first, requests_in_step, calls_in_step}
use Rattle.circus_headline_theory.proofs.Owed.Ordering.{passing, failing, ask_is_no_request}
use Rattle.circus_headline_theory.proofs.Owed.OrderedReturns.{given_now, none_in_step, snapshot_in_step, return_in_step, no_ask_returns}
use Rattle.circus_headline_theory.proofs.Owed.Passing.{passing_through}
use Rattle.circus_headline_theory.proofs.Owed.States.{shape}

-- ---- what was given first, with what is given in the last step

module _ {A : Type 0} where
  abbrev IsGivenBy : ℕ → Option (ℕ × A) → Type 0
  IsGivenBy step None = Unit {0}
  IsGivenBy step (Some given) = given.0 ≤ step

  given_by : (gives : Past → Option A) (p : Past) → Rises p → IsGivenBy (now p) (first_given gives p)
  given_by gives booted rises = subst (IsGivenBy 0) (sym (first_is gives booted)) (by_last (gives booted))
    where
      by_last : (last : Option A) → IsGivenBy 0 (at_end booted last)
      by_last None = tt
      by_last (Some a) = omega arith
  given_by gives (followed p at o) rises = subst (IsGivenBy at) (sym (first_is gives (followed p at o))) (by_both (first_given gives p) (gives (followed p at o)) (given_by gives p rises.0))
    where
      by_both : (before : Option (ℕ × A)) (last : Option A) → IsGivenBy (now p) before → IsGivenBy at (or_else before (at_end (followed p at o) last))
      by_both None None early = tt
      by_both None (Some a) early = omega arith
      by_both (Some given) last early = (let later = rises.1 in omega (arith, early, later))

given_more : (gives : Past → Option (List ℕ)) (p : Past) (at : ℕ) (o : Occurrence) → Rises (followed p at o)
    → at_most_one (first_given gives p) ++ map (λ (message : List ℕ). (at, message)) (given_now (followed p at o) (first_given gives (followed p at o))) ≡ at_most_one (first_given gives (followed p at o))
given_more gives p at o rises =
    let q = followed p at o in
    let all = first_is gives q in
    ap (λ (x : Option (ℕ × List ℕ)). at_most_one (first_given gives p) ++ map (λ (message : List ℕ). (at, message)) (given_now q x)) all
    ∙ by_both (first_given gives p) (gives q) (given_by gives p rises.0)
    ∙ sym (ap (λ (x : Option (ℕ × List ℕ)). at_most_one x) all)
  where
    by_both : (before : Option (ℕ × List ℕ)) (last : Option (List ℕ)) → IsGivenBy (now p) before
        → at_most_one before ++ map (λ (message : List ℕ). (at, message)) (given_now (followed p at o) (or_else before (at_end (followed p at o) last))) ≡ at_most_one (or_else before (at_end (followed p at o) last))
    by_both None None early = refl
    by_both None (Some message) early = ap (λ t. map (λ (m : List ℕ). (at, m)) (if t then message ∷ [] else [])) (eq-eqb at at refl)
    by_both (Some given) last early =
        let later = rises.1 in
        ap (λ t. given ∷ map (λ (m : List ℕ). (at, m)) (if t then given.1 ∷ [] else [])) (ne_eqb given.0 at (λ same. absurd (omega (arith, early, later, same))))

-- ---- the calls of one caller

module _ {X : Type 0} (test : X → Bool) where
  none_pass : (xs : List X) → All (λ x. test x ≡ false) xs → filter test xs ≡ []
  none_pass [] all = refl
  none_pass (x ∷ xs) all = (λ j. cond (All-head (λ (y : X). test y ≡ false) x xs all j) (x ∷ filter test xs) (filter test xs)) ∙ none_pass xs (All-tail (λ (y : X). test y ≡ false) x xs all)

  with_other : (xs chosen : List X) (x : X) → filter test xs ≡ chosen → test x ≡ false → filter test (xs ++ x ∷ []) ≡ chosen
  with_other xs chosen x are other = filter-append test xs (x ∷ []) ∙ (λ j. are j ++ cond (other j) (x ∷ []) []) ∙ append-nil chosen

  with_own : (xs : List X) (x : X) → filter test xs ≡ [] → test x ≡ true → filter test (xs ++ x ∷ []) ≡ x ∷ []
  with_own xs x none own = filter-append test xs (x ∷ []) ∙ (λ j. none j ++ cond (own j) (x ∷ []) [])

abbrev asks_by : Caller → Past → List (ℕ × HeldCall)
asks_by c p = filter (λ (e : ℕ × HeldCall). is_caller c e.1.sender) (asks p)

abbrev requests_by : Caller → Past → List (ℕ × Caller)
requests_by c p = filter (λ (e : ℕ × Caller). is_caller c e.1) (requests p)

no_asks_by : (c : Caller) (p : Past) → IsNew c p → asks_by c p ≡ []
no_asks_by c p new = none_pass (λ (e : ℕ × HeldCall). is_caller c e.1.sender) (asks p) (asks_called (λ (other : Caller). is_caller c other ≡ false) p new)

no_requests_by : (c : Caller) (p : Past) → IsNew c p → requests_by c p ≡ []
no_requests_by c p new = none_pass (λ (e : ℕ × Caller). is_caller c e.1) (requests p) (requests_called (λ (other : Caller). is_caller c other ≡ false) p new)

-- a call is the only one of its caller, and so is a state request
abbrev AskIsAlone : Past → ℕ × HeldCall → Type 0
AskIsAlone p e = (asks_by e.1.sender p ≡ e ∷ []) × (requests_by e.1.sender p ≡ [])

abbrev RequestIsAlone : Past → ℕ × Caller → Type 0
RequestIsAlone p e = (asks_by e.1 p ≡ []) × (requests_by e.1 p ≡ e ∷ [])

asks_alone : (p : Past) → AreDistinct p → All (AskIsAlone p) (asks p)
asks_alone booted distinct = All-nil (AskIsAlone booted)
asks_alone (followed p at (comes.Asked header body sender)) distinct =
    let call : HeldCall = record { header = header; body = body; sender = sender } in
    let o = comes.Asked header body sender in
    let new = new_caller p sender distinct.1 in
    All-push (AskIsAlone (followed p at o)) (asks p) (at, call)
    (All-zip (AskIsAlone p) (λ (e : ℕ × HeldCall). is_by e.1.sender o ≡ false) (AskIsAlone (followed p at o))
    (λ e alone other. (with_other (λ (x : ℕ × HeldCall). is_caller e.1.sender x.1.sender) (asks p) (e ∷ []) (at, call) alone.0 other, alone.1))
    (asks p) (asks_alone p distinct.0) (other_asks p at o distinct))
    (with_own (λ (x : ℕ × HeldCall). is_caller sender x.1.sender) (asks p) (at, call) (no_asks_by sender p new) (is_caller-refl sender), no_requests_by sender p new)
asks_alone (followed p at (comes.Fetched incarnation sender)) distinct =
    let o = comes.Fetched incarnation sender in
    All-zip (AskIsAlone p) (λ (e : ℕ × HeldCall). is_by e.1.sender o ≡ false) (AskIsAlone (followed p at o))
    (λ e alone other. (alone.0, with_other (λ (x : ℕ × Caller). is_caller e.1.sender x.1) (requests p) [] (at, sender) alone.1 other))
    (asks p) (asks_alone p distinct.0) (other_asks p at o distinct)
asks_alone (followed p at (comes.Replied name from reply)) distinct = asks_alone p distinct
asks_alone (followed p at (comes.IsStale name server from incarnation)) distinct = asks_alone p distinct
asks_alone (followed p at (comes.IsBefore name from)) distinct = asks_alone p distinct
asks_alone (followed p at (comes.Told request table)) distinct = asks_alone p distinct
asks_alone (followed p at (comes.Restored state count)) distinct = asks_alone p distinct
asks_alone (followed p at (comes.Declared node)) distinct = asks_alone p distinct
asks_alone (followed p at comes.Joins) distinct = asks_alone p distinct

requests_alone : (p : Past) → AreDistinct p → All (RequestIsAlone p) (requests p)
requests_alone booted distinct = All-nil (RequestIsAlone booted)
requests_alone (followed p at (comes.Asked header body sender)) distinct =
    let call : HeldCall = record { header = header; body = body; sender = sender } in
    let o = comes.Asked header body sender in
    All-zip (RequestIsAlone p) (λ (e : ℕ × Caller). is_by e.1 o ≡ false) (RequestIsAlone (followed p at o))
    (λ e alone other. (with_other (λ (x : ℕ × HeldCall). is_caller e.1 x.1.sender) (asks p) [] (at, call) alone.0 other, alone.1))
    (requests p) (requests_alone p distinct.0) (other_requests p at o distinct)
requests_alone (followed p at (comes.Fetched incarnation sender)) distinct =
    let o = comes.Fetched incarnation sender in
    let new = new_caller p sender distinct.1 in
    All-push (RequestIsAlone (followed p at o)) (requests p) (at, sender)
    (All-zip (RequestIsAlone p) (λ (e : ℕ × Caller). is_by e.1 o ≡ false) (RequestIsAlone (followed p at o))
    (λ e alone other. (alone.0, with_other (λ (x : ℕ × Caller). is_caller e.1 x.1) (requests p) (e ∷ []) (at, sender) alone.1 other))
    (requests p) (requests_alone p distinct.0) (other_requests p at o distinct))
    (no_asks_by sender p new, with_own (λ (x : ℕ × Caller). is_caller sender x.1) (requests p) (at, sender) (no_requests_by sender p new) (is_caller-refl sender))
requests_alone (followed p at (comes.Replied name from reply)) distinct = requests_alone p distinct
requests_alone (followed p at (comes.IsStale name server from incarnation)) distinct = requests_alone p distinct
requests_alone (followed p at (comes.IsBefore name from)) distinct = requests_alone p distinct
requests_alone (followed p at (comes.Told request table)) distinct = requests_alone p distinct
requests_alone (followed p at (comes.Restored state count)) distinct = requests_alone p distinct
requests_alone (followed p at (comes.Declared node)) distinct = requests_alone p distinct
requests_alone (followed p at comes.Joins) distinct = requests_alone p distinct

distinct_before : (p : Past) (at : ℕ) (o : Occurrence) → AreDistinct (followed p at o) → AreDistinct p
distinct_before p at (comes.Asked header body sender) distinct = distinct.0
distinct_before p at (comes.Fetched incarnation sender) distinct = distinct.0
distinct_before p at (comes.Replied name from reply) distinct = distinct
distinct_before p at (comes.IsStale name server from incarnation) distinct = distinct
distinct_before p at (comes.IsBefore name from) distinct = distinct
distinct_before p at (comes.Told request table) distinct = distinct
distinct_before p at (comes.Restored state count) distinct = distinct
distinct_before p at (comes.Declared node) distinct = distinct
distinct_before p at comes.Joins distinct = distinct

-- ---- what a member makes that makes in each step what stands in its order, and at boot the first calls of its asks

module _ (place : Place) (boot : List View) (begins : Joiner) (first : List ValueTree) (kept : MemberRecord) where
  abbrev made_first : List Effect
  made_first = flat_map (first_calls place boot (knows place boot booted)) (new_asks place boot kept booted)

  abbrev makes : Past → ℕ → Occurrence → List Effect
  makes p at o = made_in_step place boot begins first kept p (followed p at o)

  abbrev pub all_made : Past → List (ℕ × Effect)
  all_made booted = made_in 0 made_first
  all_made (followed p at o) = all_made p ++ made_in at (makes p at o)

  first_are : AreAll is_of_ask made_first
  first_are = all_first place boot (knows place boot booted) (new_asks place boot kept booted)

  -- ---- calls

  requested_so : (p : Past) → filter (λ (e : ℕ × Effect). is_request e.1) (all_made p) ≡ requests_owed place boot begins kept p
  requested_so booted =
      passing_through (λ (e : ℕ × Effect). is_request e.1) (λ (e : Effect). (0, e)) made_first ∙ ap (made_in 0) (failing is_request is_of_ask ask_is_no_request made_first first_are)
  requested_so (followed p at o) =
      let before = requested_so p in
      let now_made = passing_through (λ (e : ℕ × Effect). is_request e.1) (λ (e : Effect). (at, e)) (makes p at o) ∙ ap (made_in at) (requests_in_step place boot begins first kept p (followed p at o)) in
      filter-append (λ (e : ℕ × Effect). is_request e.1) (all_made p) (made_in at (makes p at o)) ∙ (λ j. before j ++ now_made j)

  pub are_requested : (p : Past) → AreRequested place boot begins kept p (all_made p)
  are_requested p = record { requests = requested_so p }

  asked_so : StartInOrder kept.runs → (p : Past) → filter (λ (e : ℕ × Effect). is_of_ask e.1) (all_made p) ≡ calls_owed place boot kept p
  asked_so order booted = passing_through (λ (e : ℕ × Effect). is_of_ask e.1) (λ (e : Effect). (0, e)) made_first ∙ ap (made_in 0) (passing is_of_ask made_first first_are)
  asked_so order (followed p at o) =
      let before = asked_so order p in
      let now_made = passing_through (λ (e : ℕ × Effect). is_of_ask e.1) (λ (e : Effect). (at, e)) (makes p at o) ∙ ap (made_in at) (calls_in_step place boot begins first kept p (followed p at o) order) in
      filter-append (λ (e : ℕ × Effect). is_of_ask e.1) (all_made p) (made_in at (makes p at o)) ∙ (λ j. before j ++ now_made j)

  pub are_asked : StartInOrder kept.runs → (p : Past) → AreAsked place boot kept p (all_made p)
  are_asked order p = record { calls = asked_so order p }

  -- ---- returns

  returned_more : (c : Caller) (p : Past) (at : ℕ) (o : Occurrence) (returns : List (List ℕ)) → returned c (makes p at o) ≡ returns
      → returns_to c (all_made (followed p at o)) ≡ returns_to c (all_made p) ++ map (λ (message : List ℕ). (at, message)) returns
  returned_more c p at o returns are =
      returns-append c (all_made p) (made_in at (makes p at o))
      ∙ ap (λ l. returns_to c (all_made p) ++ l) (returns_in c at (makes p at o) ∙ ap (map (λ (message : List ℕ). (at, message))) are)

  -- whoever made no call gets none
  others_so : (p : Past) (c : Caller) → IsNew c p → returns_to c (all_made p) ≡ []
  others_so booted c new = returns_in c 0 made_first ∙ ap (map (λ (message : List ℕ). (0, message))) (no_ask_returns c made_first first_are)
  others_so (followed p at o) c new =
      let q = followed p at o in
      returned_more c p at o [] (none_in_step c place boot begins first kept p q (no_asks_by c q new) (no_requests_by c q new)) ∙ ap (λ l. l ++ []) (others_so p c (new_before c p at o new))

  -- who got what it was given first gets it in the next step, or got it before
  fares : (gives : Past → Option (List ℕ)) (c : Caller) (p : Past) (at : ℕ) (o : Occurrence) → Rises (followed p at o) → returns_to c (all_made p) ≡ at_most_one (first_given gives p)
      → returned c (makes p at o) ≡ given_now (followed p at o) (first_given gives (followed p at o)) → returns_to c (all_made (followed p at o)) ≡ at_most_one (first_given gives (followed p at o))
  fares gives c p at o rises before is =
      let q = followed p at o in
      returned_more c p at o (given_now q (first_given gives q)) is
      ∙ ap (λ l. l ++ map (λ (message : List ℕ). (at, message)) (given_now q (first_given gives q))) before
      ∙ given_more gives p at o rises

  -- a call is owed nothing before it comes, and a state request neither
  no_return_yet : (p : Past) (at : ℕ) (call : HeldCall) → Rises p → now p < at → return_owed place.troupe begins kept at call p ≡ None
  no_return_yet p at call rises before =
      none_first (return_at place.troupe begins kept at call) (now p) p rises (omega arith)
      (λ r below.
      let late : nat_lt (now r) at ≡ true = lt-ltb (now r) at (omega (arith, below, before)) in
      ap (λ t. if t then None
      else if is_stale place.troupe begins kept at call r then Some (stale_message (required_incarnation r))
      else if is_before place.troupe begins kept call r then Some (before_message (first_of (phase begins r)))
      else reply_by place.troupe begins kept call r) late)

  no_snapshot_yet : (p : Past) (at : ℕ) → Rises p → now p < at → snapshot_owed begins first kept at p ≡ None
  no_snapshot_yet p at rises before =
      none_first (snapshot_at begins first kept at) (now p) p rises (omega arith)
      (λ r below.
      let late : nat_lt (now r) at ≡ true = lt-ltb (now r) at (omega (arith, below, before)) in
      ap (λ t. shape t (is_active (phase begins r)) (list_all (λ run. has_ended run r) (runs_before kept r)) (first_of (phase begins r)) (began begins first r) (runs_before kept r)) late)

  abbrev IsReturnedBy : Past → ℕ × HeldCall → Type 0
  IsReturnedBy p e = IsReturned place.troupe begins kept p (all_made p) e

  abbrev IsGivenStateBy : Past → ℕ × Caller → Type 0
  IsGivenStateBy p e = IsGivenState begins first kept p (all_made p) e

  asks_so_far : (p : Past) (at : ℕ) (o : Occurrence) → Rises (followed p at o) → AreDistinct (followed p at o) → All (IsReturnedBy p) (asks p) → All (IsReturnedBy p) (asks (followed p at o))
  asks_so_far p at (comes.Asked header body sender) rises distinct before =
      let call : HeldCall = record { header = header; body = body; sender = sender } in
      All-push (IsReturnedBy p) (asks p) (at, call) before
      (others_so p sender (new_caller p sender distinct.1) ∙ sym (ap (λ (x : Option (ℕ × List ℕ)). at_most_one x) (no_return_yet p at call rises.0 rises.1)))
  asks_so_far p at (comes.Fetched incarnation sender) rises distinct before = before
  asks_so_far p at (comes.Replied name from reply) rises distinct before = before
  asks_so_far p at (comes.IsStale name server from incarnation) rises distinct before = before
  asks_so_far p at (comes.IsBefore name from) rises distinct before = before
  asks_so_far p at (comes.Told request table) rises distinct before = before
  asks_so_far p at (comes.Restored state count) rises distinct before = before
  asks_so_far p at (comes.Declared node) rises distinct before = before
  asks_so_far p at comes.Joins rises distinct before = before

  returns_so : (p : Past) → Rises p → AreDistinct p → All (IsReturnedBy p) (asks p)
  returns_so booted rises distinct = All-nil (IsReturnedBy booted)
  returns_so (followed p at o) rises distinct =
      let q = followed p at o in
      All-zip (AskIsAlone q) (IsReturnedBy p) (IsReturnedBy q)
      (λ e alone before. fares (return_at place.troupe begins kept e.0 e.1) e.1.sender p at o rises before (return_in_step e.1.sender place boot begins first kept p q e alone.0 alone.1))
      (asks q) (asks_alone q distinct) (asks_so_far p at o rises distinct (returns_so p rises.0 (distinct_before p at o distinct)))

  requests_so_far : (p : Past) (at : ℕ) (o : Occurrence) → Rises (followed p at o) → AreDistinct (followed p at o) → All (IsGivenStateBy p) (requests p) → All (IsGivenStateBy p) (requests (followed p at o))
  requests_so_far p at (comes.Asked header body sender) rises distinct before = before
  requests_so_far p at (comes.Fetched incarnation sender) rises distinct before =
      All-push (IsGivenStateBy p) (requests p) (at, sender) before
      (others_so p sender (new_caller p sender distinct.1) ∙ sym (ap (λ (x : Option (ℕ × List ℕ)). at_most_one x) (no_snapshot_yet p at rises.0 rises.1)))
  requests_so_far p at (comes.Replied name from reply) rises distinct before = before
  requests_so_far p at (comes.IsStale name server from incarnation) rises distinct before = before
  requests_so_far p at (comes.IsBefore name from) rises distinct before = before
  requests_so_far p at (comes.Told request table) rises distinct before = before
  requests_so_far p at (comes.Restored state count) rises distinct before = before
  requests_so_far p at (comes.Declared node) rises distinct before = before
  requests_so_far p at comes.Joins rises distinct before = before

  snapshots_so : (p : Past) → Rises p → AreDistinct p → All (IsGivenStateBy p) (requests p)
  snapshots_so booted rises distinct = All-nil (IsGivenStateBy booted)
  snapshots_so (followed p at o) rises distinct =
      let q = followed p at o in
      All-zip (RequestIsAlone q) (IsGivenStateBy p) (IsGivenStateBy q)
      (λ e alone before. fares (snapshot_at begins first kept e.0) e.1 p at o rises before (snapshot_in_step e.1 place boot begins first kept p q e alone.0 alone.1))
      (requests q) (requests_alone q distinct) (requests_so_far p at o rises distinct (snapshots_so p rises.0 (distinct_before p at o distinct)))

  pub are_returned : (p : Past) → Rises p → AreDistinct p → AreReturned place.troupe begins first kept p (all_made p)
  are_returned p rises distinct = record { returns = returns_so p rises distinct; snapshots = snapshots_so p rises distinct; others = λ c new. others_so p c new }

-- ---- along a trace

module _ (d : Deployment) (b : Behaviour) (node number : ℕ) (troupe : Troupe) (kept : MemberRecord) where
  abbrev here : Place
  here = (home_in d node number troupe).place

  abbrev at_first : List View
  at_first = boot_views d.troupes

  abbrev start : Joiner
  start = phase_at_boot (beginning_in troupe node)

  abbrev lived : Trace → Past
  lived t = past_of d b node number troupe kept t

  made_along : (t : Trace) → IsOrdered d b node number troupe kept t → BeginsRight here at_first kept (made_at_boot t) → made_of t ≡ all_made here at_first start b.first kept (lived t)
  made_along (trace.booted made outputs) ordered right = ap (made_in 0) right
  made_along (trace.stepped t at event made outputs) ordered right =
      by_one (made_along t ordered.0 right) (happens_by d b.declared node number kept (acts_of (beginning_of d node) t) event) ordered.1
    where
      by_one : made_of t ≡ all_made here at_first start b.first kept (lived t) → (o : Option Occurrence) → IsOrderedFor d b node number troupe kept (lived t) at made o
          → made_of t ++ made_in at made ≡ all_made here at_first start b.first kept (with_one (lived t) at o)
      by_one before None none = ap (λ l. made_of t ++ made_in at l) none ∙ append-nil (made_of t) ∙ before
      by_one before (Some o) so = (λ j. before j ++ made_in at (so j))

  pub requests_by_order : (t : Trace) → IsOrdered d b node number troupe kept t → BeginsRight here at_first kept (made_at_boot t) → AreRequested here at_first start kept (lived t) (made_of t)
  requests_by_order t ordered right = subst (AreRequested here at_first start kept (lived t)) (sym (made_along t ordered right)) (are_requested here at_first start b.first kept (lived t))

  pub calls_by_order : (t : Trace) → IsOrdered d b node number troupe kept t → BeginsRight here at_first kept (made_at_boot t) → StartInOrder kept.runs → AreAsked here at_first kept (lived t) (made_of t)
  calls_by_order t ordered right order = subst (AreAsked here at_first kept (lived t)) (sym (made_along t ordered right)) (are_asked here at_first start b.first kept order (lived t))

  pub returns_by_order : (t : Trace) → IsOrdered d b node number troupe kept t → BeginsRight here at_first kept (made_at_boot t) → traces.Rises t → AreDistinct (lived t) → AreReturned number start b.first kept (lived t) (made_of t)
  returns_by_order t ordered right rises distinct =
      subst (AreReturned number start b.first kept (lived t)) (sym (made_along t ordered right)) (are_returned here at_first start b.first kept (lived t) (lived_rises d b node number troupe kept t rises) distinct)
