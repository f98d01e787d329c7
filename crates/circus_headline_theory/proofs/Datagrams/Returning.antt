-- Each return that a member makes has its cause.
use Rattle.std.proofs.Common.{◌≡◌, ℕ, ◌<◌, ◌≤◌, ◌⊎◌, inl, inr, Bool, true, false, if◌then◌else◌, ◌&&◌, List, [], ◌∷◌, length, All, Option, None, Some, refl, sym, ap, subst, ◌∙◌, arith}
use Rattle.std.specs.Prelude.{IsSomeAnd, nat_eq, nat_lt, option_and_then}
use Rattle.std.specs.List.{list_all}
use Rattle.std.proofs.lemmas.Bool.{and_parts, eqb-true, ltb-true, ltb-false}
use Rattle.std.proofs.lemmas.List.Elements.{All-nil, All-push}
use Rattle.circus_value.specs.ValueTree.{ValueTree}
use Rattle.circus_value.specs.declared.caller.Caller.{Caller}
use Rattle.circus_transfer.specs.declared.joiner.Joiner.{Joiner}
use Rattle.circus_transfer.specs.declared.joiner.Joiner.TheVariants.{Outside, Asking, Fetching, Active}
use Rattle.circus_transfer.specs.Snapshot.{snapshot_bytes}
use Rattle.circus_collate.specs.declared.view.View.{View}
use Rattle.circus_record.specs.declared.record.MemberRecord.{MemberRecord}
use Rattle.circus_record.specs.declared.record.RunRecord.{RunRecord}
use Rattle.circus_gather.specs.Gathering.{index_of}
use Rattle.circus_gather.specs.declared.held.HeldCall.{HeldCall}
use Rattle.circus_performing.specs.Performing.{is_active, state_after}
use Rattle.circus_performing.specs.Record.{count_after}
use Rattle.circus_member_rules.specs.declared.place.Place.{Place}
use Rattle.circus_member_rules.specs.declared.occurrence.Effect.{Effect}
use Rattle.circus_member_rules.specs.declared.occurrence.Effect.TheVariants as made
use Rattle.circus_member_rules.specs.declared.occurrence.Occurrence.TheVariants as comes
use Rattle.circus_member_rules.specs.Messages.{reply_message, stale_message, before_message}
use Rattle.circus_member_rules.specs.Step.{reply_of_run}
use Rattle.circus_member_theory.specs.Past.{Past, booted, followed, now, required_incarnation, phase}
use Rattle.circus_member_theory.specs.First.{at_end, or_else, first_given}
use Rattle.circus_member_theory.specs.Made.{is_caller, returns_to, asks, requests, callers}
use Rattle.circus_member_theory.specs.Owed.{IsReturned, IsGivenState, AreReturned}
use Rattle.circus_member_theory.specs.Returns.{first_of, run_of, has_ended, is_stale, is_before, reply_by, return_at, return_owed}
use Rattle.circus_member_theory.specs.Snapshots.{runs_before, began, snapshot_at, snapshot_owed}
use Rattle.circus_world_theory.proofs.Border.Makers.{IsIn, contains}
use Rattle.circus_headline_theory.proofs.Owed.Distinct.{is_caller-refl}
use Rattle.circus_headline_theory.specs.Datagrams.Due.{WasSo, IsStale, IsBefore, IsReply, ReturnIsDue}
use Rattle.circus_headline_theory.proofs.Datagrams.Membership.{in_first, in_second, all_in, in_one}

-- ---- what was given first was given then

pub is_so : (p : Past) → WasSo p p
is_so booted = refl
is_so (followed p step o) = inl refl

record GivenThen {A : Type 0} (gives : Past → Option A) (p : Past) (step : ℕ) (a : A) : Type 0 where
  q : Past
  was : WasSo p q
  now_is : now q ≡ step
  given : gives q ≡ Some a

given_end : {A : Type 0} (gives : Past → Option A) (p : Past) (step : ℕ) (a : A) (o : Option A) → gives p ≡ o → at_end p o ≡ Some (step, a) → GivenThen gives p step a
given_end {A} gives p step a None is end = absurd (let clash : ◌≡◌ {A = Option (ℕ × A)} None (Some (step, a)) = end in cc)
given_end {A} gives p step a (Some b) is end =
    let same : (now p, b) ≡ (step, a) = (let e : ◌≡◌ {A = Option (ℕ × A)} (Some (now p, b)) (Some (step, a)) = end in cc) in
    record { q = p; was = is_so p; now_is = ap (λ (x : ℕ × A). x.0) same; given = is ∙ ap Some (ap (λ (x : ℕ × A). x.1) same) }

given_then : {A : Type 0} (gives : Past → Option A) (p : Past) (step : ℕ) (a : A) → first_given gives p ≡ Some (step, a) → GivenThen gives p step a
unfolding first_given
given_then gives booted step a is = given_end gives booted step a (gives booted) refl is
given_then {A} gives (followed p at o) step a is = by_before (given_then gives p step a) (first_given gives p) refl is
  where
    by_before : (first_given gives p ≡ Some (step, a) → GivenThen gives p step a) → (x : Option (ℕ × A)) → first_given gives p ≡ x → or_else x (at_end (followed p at o) (gives (followed p at o))) ≡ Some (step, a) → GivenThen gives (followed p at o) step a
    by_before earlier None before end = given_end gives (followed p at o) step a (gives (followed p at o)) refl end
    by_before earlier (Some given) before end = (let g = earlier (before ∙ end) in record { q = g.q; was = inr g.was; now_is = g.now_is; given = g.given })

-- ---- who is answered

caller_is : (c other : Caller) → is_caller c other ≡ true → other ≡ c
caller_is c other is =
    let parts = and_parts (nat_eq c.node other.node) (nat_eq c.number other.number) is in
    λ i. record { node = sym (eqb-true c.node other.node parts.0) i; number = sym (eqb-true c.number other.number parts.1) i }

made_to : (c : Caller) (made_ : List (ℕ × Effect)) (step : ℕ) (message : List ℕ) → IsIn made_ (step, made.Answer c message) → IsIn (returns_to c made_) (step, message)
made_to c [] step message at = absurd at
made_to c ((t, made.Call to m purpose) ∷ rest) step message (inl same) = absurd (let clash : ◌≡◌ {A = Effect} (made.Call to m purpose) (made.Answer c message) = ap (λ (x : ℕ × Effect). x.1) same in cc)
made_to c ((t, made.Call to m purpose) ∷ rest) step message (inr at) = made_to c rest step message at
made_to c ((t, made.Answer caller m) ∷ rest) step message (inl same) =
    let step_is : t ≡ step = ap (λ (x : ℕ × Effect). x.0) same in
    let who : caller ≡ c = (let e : made.Answer caller m ≡ made.Answer c message = ap (λ (x : ℕ × Effect). x.1) same in cc) in
    let says : m ≡ message = (let e : made.Answer caller m ≡ made.Answer c message = ap (λ (x : ℕ × Effect). x.1) same in cc) in
    let test : is_caller c caller ≡ true = ap (is_caller c) who ∙ is_caller-refl c in
    subst (λ b. IsIn (if b then (t, m) ∷ returns_to c rest else returns_to c rest) (step, message)) (sym test) (inl (λ i. (step_is i, says i)))
made_to c ((t, made.Answer caller m) ∷ rest) step message (inr at) = by_test (is_caller c caller) (made_to c rest step message at)
  where
    by_test : (b : Bool) → IsIn (returns_to c rest) (step, message) → IsIn (if b then (t, m) ∷ returns_to c rest else returns_to c rest) (step, message)
    by_test true later = inr later
    by_test false later = later

-- a caller of a past asked, or requested a state, or made no call
record HasAsked (p : Past) (c : Caller) : Type 0 where
  step : ℕ
  call : HeldCall
  there : IsIn (asks p) (step, call)
  sender : call.sender ≡ c

abbrev HasRequested : Past → Caller → Type 0
HasRequested p c = (step : ℕ) × IsIn (requests p) (step, c)

abbrev IsNone : Past → Caller → Type 0
IsNone p c = All (λ (other : Caller). is_caller c other ≡ false) (callers p)

abbrev IsWho : Past → Caller → Type 0
IsWho p c = HasAsked p c ⊎ (HasRequested p c ⊎ IsNone p c)

-- nobody calls in a step
still_who : (p q : Past) (c : Caller) → asks p ≡ asks q → requests p ≡ requests q → callers p ≡ callers q → IsWho p c → IsWho q c
still_who p q c same_asks same_requests same_callers (inl a) = inl (record { step = a.step; call = a.call; there = subst (λ l. IsIn l (a.step, a.call)) same_asks a.there; sender = a.sender })
still_who p q c same_asks same_requests same_callers (inr (inl r)) = inr (inl (r.0, subst (λ l. IsIn l (r.0, c)) same_requests r.1))
still_who p q c same_asks same_requests same_callers (inr (inr none)) = inr (inr (subst (All (λ (other : Caller). is_caller c other ≡ false)) same_callers none))

who : (p : Past) (c : Caller) → IsWho p c
who booted c = inr (inr (All-nil (λ (other : Caller). is_caller c other ≡ false)))
who (followed p step (comes.Asked header body sender)) c = by_test (who p c) (is_caller c sender) refl
  where
    call : HeldCall
    call = record { header = header; body = body; sender = sender }

    by_before : is_caller c sender ≡ false → IsWho p c → IsWho (followed p step (comes.Asked header body sender)) c
    by_before other (inl a) = inl (record { step = a.step; call = a.call; there = in_first (asks p) ((step, call) ∷ []) (a.step, a.call) a.there; sender = a.sender })
    by_before other (inr (inl r)) = inr (inl (r.0, r.1))
    by_before other (inr (inr none)) = inr (inr (All-push (λ (other : Caller). is_caller c other ≡ false) (callers p) sender none other))

    by_test : IsWho p c → (b : Bool) → is_caller c sender ≡ b → IsWho (followed p step (comes.Asked header body sender)) c
    by_test before true is = inl (record { step = step; call = call; there = in_second (asks p) ((step, call) ∷ []) (step, call) (inl refl); sender = caller_is c sender is })
    by_test before false is = by_before is before
who (followed p step (comes.Fetched incarnation sender)) c = by_test (who p c) (is_caller c sender) refl
  where
    by_before : is_caller c sender ≡ false → IsWho p c → IsWho (followed p step (comes.Fetched incarnation sender)) c
    by_before other (inl a) = inl (record { step = a.step; call = a.call; there = a.there; sender = a.sender })
    by_before other (inr (inl r)) = inr (inl (r.0, in_first (requests p) ((step, sender) ∷ []) (r.0, c) r.1))
    by_before other (inr (inr none)) = inr (inr (All-push (λ (other : Caller). is_caller c other ≡ false) (callers p) sender none other))

    by_test : IsWho p c → (b : Bool) → is_caller c sender ≡ b → IsWho (followed p step (comes.Fetched incarnation sender)) c
    by_test before true is = inr (inl (step, in_second (requests p) ((step, sender) ∷ []) (step, c) (inl (ap (λ (x : Caller). (step, x)) (caller_is c sender is)))))
    by_test before false is = by_before is before
who (followed p step (comes.Replied name from reply)) c = still_who p (followed p step (comes.Replied name from reply)) c refl refl refl (who p c)
who (followed p step (comes.IsStale name server from incarnation)) c = still_who p (followed p step (comes.IsStale name server from incarnation)) c refl refl refl (who p c)
who (followed p step (comes.IsBefore name from)) c = still_who p (followed p step (comes.IsBefore name from)) c refl refl refl (who p c)
who (followed p step (comes.Told request table)) c = still_who p (followed p step (comes.Told request table)) c refl refl refl (who p c)
who (followed p step (comes.Restored state count)) c = still_who p (followed p step (comes.Restored state count)) c refl refl refl (who p c)
who (followed p step (comes.Declared node)) c = still_who p (followed p step (comes.Declared node)) c refl refl refl (who p c)
who (followed p step comes.Joins) c = still_who p (followed p step comes.Joins) c refl refl refl (who p c)

-- ---- the cause

module _ (place : Place) (boot : List View) (begins : Joiner) (first : List ValueTree) (kept : MemberRecord) where
  before_says : (q : Past) (call : HeldCall) (j : Joiner) → phase begins q ≡ j → index_of place.troupe call.header < first_of j → IsBefore place boot begins first kept q call (before_message (first_of j))
  before_says q call Outside is less = absurd (omega (arith, less))
  before_says q call Asking is less = absurd (omega (arith, less))
  before_says q call (Fetching incarnation) is less = absurd (omega (arith, less))
  before_says q call (Active index) is less = (index, refl, is, less)

  reply_says : (q : Past) (message : List ℕ) (o : Option RunRecord)
      → option_and_then (λ (run : RunRecord). if has_ended run q then Some (reply_message (reply_of_run run)) else None) o ≡ Some message
      → IsSomeAnd o (λ run. (has_ended run q ≡ true) × (message ≡ reply_message (reply_of_run run)))
  reply_says q message None is = absurd (let clash : ◌≡◌ {A = Option (List ℕ)} None (Some message) = is in cc)
  reply_says q message (Some run) is = by_end (has_ended run q) refl is
    where
      by_end : (b : Bool) → has_ended run q ≡ b → (if b then Some (reply_message (reply_of_run run)) else None) ≡ Some message
          → (has_ended run q ≡ true) × (message ≡ reply_message (reply_of_run run))
      by_end true ended e = (ended, (let same : ◌≡◌ {A = Option (List ℕ)} (Some (reply_message (reply_of_run run))) (Some message) = e in cc))
      by_end false ended e = absurd (let clash : ◌≡◌ {A = Option (List ℕ)} None (Some message) = e in cc)

  abbrev Says : Past → HeldCall → List ℕ → Type 0
  Says q call message = IsStale place boot begins first kept q call message ⊎ (IsBefore place boot begins first kept q call message ⊎ IsReply place boot begins first kept q call message)

  return_says : (step : ℕ) (call : HeldCall) (q : Past) (message : List ℕ) → return_at place.troupe begins kept step call q ≡ Some message → (step ≤ now q) × Says q call message
  return_says step call q message is =
      by_tests (nat_lt (now q) step) (is_stale place.troupe begins kept step call q) (is_before place.troupe begins kept call q) refl refl refl is
    where
      by_tests : (early stale before : Bool) → nat_lt (now q) step ≡ early → is_stale place.troupe begins kept step call q ≡ stale → is_before place.troupe begins kept call q ≡ before
          → (if early then None else if stale then Some (stale_message (required_incarnation q)) else if before then Some (before_message (first_of (phase begins q))) else reply_by place.troupe begins kept call q) ≡ Some message
          → (step ≤ now q) × Says q call message
      by_tests true stale before early_is stale_is before_is e = absurd (let clash : ◌≡◌ {A = Option (List ℕ)} None (Some message) = e in cc)
      by_tests false true before early_is stale_is before_is e =
          let same : stale_message (required_incarnation q) ≡ message = (let x : ◌≡◌ {A = Option (List ℕ)} (Some (stale_message (required_incarnation q))) (Some message) = e in cc) in
          (ltb-false (now q) step early_is, inl (sym same, ltb-true call.header.server_incarnation (required_incarnation q) (and_parts (nat_lt call.header.server_incarnation (required_incarnation q)) _ stale_is).0))
      by_tests false false true early_is stale_is before_is e =
          let same : before_message (first_of (phase begins q)) ≡ message = (let x : ◌≡◌ {A = Option (List ℕ)} (Some (before_message (first_of (phase begins q)))) (Some message) = e in cc) in (
            ltb-false (now q) step early_is,
            inr (inl (subst (λ m. IsBefore place boot begins first kept q call m) same
                (before_says q call (phase begins q) refl (ltb-true (index_of place.troupe call.header) (first_of (phase begins q)) before_is)))),
          )
      by_tests false false false early_is stale_is before_is e =
          (ltb-false (now q) step early_is, inr (inr (reply_says q message (run_of kept (index_of place.troupe call.header)) e)))

  snapshot_says : (step : ℕ) (q : Past) (message : List ℕ) → snapshot_at begins first kept step q ≡ Some message
      → (step ≤ now q) × (is_active (phase begins q) ≡ true) × (list_all (λ run. has_ended run q) (runs_before kept q) ≡ true)
      × (message ≡ snapshot_bytes (count_after (first_of (phase begins q)) (length (runs_before kept q))) (state_after (began begins first q) (runs_before kept q)))
  snapshot_says step q message is =
      by_tests (nat_lt (now q) step) (is_active (phase begins q) && list_all (λ run. has_ended run q) (runs_before kept q)) refl refl is
    where
      bytes : List ℕ
      bytes = snapshot_bytes (count_after (first_of (phase begins q)) (length (runs_before kept q))) (state_after (began begins first q) (runs_before kept q))

      by_tests : (early idle : Bool) → nat_lt (now q) step ≡ early → (is_active (phase begins q) && list_all (λ run. has_ended run q) (runs_before kept q)) ≡ idle
          → (if early then None else if idle then Some bytes else None) ≡ Some message
          → (step ≤ now q) × (is_active (phase begins q) ≡ true) × (list_all (λ run. has_ended run q) (runs_before kept q) ≡ true) × (message ≡ bytes)
      by_tests true idle early_is idle_is e = absurd (let clash : ◌≡◌ {A = Option (List ℕ)} None (Some message) = e in cc)
      by_tests false true early_is idle_is e =
          let parts = and_parts (is_active (phase begins q)) (list_all (λ run. has_ended run q) (runs_before kept q)) idle_is in
          (ltb-false (now q) step early_is, parts.0, parts.1, (let x : ◌≡◌ {A = Option (List ℕ)} (Some bytes) (Some message) = e in cc))
      by_tests false false early_is idle_is e = absurd (let clash : ◌≡◌ {A = Option (List ℕ)} None (Some message) = e in cc)

  -- a return that was made in a step has its cause at the end of that
  pub record ReturnWasDue (p : Past) (step : ℕ) (caller : Caller) (message : List ℕ) : Type 0 where
    pub q : Past
    pub was : WasSo p q
    pub now_is : now q ≡ step
    pub due : ReturnIsDue place boot begins first kept p q caller message

  pub return_was_due : (p : Past) (made_ : List (ℕ × Effect)) (step : ℕ) (caller : Caller) (message : List ℕ) → AreReturned place.troupe begins first kept p made_
      → IsIn made_ (step, made.Answer caller message) → ReturnWasDue p step caller message
  return_was_due p made_ step caller message are at = by_who (who p caller)
    where
      there : IsIn (returns_to caller made_) (step, message)
      there = made_to caller made_ step message at

      by_who : IsWho p caller → ReturnWasDue p step caller message
      by_who (inl a) =
          let owed = all_in (IsReturned place.troupe begins kept p made_) (asks p) (a.step, a.call) are.returns a.there in
          let is = in_one (return_owed place.troupe begins kept a.step a.call p) (step, message)
          (subst (λ l. IsIn l (step, message)) (ap (λ (c : Caller). returns_to c made_) (sym a.sender) ∙ owed) there) in
          let g = given_then (return_at place.troupe begins kept a.step a.call) p step message is in
          let s = return_says a.step a.call g.q message g.given in
          record { q = g.q; was = g.was; now_is = g.now_is; due = inl (record { step = a.step; call = a.call; came = contains (asks p) (a.step, a.call) a.there; by_then = s.0; sender = a.sender; says = s.1 }) }
      by_who (inr (inl r)) =
          let owed = all_in (IsGivenState begins first kept p made_) (requests p) (r.0, caller) are.snapshots r.1 in
          let is = in_one (snapshot_owed begins first kept r.0 p) (step, message) (subst (λ l. IsIn l (step, message)) owed there) in
          let g = given_then (snapshot_at begins first kept r.0) p step message is in
          let s = snapshot_says r.0 g.q message g.given in
          record { q = g.q; was = g.was; now_is = g.now_is; due = inr (record { step = r.0; came = contains (requests p) (r.0, caller) r.1; by_then = s.0; active = s.1; idle = s.2; message_is = s.3 }) }
      by_who (inr (inr none)) = absurd (subst (λ l. IsIn l (step, message)) (are.others caller none) there)
