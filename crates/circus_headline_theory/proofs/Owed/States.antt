-- Each state request gets the one snapshot that it is owed, in the step in which it is owed.
use Rattle.std.proofs.Common.{◌≡◌, ℕ, ◌<◌, ◌≤◌, Bool, true, false, true≢false, ◌&&◌, not, cond, ◌⊎◌, inl, inr, if◌then◌else◌, List, [], ◌∷◌, ◌++◌, map, filter, length, All, Option, Some, None, refl, sym, ap, subst, ◌∙◌, arith}
use Rattle.std.specs.Prelude.{nat_lt, nat_le, IfSome, is_some, is_none, max}
use Rattle.std.specs.List.{list_all}
use Rattle.std.specs.Option.{option_map_or}
use Rattle.std.proofs.lemmas.Bool.{lt-ltb, le-ltb, le-leb}
use Rattle.std.proofs.lemmas.List.Elements.{All-nil, All-cons, All-head, All-tail, All-push, All-filter, All-weaker, filter-append}
use Rattle.circus_value.specs.ValueTree.{ValueTree}
use Rattle.circus_value.specs.declared.caller.Caller.{Caller}
use Rattle.circus_value.specs.declared.outcome.Outcome.{Outcome}
use Rattle.circus_collate.specs.declared.view.View.{View}
use Rattle.circus_transfer.specs.declared.joiner.Joiner.{Joiner}
use Rattle.circus_transfer.specs.Snapshot.{snapshot_bytes}
use Rattle.circus_model.specs.declared.signature.Signature.{Signature}
use Rattle.circus_model.specs.NextTurn.{NextTurn}
use Rattle.circus_model.specs.Behaviour.{IsModule}
use Rattle.circus_record.specs.declared.record.AskRecord.{AskRecord}
use Rattle.circus_record.specs.declared.record.MemberRecord.{MemberRecord}
use Rattle.circus_record.specs.declared.record.RunRecord.{RunRecord}
use Rattle.circus_gather.specs.Gathering.{is_stale}
use Rattle.circus_gather.specs.declared.held.HeldCall.{HeldCall}
use Rattle.circus_performing.specs.Performing.{is_active, open_ask, state_after}
use Rattle.circus_performing.specs.Record.{behaviour, count_after}
use Rattle.circus_member_rules.specs.declared.place.Place.{Place}
use Rattle.circus_member_rules.specs.declared.place.Beginning.{Beginning}
use Rattle.circus_member_rules.specs.declared.occurrence.Effect.{Effect}
use Rattle.circus_member_rules.specs.declared.occurrence.Occurrence.{Occurrence}
use Rattle.circus_member_rules.specs.declared.occurrence.Occurrence.TheVariants as comes
use Rattle.circus_member_rules.specs.Messages.{stale_message}
use Rattle.circus_member_rules.specs.Happening.{IsHome}
use Rattle.circus_member_rules.specs.MemberState.{MemberState, Doing}
use Rattle.circus_member_rules.specs.Step.{is_idle}
use Rattle.circus_member_rules.proofs.Writing.{one_is_performing}
use Rattle.circus_member_theory.specs.Past.{Past, booted, followed, now, phase}
use Rattle.circus_member_theory.specs.First.{at_end, or_else}
use Rattle.circus_member_theory.specs.Made.{is_caller, returns_to, at_most_one, requests, AreDistinct}
use Rattle.circus_member_theory.specs.Owed.{IsGivenState, AreReturned}
use Rattle.circus_member_theory.specs.Returns.{first_of, has_ended}
use Rattle.circus_member_theory.specs.Snapshots.{began, runs_before, snapshot_at, snapshot_owed}
use Rattle.circus_headline_theory.specs.Owed.Living.{made_by}
use Rattle.circus_member_theory.specs.Living.{phase_at_boot, after, MayLive}
use Rattle.circus_headline_theory.proofs.Owed.Callers.{is_from, filter_twice, returned_passed}
use Rattle.circus_headline_theory.proofs.Owed.Distinct.{All-zip, All-last, is_caller-refl, new_caller, other_requests}
use Rattle.circus_member_theory.proofs.Timely.Firsts.{first_is, same_first, none_first}
use Rattle.circus_headline_theory.proofs.Owed.Going.{executed_keeps}
use Rattle.circus_headline_theory.proofs.Owed.Grown.{AreGrown}
use Rattle.circus_headline_theory.proofs.Owed.Handling.{is_by, tells, quiet_handled}
use Rattle.circus_headline_theory.proofs.Owed.Lives.{rises, IsKnown, handles, executes, IsStepped, step_is, known}
use Rattle.circus_headline_theory.proofs.Owed.Moments.{is_early, IsSameThen, same_then, within_all, all_pass, AreEarly, Pends, IsGiven, Fate, fate_keeps}
use Rattle.circus_headline_theory.proofs.Owed.Returned.{IsSilent, made_more, quiet_executed, silent, returned_all}
use Rattle.circus_headline_theory.proofs.Owed.Status.{IsWithin}
use Rattle.circus_headline_theory.proofs.Owed.Stays.{is_same}

pub all_are : {X : Type 0} (p : X → Bool) (xs : List X) → All (λ x. p x ≡ true) xs → list_all p xs ≡ true
all_are {X} p [] all = refl
all_are {X} p (x ∷ xs) all =
    let P : X → Type 0 = λ y. p y ≡ true in
    ap (λ b. b && list_all p xs) (All-head P x xs all) ∙ all_are p xs (All-tail P x xs all)

pub all_then : {X : Type 0} (p : X → Bool) (xs : List X) → list_all p xs ≡ true → All (λ x. p x ≡ true) xs
all_then {X} p [] is = All-nil (λ (x : X). p x ≡ true)
all_then {X} p (x ∷ xs) is = by_test (all_then p xs) (p x) refl is
  where
    by_test : (list_all p xs ≡ true → All (λ y. p y ≡ true) xs) → (b : Bool) → p x ≡ b → (b && list_all p xs) ≡ true → All (λ y. p y ≡ true) (x ∷ xs)
    by_test later true here rest = All-cons (λ (y : X). p y ≡ true) x xs here (later rest)
    by_test later false here rest = cc

pub both_false : (b : Bool) → (b && false) ≡ false
both_false true = refl
both_false false = refl

pub none_either : (b : Bool) → let o : Option (List ℕ) = if b then None else None in o ≡ None
none_either true = refl
none_either false = refl

-- a run that has an end by a step
pub has_end : (q : Past) (run : RunRecord) → is_some run.ended ≡ true → IsWithin (now q) run → has_ended run q ≡ true
has_end q run some within = by_end run.ended some within.1
  where
    by_end : (o : Option ℕ) → is_some o ≡ true → IfSome o (λ s. s ≤ now q) → option_map_or (λ s. nat_le s (now q)) o false ≡ true
    by_end None none low = cc
    by_end (Some s) there_is low = le-leb s (now q) low

-- what is owed, by its tests
abbrev pub shape : Bool → Bool → Bool → ℕ → List ValueTree → List RunRecord → Option (List ℕ)
shape late active ended from state runs =
    if late then None else if active && ended then Some (snapshot_bytes (count_after from (length runs)) (state_after state runs)) else None

-- a record that a step made grow says the same of the moments before
pub snapshot_same : (begins : Joiner) (state : List ValueTree) (step : ℕ) (old new : MemberRecord) → AreGrown step old.runs new.runs → (came : ℕ) (r : Past) → now r < step
    → snapshot_at begins state old came r ≡ snapshot_at begins state new came r
snapshot_same begins state step old new grown came r below = by_runs (same_then step r below old.runs new.runs grown)
  where
    none : (runs : List RunRecord) → list_all (λ run. has_ended run r) runs ≡ false → shape (nat_lt (now r) came) (is_active (phase begins r)) (list_all (λ run. has_ended run r) runs) (first_of (phase begins r)) (began begins state r) runs ≡ None
    none runs is =
        ap (λ b. shape (nat_lt (now r) came) (is_active (phase begins r)) b (first_of (phase begins r)) (began begins state r) runs) is
        ∙ ap (λ b. if nat_lt (now r) came then None else if b then Some (snapshot_bytes (count_after (first_of (phase begins r)) (length runs)) (state_after (began begins state r) runs)) else None) (both_false (is_active (phase begins r)))
        ∙ none_either (nat_lt (now r) came)

    by_runs : IsSameThen r (runs_before old r) (runs_before new r) → snapshot_at begins state old came r ≡ snapshot_at begins state new came r
    by_runs (inl same) = ap (λ runs. shape (nat_lt (now r) came) (is_active (phase begins r)) (list_all (λ run. has_ended run r) runs) (first_of (phase begins r)) (began begins state r) runs) same
    by_runs (inr ended) = none (runs_before old r) ended.0 ∙ sym (none (runs_before new r) ended.1)

module _ {M : Type 0} (declared : M → Signature) (turn : M → List ValueTree → ℕ → List ValueTree → List Outcome → NextTurn) (first : M → List ValueTree) (lawful : (hosted : M) → IsModule (behaviour declared turn first hosted)) (place : Place) (views : List View) (beginning : Beginning) (hosted : M) where
  abbrev makes : Past → List (ℕ × Effect)
  makes p = made_by declared turn first place views beginning hosted p

  abbrev start : Joiner
  start = phase_at_boot beginning

  abbrev life : Past → MemberState M
  life p = after declared turn first place views beginning hosted p

  abbrev kept_after : Past → MemberRecord
  kept_after p = (life p).performing.kept

  abbrev owes : MemberRecord → ℕ → Past → Option (ℕ × List ℕ)
  owes kept came p = snapshot_owed start (first hosted) kept came p

  -- a request waits, and is owed nothing yet
  pub record AwaitsState (p : Past) (came : ℕ) (c : Caller) : Type 0 where
    pub asker : Caller
    pub held : filter (is_from c) (life p).gathered.held ≡ []
    pub askers : filter (is_caller c) (life p).requests ≡ asker ∷ []
    pub returns : returns_to c (makes p) ≡ []
    pub owed : owes (kept_after p) came p ≡ None

  -- it has the snapshot that it was owed
  pub record HasState (p : Past) (came : ℕ) (c : Caller) : Type 0 where
    pub given : ℕ × List ℕ
    pub held : filter (is_from c) (life p).gathered.held ≡ []
    pub askers : filter (is_caller c) (life p).requests ≡ []
    pub returns : returns_to c (makes p) ≡ given ∷ []
    pub owed : owes (kept_after p) came p ≡ Some given

  abbrev pub Fares : Past → ℕ × Caller → Type 0
  Fares p e = (e.0 ≤ now p) × (AwaitsState p e.0 e.1 ⊎ HasState p e.0 e.1)

  module _ (home : IsHome (declared hosted) place views) where
    module _ (p : Past) (at : ℕ) (o : Occurrence) (may : MayLive declared turn first place views beginning hosted (followed p at o)) where
      abbrev m : MemberState M
      m = life p

      abbrev q : Past
      q = followed p at o

      abbrev d : Doing M
      d = handles declared turn first lawful place views beginning hosted p at o

      abbrev e : Doing M
      e = executes declared turn first lawful place views beginning hosted p at o

      h : IsKnown declared turn first lawful place views beginning hosted p m
      h = known declared turn first lawful place views beginning hosted home p may.0

      s : IsStepped declared turn first lawful place views beginning hosted p at o
      s = step_is declared turn first lawful place views beginning hosted home p at o may h

      k : IsKnown declared turn first lawful place views beginning hosted q (life q)
      k = known declared turn first lawful place views beginning hosted home q may

      -- ---- what is owed

      same_at : (came : ℕ) (r : Past) → now r < at → snapshot_at start (first hosted) (kept_after p) came r ≡ snapshot_at start (first hosted) (kept_after q) came r
      same_at came r below = snapshot_same start (first hosted) at (kept_after p) (kept_after q) s.grown came r below

      pub earlier_same : (came : ℕ) → owes (kept_after q) came p ≡ owes (kept_after p) came p
      earlier_same came =
          let later = may.1 in
          sym (same_first (snapshot_at start (first hosted) (kept_after p) came) (snapshot_at start (first hosted) (kept_after q) came) (now p) p (rises declared turn first lawful place views beginning hosted p may.0) (omega arith)
          (λ r below. same_at came r (omega (arith, below, later))))

      owed_then : (came : ℕ) (before : Option (ℕ × List ℕ)) (last : Option (List ℕ)) → owes (kept_after q) came p ≡ before → snapshot_at start (first hosted) (kept_after q) came q ≡ last → owes (kept_after q) came q ≡ or_else before (at_end q last)
      owed_then came before last was is =
          first_is (snapshot_at start (first hosted) (kept_after q) came) q ∙ ap (λ x. or_else x (at_end q (snapshot_at start (first hosted) (kept_after q) came q))) was ∙ ap (λ x. or_else before (at_end q x)) is

      -- where the state was given in this step
      owed_given : (c x : Caller) (came : ℕ) → came ≤ at → IsGiven c x declared turn first lawful at d.member e
          → snapshot_at start (first hosted) (kept_after q) came q
          ≡ Some (snapshot_bytes (count_after d.member.performing.kept.from (length (runs_before (kept_after q) q))) (state_after d.member.performing.began (runs_before (kept_after q) q)))
      owed_given c x came below g =
          let runs = runs_before (kept_after q) q in
          let within : All (IsWithin at) runs = All-filter (is_early at) (IsWithin at) (kept_after q).runs (within_all at (kept_after q).runs k.within) in
          let ended : list_all (λ run. has_ended run q) runs ≡ true =
          all_are (λ run. has_ended run q) runs (All-zip (λ (run : RunRecord). is_some run.ended ≡ true) (IsWithin at) (λ (run : RunRecord). has_ended run q ≡ true) (λ run some low. has_end q run some low) runs g.ended within) in
          let active : is_active (phase start q) ≡ true = ap is_active (sym s.knows.phase_is) ∙ g.active in
          let from : first_of (phase start q) ≡ d.member.performing.kept.from = ap first_of (sym s.knows.phase_is) ∙ sym s.knows.start in
          (λ j. shape (le-ltb at came below j) (active j) (ended j) (from j) (sym s.knows.state_is j) runs)

      -- where it waits on, no such moment was in this step
      owed_pending : (c x : Caller) (came : ℕ) → came ≤ at → Pends c x declared turn first lawful at d.member e → snapshot_at start (first hosted) (kept_after q) came q ≡ None
      owed_pending c x came below w = by_active (is_active (phase start q)) refl
        where
          not_idle : is_idle (kept_after q) ≡ true → ⊥
          not_idle idle = there (sym (ap (filter (is_caller c)) (k.given idle)) ∙ w.requests)
            where
              there : [] ≡ x ∷ [] → ⊥
              there is = cc

          by_ended : is_active (phase start q) ≡ true → (b : Bool) → list_all (λ run. has_ended run q) (runs_before (kept_after q) q) ≡ b → b ≡ false
          by_ended active false is = refl
          by_ended active true is = absurd (by_ask (open_ask (kept_after q)) refl)
            where
              now_active : is_active (kept_after q).phase ≡ true
              now_active = ap is_active k.knows.phase_is ∙ active

              by_ask : (o : Option AskRecord) → open_ask (kept_after q) ≡ o → ⊥
              by_ask None none = not_idle ((λ j. now_active j && is_none (none j)))
              by_ask (Some ask) some =
                  let b = behaviour declared turn first e.member.performing.hosted in
                  let r = one_is_performing b e.member.performing.began e.member.performing.kept k.sound.kept ask some in
                  let all : runs_before (kept_after q) q ≡ r.before ++ r.run ∷ [] = all_pass (is_early at) (kept_after q).runs w.early ∙ r.runs_are in
                  let P : RunRecord → Type 0 = λ run. has_ended run q ≡ true in
                  let last = All-last P r.before r.run (subst (All P) all (all_then (λ run. has_ended run q) (runs_before (kept_after q) q) is)) in
                  true≢false (sym last ∙ ap (λ x. option_map_or (λ n. nat_le n (now q)) x false) r.waiting.not_ended)

          by_active : (a : Bool) → is_active (phase start q) ≡ a → snapshot_at start (first hosted) (kept_after q) came q ≡ None
          by_active false is =
              λ j. shape (le-ltb at came below j) (is j) (list_all (λ run. has_ended run q) (runs_before (kept_after q) q)) (first_of (phase start q)) (began start (first hosted) q) (runs_before (kept_after q) q)
          by_active true is =
              λ j. shape (le-ltb at came below j) (is j) (by_ended is (list_all (λ run. has_ended run q) (runs_before (kept_after q) q)) refl j) (first_of (phase start q)) (began start (first hosted) q) (runs_before (kept_after q) q)

      -- ---- a request behind the execution

      fate : (c x : Caller) (came : ℕ) → came ≤ at → returns_to c (makes p) ≡ [] → owes (kept_after q) came p ≡ None → Pends c x declared turn first lawful at d.member d → AwaitsState q came c ⊎ HasState q came c
      fate c x came below none before pends =
          by_fate (executed_keeps declared turn first lawful at (Fate c x declared turn first lawful at d.member) (Fate c x declared turn first lawful at d.member) (fate_keeps c x declared turn first lawful at d.member) d s.sound (is_same d.member, inl pends)).1
        where
          by_fate : Pends c x declared turn first lawful at d.member e ⊎ IsGiven c x declared turn first lawful at d.member e → AwaitsState q came c ⊎ HasState q came c
          by_fate (inl w) =
              inl (record {
                asker = x;
                held = w.held;
                askers = w.requests;
                returns = made_more declared turn first lawful place views beginning hosted c p at o [] [] none w.returns;
                owed = owed_then came None None before (owed_pending c x came below w);
              })
          by_fate (inr g) =
              let message = snapshot_bytes (count_after d.member.performing.kept.from (length (runs_before (kept_after q) q))) (state_after d.member.performing.began (runs_before (kept_after q) q)) in
              inr (record {
                given = (at, message);
                held = g.quiet.held;
                askers = g.quiet.requests;
                returns = made_more declared turn first lawful place views beginning hosted c p at o [] (message ∷ []) none g.quiet.returns;
                owed = owed_then came None (Some message) before (owed_given c x came below g);
              })

      pub early_now : AreEarly at d.member.performing.kept.runs
      early_now =
          let before = may.1 in
          subst (AreEarly at) (sym s.carried.runs)
          (All-weaker (IsWithin (now p)) (λ (run : RunRecord). is_early at run ≡ true) (λ run low. let started = low.0 in lt-ltb run.started at (omega (arith, started, before))) m.performing.kept.runs (within_all (now p) m.performing.kept.runs h.within))

      fares_on : (came : ℕ) (c : Caller) → is_by c o ≡ false → Fares p (came, c) → Fares q (came, c)
      fares_on came c other fares = (omega (arith, fares.0, may.1), by_fate fares.1)
        where
          by_fate : AwaitsState p came c ⊎ HasState p came c → AwaitsState q came c ⊎ HasState q came c
          by_fate (inl a) =
              let t = tells c m at o other in
              fate c a.asker came (omega (arith, fares.0, may.1)) a.returns (earlier_same came ∙ a.owed)
              (record {
                returns = t.returns ∙ ap (λ l. map (λ (x : HeldCall). t.message) (filter t.passes l)) a.held;
                held = t.held ∙ ap (filter (λ x. not (t.passes x))) a.held;
                requests = t.requests ∙ a.askers;
                early = early_now;
              })
          by_fate (inr a) =
              let quiet = quiet_executed declared turn first lawful place views beginning hosted home p at o may c [] (quiet_handled c m at o other a.held a.askers) in
              inr (record {
                given = a.given;
                held = quiet.held;
                askers = quiet.requests;
                returns = made_more declared turn first lawful place views beginning hosted c p at o (a.given ∷ []) [] a.returns quiet.returns;
                owed = owed_then came (Some a.given) (snapshot_at start (first hosted) (kept_after q) came q) (earlier_same came ∙ a.owed) refl;
              })

    -- ---- a request that comes

    module _ (p : Past) (at incarnation : ℕ) (c : Caller) where
      abbrev comes_now : Occurrence
      comes_now = comes.Fetched incarnation c

      fares_now : MayLive declared turn first place views beginning hosted (followed p at comes_now) → IsSilent declared turn first lawful place views beginning hosted c p → Fares (followed p at comes_now) (at, c)
      fares_now may silent =
          let g = (life p).gathered in
          let required = max g.required incarnation in
          let passes : HeldCall → Bool = is_stale g required in
          let none_owed : owes (kept_after (followed p at comes_now)) at p ≡ None =
          let later = may.1 in
          none_first (snapshot_at start (first hosted) (kept_after (followed p at comes_now)) at) (now p) p (rises declared turn first lawful place views beginning hosted p may.0) (omega arith)
          (λ r below. ap (λ b. shape b (is_active (phase start r)) (list_all (λ run. has_ended run r) (runs_before (kept_after (followed p at comes_now)) r)) (first_of (phase start r)) (began start (first hosted) r) (runs_before (kept_after (followed p at comes_now)) r)) (lt-ltb (now r) at (omega (arith, below, later)))) in (
            omega arith,
            fate p at comes_now may c c at (omega arith) silent.returns none_owed
                (record {
                  returns = returned_passed c (stale_message required) passes g.held ∙ ap (λ l. map (λ (x : HeldCall). stale_message required) (filter passes l)) silent.held;
                  held = filter_twice (is_from c) (λ x. not (passes x)) g.held ∙ ap (filter (λ x. not (passes x))) silent.held;
                  requests = filter-append (is_caller c) (life p).requests (c ∷ []) ∙ ap (λ l. l ++ filter (is_caller c) (c ∷ [])) silent.requests ∙ ap (λ b. cond b (c ∷ []) []) (is_caller-refl c);
                  early = early_now p at comes_now may;
                }),
          )

    -- ---- over a past

    all_on : (p : Past) (at : ℕ) (o : Occurrence) → MayLive declared turn first place views beginning hosted (followed p at o) → AreDistinct (followed p at o) → All (Fares p) (requests p) → All (Fares (followed p at o)) (requests p)
    all_on p at o may distinct all =
        All-zip (λ (x : ℕ × Caller). is_by x.1 o ≡ false) (Fares p) (Fares (followed p at o)) (λ x other fares. fares_on p at o may x.0 x.1 other fares) (requests p) (other_requests p at o distinct) all

    fares : (p : Past) → MayLive declared turn first place views beginning hosted p → AreDistinct p → All (Fares p) (requests p)
    fares booted may distinct = All-nil (Fares booted)
    fares (followed p at (comes.Asked header body sender)) may distinct = all_on p at (comes.Asked header body sender) may distinct (fares p may.0 distinct.0)
    fares (followed p at (comes.Fetched incarnation sender)) may distinct =
        All-push (Fares (followed p at (comes.Fetched incarnation sender))) (requests p) (at, sender) (all_on p at (comes.Fetched incarnation sender) may distinct (fares p may.0 distinct.0))
        (fares_now p at incarnation sender may (silent declared turn first lawful place views beginning hosted home sender p may.0 (new_caller p sender distinct.1)))
    fares (followed p at (comes.Replied name from reply)) may distinct = all_on p at (comes.Replied name from reply) may distinct (fares p may.0 distinct)
    fares (followed p at (comes.IsStale name server from incarnation)) may distinct = all_on p at (comes.IsStale name server from incarnation) may distinct (fares p may.0 distinct)
    fares (followed p at (comes.IsBefore name from)) may distinct = all_on p at (comes.IsBefore name from) may distinct (fares p may.0 distinct)
    fares (followed p at (comes.Told request table)) may distinct = all_on p at (comes.Told request table) may distinct (fares p may.0 distinct)
    fares (followed p at (comes.Restored state count)) may distinct = all_on p at (comes.Restored state count) may distinct (fares p may.0 distinct)
    fares (followed p at (comes.Declared node)) may distinct = all_on p at (comes.Declared node) may distinct (fares p may.0 distinct)
    fares (followed p at comes.Joins) may distinct = all_on p at comes.Joins may distinct (fares p may.0 distinct)

    pub are_returned : (p : Past) → MayLive declared turn first place views beginning hosted p → AreDistinct p → AreReturned place.troupe start (first hosted) (kept_after p) p (makes p)
    are_returned p may distinct =
        record {
          returns = returned_all declared turn first lawful place views beginning hosted home p may distinct;
          snapshots = All-weaker (Fares p) (IsGivenState start (first hosted) (kept_after p) p (makes p)) (λ x f. by_fate x f.1) (requests p) (fares p may distinct);
          others = λ c new. (silent declared turn first lawful place views beginning hosted home c p may new).returns;
        }
      where
        by_fate : (x : ℕ × Caller) → AwaitsState p x.0 x.1 ⊎ HasState p x.0 x.1 → IsGivenState start (first hosted) (kept_after p) p (makes p) x
        by_fate x (inl a) = a.returns ∙ sym (ap at_most_one a.owed)
        by_fate x (inr a) = a.returns ∙ sym (ap at_most_one a.owed)
