-- The state requests that wait are those that came and have no snapshot, as they came; and which snapshots are given in a step.
use Rattle.std.proofs.Common.{◌≡◌, ℕ, ◌≤◌, Bool, true, false, true≢false, ◌&&◌, not, ◌⊎◌, inl, inr, if◌then◌else◌, List, [], ◌∷◌, ◌++◌, map, filter, length, All, Option, Some, None, refl, sym, ap, subst, ◌∙◌, arith, append-nil}
use Rattle.std.specs.Prelude.{nat_le, is_some, is_none}
use Rattle.std.specs.List.{flat_map, list_all}
use Rattle.std.specs.Option.{option_map_or}
use Rattle.std.proofs.lemmas.Bool.{lt-ltb, le-ltb}
use Rattle.std.proofs.lemmas.List.{map-append}
use Rattle.std.proofs.lemmas.List.Elements.{All-nil, All-push, All-append, All-filter, All-weaker, filter-append}
use Rattle.circus_value.specs.ValueTree.{ValueTree}
use Rattle.circus_value.specs.declared.caller.Caller.{Caller}
use Rattle.circus_value.specs.declared.outcome.Outcome.{Outcome}
use Rattle.circus_collate.specs.declared.view.View.{View}
use Rattle.circus_transfer.specs.declared.joiner.Joiner.{Joiner}
use Rattle.circus_transfer.specs.Snapshot.{snapshot_bytes}
use Rattle.circus_model.specs.declared.signature.Signature.{Signature}
use Rattle.circus_model.specs.NextTurn.{NextTurn}
use Rattle.circus_model.specs.Behaviour.{IsModule}
use Rattle.circus_record.specs.declared.record.AskRecord.{AskRecord}
use Rattle.circus_record.specs.declared.record.MemberRecord.{MemberRecord}
use Rattle.circus_record.specs.declared.record.RunRecord.{RunRecord}
use Rattle.circus_gather.specs.Gathering.{with_first}
use Rattle.circus_performing.specs.Performing.{is_active, is_fetching, made_active, open_ask, made_ask, answered_ask, state_after}
use Rattle.circus_performing.specs.Record.{behaviour, count_after}
use Rattle.circus_member_rules.specs.declared.place.Place.{Place}
use Rattle.circus_member_rules.specs.declared.place.Beginning.{Beginning}
use Rattle.circus_member_rules.specs.declared.occurrence.Effect.{Effect}
use Rattle.circus_member_rules.specs.declared.occurrence.Occurrence.{Occurrence}
use Rattle.circus_member_rules.specs.declared.occurrence.Occurrence.TheVariants as comes
use Rattle.circus_member_rules.specs.Rules.{answer, answers, active_call, before_answers}
use Rattle.circus_member_rules.specs.Happening.{IsHome}
use Rattle.circus_member_rules.specs.MemberState.{MemberState, Doing}
use Rattle.circus_member_rules.specs.Step.{is_idle, handle}
use Rattle.circus_member_rules.proofs.Writing.{one_is_performing}
use Rattle.circus_member_theory.specs.Past.{Past, followed, now, phase}
use Rattle.circus_member_theory.specs.First.{at_end, or_else}
use Rattle.circus_member_theory.specs.Living.{phase_at_boot, after, MayLive}
use Rattle.circus_member_theory.proofs.Timely.Firsts.{first_is, none_first}
use Rattle.circus_member_theory.specs.Made.{requests}
use Rattle.circus_member_theory.specs.Order.{if_now, snapshots_now}
use Rattle.circus_member_theory.specs.Returns.{first_of, has_ended}
use Rattle.circus_member_theory.specs.Snapshots.{began, runs_before, snapshot_at, snapshot_owed}
use Rattle.circus_headline_theory.proofs.Owed.Arriving.{first_low, now_is, not_now}
use Rattle.circus_headline_theory.proofs.Owed.AtOnce.{all_stay}
use Rattle.circus_headline_theory.proofs.Owed.Distinct.{All-zip, All-last}
use Rattle.circus_headline_theory.proofs.Owed.Lives.{rises, IsKnown, handles, executes, IsStepped, step_is, known}
use Rattle.circus_headline_theory.proofs.Owed.Moments.{is_early, within_all, all_pass}
use Rattle.circus_headline_theory.proofs.Owed.Passing.{same_passing, passing_both, passing_through, same_flat, flat_passing, flat_through, answers_all}
use Rattle.circus_headline_theory.proofs.Owed.Performed.{parts, all_late, Pends, HasGiven}
use Rattle.circus_headline_theory.proofs.Owed.States.{has_end, all_are, all_then, shape, earlier_same}
use Rattle.circus_headline_theory.proofs.Owed.Status.{IsWithin}

-- ---- what came

abbrev pub came_by : ℕ → Occurrence → List (ℕ × Caller)
came_by at (comes.Fetched incarnation sender) = (at, sender) ∷ []
came_by at _ = []

requests_more : (p : Past) (at : ℕ) (o : Occurrence) → requests (followed p at o) ≡ requests p ++ came_by at o
requests_more p at (comes.Asked header body sender) = sym (append-nil (requests p))
requests_more p at (comes.Fetched incarnation sender) = refl
requests_more p at (comes.Replied name from reply) = sym (append-nil (requests p))
requests_more p at (comes.IsStale name server from incarnation) = sym (append-nil (requests p))
requests_more p at (comes.IsBefore name from) = sym (append-nil (requests p))
requests_more p at (comes.Told request table) = sym (append-nil (requests p))
requests_more p at (comes.Restored state count) = sym (append-nil (requests p))
requests_more p at (comes.Declared node) = sym (append-nil (requests p))
requests_more p at comes.Joins = sym (append-nil (requests p))

-- each of it holds this, where it does of any that comes then
each_now : (P : ℕ × Caller → Type 0) (at : ℕ) (o : Occurrence) → ((c : Caller) → P (at, c)) → All P (came_by at o)
each_now P at (comes.Asked header body sender) all = All-nil P
each_now P at (comes.Fetched incarnation sender) all = All-push P [] (at, sender) (All-nil P) (all sender)
each_now P at (comes.Replied name from reply) all = All-nil P
each_now P at (comes.IsStale name server from incarnation) all = All-nil P
each_now P at (comes.IsBefore name from) all = All-nil P
each_now P at (comes.Told request table) all = All-nil P
each_now P at (comes.Restored state count) all = All-nil P
each_now P at (comes.Declared node) all = All-nil P
each_now P at comes.Joins all = All-nil P

module _ {M : Type 0} (m : MemberState M) (at : ℕ) where
  handled_requests : (o : Occurrence) → (handle at o m).member.requests ≡ m.requests ++ map (λ (x : ℕ × Caller). x.1) (came_by at o)
  handled_requests (comes.Asked header body sender) = sym (append-nil m.requests)
  handled_requests (comes.Fetched incarnation sender) = refl
  handled_requests (comes.Replied name from reply) = sym (append-nil m.requests)
  handled_requests (comes.IsStale name server from incarnation) = sym (append-nil m.requests)
  handled_requests (comes.IsBefore name from) = sym (append-nil m.requests)
  handled_requests (comes.Told request table) = sym (append-nil m.requests)
  handled_requests (comes.Restored state count) = by_test (is_fetching m.performing.kept.phase)
    where
      by_test : (b : Bool) → let d : Doing M = if b then record { member = record m { performing = made_active at state count m.performing; gathered = with_first m.gathered count }; effects = active_call m.place m.known count ++ before_answers m.gathered count } else record { member = m; effects = [] } in
          d.member.requests ≡ m.requests ++ []
      by_test true = sym (append-nil m.requests)
      by_test false = sym (append-nil m.requests)
  handled_requests (comes.Declared node) = sym (append-nil m.requests)
  handled_requests comes.Joins = sym (append-nil m.requests)

-- ---- lists

none_stay : {X : Type 0} (xs : List X) → filter (λ x. false) xs ≡ []
none_stay [] = refl
none_stay (x ∷ xs) = none_stay xs

nothing_each : {X Y : Type 0} (xs : List X) → let none : X → List Y = λ x. [] in flat_map none xs ≡ []
nothing_each [] = refl
nothing_each (x ∷ xs) = nothing_each xs

module _ {M : Type 0} (declared : M → Signature) (turn : M → List ValueTree → ℕ → List ValueTree → List Outcome → NextTurn) (first : M → List ValueTree) (lawful : (hosted : M) → IsModule (behaviour declared turn first hosted)) (place : Place) (views : List View) (beginning : Beginning) (hosted : M) where
  abbrev start : Joiner
  start = phase_at_boot beginning

  abbrev life : Past → MemberState M
  life p = after declared turn first place views beginning hosted p

  abbrev kept_after : Past → MemberRecord
  kept_after p = (life p).performing.kept

  abbrev pub owes : MemberRecord → ℕ × Caller → Past → Option (ℕ × List ℕ)
  owes kept x p = snapshot_owed start (first hosted) kept x.0 p

  -- a request is owed no snapshot by then
  abbrev pub waits : MemberRecord → Past → ℕ × Caller → Bool
  waits kept p x = is_none (owes kept x p)

  pub record AreAsking (p : Past) : Type 0 where
    pub asking : (life p).requests ≡ map (λ (x : ℕ × Caller). x.1) (filter (waits (kept_after p) p) (requests p))
    pub came : All (λ (x : ℕ × Caller). x.0 ≤ now p) (requests p)

  module _ (home : IsHome (declared hosted) place views) where
    module _ (p : Past) (at : ℕ) (o : Occurrence) (may : MayLive declared turn first place views beginning hosted (followed p at o)) where
      abbrev m : MemberState M
      m = life p

      abbrev q : Past
      q = followed p at o

      abbrev d : Doing M
      d = handles declared turn first lawful place views beginning hosted p at o

      abbrev e : Doing M
      e = executes declared turn first lawful place views beginning hosted p at o

      h : IsKnown declared turn first lawful place views beginning hosted p m
      h = known declared turn first lawful place views beginning hosted home p may.0

      s : IsStepped declared turn first lawful place views beginning hosted p at o
      s = step_is declared turn first lawful place views beginning hosted home p at o may h

      k : IsKnown declared turn first lawful place views beginning hosted q (life q)
      k = known declared turn first lawful place views beginning hosted home q may

      -- the runs that were started before the step
      abbrev earlier : List RunRecord
      earlier = runs_before (kept_after q) q

      -- what each that waits is given, if anything
      abbrev pub given_then : Option (List ℕ)
      given_then =
          if is_active (phase start q) && list_all (λ run. has_ended run q) earlier
          then Some (snapshot_bytes (count_after (first_of (phase start q)) (length earlier)) (state_after (began start (first hosted) q) earlier))
          else None

      abbrev pub gives_to : Caller → List Effect
      gives_to c = option_map_or (λ (message : List ℕ). answer message c ∷ []) given_then []

      -- it waited as the execution began
      abbrev waited : ℕ × Caller → Bool
      waited x = waits (kept_after q) p x

      -- ---- which wait

      none_yet : (c : Caller) → owes (kept_after q) (at, c) p ≡ None
      none_yet c =
          let later = may.1 in
          none_first (snapshot_at start (first hosted) (kept_after q) at) (now p) p (rises declared turn first lawful place views beginning hosted p may.0) (omega arith)
          (λ r below. ap (λ b. shape b (is_active (phase start r)) (list_all (λ run. has_ended run r) (runs_before (kept_after q) r)) (first_of (phase start r)) (began start (first hosted) r) (runs_before (kept_after q) r)) (lt-ltb (now r) at (omega (arith, below, later))))

      came_then : AreAsking p → All (λ (x : ℕ × Caller). x.0 ≤ at) (requests q)
      came_then a =
          let later = may.1 in
          let P : ℕ × Caller → Type 0 = λ x. x.0 ≤ at in
          subst (All P) (sym (requests_more p at o))
          (All-append P (requests p) (came_by at o) (All-weaker (λ (x : ℕ × Caller). x.0 ≤ now p) P (λ x low. omega (arith, low, later)) (requests p) a.came) (each_now P at o (λ c. omega arith)))

      waiting : AreAsking p → d.member.requests ≡ map (λ (x : ℕ × Caller). x.1) (filter waited (requests q))
      waiting a =
          let S : ℕ × Caller → Caller = λ x. x.1 in
          let old : filter (waits (kept_after p) p) (requests p) ≡ filter waited (requests p) =
          same_passing (waits (kept_after p) p) waited (requests p)
          (All-weaker (λ (x : ℕ × Caller). x.0 ≤ now p) (λ x. waits (kept_after p) p x ≡ waited x) (λ x low. ap is_none (sym (earlier_same declared turn first lawful place views beginning hosted home p at o may x.0))) (requests p) a.came) in
          handled_requests m at o
          ∙ (λ j. (a.asking ∙ ap (map S) old) j ++ map S (sym (all_pass waited (came_by at o) (each_now (λ x. waited x ≡ true) at o (λ c. ap is_none (none_yet c)))) j))
          ∙ sym (map-append S (filter waited (requests p)) (filter waited (came_by at o)))
          ∙ ap (map S) (sym (filter-append waited (requests p) (came_by at o)) ∙ ap (filter waited) (sym (requests_more p at o)))

      -- ---- what is given

      owed_then : (x : ℕ × Caller) → x.0 ≤ at → owes (kept_after q) x q ≡ or_else (owes (kept_after q) x p) (at_end q given_then)
      owed_then x low =
          first_is (snapshot_at start (first hosted) (kept_after q) x.0) q
          ∙ ap (λ b. or_else (owes (kept_after q) x p) (at_end q (if b then None else given_then))) (le-ltb at x.0 low)

      given_one : (x : ℕ × Caller) → x.0 ≤ at → if_now q x.1 (owes (kept_after q) x q) ≡ (if waited x then gives_to x.1 else [])
      given_one x low = by_owed (owes (kept_after q) x p) refl
        where
          by_owed : (given : Option (ℕ × List ℕ)) → owes (kept_after q) x p ≡ given → if_now q x.1 (owes (kept_after q) x q) ≡ (if waited x then gives_to x.1 else [])
          by_owed (Some given) is =
              let before = first_low (snapshot_at start (first hosted) (kept_after q) x.0) p (rises declared turn first lawful place views beginning hosted p may.0) given is in
              let later = may.1 in
              ap (if_now q x.1) (owed_then x low ∙ ap (λ y. or_else y (at_end q given_then)) is) ∙ not_now q x.1 given (omega (arith, before, later))
              ∙ sym (ap (λ (y : Option (ℕ × List ℕ)). if is_none y then gives_to x.1 else []) is)
          by_owed None is =
              ap (if_now q x.1) (owed_then x low ∙ ap (λ y. or_else y (at_end q given_then)) is) ∙ now_is q x.1 given_then
              ∙ sym (ap (λ (y : Option (ℕ × List ℕ)). if is_none y then gives_to x.1 else []) is)

      pub snapshots_are : AreAsking p → snapshots_now place views start (first hosted) (kept_after q) q ≡ flat_map gives_to d.member.requests
      snapshots_are a =
          let S : ℕ × Caller → Caller = λ x. x.1 in
          let f : ℕ × Caller → List Effect = λ x. if_now q x.1 (owes (kept_after q) x q) in
          let g : ℕ × Caller → List Effect = λ x. if waited x then gives_to x.1 else [] in
          same_flat f g (requests q) (All-weaker (λ (x : ℕ × Caller). x.0 ≤ at) (λ x. f x ≡ g x) given_one (requests q) (came_then a))
          ∙ sym (flat_passing waited (λ (x : ℕ × Caller). gives_to x.1) (requests q)) ∙ sym (flat_through gives_to S (filter waited (requests q))) ∙ ap (flat_map gives_to) (sym (waiting a))

      waits_one : (x : ℕ × Caller) → x.0 ≤ at → (waited x && is_none given_then) ≡ waits (kept_after q) q x
      waits_one x low = by_owed (owes (kept_after q) x p) refl
        where
          by_last : (y : Option (List ℕ)) → is_none y ≡ is_none (at_end q y)
          by_last None = refl
          by_last (Some message) = refl

          by_owed : (given : Option (ℕ × List ℕ)) → owes (kept_after q) x p ≡ given → (waited x && is_none given_then) ≡ waits (kept_after q) q x
          by_owed (Some given) is =
              ap (λ (y : Option (ℕ × List ℕ)). is_none y && is_none given_then) is ∙ sym (ap is_none (owed_then x low ∙ ap (λ y. or_else y (at_end q given_then)) is))
          by_owed None is =
              ap (λ (y : Option (ℕ × List ℕ)). is_none y && is_none given_then) is ∙ by_last given_then
              ∙ sym (ap is_none (owed_then x low ∙ ap (λ y. or_else y (at_end q given_then)) is))

      pub asking_then : AreAsking p → e.member.requests ≡ filter (λ c. is_none given_then) d.member.requests → AreAsking q
      asking_then a left =
          let S : ℕ × Caller → Caller = λ x. x.1 in
          let last : Caller → Bool = λ c. is_none given_then in
          record {
            asking = left ∙ ap (filter last) (waiting a) ∙ passing_through last S (filter waited (requests q))
                ∙ ap (map S) (passing_both (λ (x : ℕ × Caller). is_none given_then) waited (requests q)
                ∙ same_passing (λ x. waited x && is_none given_then) (waits (kept_after q) q) (requests q)
                (All-weaker (λ (x : ℕ × Caller). x.0 ≤ at) (λ x. (waited x && is_none given_then) ≡ waits (kept_after q) q x) waits_one (requests q) (came_then a)));
            came = came_then a;
          }

      -- ---- behind the execution

      module _ (test : AskRecord → Bool) (fresh : (clock : List ℕ) (callee procedure : ℕ) (arguments state : List ValueTree) → test (made_ask at clock callee procedure arguments state) ≡ true)
          (still : (ask : AskRecord) (reply : Outcome) (clock : List ℕ) → ask.answered ≡ None → test (answered_ask at reply clock ask) ≡ test ask) (old : List Effect) where
        abbrev made_early : List Effect
        made_early = parts declared turn first lawful at d.member views test fresh still old (λ run. is_early at run) d.member.performing.kept.from (kept_after q).runs

        abbrev made_late : List Effect
        made_late = parts declared turn first lawful at d.member views test fresh still old (λ run. not (is_early at run)) d.member.performing.kept.from (kept_after q).runs

        pub record IsDivided : Type 0 where
          pub effects : e.effects ≡ old ++ ((made_early ++ flat_map gives_to d.member.requests) ++ made_late)
          pub left : e.member.requests ≡ filter (λ c. is_none given_then) d.member.requests

        -- nothing is given, or nobody waited
        pending : Pends declared turn first lawful at d.member views test fresh still old e → (given_then ≡ None) ⊎ (d.member.requests ≡ [])
        pending w = by_active (is_active (phase start q)) refl (list_all (λ run. has_ended run q) earlier) refl
          where
            message : List ℕ
            message = snapshot_bytes (count_after (first_of (phase start q)) (length earlier)) (state_after (began start (first hosted) q) earlier)

            by_ask : is_active (phase start q) ≡ true → list_all (λ run. has_ended run q) earlier ≡ true → (x : Option AskRecord) → open_ask (kept_after q) ≡ x → d.member.requests ≡ []
            by_ask active ended None none =
                let idle : is_idle (kept_after q) ≡ true = (λ j. (ap is_active k.knows.phase_is ∙ active) j && is_none (none j)) in
                sym w.requests ∙ k.given idle
            by_ask active ended (Some ask) some =
                let r = one_is_performing (behaviour declared turn first e.member.performing.hosted) e.member.performing.began e.member.performing.kept k.sound.kept ask some in
                let all : earlier ≡ r.before ++ r.run ∷ [] = all_pass (is_early at) (kept_after q).runs w.all_early ∙ r.runs_are in
                let P : RunRecord → Type 0 = λ run. has_ended run q ≡ true in
                let last = All-last P r.before r.run (subst (All P) all (all_then (λ run. has_ended run q) earlier ended)) in
                absurd (true≢false (sym last ∙ ap (λ x. option_map_or (λ n. nat_le n (now q)) x false) r.waiting.not_ended))

            by_active : (a : Bool) → is_active (phase start q) ≡ a → (b : Bool) → list_all (λ run. has_ended run q) earlier ≡ b → (given_then ≡ None) ⊎ (d.member.requests ≡ [])
            by_active false is b ended = inl (λ j. if is j && list_all (λ run. has_ended run q) earlier then Some message else None)
            by_active true is false ended = inl (λ j. if is j && ended j then Some message else None)
            by_active true is true ended = inr (by_ask is ended (open_ask (kept_after q)) refl)

        -- the snapshot is given to each
        giving : HasGiven declared turn first lawful at d.member views test fresh still old e → is_active d.member.performing.kept.phase ≡ true
            → given_then ≡ Some (snapshot_bytes (count_after d.member.performing.kept.from (length earlier)) (state_after d.member.performing.began earlier))
        giving g is_on =
            let within : All (IsWithin at) earlier = All-filter (is_early at) (IsWithin at) (kept_after q).runs (within_all at (kept_after q).runs k.within) in
            let ended : list_all (λ run. has_ended run q) earlier ≡ true =
            all_are (λ run. has_ended run q) earlier (All-zip (λ (run : RunRecord). is_some run.ended ≡ true) (IsWithin at) (λ (run : RunRecord). has_ended run q ≡ true) (λ run some low. has_end q run some low) earlier g.ended within) in
            let active : is_active (phase start q) ≡ true = ap is_active (sym s.knows.phase_is) ∙ is_on in
            let from : first_of (phase start q) ≡ d.member.performing.kept.from = ap first_of (sym s.knows.phase_is) ∙ sym s.knows.start in
            (λ j. if active j && ended j then Some (snapshot_bytes (count_after (from j) (length earlier)) (state_after (sym s.knows.state_is j) earlier)) else None)

        pub sorted_then : Pends declared turn first lawful at d.member views test fresh still old e ⊎ HasGiven declared turn first lawful at d.member views test fresh still old e → IsDivided
        sorted_then (inl w) = by_pending (pending w)
          where
            none_late : made_late ≡ []
            none_late = all_late declared turn first lawful at d.member views test fresh still old (kept_after q).runs w.all_early

            so : flat_map gives_to d.member.requests ≡ [] → e.effects ≡ old ++ ((made_early ++ flat_map gives_to d.member.requests) ++ made_late)
            so none = w.effects ∙ ap (λ l. old ++ l) (sym (append-nil made_early) ∙ sym (append-nil (made_early ++ [])) ∙ (λ j. (made_early ++ sym none j) ++ sym none_late j))

            by_pending : (given_then ≡ None) ⊎ (d.member.requests ≡ []) → IsDivided
            by_pending (inl none) =
                record {
                  effects = so ((λ j. flat_map (λ (c : Caller). option_map_or (λ (message : List ℕ). answer message c ∷ []) (none j) []) d.member.requests) ∙ nothing_each d.member.requests);
                  left = w.requests ∙ sym (all_stay d.member.requests) ∙ ap (λ b. filter (λ (c : Caller). b) d.member.requests) (sym (ap is_none none));
                }
            by_pending (inr nobody) =
                record {
                  effects = so (ap (flat_map gives_to) nobody);
                  left = w.requests ∙ nobody ∙ sym (ap (filter (λ (c : Caller). is_none given_then)) nobody);
                }
        sorted_then (inr g) = by_reason g.reason
          where
            message : List ℕ
            message = snapshot_bytes (count_after d.member.performing.kept.from (length earlier)) (state_after d.member.performing.began earlier)

            so : answers message d.member.requests ≡ flat_map gives_to d.member.requests → e.effects ≡ old ++ ((made_early ++ flat_map gives_to d.member.requests) ++ made_late)
            so same = g.effects ∙ ap (λ l. old ++ ((made_early ++ l) ++ made_late)) same

            by_reason : (is_active d.member.performing.kept.phase ≡ true) ⊎ (d.member.requests ≡ []) → IsDivided
            by_reason (inl active) =
                let some = giving g active in
                record {
                  effects = so (answers_all message d.member.requests ∙ (λ j. flat_map (λ (c : Caller). option_map_or (λ (text : List ℕ). answer text c ∷ []) (sym some j) []) d.member.requests));
                  left = g.requests ∙ sym (none_stay d.member.requests) ∙ ap (λ b. filter (λ (c : Caller). b) d.member.requests) (sym (ap is_none some));
                }
            by_reason (inr nobody) =
                record {
                  effects = so (ap (answers message) nobody ∙ sym (ap (flat_map gives_to) nobody));
                  left = g.requests ∙ sym (ap (filter (λ (c : Caller). is_none given_then)) nobody);
                }
