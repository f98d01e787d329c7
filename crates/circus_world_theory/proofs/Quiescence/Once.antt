-- In a step in which nobody is told anew a member calls each node once at most.
use Rattle.std.proofs.Common.{◌≡◌, ℕ, zero, suc, Bool, true, false, cond, ◌&&◌, ◌||◌, List, [], ◌∷◌, ◌++◌, length, map, filter, Option, None, Some, refl, sym, ap, subst, ◌∙◌}
use Rattle.std.specs.Prelude.{slice_get, is_none, ◌==◌, if◌then◌else◌}
use Rattle.std.specs.Option.{option_map_or}
use Rattle.circus_value.specs.ValueTree.{ValueTree}
use Rattle.circus_value.specs.Among.{is_among}
use Rattle.circus_value.specs.declared.caller.Caller.{Caller}
use Rattle.circus_value.specs.declared.outcome.Outcome.{Outcome}
use Rattle.circus_header.specs.declared.answer.Reply.{Reply}
use Rattle.circus_collate.specs.declared.view.View.{View}
use Rattle.circus_collate.specs.declared.view.Entry.{Entry}
use Rattle.circus_transfer.specs.Snapshot.{snapshot_bytes}
use Rattle.circus_model.specs.NextTurn.{NextTurn}
use Rattle.circus_model.specs.declared.signature.Signature.{Signature}
use Rattle.circus_record.specs.declared.record.AskRecord.{AskRecord}
use Rattle.circus_record.specs.declared.record.RunRecord.{RunRecord}
use Rattle.circus_fanout.specs.Knowing.{Knowing}
use Rattle.circus_gather.specs.declared.held.HeldCall.{HeldCall}
use Rattle.circus_gather.specs.Gathering.{call_to_start, answered_by_end}
use Rattle.circus_gather.specs.Gathering as gathering
use Rattle.circus_fanout.specs.Asking.{Asking, calls_for_a_view, send_to, is_due}
use Rattle.circus_fanout.specs.declared.asked.Asked.{Asked}
use Rattle.circus_fanout.specs.declared.send.Send.{Send}
use Rattle.circus_performing.specs.declared.start.RunStart.{RunStart}
use Rattle.circus_performing.specs.Performing.{open_ask, last_of, is_active}
use Rattle.circus_performing.specs.Performing as performing
use Rattle.circus_member_rules.specs.declared.occurrence.AskName.{AskName}
use Rattle.circus_member_rules.specs.declared.occurrence.Effect.{Effect}
use Rattle.circus_member_rules.specs.declared.occurrence.Effect.TheVariants as made
use Rattle.circus_member_rules.specs.Messages.{reply_message}
use Rattle.circus_member_rules.specs.Rules.{calls_of_ask, index_of_last, answers, snapshots_owed}
use Rattle.circus_member_rules.specs.MemberState.{Doing}
use Rattle.circus_member_rules.specs.Step.{name_of_last, asking_begun, is_idle, reply_of_run, with_record, opened_by_view, opened_ask, ended_run, after_turns, value_of_open, given_states, next_start, answered_by, answered_open, enter_run_of, start_of_call, start_runs, execute}

-- ---- lists of numbers

-- no number comes twice
abbrev pub AreApart : List ℕ → Type 0
AreApart [] = Unit {0}
AreApart (x ∷ xs) = (is_among xs x ≡ false) × AreApart xs

pub neither : (a b : Bool) → (a || b) ≡ false → (a ≡ false) × (b ≡ false)
neither true b is = absurd (let clash : true ≡ false = is in cc)
neither false b is = (refl, is)

none_of : (a b : Bool) → a ≡ false → b ≡ false → (a || b) ≡ false
none_of a b one other = ap (λ x. x || b) one ∙ other

module _ {X : Type 0} (f : X → ℕ) (p : X → Bool) where
  filter_among : (xs : List X) (n : ℕ) → is_among (map f xs) n ≡ false → is_among (map f (filter p xs)) n ≡ false
  filter_among [] n none = none
  filter_among (x ∷ xs) n none =
      let parts = neither (f x == n) (is_among (map f xs) n) none in
      let rest = filter_among xs n parts.1 in
      elim (p x) as (λ b. is_among (map f (cond b (x ∷ filter p xs) (filter p xs))) n ≡ false) [
        | true ↦ none_of (f x == n) (is_among (map f (filter p xs)) n) parts.0 rest
        | false ↦ rest
      ]

  pub filter_apart : (xs : List X) → AreApart (map f xs) → AreApart (map f (filter p xs))
  filter_apart [] are = are
  filter_apart (x ∷ xs) are =
      let rest = filter_apart xs are.1 in
      elim (p x) as (λ b. AreApart (map f (cond b (x ∷ filter p xs) (filter p xs)))) [
        | true ↦ (filter_among xs (f x) are.0, rest)
        | false ↦ rest
      ]

-- ---- who is called

-- the nodes that are called, in order
abbrev pub targets : List Effect → List ℕ
targets [] = []
targets (made.Call to message purpose ∷ effects) = to ∷ targets effects
targets (made.Answer caller message ∷ effects) = targets effects

targets-append : (xs ys : List Effect) → targets (xs ++ ys) ≡ targets xs ++ targets ys
targets-append [] ys = refl
targets-append (made.Call to message purpose ∷ xs) ys = ap (λ l. to ∷ l) (targets-append xs ys)
targets-append (made.Answer caller message ∷ xs) ys = targets-append xs ys

answers_targets : (message : List ℕ) (callers : List Caller) → targets (answers message callers) ≡ []
answers_targets message [] = refl
answers_targets message (c ∷ callers) = answers_targets message callers

calls_targets : (k : Knowing) (name : AskName) (a : Asking) (sends : List Send) → targets (calls_of_ask k name a sends) ≡ map (λ (s : Send). s.node) sends
calls_targets k name a [] = refl
calls_targets k name a (s ∷ sends) = ap (λ l. s.node ∷ l) (calls_targets k name a sends)

sends_nodes : (view : View) (entries : List Entry) → map (λ (s : Send). s.node) (map (λ (e : Entry). send_to view e.node) entries) ≡ map (λ (e : Entry). e.node) entries
sends_nodes view [] = refl
sends_nodes view (e ∷ entries) = ap (λ l. e.node ∷ l) (sends_nodes view entries)

-- each entry of a view is another node
abbrev pub AreOthers : View → Type 0
AreOthers view = AreApart (map (λ (e : Entry). e.node) view.entries)

view_targets : (k : Knowing) (name : AskName) (a : Asking) (view : View) (down : List ℕ) (asked : List Asked) → AreOthers view → AreApart (targets (calls_of_ask k name a (calls_for_a_view view down asked)))
unfolding calls_for_a_view
view_targets k name a view down asked others =
    subst AreApart (sym (calls_targets k name a (calls_for_a_view view down asked) ∙ sends_nodes view (filter (is_due view down asked) view.entries)))
    (filter_apart (λ (e : Entry). e.node) (is_due view down asked) view.entries others)

none_some : {X : Type 0} (x : X) → ◌≡◌ {A = Option X} None (Some x) → ⊥
none_some x is = cc

-- ---- a step

module _ (views : List View) (others : (t : ℕ) (view : View) → slice_get views t ≡ Some view → AreOthers view) {M : Type 0} where
  -- by then nobody was called twice, and nobody at all where no ask waits
  pub record CallsOnce (d : Doing M) : Type 0 where
    pub views_are : d.member.known.views ≡ views
    pub once : AreApart (targets d.effects)
    pub none : open_ask d.member.performing.kept ≡ None → targets d.effects ≡ []

  pub calls_none : (d : Doing M) → d.member.known.views ≡ views → targets d.effects ≡ [] → CallsOnce d
  calls_none d same none = record { views_are = same; once = subst AreApart (sym none) tt; none = λ idle. none }

  quiet_more : (d : Doing M) (more : List Effect) → targets more ≡ [] → targets (d.effects ++ more) ≡ targets d.effects
  quiet_more d more none = targets-append d.effects more ∙ ap (λ l. targets d.effects ++ l) none ∙ append_none (targets d.effects)
    where
      append_none : (l : List ℕ) → l ++ [] ≡ l
      append_none [] = refl
      append_none (x ∷ l) = ap (λ r. x ∷ r) (append_none l)

  turns_once : (d : Doing M) → d.member.known.views ≡ views → targets d.effects ≡ [] → CallsOnce (after_turns d)
  turns_once d same none = by_run (last_of d.member.performing.kept.runs)
    where
      by_view : (run : RunRecord) (ask : AskRecord) → open_ask d.member.performing.kept ≡ Some ask → (o : Option View) → slice_get d.member.known.views ask.callee ≡ o
          → CallsOnce (option_map_or (opened_by_view d (name_of_last d.member.performing.kept) (asking_begun d.member.place d.member.performing.kept run ask)) o d)
      by_view run ask is None at = calls_none d same none
      by_view run ask is (Some view) at =
          let m = d.member in
          let name = name_of_last m.performing.kept in
          let a = asking_begun m.place m.performing.kept run ask in
          let more = calls_of_ask m.known name a (calls_for_a_view view m.known.down []) in
          record {
            views_are = same;
            once = subst AreApart (sym (targets-append d.effects more ∙ ap (λ l. l ++ targets more) none))
                (view_targets m.known name a view m.known.down [] (others ask.callee view (ap (λ l. slice_get l ask.callee) (sym same) ∙ at)));
            none = λ idle. absurd (none_some ask (sym idle ∙ is));
          }

      by_ask : (run : RunRecord) (o : Option AskRecord) → open_ask d.member.performing.kept ≡ o → CallsOnce (option_map_or (opened_ask d run) o (ended_run d run))
      by_ask run None is =
          let reply = reply_of_run run in
          let callers = answered_by_end d.member.gathered (index_of_last d.member.performing.kept) in
          calls_none (ended_run d run) same (quiet_more d (answers (reply_message reply) callers) (answers_targets (reply_message reply) callers) ∙ none)
      by_ask run (Some ask) is = by_view run ask is (slice_get d.member.known.views ask.callee) refl

      by_run : (o : Option RunRecord) → CallsOnce (option_map_or (λ (run : RunRecord). option_map_or (opened_ask d run) (open_ask d.member.performing.kept) (ended_run d run)) o d)
      by_run None = calls_none d same none
      by_run (Some run) = by_ask run (open_ask d.member.performing.kept) refl

  given_once : (d : Doing M) → CallsOnce d → CallsOnce (given_states d)
  given_once d is = by_test (is_idle d.member.performing.kept)
    where
      by_test : (b : Bool) → CallsOnce (if b then record d { member = record d.member { requests = [] }; effects = d.effects ++ snapshots_owed d.member.performing.kept d.member.requests } else d)
      by_test false = is
      by_test true =
          let same = quiet_more d (snapshots_owed d.member.performing.kept d.member.requests) (answers_targets (snapshot_bytes d.member.performing.kept.count d.member.performing.kept.state) d.member.requests) in
          record { views_are = is.views_are; once = subst AreApart (sym same) is.once; none = λ idle. same ∙ is.none idle }

  module _ (turn : M → List ValueTree → ℕ → List ValueTree → List Outcome → NextTurn) where
    answered_once : (step : ℕ) (d : Doing M) → d.member.known.views ≡ views → targets d.effects ≡ [] → CallsOnce (answered_open turn step d)
    answered_once step d same none = by_value (value_of_open d.member)
      where
        by_value : (o : Option Reply) → CallsOnce (option_map_or (answered_by turn step d) o d)
        by_value None = calls_none d same none
        by_value (Some reply) =
            let p = d.member.performing in
            turns_once (with_record d (performing.answer_open_ask (turn p.hosted) p.began step reply.outcome reply.clock p.kept)) same none

    pub entered_once : (step : ℕ) (d : Doing M) (start : RunStart) → d.member.known.views ≡ views → targets d.effects ≡ [] → CallsOnce (enter_run_of turn step d start)
    entered_once step d start same none =
        let p = d.member.performing in
        turns_once (with_record (record d { member = record d.member { gathered = gathering.with_start d.member.gathered p.kept.count } }) (performing.enter_run (turn p.hosted) step start p.kept)) same none

    module _ (declared : M → Signature) where
      starting_once : (step left : ℕ) (d : Doing M) → CallsOnce d → CallsOnce (start_runs declared turn step left d)
      unfolding start_runs
      starting_once step zero d is = given_once d is
      starting_once step (suc left) d is = by_start (λ e so_far. starting_once step left e so_far) (given_once d is) (next_start (given_states d).member) refl
        where
          idle_so : (a : Bool) (o : Option AskRecord) → (a && is_none o) ≡ true → o ≡ None
          idle_so true None so = refl
          idle_so true (Some ask) so = absurd (let clash : false ≡ true = so in cc)
          idle_so false o so = absurd (let clash : false ≡ true = so in cc)

          starts_idle : (call : HeldCall) (b : Bool) (o : Option HeldCall) → (if b then o else None) ≡ Some call → b ≡ true
          starts_idle call true o so = refl
          starts_idle call false o so = absurd (none_some call so)

          by_start : ((e : Doing M) → CallsOnce e → CallsOnce (start_runs declared turn step left e)) → CallsOnce (given_states d) → (o : Option HeldCall) → next_start (given_states d).member ≡ o
              → CallsOnce (option_map_or (λ call. start_runs declared turn step left (enter_run_of turn step (given_states d) (start_of_call declared turn (given_states d).member call))) o (given_states d))
          by_start rest known None so = known
          by_start rest known (Some call) so =
              let kept = (given_states d).member.performing.kept in
              let idle : is_idle kept ≡ true = starts_idle call (is_idle kept) (call_to_start (given_states d).member.gathered (given_states d).member.known.views (given_states d).member.known.down (given_states d).member.place.calls kept.count) so in
              rest (enter_run_of turn step (given_states d) (start_of_call declared turn (given_states d).member call))
              (entered_once step (given_states d) (start_of_call declared turn (given_states d).member call) known.views_are (known.none (idle_so (is_active kept.phase) (open_ask kept) idle)))

      pub executed_once : (step : ℕ) (d : Doing M) → d.member.known.views ≡ views → targets d.effects ≡ [] → CallsOnce (execute declared turn step d)
      executed_once step d same none = starting_once step (length (answered_open turn step d).member.gathered.held) (answered_open turn step d) (answered_once step d same none)
