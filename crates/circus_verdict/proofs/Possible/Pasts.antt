-- What holds of all that happened to a member holds of what was given by it.
use Rattle.std.proofs.Common.{◌≡◌, ℕ, zero, suc, ◌+◌, ◌≤◌, ◌&&◌, Bool, true, false, if◌then◌else◌, List, [], ◌∷◌, get_or, All, Option, None, Some, refl, sym, ap, subst, ◌∙◌}
use Rattle.std.specs.Prelude.{nat_eq, nat_lt, nat_le, slice_get, option_map, option_and_then}
use Rattle.std.proofs.lemmas.Option.{slice_get_within}
use Rattle.std.proofs.lemmas.Bool.{and_parts, eqb-true, leb-true}
use Rattle.std.proofs.lemmas.List.Elements.{All-nil, All-cons, All-push, All-append}
use Rattle.circus_value.specs.ValueTree.{ValueTree}
use Rattle.circus_header.specs.declared.answer.Reply.{Reply}
use Rattle.circus_header.specs.ReplyEquality.{reply_eq}
use Rattle.circus_collate.specs.declared.view.View.{View}
use Rattle.circus_collate.specs.declared.giving.Said.{Said}
use Rattle.circus_collate.specs.declared.collating.Collated.{Collated}
use Rattle.circus_collate.specs.declared.collating.Collated.TheVariants.{Waiting, Answer, Differ}
use Rattle.circus_collate.specs.Expecting.{expected_nodes}
use Rattle.circus_collate.specs.Collating.{collate}
use Rattle.circus_transfer.specs.declared.joiner.Joiner.{Joiner}
use Rattle.circus_record.specs.declared.record.AskRecord.{AskRecord}
use Rattle.circus_record.specs.declared.record.MemberRecord.{MemberRecord}
use Rattle.circus_gather.specs.declared.held.HeldCall.{HeldCall}
use Rattle.circus_performing.specs.Performing.{is_active, is_fetching, last_count}
use Rattle.circus_member_rules.specs.declared.occurrence.AskName.{AskName}
use Rattle.circus_member_rules.specs.declared.occurrence.Occurrence.{Occurrence}
use Rattle.circus_member_rules.specs.declared.occurrence.Occurrence.TheVariants as comes
use Rattle.circus_member_rules.specs.declared.place.Place.{Place}
use Rattle.circus_member_rules.specs.OpenAsks.{is_name}
use Rattle.circus_member_rules.proofs.Starting.{given_is_chosen}
use Rattle.circus_member_theory.specs.First.{at_end, or_else, first_given}
use Rattle.circus_member_theory.specs.Past.{Past, booted, followed, now, views_known, nodes_declared_down, required_incarnation, calls_arrived, reply_said, replies_to, phase, snapshot_fetched}
use Rattle.circus_member_theory.specs.Timely.{given_value, collated_call, reply_by_view, collated_reply, is_free_for, may_start, may_answer}
use Rattle.circus_member_theory.proofs.Timely.Firsts.{first_is}

-- of each thing that happened
abbrev pub Each : (Occurrence → Type 0) → Past → Type 0
Each P booted = Unit {0}
Each P (followed p step o) = Each P p × P o

name_is : (name other : AskName) → is_name name other ≡ true → name ≡ other
name_is name other is =
    let both = and_parts (nat_eq name.run other.run) (nat_eq name.ask other.ask) is in
    let run = eqb-true name.run other.run both.0 in
    let ask = eqb-true name.ask other.ask both.1 in
    (λ j. record { run = run j; ask = ask j })

get_is : {X : Type 0} (xs : List X) (k : ℕ) (x : X) → slice_get xs k ≡ Some x → get_or xs k x ≡ x
get_is [] k x at = cc
get_is (y ∷ xs) zero x at = cc
get_is (y ∷ xs) (suc k) x at = get_is xs k x at

-- what is given is a value of the list
value_there : (P : Said Reply → Type 0) (said : List (Said Reply)) (place : ℕ) (reply : Reply) → All P said → option_map (λ (s : Said Reply). s.value) (slice_get said place) ≡ Some reply
    → (s : Said Reply) × P s × (s.value ≡ reply)
value_there P said place reply all is = by_option (slice_get said place) refl is
  where
    by_option : (o : Option (Said Reply)) → slice_get said place ≡ o → option_map (λ (s : Said Reply). s.value) o ≡ Some reply → (s : Said Reply) × P s × (s.value ≡ reply)
    by_option None there e = absurd (let clash : ◌≡◌ {A = Option Reply} None (Some reply) = e in cc)
    by_option (Some s) there e = (let same : s.value ≡ reply = cc in (s, subst P (get_is said place s there) (all place s (slice_get_within said place s there)), same))

module _ (P : Occurrence → Type 0) where
  -- ---- what came

  abbrev pub IsCall : HeldCall → Type 0
  IsCall call = P (comes.Asked call.header call.body call.sender)

  calls_hold : (p : Past) → Each P p → All IsCall (calls_arrived p)
  calls_hold booted each = All-nil IsCall
  calls_hold (followed p step (comes.Asked header body sender)) each =
      let call : HeldCall = record { header = header; body = body; sender = sender } in
      All-push IsCall (calls_arrived p) call (calls_hold p each.0) each.1
  calls_hold (followed p step (comes.Fetched incarnation sender)) each = calls_hold p each.0
  calls_hold (followed p step (comes.Replied name from reply)) each = calls_hold p each.0
  calls_hold (followed p step (comes.IsStale name server from incarnation)) each = calls_hold p each.0
  calls_hold (followed p step (comes.IsBefore name from)) each = calls_hold p each.0
  calls_hold (followed p step (comes.Told request table)) each = calls_hold p each.0
  calls_hold (followed p step (comes.Restored state count)) each = calls_hold p each.0
  calls_hold (followed p step (comes.Declared node)) each = calls_hold p each.0
  calls_hold (followed p step comes.Joins) each = calls_hold p each.0

  abbrev pub IsReply : AskName → Said Reply → Type 0
  IsReply name s = P (comes.Replied name s.node s.value)

  said_holds : (asked : ℕ) (name : AskName) (step : ℕ) (other : AskName) (from : ℕ) (reply : Reply) → P (comes.Replied other from reply)
      → All (IsReply name) (reply_said asked name step other from reply)
  said_holds asked name step other from reply is = by_test (nat_lt asked step && is_name name other) refl
    where
      by_test : (b : Bool) → (nat_lt asked step && is_name name other) ≡ b
          → All (IsReply name) (let said : Said Reply = record { node = from; value = reply } in if b then said ∷ [] else [])
      by_test true t =
          let same = name_is name other (and_parts (nat_lt asked step) (is_name name other) t).1 in
          All-cons (IsReply name) (record { node = from; value = reply }) [] (subst (λ n. P (comes.Replied n from reply)) (sym same) is) (All-nil (IsReply name))
      by_test false t = All-nil (IsReply name)

  pub replies_hold : (asked : ℕ) (name : AskName) (p : Past) → Each P p → All (IsReply name) (replies_to asked name p)
  replies_hold asked name booted each = All-nil (IsReply name)
  replies_hold asked name (followed p step (comes.Replied other from reply)) each =
      All-append (IsReply name) (replies_to asked name p) (reply_said asked name step other from reply) (replies_hold asked name p each.0)
      (said_holds asked name step other from reply each.1)
  replies_hold asked name (followed p step (comes.Asked header body sender)) each = replies_hold asked name p each.0
  replies_hold asked name (followed p step (comes.Fetched incarnation sender)) each = replies_hold asked name p each.0
  replies_hold asked name (followed p step (comes.IsStale other server from incarnation)) each = replies_hold asked name p each.0
  replies_hold asked name (followed p step (comes.IsBefore other from)) each = replies_hold asked name p each.0
  replies_hold asked name (followed p step (comes.Told request table)) each = replies_hold asked name p each.0
  replies_hold asked name (followed p step (comes.Restored state count)) each = replies_hold asked name p each.0
  replies_hold asked name (followed p step (comes.Declared node)) each = replies_hold asked name p each.0
  replies_hold asked name (followed p step comes.Joins) each = replies_hold asked name p each.0

  pub snapshot_holds : (begins : Joiner) (p : Past) (state : List ValueTree) (count : ℕ) → Each P p → snapshot_fetched begins p ≡ Some (state, count) → P (comes.Restored state count)
  snapshot_holds begins booted state count each is = absurd (let clash : ◌≡◌ {A = Option (List ValueTree × ℕ)} None (Some (state, count)) = is in cc)
  snapshot_holds begins (followed p step (comes.Restored other another)) state count each is = by_test (snapshot_holds begins p state count each.0) (is_fetching (phase begins p)) is
    where
      by_test : (snapshot_fetched begins p ≡ Some (state, count) → P (comes.Restored state count)) → (b : Bool)
          → (if b then Some (other, another) else snapshot_fetched begins p) ≡ Some (state, count) → P (comes.Restored state count)
      by_test before true e =
          let same : ◌≡◌ {A = List ValueTree × ℕ} (other, another) (state, count) = cc in
          subst (λ (x : List ValueTree × ℕ). P (comes.Restored x.0 x.1)) same each.1
      by_test before false e = before e
  snapshot_holds begins (followed p step (comes.Asked header body sender)) state count each is = snapshot_holds begins p state count each.0 is
  snapshot_holds begins (followed p step (comes.Fetched incarnation sender)) state count each is = snapshot_holds begins p state count each.0 is
  snapshot_holds begins (followed p step (comes.Replied name from reply)) state count each is = snapshot_holds begins p state count each.0 is
  snapshot_holds begins (followed p step (comes.IsStale name server from incarnation)) state count each is = snapshot_holds begins p state count each.0 is
  snapshot_holds begins (followed p step (comes.IsBefore name from)) state count each is = snapshot_holds begins p state count each.0 is
  snapshot_holds begins (followed p step (comes.Told request table)) state count each is = snapshot_holds begins p state count each.0 is
  snapshot_holds begins (followed p step (comes.Declared node)) state count each is = snapshot_holds begins p state count each.0 is
  snapshot_holds begins (followed p step comes.Joins) state count each is = snapshot_holds begins p state count each.0 is

  -- ---- what was given first

  pub record GivenAt {A : Type 0} (gives : Past → Option A) (given : A) : Type 0 where
    pub at : Past
    pub each : Each P at
    pub is : gives at ≡ Some given

  pub given_at : {A : Type 0} (gives : Past → Option A) (p : Past) (given : ℕ × A) → Each P p → first_given gives p ≡ Some given → GivenAt gives given.1
  given_at {A} gives booted given each is = by_end (gives booted) refl (sym (first_is gives booted) ∙ is)
    where
      by_end : (o : Option A) → gives booted ≡ o → at_end booted o ≡ Some given → GivenAt gives given.1
      by_end None gave e = absurd (let clash : ◌≡◌ {A = Option (ℕ × A)} None (Some given) = e in cc)
      by_end (Some a) gave e =
          let same : (0, a) ≡ given = cc in
          record { at = booted; each = tt; is = gave ∙ ap (λ (g : ℕ × A). Some g.1) same }
  given_at {A} gives (followed p step o) given each is =
      by_first (first_given gives p) (gives (followed p step o)) refl (given_at gives p given each.0) (sym (first_is gives (followed p step o)) ∙ is) refl
    where
      by_first : (before : Option (ℕ × A)) (last : Option A) → gives (followed p step o) ≡ last → (first_given gives p ≡ Some given → GivenAt gives given.1)
          → or_else before (at_end (followed p step o) last) ≡ Some given → first_given gives p ≡ before → GivenAt gives given.1
      by_first (Some g) last gave rest e was = rest (was ∙ e)
      by_first None (Some a) gave rest e was =
          let same : (step, a) ≡ given = cc in
          record { at = followed p step o; each = each; is = gave ∙ ap (λ (g : ℕ × A). Some g.1) same }
      by_first None None gave rest e was = absurd (let clash : ◌≡◌ {A = Option (ℕ × A)} None (Some given) = e in cc)

  -- ---- the call of a run, and the reply to an ask

  module _ (place : Place) (boot : List View) (begins : Joiner) where
    pub record StartsBy (kept : MemberRecord) (number : ℕ) (call : HeldCall) : Type 0 where
      pub came : IsCall call
      pub few : kept.from + number ≤ last_count

    starts_by : (kept : MemberRecord) (number : ℕ) (p : Past) (call : HeldCall) → Each P p → may_start place boot begins kept number p ≡ Some call → StartsBy kept number call
    starts_by kept number p call each is = by_test (is_active (phase begins p) && is_free_for place boot begins kept number p && nat_le (kept.from + number) last_count) refl is
      where
        by_test : (b : Bool) → (is_active (phase begins p) && is_free_for place boot begins kept number p && nat_le (kept.from + number) last_count) ≡ b
            → (if b then collated_call place boot begins (kept.from + number) p else None) ≡ Some call → StartsBy kept number call
        by_test true t e =
            record {
              came =
                  (given_is_chosen IsCall place.troupe (required_incarnation p) (views_known boot p) (nodes_declared_down p) place.calls (kept.from + number) (calls_arrived p) call (calls_hold p each) e).holds;
              few =
                  leb-true (kept.from + number) last_count
                  (and_parts (is_active (phase begins p) && is_free_for place boot begins kept number p) (nat_le (kept.from + number) last_count) t).1;
            }
        by_test false t e = absurd (let clash : ◌≡◌ {A = Option HeldCall} None (Some call) = e in cc)

    pub run_started_by : (kept : MemberRecord) (number : ℕ) (p : Past) (given : ℕ × HeldCall) → Each P p → first_given (may_start place boot begins kept number) p ≡ Some given → StartsBy kept number given.1
    run_started_by kept number p given each is =
        let g = given_at (may_start place boot begins kept number) p given each is in starts_by kept number g.at given.1 g.each g.is

    abbrev IsSaid : AskName → Reply → Type 0
    IsSaid name reply = (from : ℕ) × P (comes.Replied name from reply)

    answers_by : (name : AskName) (ask : AskRecord) (p : Past) (reply : Reply) → Each P p → may_answer place boot begins name ask p ≡ Some reply → IsSaid name reply
    answers_by name ask p reply each is = by_test (nat_le ask.asked (now p)) is
      where
        all : All (IsReply name) (replies_to ask.asked name p)
        all = replies_hold ask.asked name p each

        by_collated : (c : Collated) → given_value (replies_to ask.asked name p) c ≡ Some reply → IsSaid name reply
        by_collated (Answer at) e =
            let v = value_there (IsReply name) (replies_to ask.asked name p) at reply all e in
            (v.0.node, subst (λ r. P (comes.Replied name v.0.node r)) v.2 v.1)
        by_collated Waiting e = absurd (let clash : ◌≡◌ {A = Option Reply} None (Some reply) = e in cc)
        by_collated (Differ one other) e = absurd (let clash : ◌≡◌ {A = Option Reply} None (Some reply) = e in cc)

        by_view : (o : Option View) → option_and_then (reply_by_view place boot begins name ask p) o ≡ Some reply → IsSaid name reply
        by_view None e = absurd (let clash : ◌≡◌ {A = Option Reply} None (Some reply) = e in cc)
        by_view (Some view) e =
            by_collated (collate reply_eq (expected_nodes view ask.index) (nodes_declared_down p) (replies_to ask.asked name p) place.replies) e

        by_test : (b : Bool) → (if b then collated_reply place boot begins name ask p else None) ≡ Some reply → IsSaid name reply
        by_test true e = by_view (slice_get (views_known boot p) ask.callee) e
        by_test false e = absurd (let clash : ◌≡◌ {A = Option Reply} None (Some reply) = e in cc)

    pub ask_answered_by : (name : AskName) (ask : AskRecord) (p : Past) (given : ℕ × Reply) → Each P p → first_given (may_answer place boot begins name ask) p ≡ Some given → IsSaid name given.1
    ask_answered_by name ask p given each is =
        let g = given_at (may_answer place boot begins name ask) p given each is in answers_by name ask g.at given.1 g.each g.is
