-- A node to which an ask or a reply comes, and which is quiet, stays so.
use Rattle.std.proofs.Common.{◌≡◌, inl, inr, ℕ, ◌+◌, ◌<◌, ◌≤◌, List, [], ◌∷◌, length, drop, All, Option, None, Some, refl, sym, ap, subst, ◌∙◌}
use Rattle.std.specs.Prelude.{option_map, option_and_then}
use Rattle.std.specs.Option.{option_map_or}
use Rattle.std.proofs.lemmas.List.Elements.{All-nil, All-cons, All-weaker}
use Rattle.circus_value.specs.ValueTree.{ValueTree}
use Rattle.circus_value.specs.declared.caller.Caller.{Caller}
use Rattle.circus_value.specs.declared.outcome.Outcome.{Outcome}
use Rattle.circus_external.specs.Octets.{first_word}
use Rattle.circus_header.specs.Reading.{IsOne, calls}
use Rattle.circus_header.specs.declared.call.Call.{Call}
use Rattle.circus_header.specs.declared.call.Call.TheVariants.{Ask}
use Rattle.circus_header.specs.declared.call.CallHeader.{CallHeader}
use Rattle.circus_header.specs.declared.answer.Reply.{Reply}
use Rattle.circus_header.specs.declared.answer.ReturnHeader.{ReturnHeader}
use Rattle.circus_header.specs.declared.answer.ReturnHeader.TheVariants as says
use Rattle.circus_collate.specs.declared.deployment.Deployment.{Deployment}
use Rattle.circus_collate.specs.declared.view.View.{View}
use Rattle.circus_collate.specs.declared.deployment.Troupe.{Troupe}
use Rattle.circus_ring.specs.RingTable.{boot_views, boot_views_from}
use Rattle.circus_model.specs.NextTurn.{NextTurn}
use Rattle.circus_model.specs.Behaviour.{Behaviour, IsModule}
use Rattle.circus_model.specs.Agree.{IsAt, AreModules, Agree}
use Rattle.circus_model.specs.Execution.{history_of}
use Rattle.circus_model.specs.declared.signature.Signature.{Signature}
use Rattle.circus_record.specs.declared.record.MemberRecord.{MemberRecord}
use Rattle.circus_performing.specs.Performing.{last_count}
use Rattle.circus_performing.specs.Record.{behaviour}
use Rattle.circus_transfer.specs.declared.joiner.Joiner.{Joiner}
use Rattle.circus_wire.specs.declared.delivery.Heard.TheVariants as heard
use Rattle.circus_member_rules.specs.Messages.{ask_message, reply_message, fetch_message}
use Rattle.circus_member_rules.specs.declared.occurrence.AskName.{AskName}
use Rattle.circus_member_rules.specs.declared.occurrence.Purpose.{Purpose}
use Rattle.circus_member_rules.specs.declared.occurrence.Purpose.TheVariants as for
use Rattle.circus_member_rules.specs.declared.occurrence.Effect.{Effect}
use Rattle.circus_member_rules.specs.declared.occurrence.Effect.TheVariants as made
use Rattle.circus_member_rules.specs.declared.occurrence.Occurrence.{Occurrence}
use Rattle.circus_member_rules.specs.declared.occurrence.Occurrence.TheVariants as comes
use Rattle.circus_member_rules.specs.Happening.{CanHappen}
use Rattle.circus_member_rules.specs.MemberState.{MemberState}
use Rattle.circus_member_rules.specs.Step.{step_member}
use Rattle.circus_node.specs.Headers.{call_in, return_in}
use Rattle.circus_node.specs.Accepting.{occurrence_of_heard, taken_ask, taken_call, taken_answer, taken_reply}
use Rattle.circus_member_theory.proofs.Accepting.Calls.{ask_length, ask_read, ask_body, ask_no_fetch}
use Rattle.circus_member_theory.proofs.Accepting.Options.{seen_some}
use Rattle.circus_member_theory.proofs.Accepting.Returns.{reply_length, reply_read}
use Rattle.circus_member_theory.proofs.Accepting.Taken.{ask_taken}
use Rattle.circus_member_theory.proofs.Accepting.TrueCan.{call_can, return_can}
use Rattle.circus_node.specs.NodeState.{Acting, member, ringmaster}
use Rattle.circus_node.specs.Making.{Made, happens, refuse}
use Rattle.circus_member_rules.specs.Proper.{AreProper}
use Rattle.circus_member_theory.specs.Truth.{IsTrueCallFor, IsTrueReturn, IsReplyMessage}
use Rattle.circus_world_theory.proofs.Handing.{IsMade}
use Rattle.circus_world_theory.proofs.True.{CallSo, IsTrueAt}
use Rattle.circus_world_theory.proofs.Quiescence.Low.{same_client}
use Rattle.circus_world_theory.proofs.Quiescence.Staying.{IsQuietCall, EffectSo}
use Rattle.circus_world_theory.proofs.Quiescence.Stepping.{AreFirst, IsQuiet, IsQuietOccurrence, step_quiet}

-- ---- what is made

-- an ask of the first views
abbrev pub QuietCall : Purpose → List ℕ → Type 0
QuietCall (for.Ask name server) message = IsQuietCall message
QuietCall (for.Ring request) message = ⊥
QuietCall for.Fetch message = ⊥

-- a reply
abbrev pub QuietReturn : Caller → List ℕ → Type 0
QuietReturn caller message = (reply : Reply) × (message ≡ reply_message reply)

pub made_quietly : (views : List View) (own : ℕ) (P : Caller → CallHeader → List ℕ → Type 0) (kept : MemberRecord) (e : Effect) → EffectSo views own P kept e → IsMade QuietCall QuietReturn e
made_quietly views own P kept (made.Call to message (for.Ask name server)) so = so.0
made_quietly views own P kept (made.Call to message (for.Ring request)) so = absurd so
made_quietly views own P kept (made.Call to message for.Fetch) so = absurd so
made_quietly views own P kept (made.Answer caller message) so = (so.reply, so.message_is)

-- ---- the views at boot

pub first_views : (t : ℕ) (troupes : List Troupe) → AreFirst (boot_views_from t troupes)
first_views t [] = All-nil (λ (v : View). v.incarnation ≡ 1)
first_views t (troupe ∷ troupes) = All-cons (λ (v : View). v.incarnation ≡ 1) _ (boot_views_from (t + 1) troupes) refl (first_views (t + 1) troupes)

-- ---- messages

-- a message is a true ask of the first views
pub record IsLowAsk (message : List ℕ) : Type 0 where
  pub header : CallHeader
  pub body : List ℕ
  pub message_is : message ≡ ask_message header body
  pub header_is : IsOne calls (Ask header)
  pub low : header.client_incarnation ≤ 1

module _ (program : List Behaviour) (Called : Caller → List ℕ → Type 0) where
  pub low_ask : (own : Option ℕ) (purpose : Purpose) (message : List ℕ) → CallSo program Called own purpose message → QuietCall purpose message → IsLowAsk message
  low_ask (Some troupe) (for.Ask name server) message so is =
      record {
        header = so.header;
        body = so.body;
        message_is = so.message_is;
        header_is = so.header_is;
        low = same_client so.header is.header so.body is.body so.header_is is.short is.client (sym so.message_is ∙ is.message_is);
      }
  low_ask (Some troupe) (for.Ring request) message so is = absurd is
  low_ask (Some troupe) for.Fetch message so is = absurd is
  low_ask None purpose message so is = absurd so

  -- a true return of a reply is the reply to its call
  pub true_reply : (history_troupe : ℕ) (firsts : List ValueTree) (caller : Caller) (message : List ℕ) → ((n : ℕ) → Called caller (fetch_message history_troupe n) → ⊥)
      → IsTrueReturn (history_of program) history_troupe firsts Called caller message → QuietReturn caller message → IsReplyMessage (history_of program) history_troupe firsts Called caller message
  true_reply troupe firsts caller message no_fetch (inl is) quiet = is
  true_reply troupe firsts caller message no_fetch (inr (inl is)) quiet = absurd (no_fetch is.asked.0 is.asked.1)
  true_reply troupe firsts caller message no_fetch (inr (inr (inl is))) quiet = absurd (let clash : ◌≡◌ {A = Option ℕ} (Some 1) (Some 0) = ap first_word (sym is.1 ∙ quiet.1) in cc)
  true_reply troupe firsts caller message no_fetch (inr (inr (inr (inl is)))) quiet = absurd (let clash : ◌≡◌ {A = Option ℕ} (Some 2) (Some 0) = ap first_word (sym is.1 ∙ quiet.1) in cc)
  true_reply troupe firsts caller message no_fetch (inr (inr (inr (inr is)))) quiet = absurd (let clash : ◌≡◌ {A = Option ℕ} (Some 4) (Some 0) = ap first_word (sym is.1 ∙ quiet.1) in cc)

-- ---- a member

module _ {M : Type 0} (declared : M → Signature) (turn : M → List ValueTree → ℕ → List ValueTree → List Outcome → NextTurn) (first : M → List ValueTree)
    (lawful : (hosted : M) → IsModule (behaviour declared turn first hosted))
    (program : List Behaviour) (agree : Agree program) (are : AreModules program) (proper : AreProper program) (d : Deployment) where
  abbrev pub HasCame : (Caller → List ℕ → Type 0) → Caller → CallHeader → List ℕ → Type 0
  HasCame Called caller header body = IsOne calls (Ask header) × Called caller (ask_message header body)

  module _ (Called : Caller → List ℕ → Type 0) (phase : Joiner) where
    abbrev pub MemberQuiet : ℕ → MemberState M → Type 0
    MemberQuiet troupe m = IsQuiet (boot_views d.troupes) troupe phase (HasCame Called) m

    abbrev pub ActsQuiet : Option ℕ → Acting M → Type 0
    ActsQuiet (Some troupe) (member m) = MemberQuiet troupe m
    ActsQuiet (Some troupe) (ringmaster kept) = Unit {0}
    ActsQuiet None (member m) = ⊥
    ActsQuiet None (ringmaster kept) = Unit {0}

    pub record MakesQuiet (own : Option ℕ) (made : Made M) : Type 0 where
      pub acting : ActsQuiet own made.acting
      pub effects : All (IsMade QuietCall QuietReturn) made.came.effects

    module _ (troupe : ℕ) (m : MemberState M) (truly : IsTrueAt declared turn first program d Called troupe m) (quiet : MemberQuiet troupe m) where
      abbrev Old : ℕ → ℕ → ℕ → ℕ → Type 0
      Old a b c e = Unit {0}

      abbrev pub HappensQuietly : Occurrence → Type 0
      HappensQuietly x = CanHappen (declared m.performing.hosted) m x × IsQuietOccurrence (boot_views d.troupes) troupe phase (HasCame Called) x

      pub by_accepted : (at : ℕ) (o : Option Occurrence) → ((x : Occurrence) → o ≡ Some x → HappensQuietly x)
          → ((x : Occurrence) → o ≡ Some x → length (step_member declared turn at x m).member.performing.kept.runs ≤ last_count)
          → MakesQuiet (Some troupe) (option_map_or (happens declared turn at m) o (refuse (member m)))
      by_accepted at None so few = record { acting = quiet; effects = All-nil (IsMade QuietCall QuietReturn) }
      by_accepted at (Some x) so few =
          let s = step_quiet (boot_views d.troupes) troupe phase (HasCame Called) declared turn first lawful (first_views 0 d.troupes) Old at m truly.rested.sound quiet (λ index number callee r view node there entry. tt)
          x (so x refl).0 (so x refl).1 (few x refl) in
          record {
            acting = s.quiet;
            effects = All-weaker (EffectSo (boot_views d.troupes) troupe (HasCame Called) (step_member declared turn at x m).member.performing.kept) (IsMade QuietCall QuietReturn) (made_quietly (boot_views d.troupes) troupe (HasCame Called) (step_member declared turn at x m).member.performing.kept)
                (step_member declared turn at x m).effects s.effects;
          }

      -- an ask of the first views
      pub asked_so : (from client : ℕ) (b : Behaviour) (firsts : List ValueTree) (Other : Caller → List ℕ → Type 0) (sender : Caller) (message : List ℕ) (purpose : Purpose) → IsAt program client b
          → IsTrueCallFor (history_of program) client firsts Other purpose message → Called sender message → IsLowAsk message
          → (x : Occurrence) → occurrence_of_heard d (declared m.performing.hosted) m from (heard.Called sender message) ≡ Some x → HappensQuietly x
      asked_so from client b firsts Other sender message purpose at so called a x is =
          let h = a.header in
          let own = m.place.troupe in
          let read : call_in message ≡ Some (Ask h, ask_length h) = ap call_in a.message_is ∙ ask_read h a.body a.header_is in
          let body : drop (ask_length h) message ≡ a.body = ap (drop (ask_length h)) a.message_is ∙ ask_body h a.body in
          let taken : taken_ask d (declared m.performing.hosted) own sender h a.body ≡ Some x =
          ap (taken_ask d (declared m.performing.hosted) own sender h) (sym body)
          ∙ ap (option_and_then (λ (r : Call × ℕ). taken_call d (declared m.performing.hosted) own sender r.0 (drop r.1 message))) (sym read) ∙ is in
          let t = ask_taken d (declared m.performing.hosted) own sender h a.body x taken in
          let can = call_can declared turn first program agree are proper d troupe Called m from client b firsts Other sender message purpose x truly.of at so is in
          (can, subst (IsQuietOccurrence (boot_views d.troupes) troupe phase (HasCame Called)) (sym t.is) ((a.header_is, subst (Called sender) a.message_is called), a.low))

      -- a reply to an own ask
      pub replied_so : (from server number : ℕ) (firsts : List ValueTree) (caller : Caller) (name : AskName) (to : ℕ) (call message : List ℕ) → troupe < 32 → server < 32
          → (server ≡ troupe → firsts ≡ first m.performing.hosted)
          → IsTrueCallFor (history_of program) troupe (first m.performing.hosted) Called (for.Ask name to) call → IsTrueReturn (history_of program) server firsts (λ _ other. other ≡ call) caller message → QuietReturn caller message
          → (x : Occurrence) → occurrence_of_heard d (declared m.performing.hosted) m from (heard.Returned number (for.Ask name to) message) ≡ Some x → HappensQuietly x
      replied_so from server number firsts caller name to call message own few same own_call so quiet_ x is =
          let r = true_reply program (λ _ other. other ≡ call) server firsts caller message (λ n f. ask_no_fetch own_call.header own_call.body server n own_call.header_is (sym own_call.message_is ∙ sym f)) so quiet_ in
          let s = declared m.performing.hosted in
          let read : return_in message ≡ Some (says.Reply r.reply.clock, reply_length r.reply.clock) = ap return_in r.message_is ∙ reply_read r.reply r.header_is in
          let taken : option_map (λ reply. comes.Replied name from reply) (taken_reply d s m name r.reply.clock (reply_length r.reply.clock) message) ≡ Some x =
          ap (option_and_then (λ (y : ReturnHeader × ℕ). taken_answer d s m name to from y.0 y.1 message)) (sym read) ∙ is in
          let t = seen_some (λ reply. comes.Replied name from reply) (taken_reply d s m name r.reply.clock (reply_length r.reply.clock) message) x taken in
          let can = return_can declared turn first program agree are proper d troupe Called m from number server firsts caller (for.Ask name to) call message x truly.of truly.at own_call so same few own is in
          (can, subst (IsQuietOccurrence (boot_views d.troupes) troupe phase (HasCame Called)) (sym t.seen) tt)
