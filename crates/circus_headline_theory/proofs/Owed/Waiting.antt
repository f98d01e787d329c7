-- How a caller's call fares while the execution goes on: it waits, or gets the reply of its run; and who has none gets nothing.
use Rattle.std.proofs.Common.{◌≡◌, ℕ, Bool, true, false, ◌⊎◌, inl, inr, not, cond, List, [], ◌∷◌, ◌++◌, map, filter, Some, None, refl, ap, ◌∙◌, append-nil}
use Rattle.std.specs.Prelude.{nat_eq}
use Rattle.std.specs.Map.{lookup}
use Rattle.circus_value.specs.ValueTree.{ValueTree}
use Rattle.circus_value.specs.declared.caller.Caller.{Caller}
use Rattle.circus_value.specs.declared.outcome.Outcome.{Outcome}
use Rattle.circus_header.specs.declared.answer.Reply.{Reply}
use Rattle.circus_collate.specs.declared.view.View.{View}
use Rattle.circus_transfer.specs.Snapshot.{snapshot_bytes}
use Rattle.circus_model.specs.declared.signature.Signature.{Signature}
use Rattle.circus_model.specs.NextTurn.{NextTurn}
use Rattle.circus_model.specs.Behaviour.{IsModule}
use Rattle.circus_record.specs.declared.record.RunRecord.{RunRecord}
use Rattle.circus_gather.specs.Gathering.{Gathered, index_of, is_of_index, reply_of, answered_by_end}
use Rattle.circus_gather.specs.declared.held.HeldCall.{HeldCall}
use Rattle.circus_fanout.specs.Asking.{Asking, calls_for_a_view}
use Rattle.circus_fanout.specs.declared.send.Send.{Send}
use Rattle.circus_performing.specs.Record.{behaviour}
use Rattle.circus_member_rules.specs.declared.occurrence.AskName.{AskName}
use Rattle.circus_member_rules.specs.Messages.{reply_message}
use Rattle.circus_member_rules.specs.Rules.{calls_of_ask, call_of_ask, snapshots_owed, answers_of_run, index_of_last}
use Rattle.circus_member_rules.specs.MemberState.{Doing}
use Rattle.circus_member_rules.specs.Step.{name_of_last, asking_begun, opened_by_view, ended_run, reply_of_run}
use Rattle.circus_world_theory.proofs.Border.Going.{with_given}
use Rattle.circus_member_theory.specs.Made.{is_caller}
use Rattle.circus_headline_theory.proofs.Owed.Callers.{returned, is_from, returned-append, none_mapped, returned_answers, returned_passed, filter_twice}
use Rattle.circus_headline_theory.proofs.Owed.Going.{Keeps}

-- the reply that a lookup finds stays, behind others
pub lookup_stays : (i j : ℕ) (reply : Reply) (replies : List (ℕ × Reply)) (found : Reply) → lookup (nat_eq i) replies ≡ Some found → lookup (nat_eq i) (replies ++ (j, reply) ∷ []) ≡ Some found
lookup_stays i j reply [] found is = cc
lookup_stays i j reply (r ∷ rs) found is = by_test (lookup_stays i j reply rs found) (nat_eq i r.0) is
  where
    by_test : (lookup (nat_eq i) rs ≡ Some found → lookup (nat_eq i) (rs ++ (j, reply) ∷ []) ≡ Some found) → (b : Bool)
        → cond b (Some r.1) (lookup (nat_eq i) rs) ≡ Some found → cond b (Some r.1) (lookup (nat_eq i) (rs ++ (j, reply) ∷ [])) ≡ Some found
    by_test rest true here = here
    by_test rest false there = rest there

-- where none is found, the one behind is
pub lookup_added : (i j : ℕ) (reply : Reply) (replies : List (ℕ × Reply)) → lookup (nat_eq i) replies ≡ None → lookup (nat_eq i) (replies ++ (j, reply) ∷ []) ≡ cond (nat_eq i j) (Some reply) None
lookup_added i j reply [] none = refl
lookup_added i j reply (r ∷ rs) none = by_test (lookup_added i j reply rs) (nat_eq i r.0) none
  where
    by_test : (lookup (nat_eq i) rs ≡ None → lookup (nat_eq i) (rs ++ (j, reply) ∷ []) ≡ cond (nat_eq i j) (Some reply) None) → (b : Bool)
        → cond b (Some r.1) (lookup (nat_eq i) rs) ≡ None → cond b (Some r.1) (lookup (nat_eq i) (rs ++ (j, reply) ∷ [])) ≡ cond (nat_eq i j) (Some reply) None
    by_test rest true here = cc
    by_test rest false there = rest there

module _ {M : Type 0} (c : Caller) where
  -- nothing of the caller waits, and these returns were made to it
  pub record IsQuiet (old : List (List ℕ)) (d : Doing M) : Type 0 where
    pub returns : returned c d.effects ≡ old
    pub held : filter (is_from c) d.member.gathered.held ≡ []
    pub requests : filter (is_caller c) d.member.requests ≡ []

  -- its call waits
  pub record Waits (call : HeldCall) (d : Doing M) : Type 0 where
    pub returns : returned c d.effects ≡ []
    pub held : filter (is_from c) d.member.gathered.held ≡ call ∷ []
    pub requests : filter (is_caller c) d.member.requests ≡ []
    pub fresh : reply_of d.member.gathered (index_of d.member.gathered.module call.header) ≡ None

  -- it has the reply of its run
  pub record HasReply (call : HeldCall) (d : Doing M) : Type 0 where
    pub reply : Reply
    pub returns : returned c d.effects ≡ reply_message reply ∷ []
    pub held : filter (is_from c) d.member.gathered.held ≡ []
    pub requests : filter (is_caller c) d.member.requests ≡ []
    pub kept : reply_of d.member.gathered (index_of d.member.gathered.module call.header) ≡ Some reply

  -- ---- what each thing makes

  pub more_calls : (d : Doing M) (name : AskName) (a : Asking) (sends : List Send) → returned c (d.effects ++ calls_of_ask d.member.known name a sends) ≡ returned c d.effects
  more_calls d name a sends =
      returned-append c d.effects (calls_of_ask d.member.known name a sends)
      ∙ ap (λ l. returned c d.effects ++ l) (none_mapped c (call_of_ask d.member.known name a) (λ s rest. refl) sends)
      ∙ append-nil (returned c d.effects)

  pub more_snapshots : (d : Doing M) (waiting : List Caller) → filter (is_caller c) d.member.requests ≡ waiting
      → returned c (with_given d).effects ≡ returned c d.effects ++ map (λ (x : Caller). snapshot_bytes d.member.performing.kept.count d.member.performing.kept.state) waiting
  more_snapshots d waiting is =
      let kept = d.member.performing.kept in
      let message = snapshot_bytes kept.count kept.state in
      returned-append c d.effects (snapshots_owed kept d.member.requests)
      ∙ ap (λ l. returned c d.effects ++ l) (returned_answers c message d.member.requests ∙ ap (map (λ (x : Caller). message)) is)

  pub more_replies : (d : Doing M) (run : RunRecord) (waiting : List HeldCall) → filter (is_from c) d.member.gathered.held ≡ waiting
      → returned c (ended_run d run).effects ≡ returned c d.effects ++ map (λ (x : HeldCall). reply_message (reply_of_run run)) (filter (is_of_index d.member.gathered.module (index_of_last d.member.performing.kept)) waiting)
  more_replies d run waiting is =
      let g = d.member.gathered in
      let index = index_of_last d.member.performing.kept in
      let message = reply_message (reply_of_run run) in
      returned-append c d.effects (answers_of_run (answered_by_end g index) (reply_of_run run))
      ∙ ap (λ l. returned c d.effects ++ l)
      (returned_passed c message (is_of_index g.module index) g.held ∙ ap (λ l. map (λ (x : HeldCall). message) (filter (is_of_index g.module index) l)) is)

  pub fewer_held : (d : Doing M) (run : RunRecord) (waiting : List HeldCall) → filter (is_from c) d.member.gathered.held ≡ waiting
      → filter (is_from c) (ended_run d run).member.gathered.held ≡ filter (λ x. not (is_of_index d.member.gathered.module (index_of_last d.member.performing.kept) x)) waiting
  fewer_held d run waiting is =
      let stays : HeldCall → Bool = λ x. not (is_of_index d.member.gathered.module (index_of_last d.member.performing.kept) x) in
      filter_twice (is_from c) stays d.member.gathered.held ∙ ap (filter stays) is

  module _ (declared : M → Signature) (turn : M → List ValueTree → ℕ → List ValueTree → List Outcome → NextTurn) (first : M → List ValueTree) (lawful : (hosted : M) → IsModule (behaviour declared turn first hosted)) (step : ℕ) where
    -- ---- nothing of it waits

    quiet_given : (old : List (List ℕ)) (d : Doing M) → IsQuiet old d → IsQuiet old (with_given d)
    quiet_given old d h = record { returns = more_snapshots d [] h.requests ∙ append-nil (returned c d.effects) ∙ h.returns; held = h.held; requests = refl }

    pub quiet_opened : (old : List (List ℕ)) (d : Doing M) (name : AskName) (a : Asking) (view : View) → IsQuiet old d → IsQuiet old (opened_by_view d name a view)
    quiet_opened old d name a view h =
        record { returns = more_calls d name a (calls_for_a_view view d.member.known.down []) ∙ h.returns; held = h.held; requests = h.requests }

    pub quiet_ended : (old : List (List ℕ)) (d : Doing M) (run : RunRecord) → IsQuiet old d → IsQuiet old (ended_run d run)
    quiet_ended old d run h =
        record { returns = more_replies d run [] h.held ∙ append-nil (returned c d.effects) ∙ h.returns; held = fewer_held d run [] h.held; requests = h.requests }

    pub quiet_keeps : (old : List (List ℕ)) → Keeps declared turn first lawful step (IsQuiet old) (IsQuiet old)
    quiet_keeps old =
        record {
          gives = λ d sound idle h. quiet_given old d h;
          enters = λ d start sound may none h. record { returns = h.returns; held = h.held; requests = h.requests };
          answers = λ d reply sound value h. record { returns = h.returns; held = h.held; requests = h.requests };
          opens = λ d run ask view turned at is there h. quiet_opened old d (name_of_last d.member.performing.kept) (asking_begun d.member.place d.member.performing.kept run ask) view h;
          ends = λ d run turned at none h. quiet_ended old d run h;
        }

    -- ---- its call waits, or has the reply

    pub replied_keeps : (call : HeldCall) → Keeps declared turn first lawful step (λ d. Waits call d ⊎ HasReply call d) (λ d. Waits call d ⊎ HasReply call d)
    replied_keeps call =
        record {
          gives = λ d sound idle h. gives d h;
          enters = λ d start sound may none h. elim h [ inl w ↦ inl (record { returns = w.returns; held = w.held; requests = w.requests; fresh = w.fresh }) | inr r ↦ inr (record { reply = r.reply; returns = r.returns; held = r.held; requests = r.requests; kept = r.kept }) ];
          answers = λ d reply sound value h. elim h [ inl w ↦ inl (record { returns = w.returns; held = w.held; requests = w.requests; fresh = w.fresh }) | inr r ↦ inr (record { reply = r.reply; returns = r.returns; held = r.held; requests = r.requests; kept = r.kept }) ];
          opens = λ d run ask view turned at is there h. opens d (name_of_last d.member.performing.kept) (asking_begun d.member.place d.member.performing.kept run ask) view h;
          ends = λ d run turned at none h. ends d run h;
        }
      where
        gives : (d : Doing M) → Waits call d ⊎ HasReply call d → Waits call (with_given d) ⊎ HasReply call (with_given d)
        gives d (inl w) =
            inl (record { returns = more_snapshots d [] w.requests ∙ append-nil (returned c d.effects) ∙ w.returns; held = w.held; requests = refl; fresh = w.fresh })
        gives d (inr r) =
            inr (record { reply = r.reply; returns = more_snapshots d [] r.requests ∙ append-nil (returned c d.effects) ∙ r.returns; held = r.held; requests = refl; kept = r.kept })

        opens : (d : Doing M) (name : AskName) (a : Asking) (view : View) → Waits call d ⊎ HasReply call d → Waits call (opened_by_view d name a view) ⊎ HasReply call (opened_by_view d name a view)
        opens d name a view (inl w) =
            inl (record { returns = more_calls d name a (calls_for_a_view view d.member.known.down []) ∙ w.returns; held = w.held; requests = w.requests; fresh = w.fresh })
        opens d name a view (inr r) =
            inr (record { reply = r.reply; returns = more_calls d name a (calls_for_a_view view d.member.known.down []) ∙ r.returns; held = r.held; requests = r.requests; kept = r.kept })

        ends : (d : Doing M) (run : RunRecord) → Waits call d ⊎ HasReply call d → Waits call (ended_run d run) ⊎ HasReply call (ended_run d run)
        ends d run (inl w) = by_index (is_of_index g.module index call) refl
          where
            g : Gathered
            g = d.member.gathered

            index : ℕ
            index = index_of_last d.member.performing.kept

            by_index : (b : Bool) → is_of_index g.module index call ≡ b → Waits call (ended_run d run) ⊎ HasReply call (ended_run d run)
            by_index true is =
                inr (record {
                  reply = reply_of_run run;
                  returns = more_replies d run (call ∷ []) w.held ∙ ap (λ b. returned c d.effects ++ map (λ (x : HeldCall). reply_message (reply_of_run run)) (cond b (call ∷ []) [])) is ∙ ap (λ l. l ++ reply_message (reply_of_run run) ∷ []) w.returns;
                  held = fewer_held d run (call ∷ []) w.held ∙ ap (λ b. cond (not b) (call ∷ []) []) is;
                  requests = w.requests;
                  kept = lookup_added (index_of g.module call.header) index (reply_of_run run) g.replies w.fresh ∙ ap (λ b. cond b (Some (reply_of_run run)) None) is;
                })
            by_index false is =
                inl (record {
                  returns = more_replies d run (call ∷ []) w.held ∙ ap (λ b. returned c d.effects ++ map (λ (x : HeldCall). reply_message (reply_of_run run)) (cond b (call ∷ []) [])) is ∙ append-nil (returned c d.effects) ∙ w.returns;
                  held = fewer_held d run (call ∷ []) w.held ∙ ap (λ b. cond (not b) (call ∷ []) []) is;
                  requests = w.requests;
                  fresh = lookup_added (index_of g.module call.header) index (reply_of_run run) g.replies w.fresh ∙ ap (λ b. cond b (Some (reply_of_run run)) None) is;
                })
        ends d run (inr r) =
            inr (record {
              reply = r.reply;
              returns = more_replies d run [] r.held ∙ append-nil (returned c d.effects) ∙ r.returns;
              held = fewer_held d run [] r.held;
              requests = r.requests;
              kept = lookup_stays (index_of d.member.gathered.module call.header) (index_of_last d.member.performing.kept) (reply_of_run run) d.member.gathered.replies r.reply r.kept;
            })
