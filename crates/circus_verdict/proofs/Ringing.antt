-- The Ringmaster's node that lives through the events of a record: it goes on by each, or no run begins with them.
use Rattle.std.specs.Prelude.{IsSomeAnd, fold, option_and_then}
use Rattle.std.specs.List.{flat_map}
use Rattle.std.specs.Option.{option_map_or}
use Rattle.std.proofs.Common.{ℕ, ◌≡◌, ◌∙◌, ◌+◌, ◌≤◌, inl, inr, List, [], ◌∷◌, ◌++◌, map, All, Option, None, Some, refl, sym, ap, subst, arith, append_assoc, append-nil}
use Rattle.std.proofs.lemmas.List.{map-append, same_from_push}
use Rattle.std.proofs.lemmas.List.Sums.{fold-append}
use Rattle.std.proofs.lemmas.List.Elements.{All-nil, All-cons, All-append}
use Rattle.std.proofs.lemmas.Option.{same_Some}
use Rattle.circus_value.specs.declared.caller.Caller.{Caller}
use Rattle.circus_header.specs.declared.call.Request.{Request}
use Rattle.circus_collate.specs.declared.deployment.Deployment.{Deployment}
use Rattle.circus_collate.specs.declared.table.Table.{Table}
use Rattle.circus_ring.specs.RingTable.{Kept, kept_by, kept_after, boot_views, table_by}
use Rattle.circus_model.specs.Behaviour.{Behaviour}
use Rattle.circus_exchange.specs.Limits.{never_used}
use Rattle.circus_wire.specs.Wire.{Beginning}
use Rattle.circus_wire.specs.WireActs.{WireActs, begun, made_to}
use Rattle.circus_wire.specs.declared.delivery.Heard.TheVariants.{Called}
use Rattle.circus_member_rules.specs.declared.occurrence.Difference.{Difference}
use Rattle.circus_member_rules.specs.declared.occurrence.Effect.{Effect}
use Rattle.circus_member_rules.specs.declared.occurrence.Effect.TheVariants as makes
use Rattle.circus_member_rules.specs.declared.occurrence.Purpose.{Purpose}
use Rattle.circus_performing.proofs.Records.{none_is_some}
use Rattle.circus_node.specs.Accepting.{troupe_at, accepted_request}
use Rattle.circus_node.specs.Making.{table_answers, table_message}
use Rattle.circus_node.specs.Trace as trace
use Rattle.circus_node.specs.Trace.{Trace}
use Rattle.circus_node.specs.declared.event.Event.{Event}
use Rattle.circus_node.specs.declared.event.Event.TheVariants as comes
use Rattle.circus_node.specs.declared.event.Outputs.{Outputs}
use Rattle.circus_world.specs.Legal.{is_spare}
use Rattle.circus_world_theory.specs.Histories.{beginning_of}
use Rattle.circus_world_theory.specs.NodeActs.{with_all, came_by}
use Rattle.circus_headline_theory.specs.Datagrams.Ring.{Requests}
use Rattle.circus_headline_theory.specs.Owed.Living.{told_in}
use Rattle.circus_headline_theory.specs.Peers.{GoesToPeer}
use Rattle.circus_headline_theory.specs.RingRun.{request_heard, answer_to, kept_behind, request_in, requests_of, AnswersRequests}
use Rattle.circus_headline_theory.specs.ServedRun.{IsNumbered}
use Rattle.circus_headline_theory.specs.Trace.{now, told_of, acts_of, acts_in_step, gives_for_all, suspects_in, SendsWhatIsOwed}
use Rattle.circus_headline_theory.proofs.Sends.{made_behind}
use Rattle.circus_audit.specs.declared.given.Given.{Given}
use Rattle.circus_audit.specs.declared.given.GivenEvent.{GivenEvent}
use Rattle.circus_dues.specs.NodeRuns.{BeginsWith}
use Rattle.circus_verdict.specs.Audited.{events_in, Awaits, JoinsSo, HasRingRun, HasRunAt, IsAuditedBy, IsAudited}
use Rattle.circus_verdict.specs.Verdict.{IsVerdict}
use Rattle.circus_verdict.specs.declared.station.Came.{Came}
use Rattle.circus_verdict.specs.declared.station.Pairs.{Pairs}
use Rattle.circus_verdict.specs.declared.verdict.Verdict.TheVariants.{Yes}
use Rattle.circus_verdict.specs.Seen.Living.{awaited_by, came_in, ComesSo, HasCome}
use Rattle.circus_verdict.specs.Seen.Ringing.{kept_then, GoesSo, IsRunSo, AreRefused, HasLived}
use Rattle.circus_verdict.specs.Seen.Station.{StandFor, heard_of, IsOwed, IsToldOf, IsToldRightly}
use Rattle.circus_verdict.proofs.Auditing.{came_events}
use Rattle.circus_verdict.proofs.Awaiting.{awaited_alone, awaited_so, some_before}
use Rattle.circus_verdict.proofs.Beginnings.{has_booted, HasGoneOn, goes_on_by}

-- ---- what it makes

-- answers go to whom they are for
one_answer : (d : Deployment) (node : ℕ) (caller : Caller) (o : Option Table) → All (GoesToPeer (beginning_of d node)) (option_map_or (λ (table : Table). makes.Answer caller (table_message table) ∷ []) o [])
one_answer d node caller None = All-nil (GoesToPeer (beginning_of d node))
one_answer d node caller (Some table) =
    All-cons (GoesToPeer (beginning_of d node)) (makes.Answer caller (table_message table)) [] tt (All-nil (GoesToPeer (beginning_of d node)))

answers_go : (d : Deployment) (node : ℕ) (kept : Kept) (requests : Requests) → All (GoesToPeer (beginning_of d node)) (flat_map (answer_to kept) requests)
answers_go d node kept [] = All-nil (GoesToPeer (beginning_of d node))
answers_go d node kept (r ∷ requests) =
    All-append (GoesToPeer (beginning_of d node)) (answer_to kept r) (flat_map (answer_to kept) requests) (one_answer d node r.0 (table_by kept r.1)) (answers_go d node kept requests)

-- of a call that is accepted the answer is made
pub answers_one : (kept : Kept) (sender : Caller) (message : List ℕ) (request : Request) → accepted_request kept message ≡ Some request
    → flat_map (answer_to kept) (request_heard kept (Called sender message)) ≡ table_answers kept sender request
answers_one kept sender message request accepted =
    ap (λ (o : Option Request). flat_map (answer_to kept) (option_map_or (λ request. (sender, request) ∷ []) o [])) accepted ∙ append-nil (answer_to kept (sender, request))

pub keeps_one : (kept : Kept) (sender : Caller) (message : List ℕ) (request : Request) → accepted_request kept message ≡ Some request
    → kept_then kept (request_heard kept (Called sender message)) ≡ kept_by kept request
keeps_one kept sender message request accepted = ap (λ (o : Option Request). kept_then kept (option_map_or (λ request. (sender, request) ∷ []) o [])) accepted

-- ---- there is one run

none_in : (at : ℕ) (ds : List Difference) → told_in at ds ≡ [] → ds ≡ []
none_in at [] is = refl
none_in at (x ∷ ds) is = cc

both_none : {X : Type 0} (xs ys : List X) → xs ++ ys ≡ [] → (xs ≡ []) × (ys ≡ [])
both_none [] ys is = (refl, is)
both_none (x ∷ xs) ys is = cc

module _ (d : Deployment) (node : ℕ) where
  abbrev b : Beginning
  b = beginning_of d node

  same_ring : (t u : Trace) → IsNumbered t → IsNumbered u → came_in t ≡ came_in u → told_of t ≡ [] → told_of u ≡ [] → AnswersRequests d node t → AnswersRequests d node u
      → SendsWhatIsOwed b t → SendsWhatIsOwed b u → t ≡ u
  same_ring (trace.booted m o) (trace.booted n p) one two came quiet still answers answered sends sent_ =
      let made : m ≡ n = answers ∙ sym answered in
      let gives : o.gives ≡ p.gives = sends.0 ∙ (λ j. gives_for_all b begun (acts_in_step b begun [] (made j))) ∙ sym sent_.0 in
      let suspects : o.suspects ≡ p.suspects = sends.1 ∙ sym sent_.1 in
      let told : o.differences ≡ p.differences = none_in 0 o.differences quiet ∙ sym (none_in 0 p.differences still) in
      λ j. trace.booted (made j) (record { gives = gives j; suspects = suspects j; differences = told j })
  same_ring (trace.booted m o) (trace.stepped u k f n p) one two came quiet still answers answered sends sent_ =
      absurd (none_is_some (same_from_push [] (came_in u) None (Some f) came).1)
  same_ring (trace.stepped t at e m o) (trace.booted n p) one two came quiet still answers answered sends sent_ =
      absurd (none_is_some (sym (same_from_push (came_in t) [] (Some e) None came).1))
  same_ring (trace.stepped t at e m o) (trace.stepped u k f n p) one two came quiet still answers answered sends sent_ =
      let both = same_from_push (came_in t) (came_in u) (Some e) (Some f) came in
      let q = both_none (told_of t) (told_in at o.differences) quiet in
      let s = both_none (told_of u) (told_in k p.differences) still in
      let before : t ≡ u = same_ring t u one.0 two.0 both.0 q.0 s.0 answers.0 answered.0 sends.0 sent_.0 in
      let at_is : at ≡ k = one.1 ∙ (λ j. now (before j) + 1) ∙ sym two.1 in
      let event_is : e ≡ f = same_Some e f both.1 in
      let made : m ≡ n =
      answers.1
      ∙ (λ j. flat_map (answer_to (kept_behind d node (requests_of d node (before j)))) (request_in d node (requests_of d node (before j)) (acts_of b (before j)) (event_is j)))
      ∙ sym answered.1 in
      let gives : o.gives ≡ p.gives =
      sends.1 ∙ (λ j. gives_for_all b (acts_of b (before j)) (acts_in_step b (acts_of b (before j)) (came_by (event_is j)) (made j))) ∙ sym sent_.1 in
      let suspects : o.suspects ≡ p.suspects = sends.2 ∙ (λ j. suspects_in b (acts_of b (before j)) (event_is j)) ∙ sym sent_.2 in
      let told : o.differences ≡ p.differences = none_in at o.differences q.1 ∙ sym (none_in k p.differences s.1) in
      λ j. trace.stepped (before j) (at_is j) (event_is j) (made j) (record { gives = gives j; suspects = suspects j; differences = told j })

-- ---- a trace as it began

module _ (d : Deployment) (node : ℕ) where
  one_ring : (t u : Trace) → GoesSo d node t → GoesSo d node u → events_in t ≡ events_in u → t ≡ u
  one_ring t u one other same =
      same_ring d node t u one.numbered other.numbered (sym (came_events t) ∙ ap (map (λ (e : GivenEvent). e.event)) same ∙ came_events u) one.quiet other.quiet one.answers other.answers one.sends other.sends

  goes_then : (t : Trace) (at : ℕ) (event : Event) (made : List Effect) (outputs : Outputs) → GoesSo d node (trace.stepped t at event made outputs) → GoesSo d node t
  goes_then t at event made outputs goes =
      record {
        numbered = goes.numbered.0;
        numbers = λ to. (let few = goes.numbers to in
            let more : made_to to (acts_of (beginning_of d node) t) ≤ made_to to (acts_of (beginning_of d node) (trace.stepped t at event made outputs)) =
            made_behind to (acts_of (beginning_of d node) t) (acts_in_step (beginning_of d node) (acts_of (beginning_of d node) t) (came_by event) made) in omega (arith, few, more));
        answers = goes.answers.0;
        quiet = (both_none (told_of t) (told_in at outputs.differences) goes.quiet).0;
        sends = goes.sends.0;
      }

  goes_before : (t u : Trace) → BeginsWith t u → GoesSo d node t → GoesSo d node u
  goes_before (trace.booted made outputs) u same goes = subst (GoesSo d node) (sym same) goes
  goes_before (trace.stepped t at event made outputs) u (inl same) goes = subst (GoesSo d node) (sym same) goes
  goes_before (trace.stepped t at event made outputs) u (inr began) goes = goes_before t u began (goes_then t at event made outputs goes)

  -- ---- boot

  module _ (boot : GivenEvent) (is_boot : boot.event ≡ None) where
    pub ring_at_boot : (last : Pairs) → IsToldRightly d node begun [] [] [] boot last → HasLived d node (boot ∷ []) last (kept_after d.troupes []) []
    ring_at_boot last right =
        record {
          lived = trace.booted [] (record { gives = boot.gives; suspects = []; differences = boot.differences });
          events_are = λ j. record { event = sym is_boot j; gives = boot.gives; differences = boot.differences } ∷ [];
          goes = record {
            numbered = tt;
            numbers = right.is.numbers;
            answers = refl;
            quiet = ap (told_in 0) right.is.differences;
            sends = (right.is.gives, refl);
          };
          awaited_is = refl;
          stand = right.stand;
          kept_is = refl;
        }

    pub ring_boot_untold : (IsToldOf d node begun [] [] [] boot → ⊥) → AreRefused d node (boot ∷ [])
    ring_boot_untold never t rest run same =
        let g = has_booted t boot rest same in
        let goes = goes_before t (trace.booted g.made g.outputs) g.began run.goes in
        never (record {
          numbers = λ to.
              subst (λ l. made_to to (with_all begun (acts_in_step (beginning_of d node) begun [] l)) ≤ never_used) goes.answers (goes.numbers to);
          gives = ap (λ (e : GivenEvent). e.gives) g.boot_is ∙ goes.sends.0 ∙ ap (λ l. gives_for_all (beginning_of d node) begun (acts_in_step (beginning_of d node) begun [] l)) goes.answers;
          differences = ap (λ (e : GivenEvent). e.differences) g.boot_is ∙ none_in 0 g.outputs.differences goes.quiet;
        })

  -- ---- a step

  -- what is known of it: what came at the pairs, and what was made of what was heard
  pub record IsStepBehind (events : List GivenEvent) (pairs : Pairs) (kept : Kept) (awaited : List ℕ) (told : GivenEvent) (event : Event) (came : Came) (still : Pairs) (new : Kept) (made : List Effect) : Type 0 where
    pub is_event : told.event ≡ Some event
    pub comes_so : ComesSo d node event
    pub lives : HasLived d node events pairs kept awaited
    pub owed : (a : WireActs Purpose) → StandFor d node a pairs → IsOwed d node a event came
    pub stand : (a : WireActs Purpose) → StandFor d node a pairs → StandFor d node (with_all a (came_by event)) still
    pub made_is : made ≡ flat_map (answer_to kept) (request_heard kept came.heard)
    pub new_is : new ≡ kept_then kept (request_heard kept came.heard)

  pub step_of : (events : List GivenEvent) (pairs : Pairs) (kept : Kept) (awaited : List ℕ) → HasLived d node events pairs kept awaited
      → (told : GivenEvent) (event : Event) (came : Came) (still : Pairs) (new : Kept) (made : List Effect) → told.event ≡ Some event → HasCome d node told
      → ((program : Deployment) (n : ℕ) (a : WireActs Purpose) → StandFor program n a pairs → ComesSo program n event → IsOwed program n a event came)
      → ((program : Deployment) (n : ℕ) (a : WireActs Purpose) → StandFor program n a pairs → ComesSo program n event → StandFor program n (with_all a (came_by event)) still)
      → made ≡ flat_map (answer_to kept) (request_heard kept came.heard) → new ≡ kept_then kept (request_heard kept came.heard)
      → IsStepBehind events pairs kept awaited told event came still new made
  step_of events pairs kept awaited lives told event came still new made is come owed stand made_is new_is =
      let so : ComesSo d node event = subst (λ (o : Option Event). IsSomeAnd o (ComesSo d node)) is come in
      record {
        is_event = is;
        comes_so = so;
        lives = lives;
        owed = λ a stands. owed d node a stands so;
        stand = λ a stands. stand d node a stands so;
        made_is = made_is;
        new_is = new_is;
      }

  module _ (events : List GivenEvent) (pairs : Pairs) (kept : Kept) (awaited : List ℕ) (told : GivenEvent) (event : Event) (came : Came) (still : Pairs) (new : Kept) (made : List Effect)
      (s : IsStepBehind events pairs kept awaited told event came still new made) where
    abbrev u : Trace
    u = s.lives.lived

    abbrev acts : WireActs Purpose
    acts = acts_of (beginning_of d node) u

    pub ring_goes_to_peers : All (GoesToPeer (beginning_of d node)) made
    ring_goes_to_peers = subst (All (GoesToPeer (beginning_of d node))) (sym s.made_is) (answers_go d node kept (request_heard kept came.heard))

    requests_are : (e : Event) → came.heard ≡ heard_of d node acts e → request_heard kept came.heard ≡ request_in d node (requests_of d node u) acts e
    requests_are (comes.Datagram from bytes) heard = λ j. request_heard (s.lives.kept_is j) (heard j)
    requests_are comes.Tick heard = ap (request_heard kept) heard
    requests_are (comes.Down other) heard = ap (request_heard kept) heard
    requests_are comes.Join heard = ap (request_heard kept) heard

    requests_now : request_heard kept came.heard ≡ request_in d node (requests_of d node u) acts event
    requests_now = requests_are event (s.owed acts s.lives.stand).heard

    answers_now : made ≡ flat_map (answer_to (kept_behind d node (requests_of d node u))) (request_in d node (requests_of d node u) acts event)
    answers_now = s.made_is ∙ (λ j. flat_map (answer_to (s.lives.kept_is j)) (requests_now j))

    abbrev asked : Caller × Request → Request
    asked r = r.1

    kept_now : new ≡ kept_behind d node (requests_of d node u ++ request_in d node (requests_of d node u) acts event)
    kept_now =
        s.new_is
        ∙ (λ j. kept_then (s.lives.kept_is j) (requests_now j))
        ∙ sym (fold-append kept_by (record { troupes = d.troupes; views = boot_views d.troupes }) (map asked (requests_of d node u)) (map asked (request_in d node (requests_of d node u) acts event)))
        ∙ ap (fold kept_by (record { troupes = d.troupes; views = boot_views d.troupes })) (sym (map-append asked (requests_of d node u) (request_in d node (requests_of d node u) acts event)))

    pub ring_lives_on : (last : Pairs) (next : List ℕ) → IsToldRightly d node acts (came_by event) made [] told last → awaited_by event came.suspects awaited ≡ Some next
        → HasLived d node (events ++ told ∷ []) last new next
    ring_lives_on last next right due =
        record {
          lived = trace.stepped u (now u + 1) event made (record { gives = told.gives; suspects = came.suspects; differences = told.differences });
          events_are = λ j. s.lives.events_are j ++ record { event = sym s.is_event j; gives = told.gives; differences = told.differences } ∷ [];
          goes = record {
            numbered = (s.lives.goes.numbered, refl);
            numbers = right.is.numbers;
            answers = (s.lives.goes.answers, answers_now);
            quiet = λ j. s.lives.goes.quiet j ++ told_in (now u + 1) (right.is.differences j);
            sends = (s.lives.goes.sends, right.is.gives, (s.owed acts s.lives.stand).suspects);
          };
          awaited_is = ap (option_and_then (awaited_by event came.suspects)) s.lives.awaited_is ∙ due;
          stand = right.stand;
          kept_is = kept_now;
        }

    -- ---- beside a run that begins with the same events

    goes_on : (t : Trace) → IsRunSo d node t → (rest : List GivenEvent) → events_in t ≡ (events ++ told ∷ []) ++ rest → HasGoneOn t u told
    goes_on t run rest same =
        goes_on_by t u run.goes.numbered s.lives.goes.numbered told rest (same ∙ append_assoc events (told ∷ []) rest ∙ ap (λ l. l ++ told ∷ rest) (sym s.lives.events_are))
        (λ v at e m outputs began numbered alike. one_ring v u (goes_then v at e m outputs (goes_before t (trace.stepped v at e m outputs) began run.goes)) s.lives.goes alike)

    module _ (t : Trace) (run : IsRunSo d node t) (g : HasGoneOn t u told) where
      event_is : g.event ≡ event
      event_is = same_Some g.event event (sym (ap (λ (e : GivenEvent). e.event) g.next_is) ∙ s.is_event)

      began : BeginsWith t (trace.stepped u (now u + 1) event g.made g.outputs)
      began = subst (λ (e : Event). BeginsWith t (trace.stepped u (now u + 1) e g.made g.outputs)) event_is g.began

      goes : GoesSo d node (trace.stepped u (now u + 1) event g.made g.outputs)
      goes = goes_before t (trace.stepped u (now u + 1) event g.made g.outputs) began run.goes

      made_same : g.made ≡ made
      made_same = goes.answers.1 ∙ sym answers_now

      told_of_it : IsToldOf d node acts (came_by event) made [] told
      told_of_it =
          record {
            numbers = λ to. subst (λ l. made_to to (with_all acts (acts_in_step (beginning_of d node) acts (came_by event) l)) ≤ never_used) made_same (goes.numbers to);
            gives =
                ap (λ (e : GivenEvent). e.gives) g.next_is ∙ goes.sends.1
                ∙ ap (λ l. gives_for_all (beginning_of d node) acts (acts_in_step (beginning_of d node) acts (came_by event) l)) made_same;
            differences =
                ap (λ (e : GivenEvent). e.differences) g.next_is
                ∙ none_in (now u + 1) g.outputs.differences (both_none (told_of u) (told_in (now u + 1) g.outputs.differences) goes.quiet).1;
          }

      never_undue : awaited_by event came.suspects awaited ≡ None → ⊥
      never_undue undue =
          some_before t (trace.stepped u (now u + 1) event g.made g.outputs) began [] (awaited_alone t [] run.declares)
          (ap (option_and_then (awaited_by event g.outputs.suspects)) s.lives.awaited_is
          ∙ ap (λ l. awaited_by event l awaited) (goes.sends.2 ∙ sym (s.owed acts s.lives.stand).suspects) ∙ undue)

    pub ring_untold : (IsToldOf d node acts (came_by event) made [] told → ⊥) → AreRefused d node (events ++ told ∷ [])
    ring_untold never t rest run same = never (told_of_it t run (goes_on t run rest same))

    pub ring_undue : awaited_by event came.suspects awaited ≡ None → AreRefused d node (events ++ told ∷ [])
    ring_undue undue t rest run same = never_undue t run (goes_on t run rest same) undue

-- where none begins with events, none does with more
pub ring_refused_more : (d : Deployment) (node : ℕ) (events rest : List GivenEvent) → AreRefused d node events → AreRefused d node (events ++ rest)
ring_refused_more d node events rest refused t after run same = refused t (rest ++ after) run (same ∙ append_assoc events rest after)

-- ---- what is said of its record

module _ (d : Deployment) (program : List Behaviour) (given : Given) (none : troupe_at d given.node ≡ None) where
  ring_run_of : (lived : Trace) → IsAuditedBy d program given lived → HasRingRun d program given.node lived given.views
  ring_run_of lived a = subst (λ o. HasRunAt d program given.node o lived given.member given.views) none a.run

  is_run : (lived : Trace) → IsAuditedBy d program given lived → IsRunSo d given.node lived
  is_run lived a =
      let h = ring_run_of lived a in
      record {
        goes = record { numbered = a.numbered; numbers = a.numbers; answers = h.run.answers; quiet = h.none_differ; sends = h.run.sends };
        declares = a.declares;
      }

  module _ (events : List GivenEvent) (are : given.events ≡ events) where
    pub ring_refused : AreRefused d given.node events → IsAudited d program given → ⊥
    ring_refused refused a = refused a.lived [] (is_run a.lived a.is) (sym a.is.events ∙ are ∙ sym (append-nil events))

    module _ (pairs : Pairs) (kept : Kept) (awaited : List ℕ) (h : HasLived d given.node events pairs kept awaited) where
      this : (lived : Trace) → IsAuditedBy d program given lived → lived ≡ h.lived
      this lived a = one_ring d given.node lived h.lived (is_run lived a).goes h.goes (sym a.events ∙ are ∙ sym h.events_are)

      pub ring_awaits : (awaited ≡ [] → ⊥) → IsAudited d program given → ⊥
      ring_awaits some a =
          some (same_Some awaited [] (sym h.awaited_is ∙ awaited_alone h.lived [] (subst (λ (t : Trace). Awaits t []) (this a.lived a.is) a.is.declares)))

      pub ring_not_said : (given.views ≡ Some kept.views → ⊥) → IsAudited d program given → ⊥
      ring_not_said other a =
          let r = ring_run_of a.lived a.is in
          other (r.says ∙ ap Some (r.run.views_are ∙ ap (λ (t : Trace). (kept_behind d given.node (requests_of d given.node t)).views) (this a.lived a.is) ∙ sym (ap (λ (k : Kept). k.views) h.kept_is)))

      pub ring_said : JoinsSo (is_spare d given.node) given.events → awaited ≡ [] → given.views ≡ Some kept.views → IsVerdict d program given Yes
      ring_said joins waits says = (
        record {
          lived = h.lived;
          is = record {
            events = are ∙ sym h.events_are;
            numbered = h.goes.numbered;
            joins = joins;
            declares = awaited_so h.lived [] (h.awaited_is ∙ ap Some waits);
            numbers = h.goes.numbers;
            run =
                subst (λ o. HasRunAt d program given.node o h.lived given.member given.views) (sym none)
                (record {
                  views = kept.views;
                  run = record { views_are = ap (λ (k : Kept). k.views) h.kept_is; answers = h.goes.answers; sends = h.goes.sends };
                  none_differ = h.goes.quiet;
                  says = says;
                });
          };
        },
        λ number hosted member at there is active. absurd (none_is_some (sym none ∙ at)),
      )
