-- A member at the border of its node: what it makes in a step is sent, and the same holds behind that.
use Rattle.std.proofs.Common.{◌≡◌, ℕ, ◌+◌, ◌≤◌, Bool, true, false, not, eqb, if◌then◌else◌, List, [], ◌∷◌, ◌++◌, map, inl, inr, refl, sym, ap, subst, ◌∙◌, arith}
use Rattle.std.specs.Prelude.{◌||◌, ◌==◌, slice_set}
use Rattle.std.proofs.lemmas.Bool.Decides.{eqb_tells}
use Rattle.std.proofs.lemmas.List.Elements.{All-nil, All-weaker}
use Rattle.std.proofs.lemmas.List.Folds.{list_any-append}
use Rattle.circus_value.specs.Among.{is_among}
use Rattle.circus_value.specs.ValueTree.{ValueTree}
use Rattle.circus_value.specs.declared.caller.Caller.{Caller}
use Rattle.circus_value.specs.declared.outcome.Outcome.{Outcome}
use Rattle.circus_limits.specs.Limits.{limit_of}
use Rattle.circus_collate.specs.Deployment.{IsDeployment}
use Rattle.circus_collate.specs.declared.deployment.Deployment.{Deployment}
use Rattle.circus_model.specs.declared.signature.Signature.{Signature}
use Rattle.circus_model.specs.NextTurn.{NextTurn}
use Rattle.circus_model.specs.Behaviour.{IsModule}
use Rattle.circus_gather.specs.Gathering.{answer_to, with_first}
use Rattle.circus_gather.specs.declared.added.Added.{Added}
use Rattle.circus_gather.specs.declared.added.Added.TheVariants as added
use Rattle.circus_fanout.specs.Knowing.{Knowing, is_newer, note_view, note_answer, note_down as declared_of}
use Rattle.circus_performing.specs.Performing.{is_fetching, made_active}
use Rattle.circus_performing.specs.Record.{behaviour}
use Rattle.circus_wire.specs.Wire.{WireState, is_up}
use Rattle.circus_wire.specs.WireActs.{WireActs}
use Rattle.circus_member_rules.specs.declared.place.Place.{Place}
use Rattle.circus_member_rules.specs.declared.occurrence.Purpose.{Purpose}
use Rattle.circus_member_rules.specs.declared.occurrence.Effect.{Effect}
use Rattle.circus_member_rules.specs.declared.occurrence.Effect.TheVariants as made
use Rattle.circus_member_rules.specs.declared.occurrence.Occurrence.{Occurrence}
use Rattle.circus_member_rules.specs.declared.occurrence.Occurrence.TheVariants as comes
use Rattle.circus_member_rules.specs.Rules.{wanted_by_call, active_call, before_answers}
use Rattle.circus_member_rules.specs.Happening.{CanHappen}
use Rattle.circus_member_rules.specs.MemberState.{MemberState, Doing}
use Rattle.circus_member_rules.specs.Step.{is_lookup, handle, step_member, execute}
use Rattle.circus_member_rules.proofs.Resting.{rested}
use Rattle.circus_member_rules.proofs.Starting.{IsSoundNow, sound_executed}
use Rattle.circus_node.proofs.ViewLemmas.{executed_knows}
use Rattle.circus_world_theory.specs.NodeActs.{with_all}
use Rattle.circus_world_theory.specs.Histories.{beginning_of}
use Rattle.circus_member_theory.specs.Ranges.{InRange}
use Rattle.circus_member_theory.proofs.Resting.{sound_once_handled}
use Rattle.circus_world_theory.proofs.Border.Going.{begun, behaves}
use Rattle.circus_world_theory.proofs.Border.Reaching.{Reaches, TellsOf, IsReaching, step_reaches}
use Rattle.circus_world_theory.proofs.Border.Sizing.{AllBrief, IsSized, step_is_sized}
use Rattle.circus_world_theory.proofs.Border.Waiting.{one_if, calls_in, waiting_at, step_answers}
use Rattle.circus_world_theory.proofs.Border.Pairs.{awaits_in}
use Rattle.circus_world_theory.proofs.Border.Telling.{down_by}
use Rattle.circus_world_theory.proofs.Border.Hosting.{Hosts, IsOtherOf, may_be_called}
use Rattle.circus_world_theory.proofs.Border.Handing.{GoesUp, AllGoUp, AreReturns, AreAwaited, all_returned, left_awaited}
use Rattle.circus_world_theory.specs.Made.{act_of}

-- ---- which nodes are down behind a step

-- those before, and the one that is declared
pub declared_among : (k : Knowing) (down node : ℕ) → is_among (declared_of k down).down node ≡ (eqb down node || is_among k.down node)
declared_among k down node = by_known (is_among k.down down) refl
  where
    or_same : (a b : Bool) → (b || (a || false)) ≡ (a || b)
    or_same true true = refl
    or_same true false = refl
    or_same false true = refl
    or_same false false = refl

    by_known : (b : Bool) → is_among k.down down ≡ b → let t : Knowing = if b then k else record k { down = k.down ++ down ∷ [] } in is_among t.down node ≡ (eqb down node || is_among k.down node)
    by_known true is = elim (eqb_tells down node) [
      | inl same ↦ subst (λ n. is_among k.down n ≡ true) same.1 is ∙ sym (ap (λ b. b || is_among k.down node) same.0)
      | inr differs ↦ sym (ap (λ b. b || is_among k.down node) differs.0)
    ]
    by_known false is = list_any-append (λ n. n == node) k.down (down ∷ []) ∙ or_same (eqb down node) (is_among k.down node)

module _ {M : Type 0} where
  handled_down : (at : ℕ) (o : Occurrence) (m : MemberState M) → (handle at o m).member.known.down ≡ down_by o m.known
  handled_down at (comes.Asked header body sender) m = by_added (answer_to m.gathered header)
    where
      by_added : (a : Added) → (wanted_by_call a header m.known).down ≡ m.known.down
      by_added (added.Reply reply) = refl
      by_added (added.Stale required) = refl
      by_added (added.Before start) = refl
      by_added added.Held = refl
  handled_down at (comes.Fetched incarnation sender) m = refl
  handled_down at (comes.Replied name from reply) m = refl
  handled_down at (comes.IsStale name server from incarnation) m = refl
  handled_down at (comes.IsBefore name from) m = refl
  handled_down at (comes.Told request table) m = by_request (is_lookup request)
    where
      by_newer : (k : Knowing) → (note_view k table.view).down ≡ k.down
      by_newer k = elim (is_newer k table.view) as (λ b. let t : Knowing = if b then record k { views = slice_set k.views table.view.troupe table.view } else k in t.down ≡ k.down) [ true ↦ refl | false ↦ refl ]

      by_request : (b : Bool) → (note_view (if b then note_answer m.known table.view.troupe else m.known) table.view).down ≡ m.known.down
      by_request true = by_newer (note_answer m.known table.view.troupe)
      by_request false = by_newer m.known
  handled_down at (comes.Restored state count) m = by_test (is_fetching m.performing.kept.phase)
    where
      by_test : (t : Bool) → let d : Doing M =
          if t then record { member = record m { performing = made_active at state count m.performing; gathered = with_first m.gathered count }; effects = active_call m.place m.known count ++ before_answers m.gathered count } else record { member = m; effects = [] } in d.member.known.down ≡ m.known.down
      by_test true = refl
      by_test false = refl
  handled_down at (comes.Declared node) m = refl
  handled_down at comes.Joins m = refl

module _ {M : Type 0} (declared : M → Signature) (turn : M → List ValueTree → ℕ → List ValueTree → List Outcome → NextTurn) (first : M → List ValueTree)
    (lawful : (hosted : M) → IsModule (behaviour declared turn first hosted)) where
  stepped_down : (at : ℕ) (o : Occurrence) (m : MemberState M) → (step_member declared turn at o m).member.known.down ≡ down_by o m.known
  stepped_down at o m = ap (λ (k : Knowing). k.down) (executed_knows declared turn at (handle at o m)) ∙ handled_down at o m

  stepped_sound : (at : ℕ) (o : Occurrence) (m : MemberState M) → CanHappen (declared m.performing.hosted) m o → InRange o → IsSoundNow declared turn first lawful m
      → IsSoundNow declared turn first lawful (step_member declared turn at o m).member
  stepped_sound at o m can ranges sound =
      let d = execute declared turn at (handle at o m) in
      (rested (behaves declared turn first lawful d) d (sound_executed declared turn first lawful at (handle at o m) (sound_once_handled declared turn first lawful at o m sound can ranges))).sound

  module _ (d : Deployment) (is : IsDeployment d) (own : ℕ) where
    -- the nodes that are up are those that the member doesn't know to be down
    abbrev pub UpAs : WireState Purpose → List ℕ → Type 0
    UpAs w down = (node : ℕ) → IsOtherOf d own node → is_up w node ≡ not (is_among down node)

    -- the calls that wait at a member await their returns
    abbrev pub WaitAs : WireActs Purpose → MemberState M → Type 0
    WaitAs acts m = (c : Caller) → waiting_at c m ≤ one_if (awaits_in (beginning_of d own) acts c)

    -- a member whose node has these pairs, at which these acts have happened
    pub record IsMemberAt (w : WireState Purpose) (acts : WireActs Purpose) (m : MemberState M) : Type 0 where
      pub place : Place
      pub at_own : place.node ≡ own
      pub own_hosts : Hosts d place.troupe own
      pub sound : IsSoundNow declared turn first lawful m
      pub reaching : IsReaching (Hosts d) (IsOtherOf d own) place (may_be_called d is own place at_own own_hosts) (begun m)
      pub sized : IsSized (limit_of d.format) declared turn first lawful (begun m)
      pub up : UpAs w m.known.down
      pub waits : WaitAs acts m

    -- what was made is sent, and the member is such a one behind that
    pub record IsSent (w : WireState Purpose) (acts : WireActs Purpose) (m : MemberState M) (effects : List Effect) : Type 0 where
      pub up : AllGoUp w effects
      pub brief : AllBrief (limit_of d.format) effects
      pub returns : AreReturns (beginning_of d own) acts effects
      pub member : IsMemberAt w (with_all acts (map act_of effects)) m

    -- what is known of a member as something happens to it
    pub record MayStep (w : WireState Purpose) (acts : WireActs Purpose) (o : Occurrence) (m : MemberState M) : Type 0 where
      pub can : CanHappen (declared m.performing.hosted) m o
      pub ranges : InRange o
      pub tells : TellsOf (Hosts d) o
      pub up : UpAs w (down_by o m.known)
      pub waits : (c : Caller) → waiting_at c m + calls_in c o ≤ one_if (awaits_in (beginning_of d own) acts c)

    pub goes_up : (w : WireState Purpose) (down : List ℕ) → UpAs w down → (e : Effect) → Reaches down (IsOtherOf d own) e → GoesUp w e
    goes_up w down up (made.Call to message purpose) reaches = up to reaches.1 ∙ ap not reaches.0
    goes_up w down up (made.Answer caller message) reaches = tt

    pub happens_sent : (w v : WireState Purpose) (before acts : WireActs Purpose) (at : ℕ) (o : Occurrence) (m : MemberState M) → IsMemberAt v before m → MayStep w acts o m
        → IsSent w acts (step_member declared turn at o m).member (step_member declared turn at o m).effects
    happens_sent w v before acts at o m h may =
        let e = step_member declared turn at o m in
        let b = beginning_of d own in
        let reaches = step_reaches (Hosts d) (IsOtherOf d own) h.place
        (may_be_called d is own h.place h.at_own h.own_hosts) declared turn first lawful at o m may.can may.ranges may.tells h.sound h.reaching in
        let sized = step_is_sized (limit_of d.format) declared turn first lawful at o m may.can may.ranges h.sound h.sized in
        let up : UpAs w e.member.known.down = subst (UpAs w) (sym (stepped_down at o m)) may.up in
        let left : Caller → ℕ = λ c. waiting_at c e.member in
        let awaited : AreAwaited b left acts e.effects =
        λ c. (let same = step_answers c declared turn first lawful at o m may.can may.ranges h.sound in let most = may.waits c in omega (arith, same, most)) in
        record {
          up = All-weaker (Reaches e.member.known.down (IsOtherOf d own)) (GoesUp w) (goes_up w e.member.known.down up) e.effects reaches.effects;
          brief = sized.effects;
          returns = all_returned b left acts e.effects awaited;
          member = record {
            place = h.place;
            at_own = h.at_own;
            own_hosts = h.own_hosts;
            sound = stepped_sound at o m may.can may.ranges h.sound;
            reaching = record { at = reaches.at; views = reaches.views; asks = reaches.asks; effects = All-nil (Reaches e.member.known.down (IsOtherOf d own)) };
            sized = record { limit = sized.limit; asks = sized.asks; replies = sized.replies; effects = λ i x within. absurd (omega (arith, within)) };
            up = up;
            waits = λ c. (let most = left_awaited b left acts e.effects awaited c in omega (arith, most));
          };
        }
