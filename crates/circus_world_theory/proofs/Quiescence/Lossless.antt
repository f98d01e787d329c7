-- In a world where nothing is lost all that was handed over has arrived.
use Rattle.std.proofs.Common.{◌≡◌, ◌≢◌, ℕ, suc, ◌+◌, ◌<◌, inl, inr, Bool, true, false, cond, ◌&&◌, eqb, List, [], ◌∷◌, ◌++◌, length, map, All, Option, None, Some, Result, Ok, Err, refl, sym, ap, subst, ◌∙◌, arith, eq-eqb}
use Rattle.std.specs.Prelude.{slice_get, if◌then◌else◌}
use Rattle.std.specs.List.{flat_map}
use Rattle.std.proofs.lemmas.Bool.Decides.{eqb_tells}
use Rattle.std.proofs.lemmas.Option.{same_Some, slice_get_within, slice_get-get_or}
use Rattle.circus_value.specs.ValueTree.{ValueTree}
use Rattle.circus_value.specs.declared.outcome.Outcome.{Outcome}
use Rattle.circus_segment.specs.Segment.{Piece, IsSegment, reading}
use Rattle.circus_segment.specs.declared.fault.SegmentFault.{SegmentFault}
use Rattle.circus_segment.proofs.Spellings.{read_again}
use Rattle.circus_collate.specs.Deployment.{IsDeployment}
use Rattle.circus_collate.specs.declared.deployment.Deployment.{Deployment}
use Rattle.circus_model.specs.NextTurn.{NextTurn}
use Rattle.circus_model.specs.declared.signature.Signature.{Signature}
use Rattle.circus_exchange.specs.declared.exchange.Exchange.{Exchange}
use Rattle.circus_exchange.specs.Exchange.{start}
use Rattle.circus_pair.specs.Acts.{Act, Call, Return, Came, Tick, Stop, Acts, more}
use Rattle.circus_pair.specs.TwoEnds.{with_act, sent_by, acts_at_first, acts_at_second}
use Rattle.circus_pair.proofs.Each.{each_at}
use Rattle.circus_pair.proofs.Sayings.{Tells}
use Rattle.circus_wire.specs.Wire.{WireState, is_up}
use Rattle.circus_wire.specs.WireActs.{WireAct, WireActs, begun, followed_by, CallTo, AnswerTo, CameFrom, TickAll, StopOf, act_at, acts_at, awaits_after}
use Rattle.circus_wire.specs.WireStanding.{sent_in}
use Rattle.circus_wire.proofs.Histories.{sent_is}
use Rattle.circus_member_rules.specs.declared.occurrence.Purpose.{Purpose}
use Rattle.circus_member_rules.specs.declared.occurrence.Effect.{Effect}
use Rattle.circus_member_rules.specs.declared.occurrence.Effect.TheVariants as made
use Rattle.circus_node.specs.declared.event.Event.{Event}
use Rattle.circus_node.specs.declared.event.Event.TheVariants as comes
use Rattle.circus_node.specs.Booting.{AreOfTroupes, fresh_wire, home_of, made_at_boot}
use Rattle.circus_node.specs.Sending.{is_sendable}
use Rattle.circus_schedule.specs.declared.line.Line.{Line}
use Rattle.circus_schedule.specs.declared.line.Line.TheVariants.{Deliver}
use Rattle.circus_world.specs.Sent.{Sent}
use Rattle.circus_world.specs.WorldState.{WorldState}
use Rattle.circus_world.specs.Course as course
use Rattle.circus_world.specs.Boot.{before_any, all_booted, AreHosted}
use Rattle.circus_world.specs.Lines.{Lead}
use Rattle.circus_world.proofs.SlotLemmas.{get_there, all_at}
use Rattle.circus_world_theory.specs.Histories.{beginning_of, acts_of}
use Rattle.circus_world_theory.specs.NodeActs.{with_all, acts_of_datagram, handed_by, wire_behind, acts_in, acts_at_boot}
use Rattle.circus_node.specs.Trace.{effects_in}
use Rattle.circus_world_theory.proofs.Given.{WasGiven}
use Rattle.circus_world_theory.proofs.Worlds.{Stands, IsGiven, at_pair, is_other, lawful_at, came_sent}
use Rattle.circus_world_theory.specs.Coming.{IsUndisturbed, HasCome, AllCame, AllArrived}
use Rattle.circus_world_theory.specs.Quiet.{IsDelivery, IsQuiet}
use Rattle.circus_world_theory.proofs.Quiescence.Joint.{joint_talk}
use Rattle.circus_world_theory.proofs.Quiescence.Pairs.{all_arrive}
use Rattle.circus_world_theory.proofs.Quiescence.Giving.{came_gives, boot_gives}
use Rattle.circus_world_theory.proofs.Quiescence.Course.{AllLive, Delivers, IsKept, lead_keeps, lead_makes, Posted, get_front, given_posted, posted_later, own_of, at_boot, world_boots, boot_live, boot_stands}

-- ---- quiet pairs

abbrev IsQuietAct : WireAct Purpose → Type 0
IsQuietAct (CallTo to message purpose) = Unit {0}
IsQuietAct (AnswerTo caller message) = Unit {0}
IsQuietAct (CameFrom from s) = Unit {0}
IsQuietAct TickAll = ⊥
IsQuietAct (StopOf node) = ⊥

abbrev AllQuiet : List (WireAct Purpose) → Type 0
AllQuiet [] = Unit {0}
AllQuiet (act ∷ acts) = IsQuietAct act × AllQuiet acts

abbrev pub QuietPairs : WireActs Purpose → Type 0
QuietPairs acts = (e : Exchange) (other : ℕ) → IsUndisturbed (acts_at e other acts)

quiet_act : (acts : WireActs Purpose) (act : WireAct Purpose) → QuietPairs acts → IsQuietAct act → QuietPairs (followed_by acts act)
quiet_act acts (CallTo to message purpose) quiet is e other = by_test (eqb to other)
  where
    by_test : (b : Bool) → IsUndisturbed (with_act (acts_at e other acts) (cond b (Some (Call message)) None))
    by_test true = quiet e other
    by_test false = quiet e other
quiet_act acts (AnswerTo caller message) quiet is e other = by_test (eqb caller.node other && awaits_after e (acts_at e other acts) caller.number)
  where
    by_test : (b : Bool) → IsUndisturbed (with_act (acts_at e other acts) (cond b (Some (Return caller.number message)) None))
    by_test true = quiet e other
    by_test false = quiet e other
quiet_act acts (CameFrom from s) quiet is e other = by_test (eqb from other)
  where
    by_test : (b : Bool) → IsUndisturbed (with_act (acts_at e other acts) (cond b (Some (Came s)) None))
    by_test true = quiet e other
    by_test false = quiet e other
quiet_act acts TickAll quiet is e other = absurd is
quiet_act acts (StopOf node) quiet is e other = absurd is

quiet_all : (acts : WireActs Purpose) (later : List (WireAct Purpose)) → QuietPairs acts → AllQuiet later → QuietPairs (with_all acts later)
quiet_all acts [] quiet all = quiet
quiet_all acts (act ∷ later) quiet all = quiet_all (followed_by acts act) later (quiet_act acts act quiet all.0) all.1

both_quiet : (xs ys : List (WireAct Purpose)) → AllQuiet xs → AllQuiet ys → AllQuiet (xs ++ ys)
both_quiet [] ys f g = g
both_quiet (x ∷ xs) ys f g = (f.0, both_quiet xs ys f.1 g)

one_quiet : (w : WireState Purpose) (e : Effect) → AllQuiet (handed_by w e)
one_quiet w (made.Call to message purpose) = by_test (is_up w to && is_sendable w.format message)
  where
    by_test : (b : Bool) → AllQuiet (if b then CallTo to message purpose ∷ [] else [])
    by_test true = (tt, tt)
    by_test false = tt
one_quiet w (made.Answer caller message) = by_test (is_sendable w.format message)
  where
    by_test : (b : Bool) → AllQuiet (if b then AnswerTo caller message ∷ [] else [])
    by_test true = (tt, tt)
    by_test false = tt

handed_quiet : (w : WireState Purpose) (effects : List Effect) → AllQuiet (flat_map (handed_by w) effects)
handed_quiet w [] = tt
handed_quiet w (e ∷ effects) = both_quiet (handed_by w e) (flat_map (handed_by w) effects) (one_quiet w e) (handed_quiet w effects)

coming_quiet : (from : ℕ) (segment : Result Piece SegmentFault) → AllQuiet (acts_of_datagram from segment)
coming_quiet from (Ok s) = (tt, tt)
coming_quiet from (Err fault) = tt

none_quiet : QuietPairs begun
none_quiet e other = tt

-- ---- what has come

come_act : (bytes : List ℕ) (acts : Acts) (act : Act) → HasCome bytes acts → HasCome bytes (more acts act)
come_act bytes acts (Call message) come = record { piece = come.piece; read = come.read; place = come.place; there = come.there }
come_act bytes acts (Return call message) come = record { piece = come.piece; read = come.read; place = come.place; there = come.there }
come_act bytes acts (Came s) come = record { piece = come.piece; read = come.read; place = suc come.place; there = come.there }
come_act bytes acts Tick come = record { piece = come.piece; read = come.read; place = come.place; there = come.there }
come_act bytes acts Stop come = record { piece = come.piece; read = come.read; place = come.place; there = come.there }

come_with : (bytes : List ℕ) (acts : Acts) (o : Option Act) → HasCome bytes acts → HasCome bytes (with_act acts o)
come_with bytes acts None come = come
come_with bytes acts (Some act) come = come_act bytes acts act come

come_on : (bytes : List ℕ) (e : Exchange) (other : ℕ) (acts : WireActs Purpose) (later : List (WireAct Purpose)) → HasCome bytes (acts_at e other acts) → HasCome bytes (acts_at e other (with_all acts later))
come_on bytes e other acts [] come = come
come_on bytes e other acts (act ∷ later) come = come_on bytes e other (followed_by acts act) later (come_with bytes (acts_at e other acts) (act_at e other (acts_at e other acts) act) come)

come_now : (bytes : List ℕ) (s : Piece) (e : Exchange) (from : ℕ) (acts : WireActs Purpose) (segment : Result Piece SegmentFault) (later : List (WireAct Purpose)) → reading bytes ≡ Ok s → segment ≡ Ok s
    → HasCome bytes (acts_at e from (with_all acts (acts_of_datagram from segment ++ later)))
come_now bytes s e from acts (Err fault) later read is = absurd (let clash : ◌≡◌ {A = Result Piece SegmentFault} (Err fault) (Ok s) = is in cc)
come_now bytes s e from acts (Ok t) later read is =
    let same : t ≡ s = same_piece t s is in
    come_on bytes e from (followed_by acts (CameFrom from t)) later
    (subst (λ b. HasCome bytes (with_act (acts_at e from acts) (cond b (Some (Came t)) None))) (sym (eq-eqb from from refl))
    (record { piece = s; read = read; place = 0; there = ap (λ (x : Piece). Some x) same }))
  where
    same_piece : (a b : Piece) → ◌≡◌ {A = Result Piece SegmentFault} (Ok a) (Ok b) → a ≡ b
    same_piece a b h = cc

-- ---- a world

module _ {M : Type 0} (declared : M → Signature) (turn : M → List ValueTree → ℕ → List ValueTree → List Outcome → NextTurn) (d : Deployment) where
  -- what the pairs of a node have sent to another one was sent
  abbrev AllPosted : (ℕ → WireActs Purpose) → WorldState M → Type 0
  AllPosted acts w = (node other : ℕ) (bytes : List ℕ) → node < length d.nodes → other < length d.nodes → other ≢ node → WasGiven (beginning_of d node) (acts node) other bytes → Posted w node other bytes

  module _ (number : ℕ) (acts new : ℕ → WireActs Purpose) (w next : WorldState M) (stands : Stands d acts w) (delivers : Delivers declared turn d number acts new w next) where
    pub sent_is_more : next.sent ≡ w.sent ++ map (course.sent_by (w.steps + 1) delivers.sent.to) delivers.ended.1.gives
    sent_is_more = ap (λ (v : WorldState M). v.sent) delivers.next_is

    abbrev event : Event
    event = comes.Datagram delivers.sent.from delivers.sent.bytes

    abbrev later : List (WireAct Purpose)
    later = acts_in declared turn (w.steps + 1) event delivers.node.node

    abbrev handed_over : List (WireAct Purpose)
    handed_over = flat_map (handed_by (wire_behind event delivers.node.node)) (effects_in declared turn (w.steps + 1) event delivers.node.node)

    pub came_read : (s : Piece) → reading delivers.sent.bytes ≡ Ok s → IsSegment s
    came_read s read =
        (came_sent d acts w stands delivers.sent.from delivers.sent.to delivers.sent.bytes s delivers.from_below delivers.to_below delivers.others
        (all_at (IsGiven d acts) w.sent number delivers.sent stands.sent delivers.there) read).0

    posted_here : (other : ℕ) (bytes : List ℕ) → AllPosted acts w → other < length d.nodes → other ≢ delivers.sent.to → WasGiven (beginning_of d delivers.sent.to) (new delivers.sent.to) other bytes → Posted next delivers.sent.to other bytes
    posted_here other bytes posted below differs given =
        let to = delivers.sent.to in
        let wire = stands.stands to delivers.node delivers.at in
        let gives = came_gives declared turn (beginning_of d to) (omega arith) (acts to) (w.steps + 1) delivers.sent.from delivers.sent.bytes delivers.node.node delivers.ended wire
        (is_other d to delivers.sent.from delivers.node.node.wire (acts to) wire delivers.from_below delivers.others) came_read delivers.ends in
        let one : WasGiven (beginning_of d to) (with_all (acts to) (acts_in declared turn (w.steps + 1) (comes.Datagram delivers.sent.from delivers.sent.bytes) delivers.node.node)) other bytes =
        subst (λ a. WasGiven (beginning_of d to) a other bytes) delivers.here given in
        elim (gives.all other bytes differs (omega (arith, below)) one) [
          | inl old ↦ posted_later w next _ to other bytes sent_is_more (posted to other bytes delivers.to_below below differs old)
          | inr give ↦ given_posted next w.sent (w.steps + 1) to other delivers.ended.1.gives bytes sent_is_more give
        ]

    posted_still : AllPosted acts w → AllPosted new next
    posted_still posted node other bytes node_below below differs given = elim (eqb_tells node delivers.sent.to) [
      | inl same ↦
          subst (λ k. Posted next k other bytes) (sym same.1)
          (posted_here other bytes posted below (λ is. differs (is ∙ sym same.1)) (subst (λ k. WasGiven (beginning_of d k) (new k) other bytes) same.1 given))
      | inr apart ↦
          posted_later w next _ node other bytes sent_is_more
          (posted node other bytes node_below below differs (subst (λ a. WasGiven (beginning_of d node) a other bytes) (delivers.elsewhere node apart.1) given))
    ]

    quiet_still : ((node : ℕ) → QuietPairs (acts node)) → (node : ℕ) → QuietPairs (new node)
    quiet_still quiet node = elim (eqb_tells node delivers.sent.to) [
      | inl same ↦
          subst (λ k. QuietPairs (new k)) (sym same.1)
          (subst (λ a. QuietPairs a) (sym delivers.here)
          (quiet_all (acts delivers.sent.to) later (quiet delivers.sent.to)
          (both_quiet (acts_of_datagram delivers.sent.from (reading delivers.sent.bytes)) handed_over (coming_quiet delivers.sent.from (reading delivers.sent.bytes))
          (handed_quiet (wire_behind event delivers.node.node) (effects_in declared turn (w.steps + 1) event delivers.node.node)))))
      | inr apart ↦ subst (λ a. QuietPairs a) (sym (delivers.elsewhere node apart.1)) (quiet node)
    ]

    come_still : (bytes : List ℕ) (to from : ℕ) → HasCome bytes (at_pair d acts to from) → HasCome bytes (at_pair d new to from)
    come_still bytes to from come = elim (eqb_tells to delivers.sent.to) [
      | inl same ↦
          subst (λ k. HasCome bytes (at_pair d new k from)) (sym same.1)
          (subst (λ a. HasCome bytes (acts_at (start 0 d.format) from a)) (sym delivers.here)
          (come_on bytes (start 0 d.format) from (acts delivers.sent.to) later (subst (λ k. HasCome bytes (at_pair d acts k from)) same.1 come)))
      | inr apart ↦ subst (λ a. HasCome bytes (acts_at (start 0 d.format) from a)) (sym (delivers.elsewhere to apart.1)) come
    ]

  -- a datagram has come that was delivered
  record IsCome (number : ℕ) (acts : ℕ → WireActs Purpose) (w : WorldState M) : Type 0 where
    sent : Sent
    there : slice_get w.sent number ≡ Some sent
    come : (s : Piece) → reading sent.bytes ≡ Ok s → HasCome sent.bytes (at_pair d acts sent.to sent.from)

  come_kept : (number : ℕ) → IsKept declared turn d (IsCome number)
  come_kept number other acts new w next stands after delivers is = record {
    sent = is.sent;
    there = ap (λ (l : List Sent). slice_get l number) (sent_is_more other acts new w next stands delivers) ∙ get_front w.sent _ number is.sent is.there;
    come = λ s read. come_still other acts new w next stands delivers is.sent.bytes is.sent.to is.sent.from (is.come s read);
  }

  come_made : (number : ℕ) (acts new : ℕ → WireActs Purpose) (w next : WorldState M) → Stands d acts w → Stands d new next → Delivers declared turn d number acts new w next → IsCome number new next
  come_made number acts new w next stands after delivers = record {
    sent = delivers.sent;
    there = ap (λ (l : List Sent). slice_get l number) (sent_is_more number acts new w next stands delivers) ∙ get_front w.sent _ number delivers.sent delivers.there;
    come = λ s read. subst (λ a. HasCome delivers.sent.bytes (acts_at (start 0 d.format) delivers.sent.from a)) (sym delivers.here)
        (come_now delivers.sent.bytes s (start 0 d.format) delivers.sent.from (acts delivers.sent.to) (reading delivers.sent.bytes) (handed_over number acts new w next stands delivers) read read);
  }

  -- deliveries alone disturb no pair
  pub quiet_on : (first : M → List ValueTree) (hosted : List (Option M)) (lines : List Line) (booted last : WorldState M) → All IsDelivery lines → Stands d (at_boot declared turn first d hosted) booted → AllLive booted
      → Lead declared turn lines booted last → (node : ℕ) → QuietPairs (acts_of declared turn first d hosted lines booted node)
  quiet_on first hosted lines booted last alone began live leads =
      lead_keeps declared turn d (λ a w. (node : ℕ) → QuietPairs (a node)) (λ number a new w next stands after delivers. quiet_still number a new w next stands delivers)
      lines (at_boot declared turn first d hosted) booted last alone began live
      (λ node. quiet_all begun (acts_at_boot declared turn first d (own_of declared turn first d hosted node) node) none_quiet
      (handed_quiet (fresh_wire d node) (made_at_boot declared turn first d (home_of d node) (own_of declared turn first d hosted node)).came.effects)) leads

  module _ (first : M → List ValueTree) (hosted : List (Option M)) (modules : List M) (lines : List Line) (booted last : WorldState M) (good : IsDeployment d) (are : AreOfTroupes d (map declared modules))
      (hosts : AreHosted declared turn first d modules hosted) (boots : all_booted declared turn first hosted (before_any d modules) ≡ Ok booted) (leads : Lead declared turn lines booted last) (lossless : IsQuiet last lines) where
    abbrev pub acts : ℕ → WireActs Purpose
    acts = acts_of declared turn first d hosted lines booted

    began : Stands d (at_boot declared turn first d hosted) booted
    began = boot_stands declared turn first d hosted modules booted good are hosts boots

    live : AllLive booted
    live = boot_live declared turn first d hosted modules booted boots

    posted_at_boot : AllPosted (at_boot declared turn first d hosted) booted
    unfolding sent_in
    posted_at_boot node other bytes node_below below differs given =
        let s = get_there booted.nodes node (subst (λ k. node < k) (sym began.all) node_below) in
        let boot = world_boots declared turn first d hosted modules booted boots node s.0 s.1 in
        let gives = boot_gives declared turn first d _ node boot.ended node_below boot.ends in
        elim (gives.all other bytes differs (omega (arith, below)) given) [
          | inl none ↦ absurd (let clash : ◌≡◌ {A = Option (List ℕ)} None (Some bytes) = none.1 in cc)
          | inr give ↦ boot.posted other bytes give
        ]

    posted : AllPosted acts last
    posted =
        lead_keeps declared turn d AllPosted (λ number a new w next stands after delivers. posted_still number a new w next stands delivers)
        lines (at_boot declared turn first d hosted) booted last lossless.alone began live posted_at_boot leads

    quiet : (node : ℕ) → QuietPairs (acts node)
    quiet = quiet_on first hosted lines booted last lossless.alone began live leads

    come : (number : ℕ) → number < length last.sent → IsCome number acts last
    come number below =
        let line = lossless.each number below in
        lead_makes declared turn d (IsCome number) (come_kept number) number (come_made number)
        lines line.0 (at_boot declared turn first d hosted) booted last (slice_get-get_or lines line.0 (Deliver number) line.1 ∙ ap (λ (l : Line). Some l) line.2) lossless.alone began live leads

    stands : Stands d acts last
    stands =
        lead_keeps declared turn d (λ a w. Stands d a w) (λ number a new w next stands after delivers holds. after)
        lines (at_boot declared turn first d hosted) booted last lossless.alone began live began leads

    module _ (node other : ℕ) (node_below : node < length d.nodes) (other_below : other < length d.nodes) (differs : node ≢ other) where
      -- all that a node has sent to another one has come there
      came_between : ((bytes : List ℕ) (number : ℕ) → slice_get (sent_by (start 0 d.format) (at_pair d acts node other)) number ≡ Some bytes → (s : Piece) × (reading bytes ≡ Ok s))
          → AllCame d.format (at_pair d acts node other) (at_pair d acts other node)
      came_between reads number bytes at =
          let s = get_there last.nodes node (subst (λ k. node < k) (sym stands.all) node_below) in
          let lawful = lawful_at d node other s.0.node.wire (acts node) (stands.stands node s.0 s.1) other_below (λ same. differs (sym same)) in
          let given : slice_get (sent_in (beginning_of d node) other (acts node)) number ≡ Some bytes =
          ap (λ (l : List (List ℕ)). slice_get l number) (sent_is (beginning_of d node) (acts node) other lawful) ∙ at in
          let is = posted node other bytes node_below other_below (λ same. differs (sym same)) (number, given) in
          let one = come is.number (slice_get_within last.sent is.number is.sent is.there) in
          let same : one.sent ≡ is.sent = same_Some one.sent is.sent (sym one.there ∙ is.there) in
          let bytes_is : one.sent.bytes ≡ bytes = ap (λ (x : Sent). x.bytes) same ∙ is.bytes_are in
          let read = reads bytes number at in
          let has = one.come read.0 (ap reading bytes_is ∙ read.1) in
          subst (λ b. HasCome b (at_pair d acts other node)) bytes_is
          (subst (λ n. HasCome one.sent.bytes (at_pair d acts n node)) (ap (λ (x : Sent). x.to) same ∙ is.to_is)
          (subst (λ n. HasCome one.sent.bytes (at_pair d acts one.sent.to n)) (ap (λ (x : Sent). x.from) same ∙ is.from_is) has))

    -- all that was handed over between two nodes has arrived
    pub all_between : (node other : ℕ) → node < length d.nodes → other < length d.nodes → node ≢ other → AllArrived d.format (at_pair d acts node other) (at_pair d acts other node)
    all_between node other node_below other_below differs =
        let talks = stands.talks node other node_below other_below differs in
        let e = start 0 d.format in
        let quiet_here : IsUndisturbed (acts_at_first talks.talk) = subst (λ a. IsUndisturbed a) (sym talks.at_here) (quiet node e other) in
        let quiet_there : IsUndisturbed (acts_at_second talks.talk) = subst (λ a. IsUndisturbed a) (sym talks.at_there) (quiet other e node) in
        let joint = joint_talk d.format talks.talk good.format talks.is quiet_here quiet_there in
        let reads_here : (bytes : List ℕ) (number : ℕ) → slice_get (sent_by e (acts_at_first talks.talk)) number ≡ Some bytes → (s : Piece) × (reading bytes ≡ Ok s) =
        λ bytes number at. read_of _ _ bytes (each_at _ (sent_by e (acts_at_first talks.talk)) number bytes joint.sound.good_here.tells at) in
        let reads_there : (bytes : List ℕ) (number : ℕ) → slice_get (sent_by e (acts_at_second talks.talk)) number ≡ Some bytes → (s : Piece) × (reading bytes ≡ Ok s) =
        λ bytes number at. read_of _ _ bytes (each_at _ (sent_by e (acts_at_second talks.talk)) number bytes joint.sound.good_there.tells at) in
        let here : AllCame d.format (acts_at_first talks.talk) (acts_at_second talks.talk) =
        subst (λ a. AllCame d.format a (acts_at_second talks.talk)) (sym talks.at_here) (subst (λ a. AllCame d.format (at_pair d acts node other) a) (sym talks.at_there)
        (came_between node other node_below other_below differs (λ bytes number at. reads_here bytes number (ap (λ a. slice_get (sent_by e a) number) talks.at_here ∙ at)))) in
        let there : AllCame d.format (acts_at_second talks.talk) (acts_at_first talks.talk) =
        subst (λ a. AllCame d.format a (acts_at_first talks.talk)) (sym talks.at_there) (subst (λ a. AllCame d.format (at_pair d acts other node) a) (sym talks.at_here)
        (came_between other node other_below node_below (λ same. differs (sym same)) (λ bytes number at. reads_there bytes number (ap (λ a. slice_get (sent_by e a) number) talks.at_there ∙ at)))) in
        subst (λ a. AllArrived d.format a (at_pair d acts other node)) talks.at_here
        (subst (λ a. AllArrived d.format (acts_at_first talks.talk) a) talks.at_there
        (all_arrive d.format talks.talk good.format talks.is quiet_here quiet_there here there).0)
      where
        read_of : (a : Acts) (ts : List Piece) (bytes : List ℕ) → (t : Tells 0 d.format a ts bytes) → (s : Piece) × (reading bytes ≡ Ok s)
        read_of a ts bytes t = (t.said, ap reading t.bytes_are ∙ read_again t.said t.is.segment)
