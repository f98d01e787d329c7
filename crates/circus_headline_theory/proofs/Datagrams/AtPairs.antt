-- What the pairs of a node send is sent for one of the causes there are, and is so while calls and returns are handed over.
use Rattle.std.proofs.Common.{◌≡◌, ℕ, ◌⊎◌, Bool, true, false, cond, ◌&&◌, eqb, List, Option, None, Some, refl, sym, ap, subst, ◌∙◌, arith}
use Rattle.std.specs.Prelude.{slice_get}
use Rattle.circus_value.specs.declared.caller.Caller.{Caller}
use Rattle.circus_exchange.specs.declared.exchange.Exchange.{Exchange}
use Rattle.circus_pair.specs.Acts.{Act, Call, Return, Came, Tick, Acts, more}
use Rattle.circus_pair.specs.Lawful.{AreLawful, is_stopped_after}
use Rattle.circus_pair.specs.TwoEnds.{with_act}
use Rattle.circus_pair.specs.Sending.{outputs}
use Rattle.circus_pair.proofs.Each.{each_at}
use Rattle.circus_wire.specs.Wire.{WireState, Beginning, IsOther}
use Rattle.circus_wire.specs.WireActs.{WireAct, WireActs, followed_by, CallTo, AnswerTo, CameFrom, TickAll, act_at, acts_at, awaits_after}
use Rattle.circus_wire.specs.WireStanding.{WireStands, pair_of, outputs_for}
use Rattle.circus_wire.proofs.Histories.{knows_lawful}
use Rattle.circus_member_rules.specs.declared.occurrence.Purpose.{Purpose}
use Rattle.circus_node.specs.declared.event.Event.{Event}
use Rattle.circus_node.specs.declared.event.Event.TheVariants as comes
use Rattle.circus_world_theory.proofs.Given.{OfGives, HoldsBy, StaysBy, Carries, IsPeer}
use Rattle.circus_world_theory.proofs.Steps.{Brings}
use Rattle.circus_headline_theory.specs.Datagrams.Lives.{is_tick}
use Rattle.circus_headline_theory.specs.Datagrams.Sendings.{IsSentFor}
use Rattle.circus_headline_theory.proofs.Datagrams.Sent as pairs
use Rattle.circus_headline_theory.proofs.Datagrams.Sent.{sent_for, sent_behind_call, sent_behind_return}

some_is : (t : Bool) (x a : Act) → cond t (Some x) None ≡ Some a → x ≡ a
some_is true x a is = cc
some_is false x a is = absurd (let clash : ◌≡◌ {A = Option Act} None (Some a) = is in cc)

none_or : (t : Bool) (x a : Act) → cond t None (Some x) ≡ Some a → x ≡ a
none_or true x a is = absurd (let clash : ◌≡◌ {A = Option Act} None (Some a) = is in cc)
none_or false x a is = cc

module _ (b : Beginning) where
  abbrev e : Exchange
  e = pair_of b

  pub other_by : (acts : WireActs Purpose) (w : WireState Purpose) (to : ℕ) → WireStands w b acts → IsPeer b to → IsOther w to
  other_by acts w to stands peer = (let all = stands.nodes in let low = peer.1 in (λ same. peer.0 (same ∙ stands.own), omega (arith, all, low)))

  pub lawful_then : (acts : WireActs Purpose) (w : WireState Purpose) (to : ℕ) → WireStands w b acts → IsPeer b to → AreLawful b.first b.format (acts_at (pair_of b) to acts)
  lawful_then acts w to stands peer = knows_lawful w b acts to stands (other_by acts w to stands peer)

  module _ (known : (b.format ≡ 1) ⊎ (b.format ≡ 2)) (ticks : Bool) where
    -- a datagram to another node is sent for one of the causes
    abbrev pub IsSent : OfGives
    IsSent acts give = IsPeer b give.to × IsSentFor b.first b.format ticks (acts_at (pair_of b) give.to acts) give.bytes

    by_act : (here : Acts) (o : Option Act) → AreLawful b.first b.format (with_act here o) → ((a : Act) → o ≡ Some a → pairs.is_tick a ≡ ticks) → (place : ℕ) (bytes : List ℕ)
        → slice_get (outputs_for e here o) place ≡ Some bytes → IsSentFor b.first b.format ticks (with_act here o) bytes
    by_act here None lawful fits place bytes at = absurd (let clash : ◌≡◌ {A = Option (List ℕ)} None (Some bytes) = at in cc)
    by_act here (Some a) lawful fits place bytes at =
        subst (λ t. IsSentFor b.first b.format t (more here a) bytes) (fits a refl)
        (each_at (IsSentFor b.first b.format (pairs.is_tick a) (more here a)) (outputs e here a) place bytes (sent_for b.first b.format known here a lawful) at)

    holds_by : (acts : WireActs Purpose) (act : WireAct Purpose) → ((to : ℕ) (here : Acts) (a : Act) → act_at e to here act ≡ Some a → pairs.is_tick a ≡ ticks) → HoldsBy b IsSent acts act
    holds_by acts act fits w stands to peer place bytes at =
        (peer, by_act (acts_at e to acts) (act_at e to (acts_at e to acts) act) (lawful_then (followed_by acts act) w to stands peer) (fits to (acts_at e to acts)) place bytes at)

    -- ---- what is handed over

    stays_call : (acts : WireActs Purpose) (to : ℕ) (message : List ℕ) (purpose : Purpose) → StaysBy b IsSent acts (CallTo to message purpose)
    stays_call acts to message purpose w stands give is =
        (is.0, by_test (eqb to give.to) (lawful_then (followed_by acts (CallTo to message purpose)) w give.to stands is.0))
      where
        by_test : (t : Bool) → AreLawful b.first b.format (with_act (acts_at e give.to acts) (cond t (Some (Call message)) None))
            → IsSentFor b.first b.format ticks (with_act (acts_at e give.to acts) (cond t (Some (Call message)) None)) give.bytes
        by_test true lawful = sent_behind_call b.first b.format ticks (acts_at e give.to acts) message give.bytes lawful is.1
        by_test false lawful = is.1

    stays_answer : (acts : WireActs Purpose) (caller : Caller) (message : List ℕ) → StaysBy b IsSent acts (AnswerTo caller message)
    stays_answer acts caller message w stands give is =
        (is.0, by_test (eqb caller.node give.to && awaits_after e (acts_at e give.to acts) caller.number) (lawful_then (followed_by acts (AnswerTo caller message)) w give.to stands is.0))
      where
        by_test : (t : Bool) → AreLawful b.first b.format (with_act (acts_at e give.to acts) (cond t (Some (Return caller.number message)) None))
            → IsSentFor b.first b.format ticks (with_act (acts_at e give.to acts) (cond t (Some (Return caller.number message)) None)) give.bytes
        by_test true lawful = sent_behind_return b.first b.format ticks (acts_at e give.to acts) caller.number message give.bytes lawful is.1
        by_test false lawful = is.1

  pub sent_carries : (known : (b.format ≡ 1) ⊎ (b.format ≡ 2)) → Carries b (IsSent known false)
  sent_carries known = record {
    call = λ acts to message purpose. (
      holds_by known false acts (CallTo to message purpose) (λ y here a is. ap pairs.is_tick (sym (some_is (eqb to y) (Call message) a is))),
      stays_call known false acts to message purpose,
    );
    answer = λ acts caller message. (
      holds_by known false acts (AnswerTo caller message) (λ y here a is. ap pairs.is_tick (sym (some_is (eqb caller.node y && awaits_after e here caller.number) (Return caller.number message) a is))),
      stays_answer known false acts caller message,
    );
  }

  pub sent_brings : (known : (b.format ≡ 1) ⊎ (b.format ≡ 2)) (acts : WireActs Purpose) (event : Event) → Brings b (IsSent known (is_tick event)) acts event
  sent_brings known acts (comes.Datagram from bytes) =
      (sent_carries known, λ s is. holds_by known false acts (CameFrom from s) (λ y here a is. ap pairs.is_tick (sym (some_is (eqb from y) (Came s) a is))))
  sent_brings known acts comes.Tick = holds_by known true acts TickAll (λ y here a is. ap pairs.is_tick (sym (none_or (is_stopped_after here) Tick a is)))
  sent_brings known acts (comes.Down node) = sent_carries known
  sent_brings known acts comes.Join = sent_carries known
