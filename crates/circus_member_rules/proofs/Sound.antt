-- A sound member with other parts is sound.
use Rattle.std.proofs.Common.{◌≡◌, nat_eq, List, length, Option, Some, None, refl, sym, subst, ap, ◌∙◌}
use Rattle.std.specs.Prelude.{IfSome}
use Rattle.std.specs.Map.{lookup}
use Rattle.std.proofs.lemmas.Option.{IfSome_then}
use Rattle.circus_value.specs.declared.caller.Caller.{Caller}
use Rattle.circus_transfer.specs.declared.joiner.Joiner.{Joiner}
use Rattle.circus_model.specs.Behaviour.{Behaviour}
use Rattle.circus_record.specs.declared.record.AskRecord.{AskRecord}
use Rattle.circus_fanout.specs.Knowing.{Knowing}
use Rattle.circus_gather.specs.Gathering.{Gathered}
use Rattle.circus_fanout.specs.Asking.{Asking}
use Rattle.circus_performing.specs.Performing.{open_ask, last_of}
use Rattle.circus_performing.specs.Record.{IsRecord}
use Rattle.circus_member_rules.specs.declared.occurrence.AskName.{AskName}
use Rattle.circus_member_rules.specs.OpenAsks.{asking_of}
use Rattle.circus_member_rules.specs.MemberState.{MemberState}
use Rattle.circus_member_rules.specs.Rules.{index_of_last}
use Rattle.circus_member_rules.specs.Step.{name_of_last}
use Rattle.circus_member_rules.specs.Callable.{AreReplies}
use Rattle.circus_member_rules.specs.Happening.{IsHome}
use Rattle.circus_member_rules.specs.Seen.Sound.{AreHeld, AreOpen, AreNamed, IsRunOf, IsSameAsk, IsRunning, IsSound}

module _ {M : Type 0} (b : Behaviour) (m : MemberState M) where
  -- other requests for its state
  pub sound_requests : (requests : List Caller) → IsSound b m → IsSound b (record m { requests = requests })
  sound_requests requests h =
      record { home = h.home; own = h.own; held = h.held; replies = h.replies; asks = h.asks; names = h.names; run = h.run; running = h.running; kept = h.kept }

  -- it knows as many views
  pub sound_known : (k : Knowing) → length k.views ≡ length m.known.views → IsHome b.declared m.place k.views → IsSound b m → IsSound b (record m { known = k })
  sound_known k same home h =
      record {
        home = home;
        own = h.own;
        held = subst (λ n. AreHeld b.declared m.place.troupe n m.gathered) (sym same) h.held;
        replies = h.replies;
        asks = subst (λ n. AreOpen b.declared m.place.troupe n m.asks) (sym same) h.asks;
        names = h.names;
        run = subst (λ n. IfSome (last_of m.performing.kept.runs) (IsRunOf m.place.troupe n)) (sym same) h.run;
        running = h.running;
        kept = h.kept;
      }

  -- the same views, but others are wanted or down
  pub sound_same_views : (k : Knowing) → k.views ≡ m.known.views → IsSound b m → IsSound b (record m { known = k })
  sound_same_views k same h = sound_known k (ap length same) (subst (λ vs. IsHome b.declared m.place vs) (sym same) h.home) h

  -- it holds other calls
  pub sound_gathered : (g : Gathered) → g.module ≡ m.gathered.module → g.replies ≡ m.gathered.replies → AreHeld b.declared m.place.troupe (length m.known.views) g → IsSound b m → IsSound b (record m { gathered = g })
  sound_gathered g own replies held h =
      record {
        home = h.home;
        own = own ∙ h.own;
        held = held;
        replies = subst AreReplies (sym replies) h.replies;
        asks = h.asks;
        names = h.names;
        run = h.run;
        running = IfSome_then (open_ask m.performing.kept) h.running still;
        kept = h.kept;
      }
    where
      still : (ask : AskRecord) → IsRunning m.gathered m.asks m.performing.kept ask → IsRunning g m.asks m.performing.kept ask
      still ask r =
          record { fresh = subst (λ rs. lookup (nat_eq (index_of_last m.performing.kept)) rs ≡ None) (sym replies) r.fresh; same = r.same }

  -- it has other asks, but the one that waits asks the same
  pub sound_asks : (asks : List (AskName × Asking)) → AreOpen b.declared m.place.troupe (length m.known.views) asks → AreNamed asks → ((ask : AskRecord) → open_ask m.performing.kept ≡ Some ask → IfSome (asking_of m.asks (name_of_last m.performing.kept)) (IsSameAsk ask) → IfSome (asking_of asks (name_of_last m.performing.kept)) (IsSameAsk ask)) → IsSound b m → IsSound b (record m { asks = asks })
  sound_asks asks ready names same h =
      record {
        home = h.home;
        own = h.own;
        held = h.held;
        replies = h.replies;
        asks = ready;
        names = names;
        run = h.run;
        running = by_ask (open_ask m.performing.kept) refl h.running;
        kept = h.kept;
      }
    where
      by_ask : (o : Option AskRecord) → open_ask m.performing.kept ≡ o → IfSome o (IsRunning m.gathered m.asks m.performing.kept) → IfSome o (IsRunning m.gathered asks m.performing.kept)
      by_ask None is r = tt
      by_ask (Some ask) is r = record { fresh = r.fresh; same = same ask is r.same }

  -- it is in another phase
  pub sound_phase : (phase : Joiner) → IsRecord b m.performing.began (record m.performing.kept { phase = phase }) → IsSound b m → IsSound b (record m { performing = record m.performing { kept = record m.performing.kept { phase = phase } } })
  sound_phase phase kept h =
      record { home = h.home; own = h.own; held = h.held; replies = h.replies; asks = h.asks; names = h.names; run = h.run; running = IfSome_then (open_ask m.performing.kept) h.running still; kept = kept }
    where
      still : (ask : AskRecord) → IsRunning m.gathered m.asks m.performing.kept ask → IsRunning m.gathered m.asks (record m.performing.kept { phase = phase }) ask
      still ask r = record { fresh = r.fresh; same = r.same }
