-- A step, by what is kept: which calls what comes makes, and which asks are open then.
use Rattle.std.proofs.Common.{◌≡◌, ℕ, List, ◌++◌}
use Rattle.circus_collate.specs.declared.view.View.{View}
use Rattle.circus_transfer.specs.declared.joiner.Joiner.{Joiner}
use Rattle.circus_record.specs.declared.record.MemberRecord.{MemberRecord}
use Rattle.circus_fanout.specs.Knowing.{Knowing}
use Rattle.circus_value.specs.ValueTree.{ValueTree}
use Rattle.circus_member_rules.specs.declared.place.Place.{Place}
use Rattle.circus_member_rules.specs.declared.occurrence.Occurrence.{Occurrence}
use Rattle.circus_member_theory.specs.Past.{Past, followed, phase}
use Rattle.circus_member_theory.specs.Asks.{open_asks}
use Rattle.circus_member_theory.specs.Order.{calls_of_what_came}
use Rattle.circus_dues.specs.Out.{requests_of, calls_of_open, KnowsViews}
use Rattle.circus_dues.proofs.OutCalls.{calls_behind_are}
use Rattle.circus_dues.proofs.OutPhase.{requests_are}

module _ (place : Place) (boot : List View) (begins : Joiner) (first : List ValueTree) (kept : MemberRecord) (p : Past) (step : ℕ) (o : Occurrence) (before k : Knowing)
    (known_before : KnowsViews boot p before) (known : KnowsViews boot (followed p step o) k) where
  abbrev q : Past
  q = followed p step o

  -- the calls
  pub calls_are : calls_of_what_came place boot begins first kept p q ≡ calls_of_open o before k (open_asks place boot kept p) ++ requests_of place o (phase begins p) k
  calls_are = λ j. calls_behind_are place boot p step before k known_before o known (open_asks place boot kept p) j ++ requests_are place boot begins p step k o known j
