-- Each node that lives is a node run, so the headline is kept in every world.
use Rattle.std.proofs.Common.{ℕ, List, Option}
use Rattle.circus_value.specs.ValueTree.{ValueTree}
use Rattle.circus_value.specs.declared.outcome.Outcome.{Outcome}
use Rattle.circus_collate.specs.declared.deployment.Deployment.{Deployment}
use Rattle.circus_model.specs.Behaviour.{Behaviour, IsModule, behaviours}
use Rattle.circus_model.specs.NextTurn.{NextTurn}
use Rattle.circus_model.specs.declared.signature.Signature.{Signature}
use Rattle.circus_performing.specs.Record.{behaviour}
use Rattle.circus_schedule.specs.declared.line.Line.{Line}
use Rattle.circus_world.specs.WorldState.{WorldState}
use Rattle.circus_world_theory.specs.Worlds.{IsWorldOf, IsPlainWorldOf}
use Rattle.circus_world_theory.proofs.Lawful as lawful_modules
use Rattle.circus_headline_theory.specs.Facts.{facts_of}
use Rattle.circus_headline_theory.proofs.Theorem.{node_is_a_node_run}
use Rattle.circus_headline_theory.specs.Headline.{Headline}
use Rattle.circus_headline_theory.proofs.Headlines.{keeps_headline}
use Rattle.circus_headline_theory.proofs.Plain.{plain_worlds_keep}

module _ {M : Type 0} (declared : M → Signature) (turn : M → List ValueTree → ℕ → List ValueTree → List Outcome → NextTurn) (first : M → List ValueTree)
    (lawful : (hosted : M) → IsModule (behaviour declared turn first hosted)) where
  pub worlds_keep_the_headline : (d : Deployment) (modules : List M) (hosted : List (Option M)) (lines : List Line) (begun last : WorldState M)
      → IsWorldOf declared turn first d modules hosted lines begun last → Headline d (behaviours declared turn first modules) lines (facts_of last)
  worlds_keep_the_headline d modules hosted lines begun last world =
      keeps_headline declared turn first lawful (node_is_a_node_run declared turn first lawful) d modules hosted lines begun last world

pub plain_worlds_keep_the_headline : (d : Deployment) (program : List Behaviour) (hosted : List (Option Behaviour)) (lines : List Line) (begun last : WorldState Behaviour)
    → IsPlainWorldOf d program hosted lines begun last → Headline d program lines (facts_of last)
plain_worlds_keep_the_headline d program hosted lines begun last world =
    plain_worlds_keep (node_is_a_node_run lawful_modules.declared lawful_modules.turn lawful_modules.first lawful_modules.all_lawful) d program hosted lines begun last world
