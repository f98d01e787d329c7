-- A world at boot: the nodes boot in their order, all in step 0.
use Rattle.std.specs.Prelude.{◌≡◌, ℕ, false, List, [], ◌∷◌, ◌++◌, length, map, slice_get, Option, None, Some, Ok, Err}
use Rattle.circus_value.specs.ValueTree.{ValueTree}
use Rattle.circus_value.specs.declared.outcome.Outcome.{Outcome}
use Rattle.circus_collate.specs.declared.deployment.Deployment.{Deployment}
use Rattle.circus_model.specs.NextTurn.{NextTurn}
use Rattle.circus_model.specs.declared.signature.Signature.{Signature}
use Rattle.circus_node.specs.Booting as booting
use Rattle.circus_node.specs.Step as node_step
use Rattle.circus_world.specs.WorldState.{WorldState}
use Rattle.circus_world.specs.Course.{Stepped, sent_by}

module _ {M : Type 0} where
  -- before any node has booted
  abbrev pub before_any : Deployment → List M → WorldState M
  before_any d modules = record { deployment = d; modules = modules; nodes = []; sent = []; steps = 0 }

  -- the next node has booted
  abbrev pub joined_by : WorldState M → node_step.Ended M → Stepped M
  joined_by w (Ok booted) =
      Ok (record w {
        nodes = w.nodes ++ record { node = booted.0; crashed = None; joins = false } ∷ [];
        sent = w.sent ++ map (sent_by 0 (length w.nodes)) booted.1.gives;
      })
  joined_by w (Err peer) = Err (length w.nodes, peer)

  -- and then others, unless it has no number left
  abbrev pub then_others : (WorldState M → Stepped M) → Stepped M → Stepped M
  then_others others (Ok w) = others w
  then_others others (Err spent) = Err spent

module _ {M : Type 0} (declared : M → Signature) (turn : M → List ValueTree → ℕ → List ValueTree → List Outcome → NextTurn) (first : M → List ValueTree) where
  -- the nodes that are left boot, which host these modules
  abbrev pub all_booted : List (Option M) → WorldState M → Stepped M
  all_booted [] w = Ok w
  all_booted (hosted ∷ others) w =
      then_others (all_booted others)
      (joined_by w (booting.boot_node declared turn first w.deployment hosted (length w.nodes)))

  -- each node hosts a module that does what its troupe's does
  pub record AreHosted (d : Deployment) (modules : List M) (hosted : List (Option M)) : Type 0 where
    pub one_each : length hosted ≡ length d.nodes
    pub each : (node : ℕ) (own : Option M) → slice_get hosted node ≡ Some own → booting.IsHosted declared turn first d modules node own
