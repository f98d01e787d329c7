-- What a node makes of what happens to it, before any of it is sent.
use Rattle.std.specs.Prelude.{ℕ, true, false, List, [], ◌∷◌, ◌++◌}
use Rattle.std.specs.Option.{option_map_or, option_to_list}
use Rattle.circus_value.specs.ValueTree.{ValueTree}
use Rattle.circus_value.specs.declared.outcome.Outcome.{Outcome}
use Rattle.circus_value.specs.declared.caller.Caller.{Caller}
use Rattle.circus_header.specs.Field.{bytes_of}
use Rattle.circus_header.specs.ReturnFields.{return_fields}
use Rattle.circus_header.specs.declared.call.Request.{Request}
use Rattle.circus_header.specs.declared.answer.ReturnHeader.TheVariants as says
use Rattle.circus_collate.specs.declared.table.Table.{Table}
use Rattle.circus_collate.specs.declared.deployment.Deployment.{Deployment}
use Rattle.circus_ring.specs.RingTable.{Kept, table_by, kept_by}
use Rattle.circus_ring.specs.TableFields.{table_fields}
use Rattle.circus_model.specs.NextTurn.{NextTurn}
use Rattle.circus_model.specs.declared.signature.Signature.{Signature}
use Rattle.circus_wire.specs.declared.delivery.Heard.{Heard}
use Rattle.circus_wire.specs.declared.delivery.Heard.TheVariants.{Dropped, Taken, Called, Returned}
use Rattle.circus_member_rules.specs.declared.occurrence.Purpose.{Purpose}
use Rattle.circus_member_rules.specs.declared.occurrence.Effect.{Effect}
use Rattle.circus_member_rules.specs.declared.occurrence.Difference.{Difference}
use Rattle.circus_member_rules.specs.declared.occurrence.Occurrence.{Occurrence}
use Rattle.circus_member_rules.specs.declared.occurrence.Occurrence.TheVariants as comes
use Rattle.circus_member_rules.specs.MemberState.{MemberState}
use Rattle.circus_member_rules.specs.Rules.{answer}
use Rattle.circus_member_rules.specs.Step as member_step
use Rattle.circus_node.specs.declared.acting.Consequences.{Consequences}
use Rattle.circus_node.specs.NodeState.{Acting, member, ringmaster}
use Rattle.circus_node.specs.Accepting.{occurrence_of_heard, accepted_request}

-- the member or the Ringmaster afterwards, and what comes of it
pub record Made (M : Type 0) : Type 0 where
  pub acting : Acting M
  pub came : Consequences

-- calls and returns, and replies that differ
abbrev pub consequences : List Effect → List Difference → Consequences
consequences effects differences = record { effects = effects; differences = differences; dropped = false }

-- nothing comes of it
abbrev pub nothing : Consequences
nothing = consequences [] []

-- it counts as dropped
abbrev pub a_drop : Consequences
a_drop = record { effects = []; differences = []; dropped = true }

-- ---- the Ringmaster

-- a table as a return
abbrev pub table_message : Table → List ℕ
table_message table = bytes_of (return_fields says.Table) ++ bytes_of (table_fields table)

-- the return to a request
abbrev pub table_answers : Kept → Caller → Request → List Effect
table_answers kept sender request = option_map_or (λ table. answer (table_message table) sender ∷ []) (table_by kept request) []

-- a request is performed, and its call is answered
abbrev pub performs : Kept → Caller → Request → Kept × Consequences
performs kept sender request = (kept_by kept request, consequences (table_answers kept sender request) [])

-- a call arrives: a request is performed
abbrev pub called_at_ring : Caller → List ℕ → Kept → Kept × Consequences
called_at_ring sender message kept = option_map_or (performs kept sender) (accepted_request kept message) (kept, a_drop)

-- a message arrives at the Ringmaster; a return never does
abbrev pub arrives_at_ring : Heard Purpose → Kept → Kept × Consequences
arrives_at_ring Dropped kept = (kept, a_drop)
arrives_at_ring Taken kept = (kept, a_drop)
arrives_at_ring (Called sender message) kept = called_at_ring sender message kept
arrives_at_ring (Returned number purpose message) kept = (kept, a_drop)

module _ {M : Type 0} where
  abbrev pub keep_acting : Acting M → Made M
  keep_acting a = record { acting = a; came = nothing }

  -- what comes counts as dropped
  abbrev pub refuse : Acting M → Made M
  refuse a = record { acting = a; came = a_drop }

  -- the Ringmaster afterwards, and what comes of it
  abbrev pub by_ring : Kept × Consequences → Made M
  by_ring made = record { acting = ringmaster made.0; came = made.1 }

-- ---- a member

module _ {M : Type 0} (declared : M → Signature) (turn : M → List ValueTree → ℕ → List ValueTree → List Outcome → NextTurn) where
  -- something happens to a member in a step
  abbrev pub happens : ℕ → MemberState M → Occurrence → Made M
  happens at m o =
      let d = member_step.step_member declared turn at o m in
      record {
        acting = member d.member;
        came = consequences d.effects (option_to_list (member_step.difference o m));
      }

  -- a message of a node arrives at a member
  abbrev pub arrives_at_member : Deployment → ℕ → ℕ → Heard Purpose → MemberState M → Made M
  arrives_at_member d at from heard m =
      option_map_or (happens at m) (occurrence_of_heard d (declared m.performing.hosted) m from heard) (refuse (member m))

  -- ---- either

  abbrev pub arrives : Deployment → ℕ → ℕ → Heard Purpose → Acting M → Made M
  arrives d at from heard (member m) = arrives_at_member d at from heard m
  arrives d at from heard (ringmaster kept) = by_ring (arrives_at_ring heard kept)

  -- what comes of a datagram of a node: nothing where it completes no message, and what is dropped or isn't accepted counts
  abbrev pub hears : Deployment → ℕ → ℕ → Heard Purpose → Acting M → Made M
  hears d at from Dropped a = refuse a
  hears d at from Taken a = keep_acting a
  hears d at from (Called sender message) a = arrives d at from (Called sender message) a
  hears d at from (Returned number purpose message) a = arrives d at from (Returned number purpose message) a

  -- a node is declared to be down
  abbrev pub learns_down : ℕ → ℕ → Acting M → Made M
  learns_down at node (member m) = happens at m (comes.Declared node)
  learns_down at node (ringmaster kept) = keep_acting (ringmaster kept)

  -- the node is told to join its troupe
  abbrev pub is_told_to_join : ℕ → Acting M → Made M
  is_told_to_join at (member m) = happens at m comes.Joins
  is_told_to_join at (ringmaster kept) = keep_acting (ringmaster kept)
