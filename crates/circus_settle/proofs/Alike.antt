-- What settles comes to the same with the behaviours of its modules, and so does what is written of it.
use Rattle.std.proofs.Common.{◌≡◌, ℕ, zero, suc, ◌+◌, Bool, true, false, List, [], ◌∷◌, ◌++◌, length, map, Option, None, Some, Ok, Err, refl, ap, ◌∙◌}
use Rattle.std.specs.Prelude.{slice_get, option_map, nat_lt, if◌then◌else◌, codes}
use Rattle.std.specs.Option.{option_map_or}
use Rattle.std.specs.Fmt.{decimal}
use Rattle.std.proofs.lemmas.Option.{slice_get-map}
use Rattle.circus_value.specs.ValueTree.{ValueTree}
use Rattle.circus_value.specs.declared.outcome.Outcome.{Outcome}
use Rattle.circus_collate.specs.declared.deployment.Host.{Host}
use Rattle.circus_collate.specs.declared.view.View.{View}
use Rattle.circus_model.specs.NextTurn.{NextTurn}
use Rattle.circus_model.specs.Behaviour.{Behaviour}
use Rattle.circus_model.specs.declared.signature.Signature.{Signature}
use Rattle.circus_record.specs.declared.record.MemberRecord.{MemberRecord}
use Rattle.circus_record.specs.Line.{line}
use Rattle.circus_record.specs.MemberText.{member_lines}
use Rattle.circus_record.specs.Naming.{Names}
use Rattle.circus_node.specs.NodeState.{Acting, member, ringmaster, member_record, ring_views}
use Rattle.circus_node.specs.Alike.{declared_of, turn_of, acting_as}
use Rattle.circus_schedule.specs.declared.line.Line.TheVariants.{Deliver}
use Rattle.circus_world.specs.WorldState.{WorldState, Standing}
use Rattle.circus_world.specs.Course.{Stepped, step_line}
use Rattle.circus_world.specs.Alike.{standing_as, world_as, step_as}
use Rattle.circus_world.proofs.WorldsAlike.{world_stepped_as}
use Rattle.circus_report.specs.ViewLines.{ringmaster_line, views_lines}
use Rattle.circus_report.specs.Report.{member_at, members_lines, ring_lines, rest_text}
use Rattle.circus_settle.specs.Settled.{Settling, then_settled, settle_world}
use Rattle.circus_settle.specs.Summary.{settled_text}
use Rattle.circus_settle.specs.Alike.{settling_as}

module _ {M : Type 0} (declared : M → Signature) (turn : M → List ValueTree → ℕ → List ValueTree → List Outcome → NextTurn) (first : M → List ValueTree) where
  abbrev one : Standing M → Standing Behaviour
  one s = standing_as declared turn first s

  abbrev seen : WorldState M → WorldState Behaviour
  seen w = world_as declared turn first w

  abbrev known : Settling M → Settling Behaviour
  known s = settling_as declared turn first s

  -- ---- deliveries

  -- and then those that are left
  then_as : (left number : ℕ) → ((number : ℕ) (w : WorldState M) → known (settle_world declared turn left number w) ≡ settle_world declared_of turn_of left number (seen w)) → (s : Stepped M)
      → known (then_settled (settle_world declared turn left number) s) ≡ then_settled (settle_world declared_of turn_of left number) (step_as declared turn first s)
  then_as left number same (Ok next) = same number next
  then_as left number same (Err nodes) = refl

  next_as : (left number : ℕ) (w : WorldState M) → ((number : ℕ) (w : WorldState M) → known (settle_world declared turn left number w) ≡ settle_world declared_of turn_of left number (seen w)) → (some : Bool)
      → known (if some then then_settled (settle_world declared turn left (number + 1)) (step_line declared turn (Deliver number) w) else Ok (record { world = w; given = number }))
      ≡ (if some then then_settled (settle_world declared_of turn_of left (number + 1)) (step_line declared_of turn_of (Deliver number) (seen w)) else Ok (record { world = seen w; given = number }))
  next_as left number w same true =
      then_as left (number + 1) same (step_line declared turn (Deliver number) w)
      ∙ ap (then_settled (settle_world declared_of turn_of left (number + 1))) (world_stepped_as declared turn first (Deliver number) w)
  next_as left number w same false = refl

  pub settled_as : (most number : ℕ) (w : WorldState M) → known (settle_world declared turn most number w) ≡ settle_world declared_of turn_of most number (seen w)
  settled_as zero number w = refl
  settled_as (suc most) number w = next_as most number w (settled_as most) (nat_lt number (length w.sent))

  -- ---- what is written of a node

  pub record_as : (a : Acting M) → member_record (acting_as declared turn first a) ≡ member_record a
  record_as (member m) = refl
  record_as (ringmaster kept) = refl

  views_as : (a : Acting M) → ring_views (acting_as declared turn first a) ≡ ring_views a
  views_as (member m) = refl
  views_as (ringmaster kept) = refl

  ring_as : (names : Names) (s : Standing M) → ring_lines names (one s) ≡ ring_lines names s
  ring_as names s =
      ap (λ (o : Option (List View)). ringmaster_line names s.crashed ++ option_map_or (views_lines names) o []) (views_as s.node.acting)

  member_as : (names : Names) (number : ℕ) (host : Host) (s : Standing M) → member_at names number host (one s) ≡ member_at names number host s
  member_as names number host s =
      let told : Option MemberRecord → List ℕ = λ o. option_map_or (λ troupe. option_map_or (member_lines names number troupe s.crashed) o []) host.module [] in
      ap told (record_as s.node.acting)

  members_as : (names : Names) (number : ℕ) (hosts : List Host) (nodes : List (Standing M)) → members_lines names number hosts (map one nodes) ≡ members_lines names number hosts nodes
  members_as names number [] nodes = refl
  members_as names number (host ∷ hosts) [] = refl
  members_as names number (host ∷ hosts) (s ∷ nodes) =
      ap (λ l. l ++ members_lines names (number + 1) hosts (map one nodes)) (member_as names number host s)
      ∙ ap (λ l. member_at names number host s ++ l) (members_as names (number + 1) hosts nodes)

  pub rest_as : (names : Names) (w : WorldState M) → rest_text names (seen w) ≡ rest_text names w
  rest_as names w =
      ap (λ l. l ++ members_lines names 0 w.deployment.nodes (map one w.nodes)) (
      ap (λ (o : Option (Standing Behaviour)). option_map_or (ring_lines names) o []) (slice_get-map one w.nodes 0)
      ∙ of_option (slice_get w.nodes 0))
      ∙ ap (λ l. option_map_or (ring_lines names) (slice_get w.nodes 0) [] ++ l) (members_as names 0 w.deployment.nodes w.nodes)
    where
      of_option : (o : Option (Standing M)) → option_map_or (ring_lines names) (option_map one o) [] ≡ option_map_or (ring_lines names) o []
      of_option None = refl
      of_option (Some s) = ring_as names s

  pub text_as : (names : Names) (given : ℕ) (w : WorldState M) → settled_text names given (seen w) ≡ settled_text names given w
  text_as names given w = ap (λ rest. line (codes "circus settle 1") ++ line (codes "deliveries " ++ decimal given) ++ rest) (rest_as names w)
