-- What members did, each with its step.
use Rattle.std.specs.Prelude.{ℕ, ◌+◌, ◌==◌, ◌&&◌, not, if◌then◌else◌, List, [], ◌∷◌, ◌++◌, codes, filter, Option, Some, None}
use Rattle.std.specs.Option.{option_map_or}
use Rattle.std.specs.Fmt.{decimal}
use Rattle.circus_value.specs.ThreadText.{path_text}
use Rattle.circus_value.specs.OutcomeText.{outcome_text}
use Rattle.circus_value.specs.declared.outcome.Outcome.{Outcome}
use Rattle.circus_record.specs.declared.record.RunRecord.{RunRecord}
use Rattle.circus_record.specs.declared.record.MemberRecord.{MemberRecord}
use Rattle.circus_record.specs.Naming.{Names}
use Rattle.circus_performing.specs.Performing.{is_active}
use Rattle.circus_node.specs.NodeState.{member_record}
use Rattle.circus_world.specs.WorldState.{Standing}

pub data Did : Type 0 where
  -- it became active, and performs the calls from this one on
  becomes_active : ℕ → Did
  -- it began the run of this place, of a thread of this root, by this path
  begins : ℕ → ℕ → List ℕ → Did
  -- it ended the run of this place
  ends : ℕ → Outcome → Did

-- in which step, by the member of which node
pub record Deed : Type 0 where
  pub step : ℕ
  pub node : ℕ
  pub did : Did

-- ---- the deeds of members

-- a founder becomes active at boot, which is no deed
abbrev pub activation : ℕ → MemberRecord → List Deed
activation node kept =
    if is_active kept.phase && not (kept.active_at == 0)
    then record { step = kept.active_at; node = node; did = becomes_active kept.from } ∷ []
    else []

abbrev pub end_of_run : ℕ → ℕ → Option ℕ → Option Outcome → List Deed
end_of_run node place (Some step) (Some outcome) = record { step = step; node = node; did = ends place outcome } ∷ []
end_of_run node place (Some step) None = []
end_of_run node place None outcome = []

abbrev pub deeds_of_run : ℕ → ℕ → RunRecord → List Deed
deeds_of_run node place run =
    record { step = run.started; node = node; did = begins place run.root run.path } ∷ end_of_run node place run.ended run.outcome

-- runs in their order, the first having this place
abbrev pub deeds_of_runs : ℕ → ℕ → List RunRecord → List Deed
deeds_of_runs node place [] = []
deeds_of_runs node place (run ∷ others) = deeds_of_run node place run ++ deeds_of_runs node (place + 1) others

abbrev pub deeds_of_member : ℕ → MemberRecord → List Deed
deeds_of_member node kept = activation node kept ++ deeds_of_runs node kept.from kept.runs

-- the member of a node, if it hosts one
abbrev pub deeds_of_node : {M : Type 0} → ℕ → Standing M → List Deed
deeds_of_node node s = option_map_or (deeds_of_member node) (member_record s.node.acting) []

-- members in the order of their nodes, the first of which has this number
abbrev pub deeds_of : {M : Type 0} → ℕ → List (Standing M) → List Deed
deeds_of node [] = []
deeds_of node (s ∷ others) = deeds_of_node node s ++ deeds_of (node + 1) others

-- those of one step, in the same order
abbrev pub deeds_in : ℕ → List Deed → List Deed
deeds_in step deeds = filter (λ (d : Deed). d.step == step) deeds

-- ---- how they are shown

-- the signs A, ( and )
abbrev pub deed_sign : Did → ℕ
deed_sign (becomes_active from) = 65
deed_sign (begins place root path) = 40
deed_sign (ends place outcome) = 41

abbrev pub did_text : Names → Did → List ℕ
did_text names (becomes_active from) = codes " is active from " ++ decimal from
did_text names (begins place root path) = codes " begins " ++ decimal place ++ codes " " ++ path_text (names.troupe root) path
did_text names (ends place outcome) = codes " ends " ++ decimal place ++ codes " " ++ outcome_text outcome

abbrev pub deed_text : Names → Deed → List ℕ
deed_text names deed = names.node deed.node ++ did_text names deed.did
