-- The faults of a deployment as it is written, over the modules of its program.
use Rattle.std.specs.Prelude.{ℕ, ◌+◌, Bool, true, ◌==◌, cond, List, [], ◌∷◌, ◌++◌, Option, Some, None, is_some, is_none, slice_get}
use Rattle.circus_syntax.specs.declared.named.Named.{Named}
use Rattle.circus_syntax.specs.declared.named.Numeral.{Numeral}
use Rattle.circus_fault.specs.declared.fault.Fault.{Fault}
use Rattle.circus_fault.specs.Least.{faults_if, out_of}
use Rattle.circus_fault.specs.Known.{Known, nobody, add_name, no_number, also_number}
use Rattle.circus_lang.specs.ModuleTree.{ModuleTree}
use Rattle.circus_troupe.specs.declared.deployment_text.WrittenKind.{WrittenKind}
use Rattle.circus_troupe.specs.declared.deployment_text.WrittenKind.TheVariants.{First, Majority, Unanimous, AtLeast, Watchdog}
use Rattle.circus_troupe.specs.declared.deployment_text.HostText.{HostText}
use Rattle.circus_troupe.specs.declared.deployment_text.TroupeText.{TroupeText}
use Rattle.circus_troupe.specs.declared.deployment_text.DeploymentText.{DeploymentText}
use Rattle.circus_deployment.specs.declared.cause.Cause.{Cause}
use Rattle.circus_deployment.specs.declared.cause.Cause.TheVariants.{Unknown, Repeated, OutOfRange, Missing, TooMany}
use Rattle.circus_limits.specs.Limits.{most_nodes, most_members, most_needed, greatest_port}
use Rattle.circus_deployment.specs.Nodes.{nodes_of, module_numbers, troupe_numbers}

abbrev pub Faults : Type 0
Faults = List (Fault Cause)

-- ---- nodes

-- the nodes that stand before a place: their names, their ports, and how many they are
pub record Before : Type 0 where
  pub names : Known
  pub ports : ℕ → Bool
  pub count : ℕ

abbrev pub no_nodes : Before
no_nodes = record { names = nobody; ports = no_number; count = 0 }

abbrev pub node_faults : Before → Named → Numeral → Faults
node_faults before name port =
    faults_if (is_some (before.names name.name)) name.at Repeated ++ faults_if (before.count == most_nodes) name.at TooMany
    ++ faults_if (before.ports port.value) port.at Repeated ++ out_of OutOfRange greatest_port port

abbrev pub behind_node : Before → Named → Numeral → Before
behind_node before name port = record {
  names = add_name name.name 0 before.names;
  ports = also_number port.value before.ports;
  count = before.count + 1;
}

-- nodes one behind the other
abbrev pub nodes_faults : Before → List HostText → Faults
nodes_faults before [] = []
nodes_faults before (h ∷ hs) = node_faults before h.name h.port ++ nodes_faults (behind_node before h.name h.port) hs

abbrev pub behind_nodes : Before → List HostText → Before
behind_nodes before [] = before
behind_nodes before (h ∷ hs) = behind_nodes (behind_node before h.name h.port) hs

-- ---- troupes

-- the number behind LEAST
abbrev pub needed_faults : WrittenKind → Faults
needed_faults First = []
needed_faults Majority = []
needed_faults Unanimous = []
needed_faults (AtLeast n) = out_of OutOfRange most_needed n
needed_faults Watchdog = []

-- the first founder that is one too many
abbrev pub crowd_faults : Option HostText → Faults
crowd_faults None = []
crowd_faults (Some h) = faults_if true h.name.at TooMany

-- a troupe, where these are the numbers of modules and those of earlier troupes
abbrev pub troupe_faults : Known → Known → TroupeText → Faults
troupe_faults modules earlier t =
    faults_if (is_none (modules t.name.name)) t.name.at Unknown ++ faults_if (is_some (earlier t.name.name)) t.name.at Repeated
    ++ needed_faults t.calls.kind ++ needed_faults t.replies.kind ++ crowd_faults (slice_get t.members most_members)

-- troupes from a number on
abbrev pub troupes_faults : Known → Known → ℕ → List TroupeText → Faults
troupes_faults modules earlier number [] = []
troupes_faults modules earlier number (t ∷ ts) = troupe_faults modules earlier t ++ troupes_faults modules (add_name t.name.name number earlier) (number + 1) ts

-- the first module that has no troupe
abbrev pub first_without_troupe : Known → List ModuleTree → Option (List ℕ)
first_without_troupe troupes [] = None
first_without_troupe troupes (m ∷ ms) = cond (is_none (troupes m.name.name)) (Some m.name.name) (first_without_troupe troupes ms)

-- ---- the whole

-- a deployment over these modules, where the text ends here
abbrev pub deployment_faults : List ModuleTree → ℕ → DeploymentText → Faults
deployment_faults modules end d =
    nodes_faults no_nodes (nodes_of d) ++ troupes_faults (module_numbers modules) nobody 0 d.troupes
    ++ faults_if (is_some (first_without_troupe (troupe_numbers d.troupes) modules)) end Missing
