-- The grammar of deployments: what their tokens are, in their order, and which trees they have. Each production is named in
-- front of what it spells. AT, LEAST and WATCHDOG aren't reserved.
use Rattle.std.specs.Prelude.{ℕ, List, [], ◌∷◌, ◌++◌, codes}
use Rattle.circus_syntax.specs.Placed.{word, Due, due, due_at, due_name, due_number}
use Rattle.circus_syntax.specs.Spelling.{each, with_commas, if_written, IsName, IsNumeral, IsEach, IsListed, IfWritten}
use Rattle.circus_statement.specs.WrittenStatement.{semicolon}
use Rattle.circus_troupe.specs.declared.deployment_text.RingmasterText.{RingmasterText}
use Rattle.circus_troupe.specs.declared.deployment_text.WrittenKind.{WrittenKind}
use Rattle.circus_troupe.specs.declared.deployment_text.WrittenKind.TheVariants.{First, Majority, Unanimous, AtLeast, Watchdog}
use Rattle.circus_troupe.specs.declared.deployment_text.KindText.{KindText}
use Rattle.circus_troupe.specs.declared.deployment_text.HostText.{HostText}
use Rattle.circus_troupe.specs.declared.deployment_text.TroupeText.{TroupeText}
use Rattle.circus_troupe.specs.declared.deployment_text.DeploymentText.{DeploymentText}

-- ringmaster = "RINGMASTER" name "PORT" number ";"
abbrev pub spelling_ringmaster : RingmasterText → List Due
spelling_ringmaster r =
    due (word (codes "RINGMASTER")) ∷ due_name r.name ∷ due (word (codes "PORT")) ∷ due_number r.port ∷ semicolon ∷ []

-- kind = "FIRST" | "MAJORITY" | "UNANIMOUS" | "AT" "LEAST" number, and "WATCHDOG"
abbrev pub spelling_kind_at : ℕ → WrittenKind → List Due
spelling_kind_at at First = due_at (word (codes "FIRST")) at ∷ []
spelling_kind_at at Majority = due_at (word (codes "MAJORITY")) at ∷ []
spelling_kind_at at Unanimous = due_at (word (codes "UNANIMOUS")) at ∷ []
spelling_kind_at at (AtLeast n) = due_at (word (codes "AT")) at ∷ due (word (codes "LEAST")) ∷ due_number n ∷ []
spelling_kind_at at Watchdog = due_at (word (codes "WATCHDOG")) at ∷ []

abbrev pub spelling_kind : KindText → List Due
spelling_kind k = spelling_kind_at k.at k.kind

-- name "PORT" number
abbrev pub spelling_host : HostText → List Due
spelling_host h = due_name h.name ∷ due (word (codes "PORT")) ∷ due_number h.port ∷ []

-- hosts = name "PORT" number {"," name "PORT" number}
abbrev pub spelling_hosts : List HostText → List Due
spelling_hosts hs = with_commas spelling_host hs

-- "SPARES" hosts
abbrev pub spelling_spares : List HostText → List Due
spelling_spares hs = due (word (codes "SPARES")) ∷ spelling_hosts hs

-- troupe = "TROUPE" name "CALLS" kind "REPLIES" (kind | "WATCHDOG") "MEMBERS" hosts ["SPARES" hosts] ";"
abbrev pub spelling_troupe : TroupeText → List Due
spelling_troupe t =
    due (word (codes "TROUPE")) ∷ due_name t.name ∷ due (word (codes "CALLS"))
    ∷ (spelling_kind t.calls ++ due (word (codes "REPLIES"))
    ∷ (spelling_kind t.replies ++ due (word (codes "MEMBERS"))
    ∷ (spelling_hosts t.members ++ (if_written spelling_spares t.spares ++ semicolon ∷ []))))

-- ringmaster {troupe}
abbrev pub spelling_deployment : DeploymentText → List Due
spelling_deployment d = spelling_ringmaster d.ringmaster ++ each spelling_troupe d.troupes

abbrev pub IsRingmasterText : RingmasterText → Type 0
IsRingmasterText r = IsName r.name × IsNumeral r.port

-- a kind of replies
abbrev pub IsReplyKind : WrittenKind → Type 0
IsReplyKind First = Unit {0}
IsReplyKind Majority = Unit {0}
IsReplyKind Unanimous = Unit {0}
IsReplyKind (AtLeast n) = IsNumeral n
IsReplyKind Watchdog = Unit {0}

-- a kind of calls, which have no watchdog
abbrev pub IsCallKind : WrittenKind → Type 0
IsCallKind First = Unit {0}
IsCallKind Majority = Unit {0}
IsCallKind Unanimous = Unit {0}
IsCallKind (AtLeast n) = IsNumeral n
IsCallKind Watchdog = ⊥

abbrev pub IsHostText : HostText → Type 0
IsHostText h = IsName h.name × IsNumeral h.port

abbrev pub IsTroupeText : TroupeText → Type 0
IsTroupeText t =
    IsName t.name × IsCallKind t.calls.kind × IsReplyKind t.replies.kind × IsListed IsHostText t.members
    × IfWritten (IsListed IsHostText) t.spares

-- its names are names, its numbers are not too great, and its lists of hosts aren't empty
abbrev pub IsDeploymentText : DeploymentText → Type 0
IsDeploymentText d = IsRingmasterText d.ringmaster × IsEach IsTroupeText d.troupes
