-- A station has its pairs, and keeps them.
use Rattle.std.proofs.Common.{◌≡◌, ℕ, ◌-◌, length, sym, ap, subst, ◌∙◌}
use Rattle.std.proofs.lemmas.List.{length-replicate}
use Rattle.circus_collate.specs.Deployment.{IsDeployment}
use Rattle.circus_collate.specs.declared.deployment.Deployment.{Deployment}
use Rattle.circus_wire.specs.Wire.{Remains, WireState}
use Rattle.circus_member_rules.specs.declared.occurrence.Purpose.{Purpose}
use Rattle.circus_node.specs.declared.station.Station.{Station}
use Rattle.circus_node.specs.Seen.StationOf.{IsStation, IsFresh}

-- a station of the same node of the same deployment, whose wire remains, is one
pub still_stands : (s t : Station) → IsStation s → t.deployment ≡ s.deployment → t.node ≡ s.node → Remains s.wire t.wire → IsStation t
still_stands s t is deployment node remains =
    record {
      deployment = rw deployment is.deployment;
      own = remains.own ∙ is.own ∙ sym node;
      pairs = remains.pairs ∙ is.pairs ∙ ap (λ d. length d.nodes - 1) (sym deployment);
      format = remains.format ∙ is.format ∙ ap (λ d. d.format) (sym deployment);
    }

-- one before anything has happened is one
pub fresh_stands : (d : Deployment) (own : ℕ) (s : Station) → IsDeployment d → IsFresh d own s → IsStation s
fresh_stands d own s is fresh =
    record {
      deployment = subst IsDeployment (sym fresh.deployment) is;
      own = ap (λ (w : WireState Purpose). w.own) fresh.wire ∙ sym fresh.node;
      pairs = ap (λ (w : WireState Purpose). length w.peers) fresh.wire ∙ length-replicate (length d.nodes - 1) _ ∙ ap (λ d. length d.nodes - 1) (sym fresh.deployment);
      format = ap (λ (w : WireState Purpose). w.format) fresh.wire ∙ ap (λ d. d.format) (sym fresh.deployment);
    }
