use Rattle.std.proofs.Common.{List, [], ◌∷◌, All, sym, subst}
use Rattle.std.proofs.lemmas.List.Elements.{All-nil}
use Rattle.circus_wire.specs.WireActs.{begun}
use Rattle.circus_member_rules.specs.declared.occurrence.Effect.{Effect}
use Rattle.circus_ring.specs.RingTable.{Kept}
use Rattle.circus_world_theory.specs.Histories.{beginning_of}
use Rattle.circus_headline_theory.specs.Peers.{GoesToPeer}
use Rattle.circus_verdict.specs.Seen.Ringing.{HasLived}
use Rattle.circus_verdict.specs.Seen.Station.{TellsOf}
use Rattle.circus_verdict.proofs.Ringing.{ring_at_boot, ring_boot_untold}
use Rattle.circus_verdict.proofs.Stationing.{still_of}
use Rattle.circus_verdict.proofs.ring.Rung.begin.Goals as goal

pub returns-then-not-tells-clause-lived : goal.returns-then-not-tells-clause-lived
returns-then-not-tells-clause-lived c =
    let d = c.args.deployment.now in
    let node = c.args.node in
    let boot = c.args.boot.now in
    let last = c.is_told.new.pairs in
    let peers = subst (All (GoesToPeer (beginning_of d node))) (sym c.new-nothing.ensures) (All-nil (GoesToPeer (beginning_of d node))) in
    let told = subst (λ (made : List Effect). TellsOf d node begun [] made [] boot last c.in_ok-tells.tells) c.new-nothing.ensures (c.in_ok-tells.ensures.tells d node begun [] c.in_ok-pairs.ensures.stand c.new-3.ensures peers) in
    ring_boot_untold d node boot c.requires.boot (subst (TellsOf d node begun [] [] [] boot last) c.if-not-tells.true told)

pub returns-clause-ready : goal.returns-clause-ready
returns-clause-ready c =
    record {
      format = c.is_told.ensures.format;
      pairs = still_of c.args.deployment.now c.args.node c.in_ok-pairs.pairs c.is_told.new.pairs c.is_told.ensures.remains c.in_ok-pairs.ensures.own;
      ring = record { deployment = c.requires.deployment; requests = []; kept_is = c.in_ok-ring.ensures };
    }

pub returns-clause-lived : goal.returns-clause-lived
returns-clause-lived c =
    let d = c.args.deployment.now in
    let node = c.args.node in
    let boot = c.args.boot.now in
    let last = c.is_told.new.pairs in
    let peers = subst (All (GoesToPeer (beginning_of d node))) (sym c.new-nothing.ensures) (All-nil (GoesToPeer (beginning_of d node))) in
    let told = subst (λ (made : List Effect). TellsOf d node begun [] made [] boot last c.in_ok-tells.tells) c.new-nothing.ensures (c.in_ok-tells.ensures.tells d node begun [] c.in_ok-pairs.ensures.stand c.new-3.ensures peers) in
    subst (HasLived d node (boot ∷ []) last c.in_ok-ring.ring) (sym c.new-4.ensures)
    (subst (λ (k : Kept). HasLived d node (boot ∷ []) last k []) (sym c.in_ok-ring.ensures)
    (ring_at_boot d node boot c.requires.boot last (subst (TellsOf d node begun [] [] [] boot last) c.if-not-tells.false told)))
