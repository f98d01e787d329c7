use Rattle.std.proofs.Common.{◌≡◌, ◌+◌, ◌∷◌, drop, sym, ◌∙◌, ap}
use Rattle.std.proofs.lemmas.List.{drop_more}
use Rattle.circus_fault.specs.Least.{least_from}
use Rattle.circus_fault.specs.Known.{add_name, numbers_behind}
use Rattle.circus_fault.specs.Seen.Tables.{known_of}
use Rattle.circus_fault.proofs.LeastMore.{least_step}
use Rattle.circus_troupe.specs.declared.deployment_text.TroupeText.{TroupeText}
use Rattle.circus_deployment.specs.Rank.{rank_of}
use Rattle.circus_deployment.specs.Faults.{troupe_faults, troupes_faults}
use Rattle.circus_deployment.proofs.troupes.check_troupes.Goals as goal

pub loop-number-preserved : goal.loop-number-preserved
loop-number-preserved c =
    let n = c.loop-number.number in
    let t = c.index-texts-number.result in
    let modules = known_of c.args.modules.now in
    let known = known_of c.loop-number.troupes in
    let best = c.loop-number.best.fault in
    let new = c.troupe.new.best.fault in
    let rest = drop (n + 1) c.args.texts.now in
    let left : drop n c.args.texts.now ≡ t ∷ rest =
    drop_more c.args.texts.now n t c.loop-number-test.true ∙ ap (λ x. x ∷ rest) (sym c.index-texts-number.is) in
    record {
      found =
          ap (λ k. least_from rank_of new (troupes_faults modules k (n + 1) rest)) c.in_ok-troupe.ensures.added
          ∙ least_step rank_of new best _ (troupe_faults modules known t) (troupes_faults modules (add_name t.name.name n known) (n + 1) rest) c.in_ok-troupe.ensures.found
          (ap (λ ts. least_from rank_of best (troupes_faults modules known n ts)) (sym left) ∙ c.loop-number.invariant.found);
      numbered =
          ap (λ k. numbers_behind (λ (x : TroupeText). x.name.name) k (n + 1) rest) c.in_ok-troupe.ensures.added
          ∙ ap (λ ts. numbers_behind (λ (x : TroupeText). x.name.name) known n ts) (sym left) ∙ c.loop-number.invariant.numbered;
    }
