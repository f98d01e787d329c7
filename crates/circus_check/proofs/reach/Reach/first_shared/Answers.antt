use Rattle.std.proofs.Common.{◌≡◌, ◌∙◌, sym, map, length, arith, Some, inr}
use Rattle.circus_lang.specs.ModuleTree.{module_of}
use Rattle.circus_check.proofs.Reaching.{settled, both_true, either_false, none_shared, shared_found, shared_passed, no_first, not_second, only_below}
use Rattle.circus_check.proofs.reach.Reach.first_shared.Goals as goal
use Rattle.circus_check.proofs.reach.Reach.first_shared.Goals.{then-says+in_default, else-says}

pub returns-then-not-is_root : goal.returns-then-not-is_root
returns-then-not-is_root c = sym (none_shared (map module_of c.args.naming.now.modules.now) c.args.second c.args.second (sym c.if-not-is_root.ensures))

pub returns-in-Some : goal.returns-in-Some
returns-in-Some c =
    let ms = map module_of c.args.naming.now.modules.now in
    let k = c.args.second in
    let j = c.loop-to.to in
    let r = c.in-Some.first in
    let reached = c.requires.told.reached k j ∙ settled ms (length c.args.self.now.rows) k j (omega arith) in
    let own = both_true _ _ c.if-not-is_root.ensures (c.if-says.ensures ∙ reached) in
    let below = only_below ms k j r (sym c.in-Some.ensures) in
    let shared : c.min.result ≡ j = omega (arith, c.min.ensures) in
    let first : c.min-in-Some.result ≡ r = omega (arith, c.min-in-Some.ensures, below) in
    (λ i. Some (record { «module» = shared i; first = first i })) ∙ sym (shared_found ms k j r own c.loop-to.invariant (sym c.in-Some.ensures) (omega arith))

pub loop-to-preserved : goal.loop-to-preserved
loop-to-preserved c =
    let ms = map module_of c.args.naming.now.modules.now in
    let k = c.args.second in
    let j = c.loop-to.to in
    let reached = c.requires.told.reached k j ∙ settled ms (length c.args.self.now.rows) k j (omega arith) in
    elim c.if-says.branch [
      | then-says+in_default w ↦ shared_passed ms k j (no_first ms k j w.in_default.ensures) c.loop-to.invariant
      | else-says w ↦ shared_passed ms k j (not_second ms k j (either_false _ _ (inr (w.if-says.ensures ∙ reached)))) c.loop-to.invariant
    ]
