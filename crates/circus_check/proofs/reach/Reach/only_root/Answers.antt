use Rattle.std.proofs.Common.{◌∙◌, sym, map, length, arith, inl, inr}
use Rattle.circus_lang.specs.ModuleTree.{module_of}
use Rattle.circus_check.proofs.Reaching.{settled, both_true, either_false, second_root, root_kept, root_passed}
use Rattle.circus_check.proofs.reach.Reach.only_root.Goals as goal
use Rattle.circus_check.proofs.reach.Reach.only_root.Goals.{then-is_root+then-says+else-is_some, else-is_root, else-is_root-via-then-is_root+else-says, else-is_root-via-else-is_root}

pub returns-then-is_some : goal.returns-then-is_some
returns-then-is_some c =
    let ms = map module_of c.args.naming.now.modules.now in
    let n = c.loop-number.number in
    let j = c.args.to in
    let reached = c.requires.told.reached n j ∙ settled ms (length c.args.self.now.rows) n j (omega arith) in
    second_root ms c.loop-number.first n c.args.below j (both_true _ _ c.if-is_root.ensures (c.if-says.ensures ∙ reached)) c.loop-number.invariant (sym c.if-is_some.ensures) (omega arith)

pub loop-number-preserved : goal.loop-number-preserved
loop-number-preserved c =
    let ms = map module_of c.args.naming.now.modules.now in
    let n = c.loop-number.number in
    let j = c.args.to in
    let reached = c.requires.told.reached n j ∙ settled ms (length c.args.self.now.rows) n j (omega arith) in
    let before = c.loop-number.invariant in
    elim c.if-is_root.branch [
      | then-is_root+then-says+else-is_some w ↦ rw w.first-is (root_kept ms c.loop-number.first n j (both_true _ _ w.if-is_root.ensures (w.if-says.ensures ∙ reached)) before (sym w.if-is_some.ensures))
      | else-is_root w ↦ rw w.first-is (elim w.else-is_root.branch [
        | else-is_root-via-then-is_root+else-says v ↦ root_passed ms c.loop-number.first n j (either_false _ _ (inr (v.if-says.ensures ∙ reached))) before
        | else-is_root-via-else-is_root v ↦ root_passed ms c.loop-number.first n j (either_false _ _ (inl v.if-is_root.ensures)) before
      ])
    ]
