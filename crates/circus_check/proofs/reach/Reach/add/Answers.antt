use Rattle.std.proofs.Common.{◌∙◌, map}
use Rattle.std.proofs.lemmas.Result.{on_ok_weaker}
use Rattle.circus_lang.specs.ModuleTree.{module_of}
use Rattle.circus_check.proofs.Reaching.{rows_more}
use Rattle.circus_check.proofs.reach.Reach.add.Goals as goal

pub returns-clause-told : goal.returns-clause-told
returns-clause-told c =
    on_ok_weaker c.push.result
    (λ pushed. record {
      reached = rows_more (map module_of c.args.naming.now.modules.now) c.args.self.now.rows c.push.new.self c.in_ok-row.row c.len-number.result c.as_slice.result.now c.args.imports.now
          c.len-number.ensures c.requires.its (c.as_slice.ensures ∙ c.in_ok-goods.ensures) c.requires.told.reached c.in_ok-row.ensures pushed;
    })
    c.push.ensures.ok
