use Rattle.std.proofs.Common.{◌≡◌, ◌++◌, ◌∙◌, Option, Some, None, ap, refl, map, is_some, option_map, unwrap_or, ◌==◌}
use Rattle.std.specs.Prelude.{nat_lt}
use Rattle.circus_fault.specs.Least.{least_from, faults_if}
use Rattle.circus_fault.proofs.LeastMore.{least_then}
use Rattle.circus_resolve.specs.declared.cause.CheckCause.TheVariants as cause
use Rattle.circus_resolve.specs.Causes.{rank}
use Rattle.circus_lang.specs.ModuleTree.{module_of}
use Rattle.circus_check.specs.declared.reach.Shared.{Shared}
use Rattle.circus_limits.specs.Limits.{most_modules}
use Rattle.circus_check.specs.Naming.{module_named}
use Rattle.circus_check.specs.Reach.{shared_at}
use Rattle.circus_check.specs.Faults.{is_later}
use Rattle.circus_check.specs.Seen.Rows.{shared_as}
use Rattle.circus_check.proofs.OwnTables.{later_is}
use Rattle.circus_check.proofs.module.check_name.Goals as goal

some_as : (o : Option Shared) → is_some o ≡ is_some (option_map shared_as o)
some_as None = refl
some_as (Some s) = refl

pub returns : goal.returns
returns c =
    let modules = map module_of c.args.naming.now.modules.now in
    let i = c.args.own.now.number in
    let name = c.args.own.now.text.now.name in
    let best = c.args.best.now.fault in
    let b1 = c.note.new.self.fault in
    let b2 = c.note-2.new.self.fault in
    let later : nat_lt c.unwrap_or-first.result i ≡ is_later (module_named modules name.name) i =
    ap (λ n. nat_lt n i) (c.unwrap_or-first.ensures ∙ ap (λ o. unwrap_or o i) c.module.ensures) ∙ later_is (module_named modules name.name) i in
    let shared : c.is_some.result ≡ is_some (shared_at modules i) = c.is_some.ensures ∙ some_as c.args.shared ∙ ap is_some c.requires in
    let repeated = faults_if (is_later (module_named modules name.name) i) name.at cause.Repeated in
    let many = faults_if (i == most_modules) name.at cause.TooMany in
    least_then rank best b2 c.note-3.new.self.fault (repeated ++ many) (faults_if (is_some (shared_at modules i)) name.at cause.Shared)
    (least_then rank best b1 b2 repeated many (c.note.ensures ∙ ap (λ b. least_from rank best (faults_if b name.at cause.Repeated)) later) c.note-2.ensures)
    (c.note-3.ensures ∙ ap (λ b. least_from rank b2 (faults_if b name.at cause.Shared)) shared)
