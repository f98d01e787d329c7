use Rattle.std.proofs.Common.{suc, [], take, refl}
use Rattle.circus_limits.specs.Limits.{most_modules}
use Rattle.circus_check.proofs.SameLeast.{modules_same}
use Rattle.circus_check.proofs.laws.least_is_of_all.Goals as goal

pub returns : goal.returns
returns c interfaces modules order = modules_same interfaces modules 0 (take (suc most_modules) modules) [] [] refl order
