-- The least of some lists of faults.
use Rattle.std.proofs.Common.{◌≡◌, List, ◌++◌, Option}
use Rattle.circus_fault.specs.declared.fault.Fault.{Fault}
use Rattle.circus_fault.specs.Least.{least_from}
use Rattle.circus_fault.proofs.LeastMore.{least_then}
use Rattle.circus_deployment.specs.declared.cause.Cause.{Cause}
use Rattle.circus_deployment.specs.Rank.{rank_of}

pub least_three : (a b c d : Option (Fault Cause)) (xs ys zs : List (Fault Cause)) → b ≡ least_from rank_of a xs → c ≡ least_from rank_of b ys → d ≡ least_from rank_of c zs → d ≡ least_from rank_of a (xs ++ ys ++ zs)
least_three a b c d xs ys zs one two three = least_then rank_of a c d (xs ++ ys) zs (least_then rank_of a b c xs ys one two) three

pub least_five : (a b c d e f : Option (Fault Cause)) (xs ys zs us vs : List (Fault Cause)) → b ≡ least_from rank_of a xs → c ≡ least_from rank_of b ys → d ≡ least_from rank_of c zs → e ≡ least_from rank_of d us → f ≡ least_from rank_of e vs
    → f ≡ least_from rank_of a (xs ++ ys ++ zs ++ us ++ vs)
least_five a b c d e f xs ys zs us vs one two three four five =
    least_then rank_of a e f (xs ++ ys ++ zs ++ us) vs (least_then rank_of a d e (xs ++ ys ++ zs) us (least_three a b c d xs ys zs one two three) four) five
