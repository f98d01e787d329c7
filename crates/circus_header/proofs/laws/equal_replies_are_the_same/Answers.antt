use Rattle.circus_header.specs.ReplyEquality.{reply_eq_decides}
use Rattle.circus_header.proofs.laws.equal_replies_are_the_same.Goals as goal

pub returns : goal.returns
returns c a b = reply_eq_decides a b
