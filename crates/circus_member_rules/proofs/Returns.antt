-- What calls get at once may be sent.
use Rattle.std.proofs.Common.{◌≡◌, Bool, true, false, nat_lt, nat_eq, if◌then◌else◌, Option, Some, None, refl, arith}
use Rattle.std.specs.Prelude.{IfSome}
use Rattle.std.specs.Option.{option_map_or}
use Rattle.std.proofs.lemmas.Map.Entries.{All-lookup}
use Rattle.std.proofs.lemmas.Bool.{ltb-true}
use Rattle.circus_header.specs.declared.call.CallHeader.{CallHeader}
use Rattle.circus_header.specs.declared.answer.Reply.{Reply}
use Rattle.circus_gather.specs.Gathering.{Gathered, index_of, reply_of, answer_to}
use Rattle.circus_gather.specs.declared.added.Added.TheVariants as A
use Rattle.circus_member_rules.specs.Callable.{IsReply, AreReplies, MayAnswer}

pub may_answer : (g : Gathered) (h : CallHeader) → AreReplies g.replies → MayAnswer (answer_to g h)
may_answer g h replies =
    let index = index_of g.module h in
    by_tests (nat_lt h.server_incarnation g.required) (nat_lt index g.from) refl (reply_of g index) (All-lookup IsReply (nat_eq index) g.replies replies)
  where
    by_tests : (stale before : Bool) → nat_lt h.server_incarnation g.required ≡ stale → (kept : Option Reply) → IfSome kept IsReply → MayAnswer (if stale then A.Stale g.required else if before then A.Before g.from else option_map_or A.Reply kept A.Held)
    by_tests true before is kept may = omega (arith, ltb-true _ _ is)
    by_tests false true is kept may = tt
    by_tests false false is None may = tt
    by_tests false false is (Some reply) may = may
