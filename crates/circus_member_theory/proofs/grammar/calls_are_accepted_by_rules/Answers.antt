use Rattle.circus_member_theory.proofs.Accepting.Rules.{call_follows, call_accepted, request_follows, request_accepted}
use Rattle.circus_member_theory.proofs.grammar.calls_are_accepted_by_rules.Goals as goal

pub returns-clause-only : goal.returns-clause-only
returns-clause-only c d declared own sender message o octets is = call_follows d declared own sender message o octets is

pub returns-clause-all : goal.returns-clause-all
returns-clause-all c d declared own sender message o proper a = call_accepted d declared own sender message o proper a

pub returns-clause-only_requests : goal.returns-clause-only_requests
returns-clause-only_requests c kept message request octets is = request_follows kept message request octets is

pub returns-clause-all_requests : goal.returns-clause-all_requests
returns-clause-all_requests c kept message request a = request_accepted kept message request a
