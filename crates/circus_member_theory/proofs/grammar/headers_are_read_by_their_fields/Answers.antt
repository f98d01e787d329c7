use Rattle.circus_member_theory.proofs.Accepting.Spelled.{call_heads, call_read, call_once, return_heads, return_read, return_once, table_heads, table_read}
use Rattle.circus_member_theory.proofs.grammar.headers_are_read_by_their_fields.Goals as goal

pub returns-clause-call_heads : goal.returns-clause-call_heads
returns-clause-call_heads c message call at octets is = call_heads message call at octets is

pub returns-clause-call_read : goal.returns-clause-call_read
returns-clause-call_read c message body call heads = call_read message body call heads

pub returns-clause-call_once : goal.returns-clause-call_once
returns-clause-call_once c message one other a b first second = call_once message one other a b first second

pub returns-clause-return_heads : goal.returns-clause-return_heads
returns-clause-return_heads c message header at octets is = return_heads message header at octets is

pub returns-clause-return_read : goal.returns-clause-return_read
returns-clause-return_read c message body header heads = return_read message body header heads

pub returns-clause-return_once : goal.returns-clause-return_once
returns-clause-return_once c message one other a b first second = return_once message one other a b first second

pub returns-clause-table_heads : goal.returns-clause-table_heads
returns-clause-table_heads c at message table octets is = table_heads at message table octets is

pub returns-clause-table_read : goal.returns-clause-table_read
returns-clause-table_read c at message table heads = table_read at message table heads
