use Rattle.circus_member_theory.proofs.Accepting.Spelled.{values_spelled, spelled_values, outcome_spelled, spelled_outcome, state_handed, handed_state}
use Rattle.circus_member_theory.proofs.grammar.values_are_read_by_their_spelling.Goals as goal

pub returns-clause-values : goal.returns-clause-values
returns-clause-values c shapes most at message values octets is = values_spelled shapes most at message values octets is

pub returns-clause-values_read : goal.returns-clause-values_read
returns-clause-values_read c shapes most at message values proper s = spelled_values shapes most at message values proper s

pub returns-clause-outcome : goal.returns-clause-outcome
returns-clause-outcome c p most at message outcome octets is = outcome_spelled p most at message outcome octets is

pub returns-clause-outcome_read : goal.returns-clause-outcome_read
returns-clause-outcome_read c p most at message outcome proper s = spelled_outcome p most at message outcome proper s

pub returns-clause-state : goal.returns-clause-state
returns-clause-state c variables most message state count octets is = state_handed variables most message state count octets is

pub returns-clause-state_read : goal.returns-clause-state_read
returns-clause-state_read c variables most message state count proper h = handed_state variables most message state count proper h
