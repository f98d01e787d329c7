-- A member as clauses see it, of the parts that it keeps.
use Rattle.circus_member_rules.specs.MemberState as rules
use Rattle.circus_member.specs.declared.member_state.MemberState.{MemberState}

abbrev pub member_of : {M P : Type 0} → MemberState M P → rules.MemberState M
member_of m =
    record { place = m.place; known = m.known; gathered = m.gather; performing = m.performer; asks = m.asks; requests = m.requests }
