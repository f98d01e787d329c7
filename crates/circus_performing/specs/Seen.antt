-- How code is seen: a member and its code, and what is known while a run goes on. No public call cites these.
pub mod MemberCode
pub mod UnderWay
