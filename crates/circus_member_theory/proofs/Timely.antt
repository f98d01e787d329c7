-- Nothing that a member does comes late or early.
pub mod Firsts
pub mod Runs
pub mod Calls
pub mod Replies
pub mod Phases
pub mod Known
pub mod Open
pub mod Turned
pub mod Going
pub mod Rests
pub mod Lived
pub mod Starts
pub mod Unanimity
pub mod Counted
