pub mod Calls
pub mod Dues
pub mod Out
pub mod Seen
pub mod Walk
pub mod WalkRecord
pub mod NodeRuns
