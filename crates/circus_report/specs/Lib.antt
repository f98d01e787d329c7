pub mod Report
pub mod ViewLines
pub mod Run
pub mod Writing
