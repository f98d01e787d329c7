-- How a running thread is seen, and what its calls are given and leave. No public call cites these.
pub mod Ready
pub mod Threads
