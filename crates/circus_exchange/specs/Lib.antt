pub mod Limits
pub mod Inbox
pub mod Outbox
pub mod Exchange
pub mod Seen
