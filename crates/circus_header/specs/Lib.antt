pub mod Field
pub mod CallFields
pub mod ReturnFields
pub mod Reading
pub mod ReplyEquality
pub mod Seen
