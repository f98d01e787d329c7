pub mod ByteClass
pub mod Form
pub mod Front
pub mod Token
pub mod Division
pub mod Lines
