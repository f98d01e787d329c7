pub mod TextPieces
pub mod Possible
pub mod RecordText
pub mod BadLine
pub mod Answer
pub mod Seen
