pub mod LinesMore
pub mod NamesOf
pub mod Pieces
