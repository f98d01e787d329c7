-- How code is seen: codes and weights of the trees, and where parts end. No public call cites these.
pub mod ValueCode
pub mod ValueWeight
pub mod SharedItems
pub mod SharedBytes
pub mod NamePlaces
pub mod ShapeWords
pub mod ValueFalls
pub mod ShapeCode
pub mod ShapeWeight
pub mod ShapeFalls
pub mod PartEnds
