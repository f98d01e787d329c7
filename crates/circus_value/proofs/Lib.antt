pub mod PartLemmas
pub mod FitLemmas
pub mod Octets
pub mod ShapeBack
pub mod ShapeItems
mod NameItems
mod ShapeWords
mod ItemFalls
mod SizeLemmas
mod ShownMore
pub mod EqualityLemmas
pub mod PointwiseLemmas
