mod HeadLemmas
mod BodyLemmas
pub mod ViewLemmas
pub mod SendLemmas
pub mod RingLemmas
pub mod BootLemmas
mod Accepted
pub mod OtherLemmas
pub mod GoLemmas
pub mod NodeLemmas
pub mod NoticeLemmas
pub mod TroupeLemmas
pub mod TraceLemmas
pub mod MembersAlike
pub mod NodesAlike
