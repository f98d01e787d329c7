pub mod DeploymentSpelling
pub mod DeploymentReading
pub mod ReadAt
