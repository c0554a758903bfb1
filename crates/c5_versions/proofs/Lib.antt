pub mod VersionLemmas
pub mod VersionLaws
