pub mod StoredLemmas
pub mod FileLaws
pub mod DeviceLaws
pub mod WriteLaws
pub mod HostLaws
