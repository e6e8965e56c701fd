-- Eight octets copied are a run of eight stores.
pub mod Eight
