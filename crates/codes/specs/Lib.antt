-- The numbers of refusals and result codes, and the least MTU and MPS.
pub mod Codes
pub mod Limits
