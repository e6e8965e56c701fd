-- Which PDUs begin with a good credit signal.
pub mod CreditsIn
