-- Rulesets for the proofs of every crate above.
pub mod Rules
