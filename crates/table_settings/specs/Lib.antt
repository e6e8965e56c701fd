-- Two tests with one refusal.
pub mod Sizing
