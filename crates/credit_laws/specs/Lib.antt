-- Laws of the credit account.
pub mod AccountLaws
