pub mod Account
pub mod PolicyLaws
