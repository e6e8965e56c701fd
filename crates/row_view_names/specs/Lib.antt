-- What states and policies are called in a view.
pub mod Names
