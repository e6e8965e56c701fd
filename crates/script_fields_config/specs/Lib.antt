-- What the words of a configuration say.
pub mod Configs
