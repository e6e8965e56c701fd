-- The rows of `U` and `t`.
pub mod PlayedQueries
