-- Jobs handed over in portions, each call with its row.
pub mod PlayedPortions
pub mod PlayedPortionsLaws
