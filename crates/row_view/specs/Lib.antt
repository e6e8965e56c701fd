-- What the view of a table shows.
pub mod View
pub mod ViewLaws
