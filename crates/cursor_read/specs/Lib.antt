-- What a read cursor's calls give.
pub mod ReadCursor
