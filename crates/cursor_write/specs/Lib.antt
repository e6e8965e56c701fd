-- What a write cursor's calls give.
pub mod WriteCursor
