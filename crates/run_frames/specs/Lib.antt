-- Signals, frames and jobs, each call with its row.
pub mod PlayedFrames
