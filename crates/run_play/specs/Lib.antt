-- A played call, and how it is read off the call's end.
pub mod Plays
pub mod PlaysLaws
