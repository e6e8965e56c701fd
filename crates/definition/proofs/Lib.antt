pub mod Ending
pub mod Numbers
pub mod Public
-- moves keep the length of what they change
pub mod Lengths
pub mod Tells
pub mod Forms
pub mod Safe
pub mod Apart
pub mod Handed
pub mod Roomless
-- from a call's contract to the run that it stands in
pub mod Lift
pub mod Example
pub mod Worked
pub mod PortionLines
pub mod TallyLines
