-- What it is to write octets into a run of octets and to read a part or a number of it, with the laws, each stated once.
pub mod Octets
pub mod Sets
pub mod Numbers
pub mod Limbs
