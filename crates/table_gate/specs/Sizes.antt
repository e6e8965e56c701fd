-- What sizes tell, from the crate `table_gate_sizes`, for those who stand on the gate.
pub use Rattle.table_gate_sizes.specs.Sizes.{Sized, sizes_fit_lem, formed_sizes, width-most, room_most, part-within}
