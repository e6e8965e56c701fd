-- A number of 64 bits in four of 16, passed on.
pub use Rattle.octets_numbers.specs.Limbs.{limb₀, limb₁, limb₂, limb₃, limbs_of, of_limbs, le64, limbs_back, limb₀_back, limb₁_back, limb₂_back, limb₃_back}
