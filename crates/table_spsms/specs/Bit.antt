-- A bit of an octet: 1 shifted to its place is its value; one that is not set can be added, and the sum is an octet still (eight cases, each arithmetic).
use Rattle.std.specs.Prelude.{◌≡◌, ℕ, zero, suc, ◌+◌, ◌*◌, ◌/◌, ◌%◌, ◌^◌, ◌<◌}
use Rattle.std.proofs.Common.{one-mul, mod-eq_of_lt, arith}
use Rattle.std.proofs.Math.Nat.{pow-le-pow_right}

pub bit_shifted : (k : ℕ) → k < 8 → 1 * 2 ^ k % 256 ≡ 2 ^ k
bit_shifted k h = rw one-mul (mod-eq_of_lt (omega (arith, pow-le-pow_right {n = 2} (omega arith) {i = k} {j = 7} (omega arith))))

pub bit-fits : (k octet : ℕ) → k < 8 → octet < 256 → (octet / 2 ^ k % 2 ≡ 1 → ⊥) → octet + 2 ^ k < 256
bit-fits zero o h l f = omega arith
bit-fits (suc zero) o h l f = omega arith
bit-fits (suc (suc zero)) o h l f = omega arith
bit-fits (suc (suc (suc zero))) o h l f = omega arith
bit-fits (suc (suc (suc (suc zero)))) o h l f = omega arith
bit-fits (suc (suc (suc (suc (suc zero))))) o h l f = omega arith
bit-fits (suc (suc (suc (suc (suc (suc zero)))))) o h l f = omega arith
bit-fits (suc (suc (suc (suc (suc (suc (suc zero))))))) o h l f = omega arith
bit-fits (suc (suc (suc (suc (suc (suc (suc (suc k)))))))) o h l f = absurd (omega arith)
