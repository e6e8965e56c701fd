-- A number as two octets, there and back. Each law is arithmetic.
use Rattle.std.specs.Prelude.{◌≡◌, ℕ, ◌+◌, ◌*◌, ◌/◌, ◌%◌, ◌<◌}
use Rattle.std.proofs.Common.{arith}

-- two octets, written and read again
pub le16_back : (n : ℕ) → n % 256 + 256 * (n / 256) ≡ n
le16_back n = omega arith

-- of two octets, read and written again
pub lo_back : (a b : ℕ) → a < 256 → (a + 256 * b) % 256 ≡ a
lo_back a b h = omega arith

pub hi_back : (a b : ℕ) → a < 256 → (a + 256 * b) / 256 ≡ b
hi_back a b h = omega arith

-- both octets of a 16-bit number are octets
pub lo_octet : (n : ℕ) → n % 256 < 256
lo_octet n = omega arith

pub hi_octet : (n : ℕ) → n < 65536 → n / 256 < 256
hi_octet n h = omega arith
