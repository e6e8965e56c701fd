-- A number of 64 bits in four of 16, the lowest first: there and back. Each law is arithmetic.
use Rattle.std.specs.Prelude.{◌≡◌, List, ◌++◌, ℕ, ◌+◌, ◌*◌, ◌/◌, ◌%◌, ◌<◌}
use Rattle.std.proofs.Common.{arith}
use Rattle.octets_numbers.specs.declared.Limbs.{Limbs}
use Rattle.octets_numbers.specs.Octets.{le16}

abbrev pub limb₀ : ℕ → ℕ
limb₀ n = n % 65536

abbrev pub limb₁ : ℕ → ℕ
limb₁ n = n / 65536 % 65536

abbrev pub limb₂ : ℕ → ℕ
limb₂ n = n / 65536 / 65536 % 65536

abbrev pub limb₃ : ℕ → ℕ
limb₃ n = n / 65536 / 65536 / 65536

abbrev pub limbs_of : ℕ → Limbs
limbs_of n = record { first = limb₀ n; second = limb₁ n; third = limb₂ n; fourth = limb₃ n }

-- the number that four of them make
abbrev pub of_limbs : (a b c d : ℕ) → ℕ
of_limbs a b c d = a + 65536 * (b + 65536 * (c + 65536 * d))

-- such a number as eight octets
abbrev pub le64 : ℕ → List ℕ
le64 n = le16 (limb₀ n) ++ (le16 (limb₁ n) ++ (le16 (limb₂ n) ++ le16 (limb₃ n)))

-- cut and put together again
pub limbs_back : (n : ℕ) → of_limbs (limb₀ n) (limb₁ n) (limb₂ n) (limb₃ n) ≡ n
limbs_back n = omega arith

-- put together and cut again
pub limb₀_back : (a b c d : ℕ) → a < 65536 → limb₀ (of_limbs a b c d) ≡ a
limb₀_back a b c d h = omega arith

pub limb₁_back : (a b c d : ℕ) → a < 65536 → b < 65536 → limb₁ (of_limbs a b c d) ≡ b
limb₁_back a b c d h g = omega arith

pub limb₂_back : (a b c d : ℕ) → a < 65536 → b < 65536 → c < 65536 → limb₂ (of_limbs a b c d) ≡ c
limb₂_back a b c d h g f = omega arith

pub limb₃_back : (a b c d : ℕ) → a < 65536 → b < 65536 → c < 65536 → limb₃ (of_limbs a b c d) ≡ d
limb₃_back a b c d h g f = omega arith
