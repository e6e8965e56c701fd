-- The two steps of writing a number: a last digit behind the rest.
use Rattle.std.specs.Prelude.{◌≡◌, refl, Bool, true, false, [], ◌∷◌, ◌++◌, ℕ, zero, suc, ◌+◌, ◌/◌, ◌%◌, ◌^◌, ◌≤◌, ◌<◌, ltb}
use Rattle.std.proofs.Common.{ap, ◌∙◌, zero-add, suc-add, pow-suc, arith, lt-ltb, le-ltb}
use Rattle.std.proofs.Math.Nat.{pow-le-pow_right}
use Rattle.lists.specs.Choose.{choose}
use Rattle.text_decimal.specs.NumberText.{digits, number_text}

-- ---- the digits of a number below 10 ^ k, of which there are at most k

pub tenth : (k n : ℕ) → n < 10 ^ suc k → n / 10 < 10 ^ k
tenth k n h = omega (arith, pow-suc 10 k)

-- room for more digits changes nothing
digits-enough : (k n : ℕ) → n < 10 ^ suc k → digits (suc k) n ≡ digits (suc (suc k)) n
unfolding digits choose
digits-enough zero n h = rw (lt-ltb n 10 h)
digits-enough (suc k) n h = go (ltb n 10) (digits-enough k (n / 10) (tenth (suc k) n h))
  where
    go : (b : Bool) → digits (suc k) (n / 10) ≡ digits (suc (suc k)) (n / 10)
        → choose b ((48 + n) ∷ []) (digits (suc k) (n / 10) ++ (48 + n % 10) ∷ []) ≡ choose b ((48 + n) ∷ []) (digits (suc (suc k)) (n / 10) ++ (48 + n % 10) ∷ [])
    go true e = refl
    go false e = ap (λ l. l ++ (48 + n % 10) ∷ []) e

pub digits_few : (j k n : ℕ) → n < 10 ^ suc k → digits (suc k) n ≡ digits (suc (j + k)) n
digits_few zero k n h = rw (zero-add k)
digits_few (suc j) k n h = rw (suc-add j k) (digits_few j k n h ∙ digits-enough (j + k) n (omega (arith, h, pow-le-pow_right {n = 10} (omega arith) {i = suc k} {j = suc (j + k)} (omega arith))))

-- the two steps of writing
pub number-one : (n : ℕ) → n < 10 → number_text n ≡ (48 + n) ∷ []
unfolding digits choose
number-one n h = rw (lt-ltb n 10 h)

pub number_more : (n : ℕ) → 10 ≤ n → n < 2 ^ 64 → number_text n ≡ number_text (n / 10) ++ (48 + n % 10) ∷ []
unfolding digits choose
number_more n l h =
    rw (le-ltb n 10 l) (ap (λ r. r ++ (48 + n % 10) ∷ []) (digits-enough 18 (n / 10) (omega arith)))
