-- Long division by halved steps: what stands before each turn, what a turn makes of it, and that it ends in the quotient. All of it is arithmetic.
use Rattle.std.specs.Prelude.{◌≡◌}
use Prim.Native.Nat.{ℕ, zero, suc, ◌+◌, ◌*◌, ◌/◌, ◌<◌}

-- m, doubled so often
unfoldable pub doubled : ℕ → ℕ → ℕ
doubled m zero = m
doubled m (suc t) = 2 * doubled m t

-- So many turns are left. Of x, q stretches are counted, each m doubled once for every such turn, and `rest` is less than one more. A turn's step is half a stretch.
pub record Dividing (x m q rest step : ℕ) : Type 0 where
  pub turns : ℕ
  pub halved : step ≡ doubled m turns / 2
  pub whole : x ≡ q * doubled m turns + rest
  pub less : rest < doubled m turns
