-- The words of the laws of cutting (proofs/CutLaws.antt): the count of frames, and the cases of the plan. They rest on the definitions of Cutting.antt and on division.
use Rattle.std.specs.Prelude.{◌≡◌, ℕ, ◌+◌, ◌-◌, ◌*◌, ◌≤◌, ◌<◌}
use Rattle.codes.specs.Limits.{size_least}
use Rattle.codes.specs.declared.Refusal.TheVariants as Refusal
use Rattle.sar_cut.specs.Cutting.{frame_count, frames_length, longest_job}

-- enough to hold x, and one fewer is not: this is all that a caller knows of the count
pub record Holds (x m n : ℕ) : Type 0 where
  pub enough : x ≤ n * m
  pub needed : n * m < x + m

-- (n-1)·MPS < L+2 ≤ n·MPS, and n ≥ 1
pub record Counted (l mps n : ℕ) : Type 0 where
  pub some : 1 ≤ n
  pub enough : l + 2 ≤ n * mps
  pub needed : (n - 1) * mps < l + 2

-- whatever is planned passed every test
pub record Allowed (l mtu mps credits room n octets : ℕ) : Type 0 where
  pub fits : l ≤ mtu
  pub short : l ≤ longest_job
  pub wide : size_least ≤ mps
  pub paid : frame_count l mps ≤ credits
  pub holds : frames_length l mps ≤ room
  pub frames : n ≡ frame_count l mps
  pub long : octets ≡ frames_length l mps
