-- "each open job has a buffer of its own" (document 02 (i)), in demand 3: a buffer that link k's own sends, portions and takes were lent no octet of
-- is equal in the two runs, octet by octet; so is every frame that another link's job gave out in it. From the demand and from how far its exception
-- goes (Excepted.antt). A buffer that passes from one job to another is not the matter here: what a frame given out there has is a theorem of crate
-- rules_portions.
use Rattle.std.specs.Prelude.{List, ℕ}
use Rattle.definition.specs.Calls.{Window, Call}
use Rattle.definition.specs.Run.{State}
use Rattle.isolation.specs.Excepted.{Within, HandedOut}

-- No octet of buffer w was lent to a send on, a portion on, or a take from, link k's own slot. s is the state in which the calls start.
abbrev pub NeverLent : (k : ℕ) → State → List Call → Window → Type 0
NeverLent k s cs w = (p : ℕ) → Within w p → ¬ HandedOut k p s cs
