-- Every call makes only the steps of the table (Steps.antt): proofs/Stepping.antt has one lemma a call, its tests in the definition's order.
use Rattle.std.specs.Prelude.{◌≡◌, ◌||◌, Result, Ok, Err}
use Rattle.std.proofs.Math.Bool.{true}
use Rattle.codes.specs.declared.Refusal.TheVariants as Refusal
use Rattle.sar_join.specs.declared.Joined.{Joined}
use Rattle.sar_join.specs.declared.Joined.TheVariants as Joined
use Rattle.channel.specs.declared.Answer.TheVariants.{Refused}
use Rattle.rules_steps.specs.Steps.{is_number}
use Rattle.codes.specs.declared.Refusal.{Refusal}

-- ---- a frame

-- the join step refuses by 9 or 19
abbrev pub Overruns : Result Joined Refusal → Type 0
Overruns (Err r) = (is_number 9 (Refused r) || is_number 19 (Refused r)) ≡ true
Overruns (Ok (Joined.Assembling a)) = Unit {0}
Overruns (Ok (Joined.Finished len)) = Unit {0}
Overruns (Ok Joined.Dropped) = Unit {0}
