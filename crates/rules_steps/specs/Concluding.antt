-- The laws of Consequences.antt: each is read off the rows of the table (Steps.antt), which every call keeps to (Stepping.antt).
use Rattle.channel.specs.declared.Answer.{Answer}
use Rattle.definition.specs.Calls.{Call}
use Rattle.rules_steps.specs.Steps.{Seen}
use Rattle.rules_steps.specs.Steps as Steps
use Rattle.rules_steps.specs.Consequences.{Credits, Budget}

pub record Stays (c : Call) (a : Answer) (x y : Seen) : Type 0 where
  pub credits : Credits c a x.credits y.credits
  pub budget : Budget c a x y
