-- `on_parameters::body::on_parameters` meets its contract: code and definition go by the same cases of what was read.
use mathlib.Core.Path.{sym}
use Rattle.lists.specs.Choose.{choose}
use Rattle.definition.specs.Mem.{sizes}
use Rattle.definition.proofs.Ending.{end-still}
use Rattle.definition.specs.Signals.{on_parameters}
use Rattle.on_parameters.proofs.body.on_parameters.Goals as goal

pub returns-then-parameters_valid : goal.returns-then-parameters_valid
unfolding choose sizes on_parameters
returns-then-parameters_valid c t₀ room job = rw (c.in-Some.is, ← c.parameters_valid.ensures, c.if-parameters_valid.true, c.still.ensures) (sym (end-still _ _ _ _ _ _ _))

pub returns-in-None : goal.returns-in-None
unfolding choose sizes on_parameters
returns-in-None c t₀ room job = rw c.in-None.is (c.bad_body.ensures t₀ room job)

pub returns-else-parameters_valid : goal.returns-else-parameters_valid
unfolding choose sizes on_parameters
returns-else-parameters_valid c t₀ room job = rw (c.in-Some.is, ← c.parameters_valid.ensures, c.if-parameters_valid.false) (c.tell.ensures t₀ room job)
