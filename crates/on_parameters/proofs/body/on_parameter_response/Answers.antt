-- `on_parameters::on_parameter_response` meets its contract: code and definition go by the same cases of what was read.
use mathlib.Core.Path.{sym}
use Rattle.definition.specs.Mem.{sizes}
use Rattle.definition.proofs.Ending.{end-still}
use Rattle.definition.specs.Signals.{on_parameter_response}
use Rattle.on_parameters.proofs.body.on_parameter_response.Goals as goal

pub returns-in-None : goal.returns-in-None
unfolding sizes on_parameter_response
returns-in-None c t₀ room job = rw c.in-None.is (c.bad_body.ensures t₀ room job)

pub returns-in-Some : goal.returns-in-Some
unfolding sizes on_parameter_response
returns-in-Some c t₀ room job = rw (c.in-Some.is, c.done.ensures) (sym (end-still _ _ _ _ _ _ _))
