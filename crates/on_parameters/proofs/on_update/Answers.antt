-- `on_parameters::on_update` meets its contract: code and definition ask the same of the side.
use Rattle.lists.specs.Choose.{choose}
use Rattle.on_parameters.proofs.on_update.Goals as goal

pub returns-then-central : goal.returns-then-central
unfolding choose
returns-then-central c t₀ room job =
    rw (c.if-central.true, ← c.read_conn_param_update_req.ensures) (c.on_parameters.ensures t₀ room job)

pub returns : goal.returns
unfolding choose
returns c t₀ room job =
    rw c.if-central.false (c.reject.ensures t₀ room job)
