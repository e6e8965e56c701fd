-- `call_send_parameters::send_conn_param_update_res` meets its contract: `send_signal` with this form.
use Rattle.call_send_parameters.proofs.send_conn_param_update_res.Goals as goal

pub returns : goal.returns
returns c = c.send_signal.ensures
