-- `sar_speed::speed_send` meets its contract: what `sar_cut::send_job` ensures, with the plan's octets as a number.
use mathlib.Core.Path.{ap, ◌∙◌}
use Rattle.sar_speed.specs.Octets.{octets_of}
use Rattle.sar_speed.proofs.speed_send.Goals as goal

pub returns : goal.returns
returns c =
    let sent = c.send_job.ensures in
    record { value = c.octets_of.ensures ∙ ap octets_of sent.0; out_after = rw sent.0 at sent.1 }
