-- `run_portions::clear` meets its contract: so many zeros are all that stands there (sets-whole).
use mathlib.Core.Path.{sym, ◌∙◌}
use lib.ListN.{length, replicate, length-replicate}
use Rattle.octets.specs.Sets.{sets-whole}
use Rattle.run_portions.proofs.clear.Goals as goal

pub returns : goal.returns
returns c =
    let before = c.args.buffers.now in
    c.zero.ensures ∙ sets-whole before (replicate (length before) 0) (sym (length-replicate (length before) 0))
