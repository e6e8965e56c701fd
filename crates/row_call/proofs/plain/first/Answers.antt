-- `row_call::first` meets its contract: it cuts within the slice (take_least).
use mathlib.Core.Path.{ap, ◌∙◌}
use native.Mathlib.Omega.{arith}
use lib.ListN.{take, length-take}
use Rattle.octets.specs.Sets.{take_least}
use Rattle.row_call.proofs.plain.first.Goals as goal

pub slice_bounds-result-end : goal.slice_bounds-result-end
slice_bounds-result-end c = rw length-take (omega arith)

pub returns : goal.returns
returns c = ap (λ n. take n c.args.s.now) c.least-k.ensures ∙ take_least c.args.n c.args.s.now
