-- `run_portions::of_slot` meets its contract: what the four lesser numbers say.
use mathlib.Core.Path.{ap, ◌∙◌}
use Prim.Native.Nat.{ℕ, ◌*◌, min}
use Rattle.script_commands.specs.Commands.{buffer_most}
use Rattle.run_portions.proofs.of_slot.Goals as goal

pub returns : goal.returns
returns c =
    let all = c.args.all in
    let from = c.least-at.ensures ∙ ap (λ (k : ℕ). min (k * buffer_most) all) c.least.ensures in
    (from, rw (c.least-3.ensures, c.least-2.ensures, c.left.ensures, from))
