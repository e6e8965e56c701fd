-- `script_fields::behind_first` meets its contract: the part from 1 on, and a word of no characters, are what `drop 1` leaves.
use mathlib.Core.Path.{sym, ◌∙◌}
use lib.ListN.{drop_of_length-le}
use Rattle.octets.specs.Sets.{tail-part}
use native.Mathlib.Omega.{arith}
use Rattle.script_fields.proofs.behind_first.Goals as goal

pub returns-then-word-gt0 : goal.returns-then-word-gt0
returns-then-word-gt0 c = tail-part 1 c.args.word.now

pub returns-else-word-gt0 : goal.returns-else-word-gt0
returns-else-word-gt0 c =
    let w = c.args.word.now in
    drop_of_length-le w {i = 0} (omega arith) ∙ sym (drop_of_length-le w {i = 1} (omega arith))
