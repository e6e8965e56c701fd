-- `run_queries::sent_of` meets its contract: the answer of the query.
use mathlib.Core.Path.{ap, ◌∙◌}
use Prim.Native.Nat.{ℕ}
use Rattle.channel.specs.declared.Served.{Served}
use Rattle.definition.specs.Asking.{tally_sent}
use Rattle.definition.specs.Ending.{served_of}
use Rattle.run_queries.proofs.sent_of.Goals as goal

pub returns : goal.returns
returns c = ap (λ (s : Served). s.answer) c.tally_sent-s.ensures ∙ ap (λ (k : ℕ). (served_of (tally_sent c.args.t k)).answer) c.slot_of.ensures
