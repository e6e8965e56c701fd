-- `run_queries::blocked_sends_of` meets its contract: the answer of the query.
use mathlib.Core.Path.{ap, ◌∙◌}
use Prim.Native.Nat.{ℕ}
use Rattle.channel.specs.declared.Served.{Served}
use Rattle.definition.specs.Asking.{tally_blocked_sends}
use Rattle.definition.specs.Ending.{served_of}
use Rattle.run_queries.proofs.blocked_sends_of.Goals as goal

pub returns : goal.returns
returns c = ap (λ (s : Served). s.answer) c.tally_blocked_sends-s.ensures ∙ ap (λ (k : ℕ). (served_of (tally_blocked_sends c.args.t k)).answer) c.slot_of.ensures
