-- `run_queries::mtu_of` meets its contract: the answer of the query.
use mathlib.Core.Path.{ap, ◌∙◌}
use Prim.Native.Nat.{ℕ}
use Rattle.channel.specs.declared.Served.{Served}
use Rattle.definition.specs.Asking.{mtu}
use Rattle.definition.specs.Ending.{served_of}
use Rattle.run_queries.proofs.mtu_of.Goals as goal

pub returns : goal.returns
returns c = ap (λ (s : Served). s.answer) c.mtu-s.ensures ∙ ap (λ (k : ℕ). (served_of (mtu c.args.t k)).answer) c.slot_of.ensures
