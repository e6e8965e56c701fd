-- `run_queries::spsm_of` meets its contract: the answer of the query.
use mathlib.Core.Path.{ap, ◌∙◌}
use Prim.Native.Nat.{ℕ}
use Rattle.channel.specs.declared.Served.{Served}
use Rattle.definition.specs.Asking.{spsm}
use Rattle.definition.specs.Ending.{served_of}
use Rattle.run_queries.proofs.spsm_of.Goals as goal

pub returns : goal.returns
returns c = ap (λ (s : Served). s.answer) c.spsm-s.ensures ∙ ap (λ (k : ℕ). (served_of (spsm c.args.t k)).answer) c.slot_of.ensures
