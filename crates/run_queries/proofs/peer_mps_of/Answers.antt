-- `run_queries::peer_mps_of` meets its contract: the answer of the query.
use mathlib.Core.Path.{ap, ◌∙◌}
use Prim.Native.Nat.{ℕ}
use Rattle.channel.specs.declared.Served.{Served}
use Rattle.definition.specs.Asking.{peer_mps}
use Rattle.definition.specs.Ending.{served_of}
use Rattle.run_queries.proofs.peer_mps_of.Goals as goal

pub returns : goal.returns
returns c = ap (λ (s : Served). s.answer) c.peer_mps-s.ensures ∙ ap (λ (k : ℕ). (served_of (peer_mps c.args.t k)).answer) c.slot_of.ensures
