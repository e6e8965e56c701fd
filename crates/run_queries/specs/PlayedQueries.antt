-- The rows of `U` and `t` of docs/CHANRUN.md: "spsm, mtu, mps, peer mtu, peer mps"; "sent, received, blocked sends, blocked receives".
use Rattle.std.specs.Prelude.{List, ℕ}
use Rattle.channel.specs.declared.Answer.{Answer}
use Rattle.channel.specs.declared.Table.{Table}
use Rattle.definition.specs.Outcome.{Outcome}
use Rattle.definition.specs.Asking.{spsm, mtu, mps, peer_mtu, peer_mps, tally_sent, tally_received, tally_blocked_sends, tally_blocked_receives}
use Rattle.definition.specs.Ending.{served_of}
use Rattle.script_commands.specs.Commands.{slot_number}
use Rattle.row_call.specs.Printed.{queries_text, tallies_text}

abbrev pub told_of : (ℕ → Outcome) → (slot : ℕ) → Answer
told_of query slot = (served_of (query (slot_number slot))).answer

abbrev pub queries_of : Table → (slot : ℕ) → List ℕ
queries_of t slot = queries_text (told_of (spsm t) slot) (told_of (mtu t) slot) (told_of (mps t) slot) (told_of (peer_mtu t) slot) (told_of (peer_mps t) slot)

abbrev pub tallies_of : Table → (slot : ℕ) → List ℕ
tallies_of t slot = tallies_text (told_of (tally_sent t) slot) (told_of (tally_received t) slot) (told_of (tally_blocked_sends t) slot) (told_of (tally_blocked_receives t) slot)
