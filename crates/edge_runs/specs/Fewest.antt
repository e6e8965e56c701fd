-- Fewest frames, at the octets: what an l2cap_send that returns 0 tells, in octets 8 and 9 of its answer, is the number of the frames that it wrote, and the least (rules_fewest, Statement.antt).
-- Rests on what is told of an outcome (Lift.antt, `answer-is`) and on what such a send writes (Rules.antt, `send-writes`).
use Rattle.std.specs.Prelude.{◌≡◌, List, ℕ, length}
use Rattle.std.proofs.lemmas.List.Edits.{sets}
use Rattle.octets.specs.Octets.{u16_at}
use Rattle.sar_cut.specs.Cutting.{joined}
use Rattle.definition.specs.Calls.{Window}
use Rattle.definition.specs.Run.{lent}
use Rattle.rules_fewest.specs.Statement.{our_frames, Least}
use Rattle.edge_runs.specs.Run.{EdgeState, state_of, edge_of}
use Rattle.edge_runs.specs.Rules.{sending}

-- the number of frames that an answer tells
abbrev pub frames_told : List ℕ → ℕ
frames_told answer = u16_at answer 8

-- Such a send: what it leaves in its output, from the start on; and the number that it tells, in an answer of 16 octets.
pub record SentFewestAt (s : EdgeState) (w : Window) (slot : ℕ) (sdu answer : List ℕ) : Type 0 where
  pub octets : (edge_of s (sending w slot sdu answer)).out ≡ sets (lent w s.memory) 0 (joined (our_frames (state_of s) slot sdu))
  pub count : length (our_frames (state_of s) slot sdu) ≡ frames_told (edge_of s (sending w slot sdu answer)).answer
  pub fewest : Least (state_of s) slot sdu (frames_told (edge_of s (sending w slot sdu answer)).answer)
