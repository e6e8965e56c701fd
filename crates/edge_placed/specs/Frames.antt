-- What the calls on frames and jobs leave on octets. Each is the call's own end (Ending.antt of `definition`), lifted through the two layouts.
use Rattle.std.specs.Prelude.{List, [], ℕ, length}
use Rattle.definition.specs.Calls.{frame, jobs, frame_in}
use Rattle.definition.specs.Ending.{end_of}
use Rattle.definition.specs.Frames.{send, receive}
use Rattle.definition.specs.Portions.{start_job, give_portion, cancel_job}
use Rattle.edge_layout.specs.Layout.{read}
use Rattle.edge.specs.Edge.{Edge, on_table}

-- A frame that came in.
abbrev pub dispatch_edge : (table answer room : List ℕ) (link cid : ℕ) (payload : List ℕ) → Edge
dispatch_edge table answer room link cid payload = on_table table answer (λ t. end_of t (jobs t (frame link cid payload)) room [] [] (frame_in t (length room) link cid payload))

-- Cuts a job into frames.
abbrev pub send_edge : (table answer out : List ℕ) (slot : ℕ) (sdu : List ℕ) → Edge
send_edge table answer out slot sdu = on_table table answer (λ t. end_of t sdu [] out [] (send t slot (length sdu) (length out)))

-- how many octets of frames that writes
abbrev pub sent_octets : (table out : List ℕ) (slot : ℕ) (sdu : List ℕ) → ℕ
sent_octets table out slot sdu = let t = (read table).table in (end_of t sdu [] out [] (send t slot (length sdu) (length out))).served.octets

-- Takes the oldest job that waits in a slot.
abbrev pub receive_edge : (table answer room signal job : List ℕ) (slot : ℕ) → Edge
receive_edge table answer room signal job slot = on_table table answer (λ t. end_of t [] room signal job (receive t (length room) (length signal) slot (length job)))

-- Begins a job of so many octets, to be handed over in portions; its first frame is begun in the lent buffer.
abbrev pub start_edge : (table answer buffer : List ℕ) (slot l : ℕ) → Edge
start_edge table answer buffer slot l = on_table table answer (λ t. end_of t [] [] buffer [] (start_job t slot l (length buffer)))

-- Hands over a portion of it.
abbrev pub portion_edge : (table answer buffer : List ℕ) (slot : ℕ) (octets : List ℕ) → Edge
portion_edge table answer buffer slot octets = on_table table answer (λ t. end_of t octets [] buffer [] (give_portion t slot (length octets) (length buffer)))

-- Gives it up.
abbrev pub cancel_edge : (table answer room : List ℕ) (slot : ℕ) → Edge
cancel_edge table answer room slot = on_table table answer (λ t. end_of t [] room [] [] (cancel_job t (length room) slot))
