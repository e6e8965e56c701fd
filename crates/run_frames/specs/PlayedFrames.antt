-- Signals, frames and jobs, each call with the row that it prints (docs/CHANRUN.md).
use Rattle.std.specs.Prelude.{Bool, List, [], ℕ, length}
use Rattle.channel.specs.declared.Table.{Table}
use Rattle.definition.specs.Calls.{frame, jobs, frame_in}
use Rattle.definition.specs.Ending.{end_of}
use Rattle.definition.specs.Frames.{send, receive}
use Rattle.definition.specs.Signals.{signalled}
use Rattle.script_commands.specs.Commands.{slot_number}
use Rattle.run_play.specs.Plays.{Play, lent_signal, with_octets, with_none, with_frames, with_job}

-- `S`, one signal of the PDU
abbrev pub signal_of : Table → (room : List ℕ) (link : ℕ) (listening central : Bool) (pdu : List ℕ) → Play
signal_of t room link listening central pdu =
    with_octets (end_of t [] room lent_signal [] (signalled t (length room) (length lent_signal) link listening central pdu))

-- `F`
abbrev pub frame_of : Table → (room : List ℕ) (link cid : ℕ) (payload : List ℕ) → Play
frame_of t room link cid payload =
    with_none (end_of t (jobs t (frame link cid payload)) room [] [] (frame_in t (length room) link cid payload))

-- `K`
abbrev pub send_of : Table → (room frames : List ℕ) (slot : ℕ) (job : List ℕ) → Play
send_of t room frames slot job =
    with_frames room (end_of t job [] frames [] (send t (slot_number slot) (length job) (length frames)))

-- `B`
abbrev pub take_of : Table → (room job : List ℕ) (slot : ℕ) → Play
take_of t room job slot =
    with_job (end_of t [] room lent_signal job (receive t (length room) (length lent_signal) (slot_number slot) (length job)))
