-- An identifier is used up exactly where the table of Told.antt says so. Carried by that table (Telling.antt) and by no row being in both of its parts.
use Rattle.std.specs.Prelude.{ℕ}
use Rattle.channel.specs.declared.Answer.{Answer}
use Rattle.channel.specs.declared.Answer.TheVariants.{Done, Refused, At, Link, Opened, Due, Frames, Job, Attention, Number, Event, Portion}

-- the slot whose disconnect is due
abbrev pub due_at : Answer → ℕ
due_at Done = 0
due_at (Refused r) = 0
due_at (At slot) = 0
due_at (Link link) = 0
due_at Opened = 0
due_at (Due link slot) = slot.0
due_at (Frames link n) = 0
due_at (Job link len) = 0
due_at (Attention set n lowest) = 0
due_at (Number n) = 0
due_at (Event min max latency timeout) = 0
due_at (Portion link taken full) = 0
