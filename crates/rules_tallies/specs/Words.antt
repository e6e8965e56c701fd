-- The words of the laws that go by cases: the frames that an answer tells, and whether a request starts a job on a slot.
use Rattle.std.specs.Prelude.{Bool, false, ℕ, eqb}
use Rattle.channel.specs.declared.Answer.{Answer}
use Rattle.channel.specs.declared.Answer.TheVariants.{Done, Refused, At, Link, Opened, Due, Frames, Job, Attention, Number, Event, Portion}
use Rattle.definition.specs.Calls.{Request, register, signals, pends, rejects_all, accepts, rejects, drops, creates, opens, gives, holds, releases, leaves, leaves_cid, announces, takes, starts, cancels, attends, asks, sends_signal, writes}

-- n, where a send or a start answered 0 with n frames
abbrev pub frames_of : Answer → ℕ
frames_of Done = 0
frames_of (Refused r) = 0
frames_of (At slot) = 0
frames_of (Link link) = 0
frames_of Opened = 0
frames_of (Due link slot) = 0
frames_of (Frames link n) = n
frames_of (Job link len) = 0
frames_of (Attention set n lowest) = 0
frames_of (Number n) = 0
frames_of (Event min max latency timeout) = 0
frames_of (Portion link taken full) = 0

abbrev pub starts_on : (i : ℕ) → Request → Bool
starts_on i (register spsm) = false
starts_on i (signals link listening central pdu) = false
starts_on i (pends link up) = false
starts_on i (rejects_all link) = false
starts_on i (accepts s c) = false
starts_on i (rejects s result) = false
starts_on i (drops s) = false
starts_on i (creates link spsm c) = false
starts_on i (opens s link up) = false
starts_on i (gives s) = false
starts_on i (holds s) = false
starts_on i (releases s) = false
starts_on i (leaves s) = false
starts_on i (leaves_cid cid) = false
starts_on i announces = false
starts_on i (takes s) = false
starts_on i (starts s l) = eqb i s
starts_on i (cancels s) = false
starts_on i attends = false
starts_on i (asks of s) = false
starts_on i (sends_signal link s) = false
starts_on i (writes octets) = false
