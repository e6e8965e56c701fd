-- What a frame makes of the slot that it comes to, and of that slot's part of the room (document 01, 'Cutting, joining, credits'): the definition's `admitted`
-- behind the test of its CID, of one slot. Admitted.antt has the law that it is that.
use Rattle.std.specs.Prelude.{false, not, List, [], ◌∷◌, ℕ, eqb, length, Result, Ok, Err}
use Rattle.octets.specs.Octets.{u16_at}
use Rattle.codes.specs.declared.Refusal.TheVariants.{NotFound, OutOfMemory, QueueFull}
use Rattle.credit.specs.Account.{received}
use Rattle.sar_join.specs.declared.Joined.{Joined}
use Rattle.sar_join.specs.declared.Joined.TheVariants as Joined
use Rattle.sar_join.specs.Joining.{idle, job_octets, join_step}
use Rattle.channel.specs.declared.Answer.TheVariants.{Done, Refused}
use Rattle.channel.specs.declared.ChannelState.TheVariants.{Disconnecting}
use Rattle.channel.specs.declared.Slot.{Slot}
use Rattle.definition.specs.Table.{when◌then◌else◌, is_connected, with_account, with_assembly, with_queue, count_received, count_blocked_receive, left}
use Rattle.definition.specs.Outcome.{unassembled}
use Rattle.definition.specs.Frames.{queued, join_moves}
use Rattle.slot_work.specs.Work.{Work, kept, becomes}
use Rattle.codes.specs.declared.Refusal.{Refusal}

-- What the join step decided, for a slot whose credit is used, with places of that size and so many job octets in the frame.
unfoldable pub joined_to : (place : ℕ) → Slot → (count : ℕ) → Result Joined Refusal → Work
joined_to place x count (Err r) = becomes (left (Disconnecting false) x) (unassembled place ∷ []) (Refused r)
joined_to place x count (Ok (Joined.Assembling a)) = becomes (with_assembly a x) (join_moves place x.assembly x.queue.count count (Ok (Joined.Assembling a))) Done
joined_to place x count (Ok (Joined.Finished len)) = becomes (with_queue (queued len x.queue) (with_assembly idle x)) (join_moves place x.assembly x.queue.count count (Ok (Joined.Finished len))) Done
joined_to place x count (Ok Joined.Dropped) = becomes (with_assembly idle x) (join_moves place x.assembly x.queue.count count (Ok Joined.Dropped)) (Refused QueueFull)

-- The payload joined.
abbrev pub join_of : (d place : ℕ) → Slot → (payload : List ℕ) → Work
join_of d place x payload =
    joined_to place x (length (job_octets x.assembly payload)) (join_step x.mtu x.mps d x.assembly x.queue.count (length payload) (u16_at payload 0))

-- "not Connected: dropped, answer 0; another link's slot 8; no credit 10; one credit used"; a frame without credit is counted, and so is one whose credit is used (document 02)
unfoldable pub frame_of : (d place : ℕ) → Slot → (link : ℕ) (payload : List ℕ) → Work
frame_of d place x link payload =
    when not (is_connected x.state) then kept x Done
    else when not (eqb x.link link) then kept x (Refused NotFound)
    else when eqb x.account.credits 0 then becomes (count_blocked_receive x) [] (Refused OutOfMemory)
    else join_of d place (count_received (with_account (received x.account 1) x)) payload
