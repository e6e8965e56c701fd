-- A slot with one thing changed, and all else as it was. (antt has no update of a record: each names every field.)
use Rattle.std.specs.Prelude.{Bool, ℕ, ◌+◌, ◌%◌, ◌^◌, eqb}
use Rattle.lists.specs.Choose.{choose}
use Rattle.codes.specs.Codes.{refusal_number}
use Rattle.codes.specs.declared.Refusal.{Refusal}
use Rattle.credit.specs.declared.CreditFlowControl.{CreditFlowControl}
use Rattle.sar_join.specs.declared.Assembly.{Assembly}
use Rattle.sar_join.specs.Joining.{idle}
use Rattle.channel.specs.declared.ChannelState.{ChannelState}
use Rattle.channel.specs.declared.OpenJob.{OpenJob}
use Rattle.channel.specs.declared.Peer.{Peer}
use Rattle.channel.specs.declared.Queue.{Queue}
use Rattle.channel.specs.declared.Slot.{Slot}
use Rattle.channel.specs.declared.Tallies.{Tallies}
use Rattle.channel.specs.declared.Tally.{Tally}
use Rattle.definition.specs.States.{is_disconnecting}

abbrev pub in_state : ChannelState → Slot → Slot
in_state k x = record { state = k; link = x.link; spsm = x.spsm; mps = x.mps; mtu = x.mtu; account = x.account; hold = x.hold; peer = x.peer; assembly = x.assembly; queue = x.queue; job = x.job; tallies = x.tallies }

abbrev pub with_hold : ℕ → Slot → Slot
with_hold h x = record { state = x.state; link = x.link; spsm = x.spsm; mps = x.mps; mtu = x.mtu; account = x.account; hold = h; peer = x.peer; assembly = x.assembly; queue = x.queue; job = x.job; tallies = x.tallies }

abbrev pub with_account : CreditFlowControl → Slot → Slot
with_account a x = record { state = x.state; link = x.link; spsm = x.spsm; mps = x.mps; mtu = x.mtu; account = a; hold = x.hold; peer = x.peer; assembly = x.assembly; queue = x.queue; job = x.job; tallies = x.tallies }

abbrev pub with_peer : Peer → Slot → Slot
with_peer p x = record { state = x.state; link = x.link; spsm = x.spsm; mps = x.mps; mtu = x.mtu; account = x.account; hold = x.hold; peer = p; assembly = x.assembly; queue = x.queue; job = x.job; tallies = x.tallies }

abbrev pub with_peer_credits : ℕ → Slot → Slot
with_peer_credits n x = with_peer (record { cid = x.peer.cid; mps = x.peer.mps; mtu = x.peer.mtu; credits = n }) x

abbrev pub with_assembly : Assembly → Slot → Slot
with_assembly a x = record { state = x.state; link = x.link; spsm = x.spsm; mps = x.mps; mtu = x.mtu; account = x.account; hold = x.hold; peer = x.peer; assembly = a; queue = x.queue; job = x.job; tallies = x.tallies }

abbrev pub with_queue : Queue → Slot → Slot
with_queue q x = record { state = x.state; link = x.link; spsm = x.spsm; mps = x.mps; mtu = x.mtu; account = x.account; hold = x.hold; peer = x.peer; assembly = x.assembly; queue = q; job = x.job; tallies = x.tallies }

abbrev pub with_job : OpenJob → Slot → Slot
with_job j x = record { state = x.state; link = x.link; spsm = x.spsm; mps = x.mps; mtu = x.mtu; account = x.account; hold = x.hold; peer = x.peer; assembly = x.assembly; queue = x.queue; job = j; tallies = x.tallies }

abbrev pub with_tallies : Tallies → Slot → Slot
with_tallies y x = record { state = x.state; link = x.link; spsm = x.spsm; mps = x.mps; mtu = x.mtu; account = x.account; hold = x.hold; peer = x.peer; assembly = x.assembly; queue = x.queue; job = x.job; tallies = y }

-- No job is open: nothing stated, nothing taken, nothing set aside.
abbrev pub no_job : OpenJob
no_job = record { length = 0; taken = 0; filled = 0; aside = 0 }

-- ---- "four counters per channel .. at 64 bits, wrapping" (document 02)

-- Nothing is counted yet.
abbrev pub no_tally : Tally
no_tally = record { frames = 0; blocked = 0 }

abbrev pub no_tallies : Tallies
no_tallies = record { sends = no_tally; receives = no_tally }

-- n more
abbrev pub counted : (tally n : ℕ) → ℕ
counted tally n = (tally + n) % 2 ^ 64

abbrev pub more : ℕ → Tally → Tally
more n y = record { frames = counted y.frames n; blocked = y.blocked }

-- "A refusal by 14 or 10 counts as blocked": 1, however many frames were to go out.
abbrev pub blocked_more : Tally → Tally
blocked_more y = record { frames = y.frames; blocked = counted y.blocked 1 }

abbrev pub with_sends : Tally → Slot → Slot
with_sends y x = with_tallies (record { sends = y; receives = x.tallies.receives }) x

abbrev pub with_receives : Tally → Slot → Slot
with_receives y x = with_tallies (record { sends = x.tallies.sends; receives = y }) x

-- sent: "A send adds n when its credits are taken or set aside."
abbrev pub count_sent : ℕ → Slot → Slot
count_sent n x = with_sends (more n x.tallies.sends) x

-- received: a frame whose credit is used
abbrev pub count_received : Slot → Slot
count_received x = with_receives (more 1 x.tallies.receives) x

-- blocked sends: of what refuses a send or a start, 14
abbrev pub count_blocked_send : Slot → Slot
count_blocked_send x = with_sends (blocked_more x.tallies.sends) x

abbrev pub blocks : Refusal → Bool
blocks r = eqb (refusal_number r) 14

abbrev pub blocked_by : Refusal → Slot → Slot
blocked_by r x = choose (blocks r) (count_blocked_send x) x

-- blocked receives: 10
abbrev pub count_blocked_receive : Slot → Slot
count_blocked_receive x = with_receives (blocked_more x.tallies.receives) x

-- ---- a channel that is left

-- "Reset them when our side turns Connected into Disconnecting": the peer's disconnect alone does not.
abbrev pub tallies_left : ChannelState → Tallies → Tallies
tallies_left k y = choose (is_disconnecting k) no_tallies y

-- "leaving Connected [zeroes] the assembly place": no assembly is open any more. "The last frame closes the job; so does leaving Connected, which
-- returns none" of the credits set aside (document 02).
abbrev pub left : ChannelState → Slot → Slot
left k x = with_tallies (tallies_left k x.tallies) (with_job no_job (with_assembly idle (in_state k x)))
