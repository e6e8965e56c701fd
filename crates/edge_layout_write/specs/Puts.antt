-- Octets written into one row of the columns.
use Rattle.std.specs.Prelude.{List, [], ◌∷◌, ℕ, suc, ◌+◌, ◌*◌, ◌/◌, ◌%◌, set}
use Rattle.octets.specs.Octets.{le16}
use Rattle.octets.specs.Limbs.{limb₀, limb₁, limb₂, limb₃}
use Rattle.channel.specs.Limits.{slots_most}
use Rattle.channel.specs.declared.Slot.{Slot}
use Rattle.channel.specs.declared.Tally.{Tally}
use Rattle.definition.specs.Table.{when◌then◌else◌, is_connected}
use Rattle.edge_layout.specs.Layout.{head_octets, state_octets, account_octets, assembly_octets, queue_octets, job_octets, tally_octets, tallies_octets}

-- octets for row i, one to a column, from column c on
unfoldable pub puts : List ℕ → ℕ → ℕ → List ℕ → List ℕ
puts o i c [] = o
puts o i c (v ∷ vs) = puts (set o (i + (head_octets + slots_most * c)) v) i (suc c) vs

-- the same of a number, one of 64 bits and a direction's tallies, whose lowest octets are in that column: what the code writes
abbrev pub put_number : List ℕ → (i column v : ℕ) → List ℕ
put_number o i c v = set (set o (i + c) (v % 256)) (i + (c + slots_most)) (v / 256)

abbrev pub put_long : List ℕ → (i column v : ℕ) → List ℕ
put_long o i c v = put_number (put_number (put_number (put_number o i c (limb₀ v)) i (c + 2 * slots_most) (limb₁ v)) i (c + 4 * slots_most) (limb₂ v)) i (c + 6 * slots_most) (limb₃ v)

abbrev pub put_tally : List ℕ → (i column : ℕ) → Tally → List ℕ
put_tally o i c y = put_long (put_long o i c y.frames) i (c + 8 * slots_most) y.blocked

-- the columns of row i that a frame can change, but for what is counted and the open job, with those of slot x
abbrev pub joined_row : List ℕ → ℕ → Slot → List ℕ
joined_row o i x = puts (puts (puts (puts o i 0 (state_octets x.state)) i 10 (account_octets x.account)) i 26 (assembly_octets x.assembly)) i 30 (queue_octets x.queue)

-- those that it can change while the channel stays Connected: these, and what is counted of frames
abbrev pub kept_row : List ℕ → ℕ → Slot → List ℕ
kept_row o i x = puts (joined_row o i x) i 63 (tally_octets x.tallies.receives)

-- those that change where the channel is left: these, the open job's and all tallies
abbrev pub left_row : List ℕ → ℕ → Slot → List ℕ
left_row o i x = puts (puts (joined_row o i x) i 39 (job_octets x.job)) i 47 (tallies_octets x.tallies)

-- those that a frame can change
abbrev pub framed_row : List ℕ → ℕ → Slot → List ℕ
framed_row o i x = when is_connected x.state then kept_row o i x else left_row o i x

-- those that a send can change: the peer's credits, and what is counted of sends
abbrev pub sent_row : List ℕ → ℕ → Slot → List ℕ
sent_row o i x = puts (puts o i 24 (le16 x.peer.credits)) i 47 (tally_octets x.tallies.sends)

-- those that a start can change: these, and the open job's
abbrev pub job_row : List ℕ → ℕ → Slot → List ℕ
job_row o i x = puts (puts (puts o i 24 (le16 x.peer.credits)) i 39 (job_octets x.job)) i 47 (tally_octets x.tallies.sends)

-- those that a take can change
abbrev pub taken_row : List ℕ → ℕ → Slot → List ℕ
taken_row o i x = puts (puts o i 10 (account_octets x.account)) i 30 (queue_octets x.queue)
