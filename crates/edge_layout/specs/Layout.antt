-- The table as octets, for whoever keeps it outside: 1,312 of them, best seen in lines of 16.
--   line 0        this layout's number, N, D, M (the lower octet first), the next identifier, ten zeros
--   lines 1, 2    a bit for each registered SPSM: SPSM s is bit s % 8 of octet s / 8
--   lines 3..81   a column each: one octet of every slot's row, slot 0 first
-- A number of 16 bits takes two columns, one of 64 bits eight, the lower octets first. A table has ONE spelling; other octets are refusal 1.
use Rattle.std.specs.Prelude.{Bool, true, false, ◌&&◌, List, [], ◌∷◌, ◌++◌, map, ℕ, zero, suc, ◌+◌, ◌*◌, ◌/◌, ◌%◌, eqb, ltb, length, get_or, replicate, None, Option, Some}
use Rattle.std.proofs.lemmas.List.Edits.{sets}
use Rattle.lists.specs.Bits.{bit}
use Rattle.octets.specs.Octets.{part, u16_at, le16}
use Rattle.octets.specs.Limbs.{of_limbs, le64}
use Rattle.codes.specs.Codes.{result_number, result_of}
use Rattle.credit.specs.declared.CreditFlowControl.{CreditFlowControl}
use Rattle.credit.specs.declared.CreditFlowPolicy.{CreditFlowPolicy}
use Rattle.credit.specs.declared.CreditFlowPolicy.TheVariants.{Every, MinThreshold}
use Rattle.sar_join.specs.declared.Assembly.{Assembly}
use Rattle.channel.specs.Limits.{slots_most}
use Rattle.channel.specs.declared.ChannelState.{ChannelState}
use Rattle.channel.specs.declared.ChannelState.TheVariants.{Disconnected, Connecting, PeerConnecting, Connected, ConnectFailed, PeerDisconnecting, Disconnecting}
use Rattle.channel.specs.declared.OpenJob.{OpenJob}
use Rattle.channel.specs.declared.Peer.{Peer}
use Rattle.channel.specs.declared.Queue.{Queue}
use Rattle.channel.specs.declared.Slot.{Slot}
use Rattle.channel.specs.declared.Table.{Table}
use Rattle.channel.specs.declared.Tallies.{Tallies}
use Rattle.channel.specs.declared.Tally.{Tally}
use Rattle.definition.specs.Table.{when◌then◌else◌}
use Rattle.definition.specs.Asking.{no_slots}
use Rattle.edge_layout.specs.declared.Decoded.{Decoded}
use Rattle.codes.specs.declared.LeCreditConnResultCode.{LeCreditConnResultCode}

-- ---- sizes

abbrev pub layout_number : ℕ
layout_number = 3

abbrev pub spsm_octets : ℕ
spsm_octets = 32

abbrev pub head_octets : ℕ
head_octets = 16 + spsm_octets

-- the octets of one slot
abbrev pub column_count : ℕ
column_count = 79

abbrev pub table_octets : ℕ
table_octets = head_octets + slots_most * column_count

-- ---- how a slot is spelled

-- a state is two octets: its kind, and what it carries (an identifier, a result code's number, 1 once announced) or 0
abbrev pub state_kind : ChannelState → ℕ
state_kind Disconnected = 0
state_kind (Connecting identifier) = 1
state_kind (PeerConnecting identifier) = 2
state_kind Connected = 3
state_kind (ConnectFailed result) = 4
state_kind (PeerDisconnecting identifier) = 5
state_kind (Disconnecting announced) = 6

abbrev pub state_value : ChannelState → ℕ
state_value Disconnected = 0
state_value (Connecting identifier) = identifier
state_value (PeerConnecting identifier) = identifier
state_value Connected = 0
state_value (ConnectFailed result) = result_number result
state_value (PeerDisconnecting identifier) = identifier
state_value (Disconnecting announced) = bit announced

-- a policy is its kind and its number
abbrev pub policy_kind : CreditFlowPolicy → ℕ
policy_kind (Every k) = 0
policy_kind (MinThreshold t) = 1

abbrev pub policy_value : CreditFlowPolicy → ℕ
policy_value (Every k) = k
policy_value (MinThreshold t) = t

abbrev pub state_octets : ChannelState → List ℕ
state_octets k = state_kind k ∷ state_value k ∷ []

abbrev pub local_octets : (link spsm mps mtu : ℕ) → List ℕ
local_octets link spsm mps mtu = le16 link ++ (le16 spsm ++ (le16 mps ++ le16 mtu))

abbrev pub account_octets : CreditFlowControl → List ℕ
account_octets a = policy_kind a.policy ∷ le16 (policy_value a.policy) ++ (le16 a.credits ++ le16 a.received)

abbrev pub peer_octets : Peer → List ℕ
peer_octets p = le16 p.cid ++ (le16 p.mps ++ (le16 p.mtu ++ le16 p.credits))

abbrev pub assembly_octets : Assembly → List ℕ
assembly_octets a = le16 a.have ++ le16 a.want

abbrev pub queue_octets : Queue → List ℕ
queue_octets q = q.count ∷ le16 (get_or q.lens 0 0) ++ (le16 (get_or q.lens 1 0) ++ (le16 (get_or q.lens 2 0) ++ le16 (get_or q.lens 3 0)))

abbrev pub job_octets : OpenJob → List ℕ
job_octets j = le16 j.length ++ (le16 j.taken ++ (le16 j.filled ++ le16 j.aside))

-- what is counted of sends, then of frames: 64 bits each
abbrev pub tally_octets : Tally → List ℕ
tally_octets y = le64 y.frames ++ le64 y.blocked

abbrev pub tallies_octets : Tallies → List ℕ
tallies_octets y = tally_octets y.sends ++ tally_octets y.receives

-- a slot's row, column by column
unfoldable pub row : Slot → List ℕ
row x =
    state_octets x.state
    ++ (local_octets x.link x.spsm x.mps x.mtu
    ++ (account_octets x.account
    ++ (x.hold ∷ peer_octets x.peer
    ++ (assembly_octets x.assembly
    ++ (queue_octets x.queue
    ++ (job_octets x.job
    ++ tallies_octets x.tallies))))))

-- ---- how a table is spelled

-- f 0, f 1, .. of n numbers
unfoldable pub tabulate : {A : Type 0} → (ℕ → A) → ℕ → List A
tabulate f zero = []
tabulate f (suc n) = f 0 ∷ tabulate (λ k. f (suc k)) n

unfoldable pub head : Table → List ℕ
head t = layout_number ∷ t.n % 256 ∷ t.d % 256 ∷ t.m % 256 ∷ t.m / 256 % 256 ∷ t.identifier ∷ replicate 10 0 ++ t.spsms

-- octet k of all columns is in row k % 16 and column k / 16
unfoldable pub columns : List Slot → List ℕ
columns xs = tabulate (λ k. get_or (get_or (map row xs) (k % slots_most) []) (k / slots_most) 0) (slots_most * column_count)

unfoldable pub spell : Table → List ℕ
spell t = head t ++ columns t.slots

-- ---- what octets say, whatever they are

abbrev pub failed_by : Option LeCreditConnResultCode → ChannelState
failed_by (Some result) = ConnectFailed result
failed_by None = Disconnected

unfoldable pub state_of : (kind value : ℕ) → ChannelState
state_of kind value =
    when eqb kind 1 then Connecting value
    else when eqb kind 2 then PeerConnecting value
    else when eqb kind 3 then Connected
    else when eqb kind 4 then failed_by (result_of value)
    else when eqb kind 5 then PeerDisconnecting value
    else when eqb kind 6 then Disconnecting (eqb value 1)
    else Disconnected

unfoldable pub policy_of : (kind value : ℕ) → CreditFlowPolicy
policy_of kind value = when eqb kind 1 then MinThreshold value else Every value

-- the octet of slot i in column c
abbrev pub cell : List ℕ → ℕ → ℕ → ℕ
cell o i c = get_or o (i + (head_octets + slots_most * c)) 0

-- of a row's octets, the number whose lower octet is in column c
abbrev pub number_in : (ℕ → ℕ) → ℕ → ℕ
number_in f c = f c + 256 * f (suc c)

-- .. and the number of 64 bits whose lowest octet is there
abbrev pub long_in : (ℕ → ℕ) → ℕ → ℕ
long_in f c = of_limbs (number_in f c) (number_in f (2 + c)) (number_in f (4 + c)) (number_in f (6 + c))

abbrev pub tally_in : (ℕ → ℕ) → ℕ → Tally
tally_in f c = record { frames = long_in f c; blocked = long_in f (8 + c) }

-- the same of octets, by their places: what the code reads
abbrev pub number_at : List ℕ → (i column : ℕ) → ℕ
number_at o i c = get_or o (i + c) 0 + 256 * get_or o (i + (c + slots_most)) 0

abbrev pub long_at : List ℕ → (i column : ℕ) → ℕ
long_at o i c = of_limbs (number_at o i c) (number_at o i (c + 2 * slots_most)) (number_at o i (c + 4 * slots_most)) (number_at o i (c + 6 * slots_most))

abbrev pub tally_at : List ℕ → (i column : ℕ) → Tally
tally_at o i c = record { frames = long_at o i c; blocked = long_at o i (c + 8 * slots_most) }

unfoldable pub slot_in : (ℕ → ℕ) → Slot
slot_in f =
    record {
      state = state_of (f 0) (f 1);
      link = number_in f 2;
      spsm = number_in f 4;
      mps = number_in f 6;
      mtu = number_in f 8;
      account = record { policy = policy_of (f 10) (number_in f 11); credits = number_in f 13; received = number_in f 15 };
      hold = f 17;
      peer = record { cid = number_in f 18; mps = number_in f 20; mtu = number_in f 22; credits = number_in f 24 };
      assembly = record { have = number_in f 26; want = number_in f 28 };
      queue = record { count = f 30; lens = number_in f 31 ∷ number_in f 33 ∷ number_in f 35 ∷ number_in f 37 ∷ [] };
      job = record { length = number_in f 39; taken = number_in f 41; filled = number_in f 43; aside = number_in f 45 };
      tallies = record { sends = tally_in f 47; receives = tally_in f 63 };
    }

unfoldable pub taken : List ℕ → Table
taken o =
    record {
      slots = tabulate (λ i. slot_in (cell o i)) slots_most;
      n = get_or o 1 0;
      d = get_or o 2 0;
      m = u16_at o 3;
      identifier = get_or o 5 0;
      spsms = part o 16 spsm_octets;
    }

-- ---- reading and writing

unfoldable pub same : List ℕ → List ℕ → Bool
same [] [] = true
same [] (y ∷ ys) = false
same (x ∷ xs) [] = false
same (x ∷ xs) (y ∷ ys) = eqb x y && same xs ys

-- octets are read where they are exactly the spelling of the table that they say; otherwise a table of no slots stands for them
unfoldable pub read : List ℕ → Decoded
read o =
    when same (spell (taken o)) o then record { ok = true; table = taken o }
    else record { ok = false; table = no_slots }

-- a table goes to the start of the lent octets, or nowhere where they are too few
unfoldable pub written : List ℕ → Table → List ℕ
written o t = when ltb (length o) table_octets then o else sets o 0 (spell t)
