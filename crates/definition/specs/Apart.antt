-- A call that names a link touches that link's slots and free ones alone: a CID, an identifier or a peer CID is always matched together
-- with its link. proofs/Apart.antt has one lemma a call that names one, and `apart` for all of them.
use Rattle.std.specs.Prelude.{◌≡◌, List, []}
use Prim.Native.Nat.{ℕ}
use Rattle.channel.specs.declared.Slot.{Slot}
use Rattle.channel.specs.declared.Table.{Table}
use Rattle.definition.specs.Mem.{Move}
use Rattle.definition.specs.Outcome.{Outcome}
use Rattle.definition.specs.Calls.{Call, frame, sends, portions, down, plain, Request, register, signals, pends, rejects_all, accepts, rejects, drops, creates, opens, gives, holds, releases, leaves, leaves_cid, announces, takes, starts, cancels, attends, asks, sends_signal, writes, Holder, nobody, by, holder}
use Rattle.definition.specs.Forms.{Does}

-- k: the link that the call names; old and new: a slot; ms: the moves in its part of the room.
pub data ApartSlot (k : ℕ) (old : Slot) : Slot → List Move → Type 0 where
  untouched : ApartSlot k old old []
  its : {new : Slot} {ms : List Move} → holder old ≡ by k → ApartSlot k old new ms
  free : {new : Slot} {ms : List Move} → holder old ≡ nobody → ApartSlot k old new ms

-- The link that a call names, if any.
abbrev pub asked_by : Request → Holder
asked_by (register spsm) = nobody
asked_by (signals link listening central pdu) = by link
asked_by (pends link up) = by link
asked_by (rejects_all link) = by link
asked_by (accepts s c) = nobody
asked_by (rejects s result) = nobody
asked_by (drops s) = nobody
asked_by (creates link spsm c) = by link
asked_by (opens s link up) = by link
asked_by (gives s) = nobody
asked_by (holds s) = nobody
asked_by (releases s) = nobody
asked_by (leaves s) = nobody
asked_by (leaves_cid cid) = nobody
asked_by announces = nobody
asked_by (takes s) = nobody
asked_by (starts s l) = nobody
asked_by (cancels s) = nobody
asked_by attends = nobody
asked_by (asks of s) = nobody
asked_by (sends_signal link s) = by link
asked_by (writes octets) = nobody

abbrev pub called_by : Call → Holder
called_by (frame link cid payload) = by link
called_by (sends s sdu out) = nobody
called_by (portions s octets out) = nobody
called_by (down link) = by link
called_by (plain r out job) = asked_by r

abbrev pub Apart : Holder → Table → Outcome → Type 0
Apart nobody t o = Unit {0}
Apart (by k) t o = Does (ApartSlot k) t o
