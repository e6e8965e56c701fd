-- The calls that are not lent the room: none of them moves an octet of it, and nothing that they write was read from it. Their contracts do
-- not name the room, so this is what says that it stays as it was. (Lift.antt has what follows for their ends.)
use Rattle.std.specs.Prelude.{◌≡◌, Bool, true, false, ◌&&◌}
use mathlib.Core.List.{List, [], ◌∷◌}
use Prim.Native.Nat.{ℕ}
use Rattle.channel.specs.declared.Table.{Table}
use Rattle.definition.specs.Mem.{Fill, zeros, given, job, held}
use Rattle.definition.specs.Outcome.{Outcome}
use Rattle.definition.specs.Calls.{Call, frame, sends, portions, down, plain, Request, register, signals, pends, rejects_all, accepts, rejects, drops, creates, opens, gives, holds, releases, leaves, leaves_cid, announces, takes, starts, cancels, attends, asks, sends_signal, writes}
use Rattle.definition.specs.Ending.{room_after}

-- which they are
abbrev pub roomless_request : Request → Bool
roomless_request (register spsm) = true
roomless_request (signals link listening central pdu) = false
roomless_request (pends link up) = true
roomless_request (rejects_all link) = false
roomless_request (accepts s c) = true
roomless_request (rejects s result) = false
roomless_request (drops s) = false
roomless_request (creates link spsm c) = true
roomless_request (opens s link up) = false
roomless_request (gives s) = false
roomless_request (holds s) = true
roomless_request (releases s) = false
roomless_request (leaves s) = false
roomless_request (leaves_cid cid) = false
roomless_request announces = false
roomless_request (takes s) = false
roomless_request (starts s l) = true
roomless_request (cancels s) = false
roomless_request attends = true
roomless_request (asks of s) = true
roomless_request (sends_signal link s) = true
roomless_request (writes octets) = true

abbrev pub roomless : Call → Bool
roomless (frame link cid payload) = false
roomless (sends s sdu out) = true
roomless (portions s octets out) = true
roomless (down link) = false
roomless (plain r out tray) = roomless_request r

-- no octet of the room is written
abbrev pub unheld : Fill → Bool
unheld (zeros n) = true
unheld (given xs) = true
unheld (job from n) = true
unheld (held from n) = false

abbrev pub unheld_all : List Fill → Bool
unheld_all [] = true
unheld_all (f ∷ fs) = unheld f && unheld_all fs

pub record Roomless (t : Table) (o : Outcome) : Type 0 where
  pub room : (js room : List ℕ) → room_after t js room o ≡ room
  pub out : unheld_all o.out ≡ true
  pub tray : unheld_all o.job ≡ true
