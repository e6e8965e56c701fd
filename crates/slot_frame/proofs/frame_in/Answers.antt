-- `slot_frame::frame_in` meets its contract: code and definition make the same tests in the same order, and a frame that passes them is joined.
use mathlib.Core.Path.{refl}
use Rattle.lists.specs.Choose.{choose}
use Rattle.definition.specs.Mem.{sizes, moves}
use Rattle.slot_frame.specs.FrameIn.{frame_of}
use Rattle.slot_frame.proofs.frame_in.Goals as goal

pub returns-then-not-is_connected : goal.returns-then-not-is_connected
unfolding frame_of choose sizes moves
returns-then-not-is_connected c = rw (← c.is_connected.ensures, c.if-not-is_connected.true-raw) (c.became.ensures, refl)

pub returns-then-stranger : goal.returns-then-stranger
unfolding frame_of choose sizes moves
returns-then-stranger c = rw (← c.is_connected.ensures, c.if-not-is_connected.false-raw, c.if-stranger.true-raw) (c.became-then-stranger.ensures, refl)

pub returns-then-no_credit : goal.returns-then-no_credit
unfolding frame_of choose sizes moves
returns-then-no_credit c =
    rw (← c.is_connected.ensures, c.if-not-is_connected.false-raw, c.if-stranger.false-raw, c.if-no_credit.true-raw, ← c.count_blocked_receive-y.ensures) (c.became-then-no_credit.ensures, refl)

pub join-requires : goal.join-requires
join-requires c =
    (c.requires.0, rw (c.count_received-z.ensures, c.with_account-y.ensures) c.requires.1, c.requires.2)

pub returns : goal.returns
unfolding frame_of choose
returns c =
    let e = rw (c.count_received-z.ensures, c.with_account-y.ensures, c.received_through.ensures) at c.join.ensures in
    rw (← c.is_connected.ensures, c.if-not-is_connected.false-raw, c.if-stranger.false-raw, c.if-no_credit.false-raw) e
