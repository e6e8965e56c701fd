-- What a command leaves of the table and its room; and what the signals of a PDU leave (docs/CHANRUN.md, `S`). The rows that they print are those of
-- the plays.
use Rattle.std.specs.Prelude.{◌≡◌, Bool, List, [], ◌∷◌, ℕ, take}
use Rattle.signal_headers.specs.Headers.{rest_of, feeds_of}
use Rattle.channel.specs.declared.Table.{Table}
use Rattle.run_play.specs.Plays.{Play}
use Rattle.run_frames.specs.PlayedFrames.{signal_of}

pub record After : Type 0 where
  pub table : Table
  pub room : List ℕ

abbrev pub after : Table → (room : List ℕ) → After
after t room = record { table = t; room = room }

abbrev pub left : Play → After
left p = after p.table p.room

-- what a function gives back and leaves
pub record Leaves (a : After) (u : Table) (room' : List ℕ) : Type 0 where
  pub table : u ≡ a.table
  pub room : room' ≡ a.room

-- ---- `S`: "one row a signal": the first signal, then each of those that stand after it

module _ (link : ℕ) (listening central : Bool) where
  abbrev pub one_signal : After → (pdu : List ℕ) → After
  one_signal a pdu = left (signal_of a.table a.room link listening central pdu)

  abbrev pub each_signal : (feeds : List (List ℕ)) → After → After
  each_signal [] a = a
  each_signal (pdu ∷ feeds) a = each_signal feeds (one_signal a pdu)

  -- one call a signal, each given what the one before left (crate signal_headers)
  abbrev pub signals_after : (pdu : List ℕ) → After → After
  signals_after pdu a = each_signal (feeds_of pdu) a

  -- empty input has a row too
  abbrev pub signals_of : Table → (room pdu : List ℕ) → After
  signals_of t room pdu = signals_after (rest_of pdu) (one_signal (after t room) pdu)

  -- the room, as some of the signals leave it: the first k, each given what the one before left
  abbrev pub AfterSome : (pdu : List ℕ) → After → (room' : List ℕ) → Type 0
  AfterSome pdu a room' = (k : ℕ) × (room' ≡ (each_signal (take k (feeds_of pdu)) a).room)

  -- where a row can't be printed: the first signal was served, and some of those behind it
  abbrev pub LeavesSome : Table → (room pdu room' : List ℕ) → Type 0
  LeavesSome t room pdu room' = AfterSome (rest_of pdu) (one_signal (after t room) pdu) room'
