-- A played call (docs/CHANRUN.md): the table, the room and the text of its row once it was made. Each call is what its own definition says (`end_of` of its
-- outcome); a row is one of crate `row_call`. "The program lends signal buffers of 18 octets."
use Rattle.std.specs.Prelude.{◌≡◌, List, [], ℕ, take, replicate}
use Rattle.lists.specs.Choose.{choose}
use Rattle.text_write.specs.Rows.{Writes}
use Rattle.text_hex.specs.Hex.{hex_octets}
use Rattle.text_words.specs.Words.{text_of}
use Rattle.text_words.specs.declared.Word.{Word}
use Rattle.channel.specs.Limits.{signal_most}
use Rattle.channel.specs.declared.Table.{Table}
use Rattle.definition.specs.Table.{room_width, sizes_fit}
use Rattle.definition.specs.Ending.{End}
use Rattle.row_call.specs.Printed.{row_text, opened_text, taken_text}
use Rattle.run_play.specs.declared.Played.{Played}

pub record Play : Type 0 where
  pub table : Table
  pub room : List ℕ
  pub text : List ℕ

abbrev pub play : Table → (room text : List ℕ) → Play
play t room text = record { table = t; room = room; text = text }

-- What a played call gives back and leaves: its table and room, and its text at the start of the row.
pub record Plays (p : Play) (row : List ℕ) (r : Played) (room' row' : List ℕ) : Type 0 where
  pub table : r.table ≡ p.table
  pub room : room' ≡ p.room
  pub text : Writes row 0 p.text r.octets row'

-- ---- rows of a call's end

abbrev pub ended : End → (text : List ℕ) → Play
ended e text = play e.served.table e.room text

abbrev pub lent_signal : List ℕ
lent_signal = replicate signal_most 0

-- what it wrote to the lent buffer
abbrev pub wrote : End → List ℕ
wrote e = take e.served.octets e.out

abbrev pub with_octets : End → Play
with_octets e = ended e (row_text e.served.answer (wrote e))

abbrev pub with_none : End → Play
with_none e = ended e (row_text e.served.answer [])

abbrev pub as_opened : End → Play
as_opened e = ended e (opened_text e.served.answer)

-- a call that is not lent the room
abbrev pub with_frames : (room : List ℕ) → End → Play
with_frames room e = play e.served.table room (row_text e.served.answer (wrote e))

abbrev pub with_job : End → Play
with_job e = ended e (taken_text e.served.answer e.job (wrote e))

-- ---- rooms and words

-- the octets of a room of these sizes; none where no table has them
unfoldable pub size_of : (n d m : ℕ) → ℕ
size_of n d m = choose (sizes_fit n d m) (room_width n d m) 0

-- the octets that a word spells, as many as a buffer holds
abbrev pub spelled_of : (size : ℕ) (line : List ℕ) → Word → List ℕ
spelled_of size line w = take size (hex_octets (text_of line w))
