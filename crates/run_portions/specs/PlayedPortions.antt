-- Jobs handed over in portions, each call with the row that it prints (docs/CHANRUN.md): `N`, `p`, `x`, `n`, and the buffers that the program lends for them.
use Rattle.std.specs.Prelude.{◌≡◌, List, [], ℕ, ◌-◌, ◌*◌, min, leb, length, replicate}
use Rattle.std.proofs.lemmas.List.Edits.{sets}
use Rattle.octets.specs.Octets.{part}
use Rattle.codes.specs.declared.Refusal.TheVariants.{BadTable, BadSlot}
use Rattle.text_write.specs.Rows.{Writes}
use Rattle.channel.specs.declared.Answer.TheVariants.{Refused}
use Rattle.channel.specs.declared.Table.{Table}
use Rattle.definition.specs.Table.{when◌then◌else◌, sizes_fit, slot_at}
use Rattle.definition.specs.Ending.{End, end_of}
use Rattle.definition.specs.Portions.{start_job, give_portion, cancel_job}
use Rattle.row_call.specs.Printed.{row_text, filling_text}
use Rattle.script_commands.specs.Commands.{slot_number, buffer_most}
use Rattle.script_commands.specs.declared.Portions.{Portions}
use Rattle.script_commands.specs.declared.Portions.TheVariants as Portions
use Rattle.run_play.specs.declared.Played.{Played}
use Rattle.run_play.specs.Plays.{Play, play, Plays, wrote, with_none, spelled_of}

-- ---- a call that is lent a slot's buffer: the table, the buffer and the text of its row once it was made

pub record Filled : Type 0 where
  pub table : Table
  pub buffer : List ℕ
  pub text : List ℕ

pub record Fills (f : Filled) (row : List ℕ) (r : Played) (buffer' row' : List ℕ) : Type 0 where
  pub table : r.table ≡ f.table
  pub buffer : buffer' ≡ f.buffer
  pub text : Writes row 0 f.text r.octets row'

abbrev pub filled : (octets : List ℕ) → End → Filled
filled octets e = record { table = e.served.table; buffer = e.out; text = row_text e.served.answer octets }

-- the octets are in the buffer: nothing is given out yet
abbrev pub begun : End → Filled
begun e = filled [] e

-- "the frame, where the call filled one (the buffer's start, header and payload), else `-`"
abbrev pub giving_out : End → Filled
giving_out e = filled (wrote e) e

-- `N`
abbrev pub start_of : Table → (slot stated : ℕ) (buffer : List ℕ) → Filled
start_of t slot stated buffer = begun (end_of t [] [] buffer [] (start_job t (slot_number slot) stated (length buffer)))

-- `p`
abbrev pub give_of : Table → (slot : ℕ) (octets buffer : List ℕ) → Filled
give_of t slot octets buffer = giving_out (end_of t octets [] buffer [] (give_portion t (slot_number slot) (length octets) (length buffer)))

-- `x`
abbrev pub cancel_of : Table → (room : List ℕ) (slot : ℕ) → Play
cancel_of t room slot = with_none (end_of t [] room [] [] (cancel_job t (length room) (slot_number slot)))

-- `n`: "like `V` and `M` it answers 1 for a table of no slots and 6 for a slot past N"
unfoldable pub show_of : Table → (slot : ℕ) (buffer : List ℕ) → List ℕ
show_of t slot buffer =
    when sizes_fit t.n t.d t.m then
    when leb t.n slot then row_text (Refused BadSlot) [] else filling_text (slot_at t slot).job buffer
    else row_text (Refused BadTable) []

-- ---- the buffers: "One of 4,096 octets for each slot", one behind the other

-- "all zeros after each `T`"
abbrev pub cleared : (buffers : List ℕ) → List ℕ
cleared buffers = replicate (length buffers) 0

-- where a slot's buffer begins, of so many octets of buffers; at their end for a slot that has none
abbrev pub buffer_at : (slot all : ℕ) → ℕ
buffer_at slot all = min (slot_number slot * buffer_most) all

-- "the first `size` octets of the same buffer are lent"
abbrev pub lent_size : (slot size all : ℕ) → ℕ
lent_size slot size all = min (min size buffer_most) (all - buffer_at slot all)

abbrev pub lent_of : (buffers : List ℕ) (slot size : ℕ) → List ℕ
lent_of buffers slot size = part buffers (buffer_at slot (length buffers)) (lent_size slot size (length buffers))

-- ---- a played line: what every played call leaves, and the buffers

pub record Lent : Type 0 where
  pub play : Play
  pub buffers : List ℕ

pub record PlaysLent (l : Lent) (row : List ℕ) (r : Played) (room' buffers' row' : List ℕ) : Type 0 where
  pub plays : Plays l.play row r room' row'
  pub buffers : buffers' ≡ l.buffers

module _ (t : Table) (room line octets buffers : List ℕ) where
  -- a call that writes in its slot's buffer: the others stay, and the room
  abbrev pub within : (slot : ℕ) → Filled → Lent
  within slot f = record { play = play f.table room f.text; buffers = sets buffers (buffer_at slot (length buffers)) f.buffer }

  -- a call that writes in none
  abbrev pub apart : Play → Lent
  apart p = record { play = p; buffers = buffers }

  unfoldable pub portions_of : Portions → Lent
  portions_of (Portions.StartJob slot stated size) = within slot (start_of t slot stated (lent_of buffers slot size))
  portions_of (Portions.GivePortion slot size portion) = within slot (give_of t slot (spelled_of (length octets) line portion) (lent_of buffers slot size))
  portions_of (Portions.CancelJob slot) = apart (cancel_of t room slot)
  portions_of (Portions.ShowJob slot) = apart (play t room (show_of t slot (lent_of buffers slot buffer_most)))
