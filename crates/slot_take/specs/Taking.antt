-- What a take makes of one slot, of its part of the room and of the two lent buffers (document 01, 'Cutting, joining, credits'): the definition's `taken_on`, of
-- one slot. Taken.antt has the law that it is that.
use Rattle.std.specs.Prelude.{◌≡◌, List, [], ◌∷◌, ℕ, ◌+◌, ◌*◌, eqb, ltb, None, Option, Some}
use Rattle.lists.specs.Choose.{choose}
use Rattle.codes.specs.declared.Refusal.TheVariants.{ChannelClosed, InsufficientSpace}
use Rattle.credit.specs.Account.{granted}
use Rattle.sar_join.specs.Joining.{place}
use Rattle.signal_forms.specs.declared.Signal.TheVariants as Signal
use Rattle.signal_write.specs.Writer.{encode_of}
use Rattle.channel.specs.declared.Answer.{Answer}
use Rattle.channel.specs.declared.Answer.TheVariants.{Done, Refused, Job}
use Rattle.channel.specs.declared.Slot.{Slot}
use Rattle.channel.specs.declared.Table.{Table}
use Rattle.definition.specs.Mem.{Fill, given, held, sizes, parts, written}
use Rattle.definition.specs.Table.{when◌then◌else◌, place_size, part_width, spent, id_after, with_account, with_queue}
use Rattle.definition.specs.Outcome.{Outcome, only, handout}
use Rattle.definition.specs.Ending.{itself}
use Rattle.definition.specs.Frames.{shifted, upwards, oldest, grant_in, crediting, closed}
use Rattle.slot_work.specs.declared.Worked.{Worked}
use Rattle.slot_work.specs.Work.{Work, kept, worked_of}

-- The work on the slot, whose output is the signal buffer, and what is written to the job buffer.
pub record Take : Type 0 where
  pub work : Work
  pub job : List Fill

abbrev pub keeps : Slot → Answer → Take
keeps x a = record { work = kept x a; job = [] }

-- The oldest job is handed out of place 1 of slot s's part, whole, and the later ones move up; x is the slot with its account as it is left.
abbrev pub hand_of : (d m s : ℕ) → Slot → List Fill → Take
hand_of d m s x signal =
    record {
      work = record { answer = Job x.link (oldest x); slot = with_queue (shifted x.queue) x; moves = upwards (place_size m) x.queue.count; out = signal };
      job = held (s * part_width d m + place (place_size m) 1) (oldest x) ∷ [];
    }

-- With a grant its signal is written, by the identifier `id`, and the credits are booked.
unfoldable pub granted_of : (d m s id : ℕ) → Slot → Option ℕ → Take
granted_of d m s id x None = hand_of d m s x []
granted_of d m s id x (Some n) = hand_of d m s (with_account (granted x.account n) x) (given (encode_of id (Signal.LeCreditFlowInd (crediting s n))) ∷ [])

-- "11 .. taking when free, connecting, pending or failed"; "no job waiting is reported as such .. and writes and grants nothing"; "A buffer shorter than the job
-- should now be refused" (document 02)
unfoldable pub take_of : (d m s id : ℕ) → Slot → (size : ℕ) → Take
take_of d m s id x size =
    when closed x.state then keeps x (Refused ChannelClosed)
    else when eqb x.queue.count 0 then keeps x Done
    else when ltb size (oldest x) then keeps x (Refused InsufficientSpace)
    else granted_of d m s id x (grant_in x)

-- The next identifier that a table says, and the table, once so many octets of a signal were written: a signal uses an identifier, and nothing else does.
abbrev pub id_then : (identifier octets : ℕ) → ℕ
id_then i n = choose (eqb n 0) i (id_after (choose (eqb i 0) 1 i))

abbrev pub table_then : Table → (octets : ℕ) → Table
table_then t n = choose (eqb n 0) t (spent t)

-- The same in a table.
abbrev pub take_in : Table → (slot : ℕ) → Take → Outcome
take_in t s k = handout (table_then t (sizes k.work.out)) s k.work.slot k.work.moves k.work.answer k.work.out k.job

-- ---- what the code leaves of it, of a room whose parts are w octets each

pub record Took (w s : ℕ) (k : Take) (room out job : List ℕ) (r : Worked) (room' out' job' : List ℕ) : Type 0 where
  pub gave : r ≡ worked_of k.work
  pub moved : room' ≡ parts itself [] w (only s k.work.moves) room
  pub told : out' ≡ written itself [] room 0 k.work.out out
  pub handed : job' ≡ written itself [] room 0 k.job job
