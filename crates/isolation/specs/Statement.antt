-- DEMAND 3, the statement. Two runs make the same calls in the same order, each from a table made without refusal over a room of any
-- contents. They may differ in the job octets that ONE link carries in ONE of its lives, and in nothing else. Then nothing that any
-- call gives back, and nothing in any memory, tells the two apart, but for that link's own jobs and frames.
-- The calls are those of crate definition: Calls.antt lists them, `decide` there says what each does, Run.antt what a run of them is.
-- No making is among them. What is excepted is said here, from the calls and the table alone. Proved in Isolation.antt.
use Rattle.std.specs.Prelude.{◌≡◌, Bool, true, false, ◌&&◌, not, List, [], ◌∷◌, map, ℕ, suc, ◌-◌, ◌*◌, ◌<◌, eqb, leb, ltb, length, take, drop, get_or}
use Rattle.std.proofs.lemmas.List.Edits.{sets}
use Rattle.lists.specs.Choose.{choose}
use Rattle.channel.specs.declared.Table.{Table}
use Rattle.definition.specs.Table.{is_disconnected, slot_at, width, room_size}
use Rattle.definition.specs.Asking.{make}
use Rattle.definition.specs.Calls.{Window, Call, frame, sends, portions, down, plain, Request, register, signals, pends, rejects_all, accepts, rejects, drops, creates, opens, gives, holds, releases, leaves, leaves_cid, announces, takes, starts, cancels, attends, asks, sends_signal, writes}
use Rattle.definition.specs.Mem.{fills, written}
use Rattle.definition.specs.Outcome.{Outcome}
use Rattle.definition.specs.Ending.{itself}
use Rattle.definition.specs.Numbers.{answer_number}
use Rattle.definition.specs.Run.{State, lent, out_window, job_window, outcome, room_left, after, made, run, outcomes}

-- ---- 1. Whose is what. k is a link, t the table that a call finds.

-- Link k's own slots: not Disconnected, and of link k.
abbrev pub owns : (k : ℕ) → Table → (slot : ℕ) → Bool
owns k t s = not (is_disconnected (slot_at t s).state) && eqb k (slot_at t s).link

-- Is an assembly open in the slot that the CID names, 0x40 + slot?
abbrev pub assembling : Table → (cid : ℕ) → Bool
assembling t cid = (leb 0x40 cid && ltb (cid - 0x40) t.n) && not (eqb (slot_at t (cid - 0x40)).assembly.want 0)

-- "Job octets are the SDU octets handed to a send, and a frame's payload but for the two length octets of a frame that arrives with no
-- assembly open." So are the octets of a portion (document 02 (i)); how many it has, and the length that was stated for its job, are public.
abbrev pub jobs : Table → Call → List ℕ
jobs t (frame link cid payload) = choose (assembling t cid) payload (drop 2 payload)
jobs t (sends s sdu out) = sdu
jobs t (portions s octets out) = octets
jobs t (down link) = []
jobs t (plain r out job) = []

-- Are they link k's? A frame's are the link's that it came on, whatever slot it names; a send's and a portion's are the link's whose slot it is.
abbrev pub carries : (k : ℕ) → Table → Call → Bool
carries k t (frame link cid payload) = eqb k link
carries k t (sends s sdu out) = owns k t s
carries k t (portions s octets out) = owns k t s
carries k t (down link) = false
carries k t (plain r out job) = false

-- Does the call write frames of link k to its output? A send on link k's slot does, and a portion, to the job's frame buffer, which "in demand 3 ..
-- counts as that link's sent job"; no other call.
abbrev pub frames_out : (k : ℕ) → Table → Call → Bool
frames_out k t (frame link cid payload) = false
frames_out k t (sends s sdu out) = owns k t s
frames_out k t (portions s octets out) = owns k t s
frames_out k t (down link) = false
frames_out k t (plain r out job) = false

-- Does it write a job of link k to its job buffer? A take from link k's slot does, no other call.
abbrev pub taken_from : (k : ℕ) → Table → Request → Bool
taken_from k t (takes s) = owns k t s
taken_from k t (register spsm) = false
taken_from k t (signals link listening central pdu) = false
taken_from k t (pends link up) = false
taken_from k t (rejects_all link) = false
taken_from k t (accepts s c) = false
taken_from k t (rejects s result) = false
taken_from k t (drops s) = false
taken_from k t (creates link spsm c) = false
taken_from k t (opens s link up) = false
taken_from k t (gives s) = false
taken_from k t (holds s) = false
taken_from k t (releases s) = false
taken_from k t (leaves s) = false
taken_from k t (leaves_cid cid) = false
taken_from k t announces = false
taken_from k t (starts s l) = false
taken_from k t (cancels s) = false
taken_from k t attends = false
taken_from k t (asks of s) = false
taken_from k t (sends_signal link s) = false
taken_from k t (writes octets) = false

abbrev pub job_out : (k : ℕ) → Table → Call → Bool
job_out k t (frame link cid payload) = false
job_out k t (sends s sdu out) = false
job_out k t (portions s octets out) = false
job_out k t (down link) = false
job_out k t (plain r out job) = taken_from k t r

-- ---- 2. One life of one link: link k, life j. Lives count from 0, and `over` is how many of them are over. "A link's life runs from
-- making the table, or its last link-down, to its next link-down answered 0."

abbrev pub is_down : (k : ℕ) → Call → Bool
is_down k (frame link cid payload) = false
is_down k (sends s sdu out) = false
is_down k (portions s octets out) = false
is_down k (down link) = eqb k link
is_down k (plain r out job) = false

unfoldable pub over_after : (k over : ℕ) → Outcome → Call → ℕ
over_after k over o c = choose (is_down k c && eqb (answer_number o.answer) 0) (suc over) over

-- ---- 3. What may differ: the job octets that link k carries in life j, never how many there are.

-- One call with link k's job octets exchanged for others, as many; t is the table that it finds.
pub data Exchanged (k : ℕ) (t : Table) : Call → Call → Type 0 where
  sent : {s : ℕ} {x y : List ℕ} {out : Window}  -- another SDU, on a slot that is link k's
      → owns k t s ≡ true → length x ≡ length y → Exchanged k t (sends s x out) (sends s y out)
  portioned : {s : ℕ} {x y : List ℕ} {out : Window}  -- other octets of a portion, on a slot that is link k's
      → owns k t s ≡ true → length x ≡ length y → Exchanged k t (portions s x out) (portions s y out)
  framed : {cid : ℕ} {x y : List ℕ}  -- another payload of a frame that came on link k, the length octets apart
      → length x ≡ length y → (assembling t cid ≡ false → take 2 x ≡ take 2 y) → Exchanged k t (frame k cid x) (frame k cid y)

-- The same call; or, in life j, one with those octets exchanged.
pub data Alike (k j over : ℕ) (t : Table) (c : Call) : Call → Type 0 where
  same : Alike k j over t c c
  exchanged : {d : Call} → over ≡ j → Exchanged k t c d → Alike k j over t c d

-- Two lists of calls, alike one by one. s is the state in which the first list starts.
abbrev pub AlikeRuns : (k j over : ℕ) → State → List Call → List Call → Type 0
AlikeRuns k j over s [] [] = Unit {0}
AlikeRuns k j over s [] (d ∷ ds) = ⊥
AlikeRuns k j over s (c ∷ cs) [] = ⊥
AlikeRuns k j over s (c ∷ cs) (d ∷ ds) = Alike k j over s.table c d × AlikeRuns k j (over_after k over (outcome s c) c) (after s c) cs ds

-- ---- 4. Where that life's octets stand: a mark for each octet of room and memory. It is the definition itself, run on marks in place of
-- octets. A job octet of that life comes in marked, every other octet (headers, signals, zeros, other links' jobs) unmarked; a mark goes
-- where its octet is copied, and is gone where another octet is written over it. Marks get out to memory by three ways alone: a send on
-- link k's slot, to its output, a portion on it, to the job's frame buffer, and a take from link k's slot, to its job buffer. What any other call
-- writes, and what these write elsewhere (a take, its signal buffer), counts as unmarked, and so has to be equal. The header that a start or a
-- portion puts into the frame buffer is unmarked too. Which buffer the caller lends a portion makes no difference to this: octets that a call does
-- not write keep their marks, so no premise about buffers is needed.

pub record Marks : Type 0 where
  pub over : ℕ
  pub room : List Bool
  pub memory : List Bool

abbrev pub unmarked : ℕ → Bool
unmarked x = false

abbrev pub mask : Bool → List Bool → List Bool
mask own ms = map (λ b. own && b) ms

-- The marks that a call leaves in memory. The job buffer is written first, then the signal buffer, frame output or a job's frame buffer, that from
-- octet `o.at` on. js are the marks of the call's job octets; `frames` and `tray` say whether its output, and its job buffer, may take marks.
abbrev pub memory_marks : Outcome → (out job : Window) → (frames tray : Bool) → (js room memory : List Bool) → List Bool
memory_marks o out job frames tray js room memory =
    let m = sets memory job.from (written unmarked (mask tray js) (mask tray room) 0 o.job (lent job memory)) in
    sets m out.from (written unmarked (mask frames js) (mask frames room) o.at o.out (lent out m))

-- The marks that a call leaves. t is the table that it finds, o what it comes to.
unfoldable pub marked : (k j : ℕ) → Table → Outcome → Marks → Call → Marks
marked k j t o m c =
    let js = map (λ _. eqb m.over j && carries k t c) (jobs t c) in
    record {
      over = over_after k m.over o c;
      room = room_left unmarked js t o m.room;
      memory = memory_marks o (out_window c) (job_window c) (frames_out k t c) (job_out k t c) js m.room m.memory;
    }

unfoldable pub marks_from : (k j : ℕ) → State → Marks → List Call → Marks
marks_from k j s m [] = m
marks_from k j s m (c ∷ cs) = marks_from k j (after s c) (marked k j s.table (outcome s c) m c) cs

-- The marks after a run from a state in which no octet is marked and no life is over.
abbrev pub marks_of : (k j : ℕ) → State → List Call → Marks
marks_of k j s cs = marks_from k j s (record { over = 0; room = map unmarked s.room; memory = map unmarked s.memory }) cs

-- ---- 5. What is equal in the two states a and b after the calls so far; m are the marks.

abbrev pub slot_room : Table → ℕ → List ℕ → List ℕ
slot_room t s room = take (width t) (drop (s * width t) room)

pub record Isolated (k j : ℕ) (m : Marks) (a b : State) : Type 0 where
  -- every state, number and length of the table
  pub table : a.table ≡ b.table
  -- all lent memory, except where octets of that link's jobs or frames were left and not yet written over
  pub size : length a.memory ≡ length b.memory
  pub memory : (i : ℕ) → get_or m.memory i false ≡ false → get_or a.memory i 0 ≡ get_or b.memory i 0
  -- the room, which is all slots' parts one after the other, except that link's own slots
  pub sizes : (length a.room ≡ room_size a.table) × (length b.room ≡ room_size a.table)
  pub room : (s : ℕ) → s < a.table.n → owns k a.table s ≡ false → slot_room a.table s a.room ≡ slot_room a.table s b.room
  -- and in that link's own slots too, except where an octet of that life's jobs stands
  pub places : (i : ℕ) → get_or m.room i false ≡ false → get_or a.room i 0 ≡ get_or b.room i 0
  -- nothing differs before that life
  pub before : m.over < j → a ≡ b
  -- and the whole room is equal once that life's link-down has answered 0
  pub down : j < m.over → a.room ≡ b.room

-- ---- 6. What a call hands out, octet by octet: to its output a signal, frames or a portion's part of a frame, to its job buffer a job; but for
-- link k's own frames and jobs. So every signal is in it, and every other link's frames and jobs. Of a portion it is what the call itself writes;
-- that a frame which a portion gives out has no octets but its own job's, where each open job has a buffer of its own, is a theorem of crate
-- rules_portions. (A buffer that link k's own calls were never lent is equal as a whole: Own.antt.)

pub record Handed : Type 0 where
  pub out : List ℕ
  pub job : List ℕ

abbrev pub handed_by : (k : ℕ) → State → Call → Handed
handed_by k s c =
    record {
      out = choose (frames_out k s.table c) [] (fills itself (jobs s.table c) s.room (outcome s c).out);
      job = choose (job_out k s.table c) [] (fills itself (jobs s.table c) s.room (outcome s c).job);
    }

unfoldable pub handed : (k : ℕ) → State → List Call → List Handed
handed k s [] = []
handed k s (c ∷ cs) = handed_by k s c ∷ handed k (after s c) cs

-- ---- 7. The demand. Every call comes to the same: an `Outcome` (crate definition) is its answer, the table after it, and what it puts
-- where, as data: which octets it worked out itself, and how many job octets or octets of the room it copies from where to where. So all
-- lengths are equal; the octets that are copied are not in it. What it hands out is equal too, octet by octet and so in length: every
-- signal, and other links' frames and jobs. And of memory and room `Isolated` holds, after every number i of calls.

abbrev pub Demand3 : Type 0
Demand3 =
    (k j n d m : ℕ) (room₁ room₂ memory : List ℕ) (cs ds : List Call)
    → answer_number (make n d m room₁).answer ≡ 0
    → answer_number (make n d m room₂).answer ≡ 0
    → AlikeRuns k j 0 (made n d m room₁ memory) cs ds
    → (outcomes (made n d m room₁ memory) cs ≡ outcomes (made n d m room₂ memory) ds)
    × (handed k (made n d m room₁ memory) cs ≡ handed k (made n d m room₂ memory) ds)
    × ((i : ℕ) → Isolated k j (marks_of k j (made n d m room₁ memory) (take i cs)) (run (made n d m room₁ memory) (take i cs)) (run (made n d m room₂ memory) (take i ds)))
