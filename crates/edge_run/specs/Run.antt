-- A run: calls of one kind, handed over one after the other in one lent slice (`items`). It leaves what the calls leave that are made one by one, each answer over
-- the next sixteen octets of `answers`. This page says so for any kind of call; it is told how many octets the call at a place
-- has, and what that call leaves, whose answer stands at a place of the answers.
use Rattle.std.specs.Prelude.{List, ℕ, zero, suc, ◌+◌, ◌*◌, ◌/◌, ◌%◌, min, leb, ltb, length, Err, Ok, Result}
use Rattle.std.proofs.lemmas.List.Edits.{sets}
use Rattle.octets.specs.Octets.{part}
use Rattle.codes.specs.declared.Refusal.TheVariants.{NoRoom, Decode}
use Rattle.codes.specs.Codes.{refusal_number}
use Rattle.channel_answer.specs.Tells.{told_by}
use Rattle.definition.specs.Table.{when◌then◌else◌}
use Rattle.edge_answer.specs.Answers.{told_octets}
use Rattle.edge_run.specs.declared.Ended.{Ended}
use Rattle.codes.specs.declared.Refusal.{Refusal}

-- What a run works on: the table's octets, the room, the output and how many octets of it are written, the answers.
pub record Lent : Type 0 where
  pub table : List ℕ
  pub room : List ℕ
  pub out : List ℕ
  pub wrote : ℕ
  pub answers : List ℕ

-- What a run leaves.
pub record Ran : Type 0 where
  pub stop : ℕ  -- 0 where every octet was used, else the number of the refusal that ended the run
  pub count : ℕ  -- the calls that were made
  pub used : ℕ  -- the octets of the run that they took
  pub lent : Lent

abbrev pub ended : (stop count used : ℕ) → Lent → Ran
ended stop count used l = record { stop = stop; count = count; used = used; lent = l }

-- the same as the code gives it back
abbrev pub ended_as : (stop count used wrote : ℕ) → Ended
ended_as stop count used wrote = record { stop = stop; count = count; used = used; wrote = wrote }

-- an answer's octets
abbrev pub answer_size : ℕ
answer_size = 16

module _ (items : List ℕ) (size : (from : ℕ) → ℕ) (call : (from at : ℕ) → (answer : List ℕ) → Lent → Lent) where
  -- Behind `count` calls, which took `used` octets: until no octet is left. A call that isn't whole ends the run by 15, one whose answer has no place by 3: it
  -- is not made, and what was done before it stands. (Every call takes an octet, so that as many turns as octets suffice.)
  unfoldable pub ran : (turns count used : ℕ) → Lent → Ran
  ran zero count used l = ended 0 count used l
  ran (suc turns) count used l =
      when leb (length items) used then ended 0 count used l
      else when ltb (length items) (used + size used) then ended (refusal_number Decode) count used l
      else when ltb (length l.answers) (answer_size * suc count) then ended (refusal_number NoRoom) count used l
      else ran turns (suc count) (used + size used) (call used (answer_size * count) (part l.answers (answer_size * count) answer_size) l)

-- Of a table or a room that the first refusals stop, no call is made.
abbrev pub begun : Result (Unit {0}) Refusal → Lent → Ran → Ran
begun (Err r) l x = ended (refusal_number r) 0 0 l
begun (Ok tt) l x = x

-- The run's own answer, in the sixteen octets of every answer: kind 11; what ended it; the octets written to the output; the calls made and the octets that they took, four octets each.
abbrev pub run_kind : ℕ
run_kind = 11

abbrev pub low : ℕ → ℕ
low n = min n 4294967295 % 65536

abbrev pub high : ℕ → ℕ
high n = min n 4294967295 / 65536

abbrev pub ran_octets : (stop count used wrote : ℕ) → List ℕ
ran_octets stop count used wrote = told_octets (told_by run_kind stop (low count) (high count) (low used) (high used)) wrote

-- What the entry leaves: its number, the table's octets, the run's own answer, the room, the output, the answers.
pub record RunEdge : Type 0 where
  pub number : ℕ
  pub table : List ℕ
  pub answer : List ℕ
  pub room : List ℕ
  pub out : List ℕ
  pub answers : List ℕ

abbrev pub run_edge : (number : ℕ) → (table answer room out answers : List ℕ) → RunEdge
run_edge number table answer room out answers = record { number = number; table = table; answer = answer; room = room; out = out; answers = answers }

abbrev pub told : (answer : List ℕ) → Ran → RunEdge
told a x = run_edge x.stop x.lent.table (sets a 0 (ran_octets x.stop x.count x.used x.lent.wrote)) x.lent.room x.lent.out x.lent.answers
