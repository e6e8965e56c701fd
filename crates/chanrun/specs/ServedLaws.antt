-- How the code comes to what a line leaves: each way of a line by its command.
use Rattle.std.specs.Prelude.{◌≡◌, Bool, List, ◌++◌, ℕ, length, take, drop}
use Rattle.std.proofs.Math.Path.{refl}
use Rattle.std.proofs.Common.{ap}
use Rattle.channel.specs.declared.Table.{Table}
use Rattle.script_commands.specs.declared.Command.{Command}
use Rattle.script_commands.specs.declared.Portions.{Portions}
use Rattle.text_words.specs.declared.Word.{Word}
use Rattle.run_play.specs.Plays.{spelled_of}
use Rattle.run_signals.specs.Signalled.{after, left, signals_of, Leaves, LeavesSome}
use Rattle.run_portions.specs.PlayedPortions.{portions_of}
use Rattle.run.specs.Playing.{play_of}
use Rattle.chanrun.specs.Served.{Serves, Stands, StandsLine, made_all, lent_all, held, line_of, played}

-- ---- a line, by its command

-- the table's own room is the start, and what stands behind it stays
leaves-before : {t u : Table} {own part' : List ℕ} (rest : List ℕ) → Leaves (after t own) u part' → Leaves (after t (own ++ rest)) u (part' ++ rest)
leaves-before rest l = record { table = l.table; room = ap (λ (xs : List ℕ). xs ++ rest) l.room }

module _ (t : Table) (line room octets frames buffers : List ℕ) {c : Command} {u : Table} where
  pub made-is : {n d m : ℕ} {room' buffers' : List ℕ} → c ≡ Command.Make n d m
      → Serves (made_all n d m room buffers) u room' buffers' → Serves (line_of t line room octets frames buffers c) u room' buffers'
  unfolding line_of
  made-is e l = rw e l

  pub signals_are : {link size : ℕ} {listening central : Bool} {pdu : Word} {word part' : List ℕ} → c ≡ Command.Signal link listening central pdu
      → size ≡ held t room → word ≡ spelled_of (length octets) line pdu
      → Leaves (signals_of link listening central t (take size room) word) u part' → Serves (line_of t line room octets frames buffers c) u (part' ++ drop size room) buffers
  unfolding line_of
  signals_are {link} {size} {listening} {central} {pdu} {word} {part'} e k w l =
      rw (e, ← k, ← w) (record { leaves = leaves-before (drop size room) l; buffers = refl })

  pub portions_are : {call : Portions} {size : ℕ} {part' buffers' : List ℕ} → c ≡ Command.Portions call → size ≡ held t room
      → Serves (lent_all (portions_of t (take size room) line octets buffers call)) u part' buffers'
      → Serves (line_of t line room octets frames buffers c) u (part' ++ drop size room) buffers'
  unfolding line_of
  portions_are {call} {size} {part'} e k l = rw (e, ← k) (record { leaves = leaves-before (drop size room) l.leaves; buffers = l.buffers })

-- ---- the same where a row can't be printed

module _ (t : Table) (line room octets frames buffers : List ℕ) {c : Command} where
  pub made_stands : {n d m : ℕ} {room' buffers' : List ℕ} → c ≡ Command.Make n d m
      → Stands (made_all n d m room buffers) room' buffers' → StandsLine t line room octets frames buffers c room' buffers'
  unfolding line_of StandsLine
  made_stands e s = rw e s

  pub signals_stand : {link size : ℕ} {listening central : Bool} {pdu : Word} {word part' : List ℕ} → c ≡ Command.Signal link listening central pdu
      → size ≡ held t room → word ≡ spelled_of (length octets) line pdu
      → LeavesSome link listening central t (take size room) word part' → StandsLine t line room octets frames buffers c (part' ++ drop size room) buffers
  unfolding StandsLine
  signals_stand {part'} e k w l = rw (e, ← k, ← w) (part', (l, refl, refl))

  pub portions_stand : {call : Portions} {size : ℕ} {part' buffers' : List ℕ} → c ≡ Command.Portions call → size ≡ held t room
      → Stands (lent_all (portions_of t (take size room) line octets buffers call)) part' buffers'
      → StandsLine t line room octets frames buffers c (part' ++ drop size room) buffers'
  unfolding line_of StandsLine
  portions_stand {size} e k s = rw (e, ← k) (record { room = ap (λ (xs : List ℕ). xs ++ drop size room) s.room; buffers = s.buffers })

-- ---- the last way: neither `T` nor `S`, and no call that is lent a slot's buffer

abbrev NoMake : Command → Type 0
NoMake c = (n d m : ℕ) → c ≡ Command.Make n d m → ⊥

abbrev NoSignal : Command → Type 0
NoSignal c = (link : ℕ) (listening central : Bool) (pdu : Word) → c ≡ Command.Signal link listening central pdu → ⊥

abbrev NoPortions : Command → Type 0
NoPortions c = (call : Portions) → c ≡ Command.Portions call → ⊥

module _ (t : Table) (line room octets frames buffers : List ℕ) where
  played-is : (c : Command) → NoMake c → NoSignal c → NoPortions c
      → line_of t line room octets frames buffers c ≡ played t line room octets frames buffers c
  unfolding line_of
  played-is Command.Bad h k p = refl
  played-is (Command.Opening c) h k p = refl
  played-is (Command.Closing c) h k p = refl
  played-is (Command.Make n d m) h k p = absurd (h n d m refl)
  played-is (Command.Signal link listening central pdu) h k p = absurd (k link listening central pdu refl)
  played-is (Command.Opened slot link up) h k p = refl
  played-is (Command.Dispatch link cid payload) h k p = refl
  played-is (Command.Send slot job) h k p = refl
  played-is (Command.Receive slot size) h k p = refl
  played-is (Command.Queries slot) h k p = refl
  played-is (Command.Tallies slot) h k p = refl
  played-is Command.View h k p = refl
  played-is (Command.Room slot) h k p = refl
  played-is (Command.Portions c) h k p = absurd (p c refl)

  pub row_is : (c : Command) {u : Table} {size : ℕ} {part' : List ℕ}
      → NoMake c → NoSignal c → NoPortions c → size ≡ held t room
      → Leaves (left (play_of t (take size room) line octets frames c)) u part' → Serves (line_of t line room octets frames buffers c) u (part' ++ drop size room) buffers
  row_is c {u} {size} {part'} h k p e l =
      rw (played-is c h k p, ← e) (record { leaves = leaves-before (drop size room) l; buffers = refl })

  -- where its row can't be printed
  stands-line : (c : Command) {room' buffers' : List ℕ} → NoSignal c
      → Stands (line_of t line room octets frames buffers c) room' buffers' → StandsLine t line room octets frames buffers c room' buffers'
  unfolding StandsLine
  stands-line Command.Bad k s = s
  stands-line (Command.Opening c) k s = s
  stands-line (Command.Closing c) k s = s
  stands-line (Command.Make n d m) k s = s
  stands-line (Command.Signal link listening central pdu) k s = absurd (k link listening central pdu refl)
  stands-line (Command.Opened slot link up) k s = s
  stands-line (Command.Dispatch link cid payload) k s = s
  stands-line (Command.Send slot job) k s = s
  stands-line (Command.Receive slot size) k s = s
  stands-line (Command.Queries slot) k s = s
  stands-line (Command.Tallies slot) k s = s
  stands-line Command.View k s = s
  stands-line (Command.Room slot) k s = s
  stands-line (Command.Portions c) k s = s

  pub row_stands : (c : Command) {size : ℕ} {part' : List ℕ}
      → NoMake c → NoSignal c → NoPortions c → size ≡ held t room
      → part' ≡ (play_of t (take size room) line octets frames c).room → StandsLine t line room octets frames buffers c (part' ++ drop size room) buffers
  row_stands c {size} {part'} h k p e l =
      stands-line c k (rw (played-is c h k p, ← e) (record { room = ap (λ (xs : List ℕ). xs ++ drop size room) l; buffers = refl }))
