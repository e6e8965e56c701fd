-- THE TALLIES: what is said of them (document 02 (vi)): what a call adds to them, what resets them, and what they are after many calls. The theorems are in Theorems.antt, over
-- calls and runs of the definition (Calls.antt, Run.antt), and of runs of the code in Code.antt.
use Rattle.std.specs.Prelude.{◌≡◌, Bool, true, false, ◌&&◌, ◌||◌, not, List, [], ◌∷◌, ℕ, zero, suc, ◌+◌, ◌%◌, ◌^◌, ◌<◌, eqb, ltb, leb}
use Rattle.lists.specs.Bits.{bit}
use Rattle.lists.specs.Choose.{choose}
use Rattle.channel.specs.declared.Answer.{Answer}
use Rattle.channel.specs.declared.Answer.TheVariants.{Done}
use Rattle.channel.specs.declared.ChannelState.{ChannelState}
use Rattle.channel.specs.declared.Slot.{Slot}
use Rattle.channel.specs.declared.Table.{Table}
use Rattle.channel.specs.declared.Tallies.{Tallies}
use Rattle.definition.specs.Table.{slot_at, cid_of, is_disconnected, is_connected, is_disconnecting, no_tallies, no_tally, counted}
use Rattle.definition.specs.Numbers.{answer_number}
use Rattle.definition.specs.Outcome.{Outcome}
use Rattle.definition.specs.Calls.{Call, frame, sends, portions, down, plain, bare, decide}
use Rattle.definition.specs.Asking.{make}
use Rattle.definition.specs.Run.{State, outcome, after, made, run}
use Rattle.definition.specs.Forms.{Fit}
use Rattle.rules.specs.Run.{Fits, AllFit, Reached}
use Rattle.rules_tallies.specs.Words.{frames_of, starts_on}

-- ---- what a call adds to the tallies of slot i, told from the call and its answer; of a frame also from the slot that it finds

-- "A refusal by 14 or 10 counts as blocked": 1, however many frames were to go out.
abbrev pub blocked_by : ℕ → Answer → ℕ
blocked_by n a = bit (eqb (answer_number a) n)

-- one of the refusals that come first: 1 to 6
abbrev pub comes_first : Answer → Bool
comes_first a = ltb 0 (answer_number a) && leb (answer_number a) 6

-- A frame on this link uses a credit of its slot, whatever then becomes of it: the slot is Connected, of that link, and has one.
abbrev pub has_credit : Slot → Bool
has_credit x = ltb 0 x.account.credits

abbrev pub uses_credit : (link : ℕ) → Answer → Slot → Bool
uses_credit link a x = is_connected x.state && (eqb x.link link && (has_credit x && not (comes_first a)))

-- A send or a start, if it is on the slot: "A send adds n when its credits are taken or set aside", the frames that its answer 0 tells (Words.antt).
abbrev pub of_send : Bool → Answer → Tallies
of_send its a = choose its (record { sends = record { frames = frames_of a; blocked = blocked_by 14 a }; receives = no_tally }) no_tallies

-- a frame, if it is to the slot's CID
abbrev pub of_frame : Bool → (link : ℕ) → Answer → Slot → Tallies
of_frame its link a x = choose its (record { sends = no_tally; receives = record { frames = bit (uses_credit link a x); blocked = blocked_by 10 a } }) no_tallies

-- A send, a start and a frame add; a portion, a cancel and every other call add nothing.
abbrev pub adds : Table → (i : ℕ) → Call → Answer → Tallies
adds t i (frame link cid payload) a = of_frame (eqb cid (cid_of i)) link a (slot_at t i)
adds t i (sends s sdu out) a = of_send (eqb i s) a
adds t i (portions s octets out) a = no_tallies
adds t i (down link) a = no_tallies
adds t i (plain r out tray) a = of_send (starts_on i r) a

-- ---- what resets them, told from the slot's state before and after

-- "Reset them when our side turns Connected into Disconnecting .. and also whenever the slot is freed"; and one that is given out starts with none.
abbrev pub resets : (before after : ChannelState) → Bool
resets k j = (is_disconnected k && not (is_disconnected j)) || ((not (is_disconnected k) && is_disconnected j) || (is_connected k && is_disconnecting j))

-- ---- one call

-- n more, "wrapping"; where nothing is added the tally is as it was
abbrev pub plus : (tally n : ℕ) → ℕ
plus tally zero = tally
plus tally (suc n) = counted tally (suc n)

abbrev pub plus_all : (before added : Tallies) → Tallies
plus_all y a =
    record {
      sends = record { frames = plus y.sends.frames a.sends.frames; blocked = plus y.sends.blocked a.sends.blocked };
      receives = record { frames = plus y.receives.frames a.receives.frames; blocked = plus y.receives.blocked a.receives.blocked };
    }

-- Slot x becomes y: nothing is counted, where the call resets it; else what the call adds is added.
pub record Tallied (x y : Slot) (added : Tallies) : Type 0 where
  pub is : y.tallies ≡ choose (resets x.state y.state) no_tallies (plus_all x.tallies added)

-- ONE CALL: every call, on every table that has its slots, with every size, and every slot.
abbrev pub Tells : Table → Call → Outcome → Type 0
Tells t c o = (i : ℕ) → i < t.n → Tallied (slot_at t i) (slot_at o.table i) (adds t i c o.answer)

abbrev pub OneCall : Type 0
OneCall = (t : Table) → Fit t → (c : Call) (count room out job : ℕ) → Tells t c (decide t (bare t c) count room out job)

-- ---- many calls

-- what two calls add: plain sums
abbrev pub both : Tallies → Tallies → Tallies
both a b =
    record {
      sends = record { frames = a.sends.frames + b.sends.frames; blocked = a.sends.blocked + b.sends.blocked };
      receives = record { frames = a.receives.frames + b.receives.frames; blocked = a.receives.blocked + b.receives.blocked };
    }

-- the sum of what these calls add to slot i
unfoldable pub added : (i : ℕ) → State → List Call → Tallies
added i s [] = no_tallies
added i s (c ∷ cs) = both (adds s.table i c (outcome s c).answer) (added i (after s c) cs)

-- None of these calls resets slot i.
abbrev pub Unreset : (i : ℕ) → State → List Call → Type 0
Unreset i s [] = Unit {0}
Unreset i s (c ∷ cs) = (resets (slot_at s.table i).state (slot_at (after s c).table i).state ≡ false) × Unreset i (after s c) cs

-- What stood before, and what was added, modulo 2^64.
pub record Totals (before added after : Tallies) : Type 0 where
  pub sent : after.sends.frames ≡ (before.sends.frames + added.sends.frames) % 2 ^ 64
  pub blocked_sends : after.sends.blocked ≡ (before.sends.blocked + added.sends.blocked) % 2 ^ 64
  pub received : after.receives.frames ≡ (before.receives.frames + added.receives.frames) % 2 ^ 64
  pub blocked_receives : after.receives.blocked ≡ (before.receives.blocked + added.receives.blocked) % 2 ^ 64

-- IN EVERY RUN, UNTIL A RESET
abbrev pub EveryRun : Type 0
EveryRun = (s : State) → Reached s → (cs : List Call) → AllFit cs → (i : ℕ) → i < s.table.n → Unreset i s cs
    → Totals (slot_at s.table i).tallies (added i s cs) (slot_at (run s cs).table i).tallies

-- FROM A MAKING OR A RESET ON, where nothing is counted yet: s was made, or left by a call that reset slot i. (The theorems on these are named for what they say: Theorems.antt.)
pub data Since (i : ℕ) : State → Type 0 where
  making : (n d m : ℕ) (room memory : List ℕ) → (make n d m room).answer ≡ Done → Since i (made n d m room memory)
  reset : {s : State} (c : Call) → Reached s → Fits c → i < s.table.n → resets (slot_at s.table i).state (slot_at (after s c).table i).state ≡ true → Since i (after s c)
