-- What each call hands out to the caller's memory: a take, to its job buffer alone, octets of the slot's own part of the room; a send, its
-- SDU; a portion, its octets; all else are octets that the call worked out itself. proofs/Handed.antt has one lemma a call, and `hands` for all of them.
use Rattle.std.specs.Prelude.{◌≡◌, Bool, false, ◌&&◌}
use Rattle.std.proofs.Math.Bool.{true}
use mathlib.Core.List.{List, [], ◌∷◌}
use Prim.Native.Nat.{ℕ, ◌+◌, ◌*◌, ◌≤◌, ◌<◌}
use Rattle.channel.specs.declared.Table.{Table}
use Rattle.definition.specs.Table.{slot_at, width}
use Rattle.definition.specs.Outcome.{Outcome}
use Rattle.definition.specs.Calls.{Holder, holder}
use Rattle.definition.specs.Mem.{Fill, zeros, given, job, held}

-- ---- whose what is written is. c: whose the call's job octets are; h: whose what is handed out is.

-- `count` octets of the room from `from` on lie in the part of a slot that is h's.
pub record OwnPart (t : Table) (h : Holder) (from count : ℕ) : Type 0 where
  pub slot : ℕ
  pub within : slot < t.n
  pub whose : holder (slot_at t slot) ≡ h
  pub low : slot * width t ≤ from
  pub high : from + count ≤ slot * width t + width t

pub data OwnFill (t : Table) (c h : Holder) : Fill → Type 0 where
  zeroed : {n : ℕ} → OwnFill t c h (zeros n)
  worked : {xs : List ℕ} → OwnFill t c h (given xs)
  carried : {from n : ℕ} → c ≡ h → OwnFill t c h (job from n)
  stored : {from n : ℕ} → OwnPart t h from n → OwnFill t c h (held from n)

pub data OwnFills (t : Table) (c h : Holder) : List Fill → Type 0 where
  none : OwnFills t c h []
  more : {f : Fill} {fs : List Fill} → OwnFill t c h f → OwnFills t c h fs → OwnFills t c h (f ∷ fs)

-- To its output a call writes only what is f's, to its job buffer only what is h's.
pub record Hands (t : Table) (c f h : Holder) (o : Outcome) : Type 0 where
  pub out : OwnFills t c f o.out
  pub tray : OwnFills t c h o.job

-- ---- calls that write only what they worked out

abbrev pub plain_fill : Fill → Bool
plain_fill (zeros n) = true
plain_fill (given xs) = true
plain_fill (job from n) = false
plain_fill (held from n) = false

abbrev pub plain_fills : List Fill → Bool
plain_fills [] = true
plain_fills (f ∷ fs) = plain_fill f && plain_fills fs

pub record Quiet (o : Outcome) : Type 0 where
  pub out : plain_fills o.out ≡ true
  pub tray : plain_fills o.job ≡ true
