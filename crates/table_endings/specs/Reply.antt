-- What a reply of the octets xs leaves in the buffer l, and how many they are; and how a call's proof reads that off the outcome.
use Rattle.std.specs.Prelude.{◌≡◌, List, [], ◌∷◌, ℕ, ◌≤◌, length, None, Option, Some}
use Rattle.std.proofs.Common.{sym, ◌∙◌, arith, le-ltb}
use Rattle.std.proofs.lemmas.List.Edits.{sets}
use Rattle.lists.specs.Choose.{choose}
use Rattle.signal_write.specs.Writer.{written_of, out_of, Writes}
use Rattle.channel.specs.declared.Answer.{Answer}
use Rattle.channel.specs.declared.Slot.{Slot}
use Rattle.channel.specs.declared.Table.{Table}
use Rattle.definition.specs.Mem.{given}
use Rattle.definition.specs.Table.{width, put_slot}
use Rattle.definition.specs.Outcome.{change}
use Rattle.definition.specs.Ending.{end, end_of, gave}
use Rattle.definition.proofs.Ending.{written_given, sizes_given, written_none, parts_none}
use Rattle.channel.specs.Limits.{signal_most}

pub record Replied (l xs : List ℕ) (n : ℕ) (out : List ℕ) : Type 0 where
  pub octets : n ≡ length xs
  pub buffer : out ≡ sets l 0 xs

pub replied : {l xs out : List ℕ} {r : Option ℕ} {n : ℕ} → signal_most ≤ length l → Writes l xs r out → r ≡ Some n → Replied l xs n out
unfolding written_of out_of choose
replied {l} {xs} {out} {r} {n} h w e =
    let f = le-ltb (length l) signal_most h in
    let a : Some n ≡ Some (length xs) = sym e ∙ w.answer ∙ rw f in
    record { octets = cc; buffer = w.buffer ∙ rw f }

pub refused : {l xs out : List ℕ} {r : Option ℕ} → signal_most ≤ length l → Writes l xs r out → r ≡ None → ⊥
unfolding written_of out_of choose
refused {l} {xs} {out} {r} h w e =
    let f = le-ltb (length l) signal_most h in
    let a : None ≡ Some (length xs) = sym e ∙ w.answer ∙ rw f in
    let z : ◌≡◌ {A = ℕ} 0 1 = cc in omega arith

-- a slot changes without a move, and given octets are written
pub end_slot_given : (t t' : Table) (s : ℕ) (x : Slot) (a : Answer) (jobs room out job xs : List ℕ)
    → end_of t jobs room out job (change t' s x [] a (given xs ∷ [])) ≡ end (gave a (put_slot t' s x) (length xs)) room (sets out 0 xs) job
unfolding end_of
end_slot_given t t' s x a jobs room out job xs =
    rw (written_given jobs room out xs, sizes_given xs, written_none jobs room job, parts_none jobs (width t) s room)
