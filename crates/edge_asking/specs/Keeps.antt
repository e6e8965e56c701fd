-- The questions give back the table that they are given: a refusal leaves it, and behind the gate nothing changes.
use Rattle.std.specs.Prelude.{◌≡◌, refl, [], ℕ, Err, None, Ok, Result, Some}
use Rattle.lists.specs.First.{first}
use Rattle.lists.specs.Bits.{bitset, count}
use Rattle.channel.specs.declared.Answer.{Answer}
use Rattle.channel.specs.declared.Answer.TheVariants.{Attention, Number}
use Rattle.channel.specs.declared.Slot.{Slot}
use Rattle.channel.specs.declared.Table.{Table}
use Rattle.definition.specs.Table.{live, slot_at, calls}
use Rattle.definition.specs.Outcome.{still, verdict, passed}
use Rattle.definition.specs.Asking.{attention, query}
use Rattle.codes.specs.declared.Refusal.{Refusal}

told-keeps : (t : Table) (v : Result (Unit {0}) Refusal) (a : Answer) → (passed t v (still t a [])).table ≡ t
told-keeps t (Ok tt) a = refl
told-keeps t (Err r) a = refl

pub query-keeps : (of : Slot → ℕ) (slot : ℕ) (t : Table) → (query of t slot).table ≡ t
unfolding query
query-keeps of slot t = told-keeps t (verdict t None None None (Some slot)) (Number (of (slot_at t slot)))

pub attention-keeps : (t : Table) → (attention t).table ≡ t
unfolding attention
attention-keeps t = told-keeps t (verdict t None None None None) (Attention (bitset calls (live t)) (count calls (live t)) (first calls (live t)))
