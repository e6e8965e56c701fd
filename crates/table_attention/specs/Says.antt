-- What a bit of the attention set says: bit k, that slot k calls; past the last slot none is set.
use Rattle.std.specs.Prelude.{◌≡◌, ℕ, ◌/◌, ◌%◌, ◌^◌, ◌≤◌, ◌<◌, length}
use Rattle.std.proofs.Common.{ap, ◌∙◌, arith, length-take, get_or-take}
use Rattle.lists.specs.Bits.{bit, bitset, bit-says, bit_past}
use Rattle.channel.specs.declared.Answer.TheVariants.{Attention}
use Rattle.channel.specs.declared.Table.{Table}
use Rattle.definition.specs.Table.{live, slot_at, gap, calls}

pub attention-bit : (t : Table) (k : ℕ) → k < t.n → k < length t.slots → bitset calls (live t) / 2 ^ k % 2 ≡ bit (calls (slot_at t k))
attention-bit t k h l =
    bit-says calls gap (live t) k (rw length-take (omega arith)) ∙ ap (λ x. bit (calls x)) (get_or-take t.n t.slots k gap h)

pub attention_past : (t : Table) (k : ℕ) → t.n ≤ k → bitset calls (live t) / 2 ^ k % 2 ≡ 0
attention_past t k h = bit_past calls (live t) k (rw length-take (omega arith))

-- an answer is told by its three numbers
pub attention-is : {set s n k l m : ℕ} → set ≡ s → n ≡ k → l ≡ m → Attention set n l ≡ Attention s k m
attention-is e f g = rw (e, f, g)
