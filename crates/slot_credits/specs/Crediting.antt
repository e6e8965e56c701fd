-- What a credit signal makes of the slot that it is for, and of that slot's part of the room: the definition's `on_credits` behind its search, of one slot.
use Rattle.std.specs.Prelude.{false, [], ◌∷◌, ℕ, ◌+◌, ltb}
use Rattle.codes.specs.declared.Refusal.TheVariants.{InvalidValue}
use Rattle.channel.specs.Limits.{credits_most}
use Rattle.channel.specs.declared.Answer.TheVariants.{Done, Refused}
use Rattle.channel.specs.declared.ChannelState.TheVariants.{Disconnecting}
use Rattle.channel.specs.declared.Slot.{Slot}
use Rattle.definition.specs.Table.{when◌then◌else◌, with_peer_credits, left}
use Rattle.definition.specs.Outcome.{unassembled}
use Rattle.slot_work.specs.Work.{Work, becomes}

-- "A sum above 65,535: Disconnecting, credits kept." The sum "counts credits set aside" (document 02).
unfoldable pub credits_of : (place : ℕ) → Slot → (more : ℕ) → Work
credits_of place x more =
    when ltb credits_most (x.peer.credits + x.job.aside + more) then becomes (left (Disconnecting false) x) (unassembled place ∷ []) (Refused InvalidValue)
    else becomes (with_peer_credits (x.peer.credits + more) x) [] Done
