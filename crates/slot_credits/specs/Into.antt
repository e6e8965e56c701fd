-- A credit signal's work on one slot, put into the table, is the definition's `on_credits` behind its search; it writes nothing to an output.
use Rattle.std.specs.Prelude.{◌≡◌, Bool, [], ℕ, ◌+◌, leb, Some}
use Rattle.std.proofs.Math.Path.{refl}
use Rattle.std.proofs.Math.Bool.{true, false}
use Rattle.std.proofs.Math.Dec.{ltb}
use Rattle.lists.specs.Choose.{choose, if_cases}
use Rattle.codes.specs.declared.Refusal.TheVariants.{NotFound}
use Rattle.signal_forms.specs.declared.LeCreditFlowInd.{LeCreditFlowInd}
use Rattle.channel.specs.Limits.{credits_most}
use Rattle.channel.specs.declared.Slot.{Slot}
use Rattle.channel.specs.declared.Table.{Table}
use Rattle.definition.specs.Table.{place_of, slot_at, found, connected_to}
use Rattle.definition.specs.Outcome.{refuse}
use Rattle.definition.specs.Signals.{on_credits}
use Rattle.slot_work.specs.Work.{Work, in_table}
use Rattle.slot_credits.specs.Crediting.{credits_of}

pub credits-quiet : (place : ℕ) (x : Slot) (more : ℕ) → (credits_of place x more).out ≡ []
unfolding credits_of
credits-quiet place x more = if_cases (λ (w : Work). w.out ≡ []) (ltb credits_most (x.peer.credits + x.job.aside + more)) (λ _. refl) (λ _. refl)

module _ (t : Table) (link id : ℕ) (ind : LeCreditFlowInd) where
  -- no slot is searched for
  pub credits_astray : leb t.n (found (connected_to link ind.cid) t) ≡ true → on_credits t link id (Some ind) ≡ refuse t NotFound
  unfolding on_credits choose
  credits_astray e = rw e

  -- THE WORK ON THE SLOT THAT IS SEARCHED FOR
  pub credits-into : leb t.n (found (connected_to link ind.cid) t) ≡ false
      → on_credits t link id (Some ind) ≡ in_table t (found (connected_to link ind.cid) t) (credits_of (place_of t) (slot_at t (found (connected_to link ind.cid) t)) ind.credits)
  unfolding on_credits credits_of choose
  credits-into e = go (ltb credits_most ((slot_at t (found (connected_to link ind.cid) t)).peer.credits + (slot_at t (found (connected_to link ind.cid) t)).job.aside + ind.credits)) refl
    where
      go : (b : Bool) → ltb credits_most ((slot_at t (found (connected_to link ind.cid) t)).peer.credits + (slot_at t (found (connected_to link ind.cid) t)).job.aside + ind.credits) ≡ b
          → on_credits t link id (Some ind) ≡ in_table t (found (connected_to link ind.cid) t) (credits_of (place_of t) (slot_at t (found (connected_to link ind.cid) t)) ind.credits)
      go true f = rw (e, f)
      go false f = rw (e, f)
