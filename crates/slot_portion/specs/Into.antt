-- The work of the three calls on one slot, put into the table, is what the definition's calls come to behind their gate.
use Rattle.std.specs.Prelude.{◌≡◌, Bool, List, ℕ, ◌-◌, Result, Ok, Err}
use Rattle.std.proofs.Math.Path.{refl}
use Rattle.std.proofs.Common.{sym}
use Rattle.std.proofs.Math.Bool.{true, false, not}
use Rattle.std.proofs.Math.Dec.{eqb, ltb}
use Rattle.lists.specs.Choose.{choose}
use Rattle.sar_cut.specs.declared.Framed.{Framed}
use Rattle.channel.specs.declared.Table.{Table}
use Rattle.definition.specs.Table.{place_of, slot_at, is_connected, is_open}
use Rattle.definition.specs.Ending.{end_of}
use Rattle.definition.specs.Portions.{given_out, buffer_size, start_planned, start_on, portion_on, cancel_on}
use Rattle.slot_work.specs.Work.{end_kept}
use Rattle.slot_work.specs.Work as Work
use Rattle.slot_portion.specs.Filled.{in_table, refused_in, unsent_in}
use Rattle.slot_portion.specs.Starting.{start_planned_of, start_of}
use Rattle.slot_portion.specs.Giving.{portioned_of, portion_of}
use Rattle.slot_portion.specs.Cancelling.{cancel_of}
use Rattle.codes.specs.declared.Refusal.{Refusal}

module _ (t : Table) (s : ℕ) (jobs room buffer job : List ℕ) where
  -- ---- start
  planned-into : (l size : ℕ) (p : Result Framed Refusal)
      → end_of t jobs room buffer job (start_planned t s (slot_at t s) l size p) ≡ end_of t jobs room buffer job (in_table t s (start_planned_of (slot_at t s) l size p))
  unfolding start_planned start_planned_of choose
  planned-into l size (Err r) = unsent_in t s jobs room buffer job r
  planned-into l size (Ok framed) = go (ltb size (buffer_size (slot_at t s).peer.mps l)) refl
    where
      go : (b : Bool) → ltb size (buffer_size (slot_at t s).peer.mps l) ≡ b
          → end_of t jobs room buffer job (start_planned t s (slot_at t s) l size (Ok framed))
          ≡ end_of t jobs room buffer job (in_table t s (start_planned_of (slot_at t s) l size (Ok framed)))
      go true e = rw e (refused_in t s jobs room buffer job _)
      go false e = rw e

  -- THE WORK OF A START
  pub start-into : (l size : ℕ) → end_of t jobs room buffer job (start_on t s l size) ≡ end_of t jobs room buffer job (in_table t s (start_of (slot_at t s) l size))
  unfolding start_of choose
  start-into l size = go (not (is_connected (slot_at t s).state)) (is_open (slot_at t s).job) refl refl
    where
      go : (a b : Bool) → not (is_connected (slot_at t s).state) ≡ a → is_open (slot_at t s).job ≡ b
          → end_of t jobs room buffer job (start_on t s l size) ≡ end_of t jobs room buffer job (in_table t s (start_of (slot_at t s) l size))
      go true b e f = rw e (refused_in t s jobs room buffer job _)
      go false true e f = rw (e, f) (refused_in t s jobs room buffer job _)
      go false false e f = rw (e, f) (planned-into l size _)

  -- THE WORK OF A PORTION
  pub portion-into : (count size : ℕ) → end_of t jobs room buffer job (portion_on t s count size) ≡ end_of t jobs room buffer job (in_table t s (portion_of (slot_at t s) count size))
  unfolding portion_of portioned_of choose
  portion-into count size =
      go (not (is_connected (slot_at t s).state)) (not (is_open (slot_at t s).job)) (ltb size (buffer_size (slot_at t s).peer.mps (slot_at t s).job.length))
      (ltb ((slot_at t s).job.length - (slot_at t s).job.taken) count) refl refl refl refl
    where
      go : (a b c d : Bool) → not (is_connected (slot_at t s).state) ≡ a → not (is_open (slot_at t s).job) ≡ b
          → ltb size (buffer_size (slot_at t s).peer.mps (slot_at t s).job.length) ≡ c → ltb ((slot_at t s).job.length - (slot_at t s).job.taken) count ≡ d
          → end_of t jobs room buffer job (portion_on t s count size) ≡ end_of t jobs room buffer job (in_table t s (portion_of (slot_at t s) count size))
      go true b c d e f g h = rw e (refused_in t s jobs room buffer job _)
      go false true c d e f g h = rw (e, f) (refused_in t s jobs room buffer job _)
      go false false true d e f g h = rw (e, f, g) (refused_in t s jobs room buffer job _)
      go false false false true e f g h = rw (e, f, g, h) (refused_in t s jobs room buffer job _)
      go false false false false e f g h = rw (e, f, g, h)

  -- THE WORK OF A CANCEL
  pub cancel_into : end_of t jobs room buffer job (cancel_on t s) ≡ end_of t jobs room buffer job (Work.in_table t s (cancel_of (place_of t) (slot_at t s)))
  unfolding cancel_of choose
  cancel_into = go (not (is_connected (slot_at t s).state)) (not (is_open (slot_at t s).job)) (eqb (given_out (slot_at t s).job) 0) refl refl refl
    where
      go : (a b c : Bool) → not (is_connected (slot_at t s).state) ≡ a → not (is_open (slot_at t s).job) ≡ b → eqb (given_out (slot_at t s).job) 0 ≡ c
          → end_of t jobs room buffer job (cancel_on t s) ≡ end_of t jobs room buffer job (Work.in_table t s (cancel_of (place_of t) (slot_at t s)))
      go true b c e f g = rw e (sym (end_kept t s _ jobs room buffer job))
      go false true c e f g = rw (e, f) (sym (end_kept t s _ jobs room buffer job))
      go false false true e f g = rw (e, f, g)
      go false false false e f g = rw (e, f, g)
