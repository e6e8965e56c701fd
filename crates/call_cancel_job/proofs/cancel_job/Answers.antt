-- `call_cancel_job::cancel_job` meets its contract: behind the gate, which tells that the credits fit, the work on the slot, put into the table, is the definition's cancel (cancel_into).
use mathlib.Core.Path.{sym, ◌∙◌}
use mathlib.Core.List.{[]}
use Rattle.definition.specs.Table.{place_of, slot_at}
use Rattle.definition.proofs.Ending.{written_none}
use Rattle.definition.specs.Portions.{cancel_job}
use Rattle.table_room.specs.Placed.{room_of, placed}
use Rattle.table_gate.specs.Behind.{behind, on, stopped, ended}
use Rattle.slot_work.specs.Work.{works_in}
use Rattle.slot_portion.specs.Cancelling.{cancel_of, cancel_quiet, sum_fits}
use Rattle.slot_portion.specs.Into.{cancel_into}
use Rattle.call_cancel_job.proofs.cancel_job.Goals as goal

pub cancel_at-w-requires : goal.cancel_at-w-requires
cancel_at-w-requires c =
    let t = c.args.t in
    let s = c.number-s.result in
    let p = behind c.gate.ensures c.in-Ok.is in
    (placed (room_of p) s p.slot_is, rw c.slot_at-x.ensures (sum_fits t s p.formed p.slot_is))

pub returns-in-Err : goal.returns-in-Err
unfolding cancel_job
returns-in-Err c =
    rw (
      ← c.number-s.ensures,
      stopped c.gate.ensures c.in-Err.is,
    ) (ended c.refused.ensures _ _)

pub returns-in-Ok : goal.returns-in-Ok
unfolding cancel_job
returns-in-Ok c =
    let a = c.args in
    let t = a.t in
    let s = c.number-s.result in
    let room = a.room.now in
    let x = slot_at t s in
    let worked = rw c.slot_at-x.ensures at c.cancel_at-w.ensures in
    rw (
      ← c.number-s.ensures,
      on c.gate.ensures c.in-Ok.is,
    )
    (works_in t s (cancel_of (place_of t) x) [] room [] [] c.changed.ensures worked.0 worked.1 (rw (cancel_quiet (place_of t) x) (sym (written_none [] room [])))
    ∙ sym (cancel_into t s [] room [] []))
