-- Document 01, 'Bench set': one table, one theorem. The rows of credits and CIDs are computed over a worked run; the row of frame counts is crate
-- cutting's, for every job of those lengths.
use Rattle.std.specs.Prelude.{refl}
use Rattle.lists.specs.Choose.{choose}
use Rattle.lists.specs.First.{first}
use Rattle.lists.specs.Every.{every}
use Rattle.lists.specs.Fuel.{whole, fuelled}
use Rattle.signal_headers.specs.Headers.{headers_of}
use Rattle.signal_bodies.specs.LeCreditBodies.{le_credit_conn_req, le_credit_flow_ind}
use Rattle.sar_frames.specs.Theorems as Cut
use Rattle.definition.specs.Table.{slot_fits, well_formed}
use Rattle.definition.specs.Outcome.{verdict, only}
use Rattle.definition.specs.Asking.{make, register_spsm}
use Rattle.definition.specs.Pending.{next_pending, accept_pending}
use Rattle.definition.specs.Signals.{signalled, checked, handled, on_conn_req, on_credits}
use Rattle.definition.specs.Frames.{dispatch}
use Rattle.definition.specs.Calls.{decide, serve}
use Rattle.rules.specs.Bench.{Bench}

pub bench : Bench
unfolding make decide serve register_spsm signalled checked handled headers_of whole fuelled on_conn_req le_credit_conn_req on_credits le_credit_flow_ind next_pending accept_pending dispatch verdict well_formed slot_fits every first choose only
bench =
    record {
      counts = Cut.bench;
      held = refl;
      five_answer = refl;
      five = refl;
      five_state = refl;
      six_answer = refl;
      six = refl;
      six_state = refl;
      below = λ _ _. refl;
      names = refl;
      one = refl;
      one_answer = λ _ _. refl;
      above = λ _ _. refl;
    }
