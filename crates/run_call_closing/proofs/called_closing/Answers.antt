-- `run_call_closing::called_closing` meets its contract: in each arm what the match told is the definition's case, and the call's own contract is its end.
use mathlib.Core.Path.{ap}
use Rattle.run_call_opening.specs.Called.{lent_room, lent_signal, lent_nothing}
use Rattle.run_call_closing.specs.Called.{end_closing}
use Rattle.run_call_closing.proofs.called_closing.Goals as goal

pub returns-in-IncRef : goal.returns-in-IncRef
unfolding end_closing
returns-in-IncRef c = rw (c.in-IncRef.is, ← c.slot_of.ensures) (ap (lent_nothing _ _) c.inc_ref.ensures)

pub returns-in-DecRef : goal.returns-in-DecRef
unfolding end_closing
returns-in-DecRef c = rw (c.in-DecRef.is, ← c.slot_of-in-DecRef.ensures) (ap (lent_room _) c.dec_ref.ensures)

pub returns-in-Disconnect : goal.returns-in-Disconnect
unfolding end_closing
returns-in-Disconnect c = rw (c.in-Disconnect.is, ← c.slot_of-in-Disconnect.ensures) (ap (lent_room _) c.disconnect.ensures)

pub returns-in-DisconnectByCid : goal.returns-in-DisconnectByCid
unfolding end_closing
returns-in-DisconnectByCid c = rw c.in-DisconnectByCid.is (ap (lent_room _) c.disconnect_by_cid.ensures)

pub returns-in-Disconnected : goal.returns-in-Disconnected
unfolding end_closing
returns-in-Disconnected c = rw c.in-Disconnected.is (ap (lent_room _) c.disconnected.ensures)

pub returns-in-NextDisconnect : goal.returns-in-NextDisconnect
unfolding end_closing
returns-in-NextDisconnect c = rw c.in-NextDisconnect.is c.next_disconnect.ensures

pub returns-in-Attention : goal.returns-in-Attention
unfolding end_closing
returns-in-Attention c = rw c.in-Attention.is (ap (lent_nothing _ _) c.attention.ensures)

pub returns-in-SendConnParamUpdateReq : goal.returns-in-SendConnParamUpdateReq
unfolding end_closing
returns-in-SendConnParamUpdateReq c = rw c.in-SendConnParamUpdateReq.is (ap (lent_signal _) c.send_conn_param_update_req.ensures)

pub returns-in-SendConnParamUpdateRes : goal.returns-in-SendConnParamUpdateRes
unfolding end_closing
returns-in-SendConnParamUpdateRes c = rw c.in-SendConnParamUpdateRes.is (ap (lent_signal _) c.send_conn_param_update_res.ensures)
