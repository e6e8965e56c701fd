-- The calls of holds and disconnects, of the attention set and of the parameter signals, as a command asks for them (docs/CHANRUN.md).
use Rattle.std.specs.Prelude.{List, ℕ, length}
use Rattle.channel.specs.declared.Table.{Table}
use Rattle.definition.specs.Asking.{attention, send_conn_param_update_req, send_conn_param_update_res}
use Rattle.definition.specs.Closing.{inc_ref, dec_ref, disconnect, disconnect_by_cid, disconnected, next_disconnect}
use Rattle.definition.specs.Ending.{End}
use Rattle.script_commands.specs.declared.Closing.{Closing}
use Rattle.script_commands.specs.declared.Closing.TheVariants as Closing
use Rattle.script_commands.specs.Commands.{slot_number}
use Rattle.run_call_opening.specs.Called.{on_room, on_signal, on_both, on_table}

module _ (t : Table) (room signal : List ℕ) where
  unfoldable pub end_closing : Closing → End
  end_closing (Closing.IncRef slot) = on_table t room signal (inc_ref t (slot_number slot))
  end_closing (Closing.DecRef slot) = on_room t room signal (dec_ref t (length room) (slot_number slot))
  end_closing (Closing.Disconnect slot) = on_room t room signal (disconnect t (length room) (slot_number slot))
  end_closing (Closing.DisconnectByCid cid) = on_room t room signal (disconnect_by_cid t (length room) cid)
  end_closing (Closing.Disconnected link) = on_room t room signal (disconnected t (length room) link)
  end_closing Closing.NextDisconnect = on_both t room signal (next_disconnect t (length room) (length signal))
  end_closing Closing.Attention = on_table t room signal (attention t)
  end_closing (Closing.SendConnParamUpdateReq link least most latency timeout) = on_signal t room signal (send_conn_param_update_req t (length signal) link least most latency timeout)
  end_closing (Closing.SendConnParamUpdateRes link result) = on_signal t room signal (send_conn_param_update_res t (length signal) link result)
