-- The calls of pending connections and of attempts, and the registering of an SPSM, as a command asks for them (docs/CHANRUN.md); and what stands
-- at the end of a call that is lent the room, a signal buffer, both or neither, for those of `called` too.
use Rattle.std.specs.Prelude.{List, [], ℕ, length}
use Rattle.channel.specs.declared.Served.{Served}
use Rattle.channel.specs.declared.Table.{Table}
use Rattle.definition.specs.Asking.{register_spsm}
use Rattle.definition.specs.Ending.{End, end, end_of, served_of}
use Rattle.definition.specs.Opening.{create, give_up}
use Rattle.definition.specs.Outcome.{Outcome}
use Rattle.definition.specs.Pending.{next_pending, reject_all_pending, accept_pending, reject_numbered, drop_pending}
use Rattle.script_commands.specs.declared.Opening.{Opening}
use Rattle.script_commands.specs.declared.Opening.TheVariants as Opening
use Rattle.script_commands.specs.Commands.{slot_number}

-- What a call is not lent stays as it was.
abbrev pub lent_room : (signal : List ℕ) → End → End
lent_room signal e = end e.served e.room signal []

abbrev pub lent_signal : (room : List ℕ) → End → End
lent_signal room e = end e.served room e.out []

abbrev pub lent_nothing : (room signal : List ℕ) → Served → End
lent_nothing room signal s = end s room signal []

module _ (t : Table) (room signal : List ℕ) where
  abbrev pub on_room : Outcome → End
  on_room o = lent_room signal (end_of t [] room [] [] o)

  abbrev pub on_signal : Outcome → End
  on_signal o = lent_signal room (end_of t [] [] signal [] o)

  abbrev pub on_both : Outcome → End
  on_both o = end_of t [] room signal [] o

  abbrev pub on_table : Outcome → End
  on_table o = lent_nothing room signal (served_of o)

  unfoldable pub end_opening : Opening → End
  end_opening (Opening.RegisterSpsm spsm) = on_table (register_spsm t spsm)
  end_opening (Opening.NextPending link up) = on_table (next_pending t link up)
  end_opening (Opening.RejectAllPending link) = on_both (reject_all_pending t (length room) (length signal) link)
  end_opening (Opening.AcceptPending slot config) = on_signal (accept_pending t (length signal) (slot_number slot) config)
  end_opening (Opening.RejectPending slot result) = on_both (reject_numbered t (length room) (length signal) (slot_number slot) result)
  end_opening (Opening.DropPending slot) = on_room (drop_pending t (length room) (slot_number slot))
  end_opening (Opening.Create link spsm config) = on_signal (create t (length signal) link spsm config)
  end_opening (Opening.GiveUp slot) = on_room (give_up t (length room) (slot_number slot))
