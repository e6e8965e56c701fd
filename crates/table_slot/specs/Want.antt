-- What a slot is searched for, as a value: each search of the crate `definition` by its name.
use Rattle.std.specs.Prelude.{Bool}
use Rattle.channel.specs.declared.Slot.{Slot}
use Rattle.definition.specs.Table.{is_free, of_link, pending_of, unheld_pending_of, attempt_of, attempt_by, connected_to, uses_peer, due_slot, calls}
use Rattle.table_slot.specs.declared.Want.{Want}
use Rattle.table_slot.specs.declared.Want.TheVariants.{Free, OfLink, PendingOf, UnheldPendingOf, AttemptOf, AttemptBy, ConnectedTo, UsesPeer, Due, Calls}

abbrev pub wanted : Want → Slot → Bool
wanted Free x = is_free x
wanted (OfLink l) x = of_link l x
wanted (PendingOf l) x = pending_of l x
wanted (UnheldPendingOf l) x = unheld_pending_of l x
wanted (AttemptOf l) x = attempt_of l x
wanted (AttemptBy l id) x = attempt_by l id x
wanted (ConnectedTo l cid) x = connected_to l cid x
wanted (UsesPeer l cid) x = uses_peer l cid x
wanted Due x = due_slot x
wanted Calls x = calls x
