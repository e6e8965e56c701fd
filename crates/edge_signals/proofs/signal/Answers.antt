-- `edge_signals::signal` meets its contract: a good credit signal is `crediting`'s (signal-credits), and else it is the call's own, on the table that the octets spell.
use mathlib.Core.Path.{sym, ◌∙◌}
use Rattle.edge.specs.Edge.{on_table_lem}
use Rattle.edge_signals.specs.Crediting.{signal-credits}
use Rattle.edge_signals.proofs.signal.Goals as goal

pub returns-in-Some : goal.returns-in-Some
returns-in-Some c =
    let g = c.args in
    c.credit.ensures
    ∙ signal-credits g.table.now g.answer.now g.room.now g.signal.now g.link g.listening g.central g.pdu.now c.in-Some.ind (sym c.credits_in.ensures ∙ c.in-Some.is)

pub returns-in-None : goal.returns-in-None
returns-in-None c = on_table_lem _ _ _ c.decode-d.ensures (c.store.ensures _ _ _) c.signal-s.ensures
