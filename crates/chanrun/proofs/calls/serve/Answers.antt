-- `chanrun::calls::serve` meets its contract: the table's own room is the start of what is lent, and what stands behind it stays; each way of the line by
-- its command (made-is, signals_are, portions_are, row_is).
use Rattle.std.proofs.Common.{◌∙◌, ap, ℕ, min, length}
use Rattle.std.proofs.lemmas.Result.{IfOk-weaker, on_err_weaker}
use Rattle.chanrun.specs.ServedLaws.{made-is, signals_are, portions_are, row_is, made_stands, signals_stand, portions_stand, row_stands}
use Rattle.chanrun.proofs.calls.serve.Goals as goal

pub returns-in-Make : goal.returns-in-Make
returns-in-Make g c =
    let a = c.args in
    record {
      ok = IfOk-weaker c.make.result _ _ (λ u s. rw (← c.read_command-c.ensures) (made-is a.t a.line.now a.room.now a.octets.now a.frames.now a.buffers.now c.in-Make.is s)) c.make.ensures.ok;
      err = on_err_weaker c.make.result (λ s. rw (← c.read_command-c.ensures) (made_stands a.t a.line.now a.room.now a.octets.now a.frames.now a.buffers.now c.in-Make.is s)) c.make.ensures.err;
    }

pub returns-in-Signal : goal.returns-in-Signal
returns-in-Signal g c =
    let a = c.args in
    let size = c.least-size.ensures ∙ ap (λ (n : ℕ). min n (length a.room.now)) c.size_of.ensures in
    let word = c.first.ensures ∙ c.spelled-n.ensures in
    record {
      ok = IfOk-weaker c.every_signal.result _ _ (λ u l. rw (← c.read_command-c.ensures) (signals_are a.t a.line.now a.room.now a.octets.now a.frames.now a.buffers.now c.in-Signal.is size word l)) c.every_signal.ensures.ok;
      err = on_err_weaker c.every_signal.result (λ l. rw (← c.read_command-c.ensures) (signals_stand a.t a.line.now a.room.now a.octets.now a.frames.now a.buffers.now c.in-Signal.is size word l)) c.every_signal.ensures.err;
    }

pub returns-in-Portions : goal.returns-in-Portions
returns-in-Portions g c =
    let a = c.args in
    let size = c.least-size.ensures ∙ ap (λ (n : ℕ). min n (length a.room.now)) c.size_of.ensures in
    record {
      ok = IfOk-weaker c.portions.result _ _ (λ u s. rw (← c.read_command-c.ensures) (portions_are a.t a.line.now a.room.now a.octets.now a.frames.now a.buffers.now c.in-Portions.is size s)) c.portions.ensures.ok;
      err = on_err_weaker c.portions.result (λ s. rw (← c.read_command-c.ensures) (portions_stand a.t a.line.now a.room.now a.octets.now a.frames.now a.buffers.now c.in-Portions.is size s)) c.portions.ensures.err;
    }

pub returns : goal.returns
returns g c =
    let a = c.args in
    let size = c.least-size.ensures ∙ ap (λ (n : ℕ). min n (length a.room.now)) c.size_of.ensures in
    record {
      ok = IfOk-weaker c.one_row.result _ _ (λ u l. rw (← c.read_command-c.ensures) (row_is a.t a.line.now a.room.now a.octets.now a.frames.now a.buffers.now _ c.in_default.not-Make c.in_default-c.not-Signal c.in_default-c-2.not-Portions size l)) c.one_row.ensures.ok;
      err = on_err_weaker c.one_row.result (λ l. rw (← c.read_command-c.ensures) (row_stands a.t a.line.now a.room.now a.octets.now a.frames.now a.buffers.now _ c.in_default.not-Make c.in_default-c.not-Signal c.in_default-c-2.not-Portions size l)) c.one_row.ensures.err;
    }
