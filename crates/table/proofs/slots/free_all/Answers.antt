use mathlib.Core.Path.{◌≡◌, refl, ap, ◌∙◌}
use native.Mathlib.Omega.{arith}
use borrow.Author.Rules.{rules}
use lib.ListN.{length, set}
use Rattle.lists.specs.Each.{mapped_none, mapped_more, mapped_all}
use Rattle.channel.specs.Limits.{slots_most}
use Rattle.definition.specs.Table.{with_slots}
use Rattle.table.proofs.slots.free_all.Goals as goal

pub loop-i-init : goal.loop-i-init
loop-i-init c = (refl, mapped_none)

pub loop-i-preserved : goal.loop-i-preserved
loop-i-preserved c =
    let l = c.loop-i in
    let e : length c.args.t.slots ≡ slots_most = search rules in (
      ap (λ x. with_slots x (set l.u.slots l.i c.freed_if.result)) l.invariant.0,
      rw c.freed_if.ensures (mapped_more l.invariant.1 _ (omega arith)),
    )

pub returns : goal.returns
returns c =
    let l = c.loop-i in
    let t = c.args.t in
    let e : length t.slots ≡ slots_most = search rules in
    l.invariant.0 ∙ ap (with_slots t) (mapped_all l.invariant.1 t.n (omega arith))
