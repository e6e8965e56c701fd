-- `edge_layout_encode::head::put_spsms` meets its contract: all of the array is copied (whole_part).
use mathlib.Core.Path.{◌≡◌}
use lib.ListN.{length}
use Rattle.edge_layout.specs.Layout.{spsm_octets}
use Rattle.edge_layout_encode.specs.Head.{whole_part}
use borrow.Author.Rules.{rules}
use Rattle.edge_layout_encode.proofs.head.put_spsms.Goals as goal

pub returns : goal.returns
returns c =
    let a = c.args in
    let e : length a.spsms ≡ spsm_octets = search rules in
    rw (c.copy_to.ensures, whole_part a.spsms e)
