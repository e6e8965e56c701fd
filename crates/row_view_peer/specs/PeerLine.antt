-- The end of a slot's line in a view (docs/CHANRUN.md, `V`): "peer_cid peer_mps peer_mtu peer_credits hold have want queued" "and then the length
-- of each waiting job, oldest first".
use Rattle.std.specs.Prelude.{List, [], ◌∷◌, ◌++◌, ℕ, min, take}
use Rattle.text_write.specs.Text.{text}
use Rattle.row_columns.specs.Columns.{columns_text}
use Rattle.channel.specs.Limits.{depth_most}
use Rattle.channel.specs.declared.Queue.{Queue}
use Rattle.channel.specs.declared.Slot.{Slot}

-- `queued`, and the lengths of the waiting jobs
unfoldable pub jobs_text : Queue → List ℕ
jobs_text q = columns_text (q.count ∷ []) ++ columns_text (take (min q.count depth_most) q.lens)

-- `peer_cid peer_mps peer_mtu peer_credits hold have want`, the jobs, and the line's end
unfoldable pub peer_text : Slot → List ℕ
peer_text x =
    ((columns_text (x.peer.cid ∷ x.peer.mps ∷ x.peer.mtu ∷ x.peer.credits ∷ []) ++ columns_text (x.hold ∷ x.assembly.have ∷ x.assembly.want ∷ []))
    ++ jobs_text x.queue)
    ++ text "\n"
