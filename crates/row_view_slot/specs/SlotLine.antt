-- The line of a slot in a view (docs/CHANRUN.md, `V`): "= slot state link cid spsm mps mtu policy credits received peer_cid peer_mps peer_mtu
-- peer_credits hold have want queued" "and then the length of each waiting job, oldest first".
use Rattle.std.specs.Prelude.{List, [], ◌∷◌, ◌++◌, ℕ}
use Rattle.text_write.specs.Text.{text}
use Rattle.row_columns.specs.Columns.{columns_text}
use Rattle.channel.specs.declared.ChannelState.{ChannelState}
use Rattle.channel.specs.declared.Slot.{Slot}
use Rattle.definition.specs.Table.{cid_of}
use Rattle.row_view_names.specs.Names.{state_text, policy_text}
use Rattle.row_view_peer.specs.PeerLine.{peer_text}

-- `= slot state`
unfoldable pub head_text : ℕ → ChannelState → List ℕ
head_text s state = ((text "=" ++ columns_text (s ∷ [])) ++ text " ") ++ state_text state

-- `link cid spsm mps mtu policy credits received`; "cid is 64 + slot"
unfoldable pub local_text : ℕ → Slot → List ℕ
local_text s x =
    ((columns_text (x.link ∷ cid_of s ∷ x.spsm ∷ x.mps ∷ x.mtu ∷ []) ++ text " ") ++ policy_text x.account.policy)
    ++ columns_text (x.account.credits ∷ x.account.received ∷ [])

unfoldable pub slot_text : ℕ → Slot → List ℕ
slot_text s x = (head_text s x.state ++ local_text s x) ++ peer_text x
