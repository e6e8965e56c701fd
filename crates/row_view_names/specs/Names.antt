-- The names of a view (docs/CHANRUN.md, `V`).
use Rattle.std.specs.Prelude.{List, ◌++◌, ℕ}
use Rattle.text_write.specs.Text.{text}
use Rattle.lists.specs.Choose.{choose}
use Rattle.codes.specs.Codes.{result_number}
use Rattle.text_decimal.specs.NumberText.{number_text}
use Rattle.credit.specs.declared.CreditFlowPolicy.{CreditFlowPolicy}
use Rattle.credit.specs.declared.CreditFlowPolicy.TheVariants as CreditFlowPolicy
use Rattle.channel.specs.declared.ChannelState.{ChannelState}
use Rattle.channel.specs.declared.ChannelState.TheVariants as ChannelState

-- "state is one of `disconnected`, `connecting:ID`, `peer-connecting:ID`, `connected`, `connect-failed:CODE`, `peer-disconnecting:ID`,
-- `disconnecting`, `disconnecting:announced`"
unfoldable pub state_text : ChannelState → List ℕ
state_text ChannelState.Disconnected = text "disconnected"
state_text (ChannelState.Connecting id) = text "connecting:" ++ number_text id
state_text (ChannelState.PeerConnecting id) = text "peer-connecting:" ++ number_text id
state_text ChannelState.Connected = text "connected"
state_text (ChannelState.ConnectFailed code) = text "connect-failed:" ++ number_text (result_number code)
state_text (ChannelState.PeerDisconnecting id) = text "peer-disconnecting:" ++ number_text id
state_text (ChannelState.Disconnecting announced) =
    choose announced (text "disconnecting:announced") (text "disconnecting")

-- "policy `eK` is Every(K), `mT` MinThreshold(T)"
unfoldable pub policy_text : CreditFlowPolicy → List ℕ
policy_text (CreditFlowPolicy.Every k) = text "e" ++ number_text k
policy_text (CreditFlowPolicy.MinThreshold t) = text "m" ++ number_text t
