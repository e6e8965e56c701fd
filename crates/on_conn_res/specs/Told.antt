-- What the response to an attempt is answered, by the state in which it leaves the slot: 17 with the result where it has failed, 9 where it is left, and else 0. The code makes the definition's tests (`answered`)
-- once, for the slot, and tells the answer from this.
use Rattle.codes.specs.declared.Refusal.TheVariants.{InvalidValue, ConnectError}
use Rattle.channel.specs.declared.Answer.{Answer}
use Rattle.channel.specs.declared.Answer.TheVariants.{Done, Refused}
use Rattle.channel.specs.declared.ChannelState.{ChannelState}
use Rattle.channel.specs.declared.ChannelState.TheVariants.{Disconnected, Connecting, PeerConnecting, Connected, ConnectFailed, PeerDisconnecting, Disconnecting}

abbrev pub told_of : ChannelState → Answer
told_of Disconnected = Done
told_of (Connecting id) = Done
told_of (PeerConnecting id) = Done
told_of Connected = Done
told_of (ConnectFailed result) = Refused (ConnectError result)
told_of (PeerDisconnecting id) = Done
told_of (Disconnecting announced) = Refused InvalidValue
