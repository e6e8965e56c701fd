-- What the rules speak of: every state that a run from a made table reaches. The run is the one of the definition (Run.antt there), which
-- demand 3 speaks of too; here is only which numbers its calls may give, and what it reaches.
use Rattle.std.specs.Prelude.{◌≡◌, List, [], ◌∷◌, ℕ, ◌≤◌, ◌<◌, get_or, None, Option, Some}
use Rattle.channel.specs.Limits.{credits_most}
use Rattle.channel.specs.declared.Answer.TheVariants.{Done}
use Rattle.definition.specs.Asking.{make}
use Rattle.definition.specs.Calls.{Call, frame, sends, portions, down, plain, Request, register, signals, pends, rejects_all, accepts, rejects, drops, creates, opens, gives, holds, releases, leaves, leaves_cid, announces, takes, starts, cancels, attends, asks, sends_signal, writes}
use Rattle.definition.specs.Run.{State, after, made}

-- ---- numbers that fit their types

-- The credits that a call offers are a number of 16 bits, as in the code.
abbrev pub SettingFits : Option ℕ → Type 0
SettingFits None = Unit {0}
SettingFits (Some n) = n ≤ credits_most

-- A PDU is octets.
abbrev pub Octets : List ℕ → Type 0
Octets xs = (k : ℕ) → get_or xs k 0 < 256

-- Of all numbers that a call gives, only these come to stand in an account or in the peer's numbers: the credits that we offer, and those in a PDU.
abbrev pub RequestFits : Request → Type 0
RequestFits (register spsm) = Unit {0}
RequestFits (signals link listening central pdu) = Octets pdu
RequestFits (pends link up) = Unit {0}
RequestFits (rejects_all link) = Unit {0}
RequestFits (accepts s c) = SettingFits c.credits
RequestFits (rejects s result) = Unit {0}
RequestFits (drops s) = Unit {0}
RequestFits (creates link spsm c) = SettingFits c.credits
RequestFits (opens s link up) = Unit {0}
RequestFits (gives s) = Unit {0}
RequestFits (holds s) = Unit {0}
RequestFits (releases s) = Unit {0}
RequestFits (leaves s) = Unit {0}
RequestFits (leaves_cid cid) = Unit {0}
RequestFits announces = Unit {0}
RequestFits (takes s) = Unit {0}
RequestFits (starts s l) = Unit {0}
RequestFits (cancels s) = Unit {0}
RequestFits attends = Unit {0}
RequestFits (asks of s) = Unit {0}
RequestFits (sends_signal link s) = Unit {0}
RequestFits (writes octets) = Unit {0}

abbrev pub Fits : Call → Type 0
Fits (frame link cid payload) = Unit {0}
Fits (sends s sdu out) = Unit {0}
Fits (portions s octets out) = Unit {0}
Fits (down link) = Unit {0}
Fits (plain r out job) = RequestFits r

abbrev pub AllFit : List Call → Type 0
AllFit [] = Unit {0}
AllFit (c ∷ cs) = Fits c × AllFit cs

-- ---- what runs reach

-- A state that a run from a table made without refusal reaches, whatever memory the caller has beside the room.
pub data Reached : State → Type 0 where
  start : (n d m : ℕ) (room memory : List ℕ) → (make n d m room).answer ≡ Done → Reached (made n d m room memory)
  next : {s : State} (c : Call) → Reached s → Fits c → Reached (after s c)
