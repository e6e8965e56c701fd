-- The paper's number of an answer: 0, or the number of the refusal (document 01, 'What a refusal says and leaves').
use Rattle.std.specs.Prelude.{◌≡◌, refl, false, eqb}
use Rattle.codes.specs.declared.Refusal.{Refusal}
use Rattle.codes.specs.declared.Refusal.TheVariants as Refusal
use Rattle.channel.specs.declared.Answer.TheVariants.{Refused}
use Rattle.channel_answer.specs.Tells.{answer_number}

-- no refusal answers 0
pub refused_not_0 : (r : Refusal) → eqb (answer_number (Refused r)) 0 ≡ false
refused_not_0 Refusal.BadTable = refl
refused_not_0 Refusal.BadRoom = refl
refused_not_0 Refusal.NoRoom = refl
refused_not_0 Refusal.BadHandle = refl
refused_not_0 Refusal.BadSpsm = refl
refused_not_0 Refusal.BadSlot = refl
refused_not_0 Refusal.InvalidChannelId = refl
refused_not_0 Refusal.NotFound = refl
refused_not_0 Refusal.InvalidValue = refl
refused_not_0 Refusal.OutOfMemory = refl
refused_not_0 Refusal.ChannelClosed = refl
refused_not_0 Refusal.InsufficientSpace = refl
refused_not_0 Refusal.NoChannelAvailable = refl
refused_not_0 Refusal.Busy = refl
refused_not_0 Refusal.Decode = refl
refused_not_0 Refusal.NotSupported = refl
refused_not_0 (Refusal.ConnectError c) = refl
refused_not_0 Refusal.Disconnected = refl
refused_not_0 Refusal.ShortFrame = refl
refused_not_0 Refusal.BadMps = refl
refused_not_0 Refusal.QueueFull = refl
refused_not_0 Refusal.Held = refl
refused_not_0 Refusal.TooLong = refl
refused_not_0 Refusal.JobOpen = refl
refused_not_0 Refusal.WrongLength = refl
