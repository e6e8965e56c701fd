-- What a call answers, as 16 octets, for whoever calls from another language. Numbers have the lower octet first.
--   octet 0        the kind: 0 Done, 1 Refused, 2 At, 3 Link, 4 Opened, 5 Due, 6 Frames, 7 Job, 8 Attention, 9 Number, 10 Event, 12 Portion (11 is a run's: `edge_run`)
--   octet 1        the refusal's number (document 01), 0 where nothing is refused
--   octets 2..6    how many octets the call wrote at the start of the signal buffer or frame output
--   octets 6..14   four numbers: what the answer carries, in its fields' order, then zeros; of refusal 17 the result code
--   octets 14, 15  zeros
use Rattle.std.specs.Prelude.{List, ◌∷◌, ◌++◌, ℕ, ◌/◌, ◌%◌, min}
use Rattle.octets.specs.Octets.{le16}
use Rattle.channel.specs.declared.Served.{Served}
use Rattle.channel_answer.specs.declared.Told.{Told}
use Rattle.channel_answer.specs.Tells.{tells}

-- four octets of a number; one that takes more is told as the greatest
abbrev pub le32 : ℕ → List ℕ
le32 n = le16 (min n 4294967295 % 65536) ++ le16 (min n 4294967295 / 65536)

abbrev pub told_octets : Told → ℕ → List ℕ
told_octets x n = x.kind ∷ x.refusal ∷ le32 n ++ (le16 x.first ++ (le16 x.second ++ (le16 x.third ++ (le16 x.fourth ++ le16 0))))

unfoldable pub answer_octets : Served → List ℕ
answer_octets s = told_octets (tells s.answer) s.octets
