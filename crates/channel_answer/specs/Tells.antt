-- What an answer tells, in numbers: its kind, its refusal's number, and what it carries. Octets (edge_answer), rows (row_answer,
-- row_call) and the promises of the definition have an answer's number and values from here.
use Rattle.std.specs.Prelude.{◌≡◌, ℕ, min}
use Rattle.lists.specs.Bits.{bit}
use Rattle.codes.specs.Codes.{refusal_number, result_in}
use Rattle.octets.specs.Limbs.{limb₀, limb₁, limb₂, limb₃, of_limbs, limbs_back}
use Rattle.channel.specs.declared.Answer.{Answer}
use Rattle.channel.specs.declared.Answer.TheVariants as Answer
use Rattle.channel_answer.specs.declared.Told.{Told}
use Rattle.channel_answer.specs.Kinds as Kind

-- a count above 65,535, which no table and no job reaches, is told as that
abbrev pub shown : ℕ → ℕ
shown n = min n 65535

abbrev pub told_by : (kind refusal first second third fourth : ℕ) → Told
told_by kind refusal first second third fourth = record { kind = kind; refusal = refusal; first = first; second = second; third = third; fourth = fourth }

abbrev pub tells : Answer → Told
tells Answer.Done = told_by Kind.done 0 0 0 0 0
tells (Answer.Refused r) = told_by Kind.refused (refusal_number r) (result_in r) 0 0 0
tells (Answer.At slot) = told_by Kind.at 0 slot.0 0 0 0
tells (Answer.Link link) = told_by Kind.link 0 link 0 0 0
tells Answer.Opened = told_by Kind.opened 0 0 0 0 0
tells (Answer.Due link slot) = told_by Kind.due 0 link slot.0 0 0
tells (Answer.Frames link count) = told_by Kind.frames 0 link (shown count) 0 0
tells (Answer.Job link length) = told_by Kind.job 0 link length 0 0
tells (Answer.Attention set count lowest) = told_by Kind.attention 0 set count lowest 0
tells (Answer.Number n) = told_by Kind.number 0 (limb₀ n) (limb₁ n) (limb₂ n) (limb₃ n)
tells (Answer.Event least most latency timeout) = told_by Kind.event 0 least most latency timeout
tells (Answer.Portion link taken full) = told_by Kind.portion 0 link (shown taken) (bit full) 0

-- the paper's number of an answer: 0, or the number of the refusal (document 01, 'What a refusal says and leaves')
abbrev pub answer_number : Answer → ℕ
answer_number a = (tells a).refusal

-- the number that an answer of that kind told, in four of 16 bits
abbrev pub number_told : Told → ℕ
number_told x = of_limbs x.first x.second x.third x.fourth

pub number-told : (n : ℕ) → number_told (tells (Answer.Number n)) ≡ n
number-told n = limbs_back n
