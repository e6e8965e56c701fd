-- The rows of docs/CHANRUN.md, each with its newline: "for each call ANSWER OCTETS and the columns listed".
pub use Rattle.row_call.specs.PlainRows.{bad_text, row_text, more_text}
use Rattle.std.specs.Prelude.{List, [], ◌∷◌, ◌++◌, ℕ, ◌+◌, eqb, take}
use Rattle.text_write.specs.Text.{text}
use Rattle.lists.specs.Choose.{choose}
use Rattle.text_hex_write.specs.HexText.{hex_text}
use Rattle.row_answer.specs.Answers.{answer_text}
use Rattle.channel.specs.Limits.{frame_head}
use Rattle.channel.specs.declared.Answer.{Answer}
use Rattle.channel.specs.declared.Answer.TheVariants.{Done}
use Rattle.channel.specs.declared.OpenJob.{OpenJob}
use Rattle.channel_answer.specs.Kinds as Kind
use Rattle.channel_answer.specs.Tells.{tells, number_told}

-- `O`: "1 where a hold was taken, 0 where nothing yet"
unfoldable pub opened_text : Answer → List ℕ
opened_text a = choose (eqb (tells a).kind Kind.done) (more_text a [] (0 ∷ [])) (row_text a [])

-- `B`: "the job's length, twice; the credit signal's octets or `-`; none of these where no job waits"
abbrev job_text : Answer → (job signal : List ℕ) → List ℕ
job_text a job signal = ((answer_text a job ++ text " ") ++ hex_text signal) ++ text "\n"

unfoldable pub taken_text : Answer → (job signal : List ℕ) → List ℕ
taken_text a job signal = choose (eqb (tells a).kind Kind.job) (job_text a (take (tells a).second job) signal) (row_text a [])

-- `U`: "spsm, mtu, mps, peer mtu, peer mps"
unfoldable pub queries_text : (spsm mtu mps peer_mtu peer_mps : Answer) → List ℕ
queries_text spsm mtu mps peer_mtu peer_mps =
    choose (eqb (tells spsm).kind Kind.number)
    (more_text spsm [] (number_told (tells mtu) ∷ number_told (tells mps) ∷ number_told (tells peer_mtu) ∷ number_told (tells peer_mps) ∷ []))
    (row_text spsm [])

-- `t`: "sent, received, blocked sends, blocked receives"
unfoldable pub tallies_text : (sent received blockedSends blockedReceives : Answer) → List ℕ
tallies_text sent received blockedSends blockedReceives =
    choose (eqb (tells sent).kind Kind.number)
    (more_text sent [] (number_told (tells received) ∷ number_told (tells blockedSends) ∷ number_told (tells blockedReceives) ∷ []))
    (row_text sent [])

-- `n`: "the frame being filled as it stands in the buffer: its first 4 + FILLED octets; `-` where FILLED is 0"
unfoldable pub standing : OpenJob → ℕ
standing j = choose (eqb j.filled 0) 0 (frame_head + j.filled)

-- "LENGTH TAKEN FILLED ASIDE"
unfoldable pub filling_text : OpenJob → (buffer : List ℕ) → List ℕ
filling_text j buffer = more_text Done (take (standing j) buffer) (j.length ∷ j.taken ∷ j.filled ∷ j.aside ∷ [])
