-- Fewest frames, at the octets: what an l2cap_send that returns 0 tells, in octets 8 and 9 of its answer, is the number of the frames that it wrote, and the least (rules_fewest, Statement.antt).
-- Rests on what is told of an outcome (Lift.antt, `answer-is`) and on what such a send writes (Rules.antt, `send-writes`).
use Rattle.std.specs.Prelude.{◌≡◌, List, ℕ, ◌/◌, ◌%◌, ◌≤◌, min, length, get_or}
use Rattle.std.proofs.Common.{sym, ap, ◌∙◌, arith}
use Rattle.std.proofs.lemmas.List.Edits.{sets}
use Rattle.octets.specs.Sets.{sets_inside}
use Rattle.sar_cut.specs.Cutting.{frames_of}
use Rattle.channel.specs.declared.Answer.{Answer}
use Rattle.channel.specs.declared.Answer.TheVariants.{Frames}
use Rattle.channel_answer.specs.Tells.{tells}
use Rattle.definition.specs.Calls.{Window, sends}
use Rattle.definition.specs.Run.{outcome}
use Rattle.rules_fewest.proofs.Theorems.{sent_fewest}
use Rattle.edge_answer.specs.Answers.{told_octets, answer_octets}
use Rattle.edge_runs.specs.Run.{EdgeState, state_of, edge_of}
use Rattle.edge_runs.specs.Rules.{ReachedAt, sending}
use Rattle.edge_runs.proofs.Rules.{send-answered, number_at, answer_at, send-writes}
use Rattle.edge_runs.specs.Fewest.{SentFewestAt, frames_told}

frames-told : (answer : List ℕ) (link n octets : ℕ) → 16 ≤ length answer → n ≤ 65535 → frames_told (sets answer 0 (told_octets (tells (Frames link n)) octets)) ≡ n
frames-told answer link n octets h few =
    let ys = told_octets (tells (Frames link n)) octets in
    let lower : get_or (sets answer 0 ys) 8 0 ≡ min n 65535 % 256 = sets_inside 0 answer 0 ys 8 (omega arith) (omega arith) in
    let higher : get_or (sets answer 0 ys) 9 0 ≡ min n 65535 / 256 = sets_inside 0 answer 0 ys 9 (omega arith) (omega arith) in
    omega arith

pub sent_fewest_at : {s : EdgeState} → ReachedAt s → (w : Window) (slot : ℕ) (sdu answer : List ℕ) → 16 ≤ length answer → (edge_of s (sending w slot sdu answer)).number ≡ 0 → SentFewestAt s w slot sdu answer
unfolding answer_octets frames_of
sent_fewest_at {s} r w slot sdu answer h e =
    let a = send-answered (state_of s) slot sdu w (sym (number_at r (sending w slot sdu answer)) ∙ e) in
    let f = sent_fewest (state_of s) slot sdu w a.link a.count a.is in
    let octets = (outcome (state_of s) (sends slot sdu w)).octets in
    let n : frames_told (edge_of s (sending w slot sdu answer)).answer ≡ a.count =
    ap frames_told (answer_at r (sending w slot sdu answer)) ∙ ap (λ (x : Answer). frames_told (sets answer 0 (told_octets (tells x) octets))) a.is ∙ frames-told answer a.link a.count octets h f.told in
    record { octets = send-writes r w slot sdu answer e; count = f.count ∙ sym n; fewest = λ ps c. rw n (f.fewest ps c) }
