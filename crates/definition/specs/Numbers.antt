-- The paper's number of an answer: 0, or the number of the refusal (document 01, 'What a refusal says and leaves').
pub use Rattle.channel_answer.specs.Tells.{answer_number}
