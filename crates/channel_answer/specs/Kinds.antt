-- The kind of an answer, as a number: a kind for each of `Answer`, in their order.
use Rattle.std.specs.Prelude.{ℕ}

abbrev pub done : ℕ
done = 0

abbrev pub refused : ℕ
refused = 1

abbrev pub at : ℕ
at = 2

abbrev pub link : ℕ
link = 3

abbrev pub opened : ℕ
opened = 4

abbrev pub due : ℕ
due = 5

abbrev pub frames : ℕ
frames = 6

abbrev pub job : ℕ
job = 7

abbrev pub attention : ℕ
attention = 8

abbrev pub number : ℕ
number = 9

abbrev pub event : ℕ
event = 10

-- (11 is the answer of a run, which is no call's: crate edge_run.)
abbrev pub portion : ℕ
portion = 12
