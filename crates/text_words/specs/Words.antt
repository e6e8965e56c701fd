-- The words of a line of a script (docs/CHANRUN.md: words separated by exactly one space), and where each of them stands. Two spaces in a row,
-- a space at either end and an empty line give an empty word, which no call takes.
use Rattle.std.specs.Prelude.{Bool, List, [], ℕ, zero, suc, ◌+◌, ◌-◌, ltb, length, get_or}
use Prim.Native.Char.{code}
use Rattle.lists.specs.Choose.{choose}
use Rattle.lists.specs.First.{first}
use Rattle.octets.specs.Octets.{part}
use Rattle.text_cut.specs.Cut.{is, cut_at}
use Rattle.text_words.specs.declared.Word.{Word}

abbrev pub is_space : ℕ → Bool
is_space = is (code " ")

abbrev pub words_of : List ℕ → List (List ℕ)
words_of line = cut_at (code " ") line

-- word k, the first being word 0; past the last word an empty one
abbrev pub word : List ℕ → ℕ → List ℕ
word line k = get_or (words_of line) k []

-- the characters at a place
abbrev pub text_of : List ℕ → Word → List ℕ
text_of line w = part line w.start (w.end - w.start)

-- a word ends at the next space, or with the line
abbrev pub word_at : List ℕ → ℕ → Word
word_at line at = record { start = at; end = at + first is_space (part line at (length line - at)) }

-- the next one starts behind that space; at the line's end it is empty
unfoldable pub word_after : List ℕ → Word → Word
word_after line w = choose (ltb w.end (length line)) (word_at line (w.end + 1)) (word_at line (length line))

-- where word k stands
unfoldable pub place : List ℕ → ℕ → Word
place line zero = word_at line 0
place line (suc k) = word_after line (place line k)
