-- The words of a line as the code goes through them, one after the other, and what a line of so many words asks for.
use mathlib.Core.Path.{◌≡◌, sym, ap, ◌∙◌}
use mathlib.Core.List.{List}
use Prim.Native.Nat.{ℕ, suc}
use lib.ListN.{length, get_or}
use borrow.Author.Tests.{ne_eqb}
use Rattle.lists.specs.Choose.{choose}
use Rattle.text_words.specs.declared.Word.{Word}
use Rattle.text_words.specs.Words.{words_of, word, word_at, text_of, word_after, place}
use Rattle.text_words.specs.WordLaws.{place-word}
use Rattle.script_commands.specs.declared.Command.TheVariants as Command
use Rattle.script_commands.specs.Commands.{one_word, two_words, three_words}
use Rattle.script_commands.specs.LongCommands.{four_words, five_words, six_words, seven_words}
use Rattle.script.specs.Script.{command_of}

-- word k: where it stands, and its characters
pub record At (line : List ℕ) (k : ℕ) (p : Word) (w : List ℕ) : Type 0 where
  pub placed : p ≡ place line k
  pub told : w ≡ word line k

pub at_first : {line : List ℕ} {p : Word} {w : List ℕ} → p ≡ word_at line 0 → w ≡ text_of line p → At line 0 p w
unfolding place
at_first {line} e f = record { placed = e; told = f ∙ ap (text_of line) e ∙ place-word line 0 }

pub at_next : {line : List ℕ} {k : ℕ} {p q : Word} {w v : List ℕ} → At line k p w → q ≡ word_after line p → v ≡ text_of line q → At line (suc k) q v
unfolding place
at_next {line} {k} a e f =
    let here = e ∙ ap (word_after line) a.placed in
    record { placed = here; told = f ∙ ap (text_of line) here ∙ place-word line (suc k) }

-- a line of n words whose first is the letter c
pub record Begun (line : List ℕ) (n c : ℕ) : Type 0 where
  pub counted : n ≡ length (words_of line)
  pub alone : length (word line 0) ≡ 1
  pub letter : c ≡ get_or (word line 0) 0 0

pub begin : {line : List ℕ} {n c : ℕ} {p : Word} {w : List ℕ} → n ≡ length (words_of line) → At line 0 p w → length w ≡ 1 → c ≡ get_or w 0 0 → Begun line n c
begin e a one l = record { counted = e; alone = ap length (sym a.told) ∙ one; letter = l ∙ ap (λ (s : List ℕ). get_or s 0 0) a.told }

pub no_letter : {line : List ℕ} {p : Word} {w : List ℕ} → At line 0 p w → (length w ≡ 1 → ⊥) → Command.Bad ≡ command_of line
unfolding command_of choose
no_letter a h = rw (← a.told, ne_eqb _ 1 h)

module _ {line : List ℕ} {n c : ℕ} (b : Begun line n c) where
  pub line_1 : n ≡ 1 → one_word c ≡ command_of line
  unfolding command_of choose
  line_1 e = rw (b.letter, b.alone, sym b.counted ∙ e)

  pub line_2 : {p1 : Word} {w1 : List ℕ} → n ≡ 2 → At line 1 p1 w1 → two_words c w1 ≡ command_of line
  unfolding command_of choose
  line_2 e a1 = rw (b.letter, b.alone, sym b.counted ∙ e, a1.told)

  pub line_3 : {p1 p2 : Word} {w1 w2 : List ℕ} → n ≡ 3 → At line 1 p1 w1 → At line 2 p2 w2 → three_words c w1 w2 p2 ≡ command_of line
  unfolding command_of choose
  line_3 e a1 a2 = rw (b.letter, b.alone, sym b.counted ∙ e, a1.told, a2.told, a2.placed)

  pub line_4 : {p1 p2 p3 : Word} {w1 w2 w3 : List ℕ} → n ≡ 4 → At line 1 p1 w1 → At line 2 p2 w2 → At line 3 p3 w3 → four_words c w1 w2 w3 p3 ≡ command_of line
  unfolding command_of choose
  line_4 e a1 a2 a3 = rw (b.letter, b.alone, sym b.counted ∙ e, a1.told, a2.told, a3.told, a3.placed)

  pub line_5 : {p1 p2 p3 p4 : Word} {w1 w2 w3 w4 : List ℕ} → n ≡ 5 → At line 1 p1 w1 → At line 2 p2 w2 → At line 3 p3 w3 → At line 4 p4 w4 → five_words c w1 w2 w3 w4 p4 ≡ command_of line
  unfolding command_of choose
  line_5 e a1 a2 a3 a4 = rw (b.letter, b.alone, sym b.counted ∙ e, a1.told, a2.told, a3.told, a4.told, a4.placed)

  pub line_6 : {p1 p2 p3 p4 p5 : Word} {w1 w2 w3 w4 w5 : List ℕ} → n ≡ 6 → At line 1 p1 w1 → At line 2 p2 w2 → At line 3 p3 w3 → At line 4 p4 w4 → At line 5 p5 w5 → six_words c w1 w2 w3 w4 w5 ≡ command_of line
  unfolding command_of choose
  line_6 e a1 a2 a3 a4 a5 = rw (b.letter, b.alone, sym b.counted ∙ e, a1.told, a2.told, a3.told, a4.told, a5.told)

  pub line_7 : {p1 p2 p3 p4 p5 p6 : Word} {w1 w2 w3 w4 w5 w6 : List ℕ} → n ≡ 7 → At line 1 p1 w1 → At line 2 p2 w2 → At line 3 p3 w3 → At line 4 p4 w4 → At line 5 p5 w5 → At line 6 p6 w6 → seven_words c w1 w2 w3 w4 w5 w6 ≡ command_of line
  unfolding command_of choose
  line_7 e a1 a2 a3 a4 a5 a6 = rw (b.letter, b.alone, sym b.counted ∙ e, a1.told, a2.told, a3.told, a4.told, a5.told, a6.told)

  pub line_longer : (n ≡ 1 → ⊥) → (n ≡ 2 → ⊥) → (n ≡ 3 → ⊥) → (n ≡ 4 → ⊥) → (n ≡ 5 → ⊥) → (n ≡ 6 → ⊥) → (n ≡ 7 → ⊥) → Command.Bad ≡ command_of line
  unfolding command_of choose
  line_longer h1 h2 h3 h4 h5 h6 h7 = rw (b.alone, ← b.counted, ne_eqb n 1 h1, ne_eqb n 2 h2, ne_eqb n 3 h3, ne_eqb n 4 h4, ne_eqb n 5 h5, ne_eqb n 6 h6, ne_eqb n 7 h7)
