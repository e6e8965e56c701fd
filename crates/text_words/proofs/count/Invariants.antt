-- `text_words::count` meets its contract: the loop counts the spaces (Counted), and there is one word more (cut_count).
use Rattle.text_words.specs.Words.{is_space}
use Rattle.text_cut.specs.CutLaws.{Counted}
use Rattle.text_words.proofs.count.Given as goal

abbrev pub invariant-loop-i : goal.invariant-loop-i
invariant-loop-i l = Counted is_space l.line l.i l.n
