-- `text_write::write_text` meets its contract: the whole text is copied (take-length), and `behind` counts it.
use lib.Seq.{take-length}
use borrow.Author.Rules.{rules}
use Rattle.text_write.proofs.write_text.Goals as goal

pub returns : goal.returns
returns c =
    let s = c.args.text.now in
    record { next = search rules; buffer = rw (c.copy_to.ensures, take-length s) }
