use mathlib.Core.Path.{sym, ◌∙◌}
use borrow.Author.Tests.{lt-ltb, le-ltb, eq-eqb, ne_eqb}
use lib.Seq.{take-length}
use Rattle.lists.specs.Choose.{choose}
use Rattle.lists.specs.Every.{kept-none, kept_more, kept-fails, kept_all}
use Rattle.text_hex_words.specs.HexWords.{is_hex_word}
use native.Mathlib.Omega.{arith}
use Rattle.text_hex_words.proofs.hex_ok.Goals as goal

pub returns-then-word-lt1 : goal.returns-then-word-lt1
unfolding is_hex_word choose
returns-then-word-lt1 c = rw (lt-ltb _ 1 c.if-word-lt1.true)

pub returns-then-word-gt131070 : goal.returns-then-word-gt131070
unfolding is_hex_word choose
returns-then-word-gt131070 c = rw (le-ltb _ 1 c.if-word-lt1.false, lt-ltb 131070 _ c.if-word-gt131070.true)

pub returns-then-word-eq1 : goal.returns-then-word-eq1
unfolding is_hex_word choose
returns-then-word-eq1 c = rw (le-ltb _ 1 c.if-word-lt1.false, le-ltb 131070 _ c.if-word-gt131070.false, eq-eqb _ 1 c.if-word-eq1.true)

pub returns-then-word-eq1-2 : goal.returns-then-word-eq1-2
unfolding is_hex_word choose
returns-then-word-eq1-2 c = rw (le-ltb _ 1 c.if-word-lt1.false, le-ltb 131070 _ c.if-word-gt131070.false, ne_eqb _ 1 c.if-word-eq1.false, eq-eqb _ 1 c.if-word-eq1-2.true)

pub loop-i-init : goal.loop-i-init
loop-i-init c = kept-none

pub returns-then-not-is_hex : goal.returns-then-not-is_hex
unfolding is_hex_word choose
returns-then-not-is_hex c =
    let w = c.args.word.now in
    let k = kept-fails c.loop-i.invariant 0 (sym c.is_hex.ensures ∙ c.if-not-is_hex.true) (omega arith) (omega arith) in
    rw (le-ltb _ 1 c.if-word-lt1.false, le-ltb 131070 _ c.if-word-gt131070.false, ne_eqb _ 1 c.if-word-eq1.false, ne_eqb _ 1 c.if-word-eq1-2.false) (rw (take-length w) at k)

pub loop-i-preserved : goal.loop-i-preserved
loop-i-preserved c = kept_more c.loop-i.invariant 0 (sym c.is_hex.ensures ∙ c.if-not-is_hex.false) (omega arith) (omega arith)

pub returns : goal.returns
unfolding is_hex_word choose
returns c =
    let k = kept_all c.loop-i.invariant (omega arith) in
    rw (le-ltb _ 1 c.if-word-lt1.false, le-ltb 131070 _ c.if-word-gt131070.false, ne_eqb _ 1 c.if-word-eq1.false, ne_eqb _ 1 c.if-word-eq1-2.false) (rw (take-length c.args.word.now) at k)
