-- `script::read_command` meets its contract: the words that it goes through are the words of the line, and it makes the tests of the definition (Lines).
use mathlib.Core.Path.{◌∙◌}
use Rattle.script.proofs.Lines.{at_first, at_next, begin, no_letter, line_1, line_2, line_3, line_4, line_5, line_6, line_7, line_longer}
use Rattle.script.proofs.read_command.Goals as goal

pub returns-then-w0-ne1 : goal.returns-then-w0-ne1
returns-then-w0-ne1 c =
    let w0 = at_first c.word_at-p0.ensures c.text-w0.ensures in
    no_letter w0 c.if-w0-ne1.true

pub returns-then-n-eq1 : goal.returns-then-n-eq1
returns-then-n-eq1 c =
    let w0 = at_first c.word_at-p0.ensures c.text-w0.ensures in
    c.one_word.ensures ∙ line_1 (begin c.count-n.ensures w0 c.if-w0-ne1.false c.octet-c.ensures) c.if-n-eq1.true

pub returns-then-n-eq2 : goal.returns-then-n-eq2
returns-then-n-eq2 c =
    let w0 = at_first c.word_at-p0.ensures c.text-w0.ensures in
    let w1 = at_next w0 c.word_after-p1.ensures c.text-w1.ensures in
    c.two_words.ensures ∙ line_2 (begin c.count-n.ensures w0 c.if-w0-ne1.false c.octet-c.ensures) c.if-n-eq2.true w1

pub returns-then-n-eq3 : goal.returns-then-n-eq3
returns-then-n-eq3 c =
    let w0 = at_first c.word_at-p0.ensures c.text-w0.ensures in
    let w1 = at_next w0 c.word_after-p1.ensures c.text-w1.ensures in
    let w2 = at_next w1 c.word_after-p2.ensures c.text-w2.ensures in
    c.three_words.ensures ∙ line_3 (begin c.count-n.ensures w0 c.if-w0-ne1.false c.octet-c.ensures) c.if-n-eq3.true w1 w2

pub returns-then-n-eq4 : goal.returns-then-n-eq4
returns-then-n-eq4 c =
    let w0 = at_first c.word_at-p0.ensures c.text-w0.ensures in
    let w1 = at_next w0 c.word_after-p1.ensures c.text-w1.ensures in
    let w2 = at_next w1 c.word_after-p2.ensures c.text-w2.ensures in
    let w3 = at_next w2 c.word_after-p3.ensures c.text-w3.ensures in
    c.four_words.ensures ∙ line_4 (begin c.count-n.ensures w0 c.if-w0-ne1.false c.octet-c.ensures) c.if-n-eq4.true w1 w2 w3

pub returns-then-n-eq5 : goal.returns-then-n-eq5
returns-then-n-eq5 c =
    let w0 = at_first c.word_at-p0.ensures c.text-w0.ensures in
    let w1 = at_next w0 c.word_after-p1.ensures c.text-w1.ensures in
    let w2 = at_next w1 c.word_after-p2.ensures c.text-w2.ensures in
    let w3 = at_next w2 c.word_after-p3.ensures c.text-w3.ensures in
    let w4 = at_next w3 c.word_after-p4.ensures c.text-w4.ensures in
    c.five_words.ensures ∙ line_5 (begin c.count-n.ensures w0 c.if-w0-ne1.false c.octet-c.ensures) c.if-n-eq5.true w1 w2 w3 w4

pub returns-then-n-eq6 : goal.returns-then-n-eq6
returns-then-n-eq6 c =
    let w0 = at_first c.word_at-p0.ensures c.text-w0.ensures in
    let w1 = at_next w0 c.word_after-p1.ensures c.text-w1.ensures in
    let w2 = at_next w1 c.word_after-p2.ensures c.text-w2.ensures in
    let w3 = at_next w2 c.word_after-p3.ensures c.text-w3.ensures in
    let w4 = at_next w3 c.word_after-p4.ensures c.text-w4.ensures in
    let w5 = at_next w4 c.word_after-p5.ensures c.text-w5.ensures in
    c.six_words.ensures ∙ line_6 (begin c.count-n.ensures w0 c.if-w0-ne1.false c.octet-c.ensures) c.if-n-eq6.true w1 w2 w3 w4 w5

pub returns-then-n-eq7 : goal.returns-then-n-eq7
returns-then-n-eq7 c =
    let w0 = at_first c.word_at-p0.ensures c.text-w0.ensures in
    let w1 = at_next w0 c.word_after-p1.ensures c.text-w1.ensures in
    let w2 = at_next w1 c.word_after-p2.ensures c.text-w2.ensures in
    let w3 = at_next w2 c.word_after-p3.ensures c.text-w3.ensures in
    let w4 = at_next w3 c.word_after-p4.ensures c.text-w4.ensures in
    let w5 = at_next w4 c.word_after-p5.ensures c.text-w5.ensures in
    let w6 = at_next w5 c.word_after.ensures c.text-w6.ensures in
    c.seven_words.ensures ∙ line_7 (begin c.count-n.ensures w0 c.if-w0-ne1.false c.octet-c.ensures) c.if-n-eq7.true w1 w2 w3 w4 w5 w6

pub returns : goal.returns
returns c =
    let w0 = at_first c.word_at-p0.ensures c.text-w0.ensures in
    line_longer (begin c.count-n.ensures w0 c.if-w0-ne1.false c.octet-c.ensures) c.if-n-eq1.false c.if-n-eq2.false c.if-n-eq3.false c.if-n-eq4.false c.if-n-eq5.false c.if-n-eq6.false c.if-n-eq7.false
