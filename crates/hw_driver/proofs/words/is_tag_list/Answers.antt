use Rattle.std.proofs.Common.{sym, ◌∙◌, ap, arith, rules}
use Rattle.std.specs.Option.{is_some}
use Rattle.std.proofs.lemmas.Str.Pattern.{split_once_first}
use Rattle.hw_driver.proofs.TagLists.{parts_first, parts_last, test_full, test_not, test_more, test_last}
use Rattle.hw_driver.proofs.words.is_tag_list.Goals as goal
use Rattle.hw_driver.proofs.words.is_tag_list.Goals.{then-left-le1-via-then-left-le1, then-left-le1-via-else-left-le1+then-is_none}

pub returns-then-left-le1 : goal.returns-then-left-le1
returns-then-left-le1 c =
    let l = c.loop-first in
    let cut = rw c.in-Some.is at (split_once_first 44 l.rest.now c.split_once.result c.split_once.ensures.cases (omega arith)) in
    let is = parts_first l.rest.now c.in-Some.first.now c.in-Some.more.now cut.1 cut.2 cut.0 in
    elim c.then-left-le1.branch [
      | then-left-le1-via-then-left-le1 w ↦ sym (test_full l.left l.rest.now c.in-Some.first.now c.in-Some.more.now is (omega arith)) ∙ l.invariant.1
      | then-left-le1-via-else-left-le1+then-is_none w ↦ sym (test_not l.left l.rest.now c.in-Some.first.now c.in-Some.more.now is (sym (ap is_some w.tag_word.ensures) ∙ grind arith)) ∙ l.invariant.1
    ]

pub loop-first-preserved : goal.loop-first-preserved
loop-first-preserved c =
    let l = c.loop-first in
    let cut = rw c.in-Some.is at (split_once_first 44 l.rest.now c.split_once.result c.split_once.ensures.cases (omega arith)) in
    let is = parts_first l.rest.now c.in-Some.first.now c.in-Some.more.now cut.1 cut.2 cut.0 in
    let more = test_more l.left l.rest.now c.in-Some.first.now c.in-Some.more.now is (sym (ap is_some c.tag_word.ensures) ∙ grind arith) (omega arith) in
    (search rules, more ∙ l.invariant.1, omega arith)

pub returns : goal.returns
returns c =
    let l = c.loop-first in
    let none = rw c.in_default.is at (split_once_first 44 l.rest.now c.split_once.result c.split_once.ensures.cases (omega arith)) in
    c.is_some.ensures ∙ ap is_some c.tag_word-2.ensures ∙ test_last l.left l.rest.now (parts_last l.rest.now none) l.invariant.2 ∙ l.invariant.1
