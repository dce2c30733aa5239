use Rattle.std.proofs.Common.{◌≡◌, [], Some, sym, ◌∙◌, subst, arith, rules}
use Rattle.std.specs.Prelude.{Option, IsSome, ℕ}
use Rattle.std.proofs.lemmas.Str.Pattern.{split_once_first}
use Rattle.hw_driver.specs.Line.{tag_word, parts}
use Rattle.hw_driver.proofs.TagLists.{parts_first, parts_last, tag_list_words, word_there, word_read, words_end}
use Rattle.hw_driver.proofs.words.read_tag_list.Goals as goal

pub unwrap-requires : goal.unwrap-requires
unwrap-requires c =
    let l = c.loop-first in
    let cut = rw c.in-Some.is at (split_once_first 44 l.rest.now c.split_once.result c.split_once.ensures.cases (omega arith)) in
    let is = parts_first l.rest.now c.in-Some.first.now c.in-Some.more.now cut.1 cut.2 cut.0 in
    let whole = tag_list_words c.args.text.now c.requires in
    subst (λ (o : Option ℕ). IsSome o) (sym c.tag_word.ensures)
    (word_there l.list l.rest.now c.in-Some.first.now (parts c.in-Some.more.now) _ is (l.invariant.1 ∙ sym whole) c.requires)

pub loop-first-preserved : goal.loop-first-preserved
loop-first-preserved c =
    let l = c.loop-first in
    let cut = rw c.in-Some.is at (split_once_first 44 l.rest.now c.split_once.result c.split_once.ensures.cases (omega arith)) in
    let is = parts_first l.rest.now c.in-Some.first.now c.in-Some.more.now cut.1 cut.2 cut.0 in
    let word : tag_word c.in-Some.first.now ≡ Some c.unwrap.result = sym c.tag_word.ensures ∙ grind arith in
    (search rules, word_read l.list c.push.new.self l.rest.now c.in-Some.first.now c.unwrap.result (parts c.in-Some.more.now) is word c.in_ok-push.ensures.ok ∙ l.invariant.1)

pub unwrap-requires-2 : goal.unwrap-requires-2
unwrap-requires-2 c =
    let l = c.loop-first in
    let none = rw c.in_default.is at (split_once_first 44 l.rest.now c.split_once.result c.split_once.ensures.cases (omega arith)) in
    let whole = tag_list_words c.args.text.now c.requires in
    subst (λ (o : Option ℕ). IsSome o) (sym c.tag_word-2.ensures)
    (word_there l.list l.rest.now l.rest.now [] _ (parts_last l.rest.now none) (l.invariant.1 ∙ sym whole) c.requires)

pub returns : goal.returns
returns c =
    let l = c.loop-first in
    let none = rw c.in_default.is at (split_once_first 44 l.rest.now c.split_once.result c.split_once.ensures.cases (omega arith)) in
    let word : tag_word l.rest.now ≡ Some c.unwrap-2.result = sym c.tag_word-2.ensures ∙ grind arith in
    tag_list_words c.args.text.now c.requires
    ∙ sym (sym (words_end c.push-2.new.self) ∙ word_read l.list c.push-2.new.self l.rest.now l.rest.now c.unwrap-2.result [] (parts_last l.rest.now none) word c.in_ok-push-2.ensures.ok ∙ l.invariant.1)
