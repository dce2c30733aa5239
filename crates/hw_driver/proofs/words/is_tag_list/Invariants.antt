use Rattle.std.proofs.Common.{◌≡◌, ◌≤◌, length}
use Rattle.std.specs.Option.{is_some}
use denote.Text.{Utf8}
use denote.Shadow.{shadow}
use Rattle.hw_driver.specs.Line.{tag_list, words_of, at_most, parts}
use Rattle.hw_driver.proofs.words.is_tag_list.Given as goal

abbrev pub invariant-loop-first : goal.invariant-loop-first
invariant-loop-first l = shadow (Utf8 l.rest) × (is_some (at_most l.left (words_of (parts l.rest))) ≡ is_some (tag_list l.fn.text)) × (1 ≤ l.left)

abbrev pub decreases-loop-first : goal.decreases-loop-first
decreases-loop-first l = length l.rest
