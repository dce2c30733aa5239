use Rattle.std.proofs.Common.{◌≡◌, ◌++◌, length, option_map}
use denote.Text.{Utf8}
use denote.Shadow.{shadow}
use Rattle.hw_driver.specs.Line.{words_of, parts}
use Rattle.hw_driver.proofs.words.read_tag_list.Given as goal

abbrev pub invariant-loop-first : goal.invariant-loop-first
invariant-loop-first l = shadow (Utf8 l.rest) × (option_map (λ words. l.list ++ words) (words_of (parts l.rest)) ≡ words_of (parts l.fn.text))

abbrev pub decreases-loop-first : goal.decreases-loop-first
decreases-loop-first l = length l.rest
