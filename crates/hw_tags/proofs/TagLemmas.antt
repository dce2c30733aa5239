-- The ranges of the tags, for every word and number.
use Rattle.std.proofs.Common.{◌≢◌, ℕ, ◌≤◌, arith}
use Rattle.std.proofs.lemmas.Bool.Decides.{nat_tests}
use Rattle.hw_tags.specs.Tag.{heap_tag_of, free_tag_of, frame_tag_of, global_tag_of}

pub heap_tag_of_lowest : (word : ℕ) → 1 ≤ heap_tag_of word
heap_tag_of_lowest word = omega arith

pub heap_tag_of_highest : (word : ℕ) → heap_tag_of word ≤ 255
heap_tag_of_highest word = omega arith

pub free_tag_of_lowest : (word old : ℕ) → 16 ≤ free_tag_of word old
free_tag_of_lowest word old = grind (arith, nat_tests)

pub free_tag_of_highest : (word old : ℕ) → free_tag_of word old ≤ 255
free_tag_of_highest word old = grind (arith, nat_tests)

pub free_tag_of_not_old : (word old : ℕ) → free_tag_of word old ≢ old
free_tag_of_not_old word old = grind (arith, nat_tests)

pub frame_tag_of_lowest : (word k : ℕ) → 1 ≤ frame_tag_of word k
frame_tag_of_lowest word k = omega arith

pub frame_tag_of_highest : (word k : ℕ) → frame_tag_of word k ≤ 255
frame_tag_of_highest word k = omega arith

pub global_tag_of_lowest : (word k : ℕ) → 16 ≤ global_tag_of word k
global_tag_of_lowest word k = omega arith

pub global_tag_of_highest : (word k : ℕ) → global_tag_of word k ≤ 255
global_tag_of_highest word k = omega arith
