-- The loop over the blocks of a function.
use Rattle.std.proofs.Common.{ℕ, List, [], ◌∷◌, ◌++◌, length, ◌<◌, ◌≡◌, refl, ◌∙◌, ap, true, false, Ok, Err}
use Rattle.ir_grammar.specs.declared.spelled_bodies.SpelledBlock.{SpelledBlock}
use Rattle.ir_grammar.specs.declared.terminal.Terminal.{Terminal}
use Rattle.ir_grammar.specs.declared.terminal.Flaw.{Flaw}
use Rattle.ir_grammar.specs.Reading.{starts, first, is_empty}
use Rattle.ir_grammar.specs.Rules.{base}
use Rattle.ir_grammar.specs.Spelled.{Store}
use Rattle.ir_grammar.specs.Names.{block, shared}
use Rattle.ir_grammar.specs.Grammar.{production, read, with_front}
use Rattle.ir_grammar.specs.Blocks.{worded_terminator, terminator, block_parts, block_rule, later_blocks}
use Rattle.ir_grammar.proofs.First.{shortens}
use Rattle.ir_grammar.proofs.Loops.{many_more, many_done, many_failed, front_more, front_done}

block_full : is_empty (block_rule false) ≡ false
unfolding block_rule block_parts terminator worded_terminator
block_full = refl

pub later_blocks_more : (levels : ℕ) (front : List SpelledBlock) (ts : List Terminal) (st : Store) (x : SpelledBlock × List Terminal × Store)
    → starts (first (block_rule false)) ts ≡ true → read levels (block_rule false) ts st ≡ Ok x
    → with_front front (read levels later_blocks ts st) ≡ with_front (front ++ x.0 ∷ []) (read levels later_blocks x.1 x.2)
unfolding later_blocks
later_blocks_more levels front ts st x h e =
    ap (with_front front) (many_more shared production levels (base block) (block_rule false) ts st x block_full h e)
    ∙ front_more front x.0 (read levels later_blocks x.1 x.2)

pub later_blocks_done : (levels : ℕ) (front : List SpelledBlock) (ts : List Terminal) (st : Store)
    → starts (first (block_rule false)) ts ≡ false → with_front front (read levels later_blocks ts st) ≡ Ok (front, ts, st)
unfolding later_blocks
later_blocks_done levels front ts st h =
    ap (with_front front) (many_done shared production levels (base block) (block_rule false) ts st h) ∙ front_done front ts st

pub later_blocks_failed : (levels : ℕ) (front : List SpelledBlock) (ts : List Terminal) (st : Store) (e : Flaw)
    → starts (first (block_rule false)) ts ≡ true → read levels (block_rule false) ts st ≡ Err e → with_front front (read levels later_blocks ts st) ≡ Err e
unfolding later_blocks
later_blocks_failed levels front ts st e h q =
    ap (with_front front) (many_failed shared production levels (base block) (block_rule false) ts st e h q)

pub later_blocks_take : (levels : ℕ) (ts : List Terminal) (st : Store) (x : SpelledBlock × List Terminal × Store)
    → read levels (block_rule false) ts st ≡ Ok x → length x.1 < length ts
later_blocks_take levels ts st x h = shortens shared production levels (base block) (block_rule false) ts st x block_full h
