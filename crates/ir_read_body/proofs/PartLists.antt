-- The loop over the instructions of a block, and a block.
use Rattle.std.proofs.Common.{ℕ, List, [], ◌∷◌, ◌++◌, length, ◌<◌, ◌≡◌, refl, sym, ◌∙◌, ap, Bool, true, false, Option, None, Some, Ok, Err, append_assoc, append-nil}
use Rattle.ir_grammar.specs.declared.kind.Kind.TheVariants as k
use Rattle.ir_grammar.specs.declared.spelled_bodies.SpelledBlock.{SpelledBlock}
use Rattle.ir_grammar.specs.declared.spelled_bodies.SpelledInstruction.{SpelledInstruction}
use Rattle.ir_grammar.specs.declared.terminal.Terminal.{Terminal}
use Rattle.ir_grammar.specs.declared.terminal.Flaw.{Flaw}
use Rattle.ir_grammar.specs.Reading.{Outcome, ◌>>=◌, starts, first, is_empty}
use Rattle.ir_grammar.specs.Rules.{base, option, optional, the}
use Rattle.ir_grammar.specs.Spelled.{Store, token_in, with_rest}
use Rattle.ir_grammar.specs.SpelledBodies.{kept_ones, add_block}
use Rattle.ir_grammar.specs.Names.{instruction, shared}
use Rattle.ir_grammar.specs.Grammar.{production, read}
use Rattle.ir_grammar.specs.Calls.{call_rule, call_word}
use Rattle.ir_grammar.specs.Blocks.{value_instruction, memory_instruction, atomic_instruction, alloca, common_instruction, plain_instruction, plain_body, body_rule, instruction_rule, record_rule, block_part, block_parts, terminator, block_rule}
use Rattle.ir_grammar.proofs.First.{shortens}
use Rattle.ir_grammar.proofs.Loops.{with_first, many_more, many_done, many_failed}
use Rattle.ir_read_body.specs.Views.{with_ones}

pub part_full : (entry : Bool) → is_empty (block_part entry) ≡ false
unfolding block_part record_rule instruction_rule body_rule call_rule call_word plain_body plain_instruction common_instruction value_instruction memory_instruction atomic_instruction alloca
part_full true = refl
part_full false = refl

-- those that are there, one of which was read
ones_more : (front : List SpelledInstruction) (y : Option SpelledInstruction) (r : Outcome Store (List (Option SpelledInstruction))) → with_ones front (with_first y r) ≡ with_ones (front ++ kept_ones (y ∷ [])) r
ones_more front None (Ok x) = ap (λ v. Ok (v ++ kept_ones x.0, x.1, x.2)) (sym (append-nil front))
ones_more front (Some y) (Ok x) = ap (λ v. Ok (v, x.1, x.2)) (sym (append_assoc front (y ∷ []) (kept_ones x.0)))
ones_more front y (Err e) = refl

pub parts_more : (entry : Bool) (levels : ℕ) (front : List SpelledInstruction) (ts : List Terminal) (st : Store) (x : Option SpelledInstruction × List Terminal × Store)
    → starts (first (block_part entry)) ts ≡ true → read levels (block_part entry) ts st ≡ Ok x
    → with_ones front (read levels (block_parts entry) ts st) ≡ with_ones (front ++ kept_ones (x.0 ∷ [])) (read levels (block_parts entry) x.1 x.2)
unfolding block_parts
parts_more entry levels front ts st x h e =
    ap (with_ones front) (many_more shared production levels (option (base instruction)) (block_part entry) ts st x (part_full entry) h e)
    ∙ ones_more front x.0 (read levels (block_parts entry) x.1 x.2)

pub parts_done : (entry : Bool) (levels : ℕ) (front : List SpelledInstruction) (ts : List Terminal) (st : Store)
    → starts (first (block_part entry)) ts ≡ false → with_ones front (read levels (block_parts entry) ts st) ≡ Ok (front, ts, st)
unfolding block_parts
parts_done entry levels front ts st h =
    ap (with_ones front) (many_done shared production levels (option (base instruction)) (block_part entry) ts st h) ∙ ap (λ v. Ok (v, ts, st)) (append-nil front)

pub parts_failed : (entry : Bool) (levels : ℕ) (front : List SpelledInstruction) (ts : List Terminal) (st : Store) (e : Flaw)
    → starts (first (block_part entry)) ts ≡ true → read levels (block_part entry) ts st ≡ Err e → with_ones front (read levels (block_parts entry) ts st) ≡ Err e
unfolding block_parts
parts_failed entry levels front ts st e h q =
    ap (with_ones front) (many_failed shared production levels (option (base instruction)) (block_part entry) ts st e h q)

pub parts_take : (entry : Bool) (levels : ℕ) (ts : List Terminal) (st : Store) (x : Option SpelledInstruction × List Terminal × Store)
    → read levels (block_part entry) ts st ≡ Ok x → length x.1 < length ts
parts_take entry levels ts st x h = shortens shared production levels (option (base instruction)) (block_part entry) ts st x (part_full entry) h

-- one after the other
abbrev under : {A B : Type 0} → A → Outcome Store B → Outcome Store (A × B)
under x r = r >>= λ y. Ok ((x, y.0), y.1, y.2)

abbrev paired : {A B : Type 0} → Outcome Store A → (List Terminal → Store → Outcome Store B) → Outcome Store (A × B)
paired r c = r >>= λ x. under x.0 (c x.1 x.2)

-- a block of a label, instructions of which some are there, and a terminator
abbrev blocked : Outcome Store (Option Terminal × (List (Option SpelledInstruction) × SpelledInstruction)) → Outcome Store SpelledBlock
blocked r = r >>= λ x. Ok ((add_block (token_in (x.0).0) (kept_ones (((x.0).1).0) ++ (((x.0).1).1) ∷ []) x.2).0, x.1, (add_block (token_in (x.0).0) (kept_ones (((x.0).1).0) ++ (((x.0).1).1) ∷ []) x.2).1)

-- a block of a label and the instructions that are there, with the terminator read behind them
abbrev ended_by : (List Terminal → Store → Outcome Store SpelledInstruction) → Option Terminal → Outcome Store (List SpelledInstruction) → Outcome Store SpelledBlock
ended_by c label r = r >>= λ p. c p.1 p.2 >>= λ t. with_rest (add_block (token_in label) (p.0 ++ t.0 ∷ []) t.2) t.1

ended : (label : Option Terminal) (found : List (Option SpelledInstruction)) (r : Outcome Store SpelledInstruction)
    → blocked (under label (under found r)) ≡ (r >>= λ t. with_rest (add_block (token_in label) (kept_ones found ++ t.0 ∷ []) t.2) t.1)
ended label found (Err e) = refl
ended label found (Ok t) = refl

parted : (label : Option Terminal) (c : List Terminal → Store → Outcome Store SpelledInstruction) (r : Outcome Store (List (Option SpelledInstruction)))
    → blocked (under label (paired r c)) ≡ ended_by c label (with_ones [] r)
parted label c (Err e) = refl
parted label c (Ok p) = ended label p.0 (c p.1 p.2)

labelled : (b : List Terminal → Store → Outcome Store (List (Option SpelledInstruction))) (c : List Terminal → Store → Outcome Store SpelledInstruction) (a : Outcome Store (Option Terminal))
    → blocked (paired a (λ ts st. paired (b ts st) c)) ≡ (a >>= λ l. ended_by c l.0 (with_ones [] (b l.1 l.2)))
labelled b c (Err e) = refl
labelled b c (Ok l) = parted l.0 c (b l.1 l.2)

pub block_read : (entry : Bool) (levels : ℕ) (ts : List Terminal) (st : Store)
    → read levels (block_rule entry) ts st
    ≡ (read levels (optional (the k.Label)) ts st >>= λ l. with_ones [] (read levels (block_parts entry) l.1 l.2) >>= λ p. read levels terminator p.1 p.2 >>= λ t. with_rest (add_block (token_in l.0) (p.0 ++ t.0 ∷ []) t.2) t.1)
unfolding block_rule
block_read entry levels ts st = labelled (read levels (block_parts entry)) (read levels terminator) (read levels (optional (the k.Label)) ts st)
