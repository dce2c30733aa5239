-- The kinds at which instructions and blocks are read.
use Rattle.std.proofs.Common.{List, [], ◌∷◌, ◌++◌, ◌≡◌, refl, sym, ◌∙◌, ap, Bool, true, false, ◌&&◌, ◌||◌}
use Rattle.ir_grammar.specs.declared.kind.Kind.{Kind}
use Rattle.ir_grammar.specs.declared.kind.Kind.TheVariants as k
use Rattle.ir_grammar.specs.declared.terminal.Terminal.{Terminal}
use Rattle.ir_grammar.specs.Reading.{starts, first}
use Rattle.ir_grammar.specs.Words.{locals}
use Rattle.ir_grammar.specs.Calls.{call_rule, call_word}
use Rattle.ir_grammar.specs.Blocks.{value_instruction, memory_instruction, atomic_instruction, alloca, common_instruction, plain_instruction, plain_body, refused_bodies, body_rule, result_name, instruction_rule, record_rule, block_part, block_parts, worded_terminator, terminator, block_rule}
use Rattle.ir_grammar.proofs.KindSets.{starts-append}

-- first words of the instructions of any block
abbrev common : List Kind
common = k.Binary ∷ k.BinaryRmw ∷ k.Icmp ∷ k.Cast ∷ k.Freeze ∷ k.Select ∷ k.Phi ∷ k.Load ∷ k.Store ∷ k.GetElementPtr ∷ k.Fence ∷ k.AtomicRmw ∷ k.CmpXchg ∷ k.ExtractValue ∷ []

or_false : (b : Bool) → (b || false) ≡ b
or_false true = refl
or_false false = refl

pub plain_kinds : (entry : Bool) (ts : List Terminal) → starts (first (plain_body entry)) ts
    ≡ (starts (k.Binary ∷ k.BinaryRmw ∷ k.Icmp ∷ k.Cast ∷ k.Freeze ∷ k.Select ∷ k.Phi ∷ k.Load ∷ k.Store ∷ k.GetElementPtr ∷ k.Fence ∷ k.AtomicRmw ∷ k.CmpXchg ∷ k.ExtractValue ∷ []) ts || (entry && starts (k.Alloca ∷ []) ts))
unfolding plain_body plain_instruction common_instruction value_instruction memory_instruction atomic_instruction alloca
plain_kinds true ts = starts-append common (k.Alloca ∷ []) ts
plain_kinds false ts = sym (or_false (starts common ts))

regroup : (a b c d e : Bool) → (a || (b || (c || (d || e)))) ≡ ((((a || b) || c) || d) || e)
regroup true b c d e = refl
regroup false true c d e = refl
regroup false false true d e = refl
regroup false false false true e = refl
regroup false false false false e = refl

pub part_kinds : (entry : Bool) (ts : List Terminal) → starts (first (block_part entry)) ts
    ≡ ((((starts (k.DebugRecord ∷ []) ts || starts locals ts) || starts (first (plain_body entry)) ts) || starts (k.Call ∷ k.TailWord ∷ []) ts) || starts (refused_bodies entry) ts)
unfolding block_part record_rule instruction_rule result_name body_rule call_rule call_word
part_kinds entry ts =
    let calls : List Kind = k.Call ∷ k.TailWord ∷ [] in
    starts-append (k.DebugRecord ∷ []) (locals ++ (first (plain_body entry) ++ (calls ++ refused_bodies entry))) ts
    ∙ (ap (λ v. starts (k.DebugRecord ∷ []) ts || v) (starts-append locals (first (plain_body entry) ++ (calls ++ refused_bodies entry)) ts
    ∙ ap (λ v. starts locals ts || v) (starts-append (first (plain_body entry)) (calls ++ refused_bodies entry) ts
    ∙ ap (λ v. starts (first (plain_body entry)) ts || v) (starts-append calls (refused_bodies entry) ts)))
    ∙ regroup (starts (k.DebugRecord ∷ []) ts) (starts locals ts) (starts (first (plain_body entry)) ts) (starts calls ts) (starts (refused_bodies entry) ts))

three : (a b c : Bool) → (a || (b || c)) ≡ ((a || b) || c)
three true b c = refl
three false b c = refl

pub block_kinds : (ts : List Terminal) → starts (first (block_rule false)) ts
    ≡ ((starts (k.Label ∷ []) ts || starts (first (block_part false)) ts) || starts (k.Ret ∷ k.Br ∷ k.Switch ∷ k.Unreachable ∷ []) ts)
unfolding block_rule block_parts terminator worded_terminator
block_kinds ts =
    let ends : List Kind = k.Ret ∷ k.Br ∷ k.Switch ∷ k.Unreachable ∷ [] in
    starts-append (k.Label ∷ []) (first (block_part false) ++ ends) ts
    ∙ (ap (λ v. starts (k.Label ∷ []) ts || v) (starts-append (first (block_part false)) ends ts) ∙ three (starts (k.Label ∷ []) ts) (starts (first (block_part false)) ts) (starts ends ts))
