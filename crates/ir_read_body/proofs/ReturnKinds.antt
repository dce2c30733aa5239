-- The kinds at which a value behind `ret void` is read.
use Rattle.std.proofs.Common.{List, [], ◌∷◌, ◌≡◌, ◌||◌}
use Rattle.ir_grammar.specs.declared.kind.Kind.TheVariants as k
use Rattle.ir_grammar.specs.declared.terminal.Terminal.{Terminal}
use Rattle.ir_grammar.specs.Reading.{starts, first}
use Rattle.ir_grammar.specs.Operands.{word_operand, integer_operand, named_operand, simple_operand}
use Rattle.ir_grammar.specs.Terminators.{simple_behind_void}
use Rattle.ir_grammar.proofs.KindSets.{starts-append}

pub simple_kinds : (ts : List Terminal) → starts (first simple_behind_void) ts
    ≡ (starts (k.Count ∷ k.SmallPower ∷ k.Power ∷ k.Negative ∷ k.GreatPower ∷ k.Great ∷ k.Global ∷ k.UsedGlobal ∷ k.DebugGlobal ∷ k.True ∷ k.False ∷ k.Null ∷ k.ZeroWord ∷ []) ts
    || starts (k.Float ∷ []) ts)
unfolding simple_behind_void simple_operand integer_operand word_operand named_operand
simple_kinds ts = starts-append (k.Count ∷ k.SmallPower ∷ k.Power ∷ k.Negative ∷ k.GreatPower ∷ k.Great ∷ k.Global ∷ k.UsedGlobal ∷ k.DebugGlobal ∷ k.True ∷ k.False ∷ k.Null ∷ k.ZeroWord ∷ []) (k.Float ∷ []) ts
