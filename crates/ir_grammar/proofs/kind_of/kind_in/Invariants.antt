use Rattle.std.proofs.Common.{◌≡◌, length, map}
use Rattle.ir_grammar.specs.KindOf.{kind_in}
use Rattle.ir_grammar.proofs.kind_of.kind_in.Given as goal

abbrev pub invariant-loop-table : goal.invariant-loop-table
invariant-loop-table l = kind_in (map (λ e. (e.0.now, e.1)) l.table) l.text ≡ kind_in (map (λ e. (e.0.now, e.1)) l.fn.table) l.text

abbrev pub decreases-loop-table : goal.decreases-loop-table
decreases-loop-table l = length l.table
