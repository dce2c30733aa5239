use Rattle.std.proofs.Common.{ℕ, List, [], ◌∷◌, ◌<◌, length, subst, append-nil, arith}
use Rattle.ir_grammar.specs.declared.spelled.SpelledItem.{SpelledItem}
use Rattle.ir_read_top.specs.Module.{AreLibsOf}
use Rattle.ir_read_top.proofs.declared.libs_of.Goals as goal

none_left : (source : List ℕ) (rest : List SpelledItem) → length rest < 1 → AreLibsOf source rest []
none_left source [] h = tt
none_left source (item ∷ rest) h = absurd (omega arith)

pub returns : goal.returns
returns c =
    subst (λ libs. AreLibsOf c.args.tokens.now.source c.args.items.now libs) (append-nil c.loop-rest.libs.items)
    (c.loop-rest.invariant [] (none_left c.args.tokens.now.source c.loop-rest.rest.now c.in_default.len_below))
