-- What stands between brackets, one level deeper.
use Rattle.std.proofs.Common.{ℕ, zero, suc, List, ◌≡◌, refl}
use Rattle.ir_grammar.specs.declared.terminal.Terminal.{Terminal}
use Rattle.ir_grammar.specs.Reading.{◌>>=◌, inside}
use Rattle.ir_grammar.specs.Spelled.{Store}
use Rattle.ir_grammar.specs.Names.{Name, shared}
use Rattle.ir_grammar.specs.Grammar.{production, deeper, read}

pub inside_deeper : (levels : ℕ) (n : Name) (at : ℕ) (ts : List Terminal) (st : Store)
    → inside shared production levels n at ts st ≡ (deeper levels at >>= λ l. read l (production n) ts st)
inside_deeper zero n at ts st = refl
inside_deeper (suc l) n at ts st = refl
