-- Which tokens begin a derivation.
use Rattle.std.specs.Prelude.{ℕ, List, ◌++◌}
use Rattle.ir_grammar.specs.declared.terminal.Terminal.{Terminal}
use Rattle.ir_grammar.specs.Rules.{Sort, Signature, Value, Rule, Derives}

module _ (S : Signature) (rules : (n : S.Name) → Rule S (S.sort_of n)) where
  -- with some tokens behind them, at some depth, they are derived
  abbrev pub Begins : (s : Sort S.Base) → Rule S s → List Terminal → S.Store → Type 0
  Begins s a front st = (levels : ℕ) × (more : List Terminal) × (x : Value S s) × (end : S.Store) × Derives S rules levels s a (front ++ more) st x end
