use Rattle.std.proofs.Common.{◌≡◌, ◌+◌, ◌≤◌, ◌++◌, length}
use Rattle.ir_grammar.specs.DebugFields.{lexemes}
use Rattle.ir_grammar.specs.DebugNodes.{definitions}
use Rattle.dbg_sites.specs.Read.{definitions_of}
use Rattle.dbg_sites.proofs.definitions.kept_nodes.Given as goal

abbrev pub invariant-loop-rest : goal.invariant-loop-rest
invariant-loop-rest l = record {
  depth : l.depth + length l.rest ≤ length l.tokens.tokens;
  found : definitions_of l.tokens.source l.found.items ++ definitions l.depth (lexemes l.tokens.source l.rest) ≡ definitions 0 (lexemes l.tokens.source l.tokens.tokens);
}

abbrev pub decreases-loop-rest : goal.decreases-loop-rest
decreases-loop-rest l = length l.rest
