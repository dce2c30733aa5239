use Rattle.std.proofs.Common.{◌≡◌, ◌+◌, ◌≤◌, length}
use Rattle.ir_grammar.specs.DebugFields.{lexemes, before, closes, fields, first_field}
use Rattle.dbg_sites.specs.Read.{fields_in}
use Rattle.dbg_sites.proofs.fields.first_field.Given as goal

abbrev pub invariant-loop-rest : goal.invariant-loop-rest
invariant-loop-rest l = record {
  depth : l.depth + length l.rest ≤ length l.fn.node;
  first : first_field l.fn.name (fields l.depth (before closes l.depth (lexemes l.tokens.source l.rest))) ≡ first_field l.fn.name (fields_in l.tokens.source l.fn.node);
}

abbrev pub decreases-loop-rest : goal.decreases-loop-rest
decreases-loop-rest l = length l.rest
