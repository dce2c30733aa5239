use Rattle.std.proofs.Common.{List, sym, ap, ◌∙◌}
use Rattle.ir_text.specs.TokenText.{number_behind_bang}
use Rattle.ir_grammar.specs.DebugFields.{lexeme}
use Rattle.ir_grammar.specs.DebugNodes.{Definition, place_of}
use Rattle.dbg_sites.specs.Read.{definitions_of}
use Rattle.dbg_sites.proofs.Index.{place_numbered, node_named-number}
use Rattle.dbg_sites.proofs.numbers.node_named.Goals as goal

pub returns-then-is_meta_number_kind : goal.returns-then-is_meta_number_kind
returns-then-is_meta_number_kind c =
    let kept : List Definition = definitions_of c.args.tokens.now.source c.args.nodes.now in
    c.copied.ensures ∙ c.get.ensures.value ∙ c.requires c.number_behind_bang.result.now
    ∙ place_numbered c.args.tokens.now.source c.number_behind_bang.result.now 0 c.args.nodes.now
    ∙ ap (place_of kept) (c.number_behind_bang.ensures ∙ ap number_behind_bang c.text_of.ensures)
    ∙ node_named-number kept (lexeme c.args.tokens.now.source c.args.token.now) (sym c.if-is_meta_number_kind.ensures)
