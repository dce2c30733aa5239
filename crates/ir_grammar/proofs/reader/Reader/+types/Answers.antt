use Rattle.std.proofs.Common.{sym, ◌∙◌, ap, Ok}
use Rattle.ir_grammar.specs.Grammar.{read, with_front}
use Rattle.ir_grammar.specs.Spelled.{store_of}
use Rattle.ir_grammar.specs.Types.{more_types}
use Rattle.ir_grammar.proofs.TypeLists.{types_more, comma_type_takes, types_none}
use Rattle.ir_grammar.proofs.reader.Reader.+types.Goals as goal

pub more_types-loop-context-smaller : goal.more_types-loop-context-smaller
more_types-loop-context-smaller t c = comma_type_takes _ _ _ _ _ c.in_ok-next.ensures

pub more_types-loop-context-preserved : goal.more_types-loop-context-preserved
more_types-loop-context-preserved t c =
    (ap (λ v. with_front v (read c.args.levels (more_types c.args.context) c.comma_type.new.self.rest.now (store_of c.comma_type.new.self.found))) c.in_ok-push-2.ensures.items
    ∙ sym (types_more _ _ c.loop-context.types.items _ _ _ (sym c.comma_is_next.ensures ∙ c.loop-context-test.true) c.in_ok-next.ensures))
    ∙ c.loop-context.invariant

pub types_inside-returns-else-starts_type : goal.types_inside-returns-else-starts_type
types_inside-returns-else-starts_type t c =
    types_none _ _ _ _ (sym c.starts_type.ensures ∙ c.if-starts_type.false) ∙ ap (λ v. Ok (v, c.args.self.now.rest.now, store_of c.args.self.now.found)) (sym c.new.ensures.items)
