use Rattle.std.proofs.Common.{◌∙◌, ap, subst}
use Rattle.ir_type_numbers.specs.Shapes.{IsNumbering}
use Rattle.ir_type_numbers.specs.WordMap.{longer_in}
use Rattle.ir_type_numbers.proofs.Words.{numbering, longer-get}
use Rattle.ir_type_numbers.proofs.word_numbers.WordNumbers.known.Goals as goal

pub returns-clause-value : goal.returns-clause-value
returns-clause-value c =
    c.copied.ensures ∙ (c.get.ensures.value ∙ (longer-get _ c.exact_order.ensures c.self.inside.longer c.args.word c.args.letter ∙ ap (λ entries. longer_in entries c.args.word c.args.letter) c.self.view_is))

pub returns-clause-numbering : goal.returns-clause-numbering
returns-clause-numbering c = subst (λ entries. IsNumbering (longer_in entries)) c.self.view_is (numbering _ _ c.self.invariant)
