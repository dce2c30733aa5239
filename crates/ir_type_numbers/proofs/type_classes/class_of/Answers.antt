use Rattle.std.proofs.Common.{◌≡◌, List, [], ◌∷◌, ◌++◌, map, Some, refl, sym, ◌∙◌, ap}
use Rattle.std.proofs.lemmas.Result.{IfOk-weaker}
use Rattle.ir_core.specs.declared.types.IrType.{IrType}
use Rattle.ir_type_numbers.specs.declared.letter.Letter.{Letter}
use Rattle.ir_type_numbers.specs.declared.letter.Letter.TheVariants.{Array}
use Rattle.ir_type_numbers.specs.Shapes.{word_number, kind, shape, part_letter}
use Rattle.ir_type_numbers.specs.WordMap.{longer_in}
use Rattle.ir_type_numbers.proofs.Words.{word_longer}
use Rattle.ir_type_numbers.proofs.type_classes.class_of.Goals as goal

pub returns-in-Array-clause-found : goal.returns-in-Array-clause-found
returns-in-Array-clause-found c =
    let before = longer_in c.longer.new.self in
    let after = longer_in c.with_parts.new.words in
    let letter : Letter = Array c.in-Array.count in
    let is : c.kind.result ≡ letter = c.kind.ensures ∙ ap (kind c.args.named c.args.own) c.in-Array.is in
    let word : word_number before (letter ∷ []) ≡ Some c.in_ok-word.word = word_longer before letter [] 0 c.in_ok-word.word refl (ap (before 0) (sym is) ∙ c.in_ok-word.ensures.found) in
    IfOk-weaker c.with_parts.result
    (λ number. (letters : List Letter) → word_number before letters ≡ Some c.in_ok-word.word → word_number after (map (part_letter c.args.classes.now) (c.in-Array.item ∷ []) ++ letters) ≡ Some number)
    (λ class. word_number after (shape c.args.fields.now c.args.classes.now c.args.named c.args.own c.args.ty) ≡ Some class)
    (λ number found. ap (λ (t : IrType). word_number after (shape c.args.fields.now c.args.classes.now c.args.named c.args.own t)) c.in-Array.is ∙ found (letter ∷ []) word)
    c.with_parts.ensures.found
