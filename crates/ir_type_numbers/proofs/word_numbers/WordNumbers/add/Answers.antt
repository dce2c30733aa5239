use Rattle.std.proofs.Common.{◌≡◌, ◌+◌, None, arith, sym, ◌∙◌, ap, subst, btree_map_len}
use Rattle.std.proofs.lemmas.Grind.{common_steps}
use Rattle.ir_type_numbers.specs.Shapes.{Keeps}
use Rattle.ir_type_numbers.specs.WordMap.{IsWordMap, longer_in}
use Rattle.ir_type_numbers.proofs.Words.{IsOneMore, one_more, one_more_found, one_more_kept, one_more_map, numbering, longer-get}
use Rattle.ir_type_numbers.proofs.word_numbers.WordNumbers.add.Goals as goal

-- the map after the call has one more word
more : (c : goal.In_ok-insert) → IsOneMore c.self.inside.longer.entries c.insert.new.self.entries c.args.word c.args.letter (c.len.result + 1)
more c =
    one_more _ c.exact_order.ensures c.self.inside.longer c.insert.new.self c.args.word c.args.letter (c.len.result + 1)
    (longer-get _ c.exact_order.ensures c.self.inside.longer c.args.word c.args.letter ∙ (ap (λ entries. longer_in entries c.args.word c.args.letter) c.self.view_is ∙ c.requires.absent))
    c.in_ok-insert.ensures.updates

kept_map : (c : goal.In_ok-insert) → IsWordMap c.insert.new.self.entries (c.len.result + 1)
kept_map c =
    one_more_map c.self.inside.longer.entries c.insert.new.self.entries c.args.word c.args.letter c.len.result
    (subst (IsWordMap c.self.inside.longer.entries) (sym c.len.ensures.len) c.self.invariant) (more c)

pub invariant_of-self-2 : goal.invariant_of-self-2
invariant_of-self-2 c =
    let none = longer-get _ c.exact_order.ensures c.self.inside.longer c.args.word c.args.letter ∙ (ap (λ entries. longer_in entries c.args.word c.args.letter) c.self.view_is ∙ c.requires.absent) in
    let old : c.in_ok-insert.field-0 ≡ None = c.in_ok-insert.ensures.old ∙ none in
    let long : btree_map_len c.insert.new.self ≡ c.len.result + 1 = grind (arith, common_steps, old, c.in_ok-insert.ensures.len, c.len.ensures.len) in
    subst (IsWordMap c.insert.new.self.entries) (sym long) (kept_map c)

pub returns-clause-found : goal.returns-clause-found
returns-clause-found c = one_more_found c.self.inside.longer.entries c.insert.new.self.entries c.args.word c.args.letter (c.len.result + 1) (more c)

pub returns-clause-kept : goal.returns-clause-kept
returns-clause-kept c =
    subst (λ entries. Keeps (longer_in entries) (longer_in c.insert.new.self.entries)) c.self.view_is
    (one_more_kept c.self.inside.longer.entries c.insert.new.self.entries c.args.word c.args.letter (c.len.result + 1) (more c))

pub returns-clause-numbering : goal.returns-clause-numbering
returns-clause-numbering c = numbering c.insert.new.self.entries (c.len.result + 1) (kept_map c)
