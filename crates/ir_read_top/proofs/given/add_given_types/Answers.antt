use Rattle.std.proofs.Common.{◌++◌, ap, ◌∙◌}
use Rattle.ir_read_top.proofs.GivenTypes.{all_given}
use Rattle.ir_read_top.proofs.given.add_given_types.Goals as goal

pub returns : goal.returns
returns c =
    c.in_ok-extend_from_slice-3.ensures.items
    ∙ ap (λ v. c.args.types.now.items ++ v)
    (c.deref-3.ensures.value
    ∙ all_given c.deref.result.now c.deref-2.result.now c.extend_from_slice.new.self.items c.extend_from_slice-2.new.self.items
    (c.in_ok-extend_from_slice.ensures.items ∙ ap (λ v. v ++ c.deref.result.now) c.in_ok-given.ensures.items)
    c.in_ok-extend_from_slice-2.ensures.items
    (c.deref.ensures.value ∙ c.in_ok-integers.ensures)
    (c.deref-2.ensures.value ∙ c.in_ok-pairs.ensures))
