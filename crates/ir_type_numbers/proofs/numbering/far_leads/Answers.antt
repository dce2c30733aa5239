use Rattle.std.proofs.Common.{ap, ◌∙◌, add-one}
use Rattle.ir_type_numbers.specs.Numbering.{twice, leads_within}
use Rattle.ir_type_numbers.proofs.numbering.far_leads.Goals as goal

pub loop-init : goal.loop-init
unfolding leads_within
loop-init c = c.in_ok-far.ensures.items

pub loop-preserved : goal.loop-preserved
unfolding leads_within
loop-preserved c = rw add-one (c.in_ok-far-2.ensures ∙ ap twice (c.deref.ensures.value ∙ c.loop.invariant))
