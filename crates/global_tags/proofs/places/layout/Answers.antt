use Rattle.std.proofs.Common.{◌%◌, ◌∙◌, ap, arith}
use Rattle.hw_base.specs.AddressMap.{program_map}
use Rattle.global_tags.specs.declared.places.Taken.{Taken}
use Rattle.global_tags.proofs.GlobalLemmas.{constants_size-aligned, variables_size-aligned, page-after}
use Rattle.global_tags.proofs.places.layout.Goals as goal

pub returns-clause-layout : goal.returns-clause-layout
unfolding program_map
returns-clause-layout c =
    let constants = ap (λ (taken : Taken). taken.constants) c.taken_in-taken.ensures.value in
    let variables = ap (λ (taken : Taken). taken.variables) c.taken_in-taken.ensures.value in
    let at = c.variables_at.ensures in
    cc

pub returns-clause-constants_aligned : goal.returns-clause-constants_aligned
returns-clause-constants_aligned c =
    let constants = ap (λ (taken : Taken). taken.constants) c.taken_in-taken.ensures.value in
    ap (λ n. n % 16) constants ∙ constants_size-aligned c.args.program.now.layouts c.args.program.now.globals

pub returns-clause-variables_aligned : goal.returns-clause-variables_aligned
returns-clause-variables_aligned c =
    let variables = ap (λ (taken : Taken). taken.variables) c.taken_in-taken.ensures.value in
    ap (λ n. n % 16) variables ∙ variables_size-aligned c.args.program.now.layouts c.args.program.now.globals

pub returns-clause-below_stacks : goal.returns-clause-below_stacks
returns-clause-below_stacks c =
    let at = c.variables_at.ensures in
    let page = page-after c.taken_in-taken.result.constants c.taken_in-taken.result.variables c.taken_in-taken.ensures.few in
    omega (arith, at, page)
