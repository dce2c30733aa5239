use Rattle.std.proofs.Common.{◌∙◌, ap, arith, take}
use Rattle.hw_base.specs.AddressMap.{rounded_size}
use Rattle.global_tags.specs.declared.places.Taken.{Taken}
use Rattle.global_tags.specs.Sums.{taken_by, with_one}
use Rattle.global_tags.proofs.GlobalLemmas.{none-taken, one-more-taken, has-room, item-there}
use Rattle.global_tags.proofs.places.taken_by.Goals as goal

pub loop-global-init : goal.loop-global-init
loop-global-init c = none-taken c.args.layouts.now

pub with_one-taken-requires : goal.with_one-taken-requires
with_one-taken-requires c =
    let there = item-there c.args.globals.now c.loop-global.global-index c.global-item.result c.loop-global-test.true c.global-item.is in
    let room = has-room c.args.layouts.now c.args.globals.now c.loop-global.global-index c.global-item.result c.requires there in
    let constants = ap (λ (taken : Taken). taken.constants) c.loop-global.invariant in
    let variables = ap (λ (taken : Taken). taken.variables) c.loop-global.invariant in
    let size = c.rounded_size.ensures ∙ ap rounded_size c.global_size.ensures in
    record { few = omega (arith, room, constants, variables, size) }

pub loop-global-preserved : goal.loop-global-preserved
loop-global-preserved c =
    let there = item-there c.args.globals.now c.loop-global.global-index c.global-item.result c.loop-global-test.true c.global-item.is in
    let step = one-more-taken c.args.layouts.now c.args.globals.now c.loop-global.global-index c.global-item.result there in
    let size = c.rounded_size.ensures ∙ ap rounded_size c.global_size.ensures in
    c.with_one-taken.ensures
    ∙ (ap (λ (taken : Taken). with_one taken c.rounded_size.result c.global-item.result.constant) c.loop-global.invariant
    ∙ (ap (λ n. with_one (taken_by c.args.layouts.now (take c.loop-global.global-index c.args.globals.now)) n c.global-item.result.constant) size
    ∙ step))
