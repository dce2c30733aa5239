use Rattle.std.proofs.Common.{◌≡◌, ◌+◌, ◌∙◌, ◌++◌, ◌∷◌, [], ap, sym, subst, arith, take, length, All}
use Rattle.std.proofs.lemmas.List.{length_push}
use Rattle.std.proofs.lemmas.List.Elements.{All-nil, All-push}
use Rattle.hw_base.specs.AddressMap.{rounded_size, program_map}
use Rattle.hw_base.specs.declared.numbers.TheConstants.{GLOBALS_AT, PAGE, STACKS_AT}
use Rattle.hw_tags.specs.Tag.{global_tag_of}
use Rattle.ir_core.specs.Layout.{align_up}
use Rattle.global_tags.specs.declared.descriptor.Descriptor.{Descriptor}
use Rattle.global_tags.specs.declared.places.Taken.{Taken}
use Rattle.global_tags.specs.GlobalPlaces.{constants_size, variables_size, descriptor_of, global_size}
use Rattle.global_tags.specs.Loading.{IsPlaced}
use Rattle.global_tags.specs.Sums.{taken_by, with_one}
use Rattle.global_tags.proofs.GlobalLemmas.{none-taken, one-more-taken, has-room, item-there, few-globals, both-sizes}
use Rattle.global_tags.proofs.LoadingLemmas.{described_until, described-more, described-all, near-variables, placed-global, small-global, place-here, descriptor-here, sum-below}
use Rattle.global_tags.proofs.loading.described.Goals as goal

pub variables_at-first_variable-requires : goal.variables_at-first_variable-requires
variables_at-first_variable-requires c =
    let both = both-sizes c.args.layouts.now c.args.globals.now in
    let constants = ap (λ (taken : Taken). taken.constants) c.taken_by.ensures in
    let room = c.requires in
    omega (arith, both, constants, room)

pub loop-global-init : goal.loop-global-init
loop-global-init c =
    record {
      taken = none-taken c.args.layouts.now;
      count = ap length c.new-found.ensures;
      placed = subst (All IsPlaced) (sym c.new-found.ensures) (All-nil IsPlaced);
      found = c.new-found.ensures;
    }

pub place_after-requires-clause-few : goal.place_after-requires-clause-few
place_after-requires-clause-few c =
    let there = item-there c.args.globals.now c.loop-global.global-index c.global-item.result c.loop-global-test.true c.global-item.is in
    let room = has-room c.args.layouts.now c.args.globals.now c.loop-global.global-index c.global-item.result c.requires there in
    let constants = ap (λ (taken : Taken). taken.constants) c.loop-global.invariant.taken in
    let variables = ap (λ (taken : Taken). taken.variables) c.loop-global.invariant.taken in
    omega (arith, room, constants, variables)

pub place_after-requires-clause-near : goal.place_after-requires-clause-near
place_after-requires-clause-near c =
    let layouts = c.args.layouts.now in
    let globals = c.args.globals.now in
    let k = c.loop-global.global-index in
    let there = item-there globals k c.global-item.result c.loop-global-test.true c.global-item.is in
    let first = c.variables_at-first_variable.ensures ∙ ap (λ (taken : Taken). align_up (GLOBALS_AT + taken.constants) PAGE) c.taken_by.ensures in
    let variables = ap (λ (taken : Taken). taken.variables) c.loop-global.invariant.taken in
    sum-below c.variables_at-first_variable.result (align_up (GLOBALS_AT + constants_size layouts globals) PAGE) c.loop-global.taken.variables (variables_size layouts (take k globals)) STACKS_AT
    first variables (near-variables layouts globals k c.global-item.result c.requires there)

pub overflow_cast-size : goal.overflow_cast-size
overflow_cast-size c =
    let there = item-there c.args.globals.now c.loop-global.global-index c.global-item.result c.loop-global-test.true c.global-item.is in
    let room = has-room c.args.layouts.now c.args.globals.now c.loop-global.global-index c.global-item.result c.requires there in
    let small = small-global (global_size c.args.layouts.now c.global-item.result) (omega (arith, room)) in
    let size = c.global_size-size.ensures in
    omega (arith, small, size)

pub overflow_cast-len : goal.overflow_cast-len
overflow_cast-len c =
    let few = few-globals c.args.layouts.now c.args.globals.now in
    let room = c.requires in
    let count = c.len.ensures ∙ c.loop-global.invariant.count in
    let below = c.loop-global-test.true in
    omega (arith, few, room, count, below)

pub rounded_size-requires : goal.rounded_size-requires
rounded_size-requires c =
    let there = item-there c.args.globals.now c.loop-global.global-index c.global-item.result c.loop-global-test.true c.global-item.is in
    let room = has-room c.args.layouts.now c.args.globals.now c.loop-global.global-index c.global-item.result c.requires there in
    let small = small-global (global_size c.args.layouts.now c.global-item.result) (omega (arith, room)) in
    let size = c.global_size-size.ensures in
    omega (arith, small, size)

pub with_one-taken-requires : goal.with_one-taken-requires
with_one-taken-requires c =
    let there = item-there c.args.globals.now c.loop-global.global-index c.global-item.result c.loop-global-test.true c.global-item.is in
    let room = has-room c.args.layouts.now c.args.globals.now c.loop-global.global-index c.global-item.result c.requires there in
    let constants = ap (λ (taken : Taken). taken.constants) c.loop-global.invariant.taken in
    let variables = ap (λ (taken : Taken). taken.variables) c.loop-global.invariant.taken in
    let size = c.rounded_size.ensures ∙ ap rounded_size c.global_size-size.ensures in
    record { few = omega (arith, room, constants, variables, size) }

pub loop-global-preserved : goal.loop-global-preserved
loop-global-preserved c =
    let layouts = c.args.layouts.now in
    let globals = c.args.globals.now in
    let k = c.loop-global.global-index in
    let global = c.global-item.result in
    let there = item-there globals k global c.loop-global-test.true c.global-item.is in
    let size = c.rounded_size.ensures ∙ ap rounded_size c.global_size-size.ensures in
    let first = c.variables_at-first_variable.ensures ∙ ap (λ (taken : Taken). align_up (GLOBALS_AT + taken.constants) PAGE) c.taken_by.ensures in
    let here = descriptor-here layouts globals c.args.word k global c.place_after.result c.global_size-size.result c.global_tag.result
    (c.place_after.ensures ∙ place-here layouts globals k global c.loop-global.taken c.variables_at-first_variable.result c.loop-global.invariant.taken first)
    c.global_size-size.ensures
    (c.global_tag.ensures.value ∙ ap (global_tag_of c.args.word) (c.len.ensures ∙ c.loop-global.invariant.count)) in
    let pushed : c.push.new.self ≡ c.loop-global.found ++ descriptor_of (program_map 0) layouts globals c.args.word k global ∷ [] =
    c.in_ok-push.ensures.ok ∙ ap (λ (descriptor : Descriptor). c.loop-global.found ++ descriptor ∷ []) here in
    let found : c.push.new.self ≡ described_until layouts globals c.args.word (k + 1) =
    pushed
    ∙ (ap (λ descriptors. descriptors ++ descriptor_of (program_map 0) layouts globals c.args.word k global ∷ []) c.loop-global.invariant.found
    ∙ sym (described-more layouts globals c.args.word k global there)) in
    record {
      taken =
          c.with_one-taken.ensures
          ∙ (ap (λ (taken : Taken). with_one taken c.rounded_size.result global.constant) c.loop-global.invariant.taken
          ∙ (ap (λ n. with_one (taken_by layouts (take k globals)) n global.constant) size
          ∙ one-more-taken layouts globals k global there));
      count = ap length pushed ∙ (length_push c.loop-global.found _ ∙ ap (λ n. n + 1) c.loop-global.invariant.count);
      placed = subst (All IsPlaced) (sym pushed) (All-push IsPlaced c.loop-global.found _ c.loop-global.invariant.placed (placed-global layouts globals c.args.word k global c.requires there));
      found = found;
    }

pub returns-clause-value : goal.returns-clause-value
returns-clause-value c heap =
    c.loop-global.invariant.found ∙ described-all c.args.layouts.now c.args.globals.now c.args.word c.loop-global.global-index heap c.loop-global-test.false
