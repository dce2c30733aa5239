use Rattle.std.proofs.Common.{◌≡◌, ◌∙◌, refl, ap, sym, drop, Some, None}
use Rattle.std.specs.Prelude.{slice_get}
use Rattle.std.proofs.lemmas.List.{drop_all}
use Rattle.global_tags.specs.GlobalBytes.{with_globals}
use Rattle.global_tags.proofs.GlobalLemmas.{item-there}
use Rattle.global_tags.proofs.LoadingLemmas.{globals-on, no-descriptors, no-globals, drop-none}
use Rattle.global_tags.proofs.loading.write_globals.Goals as goal

pub loop-k-preserved : goal.loop-k-preserved
loop-k-preserved c =
    let here : slice_get c.args.descriptors.now c.loop-k.k ≡ Some c.in-Some.descriptor = cc in
    let there = item-there c.args.globals.now c.loop-k.k c.index-globals-k.result c.loop-k-test.true c.index-globals-k.is in (
      refl,
      refl,
      globals-on c.args.descriptors.now c.loop-k.mem c.write_global.new.mem c.args.descriptors.now c.args.globals.now c.loop-k.k c.in-Some.descriptor c.index-globals-k.result
          here there c.write_global.ensures
          ∙ c.loop-k.invariant.2,
    )

pub returns-in-None : goal.returns-in-None
returns-in-None c =
    let none : slice_get c.args.descriptors.now c.loop-k.k ≡ None = cc in
    sym (no-descriptors c.args.descriptors.now c.loop-k.mem (drop c.loop-k.k c.args.globals.now))
    ∙ (ap (λ descriptors. with_globals c.args.descriptors.now c.loop-k.mem descriptors (drop c.loop-k.k c.args.globals.now)) (sym (drop-none c.args.descriptors.now c.loop-k.k none))
    ∙ c.loop-k.invariant.2)

pub returns : goal.returns
returns c =
    sym (no-globals c.args.descriptors.now c.loop-k.mem (drop c.loop-k.k c.args.descriptors.now))
    ∙ (ap (with_globals c.args.descriptors.now c.loop-k.mem (drop c.loop-k.k c.args.descriptors.now)) (sym (drop_all c.loop-k.k c.args.globals.now c.loop-k-test.false))
    ∙ c.loop-k.invariant.2)
