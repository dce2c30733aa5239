use Rattle.std.proofs.Common.{◌≡◌, ℕ, ◌∙◌, [], List, ap, sym, subst, length}
use Rattle.hw_base.specs.AddressMap.{program_map}
use Rattle.ir_core.specs.declared.ir_module.GlobalVar.{GlobalVar}
use Rattle.global_tags.specs.GlobalBytes.{with_globals}
use Rattle.global_tags.specs.Loading.{AreLoadable}
use Rattle.global_tags.proofs.LoadingLemmas.{no-descriptors, length-descriptors}
use Rattle.global_tags.proofs.loading.load.Goals as goal

pub returns-then-is_empty-clause-memory : goal.returns-then-is_empty-clause-memory
returns-then-is_empty-clause-memory c =
    let globals = c.args.program.now.globals in
    sym (ap (λ descriptors. with_globals descriptors c.args.mem.now descriptors globals) c.new.ensures ∙ no-descriptors [] c.args.mem.now globals)

pub write_globals-requires-clause-pieces : goal.write_globals-requires-clause-pieces
write_globals-requires-clause-pieces c =
    let globals = c.as_slice-globals.result.now in
    let count : length c.in_ok-found.found ≡ length globals =
    ap length (c.in_ok-found.ensures.value 0) ∙ length-descriptors (program_map 0) c.as_slice-layouts.result.now globals _ in
    let listed : globals ≡ c.args.program.now.globals = c.as_slice-globals.ensures in
    subst (λ (n : ℕ). AreLoadable n globals) (sym count)
    (subst (λ (gs : List GlobalVar). AreLoadable (length gs) gs) (sym listed) c.requires.pieces)
