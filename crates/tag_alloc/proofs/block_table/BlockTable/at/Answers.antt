use Rattle.std.proofs.Common.{List, Option, None, sym, ◌∙◌, ap}
use Rattle.std.specs.Prelude.{slice_index_or}
use Rattle.std.proofs.lemmas.Option.{unwrap_or-slice_get}
use Rattle.tag_alloc.specs.declared.blocks.Block.{Block}
use Rattle.tag_alloc.specs.HeapTables.{BlocksState}
use Rattle.tag_alloc.proofs.TableLemmas.{entry_number-none, entry_number-some, found_at, found_at-between, found_at-entry}
use Rattle.tag_alloc.proofs.block_table.BlockTable.at.Goals as goal

pub returns-in-Some : goal.returns-in-Some
returns-in-Some c =
    let t = c.self.inside in
    let place = entry_number-some t.low c.args.address c.in-Some.i (sym c.entry_number.ensures ∙ c.in-Some.is) in
    let entry = found_at-entry c.args.address t.low c.in-Some.i t.entries.items c.self.invariant.0 place in
    c.entry.ensures
    ∙ ap (λ (l : List (Option Block)). slice_index_or l c.in-Some.i None) c.deref.ensures.value
    ∙ sym (unwrap_or-slice_get t.entries.items c.in-Some.i None)
    ∙ sym entry
    ∙ ap (λ (s : BlocksState). found_at c.args.address s.blocks) c.self.view_is

pub returns-in-None : goal.returns-in-None
returns-in-None c =
    let t = c.self.inside in
    sym (found_at-between c.args.address t.low t.entries.items c.self.invariant.0 (entry_number-none t.low c.args.address (sym c.entry_number.ensures ∙ c.in-None.is)))
    ∙ ap (λ (s : BlocksState). found_at c.args.address s.blocks) c.self.view_is
