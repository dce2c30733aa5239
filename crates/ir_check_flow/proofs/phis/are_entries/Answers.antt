use Rattle.std.proofs.Common.{ℕ, ◌<◌, List, length, sym, subst, ◌∙◌}
use Rattle.std.specs.List.{All}
use Rattle.ir_check_flow.proofs.EntriesFound.{blocks_inside}
use Rattle.ir_check_flow.proofs.phis.are_entries.Goals as goal

pub have_entries-good-requires-clause-inside : goal.have_entries-good-requires-clause-inside
have_entries-good-requires-clause-inside c =
    subst (λ (list : List ℕ). All (λ block. block < length c.args.marks.now) list) (sym (c.deref.ensures.value ∙ c.in_ok-blocks.ensures))
    (blocks_inside c.args.entries.now (length c.args.marks.now) c.requires.inside)
