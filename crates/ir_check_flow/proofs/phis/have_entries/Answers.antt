use Rattle.std.proofs.Common.{ℕ, List, Bool, sym, subst}
use Rattle.std.specs.Bool.{IsTrue}
use Rattle.std.specs.List.{All, Contains}
use Rattle.ir_check_flow.specs.Phis.{IsIndex}
use Rattle.ir_check_flow.proofs.EntriesFound.{are_the_entries, entries_pass}
use Rattle.ir_check_flow.proofs.phis.have_entries.Goals as goal

pub returns : goal.returns
returns c = (
  λ good.
      let t = c.all_hold.ensures.0 good in
      are_the_entries c.fill_index.new.table c.args.predecessors.now c.args.entries.now
      (subst (λ (list : List ℕ). All (Contains list) c.args.predecessors.now) c.requires.blocks_are (c.has_keys-each.ensures.0 t.0))
      (subst (λ (list : List ℕ). All (Contains c.args.predecessors.now) list) c.requires.blocks_are (c.has_keys-only.ensures.0 t.1))
      (subst (λ (b : Bool). IsTrue b) c.has_one_value_each-same.ensures t.2),
  λ all.
      let p = entries_pass c.fill_index.new.table c.args.predecessors.now c.args.entries.now
      (subst (λ (list : List ℕ). IsIndex c.fill_index.new.table list) c.requires.blocks_are c.fill_index.ensures) all in
      c.all_hold.ensures.1 (
        c.has_keys-each.ensures.1 (subst (λ (list : List ℕ). All (Contains list) c.args.predecessors.now) (sym c.requires.blocks_are) p.0),
        c.has_keys-only.ensures.1 (subst (λ (list : List ℕ). All (Contains c.args.predecessors.now) list) (sym c.requires.blocks_are) p.1),
        subst (λ (b : Bool). IsTrue b) (sym c.has_one_value_each-same.ensures) p.2,
      ),
)
