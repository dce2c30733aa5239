use Rattle.std.proofs.Common.{ℕ, sym, ◌∙◌, arith}
use Rattle.tbi_memory.proofs.PartLemmas.{tag_at-heap, tag_at-stacks, tag_at-variables, tag_at-constants, heap-below}
use Rattle.tbi_memory.proofs.memory.Memory.tag_of.Goals as goal

pub returns-then-self-granule-clause-tag : goal.returns-then-self-granule-clause-tag
returns-then-self-granule-clause-tag c =
    let m = c.self.inside in
    rw (← c.self.view_is) (c.tag.ensures ∙ sym (tag_at-heap m.constants m.variables m.stacks m.heap c.self.invariant c.args.granule (omega arith)))

pub returns-then-self-granule-clause-inside : goal.returns-then-self-granule-clause-inside
returns-then-self-granule-clause-inside c =
    let m = c.self.inside in
    λ (memory : ℕ) found. heap-below m.constants m.variables m.stacks m.heap c.self.invariant c.args.granule memory (sym c.tag.ensures ∙ found)

pub returns-then-self-granule-2-clause-tag : goal.returns-then-self-granule-2-clause-tag
returns-then-self-granule-2-clause-tag c =
    let m = c.self.inside in
    rw (← c.self.view_is) (c.tag-then-self-granule-2.ensures ∙ sym (tag_at-stacks m.constants m.variables m.stacks m.heap c.self.invariant c.args.granule (omega arith) (omega arith)))

pub returns-then-self-granule-3-clause-tag : goal.returns-then-self-granule-3-clause-tag
returns-then-self-granule-3-clause-tag c =
    let m = c.self.inside in
    rw (← c.self.view_is) (c.tag-then-self-granule-3.ensures ∙ sym (tag_at-variables m.constants m.variables m.stacks m.heap c.self.invariant c.args.granule (omega arith) (omega arith)))

pub returns-else-self-granule-3-clause-tag : goal.returns-else-self-granule-3-clause-tag
returns-else-self-granule-3-clause-tag c =
    let m = c.self.inside in
    rw (← c.self.view_is) (c.tag-else-self-granule-3.ensures ∙ sym (tag_at-constants m.constants m.variables m.stacks m.heap c.self.invariant c.args.granule (omega arith)))
