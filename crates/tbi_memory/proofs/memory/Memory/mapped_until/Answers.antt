use Rattle.std.proofs.Common.{◌≡◌, ℕ, ◌≤◌, ◌<◌, ◌-◌, sym, ◌∙◌, ap, arith}
use Rattle.std.specs.Prelude.{Err}
use Rattle.tbi_memory.specs.declared.mem_fault.MemFault.TheVariants.{Unmapped}
use Rattle.tbi_memory.specs.MemoryParts.{bytes_of, space_of, past_range}
use Rattle.tbi_memory.proofs.PartLemmas.{bytes-rising}
use Rattle.tbi_memory.proofs.RunLemmas.{past_ranges, read_bytes-until, read_bytes-past}
use Rattle.tbi_memory.proofs.memory.Memory.mapped_until.Goals as goal

pub returns-clause-far : goal.returns-clause-far
returns-clause-far c =
    let m = c.self.inside in
    let until : c.past.result ≡ past_ranges (space_of m.constants m.variables m.stacks m.heap).bytes c.args.a =
    c.past.ensures
    ∙ ap (past_range (bytes_of m.heap)) (c.past-after_stacks.ensures ∙ ap (past_range (bytes_of m.stacks)) (c.past-after_variables.ensures ∙ ap (past_range (bytes_of m.variables)) c.past-after_constants.ensures)) in
    rw (← c.self.view_is) (λ (n : ℕ) (far : n ≤ c.past.result - c.args.a).
    read_bytes-until (space_of m.constants m.variables m.stacks m.heap).bytes c.args.a n (omega (arith, until, far)))

pub returns-clause-near : goal.returns-clause-near
returns-clause-near c =
    let m = c.self.inside in
    let until : c.past.result ≡ past_ranges (space_of m.constants m.variables m.stacks m.heap).bytes c.args.a =
    c.past.ensures
    ∙ ap (past_range (bytes_of m.heap)) (c.past-after_stacks.ensures ∙ ap (past_range (bytes_of m.stacks)) (c.past-after_variables.ensures ∙ ap (past_range (bytes_of m.variables)) c.past-after_constants.ensures)) in
    rw (← c.self.view_is) (λ (n : ℕ) (near : c.past.result - c.args.a < n).
    read_bytes-past (space_of m.constants m.variables m.stacks m.heap).bytes c.args.a n (bytes-rising m.constants m.variables m.stacks m.heap c.self.invariant) (omega (arith, until, near))
    ∙ ap (λ (k : ℕ). Err (Unmapped k)) (sym until))
