use Rattle.std.proofs.Common.{◌≡◌, ℕ, ◌<◌, ◌≤◌, IsTrue, IsFalse}
use Rattle.ir_core.specs.Progress.{laid_out, IsPartial, IsClosedAt}
use Rattle.ir_core.proofs.all_layouts.settle_once.Given as goal

abbrev pub invariant-loop-n : goal.invariant-loop-n
invariant-loop-n l = IsPartial l.types l.fields l.layouts × (laid_out l.initial.layouts ≤ laid_out l.layouts) × (IsTrue l.settled → laid_out l.initial.layouts < laid_out l.layouts) × (IsFalse l.settled → l.layouts ≡ l.initial.layouts) × (IsFalse l.settled → (k : ℕ) → k < l.n → IsClosedAt l.types l.fields l.layouts k)
