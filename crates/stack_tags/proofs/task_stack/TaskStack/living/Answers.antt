use Rattle.std.proofs.Common.{◌≡◌, ◌-◌, List, ap, ◌∙◌, arith}
use Rattle.std.specs.Prelude.{reverse, slice_get, option_map}
use Rattle.stack_tags.specs.Frames.{LivingFrame}
use Rattle.stack_tags.specs.KeptFrames.{OneStack}
use Rattle.stack_tags.proofs.StackLemmas.{record-at, record-past}
use Rattle.stack_tags.proofs.task_stack.TaskStack.living.Goals as goal

pub returns-then-i-count : goal.returns-then-i-count
returns-then-i-count c =
    let s = c.self.inside in
    let count = c.len-count.ensures in
    let test = c.if-i-count.true in
    record-at s.variables.items s.entered.items c.args.i (c.len-count.result - 1 - c.args.i) c.index.result.now (omega (arith, count, test, s.entered.ok.0)) c.index.ensures
    ∙ ap (λ (o : OneStack). option_map (λ (l : LivingFrame). l.frame) (slice_get o.frames.living c.args.i)) c.self.view_is

pub returns-else-i-count : goal.returns-else-i-count
returns-else-i-count c =
    let s = c.self.inside in
    let count = c.len-count.ensures in
    let test = c.if-i-count.false in
    record-past s.variables.items s.entered.items c.args.i (omega (arith, count, test, s.entered.ok.0))
    ∙ ap (λ (o : OneStack). option_map (λ (l : LivingFrame). l.frame) (slice_get o.frames.living c.args.i)) c.self.view_is
