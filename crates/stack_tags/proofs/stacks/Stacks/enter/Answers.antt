use Rattle.std.proofs.Common.{◌≡◌, List, length, Some, ap, sym, ◌∙◌, subst, refl, arith}
use Rattle.std.specs.Prelude.{slice_get, is_ok, Ok, Err}
use Rattle.std.proofs.lemmas.Option.{slice_get_read}
use Rattle.hw_tags.specs.Words.{coming}
use Rattle.stack_tags.specs.Frames.{StacksState}
use Rattle.stack_tags.specs.FrameSteps.{entered}
use Rattle.stack_tags.specs.KeptFrames.{OneStack}
use Rattle.stack_tags.proofs.TaskStackLemmas.{started-inside, entered-fits, entered-full, stacks-entry, ok-entry, low-entry}
use Rattle.stack_tags.proofs.stacks.Stacks.enter.Goals as goal

there : (c : goal.After-self-1) → slice_get c.self.inside.tasks.items c.args.task ≡ Some c.index_mut.result.now
there c =
    let s = c.self.inside in
    slice_get_read s.tasks.items (length s.tasks.items) c.args.task c.index_mut.result.now refl (started-inside s.tasks.items s.ring c.args.task c.args.self.now c.self.view_is c.requires.started) c.index_mut.ensures.value

pub invariant_of-self : goal.invariant_of-self
invariant_of-self c =
    let s = c.self.inside in
    stacks-entry s.tasks.items s.ring c.args.task c.index_mut.result.now (there c) c.self.invariant c.args.mem.now c.args.func (coming c.args.words.now 0) c.args.sizes.now c.args.birth c.args.born c.enter.result c.enter.new.self
    c.enter.ensures.frame c.enter.ensures.stays

pub returns-clause-ok : goal.returns-clause-ok
returns-clause-ok c =
    let s = c.self.inside in
    ok-entry s.tasks.items s.ring c.args.task c.index_mut.result.now (there c) c.self.invariant c.args.mem.now c.args.func (coming c.args.words.now 0) c.args.sizes.now c.args.birth c.args.born c.enter.result c.enter.new.self
    c.args.self.now c.enter.new.mem c.self.view_is c.enter.ensures.fits c.enter.ensures.frame c.enter.ensures.memory

pub returns-clause-low : goal.returns-clause-low
returns-clause-low c =
    let s = c.self.inside in
    low-entry s.tasks.items s.ring c.args.task c.index_mut.result.now (there c) c.self.invariant c.args.mem.now c.args.func (coming c.args.words.now 0) c.args.sizes.now c.args.birth c.args.born c.enter.result c.enter.new.self
    c.enter.ensures.frame c.enter.ensures.low

pub returns-clause-full : goal.returns-clause-full
returns-clause-full c full is word =
    let s = c.self.inside in
    ap (λ (o : StacksState). entered o c.args.mem.now c.args.task c.args.func word c.args.sizes.now c.args.birth c.args.born) (sym c.self.view_is)
    ∙ entered-full s.tasks.items s.ring c.args.task c.index_mut.result.now (there c) c.self.invariant c.args.mem.now c.args.func word c.args.sizes.now c.args.birth c.args.born full (c.enter.ensures.full full is)

pub returns-clause-memory_ran_out : goal.returns-clause-memory_ran_out
returns-clause-memory_ran_out c is word =
    let s = c.self.inside in
    ap (λ (o : StacksState). is_ok (entered o c.args.mem.now c.args.task c.args.func word c.args.sizes.now c.args.birth c.args.born)) (sym c.self.view_is)
    ∙ ap is_ok (entered-fits s.tasks.items s.ring c.args.task c.index_mut.result.now (there c) c.self.invariant c.args.mem.now c.args.func word c.args.sizes.now c.args.birth c.args.born (c.enter.ensures.memory_ran_out is))
