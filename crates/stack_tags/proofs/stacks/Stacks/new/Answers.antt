use Rattle.std.proofs.Common.{List, ap, ◌∙◌}
use Rattle.stack_tags.specs.KeptFrames.{OneStack, stacks_of}
use Rattle.stack_tags.proofs.TaskStackLemmas.{no-stacks, stacks-start}
use Rattle.stack_tags.proofs.stacks.Stacks.new.Goals as goal

pub returns : goal.returns
returns c heap = ap (λ (stacks : List OneStack). stacks_of stacks c.args.ring) c.new.ensures.items ∙ stacks-start heap c.args.ring
