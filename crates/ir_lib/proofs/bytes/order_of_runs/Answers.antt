use Rattle.std.proofs.Common.{◌∙◌}
use Rattle.ir_lib.proofs.CompareLemmas.{slice_cmp-bytes}
use Rattle.ir_lib.proofs.bytes.order_of_runs.Goals as goal

pub returns : goal.returns
returns c = c.cmp.ensures ∙ slice_cmp-bytes c.args.xs.now c.args.ys.now c.requires
