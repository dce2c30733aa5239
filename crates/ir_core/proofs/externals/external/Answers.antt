use Rattle.std.proofs.Common.{below_more}
use Rattle.ir_core.proofs.Names.{no_family}
use Rattle.ir_core.proofs.externals.external.Goals as goal

pub loop-known-preserved : goal.loop-known-preserved
loop-known-preserved c = below_more _ _ c.loop-known.invariant c.in-None.ensures

pub returns : goal.returns
returns c = no_family c.args.name.now c.loop-known.known-index c.loop-known-test.false c.loop-known.invariant
