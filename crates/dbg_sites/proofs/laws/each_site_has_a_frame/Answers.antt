use Rattle.dbg_sites.proofs.FrameChains.{some-frames}
use Rattle.dbg_sites.proofs.laws.each_site_has_a_frame.Goals as goal

pub returns : goal.returns
returns c = some-frames
