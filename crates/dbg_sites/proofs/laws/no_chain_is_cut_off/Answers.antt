use Rattle.dbg_sites.proofs.FrameChains.{frames-whole}
use Rattle.dbg_sites.proofs.laws.no_chain_is_cut_off.Goals as goal

pub returns : goal.returns
returns c = frames-whole
