use Rattle.std.proofs.Common.{◌≡◌, ◌++◌}
use Rattle.dbg_sites.specs.ChainTable.{chain_of, chain_within}
use Rattle.hw_report.specs.Sites.{chain_lines}
use Rattle.hw_report.proofs.sites.chain_text.Given as goal

abbrev pub invariant-loop-left : goal.invariant-loop-left
invariant-loop-left l = l.text.items ++ chain_lines l.program (chain_within l.chains l.left l.number) ≡ chain_lines l.program (chain_of l.chains l.chain)

abbrev pub decreases-loop-left : goal.decreases-loop-left
decreases-loop-left l = l.left
