use Rattle.std.proofs.Common.{◌≤◌, arith, ap, length}
use Rattle.dbg_sites.proofs.Bounds.{length-kept, few_if}
use Rattle.dbg_sites.proofs.nodes.node_numbers.Goals as goal

pub returns-clause-few : goal.returns-clause-few
returns-clause-few c =
    let source = c.args.tokens.now.source in
    let tokens = c.args.tokens.now.tokens in
    let nodes = c.as_slice.result.now in
    let bound : length c.in_ok-nodes.nodes.items ≤ length tokens = length-kept source tokens c.in_ok-nodes.nodes.items c.in_ok-nodes.ensures in
    let same = ap length c.as_slice.ensures.value in
    few_if source tokens nodes c.numbers_of.result (omega arith) c.numbers_of.ensures
