use Rattle.std.proofs.Common.{◌≤◌, arith, ap, length}
use Rattle.dbg_sites.proofs.Bounds.{length-kept, resolved_if}
use Rattle.dbg_sites.proofs.nodes.read_meta.Goals as goal

pub places_of-requires : goal.places_of-requires
places_of-requires c =
    let bound : length c.in_ok-nodes.nodes.items ≤ length c.args.tokens.now.tokens = length-kept c.args.tokens.now.source c.args.tokens.now.tokens c.in_ok-nodes.nodes.items c.in_ok-nodes.ensures in
    let same = ap length c.as_slice.ensures.value in
    omega arith

pub returns-clause-resolved : goal.returns-clause-resolved
returns-clause-resolved c = resolved_if _ _ c.nodes_of.ensures
