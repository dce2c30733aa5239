use Rattle.tag_insert.proofs.InnerWalks.{near-inner}
use Rattle.tag_insert.proofs.addresses.indices_code.Goals as goal

pub inner_code-requires-clause-near : goal.inner_code-requires-clause-near
inner_code-requires-clause-near c = near-inner c.args.m.now c.args.ty c.args.indices.now c.if-indices-eq0.false c.requires.near
