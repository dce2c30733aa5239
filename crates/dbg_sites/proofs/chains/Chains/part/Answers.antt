use Rattle.std.proofs.Common.{refl, sym}
use Rattle.dbg_sites.proofs.ChainLinkLaws.{part_of-link, part_of-none}
use Rattle.dbg_sites.proofs.chains.Chains.part.Goals as goal

pub returns-in-Some : goal.returns-in-Some
returns-in-Some c =
    let seen = part_of-link c.self.inside.links.keys c.args.chain c.in-Some.link.now c.if-chain-eq0.false (sym c.in-Some.ensures.key) in
    rw (← c.self.view_is, seen) refl

pub returns-in-None : goal.returns-in-None
returns-in-None c =
    let seen = part_of-none c.self.inside.links.keys c.args.chain c.if-chain-eq0.false (sym c.in-None.ensures.key) in
    rw (← c.self.view_is, seen) refl
