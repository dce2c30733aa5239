use Rattle.std.proofs.Common.{◌+◌, List, ap, sym, ◌∙◌}
use Rattle.dbg_sites.specs.ChainTable.{ChainEntry, Numbered, pushed}
use Rattle.dbg_sites.specs.ChainLinks.{entries_of}
use Rattle.dbg_sites.specs.declared.chains.Link.{Link}
use Rattle.dbg_sites.specs.contracts.chains.LinkPartialEq.TheImpl.{eq-value}
use Rattle.dbg_sites.proofs.ChainLinkLaws.{pushed-links, same-entry}
use Rattle.dbg_sites.proofs.chains.Chains.push.Goals as goal

pub returns-clause-number : goal.returns-clause-number
returns-clause-number c =
    let link : Link = record { func = c.args.site.func; inst = c.args.site.inst; rest = c.args.parent } in
    let here = pushed-links (eq-value.it link) link (same-entry link) c.self.inside.links.keys in
    let seen = ap (λ (table : List ChainEntry). (pushed table c.args.parent c.args.site).number) c.self.view_is in
    ap (λ n. n + 1) c.in-Ok.ensures.index ∙ (sym (ap (λ (n : Numbered). n.number) here) ∙ seen)

pub returns-clause-table : goal.returns-clause-table
returns-clause-table c =
    let link : Link = record { func = c.args.site.func; inst = c.args.site.inst; rest = c.args.parent } in
    let here = pushed-links (eq-value.it link) link (same-entry link) c.self.inside.links.keys in
    let seen = ap (λ (table : List ChainEntry). (pushed table c.args.parent c.args.site).table) c.self.view_is in
    ap entries_of c.in-Ok.ensures.keys ∙ (sym (ap (λ (n : Numbered). n.table) here) ∙ seen)
