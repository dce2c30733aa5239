use Rattle.std.proofs.Common.{◌≡◌, ◌++◌, ◌-◌, ◌∙◌, sym, subst, arith, List, ℕ}
use Rattle.dbg_sites.specs.ChainTable.{chain_of, chain_within}
use Rattle.hw_report.specs.Sites.{chain_lines}
use Rattle.hw_report.proofs.SiteLines.{next-line, all-lines, last-line}
use Rattle.hw_report.proofs.sites.chain_text.Goals as goal

pub loop-left-preserved : goal.loop-left-preserved
loop-left-preserved c =
    let whole = chain_lines c.args.program.now (chain_of c.args.chains.now c.args.chain) in
    let next = next-line c.args.program.now c.args.chains.now c.loop-left.left c.loop-left.number c.loop-left.text.items whole c.loop-left.invariant c.in-Some.site c.in-Some.rest (omega arith) c.in-Some.ensures in
    subst (λ (items : List ℕ). items ++ chain_lines c.args.program.now (chain_within c.args.chains.now (c.loop-left.left - 1) c.in-Some.rest) ≡ whole)
    (sym c.in_ok-push_line-in-Some.ensures) next

pub returns-in-None : goal.returns-in-None
returns-in-None c = c.from_vec.ensures ∙
    all-lines c.args.program.now c.args.chains.now c.loop-left.left c.loop-left.number c.loop-left.text.items (chain_lines c.args.program.now (chain_of c.args.chains.now c.args.chain)) c.loop-left.invariant c.in-None.ensures

pub returns : goal.returns
returns c = c.from_vec-2.ensures ∙
    last-line c.args.program.now c.args.chains.now c.loop-left.left c.loop-left.number c.loop-left.text.items (chain_lines c.args.program.now (chain_of c.args.chains.now c.args.chain)) c.loop-left.invariant (omega arith)
