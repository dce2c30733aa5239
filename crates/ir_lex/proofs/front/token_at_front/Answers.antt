use Rattle.std.proofs.Common.{take, sym, ◌∙◌, ap, arith, subst}
use Rattle.std.proofs.lemmas.List.{length-take-le}
use Rattle.std.proofs.lemmas.List.Sums.{prefix_len-le-length}
use Rattle.ir_core.specs.Spelling.{Spells, is_name_byte}
use Rattle.ir_lex.proofs.Longest.{longest_found, no_front, no_front_range, front_is}
use Rattle.ir_lex.proofs.front.token_at_front.Goals as goal

pub longest-found-requires-clause-names : goal.longest-found-requires-clause-names
longest-found-requires-clause-names c = omega (arith, prefix_len-le-length is_name_byte c.args.bytes.now)

pub returns-then-found-eq0 : goal.returns-then-found-eq0
returns-then-found-eq0 c = no_front c.args.names c.args.bytes.now c.requires.names (ap (λ f. f.len) (sym c.longest-found.ensures) ∙ c.if-found-eq0.true)

pub slice_bounds-is_in_range-end : goal.slice_bounds-is_in_range-end
slice_bounds-is_in_range-end c =
    let found = longest_found c.args.names c.args.bytes.now c.longest-found.result c.requires.names c.longest-found.ensures c.if-found-eq0.false in
    sym (length-take-le c.longest-found.result.len c.args.bytes.now found.inside)

pub is_in_range-requires : goal.is_in_range-requires
is_in_range-requires c =
    let found = longest_found c.args.names c.args.bytes.now c.longest-found.result c.requires.names c.longest-found.ensures c.if-found-eq0.false in
    subst (λ k. Spells k (take c.longest-found.result.len c.args.bytes.now)) c.in-Integer.is found.spelled

pub returns-then-is_in_range : goal.returns-then-is_in_range
returns-then-is_in_range c =
    let found = longest_found c.args.names c.args.bytes.now c.longest-found.result c.requires.names c.longest-found.ensures c.if-found-eq0.false in
    front_is c.args.bytes.now c.longest-found.result found (λ _. sym c.is_in_range.ensures ∙ c.if-is_in_range.true)

pub returns-else-is_in_range : goal.returns-else-is_in_range
returns-else-is_in_range c =
    let found = longest_found c.args.names c.args.bytes.now c.longest-found.result c.requires.names c.longest-found.ensures c.if-found-eq0.false in
    no_front_range c.args.bytes.now c.longest-found.result found c.in-Integer.is (sym c.is_in_range.ensures ∙ c.if-is_in_range.false)

pub returns-in_default : goal.returns-in_default
returns-in_default c =
    let found = longest_found c.args.names c.args.bytes.now c.longest-found.result c.requires.names c.longest-found.ensures c.if-found-eq0.false in
    front_is c.args.bytes.now c.longest-found.result found (λ isint. absurd (c.in_default.not-Integer isint))
