use Rattle.std.proofs.Common.{◌≡◌, ◌++◌, ap, ◌∙◌, Some}
use Rattle.std.proofs.lemmas.Slice.Eq.{strip_prefix_is}
use Rattle.std.proofs.lemmas.Bool.Decides.{Decides-eqb}
use Rattle.ir_core.specs.Externals.{name_stem}
use Rattle.ir_core.proofs.Names.{member_told}
use Rattle.ir_core.proofs.externals.member.Goals as goal

pub returns-in-Some : goal.returns-in-Some
returns-in-Some c =
    let stem : c.as_bytes.result.now ≡ name_stem c.args.known = c.as_bytes.ensures.value ∙ c.stem.ensures in
    let cut : c.args.name.now ≡ c.as_bytes.result.now ++ c.in-Some.rest.now = strip_prefix_is Decides-eqb c.args.name.now c.as_bytes.result.now (Some c.in-Some.rest) c.in-Some.ensures.cases in
    member_told c.args.known c.args.name.now c.in-Some.rest.now c.with_width.result (cut ∙ ap (λ s. s ++ c.in-Some.rest.now) stem) c.with_width.ensures
