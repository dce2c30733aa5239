use Rattle.std.proofs.Common.{◌≡◌, ap, arith}
use Rattle.global_tags.specs.declared.places.Taken.{Taken}
use Rattle.global_tags.specs.Sums.{taken_by}
use Rattle.global_tags.proofs.GlobalLemmas.{both-sizes}
use Rattle.global_tags.proofs.places.taken_in.Goals as goal

pub returns-clause-few : goal.returns-clause-few
returns-clause-few c =
    let layouts = c.args.program.now.layouts in
    let globals = c.args.program.now.globals in
    let same : c.taken_by.result ≡ taken_by layouts globals = cc in
    let both = both-sizes layouts globals in
    let constants = ap (λ (taken : Taken). taken.constants) same in
    let variables = ap (λ (taken : Taken). taken.variables) same in
    let room = c.requires in
    omega (arith, both, constants, variables, room)
