use Rattle.std.proofs.Common.{◌≡◌, length, Some}
use Rattle.std.specs.Option.{option_copied}
use Rattle.dbg_sites.specs.Frames.{scopes_from, file_in}
use Rattle.dbg_sites.proofs.locations.file_in.Given as goal

abbrev pub invariant-loop-rest : goal.invariant-loop-rest
invariant-loop-rest l = file_in (scopes_from (length l.rest) l.nodes (option_copied l.at)) ≡ file_in (scopes_from (length l.nodes) l.nodes (Some l.fn.location))

abbrev pub decreases-loop-rest : goal.decreases-loop-rest
decreases-loop-rest l = length l.rest
