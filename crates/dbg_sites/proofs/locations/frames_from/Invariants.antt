use Rattle.std.proofs.Common.{◌≡◌, ◌++◌, length, Some}
use Rattle.std.specs.Option.{option_copied}
use Rattle.dbg_sites.specs.Frames.{frames_from}
use Rattle.dbg_sites.proofs.locations.frames_from.Given as goal

abbrev pub invariant-loop-rest : goal.invariant-loop-rest
invariant-loop-rest l =
    l.frames ++ frames_from (length l.rest) (length l.nodes) l.nodes l.func (option_copied l.at)
    ≡ frames_from (length l.nodes) (length l.nodes) l.nodes l.func (Some l.fn.location)

abbrev pub decreases-loop-rest : goal.decreases-loop-rest
decreases-loop-rest l = length l.rest
