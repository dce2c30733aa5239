use Rattle.std.proofs.Common.{refl}
use Rattle.dbg_sites.specs.Frames.{scopes_from, frame_at, frames_from}
use Rattle.dbg_sites.proofs.examples.frames_by_example.Goals as goal

pub returns-clause-plain : goal.returns-clause-plain
unfolding scopes_from frame_at frames_from
returns-clause-plain c = refl

pub returns-clause-inlined : goal.returns-clause-inlined
unfolding scopes_from frame_at frames_from
returns-clause-inlined c = refl

pub returns-clause-other_file : goal.returns-clause-other_file
unfolding scopes_from frame_at frames_from
returns-clause-other_file c = refl

pub returns-clause-no_file : goal.returns-clause-no_file
unfolding scopes_from frame_at frames_from
returns-clause-no_file c = refl

pub returns-clause-no_name : goal.returns-clause-no_name
unfolding scopes_from frame_at frames_from
returns-clause-no_name c = refl

pub returns-clause-no_location : goal.returns-clause-no_location
unfolding scopes_from frame_at frames_from
returns-clause-no_location c = refl
