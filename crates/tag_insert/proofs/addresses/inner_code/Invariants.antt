use Rattle.std.proofs.Common.{◌≡◌, List, ◌∷◌, map, drop}
use Rattle.ir_core.specs.NumberTypes.{type_of}
use Rattle.ir_core.specs.IndexSteps.{AddressStep, inner_steps}
use Rattle.mi_code.specs.AddressCode.{step_code}
use Rattle.tag_insert.specs.InnerSteps.{GoesOnFrom}
use Rattle.tag_insert.proofs.addresses.inner_code.Given as goal

abbrev pub invariant-loop-index : goal.invariant-loop-index
invariant-loop-index l =
    (done : List AddressStep) × (l.steps ≡ l.fn.first ∷ map (step_code l.m) done)
    × GoesOnFrom l.m (inner_steps l.m (type_of l.m l.ty) l.indices) done l.at (drop l.index-index l.indices)
