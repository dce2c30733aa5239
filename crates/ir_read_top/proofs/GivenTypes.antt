-- The types of values whose type isn't spelled, put together.
use Rattle.std.proofs.Common.{◌≡◌, List, [], ◌∷◌, ◌++◌, map, ap, ◌∙◌}
use Rattle.std.specs.List.{range_with_len}
use Rattle.ir_core.specs.declared.types.IrType.{IrType}
use Rattle.ir_core.specs.declared.types.IrType.TheVariants.{Void, Int, Ptr, Pair}
use Rattle.ir_functions.specs.Given.{given_types}

pub all_given : (integers pairs front whole : List IrType) → front ≡ (Ptr ∷ Void ∷ []) ++ integers → whole ≡ front ++ pairs → integers ≡ map Int (range_with_len 1 128) → pairs ≡ map Pair (range_with_len 1 128) → whole ≡ given_types
all_given integers pairs front whole a b i p =
    b
    ∙ (ap (λ v. v ++ pairs) a
    ∙ (ap (λ v. Ptr ∷ Void ∷ (v ++ pairs)) i
    ∙ ap (λ v. Ptr ∷ Void ∷ (map Int (range_with_len 1 128) ++ v)) p))
