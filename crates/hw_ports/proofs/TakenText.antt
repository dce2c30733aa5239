-- A text that was read through a limit of one byte more.
use Rattle.std.proofs.Common.{◌≡◌, ℕ, ◌+◌, ◌-◌, ◌^◌, ◌<◌, ◌≤◌, List, [], ◌++◌, length, take, Some, None, ◌∙◌, ap, arith}
use Rattle.std.specs.Prelude.{Option, IfSome, min}
use Rattle.std.specs.Option.{option_map}
use Rattle.std.proofs.lemmas.List.{length-take, take_all}
use Rattle.hw_ports.specs.Content.{GivesText}
use Rattle.hw_ports.specs.declared.ports.FileText.TheVariants.{Whole}

-- bytes of which no more than the limit came are all there
pub taken_whole : (left : Option (List ℕ)) (limit most : ℕ) (old new : List ℕ) → most ≡ min (limit + 1) (2 ^ 64 - 1) → old ≡ []
    → IfSome (option_map (take most) left) (λ xs. new ≡ old ++ xs) → length new ≤ limit → length new < 2 ^ 63
    → IfSome left (λ bytes. GivesText bytes limit Whole new)
taken_whole None limit most old new is empty read few small = tt
taken_whole (Some bytes) limit most old new is empty read few small =
    let taken : new ≡ take most bytes = rw empty at read in
    let count : length new ≡ min most (length bytes) = ap length taken ∙ length-take most bytes in
    let fits : length bytes ≤ most = omega arith in
    (taken ∙ take_all most bytes fits, omega arith)
