-- The widths of the byte swap (LLVM Language Reference, "'llvm.bswap.*' Intrinsics"), which the reader of names and the
-- integer tables share.
use Rattle.std.specs.Prelude.{◌≡◌, ℕ, ◌%◌}
use Rattle.hw_base.specs.declared.operators.BitOp.{BitOp}
use Rattle.hw_base.specs.declared.operators.BitOp.TheVariants.{BSwap}

-- bytes are swapped in pairs, so a byte swap has a multiple of 16 bits; the other intrinsics on bits have every width
abbrev pub HasPairs : BitOp → ℕ → Type 0
HasPairs BSwap width = width % 16 ≡ 0
HasPairs other width = Unit {0}
