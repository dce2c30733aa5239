-- Runs of bytes in a region, by their place, counted from 0, and their count. This project's choice.
use Rattle.std.specs.Prelude.{ℕ, ◌+◌, ◌-◌, List, ◌++◌, length, take, drop, replicate}

-- so many bytes from a place on
abbrev pub bytes_from : List ℕ → (at count : ℕ) → List ℕ
bytes_from bytes at count = take count (drop at bytes)

-- the bytes with others from a place on, and all else as it is
abbrev pub with_bytes_at : List ℕ → (at : ℕ) → List ℕ → List ℕ
with_bytes_at bytes at others = take at bytes ++ others ++ drop (at + length others) bytes

-- bytes, and zeros after them up to a length
abbrev pub zeros_after : List ℕ → (len : ℕ) → List ℕ
zeros_after bytes len = bytes ++ replicate (len - length bytes) 0
