-- When two names are one (LLVM Language Reference, "Identifiers"), and the names of the globals that LLVM gives a meaning
-- (LLVM Language Reference, "Intrinsic Global Variables").
use Rattle.std.specs.Prelude.{ℕ, List, ◌∷◌, drop, Bool, ◌||◌, if◌then◌else◌, nat_eq, codes}
use Rattle.std.specs.List.{list_all, starts_with}
use Rattle.std.specs.Char.{is_ascii_digit}
use Rattle.std.specs.Str.{bytes_eq}
use Rattle.ir_core.specs.Spelling.{quote}
use Rattle.ir_text.specs.TokenText.{significant, name_bytes}

-- what two names behind `%` or behind `@` share exactly where they are one name: of a number its digits without the zeros
-- in front, and of every other name its bytes behind a quote, which no number has
abbrev pub name_key : List ℕ → List ℕ
name_key bytes = if list_all is_ascii_digit bytes then significant bytes else quote ∷ name_bytes bytes

-- the bytes of the name behind a token's `@`
abbrev pub global_name : List ℕ → List ℕ
global_name bytes = name_bytes (drop 1 bytes)

-- the token names one of the two lists of what has to be kept
abbrev pub is_used_list : List ℕ → Bool
is_used_list bytes = bytes_eq (global_name bytes) (codes "llvm.used") || bytes_eq (global_name bytes) (codes "llvm.compiler.used")

-- the token names the list of what runs before main
abbrev pub is_constructor_list : List ℕ → Bool
is_constructor_list bytes = bytes_eq (global_name bytes) (codes "llvm.global_ctors")

-- the token names a function that describes variables to a debugger (LLVM Language Reference, "Debugger intrinsics")
abbrev pub is_debug_function : List ℕ → Bool
is_debug_function bytes = starts_with nat_eq (global_name bytes) (codes "llvm.dbg.")
