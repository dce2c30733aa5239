-- The sites of a call chain, as they are shown. A site is shown by the name of its function while debug locations aren't followed.
-- This project's choice, after the stacks in the reports of Clang's sanitizers.
use Rattle.std.specs.Prelude.{ℕ, List, [], ◌∷◌, ◌++◌, codes, slice_get, Option, Some, None}
use Rattle.hw_base.specs.declared.pointers.Site.{Site}
use Rattle.ir_core.specs.declared.ir_module.Function.{Function}
use Rattle.ir_core.specs.declared.ir_module.Module.{Module}

abbrev pub name_of : Option Function → List ℕ
name_of None = []
name_of (Some function) = function.name

-- the name of a function by its number
abbrev pub function_name : Module → ℕ → List ℕ
function_name m func = name_of (slice_get m.functions func)

-- a site without a debug location
abbrev pub site_line : Module → Site → List ℕ
site_line m site = codes "  at " ++ function_name m site.func ++ codes " ?\n"

-- the sites of a chain, innermost first
abbrev pub chain_lines : Module → List Site → List ℕ
chain_lines m [] = []
chain_lines m (site ∷ sites) = site_line m site ++ chain_lines m sites
