use Rattle.std.proofs.Common.{◌≡◌, ◌≢◌, ℕ, ◌<◌, get_or}
use Rattle.ir_core.specs.declared.lib_functions.Lib.{Lib}
use Rattle.ir_core.specs.declared.lib_functions.Lib.TheVariants.{Malloc}
use Rattle.ir_core.specs.Externals.{lib_name, IsThere, family}
use Rattle.ir_core.proofs.externals.external.Given as goal

abbrev pub invariant-loop-known : goal.invariant-loop-known
invariant-loop-known l = (k : ℕ) → k < l.known-index → (lib : Lib) → family lib ≡ family (get_or l.known-items k Malloc) → IsThere lib → lib_name lib ≢ l.name
