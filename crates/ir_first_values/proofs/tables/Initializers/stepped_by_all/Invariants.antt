use Rattle.std.proofs.Common.{◌≡◌, drop, fold}
use Rattle.ir_first_values.specs.Tables.{tables_of}
use Rattle.ir_first_values.specs.Addresses.{stepped}
use Rattle.ir_first_values.proofs.tables.Initializers.stepped_by_all.Given as goal

abbrev pub invariant-loop-index : goal.invariant-loop-index
invariant-loop-index l =
    fold (stepped (tables_of l.self)) l.place (drop l.index-index l.indices) ≡ fold (stepped (tables_of l.self)) l.fn.start l.indices
