-- What a function is resolved by, as the definitions see it.
use Rattle.ir_body_names.specs.Views.{surroundings_of}
use Rattle.ir_first_values.specs.Tables.{tables_of}
use Rattle.ir_functions.specs.declared.resolver.Resolver.{Resolver}
use Rattle.ir_functions.specs.Scope.{Scope}

abbrev pub scope_in : Resolver → Scope
scope_in r = record {
  names = surroundings_of r.names.now;
  tables = tables_of r.values.now;
  built = r.values.now.module.now;
  keys = r.index.now;
  numbers = r.numbers.now;
}
