-- What bodies are resolved against, as the definitions see it.
use Rattle.ir_grammar.specs.Spelled.{bodies_of}
use Rattle.ir_body_names.specs.declared.names.Names.{Names}
use Rattle.ir_body_names.specs.BodyFaults.{Surroundings}

abbrev pub surroundings_of : Names → Surroundings
surroundings_of n = record {
  source = n.source.now;
  types = n.types.now;
  numbers = n.numbers.now;
  bodies = bodies_of n.bodies.now;
  functions = n.functions.now;
  declares = n.declares.now;
  nodes = n.nodes.now;
  kinds = n.kinds.now;
}
