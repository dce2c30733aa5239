use Rattle.ir_grammar.specs.Spelled.{store_of}
use Rattle.ir_read_items.proofs.Spelled.{spelled_sound}
use Rattle.ir_read_items.proofs.whole.read_items.Goals as goal

pub returns-clause-sound : goal.returns-clause-sound
returns-clause-sound c = (spelled_sound c.args.tokens.now (store_of c.in_ok-found.found) c.requires c.in_ok-found.ensures).sound

pub returns-clause-small : goal.returns-clause-small
returns-clause-small c = (spelled_sound c.args.tokens.now (store_of c.in_ok-found.found) c.requires c.in_ok-found.ensures).small
