use Rattle.ir_grammar.specs.Spelled.{store_of}
use Rattle.ir_read_body.proofs.BodyClear.{body_sound}
use Rattle.ir_read_body.proofs.body.read_body.Goals as goal

pub returns-clause-sound : goal.returns-clause-sound
returns-clause-sound c =
    (body_sound c.args.tokens.now c.args.at (c.in_ok-body.body.raw.blocks.items, c.in_ok-body.body.next, store_of c.in_ok-body.body.raw.found) c.requires.ranges c.in_ok-body.ensures).sound

pub returns-clause-blocks : goal.returns-clause-blocks
returns-clause-blocks c =
    (body_sound c.args.tokens.now c.args.at (c.in_ok-body.body.raw.blocks.items, c.in_ok-body.body.next, store_of c.in_ok-body.body.raw.found) c.requires.ranges c.in_ok-body.ensures).blocks
