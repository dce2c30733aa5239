use Rattle.ir_first_values.specs.Tables.{tables_of}
use Rattle.ir_first_values.proofs.PiecesInside.{put_within}
use Rattle.ir_first_values.proofs.tables.Initializers.first_value.Goals as goal

pub returns-in-Ok-clause-within : goal.returns-in-Ok-clause-within
returns-in-Ok-clause-within c =
    λ globals named fits. put_within 64 (tables_of c.args.self.now) globals c.args.ty c.args.constant c.new-init.result c.put_value.new.parts
    c.text_has_bytes.ensures named fits.sized fits.small c.new-init.ensures c.in-Ok.ensures
