use Rattle.ir_read_items.proofs.ItemRows.{any_rows}
use Rattle.ir_read_items.proofs.laws.bodies_lie_in_rows.Goals as goal

pub returns-clause-rows : goal.returns-clause-rows
returns-clause-rows c = λ levels tokens store d. (any_rows levels tokens store d).rows

pub returns-clause-blocks : goal.returns-clause-blocks
returns-clause-blocks c = λ levels tokens store d. (any_rows levels tokens store d).blocks
