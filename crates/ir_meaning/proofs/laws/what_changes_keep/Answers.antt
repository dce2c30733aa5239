use Rattle.ir_meaning.proofs.BirthChangeLaws.{change-keeps_dead, change-only_grows, change-has_bytes, change-is_told, put_bytes-nothing}
use Rattle.ir_meaning.proofs.laws.what_changes_keep.Goals as goal

pub returns-clause-dead : goal.returns-clause-dead
returns-clause-dead c = change-keeps_dead

pub returns-clause-grow : goal.returns-clause-grow
returns-clause-grow c = change-only_grows

pub returns-clause-bytes : goal.returns-clause-bytes
returns-clause-bytes c = change-has_bytes

pub returns-clause-news : goal.returns-clause-news
returns-clause-news c = change-is_told

pub returns-clause-nothing_written : goal.returns-clause-nothing_written
returns-clause-nothing_written c = put_bytes-nothing
