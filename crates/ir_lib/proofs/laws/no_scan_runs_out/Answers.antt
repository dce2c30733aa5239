use Rattle.ir_lib.proofs.ScanLemmas.{string_at-more, checked_string-more, string_at-unmapped}
use Rattle.ir_lib.proofs.laws.no_scan_runs_out.Goals as goal

pub returns-clause-read : goal.returns-clause-read
returns-clause-read c = string_at-more

pub returns-clause-checked : goal.returns-clause-checked
returns-clause-checked c = checked_string-more

pub returns-clause-unmapped : goal.returns-clause-unmapped
returns-clause-unmapped c = string_at-unmapped
