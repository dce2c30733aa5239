use Rattle.ir_names.proofs.starts.+mark.Given as goal

abbrev pub decreases-mark : goal.decreases-mark
decreases-mark l = l.levels
