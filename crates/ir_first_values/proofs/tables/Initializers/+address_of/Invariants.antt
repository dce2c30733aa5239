use Rattle.ir_first_values.proofs.tables.Initializers.+address_of.Given as goal

abbrev pub decreases-address_of : goal.decreases-address_of
decreases-address_of l = l.levels
