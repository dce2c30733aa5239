use Rattle.simulation.proofs.Images.{value-stays, registers-stay}
use Rattle.simulation.proofs.PlacesTold.{all-told-stays}
use Rattle.simulation.proofs.laws.images_stay.Goals as goal

pub returns-clause-places : goal.returns-clause-places
returns-clause-places c e w v news h = all-told-stays e w v news h

pub returns-clause-values : goal.returns-clause-values
returns-clause-values c before after value stays known = value-stays before after value stays known

pub returns-clause-registers : goal.returns-clause-registers
returns-clause-registers c before after values numbers stays has = registers-stay before after values numbers stays has
