use Rattle.hw_driver.proofs.options.heap_or.Goals as goal

pub returns-in-Some-clause-range : goal.returns-in-Some-clause-range
returns-in-Some-clause-range c = c.requires c.in-Some.heap c.in-Some.is
