use Rattle.std.proofs.Common.{arith, ◌∙◌}
use Rattle.dbg_sites.specs.Read.{place_in}
use Rattle.dbg_sites.proofs.Index.{length-behind, index_step}
use Rattle.dbg_sites.proofs.numbers.places_of.Goals as goal

pub loop-rest-preserved : goal.loop-rest-preserved
loop-rest-preserved c = record {
  place = length-behind c.loop-rest.place c.loop-rest.rest.now (omega arith) ∙ c.loop-rest.invariant.place;
  first = index_step (place_in c.loop-rest.places) (place_in c.insert_first.new.places) c.args.nodes.now c.loop-rest.rest.now c.loop-rest.place _ (omega arith) c.in_ok-insert_first.ensures c.loop-rest.invariant.first;
}
