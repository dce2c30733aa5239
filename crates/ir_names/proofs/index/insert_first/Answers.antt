use Rattle.std.proofs.Common.{sym, ◌∙◌}
use Rattle.std.proofs.lemmas.Map.Text.{btree_map_updates_str}
use Rattle.ir_names.specs.Places.{place_in}
use Rattle.ir_names.proofs.FirstPlaces.{place_set}
use Rattle.ir_names.proofs.index.insert_first.Goals as goal

pub returns-in_ok-insert : goal.returns-in_ok-insert
returns-in_ok-insert c = λ q.
    btree_map_updates_str c.args.key.now c.args.places.now c.insert.new.self _ c.in_ok-insert.ensures.updates q
    ∙ place_set (place_in c.args.places.now) c.args.key.now c.args.place (sym c.if-not-contains_key.ensures) q
