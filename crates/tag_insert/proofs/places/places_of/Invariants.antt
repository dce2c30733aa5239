use Rattle.std.proofs.Common.{◌≡◌, ◌+◌, ◌*◌, ◌≤◌}
use Rattle.mi_code.specs.Instrumentation.{place_of}
use Rattle.tag_insert.specs.Functions.{ArePlaces}
use Rattle.tag_insert.proofs.places.places_of.Given as goal

abbrev pub invariant-loop-inst : goal.invariant-loop-inst
invariant-loop-inst l = record {
  done : ArePlaces l.m l.f l.inst-index l.places.items;
  here : l.at ≡ place_of l.m l.f l.inst-index;
  small : l.at ≤ 1 + 3 * l.inst-index;
}
