use Rattle.std.proofs.Common.{◌≡◌, take, length, All}
use Rattle.global_tags.specs.Loading.{IsPlaced}
use Rattle.global_tags.specs.Sums.{taken_by}
use Rattle.global_tags.proofs.LoadingLemmas.{described_until}
use Rattle.global_tags.proofs.loading.described.Given as goal

abbrev pub invariant-loop-global : goal.invariant-loop-global
invariant-loop-global l = record {
  taken : l.taken ≡ taken_by l.layouts (take l.global-index l.globals);
  count : length l.found ≡ l.global-index;
  placed : All IsPlaced l.found;
  found : l.found ≡ described_until l.layouts l.globals l.word l.global-index;
}
