use Rattle.std.proofs.Common.{◌≡◌, ◌-◌, ◌≤◌, true, take}
use Rattle.std.specs.Prelude.{◌==◌}
use Rattle.std.specs.List.{list_all}
use Rattle.hw_region.specs.RegionBytes.{bytes_from}
use Rattle.hw_shadow.proofs.shadow.Shadow.all_equal.Given as goal

-- the granules before this one have the tag
abbrev pub invariant-loop-i : goal.invariant-loop-i
invariant-loop-i l =
    record {
      in_run : l.i ≤ l.count;
      so_far : list_all (λ t. t == l.tag) (take l.i (bytes_from l.self-inside.tags l.first l.count)) ≡ true;
    }

abbrev pub decreases-loop-i : goal.decreases-loop-i
decreases-loop-i l = l.count - l.i
