-- States stay related when the chain table grows: each table names its chains by the same numbers.
use Rattle.std.proofs.Common.{◌≡◌, ◌≢◌, ℕ, List, length, slice_get, Some, arith}
use Rattle.std.proofs.lemmas.Option.{slice_get_within}
use Rattle.dbg_sites.specs.ChainTable.{ChainEntry, IsChainTable}
use Rattle.ir_machine.specs.State.{MachineSetting, MachineShared}
use Rattle.tag_story.specs.Story.{StoryBirth}
use Rattle.tag_story.specs.ToldRun.{ToldShared}
use Rattle.simulation.proofs.TablesKept.{StayBut, each-map, block-kept, freed-kept, frame-kept, ended-kept}
use Rattle.simulation.specs.BirthsAndDeaths.{ChainsStay}
use Rattle.simulation.specs.Parts.{IsFreedOf, IsFrameOf, IsEndedOf}
use Rattle.simulation.specs.Relation.{SharedRelated}

-- all births stay, and none has the number of the next one
all-stay : (births : List StoryBirth) → StayBut (length births) births births
all-stay births n birth other h = h

not-next : (births : List StoryBirth) (n : ℕ) (birth : StoryBirth) → slice_get births n ≡ Some birth → n ≢ length births
not-next births n birth h same = let below = slice_get_within births n birth h in omega (arith, below, same)

pub chains-related : (setting : MachineSetting) (t : ToldShared) (m : MachineShared) (table : List ChainEntry) → ChainsStay m.chains table → IsChainTable table → SharedRelated setting t m → SharedRelated setting t (record m { chains = table })
chains-related setting t m table chains is_table related =
    record {
      laid = related.laid;
      told = related.told;
      their_bytes = related.their_bytes;
      known = related.known;
      table = is_table;
      tags = related.tags;
      bytes = related.bytes;
      mapped = related.mapped;
      ends = related.ends;
      constants_at = related.constants_at;
      constants_end = related.constants_end;
      descriptors = related.descriptors;
      constants = related.constants;
      globals = related.globals;
      heap = record {
        from = related.heap.from;
        end = related.heap.end;
        blocks = record {
          from = λ i block h. let (birth, of) = related.heap.blocks.from i block h in (birth, block-kept m.chains table t.story.births t.story.births (length t.story.births) chains (all-stay t.story.births) block birth (not-next t.story.births block.birth birth of.there) of);
          to = related.heap.blocks.to;
        };
        size = related.heap.size;
        ring = related.heap.ring;
        freed = λ task records h. each-map (IsFreedOf m.chains t.story.births) (IsFreedOf table t.story.births) records _ (λ freed x of. freed-kept m.chains table t.story.births t.story.births (length t.story.births) chains (all-stay t.story.births) freed x (not-next t.story.births x.birth of.story of.there) of) (related.heap.freed task records h);
      };
      freed = related.freed;
      stacks = record {
        from = related.stacks.from;
        stack_length = related.stacks.stack_length;
        ring = related.stacks.ring;
        living = λ task frames h. each-map (IsFrameOf m.chains t.story.births) (IsFrameOf table t.story.births) frames.living _ (λ living frame of. frame-kept m.chains table t.story.births t.story.births (length t.story.births) chains (all-stay t.story.births) living frame (not-next t.story.births frame.birth of.story of.there) of) (related.stacks.living task frames h);
        ended = λ task frames h. each-map (IsEndedOf m.chains t.story.births) (IsEndedOf table t.story.births) frames.ended _ (λ ended x of. ended-kept m.chains table t.story.births t.story.births (length t.story.births) chains (all-stay t.story.births) ended x (not-next t.story.births x.birth of.story of.there) of) (related.stacks.ended task frames h);
      };
      opened = related.opened;
      births = related.births;
      drawn = related.drawn;
      input = related.input;
    }
