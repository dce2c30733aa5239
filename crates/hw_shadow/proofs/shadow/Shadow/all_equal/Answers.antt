use Rattle.std.proofs.Common.{arith}
use Rattle.hw_shadow.proofs.ShadowLemmas.{same_tag_more, other_tag}
use Rattle.hw_shadow.proofs.shadow.Shadow.all_equal.Goals as goal

pub returns-then-byte-tag : goal.returns-then-byte-tag
returns-then-byte-tag c =
    rw (← c.self.view_is) (other_tag c.self.inside.tags c.args.first c.args.count c.loop-i.i c.args.tag c.byte.result (rw c.self.view_is c.requires.inside) (omega arith) c.byte.ensures c.if-byte-tag.true)

pub loop-i-preserved : goal.loop-i-preserved
loop-i-preserved c =
    record {
      in_run = omega arith;
      so_far = same_tag_more c.self.inside.tags c.args.first c.args.count c.loop-i.i c.args.tag c.byte.result (rw c.self.view_is c.requires.inside) (omega arith) c.byte.ensures c.if-byte-tag.false c.loop-i.invariant.so_far;
    }
