use Rattle.std.proofs.Common.{sym, ◌∙◌, ap, arith}
use Rattle.tbi_memory.specs.AddressSpace.{check, last_byte}
use Rattle.tbi_memory.specs.MappedBytes.{byte_at}
use Rattle.tbi_memory.specs.MemoryParts.{passed_unless}
use Rattle.tbi_memory.proofs.StepLemmas.{first_mismatch-more, first_mismatch-found, first_mismatch-done}
use Rattle.tbi_memory.proofs.memory.Memory.check_each.Goals as goal

pub returns-in-Some : goal.returns-in-Some
returns-in-Some c =
    let m = c.args.self.now in
    ap passed_unless
    (first_mismatch-found (byte_at m.shadow) (last_byte m.bytes) c.args.v c.args.n c.loop-left.left c.loop-left.granule c.in-Some.found (check m c.args.v c.args.n)
    c.loop-left-test.true (sym c.in-Some.is ∙ c.mismatch_in.ensures.found) c.loop-left.invariant.to_come)

pub loop-left-preserved : goal.loop-left-preserved
loop-left-preserved c =
    let m = c.args.self.now in
    record {
      in_space = omega (arith, c.in-None.ensures.inside);
      count = omega arith;
      to_come = first_mismatch-more (byte_at m.shadow) (last_byte m.bytes) c.args.v c.args.n c.loop-left.left c.loop-left.granule (check m c.args.v c.args.n)
          c.loop-left-test.true (sym c.in-None.is ∙ c.mismatch_in.ensures.found) c.loop-left.invariant.to_come;
    }

pub returns : goal.returns
returns c =
    let m = c.args.self.now in
    ap passed_unless
    (first_mismatch-done (byte_at m.shadow) (last_byte m.bytes) c.args.v c.args.n c.loop-left.left c.loop-left.granule (check m c.args.v c.args.n)
    c.loop-left-test.false c.loop-left.invariant.to_come)
