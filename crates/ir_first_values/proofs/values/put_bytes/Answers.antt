use Rattle.std.proofs.Common.{◌≡◌, ◌-◌, length, drop, ◌∙◌, ap, arith, length-drop}
use Rattle.ir_first_values.proofs.ByteStrings.{round_put}
use Rattle.ir_first_values.proofs.values.put_bytes.Goals as goal

pub loop-rest-preserved : goal.loop-rest-preserved
loop-rest-preserved c =
    let left : length c.after_16-rest.result.now ≡ length c.loop-rest.rest.now - 16 = ap length c.after_16-rest.ensures ∙ length-drop 16 c.loop-rest.rest.now in
    let total = c.loop-rest.invariant.1 in
    let enough = c.loop-rest-test.true in (
      round_put _ _ _ _ _ _ enough c.first_16.ensures c.after_16-rest.ensures c.in_ok-put_piece.ensures ∙ c.loop-rest.invariant.0,
      omega arith,
    )
