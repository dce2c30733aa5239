use Rattle.std.proofs.Common.{◌∙◌, arith}
use Rattle.std.proofs.lemmas.List.{length-take, length-drop}
use Rattle.hw_driver.proofs.PiecesGiven.{GivesEach-rest}
use Rattle.hw_driver.proofs.Sent.{Appends-more, piece_of_rest}
use Rattle.hw_driver.proofs.delivery.send.Goals as goal

pub loop-at-preserved : goal.loop-at-preserved
loop-at-preserved g c =
    let bound = simp (length-take, length-drop) at c.in-Ok.ensures.bound in
    record {
      within = omega (arith, bound);
      taken = Appends-more _ _ _ c.args.text.now _ _ _ c.loop-at.invariant.taken c.in-Ok.ensures.bytes (piece_of_rest c.args.text.now c.loop-at.at c.in-Ok.count);
      rests = GivesEach-rest c.args.text.now c.loop-at.at _ _ _ (omega arith) c.loop-at.invariant.rests c.in-Ok.ensures.pieces;
      quiet = c.in-Ok.ensures.cause.kept ∙ c.loop-at.invariant.quiet;
    }

pub returns-in-Err-clause-rests : goal.returns-in-Err-clause-rests
returns-in-Err-clause-rests g c = GivesEach-rest c.args.text.now c.loop-at.at _ _ _ (omega arith) c.loop-at.invariant.rests c.in-Err.ensures.pieces
