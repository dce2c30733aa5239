use Rattle.std.proofs.Common.{◌∙◌, arith}
use Rattle.std.proofs.lemmas.List.{length-take, length-drop}
use Rattle.hw_driver.proofs.PiecesGiven.{GivesEach-line, rest_is}
use Rattle.hw_driver.proofs.Sent.{Appends-more, piece_of_line, TookFront-line}
use Rattle.hw_driver.proofs.delivery.send_lines.Goals as goal

pub loop-at-preserved : goal.loop-at-preserved
loop-at-preserved g c =
    let bound = simp (length-take, length-drop) at c.line_length-length.ensures.within in
    record {
      within = omega (arith, bound);
      taken = Appends-more _ _ _ c.args.text.now _ _ _ c.loop-at.invariant.taken c.in-Ok.ensures.sends.all.taken (piece_of_line c.args.text.now c.loop-at.at c.line_length-length.result);
      lines = λ whole. GivesEach-line c.args.text.now _ c.loop-at.at c.line_length-length.result _ _ _ (rest_is c.args.text.now c.loop-at.at) (omega arith) c.line_length-length.ensures.some
          c.line_length-length.ensures.within c.line_length-length.ensures.ends_at_lf c.line_length-length.ensures.no_lf_before whole (c.loop-at.invariant.lines whole) c.in-Ok.ensures.rests;
      quiet = c.in-Ok.ensures.sends.all.quiet ∙ c.loop-at.invariant.quiet;
    }

pub returns-in-Err : goal.returns-in-Err
returns-in-Err g c = record {
  sends = record {
    all = tt;
    front = TookFront-line _ _ _ _ _ _ c.args.text.now c.loop-at.at c.line_length-length.result c.loop-at.invariant.taken c.loop-at.invariant.quiet c.in-Err.ensures.sends.front;
  };
  lines = λ whole. GivesEach-line c.args.text.now _ c.loop-at.at c.line_length-length.result _ _ _ (rest_is c.args.text.now c.loop-at.at) (omega arith) c.line_length-length.ensures.some
      c.line_length-length.ensures.within c.line_length-length.ensures.ends_at_lf c.line_length-length.ensures.no_lf_before whole (c.loop-at.invariant.lines whole) c.in-Err.ensures.rests;
}
