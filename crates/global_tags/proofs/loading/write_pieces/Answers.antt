use Rattle.std.proofs.Common.{◌∙◌, refl, ap, sym}
use Rattle.std.proofs.lemmas.List.{drop_all}
use Rattle.global_tags.specs.GlobalBytes.{with_pieces}
use Rattle.global_tags.proofs.LoadingLemmas.{pieces-on, no-more-pieces}
use Rattle.global_tags.proofs.loading.write_pieces.Goals as goal

pub loop-piece-preserved : goal.loop-piece-preserved
loop-piece-preserved c = (
  refl,
  refl,
  pieces-on c.args.descriptors.now c.loop-piece.mem c.load_global.new.self c.args.place c.piece_number.result c.args.pieces.now c.loop-piece.piece-index _
      c.loop-piece-test.true c.piece_number.ensures c.load_global.ensures
      ∙ c.loop-piece.invariant.2,
)

pub returns : goal.returns
returns c =
    sym (no-more-pieces c.args.descriptors.now c.loop-piece.mem c.args.place)
    ∙ (ap (with_pieces c.args.descriptors.now c.loop-piece.mem c.args.place) (sym (drop_all c.loop-piece.piece-index c.args.pieces.now c.loop-piece-test.false))
    ∙ c.loop-piece.invariant.2)
