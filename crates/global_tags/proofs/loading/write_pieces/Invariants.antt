use Rattle.std.proofs.Common.{◌≡◌, drop}
use Rattle.global_tags.specs.GlobalBytes.{with_pieces}
use Rattle.global_tags.proofs.loading.write_pieces.Given as goal

abbrev pub invariant-loop-piece : goal.invariant-loop-piece
invariant-loop-piece l =
    (l.descriptors ≡ l.fn.descriptors) × (l.place ≡ l.fn.place)
    × (with_pieces l.descriptors l.mem l.place (drop l.piece-index l.pieces) ≡ with_pieces l.descriptors l.fn.mem l.place l.pieces)
