use Rattle.std.proofs.Common.{◌≡◌, ◌<◌, length, get_or, ap, sym, ◌∙◌, arith}
use Rattle.tag_insert.proofs.CodePlaces.{place_of-start, place_of-next, places-push}
use Rattle.tag_insert.proofs.places.places_of.Goals as goal

pub loop-inst-init : goal.loop-inst-init
loop-inst-init c =
    record {
      done = record { count_is = ap length c.new-places.ensures.items; each = λ k lt. absurd (omega arith) };
      here = c.entry_length-at.ensures.length ∙ sym (place_of-start c.args.m.now c.args.f.now);
      small = omega arith;
    }

pub loop-inst-preserved : goal.loop-inst-preserved
loop-inst-preserved c =
    let m = c.args.m.now in
    let f = c.args.f.now in
    let i = c.loop-inst.inst-index in
    let insts = c.as_slice-inst-items.ensures in
    let lt : i < length f.insts = omega (arith, ap length insts, c.loop-inst-test.true) in
    let item : c.inst-item.result ≡ get_or f.insts i c.inst-item.result = rw insts at c.inst-item.is in
    let next = place_of-next m f i c.inst-item.result lt item in
    record {
      done = rw c.in_ok-push.ensures.items (places-push m f i c.loop-inst.at c.loop-inst.places.items c.loop-inst.invariant.done c.loop-inst.invariant.here);
      here = omega (arith, c.loop-inst.invariant.here, c.instruction_length-at.ensures.length, next);
      small = omega arith;
    }
