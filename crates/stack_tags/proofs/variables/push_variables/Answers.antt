use Rattle.std.proofs.Common.{◌≡◌, ◌+◌, ◌++◌, [], ◌∷◌, drop, ap, ◌∙◌, subst, List, ℕ, length, arith}
use Rattle.std.specs.Vec.{vec_len, vec_capacity}
use Rattle.hw_base.specs.AddressMap.{frame_size, rounded_size}
use Rattle.stack_tags.specs.KeptFrames.{variables_at}
use Rattle.stack_tags.specs.declared.variables.Variable.{Variable}
use Rattle.stack_tags.proofs.VariableLemmas.{bytes-more, pushed, pushed-more, pushed-done, inside-one}
use Rattle.stack_tags.proofs.variables.push_variables.Goals as goal

bytes : (c : goal.After-rounded) → (c.loop-k.place + c.rounded.result) + frame_size (drop (c.loop-k.k + 1) c.args.sizes.now) ≡ c.args.low + frame_size c.args.sizes.now
bytes c =
    rw c.rounded.ensures.value (bytes-more c.args.sizes.now c.loop-k.k c.size_at-size.result c.loop-k.place (c.args.low + frame_size c.args.sizes.now) c.size_at-size.ensures c.loop-k.invariant.bytes)

pub overflow_cast-place : goal.overflow_cast-place
overflow_cast-place c =
    let sum = bytes c in
    let end = c.requires.end in
    omega (arith, sum, end)

pub overflow_add-place : goal.overflow_add-place
overflow_add-place c =
    let sum = bytes c in
    let end = c.requires.end in
    omega (arith, sum, end)

pub loop-k-preserved : goal.loop-k-preserved
loop-k-preserved c =
    let room = c.loop-k.invariant.room in
    let there = c.push-pushed.ensures.succeeds (omega (arith, room, c.loop-k-test.true)) in
    let items = c.push-pushed.ensures.items ∙ pushed c.push-pushed.result (c.loop-k.variables.items ++ record { place = c.loop-k.place; size = c.size_at-size.result } ∷ []) c.loop-k.variables.items there in
    let len = c.push-pushed.ensures.len ∙ pushed c.push-pushed.result (vec_len c.loop-k.variables + 1) (vec_len c.loop-k.variables) there in
    let capacity = c.push-pushed.ensures.capacity in
    let more = pushed-more c.loop-k.variables.items c.args.sizes.now c.loop-k.place c.loop-k.k c.size_at-size.result (c.args.variables.now.items ++ variables_at c.args.low c.args.sizes.now) c.size_at-size.ensures c.loop-k.invariant.to_come in
    record {
      inside = omega (arith, c.loop-k-test.true);
      room = omega (arith, room, len, capacity, c.loop-k-test.true);
      bytes = bytes c;
      to_come = rw (items, c.rounded.ensures.value) more;
    }

pub returns : goal.returns
returns c =
    let test = c.loop-k-test.false in
    let count = c.len-count.ensures in
    pushed-done c.loop-k.variables.items c.args.sizes.now c.loop-k.place c.loop-k.k (c.args.variables.now.items ++ variables_at c.args.low c.args.sizes.now)
    (omega (arith, test, count)) c.loop-k.invariant.to_come
