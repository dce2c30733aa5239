use Rattle.std.proofs.Common.{◌≡◌, ◌+◌, ◌-◌, suc, sym, ◌∙◌, ap, subst, arith}
use Rattle.ir_first_values.specs.Tables.{tables_of}
use Rattle.ir_first_values.specs.FirstValues.{nested_value, first_value}
use Rattle.ir_first_values.specs.Answers.{Puts}
use Rattle.ir_first_values.proofs.Unfolded.{first_value_absent, first_value_flat, first_value_nested, stopped_at}
use Rattle.ir_first_values.proofs.tables.Initializers.+values.Goals as goal

pub put_value-returns-in-None : goal.put_value-returns-in-None
put_value-returns-in-None t c = first_value_absent _ _ _ _ _ (sym c.in-None.ensures)

pub put_value-returns-then-levels-eq0 : goal.put_value-returns-then-levels-eq0
put_value-returns-then-levels-eq0 t c =
    subst (λ v. Puts c.put_flat.result c.args.parts.now c.put_flat.new.parts v)
    (sym (first_value_flat _ _ _ _ _ _ c.if-levels-eq0.true (sym c.in-Some.ensures)))
    c.put_flat.ensures

pub put_value-returns-else-levels-eq0 : goal.put_value-returns-else-levels-eq0
put_value-returns-else-levels-eq0 t c =
    let below : c.args.levels ≡ suc (c.args.levels - 1) = omega arith in
    let more : c.args.levels - 1 + 1 ≡ suc (c.args.levels - 1) = omega arith in
    subst (λ v. Puts c.put_nested.result c.args.parts.now c.put_nested.new.parts v)
    (ap (λ l. nested_value (tables_of c.args.self.now) (first_value (c.args.levels - 1) (tables_of c.args.self.now)) l c.args.ty c.args.number c.args.at c.in-Some.constant) more
    ∙ sym (first_value_nested _ _ _ _ _ _ _ below (sym c.in-Some.ensures)))
    c.put_nested.ensures

pub put_elements-returns-in-Err : goal.put_elements-returns-in-Err
put_elements-returns-in-Err t c =
    stopped_at (Unit {0}) c.in-Err.why c.args.parts.now c.loop-k.parts c.put_element.new.parts (tables_of c.args.self.now)
    (first_value c.args.levels (tables_of c.args.self.now)) c.args.ty c.args.at c.loop-k.k c.args.elements.now _ _ _
    c.loop-k-test.true c.part_of-part.ensures.value c.in-Err.ensures c.loop-k.invariant
