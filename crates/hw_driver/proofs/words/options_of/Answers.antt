use Rattle.std.proofs.Common.{◌-◌, take, drop, length, refl, sym, ◌∙◌, ap}
use Rattle.std.specs.Prelude.{Option}
use Rattle.std.specs.Option.{option_map}
use Rattle.hw_driver.specs.Line.{Given, options_after}
use Rattle.hw_driver.specs.LineView.{given_view, texts}
use Rattle.hw_driver.proofs.OptionWords.{options_after-two, options_after-not}
use Rattle.hw_driver.proofs.words.options_of.Goals as goal

pub returns-in_err-given-clause-value : goal.returns-in_err-given-clause-value
returns-in_err-given-clause-value c =
    let none = rw (c.as_str.ensures.value, c.as_str-in-len2-up.ensures.value, c.name-item.is, c.value-item.is) at c.in_err-given.ensures.value in
    ap (option_map given_view) c.from_residual.ensures
    ∙ sym (options_after-not c.loop-rest.rest.now (given_view c.loop-rest.given) c.name-item.result c.value-item.result c.in-len2-up.len_at_least none)
    ∙ c.loop-rest.invariant.same

pub loop-rest-preserved : goal.loop-rest-preserved
loop-rest-preserved c =
    let some = rw (c.as_str.ensures.value, c.as_str-in-len2-up.ensures.value, c.name-item.is, c.value-item.is) at c.in_ok-given.ensures.value in
    record {
      same = ap (λ (o : Option Given). options_after (texts (take (length c.loop-rest.rest.now - 2) (drop 2 c.loop-rest.rest.now))) o) some
          ∙ sym (options_after-two c.loop-rest.rest.now (given_view c.loop-rest.given) c.name-item.result c.value-item.result c.in-len2-up.len_at_least)
          ∙ c.loop-rest.invariant.same;
      range = c.in_ok-given.ensures.range c.in_ok-given.given refl;
    }
