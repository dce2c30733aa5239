use Rattle.std.proofs.Common.{rules, tests, ap, ◌∙◌, ◌==◌}
use Rattle.std.specs.List.{list_all, slice_split}
use Rattle.std.proofs.lemmas.Iterator.Search.{all_from_yields_List}
use Rattle.std.proofs.lemmas.Iterator.Splits.{YieldsList-from_slice_split}
use Rattle.ir_text.specs.DataLayout.{is_part_taken}
use Rattle.ir_text.proofs.data_layout.is_layout_taken.Goals as goal

pub returns : goal.returns
returns c =
    all_from_yields_List is_part_taken _ _ c.all.result c.all.ensures.ran
    (YieldsList-from_slice_split _ (λ b. b == 45) c.as_slice.result.now c.split.ensures.rest c.split.ensures.done c.split.ensures.closure (λ x r q k. search (rules, tests)))
    (λ x b q k. search (rules, tests))
    ∙ ap (λ bytes. list_all is_part_taken (slice_split (λ b. b == 45) bytes)) (c.as_slice.ensures ∙ c.in_ok-layout.ensures)
