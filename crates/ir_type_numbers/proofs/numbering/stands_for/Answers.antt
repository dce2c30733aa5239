use Rattle.std.proofs.Common.{◌≡◌, ℕ, List, arith, ◌∙◌, ap}
use Rattle.std.proofs.lemmas.List.FromFn.{map-range_with_len_more}
use Rattle.ir_type_numbers.specs.Numbering.{led_to, far_leads, number_at}
use Rattle.ir_type_numbers.proofs.numbering.stands_for.Goals as goal

pub loop-own-preserved : goal.loop-own-preserved
loop-own-preserved c =
    let types = c.args.types.now in
    let own = c.loop-own.own in
    let f = λ (n : ℕ). led_to types n (number_at (far_leads c.args.leads.now) n) in
    let more = map-range_with_len_more f 0 own own (omega arith) in
    let here : c.led_to.result ≡ f own = c.led_to.ensures ∙ ap (λ (far : List ℕ). led_to types own (number_at far own)) (c.deref.ensures.value ∙ c.in_ok-far.ensures) in
    let pushed = c.in_ok-push.ensures.items in
    cc
