use Rattle.std.proofs.Common.{◌≡◌, ◌*◌, ◌≤◌, length, sym, ◌∙◌, ap, subst, Err}
use Rattle.ir_core.specs.Tokenisation.{place_after}
use Rattle.ir_grammar.specs.Spelled.{store_of}
use Rattle.ir_grammar.specs.SoundStore.{size_of}
use Rattle.ir_read_items.specs.ItemReading.{spelled, ReadsItems}
use Rattle.ir_read_top.specs.Texts.{flaw_error, ReadsText}
use Rattle.ir_read_top.proofs.Phases.{gathered_of, flawed_sentence}
use Rattle.ir_read_top.proofs.reading.gathered.Goals as goal

pub returns-in-Ok-read_items : goal.returns-in-Ok-read_items
returns-in-Ok-read_items c =
    let text = c.args.text.now in
    let found = c.in-Ok-read_items.found in
    let whole : c.deref.result.now ≡ c.in-Ok.sentence.items = c.deref.ensures.value in
    gathered_of text c.in-Ok.sentence.items (store_of found) c.requires c.in-Ok.ensures (ap spelled (sym whole) ∙ c.in-Ok-read_items.ensures.spelled) c.in-Ok-read_items.ensures.sound
    (subst (λ v. size_of (store_of found) ≤ 8 * length v) whole c.in-Ok-read_items.ensures.small)

pub returns-in-Ok : goal.returns-in-Ok
returns-in-Ok c =
    let text = c.args.text.now in
    let terminals = c.in-Ok.sentence.items in
    let failure = c.in-Err-read_items.failure in
    let whole : c.deref.result.now ≡ terminals = c.deref.ensures.value in
    let whole' : c.deref-in-Err-read_items.result.now ≡ terminals = c.deref-in-Err-read_items.ensures.value in
    let same : c.flaw_error.result ≡ flaw_error (place_after text) terminals failure =
    c.flaw_error.ensures ∙ (ap (λ e. flaw_error e c.deref-in-Err-read_items.result.now failure) c.end_of.ensures ∙ ap (λ v. flaw_error (place_after text) v failure) whole') in
    subst (λ e. ReadsText text (Err e)) (sym same)
    (flawed_sentence text terminals failure c.requires c.in-Ok.ensures (subst (λ v. ReadsItems v (Err failure)) whole c.in-Err-read_items.ensures.spelled))
