use Rattle.std.proofs.Common.{ℕ, List, ◌≡◌, ◌<◌, ◌≤◌, length, take, sym, ◌∙◌, ap, arith, subst}
use Rattle.std.proofs.lemmas.Bool.{ltb-true, ltb-false}
use Rattle.ir_core.specs.Tokenisation.{place_after}
use Rattle.ir_core.specs.declared.refusals.Place.{Place}
use Rattle.ir_lex.specs.Cursors.{BeginsNoToken}
use Rattle.ir_lex.proofs.Places.{same_place}
use Rattle.ir_lex.proofs.Scans.{taken_more, taken_later, scanned_all, scanned_bad}
use Rattle.ir_lex.proofs.lexer.tokens_of.Goals as goal

pub loop-cursor-smaller : goal.loop-cursor-smaller
loop-cursor-smaller c =
    let same : c.loop-cursor.cursor.text.now ≡ c.args.text.now = c.loop-cursor.invariant.text in
    let inside : c.loop-cursor.cursor.at < length c.loop-cursor.cursor.text.now = ltb-true _ _ (sym c.is_inside.ensures ∙ c.loop-cursor-test.true) in
    let size : length c.loop-cursor.cursor.text.now ≡ length c.args.text.now = ap length same in
    let later : c.loop-cursor.cursor.at < c.skip_gap-in-Ok.new.self.at = taken_later c.loop-cursor.cursor.text.now c.loop-cursor.cursor.at c.take_token.new.self.at c.skip_gap-in-Ok.new.self.at _ c.in-Some.token c.in-Some.ensures.token c.skip_gap-in-Ok.ensures.at in
    omega arith

pub loop-cursor-preserved : goal.loop-cursor-preserved
loop-cursor-preserved c = record {
  text = c.skip_gap-in-Ok.ensures.text ∙ c.in-Some.ensures.text ∙ c.loop-cursor.invariant.text;
  source = c.in-Ok.ensures.source ∙ c.loop-cursor.invariant.source;
  scanned = taken_more c.args.text.now c.loop-cursor.cursor.text.now c.take_token.new.self.text.now c.loop-cursor.tokens.tokens c.push.new.self.tokens c.loop-cursor.cursor.at c.take_token.new.self.at c.skip_gap-in-Ok.new.self.at c.in-Some.token
      c.loop-cursor.invariant.text c.in-Some.ensures.text c.loop-cursor.invariant.scanned c.in-Some.ensures.token c.in-Ok.ensures.ok c.skip_gap-in-Ok.ensures.at;
}

pub returns-in-None : goal.returns-in-None
returns-in-None c =
    let text : List ℕ = c.args.text.now in
    let at : ℕ = c.loop-cursor.cursor.at in
    let same : c.loop-cursor.cursor.text.now ≡ text = c.loop-cursor.invariant.text in
    let inside : at < length c.loop-cursor.cursor.text.now = ltb-true _ _ (sym c.is_inside.ensures ∙ c.loop-cursor-test.true) in
    let none : BeginsNoToken text at = subst (λ s. BeginsNoToken s at) same c.in-None.ensures.token.none in
    let after : c.place.result ≡ place_after (take at text) = c.place.ensures ∙ ap (λ k. place_after (take k c.take_token.new.self.text.now)) c.in-None.ensures.token.at ∙ ap (λ s. place_after (take at s)) (c.in-None.ensures.text ∙ same) in
    let place : Place = record { line = c.bad_token.result.line; column = c.bad_token.result.column } in
    let is : place ≡ place_after (take at text) = same_place place c.place.result c.bad_token.ensures.line c.bad_token.ensures.column ∙ after in
    (c.bad_token.ensures.fault, scanned_bad text c.loop-cursor.tokens.tokens at place c.loop-cursor.invariant.scanned (subst (λ s. at < length s) same inside) none is)

pub returns : goal.returns
returns c =
    let past : length c.loop-cursor.cursor.text.now ≤ c.loop-cursor.cursor.at = ltb-false _ _ (sym c.is_inside.ensures ∙ c.loop-cursor-test.false) in
    (c.loop-cursor.invariant.source, scanned_all c.args.text.now c.loop-cursor.tokens.tokens c.loop-cursor.cursor.at c.loop-cursor.invariant.scanned (subst (λ s. length s ≤ c.loop-cursor.cursor.at) c.loop-cursor.invariant.text past))
