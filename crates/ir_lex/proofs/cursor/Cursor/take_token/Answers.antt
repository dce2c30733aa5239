use Rattle.std.proofs.Common.{ℕ, List, ◌≡◌, ◌+◌, take, drop, ◌∙◌, ap, subst, refl}
use Rattle.ir_core.specs.Tokenisation.{place_after}
use Rattle.ir_lex.specs.Front.{IsFront, HasNoFront}
use Rattle.ir_lex.proofs.Scans.{front_token, no_token}
use Rattle.ir_lex.proofs.Places.{same_place}
use Rattle.ir_lex.proofs.cursor.Cursor.take_token.Goals as goal

pub returns-in-None-clause-token : goal.returns-in-None-clause-token
returns-in-None-clause-token c =
    let rest : c.rest_from.result.now ≡ drop c.args.self.now.at c.args.self.now.text.now = c.rest_from.ensures.value ∙ ap (λ n. drop n c.names-names.new.self.text.now) c.names-names.ensures.at ∙ ap (drop c.args.self.now.at) c.names-names.ensures.text in
    record { none = no_token c.args.self.now.text.now c.args.self.now.at (subst HasNoFront rest c.in-None.ensures); at = c.names-names.ensures.at }

pub returns-in-Some-clause-token : goal.returns-in-Some-clause-token
returns-in-Some-clause-token c =
    let text : List ℕ = c.args.self.now.text.now in
    let at : ℕ = c.args.self.now.at in
    let rest : c.rest_from.result.now ≡ drop at text = c.rest_from.ensures.value ∙ ap (λ n. drop n c.names-names.new.self.text.now) c.names-names.ensures.at ∙ ap (drop at) c.names-names.ensures.text in
    let place : c.names-names.new.self.place ≡ place_after (take at text) =
    same_place c.names-names.new.self.place (place_after (take c.names-names.new.self.at c.names-names.new.self.text.now)) c.names-names.new.self.line c.names-names.new.self.column
    ∙ ap (λ n. place_after (take n c.names-names.new.self.text.now)) c.names-names.ensures.at ∙ ap (λ s. place_after (take at s)) c.names-names.ensures.text in
    record {
      token = front_token text at c.in-Some.found _ c.args.self.now.inside (subst (λ r. IsFront r c.in-Some.found) rest c.in-Some.ensures) refl c.names-names.ensures.at (ap (λ n. n + c.in-Some.found.len) c.names-names.ensures.at) place;
      from = c.names-names.ensures.at;
      at = c.advance.ensures.at;
    }
