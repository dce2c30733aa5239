use Rattle.std.proofs.Common.{ℕ, ◌≡◌, ◌+◌, ◌-◌, ◌++◌, List, take, drop, sym, ◌∙◌, ap, arith}
use Rattle.std.specs.Prelude.{fold}
use Rattle.std.proofs.lemmas.List.{length-take-le, length-take}
use Rattle.std.proofs.Math.Seq.{take-add}
use Rattle.ir_core.specs.Spelling.{is_name_byte}
use Rattle.ir_core.specs.Tokenisation.{place_after}
use Rattle.ir_lex.specs.Gaps.{place_over}
use Rattle.ir_lex.proofs.Places.{place_bounds, place_fold, run_end, same_place}
use Rattle.ir_lex.proofs.cursor.Cursor.advance.Goals as goal

pub place_behind-self-requires-clause-column : goal.place_behind-self-requires-clause-column
place_behind-self-requires-clause-column c =
    let column = c.args.self.now.column in
    let short = c.args.self.now.short in
    let bound = (place_bounds (take c.args.self.now.at c.args.self.now.text.now)).1 in
    let size = length-take-le c.args.self.now.at c.args.self.now.text.now c.args.self.now.inside in
    let passed = length-take (c.args.self.now.at + c.args.n - c.args.self.now.at) (drop c.args.self.now.at c.args.self.now.text.now) in
    omega arith

pub invariant_of-self : goal.invariant_of-self
invariant_of-self c =
    let text : List ℕ = c.args.self.now.text.now in
    let at : ℕ = c.args.self.now.at in
    let old : c.args.self.now.place ≡ place_after (take at text) = same_place c.args.self.now.place (place_after (take at text)) c.args.self.now.line c.args.self.now.column in
    let len : at + c.args.n - at ≡ c.args.n = omega arith in
    let whole : take at text ++ take (at + c.args.n - at) (drop at text) ≡ take (at + c.args.n) text = ap (λ n. take at text ++ take n (drop at text)) len ∙ sym (take-add at c.args.n text) in
    let place : c.place_behind-self.result ≡ place_after (take (at + c.args.n) text) =
    c.place_behind-self.ensures ∙ ap (λ p. fold place_over p (take (at + c.args.n - at) (drop at text))) old
    ∙ place_fold (take (at + c.args.n - at) (drop at text)) (take at text) ∙ ap place_after whole in
    record {
      short = c.args.self.now.short;
      inside = c.requires;
      line = ap (λ p. p.line) place;
      column = ap (λ p. p.column) place;
      names = λ before. run_end is_name_byte text at c.args.n c.args.self.now.names_end (c.args.self.now.names (omega arith)) before;
    }
