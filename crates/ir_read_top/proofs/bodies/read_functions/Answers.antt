use Rattle.std.proofs.Common.{◌≡◌, ◌<◌, ◌^◌, length, map, sym, ◌∙◌, ap, subst, arith}
use Rattle.std.proofs.lemmas.List.{length-map}
use Rattle.ir_grammar.specs.Spelled.{store_of}
use Rattle.ir_functions.specs.Resolution.{spelled_function}
use Rattle.ir_read_top.specs.Functions.{functions_in}
use Rattle.ir_read_top.specs.Bodies.{AreKeys}
use Rattle.ir_read_top.proofs.Completed.{IsBegun, are_short, few_made, are_few, completed_text, refused_text}
use Rattle.ir_read_top.proofs.bodies.read_functions.Goals as goal

pub functions_by-requires-clause-few : goal.functions_by-requires-clause-few
functions_by-requires-clause-few c =
    let text = c.args.tokens.now.source in
    let tokens = c.args.tokens.now.tokens in
    let store = store_of c.args.found.now in
    let keys = c.in_ok-keys.keys in
    let functions = map spelled_function c.deref-2.result.now in
    let right : functions ≡ functions_in store = ap (map spelled_function) c.deref-2.ensures.value ∙ c.in_ok-functions.ensures in
    let k : AreKeys text tokens store c.args.libs.now c.args.outline.module functions keys =
    subst (λ fs. AreKeys text tokens store c.args.libs.now c.args.outline.module (map spelled_function fs) keys) (c.deref.ensures.value ∙ sym c.deref-2.ensures.value) c.in_ok-keys.ensures in
    are_few text tokens store c.args.libs.now c.args.outline.numbers.items c.args.outline.module keys functions c.requires.gathered.small right k c.requires.few

pub functions_by-requires-clause-short : goal.functions_by-requires-clause-short
functions_by-requires-clause-short c =
    are_short c.args.tokens.now.source c.args.tokens.now.tokens (store_of c.args.found.now) c.args.outline.numbers.items c.in_ok-keys.keys (map spelled_function c.deref-2.result.now) c.requires.gathered
    (ap (map spelled_function) c.deref-2.ensures.value ∙ c.in_ok-functions.ensures)

pub functions_by-requires-clause-count : goal.functions_by-requires-clause-count
functions_by-requires-clause-count c =
    let few : length (map spelled_function c.deref-2.result.now) < 2 ^ 28 =
    few_made (store_of c.args.found.now) (map spelled_function c.deref-2.result.now) c.requires.gathered.small (ap (map spelled_function) c.deref-2.ensures.value ∙ c.in_ok-functions.ensures) in
    let l = length-map c.deref-2.result.now spelled_function in
    omega arith

pub returns-in-Ok : goal.returns-in-Ok
returns-in-Ok c =
    let text = c.args.tokens.now.source in
    let tokens = c.args.tokens.now.tokens in
    let store = store_of c.args.found.now in
    let keys = c.in_ok-keys.keys in
    let functions = map spelled_function c.deref-2.result.now in
    let begun : IsBegun text tokens store c.args.libs.now c.args.outline keys functions = record {
      read = record { short = c.requires.short; cut = c.requires.cut; derived = c.requires.gathered.derived; libs_right = c.requires.libs };
      outline = c.requires.outline;
      keys_right = subst (λ fs. AreKeys text tokens store c.args.libs.now c.args.outline.module (map spelled_function fs) keys) (c.deref.ensures.value ∙ sym c.deref-2.ensures.value) c.in_ok-keys.ensures;
      functions_right = ap (map spelled_function) c.deref-2.ensures.value ∙ c.in_ok-functions.ensures;
    } in
    completed_text text tokens store c.args.libs.now c.args.outline keys functions c.args.first c.in-Ok.made c.completed.result begun c.requires.first c.in-Ok.ensures c.completed.ensures

pub returns-in-Err : goal.returns-in-Err
returns-in-Err c =
    let text = c.args.tokens.now.source in
    let tokens = c.args.tokens.now.tokens in
    let store = store_of c.args.found.now in
    let keys = c.in_ok-keys.keys in
    let functions = map spelled_function c.deref-2.result.now in
    let begun : IsBegun text tokens store c.args.libs.now c.args.outline keys functions = record {
      read = record { short = c.requires.short; cut = c.requires.cut; derived = c.requires.gathered.derived; libs_right = c.requires.libs };
      outline = c.requires.outline;
      keys_right = subst (λ fs. AreKeys text tokens store c.args.libs.now c.args.outline.module (map spelled_function fs) keys) (c.deref.ensures.value ∙ sym c.deref-2.ensures.value) c.in_ok-keys.ensures;
      functions_right = ap (map spelled_function) c.deref-2.ensures.value ∙ c.in_ok-functions.ensures;
    } in
    refused_text text tokens store c.args.libs.now c.args.outline keys functions c.args.first c.in-Err.error begun c.requires.first c.in-Err.ensures
