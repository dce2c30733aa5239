use Rattle.std.proofs.Common.{◌++◌, ◌∷◌, [], None, Some, get_or, subst, arith}
use Rattle.ir_core.specs.NumberTypes.{type_of}
use Rattle.ir_core.specs.IndexSteps.{inner_steps}
use Rattle.tag_insert.specs.InnerSteps.{IsInnerStep, inner_step}
use Rattle.tag_insert.proofs.InnerWalks.{zero_placed, stops, walks-on, walked, none-walked, one-more}
use Rattle.tag_insert.proofs.addresses.inner_code.Goals as goal

pub returns-in-None : goal.returns-in-None
returns-in-None c =
    let m = c.args.m.now in
    let indices = c.args.indices.now in
    let i = c.loop-index.index-index in
    let whole = inner_steps m (type_of m c.args.ty) indices in
    let (done, same, before) = c.loop-index.invariant in
    let none = subst (λ type. IsInnerStep m (inner_step m type (get_or indices i zero_placed)) None) c.type_of.ensures c.in-None.ensures in
    none-walked m whole c.args.first
    (stops m whole done c.loop-index.at indices i zero_placed c.loop-index-test.true before c.requires.near none)

pub loop-index-preserved : goal.loop-index-preserved
loop-index-preserved c =
    let m = c.args.m.now in
    let indices = c.args.indices.now in
    let i = c.loop-index.index-index in
    let whole = inner_steps m (type_of m c.args.ty) indices in
    let code = c.in-Some.step in
    let inner = c.in-Some.inner in
    let (done, same, before) = c.loop-index.invariant in
    let found = subst (λ type. IsInnerStep m (inner_step m type (get_or indices i zero_placed)) (Some (code, inner))) c.type_of.ensures c.in-Some.ensures in
    let (step, code-is, after) = walks-on m whole done c.loop-index.at indices i zero_placed code inner c.loop-index-test.true before found in
    (done ++ step ∷ [], one-more m c.args.first done step code c.loop-index.steps c.push-in-Some.new.self same code-is c.in_ok-push-in-Some.ensures.ok, after)

pub returns : goal.returns
returns c =
    let m = c.args.m.now in
    let whole = inner_steps m (type_of m c.args.ty) c.args.indices.now in
    let (done, same, before) = c.loop-index.invariant in
    walked m whole done c.loop-index.at c.args.indices.now c.loop-index.index-index c.args.first c.loop-index.steps (omega (arith, c.loop-index-test.false)) before same
