use Rattle.std.proofs.Common.{ℕ, ◌≡◌, ◌<◌, take, length, refl, subst, arith}
use Rattle.std.specs.List.{All, Contains}
use Rattle.ir_check_flow.proofs.AllOf.{all_more, all_of}
use Rattle.ir_check_flow.proofs.phis.has_keys.Goals as goal

pub loop-key-preserved : goal.loop-key-preserved
loop-key-preserved c =
    let there : c.loop-key.key-index < length c.args.wanted.now = omega arith in
    all_more (Contains c.args.keys.now) c.args.wanted.now c.loop-key.key-index 0 there c.loop-key.invariant (c.if-not-has_key.ensures.0 refl)

pub returns : goal.returns
returns c =
    let whole : c.loop-key.key-index ≡ length c.args.wanted.now = omega arith in (
      λ _. all_of (Contains c.args.keys.now) c.args.wanted.now
          (subst (λ (n : ℕ). All (Contains c.args.keys.now) (take n c.args.wanted.now)) whole c.loop-key.invariant),
      λ _. refl,
    )
