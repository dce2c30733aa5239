-- The options that are given stay in their ranges if one that is in its range is added.
use Rattle.std.proofs.Common.{◌≡◌, ℕ, Bool, true, List, Option, Some, None, subst}
use Rattle.std.specs.Option.{ForSome, is_some}
use Rattle.std.specs.Prelude.{IsSome, option_map}
use Rattle.hw_driver.specs.Given.{HasTags, IsGiven, words_view}
use Rattle.hw_driver.specs.declared.command.Given.{Given}
use Rattle.hw_driver.specs.declared.command.TagWords.{TagWords}
use Rattle.hw_driver.specs.declared.command.TagWords.TheVariants.{Seed}

pub given-range : (g x : Given) → IsGiven g → Some g ≡ Some x → IsGiven x
given-range g x is same = let e : g ≡ x = cc in subst IsGiven e is

pub has-tags : (words : TagWords) → IsSome (words_view words) → HasTags (Some words)
has-tags words some other same = let e : words ≡ other = cc in subst (λ (w : TagWords). IsSome (words_view w)) e some

pub mapped-some : {A B : Type 0} (f : A → B) (o : Option A) → is_some o ≡ true → IsSome (option_map f o)
mapped-some f (Some a) h = search
mapped-some f None h = absurd cc

pub some-seed : (seed : ℕ) → IsSome (words_view (Seed seed))
some-seed seed = search
