-- The options of words, two words at a time.
use Rattle.std.proofs.Common.{◌≡◌, ℕ, ◌-◌, ◌≤◌, List, [], ◌∷◌, length, get_or, take, drop, Some, None, refl, sym, ◌∙◌, ap, arith, String, Global}
use Rattle.std.specs.Prelude.{string_bytes}
use Rattle.std.proofs.lemmas.List.{take_all}
use Rattle.hw_driver.specs.Line.{Given, add_option, options_after}
use Rattle.hw_driver.specs.LineView.{texts}

after_none : (words : List (List ℕ)) → options_after words None ≡ None
after_none [] = refl
after_none (w ∷ []) = refl
after_none (w ∷ v ∷ words) = refl

-- the first two words are an option with its value, and the options of the others join it
pub options_after-two : (words : List (String Global)) (given : Given) (d e : String Global) → 2 ≤ length words
    → options_after (texts words) (Some given)
    ≡ options_after (texts (take (length words - 2) (drop 2 words))) (add_option given (string_bytes (get_or words 0 d)) (string_bytes (get_or words 1 e)))
options_after-two [] given d e h = absurd (omega (arith, h))
options_after-two (w ∷ []) given d e h = absurd (omega (arith, h))
options_after-two (w ∷ v ∷ words) given d e h =
    let all : take (length (w ∷ v ∷ words) - 2) words ≡ words = take_all _ words (omega arith) in
    ap (λ ws. options_after (texts ws) (add_option given (string_bytes w) (string_bytes v))) (sym all)

-- a word that isn't an option with a value is no option
pub options_after-not : (words : List (String Global)) (given : Given) (d e : String Global) → 2 ≤ length words
    → None ≡ add_option given (string_bytes (get_or words 0 d)) (string_bytes (get_or words 1 e)) → options_after (texts words) (Some given) ≡ None
options_after-not words given d e h none =
    options_after-two words given d e h
    ∙ ap (λ o. options_after (texts (take (length words - 2) (drop 2 words))) o) (sym none) ∙ after_none (texts (take (length words - 2) (drop 2 words)))
