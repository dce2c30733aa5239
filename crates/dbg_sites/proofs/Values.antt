-- The value that begins here, by its first two tokens.
use Rattle.std.proofs.Common.{◌≡◌, ℕ, ◌≤◌, List, [], ◌∷◌, length, get_or, Bool, true, false, ◌&&◌, ◌||◌, Some, None, arith, refl, sym, ap, ◌∙◌}
use Rattle.ir_core.specs.declared.token.Token.{Token}
use Rattle.ir_grammar.specs.DebugFields.{Lexeme, lexeme, lexemes, opens, closes, is_comma, depth_behind, before, only_token}
use Rattle.dbg_sites.specs.Read.{value_in}

or_false : (a b : Bool) → (a || b) ≡ false → (a ≡ false) × (b ≡ false)
or_false true b h = absurd cc
or_false false b h = (refl, h)

or_true : (a b : Bool) → (a || b) ≡ true → a ≡ false → b ≡ true
or_true true b h e = absurd cc
or_true false b h e = h

and_false : (a : Bool) → (a && false) ≡ false
and_false true = refl
and_false false = refl

before-stop : (stops : Lexeme → Bool) (l : Lexeme) (ls : List Lexeme) → stops l ≡ true → before stops 0 (l ∷ ls) ≡ []
before-stop stops l ls h = rw h

before-go : (stops : Lexeme → Bool) (l : Lexeme) (ls : List Lexeme) → stops l ≡ false → before stops 0 (l ∷ ls) ≡ l ∷ before stops (depth_behind l 0) ls
before-go stops l ls h = rw h

depth-open : (l : Lexeme) → opens l ≡ true → depth_behind l 0 ≡ 1
depth-open l h = rw h

depth-plain : (l : Lexeme) → opens l ≡ false → closes l ≡ false → depth_behind l 0 ≡ 0
depth-plain l h k = rw (h, k)

-- a bracket that opens, and a token behind it
open_more : (l m : Lexeme) (rest : List Lexeme) → (closes l || is_comma l) ≡ false → opens l ≡ true → None ≡ only_token (before is_comma 0 (before closes 0 (l ∷ m ∷ rest)))
open_more l m rest goes bracket =
    let parts : (closes l ≡ false) × (is_comma l ≡ false) = or_false (closes l) (is_comma l) goes in
    let inner : before closes 0 (l ∷ m ∷ rest) ≡ l ∷ m ∷ before closes (depth_behind m 1) rest = before-go closes l (m ∷ rest) parts.0 ∙ ap (λ d. l ∷ before closes d (m ∷ rest)) (depth-open l bracket) in
    let outer : before is_comma 0 (l ∷ m ∷ before closes (depth_behind m 1) rest) ≡ l ∷ m ∷ before is_comma (depth_behind m 1) (before closes (depth_behind m 1) rest) =
    before-go is_comma l (m ∷ before closes (depth_behind m 1) rest) parts.1 ∙ ap (λ d. l ∷ before is_comma d (m ∷ before closes (depth_behind m 1) rest)) (depth-open l bracket) in
    sym (ap (λ ys. only_token (before is_comma 0 ys)) inner ∙ ap only_token outer)

plain_inner : (l : Lexeme) (ls : List Lexeme) → (closes l || is_comma l) ≡ false → opens l ≡ false → before is_comma 0 (before closes 0 (l ∷ ls)) ≡ l ∷ before is_comma 0 (before closes 0 ls)
plain_inner l ls goes bracket =
    let parts : (closes l ≡ false) × (is_comma l ≡ false) = or_false (closes l) (is_comma l) goes in
    let flat : depth_behind l 0 ≡ 0 = depth-plain l bracket parts.0 in
    ap (before is_comma 0) (before-go closes l ls parts.0 ∙ ap (λ d. l ∷ before closes d ls) flat)
    ∙ before-go is_comma l (before closes 0 ls) parts.1 ∙ ap (λ d. l ∷ before is_comma d (before closes 0 ls)) flat

ended : (m : Lexeme) (rest : List Lexeme) (b : Bool) → closes m ≡ b → (closes m || is_comma m) ≡ true → before is_comma 0 (before closes 0 (m ∷ rest)) ≡ []
ended m rest true shut ends = ap (before is_comma 0) (before-stop closes m rest shut)
ended m rest false goes ends = ap (before is_comma 0) (before-go closes m rest goes) ∙ before-stop is_comma m (before closes (depth_behind m 0) rest) (or_true (closes m) (is_comma m) ends goes)

-- any other token, and the value's end behind it
plain_end : (l m : Lexeme) (rest : List Lexeme) → (closes l || is_comma l) ≡ false → opens l ≡ false → (closes m || is_comma m) ≡ true → Some l ≡ only_token (before is_comma 0 (before closes 0 (l ∷ m ∷ rest)))
plain_end l m rest goes bracket ends = sym (ap only_token (plain_inner l (m ∷ rest) goes bracket ∙ ap (λ ys. l ∷ ys) (ended m rest (closes m) refl ends)))

-- any other token, and another behind it
plain_more : (l m : Lexeme) (rest : List Lexeme) → (closes l || is_comma l) ≡ false → opens l ≡ false → (closes m || is_comma m) ≡ false → None ≡ only_token (before is_comma 0 (before closes 0 (l ∷ m ∷ rest)))
plain_more l m rest goes bracket more =
    let parts : (closes m ≡ false) × (is_comma m ≡ false) = or_false (closes m) (is_comma m) more in
    let next : before is_comma 0 (before closes 0 (m ∷ rest)) ≡ m ∷ before is_comma (depth_behind m 0) (before closes (depth_behind m 0) rest) =
    ap (before is_comma 0) (before-go closes m rest parts.0) ∙ before-go is_comma m (before closes (depth_behind m 0) rest) parts.1 in
    sym (ap only_token (plain_inner l (m ∷ rest) goes bracket ∙ ap (λ ys. l ∷ ys) next))

abbrev pub ends : List ℕ → Token → Bool
ends source t = closes (lexeme source t) || is_comma (lexeme source t)

pub value_opens : (source : List ℕ) (ts : List Token) (d : Token) → 2 ≤ length ts → ends source (get_or ts 0 d) ≡ false → opens (lexeme source (get_or ts 0 d)) ≡ true → None ≡ only_token (value_in source ts)
value_opens source [] d two goes bracket = absurd (omega arith)
value_opens source (t ∷ []) d two goes bracket = absurd (omega arith)
value_opens source (t ∷ u ∷ rest) d two goes bracket = open_more (lexeme source t) (lexeme source u) (lexemes source rest) goes bracket

pub value_ends : (source : List ℕ) (ts : List Token) (d : Token) → 2 ≤ length ts → ends source (get_or ts 0 d) ≡ false → opens (lexeme source (get_or ts 0 d)) ≡ false → ends source (get_or ts 1 d) ≡ true → Some (lexeme source (get_or ts 0 d)) ≡ only_token (value_in source ts)
value_ends source [] d two goes bracket ends = absurd (omega arith)
value_ends source (t ∷ []) d two goes bracket ends = absurd (omega arith)
value_ends source (t ∷ u ∷ rest) d two goes bracket ends = plain_end (lexeme source t) (lexeme source u) (lexemes source rest) goes bracket ends

pub value_more : (source : List ℕ) (ts : List Token) (d : Token) → 2 ≤ length ts → ends source (get_or ts 0 d) ≡ false → opens (lexeme source (get_or ts 0 d)) ≡ false → ends source (get_or ts 1 d) ≡ false → None ≡ only_token (value_in source ts)
value_more source [] d two goes bracket more = absurd (omega arith)
value_more source (t ∷ []) d two goes bracket more = absurd (omega arith)
value_more source (t ∷ u ∷ rest) d two goes bracket more = plain_more (lexeme source t) (lexeme source u) (lexemes source rest) goes bracket more
