-- From what each phase answers to what a text is read into.
use Rattle.std.proofs.Common.{◌≡◌, ℕ, ◌+◌, ◌*◌, ◌^◌, ◌<◌, ◌≤◌, List, [], ◌∷◌, length, sym, ◌∙◌, ap, subst, refl, arith, length-append, Ok, Err}
use Rattle.hw_base.specs.declared.numbers.TheConstants.{MOST_TEXT}
use Rattle.ir_core.specs.declared.token.Token.{Token}
use Rattle.ir_core.specs.declared.refusals.Place.{Place}
use Rattle.ir_core.specs.declared.refusals.Refusal.{Refusal}
use Rattle.ir_core.specs.declared.refusals.ReadError.{ReadError}
use Rattle.ir_core.specs.declared.refusals.ReadError.TheVariants.{Refused, OutOfMemory}
use Rattle.ir_core.specs.declared.faults.Fault.TheVariants.{BadToken}
use Rattle.ir_core.specs.Tokenisation.{IsTokenisation, place_after}
use Rattle.ir_lex.specs.Lexes.{Lexes}
use Rattle.ir_grammar.specs.Spelled.{Store}
use Rattle.ir_grammar.specs.KindOf.{terminals_of, end_of_text, text_of}
use Rattle.ir_grammar.specs.declared.terminal.Failure.{Failure}
use Rattle.ir_grammar.specs.declared.terminal.Failure.TheVariants as failures
use Rattle.ir_grammar.specs.declared.terminal.Terminal.{Terminal}
use Rattle.ir_grammar.specs.SoundStore.{IsSoundStore, size_of}
use Rattle.ir_lex.proofs.Cuts.{one_tokenisation}
use Rattle.ir_read_items.specs.ItemReading.{spelled, ReadsItems}
use Rattle.ir_read_items.proofs.Spelled.{text_is_module}
use Rattle.ir_read_top.specs.Texts.{sentence, refusal_at, flaw_error, IsFaultOf, bad_token, flawed, ReadsText, IsGathered, IsRead, IsSentence}

length-terminals : (source : List ℕ) (ts : List Token) → length (terminals_of source ts) ≡ length ts
length-terminals source [] = refl
length-terminals source (t ∷ ts) = let e = length-terminals source ts in omega arith

-- there is one token more in a sentence, its end
pub length-text : (source : List ℕ) (ts : List Token) (place : Place) → length (text_of source ts place) ≡ length ts + 1
length-text source ts place =
    let e = length-terminals source ts in
    omega (arith, length-append (terminals_of source ts) (end_of_text place ∷ []))

-- what was read of a text is less than 2^28 things
pub small_enough : (size n : ℕ) → size ≤ 8 * n → n ≤ MOST_TEXT + 1 → size < 2 ^ 28
small_enough size n h le = omega arith

refusal_is : (r : Refusal) → r.fault ≡ BadToken → refusal_at BadToken (record { line = r.line; column = r.column }) ≡ r
refusal_is r p i = record { fault = sym p i; line = r.line; column = r.column }

-- the lexer's refusal is that of the text
pub bad_text : (text : List ℕ) (error : ReadError) → length text ≤ MOST_TEXT → Lexes text (Err error) → ReadsText text (Err error)
bad_text text OutOfMemory short h = tt
bad_text text (Refused r) short h = subst (IsFaultOf text) (refusal_is r h.0) (bad_token (record { line = r.line; column = r.column }) short h.1)

-- the flaw of the tokens is that of the text
pub flawed_text : (text : List ℕ) (tokens : List Token) (failure : Failure) → length text ≤ MOST_TEXT → IsTokenisation text tokens
    → ReadsItems (sentence text tokens) (Err failure) → ReadsText text (Err (flaw_error (place_after text) (sentence text tokens) failure))
flawed_text text tokens failures.OutOfMemory short cut h = tt
flawed_text text tokens (failures.Flawed flaw) short cut h = flawed tokens flaw.fault flaw.left short cut h

-- what the text's tokens spell is what the text spells
pub gathered_of : (text : List ℕ) (terminals : List Terminal) (store : Store) → length text ≤ MOST_TEXT → IsSentence text terminals → spelled terminals ≡ Ok store → IsSoundStore store → size_of store ≤ 8 * length terminals
    → IsRead text store
gathered_of text terminals store short s h sound small =
    let n : length terminals ≡ length s.tokens + 1 = ap length s.whole ∙ length-text text s.tokens (place_after text) in
    let few = s.few in
    record {
      tokens = s.tokens;
      cut = s.cut;
      gathered = record {
        derived = text_is_module text s.tokens (place_after text) store (sym (ap spelled s.whole) ∙ h);
        sound = sound;
        small = small_enough (size_of store) (length terminals) small (omega arith);
      };
    }

-- the flaw of the text's tokens is that of the text
pub flawed_sentence : (text : List ℕ) (terminals : List Terminal) (failure : Failure) → length text ≤ MOST_TEXT → IsSentence text terminals → ReadsItems terminals (Err failure)
    → ReadsText text (Err (flaw_error (place_after text) terminals failure))
flawed_sentence text terminals failure short s h =
    subst (λ v. ReadsText text (Err (flaw_error (place_after text) v failure))) (sym s.whole)
    (flawed_text text s.tokens failure short s.cut (subst (λ v. ReadsItems v (Err failure)) s.whole h))

-- by whichever tokens it was read
pub gathered_by : (text : List ℕ) (tokens : List Token) (store : Store) → IsRead text store → IsTokenisation text tokens → IsGathered text tokens store
gathered_by text tokens store r cut = subst (λ v. IsGathered text v store) (one_tokenisation text r.tokens tokens r.cut cut) r.gathered
