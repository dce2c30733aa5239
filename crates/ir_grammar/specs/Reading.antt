-- Reading by a rule: from the left, with one token ahead, and at a fault the flaw.
use Rattle.std.specs.Prelude.{ℕ, zero, suc, List, [], ◌∷◌, ◌++◌, length, None, Some, Bool, true, false, ◌&&◌, ◌||◌, if◌then◌else◌, Result, Ok, Err}
use Rattle.ir_core.specs.declared.faults.Fault.TheVariants.{BadSyntax, Unsupported, TooLarge}
use Rattle.ir_core.specs.declared.faults.Limit.TheVariants.{Nesting}
use Rattle.ir_grammar.specs.declared.kind.Kind.{Kind}
use Rattle.ir_grammar.specs.declared.kind.Kind.TheVariants.{Vector, Dots, HexWord}
use Rattle.ir_grammar.specs.declared.terminal.Terminal.{Terminal}
use Rattle.ir_grammar.specs.declared.terminal.Flaw.{Flaw}
use Rattle.ir_grammar.specs.Kinds.{is_among}
use Rattle.ir_grammar.specs.Rules.{Sort, Signature, Value, Rule, one, refused, ◌⨾◌, ◌∣◌, optional, many, between, act}

-- an outcome, and what is made of it
infixl 10 ◌>>=◌
abbrev pub ◌>>=◌ : {A B : Type 0} → Result A Flaw → (A → Result B Flaw) → Result B Flaw
(Ok x) >>= f = f x
(Err e) >>= f = Err e

-- a value, the tokens after it, and the store; or the flaw
abbrev pub Outcome : Type 0 → Type 0 → Type 0
Outcome Store A = Result (A × List Terminal × Store) Flaw

-- what reading answers of tokens and a store
abbrev pub Reading : Type 0 → Type 0 → Type 0
Reading Store A = List Terminal → Store → Outcome Store A

-- the tokens begin with one of these kinds
abbrev pub starts : List Kind → List Terminal → Bool
starts kinds [] = false
starts kinds (t ∷ ts) = is_among kinds t.kind

-- a vector, `...`, and words that begin with `u0x` or `s0x` are Unsupported wherever they stand and nothing goes on with them
abbrev pub refused_everywhere : List Kind
refused_everywhere = Vector ∷ Dots ∷ HexWord ∷ []

-- no derivation goes on here
abbrev pub bad : List Terminal → Flaw
bad ts = record { fault = if starts refused_everywhere ts then Unsupported else BadSyntax; left = length ts }

-- a form stands here that this program doesn't take
abbrev pub unsupported : List Terminal → Flaw
unsupported ts = record { fault = Unsupported; left = length ts }

-- the bracket, with this many tokens from it on, opens a level too many
abbrev pub too_deep : ℕ → Flaw
too_deep left = record { fault = TooLarge Nesting; left = left }

-- one token of these kinds
abbrev pub take : {Store : Type 0} → List Kind → Reading Store Terminal
take kinds [] store = Err (bad [])
take kinds (t ∷ ts) store = if is_among kinds t.kind then Ok (t, ts, store) else Err (bad (t ∷ ts))

-- no token, and Unsupported where one of these kinds stands
abbrev pub refuse : {Store A : Type 0} → List Kind → Reading Store A
refuse kinds ts store = if starts kinds ts then Err (unsupported ts) else Err (bad ts)

-- the rule may take no token
abbrev pub is_empty : {S : Signature} {s : Sort S.Base} → Rule S s → Bool
is_empty (one ks) = false
is_empty (refused ks) = false
is_empty (a ⨾ b) = is_empty a && is_empty b
is_empty (a ∣ b) = is_empty a || is_empty b
is_empty (optional a) = true
is_empty (many a) = true
is_empty (between k n k') = false
is_empty (act f a) = is_empty a

-- the kinds that a rule is read at, the refused ones among them: by these one token ahead decides
abbrev pub first : {S : Signature} {s : Sort S.Base} → Rule S s → List Kind
first (one ks) = ks
first (refused ks) = ks
first (a ⨾ b) = if is_empty a then first a ++ first b else first a
first (a ∣ b) = first a ++ first b
first (optional a) = first a
first (many a) = first a
first (between k n k') = k ∷ []
first (act f a) = first a

-- rounds of a reading, at most this many, while the tokens begin with one of these kinds
abbrev pub repeated : {Store A : Type 0} → List Kind → Reading Store A → ℕ → Reading Store (List A)
repeated kinds reading zero ts store = Ok ([], ts, store)
repeated kinds reading (suc n) ts store =
    if starts kinds ts
    then (reading ts store >>= λ x. repeated kinds reading n x.1 x.2 >>= λ xs. Ok (x.0 ∷ xs.0, xs.1, xs.2))
    else Ok ([], ts, store)

-- how what stands between brackets is read: by its name, at so many tokens from the bracket on
abbrev pub Inside : Signature → Type 0
Inside S = (n : S.Name) → ℕ → Reading S.Store (Value S (S.sort_of n))

-- reading by a rule
abbrev pub read_in : {S : Signature} {s : Sort S.Base} → Inside S → Rule S s → Reading S.Store (Value S s)
read_in inside (one ks) ts store = take ks ts store
read_in inside (refused ks) ts store = refuse ks ts store
read_in inside (a ⨾ b) ts store = read_in inside a ts store >>= λ x. read_in inside b x.1 x.2 >>= λ y. Ok ((x.0, y.0), y.1, y.2)
read_in inside (a ∣ b) ts store = if starts (first a) ts then read_in inside a ts store else read_in inside b ts store
read_in inside (optional a) ts store =
    if starts (first a) ts then (read_in inside a ts store >>= λ x. Ok (Some x.0, x.1, x.2)) else Ok (None, ts, store)
read_in inside (many a) ts store = repeated (first a) (read_in inside a) (length ts) ts store
read_in inside (between k n k') ts store =
    take (k ∷ []) ts store >>= λ o. inside n (length ts) o.1 o.2 >>= λ x. take (k' ∷ []) x.1 x.2 >>= λ c. Ok (x.0, c.1, c.2)
read_in inside (act f a) ts store = read_in inside a ts store >>= λ x. Ok ((f x.0 x.2).0, x.1, (f x.0 x.2).1)

-- what stands between brackets, where so many levels may still be opened
abbrev pub inside : (S : Signature) → ((n : S.Name) → Rule S (S.sort_of n)) → ℕ → Inside S
inside S rules zero n at ts store = Err (too_deep at)
inside S rules (suc levels) n at ts store = read_in (inside S rules levels) (rules n) ts store
