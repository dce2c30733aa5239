-- The blocks of a function hold its instructions one after the other, and the last one of each is its only terminator.
use Rattle.std.proofs.Common.{◌≡◌, ℕ, zero, suc, ◌+◌, ◌<◌, ◌≤◌, ◌≢◌, ◌⊎◌, inl, inr, List, [], ◌∷◌, ◌++◌, length, take, drop, Bool, true, false, cond, ◌||◌, Option, Some, None, is_some, if◌then◌else◌, arith, refl, sym, ap, ◌∙◌, subst, append_assoc, length-append}
use Rattle.std.specs.Prelude.{◌==◌}
use Rattle.std.specs.List.{slice_get, prefix_len}
use Rattle.std.proofs.lemmas.Bool.Decides.{eqb_tells}
use Rattle.std.proofs.lemmas.List.{take-append-drop, length-take-le}
use Rattle.std.proofs.Math.Seq.{drop-append_seam, take-append_seam}
use Rattle.ir_core.specs.declared.token.Token.{Token}
use Rattle.ir_core.specs.declared.ir_module.Inst.{Inst}
use Rattle.ir_core.specs.declared.ir_module.Module.{Module}
use Rattle.ir_core.specs.Operations.{is_terminator, is_phi as gives_phi}
use Rattle.ir_core.specs.ResolvedBodies.{IsBlockAt, AreBlocksFrom}
use Rattle.ir_grammar.specs.declared.spelled_bodies.TypedOperand.{TypedOperand}
use Rattle.ir_grammar.specs.declared.spelled_bodies.SpelledOperation.{SpelledOperation}
use Rattle.ir_grammar.specs.declared.spelled_bodies.SpelledOperation.TheVariants as operations
use Rattle.ir_grammar.specs.declared.spelled_bodies.SpelledInstruction.{SpelledInstruction}
use Rattle.ir_grammar.specs.declared.spelled_bodies.SpelledBlock.{SpelledBlock}
use Rattle.ir_grammar.specs.SoundStore.{Counts}
use Rattle.ir_read_items.specs.Rows.{ends_block, IsEndedAfter, IsEnded, AreRows, Each}
use Rattle.ir_first_values.specs.Tables.{Tables}
use Rattle.ir_body_names.specs.Definitions.{instructions_of}
use Rattle.ir_body_names.specs.Uses.{operation_uses}
use Rattle.ir_body_names.specs.BodyFaults.{Surroundings, is_there}
use Rattle.ir_functions.specs.Scope.{Scope}
use Rattle.ir_functions.specs.Instructions.{has_register, defined_function, declared_function, call_of, operation}
use Rattle.ir_functions.specs.Functions.{Spelled, scope_of, is_variable, instructions_from, is_phi_operation, is_phi, block_at, blocks_from, all_instructions, function_of}
use Rattle.ir_resolved.specs.Grounds.{IsFaultless}
use Rattle.ir_resolved.proofs.Lists.{AllPass, each_take, each_drop}
use Rattle.ir_resolved.proofs.Uses.{defined_in, keys_in, AreUsed, uses_there}
use Rattle.ir_resolved.proofs.Numbers.{length-blocks_from}

-- ---- kinds of instructions

call_goes_on : (s : Scope) (result : ℕ) (xs : List TypedOperand) (defined declared : Option ℕ) → (is_some defined || is_some declared) ≡ true
    → is_terminator (call_of s result xs defined declared) ≡ false
call_goes_on s result xs (Some func) declared h = refl
call_goes_on s result xs None None h = absurd (let e : false ≡ true = h in cc)
call_goes_on s result xs None (Some declare) h = refl

ends_same : (s : Scope) (f : Spelled) (v : ℕ) (word : Token) (o : SpelledOperation)
    → AllPass (is_there s.names (keys_in s.names f) (defined_in s.names f) (length f.parameters)) (operation_uses s.names.bodies o)
    → is_terminator (operation s v word o) ≡ ends_block o
ends_same s f v word (operations.Binary a b) h = refl
ends_same s f v word (operations.Icmp p a b) h = refl
ends_same s f v word (operations.Cast a to) h = refl
ends_same s f v word (operations.Freeze a) h = refl
ends_same s f v word (operations.Select condition a b) h = refl
ends_same s f v word (operations.Phi ty first count) h = refl
ends_same s f v word (operations.Alloca ty count stated) h = refl
ends_same s f v word (operations.Load ty pointer stated) h = refl
ends_same s f v word (operations.Store value pointer stated) h = refl
ends_same s f v word (operations.GetElementPtr of base first count) h = refl
ends_same s f v word operations.Fence h = refl
ends_same s f v word (operations.AtomicRmw operator pointer value stated) h = refl
ends_same s f v word (operations.CmpXchg pointer expected new stated) h = refl
ends_same s f v word (operations.ExtractValue of value part) h = refl
ends_same s f v word (operations.Call name result first count) h = call_goes_on s _ _ (defined_function s name) (declared_function s name) h.0
ends_same s f v word (operations.Return ty value) h = refl
ends_same s f v word (operations.Jump block) h = refl
ends_same s f v word (operations.Branch condition yes_block no_block) h = refl
ends_same s f v word (operations.Switch value other first count) h = refl
ends_same s f v word operations.Unreachable h = refl

call_no_phi : (s : Scope) (result : ℕ) (xs : List TypedOperand) (defined declared : Option ℕ)
    → gives_phi (call_of s result xs defined declared) ≡ false
call_no_phi s result xs (Some func) declared = refl
call_no_phi s result xs None None = refl
call_no_phi s result xs None (Some declare) = refl

phi_same : (s : Scope) (v : ℕ) (word : Token) (o : SpelledOperation) → gives_phi (operation s v word o) ≡ is_phi_operation o
phi_same s v word (operations.Binary a b) = refl
phi_same s v word (operations.Icmp p a b) = refl
phi_same s v word (operations.Cast a to) = refl
phi_same s v word (operations.Freeze a) = refl
phi_same s v word (operations.Select condition a b) = refl
phi_same s v word (operations.Phi ty first count) = refl
phi_same s v word (operations.Alloca ty count stated) = refl
phi_same s v word (operations.Load ty pointer stated) = refl
phi_same s v word (operations.Store value pointer stated) = refl
phi_same s v word (operations.GetElementPtr of base first count) = refl
phi_same s v word operations.Fence = refl
phi_same s v word (operations.AtomicRmw operator pointer value stated) = refl
phi_same s v word (operations.CmpXchg pointer expected new stated) = refl
phi_same s v word (operations.ExtractValue of value part) = refl
phi_same s v word (operations.Call name result first count) = call_no_phi s _ _ (defined_function s name) (declared_function s name)
phi_same s v word (operations.Return ty value) = refl
phi_same s v word (operations.Jump block) = refl
phi_same s v word (operations.Branch condition yes_block no_block) = refl
phi_same s v word (operations.Switch value other first count) = refl
phi_same s v word operations.Unreachable = refl

-- ---- instructions one by one

-- these are the spelled instructions, one by one, as far as their kind goes
abbrev Shows : List Inst → List SpelledInstruction → Type 0
Shows [] [] = Unit {0}
Shows [] (i ∷ is) = ⊥
Shows (x ∷ xs) [] = ⊥
Shows (x ∷ xs) (i ∷ is) = (is_terminator x.op ≡ ends_block i.operation) × (gives_phi x.op ≡ is_phi i) × Shows xs is

shows : (s : Scope) (f : Spelled) (r v : ℕ) (is : List SpelledInstruction) → Each (AreUsed s.names f) is → Shows (instructions_from s r v is) is
shows s f r v [] h = tt
shows s f r v (i ∷ is) h = (
  ends_same s f v i.word i.operation h.0,
  phi_same s v i.word i.operation,
  shows s f (if has_register s i then r + 1 else r) (if is_variable i.operation then v + 1 else v) is h.1,
)

shows_many : (xs : List Inst) (is : List SpelledInstruction) → Shows xs is → length xs ≡ length is
shows_many [] [] h = refl
shows_many [] (i ∷ is) h = absurd h
shows_many (x ∷ xs) [] h = absurd h
shows_many (x ∷ xs) (i ∷ is) (t, p, h) = ap (λ n. suc n) (shows_many xs is h)

shows_rest : (xs : List Inst) (own more : List SpelledInstruction) → Shows xs (own ++ more) → Shows (drop (length own) xs) more
shows_rest xs [] more h = h
shows_rest [] (i ∷ own) more h = absurd h
shows_rest (x ∷ xs) (i ∷ own) more (t, p, h) = shows_rest xs own more h

-- ---- the phis of a block

leads_by : (b : Bool) (n j : ℕ) (x : Inst) → gives_phi x.op ≡ b → j < cond b (1 + n) 0 → gives_phi x.op ≡ true
leads_by true n j x e h = e
leads_by false n j x e h = absurd (omega arith)

later_by : (b : Bool) (n j : ℕ) → suc j < cond b (1 + n) 0 → j < n
later_by true n j h = omega arith
later_by false n j h = absurd (omega arith)

leading : (xs : List Inst) (own more : List SpelledInstruction) (j : ℕ) (x : Inst) → Shows xs (own ++ more) → j < prefix_len is_phi own
    → slice_get xs j ≡ Some x → gives_phi x.op ≡ true
leading xs [] more j x h less g = absurd (omega arith)
leading [] (i ∷ own) more j x h less g = absurd h
leading (y ∷ xs) (i ∷ own) more zero x (t, p, h) less g =
    let same : y ≡ x = cc in
    ap (λ (z : Inst). gives_phi z.op) (sym same) ∙ leads_by (is_phi i) (prefix_len is_phi own) 0 y p less
leading (y ∷ xs) (i ∷ own) more (suc j) x (t, p, h) less g = leading xs own more j x h (later_by (is_phi i) (prefix_len is_phi own) j less) g

no_phi : (o : SpelledOperation) → ends_block o ≡ true → is_phi_operation o ≡ false
no_phi (operations.Binary a b) h = refl
no_phi (operations.Icmp p a b) h = refl
no_phi (operations.Cast a to) h = refl
no_phi (operations.Freeze a) h = refl
no_phi (operations.Select condition a b) h = refl
no_phi (operations.Phi ty first count) h = absurd (let e : false ≡ true = h in cc)
no_phi (operations.Alloca ty count stated) h = refl
no_phi (operations.Load ty pointer stated) h = refl
no_phi (operations.Store value pointer stated) h = refl
no_phi (operations.GetElementPtr of base first count) h = refl
no_phi operations.Fence h = refl
no_phi (operations.AtomicRmw operator pointer value stated) h = refl
no_phi (operations.CmpXchg pointer expected new stated) h = refl
no_phi (operations.ExtractValue of value part) h = refl
no_phi (operations.Call name result first count) h = refl
no_phi (operations.Return ty value) h = refl
no_phi (operations.Jump block) h = refl
no_phi (operations.Branch condition yes_block no_block) h = refl
no_phi (operations.Switch value other first count) h = refl
no_phi operations.Unreachable h = refl

one_more : (b : Bool) (n m : ℕ) → n < m → cond b (1 + n) 0 < suc m
one_more true n m h = omega arith
one_more false n m h = omega arith

no_more : (b : Bool) (n : ℕ) → b ≡ false → cond b (1 + n) 0 < 1
no_more true n h = absurd (let e : true ≡ false = h in cc)
no_more false n h = omega arith

fewer_after : (i : SpelledInstruction) (own : List SpelledInstruction) → IsEndedAfter i own → prefix_len is_phi (i ∷ own) < length (i ∷ own)
fewer_after i [] h = no_more (is_phi i) 0 (no_phi i.operation h)
fewer_after i (k ∷ own) (e, h) = one_more (is_phi i) (prefix_len is_phi (k ∷ own)) (length (k ∷ own)) (fewer_after k own h)

fewer_phis : (own : List SpelledInstruction) → IsEnded own → prefix_len is_phi own < length own
fewer_phis [] h = absurd h
fewer_phis (i ∷ own) h = fewer_after i own h

-- ---- the terminator of a block

told : (t : Bool) (a b : ℕ) → a ≤ b → (a ≡ b → t ≡ true) → (a < b → t ≡ false) → t ≡ (a == b)
told t a b most same less = told_by (eqb_tells a b)
  where
    told_by : (((a == b) ≡ true) × (a ≡ b)) ⊎ (((a == b) ≡ false) × (a ≢ b)) → t ≡ (a == b)
    told_by (inl (e, equal)) = same equal ∙ sym e
    told_by (inr (e, other)) = less (let d : a ≢ b = other in omega arith) ∙ sym e

last_after : (xs : List Inst) (i : SpelledInstruction) (own more : List SpelledInstruction) (j : ℕ) (x : Inst) → Shows xs (i ∷ (own ++ more))
    → IsEndedAfter i own
    → slice_get xs j ≡ Some x → j + 1 ≡ length (i ∷ own) → is_terminator x.op ≡ true
last_after [] i own more j x h d g e = absurd h
last_after (y ∷ xs) i [] more zero x (t, p, h) d g e = let same : y ≡ x = cc in ap (λ (z : Inst). is_terminator z.op) (sym same) ∙ (t ∙ d)
last_after (y ∷ xs) i [] more (suc j) x (t, p, h) d g e = absurd (omega arith)
last_after (y ∷ xs) i (k ∷ own) more zero x (t, p, h) d g e = absurd (omega arith)
last_after (y ∷ xs) i (k ∷ own) more (suc j) x (t, p, h) (q, d) g e = last_after xs k own more j x h d g (omega arith)

before_last : (xs : List Inst) (i : SpelledInstruction) (own more : List SpelledInstruction) (j : ℕ) (x : Inst) → Shows xs (i ∷ (own ++ more))
    → IsEndedAfter i own
    → slice_get xs j ≡ Some x → j + 1 < length (i ∷ own) → is_terminator x.op ≡ false
before_last [] i own more j x h d g e = absurd h
before_last (y ∷ xs) i [] more j x h d g e = absurd (omega arith)
before_last (y ∷ xs) i (k ∷ own) more zero x (t, p, h) (q, d) g e =
    let same : y ≡ x = cc in ap (λ (z : Inst). is_terminator z.op) (sym same) ∙ (t ∙ q)
before_last (y ∷ xs) i (k ∷ own) more (suc j) x (t, p, h) (q, d) g e = before_last xs k own more j x h d g (omega arith)

only_last : (xs : List Inst) (own more : List SpelledInstruction) (j : ℕ) (x : Inst) → Shows xs (own ++ more) → IsEnded own → slice_get xs j ≡ Some x
    → j < length own → is_terminator x.op ≡ (j + 1 == length own)
only_last xs [] more j x h d g less = absurd d
only_last xs (i ∷ own) more j x h d g less =
    told (is_terminator x.op) (j + 1) (length (i ∷ own)) (omega arith) (λ e. last_after xs i own more j x h d g e) (λ e. before_last xs i own more j x h d g e)

-- ---- blocks

behind : (front back : List Inst) (i j : ℕ) → i ≡ length front + j → slice_get (front ++ back) i ≡ slice_get back j
behind [] back i j e = ap (λ k. slice_get back k) (omega arith)
behind (x ∷ front) back zero j e = absurd (omega arith)
behind (x ∷ front) back (suc i) j e = behind front back i j (omega arith)

record Place (first i : ℕ) : Type 0 where
  at : ℕ
  is : i ≡ first + at

place_of : (first i : ℕ) → first ≤ i → Place first i
place_of zero i h = record { at = i; is = omega arith }
place_of (suc first) zero h = absurd (omega arith)
place_of (suc first) (suc i) h = let p = place_of first i (omega arith) in let e : i ≡ first + p.at = p.is in record { at = p.at; is = omega arith }

eq_moved : (a b c : ℕ) → ((a + 1) == b) ≡ (((c + a) + 1) == (c + b))
eq_moved a b c = moved_by (eqb_tells (a + 1) b) (eqb_tells ((c + a) + 1) (c + b))
  where
    moved_by : ((((a + 1) == b) ≡ true) × (a + 1 ≡ b)) ⊎ ((((a + 1) == b) ≡ false) × (a + 1 ≢ b))
        → (((((c + a) + 1) == (c + b)) ≡ true) × ((c + a) + 1 ≡ c + b)) ⊎ (((((c + a) + 1) == (c + b)) ≡ false) × ((c + a) + 1 ≢ c + b))
        → ((a + 1) == b) ≡ (((c + a) + 1) == (c + b))
    moved_by (inl (e, same)) (inl (f, also)) = e ∙ sym f
    moved_by (inl (e, same)) (inr (f, other)) = absurd (other (omega arith))
    moved_by (inr (e, other)) (inl (f, same)) = absurd (other (omega arith))
    moved_by (inr (e, other)) (inr (f, also)) = e ∙ sym f

block_holds : (insts front back : List Inst) (first : ℕ) (own more : List SpelledInstruction) → insts ≡ front ++ back → length front ≡ first
    → Shows back (own ++ more) → IsEnded own
    → IsBlockAt insts first (block_at first own)
block_holds insts front back first own more e l h d =
    let many : length back ≡ length (own ++ more) = shows_many back (own ++ more) h in
    let both : length (own ++ more) ≡ length own + length more = length-append own more in
    let whole : length insts ≡ length front + length back = ap (λ (xs : List Inst). length xs) e ∙ length-append front back in
    record {
      first = refl;
      phis = fewer_phis own d;
      inside = omega arith;
      leading = λ i inst low high g.
          let p = place_of first i low in
          let at : i ≡ length front + p.at = p.is ∙ ap (λ n. n + p.at) (sym l) in
          let is : i ≡ first + p.at = p.is in
          leading back own more p.at inst h (omega arith) (sym (behind front back i p.at at) ∙ (ap (λ (xs : List Inst). slice_get xs i) (sym e) ∙ g));
      ends = λ i inst low high g.
          let p = place_of first i low in
          let at : i ≡ length front + p.at = p.is ∙ ap (λ n. n + p.at) (sym l) in
          let is : i ≡ first + p.at = p.is in
          only_last back own more p.at inst h d (sym (behind front back i p.at at) ∙ (ap (λ (xs : List Inst). slice_get xs i) (sym e) ∙ g)) (omega arith)
          ∙ (eq_moved p.at (length own) first ∙ ap (λ n. (n + 1) == (first + length own)) (sym p.is));
    }

blocks_from_hold : (all : List SpelledInstruction) (insts front back : List Inst) (first : ℕ) (bs : List SpelledBlock) → insts ≡ front ++ back
    → length front ≡ first
    → Shows back (all_instructions all bs) → Each (λ (b : SpelledBlock). IsEnded (instructions_of all b)) bs
    → AreBlocksFrom insts first (blocks_from all first bs)
blocks_from_hold all insts front back first [] e l h d =
    let whole : length insts ≡ length front + length back = ap (λ (xs : List Inst). length xs) e ∙ length-append front back in
    let many : length back ≡ 0 = shows_many back [] h in
    omega arith
blocks_from_hold all insts front back first (b ∷ bs) e l h d =
    let own : List SpelledInstruction = instructions_of all b in
    let more : List SpelledInstruction = all_instructions all bs in
    let many : length back ≡ length (own ++ more) = shows_many back (own ++ more) h in
    let both : length (own ++ more) ≡ length own + length more = length-append own more in
    let next : List Inst = take (length own) back in
    let taken : length (take (length own) back) ≡ length own = length-take-le (length own) back (omega arith) in
    let before : length (front ++ take (length own) back) ≡ length front + length (take (length own) back) =
    length-append front (take (length own) back) in
    let split : insts ≡ (front ++ take (length own) back) ++ drop (length own) back =
    e ∙ (ap (λ (xs : List Inst). front ++ xs) (sym (take-append-drop (length own) back)) ∙ sym (append_assoc front (take (length own) back) (drop (length own) back))) in (
      block_holds insts front back first own more e l h d.0,
      blocks_from_hold all insts (front ++ take (length own) back) (drop (length own) back) (first + length own) bs split (omega arith) (shows_rest back own more h) d.1,
    )

-- ---- functions

-- the blocks of a function without a fault hold its instructions
pub blocks_hold : (names : Surroundings) (tables : Tables) (built : Module) (counts : Counts) (f : Spelled) → IsFaultless names counts f
    → AreBlocksFrom (function_of names tables built f).insts 0 (function_of names tables built f).blocks
blocks_hold names tables built counts f h =
    let all : List SpelledInstruction = names.bodies.instructions in
    let is : List SpelledInstruction = all_instructions all f.blocks in
    let s : Scope = scope_of names tables built f in
    let insts : List Inst = instructions_from s (length f.parameters) 0 is in
    blocks_from_hold all insts [] insts 0 f.blocks refl refl (shows s f (length f.parameters) 0 is (uses_there names f h.faultless)) h.rows

-- there is one
pub has_block : (names : Surroundings) (tables : Tables) (built : Module) (counts : Counts) (f : Spelled) → IsFaultless names counts f
    → 0 < length (function_of names tables built f).blocks
has_block names tables built counts f h =
    let many : length (blocks_from names.bodies.instructions 0 f.blocks) ≡ length f.blocks =
    length-blocks_from names.bodies.instructions 0 f.blocks in
    let some : 1 ≤ length f.blocks = h.some_block in
    omega arith

-- ---- rows

rows_of : (whole front instructions : List SpelledInstruction) (from : ℕ) (bs : List SpelledBlock) → whole ≡ front ++ instructions
    → length front ≡ from → AreRows from instructions bs
    → Each (λ (b : SpelledBlock). IsEnded (instructions_of whole b)) bs
rows_of whole front instructions from [] e l h = tt
rows_of whole front instructions from (b ∷ bs) e l (own, more, q, row, rest) =
    let first : b.first ≡ length front = row.first ∙ sym l in
    let split : whole ≡ front ++ (own ++ more) = e ∙ ap (λ (xs : List SpelledInstruction). front ++ xs) q in
    let dropped : drop b.first whole ≡ own ++ more =
    ap (λ n. drop n whole) first ∙ (ap (λ (xs : List SpelledInstruction). drop (length front) xs) split ∙ drop-append_seam front (own ++ more)) in
    let same : instructions_of whole b ≡ own =
    ap (λ (xs : List SpelledInstruction). take b.count xs) dropped ∙ (ap (λ n. take n (own ++ more)) row.count ∙ take-append_seam own more) in
    let before : length (front ++ own) ≡ length front + length own = length-append front own in (
      subst IsEnded (sym same) row.ended,
      rows_of whole (front ++ own) more (from + length own) bs (split ∙ sym (append_assoc front own more)) (omega arith) rest,
    )

-- each block that lies in a row ends with its only terminator
pub rows_end : (instructions : List SpelledInstruction) (bs : List SpelledBlock) → AreRows 0 instructions bs
    → Each (λ (b : SpelledBlock). IsEnded (instructions_of instructions b)) bs
rows_end instructions bs h = rows_of instructions [] instructions 0 bs refl refl h

-- and so does each of some of them
pub some_rows_end : (instructions : List SpelledInstruction) (bs : List SpelledBlock) (entry n : ℕ) → AreRows 0 instructions bs
    → Each (λ (b : SpelledBlock). IsEnded (instructions_of instructions b)) (take n (drop entry bs))
some_rows_end instructions bs entry n h =
    each_take (λ (b : SpelledBlock). IsEnded (instructions_of instructions b)) n (drop entry bs)
    (each_drop (λ (b : SpelledBlock). IsEnded (instructions_of instructions b)) entry bs (rows_end instructions bs h))
