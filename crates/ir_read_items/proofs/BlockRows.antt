-- The blocks of a function lie in rows: what reading one adds.
use Rattle.std.proofs.Common.{◌≡◌, ℕ, ◌+◌, ◌≤◌, Bool, true, false, List, [], ◌∷◌, ◌++◌, length, Option, None, Some, inl, inr, refl, sym, ◌∙◌, ap, subst, arith, length-append, append-nil, append_assoc}
use Rattle.ir_core.specs.declared.token.Token.{Token}
use Rattle.ir_grammar.specs.declared.kind.Kind.TheVariants as k
use Rattle.ir_grammar.specs.declared.terminal.Terminal.{Terminal}
use Rattle.ir_grammar.specs.declared.spelled_bodies.SpelledOperation.{SpelledOperation}
use Rattle.ir_grammar.specs.declared.spelled_bodies.SpelledOperation.TheVariants as operations
use Rattle.ir_grammar.specs.declared.spelled_bodies.SpelledAttachment.{SpelledAttachment}
use Rattle.ir_grammar.specs.declared.spelled_bodies.SpelledInstruction.{SpelledInstruction}
use Rattle.ir_grammar.specs.declared.spelled_bodies.SpelledBlock.{SpelledBlock}
use Rattle.ir_grammar.specs.declared.spelled_bodies.TypedOperand.{TypedOperand}
use Rattle.ir_grammar.specs.Kinds.{is_among}
use Rattle.ir_grammar.specs.Rules.{token, base, pair, option, list, Value, ◌⨾◌, optional, the}
use Rattle.ir_grammar.specs.Names.{number, operand, typed, instruction, block, shared}
use Rattle.ir_grammar.specs.Spelled.{Store, token_in}
use Rattle.ir_grammar.specs.SpelledBodies.{add_kept, kept_ones}
use Rattle.ir_grammar.specs.Operands.{small_alignment, stated_alignment, alignment_end, plain_end, aligned_end}
use Rattle.ir_grammar.specs.Instructions.{rest_sort, end_sort, binary_rest, icmp_rest, cast_rest, freeze_rest, select_rest, phi_head, phi_rest, alloca_rest, access_end, load_rest, store_rest, step_head, step_rest, fence_rest, ordered_end, rmw_rest, exchange_end, exchange_rest, extract_rest}
use Rattle.ir_grammar.specs.Calls.{call_sort, add_called, call_head, call_rest, call_rule}
use Rattle.ir_grammar.specs.Terminators.{return_rest, jump_end, branch_end, branch_rest, switch_head, switch_rest, unreachable_rest}
use Rattle.ir_grammar.specs.Blocks.{worded_sort, value_instruction, memory_instruction, atomic_instruction, alloca, common_instruction, plain_instruction, plain_body, body_rule, instruction_rule, record_rule, block_part, block_parts, worded_terminator, terminator, block_rule, later_blocks, blocks_rule}
use Rattle.ir_read_items.specs.Rows.{ends_block, IsEnded, IsRow, AreRows, stated_in, IsStated, Each}
use Rattle.ir_read_items.proofs.Runs.{Chain, Runs, each_append}
use Rattle.ir_read_items.proofs.Calm.{Stay, calm_run, block_calm}

-- this is so of each integer that is a power of two up to 16
abbrev pub IsFine : (Token → Type 0) → Terminal → Type 0
IsFine P t = is_among (k.SmallPower ∷ []) t.kind ≡ true → P t.token

-- ---- terminators

ends_so : (P : Token → Type 0) (x : Value shared worded_sort) (st end : Store) → Runs (IsFine P) worded_sort worded_terminator x st end → ends_block (x.1).0 ≡ true
unfolding worded_terminator return_rest branch_rest jump_end branch_end switch_rest switch_head unreachable_rest
ends_so P x st end (inl (m, h, (y, n, w, e, e'))) = ap (λ (v : Value shared rest_sort). ends_block v.0) e
ends_so P x st end (inr (inl (m, h, inl (y, n, w, e, e')))) = ap (λ (v : Value shared rest_sort). ends_block v.0) e
ends_so P x st end (inr (inl (m, h, inr (y, n, w, e, e')))) = ap (λ (v : Value shared rest_sort). ends_block v.0) e
ends_so P x st end (inr (inr (inl (m, h, (l, (y, n, w, e, e'), q))))) = ap ends_block e
ends_so P x st end (inr (inr (inr (m, h, (y, n, w, e, e'))))) = ap (λ (v : Value shared rest_sort). ends_block v.0) e

terminator_so : (P : Token → Type 0) (i : SpelledInstruction) (st end : Store) → Runs (IsFine P) (base instruction) terminator i st end → ends_block i.operation ≡ true
unfolding terminator
terminator_so P i st end (y, m, w, e, e') = ap (λ (v : SpelledInstruction). ends_block v.operation) e ∙ ends_so P y st m w

-- ---- instructions

-- the operation ends no block, and this is so of the alignment that it states
abbrev IsPlain : (Token → Type 0) → SpelledOperation → Type 0
IsPlain P o = (ends_block o ≡ false) × IsStated P (stated_in o)

abbrev IsPlainRest : (Token → Type 0) → Value shared rest_sort → Type 0
IsPlainRest P v = IsPlain P v.0

abbrev EndsStated : (Token → Type 0) → Value shared end_sort → Type 0
EndsStated P v = IsStated P (token_in v.0)

small_so : (P : Token → Type 0) (t : Terminal) (st end : Store) → Runs (IsFine P) token stated_alignment t st end → P t.token
unfolding stated_alignment small_alignment
small_so P t st end (y, m, (n, h, inl (g, fine, e'')), e, e') = subst (λ (v : Terminal). P v.token) (sym e) (fine g)
small_so P t st end (y, m, (n, h, inr r), e, e') = absurd r

aligned_so : (P : Token → Type 0) (x : Value shared end_sort) (st end : Store) → Runs (IsFine P) end_sort aligned_end x st end → EndsStated P x
unfolding aligned_end alignment_end plain_end
aligned_so P x st end (inl (y, m, (n, h, (z, l, (o, p, q), e'', e''')), e, e')) = subst (EndsStated P) (sym (e ∙ e'')) (small_so P z.0 n o p)
aligned_so P x st end (inr (y, m, w, e, e')) = subst (EndsStated P) (sym e) tt

access_so : (P : Token → Type 0) (x : Value shared end_sort) (st end : Store) → Runs (IsFine P) end_sort access_end x st end → EndsStated P x
unfolding access_end
access_so P x st end (y, m, (n, h, q), e, e') = subst (EndsStated P) (sym e) (aligned_so P y.1 n m q)

ordered_so : (P : Token → Type 0) (x : Value shared end_sort) (st end : Store) → Runs (IsFine P) end_sort ordered_end x st end → EndsStated P x
unfolding ordered_end
ordered_so P x st end (y, m, (n, h, q), e, e') = subst (EndsStated P) (sym e) (aligned_so P y.1 n m q)

exchange_so : (P : Token → Type 0) (x : Value shared end_sort) (st end : Store) → Runs (IsFine P) end_sort exchange_end x st end → EndsStated P x
unfolding exchange_end
exchange_so P x st end (y, m, (n, h, q), e, e') = subst (EndsStated P) (sym e) (ordered_so P y.1 n m q)

value_so : (P : Token → Type 0) (x : Value shared worded_sort) (st end : Store) → Runs (IsFine P) worded_sort value_instruction x st end → IsPlainRest P x.1
unfolding value_instruction binary_rest icmp_rest cast_rest freeze_rest select_rest phi_rest phi_head
value_so P x st end (inl (m, h, (y, n, w, e, e'))) = subst (IsPlainRest P) (sym e) (refl, tt)
value_so P x st end (inr (inl (m, h, (y, n, w, e, e')))) = subst (IsPlainRest P) (sym e) (refl, tt)
value_so P x st end (inr (inr (inl (m, h, (y, n, w, e, e'))))) = subst (IsPlainRest P) (sym e) (refl, tt)
value_so P x st end (inr (inr (inr (inl (m, h, (y, n, w, e, e')))))) = subst (IsPlainRest P) (sym e) (refl, tt)
value_so P x st end (inr (inr (inr (inr (inl (m, h, (y, n, w, e, e'))))))) = subst (IsPlainRest P) (sym e) (refl, tt)
value_so P x st end (inr (inr (inr (inr (inr (m, h, (l, (y, n, w, e, e'), q))))))) = subst (IsPlain P) (sym e) (refl, tt)

load_so : (P : Token → Type 0) (x : Value shared rest_sort) (st end : Store) → Runs (IsFine P) rest_sort load_rest x st end → IsPlainRest P x
unfolding load_rest
load_so P x st end (y, m, (z, l, (a, pa, (b, pb, (c, pc, pd))), e'', e'''), e, e') =
    subst (IsPlainRest P) (sym e) (refl, subst (λ (v : Value shared (pair (base number) (pair (base operand) end_sort))). EndsStated P ((v.1).1)) (sym e'') (access_so P (((z.1).1).1) c l pd))

store_so : (P : Token → Type 0) (x : Value shared rest_sort) (st end : Store) → Runs (IsFine P) rest_sort store_rest x st end → IsPlainRest P x
unfolding store_rest
store_so P x st end (y, m, (z, l, (a, pa, (b, pb, (c, pc, pd))), e'', e'''), e, e') =
    subst (IsPlainRest P) (sym e) (refl, subst (λ (v : Value shared (pair (base typed) (pair (base operand) end_sort))). EndsStated P ((v.1).1)) (sym e'') (access_so P (((z.1).1).1) c l pd))

memory_so : (P : Token → Type 0) (x : Value shared worded_sort) (st end : Store) → Runs (IsFine P) worded_sort memory_instruction x st end → IsPlainRest P x.1
unfolding memory_instruction step_rest step_head
memory_so P x st end (inl (m, h, q)) = load_so P x.1 m end q
memory_so P x st end (inr (inl (m, h, q))) = store_so P x.1 m end q
memory_so P x st end (inr (inr (m, h, (l, (y, n, w, e, e'), q)))) = subst (IsPlain P) (sym e) (refl, tt)

rmw_so : (P : Token → Type 0) (x : Value shared rest_sort) (st end : Store) → Runs (IsFine P) rest_sort rmw_rest x st end → IsPlainRest P x
unfolding rmw_rest
rmw_so P x st end (y, m, (a, pa, (b, pb, (c, pc, pd))), e, e') = subst (IsPlainRest P) (sym e) (refl, ordered_so P (((y.1).1).1) c m pd)

cmpxchg_so : (P : Token → Type 0) (x : Value shared rest_sort) (st end : Store) → Runs (IsFine P) rest_sort exchange_rest x st end → IsPlainRest P x
unfolding exchange_rest
cmpxchg_so P x st end (y, m, (a, pa, (b, pb, (c, pc, pd))), e, e') = subst (IsPlainRest P) (sym e) (refl, exchange_so P (((y.1).1).1) c m pd)

atomic_so : (P : Token → Type 0) (x : Value shared worded_sort) (st end : Store) → Runs (IsFine P) worded_sort atomic_instruction x st end → IsPlainRest P x.1
unfolding atomic_instruction fence_rest extract_rest
atomic_so P x st end (inl (m, h, (y, n, w, e, e'))) = subst (IsPlainRest P) (sym e) (refl, tt)
atomic_so P x st end (inr (inl (m, h, q))) = rmw_so P x.1 m end q
atomic_so P x st end (inr (inr (inl (m, h, q)))) = cmpxchg_so P x.1 m end q
atomic_so P x st end (inr (inr (inr (m, h, (y, n, w, e, e'))))) = subst (IsPlainRest P) (sym e) (refl, tt)

common_so : (P : Token → Type 0) (x : Value shared worded_sort) (st end : Store) → Runs (IsFine P) worded_sort common_instruction x st end → IsPlainRest P x.1
unfolding common_instruction
common_so P x st end (inl r) = value_so P x st end r
common_so P x st end (inr (inl r)) = memory_so P x st end r
common_so P x st end (inr (inr r)) = atomic_so P x st end r

plain_so : (P : Token → Type 0) (entry : Bool) (x : Value shared worded_sort) (st end : Store) → Runs (IsFine P) worded_sort (plain_instruction entry) x st end → IsPlainRest P x.1
unfolding plain_instruction alloca alloca_rest
plain_so P true x st end (inl r) = common_so P x st end r
plain_so P true x st end (inr (m, h, (y, n, w, e, e'))) = subst (IsPlainRest P) (sym e) (refl, tt)
plain_so P false x st end r = common_so P x st end r

-- the same, if there is an operation
abbrev IsPlainMaybe : (Token → Type 0) → Option SpelledOperation → Type 0
IsPlainMaybe P None = Unit {0}
IsPlainMaybe P (Some o) = IsPlain P o

abbrev IsPlainBody : (Token → Type 0) → Value shared (pair token call_sort) → Type 0
IsPlainBody P v = IsPlainMaybe P (v.1).0

plain_body_so : (P : Token → Type 0) (entry : Bool) (x : Value shared (pair token call_sort)) (st end : Store) → Runs (IsFine P) (pair token call_sort) (plain_body entry) x st end → IsPlainBody P x
unfolding plain_body
plain_body_so P entry x st end (y, m, w, e, e') = subst (IsPlainBody P) (sym e) (plain_so P entry y st m w)

called_so : (P : Token → Type 0) (result : ℕ) (v : Option (Terminal × List TypedOperand)) (st : Store) → IsPlainMaybe P (add_called result v st).0
called_so P result None st = tt
called_so P result (Some v) st = (refl, tt)

call_so : (P : Token → Type 0) (x : Value shared (pair token call_sort)) (st end : Store) → Runs (IsFine P) (pair token call_sort) call_rule x st end → IsPlainBody P x
unfolding call_rule call_rest call_head
call_so P x st end (m, h, (l, (y, n, w, e, e'), q)) = subst (IsPlainMaybe P) (sym e) (called_so P y.0 y.1 n)

body_so : (P : Token → Type 0) (entry : Bool) (x : Value shared (pair token call_sort)) (st end : Store) → Runs (IsFine P) (pair token call_sort) (body_rule entry) x st end → IsPlainBody P x
unfolding body_rule
body_so P entry x st end (inl r) = plain_body_so P entry x st end r
body_so P entry x st end (inr (inl r)) = call_so P x st end r
body_so P entry x st end (inr (inr r)) = absurd r

-- the same of an instruction, if there is one
abbrev IsPlainPart : (Token → Type 0) → Option SpelledInstruction → Type 0
IsPlainPart P None = Unit {0}
IsPlainPart P (Some i) = IsPlain P i.operation

kept_so : (P : Token → Type 0) (result : Option Token) (word : Token) (o : Option SpelledOperation) (found : List SpelledAttachment) (st : Store) → IsPlainMaybe P o → IsPlainPart P (add_kept result word o found st).0
kept_so P result word None found st h = tt
kept_so P result word (Some o) found st h = h

part_so : (P : Token → Type 0) (entry : Bool) (x : Option SpelledInstruction) (st end : Store) → Runs (IsFine P) (option (base instruction)) (block_part entry) x st end → IsPlainPart P x
unfolding block_part record_rule instruction_rule
part_so P entry x st end (inl (y, m, w, e, e')) = subst (IsPlainPart P) (sym e) tt
part_so P entry x st end (inr (y, m, (n, p, q), e, e')) =
    subst (IsPlainPart P) (sym e) (kept_so P (token_in y.0) ((y.1).0).token (((y.1).1).0) (((y.1).1).1) m (body_so P entry y.1 n m q))

-- ---- blocks

abbrev pub IsStatedIn : (Token → Type 0) → SpelledInstruction → Type 0
IsStatedIn P i = IsStated P (stated_in i.operation)

each_part : {A : Type 0} (Q : A → Type 0) (R : A → Store → Store → Type 0) → ((x : A) (st end : Store) → R x st end → Q x) → (xs : List A) (st end : Store) → Chain R xs st end → Each Q xs
each_part Q R h [] st end e = tt
each_part Q R h (x ∷ xs) st end r = let (m, p, q) = r in (h x st m p, each_part Q R h xs m end q)

cons_ended : (i : SpelledInstruction) (rest : List SpelledInstruction) → ends_block i.operation ≡ false → IsEnded rest → IsEnded (i ∷ rest)
cons_ended i [] h g = absurd g
cons_ended i (j ∷ rest) h g = (h, g)

ones_ended : (P : Token → Type 0) (xs : List (Option SpelledInstruction)) (t : SpelledInstruction) → Each (IsPlainPart P) xs → ends_block t.operation ≡ true → IsEnded (kept_ones xs ++ t ∷ [])
ones_ended P [] t h g = g
ones_ended P (None ∷ xs) t h g = ones_ended P xs t h.1 g
ones_ended P (Some i ∷ xs) t h g = cons_ended i (kept_ones xs ++ t ∷ []) (h.0).0 (ones_ended P xs t h.1 g)

no_alignment : (P : Token → Type 0) (o : SpelledOperation) → ends_block o ≡ true → IsStated P (stated_in o)
no_alignment P (operations.Return ty value) h = tt
no_alignment P (operations.Jump to) h = tt
no_alignment P (operations.Branch condition yes_block no_block) h = tt
no_alignment P (operations.Switch value other_block first count) h = tt
no_alignment P operations.Unreachable h = tt
no_alignment P (operations.Binary a b) h = tt
no_alignment P (operations.Icmp p a b) h = tt
no_alignment P (operations.Cast a to) h = tt
no_alignment P (operations.Freeze a) h = tt
no_alignment P (operations.Select c a b) h = tt
no_alignment P (operations.Phi ty first count) h = tt
no_alignment P (operations.Alloca ty count stated) h = tt
no_alignment P (operations.Load ty pointer stated) h = cc
no_alignment P (operations.Store value pointer stated) h = cc
no_alignment P (operations.GetElementPtr of pointer first count) h = tt
no_alignment P operations.Fence h = tt
no_alignment P (operations.AtomicRmw operator pointer value stated) h = cc
no_alignment P (operations.CmpXchg pointer expected new stated) h = cc
no_alignment P (operations.ExtractValue of value part) h = tt
no_alignment P (operations.Call name result first count) h = tt

ones_stated : (P : Token → Type 0) (xs : List (Option SpelledInstruction)) (t : SpelledInstruction) → Each (IsPlainPart P) xs → ends_block t.operation ≡ true → Each (IsStatedIn P) (kept_ones xs ++ t ∷ [])
ones_stated P [] t h g = (no_alignment P t.operation g, tt)
ones_stated P (None ∷ xs) t h g = ones_stated P xs t h.1 g
ones_stated P (Some i ∷ xs) t h g = ((h.0).1, ones_stated P xs t h.1 g)

-- a block was added
record BlockAdded (P : Token → Type 0) (b : SpelledBlock) (st end : Store) : Type 0 where
  own : List SpelledInstruction
  row : IsRow (length st.bodies.instructions) b own
  instructions : end.bodies.instructions ≡ st.bodies.instructions ++ own
  blocks : end.bodies.blocks ≡ st.bodies.blocks
  items : end.items ≡ st.items
  stated : Each (IsStatedIn P) own

block_so : (P : Token → Type 0) (entry : Bool) (b : SpelledBlock) (st end : Store) → Runs (IsFine P) (base block) (block_rule entry) b st end → BlockAdded P b st end
unfolding block_rule block_parts
block_so P entry b st end (y, m, w, e, e') =
    let found : List SpelledInstruction = kept_ones (y.1).0 ++ (y.1).1 ∷ [] in
    let (n, label, (o, parts, last)) = w in
    let stay : Stay st m = calm_run (IsFine P) (pair (option token) (pair (list (option (base instruction))) (base instruction))) (optional (the k.Label) ⨾ (block_parts entry ⨾ terminator)) (block_calm entry) y st m w in
    let plain : Each (IsPlainPart P) (y.1).0 = each_part (IsPlainPart P) (Runs (IsFine P) (option (base instruction)) (block_part entry)) (part_so P entry) (y.1).0 n o parts in
    let ends : ends_block ((y.1).1).operation ≡ true = terminator_so P (y.1).1 o m last in
    record {
      own = found;
      row = record {
        first = ap (λ (v : SpelledBlock). v.first) e ∙ ap length stay.0;
        count = ap (λ (v : SpelledBlock). v.count) e;
        ended = ones_ended P (y.1).0 (y.1).1 plain ends;
      };
      instructions = ap (λ (s : Store). s.bodies.instructions) e' ∙ ap (λ v. v ++ found) stay.0;
      blocks = ap (λ (s : Store). s.bodies.blocks) e' ∙ stay.1;
      items = ap (λ (s : Store). s.items) e' ∙ stay.2;
      stated = ones_stated P (y.1).0 (y.1).1 plain ends;
    }

-- blocks were added
pub record BlocksAdded (P : Token → Type 0) (bs : List SpelledBlock) (st end : Store) : Type 0 where
  pub more : List SpelledInstruction
  pub rows : AreRows (length st.bodies.instructions) more bs
  pub instructions : end.bodies.instructions ≡ st.bodies.instructions ++ more
  pub blocks : end.bodies.blocks ≡ st.bodies.blocks
  pub items : end.items ≡ st.items
  pub stated : Each (IsStatedIn P) more

none_added : (P : Token → Type 0) (st end : Store) → st ≡ end → BlocksAdded P [] st end
none_added P st end e = record {
  more = [];
  rows = refl;
  instructions = ap (λ (s : Store). s.bodies.instructions) (sym e) ∙ sym (append-nil st.bodies.instructions);
  blocks = ap (λ (s : Store). s.bodies.blocks) (sym e);
  items = ap (λ (s : Store). s.items) (sym e);
  stated = tt;
}

one_more : (P : Token → Type 0) (b : SpelledBlock) (bs : List SpelledBlock) (st mid end : Store) → BlockAdded P b st mid → BlocksAdded P bs mid end → BlocksAdded P (b ∷ bs) st end
one_more P b bs st mid end g h =
    let l : length mid.bodies.instructions ≡ length st.bodies.instructions + length g.own = ap length g.instructions ∙ length-append st.bodies.instructions g.own in
    record {
      more = g.own ++ h.more;
      rows = (g.own, h.more, refl, g.row, subst (λ n. AreRows n h.more bs) l h.rows);
      instructions = h.instructions ∙ (ap (λ v. v ++ h.more) g.instructions ∙ append_assoc st.bodies.instructions g.own h.more);
      blocks = h.blocks ∙ g.blocks;
      items = h.items ∙ g.items;
      stated = each_append (IsStatedIn P) g.own h.more g.stated h.stated;
    }

all_added : (P : Token → Type 0) (bs : List SpelledBlock) (st end : Store) → Chain (Runs (IsFine P) (base block) (block_rule false)) bs st end → BlocksAdded P bs st end
all_added P [] st end e = none_added P st end e
all_added P (b ∷ bs) st end r = let (m, p, q) = r in one_more P b bs st m end (block_so P false b st m p) (all_added P bs m end q)

some_block : (x : SpelledBlock × List SpelledBlock) → 1 ≤ length (x.0 ∷ x.1)
some_block x = omega arith

-- the blocks of a body are added, and there is one
pub blocks_so : (P : Token → Type 0) (bs : List SpelledBlock) (st end : Store) → Runs (IsFine P) (list (base block)) blocks_rule bs st end → BlocksAdded P bs st end × (1 ≤ length bs)
unfolding blocks_rule later_blocks
blocks_so P bs st end (y, m, (n, first, rest), e, e') = (
  subst (λ v. BlocksAdded P v st end) (sym e) (subst (λ v. BlocksAdded P (y.0 ∷ y.1) st v) (sym e') (one_more P y.0 y.1 st n m (block_so P true y.0 st n first) (all_added P y.1 n m rest))),
  subst (λ v. 1 ≤ length v) (sym e) (some_block y),
)
