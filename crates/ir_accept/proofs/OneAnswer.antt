-- A text has one answer: it is accepted as one module, or refused for one fault.
use Rattle.std.proofs.Common.{◌≡◌, inl, inr, ℕ, ◌==◌, if◌then◌else◌, false, List, Some, None, Err, refl, sym, ◌∙◌, ap, subst, arith}
use Rattle.std.proofs.lemmas.Bool.Decides.{nat_tests}
use Rattle.ir_core.specs.declared.faults.Limit.TheVariants.{Text, Nesting, Functions, Blocks, Instructions, MetaNodes, Globals, TypeSize}
use Rattle.ir_core.specs.declared.faults.Fault.{Fault}
use Rattle.ir_core.specs.declared.faults.Fault.TheVariants.{BadToken, BadSyntax, Unsupported, BadType, Unknown, Twice, NotOnEveryPath, BadPhi, NoMain, TooLarge, MetaCycle}
use Rattle.ir_core.specs.declared.refusals.ReadError.TheVariants.{Refused}
use Rattle.ir_core.specs.declared.refusals.Refusal.{Refusal}
use Rattle.ir_core.specs.declared.ir_module.Module.{Module}
use Rattle.ir_check_types.specs.Order.{fault_rank, is_before}
use Rattle.ir_check_types.specs.Rules.{type_fault}
use Rattle.ir_check_types.proofs.FirstOfSeveral.{precedes}
use Rattle.ir_check_flow.specs.First.{IsFirst, IsFirstOf}
use Rattle.ir_check_flow.specs.Check.{IsFlowFault}
use Rattle.ir_check_flow.specs.Checked.{IsCheck}
use Rattle.ir_check_flow.specs.Limits.{limit_fault}
use Rattle.ir_read_top.specs.Texts.{IsAccepted}
use Rattle.ir_read_top.proofs.OneAnswer as reading
use Rattle.one_module.proofs.OneModule as modules
use Rattle.ir_accept.specs.Typed.{IsMistyped}
use Rattle.ir_accept.specs.Accepted.{IsAcceptedAs, IsFaulty}

-- ---- the first of some refusals is one

-- the fault with this rank among those at one place
abbrev fault_with : (rank : ℕ) → Fault
fault_with rank =
    if rank == 8 then BadToken else (
    if rank == 16 then BadSyntax else (
    if rank == 24 then Unsupported else (
    if rank == 32 then BadType else (
    if rank == 40 then Unknown else (
    if rank == 48 then Twice else (
    if rank == 56 then NotOnEveryPath else (
    if rank == 64 then BadPhi else (
    if rank == 72 then NoMain else (
    if rank == 80 then TooLarge Text else (
    if rank == 81 then TooLarge Nesting else (
    if rank == 82 then TooLarge Functions else (
    if rank == 83 then TooLarge Blocks else (
    if rank == 84 then TooLarge Instructions else (
    if rank == 85 then TooLarge MetaNodes else (
    if rank == 86 then TooLarge Globals else (
    if rank == 87 then TooLarge TypeSize else MetaCycle))))))))))))))))

rank_told : (fault : Fault) → fault_with (fault_rank fault) ≡ fault
rank_told BadToken = refl
rank_told BadSyntax = refl
rank_told Unsupported = refl
rank_told BadType = refl
rank_told Unknown = refl
rank_told Twice = refl
rank_told NotOnEveryPath = refl
rank_told BadPhi = refl
rank_told NoMain = refl
rank_told (TooLarge Text) = refl
rank_told (TooLarge Nesting) = refl
rank_told (TooLarge Functions) = refl
rank_told (TooLarge Blocks) = refl
rank_told (TooLarge Instructions) = refl
rank_told (TooLarge MetaNodes) = refl
rank_told (TooLarge Globals) = refl
rank_told (TooLarge TypeSize) = refl
rank_told MetaCycle = refl

one_line : (x i r y j s : ℕ) → precedes x i r y j s ≡ false → precedes y j s x i r ≡ false → x ≡ y
one_line x i r y j s first second = grind (arith, nat_tests)

one_column : (x i r y j s : ℕ) → precedes x i r y j s ≡ false → precedes y j s x i r ≡ false → i ≡ j
one_column x i r y j s first second = grind (arith, nat_tests)

one_rank : (x i r y j s : ℕ) → precedes x i r y j s ≡ false → precedes y j s x i r ≡ false → r ≡ s
one_rank x i r y j s first second = grind (arith, nat_tests)

-- two refusals of which neither is before the other are one
one_refusal : (a b : Refusal) → is_before a b ≡ false → is_before b a ≡ false → a ≡ b
one_refusal a b h g =
    let line : a.line ≡ b.line = one_line a.line a.column (fault_rank a.fault) b.line b.column (fault_rank b.fault) h g in
    let column : a.column ≡ b.column = one_column a.line a.column (fault_rank a.fault) b.line b.column (fault_rank b.fault) h g in
    let rank : fault_rank a.fault ≡ fault_rank b.fault = one_rank a.line a.column (fault_rank a.fault) b.line b.column (fault_rank b.fault) h g in
    let fault : a.fault ≡ b.fault = sym (rank_told a.fault) ∙ (ap fault_with rank ∙ rank_told b.fault) in
    λ i. record { fault = fault i; line = line i; column = column i }

one_first : (refusals : Refusal → Type 0) (a b : Refusal) → IsFirst refusals a → IsFirst refusals b → a ≡ b
one_first refusals a b h g = one_refusal a b (g.before_all a h.one) (h.before_all b g.one)

-- ---- the checks of one module

none_or_some : (r : Refusal) → None ≡ Some r → ⊥
none_or_some r h = cc

one_some : (a b : Refusal) → Some a ≡ Some b → a ≡ b
one_some a b h = cc

-- a module whose flow and limits pass isn't refused for them
not_passed : (m : Module) (r : Refusal) → IsFirstOf (IsFlowFault m) None → limit_fault m ≡ None → IsCheck m (Err (Refused r)) → ⊥
not_passed m r flow limits (inl first) = flow r first.one
not_passed m r flow limits (inr limit) = none_or_some r (sym limits ∙ limit.1)

-- the flow and the limits of a module have one first refusal
one_check : (m : Module) (a b : Refusal) → IsCheck m (Err (Refused a)) → IsCheck m (Err (Refused b)) → a ≡ b
one_check m a b (inl h) (inl g) = one_first (IsFlowFault m) a b h g
one_check m a b (inl h) (inr g) = absurd (g.0 a h.one)
one_check m a b (inr h) (inl g) = absurd (h.0 b g.one)
one_check m a b (inr h) (inr g) = one_some a b (sym h.1 ∙ g.1)

-- ---- texts

-- a text that is accepted has one module
pub one_module : (text : List ℕ) (m n : Module) → IsAcceptedAs text m → IsAcceptedAs text n → m ≡ n
one_module text m n a b = modules.one_module text m n a.read b.read

-- a text that breaks a rule of types has no module in which none is broken
mistyped : (text : List ℕ) (m : Module) (r : Refusal) → IsAccepted text m → type_fault m ≡ None → IsMistyped text r → ⊥
mistyped text m r read types w = none_or_some r (sym types ∙ (ap type_fault (modules.one_module text m w.m read w.read) ∙ w.fault))

-- a text that is accepted has no fault
pub never_both : (text : List ℕ) (m : Module) (r : Refusal) → IsAcceptedAs text m → IsFaulty text r → ⊥
never_both text m r a (inl (inl fault)) = reading.never_both text m r a.read fault
never_both text m r a (inl (inr w)) = mistyped text m r a.read a.checked.types w
never_both text m r a (inr u) =
    not_passed m r a.checked.flow a.checked.limits (subst (λ x. IsCheck x (Err (Refused r))) (modules.one_module text u.m m u.read a.read) u.fault)

-- a text has one fault
pub one_fault : (text : List ℕ) (a b : Refusal) → IsFaulty text a → IsFaulty text b → a ≡ b
one_fault text a b (inl (inl h)) (inl (inl g)) = reading.one_fault text a b h g
one_fault text a b (inl (inl h)) (inl (inr g)) = absurd (reading.never_both text g.m a g.read h)
one_fault text a b (inl (inl h)) (inr g) = absurd (reading.never_both text g.m a g.read h)
one_fault text a b (inl (inr h)) (inl (inl g)) = absurd (reading.never_both text h.m b h.read g)
one_fault text a b (inl (inr h)) (inl (inr g)) = one_some a b (sym h.fault ∙ (ap type_fault (modules.one_module text h.m g.m h.read g.read) ∙ g.fault))
one_fault text a b (inl (inr h)) (inr g) = absurd (mistyped text g.m a g.read g.types h)
one_fault text a b (inr h) (inl (inl g)) = absurd (reading.never_both text h.m b h.read g)
one_fault text a b (inr h) (inl (inr g)) = absurd (mistyped text h.m b h.read h.types g)
one_fault text a b (inr h) (inr g) = one_check g.m a b (subst (λ x. IsCheck x (Err (Refused a))) (modules.one_module text h.m g.m h.read g.read) h.fault) g.fault
