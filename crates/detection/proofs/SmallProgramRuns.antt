-- The small modules can be run: each condition is seen at each of its parts.
use Rattle.std.proofs.Common.{◌≡◌, ℕ, zero, suc, ◌+◌, ◌^◌, ◌<◌, ◌≤◌, List, [], ◌∷◌, slice_get, Some, None, inl, refl, sym, ◌∙◌, ap, subst, arith}
use Rattle.std.specs.Prelude.{false, nat_eq, All, IsTrue, IsSome, slice_index}
use Rattle.std.proofs.lemmas.List.Elements.{All-nil, All-cons}
use Rattle.hw_base.specs.declared.numbers.TheConstants.{MOST_SIZE}
use Rattle.ir_core.specs.Examples.{example_types, ptr_type, i8_literal, i32_literal, i64_literal, ptr_register, call_malloc, bytes_behind, store_byte, return_zero, declared_function}
use Rattle.ir_core.specs.Layout.{has_size_of, alloc_size_of}
use Rattle.ir_core.specs.NumberTypes.{type_of}
use Rattle.ir_core.specs.Operations.{is_phi, is_terminator, is_value_type, given_type}
use Rattle.ir_core.specs.Resolved.{IsResolvedType, IsPartWithin, IsResolvedGlobal, IsResolvedDeclare, IsResolvedNode, IsResolvedOutside}
use Rattle.ir_core.specs.ResolvedBodies.{IsResolvedOperand, IsResolvedPlaced, IsResolvedOp, IsBlockAt, HasRegisters, IsResolvedFunction, IsMain, IsResolved}
use Rattle.ir_core.specs.Runnable.{StartsAsItIs, IsRunnableOp, HasPhisFirst, IsRunnableFunction, IsRunnableGlobal, IsRunnable}
use Rattle.ir_core.specs.declared.ir_module.Declare.{Declare}
use Rattle.ir_core.specs.declared.ir_module.Inst.{Inst}
use Rattle.ir_core.specs.declared.lib_functions.Lib.TheVariants.{Malloc}
use Rattle.ir_core.specs.declared.operands.Placed.{Placed}
use Rattle.ir_core.specs.Externals.{IsWidth}
use Rattle.detection.specs.SmallProgram.{small_global, small_insts, small_main, small_program}

-- lists of one item
one-item : {X : Type 0} (P : X → Type 0) (x : X) → P x → All P (x ∷ [])
one-item P x h = All-cons P x [] h (All-nil P)

-- ---- types, globals and declared functions

wide : (width : ℕ) → 1 ≤ width → width ≤ 128 → IsWidth width
wide width some most = record { some = some; most = most }

-- a fact of each item, one after the other
abbrev Each : {X : Type 0} → (X → Type 0) → List X → Type 0
Each P [] = Unit {0}
Each P (x ∷ xs) = P x × Each P xs

each-all : {X : Type 0} (P : X → Type 0) (xs : List X) → Each P xs → All P xs
each-all P [] h = All-nil P
each-all P (x ∷ xs) h = All-cons P x xs h.0 (each-all P xs h.1)

module _ (off : ℕ) where
  types-resolved : All (IsResolvedType (small_program off)) example_types
  types-resolved =
      each-all (IsResolvedType (small_program off)) example_types
      (tt, (wide 1 (omega arith) (omega arith), (wide 8 (omega arith) (omega arith), (wide 32 (omega arith) (omega arith), (wide 64 (omega arith) (omega arith), (tt, (omega arith, tt)))))))

  global-resolved : IsResolvedGlobal (small_program off) small_global
  global-resolved =
      record {
        type = let there : 3 < 7 = omega arith in there;
        init = λ fits fitting. one-item (IsPartWithin 1 4) _ (record { inside = let all : 0 + 4 ≤ 4 = omega arith in all; piece = (omega arith, omega arith, omega arith) });
      }

  -- types by their numbers
  types-there : (xs : List ℕ) → Each (λ n. n < 7) xs → All (λ n. n < 7) xs
  types-there xs h = each-all (λ n. n < 7) xs h

  declares-resolved : All (IsResolvedDeclare (small_program off)) (small_program off).declares
  declares-resolved =
      each-all (IsResolvedDeclare (small_program off)) (small_program off).declares (
        record { result_type = omega arith; params = types-there (4 ∷ []) (omega arith, tt) },
        (
          record { result_type = omega arith; params = types-there (5 ∷ []) (omega arith, tt) },
          (
            record { result_type = omega arith; params = types-there (3 ∷ []) (omega arith, tt) },
            (record { result_type = omega arith; params = types-there (5 ∷ 5 ∷ 5 ∷ 5 ∷ []) (omega arith, (omega arith, (omega arith, (omega arith, tt)))) }, tt),
          ),
        ),
      )

  outside-resolved : IsResolvedOutside (small_program off)
  outside-resolved =
      record {
        types = types-resolved;
        fields = All-nil (λ n. n < 7);
        layouts = refl;
        globals = one-item (IsResolvedGlobal (small_program off)) small_global global-resolved;
        declares = declares-resolved;
        meta = All-nil (IsResolvedNode (small_program off));
      }

  -- ---- instructions

  -- what holds of each instruction
  each-inst : (P : ℕ → Inst → Type 0) → P 0 (call_malloc 0 10) → P 1 (bytes_behind 1 0 off) → P 2 (store_byte 1 1) → P 3 return_zero → (i : ℕ) (inst : Inst) → slice_get (small_insts off) i ≡ Some inst → P i inst
  each-inst P a b c d zero inst h = let same : call_malloc 0 10 ≡ inst = cc in subst (P 0) same a
  each-inst P a b c d (suc zero) inst h = let same : bytes_behind 1 0 off ≡ inst = cc in subst (P 1) same b
  each-inst P a b c d (suc (suc zero)) inst h = let same : store_byte 1 1 ≡ inst = cc in subst (P 2) same c
  each-inst P a b c d (suc (suc (suc zero))) inst h = let same : return_zero ≡ inst = cc in subst (P 3) same d
  each-inst P a b c d (suc (suc (suc (suc i)))) inst h = absurd cc

  operand : (p : Placed) → IsResolvedOperand (small_program off) (small_main off) p.operand → p.ty < 7 → IsResolvedPlaced (small_program off) (small_main off) p
  operand p h there = record { operand = h; type = there }

  one-operand : (p : Placed) → IsResolvedOperand (small_program off) (small_main off) p.operand → p.ty < 7 → All (IsResolvedPlaced (small_program off) (small_main off)) (p ∷ [])
  one-operand p h there = each-all (IsResolvedPlaced (small_program off) (small_main off)) (p ∷ []) (operand p h there, tt)

  insts-resolved : All (λ (inst : Inst). IsResolvedOp (small_program off) (small_main off) inst.op) (small_insts off)
  insts-resolved =
      each-all (λ (inst : Inst). IsResolvedOp (small_program off) (small_main off) inst.op) (small_insts off) (
        (omega arith, omega arith, one-operand (i64_literal 10) tt (omega arith), tt),
        (
          (omega arith, operand (ptr_register 0) (omega arith) (omega arith), one-operand (i64_literal off) tt (omega arith)),
          (
            (operand (i8_literal 1) tt (omega arith), operand (ptr_register 1) (omega arith) (omega arith), λ number. refl),
            (operand (i32_literal 0) tt (omega arith), tt),
          ),
        ),
      )

  -- the register that an instruction defines has its number
  own-result : (i : ℕ) (inst : Inst) → slice_get (small_insts off) i ≡ Some inst → (r : ℕ) → inst.result ≡ Some r → (r ≡ i) × (r < 2)
  own-result =
      each-inst (λ i inst. (r : ℕ) → inst.result ≡ Some r → (r ≡ i) × (r < 2))
      (λ r h. let same : 0 ≡ r = cc in (omega (arith, same), omega (arith, same)))
      (λ r h. let same : 1 ≡ r = cc in (omega (arith, same), omega (arith, same)))
      (λ r h. absurd cc)
      (λ r h. absurd cc)

  registers : HasRegisters (small_program off) (small_main off)
  registers =
      record {
        few = let few : 2 < 2 ^ 30 = omega arith in few;
        parameters = let none : 0 ≤ 2 = omega arith in none;
        result = λ i r inst h e. let own = own-result i inst h r e in (omega arith, own.1);
        each = each-register;
        once = λ i j r inst other h k e f. let first = own-result i inst h r e in let second = own-result j other k r f in sym first.0 ∙ second.0;
        given = λ i inst h. each-inst (λ i inst. IsTrue (is_value_type (given_type (small_program off) inst.op)) → IsSome inst.result) (λ v. refl) (λ v. refl) (λ v. absurd cc) (λ v. absurd cc) i inst h;
        types = λ i r inst h e. each-inst (λ i inst. inst.result ≡ Some r → IsTrue (is_value_type (given_type (small_program off) inst.op)) → type_of (small_program off) (slice_index (small_main off).regs r) ≡ given_type (small_program off) inst.op)
            (λ e v. let same : 0 ≡ r = cc in ap (λ n. type_of (small_program off) (slice_index (small_main off).regs n)) (sym same))
            (λ e v. let same : 1 ≡ r = cc in ap (λ n. type_of (small_program off) (slice_index (small_main off).regs n)) (sym same))
            (λ e v. absurd cc) (λ e v. absurd cc) i inst h e;
      }
    where
      each-register : (r : ℕ) → 0 ≤ r → r < 2 → (i : ℕ) × (inst : Inst) × (slice_get (small_insts off) i ≡ Some inst) × (inst.result ≡ Some r)
      each-register zero low high = (0, call_malloc 0 10, refl, refl)
      each-register (suc zero) low high = (1, bytes_behind 1 0 off, refl, refl)
      each-register (suc (suc r)) low high = absurd (omega (arith, high))

  block-at : IsBlockAt (small_insts off) 0 (record { first = 0; phis = 0; count = 4 })
  block-at =
      record {
        first = refl;
        phis = omega arith;
        inside = let all : 0 + 4 ≤ 4 = omega arith in all;
        leading = λ i inst low high h. absurd (omega (arith, high));
        ends = λ i inst low high h. each-inst (λ i inst. is_terminator inst.op ≡ (nat_eq (i + 1) 4)) refl refl refl refl i inst h;
      }

  main-resolved : IsResolvedFunction (small_program off) (small_main off)
  main-resolved =
      record {
        result = omega arith;
        register_types = types-there (5 ∷ 5 ∷ []) (omega arith, (omega arith, tt));
        registers = registers;
        variables = record { sizes = refl; numbers = λ k index h. let none : slice_get {X = ℕ} [] k ≡ Some index = h in absurd cc };
        some_block = omega arith;
        blocks = (block-at, refl);
        instructions = insts-resolved;
      }

  program-resolved : IsResolved (small_program off)
  program-resolved =
      record {
        outside = outside-resolved;
        functions = one-item (IsResolvedFunction (small_program off)) (small_main off) main-resolved;
        main_there = omega arith;
        main = λ f h. let same : (small_main off) ≡ f = cc in subst (IsMain (small_program off)) same (record { result = refl; parameters = inl refl });
      }

  -- ---- what a run needs

  sizes-small : (n : ℕ) → n < 7 → IsTrue (has_size_of example_types [] n) → alloc_size_of example_types [] n ≤ MOST_SIZE
  sizes-small zero below sized = omega arith
  sizes-small (suc zero) below sized = omega arith
  sizes-small (suc (suc zero)) below sized = omega arith
  sizes-small (suc (suc (suc zero))) below sized = omega arith
  sizes-small (suc (suc (suc (suc zero)))) below sized = omega arith
  sizes-small (suc (suc (suc (suc (suc zero))))) below sized = omega arith
  sizes-small (suc (suc (suc (suc (suc (suc zero)))))) below sized = omega arith
  sizes-small (suc (suc (suc (suc (suc (suc (suc n))))))) below sized = absurd (omega (arith, below))

  main-runnable : IsRunnableFunction (small_program off) (small_main off)
  main-runnable =
      record {
        variables = All-nil (λ size. size ≤ MOST_SIZE);
        phis_first = one-item (HasPhisFirst (small_insts off)) (record { first = 0; phis = 0; count = 4 }) (λ i inst low high h. each-inst (λ i inst. is_phi inst.op ≡ false) refl refl refl refl i inst h);
        instructions =
            each-all (λ (inst : Inst). IsRunnableOp (small_program off) inst.op) (small_insts off) (
              λ d h. malloc-starts d (ap (λ (x : Declare). x.lib) (sym (first-declare d h))),
              (
                tt,
                (
                  record { number = refl; alignment = refl },
                  (tt, tt),
                ),
              ),
            );
      }
    where
      first-declare : (d : Declare) → slice_get (small_program off).declares 0 ≡ Some d → declared_function Malloc ptr_type (4 ∷ []) ≡ d
      first-declare d h = cc

      malloc-starts : (d : Declare) → d.lib ≡ Malloc → StartsAsItIs (small_program off) d.lib None
      malloc-starts d same = subst (λ lib. StartsAsItIs (small_program off) lib None) (sym same) tt

  pub small_program-runnable : IsRunnable (small_program off)
  small_program-runnable =
      record {
        resolved = program-resolved;
        sizes = sizes-small;
        globals = one-item (IsRunnableGlobal (small_program off)) small_global (record { fits = refl; size = record { sized = refl; small = let few : 4 ≤ 2 ^ 40 = omega arith in few } });
        room = omega arith;
        functions = one-item (IsRunnableFunction (small_program off)) (small_main off) main-runnable;
      }
