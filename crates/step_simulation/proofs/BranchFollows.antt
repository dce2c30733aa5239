-- The machine follows the steps that go to another block: the phis of an edge are its moves, read before one is set.
use Rattle.std.proofs.Common.{◌≡◌, ◌+◌, ℕ, suc, ◌<◌, ◌==◌, Bool, true, false, if◌then◌else◌, List, [], ◌∷◌, ◌++◌, length, map, drop, slice_get, slice_set, slice_index, Option, Some, None, All, refl, sym, ◌∙◌, subst, arith}
use Rattle.std.specs.Prelude.{option_and_then}
use Rattle.std.proofs.lemmas.List.{length-set}
use Rattle.hw_base.specs.Bits.{is_set}
use Rattle.hw_base.specs.declared.endings.Trap.TheVariants.{Unreachable}
use Rattle.hw_tags.specs.TaskRuns.{Goes}
use Rattle.ir_core.specs.Blocks.{block_holding, phis_of, start_of, entry_from, phi_entry}
use Rattle.ir_core.specs.NumberTypes.{constant_number}
use Rattle.ir_core.specs.declared.ir_module.Block.{Block}
use Rattle.ir_core.specs.declared.ir_module.Function.{Function}
use Rattle.ir_core.specs.declared.ir_module.Inst.{Inst}
use Rattle.ir_core.specs.declared.operands.Case.{Case}
use Rattle.ir_core.specs.declared.operands.PhiEntry.{PhiEntry}
use Rattle.ir_core.specs.declared.operands.Placed.{Placed}
use Rattle.ir_core.specs.declared.operations.Op.{Op}
use Rattle.ir_core.specs.declared.operations.Op.TheVariants as op
use Rattle.ir_core.specs.ResolvedBodies.{IsTarget, IsResolvedEntry, IsResolvedCase, IsResolvedPlaced, IsResolvedOp, IsResolvedFunction}
use Rattle.ir_machine.proofs.BlockPlaces.{all-at, block-from, phis-place, target-start}
use Rattle.ir_machine.proofs.OwnSteps.{registers-func}
use Rattle.ir_machine.specs.BranchSteps as machine
use Rattle.ir_machine.specs.BranchSteps.{with_registers, move_number, along, case_for}
use Rattle.ir_machine.specs.Operands.{number_in}
use Rattle.ir_machine.specs.State.{MachineSetting, MachineSeen}
use Rattle.ir_meaning.specs.BranchSteps as source
use Rattle.ir_meaning.specs.BranchSteps.{phi_value, phi_values, value_before, with_results, goes_to, switch_target}
use Rattle.ir_meaning.specs.Operands.{single, operand_value}
use Rattle.ir_meaning.specs.StepEnds.{with_result}
use Rattle.ir_meaning.specs.Values.{Value, Integer, Address, IntegerAndBit}
use Rattle.ir_tasks.specs.Frames.{Frame, with_register, at_place}
use Rattle.mi_code.specs.EdgeMoves.{phi_move, phi_moves, phis_by, phis_at, edge_to, case_edges}
use Rattle.mi_code.specs.Instrumentation.{starts_of}
use Rattle.mi_code.specs.MachineOperands.{registers_of, operand_of, result_register}
use Rattle.mi_code.specs.declared.edges.Edge.{Edge}
use Rattle.mi_code.specs.declared.operands.MiOperand.{MiOperand}
use Rattle.tag_story.specs.Story.{StoryBirth, value_image}
use Rattle.tag_story.specs.Telling.{all_told}
use Rattle.tag_story.specs.ToldRun.{ToldSeen, source_seen}
use Rattle.step_simulation.proofs.ArithmeticFollows.{IsOperandOf, one-bit}
use Rattle.simulation.proofs.ListParts.{get-take, get-drop}
use Rattle.step_simulation.proofs.OperandsThere.{operand-of}
use Rattle.step_simulation.proofs.PlainSteps.{FollowsIn, own_site, at-related, others-kept, integer-follows, named-follows, traps-follows}
use Rattle.step_simulation.proofs.RegisterImages.{IsSingle, register-set, past-set}
use Rattle.simulation.specs.Parts.{IsKnownValue, HasRegisters}
use Rattle.simulation.specs.Relation.{SeenLike, SeenRelated}

-- ---- registers

-- a result's register is set on both sides
result-set : (births : List StoryBirth) (f : Function) (values : List (Option Value)) (numbers : List ℕ) (result : Option ℕ) (v : Value) (n : ℕ) → length values ≡ length f.regs → HasRegisters births values numbers → IsKnownValue births v → IsSingle v → n ≡ value_image births v → HasRegisters births (with_result values result v) (slice_set numbers (result_register f result) n)
result-set births f values numbers None v n size has known one image = past-set births values numbers (registers_of f) n (omega (arith, size)) has
result-set births f values numbers (Some r) v n size has known one image = register-set births values numbers r v n has known one image

result-length : (values : List (Option Value)) (result : Option ℕ) (v : Value) → length (with_result values result v) ≡ length values
result-length values None v = refl
result-length values (Some r) v = length-set values r (Some v)

results-length : (given : List (Option ℕ × Value)) (values : List (Option Value)) → length (with_results values given) ≡ length values
unfolding with_results
results-length [] values = refl
results-length (one ∷ given) values = results-length given (with_result values one.0 one.1) ∙ result-length values one.0 one.1

registers-chain : (frame : Frame) (moves : List (ℕ × ℕ)) → (with_registers frame moves).chain ≡ frame.chain
unfolding with_registers
registers-chain frame [] = refl
registers-chain frame (move ∷ moves) = registers-chain (with_register frame move.0 move.1) moves

-- ---- phis

-- the operand that a phi takes is resolved
entry-resolved : (setting : MachineSetting) (f : Function) (from : ℕ) (entries : List PhiEntry) (placed : Placed) → All (IsResolvedEntry setting.program f) entries → entry_from from entries ≡ Some placed → IsResolvedPlaced setting.program f placed
unfolding entry_from
entry-resolved setting f from [] placed all h = absurd cc
entry-resolved setting f from (entry ∷ entries) placed all h =
    by_test (entry.block == from) h (all 0 entry (omega arith)).value (entry-resolved setting f from entries placed (λ (k : ℕ) (d : PhiEntry) (q : k < length entries). all (suc k) d (omega arith)))
  where
    by_test : (bit : Bool) → (if bit then Some entry.value else entry_from from entries) ≡ Some placed → IsResolvedPlaced setting.program f entry.value → (entry_from from entries ≡ Some placed → IsResolvedPlaced setting.program f placed) → IsResolvedPlaced setting.program f placed
    by_test true e here later = let same : entry.value ≡ placed = cc in subst (IsResolvedPlaced setting.program f) same here
    by_test false e here later = later e

phi-resolved : (setting : MachineSetting) (f : Function) (from : ℕ) (o : Op) (placed : Placed) → IsResolvedOp setting.program f o → phi_entry from o ≡ Some placed → IsResolvedPlaced setting.program f placed
phi-resolved setting f from (op.Phi ty entries) placed resolved h = entry-resolved setting f from entries placed resolved.1 h
phi-resolved setting f from other placed resolved h = absurd cc

-- a phi's value is a number or a pointer, and the number of its operand is the image
record PhiImage (births : List StoryBirth) (m : MachineSeen) (from : ℕ) (o : Op) (v : Value) : Type 0 where
  placed : Placed
  entry : phi_entry from o ≡ Some placed
  one : IsSingle v
  known : IsKnownValue births v
  image : number_in m (operand_of placed) ≡ value_image births v

single-is : (o : Option Value) (v : Value) → option_and_then single o ≡ Some v → (o ≡ Some v) × IsSingle v
single-is None v h = absurd cc
single-is (Some (Integer n)) v h = let same : Integer n ≡ v = cc in (h, subst IsSingle same tt)
single-is (Some (Address base off)) v h = let same : Address base off ≡ v = cc in (h, subst IsSingle same tt)
single-is (Some (IntegerAndBit n bit)) v h = absurd cc

module _ (setting : MachineSetting) (t : ToldSeen) (m : MachineSeen) (f : Function) (like : SeenLike setting t m) where
  phi-image : (from : ℕ) (o : Op) (v : Value) → IsResolvedOp setting.program f o → phi_value setting.program t.frame.registers from o ≡ Some v → PhiImage t.shared.story.births m from o v
  phi-image from o v resolved h = by_entry (phi_entry from o) refl h
    where
      by_entry : (entry : Option Placed) → phi_entry from o ≡ entry → option_and_then single (option_and_then (operand_value setting.program t.frame.registers) entry) ≡ Some v → PhiImage t.shared.story.births m from o v
      by_entry None here e = absurd cc
      by_entry (Some placed) here e =
          let is = single-is (operand_value setting.program t.frame.registers placed) v e in
          let image = operand-of setting t m f placed like (phi-resolved setting f from o placed resolved here) v is.0 in
          record { placed = placed; entry = here; one = is.1; known = image.1; image = image.0 }

  abbrev AreResolved : List Inst → Type 0
  AreResolved phis = (k : ℕ) (phi : Inst) → slice_get phis k ≡ Some phi → IsResolvedOp setting.program f phi.op

  -- the moves of phis set the images of their values
  abbrev Moved : (from : ℕ) → List Inst → Type 0
  Moved from phis =
      (given : List (Option ℕ × Value)) (values : List (Option Value)) (frame : Frame) → phi_values setting.program t.frame.registers from phis ≡ Some given
      → length values ≡ length f.regs → HasRegisters t.shared.story.births values frame.registers
      → HasRegisters t.shared.story.births (with_results values given) (with_registers frame (map (move_number m) (phi_moves f from phis))).registers

  one-moved : (from : ℕ) (phi : Inst) (phis : List Inst) (v : Value) (rest given : List (Option ℕ × Value)) (values : List (Option Value)) (frame : Frame) → PhiImage t.shared.story.births m from phi.op v → phi_values setting.program t.frame.registers from phis ≡ Some rest → (phi.result, v) ∷ rest ≡ given → length values ≡ length f.regs → HasRegisters t.shared.story.births values frame.registers → Moved from phis
      → HasRegisters t.shared.story.births (with_results values given) (with_registers frame (map (move_number m) (phi_moves f from (phi ∷ phis)))).registers
  unfolding with_results with_registers phi_moves
  one-moved from phi phis v rest given values frame is later same size has go =
      subst (λ g. HasRegisters t.shared.story.births (with_results values g) (with_registers frame (map (move_number m) (phi_moves f from (phi ∷ phis)))).registers) same
      (subst (λ entry. HasRegisters t.shared.story.births (with_results values ((phi.result, v) ∷ rest)) (with_registers frame (map (move_number m) (phi_move (result_register f phi.result) entry ++ phi_moves f from phis))).registers) (sym is.entry)
      (go rest (with_result values phi.result v) (with_register frame (result_register f phi.result) (number_in m (operand_of is.placed))) later (result-length values phi.result v ∙ size)
      (result-set t.shared.story.births f values frame.registers phi.result v (number_in m (operand_of is.placed)) size has is.known is.one is.image)))

  by-value : (from : ℕ) (phi : Inst) (phis : List Inst) (given : List (Option ℕ × Value)) (values : List (Option Value)) (frame : Frame) → IsResolvedOp setting.program f phi.op → length values ≡ length f.regs → HasRegisters t.shared.story.births values frame.registers → Moved from phis
      → (v : Option Value) → phi_value setting.program t.frame.registers from phi.op ≡ v → (rest : Option (List (Option ℕ × Value))) → phi_values setting.program t.frame.registers from phis ≡ rest → value_before phi.result v rest ≡ Some given
      → HasRegisters t.shared.story.births (with_results values given) (with_registers frame (map (move_number m) (phi_moves f from (phi ∷ phis)))).registers
  by-value from phi phis given values frame resolved size has go None here rest later h = absurd cc
  by-value from phi phis given values frame resolved size has go (Some v) here None later h = absurd cc
  by-value from phi phis given values frame resolved size has go (Some v) here (Some rest) later h =
      one-moved from phi phis v rest given values frame (phi-image from phi.op v resolved here) later (cc) size has go

  phis-moved : (from : ℕ) (phis : List Inst) → AreResolved phis → Moved from phis
  unfolding phi_values with_results with_registers phi_moves
  phis-moved from [] resolved given values frame h size has =
      let none : [] ≡ given = cc in
      subst (λ g. HasRegisters t.shared.story.births (with_results values g) frame.registers) none has
  phis-moved from (phi ∷ phis) resolved given values frame h size has =
      by-value from phi phis given values frame (resolved 0 phi refl) size has (phis-moved from phis (λ k x e. resolved (suc k) x e))
      (phi_value setting.program t.frame.registers from phi.op) refl (phi_values setting.program t.frame.registers from phis) refl h

  -- ---- edges

  -- the edge to a block, whose frame is at the block's first instruction after its phis
  edge-related : IsResolvedFunction setting.program f → slice_get setting.program.functions t.frame.func ≡ Some f → (from target : ℕ) (block : Block) (given : List (Option ℕ × Value)) → 0 < target → slice_get f.blocks target ≡ Some block → phi_values setting.program t.frame.registers from (phis_of f.insts block) ≡ Some given
      → SeenRelated setting (record t { frame = source.moved_to t.frame (with_results t.frame.registers given) (start_of block) }) (along m (edge_to f (starts_of setting.program f) from target))
  edge-related resolved there from target block given later at values =
      let moves = map (move_number m) (phi_moves f from (phis_at f target)) in
      let size = like.frame.sized f there in
      let place = block-from f.insts 0 f.blocks resolved.blocks target block at in
      at-related setting t m f (with_results t.frame.registers given) (start_of block) (at_place (with_registers m.frame moves) (slice_index (starts_of setting.program f) target)) like there
      (results-length given t.frame.registers)
      (subst (λ b. HasRegisters t.shared.story.births (with_results t.frame.registers given) (with_registers m.frame (map (move_number m) (phi_moves f from (phis_by f.insts b)))).registers) (sym at)
      (phis-moved from (phis_of f.insts block) phis-resolved given t.frame.registers m.frame values size like.frame.registers))
      (registers-func m.frame moves)
      (registers-chain m.frame moves)
      (target-start setting.program f f.blocks refl target block later at ∙ sym (phis-place setting.program f place.0 block place.1 block.phis (omega arith)))
    where
      phis-resolved : AreResolved (phis_of f.insts block)
      phis-resolved k phi found =
          all-at (λ (x : Inst). IsResolvedOp setting.program f x.op) f.insts (block.first + k) phi resolved.instructions
          (get-drop block.first f.insts k phi (get-take block.phis (drop block.first f.insts) k phi found))

  -- the machine goes along the edge
  goes_to-follows : IsResolvedFunction setting.program f → slice_get setting.program.functions t.frame.func ≡ Some f → (target : ℕ) → IsTarget f target → FollowsIn setting t m (goes_to setting.program f (source_seen t) target) (Goes (along m (edge_to f (starts_of setting.program f) (block_holding f.blocks t.frame.inst) target)) [])
  unfolding all_told
  goes_to-follows resolved there target is =
      named-follows setting t m (slice_get f.blocks target) _ _ (λ block at.
      named-follows setting t m (phi_values setting.program t.frame.registers (block_holding f.blocks t.frame.inst) (phis_of f.insts block)) _ _ (λ given values. (
        along m (edge_to f (starts_of setting.program f) (block_holding f.blocks t.frame.inst) target),
        refl,
        edge-related resolved there (block_holding f.blocks t.frame.inst) target block given is.later at values,
        others-kept t m.shared,
      )))

  -- ---- branches

  abbrev own_edge : ℕ → Edge
  own_edge target = edge_to f (starts_of setting.program f) (block_holding f.blocks t.frame.inst) target

  abbrev FollowsTo : ℕ → Edge → Type 0
  FollowsTo target edge = FollowsIn setting t m (goes_to setting.program f (source_seen t) target) (Goes (along m edge) [])

  pub br-follows : IsResolvedFunction setting.program f → slice_get setting.program.functions t.frame.func ≡ Some f → (target : ℕ) → IsTarget f target → FollowsIn setting t m (source.br_step setting.program f (source_seen t) target) (machine.br_step m (own_edge target))
  unfolding source.br_step machine.br_step
  br-follows resolved there target is = goes_to-follows resolved there target is

  pub br_if-follows : IsResolvedFunction setting.program f → slice_get setting.program.functions t.frame.func ≡ Some f → (cond : Option Value) (x : MiOperand) (first second : ℕ) → IsOperandOf t m x cond → IsTarget f first → IsTarget f second → FollowsIn setting t m (source.br_if_step setting.program f (source_seen t) cond first second) (machine.br_if_step m x (own_edge first) (own_edge second))
  unfolding source.br_if_step machine.br_if_step
  br_if-follows resolved there cond x first second test at_first at_second =
      subst (λ bit. FollowsIn setting t m (source.br_if_step setting.program f (source_seen t) cond first second) (Goes (along m (if bit then own_edge first else own_edge second)) [])) (one-bit (number_in m x))
      (integer-follows setting t m 1 cond (number_in m x) _ (λ k. Goes (along m (if is_set k then own_edge first else own_edge second)) []) test (λ k. by_bit (is_set k) (goes_to-follows resolved there first at_first) (goes_to-follows resolved there second at_second)))
    where
      by_bit : (bit : Bool) → FollowsTo first (own_edge first) → FollowsTo second (own_edge second) → FollowsTo (if bit then first else second) (if bit then own_edge first else own_edge second)
      by_bit true h k = h
      by_bit false h k = k

  cases-follow : IsResolvedFunction setting.program f → slice_get setting.program.functions t.frame.func ≡ Some f → (n other : ℕ) (cases : List Case) → All (IsResolvedCase setting.program f) cases → FollowsTo other (own_edge other) → FollowsTo (switch_target n other cases) (case_for n (own_edge other) (case_edges f (starts_of setting.program f) (block_holding f.blocks t.frame.inst) cases))
  unfolding switch_target case_for case_edges
  cases-follow resolved there n other [] all h = h
  cases-follow resolved there n other (case ∷ cases) all h =
      by_bit (constant_number case.value.operand == n) (goes_to-follows resolved there case.block (all 0 case (omega arith)).block) (cases-follow resolved there n other cases (λ (k : ℕ) (d : Case) (q : k < length cases). all (suc k) d (omega arith)) h)
    where
      by_bit : (bit : Bool) → FollowsTo case.block (own_edge case.block) → FollowsTo (switch_target n other cases) (case_for n (own_edge other) (case_edges f (starts_of setting.program f) (block_holding f.blocks t.frame.inst) cases)) → FollowsTo (if bit then case.block else switch_target n other cases) (if bit then own_edge case.block else case_for n (own_edge other) (case_edges f (starts_of setting.program f) (block_holding f.blocks t.frame.inst) cases))
      by_bit true h k = h
      by_bit false h k = k

  pub switch-follows : IsResolvedFunction setting.program f → slice_get setting.program.functions t.frame.func ≡ Some f → (width : ℕ) (on : Option Value) (x : MiOperand) (other : ℕ) (cases : List Case) → IsOperandOf t m x on → IsTarget f other → All (IsResolvedCase setting.program f) cases → FollowsIn setting t m (source.switch_step setting.program f (source_seen t) width on other cases) (machine.switch_step m width x (own_edge other) (case_edges f (starts_of setting.program f) (block_holding f.blocks t.frame.inst) cases))
  unfolding source.switch_step machine.switch_step
  switch-follows resolved there width on x other cases is at_other all =
      integer-follows setting t m width on (number_in m x) _ (λ k. Goes (along m (case_for k (own_edge other) (case_edges f (starts_of setting.program f) (block_holding f.blocks t.frame.inst) cases))) []) is (λ k.
      cases-follow resolved there k other cases all (goes_to-follows resolved there other at_other))

  pub unreachable-follows : FollowsIn setting t m (source.unreachable_step (source_seen t)) (machine.unreachable_step m (own_site t))
  unfolding source.unreachable_step machine.unreachable_step
  unreachable-follows = traps-follows setting t m Unreachable like
