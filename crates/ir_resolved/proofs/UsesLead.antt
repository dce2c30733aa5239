-- The names that an instruction uses lead to what is there, since they have no fault.
use Rattle.std.proofs.Common.{◌≤◌, List, ◌++◌, take, drop, length, Option, Some, None}
use Rattle.std.specs.List.{flat_map}
use Rattle.ir_core.specs.declared.ir_module.Function.{Function}
use Rattle.ir_core.specs.declared.ir_module.Module.{Module}
use Rattle.ir_grammar.specs.declared.spelled_bodies.SpelledOperand.{SpelledOperand}
use Rattle.ir_grammar.specs.declared.spelled_bodies.SpelledOperand.TheVariants as operands
use Rattle.ir_grammar.specs.declared.spelled_bodies.TypedOperand.{TypedOperand}
use Rattle.ir_grammar.specs.declared.spelled_bodies.SpelledIncoming.{SpelledIncoming}
use Rattle.ir_grammar.specs.declared.spelled_bodies.SpelledCase.{SpelledCase}
use Rattle.ir_grammar.specs.declared.spelled_bodies.SpelledOperation.{SpelledOperation}
use Rattle.ir_grammar.specs.declared.spelled_bodies.SpelledOperation.TheVariants as operations
use Rattle.ir_read_items.specs.Rows.{Each}
use Rattle.ir_first_values.specs.Tables.{Tables}
use Rattle.ir_body_names.specs.Uses.{operand_uses, typed_uses, count_uses, returned_uses, incoming_uses, case_uses, operation_uses}
use Rattle.ir_body_names.specs.BodyFaults.{Surroundings, is_there}
use Rattle.ir_functions.specs.Scope.{Scope}
use Rattle.ir_functions.specs.Functions.{Spelled, scope_of, function_of}
use Rattle.ir_resolved.proofs.Lists.{AllPass, pass_split, pass_parts, each_weaker}
use Rattle.ir_resolved.proofs.Uses.{defined_in, keys_in}
use Rattle.ir_resolved.proofs.Leads.{OperandLeads, TypedLeads, CountLeads, ReturnedLeads, IncomingLeads, CaseLeads, OperationLeads, register_leads, origin_leads, target_leads}

-- what the names in a part of an instruction are used for is there
abbrev OperandUsed : Surroundings → Spelled → SpelledOperand → Type 0
OperandUsed names f x = AllPass (is_there names (keys_in names f) (defined_in names f) (length f.parameters)) (operand_uses x)

abbrev TypedUsed : Surroundings → Spelled → TypedOperand → Type 0
TypedUsed names f x = AllPass (is_there names (keys_in names f) (defined_in names f) (length f.parameters)) (typed_uses x)

abbrev IncomingUsed : Surroundings → Spelled → SpelledIncoming → Type 0
IncomingUsed names f x = AllPass (is_there names (keys_in names f) (defined_in names f) (length f.parameters)) (incoming_uses x)

abbrev CaseUsed : Surroundings → Spelled → SpelledCase → Type 0
CaseUsed names f x = AllPass (is_there names (keys_in names f) (defined_in names f) (length f.parameters)) (case_uses x)

module _ (names : Surroundings) (tables : Tables) (built : Module) (f : Spelled) (some : 1 ≤ length f.blocks) where
  abbrev scope : Scope
  scope = scope_of names tables built f

  abbrev fn : Function
  fn = function_of names tables built f

  operand_leads : (x : SpelledOperand) → OperandUsed names f x → OperandLeads scope fn x
  operand_leads (operands.Register name) u = register_leads names tables built f name u.0
  operand_leads (operands.Constant first number) u = tt

  count_leads : (o : Option TypedOperand) → AllPass (is_there names (keys_in names f) (defined_in names f) (length f.parameters)) (count_uses o) → CountLeads scope fn o
  count_leads None u = tt
  count_leads (Some x) u = operand_leads x.value u

  returned_leads : (o : Option SpelledOperand) → AllPass (is_there names (keys_in names f) (defined_in names f) (length f.parameters)) (returned_uses o)
      → ReturnedLeads scope fn o
  returned_leads None u = tt
  returned_leads (Some x) u = operand_leads x u

  incoming_leads : (x : SpelledIncoming) → IncomingUsed names f x → IncomingLeads scope fn x
  incoming_leads x u =
      let p = pass_split (is_there names (keys_in names f) (defined_in names f) (length f.parameters)) (operand_uses x.value) _ u in
      (operand_leads x.value p.0, origin_leads names tables built f x.block p.1.0)

  case_leads : (x : SpelledCase) → CaseUsed names f x → CaseLeads scope fn x
  case_leads x u =
      let p = pass_split (is_there names (keys_in names f) (defined_in names f) (length f.parameters)) (typed_uses x.value) _ u in
      (operand_leads x.value.value p.0, target_leads names tables built f x.block some p.1.0)

  row_leads : (xs : List TypedOperand) → AllPass (is_there names (keys_in names f) (defined_in names f) (length f.parameters)) (flat_map typed_uses xs)
      → Each (TypedLeads scope fn) xs
  row_leads xs u =
      each_weaker (TypedUsed names f) (TypedLeads scope fn) (λ (x : TypedOperand) h. operand_leads x.value h) xs
      (pass_parts (is_there names (keys_in names f) (defined_in names f) (length f.parameters)) typed_uses xs u)

  two_lead : (a b : SpelledOperand) → AllPass (is_there names (keys_in names f) (defined_in names f) (length f.parameters)) (operand_uses a ++ operand_uses b)
      → OperandLeads scope fn a × OperandLeads scope fn b
  two_lead a b u =
      let p = pass_split (is_there names (keys_in names f) (defined_in names f) (length f.parameters)) (operand_uses a) (operand_uses b) u in
      (operand_leads a p.0, operand_leads b p.1)

  three_lead : (a b c : SpelledOperand)
      → AllPass (is_there names (keys_in names f) (defined_in names f) (length f.parameters)) (operand_uses a ++ (operand_uses b ++ operand_uses c))
      → OperandLeads scope fn a × OperandLeads scope fn b × OperandLeads scope fn c
  three_lead a b c u =
      let p = pass_split (is_there names (keys_in names f) (defined_in names f) (length f.parameters)) (operand_uses a) (operand_uses b ++ operand_uses c) u in
      let q = two_lead b c p.1 in
      (operand_leads a p.0, q.0, q.1)

  pub operation_leads : (o : SpelledOperation)
      → AllPass (is_there names (keys_in names f) (defined_in names f) (length f.parameters)) (operation_uses names.bodies o) → OperationLeads scope fn o
  operation_leads (operations.Binary a b) u = two_lead a.value b u
  operation_leads (operations.Icmp pred a b) u = two_lead a.value b u
  operation_leads (operations.Cast a to) u = operand_leads a.value u
  operation_leads (operations.Freeze a) u = operand_leads a.value u
  operation_leads (operations.Select condition a b) u = three_lead condition a.value b.value u
  operation_leads (operations.Phi ty first count) u =
      let xs : List SpelledIncoming = take count (drop first names.bodies.incoming) in
      each_weaker (IncomingUsed names f) (IncomingLeads scope fn) incoming_leads xs
      (pass_parts (is_there names (keys_in names f) (defined_in names f) (length f.parameters)) incoming_uses xs u)
  operation_leads (operations.Alloca ty count stated) u = count_leads count u
  operation_leads (operations.Load ty pointer stated) u = operand_leads pointer u
  operation_leads (operations.Store value pointer stated) u = two_lead value.value pointer u
  operation_leads (operations.GetElementPtr of base first count) u =
      let xs : List TypedOperand = take count (drop first names.bodies.operands) in
      let p = pass_split (is_there names (keys_in names f) (defined_in names f) (length f.parameters)) (operand_uses base) (flat_map typed_uses xs) u in
      (operand_leads base p.0, row_leads xs p.1)
  operation_leads operations.Fence u = tt
  operation_leads (operations.AtomicRmw operator pointer value stated) u = two_lead pointer value.value u
  operation_leads (operations.CmpXchg pointer expected new stated) u = three_lead pointer expected.value new.value u
  operation_leads (operations.ExtractValue of value part) u = operand_leads value u
  operation_leads (operations.Call name result first count) u = row_leads (take count (drop first names.bodies.operands)) u.1
  operation_leads (operations.Return ty value) u = returned_leads value u
  operation_leads (operations.Jump block) u = target_leads names tables built f block some u.0
  operation_leads (operations.Branch condition yes_block no_block) u =
      let p = pass_split (is_there names (keys_in names f) (defined_in names f) (length f.parameters)) (operand_uses condition) _ u in
      (operand_leads condition p.0, target_leads names tables built f yes_block some p.1.0, target_leads names tables built f no_block some p.1.1.0)
  operation_leads (operations.Switch value other first count) u =
      let xs : List SpelledCase = take count (drop first names.bodies.cases) in
      let p = pass_split (is_there names (keys_in names f) (defined_in names f) (length f.parameters)) (typed_uses value) _ u in (
        operand_leads value.value p.0,
        target_leads names tables built f other some p.1.0,
        each_weaker (CaseUsed names f) (CaseLeads scope fn) case_leads xs
            (pass_parts (is_there names (keys_in names f) (defined_in names f) (length f.parameters)) case_uses xs p.1.1),
      )
  operation_leads operations.Unreachable u = tt
