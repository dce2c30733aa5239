-- The places of the code of instructions.
use Rattle.std.proofs.Common.{◌≡◌, refl, ℕ, zero, suc, ◌+◌, List, [], ◌∷◌, ◌++◌, length, map, take, drop, Option, arith, add-zero, ap, sym, ◌∙◌}
use Rattle.std.proofs.lemmas.List.{length-append, length-map}
use Rattle.std.proofs.Math.Seq.{drop-append-add}
use Rattle.hw_base.specs.declared.pointers.Site.{Site}
use Rattle.ir_core.specs.declared.operations.Op.{Op}
use Rattle.ir_core.specs.declared.operations.Op.TheVariants as source
use Rattle.ir_core.specs.declared.ir_module.Block.{Block}
use Rattle.ir_core.specs.declared.ir_module.Inst.{Inst}
use Rattle.ir_core.specs.declared.ir_module.Function.{Function}
use Rattle.ir_core.specs.declared.ir_module.Module.{Module}
use Rattle.ir_core.specs.Blocks.{block_holding}
use Rattle.mi_code.specs.SourceCode.{source_code}
use Rattle.mi_code.specs.TagChecks.{added_code, enter_code}
use Rattle.mi_code.specs.Instrumentation.{own_length, instruction_length, code_length, place_of, later_starts, starts_by, starts_of, entry_mi, added_mi, source_mi, code_of_instruction, code_from, code_of_function}

length-source_mi : (m : Module) (f : Function) (starts : List ℕ) (here : ℕ) (r : Option ℕ) (site : Site) (op : Op) → length (source_mi site (source_code m f starts here r op)) ≡ own_length op
length-source_mi m f starts here r site (source.Binary op a b) = refl
length-source_mi m f starts here r site (source.Icmp pred a b) = refl
length-source_mi m f starts here r site (source.Cast op a to) = refl
length-source_mi m f starts here r site (source.Select cond a b) = refl
length-source_mi m f starts here r site (source.Freeze a) = refl
length-source_mi m f starts here r site (source.Phi ty entries) = refl
length-source_mi m f starts here r site (source.Alloca index ty count) = refl
length-source_mi m f starts here r site (source.Load ty at align) = refl
length-source_mi m f starts here r site (source.Store value at align) = refl
length-source_mi m f starts here r site (source.Gep ty base indices) = refl
length-source_mi m f starts here r site source.Fence = refl
length-source_mi m f starts here r site (source.Rmw op at value align) = refl
length-source_mi m f starts here r site (source.CmpXchg at expected new align) = refl
length-source_mi m f starts here r site (source.ExtractValue pair part) = refl
length-source_mi m f starts here r site (source.Call func result args) = refl
length-source_mi m f starts here r site (source.CallLib declare result args start) = refl
length-source_mi m f starts here r site (source.Br block) = refl
length-source_mi m f starts here r site (source.BrIf cond first second) = refl
length-source_mi m f starts here r site (source.Switch on other cases) = refl
length-source_mi m f starts here r site (source.Ret value) = refl
length-source_mi m f starts here r site source.Unreachable = refl

pub length-code_of_instruction : (m : Module) (f : Function) (site : Site) (inst : Inst) → length (code_of_instruction m f site inst) ≡ instruction_length m f.allocas inst
unfolding code_of_instruction
length-code_of_instruction m f site inst =
    let own = length-source_mi m f (starts_of m f) (block_holding f.blocks site.inst) inst.result site inst.op in
    let added = length-map (added_code m f.allocas inst.op) (added_mi site) in
    rw (length-append (map (added_mi site) (added_code m f.allocas inst.op)) (source_mi site (source_code m f (starts_of m f) (block_holding f.blocks site.inst) inst.result inst.op)), own, added) refl

-- the code from an instruction on
drop-code_from : (m : Module) (f : Function) (func k i : ℕ) (insts : List Inst) → drop (code_length m f.allocas (take i insts)) (code_from m f func k insts) ≡ code_from m f func (k + i) (drop i insts)
unfolding code_from code_length
drop-code_from m f func k zero [] = refl
drop-code_from m f func k zero (inst ∷ insts) = ap (λ j. code_from m f func j (inst ∷ insts)) (sym (add-zero k))
drop-code_from m f func k (suc i) [] = refl
drop-code_from m f func k (suc i) (inst ∷ insts) =
    let site : Site = record { func = func; inst = k } in
    let code = code_of_instruction m f site inst in
    let rest = code_from m f func (suc k) insts in
    let after = code_length m f.allocas (take i insts) in
    let next : suc k + i ≡ k + suc i = omega arith in
    ap (λ n. drop (n + after) (code ++ rest)) (sym (length-code_of_instruction m f site inst))
    ∙ (drop-append-add code rest after
    ∙ (drop-code_from m f func (suc k) i insts
    ∙ ap (λ j. code_from m f func j (drop i insts)) next))

-- from the place of an instruction on the code is that of the instructions from it on
pub drop-code_of_function : (m : Module) (f : Function) (func i : ℕ) → drop (place_of m f i) (code_of_function m func f).insts ≡ code_from m f func i (drop i f.insts)
unfolding code_of_function
drop-code_of_function m f func i =
    let entry = map entry_mi (enter_code f.allocas) in
    let code = code_from m f func 0 f.insts in
    let after = code_length m f.allocas (take i f.insts) in
    let first : 0 + i ≡ i = omega arith in
    ap (λ n. drop (n + after) (entry ++ code)) (sym (length-map (enter_code f.allocas) entry_mi))
    ∙ (drop-append-add entry code after
    ∙ (drop-code_from m f func 0 i f.insts
    ∙ ap (λ j. code_from m f func j (drop i f.insts)) first))

-- the later blocks start at the places of their first instructions
later_starts-map : (m : Module) (f : Function) (blocks : List Block) → later_starts m f blocks ≡ map (λ block. place_of m f block.first) blocks
unfolding later_starts
later_starts-map m f [] = refl
later_starts-map m f (block ∷ blocks) = ap (λ rest. place_of m f block.first ∷ rest) (later_starts-map m f blocks)

pub starts_of_blocks : (m : Module) (f : Function) (entry : Block) (blocks : List Block) → f.blocks ≡ entry ∷ blocks → starts_of m f ≡ 0 ∷ map (λ block. place_of m f block.first) blocks
starts_of_blocks m f entry blocks e =
    ap (starts_by m f) e ∙ ap (λ rest. 0 ∷ rest) (later_starts-map m f blocks)
