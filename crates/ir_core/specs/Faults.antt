-- The codes and names of the faults of a text, as they are printed. This project's choice.
use Rattle.std.specs.Prelude.{ℕ, List, ◌++◌, codes}
use Rattle.ir_core.specs.declared.faults.Limit.{Limit}
use Rattle.ir_core.specs.declared.faults.Limit.TheVariants.{Text, Nesting, Functions, Blocks, Instructions, MetaNodes, Globals, TypeSize}
use Rattle.ir_core.specs.declared.faults.Fault.{Fault}
use Rattle.ir_core.specs.declared.faults.Fault.TheVariants.{BadToken, BadSyntax, Unsupported, BadType, Unknown, Twice, NotOnEveryPath, BadPhi, NoMain, TooLarge, MetaCycle}

-- the name of a limit
abbrev pub limit_name : Limit → List ℕ
limit_name Text = codes "Text"
limit_name Nesting = codes "Nesting"
limit_name Functions = codes "Functions"
limit_name Blocks = codes "Blocks"
limit_name Instructions = codes "Instructions"
limit_name MetaNodes = codes "MetaNodes"
limit_name Globals = codes "Globals"
limit_name TypeSize = codes "TypeSize"

-- the code of a fault
abbrev pub fault_number : Fault → ℕ
fault_number BadToken = 1
fault_number BadSyntax = 2
fault_number Unsupported = 3
fault_number BadType = 4
fault_number Unknown = 5
fault_number Twice = 6
fault_number NotOnEveryPath = 7
fault_number BadPhi = 8
fault_number NoMain = 9
fault_number (TooLarge limit) = 10
fault_number MetaCycle = 11

-- the name of a fault, without that of a limit
abbrev pub fault_word : Fault → List ℕ
fault_word BadToken = codes "BadToken"
fault_word BadSyntax = codes "BadSyntax"
fault_word Unsupported = codes "Unsupported"
fault_word BadType = codes "BadType"
fault_word Unknown = codes "Unknown"
fault_word Twice = codes "Twice"
fault_word NotOnEveryPath = codes "NotOnEveryPath"
fault_word BadPhi = codes "BadPhi"
fault_word NoMain = codes "NoMain"
fault_word (TooLarge limit) = codes "TooLarge"
fault_word MetaCycle = codes "MetaCycle"

-- the name of a fault; that of a limit follows after a space
abbrev pub fault_name : Fault → List ℕ
fault_name (TooLarge limit) = codes "TooLarge " ++ limit_name limit
fault_name fault = fault_word fault
