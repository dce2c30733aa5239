-- The closing texts that aren't those of a run or of a refusal. This project's choice.
use Rattle.std.specs.Prelude.{ℕ, List, codes}

abbrev pub usage_line : List ℕ
usage_line = codes "usage: hwasan_ir MODE FILE [options]\n"

abbrev pub file_fault_line : List ℕ
file_fault_line = codes "fault: file\n"

abbrev pub write_fault_line : List ℕ
write_fault_line = codes "fault: write\n"

abbrev pub memory_line : List ℕ
memory_line = codes "memory\n"
