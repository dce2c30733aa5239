-- The classes of bytes that tokens run through, as one name for each test.
use Rattle.std.specs.Prelude.{ℕ, Bool}
use Rattle.std.specs.Char.{is_ascii_digit}
use Rattle.ir_core.specs.Spelling.{is_name_byte, is_float_byte, is_record_byte, is_inside_string}
use Rattle.ir_lex.specs.declared.classes.ByteClass.{ByteClass}
use Rattle.ir_lex.specs.declared.classes.ByteClass.TheVariants.{Digit, Name, Float, Record, Inside}

-- whether a byte is of a class
abbrev pub passes : ByteClass → ℕ → Bool
passes Digit = is_ascii_digit
passes Name = is_name_byte
passes Float = is_float_byte
passes Record = is_record_byte
passes Inside = is_inside_string
