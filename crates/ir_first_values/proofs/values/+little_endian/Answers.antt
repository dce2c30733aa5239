use Rattle.std.proofs.Common.{◌≡◌, ◌<◌, ◌+◌, ◌*◌, ◌^◌, ◌-◌, suc, length, get_or, take, drop, arith, ap, length-drop}
use Rattle.std.proofs.lemmas.List.{take_all}
use Rattle.ir_first_values.proofs.ByteStrings.{byte_below, byte_fits}
use Rattle.ir_first_values.proofs.values.+little_endian.Goals as goal

pub overflow_mul-result : goal.overflow_mul-result
overflow_mul-result t c =
    let bytes = c.args.bytes.now in
    let first = c.in-len1-up.len_at_least in
    let fits = c.type_inv.bytes 0 in
    let small : get_or bytes 0 0 < 256 = omega arith in
    let rest = take (length bytes - 1) (drop 1 bytes) in
    let dropped : length (drop 1 bytes) ≡ length bytes - 1 = length-drop 1 bytes in
    let taken : length rest ≡ length (drop 1 bytes) = ap length (take_all (length bytes - 1) (drop 1 bytes) (omega (arith, dropped))) in
    let e : length bytes ≡ suc (length rest) = omega (arith, dropped, taken) in
    let whole : get_or bytes 0 0 + 256 * c.little_endian-above.result < 2 ^ 128 = byte_fits _ _ _ _ small e c.requires c.little_endian-above.ensures.below in
    omega arith

pub overflow_add-result : goal.overflow_add-result
overflow_add-result t c =
    let bytes = c.args.bytes.now in
    let first = c.in-len1-up.len_at_least in
    let fits = c.type_inv.bytes 0 in
    let small : get_or bytes 0 0 < 256 = omega arith in
    let rest = take (length bytes - 1) (drop 1 bytes) in
    let dropped : length (drop 1 bytes) ≡ length bytes - 1 = length-drop 1 bytes in
    let taken : length rest ≡ length (drop 1 bytes) = ap length (take_all (length bytes - 1) (drop 1 bytes) (omega (arith, dropped))) in
    let e : length bytes ≡ suc (length rest) = omega (arith, dropped, taken) in
    let whole : get_or bytes 0 0 + 256 * c.little_endian-above.result < 2 ^ 128 = byte_fits _ _ _ _ small e c.requires c.little_endian-above.ensures.below in
    omega arith

pub returns-in-len1-up-clause-below : goal.returns-in-len1-up-clause-below
returns-in-len1-up-clause-below t c =
    let bytes = c.args.bytes.now in
    let first = c.in-len1-up.len_at_least in
    let fits = c.type_inv.bytes 0 in
    let small : get_or bytes 0 0 < 256 = omega arith in
    let rest = take (length bytes - 1) (drop 1 bytes) in
    let dropped : length (drop 1 bytes) ≡ length bytes - 1 = length-drop 1 bytes in
    let taken : length rest ≡ length (drop 1 bytes) = ap length (take_all (length bytes - 1) (drop 1 bytes) (omega (arith, dropped))) in
    let e : length bytes ≡ suc (length rest) = omega (arith, dropped, taken) in
    byte_below _ _ _ _ small e c.little_endian-above.ensures.below
