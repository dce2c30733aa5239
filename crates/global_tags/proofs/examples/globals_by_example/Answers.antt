use Rattle.std.proofs.Common.{refl}
use Rattle.hw_base.specs.Bytes.{le_bytes}
use Rattle.hw_shadow.specs.TagRule.{first_mismatch}
use Rattle.tbi_memory.specs.AddressSpace.{zeros}
use Rattle.tbi_memory.specs.MappedBytes.{byte_at, write, read_bytes}
use Rattle.global_tags.specs.GlobalPlaces.{constants_size, variables_size}
use Rattle.global_tags.specs.GlobalBytes.{with_pieces, with_globals}
use Rattle.global_tags.specs.SmallGlobals.{loaded_small}
use Rattle.global_tags.proofs.examples.globals_by_example.Goals as goal

pub returns-clause-layout : goal.returns-clause-layout
unfolding le_bytes first_mismatch byte_at write read_bytes constants_size variables_size with_pieces with_globals loaded_small zeros
returns-clause-layout c = refl

pub returns-clause-descriptors : goal.returns-clause-descriptors
unfolding le_bytes first_mismatch byte_at write read_bytes constants_size variables_size with_pieces with_globals loaded_small zeros
returns-clause-descriptors c = refl

pub returns-clause-text : goal.returns-clause-text
unfolding le_bytes first_mismatch byte_at write read_bytes constants_size variables_size with_pieces with_globals loaded_small zeros
returns-clause-text c = refl

pub returns-clause-last_byte : goal.returns-clause-last_byte
unfolding le_bytes first_mismatch byte_at write read_bytes constants_size variables_size with_pieces with_globals loaded_small zeros
returns-clause-last_byte c = refl

pub returns-clause-text_tag : goal.returns-clause-text_tag
unfolding le_bytes first_mismatch byte_at write read_bytes constants_size variables_size with_pieces with_globals loaded_small zeros
returns-clause-text_tag c = refl

pub returns-clause-pointer : goal.returns-clause-pointer
unfolding le_bytes first_mismatch byte_at write read_bytes constants_size variables_size with_pieces with_globals loaded_small zeros
returns-clause-pointer c = refl

pub returns-clause-number : goal.returns-clause-number
unfolding le_bytes first_mismatch byte_at write read_bytes constants_size variables_size with_pieces with_globals loaded_small zeros
returns-clause-number c = refl

pub returns-clause-past_the_end : goal.returns-clause-past_the_end
unfolding le_bytes first_mismatch byte_at write read_bytes constants_size variables_size with_pieces with_globals loaded_small zeros
returns-clause-past_the_end c = refl
