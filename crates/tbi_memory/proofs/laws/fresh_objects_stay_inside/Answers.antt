use Rattle.hw_base.specs.AddressMap.{granule_of}
use Rattle.hw_shadow.specs.ObjectTags.{object_tags}
use Rattle.tbi_memory.proofs.MappedBytesLemmas.{write_below}
use Rattle.tbi_memory.proofs.SpaceLemmas.{fresh-bytes_below, fresh-bytes_above, fresh-tags_above}
use Rattle.tbi_memory.proofs.laws.fresh_objects_stay_inside.Goals as goal

pub returns-clause-bytes_below : goal.returns-clause-bytes_below
returns-clause-bytes_below c = fresh-bytes_below

pub returns-clause-bytes_above : goal.returns-clause-bytes_above
returns-clause-bytes_above c = fresh-bytes_above

pub returns-clause-tags_below : goal.returns-clause-tags_below
returns-clause-tags_below c space place size tag = write_below space.shadow (granule_of place) (object_tags size tag)

pub returns-clause-tags_above : goal.returns-clause-tags_above
returns-clause-tags_above c = fresh-tags_above
