use Rattle.std.proofs.Common.{◌∙◌, sym}
use Rattle.detection.proofs.Detected.{prints-clean, with_words-is, room-still}
use Rattle.detection.specs.Detection.{with_words}
use Rattle.detection.proofs.laws.faultless_programs_print_the_same.Goals as goal

pub returns-clause-as_source : goal.returns-clause-as_source
returns-clause-as_source c setting turns bound is room clean = prints-clean setting turns bound is room clean

pub returns-clause-all_words : goal.returns-clause-all_words
returns-clause-all_words c setting other turns bound is room clean =
    prints-clean (with_words setting other) turns bound (with_words-is setting other is) (room-still setting other turns bound room) clean
    ∙ sym (prints-clean setting turns bound is room clean)
