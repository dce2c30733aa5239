use Rattle.detection.proofs.Detected.{prints-until, prints-told, prints-told-others, with_words-is, room-still}
use Rattle.detection.specs.Detection.{with_words}
use Rattle.detection.proofs.laws.tag_words_change_nothing_before_a_violation.Goals as goal

pub returns-clause-with_room : goal.returns-clause-with_room
returns-clause-with_room c setting other turns bound is room =
    (prints-until setting turns bound is room, prints-until (with_words setting other) turns bound (with_words-is setting other is) (room-still setting other turns bound room))

pub returns-clause-until_full : goal.returns-clause-until_full
returns-clause-until_full c setting other turns bound is = (prints-told setting turns bound is, prints-told-others setting other turns bound is)
