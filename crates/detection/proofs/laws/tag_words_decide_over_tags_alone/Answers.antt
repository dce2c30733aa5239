use Rattle.detection.proofs.SameRuns.{tags-alone}
use Rattle.simulation.specs.Relation.{story_setting}
use Rattle.detection.proofs.laws.tag_words_decide_over_tags_alone.Goals as goal

pub returns : goal.returns
returns c setting other turns bound = tags-alone (story_setting setting) other setting.input turns bound
