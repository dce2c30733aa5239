-- What stays when the story goes on: the places and tags of all objects. So the numbers of pointers and the images of values
-- and bytes stay, in all frames of all tasks.
use Rattle.std.specs.Prelude.{◌≡◌, List, Some}
use Rattle.hw_base.specs.declared.pointers.Obj.{Obj}
use Rattle.tag_story.specs.Story.{Placed, StoryBirth, get_placed}

-- each object of the first births has the same place, size and tag in the second ones
abbrev pub Stays : (before after : List StoryBirth) → Type 0
Stays before after = (o : Obj) (x : Placed) → get_placed before o ≡ Some x → get_placed after o ≡ Some x
