-- The tag of each kind of memory for a word. The kinds, and that a shadow byte from 1 to 15 is the size of a short
-- granule, are Clang's (HWASan design document); the formulas are this project's choice.
use Rattle.std.specs.Prelude.{ℕ, ◌+◌, ◌%◌, ◌==◌, if◌then◌else◌}

-- a heap block has 1 to 255
abbrev pub heap_tag_of : ℕ → ℕ
heap_tag_of word = 1 + word % 255

-- of 16 to 255 the next one, and after 255 comes 16
abbrev pub next_free_tag : ℕ → ℕ
next_free_tag tag = if tag == 255 then 16 else tag + 1

-- freed memory has 16 to 255; where that is the block's old tag, the next one
abbrev pub free_tag_of : ℕ → ℕ → ℕ
free_tag_of word old = let tag = 16 + word % 240 in if tag == old then next_free_tag tag else tag

-- variable k of a frame has 1 to 255
abbrev pub frame_tag_of : ℕ → ℕ → ℕ
frame_tag_of word k = 1 + (word + k) % 255

-- global k, in order of the text, has 16 to 255
abbrev pub global_tag_of : ℕ → ℕ → ℕ
global_tag_of word k = 16 + (word % 240 + k) % 240
