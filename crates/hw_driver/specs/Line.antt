-- The words of the command line that are a command. This project's choice.
use Rattle.std.specs.Prelude.{ℕ, ◌%◌, ◌^◌, ◌==◌, List, [], ◌∷◌, length, Option, Some, None, Bool, ◌&&◌, not, nat_lt, nat_le, nat_eq, if◌then◌else◌, codes, option_map}
use Rattle.std.specs.Char.{is_ascii_digit}
use Rattle.std.specs.List.{starts_with, list_all, slice_split}
use Rattle.std.specs.Str.{bytes_eq}
use Rattle.std.specs.Str.Parse.{digits_value}
use Rattle.hw_base.specs.declared.numbers.TheConstants.{MOST_HEAP, MOST_RING, MOST_STEPS, MOST_WORDS}
use Rattle.hw_tags.specs.declared.words_spec.WordsSpec.{WordsSpec}
use Rattle.hw_tags.specs.declared.words_spec.WordsSpec.TheVariants.{Cycle, Seed}

-- the options that are given: the tag words, a bound on the steps, how many ended frames and freed blocks a task remembers, and the
-- size of the heap in bytes
pub record Given : Type 0 where
  pub tags : Option WordsSpec
  pub steps : Option ℕ
  pub ring : Option ℕ
  pub heap : Option ℕ

-- a command: the FILE word, and the options that are given
pub record Line : Type 0 where
  pub file : List ℕ
  pub given : Given

-- a FILE word doesn't begin with a dash
abbrev pub is_file : List ℕ → Bool
is_file name = not (starts_with nat_eq name (codes "-"))

-- ---- numbers

-- one decimal digit or more
abbrev pub is_number : List ℕ → Bool
is_number text = nat_lt 0 (length text) && list_all is_ascii_digit text

-- the number that a text writes, below 2^64
unfoldable pub number_of : List ℕ → Option ℕ
number_of text = if is_number text && nat_lt (digits_value 10 text) (2 ^ 64) then Some (digits_value 10 text) else None

abbrev pub within : (ℕ → Bool) → Option ℕ → Option ℕ
within is_one None = None
within is_one (Some n) = if is_one n then Some n else None

-- a bound on the steps: a number from 1 on, to the greatest
abbrev pub is_bound : ℕ → Bool
is_bound n = nat_le 1 n && nat_le n MOST_STEPS

abbrev pub step_bound : List ℕ → Option ℕ
step_bound text = within is_bound (number_of text)

-- a number of ended frames, and of freed blocks: from 1 on, to the greatest
abbrev pub is_ring : ℕ → Bool
is_ring n = nat_le 1 n && nat_le n MOST_RING

abbrev pub ring_size : List ℕ → Option ℕ
ring_size text = within is_ring (number_of text)

-- a size of the heap in bytes: a multiple of 16, from 16 on, to the greatest
abbrev pub is_heap : ℕ → Bool
is_heap n = n % 16 == 0 && (nat_le 16 n && nat_le n MOST_HEAP)

abbrev pub heap_size : List ℕ → Option ℕ
heap_size text = within is_heap (number_of text)

-- ---- tag words

-- a tag word: a number from 0 to 255
unfoldable pub tag_word : List ℕ → Option ℕ
tag_word text = if is_number text && nat_le (digits_value 10 text) 255 then Some (digits_value 10 text) else None

abbrev pub word_before : Option ℕ → Option (List ℕ) → Option (List ℕ)
word_before None words = None
word_before (Some word) words = option_map (λ others. word ∷ others) words

-- the tag words of texts, if each is one
abbrev pub words_of : List (List ℕ) → Option (List ℕ)
words_of [] = Some []
words_of (text ∷ texts) = word_before (tag_word text) (words_of texts)

-- at most so many words
abbrev pub at_most : (most : ℕ) → Option (List ℕ) → Option (List ℕ)
at_most most None = None
at_most most (Some words) = if nat_le (length words) most then Some words else None

-- the texts between commas
abbrev pub parts : List ℕ → List (List ℕ)
parts text = slice_split (λ b. b == 44) text

-- a list of tag words, with a comma between each two
unfoldable pub tag_list : List ℕ → Option (List ℕ)
tag_list text = at_most MOST_WORDS (words_of (parts text))

-- ---- options

-- a value is given at most once
abbrev pub once : {A : Type 0} → (before value : Option A) → Option A
once None value = value
once (Some other) value = None

abbrev pub with_tags : Given → WordsSpec → Given
with_tags given words = record given { tags = Some words }

-- an option that is given beside others, if it is one and isn't given yet: the tag words as a list, or by a seed
abbrev pub add_tags : Given → List ℕ → Option Given
add_tags given value = option_map (with_tags given) (once given.tags (option_map Cycle (tag_list value)))

abbrev pub add_seed : Given → List ℕ → Option Given
add_seed given value = option_map (with_tags given) (once given.tags (option_map Seed (number_of value)))

abbrev pub add_steps : Given → List ℕ → Option Given
add_steps given value = option_map (λ steps. record given { steps = Some steps }) (once given.steps (step_bound value))

abbrev pub add_ring : Given → List ℕ → Option Given
add_ring given value = option_map (λ ring. record given { ring = Some ring }) (once given.ring (ring_size value))

abbrev pub add_heap : Given → List ℕ → Option Given
add_heap given value = option_map (λ heap. record given { heap = Some heap }) (once given.heap (heap_size value))

-- an option of a run of the machine
unfoldable pub add_limit : Given → (name value : List ℕ) → Option Given
add_limit given name value =
    if bytes_eq name (codes "--steps") then add_steps given value
    else (if bytes_eq name (codes "--ring") then add_ring given value else (if bytes_eq name (codes "--heap") then add_heap given value else None))

unfoldable pub add_option : Given → (name value : List ℕ) → Option Given
add_option given name value =
    if bytes_eq name (codes "--tags") then add_tags given value
    else (if bytes_eq name (codes "--seed") then add_seed given value else add_limit given name value)

-- options with their values, in any order
abbrev pub options_after : List (List ℕ) → Option Given → Option Given
options_after words None = None
options_after [] (Some given) = Some given
options_after (name ∷ []) (Some given) = None
options_after (name ∷ value ∷ words) (Some given) = options_after words (add_option given name value)

abbrev pub none_given : Given
none_given = record { tags = None; steps = None; ring = None; heap = None }

-- run FILE, with options after it
unfoldable pub line_with : (mode file : List ℕ) → Option Given → Option Line
line_with mode file given = if bytes_eq mode (codes "run") && is_file file then option_map (λ options. record { file = file; given = options }) given else None

-- the command that the words are, or none
abbrev pub line : List (List ℕ) → Option Line
line (mode ∷ file ∷ words) = line_with mode file (options_after words (Some none_given))
line words = None
