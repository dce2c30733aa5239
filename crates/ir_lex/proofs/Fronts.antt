-- The loop that counts the bytes at the front, one step on and at its ends.
use Rattle.std.proofs.Common.{◌≡◌, ℕ, ◌+◌, ◌<◌, ◌≤◌, List, Bool, true, false, length, get_or, drop, arith}
use Rattle.std.specs.List.{prefix_len}
use Rattle.std.proofs.lemmas.List.Sums.{prefix_len-drop_yes, prefix_len-drop_no, prefix_len-drop_all}

-- a byte that passes is counted
pub front_more : (p : ℕ → Bool) (text : List ℕ) (n : ℕ) → n < length text → p (get_or text n 0) ≡ true → prefix_len p (drop n text) + n ≡ prefix_len p text → prefix_len p (drop (n + 1) text) + (n + 1) ≡ prefix_len p text
front_more p text n inside passed before = let e = prefix_len-drop_yes p text n 0 inside passed in omega arith

-- one that doesn't ends the count
pub front_stops : (p : ℕ → Bool) (text : List ℕ) (n : ℕ) → n < length text → p (get_or text n 0) ≡ false → prefix_len p (drop n text) + n ≡ prefix_len p text → n ≡ prefix_len p text
front_stops p text n inside failed before = let e = prefix_len-drop_no p text n 0 inside failed in omega arith

-- and so does the end
pub front_ends : (p : ℕ → Bool) (text : List ℕ) (n : ℕ) → length text ≤ n → prefix_len p (drop n text) + n ≡ prefix_len p text → n ≡ prefix_len p text
front_ends p text n past before = let e = prefix_len-drop_all p text n past in omega arith
