-- The last records that a task remembers, as contracts see them.
use Rattle.std.specs.Prelude.{ℕ, List, ◌∷◌, [], take, refl}
use Rattle.std.specs.Coded.{Coded, code_by, coded×, coded_list, coded_ℕ}

-- how many records are kept at most, and those that are kept, the newest first
pub record Kept (R : Type 0) : Type 0 where
  pub size : ℕ
  pub kept : List R

module _ {R : Type 0} where
  -- its code, which a model of generic records needs
  abbrev pub kept_code : Coded R → Coded (Kept R)
  kept_code c = code_by (ℕ × List R) (coded× coded_ℕ (coded_list c)) (λ k. (k.size, k.kept)) (λ p. record { size = p.0; kept = p.1 }) (λ _. refl)

  -- a record before those that are kept, of which as many stay as may be kept
  abbrev pub with_newest : Kept R → R → Kept R
  with_newest ring newest = record ring { kept = take ring.size (newest ∷ ring.kept) }

  -- after records were pushed in the order of a list
  unfoldable pub after_pushes : Kept R → List R → Kept R
  after_pushes ring [] = ring
  after_pushes ring (r ∷ later) = after_pushes (with_newest ring r) later
