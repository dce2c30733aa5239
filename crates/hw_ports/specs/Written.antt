-- The pieces that a sink is given to write.
use Rattle.std.specs.Prelude.{◌≡◌, ℕ, List, [], ◌∷◌, ◌++◌, Option, Some, None, ⊤}

-- Known pieces grow by a piece that is written, whether it is taken or not. A write of an empty piece is no write.
abbrev pub AddsPiece : Option (List (List ℕ)) → Option (List (List ℕ)) → List ℕ → Type 0
AddsPiece None new piece = ⊤
AddsPiece (Some old) None piece = ⊥
AddsPiece (Some old) (Some new) [] = new ≡ old
AddsPiece (Some old) (Some new) (byte ∷ bytes) = new ≡ old ++ (byte ∷ bytes) ∷ []
