-- Shares of a board, their halves, and when two overlap.
-- A share is written as the path to it: which half of the board, which half of that, and so on.
use Rattle.std.specs.Prelude.{◌⊎◌, Bool, true, false, List, [], ◌∷◌, ◌++◌, Option, Some, None}
use mathlib.Core.List.{IsPrefix}

-- a share of a board: Some path, which half of the board it is (false the first, true the second), which half of that, and so on; None, no
-- share, for a pass that takes no step
abbrev pub Share : Type 0
Share = Option (List Bool)

-- the share that is the whole board
abbrev pub whole : Share
whole = Some []

-- the first half of a share (false) or its second half (true); None, no share, has only itself
abbrev pub half_of : Bool → Share → Share
half_of side None = None
half_of side (Some path) = Some (path ++ side ∷ [])

-- the half of a share that a pass keeps when another is split off it
abbrev pub first_half : Share → Share
first_half = half_of false

-- the half of a share that a pass gets when it is split off another
abbrev pub second_half : Share → Share
second_half = half_of true

-- two shares overlap: one of them lies in the other; None, no share, overlaps with none
abbrev pub Overlap : Share → Share → Type 0
Overlap (Some a) (Some b) = IsPrefix a b ⊎ IsPrefix b a
Overlap (Some a) None = ⊥
Overlap None t = ⊥
