-- How the body of a message is cut into the bodies of chunks (Part 6, 6.7.2.2).
use Rattle.std.specs.Prelude.{◌≡◌, ◌<◌, ◌≤◌, ℕ, zero, suc, Bool, true, false, List, [], ◌∷◌, ◌++◌, length, take, drop, nat_le, if◌then◌else◌}

-- the pieces, one after the other
abbrev pub joined : List (List ℕ) → List ℕ
joined [] = []
joined (piece ∷ pieces) = piece ++ joined pieces

-- each piece but the last has size bytes, and the last one 1 to size
abbrev pub AreFull : ℕ → List (List ℕ) → Type 0
AreFull size [] = Unit {0}
AreFull size (last ∷ []) = (0 < length last) × (length last ≤ size)
AreFull size (piece ∷ next ∷ pieces) = (length piece ≡ size) × AreFull size (next ∷ pieces)

-- these are the pieces of a body: joined they are the body, and each but the last is full; an empty
-- body is one empty piece
abbrev pub IsSplit : ℕ → List ℕ → List (List ℕ) → Type 0
IsSplit size [] pieces = pieces ≡ [] ∷ []
IsSplit size (byte ∷ body) pieces = (joined pieces ≡ byte ∷ body) × AreFull size pieces

-- the pieces that are cut off the front of some bytes, at most n full ones before the last
abbrev pub pieces_within : ℕ → ℕ → List ℕ → List (List ℕ)
pieces_within zero size bytes = bytes ∷ []
pieces_within (suc n) size bytes =
    if nat_le (length bytes) size then bytes ∷ []
    else take size bytes ∷ pieces_within n size (drop size bytes)

-- the pieces of some bytes
unfoldable pub pieces_of : ℕ → List ℕ → List (List ℕ)
pieces_of size bytes = pieces_within (length bytes) size bytes

-- the pieces that are left, none once it is over
abbrev pub left_of : Bool → ℕ → List ℕ → List (List ℕ)
left_of true size bytes = []
left_of false size bytes = pieces_of size bytes
