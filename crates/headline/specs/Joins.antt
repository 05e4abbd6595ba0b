-- What it is to hold all of two.
use Rattle.records.specs.Contents.{Content, IsWithin}

-- the least content that holds all that either does
abbrev pub IsLeastAbove : Content → Content → Content → Type 0
IsLeastAbove R S both =
    IsWithin R both × IsWithin S both
    × ((T : Content) → IsWithin R T → IsWithin S T → IsWithin both T)
