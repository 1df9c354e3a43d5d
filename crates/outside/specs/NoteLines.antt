-- The lines that reach the notes.
use Rattle.std.specs.Prelude.{◌≡◌, ◌⊎◌, ◌≤◌, ◌<◌, ℕ, ◌+◌, ◌-◌, ◌^◌, List, [], ◌∷◌, ◌++◌, length, Option, option_map}

-- these are those lines in their order, without some
abbrev pub IsPartOf : List (List ℕ) → List (List ℕ) → Type 0
IsPartOf added [] = added ≡ []
IsPartOf added (line ∷ lines) = IsPartOf added lines ⊎ ((others : List (List ℕ)) × (added ≡ line ∷ others) × IsPartOf others lines)

-- those lines were said; at most as many are missing as the count of faults has risen, where it doesn't stand at its last value
pub record Says (lines : List (List ℕ)) (old new : Option (List (List ℕ))) (before now : ℕ) : Type 0 where
  pub added : List (List ℕ)
  pub adds : new ≡ option_map (λ ls. ls ++ added) old
  pub part : IsPartOf added lines
  pub later : before ≤ now
  pub missing : now < 2 ^ 64 - 1 → length lines + before ≤ length added + now
