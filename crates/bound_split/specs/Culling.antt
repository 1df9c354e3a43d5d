-- What a walk gives that drops pieces by a test.
use Rattle.std.specs.Prelude.{ℕ, zero, suc, ◌+◌, ◌-◌, ◌≡◌, Bool, false, List, [], ◌∷◌, ◌++◌, filter, Option, MatchOption}
use Rattle.patches.specs.Parts.{Part, IsPart}
use Rattle.bound_split.specs.declared.splits.Decision.{Decision}
use Rattle.bound_split.specs.declared.walk.Leaf.{Leaf}
use Rattle.bound_split.specs.Leaves.{depth, leaves, pending}

-- the answers are those of the test, and no leaf below a part that fails the test passes it
pub record IsTest (Answers : Part → Bool → Type 0) (decide : Part → Decision) (test : Part → Bool) : Type 0 where
  pub computed : (p : Part) (b : Bool) → IsPart p → Answers p b → b ≡ test p
  pub inherited : (p : Part) → IsPart p → test p ≡ false → filter test (leaves decide p) ≡ []

-- the parts ps are some that fail the test, and qs behind them
pub record Skips (test : Part → Bool) (ps qs : List Part) : Type 0 where
  pub skipped : List Part
  pub split : ps ≡ skipped ++ qs
  pub fail : filter test skipped ≡ []

-- the next leaf is the first of the leaves that are to come, and others are behind it; there is none where none is to come
abbrev pub IsNext : List Part → List Part → Option Leaf → Type 0
IsNext coming behind next = MatchOption next (coming ≡ []) (λ leaf. coming ≡ leaf.piece ∷ behind)

-- the same of the leaves that a test keeps, for each test that the answers are those of; before and behind stand the stacks
abbrev pub IsNextKept : (Part → Bool → Type 0) → (Part → Decision) → List Part → List Part → Option Leaf → Type 0
IsNextKept Answers decide before behind next =
    (test : Part → Bool) → IsTest Answers decide test → IsNext (filter test (pending decide before)) (filter test (pending decide behind)) next

-- of the leaves to come those in front of the next one fail a test, or all of them where there is none
abbrev pub SkipsTo : (Part → Bool) → (Part → Decision) → List Part → List Part → Option Leaf → Type 0
SkipsTo test decide before behind next =
    MatchOption next (Skips test (pending decide before) []) (λ leaf. Skips test (pending decide before) (leaf.piece ∷ pending decide behind))

-- the same for each test that the answers are those of
abbrev pub PassesOver : (Part → Bool → Type 0) → (Part → Decision) → List Part → List Part → Option Leaf → Type 0
PassesOver Answers decide before behind next = (test : Part → Bool) → IsTest Answers decide test → SkipsTo test decide before behind next

-- the parts of a tree of n splits below each other
abbrev pub parts_to : ℕ → ℕ
parts_to zero = 1
parts_to (suc n) = suc (parts_to n + parts_to n)

-- how many parts a walk can visit from a stack
abbrev pub visits : List Part → ℕ
visits [] = 0
visits (p ∷ ps) = parts_to (16 - depth p) + visits ps
