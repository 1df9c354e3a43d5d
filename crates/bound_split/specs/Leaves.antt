-- The leaves of the tree of splits.
use Rattle.std.specs.Prelude.{ℕ, zero, suc, ◌≡◌, ◌≤◌, ◌+◌, ◌-◌, List, [], ◌∷◌, ◌++◌}
use Rattle.patches.specs.Parts.{Part, low_u, high_u, low_v, high_v}
use Rattle.bound_split.specs.declared.splits.Decision.{Decision}
use Rattle.bound_split.specs.declared.splits.Decision.TheVariants.{SplitU, SplitV, Dice}

-- how many times a part is halved
abbrev pub depth : Part → ℕ
depth p = p.a + p.b

-- q is halved once more than p, and at most 8 times each way
pub record IsBelow (p q : Part) : Type 0 where
  pub deeper : depth q ≡ depth p + 1
  pub a : q.a ≤ 8
  pub b : q.b ≤ 8

-- one of three lists, by a decision
abbrev pub by_decision : Decision → List Part → List Part → List Part → List Part
by_decision SplitU u v d = u
by_decision SplitV u v d = v
by_decision (Dice p q) u v d = d

-- the leaves below a part, at most n splits deep, those of the first half before those of the second
unfoldable pub leaves_to : ℕ → (Part → Decision) → Part → List Part
leaves_to zero decide p = p ∷ []
leaves_to (suc n) decide p =
    by_decision (decide p) (leaves_to n decide (low_u p) ++ leaves_to n decide (high_u p)) (leaves_to n decide (low_v p) ++ leaves_to n decide (high_v p)) (p ∷ [])

-- the leaves below a part: splitting ends at 8 halvings of each parameter
abbrev pub leaves : (Part → Decision) → Part → List Part
leaves decide p = leaves_to (16 - depth p) decide p

-- the leaves below the parts of a stack, whose last part comes first
abbrev pub pending : (Part → Decision) → List Part → List Part
pending decide [] = []
pending decide (p ∷ ps) = pending decide ps ++ leaves decide p

-- the part at place k of the stack, and each above it, is halved at least as many times as its place
abbrev pub IsDeepFrom : ℕ → List Part → Type 0
IsDeepFrom k [] = Unit {0}
IsDeepFrom k (p ∷ ps) = (k ≤ depth p) × (p.a ≤ 8) × (p.b ≤ 8) × IsDeepFrom (suc k) ps
