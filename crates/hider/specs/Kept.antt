-- What a sample keeps of its fragments: those that can show.
use Rattle.std.specs.Prelude.{ℕ, ◌≤◌, ◌++◌, ◌∷◌, take, drop, length, ◌≡◌, refl, ℤ, pos, Bool, true, false, ◌&&◌, int_lt, int_le, Option, Some, None, List, []}
use Rattle.std.specs.List.{list_any, fold, cons_option}
use Rattle.hider.specs.declared.fragment.Fragment.{Fragment}
use Rattle.hider.specs.Composite.{is_opaque, cut}
use Rattle.fixed_math.specs.Axes.{origin}
use Rattle.hider.specs.Fragments.{put_in, IsSorted}

-- in order of depth, and nothing behind an opaque one
pub record IsKept (l : List Fragment) : Type 0 where
  pub sorted : IsSorted l
  pub whole : cut l ≡ l

-- what is kept with a fragment more
abbrev pub keep : Fragment → List Fragment → List Fragment
keep f l = cut (put_in f l)

-- with fragments more, one after another
abbrev pub keep_all : List Fragment → List Fragment → List Fragment
keep_all l fs = fold (λ k f. keep f k) l fs

-- nearer than z, and nothing passes through it
abbrev pub hides : ℤ → Fragment → Bool
hides z f = is_opaque f && int_lt f.depth z

-- an opaque fragment lies nearer than z
abbrev pub blocks : ℤ → List Fragment → Bool
blocks z fs = list_any (hides z) fs

-- the place of a fragment in a list: behind so many of the front
pub record IsPlace (f : Fragment) (l : List Fragment) (p : ℕ) : Type 0 where
  pub inside : p ≤ length l
  pub put : put_in f l ≡ take p l ++ f ∷ drop p l

-- ---- a list as its opaque fragment, which may be missing, and what lies in front of that
abbrev pub kept_list : List Fragment → Option Fragment → List Fragment
kept_list front back = front ++ cons_option back []

pub record IsKeptIn (front : List Fragment) (back : Option Fragment) : Type 0 where
  pub kept : IsKept (kept_list front back)
  pub clear : list_any is_opaque front ≡ false
  pub opaque : (b : Fragment) → back ≡ Some b → is_opaque b ≡ true

-- a depth no nearer than the opaque fragment
abbrev pub is_behind : Option Fragment → ℤ → Bool
is_behind None z = false
is_behind (Some b) z = int_le b.depth z

-- a depth behind it
abbrev pub blocks_by : Option Fragment → ℤ → Bool
blocks_by None z = false
blocks_by (Some b) z = int_lt b.depth z

-- worked values: behind an opaque fragment nothing goes in, before it a transparent one does, and an opaque one before it ends the
-- list; it is nearer than what lies behind it, and not than what has its own depth
abbrev worked : ℤ → ℤ → Fragment
worked z o = record { depth = z; colour = origin; opacity = record { x = o; y = o; z = o } }

hidden_behind : keep (worked (pos 3) (pos 100)) (worked (pos 2) (pos 65536) ∷ []) ≡ worked (pos 2) (pos 65536) ∷ []
unfolding is_opaque
hidden_behind = refl

transparent_before : keep (worked (pos 1) (pos 100)) (worked (pos 2) (pos 65536) ∷ []) ≡ worked (pos 1) (pos 100) ∷ worked (pos 2) (pos 65536) ∷ []
unfolding is_opaque
transparent_before = refl

opaque_ends : keep (worked (pos 1) (pos 65536)) (worked (pos 2) (pos 100) ∷ []) ≡ worked (pos 1) (pos 65536) ∷ []
unfolding is_opaque
opaque_ends = refl

nearer : blocks (pos 3) (worked (pos 2) (pos 65536) ∷ []) ≡ true
unfolding is_opaque
nearer = refl

not_nearer : blocks (pos 2) (worked (pos 2) (pos 65536) ∷ []) ≡ false
unfolding is_opaque
not_nearer = refl
