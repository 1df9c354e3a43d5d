-- How many numbers or strings a variable of a kind is given.
use Rattle.std.specs.Prelude.{ℕ, Bool, true, false, not, length}
use Rattle.scene.specs.declared.params.Kind.{Kind}
use Rattle.scene.specs.declared.params.Kind.TheVariants as kinds
use Rattle.scene.specs.declared.params.Values.{Values}
use Rattle.scene.specs.declared.params.Values.TheVariants as held

-- values of this kind are strings
abbrev pub is_string : Kind → Bool
is_string kinds.Str = true
is_string _ = false

-- how many numbers or strings a value of that kind has
abbrev pub width : Kind → ℕ
width kinds.Float = 1
width kinds.Str = 1
width kinds.Pair = 2
width _ = 3

-- how many numbers or strings are given
abbrev pub count : Values → ℕ
count (held.Numbers xs) = length xs
count (held.Strings ts) = length ts

-- strings for a string, and numbers for any other kind
abbrev pub is_of_kind : Kind → Values → Bool
is_of_kind k (held.Numbers xs) = not (is_string k)
is_of_kind k (held.Strings ts) = is_string k
