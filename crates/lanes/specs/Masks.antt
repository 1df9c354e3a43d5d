-- Masks: a truth value for each place of a row, as the number -1 where it holds and 0 where it doesn't.
use Rattle.std.specs.Prelude.{ℤ, pos, negsuc, Bool, not, ◌&&◌, ◌||◌, cond, int_lt, int_le, ◌≡◌, refl}
use Rattle.std.specs.Ordering.{int_eq}

-- the mask of a truth value
abbrev pub mask_of : Bool → ℤ
mask_of t = cond t (negsuc 0) (pos 0)

-- what a mask says; any number below 0 is read as -1, any other as 0
abbrev pub is_set : ℤ → Bool
is_set m = int_lt m (pos 0)

-- the mask of where a is less than b
abbrev pub less : ℤ → ℤ → ℤ
less a b = mask_of (int_lt a b)

-- the mask of where a is at most b
abbrev pub less_equal : ℤ → ℤ → ℤ
less_equal a b = mask_of (int_le a b)

-- the mask of where both are the same
abbrev pub equal : ℤ → ℤ → ℤ
equal a b = mask_of (int_eq a b)

-- the mask of where both are set
abbrev pub both : ℤ → ℤ → ℤ
both a b = mask_of (is_set a && is_set b)

-- the mask of where one is set
abbrev pub either : ℤ → ℤ → ℤ
either a b = mask_of (is_set a || is_set b)

-- set where the other isn't
abbrev pub turned : ℤ → ℤ
turned a = mask_of (not (is_set a))

-- a where the mask is set, else b
abbrev pub choose : ℤ → ℤ → ℤ → ℤ
choose m a b = cond (is_set m) a b

-- worked values
less_of_two : less (pos 1) (pos 2) ≡ negsuc 0
less_of_two = refl

equal_is_not_less : less (pos 2) (pos 2) ≡ pos 0
equal_is_not_less = refl

turned_back : turned (turned (negsuc 0)) ≡ negsuc 0
turned_back = refl

choose_first : choose (negsuc 0) (pos 5) (pos 7) ≡ pos 5
choose_first = refl
