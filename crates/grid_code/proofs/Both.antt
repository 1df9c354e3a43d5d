-- Truths that hold together.
use Rattle.std.proofs.Common.{◌≡◌, refl, Bool, true, false, ◌&&◌, ◌||◌, arith}

pub both : (a b : Bool) → a ≡ true → b ≡ true → (a && b) ≡ true
both true b h g = g
both false b h g = h

pub left : (a b : Bool) → (a && b) ≡ true → a ≡ true
left true b h = refl
left false b h = h

pub right : (a b : Bool) → (a && b) ≡ true → b ≡ true
right true b h = h
right false b h = grind (arith, h)

pub or_two : (a b x y : Bool) → a || (b || (x || y)) ≡ (a || (b || x)) || y
or_two true b x y = refl
or_two false true x y = refl
or_two false false x y = refl

pub or_three : (a b d x y : Bool) → a || (b || (d || (x || y))) ≡ (a || (b || (d || x))) || y
or_three true b d x y = refl
or_three false b d x y = or_two b d x y
