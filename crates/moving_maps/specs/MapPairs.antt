-- A transformation that moves: that of the time when the motion begins, and that of its end. One formula says what a request does to
-- both, in a motion block and outside of one (RenderMan Interface 3.2, section 6).
use Rattle.std.specs.Prelude.{pos, ◌≡◌, refl, Bool, true, false, Result, Ok, Err}
use Rattle.transforms.specs.Map.{Map, before_of, identity, translation}
use Rattle.transforms.specs.Matrix.{row_product, shift_product}
use Rattle.transforms.specs.declared.fault.FormFault.{FormFault}
use Rattle.moving_maps.specs.declared.times.Times.{Times}
use Rattle.moving_maps.specs.declared.times.Times.TheVariants.{Still, Between, Mixed}
use Rattle.moving_maps.specs.declared.change.Change.{Change}
use Rattle.moving_maps.specs.declared.change.Change.TheVariants.{Before, Instead}
use Rattle.moving_maps.specs.declared.change.When.{When}
use Rattle.moving_maps.specs.declared.change.When.TheVariants.{Always, First, Last}
use Rattle.moving_maps.specs.Motion.{joined}

pub record MapPair : Type 0 where
  pub first : Map
  pub last : Map
  pub times : Times

-- what doesn't move is the same at both times
abbrev pub IsMapPair : MapPair → Type 0
IsMapPair p = p.times ≡ Still → p.first ≡ p.last

-- the pair of what doesn't move
abbrev pub still : Map → MapPair
still m = record { first = m; last = m; times = Still }

-- ---- requests

-- the map of one time behind a change: a map goes before it, or stands in its place
abbrev pub changed : Change → Map → Result Map FormFault
changed (Before m) c = before_of c m
changed (Instead m) c = Ok m

-- outside of a motion block a request is one of both times; in it the first request is that of the first time, and the second that of
-- the other
abbrev pub is_first : When → Bool
is_first Always = true
is_first (First from to) = true
is_first (Last from to) = false

-- a request changes the map of the last time
abbrev pub is_last : When → Bool
is_last Always = true
is_last (First from to) = false
is_last (Last from to) = true

-- the map of one time after a change that is of that time or isn't
abbrev pub map_behind : Bool → Change → Map → Result Map FormFault
map_behind true k c = changed k c
map_behind false k c = Ok c

-- a block's times are added; a map that stands in the place of both forgets them
abbrev pub times_behind : When → Change → Times → Times
times_behind Always (Before m) t = t
times_behind Always (Instead m) t = Still
times_behind (First from to) k t = joined t (Between from to)
times_behind (Last from to) k t = joined t (Between from to)

-- two maps with their times, or the first fault
abbrev pub pair_of : Times → Result Map FormFault → Result Map FormFault → Result MapPair FormFault
pair_of t (Err e) last = Err e
pair_of t (Ok f) (Err e) = Err e
pair_of t (Ok f) (Ok l) = Ok (record { first = f; last = l; times = t })

-- both maps behind a request
abbrev pub behind : When → Change → MapPair → Result MapPair FormFault
behind w k p = pair_of (times_behind w k p.times) (map_behind (is_first w) k p.first) (map_behind (is_last w) k p.last)

-- ---- spaces

-- one after another: at each time the map of that time does `first` and then `m`; both motions are in force
abbrev pub after_both : MapPair → MapPair → Result MapPair FormFault
after_both m first = pair_of (joined m.times first.times) (before_of m.first first.first) (before_of m.last first.last)

-- worked values: a block of two translations, and another map in the place of both behind it
abbrev times_of_block : Times
times_of_block = Between (pos 0) (pos 65536)

abbrev moved : MapPair
moved = record { first = identity; last = translation (pos 65536) (pos 0) (pos 0); times = times_of_block }

moved_by_a_block : behind (Last (pos 0) (pos 65536)) (Before (translation (pos 65536) (pos 0) (pos 0))) (still identity) ≡ Ok moved
unfolding row_product shift_product
moved_by_a_block = refl

forgotten : behind Always (Instead identity) moved ≡ Ok (still identity)
forgotten = refl

-- a block of two maps that stand in the place of the earlier ones keeps the earlier times beside its own
not_forgotten_in_a_block : behind (First (pos 0) (pos 65535)) (Instead identity) moved ≡ Ok (record moved { times = Mixed })
not_forgotten_in_a_block = refl
