-- The times between which something moves (RenderMan Interface 3.2, section 6, on motion).
use Rattle.std.specs.Prelude.{pos, ◌≡◌, refl, ◌&&◌, if◌then◌else◌}
use Rattle.std.specs.Ordering.{int_eq}
use Rattle.moving_maps.specs.declared.times.Times.{Times}
use Rattle.moving_maps.specs.declared.times.Times.TheVariants.{Still, Between, Mixed}

-- the times of two motions together: what stays adds none, and motions between other times have none in common
abbrev pub joined : Times → Times → Times
joined Still t = t
joined (Between a b) Still = Between a b
joined (Between a b) (Between c d) = if int_eq a c && int_eq b d then Between a b else Mixed
joined (Between a b) Mixed = Mixed
joined Mixed t = Mixed

-- worked values
the_same_times : joined (Between (pos 0) (pos 65536)) (Between (pos 0) (pos 65536)) ≡ Between (pos 0) (pos 65536)
the_same_times = refl

other_times : joined (Between (pos 0) (pos 65536)) (Between (pos 0) (pos 65535)) ≡ Mixed
other_times = refl

none_before : joined Still (Between (pos 0) (pos 65536)) ≡ Between (pos 0) (pos 65536)
none_before = refl

mixed_stays : joined Mixed (Between (pos 0) (pos 65536)) ≡ Mixed
mixed_stays = refl
