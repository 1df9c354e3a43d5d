-- Frames in a store, one behind the other.
use Rattle.std.specs.Prelude.{ℕ, ◌+◌, List, [], ◌∷◌, take, drop, true, false, Bool, ◌&&◌, Option, Some, None, unwrap_or, is_some, if◌then◌else◌}
use Rattle.std.specs.Str.{is_utf8}
use Rattle.outside.specs.Sink.{Written}
use Rattle.outside.specs.declared.roles.Span.{Span}

-- how much of the store they take
abbrev pub sum_of : List Span → ℕ
sum_of [] = 0
sum_of (s ∷ ss) = s.name + s.bytes + sum_of ss

-- how long the name of the open frame is, and how many are open
abbrev pub length_of : Option ℕ → ℕ
length_of current = unwrap_or current 0

abbrev pub count_of : Option ℕ → ℕ
count_of current = if is_some current then 1 else 0

-- the frame that is open behind them
abbrev pub current_in : List ℕ → Option ℕ → List Written
current_in store None = []
current_in store (Some n) = record { name = take n store; bytes = drop n store; ended = false } ∷ []

-- the ended frame at the front of the store
abbrev pub frame_at : List ℕ → Span → Written
frame_at store s = record { name = take s.name store; bytes = take s.bytes (drop s.name store); ended = true }

-- all of them
abbrev pub frames_in : List ℕ → List Span → Option ℕ → List Written
frames_in store [] current = current_in store current
frames_in store (s ∷ ss) current = frame_at store s ∷ frames_in (drop (s.name + s.bytes) store) ss current

-- their names are text
abbrev pub are_texts : List Written → Bool
are_texts [] = true
are_texts (w ∷ ws) = is_utf8 w.name && are_texts ws
