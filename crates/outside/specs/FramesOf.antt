-- What the fields of a sink in memory hold.
use Rattle.std.specs.Prelude.{◌+◌, ◌≡◌, ◌≤◌, true, false, length, is_some, vec_capacity}
use Rattle.outside.specs.HeldFrames.{HeldFrames}
use Rattle.outside.specs.Roles.{spans_in, roles_of}
use Rattle.outside.specs.Spans.{sum_of, length_of, count_of, are_texts, frames_in}
use Rattle.outside.specs.declared.memory_sink.MemorySink.TheInside.{Inside}

abbrev pub frames_of : Inside → HeldFrames
frames_of s = record { written = frames_in s.store.items (spans_in s.roles.items) s.current; is_open = is_some s.current; room = s.left; most = s.most; log = s.calls }

-- the roles tell spans that lie in the store, the room that is left is reserved twice, and the names are text
pub record IsKept (s : Inside) : Type 0 where
  pub starts : s.start ≡ sum_of (spans_in s.roles.items)
  pub stored : s.start + length_of s.current ≤ length s.store.items
  pub whole : is_some s.current ≡ false → s.start ≡ length s.store.items
  pub store_fits : length s.store.items + s.left ≤ vec_capacity s.store
  pub told : s.roles.items ≡ roles_of (spans_in s.roles.items)
  pub roles_fit : length s.roles.items + length s.store.items + count_of s.current + s.left ≤ vec_capacity s.roles + s.start
  pub takes : 1 ≤ s.most
  pub texts : are_texts (frames_in s.store.items (spans_in s.roles.items) s.current) ≡ true
