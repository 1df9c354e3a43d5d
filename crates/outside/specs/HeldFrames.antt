-- A sink in memory, as its callers see it.
use Rattle.std.specs.Prelude.{ℕ, ◌+◌, ◌-◌, Bool, true, false, List, [], ◌∷◌, ◌++◌, length, take, min, nat_lt, not, ◌&&◌, Result, Ok, Err}
use Rattle.outside.specs.Sink.{Written, begun, with_bytes, with_end}
use Rattle.outside.specs.CallLog.{CallLog, no_calls, fails_next, called, naming}

-- the entries, whether the last is open, how many bytes of room are left, how many one put takes at most, and the calls
pub record HeldFrames : Type 0 where
  pub written : List Written
  pub is_open : Bool
  pub room : ℕ
  pub most : ℕ
  pub log : CallLog

-- nothing is written
abbrev pub no_frames : ℕ → ℕ → HeldFrames
no_frames room most = record { written = []; is_open = false; room = room; most = most; log = no_calls }

-- the nth call of the three named to fail
abbrev pub naming_call : ℕ → HeldFrames → HeldFrames
naming_call n h = record { written = h.written; is_open = h.is_open; room = h.room; most = h.most; log = naming n h.log }

-- a begin succeeds where it wasn't named to fail, and the name and one byte more fit
abbrev pub can_begin : List ℕ → HeldFrames → Bool
can_begin name h = not (fails_next h.log) && nat_lt (length name) h.room

-- a put succeeds where it wasn't named to fail, and a byte of room is left
abbrev pub can_put : HeldFrames → Bool
can_put h = not (fails_next h.log) && nat_lt 0 h.room

-- how many bytes of a piece a put takes
abbrev pub taken_of : List ℕ → HeldFrames → ℕ
taken_of piece h = min (min (length piece) h.most) h.room

-- after a call that failed: it adds nothing, and its fault is counted
abbrev pub after_failure : HeldFrames → HeldFrames
after_failure h = record { written = h.written; is_open = h.is_open; room = h.room; most = h.most; log = called false h.log }

-- the sink after a begin: with one entry more, or with one failure more
abbrev pub after_begin : {T E : Type 0} → List ℕ → Result T E → HeldFrames → HeldFrames
after_begin name (Ok x) h = record { written = h.written ++ begun name ∷ []; is_open = true; room = h.room - (length name + 1); most = h.most; log = called true h.log }
after_begin name (Err e) h = after_failure h

-- the sink after a put: with a front of the piece at the last entry
abbrev pub after_put : {E : Type 0} → List ℕ → Result ℕ E → HeldFrames → HeldFrames
after_put piece (Ok n) h = record { written = with_bytes (take n piece) h.written; is_open = true; room = h.room - n; most = h.most; log = called true h.log }
after_put piece (Err e) h = after_failure h

-- the sink after an end: the last entry is ended
abbrev pub after_end : {T E : Type 0} → Result T E → HeldFrames → HeldFrames
after_end (Ok x) h = record { written = with_end h.written; is_open = false; room = h.room; most = h.most; log = called true h.log }
after_end (Err e) h = after_failure h
