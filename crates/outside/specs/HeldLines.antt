-- Notes in memory, as their callers see them.
use Rattle.std.specs.Prelude.{ℕ, ◌-◌, ◌^◌, Bool, List, [], ◌∷◌, ◌++◌, length, nat_lt, nat_le, not, ◌&&◌, if◌then◌else◌}
use Rattle.outside.specs.CallLog.{CallLog, no_calls, fails_next, called, naming}

-- the lines, how many bytes of room are left, and the calls
pub record HeldLines : Type 0 where
  pub lines : List (List ℕ)
  pub room : ℕ
  pub log : CallLog

-- nothing was said
abbrev pub no_lines : ℕ → HeldLines
no_lines room = record { lines = []; room = room; log = no_calls }

-- the nth line named to fail
abbrev pub naming_line : ℕ → HeldLines → HeldLines
naming_line n h = record { lines = h.lines; room = h.room; log = naming n h.log }

-- a line succeeds where it wasn't named to fail and its bytes fit; the number of lines itself is a number of 64 bits
abbrev pub can_say : List ℕ → HeldLines → Bool
can_say text h = not (fails_next h.log) && (nat_le (length text) h.room && nat_lt (length h.lines) (2 ^ 64 - 1))

-- after a line that succeeded or failed
abbrev pub after_line : List ℕ → Bool → HeldLines → HeldLines
after_line text ok h = record {
  lines = (if ok then h.lines ++ text ∷ [] else h.lines);
  room = (if ok then h.room - length text else h.room);
  log = called ok h.log;
}
