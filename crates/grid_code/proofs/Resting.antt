-- What a run of code leaves to places that aren't live.
use Rattle.std.proofs.Common.{◌≡◌, ℕ, ◌<◌, false}
use Rattle.grid_code.specs.Code.{Block}
use Rattle.grid_code.specs.Masked.{Ground, State, masked}
use Rattle.grid_code.specs.Turns.{Rests, AllRest}
use Rattle.grid_code.proofs.Asleep.{asleep}
use Rattle.grid_code.proofs.Dead.{dead}

pub rests : (x : Block) (i : ℕ) (g : Ground) (c n : ℕ) (s : State) → s.live i ≡ false → Rests i s (masked x g c n s)
rests x i g c n s h = let y = dead x g c n i s h in record { live = y.live; kept = y.kept }

pub all_rest : (x : Block) (g : Ground) (c n : ℕ) (s : State) → ((i : ℕ) → i < c → s.live i ≡ false) → AllRest c s (masked x g c n s)
all_rest x g c n s h =
    let y = asleep x g c n s h in
    record { each = λ i l. record { rows = λ t k. y.rows t k i l; own = y.own i l }; shared = y.shared; turns = y.turns }
