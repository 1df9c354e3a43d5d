-- A place that left a loop isn't changed by later turns of others.
use Rattle.std.proofs.Common.{ℕ, Bool}
use Rattle.grid_code.specs.declared.code.Register.{Register}
use Rattle.grid_code.specs.Code.{Block}
use Rattle.grid_code.specs.Masked.{Ground, going, masked}
use Rattle.grid_code.specs.Turns.{LeaverKeeps}
use Rattle.grid_code.proofs.Dead.{kept_on, turn_still, turns_still, dead}

pub leaver_keeps : (g : Ground) (c n m i : ℕ) (u : Bool) (ask : Block) (t : Register) (step body : Block) → LeaverKeeps g c n m i u ask t step body
leaver_keeps g c n m i u ask t step body =
    record {
      broke = λ s out.
          let y = dead step g c n i record s { live = s.staying } out in
          kept_on i s _ _ record { rows = λ k r. y.kept.rows k r; own = y.kept.own } (turns_still m c i u (masked ask g c n) t (masked step g c n) (masked body g c n) (λ x. dead ask g c n i x) (λ x. dead step g c n i x) (λ x. dead body g c n i x) _ y.live);
      ended = λ s out.
          let y = turn_still i u (going u t s) (masked step g c n) (masked body g c n) (λ x. dead step g c n i x) (λ x. dead body g c n i x) s out in
          kept_on i s _ _ y.1 (turns_still m c i u (masked ask g c n) t (masked step g c n) (masked body g c n) (λ x. dead ask g c n i x) (λ x. dead step g c n i x) (λ x. dead body g c n i x) _ y.0);
    }
