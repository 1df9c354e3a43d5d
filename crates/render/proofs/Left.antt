-- What every answer leaves in the sink.
use Rattle.std.proofs.Common.{◌≡◌, ap, subst, ℕ, zero, suc, ⊎_elim, arith, List, [], Option, Some, None}
use Rattle.outside.specs.Causes.{Told}
use Rattle.outside.specs.Library.{Files}
use Rattle.outside.specs.Sink.{Written}
use Rattle.outside.specs.Frames.{Picture, Adds, AddsFront}
use Rattle.outside.proofs.Entries.{front-none}
use Rattle.command_line.specs.Command.{Command, OnScene, Join}
use Rattle.render.specs.Verdict.{Verdict, IsVerdict, IsNone, pictures_of}
use Rattle.render.specs.Course.{Ends}
use Rattle.render.specs.Answers.{Fails, Obeys}
use Rattle.render.specs.declared.program.Answer.{Answer}
use Rattle.render.proofs.Courses.{front-ends}
use Rattle.render.proofs.Verdicts.{same_pictures}

-- where nothing is to be written, nothing was added
nothing : (n : ℕ) (qs : List Picture) (x y : Option (List Written)) → Ends n [] x y → AddsFront qs x y
nothing zero qs x y e = record { added = []; adds = subst (λ ws. Adds ws x y) e.begun e.adds; front = front-none qs }
nothing (suc n) qs x y e = absurd (let few = e.few in omega (arith, few))

none_entries : (command : Option Command) (v : Verdict) → IsNone command v → pictures_of v ≡ []
none_entries None v none = absurd none
none_entries (Some (OnScene t)) v none = absurd none
none_entries (Some (Join name count)) v none = ap pictures_of none

pub leaves-told : (command : Option Command) (held : Option Files) (a : Answer) (x y : Option (List Written)) (lines lines_then : Option (List (List ℕ))) (m n : ℕ)
    → Obeys command held a x y lines lines_then m n → Told held (λ files. (v : Verdict) → IsVerdict command files v → AddsFront (pictures_of v) x y)
leaves-told command None a x y lines lines_then m n o = tt
leaves-told command (Some files) a x y lines lines_then m n o = λ v is.
    ⊎_elim
    (λ (known : IsVerdict command files o.verdict). subst (λ ps. AddsFront ps x y) (same_pictures command files o.verdict v known is) (front-ends o.ended (pictures_of o.verdict) x y o.ends))
    (λ (none : IsNone command o.verdict × Fails a). nothing o.ended (pictures_of v) x y (subst (λ ps. Ends o.ended ps x y) (none_entries command o.verdict none.0) o.ends))
    o.known
