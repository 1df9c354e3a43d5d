-- The answer to a case, from what a run of its command leaves.
use Rattle.std.proofs.Common.{◌≡◌, ◌≤◌, ◌++◌, ℕ, List, [], Some, sym, subst}
use Rattle.outside.specs.Library.{Files}
use Rattle.outside.specs.Sink.{Written}
use Rattle.outside.specs.Frames.{IsFront}
use Rattle.render.specs.Run.{HasStatus, AddsFrames, AddsFirstFrames}
use Rattle.render.specs.Verdict.{pictures_of}
use Rattle.conformance.specs.Answer.{answer_text, Answers}

-- what is added to an empty sink is all that it holds
all_added : (old new added : List Written) → old ≡ [] → Some new ≡ Some (old ++ added) → new ≡ added
all_added old new added none h = cc

same_entries : (old new : List Written) → old ≡ [] → Some new ≡ Some old → new ≡ []
same_entries old new none h = cc

pub answer_is : (name : List ℕ) (words : List (List ℕ)) (files : Files) (status : ℕ) (notes text : List ℕ) (old new : List Written)
    → old ≡ [] → text ≡ answer_text name status notes new → (status ≤ 6 → HasStatus words files status)
    → (status ≡ 0 → AddsFrames words files (Some old) (Some new)) → AddsFirstFrames words files (Some old) (Some new)
    → (2 ≤ status → status ≤ 7 → Some new ≡ Some old) → Answers name words files text
answer_is name words files status notes text old new none written judged done front before = record {
  status = status;
  notes = notes;
  frames = new;
  written = written;
  judged = judged;
  done = λ z. (let d = done z in (d.0, d.1, all_added old new _ none d.2));
  front = λ v is. (let f = front v is in subst (λ ws. IsFront (pictures_of v) ws) (sym (all_added old new f.added none f.adds)) f.front);
  before = λ low high. same_entries old new none (before low high);
}
