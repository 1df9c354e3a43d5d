-- A command has one verdict.
use Rattle.std.proofs.Common.{◌≡◌, refl, sym, ap, ◌∙◌, ℕ, List, [], ◌∷◌, Option, Some, None, Result, true, false}
use Rattle.outside.specs.Library.{Files}
use Rattle.outside.specs.Frames.{Picture}
use Rattle.command_line.specs.Command.{Command, OnScene, Join}
use Rattle.part_files.specs.declared.cause.JoinCause.{JoinCause}
use Rattle.part_files.specs.Parts.{first_parts}
use Rattle.part_files.proofs.Unique.{one_picture, not_none}
use Rattle.render.specs.Verdict.{Verdict, Usage, Refused, Unjoined, Accepted, Entries, IsJoinVerdict, IsVerdict, pictures_of}
use Rattle.render.specs.Run.{is_accepted}

one_entry : (name bs cs : List ℕ) (es fs : List Picture) → es ≡ record { name = name; bytes = bs } ∷ [] → fs ≡ record { name = name; bytes = cs } ∷ [] → bs ≡ cs → es ≡ fs
one_entry name bs cs es fs e f same = e ∙ ap (λ b. record { name = name; bytes = b } ∷ []) same ∙ sym f

-- what is to be written is one list
read_pictures : (name : List ℕ) (r : Result (List (List ℕ)) JoinCause) (v w : Verdict) → IsJoinVerdict name r v → IsJoinVerdict name r w → pictures_of v ≡ pictures_of w
read_pictures name r (Entries es) (Entries fs) v w = one_entry name v.0 w.0 es fs v.1 w.1 (one_picture r v.0 w.0 v.2 w.2)
read_pictures name r (Entries es) (Unjoined cause) v w = absurd (not_none r v.0 cause v.2 w)
read_pictures name r (Unjoined cause) (Entries fs) v w = absurd (not_none r w.0 cause w.2 v)
read_pictures name r (Unjoined cause) (Unjoined other) v w = refl
read_pictures name r (Entries es) Usage v w = absurd w
read_pictures name r (Entries es) (Refused cause) v w = absurd w
read_pictures name r (Entries es) (Accepted action a) v w = absurd w
read_pictures name r (Unjoined cause) Usage v w = absurd w
read_pictures name r (Unjoined cause) (Refused other) v w = absurd w
read_pictures name r (Unjoined cause) (Accepted action a) v w = absurd w
read_pictures name r Usage w v x = absurd v
read_pictures name r (Refused cause) w v x = absurd v
read_pictures name r (Accepted action a) w v x = absurd v

pub same_pictures : (command : Option Command) (files : Files) (v w : Verdict) → IsVerdict command files v → IsVerdict command files w → pictures_of v ≡ pictures_of w
same_pictures None files v w p q = ap pictures_of (p ∙ sym q)
same_pictures (Some (OnScene t)) files v w p q = ap pictures_of (p ∙ sym q)
same_pictures (Some (Join name count)) files v w p q = read_pictures name (first_parts files name count) v w p q

-- none is accepted and refused
same_not_both : (v w : Verdict) → v ≡ w → is_accepted v ≡ true → is_accepted w ≡ false → ⊥
same_not_both v w e is isnt = let same = ap is_accepted e in cc (same, is, isnt)

read_not_both : (name : List ℕ) (r : Result (List (List ℕ)) JoinCause) (v w : Verdict) → IsJoinVerdict name r v → IsJoinVerdict name r w → is_accepted v ≡ true → is_accepted w ≡ false → ⊥
read_not_both name r (Entries es) (Unjoined cause) v w is isnt = not_none r v.0 cause v.2 w
read_not_both name r (Entries es) (Entries fs) v w is isnt = absurd (cc isnt)
read_not_both name r (Entries es) Usage v w is isnt = absurd w
read_not_both name r (Entries es) (Refused cause) v w is isnt = absurd w
read_not_both name r (Entries es) (Accepted action a) v w is isnt = absurd w
read_not_both name r (Unjoined cause) x v w is isnt = absurd (cc is)
read_not_both name r Usage x v w is isnt = absurd v
read_not_both name r (Refused cause) x v w is isnt = absurd v
read_not_both name r (Accepted action a) x v w is isnt = absurd v

pub not_both : (command : Option Command) (files : Files) (v w : Verdict) → IsVerdict command files v → IsVerdict command files w → is_accepted v ≡ true → is_accepted w ≡ false → ⊥
not_both None files v w p q is isnt = same_not_both v w (p ∙ sym q) is isnt
not_both (Some (OnScene t)) files v w p q is isnt = same_not_both v w (p ∙ sym q) is isnt
not_both (Some (Join name count)) files v w p q is isnt = read_not_both name (first_parts files name count) v w p q is isnt
