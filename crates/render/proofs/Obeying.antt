-- The course of a run, from what a command comes to.
use Rattle.std.proofs.Common.{◌≡◌, ◌≢◌, refl, sym, ap, ◌∙◌, subst, ℕ, suc, ◌+◌, ◌<◌, ◌≤◌, ◌⊎◌, inl, inr, ⊎_elim, List, [], ◌∷◌, length, map, take, get_or, cond, true, Option, Some, None, Result, Ok, Err, option_map, String, arith}
use Rattle.std.specs.Prelude.{codes, string_bytes, filter_map, OnOk, OnErr, IfOk, IfErr, IsErrAnd}
use Rattle.std.specs.declared.alloc.Global.{Global}
use Rattle.std.proofs.lemmas.Bool.{lt-ltb}
use Rattle.fixed_math.specs.declared.memory.NoMemory.{NoMemory as NoMemoryError}
use Rattle.outside.specs.Causes.{Told}
use Rattle.outside.specs.Library.{Files}
use Rattle.outside.specs.Sink.{Written}
use Rattle.outside.specs.Frames.{Picture, whole, Adds, AddsPart}
use Rattle.outside.specs.NoteLines.{Says}
use Rattle.outside.proofs.Saying.{says-none, says-more}
use Rattle.shader_binding.specs.Sets.{AcceptedValue}
use Rattle.scene.specs.Scene.{FrameValue}
use Rattle.command_line.specs.declared.command.RunOptions.{RunOptions}
use Rattle.command_line.specs.declared.command.Action.{Action}
use Rattle.command_line.specs.declared.command.Action.TheVariants.{Render, Check, Part}
use Rattle.command_line.specs.Command.{SceneTask, Command, OnScene, Join, command_of}
use Rattle.buckets.specs.declared.limits.DrawFault.{DrawFault}
use Rattle.buckets.specs.declared.limits.DrawFault.TheVariants as drawing
use Rattle.acceptance.specs.Causes as causes
use Rattle.acceptance.specs.Causes.{Cause, Reads}
use Rattle.acceptance.specs.Answers.{Because}
use Rattle.acceptance.specs.Codes.{status_of_code}
use Rattle.acceptance.specs.declared.refusal.Refusal.{Refusal}
use Rattle.acceptance.specs.declared.refusal.Refusal.TheVariants as refusals
use Rattle.render.specs.declared.program.Answer.{Answer}
use Rattle.render.specs.declared.program.Answer.TheVariants as answers
use Rattle.buckets.specs.Pictures.{picture_of}
use Rattle.render.specs.Pictures.{frames_of}
use Rattle.render.specs.Summary.{summary_of}
use Rattle.part_files.specs.Parts.{status_of_join_code, first_parts, MakePicture}
use Rattle.part_files.specs.declared.cause.JoinCause.{JoinCause}
use Rattle.part_files.specs.declared.cause.JoinCause.TheVariants as joins
use Rattle.acceptance.specs.Accepting.{accepted}
use Rattle.render.specs.Verdict.{Verdict, Usage, Refused, Unjoined, Accepted, Entries, text_of_source, verdict_of_accepted, verdict_of_text, verdict_of_scene, IsVerdict, IsOfKind, IsNone, status_of, pictures_of}
use Rattle.render.specs.Run.{is_accepted, joins_parts}
use Rattle.render.specs.Lines.{first_summaries, summaries_of, scene_of, status_lines, refusal_lines, failure_lines}
use Rattle.render.specs.Course.{Ends, Course}
use Rattle.render.specs.declared.load.Loaded.{Loaded}
use Rattle.render.specs.Notes.{scene_name}
use Rattle.render.specs.Answers.{accepted_in, LoadsNamed, IsOf, IsFaultAt, Fails, Knows, Obeys, DrawsInPart, EndsSome, LeavesFrame, ComesBefore, cause_of, number_of, answer_lines, note_lines, lines_in}
use Rattle.render.proofs.Courses.{ends-none, ends-all, ends-part, ends-next-part, ends-next-all, whole-ends}

-- the verdict where it is told, whichever otherwise; on parts, that there is none
abbrev verdict_told : Option Command → Option Files → Verdict
verdict_told None held = Usage
verdict_told (Some (OnScene t)) None = Refused (causes.Missing [])
verdict_told (Some (OnScene t)) (Some files) = verdict_of_scene t files
verdict_told (Some (Join name count)) held = Entries []

-- it is one that the command can have
abbrev IsOwn : Option Command → Answer → Verdict → Type 0
IsOwn command a v = IsOfKind command v ⊎ (IsNone command v × Fails a)

refused-own : (t : SceneTask) (a : Answer) (cause : Cause) → IsOwn (Some (OnScene t)) a (Refused cause)
refused-own t a cause = inl ([], Err cause, refl)

pub accepted-kind : (t : SceneTask) (wanted : Action) (text : List ℕ) (s : AcceptedValue) → t.action ≡ wanted → IsOfKind (Some (OnScene t)) (verdict_of_accepted wanted t.options text s)
accepted-kind t wanted text s is = (text, Ok s, ap (λ w. verdict_of_accepted w t.options text s) (sym is))

accepted-own : (t : SceneTask) (a : Answer) (wanted : Action) (text : List ℕ) (s : AcceptedValue) → t.action ≡ wanted → IsOwn (Some (OnScene t)) a (verdict_of_accepted wanted t.options text s)
accepted-own t a wanted text s is = inl (accepted-kind t wanted text s is)

text-own : (t : SceneTask) (a : Answer) (files : Files) (read : Reads (List ℕ)) → IsOwn (Some (OnScene t)) a (verdict_of_text t.action t.options files read)
text-own t a files (Ok text) = inl (text, accepted files text, refl)
text-own t a files (Err cause) = refused-own t a cause

told-own : (command : Option Command) (held : Option Files) (a : Answer) → Fails a → IsOwn command a (verdict_told command held)
told-own None held a fails = inl refl
told-own (Some (OnScene t)) None a fails = refused-own t a (causes.Missing [])
told-own (Some (OnScene t)) (Some files) a fails = text-own t a files (text_of_source files t.source)
told-own (Some (Join name count)) held a fails = inr (refl, fails)

told_itself : (command : Option Command) (held : Option Files) (a : Answer) → Fails a → Told held (λ files. Knows command a files (verdict_told command held))
told_itself command None a fails = tt
told_itself None (Some files) a fails = inl refl
told_itself (Some (OnScene t)) (Some files) a fails = inl refl
told_itself (Some (Join name count)) (Some files) a fails = inr (refl, fails)

-- what is told of the verdict is what is known
known : (command : Option Command) (held : Option Files) (a : Answer) (v : Verdict) → Told held (λ files. IsVerdict command files v) → Told held (λ files. Knows command a files v)
known command None a v h = tt
known command (Some files) a v h = inl h

-- of a command on a scene
flipped : (t : SceneTask) (held : Option Files) (v : Verdict) → Told held (λ files. verdict_of_scene t files ≡ v) → Told held (λ files. IsVerdict (Some (OnScene t)) files v)
flipped t None v h = tt
flipped t (Some files) v h = sym h

refused-of : (v : Verdict) (cause : Cause) → cause_of v ≡ Some cause → v ≡ Refused cause
refused-of Usage cause h = absurd (cc h)
refused-of (Refused other) cause h = let same : other ≡ cause = cc h in ap (λ c. Refused c) same
refused-of (Unjoined other) cause h = absurd (cc h)
refused-of (Accepted action a) cause h = absurd (cc h)
refused-of (Entries entries) cause h = absurd (cc h)

refused-told : (t : SceneTask) (held : Option Files) (cause : Cause) → Told held (λ files. cause_of (verdict_of_scene t files) ≡ Some cause) → Told held (λ files. verdict_of_scene t files ≡ Refused cause)
refused-told t None cause h = tt
refused-told t (Some files) cause h = refused-of (verdict_of_scene t files) cause h

summaries-none : (command : Option Command) (v : Verdict) → summaries_of command v 0 ≡ []
summaries-none None v = refl
summaries-none (Some (Join name count)) v = refl
summaries-none (Some (OnScene t)) Usage = refl
summaries-none (Some (OnScene t)) (Refused cause) = refl
summaries-none (Some (OnScene t)) (Unjoined cause) = refl
summaries-none (Some (OnScene t)) (Entries entries) = refl
summaries-none (Some (OnScene t)) (Accepted Check a) = refl
summaries-none (Some (OnScene t)) (Accepted Render a) = refl
summaries-none (Some (OnScene t)) (Accepted (Part part count) a) = refl

-- nothing was drawn, and nothing said
begins : (command : Option Command) (held : Option Files) (a : Answer) (v : Verdict) (x : Option (List Written)) (lines : Option (List (List ℕ))) (n : ℕ)
    → Told held (λ files. Knows command a files v) → IsOwn command a v → IsOf (scene_of command) a v → (a ≡ answers.Done → 0 ≡ length (pictures_of v)) → Obeys command held a x x lines lines n n
begins command held a v x lines n knows own is_of all = record {
  verdict = v;
  known = knows;
  own = own;
  is_of = is_of;
  ended = 0;
  ends = ends-none (pictures_of v) x;
  all = all;
  none = λ before. refl;
  unjoined = λ joins undone. refl;
  told = 0;
  behind = inl refl;
  says = subst (λ ls. Says ls lines lines n n) (sym (summaries-none command v)) (says-none lines n);
}

-- memory ran out before there was a verdict, or the library failed
pub obeys-nothing : (command : Option Command) (held : Option Files) (x : Option (List Written)) (lines : Option (List (List ℕ))) (n : ℕ) → Obeys command held answers.NoMemory x x lines lines n n
obeys-nothing command held x lines n = begins command held answers.NoMemory (verdict_told command held) x lines n (told_itself command held answers.NoMemory tt) (told-own command held answers.NoMemory tt) tt (λ e. absurd (cc e))

pub obeys-unread : (command : Option Command) (held : Option Files) (x : Option (List Written)) (lines : Option (List (List ℕ))) (n : ℕ) → Obeys command held (answers.Refused refusals.ReadFault) x x lines lines n n
obeys-unread command held x lines n =
    begins command held (answers.Refused refusals.ReadFault) (verdict_told command held) x lines n (told_itself command held (answers.Refused refusals.ReadFault) tt) (told-own command held (answers.Refused refusals.ReadFault) tt) tt (λ e. absurd (cc e))

-- a scene that is refused
pub obeys-refused : (t : SceneTask) (held : Option Files) (r : Refusal) (x : Option (List Written)) (lines : Option (List (List ℕ))) (n : ℕ)
    → Told held (λ files. Because r (cause_of (verdict_of_scene t files))) → Obeys (Some (OnScene t)) held (answers.Refused r) x x lines lines n n
obeys-refused t held (refusals.Missing file) x lines n because =
    begins (Some (OnScene t)) held (answers.Refused (refusals.Missing file)) (Refused (causes.Missing file)) x lines n
    (known (Some (OnScene t)) held (answers.Refused (refusals.Missing file)) (Refused (causes.Missing file)) (flipped t held (Refused (causes.Missing file)) (refused-told t held (causes.Missing file) because))) (refused-own t (answers.Refused (refusals.Missing file)) (causes.Missing file)) refl (λ e. absurd (cc e))
obeys-refused t held (refusals.At file line code) x lines n because =
    begins (Some (OnScene t)) held (answers.Refused (refusals.At file line code)) (Refused (causes.At file line code)) x lines n
    (known (Some (OnScene t)) held (answers.Refused (refusals.At file line code)) (Refused (causes.At file line code)) (flipped t held (Refused (causes.At file line code)) (refused-told t held (causes.At file line code) because))) (refused-own t (answers.Refused (refusals.At file line code)) (causes.At file line code)) refl (λ e. absurd (cc e))
obeys-refused t held refusals.ReadFault x lines n because = obeys-unread (Some (OnScene t)) held x lines n
obeys-refused t held refusals.NoMemory x lines n because =
    begins (Some (OnScene t)) held (answers.Refused refusals.NoMemory) (verdict_told (Some (OnScene t)) held) x lines n (told_itself (Some (OnScene t)) held (answers.Refused refusals.NoMemory) tt)
    (told-own (Some (OnScene t)) held (answers.Refused refusals.NoMemory) tt) tt (λ e. absurd (cc e))

-- a scene that isn't there, words that are no command
pub obeys-missing : (t : SceneTask) (held : Option Files) (o : Option Loaded) (x : Option (List Written)) (lines : Option (List (List ℕ))) (n : ℕ) → o ≡ None
    → Told held (λ files. LoadsNamed (scene_name t.source) t (Ok o) (verdict_of_scene t files)) → Obeys (Some (OnScene t)) held answers.NoScene x x lines lines n n
obeys-missing t held o x lines n is h =
    let missing : Verdict = Refused (causes.Missing (scene_name t.source)) in
    begins (Some (OnScene t)) held answers.NoScene missing x lines n
    (known (Some (OnScene t)) held answers.NoScene missing (flipped t held missing (missing-told held h)))
    (refused-own t answers.NoScene (causes.Missing (scene_name t.source))) refl (λ e. absurd (cc e))
  where
    missing-told : (held : Option Files) → Told held (λ files. LoadsNamed (scene_name t.source) t (Ok o) (verdict_of_scene t files))
        → Told held (λ files. verdict_of_scene t files ≡ Refused (causes.Missing (scene_name t.source)))
    missing-told None h = tt
    missing-told (Some files) h = subst (λ (p : Option Loaded). LoadsNamed (scene_name t.source) t (Ok p) (verdict_of_scene t files)) is h

pub obeys-usage : (command : Option Command) (held : Option Files) (x : Option (List Written)) (lines : Option (List (List ℕ))) (n : ℕ) → command ≡ None → Obeys command held answers.Usage x x lines lines n n
obeys-usage command held x lines n is =
    subst (λ c. Obeys c held answers.Usage x x lines lines n n) (sym is) (begins None held answers.Usage Usage x lines n (known None held answers.Usage Usage (usage-told held)) (inl refl) refl (λ e. absurd (cc e)))
  where
    usage-told : (held : Option Files) → Told held (λ files. Usage ≡ Usage)
    usage-told None = tt
    usage-told (Some files) = refl

-- the scene that a command loads is that of its verdict
pub loaded : (t : SceneTask) (held : Option Files) (wanted : Action) (o : Option Loaded) (l : Loaded) → o ≡ Some l → t.action ≡ wanted
    → Told held (λ files. LoadsNamed (scene_name t.source) t (Ok o) (verdict_of_scene t files)) → Told held (λ files. verdict_of_scene t files ≡ verdict_of_accepted wanted t.options l.text.items (accepted_in l.accepted))
loaded t None wanted o l is same h = tt
loaded t (Some files) wanted o l is same h =
    let told : verdict_of_scene t files ≡ verdict_of_accepted t.action t.options l.text.items (accepted_in l.accepted) =
    subst (λ p. LoadsNamed (scene_name t.source) t (Ok p) (verdict_of_scene t files)) is h in
    told ∙ ap (λ w. verdict_of_accepted w t.options l.text.items (accepted_in l.accepted)) same

-- an accepted scene that is checked
pub obeys-check : (t : SceneTask) (held : Option Files) (a : AcceptedValue) (x : Option (List Written)) (lines : Option (List (List ℕ))) (n : ℕ)
    → t.action ≡ Check → Told held (λ files. verdict_of_scene t files ≡ Accepted Check a) → Obeys (Some (OnScene t)) held answers.Done x x lines lines n n
obeys-check t held a x lines n is h =
    begins (Some (OnScene t)) held answers.Done (Accepted Check a) x lines n (known (Some (OnScene t)) held answers.Done (Accepted Check a) (flipped t held (Accepted Check a) h))
    (accepted-own t answers.Done Check [] a is) refl (λ e. refl)

-- entries that are to be written: all of them, or some first ones
summaries-entries : (command : Option Command) (es : List Picture) (told : ℕ) → summaries_of command (Entries es) told ≡ []
summaries-entries None es told = refl
summaries-entries (Some (Join name count)) es told = refl
summaries-entries (Some (OnScene t)) es told = refl

pub obeys-whole : (command : Option Command) (held : Option Files) (a : Answer) (es : List Picture) (x y : Option (List Written)) (lines : Option (List (List ℕ))) (n : ℕ)
    → IsOf (scene_of command) a (Entries es) → (ComesBefore a → ⊥) → (joins_parts command ≡ true → a ≢ answers.Done → length es ≡ 0)
    → Told held (λ files. IsVerdict command files (Entries es)) → IsOfKind command (Entries es) → Adds (map whole es) x y → Obeys command held a x y lines lines n n
obeys-whole command held a es x y lines n is begun joined h own added = record {
  verdict = Entries es;
  known = known command held a (Entries es) h;
  own = inl own;
  is_of = is;
  ended = length es;
  ends = ends-all es x y added;
  all = λ e. refl;
  none = λ before. absurd (begun before);
  unjoined = joined;
  told = length es;
  behind = inl refl;
  says = subst (λ ls. Says ls lines lines n n) (sym (summaries-entries command es (length es))) (says-none lines n);
}

pub obeys-entries : (command : Option Command) (held : Option Files) (es : List Picture) (x y : Option (List Written)) (lines : Option (List (List ℕ))) (n : ℕ)
    → Told held (λ files. IsVerdict command files (Entries es)) → IsOfKind command (Entries es) → Adds (map whole es) x y → Obeys command held answers.Done x y lines lines n n
obeys-entries command held es x y lines n h own added = obeys-whole command held answers.Done es x y lines n refl (λ begun. begun) (λ joins undone. absurd (undone refl)) h own added

-- some first ones of a scene
pub obeys-entries-unwritten : (t : SceneTask) (held : Option Files) (es : List Picture) (x y : Option (List Written)) (lines : Option (List (List ℕ))) (n : ℕ)
    → Told held (λ files. IsVerdict (Some (OnScene t)) files (Entries es)) → IsOfKind (Some (OnScene t)) (Entries es) → EndsSome es x y → Obeys (Some (OnScene t)) held answers.WriteFault x y lines lines n n
obeys-entries-unwritten t held es x y lines n h own some = record {
  verdict = Entries es;
  known = known (Some (OnScene t)) held answers.WriteFault (Entries es) h;
  own = inl own;
  is_of = refl;
  ended = some.ended;
  ends = some.ends;
  all = λ e. absurd (cc e);
  none = λ before. absurd before;
  unjoined = λ joins undone. absurd (cc joins);
  told = some.ended;
  behind = inl refl;
  says = says-none lines n;
}

pub obeys-entries-out-of-memory : (t : SceneTask) (held : Option Files) (es : List Picture) (x y : Option (List Written)) (lines : Option (List (List ℕ))) (n : ℕ)
    → Told held (λ files. IsVerdict (Some (OnScene t)) files (Entries es)) → IsOfKind (Some (OnScene t)) (Entries es) → EndsSome es x y → Obeys (Some (OnScene t)) held answers.NoMemory x y lines lines n n
obeys-entries-out-of-memory t held es x y lines n h own some = record {
  verdict = Entries es;
  known = known (Some (OnScene t)) held answers.NoMemory (Entries es) h;
  own = inl own;
  is_of = tt;
  ended = some.ended;
  ends = some.ends;
  all = λ e. absurd (cc e);
  none = λ before. absurd before;
  unjoined = λ joins undone. absurd (cc joins);
  told = some.ended;
  behind = inl refl;
  says = says-none lines n;
}

-- parts of the frames of a scene
pub entries-told : (t : SceneTask) (held : Option Files) (es : List Picture) → Told held (λ files. verdict_of_scene t files ≡ Entries es) → Told held (λ files. IsVerdict (Some (OnScene t)) files (Entries es))
entries-told t held es h = flipped t held (Entries es) h

-- the picture that parts make
pub joins-told : (held : Option Files) (name : List ℕ) (count : ℕ) (bytes : List ℕ) → Told held (λ files. MakePicture (first_parts files name count) bytes)
    → Told held (λ files. IsVerdict (Some (Join name count)) files (Entries (record { name = name; bytes = bytes } ∷ [])))
joins-told None name count bytes h = tt
joins-told (Some files) name count bytes h = (bytes, refl, h)

-- of which a part was put
pub obeys-picture-unwritten : (held : Option Files) (name : List ℕ) (count : ℕ) (bytes : List ℕ) (x y : Option (List Written)) (lines : Option (List (List ℕ))) (n : ℕ)
    → Told held (λ files. MakePicture (first_parts files name count) bytes) → AddsPart (record { name = name; bytes = bytes }) x y → Obeys (Some (Join name count)) held answers.WriteFault x y lines lines n n
obeys-picture-unwritten held name count bytes x y lines n h part =
    let p : Picture = record { name = name; bytes = bytes } in
    record {
      verdict = Entries (p ∷ []);
      known = known (Some (Join name count)) held answers.WriteFault (Entries (p ∷ [])) (joins-told held name count bytes h);
      own = inl (bytes, refl);
      is_of = refl;
      ended = 0;
      ends = ends-part p x y part;
      all = λ e. absurd (cc e);
      none = λ before. refl;
      unjoined = λ joins undone. refl;
      told = 0;
      behind = inl refl;
      says = says-none lines n;
    }

-- parts that aren't joined
pub obeys-unjoined : (name : List ℕ) (count : ℕ) (held : Option Files) (cause : JoinCause) (x : Option (List Written)) (lines : Option (List (List ℕ))) (n : ℕ)
    → Told held (λ files. IsVerdict (Some (Join name count)) files (Unjoined cause)) → Obeys (Some (Join name count)) held (answers.Unjoined cause) x x lines lines n n
obeys-unjoined name count held cause x lines n h =
    begins (Some (Join name count)) held (answers.Unjoined cause) (Unjoined cause) x lines n (known (Some (Join name count)) held (answers.Unjoined cause) (Unjoined cause) h) (inl tt) refl (λ e. absurd (cc e))

length-frames : (a : AcceptedValue) → length (frames_of a) ≡ length a.scene.frames
length-frames a = by a.scene.frames
  where
    by : (fs : List FrameValue) → length (map (picture_of a) fs) ≡ length fs
    by [] = refl
    by (f ∷ fs) = ap suc (by fs)

-- one whose frames are drawn: all of them
pub obeys-drawn : (t : SceneTask) (held : Option Files) (a : AcceptedValue) (x y : Option (List Written)) (lines lines_then : Option (List (List ℕ))) (m n : ℕ)
    → t.action ≡ Render → Told held (λ files. verdict_of_scene t files ≡ Accepted Render a) → Adds (map whole (frames_of a)) x y
    → Says (first_summaries t.options a (length a.scene.frames)) lines lines_then m n → Obeys (Some (OnScene t)) held answers.Done x y lines lines_then m n
obeys-drawn t held a x y lines lines_then m n wanted h drawn said = record {
  verdict = Accepted Render a;
  known = known (Some (OnScene t)) held answers.Done (Accepted Render a) (flipped t held (Accepted Render a) h);
  own = accepted-own t answers.Done Render [] a wanted;
  is_of = refl;
  ended = length (frames_of a);
  ends = ends-all (frames_of a) x y drawn;
  all = λ e. refl;
  none = λ before. absurd before;
  unjoined = λ joins undone. absurd (cc joins);
  told = length a.scene.frames;
  behind = inl (sym (length-frames a));
  says = said;
}

-- some first ones
pub obeys-unwritten : (t : SceneTask) (held : Option Files) (a : AcceptedValue) (fault : DrawFault) (x y : Option (List Written)) (lines lines_then : Option (List (List ℕ))) (m n : ℕ)
    → t.action ≡ Render → fault ≡ drawing.WriteFault → Told held (λ files. verdict_of_scene t files ≡ Accepted Render a) → DrawsInPart t.options a fault x y lines lines_then m n
    → Obeys (Some (OnScene t)) held answers.WriteFault x y lines lines_then m n
obeys-unwritten t held a fault x y lines lines_then m n wanted is h d = record {
  verdict = Accepted Render a;
  known = known (Some (OnScene t)) held answers.WriteFault (Accepted Render a) (flipped t held (Accepted Render a) h);
  own = accepted-own t answers.WriteFault Render [] a wanted;
  is_of = refl;
  ended = d.ended;
  ends = d.draws.ends;
  all = λ e. absurd (cc e);
  none = λ before. absurd before;
  unjoined = λ joins undone. absurd (cc joins);
  told = d.told;
  behind = ⊎_elim (λ (e : d.told ≡ d.ended). inl e) (λ (w : (fault ≡ drawing.NoMemory) × (d.told + 1 ≡ d.ended)). absurd (cc (is, w.0))) d.behind;
  says = d.draws.says;
}

pub obeys-out-of-memory : (t : SceneTask) (held : Option Files) (a : AcceptedValue) (fault : DrawFault) (x y : Option (List Written)) (lines lines_then : Option (List (List ℕ))) (m n : ℕ)
    → t.action ≡ Render → Told held (λ files. verdict_of_scene t files ≡ Accepted Render a) → DrawsInPart t.options a fault x y lines lines_then m n
    → Obeys (Some (OnScene t)) held answers.NoMemory x y lines lines_then m n
obeys-out-of-memory t held a fault x y lines lines_then m n wanted h d = record {
  verdict = Accepted Render a;
  known = known (Some (OnScene t)) held answers.NoMemory (Accepted Render a) (flipped t held (Accepted Render a) h);
  own = accepted-own t answers.NoMemory Render [] a wanted;
  is_of = tt;
  ended = d.ended;
  ends = d.draws.ends;
  all = λ e. absurd (cc e);
  none = λ before. absurd before;
  unjoined = λ joins undone. absurd (cc joins);
  told = d.told;
  behind = ⊎_elim (λ (e : d.told ≡ d.ended). inl e) (λ (w : (fault ≡ drawing.NoMemory) × (d.told + 1 ≡ d.ended)). inr (refl, w.1)) d.behind;
  says = d.draws.says;
}

-- what a drawing leaves that fails at a frame behind i whole ones
draws-at : (o : RunOptions) (a : AcceptedValue) (fault : DrawFault) (i : ℕ) (f : FrameValue) (x y z : Option (List Written)) (lines lines_then : Option (List (List ℕ))) (m n : ℕ)
    → i < length a.scene.frames → f ≡ get_or a.scene.frames i f → Adds (map whole (map (picture_of a) (take i a.scene.frames))) x y → LeavesFrame fault (picture_of a f) y z
    → Says (first_summaries o a i) lines lines_then m n → DrawsInPart o a fault x z lines lines_then m n
draws-at o a fault i f x y z lines lines_then m n lt is first left said =
    ⊎_elim
    (λ (none : left.ended ≡ 0). by_part (subst (λ k. Ends k (picture_of a f ∷ []) y z) none left.ends))
    (λ (all : (fault ≡ drawing.NoMemory) × (left.ended ≡ 1)). by_whole all.0 (subst (λ k. Ends k (picture_of a f ∷ []) y z) all.1 left.ends))
    left.behind
  where
    by_part : Ends 0 (picture_of a f ∷ []) y z → DrawsInPart o a fault x z lines lines_then m n
    by_part e = record {
      ended = i;
      told = i;
      draws = record { ends = ends-next-part (picture_of a) a.scene.frames i f x y z lt is first e; says = said };
      behind = inl refl;
    }

    by_whole : fault ≡ drawing.NoMemory → Ends 1 (picture_of a f ∷ []) y z → DrawsInPart o a fault x z lines lines_then m n
    by_whole full e = record {
      ended = i + 1;
      told = i;
      draws = record { ends = ends-next-all (picture_of a) a.scene.frames i f x y z lt is first e; says = said };
      behind = inr (full, refl);
    }

pub draws-in-part : (o : RunOptions) (a : AcceptedValue) (fault : DrawFault) (fs : List FrameValue) (i : ℕ) (f : FrameValue) (x y z : Option (List Written)) (lines lines_then : Option (List (List ℕ))) (m n : ℕ)
    → fs ≡ a.scene.frames → i < length fs → f ≡ get_or fs i f → Adds (map whole (map (picture_of a) (take i fs))) x y → LeavesFrame fault (picture_of a f) y z
    → Says (filter_map (summary_of o a) (take i fs)) lines lines_then m n → DrawsInPart o a fault x z lines lines_then m n
draws-in-part o a fault fs i f x y z lines lines_then m n same lt is first left said =
    draws-at o a fault i f x y z lines lines_then m n
    (subst (λ gs. i < length gs) same lt)
    (subst (λ gs. f ≡ get_or gs i f) same is)
    (subst (λ gs. Adds (map whole (map (picture_of a) (take i gs))) x y) same first)
    left
    (subst (λ gs. Says (filter_map (summary_of o a) (take i gs)) lines lines_then m n) same said)

-- what fails before the first frame leaves nothing
pub draws-none : {T : Type 0} (r : Result T DrawFault) (o : RunOptions) (a : AcceptedValue) (x : Option (List Written)) (lines : Option (List (List ℕ))) (n : ℕ) → IfErr r (λ e. DrawsInPart o a e x x lines lines n n)
draws-none (Ok u) o a x lines n = tt
draws-none (Err e) o a x lines n = record { ended = 0; told = 0; draws = record { ends = ends-none (frames_of a) x; says = says-none lines n }; behind = inl refl }

pub some-none : {T E : Type 0} (r : Result T E) (ps : List Picture) (x : Option (List Written)) → OnErr r (EndsSome ps x x)
some-none (Ok u) ps x = tt
some-none (Err e) ps x = record { ended = 0; ends = ends-none ps x }

-- what holds of the error that is handed on
pub of-error : {T E : Type 0} (r : Result T E) (given : E) (P : E → Type 0) → IsErrAnd r (λ e. e ≡ given) → P given → IfErr r P
of-error (Ok u) given P is p = tt
of-error (Err e) given P is p = subst P (sym is) p

-- what an answer's verdict has for its status
caused : (scene : List ℕ) (a : Answer) (v : Verdict) → IsOf scene a v → number_of a ≤ 6 → status_of v ≡ number_of a
caused scene answers.Done (Accepted action s) is few = refl
caused scene answers.Done (Entries entries) is few = refl
caused scene answers.Done (Unjoined cause) is few = absurd (cc is)
caused scene answers.Done Usage is few = absurd (cc is)
caused scene answers.Done (Refused cause) is few = absurd (cc is)
caused scene answers.Usage v is few = ap status_of is
caused scene answers.NoScene v is few = ap status_of is
caused scene (answers.Unjoined cause) v is few = ap status_of is
caused scene (answers.Refused (refusals.Missing file)) v is few = ap status_of is
caused scene (answers.Refused (refusals.At file line code)) v is few = ap status_of is
caused scene (answers.Refused refusals.ReadFault) v is few = absurd (omega (arith, few))
caused scene (answers.Refused refusals.NoMemory) v is few = absurd (omega (arith, few))
caused scene answers.WriteFault v is few = absurd (omega (arith, few))
caused scene answers.NoMemory v is few = absurd (omega (arith, few))

abbrev Between : Answer → Type 0
Between a = IsFaultAt a → (3 ≤ number_of a) × (number_of a ≤ 5)

accepted-by : (scene : List ℕ) (a : Answer) (v : Verdict) → IsOf scene a v → Between a → number_of a ≡ 8 → is_accepted v ≡ true
accepted-by scene answers.Done v is between eight = is
accepted-by scene answers.WriteFault v is between eight = is
accepted-by scene answers.Usage v is between eight = absurd (omega (arith, eight))
accepted-by scene answers.NoScene v is between eight = absurd (omega (arith, eight))
accepted-by scene (answers.Unjoined (joins.Missing part)) v is between eight = absurd (omega (arith, eight))
accepted-by scene (answers.Unjoined (joins.At part code)) v is between eight = let b = between tt in absurd (omega (arith, eight, b.1))
accepted-by scene (answers.Refused (refusals.Missing file)) v is between eight = absurd (omega (arith, eight))
accepted-by scene (answers.Refused (refusals.At file line code)) v is between eight = let b = between tt in absurd (omega (arith, eight, b.1))
accepted-by scene (answers.Refused refusals.ReadFault) v is between eight = absurd (omega (arith, eight))
accepted-by scene (answers.Refused refusals.NoMemory) v is between eight = absurd (omega (arith, eight))
accepted-by scene answers.NoMemory v is between eight = absurd (omega (arith, eight))

done-by : (a : Answer) → Between a → number_of a ≡ 0 → a ≡ answers.Done
done-by answers.Done between zero = refl
done-by answers.WriteFault between zero = absurd (omega (arith, zero))
done-by answers.Usage between zero = absurd (omega (arith, zero))
done-by answers.NoScene between zero = absurd (omega (arith, zero))
done-by (answers.Unjoined (joins.Missing part)) between zero = absurd (omega (arith, zero))
done-by (answers.Unjoined (joins.At part code)) between zero = let b = between tt in absurd (omega (arith, zero, b.0))
done-by (answers.Refused (refusals.Missing file)) between zero = absurd (omega (arith, zero))
done-by (answers.Refused (refusals.At file line code)) between zero = let b = between tt in absurd (omega (arith, zero, b.0))
done-by (answers.Refused refusals.ReadFault) between zero = absurd (omega (arith, zero))
done-by (answers.Refused refusals.NoMemory) between zero = absurd (omega (arith, zero))
done-by answers.NoMemory between zero = absurd (omega (arith, zero))

before-by : (a : Answer) → 2 ≤ number_of a → number_of a ≤ 7 → ComesBefore a
before-by answers.Done low high = absurd (omega (arith, low))
before-by answers.WriteFault low high = absurd (omega (arith, high))
before-by answers.NoMemory low high = absurd (omega (arith, high))
before-by answers.Usage low high = tt
before-by answers.NoScene low high = tt
before-by (answers.Unjoined cause) low high = tt
before-by (answers.Refused refusal) low high = tt

-- the lines of an answer are those of its status
refusal-lines : (scene : List ℕ) (v : Verdict) (n : ℕ) → n ≤ 6 → status_lines scene v n ≡ refusal_lines scene v
refusal-lines scene v n few = ap (λ b. cond b (refusal_lines scene v) (failure_lines n)) (lt-ltb n 7 (omega (arith, few)))

done-lines : (scene : List ℕ) (v : Verdict) → is_accepted v ≡ true → refusal_lines scene v ≡ []
done-lines scene (Accepted action s) is = refl
done-lines scene (Entries entries) is = refl
done-lines scene (Unjoined cause) is = absurd (cc is)
done-lines scene Usage is = absurd (cc is)
done-lines scene (Refused cause) is = absurd (cc is)

lines-by : (scene : List ℕ) (a : Answer) (v : Verdict) → IsOf scene a v → Between a → answer_lines scene a ≡ status_lines scene v (number_of a)
lines-by scene answers.Done v is between = sym (done-lines scene v is)
lines-by scene answers.WriteFault v is between = refl
lines-by scene answers.NoMemory v is between = refl
lines-by scene answers.Usage v is between = sym (ap (refusal_lines scene) is)
lines-by scene answers.NoScene v is between = sym (ap (refusal_lines scene) is)
lines-by scene (answers.Unjoined (joins.Missing part)) v is between = sym (ap (refusal_lines scene) is)
lines-by scene (answers.Unjoined (joins.At part code)) v is between =
    let b = between tt in sym (refusal-lines scene v (status_of_join_code code) (omega (arith, b.1)) ∙ ap (refusal_lines scene) is)
lines-by scene (answers.Refused (refusals.Missing file)) v is between = sym (ap (refusal_lines scene) is)
lines-by scene (answers.Refused (refusals.At file line code)) v is between =
    let b = between tt in sym (refusal-lines scene v (status_of_code code) (omega (arith, b.1)) ∙ ap (refusal_lines scene) is)
lines-by scene (answers.Refused refusals.ReadFault) v is between = refl
lines-by scene (answers.Refused refusals.NoMemory) v is between = refl

-- what is known of an answer's verdict is known of its status
failed-number : (a : Answer) → Fails a → (number_of a ≡ 7) ⊎ (number_of a ≡ 9)
failed-number (answers.Refused refusals.ReadFault) fails = inl refl
failed-number (answers.Refused refusals.NoMemory) fails = inr refl
failed-number answers.NoMemory fails = inr refl
failed-number (answers.Refused (refusals.Missing file)) fails = absurd fails
failed-number (answers.Refused (refusals.At file line code)) fails = absurd fails
failed-number (answers.Unjoined cause) fails = absurd fails
failed-number answers.Done fails = absurd fails
failed-number answers.Usage fails = absurd fails
failed-number answers.NoScene fails = absurd fails
failed-number answers.WriteFault fails = absurd fails

abbrev KnownBy : Option Command → ℕ → Verdict → Files → Type 0
KnownBy command status v files = IsVerdict command files v ⊎ (IsNone command v × ((status ≡ 7) ⊎ (status ≡ 9)))

known-by : (command : Option Command) (held : Option Files) (a : Answer) (v : Verdict) → Told held (λ files. Knows command a files v) → Told held (λ files. KnownBy command (number_of a) v files)
known-by command None a v h = tt
known-by command (Some files) a v (inl is) = inl is
known-by command (Some files) a v (inr none) = inr (none.0, failed-number a none.1)

known-nine : (command : Option Command) (held : Option Files) (a : Answer) (v : Verdict) → Told held (λ files. Knows command a files v) → Told held (λ files. KnownBy command 9 v files)
known-nine command None a v h = tt
known-nine command (Some files) a v (inl is) = inl is
known-nine command (Some files) a v (inr none) = inr (none.0, inr refl)

-- so is what its command can have
abbrev OwnBy : Option Command → ℕ → Verdict → Type 0
OwnBy command status v = IsOfKind command v ⊎ (IsNone command v × ((status ≡ 7) ⊎ (status ≡ 9)))

own-by : (command : Option Command) (a : Answer) (v : Verdict) → IsOwn command a v → OwnBy command (number_of a) v
own-by command a v (inl is) = inl is
own-by command a v (inr none) = inr (none.0, failed-number a none.1)

own-nine : (command : Option Command) (a : Answer) (v : Verdict) → IsOwn command a v → OwnBy command 9 v
own-nine command a v (inl is) = inl is
own-nine command a v (inr none) = inr (none.0, inr refl)

-- the course of a run, its line of the status told too
course-told : (words : List (List ℕ)) (held : Option Files) (a : Answer) (x y : Option (List Written)) (lines mid after : Option (List (List ℕ))) (m k n : ℕ)
    → Between a → Obeys (command_of words) held a x y lines mid m k → Says (answer_lines (scene_of (command_of words)) a) mid after k n
    → Course words held (number_of a) x y lines after m n
course-told words held a x y lines mid after m k n between o said = record {
  verdict_of_run = o.verdict;
  known = known-by (command_of words) held a o.verdict o.known;
  own = own-by (command_of words) a o.verdict o.own;
  answers = λ few. caused (scene_of (command_of words)) a o.verdict o.is_of few;
  accepted = λ eight. accepted-by (scene_of (command_of words)) a o.verdict o.is_of between eight;
  ended = o.ended;
  ends = o.ends;
  all = λ zero. o.all (done-by a between zero);
  none = λ low high. o.none (before-by a low high);
  unjoined = λ joins some. o.unjoined joins (λ done. some (ap number_of done));
  told = o.told;
  behind = ⊎_elim (λ (e : o.told ≡ o.ended). inl e) (λ (w : (a ≡ answers.NoMemory) × (o.told + 1 ≡ o.ended)). inr (ap number_of w.0, w.1)) o.behind;
  says = says-more (summaries_of (command_of words) o.verdict o.told) (status_lines (scene_of (command_of words)) o.verdict (number_of a)) lines mid after m k n o.says
      (subst (λ ls. Says ls mid after k n) (lines-by (scene_of (command_of words)) a o.verdict o.is_of between) said);
}

-- memory ran out for that line
course-untold : (words : List (List ℕ)) (held : Option Files) (a : Answer) (x y : Option (List Written)) (lines mid after : Option (List (List ℕ))) (m k n : ℕ)
    → Obeys (command_of words) held a x y lines mid m k → a ≢ answers.Done → Says (codes "no memory\n" ∷ []) mid after k n → Course words held 9 x y lines after m n
course-untold words held a x y lines mid after m k n o undone said = record {
  verdict_of_run = o.verdict;
  known = known-nine (command_of words) held a o.verdict o.known;
  own = own-nine (command_of words) a o.verdict o.own;
  answers = λ few. absurd (omega (arith, few));
  accepted = λ eight. absurd (omega (arith, eight));
  ended = o.ended;
  ends = o.ends;
  all = λ zero. absurd (omega (arith, zero));
  none = λ low high. absurd (omega (arith, high));
  unjoined = λ joins some. o.unjoined joins undone;
  told = o.told;
  behind = ⊎_elim (λ (e : o.told ≡ o.ended). inl e) (λ (w : (a ≡ answers.NoMemory) × (o.told + 1 ≡ o.ended)). inr (refl, w.1)) o.behind;
  says = says-more (summaries_of (command_of words) o.verdict o.told) (codes "no memory\n" ∷ []) lines mid after m k n o.says said;
}

-- no scene's name stands in the line of an answer without memory
named-lines : (scene name : List ℕ) (a : Answer) → (a ≢ answers.NoMemory → name ≡ scene) → answer_lines name a ≡ answer_lines scene a
named-lines scene name answers.NoMemory named = refl
named-lines scene name answers.Done named = refl
named-lines scene name answers.WriteFault named = refl
named-lines scene name answers.Usage named = refl
named-lines scene name answers.NoScene named = ap (λ s. answer_lines s answers.NoScene) (named (λ e. cc e))
named-lines scene name (answers.Unjoined cause) named = ap (λ s. answer_lines s (answers.Unjoined cause)) (named (λ e. cc e))
named-lines scene name (answers.Refused r) named = ap (λ s. answer_lines s (answers.Refused r)) (named (λ e. cc e))

pub course : (words : List (List ℕ)) (held : Option Files) (a : Answer) (name : List ℕ) (note : Result (Option (String Global)) NoMemoryError) (status : ℕ)
    (x y : Option (List Written)) (lines mid after : Option (List (List ℕ))) (m k n : ℕ)
    → Obeys (command_of words) held a x y lines mid m k → (a ≢ answers.NoMemory → name ≡ scene_of (command_of words))
    → IfOk note (λ t. lines_in (option_map string_bytes t) ≡ answer_lines name a) → OnErr note (a ≢ answers.Done) → OnOk note (status ≡ number_of a) → OnErr note (status ≡ 9)
    → (IsFaultAt a → OnOk note ((3 ≤ status) × (status ≤ 5))) → Says (note_lines note) mid after k n → Course words held status x y lines after m n
course words held a name (Ok t) status x y lines mid after m k n o named made unmade told untold fault said =
    let scene = scene_of (command_of words) in
    let between : Between a = λ at. subst (λ s. (3 ≤ s) × (s ≤ 5)) told (fault at) in
    subst (λ s. Course words held s x y lines after m n) (sym told)
    (course-told words held a x y lines mid after m k n between o
    (subst (λ ls. Says ls mid after k n) (made ∙ named-lines scene name a named) said))
course words held a name (Err e) status x y lines mid after m k n o named made unmade told untold fault said =
    subst (λ s. Course words held s x y lines after m n) (sym untold) (course-untold words held a x y lines mid after m k n o unmade said)

-- a run that answers 0 or 8 has an accepted verdict
abbrev AcceptedIs : Option Command → Files → Type 0
AcceptedIs command files = (v : Verdict) × IsVerdict command files v × (is_accepted v ≡ true)

settled : (a : Answer) (note : Result (Option (String Global)) NoMemoryError) (status : ℕ) → OnOk note (status ≡ number_of a) → OnErr note (status ≡ 9)
    → (IsFaultAt a → OnOk note ((3 ≤ status) × (status ≤ 5))) → (status ≡ 9) ⊎ ((status ≡ number_of a) × Between a)
settled a (Ok t) status told untold fault = inr (told, λ at. subst (λ s. (3 ≤ s) × (s ≤ 5)) told (fault at))
settled a (Err e) status told untold fault = inl untold

done-told : (command : Option Command) (held : Option Files) (a : Answer) (v : Verdict) → a ≡ answers.Done → IsOf (scene_of command) a v → Told held (λ files. Knows command a files v) → Told held (λ files. AcceptedIs command files)
done-told command None a v done is knows = tt
done-told command (Some files) a v done is (inl of) = (v, of, subst (λ b. IsOf (scene_of command) b v) done is)
done-told command (Some files) a v done is (inr none) = let fails : Fails answers.Done = subst (λ b. Fails b) done none.1 in absurd fails

pub accepted-told : (words : List (List ℕ)) (held : Option Files) (a : Answer) (note : Result (Option (String Global)) NoMemoryError) (status : ℕ) (x y : Option (List Written)) (lines mid : Option (List (List ℕ))) (m k : ℕ)
    → Obeys (command_of words) held a x y lines mid m k → OnOk note (status ≡ number_of a) → OnErr note (status ≡ 9) → (IsFaultAt a → OnOk note ((3 ≤ status) × (status ≤ 5)))
    → status ≡ 0 → Told held (λ files. AcceptedIs (command_of words) files)
accepted-told words held a note status x y lines mid m k o told untold fault zero =
    ⊎_elim
    (λ (e : status ≡ 9). absurd (omega (arith, zero, e)))
    (λ (s : (status ≡ number_of a) × Between a). done-told (command_of words) held a o.verdict (done-by a s.1 (let n = s.0 in omega (arith, zero, n))) o.is_of o.known)
    (settled a note status told untold fault)

-- what the course of a run says of its verdict
pub course-status : (words : List (List ℕ)) (held : Option Files) (status : ℕ) (x y : Option (List Written)) (lines after : Option (List (List ℕ))) (m n : ℕ) → Course words held status x y lines after m n
    → status ≤ 6 → Told held (λ files. (v : Verdict) × IsVerdict (command_of words) files v × (status_of v ≡ status))
course-status words None status x y lines after m n c few = tt
course-status words (Some files) status x y lines after m n c few =
    ⊎_elim
    (λ (is : IsVerdict (command_of words) files c.verdict_of_run). (c.verdict_of_run, is, c.answers few))
    (λ (none : IsNone (command_of words) c.verdict_of_run × ((status ≡ 7) ⊎ (status ≡ 9))). absurd (failed_high none.1))
    c.known
  where
    failed_high : (status ≡ 7) ⊎ (status ≡ 9) → ⊥
    failed_high (inl e) = omega (arith, e, few)
    failed_high (inr e) = omega (arith, e, few)

pub course-written : (words : List (List ℕ)) (held : Option Files) (status : ℕ) (x y : Option (List Written)) (lines after : Option (List (List ℕ))) (m n : ℕ) → Course words held status x y lines after m n
    → status ≡ 8 → Told held (λ files. AcceptedIs (command_of words) files)
course-written words None status x y lines after m n c eight = tt
course-written words (Some files) status x y lines after m n c eight =
    ⊎_elim
    (λ (is : IsVerdict (command_of words) files c.verdict_of_run). (c.verdict_of_run, is, c.accepted eight))
    (λ (none : IsNone (command_of words) c.verdict_of_run × ((status ≡ 7) ⊎ (status ≡ 9))). absurd (failed_other none.1))
    c.known
  where
    failed_other : (status ≡ 7) ⊎ (status ≡ 9) → ⊥
    failed_other (inl e) = omega (arith, e, eight)
    failed_other (inr e) = omega (arith, e, eight)

pub course-done : (words : List (List ℕ)) (held : Option Files) (status : ℕ) (x y : Option (List Written)) (lines after : Option (List (List ℕ))) (m n : ℕ) → Course words held status x y lines after m n
    → status ≡ 0 → Told held (λ files. (v : Verdict) × IsVerdict (command_of words) files v × Adds (map whole (pictures_of v)) x y)
course-done words None status x y lines after m n c zero = tt
course-done words (Some files) status x y lines after m n c zero =
    ⊎_elim
    (λ (is : IsVerdict (command_of words) files c.verdict_of_run). (c.verdict_of_run, is, whole-ends c.ended (pictures_of c.verdict_of_run) x y (c.all zero) c.ends))
    (λ (none : IsNone (command_of words) c.verdict_of_run × ((status ≡ 7) ⊎ (status ≡ 9))). absurd (failed_other none.1))
    c.known
  where
    failed_other : (status ≡ 7) ⊎ (status ≡ 9) → ⊥
    failed_other (inl e) = omega (arith, e, zero)
    failed_other (inr e) = omega (arith, e, zero)
